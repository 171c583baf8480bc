use mathlib.Core.Path.{sym, ◌∙◌}
use Rattle.checker_state.proofs.starts.Laws.{sheet_start, sheet_end, sheet_on}
use borrow.Author.Rules.{rules}
use Rattle.checker_state.proofs.starts.sheet_members.Goals as goal

pub loop-i-init : goal.loop-i-init
loop-i-init c = (search rules, search rules, sheet_start _ _)

pub overflow_add-total : goal.overflow_add-total
overflow_add-total c =
    let bound = c.loop-i.invariant.1 in
    let count = c.members.ensures.1 in
    search rules

pub loop-i-preserved : goal.loop-i-preserved
loop-i-preserved c =
    let bound = c.loop-i.invariant.1 in
    let count = c.members.ensures.1 in (
      search rules,
      search rules,
      c.loop-i.invariant.2
          ∙ sheet_on _ _ _ _ _ _ _ c.loop-i-test.true c.clause_node.ensures
          c.members.ensures.0 c.widen-total.ensures.0,
    )

pub returns : goal.returns
returns c = sym (c.loop-i.invariant.2 ∙ sheet_end _ _ _ _ c.loop-i-test.false)
