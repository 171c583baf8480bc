use Rattle.std.proofs.Common.{◌∙◌, refl, sym, arith, rules}
use Rattle.term_scanner.proofs.delimiters.Laws.{pushed_first, pushed_all, pushed_more, room_more}
use Rattle.term_scanner.proofs.delimiters.push_arguments.Goals as goal

pub loop-argument-init : goal.loop-argument-init
loop-argument-init c = (refl, c.requires.0, omega arith, let h = c.requires.1 in omega arith, pushed_first _ _ _)

pub push-r-requires : goal.push-r-requires
push-r-requires c =
    let inv = c.loop-argument.invariant in
    (inv.1, inv.2, let l = c.loop-argument-test.true in let h = inv.3 in omega arith)

pub loop-argument-preserved : goal.loop-argument-preserved
loop-argument-preserved c =
    let inv = c.loop-argument.invariant in (
      search rules,
      c.push-r.ensures.0,
      omega arith,
      room_more _ _ _ _ _ _ _ c.loop-argument-test.true inv.3 c.push-r.auto.lent c.push-r.ensures.1,
      inv.4 ∙ pushed_more _ _ _ _ _ c.loop-argument-test.true c.push-r.ensures.1,
    )

pub returns : goal.returns
returns c =
    let inv = c.loop-argument.invariant in
    (inv.1, sym (inv.4 ∙ pushed_all _ _ _ _ c.loop-argument-test.false))
