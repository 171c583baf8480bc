use mathlib.Core.Path.{ap, sym, ◌∙◌}
use Rattle.scanning.specs.Scanning.{Scan}
use Rattle.line_checking.specs.Clauses.{read}
use Rattle.line_rules.proofs.prefixes.Laws.{terms_end, terms_wrong, terms_on}
use borrow.Author.Rules.{rules}
use Rattle.line_rules.proofs.prefixes.prefix_from.Goals as goal

pub returns-in_err-j : goal.returns-in_err-j
returns-in_err-j c =
    ap (λ (o : Scan). read c.prefix_at.new.w o) c.from_residual.ensures
    ∙ sym (c.loop-turn.invariant.2 ∙ terms_wrong _ _ _ _ _ _ _ _ _ _ _ _ _ _ c.prefix_at.ensures c.loop-turn-test.true c.in_err-j.was)

pub loop-turn-preserved : goal.loop-turn-preserved
loop-turn-preserved c = (
  search rules,
  c.loop-turn.invariant.1,
  c.loop-turn.invariant.2
      ∙ terms_on _ _ _ _ _ _ _ _ _ _ _ _ _ _ c.prefix_at.ensures _ _ c.loop-turn-test.true c.in_ok-j.was,
)

pub returns : goal.returns
returns c = sym (c.loop-turn.invariant.2 ∙ terms_end _ _ _ _ _ _ _ _ _ _ _ _ c.loop-turn-test.false)
