use Rattle.text_checker.proofs.derivation_lines.Laws.{some_due, all_due}
use Rattle.text_checker.proofs.derivation_lines.quantifier_line.Goals as goal

pub returns-then-kind-eq-EXISTS : goal.returns-then-kind-eq-EXISTS
returns-then-kind-eq-EXISTS c =
    some_due _ _ _ _ _ _ _ _ _ _ _ c.kind.ensures c.if-kind-eq-EXISTS.true c.some_line.ensures

pub returns : goal.returns
returns c =
    all_due _ _ _ _ _ _ _ _ _ _ _ c.kind.ensures c.if-kind-eq-EXISTS.false c.all_line.ensures
