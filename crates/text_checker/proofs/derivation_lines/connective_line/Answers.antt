use Rattle.text_checker.proofs.derivation_lines.Laws.{and_due, or_due, assume_due, quantifier_due}
use Rattle.text_checker.proofs.derivation_lines.connective_line.Goals as goal

pub returns-then-sort-eq-AND : goal.returns-then-sort-eq-AND
returns-then-sort-eq-AND c =
    and_due _ _ _ _ _ _ _ _ _ _ _ c.kind-sort.ensures _ c.if-sort-eq-AND.true c.and_line.ensures

pub returns-then-sort-eq-OR : goal.returns-then-sort-eq-OR
returns-then-sort-eq-OR c =
    or_due _ _ _ _ _ _ _ _ _ _ _ c.kind-sort.ensures _ c.if-sort-eq-AND.false c.if-sort-eq-OR.true
    (c.or_line.ensures _)

pub returns-then-sort-eq-IMPLIES : goal.returns-then-sort-eq-IMPLIES
returns-then-sort-eq-IMPLIES c =
    assume_due _ _ _ _ _ _ _ _ _ _ _ c.kind-sort.ensures _ c.if-sort-eq-AND.false c.if-sort-eq-OR.false c.if-sort-eq-IMPLIES.true
    c.assume_line.ensures

pub returns : goal.returns
returns c =
    quantifier_due _ _ _ _ _ _ _ _ _ _ _ c.kind-sort.ensures _ c.if-sort-eq-AND.false c.if-sort-eq-OR.false c.if-sort-eq-IMPLIES.false
    c.quantifier_line.ensures
