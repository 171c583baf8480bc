use Rattle.text_checker.proofs.derivation_lines.Laws.{clause_due, true_due, connective_due}
use Rattle.text_checker.proofs.derivation_lines.sequent_line.Goals as goal

pub returns-then-sort-eq-ATOM : goal.returns-then-sort-eq-ATOM
returns-then-sort-eq-ATOM c =
    clause_due _ _ _ _ _ _ _ _ _ _ _ c.kind-sort.ensures _ c.if-sort-eq-ATOM.true c.clause_line.ensures

pub returns-then-sort-eq-TRUE : goal.returns-then-sort-eq-TRUE
returns-then-sort-eq-TRUE c =
    true_due _ _ _ _ _ _ _ _ _ _ _ c.kind-sort.ensures _ c.if-sort-eq-ATOM.false c.if-sort-eq-TRUE.true
    c.true_line.ensures

pub returns : goal.returns
returns c =
    connective_due _ _ _ _ _ _ _ _ _ _ _ c.kind-sort.ensures _ c.if-sort-eq-ATOM.false c.if-sort-eq-TRUE.false
    c.connective_line.ensures
