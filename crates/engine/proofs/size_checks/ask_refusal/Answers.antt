use borrow.Author.Tests.{lt-ltb, le-ltb, eq-eqb, ne_eqb}
use Rattle.engine.specs.Answering.{ask_refusal}
use Rattle.engine.proofs.size_checks.ask_refusal.Goals as goal

pub returns-then-budget-eq0 : goal.returns-then-budget-eq0
unfolding ask_refusal
returns-then-budget-eq0 c = simp (ask_refusal, eq-eqb _ _ c.if-budget-eq0.true)

pub returns-then-budget-gt-MAX_BUDGET : goal.returns-then-budget-gt-MAX_BUDGET
unfolding ask_refusal
returns-then-budget-gt-MAX_BUDGET c = simp (ask_refusal, lt-ltb _ _ c.if-budget-gt-MAX_BUDGET.true, ne_eqb _ _ c.if-budget-eq0.false)

pub returns-then-proofs-eq0 : goal.returns-then-proofs-eq0
unfolding ask_refusal
returns-then-proofs-eq0 c = simp (ask_refusal, eq-eqb _ _ c.if-proofs-eq0.true, ne_eqb _ _ c.if-budget-eq0.false, le-ltb _ _ c.if-budget-gt-MAX_BUDGET.false)

pub returns-then-proofs-gt-MAX_PROOFS : goal.returns-then-proofs-gt-MAX_PROOFS
unfolding ask_refusal
returns-then-proofs-gt-MAX_PROOFS c =
    simp (
      ask_refusal,
      lt-ltb _ _ c.if-proofs-gt-MAX_PROOFS.true,
      ne_eqb _ _ c.if-budget-eq0.false,
      le-ltb _ _ c.if-budget-gt-MAX_BUDGET.false,
      ne_eqb _ _ c.if-proofs-eq0.false,
    )

pub returns : goal.returns
unfolding ask_refusal
returns c =
    simp (
      ask_refusal,
      le-ltb _ _ c.if-proofs-gt-MAX_PROOFS.false,
      ne_eqb _ _ c.if-budget-eq0.false,
      le-ltb _ _ c.if-budget-gt-MAX_BUDGET.false,
      ne_eqb _ _ c.if-proofs-eq0.false,
    )
