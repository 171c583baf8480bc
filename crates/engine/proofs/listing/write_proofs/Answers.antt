use native.Mathlib.Omega.{arith}
use mathlib.Core.Path.{refl, sym, ◌∙◌}
use Rattle.engine.proofs.listing.Laws.{proofs_ended, proofs_last, proofs_long, proofs_more}
use borrow.Author.Rules.{rules}
use Rattle.engine.proofs.listing.write_proofs.Goals as goal

pub loop-registers-init : goal.loop-registers-init
loop-registers-init c =
    (refl, refl, c.requires.1, omega arith, refl)

pub overflow_sub-left : goal.overflow_sub-left
overflow_sub-left c = c.loop-registers.invariant.2

pub returns-then-left-eq0 : goal.returns-then-left-eq0
returns-then-left-eq0 c =
    let inv = c.loop-registers.invariant in
    let few = inv.3 in record {
      result_after = sym (inv.4 ∙ proofs_last _ _ _ _ _ _ _ _ _ _ _ c.loop-registers-test.true c.append_proof-at.ensures _ inv.2 c.if-left-eq0.true);
      left_le_proofs = omega arith;
    }

pub returns-then-limit-at : goal.returns-then-limit-at
returns-then-limit-at c =
    let inv = c.loop-registers.invariant in
    let few = inv.3 in record {
      result_after = sym (inv.4 ∙ proofs_long _ _ _ _ _ _ _ _ _ _ _ c.loop-registers-test.true c.append_proof-at.ensures _ inv.2 c.if-limit-at.true);
      left_le_proofs = omega arith;
    }

pub loop-registers-preserved : goal.loop-registers-preserved
loop-registers-preserved c =
    let inv = c.loop-registers.invariant in
    let few = inv.3 in
    let some = c.if-left-eq0.false in (
      search rules,
      search rules,
      omega arith,
      omega arith,
      inv.4 ∙ proofs_more _ _ _ _ _ _ _ _ _ _ _ c.loop-registers-test.true c.append_proof-at.ensures _ _ _ inv.2 c.if-left-eq0.false
          c.if-limit-at.false c.go_on-registers.ensures,
    )

pub returns : goal.returns
returns c =
    let inv = c.loop-registers.invariant in
    record { result_after = sym (inv.4 ∙ proofs_ended _ _ _ _ _ _ _ _ _ inv.2 c.loop-registers-test.false); left_le_proofs = inv.3 }
