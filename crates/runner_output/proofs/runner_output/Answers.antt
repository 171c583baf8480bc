use Prim.Native.Nat.{ℕ}
use native.Mathlib.Omega.{arith}
use mathlib.Core.Path.{◌≡◌, refl, sym, ◌∙◌}
use lib.ListN.{length, replicate, length-replicate}
use Rattle.outcomes.specs.declared.Refusal.{Refusal}
use Rattle.outcomes.specs.declared.Outcome.{Outcome}
use Rattle.outcomes.specs.declared.Outcome.TheVariants.{Proved, No, Spent, Refused}
use Rattle.outcomes.specs.Outcomes.{outcome_code}
use Rattle.engine_spec.specs.Handed.{asked}
use Rattle.line_writer.proofs.Laws.{fits}
use Rattle.runner_output.proofs.Laws.{refused_printed, answered_printed}
use Rattle.runner_output.proofs.runner_output.Goals as goal

zeros : (n : ℕ) → length {A = ℕ} (replicate n 0) ≡ n
zeros n = length-replicate {A = ℕ} n 0

-- An outcome that is no refusal has another number.
not_refused : (o : Outcome) → ((f : Refusal) → o ≡ Refused f → ⊥) → outcome_code o ≡ 3 → ⊥
unfolding outcome_code
not_refused Proved h e = omega arith
not_refused No h e = omega arith
not_refused Spent h e = omega arith
not_refused (Refused f) h e = h f refl

pub returns-in-Refused : goal.returns-in-Refused
unfolding asked
returns-in-Refused c = record {
  fits = fits _ _ (omega (arith, c.put_refusal.ensures.0, c.put_refusal.auto, c.run-r.auto, c.run-arg-1.given.0.1));
  out_after = c.put_refusal.ensures.1
      ∙ refused_printed _ _ _ _ _ _ _ _ _ c.run-r.ensures (zeros 8192) (zeros 16384) c.run-arg-1.given.0.1 _
      c.in-Refused.is;
}

pub returns : goal.returns
unfolding asked
returns c =
    let p = answered_printed _ _ _ _ _ _ _ _ _ c.run-r.ensures (zeros 8192) (zeros 16384) c.run-arg-1.given.0.1 _
    c.widen-length.ensures.0 (not_refused _ c.in_default.not-Refused) in
    record { fits = fits _ _ (omega (arith, p.0, c.run-r.auto, c.run-arg-1.given.0.1)); out_after = p.1 }

pub slice_bounds-run-end : goal.slice_bounds-run-end
slice_bounds-run-end c =
    sym (zeros 8192)

pub slice_bounds-run-end-2 : goal.slice_bounds-run-end-2
slice_bounds-run-end-2 c =
    sym (zeros 16384)
