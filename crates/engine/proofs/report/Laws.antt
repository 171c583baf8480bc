-- One law for each way through a function; the hypotheses are the facts on the code's path.
use Prim.Native.Nat.{ℕ}
use mathlib.Core.Path.{◌≡◌}
use mathlib.Core.List.{List}
use borrow.Author.Tests.{eq-eqb, ne_eqb}
use Rattle.outcomes.specs.declared.Outcome.TheVariants.{Proved, No, Spent}
use Rattle.outcomes.specs.declared.Run.{Run}
use Rattle.machine.specs.declared.Registers.{Registers}
use Rattle.machine.specs.Records.{made, proved_mode, no_mode}
use Rattle.std.specs.Prelude.{Option}
use Rattle.printing.specs.Writer.{fitted, answered, write_proof, write_no, write_spent}
use Rattle.engine.specs.Answering.{reported, reply, report_outcome}

-- What is told of the machine's mode.
module _ (sheet t : List ℕ) (goal budget : ℕ) (w : List ℕ) (r : Registers) (out out' : List ℕ) (n : Option ℕ) (e : Run) where
  pub report_proved : (w' : List ℕ) → r.mode ≡ proved_mode → answered w' out' n ≡ write_proof sheet t goal (made w r) r.acts out
      → e ≡ reported Proved r.acts 1 n → reply out' e ≡ report_outcome sheet t goal budget (made w r) out
  unfolding report_outcome
  report_proved w' h q d = rw d (simp (report_outcome, ← q, eq-eqb _ _ h))

  pub report_no : (r.mode ≡ proved_mode → ⊥) → r.mode ≡ no_mode → fitted out' n ≡ write_no r.acts out → e ≡ reported No r.acts 0 n
      → reply out' e ≡ report_outcome sheet t goal budget (made w r) out
  unfolding report_outcome
  report_no k h q d = rw d (simp (report_outcome, ← q, ne_eqb _ _ k, eq-eqb _ _ h))

  pub report_spent : (r.mode ≡ proved_mode → ⊥) → (r.mode ≡ no_mode → ⊥) → fitted out' n ≡ write_spent budget out
      → e ≡ reported Spent budget 0 n → reply out' e ≡ report_outcome sheet t goal budget (made w r) out
  unfolding report_outcome
  report_spent k h q d = rw d (simp (report_outcome, ← q, ne_eqb _ _ k, ne_eqb _ _ h))
