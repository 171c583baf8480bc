-- A reader that stops after more than 16,384 bytes, the number 1, and numbers that are refused.
use Prim.Native.Nat.{ℕ, ◌≤◌, ◌<◌}
use native.Mathlib.Omega.{arith}
use mathlib.Core.Path.{◌≡◌, refl, sym, ap, ◌∙◌}
use mathlib.Core.Bool.{Bool, true, false, ◌||◌}
use mathlib.Core.List.{List}
use mathlib.Core.Logic.{◌⊎◌, inl, inr}
use lib.Dec.{eqb, leb, ltb}
use lib.ListN.{length, take}
use lib.Seq.{take_all, length-take-le}
use borrow.Author.Tests.{leb-true, leb-false, lt-ltb, le-ltb, eq-eqb, ne_eqb}
use Rattle.sheet_format.specs.Limits.{max_sheet_bytes, table_numbers, max_proofs}
use Rattle.sheet_format.specs.Sheets.{refusal, turn_back_if}
use Rattle.engine_spec.specs.EngineRun.{turned_back, engine_run, engine_run_by}
use Rattle.engine_spec.proofs.OneProof.{runs_once}
use Rattle.runner_output.specs.RunnerOutput.{units, work_numbers, answer_bytes, printed, runner_output}
use Rattle.runner_output.specs.Promises.{FrontSuffices, PrintsAsBefore, RefusesNumbers}

over : (bytes : List ℕ) (proofs : ℕ) → max_sheet_bytes < length bytes → runner_output bytes proofs ≡ printed (turned_back (refusal 1 0))
unfolding runner_output engine_run engine_run_by turn_back_if
over bytes proofs h = rw (lt-ltb max_sheet_bytes (length bytes) h)

pub front_suffices : FrontSuffices
front_suffices bytes proofs n h = go (leb (length bytes) n) refl
  where
    go : (b : Bool) → leb (length bytes) n ≡ b → runner_output (take n bytes) proofs ≡ runner_output bytes proofs
    go true e = ap (λ (l : List ℕ). runner_output l proofs) (take_all n bytes (leb-true (length bytes) n e))
    go false e =
        let l = leb-false (length bytes) n e in
        let t = length-take-le n bytes (omega arith) in
        over (take n bytes) proofs (omega arith) ∙ sym (over bytes proofs (omega arith))

pub prints_as_before : PrintsAsBefore
unfolding runner_output
prints_as_before bytes = ap printed (runs_once bytes units table_numbers work_numbers answer_bytes)

-- The test of refusal 13.
not_permitted : (proofs : ℕ) → (proofs ≡ 0) ⊎ (max_proofs < proofs) → (eqb proofs 0 || ltb max_proofs proofs) ≡ true
not_permitted proofs (inl e) = rw (eq-eqb proofs 0 e)
not_permitted proofs (inr h) = rw (ne_eqb proofs 0 (λ e. omega arith), lt-ltb max_proofs proofs h)

pub refuses_numbers : RefusesNumbers
unfolding runner_output engine_run engine_run_by turn_back_if printed
refuses_numbers bytes proofs h k = rw (le-ltb max_sheet_bytes (length bytes) h, not_permitted proofs k)
