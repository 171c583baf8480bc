-- What is printed of a run, from the engine's contract.
use Prim.Native.Nat.{ℕ, ◌≤◌}
use native.Mathlib.Omega.{arith}
use mathlib.Core.Path.{◌≡◌, refl, sym, ap, ap₂, ◌∙◌, subst}
use mathlib.Core.List.{List}
use lib.ListN.{length, take}
use Rattle.sheet_format.specs.Limits.{table_numbers}
use Rattle.outcomes.specs.declared.Refusal.{Refusal}
use Rattle.outcomes.specs.declared.Outcome.TheVariants.{Refused}
use Rattle.outcomes.specs.declared.Run.{Run}
use Rattle.outcomes.specs.Outcomes.{outcome_code, refusal_number, refusal_line as line_of}
use Rattle.engine_spec.specs.EngineRun.{Reported, reported_proved, reported_no, reported_spent, Result, answered, turned_back}
use Rattle.engine_spec.specs.EngineRun.{engine_run, answer_after}
use Rattle.engine_spec.specs.Promises.{handed_back, outcome_number, RunContract}
use Rattle.engine_spec.specs.Handed.{handed}
use Rattle.engine_spec.proofs.Buffers.{take_front}
use Rattle.engine_spec.proofs.Promises.{callers_told}
use Rattle.line_writer.specs.RefusalLine.{refusal_line}
use Rattle.runner_output.specs.RunnerOutput.{units, work_numbers, answer_bytes, printed, runner_output}

told_outcome_lem : (o : Reported) → outcome_number o ≤ 2
unfolding outcome_number
told_outcome_lem reported_proved = omega arith
told_outcome_lem reported_no = omega arith
told_outcome_lem reported_spent = omega arith

-- A run that hands back a refusal is turned back with it.
refused_result : (e : Result) (r : Run) (f : Refusal) → r.outcome ≡ Refused f → handed r ≡ handed_back e
    → refusal_line f.number f.line ≡ printed e
unfolding printed handed handed_back outcome_code refusal_number line_of
refused_result (answered a) r f o v =
    let n : 3 ≡ outcome_number a.outcome = sym (ap outcome_code o) ∙ ap (λ h. h.outcome) v in
    let l = told_outcome_lem a.outcome in absurd (omega arith)
refused_result (turned_back q) r f o v =
    ap₂ refusal_line (sym (ap refusal_number o) ∙ ap (λ h. h.number) v) (sym (ap line_of o) ∙ ap (λ h. h.line) v)

-- A run that hands back an outcome has written its text.
answered_result : (e : Result) (r : Run) (answer answer' : List ℕ) → (outcome_code r.outcome ≡ 3 → ⊥) → handed r ≡ handed_back e
    → answer' ≡ answer_after e answer → take r.length answer' ≡ printed e
unfolding printed handed handed_back answer_after
answered_result (answered a) r answer answer' n v e = rw (ap (λ h. h.length) v, e) (take_front a.text _)
answered_result (turned_back q) r answer answer' n v e = absurd (n (ap (λ h. h.outcome) v))

module _ (bytes : List ℕ) (proofs : ℕ) (table work answer table' work' answer' : List ℕ) (r : Run)
    (c : RunContract bytes (record { budget = units; proofs = proofs }) table work answer table' work' answer' (handed r))
    (lt : length table ≡ table_numbers) (lw : length work ≡ work_numbers) (la : length answer ≡ answer_bytes) where
  result : Result
  result = engine_run bytes (record { budget = units; proofs = proofs }) (length table) (length work) (length answer)

  same_result : printed result ≡ runner_output bytes proofs
  unfolding runner_output result
  same_result = rw (lt, lw, la)

  pub refused_printed : (f : Refusal) → r.outcome ≡ Refused f → refusal_line f.number f.line ≡ runner_output bytes proofs
  unfolding result
  refused_printed f o = refused_result result r f o c.value ∙ same_result

  pub answered_printed : (k : ℕ) → k ≡ r.length → (outcome_code r.outcome ≡ 3 → ⊥)
      → (k ≤ answer_bytes) × (take k answer' ≡ runner_output bytes proofs)
  unfolding result handed
  answered_printed k e n =
      let f = (callers_told _ _ _ _ _ _ _ _ _ c).fits in
      (omega (arith, f, la, e), rw e (answered_result result r answer answer' n c.value c.answer_end ∙ same_result))
