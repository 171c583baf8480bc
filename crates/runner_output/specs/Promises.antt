-- What the sheet runner's reading must keep, and what its number of proofs leaves as it was.
use Rattle.std.specs.Prelude.{ℕ, ◌≤◌, ◌<◌, ◌≡◌, List, ◌⊎◌, length, take}
use Rattle.sheet_format.specs.Limits.{max_sheet_bytes, table_numbers, max_proofs}
use Rattle.engine_spec.specs.OneProof.{first_run}
use Rattle.line_writer.specs.RefusalLine.{refusal_line}
use Rattle.runner_output.specs.RunnerOutput.{units, work_numbers, answer_bytes, printed, runner_output}

-- A reader that stops after more than 16,384 bytes prints the same as for the whole sheet: refusal 1 arises from both.
abbrev pub FrontSuffices : Type 0
FrontSuffices = (bytes : List ℕ) (proofs n : ℕ) → max_sheet_bytes < n → runner_output (take n bytes) proofs ≡ runner_output bytes proofs

-- Request W-202: with number 1 the runner prints what it printed before, of the run that stops at the first proof.
abbrev pub PrintsAsBefore : Type 0
PrintsAsBefore = (bytes : List ℕ) → runner_output bytes 1 ≡ printed (first_run bytes units table_numbers work_numbers answer_bytes)

-- "13 if the number is 0 or over 64 ... with line 0": of every sheet that is not refused with 1.
abbrev pub RefusesNumbers : Type 0
RefusesNumbers =
    (bytes : List ℕ) (proofs : ℕ) → length bytes ≤ max_sheet_bytes → (proofs ≡ 0) ⊎ (max_proofs < proofs)
    → runner_output bytes proofs ≡ refusal_line 13 0
