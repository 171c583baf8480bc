-- The code's functions on lists; and what is promised of a run that passes refusals 1 to 5 and 13.
use Rattle.std.specs.Prelude.{ℕ, ◌≡◌, cond, List, eqb, ltb, length, Option, Some, None}
use Rattle.outcomes.specs.declared.Outcome.{Outcome}
use Rattle.outcomes.specs.declared.Outcome.TheVariants.{Proved, No, Spent}
use Rattle.outcomes.specs.declared.Request.{Request}
use Rattle.outcomes.specs.declared.Run.{Run}
use Rattle.outcomes.specs.declared.refusals.Reason.{Reason}
use Rattle.outcomes.specs.declared.refusals.Reason.TheVariants.{SheetTooLong, TableTooShort, Budget, WorkTooShort, Proofs}
use Rattle.outcomes.specs.Outcomes.{refused_run}
use Rattle.sheet_format.specs.Limits.{max_sheet_bytes, table_numbers, max_budget, max_proofs}
use Rattle.sheet_format.specs.Buffers.{demanded}
use Rattle.sheet_format.specs.Sheets.{read_sheet}
use Rattle.machine.specs.Records.{Made, proved_mode, no_mode}
use Rattle.printing.specs.Writer.{write_proof, write_no, write_spent}
use Rattle.engine_spec.specs.EngineRun.{run_sheet, answer_after}
use Rattle.engine_spec.specs.Promises.{handed_back}
use Rattle.engine_spec.specs.Handed.{asked, handed}

-- Refusals 1, 2, 3, 13 and 5: the first that arises, or none. The sheet's length, what is asked for, the lengths of table and work buffer.
unfoldable pub ask_refusal : ℕ → ℕ → Option Reason
ask_refusal budget proofs =
    cond (eqb budget 0) (Some Budget)
    (cond (ltb max_budget budget) (Some Budget) (cond (eqb proofs 0) (Some Proofs) (cond (ltb max_proofs proofs) (Some Proofs) None)))

unfoldable pub run_refusal : ℕ → Request → ℕ → ℕ → Option Reason
run_refusal sheet ask table work =
    cond (ltb max_sheet_bytes sheet) (Some SheetTooLong)
    (cond (ltb table table_numbers) (Some TableTooShort)
    (elim (ask_refusal ask.budget ask.proofs) [
      | Some reason ↦ Some reason
      | None ↦ cond (ltb work (demanded ask.budget)) (Some WorkTooShort) None
    ]))

-- The answer, or refusal 12 where the text does not fit.
unfoldable pub reported : Outcome → ℕ → ℕ → Option ℕ → Run
reported outcome units proofs (Some n) = record { outcome = outcome; units = units; proofs = proofs; length = n }
reported outcome units proofs None = refused_run 12 0

-- The answer buffer and what is handed back.
pub record Reply : Type 0 where
  pub buffer : List ℕ
  pub run : Run

-- A buffer and a run make a record.
abbrev pub reply : List ℕ → Run → Reply
reply out r = record { buffer = out; run = r }

-- What is told and written of what the machine came to, where one proof is asked for.
unfoldable pub report_outcome : List ℕ → List ℕ → ℕ → ℕ → Made → List ℕ → Reply
report_outcome sheet t goal budget m out =
    let acts = m.registers.acts in
    let p = write_proof sheet t goal m acts out in
    let n = write_no acts out in
    let s = write_spent budget out in
    cond (eqb m.registers.mode proved_mode) (reply p.buffer (reported Proved acts 1 p.length))
    (cond (eqb m.registers.mode no_mode) (reply n.buffer (reported No acts 0 n.length))
    (reply s.buffer (reported Spent budget 0 s.length)))

-- Past refusals 1 to 5 and 13: what is handed back, and what the answer buffer then holds.
pub record Answering (bytes : List ℕ) (ask : Request) (answer answer' : List ℕ) (r : Run) : Type 0 where
  pub value : handed r ≡ handed_back (run_sheet (asked ask) (length answer) (read_sheet bytes))
  pub answer_end : answer' ≡ answer_after (run_sheet (asked ask) (length answer) (read_sheet bytes)) answer
