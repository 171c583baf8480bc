-- Request W-207 of the run: the bytes of a sheet, and the same bytes with the first line `O latest` in front; and other O lines.
use Rattle.std.specs.Prelude.{ℕ, ◌≤◌, ◌≡◌, List, ◌∷◌, ◌++◌, length}
use Prim.Native.Char.{code}
use Rattle.sheet_format.specs.Limits.{max_sheet_bytes, table_numbers, max_budget, max_proofs}
use Rattle.sheet_format.specs.Buffers.{demanded}
use Rattle.sheet_format.specs.Bytes.{lines_of}
use Rattle.sheet_format.specs.Sheets.{read_sheet}
use Rattle.sheet_format.specs.FormerOrder.{read_formerly, one_line_lower, with_order_line}
use Rattle.sheet_format.specs.OrderLines.{OtherOrderLine, order_line_refusal}
use Rattle.engine_spec.specs.EngineRun.{Request, Result, turned_back, engine_run_by, engine_run, table_after, work_after, answer_after}
use Rattle.engine_spec.specs.Promises.{HandedBack, handed_back, RunContract, told_outcome}

-- "No goal is told proved under one order and no under the other; a goal may be spent under one only": who is told proved or no on both
-- sheets is told the same, whatever is asked for and whatever the buffers of both runs.
abbrev pub OneOutcome : Type 0
OneOutcome =
    (bytes : List ℕ) (ask : Request) (table work answer table' work' answer' : List ℕ) (r : HandedBack) (ask₂ : Request)
    (table₂ work₂ answer₂ table₂' work₂' answer₂' : List ℕ) (r₂ : HandedBack)
    → RunContract bytes ask table work answer table' work' answer' r
    → RunContract (with_order_line bytes) ask₂ table₂ work₂ answer₂ table₂' work₂' answer₂' r₂
    → told_outcome r ≤ 1 → told_outcome r₂ ≤ 1 → told_outcome r ≡ told_outcome r₂

-- The run before this request: every sheet is in the former order. A refusal of a line tells the next line, since `O latest` counts as one.
unfoldable pub former_run : List ℕ → Request → ℕ → ℕ → ℕ → Result
former_run bytes ask tableLength workLength answerLength =
    engine_run_by (λ b. one_line_lower (read_formerly b)) bytes ask tableLength workLength answerLength

-- "A sheet that relied on the former order says so with a first line `O latest`": with this line the run is the former one,
abbrev pub RunsInFormerOrder : Type 0
RunsInFormerOrder = (bytes : List ℕ) → length (with_order_line bytes) ≤ max_sheet_bytes → (ask : Request) (t w a : ℕ)
    → engine_run (with_order_line bytes) ask t w a ≡ former_run bytes ask t w a

-- and so are what a caller is handed back and what each lent buffer then holds.
abbrev pub AnswersInFormerOrder : Type 0
AnswersInFormerOrder =
    (bytes : List ℕ) → length (with_order_line bytes) ≤ max_sheet_bytes
    → (ask : Request) (table work answer table' work' answer' : List ℕ) (r : HandedBack)
    → RunContract (with_order_line bytes) ask table work answer table' work' answer' r
    → let former = former_run bytes ask (length table) (length work) (length answer) in
    (r ≡ handed_back former) × (table' ≡ table_after former table) × (work' ≡ work_after former ask.budget work)
    × (answer' ≡ answer_after former answer)

-- "An O line elsewhere, or with another word, is refused under 6, after a Q line under 11": whatever stands before and after it, this
-- refusal is handed back, and the answer buffer stays, if refusals 1 to 5 and 13 do not arise.
abbrev pub OtherOrderLinesTurnedBack : Type 0
OtherOrderLinesTurnedBack =
    (before after : List ℕ) → OtherOrderLine before after
    → (ask : Request) (table work answer table' work' answer' : List ℕ) (r : HandedBack)
    → RunContract (before ++ (code "O" ∷ after)) ask table work answer table' work' answer' r
    → length (before ++ (code "O" ∷ after)) ≤ max_sheet_bytes → table_numbers ≤ length table → 1 ≤ ask.budget
    → ask.budget ≤ max_budget → 1 ≤ ask.proofs → ask.proofs ≤ max_proofs → demanded ask.budget ≤ length work
    → let told = turned_back (order_line_refusal (length (lines_of before).whole) (read_sheet before)) in
    (r ≡ handed_back told) × (table' ≡ table_after told table) × (work' ≡ work_after told ask.budget work) × (answer' ≡ answer)
