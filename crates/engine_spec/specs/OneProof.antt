-- Request W-202, the run for one proof: "the walk goes on after each proof" only if more are asked for, so that with number 1 everything is
-- as before; and with any number the first thing told is what the run for one proof tells.
use Rattle.std.specs.Prelude.{ℕ, ◌≤◌, ◌≡◌, Bool, false, ◌||◌, cond, List, ◌++◌, eqb, leb, ltb, length, take}
use Rattle.search.specs.Search.{proved, no_proof, SearchOutcome, ends, spent, search}
use Rattle.sheet_format.specs.Limits.{max_sheet_bytes, table_numbers, max_budget}
use Rattle.sheet_format.specs.Buffers.{demanded, zeroed}
use Rattle.sheet_format.specs.Sheets.{Sheet, rules_of, turn_back_if, Read, sheet, refused, read_sheet}
use Rattle.answer_texts.specs.Spelling.{no_text, spent_text}
use Rattle.answer_texts.specs.Promises.{search_text}
use Rattle.engine_spec.specs.EngineRun.{Request, reported_proved, reported_no, reported_spent, Answer, Result, answered, turned_back}
use Rattle.engine_spec.specs.EngineRun.{fit, engine_run, answer_after}
use Rattle.engine_spec.specs.Promises.{HandedBack, handed_back, RunContract}

-- So many units, and one proof.
abbrev pub once_with : ℕ → Request
once_with budget = record { budget = budget; proofs = 1 }

-- The answer before this request: "`R`, outcome, units ... spent reports the budget".
unfoldable pub former_answer : Sheet → ℕ → SearchOutcome → Answer
former_answer s budget (ends (proved store path) n) =
    record { outcome = reported_proved; units = n; proofs = 1; text = search_text s store path n }
former_answer s budget (ends no_proof n) = record { outcome = reported_no; units = n; proofs = 0; text = no_text n }
former_answer s budget spent = record { outcome = reported_spent; units = budget; proofs = 0; text = spent_text budget }

-- The run before this request: refusals 6 to 11, then the search, which stops at the first proof;
unfoldable pub first_run_sheet : ℕ → ℕ → Read → Result
first_run_sheet budget answerLength (refused r) = turned_back r
first_run_sheet budget answerLength (sheet s) = fit answerLength (former_answer s budget (search budget (rules_of s) s.goal))

-- refusals 1, 2, 3 and 5 before these, and no 13.
unfoldable pub first_run : List ℕ → ℕ → ℕ → ℕ → ℕ → Result
first_run bytes budget tableLength workLength answerLength =
    turn_back_if turned_back (ltb max_sheet_bytes (length bytes)) 1
    (turn_back_if turned_back (ltb tableLength table_numbers) 2
    (turn_back_if turned_back (eqb budget 0 || ltb max_budget budget) 3
    (turn_back_if turned_back (ltb workLength (demanded budget)) 5
    (first_run_sheet budget answerLength (read_sheet bytes)))))

-- What the lent buffers held after it: "On 1 to 5 no buffer changes. Past 5, refused or not, the first 8,192 numbers of the table and the
-- demanded part of the work buffer are zero at the end, the rest of both unchanged."
unfoldable pub first_early : Result → Bool
first_early (answered a) = false
first_early (turned_back r) = leb r.number 5

unfoldable pub first_table_after : Result → List ℕ → List ℕ
first_table_after r table = cond (first_early r) table (zeroed table_numbers table)

unfoldable pub first_work_after : Result → ℕ → List ℕ → List ℕ
first_work_after r budget work = cond (first_early r) work (zeroed (demanded budget) work)

-- With number 1 the run is that one,
abbrev pub RunsOnce : Type 0
RunsOnce = (bytes : List ℕ) (budget t w a : ℕ) → engine_run bytes (once_with budget) t w a ≡ first_run bytes budget t w a

-- and so are what a caller is handed back and what each lent buffer then holds.
abbrev pub AnswersOnce : Type 0
AnswersOnce =
    (bytes : List ℕ) (budget : ℕ) (table work answer table' work' answer' : List ℕ) (r : HandedBack)
    → RunContract bytes (once_with budget) table work answer table' work' answer' r
    → let former = first_run bytes budget (length table) (length work) (length answer) in
    (r ≡ handed_back former) × (table' ≡ first_table_after former table) × (work' ≡ first_work_after former budget work)
    × (answer' ≡ answer_after former answer)

-- With any number, where neither run is refused: if the run for one proof tells proved, the text begins with its text; if it tells no or
-- spent, the answer is its answer.
abbrev pub FirstStands : Type 0
FirstStands =
    (bytes : List ℕ) (budget t w a : ℕ) (x : Answer) → engine_run bytes (once_with budget) t w a ≡ answered x
    → (proofs t' w' a' : ℕ) (y : Answer) → engine_run bytes (record { budget = budget; proofs = proofs }) t' w' a' ≡ answered y
    → (x.outcome ≡ reported_proved → (rest : List ℕ) × (y.text ≡ x.text ++ rest)) × ((x.outcome ≡ reported_proved → ⊥) → y ≡ x)

-- The same in the numbers handed back and in the texts that lie in the answer buffers.
abbrev pub FirstHanded : Type 0
FirstHanded =
    (bytes : List ℕ) (budget : ℕ) (table work answer table' work' answer' : List ℕ) (r : HandedBack)
    (proofs : ℕ) (table₂ work₂ answer₂ table₂' work₂' answer₂' : List ℕ) (r₂ : HandedBack)
    → RunContract bytes (once_with budget) table work answer table' work' answer' r
    → RunContract bytes (record { budget = budget; proofs = proofs }) table₂ work₂ answer₂ table₂' work₂' answer₂' r₂
    → r.outcome ≤ 2 → r₂.outcome ≤ 2
    → (r.outcome ≡ 0 → (rest : List ℕ) × (take r₂.length answer₂' ≡ take r.length answer' ++ rest))
    × (1 ≤ r.outcome → (r₂ ≡ r) × (take r₂.length answer₂' ≡ take r.length answer'))
