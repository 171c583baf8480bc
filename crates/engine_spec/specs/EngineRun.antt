-- Document 01, "Turned back, in checking order", for the engine: refusals 1, 2, 3, 13 (request W-202), 5, 6 to 11, 12, or the answer; and
-- the final contents of each lent buffer. A function of the sheet's bytes, what is asked for and the lengths of the lent buffers.
use Rattle.std.specs.Prelude.{ℕ, zero, suc, Bool, true, false, ◌||◌, cond, List, [], ◌∷◌, ◌++◌, eqb, leb, ltb, length, drop}
use Rattle.enumeration.specs.Enumeration.{Proof, End, enough, exhausted, units_spent, Enumeration, enumerate}
use Rattle.sheet_format.specs.Limits.{max_sheet_bytes, table_numbers, max_budget, max_proofs, max_text_bytes}
use Rattle.sheet_format.specs.Buffers.{demanded, zeroed}
use Rattle.sheet_format.specs.Sheets.{Sheet, rules_of, Refusal, refusal, turn_back_if, Read, sheet, refused, read_sheet}
use Rattle.answer_texts.specs.Enumerations.{enumeration_text}

-- What the caller asks for: a budget of units, and the number of proofs (request W-202).
pub record Request : Type 0 where
  pub budget : ℕ
  pub proofs : ℕ

-- "Outcomes are `proved`, `no`, `spent`".
pub data Reported : Type 0 where
  reported_proved reported_no reported_spent : Reported

-- "the run hands back outcome, units and text length"; request W-202: "the outcome and units of the last R line and the number of proofs"
pub record Answer : Type 0 where
  pub outcome : Reported
  pub units : ℕ
  pub proofs : ℕ
  pub text : List ℕ

pub data Result : Type 0 where
  answered : Answer → Result
  turned_back : Refusal → Result

-- The walk that the caller asks for, which goes on after each proof until the number is reached (request W-202).
unfoldable pub enumeration_of : Sheet → Request → Enumeration
enumeration_of s ask = enumerate ask.proofs ask.budget (rules_of s) s.goal

-- The outcome of the last R line,
unfoldable pub last_outcome : End → Reported
last_outcome enough = reported_proved
last_outcome (exhausted n) = reported_no
last_outcome units_spent = reported_spent

-- and its units: those of the last proof, of no, or the budget.
unfoldable pub last_proof_units : List Proof → ℕ
last_proof_units [] = 0
last_proof_units (p ∷ []) = p.units
last_proof_units (p ∷ q ∷ ps) = last_proof_units (q ∷ ps)

unfoldable pub last_units : ℕ → List Proof → End → ℕ
last_units budget ps enough = last_proof_units ps
last_units budget ps (exhausted n) = n
last_units budget ps units_spent = budget

unfoldable pub answer_to : Sheet → ℕ → Enumeration → Answer
answer_to s budget r = record {
  outcome = last_outcome r.end;
  units = last_units budget r.found r.end;
  proofs = length r.found;
  text = enumeration_text s budget r;
}

-- 12: "The answer text is over 65,535 bytes or longer than the answer buffer"
unfoldable pub fit : ℕ → Answer → Result
fit answerLength a =
    cond (ltb max_text_bytes (length a.text) || ltb answerLength (length a.text)) (turned_back (refusal 12 0)) (answered a)

-- Refusals 6 to 11 come first, then the search.
unfoldable pub run_sheet : Request → ℕ → Read → Result
run_sheet ask answerLength (refused r) = turned_back r
run_sheet ask answerLength (sheet s) = fit answerLength (answer_to s ask.budget (enumeration_of s ask))

-- How sheets are read, the sheet's bytes, what is asked for, the lengths of table, work buffer and answer buffer. Request W-202: "13 if the
-- number is 0 or over 64, right after 3, with line 0".
unfoldable pub engine_run_by : (List ℕ → Read) → List ℕ → Request → ℕ → ℕ → ℕ → Result
engine_run_by reads bytes ask tableLength workLength answerLength =
    turn_back_if turned_back (ltb max_sheet_bytes (length bytes)) 1
    (turn_back_if turned_back (ltb tableLength table_numbers) 2
    (turn_back_if turned_back (eqb ask.budget 0 || ltb max_budget ask.budget) 3
    (turn_back_if turned_back (eqb ask.proofs 0 || ltb max_proofs ask.proofs) 13
    (turn_back_if turned_back (ltb workLength (demanded ask.budget)) 5
    (run_sheet ask answerLength (reads bytes))))))

unfoldable pub engine_run : List ℕ → Request → ℕ → ℕ → ℕ → Result
engine_run bytes ask tableLength workLength answerLength = engine_run_by read_sheet bytes ask tableLength workLength answerLength

-- "On 1 to 5 no buffer changes", nor on 13. "Past 5, refused or not, the first 8,192 numbers of the table and the demanded part of the
-- work buffer are zero at the end, the rest of both unchanged."
unfoldable pub is_early : Result → Bool
is_early (answered a) = false
is_early (turned_back r) = leb r.number 5 || eqb r.number 13

unfoldable pub table_after : Result → List ℕ → List ℕ
table_after r table = cond (is_early r) table (zeroed table_numbers table)

unfoldable pub work_after : Result → ℕ → List ℕ → List ℕ
work_after r budget work = cond (is_early r) work (zeroed (demanded budget) work)

-- "A refusal never changes the answer buffer; an answer changes only its own bytes".
unfoldable pub answer_after : Result → List ℕ → List ℕ
answer_after (answered a) answer = a.text ++ drop (length a.text) answer
answer_after (turned_back r) answer = answer
