-- Document 01, "Turned back, in checking order", for the checker: refusals 1, 2, 4, 5, 6 to 11, or the judgement; and the final
-- contents of each lent buffer. A function of the sheet's bytes, the text's bytes and the lengths of the lent buffers.
use Rattle.std.specs.Prelude.{ℕ, suc, Bool, true, false, cond, List, [], ◌∷◌, eqb, leb, ltb, length}
use Rattle.sheet_format.specs.Limits.{max_sheet_bytes, table_numbers, max_text_bytes}
use Rattle.sheet_format.specs.Buffers.{demanded, zeroed}
use Rattle.sheet_format.specs.Bytes.{lf}
use Rattle.sheet_format.specs.Sheets.{Refusal, turn_back_if, Read, sheet, refused, read_sheet}
use Rattle.answer_texts.specs.Judgements.{Judgement}
use Rattle.text_judging.specs.Judging.{judge}

pub data Checked : Type 0 where
  judged : Judgement → Checked
  check_refused : Refusal → Checked

-- "for each LF in the answer text"
unfoldable pub count_lf : List ℕ → ℕ
count_lf [] = 0
count_lf (c ∷ cs) = cond (eqb c lf) (suc (count_lf cs)) (count_lf cs)

unfoldable pub check_sheet : List ℕ → Read → Checked
check_sheet text (refused r) = check_refused r
check_sheet text (sheet s) = judged (judge s text)

-- How sheets are read, the sheet's bytes, the text's, the lengths of table and work buffer.
abbrev pub check_text_by : (List ℕ → Read) → List ℕ → List ℕ → ℕ → ℕ → Checked
check_text_by reads bytes text tableLength workLength =
    turn_back_if check_refused (ltb max_sheet_bytes (length bytes)) 1
    (turn_back_if check_refused (ltb tableLength table_numbers) 2
    (turn_back_if check_refused (ltb max_text_bytes (length text)) 4
    (turn_back_if check_refused (ltb workLength (demanded (count_lf text))) 5
    (check_sheet text (reads bytes)))))

unfoldable pub check_text : List ℕ → List ℕ → ℕ → ℕ → Checked
check_text bytes text tableLength workLength = check_text_by read_sheet bytes text tableLength workLength

-- "On 1 to 5 no buffer changes. Past 5, refused or not, the first 8,192 numbers of the table and the demanded part of the work
-- buffer are zero at the end, the rest of both unchanged."
unfoldable pub is_early : Checked → Bool
is_early (judged j) = false
is_early (check_refused r) = leb r.number 5

unfoldable pub table_after : Checked → List ℕ → List ℕ
table_after r table = cond (is_early r) table (zeroed table_numbers table)

unfoldable pub work_after : Checked → List ℕ → List ℕ → List ℕ
work_after r text work = cond (is_early r) work (zeroed (demanded (count_lf text)) work)
