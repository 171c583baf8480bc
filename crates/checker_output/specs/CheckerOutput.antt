-- Document 01, "The answer text", last paragraph: "The checker answers valid, or not valid with the first line that breaks a rule or
-- form given here"; or a refusal with its number and line, printed as the sheet runner prints one.
use Rattle.std.specs.Prelude.{ℕ, List, [], ◌∷◌}
use Rattle.sheet_format.specs.Limits.{table_numbers}
use Rattle.sheet_format.specs.Buffers.{demanded}
use Rattle.sheet_format.specs.Bytes.{ascii, decimal}
use Rattle.answer_texts.specs.Spelling.{text_line}
use Rattle.answer_texts.specs.Judgements.{valid, invalid}
use Rattle.outcomes.specs.declared.Verdict.{Verdict}
use Rattle.outcomes.specs.declared.Verdict.TheVariants.{Valid, Invalid, Refused}
use Rattle.checker_spec.specs.CheckText.{Checked, judged, check_refused, check_text}
use Rattle.line_writer.specs.RefusalLine.{refusal_line}

-- The work buffer is for so many lines. The papers leave this number free: a text of more LF bytes gets refusal 5.
abbrev pub max_lines : ℕ
max_lines = 31000

unfoldable pub valid_line : List ℕ
valid_line = text_line (ascii "valid" ∷ [])

unfoldable pub invalid_line : ℕ → List ℕ
invalid_line line = text_line (ascii "not valid" ∷ decimal line ∷ [])

unfoldable pub printed : Checked → List ℕ
printed (judged valid) = valid_line
printed (judged (invalid line)) = invalid_line line
printed (check_refused r) = refusal_line r.number r.line

-- What is printed of a verdict as the checker hands it back: the same, by the law `verdict-printed`.
unfoldable pub verdict_output : Verdict → List ℕ
verdict_output Valid = valid_line
verdict_output (Invalid line) = invalid_line line
verdict_output (Refused r) = refusal_line r.number r.line

-- The sheet's bytes and the text's. The table is the smallest that refusal 2 lets pass.
unfoldable pub checker_output : List ℕ → List ℕ → List ℕ
checker_output bytes text = printed (check_text bytes text table_numbers (demanded max_lines))
