-- Document 01, "Turned back": the sheet runner prints "`X`, number, line, with tabs between and LF at the end"; so does the answer checker.
use Rattle.std.specs.Prelude.{ℕ, List, [], ◌∷◌}
use Rattle.sheet_format.specs.Bytes.{ascii, decimal}
use Rattle.answer_texts.specs.Spelling.{text_line}

unfoldable pub refusal_line : ℕ → ℕ → List ℕ
refusal_line number line = text_line (ascii "X" ∷ decimal number ∷ decimal line ∷ [])

-- The longest such line: a number of 32 bits has at most ten digits.
abbrev pub refusal_line_bytes : ℕ
refusal_line_bytes = 24
