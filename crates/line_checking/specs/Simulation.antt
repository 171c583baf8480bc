-- What is proved of the checker's work on flat memory: it gives exactly the judgement of the text, whatever the lent buffer held
-- before, and writes only the 64 numbers of each LF.
use Rattle.std.specs.Prelude.{ℕ, ◌*◌, ◌≤◌, ◌≡◌, List, length, drop, Option, Some, None}
use Rattle.sheet_format.specs.Bytes.{lines_of}
use Rattle.sheet_format.specs.Sheets.{Sheet, sheet, read_sheet}
use Rattle.sheet_format.specs.Limits.{numbers_per_unit}
use Rattle.node_table.specs.Decoding.{decode_sheet}
use Rattle.node_table.specs.Fingerprints.{NamesStand}
use Rattle.node_table.specs.WellMade.{WellMade}
use Rattle.answer_texts.specs.Judgements.{Judgement, valid, invalid}
use Rattle.text_judging.specs.Judging.{judge}
use Rattle.line_checking.specs.Judging.{Judged, judge_text}

-- A verdict as a judgement.
unfoldable pub judgement_of : Option ℕ → Judgement
judgement_of None = valid
judgement_of (Some k) = invalid k

-- How many LF the text has: one for each whole line.
unfoldable pub line_feeds : List ℕ → ℕ
line_feeds x = length (lines_of x).whole

-- What comes of it: the judgement, and a buffer of the same length with the same numbers past the demanded part.
pub record Judges (s : Sheet) (x w : List ℕ) (a : Judged) : Type 0 where
  pub verdict : judgement_of a.verdict ≡ judge s x
  pub same_length : length a.memory ≡ length w
  pub same_rest : drop (numbers_per_unit * line_feeds x) a.memory ≡ drop (numbers_per_unit * line_feeds x) w

-- For every sheet that the reader has put into the table, every text, and every work buffer with 64 numbers for each LF.
abbrev pub Simulates : Type 0
Simulates =
    (bytes : List ℕ) (s : Sheet) → read_sheet bytes ≡ sheet s → (t : List ℕ) (symbols nodes clauses goal : ℕ) → WellMade t nodes clauses goal
    → NamesStand bytes t symbols → decode_sheet bytes t symbols clauses goal ≡ s → (x w : List ℕ) → numbers_per_unit * line_feeds x ≤ length w
    → Judges s x w (judge_text bytes t symbols clauses goal x w)
