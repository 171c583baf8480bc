-- Promise T6 at the level of bytes (demand 2): the checker "accepts a text exactly if it spells, as document 01 writes them, a
-- derivation of an instance of that goal".
use Rattle.std.specs.Prelude.{ℕ, suc, ◌≡◌, List, ◌↔◌}
use Rattle.terms.specs.Lists.{All}
use Rattle.sheet_format.specs.Sheets.{Sheet, sheet, read_sheet}
use Rattle.answer_texts.specs.TextLines.{TextLine}
use Rattle.answer_texts.specs.Spelling.{spell}
use Rattle.answer_texts.specs.Capitals.{small_text, SameText, small_names, small_sheet}
use Rattle.answer_texts.specs.Spelled.{Writable, SpellsDerivation, BreaksAfter}
use Rattle.answer_texts.specs.FormerTexts.{SpellsBefore}
use Rattle.answer_texts.specs.Judgements.{valid, invalid}
use Rattle.text_judging.specs.Judging.{judge_exactly, judge}

-- T6: valid exactly if the text spells a derivation of an instance, and otherwise the first line that breaks.
pub record Exact (s : Sheet) (text : List ℕ) : Type 0 where
  pub accepts : (judge s text ≡ valid) ↔ SpellsDerivation s text
  pub breaks : (n : ℕ) → (judge s text ≡ invalid (suc n)) ↔ (BreaksAfter s text n × (SpellsDerivation s text → ⊥))
  -- A text that spells none has such a line.
  pub broken : (SpellsDerivation s text → ⊥) → (n : ℕ) × BreaksAfter s text n × (judge s text ≡ invalid (suc n))

abbrev pub CheckerExact : Type 0
CheckerExact = (bytes : List ℕ) (s : Sheet) → read_sheet bytes ≡ sheet s → (text : List ℕ) → Exact s text

-- Request W-201: what makes texts the same up to case is folding, and it folds the names and nothing else.
abbrev pub FoldsNames : Type 0
FoldsNames = (bytes : List ℕ) (s : Sheet) → read_sheet bytes ≡ sheet s → (xs : List TextLine) → All (Writable s.symbols) xs
    → small_text (spell s.symbols xs) ≡ spell (small_names s.symbols) xs

-- Request W-201: over a sheet with small names, a text with small names is judged as before.
abbrev pub JudgesAsBefore : Type 0
JudgesAsBefore = (s : Sheet) (text : List ℕ) → small_sheet s ≡ s → small_text text ≡ text → judge s text ≡ judge_exactly s text

-- Request W-204: "an old proof over a sheet without N lines must still check". It does over every sheet.
abbrev pub OldProofs : Type 0
OldProofs = (bytes : List ℕ) (s : Sheet) → read_sheet bytes ≡ sheet s → (text : List ℕ) → SpellsBefore SameText s text
    → judge s text ≡ valid
