-- Promises T1, T6 and T10 about the checker (demands 1 and 2), and request W-204 of it.
use Rattle.std.specs.Prelude.{ℕ, suc, ◌≤◌, ◌≡◌, List, ◌↔◌, length}
use Rattle.sheet_format.specs.Limits.{max_sheet_bytes, table_numbers, max_text_bytes}
use Rattle.sheet_format.specs.Buffers.{demanded}
use Rattle.sheet_format.specs.Sheets.{Sheet, sheet, read_sheet}
use Rattle.answer_texts.specs.Capitals.{SameText}
use Rattle.answer_texts.specs.Spelled.{SpellsDerivation, BreaksAfter}
use Rattle.answer_texts.specs.FormerTexts.{SpellsBefore}
use Rattle.answer_texts.specs.Judgements.{Judgement, valid, invalid}
use Rattle.checker_spec.specs.CheckText.{Checked, judged, check_refused, count_lf, check_text, table_after, work_after}

-- What the checker hands back, in numbers: 0 valid, 1 not valid, 3 refused; the line that breaks or that is refused, 0 where there
-- is none; the refusal number, 0 where it is none.
pub record HandedBack : Type 0 where
  pub verdict : ℕ
  pub line : ℕ
  pub number : ℕ

unfoldable pub handed_back : Checked → HandedBack
handed_back (judged valid) = record { verdict = 0; line = 0; number = 0 }
handed_back (judged (invalid k)) = record { verdict = 1; line = k; number = 0 }
handed_back (check_refused r) = record { verdict = 3; line = r.line; number = r.number }

-- T1, demand 1: what the checker hands back and what each lent buffer then holds. `check` promises this for every input.
pub record CheckContract (bytes text table work table' work' : List ℕ) (r : HandedBack) : Type 0 where
  pub value : r ≡ handed_back (check_text bytes text (length table) (length work))
  pub table_end : table' ≡ table_after (check_text bytes text (length table) (length work)) table
  pub work_end : work' ≡ work_after (check_text bytes text (length table) (length work)) text work

-- T6: "where it turns nothing back", it "accepts a text exactly if it spells ... a derivation of an instance of that goal", and
-- else names the first line that breaks.
pub record CheckExact (bytes text : List ℕ) (t w : ℕ) (j : Judgement) : Type 0 where
  pub read : (s : Sheet) × (read_sheet bytes ≡ sheet s)
  pub accepts : (j ≡ valid) ↔ SpellsDerivation read.0 text
  pub breaks : (n : ℕ) → (j ≡ invalid (suc n)) ↔ (BreaksAfter read.0 text n × (SpellsDerivation read.0 text → ⊥))
  pub broken : (SpellsDerivation read.0 text → ⊥) → (n : ℕ) × BreaksAfter read.0 text n × (j ≡ invalid (suc n))

abbrev pub AllExact : Type 0
AllExact = (bytes text : List ℕ) (t w : ℕ) (j : Judgement) → check_text bytes text t w ≡ judged j → CheckExact bytes text t w j

-- T6 in the numbers handed back: what a caller is told by a check that keeps T1.
pub record CallerJudged (bytes text table work : List ℕ) (r : HandedBack) : Type 0 where
  -- Where nothing is turned back, the bytes are a sheet.
  pub is_sheet : (r.verdict ≡ 3 → ⊥) → (s : Sheet) × (read_sheet bytes ≡ sheet s)
  -- Where nothing is turned back, the verdict is valid exactly if the text spells a derivation of an instance of the goal.
  pub accepts : (s : Sheet) → read_sheet bytes ≡ sheet s → (r.verdict ≡ 3 → ⊥) → (r.verdict ≡ 0) ↔ SpellsDerivation s text
  -- Where nothing is turned back, the verdict is not valid, with a line, exactly if that line is the first that breaks.
  pub breaks : (s : Sheet) → read_sheet bytes ≡ sheet s → (r.verdict ≡ 3 → ⊥) → (n : ℕ)
      → ((r.verdict ≡ 1) × (r.line ≡ suc n)) ↔ (BreaksAfter s text n × (SpellsDerivation s text → ⊥))
  -- Where nothing is turned back and the text spells no derivation, there is a line that breaks, and it is the one told.
  pub broken : (s : Sheet) → read_sheet bytes ≡ sheet s → (r.verdict ≡ 3 → ⊥) → (SpellsDerivation s text → ⊥)
      → (n : ℕ) × BreaksAfter s text n × (r.verdict ≡ 1) × (r.line ≡ suc n)
  -- A sheet and a text within the limits, with the buffers for them, are not turned back.
  pub judges : (s : Sheet) → read_sheet bytes ≡ sheet s → length bytes ≤ max_sheet_bytes → table_numbers ≤ length table
      → length text ≤ max_text_bytes
      → demanded (count_lf text) ≤ length work → r.verdict ≡ 3 → ⊥

abbrev pub CallersJudged : Type 0
CallersJudged =
    (bytes text table work table' work' : List ℕ) (r : HandedBack) → CheckContract bytes text table work table' work' r
    → CallerJudged bytes text table work r

-- T10: what the lent buffers held before changes nothing in what is handed back.
abbrev pub BuffersDoNotMatter : Type 0
BuffersDoNotMatter = (bytes text table work table' work' : List ℕ) (r : HandedBack) (table₂ work₂ table₂' work₂' : List ℕ) (r₂ : HandedBack)
    → CheckContract bytes text table work table' work' r → CheckContract bytes text table₂ work₂ table₂' work₂' r₂
    → length table ≡ length table₂ → length work ≡ length work₂ → r ≡ r₂

-- Request W-204 in the numbers handed back: an old proof still checks, where nothing is turned back.
abbrev pub OldProofsCheck : Type 0
OldProofsCheck =
    (bytes text table work table' work' : List ℕ) (r : HandedBack) → CheckContract bytes text table work table' work' r
    → (s : Sheet) → read_sheet bytes ≡ sheet s → SpellsBefore SameText s text → (r.verdict ≡ 3 → ⊥) → r.verdict ≡ 0
