-- A reader that stops after more bytes than are allowed.
use Prim.Native.Nat.{ℕ, ◌≤◌, ◌<◌}
use native.Mathlib.Omega.{arith}
use mathlib.Core.Path.{◌≡◌, refl, sym, ap, ◌∙◌}
use mathlib.Core.Bool.{Bool, true, false}
use mathlib.Core.List.{List}
use lib.Dec.{leb, ltb}
use lib.ListN.{length, take}
use lib.Seq.{take_all, length-take-le}
use borrow.Author.Tests.{leb-true, leb-false, lt-ltb}
use Rattle.sheet_format.specs.Limits.{max_sheet_bytes, table_numbers, max_text_bytes}
use Rattle.sheet_format.specs.Buffers.{demanded}
use Rattle.sheet_format.specs.Sheets.{refusal, turn_back_if}
use Rattle.checker_spec.specs.CheckText.{Checked, check_refused, check_text}
use Rattle.checker_output.specs.CheckerOutput.{max_lines, printed, checker_output}
use Rattle.checker_output.specs.Promises.{FrontsSuffice}

-- A sheet that is too long is refused whatever the text is, and then a text that is too long whatever the sheet is.
long_sheet : (bytes text : List ℕ) → max_sheet_bytes < length bytes → checker_output bytes text ≡ printed (check_refused (refusal 1 0))
unfolding checker_output check_text turn_back_if
long_sheet bytes text h = rw (lt-ltb max_sheet_bytes (length bytes) h)

long_text : (bytes text : List ℕ) → max_text_bytes < length text
    → checker_output bytes text ≡ printed (turn_back_if check_refused (ltb max_sheet_bytes (length bytes)) 1 (check_refused (refusal 4 0)))
unfolding checker_output check_text turn_back_if
long_text bytes text h = rw (lt-ltb max_text_bytes (length text) h)

sheet_front : (bytes text : List ℕ) (n : ℕ) → max_sheet_bytes < n → checker_output (take n bytes) text ≡ checker_output bytes text
sheet_front bytes text n h = go (leb (length bytes) n) refl
  where
    go : (b : Bool) → leb (length bytes) n ≡ b → checker_output (take n bytes) text ≡ checker_output bytes text
    go true e = ap (λ (l : List ℕ). checker_output l text) (take_all n bytes (leb-true (length bytes) n e))
    go false e =
        let l = leb-false (length bytes) n e in
        let t = length-take-le n bytes (omega arith) in
        long_sheet (take n bytes) text (omega arith) ∙ sym (long_sheet bytes text (omega arith))

text_front : (bytes text : List ℕ) (m : ℕ) → max_text_bytes < m → checker_output bytes (take m text) ≡ checker_output bytes text
text_front bytes text m h = go (leb (length text) m) refl
  where
    go : (b : Bool) → leb (length text) m ≡ b → checker_output bytes (take m text) ≡ checker_output bytes text
    go true e = ap (checker_output bytes) (take_all m text (leb-true (length text) m e))
    go false e =
        let l = leb-false (length text) m e in
        let t = length-take-le m text (omega arith) in
        long_text bytes (take m text) (omega arith) ∙ sym (long_text bytes text (omega arith))

pub fronts_suffice : FrontsSuffice
fronts_suffice bytes text n m hn hm = sheet_front bytes (take m text) n hn ∙ text_front bytes text m hm
