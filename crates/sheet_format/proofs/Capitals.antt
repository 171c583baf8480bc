-- Laws of folding, request W-201: capitals become small letters and every other byte stays, so that letters, digits and names stay what
-- they are.
use Prim.Native.Nat.{ℕ, ◌+◌, ◌-◌}
use mathlib.Core.Path.{◌≡◌, refl, sym, ◌∙◌, ap, ap₂}
use mathlib.Core.Bool.{Bool, true, false, ◌&&◌, ◌||◌, true≢false}
use mathlib.Core.List.{List, [], ◌∷◌}
use lib.Dec.{eqb, leb}
use borrow.Author.Tests.{ne_eqb, le-leb, lt-leb}
use native.Mathlib.Omega.{arith}
use Rattle.terms.proofs.Lists.{length_map}
use Rattle.formulas.proofs.Free.{or_left}
use Rattle.sheet_format.specs.Limits.{max_name}
use Rattle.sheet_format.specs.Bytes.{is_digit, is_small, is_capital, is_letter, is_name_byte, name_bytes, is_name, folded, folded_name, decimal}
use Rattle.sheet_format.proofs.Bytes.{Every, digit_bounds, capital_bounds, letter_bounds, letter_name}
use Rattle.sheet_format.proofs.Numbers.{decimal_digits}

-- bytes

-- A byte that is no capital stays.
pub folded_other : (c : ℕ) → is_capital c ≡ false → folded c ≡ c
unfolding folded
folded_other c h = rw h refl

-- A capital becomes the small letter, 32 above it.
pub folded_capital : (c : ℕ) → is_capital c ≡ true → folded c ≡ c + 32
unfolding folded
folded_capital c h = rw h (let p = capital_bounds c h in let e : c - 65 + 97 ≡ c + 32 = omega arith in e)

-- What holds of a byte that stays, and of a capital with its small letter, holds of a byte with the folded byte.
by_case : (P : ℕ → ℕ → Type 0) (c : ℕ) → (is_capital c ≡ true → P c (c + 32)) → (is_capital c ≡ false → P c c) → P c (folded c)
by_case P c h k = go (is_capital c) refl
  where
    go : (b : Bool) → is_capital c ≡ b → P c (folded c)
    go true e = rw (folded_capital c e) (h e)
    go false e = rw (folded_other c e) (k e)

-- The byte 32 above a capital is a letter.
small_letter : (c : ℕ) → is_capital c ≡ true → is_letter (c + 32) ≡ true
unfolding is_letter is_small
small_letter c h =
    let p = capital_bounds c h in
    or_left (leb 97 (c + 32) && leb (c + 32) 122) (is_capital (c + 32))
    (rw (le-leb 97 (c + 32) (omega arith)) (le-leb (c + 32) 122 (omega arith)))

-- A capital is a letter.
capital_letter : (c : ℕ) → is_capital c ≡ true → is_letter c ≡ true
unfolding is_letter
capital_letter c h = rw h (or_true (is_small c))
  where
    or_true : (a : Bool) → (a || true) ≡ true
    or_true true = refl
    or_true false = refl

-- The byte 32 above a capital is no capital.
no_capital : (c : ℕ) → is_capital c ≡ true → is_capital (c + 32) ≡ false
unfolding is_capital
no_capital c h =
    let p = capital_bounds c h in
    rw (lt-leb (c + 32) 90 (omega arith)) (and_false (leb 65 (c + 32)))
  where
    and_false : (a : Bool) → (a && false) ≡ false
    and_false true = refl
    and_false false = refl

-- A letter is no digit.
letter_no_digit : (c : ℕ) → is_letter c ≡ true → is_digit c ≡ false
letter_no_digit c h = go (is_digit c) refl
  where
    go : (b : Bool) → is_digit c ≡ b → is_digit c ≡ false
    go true e = let p = letter_bounds c h in let q = digit_bounds c e in absurd (omega arith)
    go false e = e

-- A folded byte is a letter exactly if the byte is.
pub letter_folded : (c : ℕ) → is_letter (folded c) ≡ is_letter c
letter_folded c = by_case (λ a b. is_letter b ≡ is_letter a) c (λ e. small_letter c e ∙ sym (capital_letter c e)) (λ e. refl)

-- A folded byte is a digit exactly if the byte is.
pub digit_folded : (c : ℕ) → is_digit (folded c) ≡ is_digit c
digit_folded c =
    by_case (λ a b. is_digit b ≡ is_digit a) c
    (λ e. letter_no_digit (c + 32) (small_letter c e) ∙ sym (letter_no_digit c (capital_letter c e))) (λ e. refl)

-- A folded byte is a name byte exactly if the byte is.
pub name_folded : (c : ℕ) → is_name_byte (folded c) ≡ is_name_byte c
name_folded c =
    by_case (λ a b. is_name_byte b ≡ is_name_byte a) c
    (λ e. letter_name (c + 32) (small_letter c e) ∙ sym (letter_name c (capital_letter c e))) (λ e. refl)

-- Folding twice is folding once.
pub folded_twice : (c : ℕ) → folded (folded c) ≡ folded c
folded_twice c = by_case (λ a b. folded b ≡ b) c (λ e. folded_other (c + 32) (no_capital c e)) (folded_other c)

-- A byte that is no letter is no folded letter either, so a test for it gives the same of a folded byte.
pub test_folded : (k c : ℕ) → is_letter k ≡ false → eqb (folded c) k ≡ eqb c k
test_folded k c h =
    by_case (λ a b. eqb b k ≡ eqb a k) c
    (λ e. other (c + 32) (small_letter c e) ∙ sym (other c (capital_letter c e)))
    (λ e. refl)
  where
    other : (d : ℕ) → is_letter d ≡ true → eqb d k ≡ false
    other d l = ne_eqb d k (λ q. true≢false (sym l ∙ ap is_letter q ∙ h))

-- Digits stay.
pub digit_stays : (c : ℕ) → is_digit c ≡ true → folded c ≡ c
digit_stays c h =
    by_case (λ a b. b ≡ a) c (λ e. absurd (true≢false (sym h ∙ letter_no_digit c (capital_letter c e)))) (λ e. refl)

-- lists of bytes

-- Folding a list of bytes twice is folding it once.
pub folded_name_twice : (n : List ℕ) → folded_name (folded_name n) ≡ folded_name n
folded_name_twice [] = refl
folded_name_twice (c ∷ cs) = ap₂ ◌∷◌ (folded_twice c) (folded_name_twice cs)

-- A list of digits stays.
pub digits_stay : (b : List ℕ) → Every is_digit b → folded_name b ≡ b
digits_stay [] h = refl
digits_stay (c ∷ cs) h = ap₂ ◌∷◌ (digit_stays c h.0) (digits_stay cs h.1)

-- A number as it is written stays.
pub decimal_folded : (n : ℕ) → folded_name (decimal n) ≡ decimal n
decimal_folded n = digits_stay (decimal n) (decimal_digits n)

-- names

-- The folded bytes are name bytes if the bytes are.
name_bytes_folded : (b : List ℕ) → name_bytes (folded_name b) ≡ name_bytes b
unfolding name_bytes
name_bytes_folded [] = refl
name_bytes_folded (c ∷ cs) = ap₂ ◌&&◌ (name_folded c) (name_bytes_folded cs)

-- A folded name is a name.
pub is_name_folded : (b : List ℕ) → is_name (folded_name b) ≡ is_name b
unfolding is_name
is_name_folded [] = refl
is_name_folded (c ∷ cs) =
    ap₂ ◌&&◌ (ap₂ ◌&&◌ (letter_folded c) (name_bytes_folded cs)) (ap (λ (n : ℕ). leb n max_name) (length_map folded (c ∷ cs)))
