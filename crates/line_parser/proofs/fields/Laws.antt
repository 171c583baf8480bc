-- Laws of `specs/Fields.antt` and of the byte definitions of `sheet_format`: one for each way through the code. Assumes
-- nothing.
use Prim.Native.Nat.{ℕ, suc, ◌+◌, ◌-◌, ◌*◌, ◌≤◌, ◌<◌}
use native.Mathlib.Numerals.{add-one}
use native.Mathlib.Omega.{arith}
use mathlib.Core.Bool.{Bool, true, false, cond}
use mathlib.Core.Path.{◌≡◌, refl, sym, ap, ◌∙◌}
use mathlib.Core.List.{List, [], ◌∷◌}
use mathlib.Core.Option.{Option, none, some}
use lib.Dec.{eqb, ltb}
use lib.ListN.{length, drop, take, get_or, length-drop, drop_of_length-le}
use lib.Seq.{drop-cons, take_all, length-take-le}
use borrow.Author.Tests.{le-leb, lt-leb, eq-eqb, ne_eqb}
use Rattle.sheet_format.specs.Limits.{max_number}
use Rattle.sheet_format.specs.Bytes.{tab, is_digit, digits_from, at_most, number}
use Rattle.sheet_format.proofs.Bytes.{digit_bounds}
use Rattle.std.specs.Prelude.{Option as RustOption, Some, None, unwrap_or}
use Rattle.std.specs.List.{position_or_len}
use Rattle.std.specs.Char.{is_ascii_digit}
use Rattle.std.proofs.lemmas.List.Recursion.{is_position_or_len}
use Rattle.std.proofs.lemmas.Bool.{ltb-false}
use Rattle.line_parser.specs.Fields.{field_len, first_field, number_answer, first_number}

-- The part of a list from a to its end is the list without its first a elements.
pub rest_part : (a : ℕ) (l : List ℕ) → take (length l - a) (drop a l) ≡ drop a l
rest_part a l = take_all (length l - a) (drop a l) (omega (arith, length-drop a l))

-- the end of the first field

-- A field ends at its first byte if that is a tab, and goes on otherwise.
len_step : (c : ℕ) (cs : List ℕ) → field_len (c ∷ cs) ≡ cond (eqb c tab) 0 (1 + field_len cs)
unfolding field_len
len_step c cs = go (eqb c tab)
  where
    go : (t : Bool) → cond t 0 (suc (field_len cs)) ≡ cond t 0 (1 + field_len cs)
    go true = refl
    go false = omega arith

-- An empty line has an empty field.
len_zero : field_len [] ≡ 0
unfolding field_len
len_zero = refl

-- The first field lies within the line.
pub len_le : (s : List ℕ) → field_len s ≤ length s
unfolding field_len
len_le [] = omega arith
len_le (c ∷ cs) = go (eqb c tab) (len_le cs)
  where
    go : (t : Bool) → field_len cs ≤ length cs → cond t 0 (suc (field_len cs)) ≤ suc (length cs)
    go true h = omega arith
    go false h = omega arith

-- The answer of `position` and `unwrap_or` for the first tab.
pub field_position : (s : List ℕ)
    → unwrap_or (cond (ltb (position_or_len (λ b. eqb b tab) s) (length s)) (Some (position_or_len (λ b. eqb b tab) s)) None) (length s) ≡ field_len s
field_position s = rw (← is_position_or_len field_len (λ b. eqb b tab) len_zero len_step s) (go (ltb (field_len s) (length s)) refl)
  where
    go : (t : Bool) → ltb (field_len s) (length s) ≡ t → unwrap_or (cond t (Some (field_len s)) None) (length s) ≡ field_len s
    go true e = refl
    go false e = omega (arith, ltb-false (field_len s) (length s) e, len_le s)

-- As a part of the line the first field has the length `field_len`.
pub first_part : (s : List ℕ) (n : ℕ) → n ≡ field_len s → n ≡ length (take n s)
first_part s n e = sym (length-take-le n s (omega (arith, len_le s)))

-- numbers

-- A value above the largest number stays above it, so that there is no number.
large : (cs : List ℕ) (n : ℕ) → max_number < n → at_most max_number (digits_from n cs) ≡ none
unfolding at_most digits_from
large [] n h = rw (lt-leb n max_number h)
large (c ∷ cs) n h = go (is_digit c) (large cs (10 * n + (c - 48)) (omega arith))
  where
    go : (t : Bool) → at_most max_number (digits_from (10 * n + (c - 48)) cs) ≡ none
        → at_most max_number (elim t as (λ _. Option ℕ) [ true ↦ digits_from (10 * n + (c - 48)) cs | false ↦ none ]) ≡ none
    go true e = e
    go false e = refl

module _ (s : List ℕ) (i v : ℕ) (h : i < length s) where
  -- One byte that is a digit is added to the value, and any other leaves no number.
  digit_step : (t : Bool) → is_digit (get_or s i 0) ≡ t
      → digits_from v (drop i s) ≡ cond t (digits_from (10 * v + (get_or s i 0 - 48)) (drop (i + 1) s)) none
  unfolding digits_from
  digit_step true e = rw (drop-cons s i 0 h, digits_from, e, add-one i)
  digit_step false e = rw (drop-cons s i 0 h, digits_from, e)

  -- With a byte that is no digit there is no number.
  pub digits_off : is_ascii_digit (get_or s i 0) ≡ false → at_most max_number (digits_from v (drop i s)) ≡ none
  unfolding is_digit at_most
  digits_off e = ap (at_most max_number) (digit_step false e)

  module _ (w : ℕ) (e : is_ascii_digit (get_or s i 0) ≡ true) (m : w ≡ 10 * v + (get_or s i 0 - 48)) where
    -- With a digit the reading goes on with the value w it makes.
    pub digits_on : at_most max_number (digits_from v (drop i s)) ≡ at_most max_number (digits_from w (drop (i + 1) s))
    unfolding is_digit
    digits_on = ap (at_most max_number) (digit_step true e) ∙ rw m

    -- With a digit that makes the value too large there is no number.
    pub digits_large : max_number < w → at_most max_number (digits_from v (drop i s)) ≡ none
    digits_large l = digits_on ∙ large (drop (i + 1) s) w l

-- At the end of the field the value is the number.
pub digits_end : (s : List ℕ) (i v : ℕ) → length s ≤ i → v ≤ max_number → at_most max_number (digits_from v (drop i s)) ≡ some v
unfolding digits_from at_most
digits_end s i v h k = rw (drop_of_length-le s h) (rw (le-leb v max_number k))

-- An empty field is no number.
pub number_empty : (f : List ℕ) → length f ≡ 0 → number f ≡ none
unfolding number
number_empty [] h = refl
number_empty (c ∷ cs) h = absurd (omega arith)

-- The field `0` is the number 0.
pub number_zero_lem : (f : List ℕ) → get_or f 0 0 ≡ 48 → length f ≡ 1 → number f ≡ some 0
unfolding number digits_from is_digit
number_zero_lem [] e h = absurd (omega arith)
number_zero_lem (c ∷ []) e h = rw e
number_zero_lem (c ∷ d ∷ cs) e h = absurd (omega arith)

-- A field with a zero before more is no number.
pub number_padded : (f : List ℕ) → get_or f 0 0 ≡ 48 → (length f ≡ 1 → ⊥) → number f ≡ none
unfolding number
number_padded [] e h = refl
number_padded (c ∷ []) e h = absurd (h refl)
number_padded (c ∷ d ∷ cs) e h = rw (eq-eqb c 48 e, number)

-- A field that begins with no zero is the number of its digits, if it is not too large.
pub number_digits : (f : List ℕ) → (length f ≡ 0 → ⊥) → (get_or f 0 0 ≡ 48 → ⊥) → number f ≡ at_most max_number (digits_from 0 f)
unfolding number digits_from at_most
number_digits [] h e = absurd (h refl)
number_digits (c ∷ []) h e = go (is_digit c) refl
  where
    go : (t : Bool) → is_digit c ≡ t → digits_from 0 (c ∷ []) ≡ at_most max_number (digits_from 0 (c ∷ []))
    go true p = let r = digit_bounds c p in rw (p, digits_from) (rw (le-leb (10 * 0 + (c - 48)) max_number (omega arith)))
    go false p = rw (p, digits_from)
number_digits (c ∷ d ∷ cs) h e = rw (ne_eqb c 48 e, number)

-- answers

-- The answer for no number is `None`.
pub answer_bad : (n : ℕ) (o : Option ℕ) → o ≡ none → None ≡ number_answer n o
unfolding number_answer
answer_bad n o e = rw e

-- The answer for a number is its value with the length of the field.
pub answer_value : (n v e : ℕ) (o : Option ℕ) → o ≡ some v → n ≡ e → Some (v, e) ≡ number_answer n o
unfolding number_answer
answer_value n v e o p q = rw (p, q)

-- The answer for the number in the first field is `first_number`.
pub number_first : (s : List ℕ) (n : ℕ) (r : RustOption (ℕ × ℕ)) → n ≡ field_len s → r ≡ number_answer (length (take n s)) (number (take n s))
    → r ≡ first_number s
unfolding first_number first_field
number_first s n r e f = f ∙ rw (length-take-le n s (omega (arith, len_le s))) (rw e)
