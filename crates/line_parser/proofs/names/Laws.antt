-- Laws of `specs/Fields.antt` and of the byte definitions of `sheet_format`: one for each way through the code. Assumes
-- nothing.
use Prim.Native.Nat.{ℕ, ◌-◌, ◌≤◌, ◌<◌}
use native.Mathlib.Omega.{arith}
use mathlib.Core.Bool.{Bool, true, false, ◌&&◌, ◌||◌}
use Rattle.std.specs.Char.{is_ascii_digit, is_ascii_uppercase, is_ascii_lowercase, is_ascii_alphabetic}
use mathlib.Core.Path.{◌≡◌, refl, sym, ap, ◌∙◌}
use mathlib.Core.List.{List, [], ◌∷◌}
use lib.Dec.{eqb, leb}
use lib.ListN.{length, drop, take, get_or}
use borrow.Author.Tests.{le-leb, lt-leb, ne_eqb}
use Rattle.sheet_format.specs.Limits.{max_name}
use Rattle.sheet_format.specs.Bytes.{is_digit, is_small, is_capital, is_letter, is_name_byte, name_bytes, is_name}
use Rattle.line_parser.specs.Fields.{is_other_name_byte, field_len, first_field, first_name}
use Rattle.line_parser.proofs.fields.Laws.{rest_part}

-- names

-- A test and false is false.
and_false : (t : Bool) → (t && false) ≡ false
and_false true = refl
and_false false = refl

-- A test and true is the test.
and_true : (t : Bool) → (t && true) ≡ t
and_true true = refl
and_true false = refl

-- Either of two tests, in the other order.
or_swap : (s t : Bool) → (s || t) ≡ (t || s)
or_swap true true = refl
or_swap true false = refl
or_swap false true = refl
or_swap false false = refl

module _ (b : ℕ) where
  -- The letters are those of std.
  pub letter_is : is_ascii_alphabetic b ≡ is_letter b
  unfolding is_letter is_small is_capital
  letter_is = or_swap (is_ascii_uppercase b) (is_ascii_lowercase b)

  -- A byte below 0 is none of A to Z, 0 to 9 and `_`.
  pub other_low : b < 48 → false ≡ is_other_name_byte b
  unfolding is_other_name_byte is_capital is_digit
  other_low h =
      let k : b < 65 = omega arith in
      rw (lt-leb 48 b h, lt-leb 65 b k, ne_eqb b 95 (λ e. omega arith))

  -- A capital is one of them.
  pub other_capital : is_ascii_uppercase b ≡ true → true ≡ is_other_name_byte b
  unfolding is_other_name_byte is_capital
  other_capital h = rw h

  -- A digit is one of them.
  pub other_digit : is_ascii_digit b ≡ true → true ≡ is_other_name_byte b
  unfolding is_other_name_byte is_digit
  other_digit h = go (is_capital b)
    where
      go : (t : Bool) → true ≡ (t || is_ascii_digit b || eqb b 95)
      go true = refl
      go false = rw h

  -- Any other of them is `_`.
  pub other_mark : is_ascii_uppercase b ≡ false → is_ascii_digit b ≡ false → eqb b 95 ≡ is_other_name_byte b
  unfolding is_other_name_byte is_capital is_digit
  other_mark h k = rw (h, k)

  -- The bytes of names are the small letters and the others.
  pub byte_small : is_ascii_lowercase b ≡ true → true ≡ is_name_byte b
  unfolding is_name_byte is_letter is_small
  byte_small h = rw h

  pub byte_other : is_ascii_lowercase b ≡ false → is_other_name_byte b ≡ is_name_byte b
  unfolding is_name_byte is_other_name_byte is_letter is_small
  byte_other h = rw h

-- One more byte of a name.
pub bytes_step : (c : ℕ) (cs : List ℕ) → name_bytes (c ∷ cs) ≡ (is_name_byte c && name_bytes cs)
unfolding name_bytes
bytes_step c cs = refl

-- An empty field is no name.
pub name_empty : (f : List ℕ) → length f ≡ 0 → is_name f ≡ false
unfolding is_name
name_empty [] h = refl
name_empty (c ∷ cs) h = absurd (omega arith)

-- A field of more than 16 bytes is no name.
pub name_long : (f : List ℕ) → max_name < length f → is_name f ≡ false
unfolding is_name
name_long [] h = refl
name_long (c ∷ cs) h = rw (lt-leb (length (c ∷ cs)) max_name h) (and_false (is_letter c && name_bytes cs))

-- A field that does not begin with a letter is no name.
pub name_other : (f : List ℕ) → is_letter (get_or f 0 0) ≡ false → is_name f ≡ false
unfolding is_name
name_other [] e = refl
name_other (c ∷ cs) e = rw e

-- A short field that begins with a letter is a name exactly if its other bytes are name bytes.
pub name_letter : (f : List ℕ) → (length f ≡ 0 → ⊥) → length f ≤ max_name → is_letter (get_or f 0 0) ≡ true
    → is_name f ≡ name_bytes (take (length f - 1) (drop 1 f))
unfolding is_name
name_letter [] n h e = absurd (n refl)
name_letter (c ∷ cs) n h e =
    rw (rest_part 1 (c ∷ cs)) (rw (e, le-leb (length (c ∷ cs)) max_name h) (and_true (name_bytes cs)))

-- These laws give the first name of s, where t tells whether the first field, of length n, is a name.
module _ (s : List ℕ) (n : ℕ) (t : Bool) where
  -- If the first field is a name, it is the first name.
  pub name_first : n ≡ field_len s → t ≡ is_name (take n s) → t ≡ true → take n s ≡ first_name s
  unfolding first_name first_field
  name_first e f g = rw (← e) (rw (← f) (rw g))

  -- If the first field is no name, the first name is empty.
  pub name_none : n ≡ field_len s → t ≡ is_name (take n s) → t ≡ false → [] ≡ first_name s
  unfolding first_name first_field
  name_none e f g = rw (← e) (rw (← f) (rw g))
