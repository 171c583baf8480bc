-- Laws of bytes: equal bytes, bytes that are absent, names.
use Prim.Native.Nat.{ℕ, ◌≤◌, ◌<◌}
use mathlib.Core.Path.{◌≡◌, refl, sym, ◌∙◌, ap, ap₂}
use mathlib.Core.Bool.{Bool, true, false, ◌&&◌, ◌||◌, true≢false}
use mathlib.Core.List.{List, [], ◌∷◌}
use lib.Dec.{eqb, leb}
use lib.ListN.{length}
use borrow.Author.Tests.{eqb-true, eq-eqb, ne_eqb, leb-true}
use native.Mathlib.Omega.{arith}
use Rattle.terms.specs.Lists.{All}
use Rattle.terms.proofs.Lists.{all_weaken}
use Rattle.formulas.proofs.Free.{and_parts, or_left}
use Rattle.sheet_format.specs.Limits.{max_name}
use Rattle.sheet_format.specs.Bytes.{is_digit, is_small, is_capital, is_letter, is_name_byte, name_bytes, is_name, same_bytes, lf}
use Rattle.sheet_format.specs.Bytes.{SplitLines, extend_line, lines_of}

-- same_bytes

-- A list has the same bytes as itself.
pub same_refl : (a : List ℕ) → same_bytes a a ≡ true
unfolding same_bytes
same_refl [] = refl
same_refl (c ∷ cs) = rw (eq-eqb c c refl) (same_refl cs)

-- Equal lists have the same bytes.
pub equal_same : (a b : List ℕ) → a ≡ b → same_bytes a b ≡ true
equal_same a b e = rw (← e) (same_refl a)

-- Lists with the same bytes are equal.
pub same_equal : (a b : List ℕ) → same_bytes a b ≡ true → a ≡ b
unfolding same_bytes
same_equal [] [] h = refl
same_equal [] (d ∷ ds) h = absurd (true≢false (sym h))
same_equal (c ∷ cs) [] h = absurd (true≢false (sym h))
same_equal (c ∷ cs) (d ∷ ds) h =
    let p = and_parts (eqb c d) (same_bytes cs ds) h in
    ap₂ ◌∷◌ (eqb-true c d p.0) (same_equal cs ds p.1)

-- absent bytes

-- The byte c is not in the list.
abbrev pub Without : ℕ → List ℕ → Type 0
Without c b = All (λ d. eqb d c ≡ false) b

-- Every byte passes the test.
abbrev pub Every : (ℕ → Bool) → List ℕ → Type 0
Every k b = All (λ d. k d ≡ true) b

-- Every byte is a graphic character, so that none is a tab or LF.
abbrev pub Graphic : List ℕ → Type 0
Graphic b = All (λ d. 32 < d) b

-- Graphic bytes have no byte of at most 32, so no tab, LF or space.
pub graphic_without : (c : ℕ) → c ≤ 32 → (b : List ℕ) → Graphic b → Without c b
graphic_without c h b g = all_weaken (λ d. 32 < d) (λ d. eqb d c ≡ false) (λ d l. ne_eqb d c (λ e. omega arith)) b g

-- Bytes of a kind have no byte of another kind: so a number has no tab, LF, `@`, bracket or comma.
pub every_without : (k : ℕ → Bool) (c : ℕ) → k c ≡ false → (b : List ℕ) → Every k b → Without c b
every_without k c h b g =
    all_weaken (λ d. k d ≡ true) (λ d. eqb d c ≡ false) (λ d l. ne_eqb d c (λ e. true≢false (sym l ∙ ap k e ∙ h))) b g

-- kinds of bytes

-- A digit is a byte from 48 to 57.
pub digit_bounds : (c : ℕ) → is_digit c ≡ true → (48 ≤ c) × (c ≤ 57)
unfolding is_digit
digit_bounds c h = let p = and_parts (leb 48 c) (leb c 57) h in (leb-true 48 c p.0, leb-true c 57 p.1)

-- A small letter is a byte from 97 to 122.
pub small_bounds : (c : ℕ) → is_small c ≡ true → (97 ≤ c) × (c ≤ 122)
unfolding is_small
small_bounds c h = let p = and_parts (leb 97 c) (leb c 122) h in (leb-true 97 c p.0, leb-true c 122 p.1)

-- A capital is a byte from 65 to 90.
pub capital_bounds : (c : ℕ) → is_capital c ≡ true → (65 ≤ c) × (c ≤ 90)
unfolding is_capital
capital_bounds c h = let p = and_parts (leb 65 c) (leb c 90) h in (leb-true 65 c p.0, leb-true c 90 p.1)

-- A letter is a byte from 65 to 122, and not `_`, which stands between the capitals and the small letters.
pub letter_bounds : (c : ℕ) → is_letter c ≡ true → (65 ≤ c) × (c ≤ 122) × (c ≡ 95 → ⊥)
unfolding is_letter
letter_bounds c h = go (is_small c) refl h
  where
    go : (a : Bool) → is_small c ≡ a → (a || is_capital c) ≡ true → (65 ≤ c) × (c ≤ 122) × (c ≡ 95 → ⊥)
    go true e k = let p = small_bounds c e in (omega arith, omega arith, λ q. omega arith)
    go false e k = let p = capital_bounds c k in (omega arith, omega arith, λ q. omega arith)

-- A letter is a name byte.
pub letter_name : (c : ℕ) → is_letter c ≡ true → is_name_byte c ≡ true
unfolding is_name_byte
letter_name c h = or_left (is_letter c || is_digit c) (eqb c 95) (or_left (is_letter c) (is_digit c) h)

-- So is a digit.
pub digit_name : (c : ℕ) → is_digit c ≡ true → is_name_byte c ≡ true
unfolding is_name_byte
digit_name c h = go (is_letter c) (is_digit c) h
  where
    go : (a b : Bool) → b ≡ true → (a || b || eqb c 95) ≡ true
    go true b k = refl
    go false b k = rw k refl

-- A byte that is no name byte is no digit.
pub no_digit : (c : ℕ) → is_name_byte c ≡ false → is_digit c ≡ false
unfolding is_name_byte
no_digit c h = go (is_letter c) (is_digit c) h
  where
    go : (a b : Bool) → (a || b || eqb c 95) ≡ false → b ≡ false
    go a false k = refl
    go true true k = k
    go false true k = k

-- A name byte is a graphic character.
pub name_graphic : (c : ℕ) → is_name_byte c ≡ true → 32 < c
unfolding is_name_byte
name_graphic c h = go (is_letter c) refl (is_digit c) refl h
  where
    go : (a : Bool) → is_letter c ≡ a → (b : Bool) → is_digit c ≡ b → (a || b || eqb c 95) ≡ true → 32 < c
    go true p b q k = let r = letter_bounds c p in omega arith
    go false p true q k = let r = digit_bounds c q in omega arith
    go false p false q k = let r = eqb-true c 95 k in omega arith

-- names

-- Each of the bytes that pass `name_bytes` is a name byte.
pub name_bytes_lem : (b : List ℕ) → name_bytes b ≡ true → Every is_name_byte b
unfolding name_bytes
name_bytes_lem [] h = tt
name_bytes_lem (c ∷ cs) h = let p = and_parts (is_name_byte c) (name_bytes cs) h in (p.0, name_bytes_lem cs p.1)

-- A name is not empty.
pub name_nonempty : is_name [] ≡ true → ⊥
unfolding is_name
name_nonempty h = true≢false (sym h)

-- The line has a length.
pub name_length_lem : (b : List ℕ) → is_name b ≡ true → 1 ≤ length b
name_length_lem [] h = absurd (name_nonempty h)
name_length_lem (c ∷ cs) h = omega arith

-- A name begins with a letter.
pub name_letter : (c : ℕ) (cs : List ℕ) → is_name (c ∷ cs) ≡ true → is_letter c ≡ true
unfolding is_name
name_letter c cs h = (and_parts (is_letter c) (name_bytes cs) (and_parts (is_letter c && name_bytes cs) (leb (length (c ∷ cs)) max_name) h).0).0

-- A name has name bytes only.
pub name_kinds : (b : List ℕ) → is_name b ≡ true → Every is_name_byte b
unfolding is_name
name_kinds [] h = tt
name_kinds (c ∷ cs) h =
    let p = and_parts (is_letter c) (name_bytes cs) (and_parts (is_letter c && name_bytes cs) (leb (length (c ∷ cs)) max_name) h).0 in
    (letter_name c p.0, name_bytes_lem cs p.1)

-- A name has at most 16 bytes.
pub name_short : (b : List ℕ) → is_name b ≡ true → length b ≤ max_name
unfolding is_name
name_short [] h = omega arith
name_short (c ∷ cs) h = leb-true (length (c ∷ cs)) max_name (and_parts (is_letter c && name_bytes cs) (leb (length (c ∷ cs)) max_name) h).1

-- The bytes of a name are graphic.
pub name_is_graphic : (b : List ℕ) → is_name b ≡ true → Graphic b
name_is_graphic b h = all_weaken (λ d. is_name_byte d ≡ true) (λ d. 32 < d) name_graphic b (name_kinds b h)

-- Whole lines and a rest.
abbrev pub lines : List (List ℕ) → List ℕ → SplitLines
lines ls r = record { whole = ls; rest = r }

-- A byte other than LF goes in front of the first line, or of the rest.
pub lines_of_other : (c : ℕ) (cs : List ℕ) → eqb c lf ≡ false → lines_of (c ∷ cs) ≡ extend_line c (lines_of cs).whole (lines_of cs).rest
unfolding lines_of
lines_of_other c cs h = rw (h, lines_of)
