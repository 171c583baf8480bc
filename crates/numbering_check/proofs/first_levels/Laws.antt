-- One law for each way through a turn of a loop or through a call; the hypotheses are the facts on the code's path.
use Prim.Native.Nat.{ℕ, zero, suc, ◌+◌, ◌-◌, ◌<◌, ◌≤◌}
use native.Mathlib.Omega.{arith}
use mathlib.Core.Path.{◌≡◌, refl, sym, ◌∙◌}
use mathlib.Core.Bool.{Bool, true, false}
use mathlib.Core.List.{List}
use mathlib.Core.Option.{Option, none, some}
use lib.Dec.{eqb}
use lib.ListN.{length, get_or, drop, get_or-eq_default}
use borrow.Author.Tests.{eq-eqb, ne_eqb}
use Rattle.sheet_format.specs.Limits.{max_number}
use Rattle.sheet_format.specs.Bytes.{is_digit, is_name_byte, number, decimal}
use Rattle.sheet_format.proofs.Options.{OnSome}
use Rattle.sheet_format.proofs.Numbers.{number_some}
use Rattle.text_judging.specs.Reading.{span}
use Rattle.std.proofs.lemmas.Option.{some_pair_parts}
use Rattle.scanning.specs.Ranges.{Number}
use Rattle.std.specs.Prelude.{Some, None}
use Rattle.scanning.specs.Ranges.{find_byte, scan_number}
use Rattle.scanning.specs.Numbering.{outside_name, is_symbol, number_at, level_at, is_showing, level_from, first_level}
use Rattle.scanning.proofs.Ranges.{byte_least, number_to, read_number}

-- positions

pub outside_first : (x : List ℕ) (i : ℕ) → i ≡ 0 → false ≡ outside_name x i
unfolding outside_name
outside_first x i h = rw (eq-eqb i 0 h)

pub outside_in : (x : List ℕ) (i b : ℕ) (z : Bool) → (i ≡ 0 → ⊥) → b ≡ get_or x (i - 1) 0 → z ≡ is_name_byte b → z ≡ true
    → false ≡ outside_name x i
unfolding outside_name
outside_in x i b z h p q r = rw (ne_eqb i 0 h, ← p, ← q, r)

pub outside_out : (x : List ℕ) (i b : ℕ) (z : Bool) → (i ≡ 0 → ⊥) → b ≡ get_or x (i - 1) 0 → z ≡ is_name_byte b → z ≡ false
    → true ≡ outside_name x i
unfolding outside_name
outside_out x i b z h p q r = rw (ne_eqb i 0 h, ← p, ← q, r)

pub symbol_made : (x : List ℕ) (i b : ℕ) → b ≡ get_or x i 0 → b ≡ 33 → true ≡ is_symbol x i
unfolding is_symbol
symbol_made x i b p q = rw (← p, eq-eqb b 33 q)

pub symbol_leftover : (x : List ℕ) (i b : ℕ) (z : Bool) → b ≡ get_or x i 0 → (b ≡ 33 → ⊥) → b ≡ 95 → z ≡ outside_name x i → z ≡ is_symbol x i
unfolding is_symbol
symbol_leftover x i b z p n q h = rw (← p, ne_eqb b 33 n, eq-eqb b 95 q) h

pub symbol_none : (x : List ℕ) (i b : ℕ) → b ≡ get_or x i 0 → (b ≡ 33 → ⊥) → (b ≡ 95 → ⊥) → false ≡ is_symbol x i
unfolding is_symbol
symbol_none x i b p n m = rw (← p, ne_eqb b 33 n, ne_eqb b 95 m)

-- numbers

-- A number that is read is at most 65,535.
value_small : (x : List ℕ) (i n e : ℕ) (r : Number) → r ≡ scan_number x i → r ≡ Some (n, e) → n ≤ 65535
value_small x i n e r p q = go (number a) (number_some a) (sym (read_number x i) ∙ sym p ∙ q)
  where
    a : List ℕ
    a = (span is_digit (drop i x)).taken

    go : (o : Option ℕ) → OnSome (λ k. (a ≡ decimal k) × (k ≤ max_number)) o → number_to (i + length a) o ≡ Some (n, e) → n ≤ 65535
    go none h k = absurd (let z : ◌≡◌ {A = ℕ} 0 1 = cc in omega arith)
    go (some m) h k = let z = (some_pair_parts m n (i + length a) e k).0 in let l = h.1 in omega arith

pub number_some_at : (x : List ℕ) (i n e : ℕ) (r : Number) → r ≡ scan_number x i → r ≡ Some (n, e) → (n ≡ number_at x i) × (n ≤ 65536)
unfolding number_at
number_some_at x i n e r p q = (rw (number_at, ← p, q), let l = value_small x i n e r p q in omega arith)

pub number_none_at : (x : List ℕ) (i : ℕ) (r : Number) → r ≡ scan_number x i → r ≡ None → (65536 ≡ number_at x i) × (65536 ≤ 65536)
unfolding number_at
number_none_at x i r p q = (rw (number_at, ← p, q), omega arith)

-- past the end there is no number

read_past : (x : List ℕ) (i : ℕ) → length x ≤ i → scan_number x (i + 1) ≡ None
unfolding scan_number is_digit
read_past x i h = let l : length x ≤ i + 1 = omega arith in rw (get_or-eq_default x 0 l)

pub number_past : (x : List ℕ) (i : ℕ) → length x ≤ i → (65536 ≡ number_at x (i + 1)) × (65536 ≤ 65536)
number_past x i h = number_none_at x (i + 1) None (sym (read_past x i h)) refl

pub level_past : (x : List ℕ) (i : ℕ) → length x ≤ i → 65536 ≡ level_at x i
unfolding level_at
level_past x i h = rw (level_at, read_past x i h)

pub level_some_at : (x : List ℕ) (i n e k : ℕ) (r : Number) → r ≡ scan_number x (i + 1) → r ≡ Some (n, e) → k ≡ number_at x (e + 1)
    → k ≡ level_at x i
unfolding level_at
level_some_at x i n e k r p q h = rw (level_at, ← p, q) h

pub level_none_at : (x : List ℕ) (i : ℕ) (r : Number) → r ≡ scan_number x (i + 1) → r ≡ None → 65536 ≡ level_at x i
unfolding level_at
level_none_at x i r p q = rw (level_at, ← p, q)

-- showings

pub showing_here : (x : List ℕ) (c n i b m : ℕ) (z : Bool) → b ≡ get_or x i 0 → b ≡ c → z ≡ is_symbol x i → z ≡ true → m ≡ number_at x (i + 1)
    → eqb m n ≡ is_showing x c n i
unfolding is_showing
showing_here x c n i b m z p q h k e = rw (← p, eq-eqb b c q, ← h, k, ← e)

pub showing_inside : (x : List ℕ) (c n i b : ℕ) (z : Bool) → b ≡ get_or x i 0 → b ≡ c → z ≡ is_symbol x i → z ≡ false
    → false ≡ is_showing x c n i
unfolding is_showing
showing_inside x c n i b z p q h k = rw (← p, eq-eqb b c q, ← h, k)

pub showing_other : (x : List ℕ) (c n i b : ℕ) → b ≡ get_or x i 0 → (b ≡ c → ⊥) → false ≡ is_showing x c n i
unfolding is_showing
showing_other x c n i b p q = rw (← p, ne_eqb b c q)

-- the first showing

-- A position with another byte is passed over.
skipped : (m : ℕ) (x : List ℕ) (c n i : ℕ) → length x - i ≡ m
    → level_from m x c n i ≡ level_from (length x - find_byte m x c i) x c n (find_byte m x c i)
unfolding level_from find_byte is_showing
skipped zero x c n i h = rw h
skipped (suc m) x c n i h = go (eqb (get_or x i 0) c) refl (λ l. skipped m x c n (i + 1) l)
  where
    go : (z : Bool) → eqb (get_or x i 0) c ≡ z
        → (length x - (i + 1) ≡ m → level_from m x c n (i + 1) ≡ level_from (length x - find_byte m x c (i + 1)) x c n
        (find_byte m x c (i + 1)))
        → level_from (suc m) x c n i ≡ level_from (length x - find_byte (suc m) x c i) x c n (find_byte (suc m) x c i)
    go true e f = rw (e, h, e)
    go false e f = let l : length x - (i + 1) ≡ m = omega arith in rw e (f l)

pub from_found : (x : List ℕ) (c n i j : ℕ) → j ≡ find_byte (length x - i) x c i
    → level_from (length x - i) x c n i ≡ level_from (length x - j) x c n j
from_found x c n i j e = rw e (skipped (length x - i) x c n i refl)

-- The position that is found is not before the one where the search begins.
pub found_later : (x : List ℕ) (c i j : ℕ) → j ≡ find_byte (length x - i) x c i → i ≤ j
found_later x c i j e = rw e (byte_least (length x - i) x c i)

pub from_here : (x : List ℕ) (c n i l : ℕ) (z : Bool) → i < length x → z ≡ is_showing x c n i → z ≡ true → l ≡ level_at x i
    → level_from (length x - i) x c n i ≡ l
unfolding level_from
from_here x c n i l z h p q e = let d : length x - i ≡ suc (length x - (i + 1)) = omega arith in rw (d, ← p, q) (sym e)

pub from_on : (x : List ℕ) (c n i : ℕ) (z : Bool) → i < length x → z ≡ is_showing x c n i → z ≡ false
    → level_from (length x - i) x c n i ≡ level_from (length x - (i + 1)) x c n (i + 1)
unfolding level_from
from_on x c n i z h p q = let d : length x - i ≡ suc (length x - (i + 1)) = omega arith in rw (d, ← p, q)

pub from_none : (x : List ℕ) (c n i : ℕ) → length x ≤ i → level_from (length x - i) x c n i ≡ 65536
unfolding level_from
from_none x c n i h = let d : length x - i ≡ 0 = omega arith in rw d

pub first_from : (x : List ℕ) (c n l : ℕ) → l ≡ level_from (length x - 0) x c n 0 → l ≡ first_level x c n
unfolding first_level
first_from x c n l h = let e : length x - 0 ≡ length x = omega arith in rw e at h
