-- One law for each way through a turn of a loop or through a call; the hypotheses are the facts on the code's path.
use Prim.Native.Nat.{ℕ, ◌+◌, ◌-◌, ◌*◌, ◌<◌, ◌≤◌}
use native.Mathlib.Omega.{arith}
use mathlib.Core.Path.{◌≡◌, refl, sym, ◌∙◌}
use mathlib.Core.Bool.{Bool, true, false}
use mathlib.Core.List.{List}
use lib.ListN.{length, get_or}
use borrow.Author.Tests.{le-leb, lt-leb}
use Rattle.sheet_format.specs.Bytes.{is_digit, is_name_byte}
use Rattle.sheet_format.proofs.Bytes.{digit_bounds}
use Rattle.std.specs.Prelude.{Some, None}
use Rattle.scanning.specs.Ranges.{number_from}
use Rattle.scanning.specs.Scanning.{name_from, name_end}
use Rattle.term_scanner.proofs.ranges.Laws.{inside, one_less}

-- the end of a name

pub end_start : (x : List ℕ) (i : ℕ) → name_end x i ≡ name_from (length x - i) x i
unfolding name_end
end_start x i = refl

pub end_stop : (x : List ℕ) (i : ℕ) → length x ≤ i → name_from (length x - i) x i ≡ i
unfolding name_from
end_stop x i h = let e : length x - i ≡ 0 = omega arith in rw e

pub end_here : (x : List ℕ) (i : ℕ) (z : Bool) → i < length x → z ≡ is_name_byte (get_or x i 0) → z ≡ false → name_from (length x - i) x i ≡ i
unfolding name_from
end_here x i z h e k = rw (one_less x i h, ← e, k)

pub end_on : (x : List ℕ) (i : ℕ) (z : Bool) → i < length x → z ≡ is_name_byte (get_or x i 0) → z ≡ true
    → name_from (length x - i) x i ≡ name_from (length x - (i + 1)) x (i + 1)
unfolding name_from
end_on x i z h e k = rw (one_less x i h, ← e, k)

-- numbers

pub number_stop : (x : List ℕ) (i v : ℕ) → length x ≤ i → number_from (length x - i) x i v ≡ Some (v, i)
unfolding number_from
number_stop x i v h = let e : length x - i ≡ 0 = omega arith in rw e

-- The position i is in the text, and z says whether its byte is a digit.
module _ (x : List ℕ) (i v : ℕ) (z : Bool) (h : i < length x) (d : z ≡ is_digit (get_or x i 0)) where
  pub number_ended : z ≡ false → number_from (length x - i) x i v ≡ Some (v, i)
  unfolding number_from
  number_ended e = rw (one_less x i h, ← d, e)

  pub number_much : z ≡ true → 65535 < 10 * v + (get_or x i 0 - 48) → number_from (length x - i) x i v ≡ None
  unfolding number_from
  number_much e l = rw (one_less x i h, ← d, e, lt-leb (10 * v + (get_or x i 0 - 48)) 65535 l)

  pub number_on : z ≡ true → 10 * v + (get_or x i 0 - 48) ≤ 65535
      → number_from (length x - i) x i v ≡ number_from (length x - (i + 1)) x (i + 1) (10 * v + (get_or x i 0 - 48))
  unfolding number_from
  number_on e l = rw (one_less x i h, ← d, e, le-leb (10 * v + (get_or x i 0 - 48)) 65535 l)

-- digits

pub digit_least : (b : ℕ) (z : Bool) → z ≡ is_digit b → z ≡ true → 48 ≤ b
digit_least b z e h = (digit_bounds b (sym e ∙ h)).0

pub digit_inside : (x : List ℕ) (i b : ℕ) (z : Bool) → b ≡ get_or x i 0 → z ≡ is_digit b → z ≡ true → i < length x
digit_inside x i b z e d h = let l = digit_least b z d h in inside x i b b e refl (omega arith)
