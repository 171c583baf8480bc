-- Masks bit by bit: union, one bit alone, one bit taken away; a mask with no bit is 0.
use Prim.Native.Nat.{ℕ, zero, suc, ◌+◌, ◌*◌, ◌/◌, ◌%◌, max, ◌<◌, ◌≤◌}
use native.Mathlib.Omega.{arith}
use mathlib.Core.Bool.{Bool, true, false, not, ◌&&◌, ◌||◌}
use mathlib.Core.Path.{◌≡◌, refl, sym, ap, ap₂, ◌∙◌}
use lib.Bits.{bit_or, or_step}
use lib.Dec.{eqb}
use borrow.Author.Tests.{eqb-true, eqb-false, eq-eqb, ne_eqb}
use Rattle.node_table.specs.Layout.{bit_of}
use Rattle.table_builder.specs.Nodes.{only_bit, without_bit}

-- A bit is 0 or 1.
pub bit_below : (v m : ℕ) → bit_of m v < 2
unfolding bit_of
bit_below zero m = omega arith
bit_below (suc v) m = bit_below v (m / 2)

pub bit_none : (v : ℕ) → bit_of 0 v ≡ 0
unfolding bit_of
bit_none zero = refl
bit_none (suc v) = bit_none v

-- union

half_or : (a b : ℕ) → bit_or a b / 2 ≡ bit_or (a / 2) (b / 2)
half_or a b = let e = or_step a b in omega arith

odd_or : (a b : ℕ) → bit_or a b % 2 ≡ max (a % 2) (b % 2)
odd_or a b = let e = or_step a b in omega arith

bit_of_or : (v a b : ℕ) → bit_of (bit_or a b) v ≡ max (bit_of a v) (bit_of b v)
unfolding bit_of
bit_of_or zero a b = odd_or a b
bit_of_or (suc v) a b = ap (λ (m : ℕ). bit_of m v) (half_or a b) ∙ bit_of_or v (a / 2) (b / 2)

max_or : (x y : ℕ) → x < 2 → y < 2 → eqb (max x y) 1 ≡ (eqb x 1 || eqb y 1)
max_or zero zero h k = refl
max_or zero (suc zero) h k = refl
max_or zero (suc (suc y)) h k = absurd (omega arith)
max_or (suc zero) zero h k = refl
max_or (suc zero) (suc zero) h k = refl
max_or (suc zero) (suc (suc y)) h k = absurd (omega arith)
max_or (suc (suc x)) y h k = absurd (omega arith)

pub bit_or_lem : (v a b : ℕ) → eqb (bit_of (bit_or a b) v) 1 ≡ (eqb (bit_of a v) 1 || eqb (bit_of b v) 1)
bit_or_lem v a b = ap (λ (x : ℕ). eqb x 1) (bit_of_or v a b) ∙ max_or (bit_of a v) (bit_of b v) (bit_below v a) (bit_below v b)

-- one bit

only_double : (v : ℕ) → v < 7 → only_bit (suc v) ≡ 2 * only_bit v
unfolding only_bit
only_double zero h = refl
only_double (suc zero) h = refl
only_double (suc (suc zero)) h = refl
only_double (suc (suc (suc zero))) h = refl
only_double (suc (suc (suc (suc zero)))) h = refl
only_double (suc (suc (suc (suc (suc zero))))) h = refl
only_double (suc (suc (suc (suc (suc (suc zero)))))) h = refl
only_double (suc (suc (suc (suc (suc (suc (suc v))))))) h = absurd (omega arith)

twice_odd : (x : ℕ) → 2 * x % 2 ≡ 0
twice_odd x = omega arith

twice_half : (x : ℕ) → 2 * x / 2 ≡ x
twice_half x = omega arith

eqb_suc : (v w : ℕ) → eqb (suc v) (suc w) ≡ eqb v w
eqb_suc v w = go (eqb v w) refl
  where
    go : (b : Bool) → eqb v w ≡ b → eqb (suc v) (suc w) ≡ b
    go true e = eq-eqb (suc v) (suc w) (ap suc (eqb-true v w e))
    go false e = let d = eqb-false v w e in ne_eqb (suc v) (suc w) (λ q. d (omega arith))

pub bit_only : (v w : ℕ) → v < 8 → eqb (bit_of (only_bit v) w) 1 ≡ eqb v w
unfolding bit_of only_bit
bit_only zero zero h = refl
bit_only zero (suc w) h = ap (λ (x : ℕ). eqb x 1) (bit_none w) ∙ sym (ne_eqb 0 (suc w) (λ e. omega arith))
bit_only (suc v) zero h =
    ap (λ (x : ℕ). eqb (x % 2) 1) (only_double v (omega arith)) ∙ ap (λ (x : ℕ). eqb x 1) (twice_odd (only_bit v))
    ∙ sym (ne_eqb (suc v) 0 (λ e. omega arith))
bit_only (suc v) (suc w) h =
    ap (λ (x : ℕ). eqb (bit_of (x / 2) w) 1) (only_double v (omega arith)) ∙ ap (λ (x : ℕ). eqb (bit_of x w) 1) (twice_half (only_bit v))
    ∙ bit_only v w (omega arith) ∙ sym (eqb_suc v w)

-- a bit taken away

without_odd : (x y : ℕ) → y < 2 → (x * 2 + y) % 2 ≡ y
without_odd x y h = omega arith

without_half : (x y : ℕ) → y < 2 → (x * 2 + y) / 2 ≡ x
without_half x y h = omega arith

pub bit_without : (v m w : ℕ) → eqb (bit_of (without_bit v m) w) 1 ≡ (not (eqb v w) && eqb (bit_of m w) 1)
unfolding bit_of without_bit
bit_without zero m zero = let e : m / 2 * 2 % 2 ≡ 0 = omega arith in ap (λ (x : ℕ). eqb x 1) e
bit_without zero m (suc w) =
    let e : m / 2 * 2 / 2 ≡ m / 2 = omega arith in
    ap (λ (x : ℕ). eqb (bit_of x w) 1) e ∙ ap (λ (b : Bool). not b && eqb (bit_of (m / 2) w) 1) (sym (ne_eqb 0 (suc w) (λ e. omega arith)))
bit_without (suc v) m zero =
    ap (λ (x : ℕ). eqb x 1) (without_odd (without_bit v (m / 2)) (m % 2) (omega arith))
    ∙ ap (λ (b : Bool). not b && eqb (m % 2) 1) (sym (ne_eqb (suc v) 0 (λ e. omega arith)))
bit_without (suc v) m (suc w) =
    ap (λ (x : ℕ). eqb (bit_of x w) 1) (without_half (without_bit v (m / 2)) (m % 2) (omega arith)) ∙ bit_without v (m / 2) w
    ∙ ap (λ (b : Bool). not b && eqb (bit_of (m / 2) w) 1) (sym (eqb_suc v w))

pub without_le : (v m : ℕ) → without_bit v m ≤ m
unfolding without_bit
without_le zero m = omega arith
without_le (suc v) m = let h = without_le v (m / 2) in omega arith

-- no bit

-- There are no bits from the n-th on.
unfoldable Ends : ℕ → ℕ → Type 0
Ends zero m = m ≡ 0
Ends (suc n) m = Ends n (m / 2)

none_left_lem : (m : ℕ) → (eqb (m % 2) 1 || not (eqb (m / 2) 0)) ≡ not (eqb m 0)
none_left_lem m = go (eqb (m % 2) 1) refl (eqb (m / 2) 0) refl
  where
    go : (a : Bool) → eqb (m % 2) 1 ≡ a → (b : Bool) → eqb (m / 2) 0 ≡ b → (a || not b) ≡ not (eqb m 0)
    go true p b q = let e = eqb-true (m % 2) 1 p in sym (ap not (ne_eqb m 0 (λ z. omega arith)))
    go false p true q = let d = eqb-false (m % 2) 1 p in let e = eqb-true (m / 2) 0 q in sym (ap not (eq-eqb m 0 (omega arith)))
    go false p false q = let e = eqb-false (m / 2) 0 q in sym (ap not (ne_eqb m 0 (λ z. e (omega arith))))

-- The test f holds of one of the n numbers from v on.
unfoldable pub any_of : ℕ → ℕ → (ℕ → Bool) → Bool
any_of zero v f = false
any_of (suc n) v f = f v || any_of n (suc v) f

any_bits : (n v m : ℕ) (f : ℕ → Bool) → Ends n m → ((w : ℕ) → w < n → f (v + w) ≡ eqb (bit_of m w) 1) → any_of n v f ≡ not (eqb m 0)
unfolding Ends any_of bit_of
any_bits zero v m f h k = sym (ap not (eq-eqb m 0 h))
any_bits (suc n) v m f h k =
    let e : v + 0 ≡ v = omega arith in
    ap₂ ◌||◌ (ap f (sym e) ∙ k 0 (omega arith))
    (any_bits n (suc v) (m / 2) f h (λ w l. let d : suc v + w ≡ v + suc w = omega arith in ap f d ∙ k (suc w) (omega arith)))
    ∙ none_left_lem m

-- A mask of eight bits has one that is set exactly if it is not 0.
pub any_bit : (m : ℕ) (f : ℕ → Bool) → m < 256 → ((w : ℕ) → w < 8 → f w ≡ eqb (bit_of m w) 1) → any_of 8 0 f ≡ not (eqb m 0)
unfolding Ends
any_bit m f h k = any_bits 8 0 m f (omega arith) (λ w l. let e : 0 + w ≡ w = omega arith in ap f e ∙ k w l)
