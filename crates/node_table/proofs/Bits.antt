-- A bit by division with a power of two.
use Prim.Native.Nat.{ℕ, zero, suc, ◌/◌, ◌%◌, ◌^◌, ◌≤◌, ◌<◌}
use native.Mathlib.Nat.{div-eq_of_lt, lt_of_lt_of_le}
use native.Mathlib.Numerals.{one-add}
use native.Mathlib.Omega.{arith}
use lib.Pow.{pow_mono, shr-shr}
use mathlib.Core.Path.{◌≡◌, sym, ap, ◌∙◌}
use Rattle.node_table.specs.Layout.{bit_of}

pub bit_shifted : (m v : ℕ) → m / 2 ^ v % 2 ≡ bit_of m v
unfolding bit_of
bit_shifted m zero = omega arith
bit_shifted m (suc v) =
    ap (λ (k : ℕ). m / 2 ^ k % 2) (sym (one-add v)) ∙ ap (λ (x : ℕ). x % 2) (sym (shr-shr m 1 v)) ∙ bit_shifted (m / 2) v

pub bit_high : (m v : ℕ) → m < 2 ^ 32 → 32 ≤ v → 0 ≡ bit_of m v
bit_high m v l h = sym (ap (λ (x : ℕ). x % 2) (div-eq_of_lt (lt_of_lt_of_le l (pow_mono h)))) ∙ bit_shifted m v
