-- A pair or a node that has not failed: nothing is to be settled. And subtraction cut at zero, by arithmetic.
use Prim.Native.Nat.{ℕ, ◌+◌, ◌-◌, ◌*◌, ◌/◌, ◌%◌, ◌≤◌, ◌<◌}
use native.Mathlib.Omega.{arith}
use native.Mathlib.Decide.{dec_le}
use mathlib.Core.Path.{◌≡◌}
use Rattle.machine_memory.proofs.Settling.{settled_pairs, settled_check, settled_sides, settled_due, settled_passed}

pub ruleset settled_acts = (settled_pairs, settled_check, settled_sides, settled_due, settled_passed)

-- 2^32 + a - b is at least 2^32 exactly if b is at most a, and the remainder is then the difference.
pub cut_difference : (a b : ℕ) → a < 4294967296 → b < 4294967296
    → (4294967296 + a - b) % 4294967296 * ((4294967296 + a - b) / 4294967296) ≡ a - b
cut_difference a b h k = go (dec_le b a)
  where
    go : Dec (b ≤ a) → (4294967296 + a - b) % 4294967296 * ((4294967296 + a - b) / 4294967296) ≡ a - b
    go (yes l) =
        let bit : (4294967296 + a - b) / 4294967296 ≡ 1 = omega arith in
        let rest : (4294967296 + a - b) % 4294967296 ≡ a - b = omega arith in
        rw (bit, rest) (omega arith)
    go (no l) =
        let bit : (4294967296 + a - b) / 4294967296 ≡ 0 = omega arith in
        let cut : a - b ≡ 0 = omega arith in
        rw (bit, cut) (omega arith)
