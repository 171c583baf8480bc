-- One law for each way through a turn of a loop or through a call; the hypotheses are the facts on the code's path.
use Prim.Native.Nat.{ℕ, zero, suc, ◌+◌, ◌-◌, ◌≤◌, ◌<◌}
use native.Mathlib.Omega.{arith}
use mathlib.Core.Path.{◌≡◌, refl}
use mathlib.Core.List.{List}
use borrow.Author.Tests.{eq-eqb, ne_eqb}
use Rattle.machine.specs.Fields as fields
use Rattle.machine.specs.Trail.{undo_entry, undo}
use Rattle.memory.specs.Records.{field}

-- The trail.
pub undo_end : (n e : ℕ) (w : List ℕ) (h mark : ℕ) → n ≤ e → undo (n - e) w h mark ≡ w
unfolding undo
undo_end n e w h mark p = let k : n - e ≡ 0 = omega arith in rw k

pub undo_done : (n : ℕ) (w : List ℕ) (h mark : ℕ) → h ≡ mark → undo n w h mark ≡ w
unfolding undo
undo_done zero w h mark e = refl
undo_done (suc n) w h mark e = simp (undo, eq-eqb _ _ e)

pub undo_on : (n e : ℕ) (w w' : List ℕ) (h mark q b : ℕ) → e < n → (h ≡ mark → ⊥) → q ≡ h - 1 → b ≡ field w q fields.entry_before
    → w' ≡ undo_entry w q → undo (n - e) w h mark ≡ undo (n - (e + 1)) w' b mark
unfolding undo
undo_on n e w w' h mark q b p d eq eb ew =
    let k : n - e ≡ suc (n - (e + 1)) = omega arith in rw (k, ew, eb, eq) (simp (undo, ne_eqb _ _ d))
