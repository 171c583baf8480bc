-- One law for each way through a turn of a loop or through a call; the hypotheses are the facts on the code's path.
use Prim.Native.Nat.{ℕ, suc, ◌+◌, ◌-◌, ◌*◌, ◌<◌, ◌≤◌}
use native.Mathlib.Omega.{arith}
use mathlib.Core.Path.{◌≡◌, refl}
use mathlib.Core.List.{List}
use Rattle.scanning.specs.Fields as fields
use Rattle.scanning.specs.Frames.{put_range, copy_ranges, bind_frame}
use Rattle.memory.specs.Records.{field, put_field}

pub slot_made : (w w₁ w₂ : List ℕ) (r v s e : ℕ) → w₁ ≡ put_field w r (2 * v) s → w₂ ≡ put_field w₁ r (2 * v + 1) e → w₂ ≡ put_range w r v s e
unfolding put_range
slot_made w w₁ w₂ r v s e p q = rw (q, p)

pub copy_end : (e : ℕ) (w : List ℕ) (r q f : ℕ) → e ≤ f → copy_ranges (e - f) w r q f ≡ w
unfolding copy_ranges
copy_end e w r q f h = let z : e - f ≡ 0 = omega arith in rw z refl

pub copy_on : (e : ℕ) (w w' : List ℕ) (r q f a : ℕ) → f < e → a ≡ field w q f → w' ≡ put_field w r f a
    → copy_ranges (e - f) w r q f ≡ copy_ranges (e - (f + 1)) w' r q (f + 1)
unfolding copy_ranges
copy_on e w w' r q f a h p y = let z : e - f ≡ suc (e - (f + 1)) = omega arith in rw z (rw (y, p) refl)

pub bind_made : (w w₁ w₂ : List ℕ) (r q v s e : ℕ) → w₁ ≡ copy_ranges fields.frame_numbers w r q 0 → w₂ ≡ put_range w₁ r v s e
    → w₂ ≡ bind_frame w r q v s e
unfolding bind_frame
bind_made w w₁ w₂ r q v s e p h = rw (h, p)
