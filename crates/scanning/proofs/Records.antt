-- Writes to one record keep the others; frames that are copied.
use Prim.Native.Nat.{ℕ, zero, suc, ◌+◌, ◌*◌, ◌<◌, ◌≤◌}
use native.Mathlib.Omega.{arith}
use mathlib.Core.Path.{◌≡◌, refl, sym, ap, ◌∙◌}
use mathlib.Core.Bool.{Bool, true, false}
use mathlib.Core.List.{List, [], ◌∷◌}
use lib.Dec.{eqb}
use lib.ListN.{length, drop}
use lib.Seq.{drop-set-lt}
use borrow.Author.Tests.{eqb-true, eqb-false}
use Rattle.memory.specs.Records.{field, put_field}
use Rattle.memory.proofs.Records.{length_put, field_same, field_other, record_other, puts}
use Rattle.scanning.specs.Frames.{put_range, copy_ranges, bind_frame}

-- The buffer has record q.
abbrev pub Room : ℕ → List ℕ → Type 0
Room q w = 64 * suc q ≤ length w

-- Another memory that is the same but for record q.
pub record Kept (q : ℕ) (w w' : List ℕ) : Type 0 where
  pub size : length w' ≡ length w
  pub others : (r f : ℕ) → (r ≡ q → ⊥) → f < 64 → field w' r f ≡ field w r f
  pub after : drop (64 * suc q) w' ≡ drop (64 * suc q) w

-- A buffer agrees with itself outside record q.
pub kept_self : (q : ℕ) (w : List ℕ) → Kept q w w
kept_self q w = record { size = refl; others = λ r f h l. refl; after = refl }

-- Two changes that keep all but record q keep all but record q together.
pub kept_then : (q : ℕ) (u v w : List ℕ) → Kept q u v → Kept q v w → Kept q u w
kept_then q u v w h k = record {
  size = k.size ∙ h.size;
  others = λ r f n l. k.others r f n l ∙ h.others r f n l;
  after = k.after ∙ h.after;
}

-- Writing one number to record q keeps all other records.
pub put_kept : (w : List ℕ) (q f a : ℕ) → f < 64 → Kept q w (put_field w q f a)
unfolding put_field
put_kept w q f a l = record {
  size = length_put w q f a;
  others = λ r g n m. record_other w q f r g a l m n;
  after = drop-set-lt (64 * suc q) w (64 * q + f) a (omega arith);
}

-- A record that the buffer has is still there after a change of record q.
pub kept_room : (q r : ℕ) (w w' : List ℕ) → Kept q w w' → Room r w → Room r w'
kept_room q r w w' h l = let e = h.size in omega arith

-- Several numbers are written one after the other.
pub puts_kept : (l w : List ℕ) (q f : ℕ) → f + length l ≤ 64 → Kept q w (puts l w q f)
unfolding puts
puts_kept [] w q f h = kept_self q w
puts_kept (a ∷ l) w q f h =
    kept_then q w (put_field w q f a) (puts l (put_field w q f a) q (suc f)) (put_kept w q f a (omega arith))
    (puts_kept l (put_field w q f a) q (suc f) (omega arith))

-- frames

-- Writing the position of a name to record q keeps all other records.
pub slot_kept : (w : List ℕ) (q v s e : ℕ) → v < 8 → Kept q w (put_range w q v s e)
unfolding put_range
slot_kept w q v s e l =
    kept_then q w (put_field w q (2 * v) s) (put_field (put_field w q (2 * v) s) q (2 * v + 1) e) (put_kept w q (2 * v) s (omega arith))
    (put_kept (put_field w q (2 * v) s) q (2 * v + 1) e (omega arith))

-- Copying a frame to record q keeps all other records.
pub copy_kept : (n : ℕ) (w : List ℕ) (q p f : ℕ) → f + n ≤ 64 → Kept q w (copy_ranges n w q p f)
unfolding copy_ranges
copy_kept zero w q p f h = kept_self q w
copy_kept (suc n) w q p f h =
    kept_then q w (put_field w q f (field w p f)) (copy_ranges n (put_field w q f (field w p f)) q p (f + 1))
    (put_kept w q f (field w p f) (omega arith)) (copy_kept n (put_field w q f (field w p f)) q p (f + 1) (omega arith))

-- Copying fields from f on keeps the fields before f.
copy_before : (n : ℕ) (w : List ℕ) (q p f g : ℕ) → f + n ≤ 64 → g < f → field (copy_ranges n w q p f) q g ≡ field w q g
unfolding copy_ranges
copy_before zero w q p f g h k = refl
copy_before (suc n) w q p f g h k =
    copy_before n (put_field w q f (field w p f)) q p (f + 1) g (omega arith) (omega arith)
    ∙ field_other w q f q g (field w p f) (omega arith) (omega arith) (λ e. omega arith)

-- Each copied field has the value that it has in the other record.
pub copy_at : (n : ℕ) (w : List ℕ) (q p f g : ℕ) → Room q w → (p ≡ q → ⊥) → f + n ≤ 64 → f ≤ g → g < f + n
    → field (copy_ranges n w q p f) q g ≡ field w p g
unfolding copy_ranges
copy_at zero w q p f g r d h k m = absurd (omega arith)
copy_at (suc n) w q p f g r d h k m =
    let a = field w p f in
    go (eqb f g) refl
    (λ l. copy_at n (put_field w q f a) q p (f + 1) g (kept_room q q w (put_field w q f a) (put_kept w q f a (omega arith)) r) d
    (omega arith) l (omega arith)
    ∙ (put_kept w q f a (omega arith)).others p g d (omega arith))
  where
    go : (z : Bool) → eqb f g ≡ z → (f + 1 ≤ g → field (copy_ranges n (put_field w q f (field w p f)) q p (f + 1)) q g ≡ field w p g)
        → field (copy_ranges n (put_field w q f (field w p f)) q p (f + 1)) q g ≡ field w p g
    go true e ih =
        let i = eqb-true f g e in
        ap (field (copy_ranges n (put_field w q f (field w p f)) q p (f + 1)) q) (sym i)
        ∙ copy_before n (put_field w q f (field w p f)) q p (f + 1) f (omega arith) (omega arith)
        ∙ field_same w q f (field w p f) (omega arith) ∙ ap (field w p) i
    go false e ih = let i = eqb-false f g e in ih (omega arith)

-- Copying a frame to record q and changing one position keeps all other records.
pub bind_kept : (w : List ℕ) (q p v s e : ℕ) → v < 8 → Kept q w (bind_frame w q p v s e)
unfolding bind_frame
bind_kept w q p v s e l =
    kept_then q w (copy_ranges 16 w q p 0) (put_range (copy_ranges 16 w q p 0) q v s e) (copy_kept 16 w q p 0 (omega arith))
    (slot_kept (copy_ranges 16 w q p 0) q v s e l)
