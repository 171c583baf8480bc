-- Reads after writes in records of 64 numbers.
use Prim.Native.Nat.{ℕ, zero, suc, ◌+◌, ◌*◌, ◌≤◌, ◌<◌}
use native.Mathlib.Omega.{arith}
use mathlib.Core.Bool.{Bool, true, false}
use mathlib.Core.Path.{◌≡◌, refl, ap, ◌∙◌}
use mathlib.Core.List.{List, [], ◌∷◌}
use mathlib.Core.Logic.{◌⊎◌, inl, inr}
use lib.Dec.{eqb, ltb}
use lib.ListN.{length, get_or, set, length-set}
use lib.Seq.{get_or-set_same, get_or-set_other, set_out}
use borrow.Author.Tests.{ltb-true, ltb-false, eqb-true, eqb-false}
use Rattle.memory.specs.Records.{field, put_field}

-- A write keeps the length.
pub length_put : (w : List ℕ) (u f a : ℕ) → length (put_field w u f a) ≡ length w
unfolding put_field
length_put w u f a = length-set w (64 * u + f) a

-- What was written is read.
pub field_same : (w : List ℕ) (u f a : ℕ) → 64 * u + f < length w → field (put_field w u f a) u f ≡ a
unfolding field put_field
field_same w u f a h = get_or-set_same w (64 * u + f) a 0 h

-- Another field of any record stays.
pub field_other : (w : List ℕ) (u f v g a : ℕ) → f < 64 → g < 64 → (g ≡ f → ⊥) → field (put_field w u f a) v g ≡ field w v g
unfolding field put_field
field_other w u f v g a p q n = get_or-set_other w (64 * u + f) (64 * v + g) a 0 (λ e. n (omega arith))

-- Any field of another record stays.
pub record_other : (w : List ℕ) (u f v g a : ℕ) → f < 64 → g < 64 → (v ≡ u → ⊥) → field (put_field w u f a) v g ≡ field w v g
unfolding field put_field
record_other w u f v g a p q n = get_or-set_other w (64 * u + f) (64 * v + g) a 0 (λ e. n (omega arith))

-- Two memories that agree at a position agree there after the same write.
set_agree : (l m : List ℕ) (i j a : ℕ) → length m ≡ length l → get_or m j 0 ≡ get_or l j 0 → get_or (set m i a) j 0 ≡ get_or (set l i a) j 0
set_agree l m i j a e h = go (eqb j i) refl (ltb i (length l)) refl
  where
    go : (b : Bool) → eqb j i ≡ b → (c : Bool) → ltb i (length l) ≡ c → get_or (set m i a) j 0 ≡ get_or (set l i a) j 0
    go true p true q =
        let z = ltb-true i (length l) q in
        rw (eqb-true j i p, get_or-set_same m i a 0 (omega arith), get_or-set_same l i a 0 z)
    go true p false q = let z = ltb-false i (length l) q in rw (set_out m i a (omega arith), set_out l i a z) h
    go false p c q = rw (get_or-set_other m i j a 0 (eqb-false j i p), get_or-set_other l i j a 0 (eqb-false j i p)) h

-- Two memories that agree at a field agree there after the same write.
pub field_agree : (w w' : List ℕ) (u f a v g : ℕ) → length w' ≡ length w → field w' v g ≡ field w v g
    → field (put_field w' u f a) v g ≡ field (put_field w u f a) v g
unfolding field put_field
field_agree w w' u f a v g e h = set_agree w w' (64 * u + f) (64 * v + g) a e h

-- A write comes after others, in the form of the facts on the code's paths.
pub and_put : {w₁ x w₂ : List ℕ} (u f a : ℕ) → w₁ ≡ x → w₂ ≡ put_field w₁ u f a → w₂ ≡ put_field x u f a
and_put u f a p q = q ∙ ap (λ l. put_field l u f a) p

-- Several fields of one record are written in a row.
unfoldable pub puts : List ℕ → List ℕ → ℕ → ℕ → List ℕ
puts [] w u f = w
puts (a ∷ l) w u f = puts l (put_field w u f a) u (suc f)

-- Fields before and after them stay.
pub puts_out : (l w : List ℕ) (u f v g : ℕ) → f + length l ≤ 64 → g < 64 → (g < f ⊎ f + length l ≤ g)
    → field (puts l w u f) v g ≡ field w v g
unfolding puts
puts_out [] w u f v g h k o = refl
puts_out (a ∷ l) w u f v g h k (inl o) =
    puts_out l (put_field w u f a) u (suc f) v g (omega arith) k (inl (omega arith))
    ∙ field_other w u f v g a (omega arith) k (λ e. omega arith)
puts_out (a ∷ l) w u f v g h k (inr o) =
    puts_out l (put_field w u f a) u (suc f) v g (omega arith) k (inr (omega arith))
    ∙ field_other w u f v g a (omega arith) k (λ e. omega arith)

-- Each of them is read as it was written.
pub puts_at : (l w : List ℕ) (u f i : ℕ) → f + length l ≤ 64 → 64 * u + 63 < length w → i < length l
    → field (puts l w u f) u (f + i) ≡ get_or l i 0
unfolding puts
puts_at [] w u f i h k o = absurd (omega arith)
puts_at (a ∷ l) w u f zero h k o =
    let e : f + 0 ≡ f = omega arith in
    rw e (puts_out l (put_field w u f a) u (suc f) u f (omega arith) (omega arith) (inl (omega arith)) ∙ field_same w u f a (omega arith))
puts_at (a ∷ l) w u f (suc i) h k o =
    let e : f + suc i ≡ suc f + i = omega arith in
    let m = length_put w u f a in
    rw e (puts_at l (put_field w u f a) u (suc f) i (omega arith) (omega arith) (omega arith))

-- The length stays.
pub length_puts : (l w : List ℕ) (u f : ℕ) → length (puts l w u f) ≡ length w
unfolding puts
length_puts [] w u f = refl
length_puts (a ∷ l) w u f = length_puts l (put_field w u f a) u (suc f) ∙ length_put w u f a
