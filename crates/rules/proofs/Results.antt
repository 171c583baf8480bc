-- A write of a row of numbers, and of one more after them.
use Prim.Native.Nat.{ℕ, zero, suc, min}
use native.Mathlib.Omega.{arith}
use mathlib.Core.Path.{◌≡◌, refl, ap, ◌∙◌}
use mathlib.Core.List.{List, [], ◌∷◌, ◌++◌}
use lib.ListN.{length, set, take, drop}
use Rattle.rules.specs.Results.{put_front}

none : (l : List ℕ) → l ≡ put_front [] l
unfolding put_front
none [] = refl
none (x ∷ l) = refl

-- As many numbers as both lists have are copied.
pub copied : (numbers l : List ℕ) (n : ℕ) → n ≡ min (length l) (length numbers) → take n numbers ++ drop n l ≡ put_front numbers l
unfolding put_front
copied [] [] n e = let z : n ≡ 0 = omega arith in rw z refl
copied [] (x ∷ l) n e = let z : n ≡ 0 = omega arith in rw z refl
copied (a ∷ numbers) [] n e = let z : n ≡ 0 = omega arith in rw z refl
copied (a ∷ numbers) (x ∷ l) zero e = absurd (omega arith)
copied (a ∷ numbers) (x ∷ l) (suc n) e = ap {B = List ℕ} (a ∷◌) (copied numbers l n (omega arith))

next : (numbers l : List ℕ) (a : ℕ) → set (put_front numbers l) (length numbers) a ≡ put_front (numbers ++ a ∷ []) l
unfolding put_front
next [] [] a = refl
next [] (x ∷ l) a = ap {B = List ℕ} (λ r. a ∷ r) (none l)
next (b ∷ numbers) [] a = refl
next (b ∷ numbers) (x ∷ l) a = ap {B = List ℕ} (λ r. b ∷ r) (next numbers l a)

-- A write after others.
pub and_put : (l l₁ l₂ numbers : List ℕ) (a : ℕ) → l₁ ≡ put_front numbers l → l₂ ≡ set l₁ (length numbers) a
    → l₂ ≡ put_front (numbers ++ a ∷ []) l
and_put l l₁ l₂ numbers a p q = q ∙ ap (λ k. set k (length numbers) a) p ∙ next numbers l a
