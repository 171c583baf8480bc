-- Laws of `get_elem?`: what stands at a position of a list.
use Prim.Native.Nat.{ℕ, zero, suc, ◌-◌, ◌<◌, ◌≤◌}
use mathlib.Core.Path.{◌≡◌, refl, sym, ap, ◌∙◌}
use mathlib.Core.List.{List, [], ◌∷◌, ◌++◌, map}
use mathlib.Core.Option
use mathlib.Core.Option.{some}
use mathlib.Core.Logic.{◌⊎◌, inl, inr}
use lib.ListN.{length, drop, get_elem?}
use native.Mathlib.Omega.{arith}
use Rattle.terms.specs.Lists.{All}
use Rattle.sheet_format.proofs.Options.{OnSome, some_is}

-- What holds of every element holds of the one at a position, if there is one.
pub at_some : {A : Type 0} (P : A → Type 0) (l : List A) (i : ℕ) → All P l → OnSome P (get_elem? l i)
at_some P [] i h = tt
at_some P (a ∷ l) zero h = h.0
at_some P (a ∷ l) (suc i) h = at_some P l i h.1

-- What holds of every element holds of the element that stands at a position.
pub at_all : {A : Type 0} (P : A → Type 0) (l : List A) (i : ℕ) (a : A) → All P l → get_elem? l i ≡ some a → P a
at_all P l i a h e = some_is P (get_elem? l i) a (at_some P l i h) e

-- An element stays at its position when the list grows at the end.
pub at_append : {A : Type 0} (l m : List A) (i : ℕ) (a : A) → get_elem? l i ≡ some a → get_elem? (l ++ m) i ≡ some a
at_append [] m i a h = absurd (let z : ◌≡◌ {A = ℕ} 0 1 = cc in omega arith)
at_append (b ∷ l) m zero a h = h
at_append (b ∷ l) m (suc i) a h = at_append l m i a h

-- An element of a list with one more is the new one at the end, or stood there before.
pub at_snoc : {A : Type 0} (l : List A) (b : A) (i : ℕ) (a : A) → get_elem? (l ++ (b ∷ [])) i ≡ some a
    → (get_elem? l i ≡ some a) ⊎ ((i ≡ length l) × (a ≡ b))
at_snoc [] b zero a h = inr (refl, cc)
at_snoc [] b (suc i) a h = absurd (let z : ◌≡◌ {A = ℕ} 0 1 = cc in omega arith)
at_snoc (c ∷ l) b zero a h = inl h
at_snoc (c ∷ l) b (suc i) a h = elim (at_snoc l b i a h) [ inl q ↦ inl q | inr q ↦ inr (ap suc q.0, q.1) ]

-- An element of two lists joined, within the first list, is that of the first.
pub at_left : {A : Type 0} (a b : List A) (k : ℕ) → k < length a → get_elem? (a ++ b) k ≡ get_elem? a k
at_left [] b k h = absurd (omega arith)
at_left (x ∷ a) b zero h = refl
at_left (x ∷ a) b (suc k) h = at_left a b k (omega arith)

-- An element of two lists joined, past the first list, is that of the second.
pub at_right : {A : Type 0} (a b : List A) (k : ℕ) → length a ≤ k → get_elem? (a ++ b) k ≡ get_elem? b (k - length a)
at_right [] b k h = let e : k - 0 ≡ k = omega arith in ap (get_elem? b) (sym e)
at_right (x ∷ a) b zero h = absurd (omega arith)
at_right (x ∷ a) b (suc k) h =
    let e : suc k - suc (length a) ≡ k - length a = omega arith in
    at_right a b k (omega arith) ∙ ap (get_elem? b) (sym e)

-- An element of a mapped list is the image of that element.
pub at_map : {A B : Type 0} (f : A → B) (l : List A) (k : ℕ) → get_elem? (map f l) k ≡ Option.map f (get_elem? l k)
at_map f [] k = refl
at_map f (x ∷ l) zero = refl
at_map f (x ∷ l) (suc k) = at_map f l k

-- The list from a position on begins with the element there.
pub at_drop : {A : Type 0} (l : List A) (k : ℕ) (a : A) → get_elem? l k ≡ some a → drop k l ≡ a ∷ drop (suc k) l
at_drop [] k a e = absurd (let z : ◌≡◌ {A = ℕ} 0 1 = cc in omega arith)
at_drop (b ∷ l) zero a e = let q : b ≡ a = cc in rw q
at_drop (b ∷ l) (suc k) a e = at_drop l k a e
