-- The members that are tried stand in the program's list at the places that they are tried at.
use Prim.Native.Nat.{ℕ, suc}
use mathlib.Core.Path.{◌≡◌, refl, ◌∙◌}
use mathlib.Core.List.{List, [], ◌∷◌, map}
use Rattle.terms.specs.Lists.{Mem, here, there, place}
use Rattle.terms.proofs.Lists.{mem_map, place_map}

-- The element a stands in l at place k, the first place being j.
abbrev pub StandsAt : {A : Type 0} → ℕ → List A → ℕ → A → Type 0
StandsAt j l k a = (h : Mem a l) × (place j h ≡ k)

-- The elements of ms stand in l one after the other, from place k on.
abbrev pub Placed : {A : Type 0} → ℕ → List A → ℕ → List A → Type 0
Placed j l k [] = Unit {0}
Placed j l k (m ∷ ms) = StandsAt j l k m × Placed j l (suc k) ms

-- With one more element in front they stand where they stood, that one having the first place.
placed_there : {A : Type 0} (j : ℕ) (a : A) (l : List A) (k : ℕ) (ms : List A) → Placed (suc j) l k ms → Placed j (a ∷ l) k ms
unfolding place
placed_there j a l k [] h = tt
placed_there j a l k (m ∷ ms) h = ((there h.0.0, h.0.1), placed_there j a l (suc k) ms h.1)

-- The list itself, from the first place on.
pub placed_all : {A : Type 0} (j : ℕ) (l : List A) → Placed j l j l
unfolding place
placed_all j [] = tt
placed_all j (a ∷ l) = ((here, refl), placed_there j a l (suc j) l (placed_all (suc j) l))

-- A map keeps places.
pub stands_map : {A B : Type 0} (f : A → B) (j : ℕ) (l : List A) (k : ℕ) (a : A) → StandsAt j l k a → StandsAt j (map f l) k (f a)
stands_map f j l k a h = (mem_map f h.0, place_map f j h.0 ∙ h.1)
