-- What every layer says of lists and of mappings on numbers.
use Rattle.std.specs.Prelude.{ℕ, suc, Bool, true, false, cond, List, [], ◌∷◌, eqb}
use Rattle.std.proofs.Math.Option.{Option, none, some}

-- P holds of every element.
abbrev pub All : {A : Type 0} → (A → Type 0) → List A → Type 0
All P [] = Unit {0}
All P (a ∷ l) = P a × All P l

-- The element a stands in the list, at the position that the proof shows.
pub data Mem {A : Type 0} : A → List A → Type 0 where
  here : {a : A} {l : List A} → Mem a (a ∷ l)
  there : {a b : A} {l : List A} → Mem a l → Mem a (b ∷ l)

-- The place, the first one being k.
unfoldable pub place : {A : Type 0} {a : A} {l : List A} → ℕ → Mem a l → ℕ
place k here = k
place k (there h) = place (suc k) h

-- The list has the number v.
unfoldable pub elem : ℕ → List ℕ → Bool
elem v [] = false
elem v (w ∷ ws) = elim (eqb w v) [ true ↦ true | false ↦ elem v ws ]

-- The mapping with another value at v.
unfoldable pub update : {A : Type 0} → (ℕ → A) → ℕ → A → ℕ → A
update e v a w = cond (eqb w v) a (e w)
