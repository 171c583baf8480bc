-- Document 003 (Nadathur, CS-1992-17), section 4: definitions 1, 3, 4 and 5. Constants have fixed labels, which a made constant
-- carries; function symbols have label 0, so that they break no bound.
use Rattle.std.specs.Prelude.{ℕ, ◌≤◌, ◌≡◌, List, ◌⊎◌}
use Rattle.terms.specs.Lists.{All}
use Rattle.terms.specs.Terms.{Term, leaf, Appears}
use Rattle.unification.specs.Store.{Leaf, var, con, apply}
use Rattle.unification.specs.Matching.{Pair}

-- Definition 1: "a mapping on variables that is the identity except at the points specified", of which there are finitely many.
pub record Substitution : Type 0 where
  pub to : ℕ → Term Leaf
  pub beyond : ℕ
  pub finite : (x : ℕ) → beyond ≤ x → to x ≡ leaf (var x)

-- Labels of variables.
abbrev pub Labelling : Type 0
Labelling = ℕ → ℕ

-- Definition 3: θ is proper with respect to L if L(c) ≤ L(x) for every constant c appearing in θ(x).
abbrev pub Proper : Labelling → Substitution → Type 0
Proper L θ = (x c k : ℕ) → Appears (θ.to x) (con c k) → k ≤ L x

-- Definition 3: L'(x) = min ({L(x)} ∪ {L(y) | x appears in θ(y)}), a lower bound that is attained. Where θ is the identity it
-- adds L(x), which is in the set already: so proper and induced speak of the mapping, not of the set of pairs.
pub record Induced (L : Labelling) (θ : Substitution) (L' : Labelling) : Type 0 where
  pub own : (x : ℕ) → L' x ≤ L x
  pub other : (x y : ℕ) → Appears (θ.to y) (var x) → L' x ≤ L y
  pub attained : (x : ℕ) → (L' x ≡ L x) ⊎ ((y : ℕ) × Appears (θ.to y) (var x) × (L' x ≡ L y))

-- Definition 4: θ₂ = σ ∘ θ₁, as functions.
abbrev pub Composed : (ℕ → Term Leaf) → (ℕ → Term Leaf) → (ℕ → Term Leaf) → Type 0
Composed θ₂ σ θ₁ = (x : ℕ) → θ₂ x ≡ apply (θ₁ x) σ

-- Definition 4: θ₁ is more general than θ₂ relative to L.
pub record MoreGeneral (L : Labelling) (θ₁ θ₂ : Substitution) : Type 0 where
  pub proper₁ : Proper L θ₁
  pub proper₂ : Proper L θ₂
  pub through : (L' : Labelling) × Induced L θ₁ L' × (σ : Substitution) × Proper L' σ × Composed θ₂.to σ.to θ₁.to

-- Definition 5: unifiers of a disagreement set, and most general ones.
abbrev pub Disagreement : Type 0
Disagreement = List Pair

abbrev pub Unified : (ℕ → Term Leaf) → Pair → Type 0
Unified θ p = apply p.goal θ ≡ apply p.clause θ

pub record Unifier (L : Labelling) (T : Disagreement) (θ : Substitution) : Type 0 where
  pub proper : Proper L θ
  pub unifies : All (Unified θ.to) T

pub record MostGeneral (L : Labelling) (T : Disagreement) (θ : Substitution) : Type 0 where
  pub unifier : Unifier L T θ
  pub general : (φ : Substitution) → Unifier L T φ → MoreGeneral L θ φ
