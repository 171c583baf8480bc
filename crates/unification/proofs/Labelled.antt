-- Laws of document 003's definitions that speak of no store.
use Prim.Native.Nat.{ℕ, ◌≤◌}
use mathlib.Core.Path.{◌≡◌}
use mathlib.Core.Logic.{◌⊎◌, inl, inr}
use Rattle.terms.specs.Terms.{Appears}
use Rattle.unification.specs.Store.{var, con}
use Rattle.unification.specs.Labelled.{Substitution, Labelling, Proper, Induced, Composed}
use Rattle.unification.proofs.Substitution.{appears_apply}

-- A proper substitution that θ can go before is proper for the labelling that θ induces: a constant of φ(x), x appearing in
-- θ(y), appears in φ(θ(y)) = φ(y).
pub absorbed_proper : (L L' : Labelling) (θ φ : Substitution) → Induced L θ L' → Proper L φ → Composed φ.to φ.to θ.to → Proper L' φ
absorbed_proper L L' θ φ i p a x c k h = go (i.attained x)
  where
    go : ((L' x ≡ L x) ⊎ ((y : ℕ) × Appears (θ.to y) (var x) × (L' x ≡ L y))) → k ≤ L' x
    go (inl e) = rw e (p x c k h)
    go (inr w) = rw w.2 (p w.0 c k (rw (a w.0) (appears_apply (θ.to w.0) φ.to x (con c k) w.1 h)))
