-- Substitutions on the terms of a search.
use Prim.Native.Nat.{ℕ}
use mathlib.Core.Path.{◌≡◌, refl, sym, ◌∙◌, ap, fun_ext}
use mathlib.Core.Bool.{true≢false}
use Rattle.terms.specs.Terms.{Term, leaf, substitute, Appears}
use Rattle.terms.proofs.Lists.{update_same, update_other}
use Rattle.terms.proofs.Terms.{substitute_substitute, substitute_agree, substitute_leaf, appears_substitute, substitute_appears}
use Rattle.unification.specs.Store.{Leaf, var, con, at, apply, only_at}

-- A made constant is no variable.
pub con_not_var : (c k x : ℕ) → con c k ≡ var x → ⊥
con_not_var c k x e = true≢false (cc)

-- One substitution after another.
pub apply_apply : (t : Term Leaf) (θ φ : ℕ → Term Leaf) → apply (apply t θ) φ ≡ apply t (λ x. apply (θ x) φ)
unfolding at substitute
apply_apply t θ φ = substitute_substitute t (at θ) (at φ) ∙ ap (substitute t) (fun_ext go)
  where
    go : (a : Leaf) → substitute (at θ a) (at φ) ≡ at (λ x. apply (θ x) φ) a
    go (var x) = refl
    go (con c k) = refl

-- Only the variables that appear matter.
pub apply_agree : (t : Term Leaf) (θ φ : ℕ → Term Leaf) → ((x : ℕ) → Appears t (var x) → θ x ≡ φ x) → apply t θ ≡ apply t φ
unfolding at
apply_agree t θ φ h = substitute_agree t (at θ) (at φ) go
  where
    go : (a : Leaf) → Appears t a → at θ a ≡ at φ a
    go (var x) k = h x k
    go (con c j) k = refl

-- A substitution that leaves the variables of a term alone leaves the term alone.
pub apply_fixed : (t : Term Leaf) (θ : ℕ → Term Leaf) → ((x : ℕ) → Appears t (var x) → θ x ≡ leaf (var x)) → apply t θ ≡ t
unfolding at
apply_fixed t θ h = substitute_agree t (at θ) leaf go ∙ substitute_leaf t
  where
    go : (a : Leaf) → Appears t a → at θ a ≡ leaf a
    go (var x) k = h x k
    go (con c j) k = refl

-- A mapping that changes y only: at y, and at another variable.
pub only_at_same : (y : ℕ) (t : Term Leaf) → only_at y t y ≡ t
unfolding only_at
only_at_same y t = update_same (λ x. leaf (var x)) y t

pub only_at_other : (y : ℕ) (t : Term Leaf) (x : ℕ) → (x ≡ y → ⊥) → only_at y t x ≡ leaf (var x)
unfolding only_at
only_at_other y t x h = update_other (λ x. leaf (var x)) y t x h

-- A variable of a term with a substitution put to use comes from a variable of the term.
pub apply_variable : (t : Term Leaf) (θ : ℕ → Term Leaf) (x : ℕ) → Appears (apply t θ) (var x) → (z : ℕ) × Appears t (var z)
    × Appears (θ z) (var x)
unfolding at Appears
apply_variable t θ x h = let r = appears_substitute t (at θ) (var x) h in go r.0 r.1 r.2
  where
    go : (a : Leaf) → Appears t a → Appears (at θ a) (var x) → (z : ℕ) × Appears t (var z) × Appears (θ z) (var x)
    go (var z) i j = (z, i, j)
    go (con c k) i j = absurd (con_not_var c k x (sym j))

-- What appears at a variable of a term appears in the term with the substitution put to use.
pub appears_apply : (t : Term Leaf) (θ : ℕ → Term Leaf) (x : ℕ) (a : Leaf) → Appears t (var x) → Appears (θ x) a → Appears (apply t θ) a
unfolding at
appears_apply t θ x a h k = substitute_appears t (at θ) (var x) a h k
