-- Looking through bindings, and which variables are unbound.
use Prim.Native.Nat.{ℕ, ◌≤◌}
use mathlib.Core.Path.{◌≡◌, refl, ap}
use mathlib.Core.Bool.{Bool, true, false, cond, false≢true}
use mathlib.Core.List.{List, [], ◌∷◌}
use native.Mathlib.Omega.{arith}
use lib.Dec.{eqb}
use borrow.Author.Tests.{eqb-true, eq-eqb, ne_eqb}
use Rattle.terms.specs.Lists.{All}
use Rattle.terms.specs.Terms.{Term, leaf, app}
use Rattle.unification.specs.Store.{Leaf, var, con, Binding, look1, look}
use Rattle.unification.specs.Promises.{BelowBinding, Unbound}

-- A binding leaves everything but its variable alone.
pub look1_other : (t : Term Leaf) (b : Binding) → (t ≡ leaf (var b.name) → ⊥) → look1 t b ≡ t
unfolding look1
look1_other (leaf (var x)) b h = go (eqb x b.name) refl
  where
    go : (c : Bool) → eqb x b.name ≡ c → cond c b.value (leaf (var x)) ≡ leaf (var x)
    go true e = absurd (h (ap (λ z. leaf (var z)) (eqb-true x b.name e)))
    go false e = refl
look1_other (leaf (con c k)) b h = refl
look1_other (app f ts) b h = refl

-- What another variable's binding leaves unbound.
pub unbound_bind : (b : Binding) (bs : List Binding) (x : ℕ) → Unbound bs x → (x ≡ b.name → ⊥) → Unbound (b ∷ bs) x
unfolding look look1
unbound_bind b bs x u d = rw u (rw (ne_eqb x b.name d))

-- Bindings below n leave the variables from n on unbound.
pub unbound_beyond : (bs : List Binding) (n x : ℕ) → n ≤ x → All (BelowBinding n) bs → Unbound bs x
unfolding look
unbound_beyond [] n x l h = refl
unbound_beyond (b ∷ bs) n x l h = unbound_bind b bs x (unbound_beyond bs n x l h.1) (λ q. let m = h.0.0 in omega arith)

-- Whether a variable is unbound.
unfoldable pub is_variable : Term Leaf → ℕ → Bool
is_variable (leaf (var z)) x = eqb z x
is_variable (leaf (con c k)) x = false
is_variable (app f ts) x = false

unfoldable pub is_unbound : List Binding → ℕ → Bool
is_unbound bs x = is_variable (look bs (leaf (var x))) x

-- The test says what it is meant to say.
is_variable_true : (t : Term Leaf) (x : ℕ) → is_variable t x ≡ true → t ≡ leaf (var x)
unfolding is_variable
is_variable_true (leaf (var z)) x e = ap (λ y. leaf (var y)) (eqb-true z x e)
is_variable_true (leaf (con c k)) x e = absurd (false≢true e)
is_variable_true (app f ts) x e = absurd (false≢true e)

pub is_unbound_true : (bs : List Binding) (x : ℕ) → is_unbound bs x ≡ true → Unbound bs x
unfolding is_unbound
is_unbound_true bs x e = is_variable_true (look bs (leaf (var x))) x e

pub unbound_is_unbound : (bs : List Binding) (x : ℕ) → Unbound bs x → is_unbound bs x ≡ true
unfolding is_unbound is_variable
unbound_is_unbound bs x u = rw u (eq-eqb x x refl)
