-- What holds of all that is bound holds of the final values.
use Prim.Native.Nat.{ℕ}
use mathlib.Core.Path.{◌≡◌, refl, sym, subst}
use mathlib.Core.Bool.{Bool, true, false, cond}
use mathlib.Core.List.{List, [], ◌∷◌}
use lib.Dec.{eqb}
use borrow.Author.Tests.{eqb-true, eq-eqb}
use Rattle.terms.specs.Lists.{update}
use Rattle.terms.specs.Terms.{Term, leaf, Leaves}
use Rattle.terms.proofs.Terms.{leaves_substitute}
use Rattle.unification.specs.Store.{Leaf, var, con, Binding, bound_to, solved, apply, at, only_at}
use Rattle.unification.specs.Promises.{Unbound, WellBound}
use Rattle.unification.proofs.Solution.{final, newest, final_bind}
use Rattle.unification.proofs.Follow.{binding_none, unbound_binding}

-- An unbound variable is bound to nothing.
pub unbound_alone : (bs : List Binding) (x : ℕ) → WellBound bs → Unbound bs x → bound_to bs x ≡ leaf (var x)
unbound_alone bs x w u = binding_none bs x (unbound_binding bs x w u)

-- What holds of the leaves of all values holds of those of the final values.
pub final_leaves : (P : Leaf → Type 0) → ((x : ℕ) → P (var x)) → (bs : List Binding) → WellBound bs → ((x : ℕ) → Leaves (bound_to bs x) P)
    → (x : ℕ) → Leaves (final bs x) P
unfolding bound_to solved Leaves WellBound at only_at update
final_leaves P v [] w h x = v x
final_leaves P v (b ∷ bs) w h x =
    let earlier = final_leaves P v bs w.3 (λ y. before y (eqb y b.name) refl (h y)) in
    subst (λ (t : Term Leaf). Leaves t P) (sym (final_bind b bs x))
    (leaves_substitute (final bs x) (at (newest b bs)) P P (λ a p. leaves earlier a p) (earlier x))
  where
    before : (y : ℕ) (c : Bool) → eqb y b.name ≡ c → Leaves (cond c b.value (bound_to bs y)) P → Leaves (bound_to bs y) P
    before y true e l =
        subst (λ (t : Term Leaf). Leaves t P)
        (sym (subst (λ (z : ℕ). bound_to bs z ≡ leaf (var z)) (sym (eqb-true y b.name e)) (unbound_alone bs b.name w.3 w.0)))
        (v y)
    before y false e l = l

    value : Leaves b.value P
    value = subst (λ (c : Bool). Leaves (cond c b.value (bound_to bs b.name)) P) (eq-eqb b.name b.name refl) (h b.name)

    old : ((y : ℕ) → Leaves (final bs y) P) → (a : Leaf) → P a → Leaves (at (final bs) a) P
    old f (var z) p = f z
    old f (con c k) p = p

    leaves : ((y : ℕ) → Leaves (final bs y) P) → (a : Leaf) → P a → Leaves (at (newest b bs) a) P
    leaves f (var z) p = go (eqb z b.name)
      where
        go : (c : Bool) → Leaves (cond c (apply b.value (final bs)) (leaf (var z))) P
        go true = leaves_substitute b.value (at (final bs)) P P (old f) value
        go false = p
    leaves f (con c k) p = p
