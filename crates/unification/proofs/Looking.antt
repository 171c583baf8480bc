-- How many bindings are followed from a term to what it is looked through to: at most as many as there are, and one less after each.
use Prim.Native.Nat.{ℕ, suc, ◌+◌, ◌≤◌}
use mathlib.Core.Path.{◌≡◌, refl, sym, ◌∙◌, ap}
use mathlib.Core.Bool.{Bool, true, false, cond}
use mathlib.Core.List.{List, [], ◌∷◌}
use mathlib.Core.Option.{none, some}
use native.Mathlib.Omega.{arith}
use lib.Dec.{eqb}
use lib.ListN.{length}
use borrow.Author.Tests.{eqb-true, eq-eqb, ne_eqb}
use Rattle.terms.specs.Terms.{Functor, Term, leaf, app, Terms}
use Rattle.unification.specs.Store.{Leaf, var, con, Binding, binding, follow, look1, look}
use Rattle.unification.specs.Promises.{WellBound}
use Rattle.unification.proofs.Look.{look1_other}
use Rattle.unification.proofs.Solution.{value_not_name}
use Rattle.unification.proofs.Follow.{not_none, some_is, follow_none, looked_follow}

-- Whether looking through passes this binding.
unfoldable pub hop1 : Term Leaf → Binding → ℕ
hop1 (leaf (var x)) b = cond (eqb x b.name) 1 0
hop1 (leaf (con c k)) b = 0
hop1 (app f ts) b = 0

-- How many bindings looking through passes.
unfoldable pub hops : List Binding → Term Leaf → ℕ
hops [] t = 0
hops (b ∷ bs) t = hops bs t + hop1 (look bs t) b

-- One binding is passed at most once.
hop1_le : (t : Term Leaf) (b : Binding) → hop1 t b ≤ 1
unfolding hop1
hop1_le (leaf (var x)) b = go (eqb x b.name)
  where
    go : (c : Bool) → cond c 1 0 ≤ 1
    go true = omega arith
    go false = omega arith
hop1_le (leaf (con c k)) b = omega arith
hop1_le (app f ts) b = omega arith

pub hops_le : (bs : List Binding) (t : Term Leaf) → hops bs t ≤ length bs
unfolding hops
hops_le [] t = omega arith
hops_le (b ∷ bs) t = let r = hops_le bs t in let q = hop1_le (look bs t) b in omega arith

-- Nothing but its variable passes a binding.
hop1_other : (t : Term Leaf) (b : Binding) → (t ≡ leaf (var b.name) → ⊥) → hop1 t b ≡ 0
unfolding hop1
hop1_other (leaf (var x)) b h = rw (ne_eqb x b.name (λ q. h (ap (λ (z : ℕ). leaf (var z)) q)))
hop1_other (leaf (con c k)) b h = refl
hop1_other (app f ts) b h = refl

-- Where no binding is left to follow, none is passed.
pub hops_none : (bs : List Binding) (t : Term Leaf) → follow bs t ≡ none → hops bs t ≡ 0
unfolding hops hop1 follow binding
hops_none [] t e = refl
hops_none (b ∷ bs) (leaf (var x)) e = go (eqb x b.name) refl e (hops_none bs (leaf (var x)))
  where
    go : (c : Bool) → eqb x b.name ≡ c → cond c (some b.value) (binding bs x) ≡ none
        → (binding bs x ≡ none → hops bs (leaf (var x)) ≡ 0)
        → hops bs (leaf (var x)) + hop1 (look bs (leaf (var x))) b ≡ 0
    go true q r ih = absurd (not_none b.value r)
    go false q r ih = rw (ih r, follow_none bs (leaf (var x)) r, q)
hops_none (b ∷ bs) (leaf (con c k)) e = rw (hops_none bs (leaf (con c k)) refl, follow_none bs (leaf (con c k)) refl)
hops_none (b ∷ bs) (app f ts) e = rw (hops_none bs (app f ts) refl, follow_none bs (app f ts) refl)

-- An application is looked through to itself, and passes no binding.
pub look_app : (bs : List Binding) (f : Functor) (ts : Terms Leaf) → (look bs (app f ts) ≡ app f ts) × (hops bs (app f ts) ≡ 0)
unfolding follow
look_app bs f ts = (follow_none bs (app f ts) refl, hops_none bs (app f ts) refl)

-- So is a made constant.
pub look_con : (bs : List Binding) (c k : ℕ) → (look bs (leaf (con c k)) ≡ leaf (con c k)) × (hops bs (leaf (con c k)) ≡ 0)
unfolding follow
look_con bs c k = (follow_none bs (leaf (con c k)) refl, hops_none bs (leaf (con c k)) refl)

-- A binding's own variable gives its value.
hit : (b : Binding) → look1 (leaf (var b.name)) b ≡ b.value
unfolding look1
hit b = rw (eq-eqb b.name b.name refl)

hop1_hit : (b : Binding) → hop1 (leaf (var b.name)) b ≡ 1
unfolding hop1
hop1_hit b = rw (eq-eqb b.name b.name refl)

-- After a binding is followed the end is the same, and one less is to be passed.
pub hop : (bs : List Binding) (x : ℕ) (t : Term Leaf) → WellBound bs → binding bs x ≡ some t → (look bs (leaf (var x)) ≡ look bs t)
    × (hops bs (leaf (var x)) ≡ suc (hops bs t))
unfolding binding look hops WellBound
hop [] x t w e = absurd (not_none t (sym e))
hop (b ∷ bs) x t w e = go (eqb x b.name) refl e (λ q. hop bs x t w.3 q)
  where
    v : Term Leaf
    v = leaf (var b.name)

    d : b.value ≡ v → ⊥
    d = value_not_name b bs w

    none_passed : (u : Term Leaf) → look bs u ≡ u → hops bs u ≡ 0
    none_passed u l = hops_none bs u (looked_follow bs u w.3 l)

    mine : (look1 (look bs v) b ≡ look1 (look bs b.value) b)
        × (hops bs v + hop1 (look bs v) b ≡ suc (hops bs b.value + hop1 (look bs b.value) b))
    mine = (
      rw (w.0, w.1) (hit b ∙ sym (look1_other b.value b d)),
      rw (none_passed v w.0, none_passed b.value w.1, w.0, w.1, hop1_hit b, hop1_other b.value b d),
    )

    go : (c : Bool) → eqb x b.name ≡ c → cond c (some b.value) (binding bs x) ≡ some t
        → (binding bs x ≡ some t → (look bs (leaf (var x)) ≡ look bs t) × (hops bs (leaf (var x)) ≡ suc (hops bs t)))
        → (look1 (look bs (leaf (var x))) b ≡ look1 (look bs t) b)
        × (hops bs (leaf (var x)) + hop1 (look bs (leaf (var x))) b ≡ suc (hops bs t + hop1 (look bs t) b))
    go true q r ih = rw (eqb-true x b.name q, ← some_is b.value t r) mine
    go false q r ih = let k = ih r in (ap (λ (u : Term Leaf). look1 u b) k.0, rw (k.1, k.0) (omega arith))

pub follow_hop : (bs : List Binding) (t u : Term Leaf) → WellBound bs → follow bs t ≡ some u → (look bs t ≡ look bs u)
    × (hops bs t ≡ suc (hops bs u))
unfolding follow
follow_hop bs (leaf (var x)) u w e = hop bs x u w e
follow_hop bs (leaf (con c k)) u w e = absurd (not_none u (sym e))
follow_hop bs (app f ts) u w e = absurd (not_none u (sym e))
