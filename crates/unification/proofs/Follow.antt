-- One binding followed: what it keeps, and where none is left to follow.
use Prim.Native.Nat.{ℕ}
use mathlib.Core.Path.{◌≡◌, refl, sym, subst}
use mathlib.Core.Bool.{Bool, true, false, cond}
use mathlib.Core.List.{List, [], ◌∷◌}
use mathlib.Core.Option.{Option, none, some}
use native.Mathlib.Omega.{arith}
use lib.Dec.{eqb}
use borrow.Author.Tests.{eqb-true}
use Rattle.terms.specs.Lists.{All}
use Rattle.terms.specs.Terms.{Term, leaf, app, substitute, Leaves}
use Rattle.terms.proofs.Lists.{all_weaken}
use Rattle.unification.specs.Store.{Leaf, var, con, Binding, binding, follow, look1, look, apply, bound_to}
use Rattle.unification.specs.Promises.{Below, BelowBinding, Unbound, WellBound}
use Rattle.unification.proofs.Solution.{final, unbound_before}
use Rattle.unification.proofs.Valuation.{Domain, value, search_terms, value_at, Equation}
use Rattle.unification.proofs.General.{final_equations}

-- What is there is not missing.
pub not_none : {A : Type 0} (a : A) → ◌≡◌ {A = Option A} (some a) none → ⊥
not_none a e = let z : ◌≡◌ {A = ℕ} 0 1 = cc in omega arith

-- The element of an option.
pub some_is : {A : Type 0} (a b : A) → ◌≡◌ {A = Option A} (some a) (some b) → a ≡ b
some_is a b e = cc

-- A variable without a binding is given back.
pub binding_none : (bs : List Binding) (x : ℕ) → binding bs x ≡ none → bound_to bs x ≡ leaf (var x)
unfolding binding bound_to
binding_none [] x e = refl
binding_none (b ∷ bs) x e = go (eqb x b.name) e (binding_none bs x)
  where
    go : (c : Bool) → cond c (some b.value) (binding bs x) ≡ none → (binding bs x ≡ none → bound_to bs x ≡ leaf (var x))
        → cond c b.value (bound_to bs x) ≡ leaf (var x)
    go true e ih = absurd (not_none b.value e)
    go false e ih = ih e

-- A variable with one gives its value.
pub binding_some : (bs : List Binding) (x : ℕ) (t : Term Leaf) → binding bs x ≡ some t → bound_to bs x ≡ t
unfolding binding bound_to
binding_some [] x t e = absurd (not_none t (sym e))
binding_some (b ∷ bs) x t e = go (eqb x b.name) e (binding_some bs x t)
  where
    go : (c : Bool) → cond c (some b.value) (binding bs x) ≡ some t → (binding bs x ≡ some t → bound_to bs x ≡ t)
        → cond c b.value (bound_to bs x) ≡ t
    go true e ih = some_is b.value t e
    go false e ih = ih e

-- What holds of each variable and its value holds of a variable that is bound and its value.
binding_holds : (P : ℕ → Term Leaf → Type 0) (bs : List Binding) (x : ℕ) (u : Term Leaf) → All (λ b. P b.name b.value) bs
    → binding bs x ≡ some u → P x u
unfolding binding
binding_holds P [] x u h e = absurd (not_none u (sym e))
binding_holds P (b ∷ bs) x u h e = go (eqb x b.name) refl e (binding_holds P bs x u h.1)
  where
    go : (c : Bool) → eqb x b.name ≡ c → cond c (some b.value) (binding bs x) ≡ some u → (binding bs x ≡ some u → P x u) → P x u
    go true q r ih =
        subst (λ (y : ℕ). P y u) (sym (eqb-true x b.name q)) (subst (P b.name) (some_is b.value u r) h.0)
    go false q r ih = ih r

-- Only a bound variable is followed.
pub follow_holds : (P : Term Leaf → Term Leaf → Type 0) (bs : List Binding) (t u : Term Leaf)
    → All (λ b. P (leaf (var b.name)) b.value) bs → follow bs t ≡ some u → P t u
unfolding follow
follow_holds P bs (leaf (var x)) u h e = binding_holds (λ y v. P (leaf (var y)) v) bs x u h e
follow_holds P bs (leaf (con c k)) u h e = absurd (not_none u (sym e))
follow_holds P bs (app f ts) u h e = absurd (not_none u (sym e))

-- Its value is that of what it is bound to.
pub follow_value : {B : Type 0} (D : Domain B) (σ : ℕ → Term B) (bs : List Binding) (t u : Term Leaf) → All (Equation D σ) bs
    → follow bs t ≡ some u → substitute u (value D σ) ≡ substitute t (value D σ)
unfolding substitute value
follow_value D σ bs t u h e = sym (follow_holds (λ v w. substitute v (value D σ) ≡ substitute w (value D σ)) bs t u h e)

-- So is its final value.
pub apply_follow : (bs : List Binding) (t u : Term Leaf) → WellBound bs → follow bs t ≡ some u → apply u (final bs) ≡ apply t (final bs)
apply_follow bs t u w e = rw (← value_at (final bs)) (follow_value search_terms (final bs) bs t u (final_equations bs w) e)

-- Variables stay below n.
pub follow_below : (bs : List Binding) (t u : Term Leaf) (n : ℕ) → All (BelowBinding n) bs → follow bs t ≡ some u → Leaves u (Below n)
follow_below bs t u n h e =
    follow_holds (λ v w. Leaves w (Below n)) bs t u
    (all_weaken (BelowBinding n) (λ b. Leaves b.value (Below n)) (λ b k. k.1) bs h) e

-- Where no binding is left to follow, the term is looked through.
pub follow_none : (bs : List Binding) (t : Term Leaf) → follow bs t ≡ none → look bs t ≡ t
unfolding follow binding look look1
follow_none [] t e = refl
follow_none (b ∷ bs) (leaf (var x)) e = go (eqb x b.name) refl e (follow_none bs (leaf (var x)))
  where
    go : (c : Bool) → eqb x b.name ≡ c → cond c (some b.value) (binding bs x) ≡ none
        → (binding bs x ≡ none → look bs (leaf (var x)) ≡ leaf (var x))
        → look1 (look bs (leaf (var x))) b ≡ leaf (var x)
    go true q r ih = absurd (not_none b.value r)
    go false q r ih = rw (ih r, q)
follow_none (b ∷ bs) (leaf (con c k)) e = rw (follow_none bs (leaf (con c k)) refl)
follow_none (b ∷ bs) (app f ts) e = rw (follow_none bs (app f ts) refl)

pub stop : (bs : List Binding) (x : ℕ) → binding bs x ≡ none → look bs (leaf (var x)) ≡ leaf (var x)
unfolding follow
stop bs x e = follow_none bs (leaf (var x)) e

-- And where the term is looked through, no binding is left to follow.
pub unbound_binding : (bs : List Binding) (x : ℕ) → WellBound bs → Unbound bs x → binding bs x ≡ none
unfolding binding WellBound
unbound_binding [] x w u = refl
unbound_binding (b ∷ bs) x w u =
    let r = unbound_before b bs x w u in
    go (eqb x b.name) refl r.1 (unbound_binding bs x w.3 r.0)
  where
    go : (c : Bool) → eqb x b.name ≡ c → (x ≡ b.name → ⊥) → binding bs x ≡ none → cond c (some b.value) (binding bs x) ≡ none
    go true q d ih = absurd (d (eqb-true x b.name q))
    go false q d ih = ih

pub looked_follow : (bs : List Binding) (t : Term Leaf) → WellBound bs → look bs t ≡ t → follow bs t ≡ none
unfolding follow
looked_follow bs (leaf (var x)) w h = unbound_binding bs x w h
looked_follow bs (leaf (con c k)) w h = refl
looked_follow bs (app f ts) w h = refl
