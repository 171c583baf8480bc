-- The general solution of a store: any values for the unbound variables, and from them those of the bound ones.
use Prim.Native.Nat.{ℕ, ◌≤◌, ◌<◌}
use mathlib.Core.Path.{◌≡◌, refl, sym, ◌∙◌, ap, subst, fun_ext}
use mathlib.Core.Bool.{Bool, true, false, cond}
use mathlib.Core.List.{List, [], ◌∷◌}
use native.Mathlib.Omega.{arith}
use lib.Dec.{eqb}
use borrow.Author.Tests.{eqb-true}
use Rattle.terms.specs.Lists.{All, update}
use Rattle.terms.specs.Terms.{Term, leaf, substitute, level_by, Appears}
use Rattle.terms.proofs.Lists.{all_weaken}
use Rattle.terms.proofs.Terms.{level_substitute}
use Rattle.unification.specs.Store.{Leaf, var, con, Binding, Store, apply, only_at, bound_to, solved, solution}
use Rattle.unification.specs.Promises.{Unbound, WellBound, Formed}
use Rattle.unification.proofs.Solution.{final, newest, final_bind, bound_to_unbound, appears_unbound, final_bound}
use Rattle.unification.proofs.Valuation.{Domain, value, search_terms, value_at, value_apply, Equation, Solves}

-- The final values are a solution.
pub final_equations : (bs : List Binding) → WellBound bs → All (Equation search_terms (final bs)) bs
final_equations bs w =
    subst (λ (v : Leaf → Term Leaf). All (λ b. final bs b.name ≡ substitute b.value v) bs) (sym (value_at (final bs)))
    (final_bound bs w)

module _ {B : Type 0} (D : Domain B) where
  -- The general solution, τ being the values of the unbound variables.
  unfoldable pub general : List Binding → (ℕ → Term B) → ℕ → Term B
  general bs τ x = substitute (final bs x) (value D τ)

  -- In it a term has the value of the term with all bindings put to use.
  pub general_value : (bs : List Binding) (τ : ℕ → Term B) (t : Term Leaf)
      → substitute t (value D (general bs τ)) ≡ substitute (apply t (final bs)) (value D τ)
  unfolding general
  general_value bs τ t = sym (value_apply D t (final bs) τ)

  -- An unbound variable has its value by τ.
  pub general_unbound : (bs : List Binding) (τ : ℕ → Term B) (x : ℕ) → WellBound bs → Unbound bs x → general bs τ x ≡ τ x
  unfolding general substitute value
  general_unbound bs τ x w u = ap (λ (t : Term Leaf). substitute t (value D τ)) (bound_to_unbound bs x w u)

  -- The general solution solves the bindings.
  pub general_equations : (bs : List Binding) (τ : ℕ → Term B) → WellBound bs → All (Equation D (general bs τ)) bs
  unfolding general
  general_equations bs τ w =
      all_weaken (λ b. final bs b.name ≡ apply b.value (final bs)) (Equation D (general bs τ)) keep bs (final_bound bs w)
    where
      keep : (b : Binding) → final bs b.name ≡ apply b.value (final bs) → Equation D (general bs τ) b
      keep b e = ap (λ (t : Term Leaf). substitute t (value D τ)) e ∙ sym (general_value bs τ b.value)

  -- And the store, if τ keeps the levels of the unbound variables.
  pub general_solves : (s : Store) (τ : ℕ → Term B) → Formed s
      → ((z : ℕ) → z < s.next → Unbound s.bindings z → level_by (τ z) D.level ≤ s.level z)
      → Solves D (general s.bindings τ) s
  unfolding general solution value level_by
  general_solves s τ f h = record {
    equations = general_equations s.bindings τ f.bound;
    levels = λ x l. level_substitute (solution s x) (value D τ) D.level (s.level x) (λ a i. low x l a i);
  }
    where
      low : (x : ℕ) → x < s.next → (a : Leaf) → Appears (solution s x) a → level_by (value D τ a) D.level ≤ s.level x
      low x l (var z) i =
          let o = f.ordered x z l i in
          let k = h z o.0 (appears_unbound s.bindings x z f.bound i) in
          let m = o.1 in
          omega arith
      low x l (con c k) i = rw (D.level_constant c k) (f.proper x c k l i)

  -- Every solution is the general one, with its own values for the unbound variables.
  pub general_itself : (bs : List Binding) (σ : ℕ → Term B) (x : ℕ) → All (Equation D σ) bs → general bs σ x ≡ σ x
  unfolding general bound_to solved substitute value only_at update
  general_itself [] σ x h = refl
  general_itself (b ∷ bs) σ x h =
      ap (λ (t : Term Leaf). substitute t (value D σ)) (final_bind b bs x)
      ∙ value_apply D (final bs x) (newest b bs) σ
      ∙ ap (λ (τ : ℕ → Term B). substitute (final bs x) (value D τ)) (fun_ext (λ z. new z (λ y. general_itself bs σ y h.1)))
      ∙ general_itself bs σ x h.1
    where
      -- The valuation σ keeps its values through the newest binding.
      new : (z : ℕ) → ((y : ℕ) → general bs σ y ≡ σ y) → substitute (newest b bs z) (value D σ) ≡ σ z
      new z ih = go (eqb z b.name) refl
        where
          go : (q : Bool) → eqb z b.name ≡ q → substitute (cond q (apply b.value (final bs)) (leaf (var z))) (value D σ) ≡ σ z
          go true e =
              sym (general_value bs σ b.value) ∙ ap (λ (τ : ℕ → Term B). substitute b.value (value D τ)) (fun_ext ih)
              ∙ sym h.0 ∙ ap σ (sym (eqb-true z b.name e))
          go false e = refl
