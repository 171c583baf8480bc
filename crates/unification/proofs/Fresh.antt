-- Fresh variables: the solutions of the store are those before, extended to the fresh variables.
use Prim.Native.Nat.{ℕ, suc, ◌≤◌, ◌<◌}
use mathlib.Core.Path.{◌≡◌, refl, sym, ◌∙◌, ap₂}
use mathlib.Core.Bool.{Bool, true, false, cond}
use mathlib.Core.List.{List, [], ◌∷◌, map}
use native.Mathlib.Omega.{arith}
use lib.Dec.{eqb}
use lib.ListN.{length}
use borrow.Author.Tests.{eqb-false}
use Rattle.terms.specs.Lists.{All, update}
use Rattle.terms.specs.Terms.{Term, substitute, level_by, Leaves}
use Rattle.terms.proofs.Lists.{update_same, update_other}
use Rattle.unification.specs.Store.{Leaf, Store, fresh_levels, past, fresh, fresh_variables}
use Rattle.unification.specs.Promises.{Below, Formed}
use Rattle.unification.proofs.Stores.{fresh_formed}
use Rattle.unification.proofs.Valuation.{Domain, value, value_below, Solves, equations_below}

module _ {B : Type 0} (D : Domain B) where
  -- One fresh variable: a solution is one of the store before, and keeps the new level.
  one_sound : (v i : ℕ) (s : Store) (σ : ℕ → Term B) → Solves D σ (fresh (v ∷ []) i s) → Solves D σ s
      × (level_by (σ s.next) D.level ≤ i)
  unfolding fresh fresh_levels past
  one_sound v i s σ h = (
    record {
      equations = h.equations;
      levels =
          λ x l. (let p = h.levels x (omega arith) in let q = update_other s.level s.next i x (λ e. omega arith) in omega arith);
    },
    (let p = h.levels s.next (omega arith) in let q = update_same s.level s.next i in omega arith),
  )

  -- A solution gives the fresh variables values of their level.
  pub fresh_sound : (vs : List ℕ) (i : ℕ) (s : Store) (σ : ℕ → Term B) → Solves D σ (fresh vs i s)
      → Solves D σ s × All (λ c. level_by c D.level ≤ i) (map (λ t. substitute t (value D σ)) (fresh_variables vs s.next))
  unfolding fresh fresh_levels past fresh_variables substitute value
  fresh_sound [] i s σ h = (h, tt)
  fresh_sound (v ∷ vs) i s σ h =
      let r = fresh_sound vs i (fresh (v ∷ []) i s) σ h in
      let q = one_sound v i s σ r.0 in
      (q.0, (q.1, r.1))

  -- Extends σ with values for the variables from n on.
  unfoldable pub extend : List (Term B) → ℕ → (ℕ → Term B) → ℕ → Term B
  extend [] n σ = σ
  extend (c ∷ cs) n σ = extend cs (suc n) (update σ n c)

  -- The variables before n keep their values.
  pub extend_older : (cs : List (Term B)) (n : ℕ) (σ : ℕ → Term B) (x : ℕ) → x < n → extend cs n σ x ≡ σ x
  unfolding extend
  extend_older [] n σ x h = refl
  extend_older (c ∷ cs) n σ x h = extend_older cs (suc n) (update σ n c) x (omega arith) ∙ update_other σ n c x (λ q. omega arith)

  -- Terms below n keep their values.
  pub extend_value : (cs : List (Term B)) (n : ℕ) (σ : ℕ → Term B) (t : Term Leaf) → Leaves t (Below n)
      → substitute t (value D (extend cs n σ)) ≡ substitute t (value D σ)
  extend_value cs n σ t b = value_below D t n (extend cs n σ) σ b (λ x h. extend_older cs n σ x h)

  -- The fresh variables have the values given.
  pub extend_fresh : (vs : List ℕ) (cs : List (Term B)) (n : ℕ) (σ : ℕ → Term B) → length cs ≡ length vs
      → map (λ t. substitute t (value D (extend cs n σ))) (fresh_variables vs n) ≡ cs
  unfolding extend fresh_variables substitute value
  extend_fresh [] [] n σ h = refl
  extend_fresh [] (c ∷ cs) n σ h = absurd (omega arith)
  extend_fresh (v ∷ vs) [] n σ h = absurd (omega arith)
  extend_fresh (v ∷ vs) (c ∷ cs) n σ h =
      ap₂ ◌∷◌ (extend_older cs (suc n) (update σ n c) n (omega arith) ∙ update_same σ n c)
      (extend_fresh vs cs (suc n) (update σ n c) (omega arith))

  -- One fresh variable: a solution of the store before with a value of the level.
  one_complete : (v i : ℕ) (s : Store) (σ : ℕ → Term B) (c : Term B) → Formed s → Solves D σ s → level_by c D.level ≤ i
      → Solves D (update σ s.next c) (fresh (v ∷ []) i s)
  unfolding fresh fresh_levels past update
  one_complete v i s σ c f h l = record {
    equations =
        equations_below D s.bindings s.next σ (update σ s.next c) (λ x m. sym (update_other σ s.next c x (λ q. omega arith)))
        f.below h.equations;
    levels = λ x m. low x m (eqb x s.next) refl;
  }
    where
      low : (x : ℕ) → x < suc s.next → (b : Bool) → eqb x s.next ≡ b → level_by (cond b c (σ x)) D.level ≤ cond b i (s.level x)
      low x m true e = l
      low x m false e = h.levels x (let d = eqb-false x s.next e in omega arith)

  -- A solution extended by values of the level solves the store with the fresh variables.
  pub fresh_complete : (vs : List ℕ) (i : ℕ) (s : Store) (σ : ℕ → Term B) (cs : List (Term B)) → Formed s → Solves D σ s
      → length cs ≡ length vs
      → All (λ c. level_by c D.level ≤ i) cs → Solves D (extend cs s.next σ) (fresh vs i s)
  unfolding fresh fresh_levels past extend
  fresh_complete [] i s σ [] f h e l = h
  fresh_complete [] i s σ (c ∷ cs) f h e l = absurd (omega arith)
  fresh_complete (v ∷ vs) i s σ [] f h e l = absurd (omega arith)
  fresh_complete (v ∷ vs) i s σ (c ∷ cs) f h e l =
      fresh_complete vs i (fresh (v ∷ []) i s) (update σ s.next c) cs (fresh_formed (v ∷ []) i s f) (one_complete v i s σ c f h l.0)
      (omega arith) l.1
