-- Valuations: what it means that a valuation solves a store.
use Prim.Native.Nat.{ℕ, ◌≤◌, ◌<◌}
use mathlib.Core.Path.{◌≡◌, refl, sym, ◌∙◌, ap, fun_ext}
use mathlib.Core.Bool.{Bool, true, false, cond}
use mathlib.Core.List.{List, [], ◌∷◌}
use lib.Dec.{eqb}
use borrow.Author.Tests.{eqb-true}
use Rattle.terms.specs.Lists.{All}
use Rattle.terms.specs.Terms.{Term, leaf, app, substitute, level_by, Leaves, Appears}
use Rattle.terms.proofs.Terms.{substitute_substitute, substitute_agree, appears_leaves}
use Rattle.unification.specs.Store.{Leaf, var, con, Binding, Store, look1, look, at, apply}
use Rattle.unification.specs.Matching.{Pair}
use Rattle.unification.specs.Promises.{Below, BelowBinding}

-- The leaves of the values: each has a level, and each made constant stands for one of its own, of its own level.
pub record Domain (B : Type 0) : Type 0 where
  pub constant : ℕ → ℕ → B
  pub level : B → ℕ
  pub level_constant : (c k : ℕ) → level (constant c k) ≡ k
  pub constant_number : (c k d j : ℕ) → constant c k ≡ constant d j → c ≡ d

-- The value of a leaf; that of a term t is `substitute t (value D σ)`.
unfoldable pub value : {B : Type 0} → Domain B → (ℕ → Term B) → Leaf → Term B
value D σ (var x) = σ x
value D σ (con c k) = leaf (D.constant c k)

-- Terms of the search as values: a valuation is then a substitution. A variable has level 0, so that a term has the highest
-- level of a made constant in it.
unfoldable pub leaf_level : Leaf → ℕ
leaf_level (var x) = 0
leaf_level (con c k) = k

pub level_con : (c k : ℕ) → leaf_level (con c k) ≡ k
unfolding leaf_level
level_con c k = refl

pub con_number : (c k d j : ℕ) → con c k ≡ con d j → c ≡ d
con_number c k d j e = cc

-- The domain of these.
unfoldable pub search_terms : Domain Leaf
search_terms = record { constant = con; level = leaf_level; level_constant = level_con; constant_number = con_number }

-- A valuation there is a substitution.
pub value_at : (θ : ℕ → Term Leaf) → value search_terms θ ≡ at θ
unfolding value at search_terms
value_at θ = fun_ext go
  where
    go : (a : Leaf) → value search_terms θ a ≡ at θ a
    go (var x) = refl
    go (con c k) = refl

module _ {B : Type 0} (D : Domain B) where
  -- A substitution, then a valuation.
  pub value_apply : (t : Term Leaf) (θ : ℕ → Term Leaf) (σ : ℕ → Term B)
      → substitute (apply t θ) (value D σ) ≡ substitute t (value D (λ x. substitute (θ x) (value D σ)))
  unfolding value at substitute
  value_apply t θ σ = substitute_substitute t (at θ) (value D σ) ∙ ap (substitute t) (fun_ext go)
    where
      go : (a : Leaf) → substitute (at θ a) (value D σ) ≡ value D (λ x. substitute (θ x) (value D σ)) a
      go (var x) = refl
      go (con c k) = refl

  -- Only the variables that appear matter.
  pub value_agree : (t : Term Leaf) (σ τ : ℕ → Term B) → ((x : ℕ) → Appears t (var x) → σ x ≡ τ x)
      → substitute t (value D σ) ≡ substitute t (value D τ)
  unfolding value
  value_agree t σ τ h = substitute_agree t (value D σ) (value D τ) go
    where
      go : (a : Leaf) → Appears t a → value D σ a ≡ value D τ a
      go (var x) k = h x k
      go (con c j) k = refl

  -- Those below n, if the term is below n.
  pub value_below : (t : Term Leaf) (n : ℕ) (σ τ : ℕ → Term B) → Leaves t (Below n) → ((x : ℕ) → x < n → σ x ≡ τ x)
      → substitute t (value D σ) ≡ substitute t (value D τ)
  unfolding Below
  value_below t n σ τ b h = value_agree t σ τ (λ x k. h x (appears_leaves t (Below n) (var x) b k))

module _ {B : Type 0} (D : Domain B) (σ : ℕ → Term B) where
  -- Each bound variable has the value of its term.
  abbrev pub Equation : Binding → Type 0
  Equation b = σ b.name ≡ substitute b.value (value D σ)

  -- The valuation σ solves the bindings, and keeps the levels of the variables that have been made.
  pub record Solves (s : Store) : Type 0 where
    pub equations : All Equation s.bindings
    pub levels : (x : ℕ) → x < s.next → level_by (σ x) D.level ≤ s.level x

  -- Both sides of a pair have one value.
  abbrev pub Equal : Pair → Type 0
  Equal p = substitute p.goal (value D σ) ≡ substitute p.clause (value D σ)

  -- Looking through changes no value.
  look1_value : (t : Term Leaf) (b : Binding) → Equation b → substitute (look1 t b) (value D σ) ≡ substitute t (value D σ)
  unfolding look1 substitute value
  look1_value (leaf (var x)) b h = go (eqb x b.name) refl
    where
      go : (c : Bool) → eqb x b.name ≡ c → substitute (cond c b.value (leaf (var x))) (value D σ) ≡ σ x
      go true e = sym h ∙ ap σ (sym (eqb-true x b.name e))
      go false e = refl
  look1_value (leaf (con c k)) b h = refl
  look1_value (app f ts) b h = refl

  pub look_value : (bs : List Binding) (t : Term Leaf) → All Equation bs → substitute (look bs t) (value D σ) ≡ substitute t (value D σ)
  unfolding look
  look_value [] t h = refl
  look_value (b ∷ bs) t h = look1_value (look bs t) b h.0 ∙ look_value bs t h.1

-- Valuations that agree below n solve the same bindings below n.
pub equations_below : {B : Type 0} (D : Domain B) (bs : List Binding) (n : ℕ) (σ τ : ℕ → Term B) → ((x : ℕ) → x < n → σ x ≡ τ x)
    → All (BelowBinding n) bs → All (Equation D σ) bs → All (Equation D τ) bs
equations_below D [] n σ τ h b e = tt
equations_below D (c ∷ bs) n σ τ h b e =
    (sym (h c.name b.0.0) ∙ e.0 ∙ value_below D c.value n σ τ b.0.1 h, equations_below D bs n σ τ h b.1 e.1)
