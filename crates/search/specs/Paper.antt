-- Document 003, sections 2 and 3: formulas as the paper has them, with bound names and logic variables; [t/x]G, θ(G), elab.
-- Names and logic variables are two sorts and what is put in for either has no names, so that nothing is captured and
-- definition 1 (iv) never renames.
use Rattle.std.specs.Prelude.{ℕ, Bool, true, false, not, ◌&&◌, ◌||◌, cond, List, [], ◌∷◌, ◌++◌, map, eqb}
use Rattle.std.proofs.Math.Option.{Option, none, some}
use Rattle.terms.specs.Lists.{update, elem}
use Rattle.terms.specs.Terms.{Term, leaf, app, Terms, nil, cons, substitute, substitutes}
use Rattle.formulas.specs.Formulas.{Goal, atom, truth, and, or, implies, exists, forall, Clause, fact, rule, both, each}
use Rattle.sequents.specs.Sequents.{Environment}
use Rattle.unification.specs.Store.{Leaf, at}

-- A leaf of a formula's term: a name, or a logic variable or constant of the search.
pub data PaperLeaf : Type 0 where
  name : ℕ → PaperLeaf
  free : Leaf → PaperLeaf

abbrev pub Names : Type 0
Names = ℕ → Term PaperLeaf

mutual
  -- The goals are G ::= A | true | G ∧ G | G ∨ G | D ⊃ G | ∃x G | ∀x G.
  pub data G : Type 0 where
    g_atom : ℕ → Terms PaperLeaf → G
    g_true : G
    g_and g_or : G → G → G
    g_implies : D → G → G
    g_exists g_forall : ℕ → G → G

  -- The clauses are D ::= A | G ⊃ A | D ∧ D | ∀x D.
  pub data D : Type 0 where
    d_atom : ℕ → Terms PaperLeaf → D
    d_implies : G → ℕ → Terms PaperLeaf → D
    d_and : D → D → D
    d_forall : ℕ → D → D

-- Terms for names.
unfoldable pub replace_names : Names → PaperLeaf → Term PaperLeaf
replace_names ρ (name v) = ρ v
replace_names ρ (free l) = leaf (free l)

abbrev pub bound : Names → ℕ → Names
bound ρ v = update ρ v (leaf (name v))

unfoldable mutual
  pub put_g : G → Names → G
  put_g (g_atom p ts) ρ = g_atom p (substitutes ts (replace_names ρ))
  put_g g_true ρ = g_true
  put_g (g_and a b) ρ = g_and (put_g a ρ) (put_g b ρ)
  put_g (g_or a b) ρ = g_or (put_g a ρ) (put_g b ρ)
  put_g (g_implies d g) ρ = g_implies (put_d d ρ) (put_g g ρ)
  put_g (g_exists v g) ρ = g_exists v (put_g g (bound ρ v))
  put_g (g_forall v g) ρ = g_forall v (put_g g (bound ρ v))

  pub put_d : D → Names → D
  put_d (d_atom p ts) ρ = d_atom p (substitutes ts (replace_names ρ))
  put_d (d_implies g p ts) ρ = d_implies (put_g g ρ) p (substitutes ts (replace_names ρ))
  put_d (d_and a b) ρ = d_and (put_d a ρ) (put_d b ρ)
  put_d (d_forall v d) ρ = d_forall v (put_d d (bound ρ v))

-- The formula [t/x]G is G with the term t for the free name x.
unfoldable pub replace : G → ℕ → Term PaperLeaf → G
replace g x t = put_g g (update (λ v. leaf (name v)) x t)

-- A term of the search as a term of a formula.
unfoldable pub embed : Leaf → Term PaperLeaf
embed l = leaf (free l)

-- The formula θ(G) is G with terms for logic variables.
unfoldable pub replace_free : (ℕ → Term Leaf) → PaperLeaf → Term PaperLeaf
replace_free θ (name v) = leaf (name v)
replace_free θ (free l) = substitute (at θ l) embed

unfoldable mutual
  pub apply_g : G → (ℕ → Term Leaf) → G
  apply_g (g_atom p ts) θ = g_atom p (substitutes ts (replace_free θ))
  apply_g g_true θ = g_true
  apply_g (g_and a b) θ = g_and (apply_g a θ) (apply_g b θ)
  apply_g (g_or a b) θ = g_or (apply_g a θ) (apply_g b θ)
  apply_g (g_implies d g) θ = g_implies (apply_d d θ) (apply_g g θ)
  apply_g (g_exists v g) θ = g_exists v (apply_g g θ)
  apply_g (g_forall v g) θ = g_forall v (apply_g g θ)

  pub apply_d : D → (ℕ → Term Leaf) → D
  apply_d (d_atom p ts) θ = d_atom p (substitutes ts (replace_free θ))
  apply_d (d_implies g p ts) θ = d_implies (apply_g g θ) p (substitutes ts (replace_free θ))
  apply_d (d_and a b) θ = d_and (apply_d a θ) (apply_d b θ)
  apply_d (d_forall v d) θ = d_forall v (apply_d d θ)

-- The formula that a goal or clause of the sheet is, its free names standing for what ρ says.
unfoldable mutual
  pub formula_g : Goal → Names → G
  formula_g (atom p ts) ρ = g_atom p (substitutes ts ρ)
  formula_g truth ρ = g_true
  formula_g (and a b) ρ = g_and (formula_g a ρ) (formula_g b ρ)
  formula_g (or a b) ρ = g_or (formula_g a ρ) (formula_g b ρ)
  formula_g (implies d g) ρ = g_implies (formula_d d ρ) (formula_g g ρ)
  formula_g (exists v g) ρ = g_exists v (formula_g g (bound ρ v))
  formula_g (forall v g) ρ = g_forall v (formula_g g (bound ρ v))

  pub formula_d : Clause → Names → D
  formula_d (fact p ts) ρ = d_atom p (substitutes ts ρ)
  formula_d (rule g p ts) ρ = d_implies (formula_g g ρ) p (substitutes ts ρ)
  formula_d (both a b) ρ = d_and (formula_d a ρ) (formula_d b ρ)
  formula_d (each v c) ρ = d_forall v (formula_d c (bound ρ v))

-- An environment of the search, for the names.
abbrev pub names : Environment Leaf → Names
names e v = substitute (e v) embed

-- Definition 2, elab, with document 01's rule for prefixes: ∀x goes to the members in which x stands free.
unfoldable pub is_name_leaf : PaperLeaf → ℕ → Bool
is_name_leaf (name w) v = eqb w v
is_name_leaf (free l) v = false

unfoldable mutual
  pub in_t : Term PaperLeaf → ℕ → Bool
  in_t (leaf a) v = is_name_leaf a v
  in_t (app f ts) v = in_ts ts v

  pub in_ts : Terms PaperLeaf → ℕ → Bool
  in_ts nil v = false
  in_ts (cons t ts) v = in_t t v || in_ts ts v

unfoldable mutual
  pub in_g : G → ℕ → Bool
  in_g (g_atom p ts) v = in_ts ts v
  in_g g_true v = false
  in_g (g_and a b) v = in_g a v || in_g b v
  in_g (g_or a b) v = in_g a v || in_g b v
  in_g (g_implies d g) v = in_d d v || in_g g v
  in_g (g_exists w g) v = not (eqb w v) && in_g g v
  in_g (g_forall w g) v = not (eqb w v) && in_g g v

  pub in_d : D → ℕ → Bool
  in_d (d_atom p ts) v = in_ts ts v
  in_d (d_implies g p ts) v = in_g g v || in_ts ts v
  in_d (d_and a b) v = in_d a v || in_d b v
  in_d (d_forall w d) v = not (eqb w v) && in_d d v

-- An elaborated member is ∀x₁ … ∀xₙ A or ∀x₁ … ∀xₙ (G ⊃ A).
pub record Elaborated : Type 0 where
  pub prefix : List ℕ
  pub predicate : ℕ
  pub arguments : Terms PaperLeaf
  pub body : Option G

unfoldable pub in_b : Option G → ℕ → Bool
in_b none v = false
in_b (some g) v = in_g g v

unfoldable pub generalize : ℕ → Elaborated → Elaborated
generalize v m = cond (not (elem v m.prefix) && (in_ts m.arguments v || in_b m.body v))
    (record { prefix = v ∷ m.prefix; predicate = m.predicate; arguments = m.arguments; body = m.body }) m

unfoldable pub elab : D → List Elaborated
elab (d_atom p ts) = record { prefix = []; predicate = p; arguments = ts; body = none } ∷ []
elab (d_implies g p ts) = record { prefix = []; predicate = p; arguments = ts; body = some g } ∷ []
elab (d_and a b) = elab a ++ elab b
elab (d_forall v d) = map (generalize v) (elab d)

unfoldable pub elabs : List D → List Elaborated
elabs [] = []
elabs (d ∷ P) = elab d ++ elabs P
