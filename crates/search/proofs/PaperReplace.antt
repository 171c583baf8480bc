-- [t/x]G: a term that is put in for a name of a goal's formula goes to what the names stand for.
use Prim.Native.Nat.{ℕ}
use mathlib.Core.Path.{◌≡◌, refl, sym, ◌∙◌, ap, ap₂, fun_ext}
use mathlib.Core.Bool.{Bool, true, false, cond}
use mathlib.Core.Logic.{◌⊎◌, inl, inr}
use lib.Dec.{eqb}
use borrow.Author.Tests.{eqb-true, eqb-false}
use Rattle.terms.specs.Lists.{update}
use Rattle.terms.specs.Terms.{Term, leaf, substitute}
use Rattle.terms.proofs.Lists.{update_same, update_other}
use Rattle.terms.proofs.Terms.{substitute_substitute, substitutes_substitutes}
use Rattle.formulas.specs.Formulas.{Goal, atom, truth, and, or, implies, exists, forall, Clause, fact, rule, both, each}
use Rattle.sequents.specs.Sequents.{Environment, put_environment}
use Rattle.sequents.proofs.Sequents.{update_put}
use Rattle.unification.specs.Store.{Leaf, at, apply}
use Rattle.search.specs.Paper.{name, Names, g_atom, g_and, g_or, g_implies, g_exists, g_forall, d_atom, d_implies, d_and, d_forall}
use Rattle.search.specs.Paper.{replace_names, bound, put_g, put_d, replace, embed, apply_g, formula_g, formula_d, names}
use Rattle.search.proofs.PaperApply.{formula_g_apply, formula_g_bound}

-- Terms for names leave a term of the search alone: it has none.
pub embed_put : (t : Term Leaf) (π : Names) → substitute (substitute t embed) (replace_names π) ≡ substitute t embed
unfolding embed replace_names substitute
embed_put t π = substitute_substitute t embed (replace_names π)

-- The name stands for itself or for a term of the search: so nothing is captured.
abbrev pub OwnOrTerm : Names → ℕ → Type 0
OwnOrTerm ρ v = (ρ v ≡ leaf (name v)) ⊎ ((t : Term Leaf) × (ρ v ≡ substitute t embed))

-- All names do.
abbrev pub Tidy : Names → Type 0
Tidy ρ = (v : ℕ) → OwnOrTerm ρ v

-- An environment of the search has only terms.
pub tidy_names : (e : Environment Leaf) → Tidy (names e)
tidy_names e v = inr (e v, refl)

-- Under a quantifier it stays so, its name standing for itself.
pub tidy_bound : (ρ : Names) (v : ℕ) → Tidy ρ → Tidy (bound ρ v)
unfolding update
tidy_bound ρ v h w = go (eqb w v) refl
  where
    go : (b : Bool) → eqb w v ≡ b → OwnOrTerm (λ u. cond b (leaf (name v)) (ρ u)) w
    go true e = inl (ap (λ u. leaf (name u)) (sym (eqb-true w v e)))
    go false e = h w

-- Terms for names, under a quantifier.
bound_put : (ρ π : Names) (v : ℕ) → Tidy ρ
    → ◌≡◌ {A = Names} (λ w. substitute (bound ρ v w) (replace_names (bound π v))) (bound (λ w. substitute (ρ w) (replace_names π)) v)
unfolding update substitute replace_names
bound_put ρ π v h = fun_ext (λ w. go w (eqb w v) refl (h w))
  where
    go : (w : ℕ) (b : Bool) → eqb w v ≡ b → OwnOrTerm ρ w
        → substitute (cond b (leaf (name v)) (ρ w)) (replace_names (bound π v)) ≡ cond b (leaf (name v)) (substitute (ρ w) (replace_names π))
    go w true e k = update_same π v (leaf (name v))
    go w false e (inl q) = rw q (update_other π v (leaf (name v)) w (eqb-false w v e))
    go w false e (inr q) = rw q.1 (embed_put q.0 (bound π v) ∙ sym (embed_put q.0 π))

-- Terms for names go to what the names stand for.
mutual
  unfolding put_g formula_g

  pub formula_g_put : (g : Goal) (ρ π : Names) → Tidy ρ → put_g (formula_g g ρ) π ≡ formula_g g (λ v. substitute (ρ v) (replace_names π))
  formula_g_put (atom p ts) ρ π h = ap (g_atom p) (substitutes_substitutes ts ρ (replace_names π))
  formula_g_put truth ρ π h = refl
  formula_g_put (and a b) ρ π h = ap₂ g_and (formula_g_put a ρ π h) (formula_g_put b ρ π h)
  formula_g_put (or a b) ρ π h = ap₂ g_or (formula_g_put a ρ π h) (formula_g_put b ρ π h)
  formula_g_put (implies d g) ρ π h = ap₂ g_implies (formula_d_put d ρ π h) (formula_g_put g ρ π h)
  formula_g_put (exists v g) ρ π h =
      ap (g_exists v) (formula_g_put g (bound ρ v) (bound π v) (tidy_bound ρ v h) ∙ ap (formula_g g) (bound_put ρ π v h))
  formula_g_put (forall v g) ρ π h =
      ap (g_forall v) (formula_g_put g (bound ρ v) (bound π v) (tidy_bound ρ v h) ∙ ap (formula_g g) (bound_put ρ π v h))

  formula_d_put : (d : Clause) (ρ π : Names) → Tidy ρ → put_d (formula_d d ρ) π ≡ formula_d d (λ v. substitute (ρ v) (replace_names π))
  formula_d_put (fact p ts) ρ π h = ap (d_atom p) (substitutes_substitutes ts ρ (replace_names π))
  formula_d_put (rule g p ts) ρ π h = ap₂ (λ k us. d_implies k p us) (formula_g_put g ρ π h) (substitutes_substitutes ts ρ (replace_names π))
  formula_d_put (both a b) ρ π h = ap₂ d_and (formula_d_put a ρ π h) (formula_d_put b ρ π h)
  formula_d_put (each v d) ρ π h =
      ap (d_forall v) (formula_d_put d (bound ρ v) (bound π v) (tidy_bound ρ v h) ∙ ap (formula_d d) (bound_put ρ π v h))

-- The formula under a quantifier with t for its name: the formula in the environment with t for it.
replace_bound : (g : Goal) (e : Environment Leaf) (v : ℕ) (t : Term Leaf)
    → replace (formula_g g (bound (names e) v)) v (substitute t embed) ≡ formula_g g (names (update e v t))
unfolding replace update substitute replace_names
replace_bound g e v t =
    formula_g_put g (bound (names e) v) new (tidy_bound (names e) v (tidy_names e)) ∙ ap (formula_g g) (fun_ext (λ w. go w (eqb w v)))
  where
    new : Names
    new = update (λ u. leaf (name u)) v (substitute t embed)

    go : (w : ℕ) (b : Bool) → substitute (cond b (leaf (name v)) (names e w)) (replace_names new) ≡ substitute (cond b t (e w)) embed
    go w true = update_same (λ u. leaf (name u)) v (substitute t embed)
    go w false = embed_put (e w) new

-- The same with bindings θ applied, which leave t alone.
pub replace_apply : (g : Goal) (e : Environment Leaf) (v : ℕ) (t : Term Leaf) (θ : ℕ → Term Leaf) → apply t θ ≡ t
    → replace (apply_g (formula_g g (bound (names e) v)) θ) v (substitute t embed) ≡ apply_g (formula_g g (names (update e v t))) θ
replace_apply g e v t θ h =
    ap (λ k. replace k v (substitute t embed)) (formula_g_bound g e v θ)
    ∙ replace_bound g (put_environment (at θ) e) v t
    ∙ ap (λ f. formula_g g (names f)) (ap (update (put_environment (at θ) e) v) (sym h) ∙ sym (update_put (at θ) e v t))
    ∙ sym (formula_g_apply g (update e v t) θ)
