-- Definition 6 (vi), (vii): the renaming substitution for the fresh variables of a prefix gives the head and the body of the
-- member in the environment that the search has for them.
use Prim.Native.Nat.{ℕ, suc, ◌≤◌}
use mathlib.Core.Path.{◌≡◌, refl, sym, ◌∙◌, ap, ap₂, fun_ext}
use mathlib.Core.Bool.{Bool, true, false, cond}
use mathlib.Core.List.{List, [], ◌∷◌, map}
use mathlib.Core.Option.{Option, none, some}
use mathlib.Core.Logic.{◌⊎◌, inl, inr}
use native.Mathlib.Omega.{arith}
use lib.Dec.{eqb}
use borrow.Author.Tests.{eqb-true}
use Rattle.terms.specs.Lists.{update}
use Rattle.terms.specs.Terms.{Term, leaf, Terms, substitute, substitutes}
use Rattle.terms.proofs.Terms.{substitutes_substitutes}
use Rattle.formulas.specs.Formulas.{Goal}
use Rattle.sequents.specs.Sequents.{Environment, put_environment, Program, put_terms, assign, body_sequent}
use Rattle.sequents.proofs.Sequents.{assign_put}
use Rattle.unification.specs.Store.{Leaf, var, fresh_variables, at}
use Rattle.search.specs.Paper.{name, free, Names, bound, replace_names, embed, formula_g, names}
use Rattle.search.specs.Procedure.{paper_sequent, apply_sequent, renaming, paper_body, paper_of}
use Rattle.search.proofs.PaperApply.{formula_g_apply, formulas_at}
use Rattle.search.proofs.PaperReplace.{embed_put, Tidy, tidy_names, tidy_bound, formula_g_put}
use Rattle.search.proofs.PaperNames.{formula_b}
use Rattle.search.proofs.PaperElab.{bound_by}
use Rattle.search.proofs.ProcedureFresh.{numbers}

-- The search's environment with fresh variables, from n on, for the names of a prefix.
abbrev pub fresh_environment : List ℕ → ℕ → Environment Leaf → Environment Leaf
fresh_environment vs n e = assign vs (fresh_variables vs n) e

-- The paper's renaming substitution {⟨x₁, w₁⟩, …} for them.
abbrev pub fresh_renaming : List ℕ → ℕ → Names
fresh_renaming vs n = renaming vs (numbers vs n) (λ v. leaf (name v))

-- Bindings of older variables

-- The bindings θ leave the variables from n on alone.
abbrev pub Older : (ℕ → Term Leaf) → ℕ → Type 0
Older θ n = (x : ℕ) → n ≤ x → θ x ≡ leaf (var x)

-- Bindings of older variables leave the fresh variables alone.
fresh_variables_apply : (θ : ℕ → Term Leaf) (vs : List ℕ) (n : ℕ) → Older θ n → put_terms (at θ) (fresh_variables vs n) ≡ fresh_variables vs n
unfolding fresh_variables substitute at
fresh_variables_apply θ [] n h = refl
fresh_variables_apply θ (v ∷ vs) n h = ap₂ ◌∷◌ (h n (omega arith)) (fresh_variables_apply θ vs (suc n) (λ x l. h x (omega arith)))

-- Bindings of older variables go to the rest of an environment with fresh variables.
pub fresh_apply : (θ : ℕ → Term Leaf) (vs : List ℕ) (n : ℕ) (e : Environment Leaf) → Older θ n
    → put_environment (at θ) (fresh_environment vs n e) ≡ fresh_environment vs n (put_environment (at θ) e)
fresh_apply θ vs n e h =
    assign_put (at θ) vs (fresh_variables vs n) e ∙ ap (λ ts. assign vs ts (put_environment (at θ) e)) (fresh_variables_apply θ vs n h)

-- Renaming

-- The mapping ρ, and then π, gives the name u what e says.
abbrev Ready : Names → Names → Environment Leaf → ℕ → Type 0
Ready ρ π e u = (ρ u ≡ names e u) ⊎ ((ρ u ≡ leaf (name u)) × (π u ≡ names e u))

-- One name of the prefix.
ready_bound : (ρ π : Names) (e : Environment Leaf) (v w u : ℕ) → Ready ρ π e u
    → Ready (bound ρ v) (update π v (leaf (free (var w)))) (update e v (leaf (var w))) u
unfolding update substitute embed
ready_bound ρ π e v w u h = go (eqb u v) refl
  where
    go : (b : Bool) → eqb u v ≡ b → Ready (λ x. cond b (leaf (name v)) (ρ x)) (λ x. cond b (leaf (free (var w))) (π x))
        (λ x. cond b (leaf (var w)) (e x)) u
    go true q = inr (ap (λ x. leaf (name x)) (sym (eqb-true u v q)), refl)
    go false q = h

-- All of them.
renaming_ready : (vs : List ℕ) (n : ℕ) (ρ π : Names) (e : Environment Leaf) (u : ℕ) → Ready ρ π e u
    → substitute (bound_by vs ρ u) (replace_names (renaming vs (numbers vs n) π)) ≡ names (fresh_environment vs n e) u
unfolding bound_by numbers renaming assign fresh_variables substitute replace_names
renaming_ready [] n ρ π e u (inl q) = rw q (embed_put (e u) π)
renaming_ready [] n ρ π e u (inr q) = rw q.0 q.1
renaming_ready (v ∷ vs) n ρ π e u h =
    renaming_ready vs (suc n) (bound ρ v) (update π v (leaf (free (var n)))) (update e v (leaf (var n))) u (ready_bound ρ π e v n u h)

-- What the names below a prefix stand for, once renamed.
renaming_names : (vs : List ℕ) (n : ℕ) (e : Environment Leaf)
    → ◌≡◌ {A = Names} (λ u. substitute (bound_by vs (names e) u) (replace_names (fresh_renaming vs n))) (names (fresh_environment vs n e))
renaming_names vs n e = fun_ext (λ u. renaming_ready vs n (names e) (λ v. leaf (name v)) e u (inl refl))

-- The arguments of the head.
pub renaming_head : (ts : Terms ℕ) (vs : List ℕ) (n : ℕ) (e : Environment Leaf)
    → substitutes (substitutes ts (bound_by vs (names e))) (replace_names (fresh_renaming vs n)) ≡ substitutes
    (substitutes ts (fresh_environment vs n e)) embed
renaming_head ts vs n e =
    substitutes_substitutes ts (bound_by vs (names e)) (replace_names (fresh_renaming vs n))
    ∙ ap (substitutes ts) (renaming_names vs n e)
    ∙ sym (substitutes_substitutes ts (fresh_environment vs n e) embed)

-- Below a prefix each name stands for itself or for a term of the search.
tidy_bound_by : (vs : List ℕ) (ρ : Names) → Tidy ρ → Tidy (bound_by vs ρ)
unfolding bound_by
tidy_bound_by [] ρ h = h
tidy_bound_by (v ∷ vs) ρ h = tidy_bound_by vs (bound ρ v) (tidy_bound ρ v h)

-- The body, the bindings θ applied.
pub renaming_body : (o : Option Goal) (vs : List ℕ) (n : ℕ) (e : Environment Leaf) (P : Program Leaf) (i : ℕ) (θ : ℕ → Term Leaf)
    → Older θ n
    → paper_body (formula_b o (bound_by vs (names (put_environment (at θ) e)))) (fresh_renaming vs n) (formulas_at θ P) i
    ≡ map (apply_sequent θ) (map paper_of (body_sequent o (fresh_environment vs n e) P i))
unfolding paper_body body_sequent paper_of
renaming_body none vs n e P i θ h = refl
renaming_body (some g) vs n e P i θ h = ap (λ k. paper_sequent k (formulas_at θ P) i ∷ []) (
    formula_g_put g (bound_by vs (names f)) (fresh_renaming vs n) (tidy_bound_by vs (names f) (tidy_names f))
    ∙ ap (formula_g g) (renaming_names vs n f ∙ ap names (sym (fresh_apply θ vs n e h)))
    ∙ sym (formula_g_apply g (fresh_environment vs n e) θ))
  where
    f : Environment Leaf
    f = put_environment (at θ) e
