-- A substitution θ applied to the formula of a goal in an environment goes to the environment; so it does for clauses, programs
-- and sequents. The substitution ∅ changes nothing, and one substitution after another is their composition.
use Prim.Native.Nat.{ℕ}
use mathlib.Core.Path.{◌≡◌, refl, sym, ◌∙◌, ap, ap₂, fun_ext}
use mathlib.Core.List.{List, [], ◌∷◌, map, map-id}
use Rattle.terms.specs.Terms.{Term, leaf, Terms, substitute, substitutes}
use Rattle.terms.proofs.Lists.{map_map, map_agree, update_map}
use Rattle.terms.proofs.Terms.{substitute_substitute, substitutes_substitutes}
use Rattle.formulas.specs.Formulas.{Goal, atom, truth, and, or, implies, exists, forall, Clause, fact, rule, both, each}
use Rattle.formulas.specs.Rules.{Rules, rules, assume, map_rules}
use Rattle.formulas.proofs.Rules.{assume_map}
use Rattle.sequents.specs.Sequents.{Environment, Hypothesis, hypothesis, Program, put_environment, put_hypothesis, put_program}
use Rattle.sequents.specs.Sequents.{Sequent, sequent, put_sequent}
use Rattle.unification.specs.Store.{Leaf, var, at, apply}
use Rattle.unification.proofs.Substitution.{apply_fixed}
use Rattle.search.specs.Paper.{name, Names, D, g_atom, g_and, g_or, g_implies, g_exists, g_forall, d_atom, d_implies, d_and, d_forall}
use Rattle.search.specs.Paper.{bound, embed, replace_free, apply_g, apply_d, formula_g, formula_d, names}
use Rattle.search.specs.Procedure.{paper_sequent, apply_sequent, formulas_of, paper_of}

-- Terms of the search, and environments

-- Applying θ to an embedded term of the search is embedding the term with θ applied.
pub embed_apply : (t : Term Leaf) (θ : ℕ → Term Leaf) → substitute (substitute t embed) (replace_free θ) ≡ substitute (apply t θ) embed
unfolding embed replace_free substitute
embed_apply t θ = substitute_substitute t embed (replace_free θ) ∙ sym (substitute_substitute t (at θ) embed)

-- Of several terms the same.
pub embeds_apply : (ts : Terms Leaf) (θ : ℕ → Term Leaf)
    → substitutes (substitutes ts embed) (replace_free θ) ≡ substitutes (substitutes ts (at θ)) embed
unfolding embed replace_free substitute
embeds_apply ts θ = substitutes_substitutes ts embed (replace_free θ) ∙ sym (substitutes_substitutes ts (at θ) embed)

-- Under a quantifier, θ goes to what the other names stand for.
bound_apply : (ρ : Names) (θ : ℕ → Term Leaf) (v : ℕ)
    → ◌≡◌ {A = Names} (λ w. substitute (bound ρ v w) (replace_free θ)) (bound (λ w. substitute (ρ w) (replace_free θ)) v)
unfolding substitute replace_free
bound_apply ρ θ v = update_map (λ t. substitute t (replace_free θ)) ρ v (leaf (name v))

-- What the names of an environment stand for.
names_apply : (e : Environment Leaf) (θ : ℕ → Term Leaf)
    → ◌≡◌ {A = Names} (λ v. substitute (names e v) (replace_free θ)) (names (put_environment (at θ) e))
names_apply e θ = fun_ext (λ v. embed_apply (e v) θ)

-- Formulas

-- In the formula of a goal or a clause, θ goes to what the names stand for.
mutual
  unfolding apply_g formula_g

  formula_g_on_free : (g : Goal) (ρ : Names) (θ : ℕ → Term Leaf)
      → apply_g (formula_g g ρ) θ ≡ formula_g g (λ v. substitute (ρ v) (replace_free θ))
  formula_g_on_free (atom p ts) ρ θ = ap (g_atom p) (substitutes_substitutes ts ρ (replace_free θ))
  formula_g_on_free truth ρ θ = refl
  formula_g_on_free (and a b) ρ θ = ap₂ g_and (formula_g_on_free a ρ θ) (formula_g_on_free b ρ θ)
  formula_g_on_free (or a b) ρ θ = ap₂ g_or (formula_g_on_free a ρ θ) (formula_g_on_free b ρ θ)
  formula_g_on_free (implies d g) ρ θ = ap₂ g_implies (formula_d_on_free d ρ θ) (formula_g_on_free g ρ θ)
  formula_g_on_free (exists v g) ρ θ = ap (g_exists v) (formula_g_on_free g (bound ρ v) θ ∙ ap (formula_g g) (bound_apply ρ θ v))
  formula_g_on_free (forall v g) ρ θ = ap (g_forall v) (formula_g_on_free g (bound ρ v) θ ∙ ap (formula_g g) (bound_apply ρ θ v))

  formula_d_on_free : (d : Clause) (ρ : Names) (θ : ℕ → Term Leaf)
      → apply_d (formula_d d ρ) θ ≡ formula_d d (λ v. substitute (ρ v) (replace_free θ))
  formula_d_on_free (fact p ts) ρ θ = ap (d_atom p) (substitutes_substitutes ts ρ (replace_free θ))
  formula_d_on_free (rule g p ts) ρ θ = ap₂ (λ h us. d_implies h p us) (formula_g_on_free g ρ θ) (substitutes_substitutes ts ρ (replace_free θ))
  formula_d_on_free (both a b) ρ θ = ap₂ d_and (formula_d_on_free a ρ θ) (formula_d_on_free b ρ θ)
  formula_d_on_free (each v d) ρ θ = ap (d_forall v) (formula_d_on_free d (bound ρ v) θ ∙ ap (formula_d d) (bound_apply ρ θ v))

-- A goal in an environment.
pub formula_g_apply : (g : Goal) (e : Environment Leaf) (θ : ℕ → Term Leaf)
    → apply_g (formula_g g (names e)) θ ≡ formula_g g (names (put_environment (at θ) e))
formula_g_apply g e θ = formula_g_on_free g (names e) θ ∙ ap (formula_g g) (names_apply e θ)

-- A clause in an environment.
formula_d_apply : (d : Clause) (e : Environment Leaf) (θ : ℕ → Term Leaf)
    → apply_d (formula_d d (names e)) θ ≡ formula_d d (names (put_environment (at θ) e))
formula_d_apply d e θ = formula_d_on_free d (names e) θ ∙ ap (formula_d d) (names_apply e θ)

-- A goal under a quantifier.
pub formula_g_bound : (g : Goal) (e : Environment Leaf) (v : ℕ) (θ : ℕ → Term Leaf)
    → apply_g (formula_g g (bound (names e) v)) θ ≡ formula_g g (bound (names (put_environment (at θ) e)) v)
formula_g_bound g e v θ =
    formula_g_on_free g (bound (names e) v) θ ∙ ap (formula_g g) (bound_apply (names e) θ v ∙ ap (λ ρ. bound ρ v) (names_apply e θ))

-- Programs and sequents

-- The list θ(𝒫) is the program's formulas with θ applied.
abbrev pub formulas_at : (ℕ → Term Leaf) → Program Leaf → Rules D
formulas_at θ P = map_rules (λ d. apply_d d θ) (formulas_of P)

-- A program: θ goes to the environments of its clauses.
pub formulas_apply : (P : Program Leaf) (θ : ℕ → Term Leaf) → formulas_at θ P ≡ formulas_of (put_program (at θ) P)
unfolding formulas_of
formulas_apply P θ = ap (rules P.order) (each P.clauses)
  where
    each : (l : List (Hypothesis Leaf)) → map (λ d. apply_d d θ) (map (λ h. formula_d h.clause (names h.environment)) l)
        ≡ map (λ h. formula_d h.clause (names h.environment)) (map (put_hypothesis (at θ)) l)
    each [] = refl
    each (h ∷ l) = ap₂ ◌∷◌ (formula_d_apply h.clause h.environment θ) (each l)

-- In a program with one more assumption θ goes to it and to the other clauses.
pub formulas_assume : (c : Clause) (e : Environment Leaf) (P : Program Leaf) (θ : ℕ → Term Leaf)
    → formulas_at θ (assume (hypothesis c e) P) ≡ assume (apply_d (formula_d c (names e)) θ) (formulas_at θ P)
unfolding formulas_of
formulas_assume c e P θ =
    ap (map_rules (λ d. apply_d d θ)) (assume_map (λ h. formula_d h.clause (names h.environment)) (hypothesis c e) P)
    ∙ assume_map (λ d. apply_d d θ) (formula_d c (names e)) (formulas_of P)

-- A sequent: θ goes to its environments.
sequent_apply : (θ : ℕ → Term Leaf) (q : Sequent Leaf) → apply_sequent θ (paper_of q) ≡ paper_of (put_sequent (at θ) q)
unfolding paper_of
sequent_apply θ q = ap₂ (λ g P. paper_sequent g P q.level) (formula_g_apply q.goal q.environment θ) (formulas_apply q.program θ)

-- ∅ changes nothing.
pub apply_identity : (t : Term Leaf) → apply t (λ x. leaf (var x)) ≡ t
apply_identity t = apply_fixed t (λ x. leaf (var x)) (λ x h. refl)

-- Of sequents the same.
pub sequent_identity : (q : Sequent Leaf) → apply_sequent (λ x. leaf (var x)) (paper_of q) ≡ paper_of q
sequent_identity q =
    sequent_apply (λ x. leaf (var x)) q ∙ ap paper_of (ap₂ (λ e P. sequent q.goal e P q.level) (same q.environment) program)
  where
    same : (e : Environment Leaf) → put_environment (at (λ x. leaf (var x))) e ≡ e
    same e = fun_ext (λ v. apply_identity (e v))

    program : put_program (at (λ x. leaf (var x))) q.program ≡ q.program
    program =
        ap (rules q.program.order)
        (map_agree (put_hypothesis (at (λ x. leaf (var x)))) (λ h. h) (λ h. ap (hypothesis h.clause) (same h.environment))
        q.program.clauses ∙ map-id q.program.clauses)

-- S, and then σ, is S' where it is so on terms.
module _ (S σ S' : ℕ → Term Leaf) (composed : (t : Term Leaf) → apply t S' ≡ apply (apply t S) σ) where
  -- One sequent.
  sequent_composed : (q : Sequent Leaf) → apply_sequent σ (apply_sequent S (paper_of q)) ≡ apply_sequent S' (paper_of q)
  sequent_composed q =
      ap (apply_sequent σ) (sequent_apply S q)
      ∙ sequent_apply σ (put_sequent (at S) q)
      ∙ ap paper_of (ap₂ (λ e P. sequent q.goal e P q.level) (same q.environment) program)
      ∙ sym (sequent_apply S' q)
    where
      same : (e : Environment Leaf) → put_environment (at σ) (put_environment (at S) e) ≡ put_environment (at S') e
      same e = fun_ext (λ v. sym (composed (e v)))

      program : put_program (at σ) (put_program (at S) q.program) ≡ put_program (at S') q.program
      program =
          ap (rules q.program.order)
          (map_map (put_hypothesis (at S)) (put_hypothesis (at σ)) q.program.clauses
          ∙ map_agree (λ h. put_hypothesis (at σ) (put_hypothesis (at S) h)) (put_hypothesis (at S'))
          (λ h. ap (hypothesis h.clause) (same h.environment))
          q.program.clauses)

  -- A list of them.
  pub sequents_composed : (qs : List (Sequent Leaf))
      → map (apply_sequent σ) (map (apply_sequent S) (map paper_of qs)) ≡ map (apply_sequent S') (map paper_of qs)
  sequents_composed [] = refl
  sequents_composed (q ∷ qs) = ap₂ ◌∷◌ (sequent_composed q) (sequents_composed qs)
