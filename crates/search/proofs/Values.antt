-- Valuations of the search's variables by terms of derivations: goals with their values, valuations that agree, and the values
-- of fresh variables.
use Prim.Native.Nat.{ℕ, suc, ◌≤◌, ◌<◌}
use mathlib.Core.Path.{◌≡◌, refl, sym, ◌∙◌, ap, ap₂, subst, fun_ext}
use mathlib.Core.Bool.{Bool, true, false, cond}
use mathlib.Core.List.{List, [], ◌∷◌, ◌++◌, map}
use mathlib.Core.Option.{Option}
use native.Mathlib.Omega.{arith}
use lib.Dec.{eqb}
use lib.ListN.{length}
use borrow.Author.Tests.{eqb-false}
use Rattle.terms.specs.Lists.{All, update}
use Rattle.terms.specs.Terms.{Term, Terms, substitute, substitutes, Leaves, LeavesAll}
use Rattle.terms.proofs.Lists.{map_append, update_same, update_other}
use Rattle.terms.proofs.Terms.{substitute_where, substitutes_where}
use Rattle.formulas.specs.Formulas.{Goal, Clause}
use Rattle.formulas.specs.Rules.{rules, assume}
use Rattle.sequents.specs.Symbols.{Symbol, made, symbol_level, Ground, level}
use Rattle.sequents.specs.Sequents.{Environment, Program, Hypothesis, hypothesis, Sequent, sequent, body_sequent, put_terms}
use Rattle.sequents.specs.Sequents.{put_environment, put_hypothesis, put_program, put_sequent}
use Rattle.sequents.proofs.Sequents.{update_put, assume_put, body_put}
use Rattle.unification.specs.Store.{Leaf, var, con, Binding, Store, fresh, fresh_levels, past, fresh_variables}
use Rattle.unification.specs.Promises.{Below, BelowBinding, Formed}
use Rattle.unification.proofs.Stores.{fresh_formed}
use Rattle.unification.proofs.Valuation.{Domain, value, Equation, Solves}
use Rattle.search.proofs.Invariant.{EnvironmentBelow, ProgramBelow, GoalsBelow}

-- Values are terms of derivations: a made constant stands for itself.
unfoldable pub symbols : Domain Symbol
unfolding symbol_level
symbols = record { constant = made; level = symbol_level; level_constant = λ c k. refl; constant_number = λ c k d j e. cc }

-- A value for every variable.
abbrev pub Valuation : Type 0
Valuation = ℕ → Ground

-- What a leaf of the search stands for.
abbrev pub valued : Valuation → Leaf → Ground
valued σ = value symbols σ

-- The valuation solves the store.
abbrev pub Solution : Valuation → Store → Type 0
Solution σ s = Solves symbols σ s

-- Goals with their values.
abbrev pub goals_at : Valuation → List (Sequent Leaf) → List (Sequent Symbol)
goals_at σ gs = map (put_sequent (valued σ)) gs

-- The values of a member's body and the goals after it are the body with its names' values, then the others' values.
pub body_goals : (σ : Valuation) (o : Option Goal) (e : Environment Leaf) (f : Environment Symbol) (P : Program Leaf) (i : ℕ)
    (gs : List (Sequent Leaf))
    → put_environment (valued σ) e ≡ f → body_sequent o f (put_program (valued σ) P) i ++ goals_at σ gs ≡ goals_at σ (body_sequent o e P i ++ gs)
body_goals σ o e f P i gs q =
    ap (λ (h : Environment Symbol). body_sequent o h (put_program (valued σ) P) i ++ goals_at σ gs) (sym q)
    ∙ ap (◌++ goals_at σ gs) (sym (body_put (valued σ) o e P i))
    ∙ sym (map_append (put_sequent (valued σ)) (body_sequent o e P i) gs)

-- The values of an assumption's goal and the goals after it are the goal with the assumption's values, then the others'.
pub assume_goals : (σ : Valuation) (g : Goal) (c : Clause) (e : Environment Leaf) (P : Program Leaf) (i : ℕ) (gs : List (Sequent Leaf))
    → sequent g (put_environment (valued σ) e) (assume (hypothesis c (put_environment (valued σ) e)) (put_program (valued σ) P)) i
    ∷ goals_at σ gs ≡ goals_at σ (sequent g e (assume (hypothesis c e) P) i ∷ gs)
assume_goals σ g c e P i gs =
    ap (λ (Q : Program Symbol). sequent g (put_environment (valued σ) e) Q i ∷ goals_at σ gs) (sym (assume_put (valued σ) c e P))

-- The values of a quantifier's goal and the goals after it are the goal with its term's value, then the others'.
pub update_goals : (σ : Valuation) (g : Goal) (e : Environment Leaf) (v : ℕ) (t : Term Leaf) (P : Program Leaf) (i : ℕ)
    (gs : List (Sequent Leaf))
    → sequent g (update (put_environment (valued σ) e) v (substitute t (valued σ))) (put_program (valued σ) P) i ∷ goals_at σ gs ≡ goals_at σ
    (sequent g (update e v t) P i ∷ gs)
update_goals σ g e v t P i gs =
    ap (λ (f : Environment Symbol). sequent g f (put_program (valued σ) P) i ∷ goals_at σ gs) (sym (update_put (valued σ) e v t))

-- The valuations σ and τ agree on the variables below n.
abbrev pub Agree : ℕ → Valuation → Valuation → Type 0
Agree n σ τ = (x : ℕ) → x < n → σ x ≡ τ x

-- Valuations that agree below n give the same value to a leaf that is below n.
valued_agree : (n : ℕ) (σ τ : Valuation) → Agree n σ τ → (a : Leaf) → Below n a → valued σ a ≡ valued τ a
unfolding value Below
valued_agree n σ τ h (var x) b = h x b
valued_agree n σ τ h (con c k) b = refl

-- Valuations that agree below n give the same value to a term that is below n.
pub term_agree : (t : Term Leaf) (n : ℕ) (σ τ : Valuation) → Leaves t (Below n) → Agree n σ τ
    → substitute t (valued σ) ≡ substitute t (valued τ)
term_agree t n σ τ b h = substitute_where t (Below n) (valued σ) (valued τ) b (valued_agree n σ τ h)

-- Valuations that agree below n give the same values to terms that are below n.
pub terms_agree : (ts : Terms Leaf) (n : ℕ) (σ τ : Valuation) → LeavesAll ts (Below n) → Agree n σ τ
    → substitutes ts (valued σ) ≡ substitutes ts (valued τ)
terms_agree ts n σ τ b h = substitutes_where ts (Below n) (valued σ) (valued τ) b (valued_agree n σ τ h)

-- Valuations that agree below n give the same values to an environment that is below n.
pub environment_agree : (e : Environment Leaf) (n : ℕ) (σ τ : Valuation) → EnvironmentBelow n e → Agree n σ τ
    → put_environment (valued σ) e ≡ put_environment (valued τ) e
environment_agree e n σ τ b h = fun_ext (λ v. term_agree (e v) n σ τ (b v) h)

-- Valuations that agree below n give the same values to a program that is below n.
pub program_agree : (P : Program Leaf) (n : ℕ) (σ τ : Valuation) → ProgramBelow n P → Agree n σ τ
    → put_program (valued σ) P ≡ put_program (valued τ) P
program_agree P n σ τ b h = ap (rules P.order) (each P.clauses b)
  where
    each : (l : List (Hypothesis Leaf)) → All (λ x. EnvironmentBelow n x.environment) l
        → map (put_hypothesis (valued σ)) l ≡ map (put_hypothesis (valued τ)) l
    each [] b = refl
    each (x ∷ l) b = ap₂ ◌∷◌ (ap (hypothesis x.clause) (environment_agree x.environment n σ τ b.0 h)) (each l b.1)

-- Valuations that agree below n give the same values to goals that are below n.
pub goals_agree : (gs : List (Sequent Leaf)) (n : ℕ) (σ τ : Valuation) → GoalsBelow gs n → Agree n σ τ → goals_at σ gs ≡ goals_at τ gs
goals_agree [] n σ τ b h = refl
goals_agree (g ∷ gs) n σ τ b h =
    ap₂ ◌∷◌ (ap₂ (λ (e : Environment Symbol) (P : Program Symbol). sequent g.goal e P g.level)
    (environment_agree g.environment n σ τ b.0.0 h) (program_agree g.program n σ τ b.0.1 h)) (goals_agree gs n σ τ b.1 h)

-- A solution with one fresh variable solves the store without it, and gives it no value above its level.
fresh_one : (v i : ℕ) (s : Store) (σ : Valuation) → Solution σ (fresh (v ∷ []) i s) → Solution σ s × (level (σ s.next) ≤ i)
unfolding fresh fresh_levels past level symbols
fresh_one v i s σ h = (
  record {
    equations = h.equations;
    levels = λ x b. subst (λ (k : ℕ). level (σ x) ≤ k)
        (update_other s.level s.next i x (λ q. omega arith)) (h.levels x (omega arith));
  },
  subst (λ (k : ℕ). level (σ s.next) ≤ k) (update_same s.level s.next i) (h.levels s.next (omega arith)),
)

-- With a value no higher than its level, a solution is one with the fresh variable.
add_one_lem : (v i : ℕ) (s : Store) (σ : Valuation) (t : Ground) → Formed s → Solution σ s → level t ≤ i
    → Solution (update σ s.next t) (fresh (v ∷ []) i s)
unfolding fresh fresh_levels past level symbols update
add_one_lem v i s σ t f h l = record {
  equations = all_both s.bindings f.below h.equations;
  levels = λ x b. go x (eqb x s.next) refl b;
}
  where
    τ : Valuation
    τ = update σ s.next t

    same : Agree s.next σ τ
    same x b = sym (update_other σ s.next t x (λ q. omega arith))

    all_both : (bs : List Binding) → All (BelowBinding s.next) bs → All (Equation symbols σ) bs → All (Equation symbols τ) bs
    all_both [] b e = tt
    all_both (x ∷ bs) b e =
        (sym (same x.name b.0.0) ∙ e.0 ∙ term_agree x.value s.next σ τ b.0.1 same, all_both bs b.1 e.1)

    go : (x : ℕ) (c : Bool) → eqb x s.next ≡ c → x < suc s.next → level (cond c t (σ x)) ≤ cond c i (s.level x)
    go x true e b = l
    go x false e b = h.levels x (let d = eqb-false x s.next e in omega arith)

-- A prefix has one fresh variable for each name.
pub fresh_variables_length : (vs : List ℕ) (n : ℕ) (σ : Valuation) → length (put_terms (valued σ) (fresh_variables vs n)) ≡ length vs
unfolding fresh_variables
fresh_variables_length [] n σ = refl
fresh_variables_length (v ∷ vs) n σ = ap suc (fresh_variables_length vs (suc n) σ)

-- A solution with fresh variables solves the store without them, and gives them no value above their level.
pub fresh_solution : (vs : List ℕ) (i : ℕ) (s : Store) (σ : Valuation) → Solution σ (fresh vs i s)
    → Solution σ s × All (λ t. level t ≤ i) (put_terms (valued σ) (fresh_variables vs s.next))
unfolding fresh fresh_levels past fresh_variables value substitute
fresh_solution [] i s σ h = (h, tt)
fresh_solution (v ∷ vs) i s σ h =
    let r = fresh_solution vs i (fresh (v ∷ []) i s) σ h in
    let q = fresh_one v i s σ r.0 in
    (q.0, (q.1, r.1))

-- An extension of σ solves the store with fresh variables, whose values are ts, and agrees with σ before them.
pub record Extension (vs : List ℕ) (ts : List Ground) (i : ℕ) (s : Store) (σ : Valuation) : Type 0 where
  pub valuation : Valuation
  pub solves : Solution valuation (fresh vs i s)
  pub agree : Agree s.next σ valuation
  pub terms : put_terms (valued valuation) (fresh_variables vs s.next) ≡ ts

-- A solution can be extended to fresh variables with any values no higher than their level.
pub extend : (vs : List ℕ) (ts : List Ground) (i : ℕ) (s : Store) (σ : Valuation) → Formed s → Solution σ s → length ts ≡ length vs
    → All (λ t. level t ≤ i) ts
    → Extension vs ts i s σ
unfolding fresh fresh_levels past fresh_variables value substitute
extend [] [] i s σ f h n l = record { valuation = σ; solves = h; agree = λ x b. refl; terms = refl }
extend [] (t ∷ ts) i s σ f h n l = absurd (omega arith)
extend (v ∷ vs) [] i s σ f h n l = absurd (omega arith)
extend (v ∷ vs) (t ∷ ts) i s σ f h n l =
    let r = extend vs ts i (fresh (v ∷ []) i s) (update σ s.next t) (fresh_formed (v ∷ []) i s f) (add_one_lem v i s σ t f h l.0)
    (omega arith) l.1 in
    record {
      valuation = r.valuation;
      solves = r.solves;
      agree = λ x b. sym (update_other σ s.next t x (λ q. omega arith)) ∙ r.agree x (omega arith);
      terms = ap₂ ◌∷◌ (sym (r.agree s.next (omega arith)) ∙ update_same σ s.next t) r.terms;
    }
