-- T4: every configuration that a search reaches stands where its steps have led, and a proved search is a derivation.
use Prim.Native.Nat.{ℕ, suc}
use mathlib.Core.Path.{◌≡◌, refl, ◌∙◌, ap, subst}
use mathlib.Core.List.{List, [], ◌∷◌}
use Rattle.terms.specs.Lists.{All}
use Rattle.terms.specs.Terms.{Term, leaf, substitute, Appears}
use Rattle.terms.proofs.Lists.{all_weaken}
use Rattle.formulas.specs.Rules.{Rules}
use Rattle.terms.proofs.Terms.{substitute_agree}
use Rattle.formulas.specs.Formulas.{Goal, Clause}
use Rattle.sequents.specs.Symbols.{leftover}
use Rattle.sequents.specs.Sequents.{Line}
use Rattle.unification.specs.Store.{Leaf, var, con, Store, at, solution}
use Rattle.unification.specs.Promises.{Formed}
use Rattle.unification.proofs.Solution.{appears_unbound}
use Rattle.search.specs.Configurations.{Configuration}
use Rattle.search.specs.Steps.{step}
use Rattle.search.specs.Search.{proved, start, after}
use Rattle.search.specs.Answers.{symbol_under, final}
use Rattle.search.specs.Procedure.{PaperSequent, answer_of}
use Rattle.search.specs.Promises.{WellFormed, Follows, FollowsSteps, AllSteps}
use Rattle.search.proofs.Units.{all_units}
use Rattle.search.proofs.After.{after_all, comes_stands}
use Rattle.search.proofs.Invariant.{Invariant, step_keeps, start_invariant}
use Rattle.search.proofs.ProcedureSteps.{Known, known_follows, known_more, known_formed, step_known, start_known}

-- Two properties of all elements at once.
pub all_both : {A : Type 0} (P Q : A → Type 0) (l : List A) → All P l → All Q l → All (λ a. P a × Q a) l
all_both P Q [] h k = tt
all_both P Q (a ∷ l) h k = ((h.0, k.0), all_both P Q l h.1 k.1)

module _ (cs : Rules Clause) (g : Goal) where
  abbrev Both : ℕ → Configuration → Type 0
  Both u c = Invariant c × Known cs g u c

  -- What is known of all configurations, by induction over the acts.
  pub known : (n : ℕ) → All (Both n) (after cs g n)
  known n =
      after_all cs g Both (all_both Invariant (Known cs g 0) (start cs g) (start_invariant cs g) (start_known cs g))
      (λ u c h. all_both Invariant (Known cs g (suc u)) (step u c) (step_keeps u c h.0) (step_known cs g u c h.0 h.1))
      (λ u c h. (h.0, known_more cs g u c h.1)) n

  formed : (n : ℕ) → All WellFormed (after cs g n)
  formed n = all_weaken (Both n) WellFormed (λ c h. known_formed cs g n c h.0 h.1) (after cs g n) (known n)

  follows : (n : ℕ) → All (FollowsSteps cs g) (after cs g n)
  follows n = all_weaken (Both n) (FollowsSteps cs g) (λ c h. known_follows cs g n c h.1) (after cs g n) (known n)

-- The answer substitution gives each leaf its final value: the variables in final terms are unbound, and there labels are levels.
pub follows_answer : {cs : Rules Clause} {g : Goal} (s : Store) (gs : List PaperSequent) (path : List (Line Leaf)) → Formed s
    → (f : Follows cs g s gs path) → (l : Leaf) → answer_of f.sequence l ≡ final s l
unfolding answer_of final at solution
follows_answer s gs path h f (con c k) = unfold substitute symbol_under in refl
follows_answer s gs path h f (var x) =
    ap (λ (t : Term Leaf). substitute t (symbol_under f.state.labels)) (f.answer x)
    ∙ substitute_agree (solution s x) (symbol_under f.state.labels) (symbol_under s.level) symbol
  where
    symbol : (a : Leaf) → Appears (solution s x) a → symbol_under f.state.labels a ≡ symbol_under s.level a
    symbol (var y) i =
        unfold symbol_under in
        ap (λ (k : ℕ). leaf (leftover y k)) (f.labels y (appears_unbound s.bindings x y h.bound i))
    symbol (con c k) i = unfold symbol_under in refl

-- Promise T4 holds: every search follows the derivation steps.
pub all_steps : AllSteps
unfolding FollowsSteps WellFormed
all_steps cs g = record {
  formed = formed cs g;
  follows = follows cs g;
  derivation = λ budget n s path e.
      let r = comes_stands cs g n (proved s path) (((all_units cs g).tells budget n (proved s path)).0 e).0 in
      let f : Follows cs g s [] path = (subst (All (FollowsSteps cs g)) r.1 (follows cs g n)).0 in
      (f, follows_answer s [] path (subst (All WellFormed) r.1 (formed cs g n)).0 f);
}
