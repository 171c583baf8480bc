-- Where a search stands in the procedure of document 003, and how it goes on by one tuple.
use Prim.Native.Nat.{ℕ, suc, ◌<◌}
use mathlib.Core.Path.{◌≡◌, refl, sym, ◌∙◌, ap}
use mathlib.Core.List.{List, [], ◌∷◌, map}
use native.Mathlib.Omega.{arith}
use Rattle.terms.specs.Lists.{All}
use Rattle.terms.proofs.Lists.{all_weaken}
use Rattle.formulas.specs.Formulas.{Goal, Clause}
use Rattle.formulas.specs.Rules.{Rules}
use Rattle.sequents.specs.Sequents.{Line}
use Rattle.unification.specs.Store.{Leaf, Store, apply, solution}
use Rattle.unification.specs.Labelled.{Composed}
use Rattle.unification.specs.Promises.{Labels}
use Rattle.search.specs.Procedure.{PaperSequent, apply_sequent, State, identity, only_goals, By, then, composition}
use Rattle.search.specs.Promises.{Follows}
use Rattle.search.proofs.PaperApply.{apply_identity}

-- Goals gs with a store and the lines so far, after u acts: the state that the derivation sequence comes to has only constants
-- made by those acts, and only variables that the store has. So the next ones are new.
pub record Reached (cs : Rules Clause) (g : Goal) (u : ℕ) (s : Store) (gs : List PaperSequent) (path : List (Line Leaf)) : Type 0 where
  pub follows : Follows cs g s gs path
  pub constants : All (λ c. c.0 < u) follows.state.constants
  pub variables : All (λ x. x < s.next) follows.state.variables

-- Definition 6 in document 01's order: from S₁ to S₂ the front goal q is taken, gs being the others, the line x naming the case.
abbrev pub Takes : Store → PaperSequent → List PaperSequent → Line Leaf → State → State → Type 0
Takes s q gs x S₁ S₂ =
    let taken = apply_sequent (solution s) q in
    By x taken.goal taken.program taken.level [] (map (apply_sequent (solution s)) gs) S₁ S₂

-- The state after it, as the search has it: with the store s' and the goals gs', after u' acts.
pub record Step (s : Store) (q : PaperSequent) (gs : List PaperSequent) (x : Line Leaf) (S₁ : State) (u' : ℕ) (s' : Store)
    (gs' : List PaperSequent) : Type 0 where
  pub state : State
  pub takes : Takes s q gs x S₁ state
  pub goals : state.goals ≡ map (apply_sequent (solution s')) gs'
  pub composed : Composed (solution s') state.substitution.to (solution s)
  pub labels : Labels state.labels s'
  pub constants : All (λ c. c.0 < u') state.constants
  pub variables : All (λ x. x < s'.next) state.variables

-- Constants made by some acts were made by more.
pub constants_more : (u : ℕ) (C : List (ℕ × ℕ)) → All (λ c. c.0 < u) C → All (λ c. c.0 < suc u) C
constants_more u C h = all_weaken (λ c. c.0 < u) (λ c. c.0 < suc u) (λ c l. omega arith) C h

module _ {cs : Rules Clause} {g : Goal} {u : ℕ} {s : Store} {path : List (Line Leaf)} where
  -- Goals that wait for another act stand where they stood.
  pub reached_more : {gs : List PaperSequent} → Reached cs g u s gs path → Reached cs g (suc u) s gs path
  reached_more r =
      record { follows = r.follows; constants = constants_more u r.follows.state.constants r.constants; variables = r.variables }

  -- A step makes the sequence longer by a tuple.
  pub reached_by : {q : PaperSequent} {gs : List PaperSequent} {x : Line Leaf} {u' : ℕ} {s' : Store} {gs' : List PaperSequent}
      → (r : Reached cs g u s (q ∷ gs) path) → Step s q gs x r.follows.state u' s' gs' → Reached cs g u' s' gs' (x ∷ path)
  unfolding composition
  reached_by {q} {gs} {x} r n = record {
    follows = record {
      state = n.state;
      sequence = then x r.follows.sequence (record {
        derived =
            record {
              before = [];
              taken = apply_sequent (solution s) q;
              after = map (apply_sequent (solution s)) gs;
              split = r.follows.goals;
              by = n.takes;
            };
        front = refl;
      });
      goals = n.goals;
      labels = n.labels;
      answer = λ y. ap (λ t. apply t n.state.substitution.to) (r.follows.answer y) ∙ sym (n.composed y);
    };
    constants = n.constants;
    variables = n.variables;
  }

  -- The cases in which only the goals change.
  pub reached_goals : {q : PaperSequent} {gs : List PaperSequent} {x : Line Leaf} {gs' : List PaperSequent}
      → (r : Reached cs g u s (q ∷ gs) path)
      → Takes s q gs x r.follows.state (only_goals r.follows.state (map (apply_sequent (solution s)) gs'))
      → Reached cs g (suc u) s gs' (x ∷ path)
  unfolding identity
  reached_goals {gs'} r t = reached_by r (record {
    state = only_goals r.follows.state (map (apply_sequent (solution s)) gs');
    takes = t;
    goals = refl;
    composed = λ y. sym (apply_identity (solution s y));
    labels = r.follows.labels;
    constants = constants_more u r.follows.state.constants r.constants;
    variables = r.variables;
  })
