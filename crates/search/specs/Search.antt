-- Document 01, "The walk", second and last paragraphs: the search from its start, what it comes to, and the search within a budget.
use Rattle.std.specs.Prelude.{ℕ, zero, suc, ◌<◌, ◌≡◌, cond, List, [], ◌∷◌, ◌++◌, ltb}
use Rattle.std.proofs.Math.Option.{Option, none, some}
use Rattle.terms.specs.Terms.{sheet_symbol, Term, leaf, app, nil}
use Rattle.formulas.specs.Formulas.{Goal, Clause, variable_names}
use Rattle.formulas.specs.Rules.{Rules}
use Rattle.sequents.specs.Sequents.{Environment, Sequent, Line}
use Rattle.sequents.specs.Derivations.{instance_of}
use Rattle.unification.specs.Store.{Leaf, var, Store}
use Rattle.search.specs.Configurations.{branch, Configuration, take, try, match, done}
use Rattle.search.specs.Steps.{step}

-- "The first has the sheet's clauses, I = 0, and a fresh variable of level 0 for each free variable." Name v is variable v. The
-- names that are not free have one too, which shows nowhere.
unfoldable pub start_environment : Environment Leaf
start_environment v = cond (ltb v variable_names) (leaf (var v)) (app (sheet_symbol 0) nil)

unfoldable pub start_store : Store
start_store = record { bindings = []; level = λ x. 0; next = variable_names }

unfoldable pub start_goal : Rules Clause → Goal → Sequent Leaf
start_goal cs g = instance_of cs g start_environment

unfoldable pub start : Rules Clause → Goal → List Configuration
start cs g = take start_store (start_goal cs g) (branch [] []) ∷ []

-- The state after n acts. "On failure the latest open alternative is taken up": what the step gives is followed by the alternatives.
-- A proved search stays as it is.
unfoldable pub advance : ℕ → List Configuration → List Configuration
advance u [] = []
advance u (c ∷ cs) = step u c ++ cs

unfoldable pub after : Rules Clause → Goal → ℕ → List Configuration
after cs g zero = start cs g
after cs g (suc n) = advance n (after cs g n)

-- What a search can come to: the final store and the D lines, latest first; or no proof.
pub data Verdict : Type 0 where
  proved : Store → List (Line Leaf) → Verdict
  no_proof : Verdict

-- "An empty list is proved; no alternative left is no." While an act is due there is no verdict.
unfoldable pub verdict_of : List Configuration → Option Verdict
verdict_of [] = some no_proof
verdict_of (take s g b ∷ cs) = none
verdict_of (try s a m ms k b ∷ cs) = none
verdict_of (match m b ∷ cs) = none
verdict_of (done s ls ∷ cs) = some (proved s ls)

-- "The walk needs as many units as the acts it takes, with no budget to stop it, up to its first proof or to no": n is the first
-- number of acts after which there is a verdict.
unfoldable pub ComesTo : Rules Clause → Goal → ℕ → Verdict → Type 0
ComesTo cs g n v = (verdict_of (after cs g n) ≡ some v) × ((m : ℕ) → m < n → verdict_of (after cs g m) ≡ none)

-- "If no unit is left when an act is due, the answer is spent."
pub data SearchOutcome : Type 0 where
  ends : Verdict → ℕ → SearchOutcome
  spent : SearchOutcome

-- The units left, the acts done so far, and the state.
unfoldable pub search_from : ℕ → ℕ → List Configuration → SearchOutcome
search_from zero u ds = elim (verdict_of ds) [ some v ↦ ends v u | none ↦ spent ]
search_from (suc left) u ds = elim (verdict_of ds) [ some v ↦ ends v u | none ↦ search_from left (suc u) (advance u ds) ]

unfoldable pub search : ℕ → Rules Clause → Goal → SearchOutcome
search budget cs g = search_from budget 0 (start cs g)
