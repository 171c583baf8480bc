-- The marked searches of document 01, "Rehearsed sheets", computed: outcome (1 proved, 2 no, 3 spent), units, D lines.
use Prim.Native.Nat.{ℕ, zero, suc}
use mathlib.Core.Path.{◌≡◌, refl}
use mathlib.Core.List.{List, [], ◌∷◌}
use Rattle.terms.specs.Terms.{sheet_symbol, Term, leaf, app, Terms, nil, cons}
use Rattle.formulas.specs.Formulas.{Goal, atom, truth, and, or, implies, exists, forall, Clause, fact, rule, both, each}
use Rattle.formulas.specs.Rules.{oldest, latest, rules}
use Rattle.search.specs.Search.{SearchOutcome, ends, spent, proved, no_proof}
use Rattle.search.proofs.Computing.{compute_search}

-- An outcome is told as 1 (proved), 2 (no) or 3 (spent), with the units, which are 0 for spent.
abbrev told : SearchOutcome → ℕ × ℕ
told (ends (proved s ls) u) = (1, u)
told (ends no_proof u) = (2, u)
told spent = (3, 0)

unfoldable outcome : ℕ → List Clause → Goal → ℕ × ℕ
unfolding compute_search
outcome budget cs g = told (compute_search budget (rules oldest cs) g)

unfoldable outcome_latest : ℕ → List Clause → Goal → ℕ × ℕ
unfolding compute_search
outcome_latest budget cs g = told (compute_search budget (rules latest cs) g)

abbrev pair : Term ℕ → Term ℕ → Terms ℕ
pair a b = cons a (cons b nil)

abbrev one : Term ℕ → Terms ℕ
one a = cons a nil

-- The clause is every z p(z,z).
abbrev diagonal : Clause
diagonal = each 7 (fact 0 (pair (leaf 7) (leaf 7)))

-- With `diagonal`, every b some a p(a,b) is proved; some a every b p(a,b) and some a p(a,f(a)) are not.
some_every_lem : outcome 256 (diagonal ∷ []) (exists 0 (forall 1 (atom 0 (pair (leaf 0) (leaf 1))))) ≡ (2, 8)
unfolding outcome
some_every_lem = refl

every_some_lem : outcome 256 (diagonal ∷ []) (forall 1 (exists 0 (atom 0 (pair (leaf 0) (leaf 1))))) ≡ (1, 8)
unfolding outcome
every_some_lem = refl

-- Request W-206: the last is 9 units. They are two goals and the try; the pair a, z and the node z, after which a is bound to z; the pair
-- f(a), z and the node f(a), the binding of a, and the node z.
occurs : outcome 256 (diagonal ∷ []) (exists 0 (atom 0 (pair (leaf 0) (app (sheet_symbol 1) (one (leaf 0)))))) ≡ (2, 9)
unfolding outcome
occurs = refl

-- The goal ((every a p(a)) implies q) implies some a (p(a) implies q) has no proof.
drinker : outcome 256 [] (implies (rule (forall 0 (atom 0 (one (leaf 0)))) 1 nil)
    (exists 0 (implies (fact 0 (one (leaf 0))) (atom 1 nil)))) ≡ (2, 12)
unfolding outcome
drinker = refl

some_true_lem : outcome 256 [] (exists 0 truth) ≡ (1, 2)
unfolding outcome
some_true_lem = refl

free_goal_lem : outcome 256 (each 7 (fact 0 (one (leaf 7))) ∷ []) (atom 0 (one (leaf 0))) ≡ (1, 4)
unfolding outcome
free_goal_lem = refl

-- A budget of exactly the units suffices, and one less does not.
enough : outcome 8 (diagonal ∷ []) (forall 1 (exists 0 (atom 0 (pair (leaf 0) (leaf 1))))) ≡ (1, 8)
unfolding outcome
enough = refl

short : outcome 7 (diagonal ∷ []) (forall 1 (exists 0 (atom 0 (pair (leaf 0) (leaf 1))))) ≡ (3, 0)
unfolding outcome
short = refl

-- In (p implies p) and p, the assumption is not kept for the second goal.
beside : outcome 256 [] (and (implies (fact 0 nil) (atom 0 nil)) (atom 0 nil)) ≡ (2, 5)
unfolding outcome
beside = refl

-- The second member resolves the goal; the first, whose predicate differs, costs its try.
second : outcome 256 (fact 1 nil ∷ fact 0 nil ∷ []) (atom 0 nil) ≡ (1, 3)
unfolding outcome
second = refl

-- For q(x) and r(x) with q(a), q(b), r(b), the binding of the first try is taken back. The units are 21: three goals (some, and, q(x));
-- then for each of a and b nine: try, pair and node, the goal r(x), three tries, the binding of x and a pair.
again : outcome 256
    (fact 0 (one (app (sheet_symbol 5) nil)) ∷ fact 0 (one (app (sheet_symbol 6) nil)) ∷ fact 1 (one (app (sheet_symbol 6) nil)) ∷ [])
    (exists 0 (and (atom 0 (one (leaf 0))) (atom 1 (one (leaf 0))))) ≡ (1, 21)
unfolding outcome
again = refl

-- For p implies p with the clause p if p, the sheet's rule is tried first and used without end; with `O latest` the assumption is first.
assumed : outcome 256 (rule (atom 0 nil) 0 nil ∷ []) (implies (fact 0 nil) (atom 0 nil)) ≡ (3, 0)
unfolding outcome
assumed = refl

assumed_latest : outcome_latest 256 (rule (atom 0 nil) 0 nil ∷ []) (implies (fact 0 nil) (atom 0 nil)) ≡ (1, 3)
unfolding outcome_latest
assumed_latest = refl

-- For (p if p) implies p with the clause p it is the other way round.
supposed : outcome 256 (fact 0 nil ∷ []) (implies (rule (atom 0 nil) 0 nil) (atom 0 nil)) ≡ (1, 3)
unfolding outcome
supposed = refl

supposed_latest : outcome_latest 256 (fact 0 nil ∷ []) (implies (rule (atom 0 nil) 0 nil) (atom 0 nil)) ≡ (3, 0)
unfolding outcome_latest
supposed_latest = refl

-- For p implies (q implies p) with no clause of the sheet, the oldest assumption is tried first, and with `O latest` the latest.
oldest_first_lem : outcome 256 [] (implies (fact 0 nil) (implies (fact 1 nil) (atom 0 nil))) ≡ (1, 4)
unfolding outcome
oldest_first_lem = refl

latest_first : outcome_latest 256 [] (implies (fact 0 nil) (implies (fact 1 nil) (atom 0 nil))) ≡ (1, 5)
unfolding outcome_latest
latest_first = refl
