-- Cases of request W-202, computed.
use Prim.Native.Nat.{ℕ}
use mathlib.Core.Path.{◌≡◌, refl}
use mathlib.Core.List.{List, [], ◌∷◌, map}
use Rattle.terms.specs.Terms.{sheet_symbol, leaf, app, Terms, nil, cons}
use Rattle.formulas.specs.Formulas.{Goal, atom, truth, or, implies, exists, forall, Clause, fact, rule}
use Rattle.formulas.specs.Rules.{Order, oldest, latest, rules}
use Rattle.sequents.specs.Sequents.{Line, plain, Dleft, Dright, Dassume, Dtrue, Dall, Dclause}
use Rattle.unification.specs.Store.{Leaf, con}
use Rattle.enumeration.specs.Enumeration.{Proof, End, enough, exhausted, units_spent, Enumeration}
use Rattle.enumeration.proofs.Computing.{compute_enumeration}

-- How it ended is told as 1 (the number is reached), 2 (no alternative is left) with the units, or 3 (spent).
abbrev ended : End → ℕ × ℕ
ended enough = (1, 0)
ended (exhausted n) = (2, n)
ended units_spent = (3, 0)

-- The units of the proofs found, and how it ended.
abbrev told : Enumeration → List ℕ × (ℕ × ℕ)
told r = (map (λ (w : Proof). w.units) r.found, ended r.end)

unfoldable outcome : ℕ → ℕ → List Clause → Goal → List ℕ × (ℕ × ℕ)
unfolding compute_enumeration
outcome wanted budget cs g = told (compute_enumeration wanted budget (rules oldest cs) g)

unfoldable paths : Order → ℕ → ℕ → List Clause → Goal → List (List (Line Leaf))
unfolding compute_enumeration
paths o wanted budget cs g = map (λ (w : Proof). w.path) (compute_enumeration wanted budget (rules o cs) g).found

abbrev one : ℕ → Terms ℕ
one f = cons (app (sheet_symbol f) nil) nil

-- The goal true or true has two proofs, which have the same bindings.
both_sides : outcome 64 256 [] (or truth truth) ≡ ((2 ∷ 3 ∷ []), (2, 3))
unfolding outcome
both_sides = refl

both_paths : paths oldest 64 256 [] (or truth truth) ≡ (plain Dtrue ∷ plain Dleft ∷ []) ∷ (plain Dtrue ∷ plain Dright ∷ []) ∷ []
unfolding paths
both_paths = refl

-- Where the number is reached it does not matter that nothing is left.
exactly : outcome 2 256 [] (or truth truth) ≡ ((2 ∷ 3 ∷ []), (1, 0))
unfolding outcome
exactly = refl

-- One unit short of the second proof.
one_short : outcome 2 2 [] (or truth truth) ≡ ((2 ∷ []), (3, 0))
unfolding outcome
one_short = refl

-- With q(a), q(b), q(a) the goal some x q(x) has three proofs, the third with the terms of the first.
three : outcome 64 256 (fact 0 (one 5) ∷ fact 0 (one 6) ∷ fact 0 (one 5) ∷ []) (exists 0 (atom 0 (cons (leaf 0) nil)))
    ≡ ((5 ∷ 8 ∷ 11 ∷ []), (2, 11))
unfolding outcome
three = refl

-- The second made constant has the number of its act in the walk.
constants : paths oldest 2 256 [] (or (forall 0 truth) (forall 0 truth))
    ≡ (plain Dtrue ∷ Dall (leaf (con 1 1)) ∷ plain Dleft ∷ []) ∷ (plain Dtrue ∷ Dall (leaf (con 3 1)) ∷ plain Dright ∷ []) ∷ []
unfolding paths
constants = refl

-- With the rule p if p before the fact p nothing is found; with the fact first there is one proof after another.
trapped : outcome 3 20 (rule (atom 0 nil) 0 nil ∷ fact 0 nil ∷ []) (atom 0 nil) ≡ ([], (3, 0))
unfolding outcome
trapped = refl

again : outcome 3 20 (fact 0 nil ∷ rule (atom 0 nil) 0 nil ∷ []) (atom 0 nil) ≡ ((2 ∷ 5 ∷ 8 ∷ []), (1, 0))
unfolding outcome
again = refl

-- Proofs come in the order in force (request W-207): the assumption p is tried after the clause p if true, or before it with `O latest`.
oldest_first_lem : paths oldest 64 256 (rule truth 0 nil ∷ []) (implies (fact 0 nil) (atom 0 nil))
    ≡ (plain Dtrue ∷ Dclause 1 [] ∷ plain Dassume ∷ []) ∷ (Dclause 2 [] ∷ plain Dassume ∷ []) ∷ []
unfolding paths
oldest_first_lem = refl

latest_first : paths latest 64 256 (rule truth 0 nil ∷ []) (implies (fact 0 nil) (atom 0 nil))
    ≡ (Dclause 1 [] ∷ plain Dassume ∷ []) ∷ (plain Dtrue ∷ Dclause 2 [] ∷ plain Dassume ∷ []) ∷ []
unfolding paths
latest_first = refl
