-- Texts of request W-202, computed: "each with its R line and the units so far, then an R line with no or spent if fewer were found";
-- "each numbers its variables and constants from 0".
use Prim.Native.Nat.{ℕ}
use mathlib.Core.Path.{◌≡◌, refl}
use mathlib.Core.Bool.{true, false}
use mathlib.Core.List.{List, [], ◌∷◌, ◌++◌}
use Rattle.terms.specs.Terms.{sheet_symbol, leaf, app, nil, cons}
use Rattle.formulas.specs.Formulas.{Goal, atom, truth, or, forall, Clause, fact, each, free_from, free_variables}
use Rattle.formulas.specs.Rules.{oldest}
use Rattle.unification.specs.Store.{bound_to, at, only_at, solve1, solved, solution}
use Rattle.search.specs.Answers.{symbol_under, final, final_environment, final_lines}
use Rattle.enumeration.proofs.Computing.{compute_enumeration}
use Rattle.sheet_format.specs.Bytes.{ascii}
use Rattle.sheet_format.specs.Sheets.{Sheet, rules_of}
use Rattle.answer_texts.specs.Spelling.{no_text, spent_text}
use Rattle.answer_texts.specs.Promises.{search_text}
use Rattle.answer_texts.specs.Enumerations.{found_text, found_texts, last_line, enumeration_text}
use Rattle.answer_texts.proofs.Computing.{compute_text}

-- The symbols are p/1 and a/0.
abbrev sheet_of : List Clause → Goal → Sheet
sheet_of cs g = record {
  order = oldest;
  symbols = record { function = false; name = ascii "p"; arity = 1 } ∷ record { function = true; name = ascii "a"; arity = 0 } ∷ [];
  clauses = cs;
  goal = g;
}

unfoldable text : ℕ → ℕ → List Clause → Goal → List ℕ
unfolding enumeration_text found_texts found_text last_line no_text spent_text search_text compute_enumeration compute_text final_environment
    final_lines final symbol_under at solution solved solve1 only_at bound_to free_variables free_from
text wanted budget cs g = enumeration_text (sheet_of cs g) budget (compute_enumeration wanted budget (rules_of (sheet_of cs g)) g)

-- Both sides of a disjunction are proofs, and nothing is left after them.
both_sides : text 64 256 [] (or truth truth)
    ≡ ascii "R\tproved\t2\nD\tleft\nD\ttrue\nR\tproved\t3\nD\tright\nD\ttrue\nR\tno\t3\n"
unfolding text ascii
both_sides = refl

-- Where the number is reached there is no R line after the last proof.
reached : text 2 256 [] (or truth truth) ≡ ascii "R\tproved\t2\nD\tleft\nD\ttrue\nR\tproved\t3\nD\tright\nD\ttrue\n"
unfolding text ascii
reached = refl

-- Where the units are spent the last R line tells the budget.
one_short : text 2 2 [] (or truth truth) ≡ ascii "R\tproved\t2\nD\tleft\nD\ttrue\nR\tspent\t2\n"
unfolding text ascii
one_short = refl

-- With the clauses p(a) and every y p(y), the goal (every z p(z)) or p(x) has three proofs. Each has its own B line and numbers its
-- constants and variables from 0.
numbered_anew : text 64 256 (fact 0 (cons (app (sheet_symbol 1) nil) nil) ∷ each 1 (fact 0 (cons (leaf 1) nil)) ∷ [])
    (or (forall 2 (atom 0 (cons (leaf 2) nil))) (atom 0 (cons (leaf 0) nil)))
    ≡ ascii "R\tproved\t8\nB\t0\t_0@0\nD\tleft\nD\tall\t!0@1\nD\tclause\t2\t!0@1\n"
    ++ (ascii "R\tproved\t12\nB\t0\ta\nD\tright\nD\tclause\t1\n"
    ++ ascii "R\tproved\t15\nB\t0\t_0@0\nD\tright\nD\tclause\t2\t_0@0\nR\tno\t15\n")
unfolding text ascii
numbered_anew = refl
