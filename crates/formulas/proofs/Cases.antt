-- Members of small clauses, computed (document 01, "A clause's members").
use Prim.Native.Nat.{ℕ}
use mathlib.Core.Path.{◌≡◌, refl}
use mathlib.Core.List.{List, [], ◌∷◌, map}
use mathlib.Core.Option.{some, none}
use Rattle.terms.specs.Lists.{elem}
use Rattle.terms.specs.Terms.{Terms, leaf, nil, cons}
use Rattle.formulas.specs.Formulas.{Goal, atom, exists, Clause, fact, rule, both, each, free_t, free_g, free_b, free_from, free_variables}
use Rattle.formulas.specs.Members.{Member, stands_free, quantify, members}

-- These are the predicates and the prefixes of the members, in order.
unfoldable predicates : Clause → List ℕ
unfolding members quantify stands_free free_t free_g free_b elem
predicates c = map (λ m. m.predicate) (members c)

unfoldable prefixes : Clause → List (List ℕ)
unfolding members quantify stands_free free_t free_g free_b elem
prefixes c = map (λ m. m.prefix) (members c)

abbrev of : ℕ → Terms ℕ
of v = cons (leaf v) nil

-- `&` gives the members of the left side, then those of the right side.
left_first : predicates (both (both (fact 1 nil) (fact 2 nil)) (fact 3 nil)) ≡ 1 ∷ 2 ∷ 3 ∷ []
unfolding predicates
left_first = refl

-- An idle quantifier adds nothing; the innermost of two binds; the outermost is first; a variable of the body alone counts.
idle : prefixes (each 0 (both (fact 1 (of 0)) (fact 2 nil))) ≡ (0 ∷ []) ∷ [] ∷ []
unfolding prefixes
idle = refl

innermost : prefixes (each 0 (each 0 (fact 1 (of 0)))) ≡ (0 ∷ []) ∷ []
unfolding prefixes
innermost = refl

outermost_first : prefixes (each 3 (each 1 (fact 1 (cons (leaf 1) (of 3))))) ≡ (3 ∷ 1 ∷ []) ∷ []
unfolding prefixes
outermost_first = refl

of_the_body : prefixes (each 2 (rule (atom 0 (of 2)) 1 nil)) ≡ (2 ∷ []) ∷ []
unfolding prefixes
of_the_body = refl

-- The free variables are listed in ascending order, and the innermost quantifier binds.
free : free_variables (exists 2 (atom 0 (cons (leaf 5) (cons (leaf 2) (of 1))))) ≡ 1 ∷ 5 ∷ []
unfolding free_variables free_from free_g free_t
free = refl
