-- Small matches, computed: what is bound, what is lowered, what fails and after how many acts.
use Prim.Native.Nat.{ℕ, suc}
use mathlib.Core.Path.{◌≡◌, refl}
use mathlib.Core.Bool.{Bool, true, false, cond}
use mathlib.Core.List.{List, [], ◌∷◌}
use mathlib.Core.Option.{Option, some}
use lib.Dec.{eqb}
use Rattle.terms.specs.Lists.{update}
use Rattle.terms.specs.Terms.{number_term, same_functor, sheet_symbol, Term, leaf, app, Terms, nil, cons, substitute}
use Rattle.unification.specs.Store.{Leaf, var, con, Store, binding, follow, lower, bind, bound_to, at, only_at, solve1, solved}
use Rattle.unification.specs.Store.{solution}
use Rattle.unification.specs.Matching.{Pair, Matching, pairs, check, fail, push_terms, push_pairs, comparing, after_node, visit}
use Rattle.unification.specs.Matching.{compare_terms, on_pair, on_node, match_step, match_steps}

-- Variable x has level x, and nothing is bound.
abbrev store : Store
store = record { bindings = []; level = λ x. x; next = 8 }

abbrev against : Term Leaf → Term Leaf → Matching
against t u = pairs store (record { goal = t; clause = u } ∷ [])

abbrev f : Term Leaf → Term Leaf
f t = app (sheet_symbol 0) (cons t nil)

abbrev g : Term Leaf → Term Leaf → Term Leaf
g t u = app (sheet_symbol 1) (cons t (cons u nil))

abbrev c : Term Leaf
c = app (sheet_symbol 2) nil

-- A matching is told as 0 (failed), 1 (succeeded) or 2 (under way).
abbrev stand : Matching → ℕ
stand (pairs s []) = 1
stand (pairs s (p ∷ ps)) = 2
stand (check s y t n ns ps) = 2
stand fail = 0

abbrev store_of : Matching → Store
store_of (pairs s ps) = s
store_of (check s y t n ns ps) = s
store_of fail = store

unfoldable standing : ℕ → Term Leaf → Term Leaf → ℕ
unfolding match_steps match_step on_pair on_node compare_terms same_functor visit after_node
    comparing push_pairs push_terms follow binding lower bind update
standing n t u = stand (match_steps n (against t u))

unfoldable level_after : ℕ → Term Leaf → Term Leaf → ℕ → ℕ
unfolding match_steps match_step on_pair on_node compare_terms same_functor visit after_node
    comparing push_pairs push_terms follow binding lower bind update
level_after n t u x = (store_of (match_steps n (against t u))).level x

unfoldable value_after : ℕ → Term Leaf → Term Leaf → ℕ → Term Leaf
unfolding match_steps match_step on_pair on_node compare_terms same_functor visit after_node
    comparing push_pairs push_terms follow binding lower bind update solution solved solve1 bound_to only_at at substitute
value_after n t u x = solution (store_of (match_steps n (against t u))) x

-- What a variable is bound to, later bindings not applied.
unfoldable bound_after : ℕ → Term Leaf → Term Leaf → ℕ → Option (Term Leaf)
unfolding match_steps match_step on_pair on_node compare_terms same_functor visit after_node
    comparing push_pairs push_terms follow binding lower bind update
bound_after n t u x = binding (store_of (match_steps n (against t u))).bindings x

-- Matching x1 against f(x3) takes one pair and two nodes, and lowers x3 to level 1.
lowered : level_after 3 (leaf (var 1)) (f (leaf (var 3))) 3 ≡ 1
unfolding level_after
lowered = refl

not_raised : level_after 3 (leaf (var 3)) (f (leaf (var 1))) 1 ≡ 1
unfolding level_after
not_raised = refl

value : value_after 3 (leaf (var 1)) (f (leaf (var 3))) 1 ≡ f (leaf (var 3))
unfolding value_after
value = refl

-- The variable itself, inside the other term, fails the match at the second node.
occurs : standing 3 (leaf (var 1)) (f (leaf (var 1))) ≡ 0
unfolding standing
occurs = refl

-- A made constant above the variable's level fails the match, and one at the level does not.
above : standing 2 (leaf (var 1)) (leaf (con 0 2)) ≡ 0
unfolding standing
above = refl

within : standing 2 (leaf (var 2)) (leaf (con 0 2)) ≡ 1
unfolding standing
within = refl

-- The goal's variable is bound to the clause's.
direction : value_after 2 (leaf (var 1)) (leaf (var 3)) 1 ≡ leaf (var 3)
unfolding value_after
direction = refl

-- Later bindings are applied to earlier values: after six acts, g(x1, x3) against g(f(x3), c) gives x1 the value f(c).
through : value_after 6 (g (leaf (var 1)) (leaf (var 3))) (g (f (leaf (var 3))) c) 1 ≡ f c
unfolding value_after
through = refl

-- Request W-206: each binding looked through is one act. In each case here the first act is the pair of the two applications.

-- For g(x1, x1) against g(x2, c): pair and node bind x1 to x2; then the binding of x1, the pair x2, c, and the node c.
followed : bound_after 6 (g (leaf (var 1)) (leaf (var 1))) (g (leaf (var 2)) c) 2 ≡ some c
unfolding bound_after
followed = refl

not_before : standing 5 (g (leaf (var 1)) (leaf (var 1))) (g (leaf (var 2)) c) ≡ 2
unfolding standing
not_before = refl

-- For g(g(x1, x2), x1) against g(g(x2, c), c): the pair of the inner applications; pair and node for x1, pair and node for x2; then the
-- binding of x1, the binding of x2, and the pair c, c.
chain : standing 9 (g (g (leaf (var 1)) (leaf (var 2))) (leaf (var 1))) (g (g (leaf (var 2)) c) c) ≡ 1
unfolding standing
chain = refl

chain_before : standing 8 (g (g (leaf (var 1)) (leaf (var 2))) (leaf (var 1))) (g (g (leaf (var 2)) c) c) ≡ 2
unfolding standing
chain_before = refl

-- For g(g(x1, x3), x1) against g(g(c, c), x3): the pair of the inner applications; pair and node for x1, pair and node for x3; then the
-- binding of x1, on the goal's side, the binding of x3, on the clause's, and the pair c, c.
both_sides : standing 9 (g (g (leaf (var 1)) (leaf (var 3))) (leaf (var 1))) (g (g c c) (leaf (var 3))) ≡ 1
unfolding standing
both_sides = refl

both_sides_before : standing 8 (g (g (leaf (var 1)) (leaf (var 3))) (leaf (var 1))) (g (g c c) (leaf (var 3))) ≡ 2
unfolding standing
both_sides_before = refl

-- For g(x1, x1) against g(x2, x2): pair and node bind x1 to x2; then the binding of x1, and the pair x2, x2, without a range check.
same_twice : standing 5 (g (leaf (var 1)) (leaf (var 1))) (g (leaf (var 2)) (leaf (var 2))) ≡ 1
unfolding standing
same_twice = refl

same_twice_before : standing 4 (g (leaf (var 1)) (leaf (var 1))) (g (leaf (var 2)) (leaf (var 2))) ≡ 2
unfolding standing
same_twice_before = refl

-- In a range check below its root, for g(x1, x3) against g(c, f(x1)): pair and node bind x1 to c; then the pair x3, f(x1), the node f(x1),
-- the binding of x1, and the node c.
inside : standing 7 (g (leaf (var 1)) (leaf (var 3))) (g c (f (leaf (var 1)))) ≡ 1
unfolding standing
inside = refl

inside_before : standing 6 (g (leaf (var 1)) (leaf (var 3))) (g c (f (leaf (var 1)))) ≡ 2
unfolding standing
inside_before = refl

-- For g(g(x1, x2), x3) against g(g(x2, c), f(x1)): the pair of the inner applications; pair and node for x1, pair and node for x2; then the
-- pair x3, f(x1), the node f(x1), the binding of x1, the binding of x2, and the node c.
inside_chain : standing 11 (g (g (leaf (var 1)) (leaf (var 2))) (leaf (var 3))) (g (g (leaf (var 2)) c) (f (leaf (var 1)))) ≡ 1
unfolding standing
inside_chain = refl

inside_chain_before : standing 10 (g (g (leaf (var 1)) (leaf (var 2))) (leaf (var 3))) (g (g (leaf (var 2)) c) (f (leaf (var 1)))) ≡ 2
unfolding standing
inside_chain_before = refl

-- At its root, for g(x1, x3) against g(c, x1): pair and node bind x1 to c; then the binding of x1, the pair x3, c, and the node c, where no
-- binding is followed again. The variable x3 is bound to c, not to x1.
root : bound_after 6 (g (leaf (var 1)) (leaf (var 3))) (g c (leaf (var 1))) 3 ≡ some c
unfolding bound_after
root = refl

root_before : standing 5 (g (leaf (var 1)) (leaf (var 3))) (g c (leaf (var 1))) ≡ 2
unfolding standing
root_before = refl

-- Request W-204: a number against the same number is done in one act; another one, the symbol of that number, and a made constant fail in
-- one.
same_number : standing 1 (number_term 1) (number_term 1) ≡ 1
unfolding standing
same_number = refl

other_number : standing 1 (number_term 1) (number_term 257) ≡ 0
unfolding standing
other_number = refl

symbol_of_number : standing 1 (number_term 0) (app (sheet_symbol 0) nil) ≡ 0
unfolding standing
symbol_of_number = refl

constant_for_number : standing 1 (leaf (con 0 0)) (number_term 0) ≡ 0
unfolding standing
constant_for_number = refl

-- A number in a range check is one node, and lowers nothing.
number_checked : standing 2 (leaf (var 1)) (f (number_term 7)) ≡ 2
unfolding standing
number_checked = refl

number_bound : value_after 3 (leaf (var 1)) (f (number_term 7)) 1 ≡ f (number_term 7)
unfolding value_after
number_bound = refl
