-- Stores whose terms are well-formed and whose levels are at most n: matching keeps them so, and so are their final values.
use Prim.Native.Nat.{ℕ, suc, ◌≤◌}
use mathlib.Core.Path.{◌≡◌, refl}
use mathlib.Core.Bool.{Bool, true, false, ◌&&◌, cond}
use mathlib.Core.List.{List, [], ◌∷◌, map}
use mathlib.Core.Option
use mathlib.Core.Option.{Option, none, some}
use native.Mathlib.Omega.{arith}
use lib.Dec.{eqb, leb}
use Rattle.terms.specs.Lists.{All, update}
use Rattle.terms.specs.Terms.{same_functor, Term, leaf, app, Terms, nil, cons, substitute}
use Rattle.terms.proofs.Lists.{all_append, all_map, update_all}
use Rattle.sequents.specs.Symbols.{Symbol, symbol_level}
use Rattle.unification.specs.Store.{Leaf, var, con, Binding, Store, follow, lower, bind, fresh_levels, fresh, fresh_variables, bound_to}
use Rattle.unification.specs.Store.{at, only_at, solve1, solved, solution}
use Rattle.unification.specs.Matching.{Pair, Matching, pairs, check, fail, push_terms, push_pairs, comparing, after_node, visit, compare_terms}
use Rattle.unification.specs.Matching.{on_pair, on_node, match_step}
use Rattle.unification.proofs.Follow.{follow_holds}
use Rattle.unification.proofs.Stores.{lower_le}
use Rattle.search.specs.Answers.{symbol_under, final}
use Rattle.search.proofs.Formed.{Arities, FormedTerm, FormedTerms, formed_substitute}

-- The level of a made constant is at most n.
unfoldable pub UpTo : ℕ → Leaf → Type 0
UpTo n (var x) = Unit {0}
UpTo n (con c k) = k ≤ n

-- The level of a symbol is at most n.
abbrev pub SymbolUpTo : ℕ → Symbol → Type 0
SymbolUpTo n a = symbol_level a ≤ n

module _ (ok : Arities) (n : ℕ) where
  -- A well-formed term of the search.
  abbrev pub TermUpTo : Term Leaf → Type 0
  TermUpTo t = FormedTerm t ok (UpTo n)

  -- A pair to be compared.
  abbrev pub PairUpTo : Pair → Type 0
  PairUpTo p = TermUpTo p.goal × TermUpTo p.clause

  -- A store, as to all its levels and what is bound.
  pub record StoreUpTo (s : Store) : Type 0 where
    pub levels : (x : ℕ) → s.level x ≤ n
    pub values : All (λ b. TermUpTo b.value) s.bindings

  -- A matching under way.
  unfoldable pub MatchingUpTo : Matching → Type 0
  MatchingUpTo (pairs s ps) = StoreUpTo s × All PairUpTo ps
  MatchingUpTo (check s y t u us ps) = StoreUpTo s × TermUpTo t × All TermUpTo (u ∷ us) × All PairUpTo ps
  MatchingUpTo fail = Unit {0}

  -- A well-formed binding followed gives a well-formed term.
  follow_formed : (bs : List Binding) (t u : Term Leaf) → All (λ b. TermUpTo b.value) bs → follow bs t ≡ some u → TermUpTo u
  follow_formed bs t u h e = follow_holds (λ v w. TermUpTo w) bs t u h e

  -- Lowering a level keeps a store well-formed.
  lower_formed : (s : Store) (z k : ℕ) → StoreUpTo s → StoreUpTo (lower s z k)
  unfolding lower
  lower_formed s z k h = record { levels = λ x. (let p = lower_le s z k x in let q = h.levels x in omega arith); values = h.values }

  -- Fresh variables of a level at most n keep a store well-formed.
  pub fresh_formed : (vs : List ℕ) (i : ℕ) (s : Store) → i ≤ n → StoreUpTo s → StoreUpTo (fresh vs i s)
  unfolding fresh fresh_levels
  fresh_formed vs i s l h = record { levels = levels vs s.next s.level h.levels; values = h.values }
    where
      levels : (vs : List ℕ) (m : ℕ) (f : ℕ → ℕ) → ((x : ℕ) → f x ≤ n) → (x : ℕ) → fresh_levels vs m i f x ≤ n
      levels [] m f k = k
      levels (v ∷ vs) m f k = levels vs (suc m) (update f m i) (update_all (λ j. j ≤ n) f m i k l)

  -- Fresh variables are well-formed terms.
  pub fresh_variables_formed : (vs : List ℕ) (m : ℕ) → All TermUpTo (fresh_variables vs m)
  unfolding fresh_variables FormedTerm UpTo
  fresh_variables_formed [] m = tt
  fresh_variables_formed (v ∷ vs) m = (tt, fresh_variables_formed vs (suc m))

  -- matching

  -- What follows a node in a range check is a well-formed matching.
  after_node_formed : (s : Store) (y : ℕ) (t : Term Leaf) (us : List (Term Leaf)) (ps : List Pair) → StoreUpTo s → TermUpTo t
      → All TermUpTo us → All PairUpTo ps
      → MatchingUpTo (after_node s y t us ps)
  unfolding after_node MatchingUpTo bind
  after_node_formed s y t [] ps h k i j = (record { levels = h.levels; values = (k, h.values) }, j)
  after_node_formed s y t (u ∷ us) ps h k i j = (h, k, i, j)

  -- Well-formed arguments in front of well-formed nodes are well-formed nodes.
  push_terms_formed : (ts : Terms Leaf) (us : List (Term Leaf)) → FormedTerms ts ok (UpTo n) → All TermUpTo us
      → All TermUpTo (push_terms ts us)
  unfolding push_terms FormedTerm
  push_terms_formed nil us h k = k
  push_terms_formed (cons t ts) us h k = (h.0, push_terms_formed ts us h.1 k)

  -- A test that may fail the matching keeps it well-formed.
  if_formed : (b : Bool) (m : Matching) → MatchingUpTo m → MatchingUpTo (cond b m fail)
  unfolding MatchingUpTo
  if_formed true m h = h
  if_formed false m h = tt

  -- Looking at a node keeps the matching well-formed.
  visit_formed : (s : Store) (y : ℕ) (t u : Term Leaf) (us : List (Term Leaf)) (ps : List Pair) → StoreUpTo s → TermUpTo t → TermUpTo u
      → All TermUpTo us → All PairUpTo ps
      → MatchingUpTo (visit s y t u us ps)
  unfolding visit MatchingUpTo FormedTerm
  visit_formed s y t (leaf (var z)) us ps h k i j p = go (eqb z y)
    where
      go : (b : Bool) → MatchingUpTo (cond b fail (after_node (lower s z (s.level y)) y t us ps))
      go true = tt
      go false = after_node_formed (lower s z (s.level y)) y t us ps (lower_formed s z (s.level y) h) k j p
  visit_formed s y t (leaf (con c l)) us ps h k i j p =
      if_formed (leb l (s.level y)) (after_node s y t us ps) (after_node_formed s y t us ps h k j p)
  visit_formed s y t (app f ts) us ps h k i j p = after_node_formed s y t (push_terms ts us) ps h k (push_terms_formed ts us i.1 j) p

  -- The argument pairs of two lists of well-formed terms make a well-formed matching.
  pub comparing_formed : (s : Store) (ts us : Terms Leaf) (ps : List Pair) → StoreUpTo s → FormedTerms ts ok (UpTo n)
      → FormedTerms us ok (UpTo n) → All PairUpTo ps
      → MatchingUpTo (comparing s (push_pairs ts us ps))
  unfolding push_pairs comparing MatchingUpTo FormedTerm
  comparing_formed s nil nil ps h k i p = (h, p)
  comparing_formed s nil (cons u us) ps h k i p = tt
  comparing_formed s (cons t ts) nil ps h k i p = tt
  comparing_formed s (cons t ts) (cons u us) ps h k i p = go (push_pairs ts us ps) (comparing_formed s ts us ps h k.1 i.1 p)
    where
      go : (q : Option (List Pair)) → MatchingUpTo (comparing s q)
          → MatchingUpTo (comparing s (Option.map (λ qs. record { goal = t; clause = u } ∷ qs) q))
      go none j = tt
      go (some qs) j = (h, ((k.0, i.0), j.1))

  -- Comparing a pair keeps the matching well-formed.
  compare_terms_formed : (s : Store) (t u : Term Leaf) (ps : List Pair) → StoreUpTo s → TermUpTo t → TermUpTo u → All PairUpTo ps
      → MatchingUpTo (compare_terms s t u ps)
  unfolding compare_terms MatchingUpTo FormedTerm
  compare_terms_formed s (leaf (var x)) (leaf (var y)) ps h k i p = go (eqb x y)
    where
      go : (b : Bool) → MatchingUpTo (cond b (pairs s ps) (check s x (leaf (var y)) (leaf (var y)) [] ps))
      go true = (h, p)
      go false = (h, i, (i, tt), p)
  compare_terms_formed s (leaf (var x)) (leaf (con d j)) ps h k i p = (h, i, (i, tt), p)
  compare_terms_formed s (leaf (var x)) (app g us) ps h k i p = (h, i, (i, tt), p)
  compare_terms_formed s (leaf (con c l)) (leaf (var y)) ps h k i p = (h, k, (k, tt), p)
  compare_terms_formed s (leaf (con c l)) (leaf (con d j)) ps h k i p = if_formed (eqb c d && eqb l j) (pairs s ps) (h, p)
  compare_terms_formed s (leaf (con c l)) (app g us) ps h k i p = tt
  compare_terms_formed s (app f ts) (leaf (var y)) ps h k i p = (h, k, (k, tt), p)
  compare_terms_formed s (app f ts) (leaf (con d j)) ps h k i p = tt
  compare_terms_formed s (app f ts) (app g us) ps h k i p =
      if_formed (same_functor f g) (comparing s (push_pairs ts us ps)) (comparing_formed s ts us ps h k.1 i.1 p)

  -- A binding followed in a pair, or its sides compared, keeps the matching well-formed.
  on_pair_formed : (s : Store) (p : Pair) (ps : List Pair) (o q : Option (Term Leaf)) → follow s.bindings p.goal ≡ o
      → follow s.bindings p.clause ≡ q → MatchingUpTo (pairs s (p ∷ ps)) → MatchingUpTo (on_pair s p ps o q)
  unfolding on_pair MatchingUpTo
  on_pair_formed s p ps (some t) q e f h =
      (h.0, ((follow_formed s.bindings p.goal t h.0.values e, h.1.0.1), h.1.1))
  on_pair_formed s p ps none (some u) e f h =
      (h.0, ((h.1.0.0, follow_formed s.bindings p.clause u h.0.values f), h.1.1))
  on_pair_formed s p ps none none e f h =
      compare_terms_formed s p.goal p.clause ps h.0 h.1.0.0 h.1.0.1 h.1.1

  -- A binding followed at a node, or the node looked at, keeps it well-formed.
  on_node_formed : (s : Store) (y : ℕ) (t u : Term Leaf) (us : List (Term Leaf)) (ps : List Pair) (o : Option (Term Leaf))
      → follow s.bindings u ≡ o → MatchingUpTo (check s y t u us ps) → MatchingUpTo (on_node s y t u us ps o)
  unfolding on_node MatchingUpTo
  on_node_formed s y t u us ps (some v) e h =
      (h.0, h.1, (follow_formed s.bindings u v h.0.values e, h.2.1), h.3)
  on_node_formed s y t u us ps none e h = visit_formed s y t u us ps h.0 h.1 h.2.0 h.2.1 h.3

  -- One act keeps a matching well-formed.
  pub match_step_formed : (m : Matching) → MatchingUpTo m → MatchingUpTo (match_step m)
  unfolding match_step
  match_step_formed (pairs s []) h = h
  match_step_formed (pairs s (p ∷ ps)) h =
      on_pair_formed s p ps (follow s.bindings p.goal) (follow s.bindings p.clause) refl refl h
  match_step_formed (check s y t u us ps) h = on_node_formed s y t u us ps (follow s.bindings u) refl h
  match_step_formed fail h = h

  -- final values

  -- What is bound to a variable, or the variable itself, is well-formed.
  bound_to_formed : (bs : List Binding) (x : ℕ) → All (λ b. TermUpTo b.value) bs → TermUpTo (bound_to bs x)
  unfolding bound_to FormedTerm UpTo
  bound_to_formed [] x h = tt
  bound_to_formed (b ∷ bs) x h = go (eqb x b.name) (bound_to_formed bs x h.1)
    where
      go : (c : Bool) → TermUpTo (bound_to bs x) → TermUpTo (cond c b.value (bound_to bs x))
      go true i = h.0
      go false i = i

  -- Well-formed terms for the variables of a well-formed term give a well-formed term.
  apply_formed : (t : Term Leaf) (θ : ℕ → Term Leaf) → ((x : ℕ) → TermUpTo (θ x)) → TermUpTo t → TermUpTo (substitute t (at θ))
  unfolding at FormedTerm UpTo
  apply_formed t θ h k = formed_substitute t (at θ) ok (UpTo n) (UpTo n) leaves k
    where
      leaves : (a : Leaf) → UpTo n a → FormedTerm (at θ a) ok (UpTo n)
      leaves (var x) i = h x
      leaves (con c l) i = i

  -- Bindings stay well-formed when they are applied to one another.
  solved_formed : (bs : List Binding) → All (λ b. TermUpTo b.value) bs → All (λ b. TermUpTo b.value) (solved bs)
  unfolding solved solve1 only_at FormedTerm UpTo
  solved_formed [] h = tt
  solved_formed (b ∷ bs) h =
      let earlier = solved_formed bs h.1 in
      let value : TermUpTo (substitute b.value (at (bound_to (solved bs)))) =
      apply_formed b.value (bound_to (solved bs)) (λ x. bound_to_formed (solved bs) x earlier) h.0 in
      let new : Binding = record { name = b.name; value = substitute b.value (at (bound_to (solved bs))) } in
      all_append (λ c. TermUpTo c.value) (map (solve1 new) (solved bs)) (new ∷ [])
      (all_map (solve1 new) (λ c. TermUpTo c.value) (λ c. TermUpTo c.value)
      (λ c k. apply_formed c.value (only_at new.name new.value)
      (update_all TermUpTo (λ x. leaf (var x)) new.name new.value (λ x. tt) value) k) (solved bs) earlier)
      (value, tt)

  -- The final value of a leaf is well-formed.
  pub final_formed : (s : Store) (a : Leaf) → StoreUpTo s → UpTo n a → FormedTerm (final s a) ok (SymbolUpTo n)
  unfolding final solution at symbol_under symbol_level FormedTerm UpTo
  final_formed s a h k = formed_substitute (at (solution s) a) (symbol_under s.level) ok (UpTo n) (SymbolUpTo n) symbol (value a k)
    where
      symbol : (b : Leaf) → UpTo n b → FormedTerm (symbol_under s.level b) ok (SymbolUpTo n)
      symbol (var x) i = h.levels x
      symbol (con c l) i = i

      value : (b : Leaf) → UpTo n b → TermUpTo (at (solution s) b)
      value (var x) i = bound_to_formed (solved s.bindings) x (solved_formed s.bindings h.values)
      value (con c l) i = i
