-- Numbers of made constants do not matter to a search, as long as different ones stay different.
use Prim.Native.Nat.{ℕ, zero, suc}
use mathlib.Core.Path.{◌≡◌, refl, sym, ◌∙◌, ap, ap₂, subst, fun_ext}
use mathlib.Core.Bool.{Bool, true, false, cond, ◌&&◌}
use mathlib.Core.List.{List, [], ◌∷◌, ◌++◌, map}
use mathlib.Core.Option
use mathlib.Core.Option.{Option, none, some}
use lib.Dec.{eqb, leb, ltb}
use borrow.Author.Tests.{eqb-true, eqb-false, eq-eqb, ne_eqb}
use Rattle.terms.specs.Terms.{sheet_symbol, same_functor, Term, leaf, app, Terms, nil, cons, substitute, substitutes}
use Rattle.terms.proofs.Lists.{map_append}
use Rattle.terms.proofs.Terms.{substitutes_substitutes}
use Rattle.formulas.specs.Formulas.{Goal, atom, truth, and, or, implies, exists, forall, Clause, variable_names}
use Rattle.formulas.specs.Rules.{Rules}
use Rattle.sequents.specs.Sequents.{Environment, Program, Entry, entries, Sequent, sequent, assign, body_sequent, Dassume, Line, plain}
use Rattle.sequents.specs.Sequents.{Dsome, Dall, Dclause, put_terms, put_environment, put_program, put_sequent, put_line}
use Rattle.sequents.specs.Derivations.{instance_of}
use Rattle.sequents.proofs.Sequents.{put_entry, entries_put, assume_put, update_put, assign_put, body_put, instance_put}
use Rattle.unification.specs.Store.{Leaf, var, con, Binding, Store, binding, follow, lower, bind, fresh, fresh_variables}
use Rattle.unification.specs.Matching.{Pair, Matching, pairs, check, fail, push_terms, push_pairs, comparing, after_node, visit}
use Rattle.unification.specs.Matching.{compare_terms, on_pair, on_node, match_step}
use Rattle.search.specs.Configurations.{Branch, branch, Atom, Configuration, take, try, match, done}
use Rattle.search.specs.Steps.{proceed, settle, try_from, try_member, take_goal, step}
use Rattle.search.specs.Search.{start_environment, start_store, start_goal}
use Rattle.enumeration.specs.Renumbering.{renumber, renumbered, re_binding, re_store}
use Rattle.enumeration.specs.Scripts.{acts, root}

module _ (κ : ℕ → ℕ) where
  abbrev pub T : Term Leaf → Term Leaf
  T t = substitute t (renumbered κ)

  abbrev pub RB : Binding → Binding
  RB b = re_binding κ b

  abbrev pub RS : Store → Store
  RS s = re_store κ s

  -- The same for what a search holds, up to a configuration.
  unfoldable pub re_pair : Pair → Pair
  re_pair p = record { goal = T p.goal; clause = T p.clause }

  unfoldable pub re_matching : Matching → Matching
  re_matching (pairs s ps) = pairs (RS s) (map re_pair ps)
  re_matching (check s y t n ns ps) = check (RS s) y (T t) (T n) (map T ns) (map re_pair ps)
  re_matching fail = fail

  unfoldable pub re_branch : Branch → Branch
  re_branch b = branch (map (put_sequent (renumbered κ)) b.goals) (map (put_line (renumbered κ)) b.path)

  unfoldable pub re_atom : Atom → Atom
  re_atom a = record {
    predicate = a.predicate;
    arguments = substitutes a.arguments (renumbered κ);
    program = put_program (renumbered κ) a.program;
    level = a.level;
  }

  unfoldable pub re : Configuration → Configuration
  re (take s g b) = take (RS s) (put_sequent (renumbered κ) g) (re_branch b)
  re (try s a m ms k b) = try (RS s) (re_atom a) (put_entry (renumbered κ) m) (map (put_entry (renumbered κ)) ms) k (re_branch b)
  re (match m b) = match (re_matching m) (re_branch b)
  re (done s ls) = done (RS s) (map (put_line (renumbered κ)) ls)

  -- Renumbering goes through what a variable is bound to,
  binding_re : (bs : List Binding) (x : ℕ) → Option.map T (binding bs x) ≡ binding (map RB bs) x
  unfolding binding re_binding
  binding_re [] x = refl
  binding_re (b ∷ bs) x = go (eqb x b.name) (binding_re bs x)
    where
      go : (c : Bool) → Option.map T (binding bs x) ≡ binding (map RB bs) x
          → Option.map T (cond c (some b.value) (binding bs x)) ≡ cond c (some (T b.value)) (binding (map RB bs) x)
      go true h = refl
      go false h = h

  -- and so through a binding that is followed.
  follow_re : (bs : List Binding) (t : Term Leaf) → Option.map T (follow bs t) ≡ follow (map RB bs) (T t)
  unfolding follow substitute renumbered
  follow_re bs (leaf (var x)) = binding_re bs x
  follow_re bs (leaf (con c k)) = refl
  follow_re bs (app f ts) = refl

  -- Renumbering goes through lists of terms and of pairs.
  push_terms_re : (ts : Terms Leaf) (ns : List (Term Leaf)) → map T (push_terms ts ns) ≡ push_terms (substitutes ts (renumbered κ)) (map T ns)
  unfolding push_terms substitute
  push_terms_re nil ns = refl
  push_terms_re (cons t ts) ns = ap (T t ∷◌) (push_terms_re ts ns)

  -- So it does through pairs of arguments,
  push_pairs_re : (ts us : Terms Leaf) (ps : List Pair)
      → Option.map (map re_pair) (push_pairs ts us ps)
      ≡ push_pairs (substitutes ts (renumbered κ)) (substitutes us (renumbered κ)) (map re_pair ps)
  unfolding push_pairs substitute re_pair
  push_pairs_re nil nil ps = refl
  push_pairs_re nil (cons u us) ps = refl
  push_pairs_re (cons t ts) nil ps = refl
  push_pairs_re (cons t ts) (cons u us) ps =
      go (push_pairs ts us ps) ∙ ap (Option.map (λ (qs : List Pair). record { goal = T t; clause = T u } ∷ qs)) (push_pairs_re ts us ps)
    where
      go : (o : Option (List Pair)) → Option.map (map re_pair) (Option.map (λ (qs : List Pair). record { goal = t; clause = u } ∷ qs) o)
          ≡ Option.map (λ (qs : List Pair). record { goal = T t; clause = T u } ∷ qs) (Option.map (map re_pair) o)
      go none = refl
      go (some qs) = refl

  -- and through what is compared.
  comparing_re : (s : Store) (o : Option (List Pair)) → re_matching (comparing s o) ≡ comparing (RS s) (Option.map (map re_pair) o)
  unfolding comparing re_matching
  comparing_re s none = refl
  comparing_re s (some ps) = refl

  -- Renumbering goes through a node of a range check, for which numbers do not matter.
  after_node_re : (s : Store) (y : ℕ) (t : Term Leaf) (ns : List (Term Leaf)) (ps : List Pair)
      → re_matching (after_node s y t ns ps) ≡ after_node (RS s) y (T t) (map T ns) (map re_pair ps)
  unfolding after_node re_matching re_store bind re_binding
  after_node_re s y t [] ps = refl
  after_node_re s y t (n ∷ ns) ps = refl

  -- The levels decide, and they stay.
  visit_re : (s : Store) (y : ℕ) (t n : Term Leaf) (ns : List (Term Leaf)) (ps : List Pair)
      → re_matching (visit s y t n ns ps) ≡ visit (RS s) y (T t) (T n) (map T ns) (map re_pair ps)
  unfolding visit substitute renumbered re_matching re_store lower
  visit_re s y t (leaf (var z)) ns ps = go (eqb z y)
    where
      go : (b : Bool) → re_matching (cond b fail (after_node (lower s z (s.level y)) y t ns ps))
          ≡ cond b fail (after_node (lower (RS s) z (s.level y)) y (T t) (map T ns) (map re_pair ps))
      go true = refl
      go false = after_node_re (lower s z (s.level y)) y t ns ps
  visit_re s y t (leaf (con c j)) ns ps = go (leb j (s.level y))
    where
      go : (b : Bool) → re_matching (cond b (after_node s y t ns ps) fail) ≡ cond b (after_node (RS s) y (T t) (map T ns) (map re_pair ps)) fail
      go true = after_node_re s y t ns ps
      go false = refl
  visit_re s y t (app f ts) ns ps =
      after_node_re s y t (push_terms ts ns) ps
      ∙ ap (λ (x : List (Term Leaf)). after_node (RS s) y (T t) x (map re_pair ps)) (push_terms_re ts ns)

  module _ (differs : (c d : ℕ) → κ c ≡ κ d → c ≡ d) where
    -- Two made constants are the same after renumbering exactly if they were before.
    same_number : (c d k : ℕ) → eqb (renumber κ c k) (renumber κ d k) ≡ eqb c d
    unfolding renumber
    same_number c d zero = refl
    same_number c d (suc k) = go (eqb c d) refl
      where
        go : (b : Bool) → eqb c d ≡ b → eqb (κ c) (κ d) ≡ b
        go true q = eq-eqb (κ c) (κ d) (ap κ (eqb-true c d q))
        go false q = ne_eqb (κ c) (κ d) (λ z. eqb-false c d q (differs c d z))

    -- So it is with their levels.
    same_constant : (c k d j : ℕ) → (eqb (renumber κ c k) (renumber κ d j) && eqb k j) ≡ (eqb c d && eqb k j)
    same_constant c k d j = go (eqb k j) refl
      where
        end : (b : Bool) → (b && false) ≡ false
        end true = refl
        end false = refl

        go : (b : Bool) → eqb k j ≡ b → (eqb (renumber κ c k) (renumber κ d j) && b) ≡ (eqb c d && b)
        go true q =
            ap (λ (x : Bool). x && true)
            (subst (λ (i : ℕ). eqb (renumber κ c k) (renumber κ d i) ≡ eqb c d) (eqb-true k j q) (same_number c d k))
        go false q = end (eqb (renumber κ c k) (renumber κ d j)) ∙ sym (end (eqb c d))

    -- So comparing two terms comes to the same.
    compare_terms_re : (s : Store) (t u : Term Leaf) (ps : List Pair)
        → re_matching (compare_terms s t u ps) ≡ compare_terms (RS s) (T t) (T u) (map re_pair ps)
    unfolding compare_terms substitute renumbered re_matching
    compare_terms_re s (leaf (var x)) (leaf (var y)) ps = go (eqb x y)
      where
        go : (b : Bool) → re_matching (cond b (pairs s ps) (check s x (leaf (var y)) (leaf (var y)) [] ps))
            ≡ cond b (pairs (RS s) (map re_pair ps)) (check (RS s) x (leaf (var y)) (leaf (var y)) [] (map re_pair ps))
        go true = refl
        go false = refl
    compare_terms_re s (leaf (var x)) (leaf (con d j)) ps = refl
    compare_terms_re s (leaf (var x)) (app g us) ps = refl
    compare_terms_re s (leaf (con c k)) (leaf (var y)) ps = refl
    compare_terms_re s (leaf (con c k)) (leaf (con d j)) ps =
        go (eqb c d && eqb k j) ∙ ap (λ (b : Bool). cond b (pairs (RS s) (map re_pair ps)) fail) (sym (same_constant c k d j))
      where
        go : (b : Bool) → re_matching (cond b (pairs s ps) fail) ≡ cond b (pairs (RS s) (map re_pair ps)) fail
        go true = refl
        go false = refl
    compare_terms_re s (leaf (con c k)) (app g us) ps = refl
    compare_terms_re s (app f ts) (leaf (var y)) ps = refl
    compare_terms_re s (app f ts) (leaf (con d j)) ps = refl
    compare_terms_re s (app f ts) (app g us) ps =
        go (same_functor f g) ∙ ap (λ (o : Option (List Pair)). cond (same_functor f g) (comparing (RS s) o) fail) (push_pairs_re ts us ps)
      where
        go : (b : Bool) → re_matching (cond b (comparing s (push_pairs ts us ps)) fail)
            ≡ cond b (comparing (RS s) (Option.map (map re_pair) (push_pairs ts us ps))) fail
        go true = comparing_re s (push_pairs ts us ps)
        go false = refl

    -- Renumbering goes through an act of matching on a pair, with what its sides are bound to,
    on_pair_re : (s : Store) (p : Pair) (ps : List Pair) (o q : Option (Term Leaf))
        → re_matching (on_pair s p ps o q) ≡ on_pair (RS s) (re_pair p) (map re_pair ps) (Option.map T o) (Option.map T q)
    unfolding on_pair re_matching re_pair
    on_pair_re s p ps (some t) q = refl
    on_pair_re s p ps none (some u) = refl
    on_pair_re s p ps none none = compare_terms_re s p.goal p.clause ps

    -- on a node of a range check,
    on_node_re : (s : Store) (y : ℕ) (t n : Term Leaf) (ns : List (Term Leaf)) (ps : List Pair) (o : Option (Term Leaf))
        → re_matching (on_node s y t n ns ps o) ≡ on_node (RS s) y (T t) (T n) (map T ns) (map re_pair ps) (Option.map T o)
    unfolding on_node re_matching
    on_node_re s y t n ns ps (some u) = refl
    on_node_re s y t n ns ps none = visit_re s y t n ns ps

    -- and so through every act of matching.
    match_step_re : (m : Matching) → re_matching (match_step m) ≡ match_step (re_matching m)
    unfolding match_step re_matching re_store re_pair
    match_step_re (pairs s []) = refl
    match_step_re (pairs s (p ∷ ps)) =
        on_pair_re s p ps (follow s.bindings p.goal) (follow s.bindings p.clause)
        ∙ ap₂ (λ (o q : Option (Term Leaf)). on_pair (RS s) (re_pair p) (map re_pair ps) o q) (follow_re s.bindings p.goal)
        (follow_re s.bindings p.clause)
    match_step_re (check s y t n ns ps) =
        on_node_re s y t n ns ps (follow s.bindings n)
        ∙ ap (λ (o : Option (Term Leaf)). on_node (RS s) y (T t) (T n) (map T ns) (map re_pair ps) o) (follow_re s.bindings n)
    match_step_re fail = refl

    -- Renumbering goes through what follows an act.
    proceed_re : (s : Store) (gs : List (Sequent Leaf)) (ls : List (Line Leaf))
        → map re (proceed s gs ls) ≡ proceed (RS s) (map (put_sequent (renumbered κ)) gs) (map (put_line (renumbered κ)) ls)
    unfolding proceed re re_branch
    proceed_re s [] ls = refl
    proceed_re s (g ∷ gs) ls = refl

    settle_re : (m : Matching) (b : Branch) → map re (settle m b) ≡ settle (re_matching m) (re_branch b)
    unfolding settle re re_branch re_matching
    settle_re (pairs s []) b = proceed_re s b.goals b.path
    settle_re (pairs s (p ∷ ps)) b = refl
    settle_re (check s y t n ns ps) b = refl
    settle_re fail b = refl

    try_from_re : (s : Store) (a : Atom) (ms : List (Entry Leaf)) (k : ℕ) (b : Branch)
        → map re (try_from s a ms k b) ≡ try_from (RS s) (re_atom a) (map (put_entry (renumbered κ)) ms) k (re_branch b)
    unfolding try_from re
    try_from_re s a [] k b = refl
    try_from_re s a (m ∷ ms) k b = refl

    fresh_variables_re : (vs : List ℕ) (n : ℕ) → put_terms (renumbered κ) (fresh_variables vs n) ≡ fresh_variables vs n
    unfolding fresh_variables substitute renumbered
    fresh_variables_re [] n = refl
    fresh_variables_re (v ∷ vs) n = ap (leaf (var n) ∷◌) (fresh_variables_re vs (suc n))

    -- Renumbering goes through a try of a member.
    try_member_re : (s : Store) (a : Atom) (m : Entry Leaf) (k : ℕ) (b : Branch)
        → map re (try_member s a m k b) ≡ try_member (RS s) (re_atom a) (put_entry (renumbered κ) m) k (re_branch b)
    unfolding try_member re_store re_atom re_branch fresh put_line
    try_member_re s a m k b =
        let θ : Leaf → Term Leaf = renumbered κ in
        let vs = m.member.prefix in
        let xs = fresh_variables vs s.next in
        let e = assign vs xs m.environment in
        let f = assign vs xs (put_environment θ m.environment) in
        let same : put_environment θ e ≡ f =
        assign_put θ vs xs m.environment
        ∙ ap (λ (ts : List (Term Leaf)). assign vs ts (put_environment θ m.environment)) (fresh_variables_re vs s.next) in
        settle_re (comparing (fresh vs a.level s) (push_pairs a.arguments (substitutes m.member.arguments e) []))
        (branch (body_sequent m.member.body e a.program a.level ++ b.goals) (Dclause k xs ∷ b.path))
        ∙ ap₂ settle
        (comparing_re (fresh vs a.level s) (push_pairs a.arguments (substitutes m.member.arguments e) [])
        ∙ ap (comparing (RS (fresh vs a.level s))) (push_pairs_re a.arguments (substitutes m.member.arguments e) []
        ∙ ap (λ (us : Terms Leaf). push_pairs (substitutes a.arguments θ) us [])
        (substitutes_substitutes m.member.arguments e θ ∙ ap (substitutes m.member.arguments) same)))
        (ap₂ branch
        (map_append (put_sequent θ) (body_sequent m.member.body e a.program a.level) b.goals
        ∙ ap (λ (gs : List (Sequent Leaf)). gs ++ map (put_sequent θ) b.goals) (body_put θ m.member.body e a.program a.level
        ∙ ap (λ (x : Environment Leaf). body_sequent m.member.body x (put_program θ a.program) a.level) same))
        (ap (λ (ts : List (Term Leaf)). Dclause k ts ∷ map (put_line θ) b.path) (fresh_variables_re vs s.next)))

    -- Renumbering goes through taking a goal, the constant that is made getting its new number.
    take_goal_re : (u : ℕ) (s : Store) (g : Goal) (e : Environment Leaf) (P : Program Leaf) (i : ℕ) (b : Branch)
        → map re (take_goal u s g e P i b)
        ≡ take_goal (κ u) (RS s) g (put_environment (renumbered κ) e) (put_program (renumbered κ) P) i (re_branch b)
    unfolding take_goal re re_branch re_store re_atom fresh put_line substitute renumbered renumber
    take_goal_re u s (atom p ts) e P i b =
        try_from_re s (record { predicate = p; arguments = substitutes ts e; program = P; level = i }) (entries P) 1 b
        ∙ ap₂ (λ (us : Terms Leaf) (ms : List (Entry Leaf)). try_from (RS s)
        (record { predicate = p; arguments = us; program = put_program (renumbered κ) P; level = i }) ms 1 (re_branch b))
        (substitutes_substitutes ts e (renumbered κ)) (sym (entries_put (renumbered κ) P.clauses))
    take_goal_re u s truth e P i b = proceed_re s b.goals _
    take_goal_re u s (and g h) e P i b = refl
    take_goal_re u s (or g h) e P i b = refl
    take_goal_re u s (implies c g) e P i b = ap (λ (Q : Program Leaf). take (RS s) (sequent g (put_environment (renumbered κ) e) Q i)
        (branch (map (put_sequent (renumbered κ)) b.goals) (plain Dassume ∷ map (put_line (renumbered κ)) b.path)) ∷ [])
        (assume_put (renumbered κ) c e P)
    take_goal_re u s (exists v g) e P i b =
        ap (λ (f : Environment Leaf). take (fresh (v ∷ []) i (RS s)) (sequent g f (put_program (renumbered κ) P) i)
        (branch (map (put_sequent (renumbered κ)) b.goals) (Dsome (leaf (var s.next)) ∷ map (put_line (renumbered κ)) b.path)) ∷ [])
        (update_put (renumbered κ) e v (leaf (var s.next)))
    take_goal_re u s (forall v g) e P i b = ap (λ (f : Environment Leaf). take (RS s) (sequent g f (put_program (renumbered κ) P) (suc i))
        (branch (map (put_sequent (renumbered κ)) b.goals)
        (Dall (leaf (con (κ u) (suc i))) ∷ map (put_line (renumbered κ)) b.path)) ∷ [])
        (update_put (renumbered κ) e v (leaf (con u (suc i))))

    -- So it goes through every step,
    step_re : (u : ℕ) (c : Configuration) → map re (step u c) ≡ step (κ u) (re c)
    unfolding step re re_atom
    step_re u (take s g b) = take_goal_re u s g.goal g.environment g.program g.level b
    step_re u (try s a m ms k b) =
        map_append re (cond (eqb a.predicate m.member.predicate) (try_member s a m k b) []) (try_from s a ms (suc k) b)
        ∙ ap₂ ◌++◌ (go (eqb a.predicate m.member.predicate)) (try_from_re s a ms (suc k) b)
      where
        go : (c : Bool) → map re (cond c (try_member s a m k b) [])
            ≡ cond c (try_member (RS s) (re_atom a) (put_entry (renumbered κ) m) k (re_branch b)) []
        go true = try_member_re s a m k b
        go false = refl
    step_re u (match m b) = settle_re (match_step m) b ∙ ap (λ (x : Matching). settle x (re_branch b)) (match_step_re m)
    step_re u (done s ls) = refl

    -- and through what an act gives to choose from.
    pub acts_re : (u : ℕ) (c : Configuration) → map re (acts u c) ≡ acts (κ u) (re c)
    unfolding acts re
    acts_re u (take s g b) = step_re u (take s g b)
    acts_re u (try s a m ms k b) = step_re u (try s a m ms k b)
    acts_re u (match m b) = step_re u (match m b)
    acts_re u (done s ls) = refl

-- There is no made constant at the start.
start_environment_lem : (κ : ℕ → ℕ) → put_environment (renumbered κ) start_environment ≡ start_environment
unfolding start_environment substitute renumbered
start_environment_lem κ = fun_ext (λ v. go v (ltb v variable_names))
  where
    go : (v : ℕ) (b : Bool)
        → substitute (cond b (leaf (var v)) (app (sheet_symbol 0) nil)) (renumbered κ) ≡ cond b (leaf (var v)) (app (sheet_symbol 0) nil)
    go v true = refl
    go v false = refl

-- So the start stays as it is.
pub root_re : (κ : ℕ → ℕ) (cs : Rules Clause) (g : Goal) → re κ (root cs g) ≡ root cs g
unfolding root start_goal start_store re re_store re_branch
root_re κ cs g =
    ap (λ x. take start_store x (branch [] []))
    (instance_put (renumbered κ) cs g start_environment ∙ ap (instance_of cs g) (start_environment_lem κ))
