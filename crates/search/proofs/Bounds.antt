-- What a search holds after u acts: well-formed terms, and no level of a goal, a variable or a made constant, nor a place of a
-- member, above u.
use Prim.Native.Nat.{ℕ, zero, suc, ◌≤◌, ◌<◌}
use mathlib.Core.Path.{◌≡◌, subst}
use mathlib.Core.Bool.{Bool, true, false, cond}
use mathlib.Core.List.{List, [], ◌∷◌, map, reverse, reverse_aux}
use mathlib.Core.Option.{Option, none, some}
use native.Mathlib.Omega.{arith}
use lib.Dec.{eqb}
use borrow.Author.Tests.{lt-ltb}
use Rattle.terms.specs.Lists.{All, update}
use Rattle.terms.specs.Terms.{leaf, substitutes}
use Rattle.terms.proofs.Lists.{all_append, all_map}
use Rattle.formulas.specs.Formulas.{Goal, atom, truth, and, or, implies, exists, forall, Clause}
use Rattle.formulas.specs.Members.{members}
use Rattle.formulas.specs.Rules.{Rules, assume}
use Rattle.formulas.proofs.Rules.{joined_all_lem}
use Rattle.sequents.specs.Symbols.{Symbol}
use Rattle.sequents.specs.Sequents.{Environment, Program, Hypothesis, hypothesis, Entry, entry, entries_of, entries, Sequent, sequent}
use Rattle.sequents.specs.Sequents.{assign, body_sequent, Line, put_line}
use Rattle.sequents.specs.Derivations.{sheet_program, instance_of}
use Rattle.unification.specs.Store.{Leaf, var, con, Store, fresh, fresh_variables}
use Rattle.unification.specs.Matching.{Matching, pairs, check, fail, match_step}
use Rattle.search.specs.Configurations.{Branch, Atom, Configuration, take, try, match, done}
use Rattle.search.specs.Steps.{proceed, settle, try_from, try_member, take_goal, step}
use Rattle.search.specs.Search.{start_environment, start_store, start_goal, start, advance, after, proved, ends, search}
use Rattle.search.specs.Answers.{final, final_environment, final_lines}
use Rattle.search.proofs.Units.{all_units}
use Rattle.search.proofs.After.{after_state, comes_least, proved_stands}
use Rattle.search.proofs.Formed.{Arities, FormedTerm, FormedTerms, SheetName, FormedGoal, FormedClause, FormedBody, FormedMember}
use Rattle.search.proofs.Formed.{FormedEnvironment, FormedLine, formed_substitute, formed_substitutes, formed_put_line, formed_update}
use Rattle.search.proofs.Formed.{formed_assign, members_formed}
use Rattle.search.proofs.FormedStores.{UpTo, SymbolUpTo, StoreUpTo, MatchingUpTo, fresh_formed, fresh_variables_formed}
use Rattle.search.proofs.FormedStores.{comparing_formed, match_step_formed, final_formed}

-- The bound n leaves room for what an act makes: a level one higher, the next place.
abbrev pub Room : ℕ → Configuration → Type 0
Room n (take s g b) = g.level < n
Room n (try s a m ms k b) = k < n
Room n (match m b) = Unit {0}
Room n (done s ls) = Unit {0}

module _ (ok : Arities) (n : ℕ) where
  -- An environment, at the names of a sheet.
  abbrev pub EnvironmentUpTo : Environment Leaf → Type 0
  EnvironmentUpTo e = FormedEnvironment ok (UpTo n) e

  -- A clause of a program.
  abbrev pub HypothesisUpTo : Hypothesis Leaf → Type 0
  HypothesisUpTo h = FormedClause h.clause ok × EnvironmentUpTo h.environment

  -- A member of a program's clause.
  abbrev pub EntryUpTo : Entry Leaf → Type 0
  EntryUpTo m = FormedMember ok m.member × EnvironmentUpTo m.environment

  -- An open goal.
  pub record SequentUpTo (g : Sequent Leaf) : Type 0 where
    pub goal : FormedGoal g.goal ok
    pub environment : EnvironmentUpTo g.environment
    pub program : All HypothesisUpTo g.program.clauses
    pub level : g.level ≤ n

  -- A D line with its place.
  abbrev pub LineUpTo : Line Leaf → Type 0
  LineUpTo = FormedLine ok (UpTo n) (λ k. k ≤ n)

  -- The goals that wait and the lines so far.
  abbrev pub BranchUpTo : Branch → Type 0
  BranchUpTo b = All SequentUpTo b.goals × All LineUpTo b.path

  -- An atom that is tried with the members ms, the first of which has place k.
  pub record TryUpTo (a : Atom) (ms : List (Entry Leaf)) (k : ℕ) : Type 0 where
    pub arguments : FormedTerms a.arguments ok (UpTo n)
    pub program : All HypothesisUpTo a.program.clauses
    pub level : a.level ≤ n
    pub members : All EntryUpTo ms
    pub place : k ≤ n

  -- The invariant for the bound n.
  unfoldable pub ConfigurationUpTo : Configuration → Type 0
  ConfigurationUpTo (take s g b) = StoreUpTo ok n s × SequentUpTo g × BranchUpTo b
  ConfigurationUpTo (try s a m ms k b) = StoreUpTo ok n s × TryUpTo a (m ∷ ms) k × BranchUpTo b
  ConfigurationUpTo (match m b) = MatchingUpTo ok n m × BranchUpTo b
  ConfigurationUpTo (done s ls) = StoreUpTo ok n s × All LineUpTo ls

  -- The members of a program are within the bound if its clauses are.
  entries_formed : (P : List (Hypothesis Leaf)) → All HypothesisUpTo P → All EntryUpTo (entries_of P)
  unfolding entries_of
  entries_formed [] h = tt
  entries_formed (x ∷ P) h =
      all_append EntryUpTo (map (entry x.environment) (members x.clause)) (entries_of P)
      (all_map (entry x.environment) (FormedMember ok) EntryUpTo (λ m k. (k, h.0.1)) (members x.clause)
      (members_formed ok x.clause h.0.0))
      (entries_formed P h.1)

  -- The sequent of a body is within the bound if the body, its environment, program and level are.
  body_formed : (o : Option Goal) (e : Environment Leaf) (P : Program Leaf) (i : ℕ) → FormedBody ok o → EnvironmentUpTo e
      → All HypothesisUpTo P.clauses → i ≤ n
      → All SequentUpTo (body_sequent o e P i)
  unfolding body_sequent FormedBody
  body_formed none e P i h k q l = tt
  body_formed (some g) e P i h k q l = (record { goal = h; environment = k; program = q; level = l }, tt)

  -- the acts

  -- Going on with the next goal, or ending where none is left, keeps the bound.
  proceed_formed : (s : Store) (gs : List (Sequent Leaf)) (ls : List (Line Leaf)) → StoreUpTo ok n s → All SequentUpTo gs
      → All LineUpTo ls → All ConfigurationUpTo (proceed s gs ls)
  unfolding proceed ConfigurationUpTo
  proceed_formed s [] ls h k q = ((h, q), tt)
  proceed_formed s (g ∷ gs) ls h k q = ((h, k.0, (k.1, q)), tt)

  -- What follows an act of matching keeps the bound.
  settle_formed : (m : Matching) (b : Branch) → MatchingUpTo ok n m → BranchUpTo b → All ConfigurationUpTo (settle m b)
  unfolding settle ConfigurationUpTo MatchingUpTo
  settle_formed (pairs s []) b h k = proceed_formed s b.goals b.path h.0 k.0 k.1
  settle_formed (pairs s (p ∷ ps)) b h k = ((h, k), tt)
  settle_formed (check s y t u us ps) b h k = ((h, k), tt)
  settle_formed fail b h k = tt

  -- Going on to the first of the members left keeps the bound.
  try_from_formed : (s : Store) (a : Atom) (ms : List (Entry Leaf)) (k : ℕ) (b : Branch) → StoreUpTo ok n s → TryUpTo a ms k → BranchUpTo b
      → All ConfigurationUpTo (try_from s a ms k b)
  unfolding try_from ConfigurationUpTo
  try_from_formed s a [] k b h t q = tt
  try_from_formed s a (m ∷ ms) k b h t q = ((h, t, q), tt)

  -- Trying a member keeps the bound.
  try_member_formed : (s : Store) (a : Atom) (m : Entry Leaf) (ms : List (Entry Leaf)) (k : ℕ) (b : Branch) → StoreUpTo ok n s
      → TryUpTo a (m ∷ ms) k → BranchUpTo b
      → All ConfigurationUpTo (try_member s a m k b)
  unfolding try_member FormedLine
  try_member_formed s a m ms k b h t q =
      let vs = m.member.prefix in
      let xs = fresh_variables vs s.next in
      let new = fresh_variables_formed ok n vs s.next in
      let e = assign vs xs m.environment in
      let he : EnvironmentUpTo e = formed_assign ok (UpTo n) vs xs m.environment t.members.0.1 new in
      settle_formed _ _
      (comparing_formed ok n (fresh vs a.level s) a.arguments (substitutes m.member.arguments e) []
      (fresh_formed ok n vs a.level s t.level h) t.arguments
      (formed_substitutes m.member.arguments e ok SheetName (UpTo n) he t.members.0.0.0) tt) (
        all_append SequentUpTo (body_sequent m.member.body e a.program a.level) b.goals
            (body_formed m.member.body e a.program a.level t.members.0.0.1 he t.program t.level) q.0,
        ((t.place, new), q.1),
      )

  -- Taking a goal of a level below n keeps the bound.
  take_goal_formed : (u : ℕ) (s : Store) (g : Goal) (e : Environment Leaf) (P : Program Leaf) (i : ℕ) (b : Branch) → StoreUpTo ok n s
      → SequentUpTo (sequent g e P i) → BranchUpTo b → i < n
      → All ConfigurationUpTo (take_goal u s g e P i b)
  unfolding take_goal ConfigurationUpTo FormedGoal FormedLine FormedTerm UpTo
  take_goal_formed u s (atom p ts) e P i b h k q r = try_from_formed s _ (entries P) 1 b h (record {
    arguments = formed_substitutes ts e ok SheetName (UpTo n) k.environment k.goal;
    program = k.program;
    level = k.level;
    members = entries_formed P.clauses k.program;
    place = omega arith;
  }) q
  take_goal_formed u s truth e P i b h k q r = proceed_formed s b.goals _ h q.0 (tt, q.1)
  take_goal_formed u s (and g j) e P i b h k q r =
      let left : SequentUpTo (sequent g e P i) =
      record { goal = k.goal.0; environment = k.environment; program = k.program; level = k.level } in
      let right : SequentUpTo (sequent j e P i) =
      record { goal = k.goal.1; environment = k.environment; program = k.program; level = k.level } in
      ((h, left, ((right, q.0), (tt, q.1))), tt)
  take_goal_formed u s (or g j) e P i b h k q r =
      let left : SequentUpTo (sequent g e P i) =
      record { goal = k.goal.0; environment = k.environment; program = k.program; level = k.level } in
      let right : SequentUpTo (sequent j e P i) =
      record { goal = k.goal.1; environment = k.environment; program = k.program; level = k.level } in
      ((h, left, (q.0, (tt, q.1))), ((h, right, (q.0, (tt, q.1))), tt))
  take_goal_formed u s (implies c g) e P i b h k q r =
      let program = joined_all_lem HypothesisUpTo P.order (hypothesis c e) P.clauses (k.goal.0, k.environment) k.program in
      let new : SequentUpTo (sequent g e (assume (hypothesis c e) P) i) =
      record { goal = k.goal.1; environment = k.environment; program = program; level = k.level } in
      ((h, new, (q.0, (tt, q.1))), tt)
  take_goal_formed u s (exists v g) e P i b h k q r =
      let new : SequentUpTo (sequent g (update e v (leaf (var s.next))) P i) =
      record {
        goal = k.goal;
        environment = formed_update ok (UpTo n) e v _ k.environment tt;
        program = k.program;
        level = k.level;
      } in
      ((fresh_formed ok n (v ∷ []) i s k.level h, new, (q.0, (tt, q.1))), tt)
  take_goal_formed u s (forall v g) e P i b h k q r =
      let new : SequentUpTo (sequent g (update e v (leaf (con u (suc i)))) P (suc i)) =
      record { goal = k.goal; environment = formed_update ok (UpTo n) e v _ k.environment r; program = k.program; level = r } in
      ((h, new, (q.0, (r, q.1))), tt)

  -- Every act keeps the bound where there is room.
  pub step_formed : (u : ℕ) (c : Configuration) → ConfigurationUpTo c → Room n c → All ConfigurationUpTo (step u c)
  unfolding step ConfigurationUpTo
  step_formed u (take s g b) h r = take_goal_formed u s g.goal g.environment g.program g.level b h.0 h.1 h.2 r
  step_formed u (try s a m ms k b) h r =
      let t = h.1 in
      all_append ConfigurationUpTo (cond (eqb a.predicate m.member.predicate) (try_member s a m k b) []) (try_from s a ms (suc k) b)
      (tried (eqb a.predicate m.member.predicate))
      (try_from_formed s a ms (suc k) b h.0
      (record { arguments = t.arguments; program = t.program; level = t.level; members = t.members.1; place = r }) h.2)
    where
      tried : (same : Bool) → All ConfigurationUpTo (cond same (try_member s a m k b) [])
      tried true = try_member_formed s a m ms k b h.0 h.1 h.2
      tried false = tt
  step_formed u (match m b) h r = settle_formed (match_step m) b (match_step_formed ok n m h.0) h.1
  step_formed u (done s ls) h r = (h, tt)

  -- the start

  -- At the start each name of a sheet stands for a variable, which is within the bound.
  start_environment_formed : EnvironmentUpTo start_environment
  unfolding start_environment FormedTerm UpTo
  start_environment_formed v l = rw (lt-ltb v 8 l) tt

  -- Every bound holds at the start.
  pub start_formed : (cs : Rules Clause) (g : Goal) → All (λ c. FormedClause c ok) cs.clauses → FormedGoal g ok
      → All ConfigurationUpTo (start cs g)
  unfolding start start_goal start_store instance_of sheet_program ConfigurationUpTo
  start_formed cs g h k = (
    (
      record { levels = λ x. omega arith; values = tt },
      record {
        goal = k;
        environment = start_environment_formed;
        program =
            all_map (λ c. hypothesis c start_environment) (λ c. FormedClause c ok) HypothesisUpTo (λ c j. (j, start_environment_formed))
            cs.clauses h;
        level = omega arith;
      },
      (tt, tt),
    ),
    tt,
  )

  -- the end

  -- Lines in reverse order stay within the bound.
  all_reverse : (ls ms : List (Line Leaf)) → All LineUpTo ls → All LineUpTo ms → All LineUpTo (reverse_aux ls ms)
  all_reverse [] ms h k = k
  all_reverse (l ∷ ls) ms h k = all_reverse ls (l ∷ ms) h.1 (h.0, k)

  -- The D lines with final values are within the bound.
  final_lines_formed : (s : Store) (path : List (Line Leaf)) → StoreUpTo ok n s → All LineUpTo path
      → All (FormedLine ok (SymbolUpTo n) (λ k. k ≤ n)) (final_lines s path)
  unfolding final_lines
  final_lines_formed s path h k =
      all_map (put_line (final s)) LineUpTo (FormedLine ok (SymbolUpTo n) (λ k. k ≤ n))
      (λ x i. formed_put_line x (final s) ok (UpTo n) (SymbolUpTo n) (λ k. k ≤ n) (λ a. final_formed ok n s a h) i) (reverse path)
      (all_reverse path [] k tt)

  -- The final terms for the names of the goal are within the bound.
  final_environment_formed : (s : Store) → StoreUpTo ok n s → FormedEnvironment ok (SymbolUpTo n) (final_environment s)
  unfolding final_environment
  final_environment_formed s h v l =
      formed_substitute (start_environment v) (final s) ok (UpTo n) (SymbolUpTo n) (λ a. final_formed ok n s a h)
      (start_environment_formed v l)

-- A bound leaves room below the next one.
pub room : (ok : Arities) (n : ℕ) (c : Configuration) → ConfigurationUpTo ok n c → Room (suc n) c
unfolding ConfigurationUpTo
room ok n (take s g b) h = (let l = h.1.level in omega arith)
room ok n (try s a m ms k b) h = (let l = h.1.place in omega arith)
room ok n (match m b) h = tt
room ok n (done s ls) h = tt

-- After u acts every bound from u on holds.
bounded : (ok : Arities) (cs : Rules Clause) (g : Goal) → All (λ c. FormedClause c ok) cs.clauses → FormedGoal g ok → (u n : ℕ)
    → u ≤ n → All (ConfigurationUpTo ok n) (after cs g u)
unfolding advance
bounded ok cs g h k u =
    after_state cs g (λ w ds. (n : ℕ) → w ≤ n → All (ConfigurationUpTo ok n) ds) (λ n l. start_formed ok n cs g h k) act u
  where
    act : (w : ℕ) (ds : List Configuration) → ((n : ℕ) → w ≤ n → All (ConfigurationUpTo ok n) ds) → (n : ℕ) → suc w ≤ n
        → All (ConfigurationUpTo ok n) (advance w ds)
    act w [] q n l = tt
    act w (c ∷ ds) q zero l = absurd (omega arith)
    act w (c ∷ ds) q (suc n) l =
        let i = q (suc n) (omega arith) in
        all_append (ConfigurationUpTo ok (suc n)) (step w c) ds (step_formed ok (suc n) w c i.0 (room ok n c (q n (omega arith)).0))
        i.1

-- What a proved search shows: well-formed terms, levels and places not above the units.
pub record ShownUpTo (ok : Arities) (n : ℕ) (e : Environment Symbol) (ls : List (Line Symbol)) : Type 0 where
  pub environment : FormedEnvironment ok (SymbolUpTo n) e
  pub lines : All (FormedLine ok (SymbolUpTo n) (λ k. k ≤ n)) ls

-- It does so at its end,
pub bounds_end : (ok : Arities) (n : ℕ) (s : Store) (path : List (Line Leaf)) → ConfigurationUpTo ok n (done s path)
    → ShownUpTo ok n (final_environment s) (final_lines s path)
unfolding ConfigurationUpTo
bounds_end ok n s path last =
    record { environment = final_environment_formed ok n s last.0; lines = final_lines_formed ok n s path last.0 last.1 }

-- where every bound from its units on holds.
pub proved_bounds : (ok : Arities) (cs : Rules Clause) (g : Goal) → All (λ c. FormedClause c ok) cs.clauses → FormedGoal g ok
    → (budget n : ℕ) (s : Store) (path : List (Line Leaf)) → search budget cs g ≡ ends (proved s path) n
    → ShownUpTo ok n (final_environment s) (final_lines s path)
proved_bounds ok cs g h k budget n s path e =
    bounds_end ok n s path
    (subst (All (ConfigurationUpTo ok n)) (proved_stands cs g budget n s path e).1 (bounded ok cs g h k n n (omega arith))).0

-- The first act is always due, so that a proved search has taken at least one.
pub proved_least : (cs : Rules Clause) (g : Goal) (budget n : ℕ) (s : Store) (path : List (Line Leaf))
    → search budget cs g ≡ ends (proved s path) n → 1 ≤ n
proved_least cs g budget n s path e = comes_least cs g n (proved s path) (((all_units cs g).tells budget n (proved s path)).0 e).0
