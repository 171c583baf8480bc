-- What holds of every configuration of a search: its store is formed, and every variable in it has been made.
use Prim.Native.Nat.{ℕ, suc, ◌≤◌}
use mathlib.Core.Path.{◌≡◌, refl, ap}
use mathlib.Core.Bool.{Bool, true, false, cond}
use mathlib.Core.List.{List, [], ◌∷◌, ◌++◌}
use mathlib.Core.Option.{Option, none, some}
use native.Mathlib.Omega.{arith}
use lib.Dec.{eqb, ltb}
use borrow.Author.Tests.{ltb-true}
use Rattle.terms.specs.Lists.{All}
use Rattle.terms.specs.Terms.{sheet_symbol, leaf, app, nil, Terms, substitutes, Leaves, LeavesAll}
use Rattle.terms.proofs.Lists.{all_append, all_weaken, update_all}
use Rattle.terms.proofs.Terms.{leaves_all_weaken, leaves_all_any, leaves_all_substitutes}
use Rattle.formulas.specs.Formulas.{Goal, atom, truth, and, or, implies, exists, forall, Clause}
use Rattle.formulas.specs.Rules.{Rules}
use Rattle.formulas.proofs.Rules.{joined_all_lem}
use Rattle.sequents.specs.Sequents.{Environment, Program, hypothesis, Entry, entries, Sequent, sequent, assign, body_sequent, Line}
use Rattle.sequents.specs.Derivations.{instance_of}
use Rattle.sequents.proofs.Sequents.{assign_all, entries_all, sheet_all}
use Rattle.unification.specs.Store.{Leaf, var, con, Store, past, fresh, fresh_variables}
use Rattle.unification.specs.Matching.{Pair, Matching, pairs, check, fail, push_pairs, comparing, match_step}
use Rattle.unification.specs.Promises.{Below, Formed}
use Rattle.unification.proofs.Stores.{below_more, past_le, fresh_formed, empty_formed}
use Rattle.unification.proofs.Invariant.{Good, Running, comparing_running, match_step_running}
use Rattle.search.specs.Configurations.{Branch, Atom, Configuration, take, try, match, done}
use Rattle.search.specs.Steps.{proceed, settle, try_from, try_member, take_goal, step}
use Rattle.search.specs.Search.{start_environment, start_store, start_goal, start, after}
use Rattle.search.proofs.After.{after_all}

-- All variables in an environment are numbered below n.
abbrev pub EnvironmentBelow : ℕ → Environment Leaf → Type 0
EnvironmentBelow n e = (v : ℕ) → Leaves (e v) (Below n)

-- All variables in a program are numbered below n.
abbrev pub ProgramBelow : ℕ → Program Leaf → Type 0
ProgramBelow n P = All (λ h. EnvironmentBelow n h.environment) P.clauses

-- All variables in members of a program are numbered below n.
abbrev pub EntriesBelow : ℕ → List (Entry Leaf) → Type 0
EntriesBelow n ms = All (λ m. EnvironmentBelow n m.environment) ms

-- All variables in a sequent are numbered below n.
abbrev pub SequentBelow : ℕ → Sequent Leaf → Type 0
SequentBelow n g = EnvironmentBelow n g.environment × ProgramBelow n g.program

-- All variables in goals are numbered below n.
abbrev pub GoalsBelow : List (Sequent Leaf) → ℕ → Type 0
GoalsBelow gs n = All (SequentBelow n) gs

-- All variables of an atom that is tried with the members ms, the goals gs waiting, are numbered below n.
pub record TryBelow (a : Atom) (ms : List (Entry Leaf)) (gs : List (Sequent Leaf)) (n : ℕ) : Type 0 where
  pub arguments : LeavesAll a.arguments (Below n)
  pub program : ProgramBelow n a.program
  pub members : EntriesBelow n ms
  pub goals : GoalsBelow gs n

-- The invariant: a formed store, and variables below its next number.
unfoldable pub Invariant : Configuration → Type 0
Invariant (take s g b) = Good (GoalsBelow (g ∷ b.goals)) s
Invariant (try s a m ms k b) = Good (TryBelow a (m ∷ ms) b.goals) s
Invariant (match m b) = Running (GoalsBelow b.goals) m
Invariant (done s ls) = Formed s

-- An environment below n is below any larger number.
environment_more : (n m : ℕ) (e : Environment Leaf) → n ≤ m → EnvironmentBelow n e → EnvironmentBelow m e
environment_more n m e l h v = below_more (e v) n m l (h v)

-- A program below n is below any larger number.
program_more : (n m : ℕ) (P : Program Leaf) → n ≤ m → ProgramBelow n P → ProgramBelow m P
program_more n m P l h =
    all_weaken (λ x. EnvironmentBelow n x.environment) (λ x. EnvironmentBelow m x.environment)
    (λ x k. environment_more n m x.environment l k) P.clauses h

-- Goals below n are below any larger number.
goals_more : (n m : ℕ) (gs : List (Sequent Leaf)) → n ≤ m → GoalsBelow gs n → GoalsBelow gs m
goals_more n m gs l h =
    all_weaken (SequentBelow n) (SequentBelow m)
    (λ g k. (environment_more n m g.environment l k.0, program_more n m g.program l k.1)) gs h

-- Terms below n are below any larger number.
pub terms_more : (n m : ℕ) (ts : Terms Leaf) → n ≤ m → LeavesAll ts (Below n) → LeavesAll ts (Below m)
unfolding Below
terms_more n m ts l h = leaves_all_weaken ts (Below n) (Below m) more h
  where
    more : (a : Leaf) → Below n a → Below m a
    more (var x) b = omega arith
    more (con c k) b = tt

-- Terms of a sheet, under an environment that is below n, are below n.
pub substitutes_below : (ts : Terms ℕ) (e : Environment Leaf) (n : ℕ) → EnvironmentBelow n e → LeavesAll (substitutes ts e) (Below n)
substitutes_below ts e n h = leaves_all_substitutes ts e (λ v. Unit {0}) (Below n) (λ v k. h v) (leaves_all_any ts (λ v. Unit {0}) (λ v. tt))

-- The fresh variables of a prefix are below the number after them.
fresh_variables_below : (vs : List ℕ) (n : ℕ) → All (λ t. Leaves t (Below (past vs n))) (fresh_variables vs n)
unfolding fresh_variables past Leaves Below
fresh_variables_below [] n = tt
fresh_variables_below (v ∷ vs) n = (past_le vs (suc n), fresh_variables_below vs (suc n))

-- An environment with fresh variables for a prefix is below the number after them.
pub prefix_below : (vs : List ℕ) (n : ℕ) (e : Environment Leaf) → EnvironmentBelow n e
    → EnvironmentBelow (past vs n) (assign vs (fresh_variables vs n) e)
prefix_below vs n e h =
    assign_all (λ t. Leaves t (Below (past vs n))) vs (fresh_variables vs n) e (environment_more n (past vs n) e (past_le vs n) h)
    (fresh_variables_below vs n)

-- The sequent of a body is below n if its environment and its program are.
body_below : (o : Option Goal) (e : Environment Leaf) (P : Program Leaf) (i n : ℕ) → EnvironmentBelow n e → ProgramBelow n P
    → GoalsBelow (body_sequent o e P i) n
unfolding body_sequent
body_below none e P i n he hP = tt
body_below (some g) e P i n he hP = ((he, hP), tt)

-- A good store is good with another fact about its next number.
good_also : (R S : ℕ → Type 0) (s : Store) → Good R s → S s.next → Good S s
good_also R S s o h = record { formed = o.formed; extra = h }

-- A good store with fresh variables is good with a fact about its new next number.
good_fresh : (R S : ℕ → Type 0) (vs : List ℕ) (i : ℕ) (s : Store) → Good R s → S (past vs s.next) → Good S (fresh vs i s)
unfolding fresh
good_fresh R S vs i s o h = record { formed = fresh_formed vs i s o.formed; extra = h }

-- Going on with the goals keeps the invariant.
proceed_keeps : (s : Store) (gs : List (Sequent Leaf)) (ls : List (Line Leaf)) → Good (GoalsBelow gs) s → All Invariant (proceed s gs ls)
unfolding proceed Invariant
proceed_keeps s [] ls o = (o.formed, tt)
proceed_keeps s (g ∷ gs) ls o = (o, tt)

-- What follows an act of matching keeps the invariant.
settle_keeps : (m : Matching) (b : Branch) → Running (GoalsBelow b.goals) m → All Invariant (settle m b)
unfolding settle Invariant Running
settle_keeps (pairs s []) b r = proceed_keeps s b.goals b.path r.0
settle_keeps (pairs s (p ∷ ps)) b r = (r, tt)
settle_keeps (check s y t n ns ps) b r = (r, tt)
settle_keeps fail b r = tt

-- Going on to the members left keeps the invariant.
try_from_keeps : (s : Store) (a : Atom) (ms : List (Entry Leaf)) (k : ℕ) (b : Branch) → Good (TryBelow a ms b.goals) s
    → All Invariant (try_from s a ms k b)
unfolding try_from Invariant
try_from_keeps s a [] k b o = tt
try_from_keeps s a (m ∷ ms) k b o = (o, tt)

-- Trying a member keeps the invariant.
try_member_keeps : (s : Store) (a : Atom) (m : Entry Leaf) (ms : List (Entry Leaf)) (k : ℕ) (b : Branch)
    → Good (TryBelow a (m ∷ ms) b.goals) s → All Invariant (try_member s a m k b)
unfolding try_member fresh
try_member_keeps s a m ms k b o =
    let vs = m.member.prefix in
    let n = past vs s.next in
    let l : s.next ≤ n = past_le vs s.next in
    let e = assign vs (fresh_variables vs s.next) m.environment in
    let x = o.extra in
    let he : EnvironmentBelow n e = prefix_below vs s.next m.environment x.members.0 in
    let gs = body_sequent m.member.body e a.program a.level ++ b.goals in
    let goals : GoalsBelow gs n =
    all_append (SequentBelow n) (body_sequent m.member.body e a.program a.level) b.goals
    (body_below m.member.body e a.program a.level n he (program_more s.next n a.program l x.program))
    (goals_more s.next n b.goals l x.goals) in
    settle_keeps (comparing (fresh vs a.level s) (push_pairs a.arguments (substitutes m.member.arguments e) [])) _
    (comparing_running (GoalsBelow gs) (fresh vs a.level s) a.arguments (substitutes m.member.arguments e) []
    (good_fresh (TryBelow a (m ∷ ms) b.goals) (GoalsBelow gs) vs a.level s o goals)
    (terms_more s.next n a.arguments l x.arguments)
    (substitutes_below m.member.arguments e n he) tt)

-- Taking a goal keeps the invariant.
take_goal_keeps : (u : ℕ) (s : Store) (g : Goal) (e : Environment Leaf) (P : Program Leaf) (i : ℕ) (b : Branch)
    → Good (GoalsBelow (sequent g e P i ∷ b.goals)) s
    → All Invariant (take_goal u s g e P i b)
unfolding take_goal Invariant Leaves Below past
take_goal_keeps u s (atom p ts) e P i b o =
    let x = o.extra in
    try_from_keeps s _ (entries P) 1 b (good_also (GoalsBelow (sequent (atom p ts) e P i ∷ b.goals)) _ s o (record {
      arguments = substitutes_below ts e s.next x.0.0;
      program = x.0.1;
      members = entries_all (EnvironmentBelow s.next) P.clauses x.0.1;
      goals = x.1;
    }))
take_goal_keeps u s truth e P i b o = proceed_keeps s b.goals _ (good_also _ _ s o o.extra.1)
take_goal_keeps u s (and g h) e P i b o = (good_also _ _ s o (o.extra.0, o.extra), tt)
take_goal_keeps u s (or g h) e P i b o = (good_also _ _ s o o.extra, (good_also _ _ s o o.extra, tt))
take_goal_keeps u s (implies c g) e P i b o =
    let x = o.extra in
    let program =
    joined_all_lem (λ h. EnvironmentBelow s.next h.environment) P.order (hypothesis c e) P.clauses x.0.0 x.0.1 in
    (good_also _ _ s o ((x.0.0, program), x.1), tt)
take_goal_keeps u s (exists v g) e P i b o =
    let n = s.next in
    let l : n ≤ suc n = omega arith in
    let x = o.extra in (
      good_fresh _ _ (v ∷ []) i s o (
        (
          update_all (λ t. Leaves t (Below (suc n))) e v (leaf (var n)) (environment_more n (suc n) e l x.0.0) (omega arith),
          program_more n (suc n) P l x.0.1,
        ),
        goals_more n (suc n) b.goals l x.1,
      ),
      tt,
    )
take_goal_keeps u s (forall v g) e P i b o = (
  good_also _ _ s o (
    (update_all (λ t. Leaves t (Below s.next)) e v (leaf (con u (suc i))) o.extra.0.0 tt, o.extra.0.1),
    o.extra.1,
  ),
  tt,
)

-- Every act keeps the invariant.
pub step_keeps : (u : ℕ) (c : Configuration) → Invariant c → All Invariant (step u c)
unfolding step Invariant
step_keeps u (take s g b) o = take_goal_keeps u s g.goal g.environment g.program g.level b o
step_keeps u (try s a m ms k b) o =
    all_append Invariant (cond (eqb a.predicate m.member.predicate) (try_member s a m k b) []) (try_from s a ms (suc k) b)
    (tried (eqb a.predicate m.member.predicate))
    (try_from_keeps s a ms (suc k) b
    (good_also _ _ s o (record {
      arguments = o.extra.arguments;
      program = o.extra.program;
      members = o.extra.members.1;
      goals = o.extra.goals;
    })))
  where
    tried : (same : Bool) → All Invariant (cond same (try_member s a m k b) [])
    tried true = try_member_keeps s a m ms k b o
    tried false = tt
step_keeps u (match m b) o = settle_keeps (match_step m) b (match_step_running (GoalsBelow b.goals) m o)
step_keeps u (done s ls) o = (o, tt)

-- The variables of the start are 0 to 7.
start_environment_below : EnvironmentBelow 8 start_environment
unfolding start_environment Leaves Below
start_environment_below v = go (ltb v 8) refl
  where
    go : (b : Bool) → ltb v 8 ≡ b → Leaves (cond b (leaf (var v)) (app (sheet_symbol 0) nil)) (Below 8)
    go true e = ltb-true v 8 e
    go false e = tt

-- The invariant holds at the start, where the store is empty.
pub start_invariant : (cs : Rules Clause) (g : Goal) → All Invariant (start cs g)
unfolding start start_goal start_store instance_of Invariant
start_invariant cs g = (
  record {
    formed = empty_formed (λ x. 0) 8;
    extra = ((start_environment_below, sheet_all (EnvironmentBelow 8) cs start_environment start_environment_below), tt);
  },
  tt,
)

-- The invariant holds of every configuration of a search.
pub after_invariant : (cs : Rules Clause) (g : Goal) (n : ℕ) → All Invariant (after cs g n)
after_invariant cs g n = after_all cs g (λ u. Invariant) (start_invariant cs g) step_keeps (λ u c h. h) n
