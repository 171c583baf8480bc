-- T4: act by act the search follows definition 6, and its start is definition 8's.
use Prim.Native.Nat.{ℕ, zero, suc, ◌+◌, ◌≤◌, ◌<◌}
use mathlib.Core.Path.{◌≡◌, refl, sym, ap, subst}
use mathlib.Core.Bool.{Bool, true, false, cond}
use mathlib.Core.List.{List, [], ◌∷◌, map}
use mathlib.Core.Option.{Option, none, some}
use mathlib.Core.Logic.{inl, inr}
use native.Mathlib.Omega.{arith}
use lib.Dec.{eqb}
use borrow.Author.Tests.{eqb-true}
use Rattle.terms.specs.Lists.{All}
use Rattle.terms.specs.Terms.{substitutes}
use Rattle.terms.proofs.Lists.{all_append}
use Rattle.terms.proofs.Terms.{substitutes_substitutes}
use Rattle.formulas.specs.Formulas.{Goal, atom, truth, and, or, implies, exists, forall, Clause, free_g, free_from, free_variables}
use Rattle.formulas.specs.Rules.{Rules}
use Rattle.sequents.specs.Sequents.{Environment, Program, Entry, entries, Sequent, sequent, Line, plain, Dtrue}
use Rattle.sequents.specs.Derivations.{instance_of}
use Rattle.unification.specs.Store.{Leaf, Store, fresh, bound_to, solved, solution}
use Rattle.unification.specs.Matching.{Pair, Matching, pairs, check, fail, push_pairs, comparing, match_step, match_steps}
use Rattle.unification.specs.Promises.{Formed}
use Rattle.unification.proofs.Invariant.{Good}
use Rattle.search.specs.Configurations.{Branch, branch, Atom, Configuration, take, try, match, done}
use Rattle.search.specs.Steps.{proceed, settle, try_from, tried_store, tried_branch, take_goal, step}
use Rattle.search.specs.Search.{start_store, start_goal, start}
use Rattle.search.specs.Paper.{D, g_atom, embed, apply_g, formula_g, names}
use Rattle.search.specs.Procedure.{paper_sequent, apply_sequent, only_goals, identity, By, DerivationSequence, composition}
use Rattle.search.specs.Procedure.{formulas_of, paper_of, initial}
use Rattle.search.specs.Promises.{tried_atoms, MatchUnderWay, WellFormed, atom_sequent, FollowsSteps}
use Rattle.search.proofs.PaperApply.{sequent_identity, formulas_assume}
use Rattle.search.proofs.Invariant.{TryBelow, Invariant}
use Rattle.search.proofs.ProcedurePlaces.{StandsAt, Placed, placed_all}
use Rattle.search.proofs.ProcedureReached.{Reached, reached_more, reached_goals}
use Rattle.search.proofs.ProcedureTried.{trying, try_step, Resolving}
use Rattle.search.proofs.ProcedureResolved.{resolved}
use Rattle.search.proofs.ProcedureQuantifiers.{exists_reached, forall_reached}

-- Of n names from v on, those that are free are below n + v.
free_from_below : (n v k : ℕ) (g : Goal) → n + v ≤ k → All (λ x. x < k) (free_from n v g)
unfolding free_from
free_from_below zero v k g l = tt
free_from_below (suc n) v k g l = go (free_g g v) (free_from_below n (suc v) k g (omega arith))
  where
    go : (b : Bool) → All (λ x. x < k) (free_from n (suc v) g)
        → All (λ x. x < k) (elim b [ true ↦ v ∷ free_from n (suc v) g | false ↦ free_from n (suc v) g ])
    go true h = (omega arith, h)
    go false h = h

module _ (cs : Rules Clause) (g₀ : Goal) where
  -- What is known of a configuration after u acts: where it stands in the procedure.
  unfoldable pub Known : ℕ → Configuration → Type 0
  Known u (take s q b) = Reached cs g₀ u s (map paper_of (q ∷ b.goals)) b.path
  Known u (try s a m ms k b) =
      Reached cs g₀ u s (atom_sequent a ∷ map paper_of b.goals) b.path × Placed 1 (entries a.program) k (m ∷ ms)
  Known u (match m b) = Resolving cs g₀ u m b
  Known u (done s ls) = Reached cs g₀ u s [] ls

  -- It follows the steps.
  pub known_follows : (u : ℕ) (c : Configuration) → Known u c → FollowsSteps cs g₀ c
  unfolding Known FollowsSteps
  known_follows u (take s q b) h = h.follows
  known_follows u (try s a m ms k b) h = h.0.follows
  known_follows u (match m b) h = (h.way, h.reached.follows)
  known_follows u (done s ls) h = h.follows

  -- It stays known while the configuration waits.
  pub known_more : (u : ℕ) (c : Configuration) → Known u c → Known (suc u) c
  unfolding Known
  known_more u (take s q b) h = reached_more h
  known_more u (try s a m ms k b) h = (reached_more h.0, h.1)
  known_more u (match m b) h = record { way = h.way; reached = reached_more h.reached }
  known_more u (done s ls) h = reached_more h

  -- Taking a goal: the cases of definition 6 but (vi) and (vii)

  -- The goals that wait come next.
  proceed_known : (u : ℕ) (s : Store) (gs : List (Sequent Leaf)) (ls : List (Line Leaf)) → Reached cs g₀ u s (map paper_of gs) ls
      → All (Known u) (proceed s gs ls)
  unfolding proceed Known
  proceed_known u s [] ls r = (r, tt)
  proceed_known u s (q ∷ gs) ls r = (r, tt)

  -- The members that are left come next, at their places.
  try_from_known : (u : ℕ) (s : Store) (a : Atom) (ms : List (Entry Leaf)) (k : ℕ) (b : Branch)
      → Reached cs g₀ u s (atom_sequent a ∷ map paper_of b.goals) b.path
      → Placed 1 (entries a.program) k ms → All (Known u) (try_from s a ms k b)
  unfolding try_from Known
  try_from_known u s a [] k b r p = tt
  try_from_known u s a (m ∷ ms) k b r p = ((r, p), tt)

  -- Each goal by its case; an atom waits for (vi) and (vii).
  take_goal_known : (u : ℕ) (s : Store) (g : Goal) (e : Environment Leaf) (P : Program Leaf) (i : ℕ) (b : Branch) → Formed s
      → Reached cs g₀ u s (map paper_of (sequent g e P i ∷ b.goals)) b.path → All (Known (suc u)) (take_goal u s g e P i b)
  unfolding take_goal Known paper_of formulas_of formula_g apply_g By
  take_goal_known u s (atom p ts) e P i b f r =
      try_from_known (suc u) s (record { predicate = p; arguments = substitutes ts e; program = P; level = i }) (entries P) 1 b
      (subst (λ us. Reached cs g₀ (suc u) s (paper_sequent (g_atom p us) (formulas_of P) i ∷ map paper_of b.goals) b.path)
      (sym (substitutes_substitutes ts e embed)) (reached_more r)) (placed_all 1 (entries P))
  take_goal_known u s truth e P i b f r = proceed_known (suc u) s b.goals (plain Dtrue ∷ b.path) (reached_goals r (refl, refl))
  take_goal_known u s (and g h) e P i b f r = (reached_goals r (refl, refl), tt)
  take_goal_known u s (or g h) e P i b f r = (reached_goals r (inl (refl, refl)), (reached_goals r (inr (refl, refl)), tt))
  take_goal_known u s (implies c g) e P i b f r =
      let goals = ap (λ (Q : Rules D). only_goals r.follows.state (paper_sequent (apply_g (formula_g g (names e)) (solution s)) Q i
      ∷ map (apply_sequent (solution s)) (map paper_of b.goals))) (formulas_assume c e P (solution s)) in
      (reached_goals r (refl, goals), tt)
  take_goal_known u s (exists v g) e P i b f r = (exists_reached v g e P i f r, tt)
  take_goal_known u s (forall v g) e P i b f r = (forall_reached v g e P i r, tt)

  -- Trying a member, and matching

  -- Where all pairs are matched, the case has been applied.
  settle_known : (u : ℕ) (m : Matching) (b : Branch) → Resolving cs g₀ u m b → All (Known u) (settle m b)
  unfolding settle Known
  settle_known u (pairs s []) b h = proceed_known u s b.goals b.path (resolved h)
  settle_known u (pairs s (p ∷ ps)) b h = (h, tt)
  settle_known u (check s y t n ns ps) b h = (h, tt)
  settle_known u fail b h = tt

  -- A match begins.
  try_known : (u : ℕ) (s : Store) (a : Atom) (m : Entry Leaf) (ms : List (Entry Leaf)) (k : ℕ) (b : Branch)
      → Good (TryBelow a (m ∷ ms) b.goals) s
      → Reached cs g₀ u s (atom_sequent a ∷ map paper_of b.goals) b.path → StandsAt 1 (entries a.program) k m
      → All (Known u) (settle (match_steps 1 (pairs (tried_store s a m) (tried_atoms s a m))) (tried_branch s a m k b))
  try_known u s a m ms k b o r p =
      settle_known u (match_steps 1 (pairs (tried_store s a m) (tried_atoms s a m))) (tried_branch s a m k b) (record {
        way = record {
          store = s;
          atom = a;
          member = m;
          k = k;
          before = b;
          acts = 0;
          trying = trying s a m ms k b.goals o p;
          comes = refl;
          branch = refl;
        };
        reached = r;
      })

  -- An act of matching belongs to the same try.
  way_on : {m : Matching} {b : Branch} → MatchUnderWay m b → MatchUnderWay (match_step m) b
  unfolding match_steps
  way_on w = record {
    store = w.store;
    atom = w.atom;
    member = w.member;
    k = w.k;
    before = w.before;
    acts = suc w.acts;
    trying = w.trying;
    comes = ap match_step w.comes;
    branch = w.branch;
  }

  -- An act leads on by definition 6.
  pub step_known : (u : ℕ) (c : Configuration) → Invariant c → Known u c → All (Known (suc u)) (step u c)
  unfolding Known Invariant way_on
  step_known u (take s q b) o h =
      unfold step in take_goal_known u s q.goal q.environment q.program q.level b o.formed h
  step_known u (try s a m ms k b) o h =
      subst (All (Known (suc u))) (sym (try_step u s a m ms k b))
      (all_append (Known (suc u)) (settle (match_steps 1 (pairs (tried_store s a m) (tried_atoms s a m))) (tried_branch s a m k b))
      (try_from s a ms (suc k) b)
      (try_known (suc u) s a m ms k b o (reached_more h.0) h.1.0)
      (try_from_known (suc u) s a ms (suc k) b (reached_more h.0) h.1.1))
  step_known u (match m b) o h =
      unfold step in settle_known (suc u) (match_step m) b (record { way = way_on h.way; reached = reached_more h.reached })
  step_known u (done s ls) o h = unfold step in (reached_more h, tt)

  -- So every match is one of T3's.
  pub known_formed : (u : ℕ) (c : Configuration) → Invariant c → Known u c → WellFormed c
  unfolding Known Invariant WellFormed
  known_formed u (take s q b) o h = o.formed
  known_formed u (try s a m ms k b) o h = trying s a m ms k b.goals o h.1.0
  known_formed u (match m b) o h = h.way
  known_formed u (done s ls) o h = o

  -- The start is definition 8's first state.
  pub start_known : All (Known 0) (start cs g₀)
  unfolding start start_store start_goal instance_of Known initial identity composition solution solved bound_to free_variables paper_of
  start_known = (
    record {
      follows = record {
        state = initial cs g₀;
        sequence = DerivationSequence.start;
        goals = ap (◌∷ []) (sym (sequent_identity (start_goal cs g₀)));
        labels = λ x u. refl;
        answer = λ x. refl;
      };
      constants = tt;
      variables = free_from_below 8 0 8 g₀ (omega arith);
    },
    tt,
  )
