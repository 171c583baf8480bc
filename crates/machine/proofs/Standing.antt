-- What the relations of memory and registers to the search say, as `specs/Simulation.antt` states it.
use Prim.Native.Nat.{ℕ, ◌-◌, ◌≤◌}
use native.Mathlib.Omega.{arith}
use mathlib.Core.Bool.{Bool, true, false, cond}
use mathlib.Core.Path.{◌≡◌, refl, sym, subst}
use mathlib.Core.List.{List, [], ◌∷◌}
use lib.Dec.{eqb}
use Rattle.terms.specs.Terms.{leaf}
use Rattle.sequents.specs.Sequents.{Line}
use Rattle.unification.specs.Store.{Leaf, var, Store}
use Rattle.unification.specs.Matching.{pairs, check, fail}
use Rattle.search.specs.Configurations.{Branch, branch, Configuration, take, try, match, done}
use Rattle.sheet_format.specs.Limits.{max_budget}
use Rattle.machine.specs.declared.Registers.{Registers}
use Rattle.machine.specs.Records.{made, no_mode}
use Rattle.machine.specs.RegisterUpdates.{with_mode, with_next, with_trail, with_choice, with_goals, with_path, with_goal, with_member}
use Rattle.machine.specs.ChoicePoints.{resume_goal, resume_member, resume_branch, resume, backtrack, failed}
use Rattle.machine.specs.ReadingStates.{open_goals, goal_due}
use Rattle.machine.specs.Simulation.{StandsAt, StandsAtBranch, StandsAtConfiguration, Stands}
use Rattle.machine.proofs.Tables.{Table}
use Rattle.machine.proofs.Terms.{word_variable, word_term}
use Rattle.machine.proofs.Stores.{store_bindings}
use Rattle.machine.proofs.Branches.{PathAt, path_read, GoalsAt, goals_le, BranchAt}
use Rattle.machine.proofs.Configurations.{store_of, CompareAt, ConfigurationAt}
use Rattle.machine.proofs.ChoicePoints.{SharedAt, StateAt, ResultAt, failed_result}
use Rattle.machine.proofs.ReadingStates.{sequent_read, goals_read, atom_read, position_read, pairs_read, due_pair_read, due_read}

-- Failure is no act.
pub failed_acts : (w : List ℕ) (r : Registers) → (failed w r).registers.acts ≡ r.acts
unfolding failed backtrack resume resume_member resume_goal resume_branch with_mode with_next with_trail with_choice with_goals with_path with_goal
    with_member
failed_acts w r = go (eqb r.choice 0)
  where
    go : (b : Bool) → (cond b (made w (with_mode r no_mode)) (backtrack w r (r.choice - 1))).registers.acts ≡ r.acts
    go true = refl
    go false = refl

module _ (T : Table) where
  -- The table.
  abbrev t : List ℕ
  t = T.numbers

  -- The mode, the store and the path.
  pub stands_at : (w : List ℕ) (r : Registers) (s : Store) (ds : List Configuration) (ls : List (Line Leaf)) (k : ℕ) → r.mode ≡ k
      → SharedAt T r.acts w r.next r.trail r.choice s ds → PathAt r.acts s.next ls w r.path r.line
      → StandsAt T.numbers (made w r) k s ls
  stands_at w r s ds ls k e sh p = record {
    mode = e;
    store = record { next = sh.next; bindings = store_bindings T r.acts w s sh.store; levels = sh.store.levels };
    path = path_read r.acts r.acts s.next ls w r.path r.line (omega arith) p;
  }

  -- The open goals with them.
  stands_at_branch : (w : List ℕ) (r : Registers) (s : Store) (ds : List Configuration) (b : Branch) (k : ℕ) → r.mode ≡ k
      → SharedAt T r.acts w r.next r.trail r.choice s ds → BranchAt T r.acts s.next w r.goals r.path r.line b
      → StandsAtBranch T.numbers T.clauses (made w r) k s b
  unfolding open_goals
  stands_at_branch w r s ds b k e sh p = record {
    at = stands_at w r s ds b.path k e sh p.taken;
    goals = goals_read T r.acts b.goals w r r.goals (goals_le T r.acts b.goals w r.goals p.waiting) p.waiting;
  }

  -- The configuration acted upon.
  stands_at_configuration : (w : List ℕ) (r : Registers) (x : Configuration) (ds : List Configuration) → r.acts ≤ max_budget
      → StateAt T r.acts w r x ds → StandsAtConfiguration T.numbers T.clauses (made w r) x
  unfolding StandsAtConfiguration ConfigurationAt CompareAt store_of goal_due GoalsAt
  stands_at_configuration w r (take s g b) ds few h = (
    stands_at_branch w r s ds b 0 h.front.0 h.shared h.front.2,
    sequent_read T w r r.node r.frame r.program r.level g h.front.1,
  )
  stands_at_configuration w r (try s a e es k b) ds few h = (
    stands_at_branch w r s ds b 1 h.front.mode h.shared h.front.branch,
    atom_read T s.next w r a h.front.atom,
    position_read T w r (e ∷ es) h.front.position,
    h.front.place,
  )
  stands_at_configuration w r (match (pairs s []) b) ds few h = absurd h.front
  stands_at_configuration w r (match (pairs s (p ∷ ps)) b) ds few h = (
    stands_at_branch w r s ds b 2 h.front.mode h.shared h.front.branch,
    due_pair_read T s.next p ps w r b few h.front,
  )
  stands_at_configuration w r (match (check s y v n ns ps) b) ds few h =
      let z = due_read T s.next n ns w r few h.front.nodes in (
        stands_at_branch w r s ds b 3 h.front.mode h.shared h.front.branch,
        record {
          variable = word_term T r.acts s.next w {s = leaf (var y)} (word_variable h.front.variable);
          value = word_term T r.acts s.next w h.front.value;
          node = z.0;
          nodes = z.1;
          pairs = pairs_read T s.next ps w r few h.front.pairs;
        },
      )
  stands_at_configuration w r (match fail b) ds few h = h.front
  stands_at_configuration w r (done s ls) ds few h =
      stands_at_branch w r s ds (branch [] ls) 4 h.front.0 h.shared
      (record { waiting = rw h.front.2 tt; taken = h.front.1 })

  -- The whole state: each alternative is what failing there comes to.
  pub stands : (ds : List Configuration) (w : List ℕ) (r : Registers) → r.acts ≤ max_budget → ResultAt T r.acts (made w r) ds
      → Stands T.numbers T.clauses (made w r) ds
  unfolding Stands ResultAt
  stands [] w r few h = h
  stands (x ∷ ds) w r few h =
      let e = failed_acts w r in (
        stands_at_configuration w r x ds few h,
        stands ds (failed w r).memory (failed w r).registers (omega arith)
            (subst (λ (n : ℕ). ResultAt T n (failed w r) ds) (sym e)
            (failed_result T r.acts (store_of x).next w r ds h.shared.trail h.shared.alternatives)),
      )
