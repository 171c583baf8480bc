-- The machine where a proof is found: all that the writer may rely on.
use Prim.Native.Nat.{ℕ, ◌*◌, ◌≤◌}
use native.Mathlib.Omega.{arith}
use mathlib.Core.Path.{◌≡◌, ◌∙◌, subst}
use mathlib.Core.List.{List}
use lib.ListN.{length}
use Rattle.sequents.specs.Sequents.{Line}
use Rattle.unification.specs.Store.{Leaf, Store}
use Rattle.unification.specs.Promises.{Formed}
use Rattle.search.specs.Configurations.{Configuration, done}
use Rattle.search.specs.Search.{start, SearchOutcome, ends, spent, proved, no_proof, search}
use Rattle.search.proofs.Invariant.{Invariant}
use Rattle.enumeration.specs.Enumeration.{Proof, Next, finds, none_left, runs_out, next_proof}
use Rattle.enumeration.proofs.Outcomes.{outcome_of, next_outcome}
use Rattle.sheet_format.specs.Limits.{max_budget, numbers_per_unit}
use Rattle.formulas.specs.Rules.{rules}
use Rattle.node_table.specs.Decoding.{clauses_from, goal_at, order_of}
use Rattle.machine.specs.Records.{Made}
use Rattle.machine.specs.Machine.{start_memory, start_registers, run_machine}
use Rattle.machine.proofs.Tables.{Table}
use Rattle.machine.proofs.ChoicePoints.{StateAt}
use Rattle.machine.proofs.Lengths.{keeps_length}
use Rattle.machine.proofs.Simulation.{start_length, FoundAt, ToldNext, told}

-- The record says that n acts were done, s is the final store and ls is the path, latest line first.
pub record ProvedAt (T : Table) (m : Made) (s : Store) (ls : List (Line Leaf)) (n : ℕ) : Type 0 where
  pub alternatives : List Configuration
  pub state : StateAt T n m.memory m.registers (done s ls) alternatives
  pub acts : m.registers.acts ≡ n
  pub first : 1 ≤ n
  pub few : n ≤ max_budget
  pub room : numbers_per_unit * n ≤ length m.memory
  pub formed : Formed s

-- Every proof that is found is such a state.
pub found_proved : (T : Table) (m : Made) (all left : ℕ) (p : Proof) (ds : List Configuration) → all ≤ max_budget
    → numbers_per_unit * all ≤ length m.memory → FoundAt T m all left p ds → ProvedAt T m p.store p.path p.units
unfolding Invariant
found_proved T m all left p ds b l h =
    let k = h.units in
    record {
      alternatives = ds;
      state = h.state;
      acts = h.acts;
      first = h.first;
      few = omega arith;
      room = omega arith;
      formed = h.invariant.0;
    }

-- The state, where the outcome is proved.
unfoldable ProvedIf : Table → Made → SearchOutcome → Type 0
ProvedIf T m (ends (proved s ls) n) = ProvedAt T m s ls n
ProvedIf T m (ends no_proof n) = Unit {0}
ProvedIf T m spent = Unit {0}

next_proved : (T : Table) (m : Made) (all : ℕ) (x : Next) → all ≤ max_budget → numbers_per_unit * all ≤ length m.memory
    → ToldNext T m all x → ProvedIf T m (outcome_of x)
unfolding ProvedIf ToldNext outcome_of
next_proved T m all (finds left p ds) b l h = found_proved T m all left p ds b l h
next_proved T m all (none_left n) b l h = tt
next_proved T m all runs_out b l h = tt

-- Every proved search ends in such a state.
pub proved_at : (T : Table) (budget : ℕ) → budget ≤ max_budget → (w : List ℕ) → numbers_per_unit * budget ≤ length w
    → (s : Store) (ls : List (Line Leaf)) (n : ℕ)
    → search budget (rules (order_of T.numbers) (clauses_from T.numbers T.clauses 0)) (goal_at T.numbers T.goal)
    ≡ ends (proved s ls) n
    → ProvedAt T (run_machine budget T.numbers T.clauses T.goal w) s ls n
unfolding run_machine search ProvedIf
proved_at T budget b w l s ls n e =
    let cs = rules (order_of T.numbers) (clauses_from T.numbers T.clauses 0) in
    let g = goal_at T.numbers T.goal in
    let m = run_machine budget T.numbers T.clauses T.goal w in
    let z = keeps_length budget T.numbers T.clauses (start_memory w) (start_registers T.goal) ∙ start_length w in
    subst (ProvedIf T m) (next_outcome budget 0 (start cs g) ∙ e)
    (next_proved T m budget (next_proof budget 0 (start cs g)) b (omega arith) (told T budget b w l))
