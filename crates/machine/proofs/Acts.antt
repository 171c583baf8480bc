-- One act of the machine is one step of the search.
use Prim.Native.Nat.{ℕ, suc, ◌*◌, ◌≤◌, ◌<◌}
use native.Mathlib.Omega.{arith}
use mathlib.Core.Path.{◌≡◌, refl}
use mathlib.Core.List.{List, [], ◌∷◌, ◌++◌}
use lib.ListN.{length}
use borrow.Author.Tests.{eq-eqb, ne_eqb}
use Rattle.sequents.specs.Sequents.{Sequent}
use Rattle.unification.specs.Store.{Leaf, Store}
use Rattle.unification.specs.Matching.{pairs, check, fail}
use Rattle.unification.specs.Promises.{Formed}
use Rattle.search.specs.Configurations.{Branch, Configuration, take, try, match, done}
use Rattle.search.specs.Steps as level1
use Rattle.search.proofs.Invariant.{EnvironmentBelow, Invariant}
use Rattle.sheet_format.specs.Limits.{max_budget, numbers_per_unit}
use Rattle.node_table.specs.Layout.{kind_of}
use Rattle.node_table.proofs.Decoding.{GoalKind, atom_kind_lem, true_kind_lem, and_kind_lem, or_kind_lem, implies_kind_lem, exists_kind_lem, forall_kind_lem, goal_kind}
use Rattle.machine.specs.declared.Registers.{Registers}
use Rattle.machine.specs.Records.{Made, made, proved_mode, take_mode, try_mode, compare_mode}
use Rattle.machine.specs.RegisterUpdates.{with_acts}
use Rattle.machine.specs.Words.{increment}
use Rattle.machine.specs.Goals.{take_goal}
use Rattle.machine.specs.Machine.{due_act, act}
use Rattle.machine.proofs.Tables.{Table}
use Rattle.machine.proofs.Configurations.{store_of, position_same, CompareAt, ConfigurationAt}
use Rattle.machine.proofs.ChoicePoints.{StateAt, ResultAt}
use Rattle.machine.proofs.MatchActs.{compare_act, check_act}
use Rattle.machine.proofs.GoalActs.{take_true_lem, take_and_lem, take_or_lem, take_implies_lem, take_exists_lem, take_forall_lem}
use Rattle.machine.proofs.BackchainingActs.{try_act, take_atom_lem}

module _ (T : Table) where
  -- Counting the act changes nothing else.
  configuration_counted : (n : ℕ) (w : List ℕ) (r : Registers) (x : ℕ) (c : Configuration) → ConfigurationAt T n w r c
      → ConfigurationAt T n w (with_acts r x) c
  unfolding ConfigurationAt CompareAt with_acts
  configuration_counted n w r x (take s g b) h = h
  configuration_counted n w r x (try s a m ms k b) h =
      record {
        mode = h.mode;
        atom = h.atom;
        position = position_same T n w r (with_acts r x) (m ∷ ms) refl refl refl refl h.position;
        place = h.place;
        first = h.first;
        low = h.low;
        branch = h.branch;
      }
  configuration_counted n w r x (match (pairs s []) b) h = h
  configuration_counted n w r x (match (pairs s (p ∷ ps)) b) h =
      record { mode = h.mode; stood = h.stood; waits = h.waits; sides = h.sides; branch = h.branch }
  configuration_counted n w r x (match (check s y t z ns ps) b) h =
      record { mode = h.mode; variable = h.variable; value = h.value; nodes = h.nodes; pairs = h.pairs; branch = h.branch }
  configuration_counted n w r x (match fail b) h = h
  configuration_counted n w r x (done s ls) h = h

  -- Counting the act changes nothing else in the whole result.
  result_counted : (n : ℕ) (m : Made) (x : ℕ) (ds : List Configuration) → ResultAt T n m ds
      → ResultAt T n (made m.memory (with_acts m.registers x)) ds
  unfolding ResultAt with_acts
  result_counted n m x [] h = h
  result_counted n m x (c ∷ ds) h = record { front = configuration_counted n m.memory m.registers x c h.front; shared = h.shared }

  -- An act is due, unless the search has come to its end.
  pub mode_due : (n : ℕ) (w : List ℕ) (r : Registers) (c : Configuration) → ConfigurationAt T n w r c → (r.mode ≡ proved_mode → ⊥)
      → r.mode < 4
  unfolding ConfigurationAt CompareAt
  mode_due n w r (take s g b) h d = let e = h.0 in omega arith
  mode_due n w r (try s a m ms k b) h d = let e = h.mode in omega arith
  mode_due n w r (match (pairs s []) b) h d = absurd h
  mode_due n w r (match (pairs s (p ∷ ps)) b) h d = let e = h.mode in omega arith
  mode_due n w r (match (check s y t z ns ps) b) h d = let e = h.mode in omega arith
  mode_due n w r (match fail b) h d = absurd h
  mode_due n w r (done s ls) h d = absurd (d h.0)

  module _ (w : List ℕ) (r : Registers) (ds : List Configuration) (room : numbers_per_unit * suc r.acts ≤ length w)
      (small : r.acts < max_budget) where
    -- Taking a goal, by its kind.
    take_act : (s : Store) (g : Sequent Leaf) (b : Branch) → Formed s → EnvironmentBelow s.next g.environment
        → StateAt T r.acts w r (take s g b) ds
        → ResultAt T (suc r.acts) (take_goal T.numbers T.clauses w r)
        (level1.take_goal r.acts s g.goal g.environment g.program g.level b ++ ds)
    unfolding take_goal ConfigurationAt store_of
    take_act s g b fm bl st =
        let f = st.front in
        let n = T.made.goal_node r.node f.1.node.0 f.1.node.1 in
        go (goal_kind (kind_of T.numbers r.node) n.least n.most)
      where
        go : GoalKind (kind_of T.numbers r.node)
            → ResultAt T (suc r.acts) (take_goal T.numbers T.clauses w r)
            (level1.take_goal r.acts s g.goal g.environment g.program g.level b ++ ds)
        go (atom_kind_lem k) = rw k (take_atom_lem T w r b ds room small s g k st.front.1 bl st.front.2 st.shared)
        go (true_kind_lem k) = rw k (take_true_lem T w r s g b ds room small st.front.1 st.front.2 st.shared k)
        go (and_kind_lem k) = rw k (take_and_lem T w r s g b ds room small st.front.1 st.front.2 st.shared k)
        go (or_kind_lem k) = rw k (take_or_lem T w r s g b ds room small st.front.1 st.front.2 st.shared k)
        go (implies_kind_lem k) = rw k (take_implies_lem T w r s g b ds room small st.front.1 st.front.2 st.shared k)
        go (exists_kind_lem k) = rw k (take_exists_lem T w r s g b ds room small st.front.1 st.front.2 st.shared fm k)
        go (forall_kind_lem k) = rw k (take_forall_lem T w r s g b ds room small st.front.1 st.front.2 st.shared k)

    -- The act that is due, by the configuration.
    due_act_lem : (c : Configuration) → Invariant c → (r.mode ≡ proved_mode → ⊥) → StateAt T r.acts w r c ds
        → ResultAt T (suc r.acts) (due_act T.numbers T.clauses w r) (level1.step r.acts c ++ ds)
    unfolding due_act level1.step Invariant ConfigurationAt CompareAt
    due_act_lem (take s g b) i d st = rw (eq-eqb r.mode take_mode st.front.0) (take_act s g b i.formed i.extra.0.0 st)
    due_act_lem (try s a m ms k b) i d st =
        let e = st.front.mode in
        rw (ne_eqb r.mode take_mode (λ z. omega arith), eq-eqb r.mode try_mode e)
        (try_act T w r b ds room small s a m ms k i.formed i.extra.members.0 st)
    due_act_lem (match (pairs s []) b) i d st = absurd st.front
    due_act_lem (match (pairs s (p ∷ ps)) b) i d st =
        let e = st.front.mode in
        rw (ne_eqb r.mode take_mode (λ z. omega arith), ne_eqb r.mode try_mode (λ z. omega arith), eq-eqb r.mode compare_mode e)
        (compare_act T w r b ds room small s p ps i st)
    due_act_lem (match (check s y t z ns ps) b) i d st =
        let e = st.front.mode in
        rw (
          ne_eqb r.mode take_mode (λ z. omega arith),
          ne_eqb r.mode try_mode (λ z. omega arith),
          ne_eqb r.mode compare_mode (λ z. omega arith),
        ) (check_act T w r b ds room small s y t z ns ps i st)
    due_act_lem (match fail b) i d st = absurd st.front
    due_act_lem (done s ls) i d st = absurd (d st.front.0)

    -- One act, counted.
    pub act_result : (c : Configuration) → Invariant c → (r.mode ≡ proved_mode → ⊥) → StateAt T r.acts w r c ds
        → ResultAt T (suc r.acts) (act T.numbers T.clauses w r) (level1.step r.acts c ++ ds)
    unfolding act
    act_result c i d st =
        result_counted (suc r.acts) (due_act T.numbers T.clauses w r) (increment r.acts) (level1.step r.acts c ++ ds)
        (due_act_lem c i d st)
