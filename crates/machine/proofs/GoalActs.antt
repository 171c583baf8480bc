-- Taking a goal that is no atom is level 1's `take_goal`.
use Prim.Native.Nat.{ℕ, suc, ◌+◌, ◌*◌, ◌%◌, ◌≤◌, ◌<◌}
use native.Mathlib.Omega.{arith}
use mathlib.Core.Path.{◌≡◌, refl, sym, ap, ◌∙◌, subst}
use mathlib.Core.List.{List, [], ◌∷◌, ◌++◌}
use mathlib.Core.Logic.{◌⊎◌, inl, inr}
use lib.ListN.{length, get_or}
use Rattle.terms.specs.Lists.{update}
use Rattle.terms.specs.Terms.{leaf}
use Rattle.formulas.specs.Formulas.{Clause}
use Rattle.formulas.specs.Rules.{assume}
use Rattle.sequents.specs.Sequents.{Environment, hypothesis, Sequent, sequent, Line, plain, Dtrue, Dand, Dleft, Dright, Dassume}
use Rattle.sequents.specs.Sequents.{Dsome, Dall, assign}
use Rattle.unification.specs.Store.{Leaf, var, con, Store, fresh, past, fresh_levels, fresh_variables}
use Rattle.unification.specs.Promises.{Formed}
use Rattle.search.specs.Configurations.{Branch, branch, Configuration, take}
use Rattle.search.specs.Steps as level1
use Rattle.sheet_format.specs.Limits.{max_budget, numbers_per_unit, variable_names}
use Rattle.node_table.specs.Layout.{kind_of, label_of, child_of, forall_kind, exists_kind, or_kind, implies_kind, and_kind, true_kind}
use Rattle.node_table.specs.Decoding.{goal_at, clause_at_node}
use Rattle.node_table.specs.WellMade.{IsGoal, GoalNode}
use Rattle.node_table.proofs.Decoding.{goal_true, goal_and, goal_or_lem, goal_implies, goal_exists, goal_forall}
use Rattle.machine.specs.declared.Registers.{Registers}
use Rattle.machine.specs.Fields as fields
use Rattle.machine.specs.Records.{made, put_goal, put_assumption, put_path, all_line, some_line, left_line, right_line, assume_line, and_line}
use Rattle.machine.specs.Records.{true_line}
use Rattle.machine.specs.RegisterUpdates.{with_mode, with_next, with_trail, with_choice, with_goals, with_path, with_goal, with_member}
use Rattle.machine.specs.Words.{slot_of, environment_at}
use Rattle.machine.specs.Frames.{copy_frame, put_fresh}
use Rattle.machine.specs.Reading.{line_at}
use Rattle.machine.specs.Goals.{proceed, take_true, take_and, right_branch, take_or, take_implies, take_exists, put_constant, take_forall}
use Rattle.machine.specs.ChoicePoints.{save_choice}
use Rattle.machine.specs.AssumptionChains.{put_chain}
use Rattle.machine.proofs.Words.{increment_small, constant_small}
use Rattle.machine.proofs.MemoryOrder.{Extends, Grow, extends_22, grow_trans, grow_put, grow_puts}
use Rattle.machine.proofs.Tables.{Table, nodes_are}
use Rattle.machine.proofs.LinkedChains.{grow_chain, chain_other}
use Rattle.machine.proofs.Terms.{FrameAt, constant_at, constant_leaf}
use Rattle.machine.proofs.Stores.{store_up, store_grow}
use Rattle.machine.proofs.Branches.{LineBelow, PathAt, path_extends, path_wider, GoalOf, ClauseOf, ProgramAt, program_le}
use Rattle.machine.proofs.Branches.{program_assumed}
use Rattle.machine.proofs.Branches.{SequentAt, sequent_extends, sequent_up, GoalsAt, goals_extends, goals_up, goals_le, BranchAt}
use Rattle.machine.proofs.Configurations.{store_of, ConfigurationAt}
use Rattle.machine.proofs.ChoicePoints.{bounded_next, alternatives_wider, SharedAt, shared_grow, ResultAt}
use Rattle.machine.proofs.AfterAct.{proceed_result}
use Rattle.machine.proofs.SavedChoices.{saved, save_is, saved_length, resumed, SavedAt, choice_opened}
use Rattle.machine.proofs.Frames.{SameFrames, same_trans, same_puts, FrameMade, copy_grow, copy_at, copy_made, made_held, slot_made}
use Rattle.machine.proofs.Frames.{made_same, FreshMade, fresh_made}
use Rattle.memory.proofs.Records.{field_same, field_other, puts, puts_at, puts_out, length_puts}
use Rattle.memory.specs.Records.{field, put_field}
use Rattle.clause_members.proofs.Prefixes.{names_of}

-- A line in front of the path.
pub path_pushed : (u v : ℕ) (w w' : List ℕ) (p l k : ℕ) (x : Line Leaf) (ls : List (Line Leaf)) → Extends fields.constant_level u w w'
    → field w' u fields.path_before ≡ p → field w' u fields.path_line ≡ l → line_at w' u k ≡ x → LineBelow v w' u k → PathAt u v ls w p l
    → PathAt (suc u) v (x ∷ ls) w' (suc u) k
unfolding PathAt
path_pushed u v w w' p l k x ls h e₀ e₁ i b c = (omega arith, i, b, rw (e₀, e₁) (path_extends u v ls w w' p l h c))

-- A line that has no variable.
line_plain : (v : ℕ) (w : List ℕ) (r k : ℕ) → k ≤ 6 → (k ≡ 5 → ⊥) → LineBelow v w r k
line_plain v w r k h d = record { kind = omega arith; some = λ q. absurd (d q); clause = λ q. absurd (omega arith) }

-- Two groups of fields of one record: l₁ from f₁ on, then l₂ from f₂ on, beside it.
pub first_at : (w : List ℕ) (u : ℕ) (l₁ : List ℕ) (f₁ : ℕ) (l₂ : List ℕ) (f₂ i : ℕ) → f₁ + length l₁ ≤ 64 → f₂ + length l₂ ≤ 64
    → numbers_per_unit * suc u ≤ length w → (f₁ + length l₁ ≤ f₂ ⊎ f₂ + length l₂ ≤ f₁) → i < length l₁
    → field (puts l₂ (puts l₁ w u f₁) u f₂) u (f₁ + i) ≡ get_or l₁ i 0
first_at w u l₁ f₁ l₂ f₂ i b₁ b₂ room (inl d) h =
    puts_out l₂ (puts l₁ w u f₁) u f₂ u (f₁ + i) b₂ (omega arith) (inl (omega arith)) ∙ puts_at l₁ w u f₁ i b₁ (omega arith) h
first_at w u l₁ f₁ l₂ f₂ i b₁ b₂ room (inr d) h =
    puts_out l₂ (puts l₁ w u f₁) u f₂ u (f₁ + i) b₂ (omega arith) (inr (omega arith)) ∙ puts_at l₁ w u f₁ i b₁ (omega arith) h

-- The second group.
pub second_at : (w : List ℕ) (u : ℕ) (l₁ : List ℕ) (f₁ : ℕ) (l₂ : List ℕ) (f₂ i : ℕ) → f₂ + length l₂ ≤ 64
    → numbers_per_unit * suc u ≤ length w → i < length l₂ → field (puts l₂ (puts l₁ w u f₁) u f₂) u (f₂ + i) ≡ get_or l₂ i 0
second_at w u l₁ f₁ l₂ f₂ i b₂ room h = puts_at l₂ (puts l₁ w u f₁) u f₂ i b₂ (let e = length_puts l₁ w u f₁ in omega arith) h

-- Older records stay.
pub two_grow : (w : List ℕ) (u k : ℕ) (l₁ : List ℕ) (f₁ : ℕ) (l₂ : List ℕ) (f₂ : ℕ) → 18 ≤ f₁ → 18 ≤ f₂ → f₁ + length l₁ ≤ 64
    → f₂ + length l₂ ≤ 64 → Grow u k w (puts l₂ (puts l₁ w u f₁) u f₂)
two_grow w u k l₁ f₁ l₂ f₂ a b b₁ b₂ =
    grow_trans u k w (puts l₁ w u f₁) (puts l₂ (puts l₁ w u f₁) u f₂) (grow_puts l₁ w u k u f₁ (omega arith) a b₁)
    (grow_puts l₂ (puts l₁ w u f₁) u k u f₂ (omega arith) b b₂)

module _ (T : Table) (w : List ℕ) (r : Registers) (s : Store) (g : Sequent Leaf) (b : Branch) (ds : List Configuration)
    (room : numbers_per_unit * suc r.acts ≤ length w) (small : r.acts < max_budget)
    (goal : SequentAt T r.acts w r.node r.frame r.program r.level g)
    (branch₀ : BranchAt T r.acts s.next w r.goals r.path r.line b)
    (shared : SharedAt T r.acts w r.next r.trail r.choice s ds) where
  -- The act's number.
  abbrev u : ℕ
  u = r.acts

  -- The table.
  abbrev t : List ℕ
  t = T.numbers

  -- The goal's environment, program and level, one act later; another node in its place.
  pub goal_later : (w' : List ℕ) (a : ℕ) → Extends fields.constant_level r.acts w w' → GoalOf T a
      → SequentAt T (suc r.acts) w' a r.frame r.program r.level
      (sequent (goal_at T.numbers a) g.environment g.program g.level)
  goal_later w' a h n =
      let c = sequent_up T u w' r.node r.frame r.program r.level g
      (sequent_extends T u w w' r.node r.frame r.program r.level g h goal) in
      record { node = n; goal = refl; frame = c.frame; environment = c.environment; program = c.program; level = c.level; low = c.low }

  -- The goals that wait.
  pub waiting_later : (w' : List ℕ) → Extends fields.constant_level r.acts w w' → GoalsAt T (suc r.acts) b.goals w' r.goals
  waiting_later w' h = goals_up T u b.goals w' r.goals (goals_extends T u b.goals w w' r.goals h branch₀.waiting)

  -- A child that is a goal is a node of a goal in the table.
  pub goal_child : (j : ℕ) → (child_of T.numbers r.node j < r.node) → IsGoal T.numbers (child_of T.numbers r.node j)
      → GoalOf T (child_of T.numbers r.node j)
  goal_child j l i = let n = goal.node.0 in (omega arith, i)

  -- What its node satisfies.
  goal_node_lem : GoalNode T.numbers r.node
  goal_node_lem = T.made.goal_node r.node goal.node.0 goal.node.1

  -- At Y, the path gets a line and the next goal is due.
  true_held : (w' : List ℕ) → w' ≡ puts (r.path ∷ r.line ∷ []) w r.acts fields.path_before
      → ResultAt T (suc r.acts) (made w' (proceed w' (with_path r (suc r.acts) true_line)))
      (level1.proceed s b.goals (plain Dtrue ∷ b.path) ++ ds)
  unfolding with_path line_at
  true_held w' z =
      let l₁ : List ℕ = r.path ∷ r.line ∷ [] in
      let gr : Grow u s.next w w' = rw z (grow_puts l₁ w u s.next u fields.path_before (omega arith) (omega arith) (omega arith)) in
      let h = extends_22 u w w' gr.extends in
      let e : (i : ℕ) → i < 2 → field w' u (fields.path_before + i) ≡ get_or l₁ i 0 =
      λ i k. rw z (puts_at l₁ w u fields.path_before i (omega arith) (omega arith) k) in
      proceed_result T (suc u) w' (with_path r (suc u) true_line) s (branch b.goals (plain Dtrue ∷ b.path)) ds
      (record {
        waiting = waiting_later w' h;
        taken = path_pushed u s.next w w' r.path r.line 0 (plain Dtrue) b.path h
            (e 0 (omega arith)) (e 1 (omega arith)) refl (line_plain s.next w' u 0 (omega arith) (λ q. omega arith)) branch₀.taken;
      })
      (shared_grow T u w w' r.next r.trail r.choice s ds gr shared)

  -- Taking Y.
  pub take_true_lem : kind_of T.numbers r.node ≡ true_kind
      → ResultAt T (suc r.acts) (take_true w r) (level1.take_goal r.acts s g.goal g.environment g.program g.level b ++ ds)
  unfolding take_true put_path puts level1.take_goal
  take_true_lem k =
      rw (← goal.goal, goal_true t T.nodes (nodes_are T) r.node goal.node.0 k, increment_small u (omega arith))
      (true_held (puts (r.path ∷ r.line ∷ []) w u fields.path_before) refl)

  -- At &, the first child is due and the second waits.
  and_held : (w' : List ℕ) → kind_of T.numbers r.node ≡ and_kind
      → w' ≡ puts (child_of T.numbers r.node 1 ∷ r.frame ∷ r.program ∷ r.level ∷ r.goals ∷ [])
      (puts (r.path ∷ r.line ∷ []) w r.acts fields.path_before) r.acts fields.goal_node
      → ResultAt T (suc r.acts)
      (made w' (with_goal (with_goals (with_path r (suc r.acts) and_line) (suc r.acts)) (child_of T.numbers r.node 0) r.frame
      r.program r.level))
      (take s (sequent (goal_at T.numbers (child_of T.numbers r.node 0)) g.environment g.program g.level)
      (branch (sequent (goal_at T.numbers (child_of T.numbers r.node 1)) g.environment g.program g.level ∷ b.goals)
      (plain Dand ∷ b.path)) ∷ ds)
  unfolding with_path with_goal with_goals line_at ResultAt ConfigurationAt store_of GoalsAt
  and_held w' k z =
      let l₁ : List ℕ = r.path ∷ r.line ∷ [] in
      let l₂ : List ℕ = child_of t r.node 1 ∷ r.frame ∷ r.program ∷ r.level ∷ r.goals ∷ [] in
      let gr : Grow u s.next w w' = rw z (two_grow w u s.next l₁ 39 l₂ 31 (omega arith) (omega arith) (omega arith) (omega arith)) in
      let h = extends_22 u w w' gr.extends in
      let e : (i : ℕ) → i < 2 → field w' u (fields.path_before + i) ≡ get_or l₁ i 0 =
      λ i m. rw z (first_at w u l₁ 39 l₂ 31 i (omega arith) (omega arith) room (inr (omega arith)) m) in
      let f : (i : ℕ) → i < 5 → field w' u (fields.goal_node + i) ≡ get_or l₂ i 0 =
      λ i m. rw z (second_at w u l₁ 39 l₂ 31 i (omega arith) room m) in
      let a = goal_node_lem.and k in
      let right = goal_later w' (child_of t r.node 1) h (goal_child 1 a.2 a.3) in
      record {
        front = (
          refl,
          goal_later w' (child_of t r.node 0) h (goal_child 0 a.0 a.1),
          record {
            waiting =
                rw (f 0 (omega arith), f 1 (omega arith), f 2 (omega arith), f 3 (omega arith), f 4 (omega arith))
                (omega arith, right, waiting_later w' h, goals_le T u b.goals w r.goals branch₀.waiting);
            taken =
                path_pushed u s.next w w' r.path r.line 1 (plain Dand) b.path h (e 0 (omega arith)) (e 1 (omega arith)) refl
                (line_plain s.next w' u 1 (omega arith) (λ q. omega arith)) branch₀.taken;
          },
        );
        shared = shared_grow T u w w' r.next r.trail r.choice s ds gr shared;
      }

  -- Taking &.
  pub take_and_lem : kind_of T.numbers r.node ≡ and_kind
      → ResultAt T (suc r.acts) (take_and T.numbers w r)
      (level1.take_goal r.acts s g.goal g.environment g.program g.level b ++ ds)
  unfolding take_and put_path put_goal puts level1.take_goal
  take_and_lem k =
      rw (← goal.goal, goal_and t T.nodes (nodes_are T) r.node goal.node.0 goal.node.1 k, increment_small u (omega arith))
      (and_held _ k refl)

  -- The program of the goal at the right of >.
  implies_program : (w₂ w' : List ℕ) {c : Clause} {e : Environment Leaf} → w' ≡ put_chain w₂ r.acts r.program
      → ProgramAt T (suc r.acts) w' r.program g.program → numbers_per_unit * suc r.acts ≤ length w₂
      → field w₂ r.acts fields.assumption_next ≡ r.program → ClauseOf T (field w' r.acts fields.assumption_node)
      → FrameAt (suc r.acts) w' (field w' r.acts fields.assumption_frame)
      → clause_at_node T.numbers (field w' r.acts fields.assumption_node) ≡ c
      → environment_at w' (field w' r.acts fields.assumption_frame) ≡ e
      → ProgramAt T (suc r.acts) w' (suc r.acts) (assume (hypothesis c e) g.program)
  implies_program w₂ w' {c = c} {e = e} y p l f i fr j k =
      let few = program_le T u w goal.program in
      subst (λ (v : List ℕ). ProgramAt T (suc u) v (suc u) (assume (hypothesis c e) g.program)) (sym y)
      (program_assumed T u w₂ r.program g.program c e (subst (λ (v : List ℕ). ProgramAt T (suc u) v r.program g.program) y p)
      few (omega arith) l f (subst (λ (v : List ℕ). ClauseOf T (field v u fields.assumption_node)) y i)
      (subst (λ (v : List ℕ). FrameAt (suc u) v (field v u fields.assumption_frame)) y fr)
      (subst (λ (v : List ℕ). clause_at_node t (field v u fields.assumption_node) ≡ c) y j)
      (subst (λ (v : List ℕ). environment_at v (field v u fields.assumption_frame) ≡ e) y k))

  -- At >, the first child is assumed and the second is due.
  implies_held : (w₂ w' : List ℕ) → kind_of T.numbers r.node ≡ implies_kind
      → w₂ ≡ puts (child_of T.numbers r.node 0 ∷ r.frame ∷ r.program ∷ [])
      (puts (r.path ∷ r.line ∷ []) w r.acts fields.path_before) r.acts fields.assumption_node
      → w' ≡ put_chain w₂ r.acts r.program
      → ResultAt T (suc r.acts)
      (made w' (with_goal (with_path r (suc r.acts) assume_line) (child_of T.numbers r.node 1) r.frame (suc r.acts) r.level))
      (take s (sequent (goal_at T.numbers (child_of T.numbers r.node 1)) g.environment
      (assume (hypothesis (clause_at_node T.numbers (child_of T.numbers r.node 0)) g.environment) g.program) g.level)
      (branch b.goals (plain Dassume ∷ b.path)) ∷ ds)
  unfolding with_path with_goal line_at ResultAt ConfigurationAt store_of
  implies_held w₂ w' k z y =
      let l₁ : List ℕ = r.path ∷ r.line ∷ [] in
      let l₂ : List ℕ = child_of t r.node 0 ∷ r.frame ∷ r.program ∷ [] in
      let g₂ : Grow u s.next w w₂ = rw z (two_grow w u s.next l₁ 39 l₂ 36 (omega arith) (omega arith) (omega arith) (omega arith)) in
      let gr : Grow u s.next w w' = rw y (grow_trans u s.next w w₂ (put_chain w₂ u r.program) g₂
      (grow_chain u s.next w₂ u r.program (omega arith))) in
      let h = extends_22 u w w' gr.extends in
      let len = g₂.extends.len in
      let other : (f : ℕ) → f < fields.assumption_depth → field w' u f ≡ field w₂ u f =
      λ f m. rw y (chain_other w₂ u r.program u f (omega arith) (inl m)) in
      let e : (i : ℕ) → i < 2 → field w' u (fields.path_before + i) ≡ get_or l₁ i 0 =
      λ i m. other (fields.path_before + i) (omega arith)
      ∙ rw z (first_at w u l₁ 39 l₂ 36 i (omega arith) (omega arith) room (inr (omega arith)) m) in
      let f₂ : field w₂ u fields.assumption_next ≡ r.program = rw z (second_at w u l₁ 39 l₂ 36 2 (omega arith) room (omega arith)) in
      let f₀ : field w' u fields.assumption_node ≡ child_of t r.node 0 =
      other fields.assumption_node (omega arith) ∙ rw z (second_at w u l₁ 39 l₂ 36 0 (omega arith) room (omega arith)) in
      let f₁ : field w' u fields.assumption_frame ≡ r.frame =
      other fields.assumption_frame (omega arith) ∙ rw z (second_at w u l₁ 39 l₂ 36 1 (omega arith) room (omega arith)) in
      let a = goal_node_lem.implies k in
      let n = goal.node.0 in
      let la = a.0 in
      let c = goal_later w' (child_of t r.node 1) h (goal_child 1 a.2 a.3) in
      let clause : ClauseOf T (field w' u fields.assumption_node) = rw f₀ (omega arith, a.1) in
      let frame : FrameAt (suc u) w' (field w' u fields.assumption_frame) = rw f₁ c.frame in
      record {
        front = (
          refl,
          record {
            node = c.node;
            goal = refl;
            frame = c.frame;
            environment = c.environment;
            program = implies_program w₂ w' y c.program (omega arith) f₂ clause frame (ap (clause_at_node t) f₀)
                (ap (environment_at w') f₁ ∙ c.environment);
            level = c.level;
            low = c.low;
          },
          record {
            waiting = waiting_later w' h;
            taken =
                path_pushed u s.next w w' r.path r.line 4 (plain Dassume) b.path h (e 0 (omega arith))
                (e 1 (omega arith)) refl (line_plain s.next w' u 4 (omega arith) (λ q. omega arith)) branch₀.taken;
          },
        );
        shared = shared_grow T u w w' r.next r.trail r.choice s ds gr shared;
      }

  -- Taking >.
  pub take_implies_lem : kind_of T.numbers r.node ≡ implies_kind
      → ResultAt T (suc r.acts) (take_implies T.numbers w r)
      (level1.take_goal r.acts s g.goal g.environment g.program g.level b ++ ds)
  unfolding take_implies put_path put_assumption puts level1.take_goal
  take_implies_lem k =
      rw (
        ← goal.goal,
        goal_implies t T.nodes (nodes_are T) r.node goal.node.0 goal.node.1 k,
        increment_small u (omega arith),
      ) (implies_held _ _ k refl refl)

  -- `right` has the registers with which the right side of | is taken later.
  right : Registers
  unfolding with_path with_goal with_member
  right =
      with_member (with_goal (with_path r (suc r.acts) right_line) (child_of T.numbers r.node 1) r.frame r.program r.level) 0
      0 0 0

  -- The machine saves these.
  right_is : right ≡ right_branch T.numbers r
  unfolding right right_branch
  right_is = rw (increment_small u (omega arith))

  -- At |, the left side is due and the right side is the latest alternative.
  or_held : (w' : List ℕ) → kind_of T.numbers r.node ≡ or_kind
      → w' ≡ puts (saved right) (puts (r.path ∷ r.line ∷ []) w r.acts fields.path_before) r.acts fields.variables
      → ResultAt T (suc r.acts)
      (made w' (with_goal (with_choice (with_path r (suc r.acts) left_line) (suc r.acts)) (child_of T.numbers r.node 0) r.frame
      r.program r.level))
      (take s (sequent (goal_at T.numbers (child_of T.numbers r.node 0)) g.environment g.program g.level)
      (branch b.goals (plain Dleft ∷ b.path))
      ∷ take s (sequent (goal_at T.numbers (child_of T.numbers r.node 1)) g.environment g.program g.level)
      (branch b.goals (plain Dright ∷ b.path)) ∷ ds)
  unfolding with_path with_goal with_choice with_member right resumed with_mode with_next with_trail with_goals line_at ResultAt ConfigurationAt
      store_of
  or_held w' k z =
      let l₁ : List ℕ = r.path ∷ r.line ∷ [] in
      let l₂ : List ℕ = saved right in
      let n₂ = saved_length right in
      let gr : Grow u s.next w w' = rw z (two_grow w u s.next l₁ 39 l₂ 43 (omega arith) (omega arith) (omega arith) (omega arith)) in
      let h = extends_22 u w w' gr.extends in
      let e : (i : ℕ) → i < 2 → field w' u (fields.path_before + i) ≡ get_or l₁ i 0 =
      λ i m. rw z (first_at w u l₁ 39 l₂ 43 i (omega arith) (omega arith) room (inl (omega arith)) m) in
      let f : SavedAt w' u right = λ i m. rw z (second_at w u l₁ 39 l₂ 43 i (omega arith) room (omega arith)) in
      let a = goal_node_lem.or k in
      let sh = shared_grow T u w w' r.next r.trail r.choice s ds gr shared in
      record {
        front = (
          refl,
          goal_later w' (child_of t r.node 0) h (goal_child 0 a.0 a.1),
          record {
            waiting = waiting_later w' h;
            taken =
                path_pushed u s.next w w' r.path r.line 2 (plain Dleft) b.path h (e 0 (omega arith)) (e 1 (omega arith)) refl
                (line_plain s.next w' u 2 (omega arith) (λ q. omega arith)) branch₀.taken;
          },
        );
        shared = record {
          store = sh.store;
          bounded = sh.bounded;
          next = sh.next;
          trail = sh.trail;
          alternatives =
              choice_opened T (suc u) w' u s.next right
              (take s (sequent (goal_at t (child_of t r.node 1)) g.environment g.program g.level)
              (branch b.goals (plain Dright ∷ b.path))) ds (omega arith) f
              (λ r₀. (
                refl,
                goal_later w' (child_of t r.node 1) h (goal_child 1 a.2 a.3),
                record {
                  waiting = waiting_later w' h;
                  taken =
                      path_pushed u s.next w w' r.path r.line 3 (plain Dright) b.path h (e 0 (omega arith))
                      (e 1 (omega arith)) refl (line_plain s.next w' u 3 (omega arith) (λ q. omega arith)) branch₀.taken;
                },
              )) sh.next (omega arith) sh.bounded sh.store sh.alternatives;
        };
      }

  -- Taking |.
  pub take_or_lem : kind_of T.numbers r.node ≡ or_kind
      → ResultAt T (suc r.acts) (take_or T.numbers w r)
      (level1.take_goal r.acts s g.goal g.environment g.program g.level b ++ ds)
  unfolding take_or put_path puts level1.take_goal
  take_or_lem k =
      rw (← goal.goal, goal_or_lem t T.nodes (nodes_are T) r.node goal.node.0 goal.node.1 k, increment_small u (omega arith))
      (or_held _ k (path_saved))
    where
      path_saved : save_choice (put_path w r.acts r.path r.line) r.acts (right_branch T.numbers r) ≡ puts (saved right)
          (puts (r.path ∷ r.line ∷ []) w r.acts fields.path_before) r.acts fields.variables
      path_saved =
          save_is (put_path w u r.path r.line) u (right_branch t r)
          ∙ ap (λ (q : Registers). puts (saved q) (put_path w u r.path r.line) u fields.variables) (sym right_is)

  -- At E, a variable is made for the name and the child is due.
  exists_held : (w₁ w₂ w' : List ℕ) → Formed s → kind_of T.numbers r.node ≡ exists_kind
      → w₁ ≡ copy_frame variable_names w r.acts r.frame 0
      → w₂ ≡ put_fresh 1 w₁ r.acts (label_of T.numbers r.node) s.next r.level
      → w' ≡ puts (s.next ∷ []) (puts (r.path ∷ r.line ∷ []) w₂ r.acts fields.path_before) r.acts fields.variables
      → ResultAt T (suc r.acts)
      (made w' (with_goal (with_next (with_path r (suc r.acts) some_line) (suc s.next)) (child_of T.numbers r.node 0)
      (suc r.acts) r.program r.level))
      (take (fresh (label_of T.numbers r.node ∷ []) g.level s)
      (sequent (goal_at T.numbers (child_of T.numbers r.node 0))
      (update g.environment (label_of T.numbers r.node) (leaf (var s.next))) g.program g.level)
      (branch b.goals (Dsome (leaf (var s.next)) ∷ b.path)) ∷ ds)
  unfolding with_path with_goal with_next line_at ResultAt ConfigurationAt store_of fresh fresh_levels past assign fresh_variables names_of
  exists_held w₁ w₂ w' fm k z₁ z₂ z =
      let x = s.next in
      let v = label_of t r.node in
      let a = goal_node_lem.exists k in
      let lv = a.0 in
      let gr₁ : Grow u x w w₁ = rw z₁ (copy_grow u r.frame 8 w 0 x (omega arith)) in
      let n₁ = gr₁.extends.len in
      let M₁ : FrameMade w₁ u (environment_at w r.frame) = rw z₁ (copy_made w u r.frame room goal.frame) in
      let st₁ = store_grow T u x w w₁ s gr₁ (omega arith) shared.store in
      let d : v % 8 ≡ v = omega arith in
      let F₀ = fresh_made 1 T w₁ u v r.level s (environment_at w r.frame) fm (omega arith) small
      (let q = (bounded_next u s shared.bounded).0 in omega arith) st₁ M₁ in
      let F : FreshMade T w₁ w₂ u s (fresh (v ∷ []) g.level s) (update g.environment v (leaf (var x))) =
      rw (z₂, ← goal.level, ← goal.environment)
      (subst (λ (j : ℕ). FreshMade T w₁ (put_fresh 1 w₁ u v x r.level) u s (fresh (j ∷ []) r.level s)
      (update (environment_at w r.frame) j (leaf (var x)))) d F₀) in
      let l₁ : List ℕ = r.path ∷ r.line ∷ [] in
      let l₂ : List ℕ = x ∷ [] in
      let n₂ = F.grow.extends.len in
      let gr₃ : (j : ℕ) → Grow u j w₂ w' =
      λ j. rw z (two_grow w₂ u j l₁ 39 l₂ 43 (omega arith) (omega arith) (omega arith) (omega arith)) in
      let gr : Grow u x w w' = grow_trans u x w w₁ w' gr₁ (grow_trans u x w₁ w₂ w' F.grow (gr₃ x)) in
      let h = extends_22 u w w' gr.extends in
      let room₂ : numbers_per_unit * suc u ≤ length w₂ = omega arith in
      let e : (i : ℕ) → i < 2 → field w' u (fields.path_before + i) ≡ get_or l₁ i 0 =
      λ i m. rw z (first_at w₂ u l₁ 39 l₂ 43 i (omega arith) (omega arith) room₂ (inl (omega arith)) m) in
      let f : field w' u fields.variables ≡ x = rw z (second_at w₂ u l₁ 39 l₂ 43 0 (omega arith) room₂ (omega arith)) in
      let same : SameFrames w₂ w' =
      rw z (same_trans w₂ (puts l₁ w₂ u fields.path_before) (puts l₂ (puts l₁ w₂ u fields.path_before) u fields.variables)
      (same_puts l₁ w₂ u fields.path_before (omega arith) (omega arith))
      (same_puts l₂ (puts l₁ w₂ u fields.path_before) u fields.variables (omega arith) (omega arith))) in
      let M = made_same w₂ w' u (update g.environment v (leaf (var x))) same F.frame in
      let c = goal_later w' (child_of t r.node 0) h (goal_child 0 a.1 a.2) in
      let sh = shared_grow T u w w' r.next r.trail r.choice s ds gr shared in
      record {
        front = (
          refl,
          record {
            node = c.node;
            goal = refl;
            frame = M.frame;
            environment = M.environment;
            program = c.program;
            level = c.level;
            low = c.low;
          },
          record {
            waiting = waiting_later w' h;
            taken =
                path_pushed u (suc x) w w' r.path r.line 5 (Dsome (leaf (var x))) b.path h (e 0 (omega arith))
                (e 1 (omega arith)) (ap (λ (j : ℕ). Dsome (leaf (var j))) f)
                (record { kind = omega arith; some = λ q. omega arith; clause = λ q. absurd (omega arith) })
                (path_wider u x (suc x) b.path w r.path r.line (omega arith) branch₀.taken);
          },
        );
        shared = record {
          store =
              store_up T u w' (fresh (v ∷ []) g.level s)
              (store_grow T u (suc x) w₂ w' (fresh (v ∷ []) g.level s) (gr₃ (suc x)) (omega arith) F.store);
          bounded = record {
            bindings = sh.bounded.bindings;
            least = let q = sh.bounded.least in omega arith;
            variables = let q = shared.bounded.variables in omega arith;
            later = λ q. (bounded_next u s shared.bounded).1;
          };
          next = refl;
          trail = sh.trail;
          alternatives = alternatives_wider T (suc u) (suc x) (omega arith) sh.alternatives;
        };
      }

  -- Taking E.
  pub take_exists_lem : Formed s → kind_of T.numbers r.node ≡ exists_kind
      → ResultAt T (suc r.acts) (take_exists T.numbers w r)
      (level1.take_goal r.acts s g.goal g.environment g.program g.level b ++ ds)
  unfolding take_exists put_path puts level1.take_goal with_path with_next
  take_exists_lem fm k =
      rw (
        ← goal.goal,
        goal_exists t T.nodes (nodes_are T) r.node goal.node.0 goal.node.1 k,
        increment_small u (omega arith),
        shared.next,
        increment_small s.next (let v = shared.bounded.variables in omega arith),
      )
      (exists_held _ _ _ fm k refl refl refl)

  -- At U, a constant is made for the name, one level up, and the child is due.
  forall_held : (w₁ w₂ w₃ w' : List ℕ) → kind_of T.numbers r.node ≡ forall_kind
      → w₁ ≡ copy_frame variable_names w r.acts r.frame 0 → w₂ ≡ put_field w₁ r.acts fields.constant_level (suc r.level)
      → w₃ ≡ put_field w₂ r.acts (fields.frame + label_of T.numbers r.node) (4 * r.acts + 2)
      → w' ≡ puts (r.path ∷ r.line ∷ []) w₃ r.acts fields.path_before
      → ResultAt T (suc r.acts)
      (made w' (with_goal (with_path r (suc r.acts) all_line) (child_of T.numbers r.node 0) (suc r.acts) r.program
      (suc r.level)))
      (take s (sequent (goal_at T.numbers (child_of T.numbers r.node 0))
      (update g.environment (label_of T.numbers r.node) (leaf (con r.acts (suc g.level)))) g.program (suc g.level))
      (branch b.goals (Dall (leaf (con r.acts (suc g.level))) ∷ b.path)) ∷ ds)
  unfolding with_path with_goal line_at ResultAt ConfigurationAt store_of
  forall_held w₁ w₂ w₃ w' k z₁ z₂ z₃ z =
      let x = s.next in
      let v = label_of t r.node in
      let a = goal_node_lem.forall k in
      let lv = a.0 in
      let gr₁ : Grow u x w w₁ = rw z₁ (copy_grow u r.frame 8 w 0 x (omega arith)) in
      let n₁ = gr₁.extends.len in
      let gr₂ : Grow u x w₁ w₂ =
      rw z₂ (grow_put u x w₁ u fields.constant_level (suc r.level) (omega arith) (omega arith) (omega arith)) in
      let n₂ = gr₂.extends.len in
      let gr₃ : Grow u x w₂ w₃ = rw z₃ (grow_put u x w₂ u (fields.frame + v) (4 * u + 2) (omega arith) (omega arith) (omega arith)) in
      let n₃ = gr₃.extends.len in
      let l₁ : List ℕ = r.path ∷ r.line ∷ [] in
      let gr₄ : Grow u x w₃ w' = rw z (grow_puts l₁ w₃ u x u fields.path_before (omega arith) (omega arith) (omega arith)) in
      let gr₁₂ : Grow u x w w₂ = grow_trans u x w w₁ w₂ gr₁ gr₂ in
      let gr : Grow u x w w' = grow_trans u x w w₂ w' gr₁₂ (grow_trans u x w₂ w₃ w' gr₃ gr₄) in
      let h = extends_22 u w w' gr.extends in
      let slots : (i : ℕ) → i < variable_names → field w₂ u (fields.frame + i) ≡ slot_of w r.frame i = λ i m.
      rw z₂ (field_other w₁ u fields.constant_level u (fields.frame + i) (suc r.level) (omega arith) (omega arith) (λ q. omega arith)
      ∙ rw z₁ (copy_at u r.frame 8 w 0 i room goal.frame (omega arith) (omega arith) (omega arith))) in
      let M₂ : FrameMade w₂ u (environment_at w r.frame) =
      made_held w w₂ u r.frame (extends_22 u w w₂ gr₁₂.extends) goal.frame slots in
      let c₂ : field w₂ u fields.constant_level ≡ suc r.level =
      rw z₂ (field_same w₁ u fields.constant_level (suc r.level) (omega arith)) in
      let M₃ : FrameMade w₃ u (update (environment_at w r.frame) v (leaf (con u (suc r.level)))) =
      rw z₃ (slot_made w₂ u v (4 * u + 2) (environment_at w r.frame) (con u (suc r.level)) (omega arith) lv
      (constant_at u refl (omega arith)) (constant_leaf w₂ u ∙ ap (con u) c₂) M₂) in
      let M₄ : FrameMade w₃ u (update g.environment v (leaf (con u (suc g.level)))) = rw (← goal.environment, ← goal.level) M₃ in
      let same : SameFrames w₃ w' = rw z (same_puts l₁ w₃ u fields.path_before (omega arith) (omega arith)) in
      let M = made_same w₃ w' u (update g.environment v (leaf (con u (suc g.level)))) same M₄ in
      let e : (i : ℕ) → i < 2 → field w' u (fields.path_before + i) ≡ get_or l₁ i 0 =
      λ i m. rw z (puts_at l₁ w₃ u fields.path_before i (omega arith) (omega arith) m) in
      let c : field w' u fields.constant_level ≡ suc g.level = same u 22 (omega arith) (omega arith)
      ∙ rw z₃ (field_other w₂ u (fields.frame + v) u fields.constant_level (4 * u + 2) (omega arith) (omega arith) (λ q. omega arith)) ∙ c₂
      ∙ ap suc goal.level in
      let d = goal_later w' (child_of t r.node 0) h (goal_child 0 a.1 a.2) in
      record {
        front = (
          refl,
          record {
            node = d.node;
            goal = refl;
            frame = M.frame;
            environment = M.environment;
            program = d.program;
            level = ap suc goal.level;
            low = let l = goal.low in omega arith;
          },
          record {
            waiting = waiting_later w' h;
            taken =
                path_pushed u s.next w w' r.path r.line 6 (Dall (leaf (con u (suc g.level)))) b.path h (e 0 (omega arith))
                (e 1 (omega arith)) (ap (λ (j : ℕ). Dall (leaf (con u j))) c)
                (line_plain s.next w' u 6 (omega arith) (λ q. omega arith)) branch₀.taken;
          },
        );
        shared = shared_grow T u w w' r.next r.trail r.choice s ds gr shared;
      }

  -- Taking U.
  pub take_forall_lem : kind_of T.numbers r.node ≡ forall_kind
      → ResultAt T (suc r.acts) (take_forall T.numbers w r)
      (level1.take_goal r.acts s g.goal g.environment g.program g.level b ++ ds)
  unfolding take_forall put_constant put_path puts level1.take_goal
  take_forall_lem k =
      rw (
        ← goal.goal,
        goal_forall t T.nodes (nodes_are T) r.node goal.node.0 goal.node.1 k,
        increment_small u (omega arith),
        increment_small r.level (let l = goal.low in omega arith),
        constant_small u (omega arith),
      )
      (forall_held _ _ _ _ k refl refl refl refl)
