-- Taking a goal (document 01, "The walk", first list), and going on with the next one.
use Rattle.std.specs.Prelude.{ℕ, ◌+◌, ◌-◌, Bool, true, cond, List, eqb, ltb}
use Rattle.sheet_format.specs.Limits.{variable_names}
use Rattle.node_table.specs.Layout.{kind_of, label_of, child_of, order_number, default_order, exists_kind, forall_kind, implies_kind, or_kind}
use Rattle.node_table.specs.Layout.{and_kind, atom_kind}
use Rattle.machine.specs.declared.Registers.{Registers}
use Rattle.machine.specs.Fields as fields
use Rattle.machine.specs.Records.{Made, made, put_goal, put_assumption, put_path, all_line, some_line, assume_line, left_line, right_line}
use Rattle.machine.specs.Records.{and_line, true_line, try_mode, proved_mode}
use Rattle.machine.specs.RegisterUpdates.{with_mode, with_next, with_choice, with_goals, with_path, with_goal, with_member}
use Rattle.machine.specs.Words.{increment, constant_word}
use Rattle.machine.specs.Frames.{copy_frame, put_fresh}
use Rattle.machine.specs.ChoicePoints.{save_choice, failed}
use Rattle.machine.specs.AssumptionChains.{put_chain, oldest_of}
use Rattle.memory.specs.Records.{field, put_field}

-- The goal that waits in record q is due.
unfoldable pub due_goal : List ℕ → Registers → ℕ → Registers
due_goal w r q =
    with_goal (with_goals r (field w q fields.goal_next)) (field w q fields.goal_node) (field w q fields.goal_frame)
    (field w q fields.goal_program) (field w q fields.goal_level)

-- "Always the front goal is taken"; "An empty list is proved".
unfoldable pub proceed : List ℕ → Registers → Registers
proceed w r = cond (eqb r.goals 0) (with_mode r proved_mode) (due_goal w r (r.goals - 1))

-- The member that the registers name is due, if there is one; c is the number of the sheet's clauses.
unfoldable pub members_left : ℕ → Registers → Bool
members_left c r = cond (eqb r.hypothesis 0) (ltb r.clause c) true

unfoldable pub try_from : ℕ → List ℕ → Registers → Made
try_from c w r = cond (members_left c r) (made w (with_mode r try_mode)) (failed w r)

-- After the sheet's clauses, of which there are c: by default the oldest assumption, with `O latest` nothing (request W-207); p is the
-- place of the member.
unfoldable pub after_sheet : List ℕ → ℕ → List ℕ → Registers → ℕ → Registers
after_sheet t c w r p = with_member r (cond (eqb (order_number t) default_order) (oldest_of w r.program) 0) c 0 p

-- The sheet's i-th clause, or what comes after the last.
unfoldable pub from_clause : List ℕ → ℕ → List ℕ → Registers → ℕ → ℕ → Registers
from_clause t c w r i p = cond (ltb i c) (with_member r 0 i 0 p) (after_sheet t c w r p)

-- "The default trying order becomes the sheet's clauses in order, then the assumptions, oldest first": the first member. With `O latest`
-- it is that of the latest assumption.
unfoldable pub first_member : List ℕ → ℕ → List ℕ → Registers → Registers
first_member t c w r = cond (eqb (order_number t) default_order) (from_clause t c w r 0 1) (with_member r r.program 0 0 1)

-- "atom: members are tried in turn"
unfoldable pub take_atom : List ℕ → ℕ → List ℕ → Registers → Made
take_atom t c w r = try_from c w (first_member t c w r)

-- "Y: nothing."
unfoldable pub take_true : List ℕ → Registers → Made
take_true w r =
    let w' = put_path w r.acts r.path r.line in
    made w' (proceed w' (with_path r (increment r.acts) true_line))

-- "&: left, then right."
unfoldable pub take_and : List ℕ → List ℕ → Registers → Made
take_and t w r =
    made (put_goal (put_path w r.acts r.path r.line) r.acts (child_of t r.node 1) r.frame r.program r.level r.goals)
    (with_goal (with_goals (with_path r (increment r.acts) and_line) (increment r.acts)) (child_of t r.node 0) r.frame r.program
    r.level)

-- "|: left; right is the alternative."
unfoldable pub right_branch : List ℕ → Registers → Registers
right_branch t r =
    with_member (with_goal (with_path r (increment r.acts) right_line) (child_of t r.node 1) r.frame r.program r.level) 0 0 0 0

unfoldable pub take_or : List ℕ → List ℕ → Registers → Made
take_or t w r =
    made (save_choice (put_path w r.acts r.path r.line) r.acts (right_branch t r))
    (with_goal (with_choice (with_path r (increment r.acts) left_line) (increment r.acts)) (child_of t r.node 0) r.frame
    r.program r.level)

-- ">: the clause is assumed": it is the latest of that goal's assumptions.
unfoldable pub take_implies : List ℕ → List ℕ → Registers → Made
take_implies t w r =
    made (put_chain (put_assumption (put_path w r.acts r.path r.line) r.acts (child_of t r.node 0) r.frame r.program)
    r.acts r.program)
    (with_goal (with_path r (increment r.acts) assume_line) (child_of t r.node 1) r.frame (increment r.acts) r.level)

-- "E: a fresh variable of level I."
unfoldable pub take_exists : List ℕ → List ℕ → Registers → Made
take_exists t w r =
    made (put_field
    (put_path (put_fresh 1 (copy_frame variable_names w r.acts r.frame 0) r.acts (label_of t r.node) r.next r.level)
    r.acts r.path r.line) r.acts fields.variables r.next)
    (with_goal (with_next (with_path r (increment r.acts) some_line) (increment r.next)) (child_of t r.node 0) (increment r.acts)
    r.program r.level)

-- "U: a fresh made constant of level I + 1, and the goal's level rises to that." The constant is named by the act.
unfoldable pub put_constant : List ℕ → ℕ → ℕ → ℕ → List ℕ
put_constant w u v i = put_field (put_field w u fields.constant_level i) u (fields.frame + v) (constant_word u)

unfoldable pub take_forall : List ℕ → List ℕ → Registers → Made
take_forall t w r =
    made (put_path (put_constant (copy_frame variable_names w r.acts r.frame 0) r.acts (label_of t r.node) (increment r.level))
    r.acts r.path r.line)
    (with_goal (with_path r (increment r.acts) all_line) (child_of t r.node 0) (increment r.acts) r.program (increment r.level))

-- By the kind of the goal's node.
unfoldable pub take_goal : List ℕ → ℕ → List ℕ → Registers → Made
take_goal t c w r =
    cond (eqb (kind_of t r.node) atom_kind) (take_atom t c w r)
    (cond (eqb (kind_of t r.node) and_kind) (take_and t w r)
    (cond (eqb (kind_of t r.node) or_kind) (take_or t w r)
    (cond (eqb (kind_of t r.node) implies_kind) (take_implies t w r)
    (cond (eqb (kind_of t r.node) exists_kind) (take_exists t w r)
    (cond (eqb (kind_of t r.node) forall_kind) (take_forall t w r) (take_true w r))))))
