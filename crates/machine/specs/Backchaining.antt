-- Trying a member (document 01, "The walk", "atom").
use Rattle.std.specs.Prelude.{ℕ, ◌+◌, ◌-◌, cond, List, eqb, ltb}
use Rattle.sheet_format.specs.Limits.{variable_names}
use Rattle.node_table.specs.Layout.{kind_of, label_of, child_of, members_of, clause_node, order_number, default_order, implies_kind}
use Rattle.machine.specs.declared.Registers.{Registers}
use Rattle.machine.specs.Fields as fields
use Rattle.machine.specs.Records.{Made, made, put_goal, put_path, put_use, put_pairs, clause_line}
use Rattle.machine.specs.RegisterUpdates.{with_next, with_choice, with_goals, with_path, with_member}
use Rattle.machine.specs.Words.{truncate, increment}
use Rattle.machine.specs.Frames.{copy_frame, put_fresh}
use Rattle.machine.specs.ChoicePoints.{save_choice}
use Rattle.machine.specs.AssumptionChains.{parent_of, later_of}
use Rattle.machine.specs.Goals.{members_left, try_from, from_clause}
use Rattle.machine.specs.Matching.{pairs_from, due_pairs}
use Rattle.memory.specs.Records.{field}
use Rattle.clause_members.specs.declared.Found.{Found}
use Rattle.clause_members.specs.Members.{member, head_of}

-- The clause whose member is due: its node and its frame.
unfoldable pub clause_of : List ℕ → List ℕ → Registers → ℕ
clause_of t w r = cond (eqb r.hypothesis 0) (clause_node t r.clause) (field w (r.hypothesis - 1) fields.assumption_node)

unfoldable pub clause_frame : List ℕ → Registers → ℕ
clause_frame w r = cond (eqb r.hypothesis 0) 0 (field w (r.hypothesis - 1) fields.assumption_frame)

-- After an assumption: by default the one made after it, with `O latest` the one made before it or else the sheet's first clause (request
-- W-207); c is the number of the sheet's clauses, p the place of the member.
unfoldable pub after_assumption : List ℕ → ℕ → List ℕ → Registers → ℕ → Registers
after_assumption t c w r p =
    cond (eqb (order_number t) default_order) (with_member r (later_of w r.program r.hypothesis) c 0 p)
    (with_member r (parent_of w r.hypothesis) 0 0 p)

-- The clause after it, and the member after it.
unfoldable pub next_clause : List ℕ → ℕ → List ℕ → Registers → Registers
next_clause t c w r =
    cond (eqb r.hypothesis 0) (from_clause t c w r (increment r.clause) (increment r.place))
    (after_assumption t c w r (increment r.place))

unfoldable pub next_member : List ℕ → ℕ → List ℕ → Registers → Registers
next_member t c w r =
    cond (ltb (increment r.member) (members_of t (clause_of t w r)))
    (with_member r r.hypothesis r.clause (increment r.member) (increment r.place)) (next_clause t c w r)

-- "The prefix gets fresh variables of level I."
unfoldable pub put_prefix : List ℕ → Registers → Found → List ℕ
put_prefix w r m = put_fresh m.count (copy_frame variable_names w r.acts (clause_frame w r) 0) r.acts m.names r.next r.level

-- "the members left are the alternative": s are the registers at the next member.
unfoldable pub save_alternative : ℕ → List ℕ → ℕ → Registers → List ℕ
save_alternative c w u s = cond (members_left c s) (save_choice w u s) w

-- "the body, if any, is the new goal"
unfoldable pub put_body : List ℕ → List ℕ → Registers → ℕ → List ℕ
put_body t w r n =
    cond (eqb (kind_of t n) implies_kind) (put_goal w r.acts (child_of t n 0) (increment r.acts) r.program r.level r.goals) w

-- The path, the alternative and the body of a try.
unfoldable pub put_try : List ℕ → ℕ → List ℕ → Registers → Found → Registers → List ℕ
put_try t c w r m s =
    put_body t (save_alternative c (put_use (put_path w r.acts r.path r.line) r.acts r.place m.count r.next) r.acts s)
    r m.leaf

-- The registers after it.
unfoldable pub tried : List ℕ → ℕ → Registers → Found → Registers → Registers
tried t c r m s =
    with_goals (with_choice (with_next (with_path r (increment r.acts) clause_line) (truncate (r.next + m.count)))
    (cond (members_left c s) (increment r.acts) r.choice))
    (cond (eqb (kind_of t m.leaf) implies_kind) (increment r.acts) r.goals)

-- The predicates agree: the argument pairs are due. s are the registers at the next member.
unfoldable pub try_member : List ℕ → ℕ → List ℕ → Registers → Found → Registers → Made
try_member t c w r m s =
    let w' = put_pairs (put_try t c (put_prefix w r m) r m s) r.acts r.node r.frame (head_of t m.leaf) (increment r.acts) 0 in
    made w' (due_pairs w' (tried t c r m s) (pairs_from t w' (increment r.acts) 0))

-- "Matching first compares predicates; if they differ the try fails."
unfoldable pub try_found : List ℕ → ℕ → List ℕ → Registers → Found → Made
try_found t c w r m =
    let s = next_member t c w r in
    cond (eqb (label_of t r.node) (label_of t (head_of t m.leaf))) (try_member t c w r m s) (try_from c w s)

-- One act.
unfoldable pub try_next : List ℕ → ℕ → List ℕ → Registers → Made
try_next t c w r = try_found t c w r (member t (clause_of t w r) r.member)
