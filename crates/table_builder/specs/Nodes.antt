-- What a line makes in the table, or why it is refused: the code's functions on lists. That they agree with the trees of
-- document 01 is proved in crate table_decoding.
use Rattle.std.specs.Prelude.{ℕ, zero, suc, ◌+◌, ◌*◌, ◌/◌, ◌%◌, cond, List, [], ◌∷◌, leb, eqb, get_or, set, Result, Ok, Err}
use Rattle.std.specs.Int.Bits.{bit_or}
use Rattle.outcomes.specs.declared.refusals.Reason.{Reason}
use Rattle.outcomes.specs.declared.refusals.Reason.TheVariants.{TooMany, Unknown, WrongKind, FreeVariable}
use Rattle.sheet_format.specs.Limits.{max_members, max_symbols, max_nodes, max_clauses}
use Rattle.node_table.specs.Layout.{node_at, clause_at, kind_of, mask_of, goal_bit, members_of, pack_info, atom_kind, variable_kind, application_kind}
use Rattle.node_table.specs.Layout.{true_kind, and_kind, or_kind, implies_kind, exists_kind, forall_kind, head_field, label_field, first_child_field}
use Rattle.node_table.specs.Layout.{second_child_field, third_child_field, fourth_child_field, info_field, child_unit, goal_unit}
use Rattle.node_table.specs.Chains.{below_of, names_over, count_over}
use Rattle.table_builder.specs.declared.node_info.Counts.{Counts}
use Rattle.table_builder.specs.declared.node_info.NodeRecord.{NodeRecord}

-- The table after a line, and what the line comes to: how much there is then, or why it is refused.
pub record Made (A : Type 0) : Type 0 where
  pub table : List ℕ
  pub answer : Result A Reason

abbrev pub made : {A : Type 0} → List ℕ → Result A Reason → Made A
made t r = record { table = t; answer = r }

abbrev pub counts : ℕ → ℕ → ℕ → Counts
counts symbols nodes clauses = record { symbols = symbols; nodes = nodes; clauses = clauses }

abbrev pub node_record : ℕ → ℕ → ℕ → ℕ → ℕ → ℕ → ℕ → NodeRecord
node_record head label first second third fourth info =
    record { head = head; label = label; first = first; second = second; third = third; fourth = fourth; info = info }

-- Writing.
unfoldable pub node_written : List ℕ → ℕ → NodeRecord → List ℕ
node_written t n r =
    set (set (set
    (set (set (set (set t (node_at n head_field) r.head) (node_at n label_field) r.label) (node_at n first_child_field) r.first)
    (node_at n second_child_field) r.second) (node_at n third_child_field) r.third) (node_at n fourth_child_field) r.fourth)
    (node_at n info_field) r.info

-- Masks: bit v alone; bit v taken away.
unfoldable pub only_bit : ℕ → ℕ
only_bit v = get_or (1 ∷ 2 ∷ 4 ∷ 8 ∷ 16 ∷ 32 ∷ 64 ∷ 128 ∷ []) v 0

unfoldable pub without_bit : ℕ → ℕ → ℕ
without_bit zero m = m / 2 * 2
without_bit (suc v) m = without_bit v (m / 2) * 2 + m % 2

-- Refused where the node is nothing.
unfoldable pub add_node : List ℕ → Counts → NodeRecord → Made Counts
add_node t k r =
    cond (eqb (r.info / goal_unit) 0) (made t (Err WrongKind))
    (made (node_written t k.nodes r) (Ok (counts k.symbols (k.nodes + 1) k.clauses)))

-- What a node is, from what its children are.
unfoldable pub both_goals : List ℕ → ℕ → ℕ → ℕ
both_goals t a b = cond (eqb (goal_bit t a) 1) (goal_bit t b) 0

unfoldable pub sum_members : ℕ → ℕ → ℕ
sum_members m n = cond (eqb m 0) 0 (cond (eqb n 0) 0 (cond (leb (m + n) max_members) (m + n) 0))

unfoldable pub supposed_goal : List ℕ → ℕ → ℕ → ℕ
supposed_goal t a b = cond (eqb (members_of t a) 0) 0 (goal_bit t b)

unfoldable pub ruled_members : List ℕ → ℕ → ℕ → ℕ
ruled_members t a b = cond (eqb (kind_of t b) atom_kind) (both_goals t a b) 0

unfoldable pub united_mask : List ℕ → ℕ → ℕ → ℕ
united_mask t a b = bit_or (mask_of t a) (mask_of t b)

unfoldable pub and_info : List ℕ → ℕ → ℕ → ℕ
and_info t a b = pack_info (united_mask t a b) (both_goals t a b) (sum_members (members_of t a) (members_of t b)) 0

unfoldable pub or_info : List ℕ → ℕ → ℕ → ℕ
or_info t a b = pack_info (united_mask t a b) (both_goals t a b) 0 0

unfoldable pub implies_info : List ℕ → ℕ → ℕ → ℕ
implies_info t a b = pack_info (united_mask t a b) (supposed_goal t a b) (ruled_members t a b) 0

unfoldable pub exists_info : List ℕ → ℕ → ℕ → ℕ
exists_info t v a = pack_info (without_bit v (mask_of t a)) (goal_bit t a) 0 0

unfoldable pub forall_info : List ℕ → ℕ → ℕ → ℕ
forall_info t v a = pack_info (without_bit v (mask_of t a)) (goal_bit t a) (members_of t a) 0

-- V, N and Y. The number n is an application of label 256 + n, as `functor_of` of `node_table` reads it.
unfoldable pub insert_variable : List ℕ → Counts → ℕ → Made Counts
insert_variable t k v =
    cond (leb max_nodes k.nodes) (made t (Err TooMany)) (add_node t k (node_record variable_kind v 0 0 0 0 (pack_info (only_bit v) 0 0 1)))

unfoldable pub insert_numeral : List ℕ → Counts → ℕ → Made Counts
insert_numeral t k n =
    cond (leb max_nodes k.nodes) (made t (Err TooMany))
    (add_node t k (node_record application_kind (max_symbols + n) 0 0 0 0 (pack_info 0 0 0 1)))

unfoldable pub insert_true : List ℕ → Counts → Made Counts
insert_true t k = cond (leb max_nodes k.nodes) (made t (Err TooMany)) (add_node t k (node_record true_kind 0 0 0 0 0 goal_unit))

-- A node of that kind with two children, a node with one: one too many, a child that is not there, of the wrong kind, in this order.
unfoldable pub add_two : List ℕ → Counts → ℕ → ℕ → ℕ → ℕ → Made Counts
add_two t k kind a b info =
    cond (leb max_nodes k.nodes) (made t (Err TooMany))
    (cond (leb k.nodes a) (made t (Err Unknown))
    (cond (leb k.nodes b) (made t (Err Unknown)) (add_node t k (node_record (kind + 2 * child_unit) 0 a b 0 0 info))))

unfoldable pub add_one : List ℕ → Counts → NodeRecord → Made Counts
add_one t k r =
    cond (leb max_nodes k.nodes) (made t (Err TooMany)) (cond (leb k.nodes r.first) (made t (Err Unknown)) (add_node t k r))

unfoldable pub insert_and : List ℕ → Counts → ℕ → ℕ → Made Counts
insert_and t k a b = add_two t k and_kind a b (and_info t a b)

unfoldable pub insert_or : List ℕ → Counts → ℕ → ℕ → Made Counts
insert_or t k a b = add_two t k or_kind a b (or_info t a b)

unfoldable pub insert_implies : List ℕ → Counts → ℕ → ℕ → Made Counts
insert_implies t k a b = add_two t k implies_kind a b (implies_info t a b)

unfoldable pub insert_exists : List ℕ → Counts → ℕ → ℕ → Made Counts
insert_exists t k v a = add_one t k (node_record (exists_kind + child_unit) v a 0 0 0 (exists_info t v a))

-- The record of a U node has what the U nodes from it on come to.
unfoldable pub insert_forall : List ℕ → Counts → ℕ → ℕ → Made Counts
insert_forall t k v a =
    add_one t k (node_record (forall_kind + child_unit) v a (below_of t a) (names_over t v a) (count_over t v a) (forall_info t v a))

-- C and Q.
unfoldable pub insert_clause : List ℕ → Counts → ℕ → Made Counts
insert_clause t k n =
    cond (leb max_clauses k.clauses) (made t (Err TooMany))
    (cond (leb k.nodes n) (made t (Err Unknown))
    (cond (eqb (members_of t n) 0) (made t (Err WrongKind))
    (cond (eqb (mask_of t n) 0)
    (made (set t (clause_at k.clauses) n) (Ok (counts k.symbols k.nodes (k.clauses + 1))))
    (made t (Err FreeVariable)))))

unfoldable pub check_goal : List ℕ → Counts → ℕ → Result ℕ Reason
check_goal t k n = cond (leb k.nodes n) (Err Unknown) (cond (eqb (goal_bit t n) 1) (Ok n) (Err WrongKind))
