-- Matching (document 01, "The walk", third paragraph): comparing a pair, looking at one node in a range check; and following one
-- binding (request W-206). Pairs and nodes wait as the arguments of linked records; a position is a pointer and the number of an argument,
-- in one number, 0 for none. No position is ever past the last argument: what comes then is the position that the record keeps. Once a
-- binding of the pair or the node that is due has been followed, its words are in the registers.
use Rattle.std.specs.Prelude.{ℕ, ◌+◌, ◌-◌, ◌*◌, ◌/◌, ◌%◌, min, cond, List, eqb, ltb, leb}
use Rattle.sheet_format.specs.Limits.{max_arity}
use Rattle.node_table.specs.Layout.{child_count, label_of, child_of}
use Rattle.machine.specs.declared.Registers.{Registers}
use Rattle.machine.specs.Fields as fields
use Rattle.machine.specs.Records.{level_of, Made, made, put_pairs, put_nodes}
use Rattle.machine.specs.RegisterUpdates.{with_trail, with_pairs, with_sides, with_check, with_due, with_nodes}
use Rattle.machine.specs.Words.{truncate, increment, tag_of, name_of, node_of, frame_of, word_of, variable_tag, constant_tag, binding_of}
use Rattle.machine.specs.Trail.{effect}
use Rattle.machine.specs.ChoicePoints.{failed}
use Rattle.machine.specs.Goals.{proceed}
use Rattle.memory.specs.Records.{field}

unfoldable pub position_word : ℕ → ℕ → ℕ
position_word p i = truncate (max_arity * p + i)

-- The position of argument i in the record of pointer p, if it has one; else what comes after the record.
unfoldable pub pairs_from : List ℕ → List ℕ → ℕ → ℕ → ℕ
pairs_from t w p i = cond (ltb i (child_count t (field w (p - 1) fields.goal_side_node))) (position_word p i) (field w (p - 1) fields.pairs_after)

unfoldable pub nodes_from : List ℕ → List ℕ → ℕ → ℕ → ℕ
nodes_from t w p i =
    cond (ltb i (child_count t (field w (p - 1) fields.waiting_node))) (position_word p i) (field w (p - 1) fields.waiting_after)

-- The argument at a position: f is the field of the node, the frame is in the next one.
unfoldable pub argument_word : List ℕ → List ℕ → ℕ → ℕ → ℕ
argument_word t w a f = word_of t w (child_of t (field w (a / max_arity - 1) f) (a % max_arity)) (field w (a / max_arity - 1) (f + 1))

-- The position after that of a pair.
unfoldable pub pairs_after : List ℕ → List ℕ → ℕ → ℕ
pairs_after t w a = pairs_from t w (a / max_arity) (a % max_arity + 1)

-- The pairs at position a are due; where none is left, the next goal.
unfoldable pub due_pairs : List ℕ → Registers → ℕ → Registers
due_pairs w r a = cond (eqb a 0) (proceed w r) (with_pairs r a)

-- "Two applications: the same symbol, then their arguments; else fail." Labels tell symbols and numbers (request W-204) apart. After them the
-- pairs at e.
unfoldable pub compare_closures : List ℕ → List ℕ → Registers → ℕ → ℕ → ℕ → Made
compare_closures t w r e x y =
    cond (eqb (label_of t (node_of x)) (label_of t (node_of y)))
    (let w' = put_pairs w r.acts (node_of x) (frame_of x) (node_of y) (frame_of y) e in
    made w' (due_pairs w' r (pairs_from t w' (increment r.acts) 0)))
    (failed w r)

-- "The same variable or the same made constant twice: done."
unfoldable pub compare_leaves : List ℕ → Registers → ℕ → ℕ → ℕ → Made
compare_leaves w r e x y = cond (eqb x y) (made w (due_pairs w r e)) (failed w r)

-- "Goal side a variable: range check the other side, then bind. Else clause side a variable: likewise." Both are looked through.
unfoldable pub compare_words : List ℕ → List ℕ → Registers → ℕ → ℕ → ℕ → Made
compare_words t w r e x y =
    cond (eqb (tag_of x) variable_tag) (cond (eqb x y) (made w (due_pairs w r e)) (made w (with_check r e x y)))
    (cond (eqb (tag_of y) variable_tag) (made w (with_check r e y x))
    (cond (eqb (tag_of x) constant_tag) (compare_leaves w r e x y)
    (cond (eqb (tag_of y) constant_tag) (failed w r) (compare_closures t w r e x y))))

-- The words of the pair that is due.
unfoldable pub left_word : List ℕ → List ℕ → Registers → ℕ
left_word t w r = cond (eqb r.left 0) (argument_word t w r.pairs fields.goal_side_node) r.left

unfoldable pub right_word : List ℕ → List ℕ → Registers → ℕ
right_word t w r = cond (eqb r.left 0) (argument_word t w r.pairs fields.clause_side_node) r.right

-- One act on the pair of the words x and y: a binding of the goal's side is followed; else one of the clause's; else they are compared.
unfoldable pub compare_sides : List ℕ → List ℕ → Registers → ℕ → ℕ → Made
compare_sides t w r x y =
    cond (eqb (binding_of w x) 0)
    (cond (eqb (binding_of w y) 0) (compare_words t w r (pairs_after t w r.pairs) x y) (made w (with_sides r x (binding_of w y))))
    (made w (with_sides r (binding_of w x) y))

unfoldable pub compare_pair : List ℕ → List ℕ → Registers → Made
compare_pair t w r = compare_sides t w r (left_word t w r) (right_word t w r)

-- No node is left: lower z to k, bind, go on with the pairs.
unfoldable pub bind_value : List ℕ → Registers → ℕ → ℕ → Made
bind_value w r z k =
    let w' = effect w r.acts z k r.left r.right r.trail in
    made w' (due_pairs w' (with_trail r (increment r.acts)) r.pairs)

-- A node has passed, z is lowered to k (0: nothing is), the nodes at e are left.
unfoldable pub pass_node : List ℕ → Registers → ℕ → ℕ → ℕ → Made
pass_node w r z k e =
    cond (eqb e 0) (bind_value w r z k) (made (effect w r.acts z k 0 0 r.trail) (with_nodes (with_trail r (increment r.acts)) e))

-- "it fails at that variable or at a made constant above k, and lowers a variable above k to k"
unfoldable pub visit_variable : List ℕ → Registers → ℕ → ℕ → Made
visit_variable w r e x =
    cond (eqb x r.left) (failed w r) (pass_node w r x (min (level_of w (name_of x)) (level_of w (name_of r.left))) e)

unfoldable pub visit_constant : List ℕ → Registers → ℕ → ℕ → Made
visit_constant w r e x =
    cond (leb (field w (name_of x) fields.constant_level) (level_of w (name_of r.left))) (pass_node w r 0 0 e) (failed w r)

unfoldable pub visit_closure : List ℕ → List ℕ → Registers → ℕ → ℕ → Made
visit_closure t w r e x =
    let w' = put_nodes w r.acts (node_of x) (frame_of x) e in
    pass_node w' r 0 0 (nodes_from t w' (increment r.acts) 0)

unfoldable pub visit_word : List ℕ → List ℕ → Registers → ℕ → ℕ → Made
visit_word t w r e x =
    cond (eqb (tag_of x) variable_tag) (visit_variable w r e x)
    (cond (eqb (tag_of x) constant_tag) (visit_constant w r e x) (visit_closure t w r e x))

-- The word of the node that is due. After it, the nodes left.
unfoldable pub due_word : List ℕ → List ℕ → Registers → ℕ
due_word t w r = cond (eqb r.node 0) (argument_word t w r.nodes fields.waiting_node) r.node

unfoldable pub nodes_after : List ℕ → List ℕ → ℕ → ℕ
nodes_after t w a = cond (eqb a 0) 0 (nodes_from t w (a / max_arity) (a % max_arity + 1))

-- One act on the node of the word x: a binding of it is followed; else it is looked at.
unfoldable pub check_word : List ℕ → List ℕ → Registers → ℕ → Made
check_word t w r x = cond (eqb (binding_of w x) 0) (visit_word t w r (nodes_after t w r.nodes) x) (made w (with_due r (binding_of w x)))

unfoldable pub check_node : List ℕ → List ℕ → Registers → Made
check_node t w r = check_word t w r (due_word t w r)
