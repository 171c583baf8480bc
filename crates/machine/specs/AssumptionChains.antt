-- The assumptions of a program are a chain of records, linked from the latest to the oldest. In the default order they are tried
-- oldest first (W-207), so each record has the oldest of its chain, its depth, the number of assumptions from it on, and a jump to an
-- older assumption or to the end: the one of a given depth is found in a number of steps that is logarithmic in the chain's length (skew
-- binary numbers: E. W. Myers, An applicative random-access stack, 1983). A pointer is the number of a record plus 1, 0 for none.
use Rattle.std.specs.Prelude.{ℕ, zero, suc, ◌+◌, ◌-◌, ◌*◌, cond, List, eqb, leb, ltb}
use Rattle.machine.specs.Fields as fields
use Rattle.machine.specs.Words.{increment}
use Rattle.memory.specs.Records.{field, put_field}

-- Field f of the assumption that pointer p names, 0 for none.
unfoldable pub assumption_field : List ℕ → ℕ → ℕ → ℕ
assumption_field w p f = cond (eqb p 0) 0 (field w (p - 1) f)

-- The assumption made before p.
abbrev pub parent_of : List ℕ → ℕ → ℕ
parent_of w p = assumption_field w p fields.assumption_next

-- The number of assumptions from p on.
abbrev pub depth_of : List ℕ → ℕ → ℕ
depth_of w p = assumption_field w p fields.assumption_depth

-- An older assumption, from which the search for one that is older still may go on, or 0.
abbrev pub jump_of : List ℕ → ℕ → ℕ
jump_of w p = assumption_field w p fields.assumption_jump

-- The depth of a record whose parent is p.
abbrev pub depth_for : List ℕ → ℕ → ℕ
depth_for w p = increment (depth_of w p)

-- The jump of a record whose parent is p: if p's jump and the jump after it go equally far, both together; else to p.
unfoldable pub jump_for : List ℕ → ℕ → ℕ
jump_for w p =
    cond (eqb (depth_of w p + depth_of w (jump_of w (jump_of w p))) (2 * depth_of w (jump_of w p))) (jump_of w (jump_of w p)) p

-- The oldest assumption of the chain p, 0 if it has none.
abbrev pub oldest_of : List ℕ → ℕ → ℕ
oldest_of w p = assumption_field w p fields.assumption_oldest

-- The oldest of the chain of record u, whose parent is p: the record itself, if it is the first.
unfoldable pub oldest_for : List ℕ → ℕ → ℕ → ℕ
oldest_for w u p = cond (eqb p 0) (increment u) (oldest_of w p)

-- Writes the depth, the jump and the oldest of record u, whose parent is p.
unfoldable pub put_chain : List ℕ → ℕ → ℕ → List ℕ
put_chain w u p =
    put_field (put_field (put_field w u fields.assumption_depth (depth_for w p)) u fields.assumption_jump (jump_for w p)) u fields.assumption_oldest
    (oldest_for w u p)

-- One step from p towards the assumption of depth d: along the jump, unless it goes past that one; then to the parent.
unfoldable pub step_towards : List ℕ → ℕ → ℕ → ℕ
step_towards w p d = cond (ltb (depth_of w (jump_of w p)) d) (parent_of w p) (jump_of w p)

-- The assumption of depth d on the chain p, found in at most n steps.
unfoldable pub find_ancestor : ℕ → List ℕ → ℕ → ℕ → ℕ
find_ancestor zero w p d = p
find_ancestor (suc n) w p d = cond (leb (depth_of w p) d) p (find_ancestor n w (step_towards w p d) d)

-- The assumption of the chain p that was made after h, 0 if h is the latest.
unfoldable pub later_of : List ℕ → ℕ → ℕ → ℕ
later_of w p h = cond (ltb (depth_of w h) (depth_of w p)) (find_ancestor (depth_of w p) w p (depth_of w h + 1)) 0
