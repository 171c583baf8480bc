-- The work buffer: records of 64 numbers (memory/specs/Records), with the fields of Fields.
use Rattle.std.specs.Prelude.{ℕ, ◌+◌, ◌/◌, ◌%◌, List}
use Rattle.machine.specs.declared.Registers.{Registers}
use Rattle.machine.specs.Fields as fields
use Rattle.memory.specs.Records.{field, put_field}

-- Modes: the act that is due, or the verdict.
abbrev pub take_mode : ℕ
take_mode = 0

abbrev pub try_mode : ℕ
try_mode = 1

abbrev pub compare_mode : ℕ
compare_mode = 2

abbrev pub check_mode : ℕ
check_mode = 3

abbrev pub proved_mode : ℕ
proved_mode = 4

abbrev pub no_mode : ℕ
no_mode = 5

-- Lines of the path.
abbrev pub true_line : ℕ
true_line = 0

abbrev pub and_line : ℕ
and_line = 1

abbrev pub left_line : ℕ
left_line = 2

abbrev pub right_line : ℕ
right_line = 3

abbrev pub assume_line : ℕ
assume_line = 4

abbrev pub some_line : ℕ
some_line = 5

abbrev pub all_line : ℕ
all_line = 6

abbrev pub clause_line : ℕ
clause_line = 7

-- The binding and the level of a variable.
unfoldable pub cell_of : List ℕ → ℕ → ℕ
cell_of w x = field w (x / fields.cells) (x % fields.cells)

unfoldable pub level_of : List ℕ → ℕ → ℕ
level_of w x = field w (x / fields.cells) (fields.levels + x % fields.cells)

unfoldable pub put_cell : List ℕ → ℕ → ℕ → List ℕ
put_cell w x a = put_field w (x / fields.cells) (x % fields.cells) a

unfoldable pub put_level : List ℕ → ℕ → ℕ → List ℕ
put_level w x a = put_field w (x / fields.cells) (fields.levels + x % fields.cells) a

-- What an act leaves: the work buffer and the registers.
pub record Made : Type 0 where
  pub memory : List ℕ
  pub registers : Registers

abbrev pub made : List ℕ → Registers → Made
made w r = record { memory = w; registers = r }

-- The records of an act, one group of fields each.
unfoldable pub put_entry : List ℕ → ℕ → ℕ → ℕ → ℕ → ℕ → List ℕ
put_entry w u lowered level bound before =
    put_field (put_field (put_field (put_field w u fields.entry_lowered lowered) u fields.entry_level level) u fields.entry_bound bound) u
    fields.entry_before before

unfoldable pub put_goal : List ℕ → ℕ → ℕ → ℕ → ℕ → ℕ → ℕ → List ℕ
put_goal w u node frame program level next =
    put_field (put_field (put_field (put_field (put_field w u fields.goal_node node) u fields.goal_frame frame) u fields.goal_program program) u
    fields.goal_level level) u fields.goal_next next

unfoldable pub put_assumption : List ℕ → ℕ → ℕ → ℕ → ℕ → List ℕ
put_assumption w u clause frame next =
    put_field (put_field (put_field w u fields.assumption_node clause) u fields.assumption_frame frame) u fields.assumption_next next

unfoldable pub put_path : List ℕ → ℕ → ℕ → ℕ → List ℕ
put_path w u path line = put_field (put_field w u fields.path_before path) u fields.path_line line

-- Writes the fields of a member's use.
unfoldable pub put_use : List ℕ → ℕ → ℕ → ℕ → ℕ → List ℕ
put_use w u place count next = put_field (put_field (put_field w u fields.use_place place) u fields.use_count count) u fields.variables next

unfoldable pub put_choice : List ℕ → ℕ → ℕ → ℕ → ℕ → ℕ → ℕ → List ℕ
put_choice w u trail choice goals path line =
    put_field (put_field (put_field (put_field (put_field w u fields.choice_trail trail) u fields.choice_before choice) u fields.choice_goals
    goals) u fields.choice_path path) u fields.choice_line line

-- Writes the rest of a choice point: first the goal or atom; `put_position` writes the member.
unfoldable pub put_chosen : List ℕ → ℕ → ℕ → ℕ → ℕ → ℕ → List ℕ
put_chosen w u node frame program level =
    put_field (put_field (put_field (put_field w u fields.choice_node node) u fields.choice_frame frame) u fields.choice_program program) u
    fields.choice_level level

unfoldable pub put_position : List ℕ → ℕ → ℕ → ℕ → ℕ → ℕ → List ℕ
put_position w u hypothesis clause member place =
    put_field (put_field (put_field (put_field w u fields.choice_hypothesis hypothesis) u fields.choice_clause clause) u fields.choice_member
    member) u fields.choice_place place

unfoldable pub put_pairs : List ℕ → ℕ → ℕ → ℕ → ℕ → ℕ → ℕ → List ℕ
put_pairs w u node frame node' frame' after =
    put_field (put_field (put_field (put_field (put_field w u fields.goal_side_node node) u fields.goal_side_frame frame) u fields.clause_side_node
    node') u fields.clause_side_frame frame') u fields.pairs_after after

unfoldable pub put_nodes : List ℕ → ℕ → ℕ → ℕ → ℕ → List ℕ
put_nodes w u node frame after =
    put_field (put_field (put_field w u fields.waiting_node node) u fields.waiting_frame frame) u fields.waiting_after after
