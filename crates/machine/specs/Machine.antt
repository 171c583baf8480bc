-- One act of the machine, and at most so many acts from any registers.
use Rattle.std.specs.Prelude.{ℕ, zero, suc, true, false, cond, List, eqb, ltb}
use Rattle.sheet_format.specs.Limits.{variable_names}
use Rattle.machine.specs.declared.Registers.{Registers}
use Rattle.machine.specs.Records.{Made, made, take_mode, proved_mode, try_mode, compare_mode}
use Rattle.machine.specs.RegisterUpdates.{with_acts}
use Rattle.machine.specs.Words.{increment}
use Rattle.machine.specs.Frames.{put_variables}
use Rattle.machine.specs.Goals.{take_goal}
use Rattle.machine.specs.Matching.{compare_pair, check_node}
use Rattle.machine.specs.Backchaining.{try_next}

-- The act that is due: t is the table, c the number of the sheet's clauses.
unfoldable pub due_act : List ℕ → ℕ → List ℕ → Registers → Made
due_act t c w r =
    cond (eqb r.mode take_mode) (take_goal t c w r)
    (cond (eqb r.mode try_mode) (try_next t c w r) (cond (eqb r.mode compare_mode) (compare_pair t w r) (check_node t w r)))

-- "Each of these four acts takes one unit", and so does following a binding (request W-206).
unfoldable pub act : List ℕ → ℕ → List ℕ → Registers → Made
act t c w r =
    let m = due_act t c w r in
    made m.memory (with_acts m.registers (increment r.acts))

-- At most n acts: while one is due.
unfoldable pub run_acts : ℕ → List ℕ → ℕ → List ℕ → Registers → Made
run_acts zero t c w r = made w r
run_acts (suc n) t c w r =
    elim (ltb r.mode proved_mode) [ true ↦ run_acts n t c (act t c w r).memory (act t c w r).registers | false ↦ made w r ]

-- The start: the eight variables of the goal's names are made, the goal is due.
unfoldable pub start_memory : List ℕ → List ℕ
start_memory w = put_variables variable_names w 0

unfoldable pub start_registers : ℕ → Registers
start_registers goal = record {
  acts = 0;
  mode = take_mode;
  next = variable_names;
  trail = 0;
  choice = 0;
  goals = 0;
  path = 0;
  line = 0;
  node = goal;
  frame = 0;
  program = 0;
  level = 0;
  hypothesis = 0;
  clause = 0;
  member = 0;
  place = 0;
  left = 0;
  right = 0;
  pairs = 0;
  nodes = 0;
}

-- From the start, within a budget.
unfoldable pub run_machine : ℕ → List ℕ → ℕ → ℕ → List ℕ → Made
run_machine budget t c goal w = run_acts budget t c (start_memory w) (start_registers goal)
