-- The machine's part of demands 2 and 3: for every sheet that stands in the table, every permitted budget and whatever the work
-- buffer held before, it tells what the search of document 01 tells: outcome, units, and, if proved, bindings, levels and path.
use Rattle.std.specs.Prelude.{ℕ, ◌*◌, ◌≤◌, ◌≡◌, List, length}
use Rattle.search.specs.Search.{search, after}
use Rattle.sheet_format.specs.Limits.{max_budget, numbers_per_unit}
use Rattle.sheet_format.specs.Sheets.{Sheet, rules_of}
use Rattle.node_table.specs.Decoding.{decode_sheet}
use Rattle.node_table.specs.WellMade.{WellMade}
use Rattle.machine.specs.LinkedChains.{Linked, Finds}
use Rattle.machine.specs.Machine.{run_machine}
use Rattle.machine.specs.Simulation.{Reports, Stands}

-- The table is one that the reader makes, and it stands for the sheet.
pub record StandsFor (bytes t : List ℕ) (symbols nodes clauses goal : ℕ) (s : Sheet) : Type 0 where
  pub made : WellMade t nodes clauses goal
  pub decoded : decode_sheet bytes t symbols clauses goal ≡ s

-- Within a budget.
abbrev pub MachineReports : Type 0
MachineReports = (bytes t : List ℕ) (symbols nodes clauses goal : ℕ) (s : Sheet) → StandsFor bytes t symbols nodes clauses goal s
    → (budget : ℕ) → budget ≤ max_budget → (work : List ℕ) → numbers_per_unit * budget ≤ length work
    → Reports t (run_machine budget t clauses goal work) (search budget (rules_of s) s.goal)

-- After each number of acts: the whole state of the search.
abbrev pub MachineFollows : Type 0
MachineFollows = (bytes t : List ℕ) (symbols nodes clauses goal : ℕ) (s : Sheet) → StandsFor bytes t symbols nodes clauses goal s
    → (n : ℕ) → n ≤ max_budget → (work : List ℕ) → numbers_per_unit ≤ length work → numbers_per_unit * n ≤ length work
    → Stands t clauses (run_machine n t clauses goal work) (after (rules_of s) s.goal n)

-- W-207: of every chain of n assumptions, the one that stands i-th from the oldest end is found by jumps.
abbrev pub FindsAssumptions : Type 0
FindsAssumptions = (n : ℕ) (w : List ℕ) (p : ℕ) → Linked n w p → Finds n w p
