-- The promises of `specs/Promises.antt`, kept.
use mathlib.Core.Path.{subst}
use Rattle.search.specs.Search.{search, after}
use Rattle.sheet_format.specs.Sheets.{Sheet, rules_of}
use Rattle.node_table.specs.Decoding.{decode_sheet}
use Rattle.machine.specs.Machine.{run_machine}
use Rattle.machine.specs.Simulation.{Reports, Stands}
use Rattle.machine.specs.Promises.{MachineReports, MachineFollows, FindsAssumptions}
use Rattle.machine.proofs.AssumptionChains.{finds}
use Rattle.machine.proofs.Simulation.{simulates, follows}

pub machine_reports : MachineReports
unfolding decode_sheet
machine_reports bytes t symbols nodes clauses goal s h budget few work room =
    subst (λ (q : Sheet). Reports t (run_machine budget t clauses goal work) (search budget (rules_of q) q.goal)) h.decoded
    (simulates t nodes clauses goal h.made budget few work room)

pub machine_follows : MachineFollows
unfolding decode_sheet
machine_follows bytes t symbols nodes clauses goal s h n few work some room =
    subst (λ (q : Sheet). Stands t clauses (run_machine n t clauses goal work) (after (rules_of q) q.goal n)) h.decoded
    (follows t nodes clauses goal h.made n few work some room)

pub finds_assumptions : FindsAssumptions
finds_assumptions = finds
