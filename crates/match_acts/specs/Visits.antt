-- What a node of a range check comes to, before the registers are written.
use Rattle.std.specs.Prelude.{ℕ, List, Option, None, Some}
use Rattle.machine.specs.declared.Registers.{Registers}
use Rattle.machine.specs.Records.{Made}
use Rattle.machine.specs.ChoicePoints.{failed}
use Rattle.machine.specs.Matching.{pass_node}

-- The act that a visit ends in: of a node that passes, the variable to lower, its level then, and the nodes left.
unfoldable pub passed : List ℕ → Registers → Option (ℕ × ℕ × ℕ) → Made
passed w r v = elim v [ None ↦ failed w r | Some (z, k, e) ↦ pass_node w r z k e ]
