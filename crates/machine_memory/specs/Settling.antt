-- A function that fails says so in the mode alone, and the loop over acts settles it in one place: then the latest choice point is
-- resumed. So the contracts of the acts that may fail are equations with `settled`; the definitions of the crate machine resume it at
-- once.
use Rattle.std.specs.Prelude.{ℕ, cond, List, eqb}
use Rattle.machine.specs.declared.Registers.{Registers}
use Rattle.machine.specs.Records.{Made, made}
use Rattle.machine.specs.ChoicePoints.{failed}

-- The mode of registers that have failed. No definition of the crate machine has it.
abbrev pub failed_mode : ℕ
failed_mode = 6

-- What memory and registers come to: a failure is settled.
unfoldable pub settled : List ℕ → Registers → Made
settled w r = cond (eqb r.mode failed_mode) (failed w r) (made w r)
