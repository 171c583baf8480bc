-- One law for each way through a turn of a loop or through a call; the hypotheses are the facts on the code's path.
use Prim.Native.Nat.{ℕ, ◌-◌, ◌/◌}
use mathlib.Core.Path.{◌≡◌}
use mathlib.Core.List.{List}
use Rattle.machine.specs.Fields as fields
use Rattle.machine.specs.Records.{cell_of, level_of}
use Rattle.printing.specs.declared.Cursor.{Cursor}
use Rattle.printing.specs.Output.{written, write_symbol}
use Rattle.printing.specs.Numbering.{with_position, printer, wrote, numbered_memory, number_variable, number_constant, write_variable}
use Rattle.printing.specs.Numbering.{write_constant, constant_number_field}
use Rattle.memory.specs.Records.{field}

module _ (w w' out out' : List ℕ) (limit x : ℕ) (p m q : Cursor) (k level to : ℕ) where
  pub variable_written : (b : ℕ) → numbered_memory w' m ≡ number_variable w p x → b ≡ cell_of w' x → k ≡ b / 4 - 1 → level ≡ level_of w' x
      → written out' to ≡ write_symbol out limit m.at 95 k level → q ≡ with_position m to
      → printer w' out' q ≡ write_variable limit (printer w out p) x
  unfolding write_variable wrote
  variable_written b em eb ek el es eq = rw eq (simp (write_variable, wrote, ← em, ← eb, ← ek, ← el, ← es))

  pub constant_written : (turns b : ℕ) → numbered_memory w' m ≡ number_constant turns w p x → b ≡ field w' x constant_number_field → k ≡ b - 1
      → level ≡ field w' x fields.constant_level → written out' to ≡ write_symbol out limit m.at 33 k level → q ≡ with_position m to
      → printer w' out' q ≡ write_constant turns limit (printer w out p) x
  unfolding write_constant wrote
  constant_written turns b em eb ek el es eq = rw eq (simp (write_constant, wrote, ← em, ← eb, ← ek, ← el, ← es))
