-- Writing a term follows the bindings of its word to their end. That takes no unit: request W-206 counts bindings that are looked
-- through "in the walk".
use Rattle.std.specs.Prelude.{ℕ, zero, suc, true, false, List, eqb}
use Rattle.machine.specs.Records.{cell_of}
use Rattle.machine.specs.Words.{tag_of, name_of, variable_tag}

-- At most n bindings. A word of tag 0 binds nothing: an unbound variable's 0, and the numbers that the printer gives to the variables
-- left over.
unfoldable pub deref : ℕ → List ℕ → ℕ → ℕ
deref zero w a = a
deref (suc n) w a = elim (eqb (tag_of a) variable_tag) [
  | true ↦ elim (eqb (tag_of (cell_of w (name_of a))) 0) [ true ↦ a | false ↦ deref n w (cell_of w (name_of a)) ]
  | false ↦ a
]
