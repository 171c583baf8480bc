-- One law for each way through a turn of a loop or through a call; the hypotheses are the facts on the code's path.
use Prim.Native.Nat.{ℕ, zero, suc, ◌-◌, ◌*◌, ◌≤◌, ◌<◌}
use native.Mathlib.Numerals.{sub-one}
use native.Mathlib.Omega.{arith}
use mathlib.Core.Path.{◌≡◌, refl}
use mathlib.Core.List.{List}
use borrow.Author.Tests.{eq-eqb, ne_eqb}
use Rattle.machine.specs.Records.{cell_of, put_cell}
use Rattle.machine.specs.Words.{truncate, increment}
use Rattle.printing.specs.declared.Cursor.{Cursor}
use Rattle.printing.specs.Numbering.{with_variables, with_constants, numbered_memory, number_variable, number_constant, constant_number_field}
use Rattle.printing.specs.Numbering.{clear_constants, constant_mark, clear_at_first}
use Rattle.memory.specs.Records.{field, put_field}

-- Numbers of symbols.
module _ (w : List ℕ) (p : Cursor) (x b : ℕ) where
  pub variable_had : b ≡ cell_of w x → (b ≡ 0 → ⊥) → numbered_memory w p ≡ number_variable w p x
  unfolding number_variable
  variable_had eb e = simp (number_variable, ← eb, ne_eqb _ _ e)

  pub variable_numbered : (n k a : ℕ) (w' : List ℕ) (q : Cursor) → b ≡ cell_of w x → b ≡ 0 → n ≡ increment p.variables → k ≡ n
      → a ≡ truncate (4 * k) → w' ≡ put_cell w x a → q ≡ with_variables p n → numbered_memory w' q ≡ number_variable w p x
  unfolding number_variable
  variable_numbered n k a w' q eb e en ek ea ew eq = rw (eq, ew, ea, ek) (simp (number_variable, ← eb, ← en, eq-eqb _ _ e))

  pub constant_had : (turns : ℕ) → b ≡ constant_mark w p.constants x → (b ≡ 0 → ⊥)
      → numbered_memory w p ≡ number_constant turns w p x
  unfolding number_constant
  constant_had turns eb e = simp (number_constant, ← eb, ne_eqb _ _ e)

  pub constant_numbered : (turns n : ℕ) (v w' : List ℕ) (q : Cursor) → b ≡ constant_mark w p.constants x → b ≡ 0
      → v ≡ clear_at_first turns w p.constants → n ≡ increment p.constants → w' ≡ put_field v x constant_number_field n
      → q ≡ with_constants p n → numbered_memory w' q ≡ number_constant turns w p x
  unfolding number_constant
  constant_numbered turns n v w' q eb e ev en ew eq = rw (eq, ew, ev) (simp (number_constant, ← eb, ← en, eq-eqb _ _ e))

-- Before the first constant there is no mark.
module _ (w : List ℕ) (n : ℕ) where
  pub mark_none : (c : ℕ) → n ≡ 0 → 0 ≡ constant_mark w n c
  unfolding constant_mark
  mark_none c e = simp (constant_mark, eq-eqb _ _ e)

  pub mark_read : (c r : ℕ) → (n ≡ 0 → ⊥) → r ≡ field w c constant_number_field → r ≡ constant_mark w n c
  unfolding constant_mark
  mark_read c r e er = rw er (simp (constant_mark, ne_eqb _ _ e))

  -- It clears, and a later one does not.
  pub later_kept : (turns : ℕ) → (n ≡ 0 → ⊥) → w ≡ clear_at_first turns w n
  unfolding clear_at_first
  later_kept turns e = simp (clear_at_first, ne_eqb _ _ e)

  pub first_cleared : (turns : ℕ) (w' : List ℕ) → n ≡ 0 → w' ≡ clear_constants turns w → w' ≡ clear_at_first turns w n
  unfolding clear_at_first
  first_cleared turns w' e ew = rw ew (simp (clear_at_first, eq-eqb _ _ e))

-- No numbers.
pub constants_end : (n : ℕ) (w : List ℕ) → n ≤ 0 → clear_constants n w ≡ w
unfolding clear_constants
constants_end zero w h = refl
constants_end (suc n) w h = absurd (omega arith)

pub constants_on : (n : ℕ) (w w' : List ℕ) → 0 < n → w' ≡ put_field w (n - 1) constant_number_field 0
    → clear_constants n w ≡ clear_constants (n - 1) w'
unfolding clear_constants
constants_on zero w w' h e = absurd (omega arith)
constants_on (suc n) w w' h e = rw (e, sub-one (suc n))
