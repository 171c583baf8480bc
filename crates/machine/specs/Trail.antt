-- The trail: an act that lowers a level or binds a variable notes it in its record, so that taking up an alternative can undo it.
use Rattle.std.specs.Prelude.{ℕ, zero, suc, ◌-◌, true, false, cond, List, eqb}
use Rattle.machine.specs.Fields as fields
use Rattle.machine.specs.Records.{level_of, put_cell, put_level, put_entry}
use Rattle.machine.specs.Words.{name_of}
use Rattle.memory.specs.Records.{field}

-- Writes to a variable by its word; 0 is no variable.
unfoldable pub lower_to : List ℕ → ℕ → ℕ → List ℕ
lower_to w a k = cond (eqb a 0) w (put_level w (name_of a) k)

unfoldable pub bind_to : List ℕ → ℕ → ℕ → List ℕ
bind_to w a v = cond (eqb a 0) w (put_cell w (name_of a) v)

unfoldable pub old_level : List ℕ → ℕ → ℕ
old_level w a = cond (eqb a 0) 0 (level_of w (name_of a))

-- Lower z to k and bind y to v, with one entry in record u; before is the entry before.
unfoldable pub effect : List ℕ → ℕ → ℕ → ℕ → ℕ → ℕ → ℕ → List ℕ
effect w u z k y v before = put_entry (bind_to (lower_to w z k) y v) u z (old_level w z) y before

-- Undo the entry in record q.
unfoldable pub undo_entry : List ℕ → ℕ → List ℕ
undo_entry w q = lower_to (bind_to w (field w q fields.entry_bound) 0) (field w q fields.entry_lowered) (field w q fields.entry_level)

-- Undo the entries from h down to the mark, at most n of them.
unfoldable pub undo : ℕ → List ℕ → ℕ → ℕ → List ℕ
undo zero w h mark = w
undo (suc n) w h mark = elim (eqb h mark) [ true ↦ w | false ↦ undo n (undo_entry w (h - 1)) (field w (h - 1) fields.entry_before) mark ]
