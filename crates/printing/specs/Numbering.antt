-- Numbering by first showing, in memory. The number of a leftover variable, plus 1, stands in its own binding as a word of tag 0;
-- that of a made constant, plus 1, in a field of the record of the act that made it. 0 is: not shown yet. What the search left in
-- these fields is cleared when the first constant is shown; most texts show none.
use Rattle.std.specs.Prelude.{ℕ, zero, suc, ◌-◌, ◌*◌, ◌/◌, cond, List, eqb}
use Prim.Native.Char.{code}
use Rattle.machine.specs.Fields as fields
use Rattle.machine.specs.Records.{cell_of, level_of, put_cell}
use Rattle.machine.specs.Words.{truncate, increment, tag_count}
use Rattle.printing.specs.declared.Cursor.{Cursor}
use Rattle.printing.specs.Output.{Written, write_symbol}
use Rattle.memory.specs.Records.{field, put_field}

-- Field of a record that the search leaves free: the number of the made constant, plus 1.
abbrev pub constant_number_field : ℕ
constant_number_field = 63

-- Changes of the cursor.
unfoldable pub with_position : Cursor → ℕ → Cursor
with_position p a = record { at = a; variables = p.variables; constants = p.constants }

-- Changes the number of variables.
unfoldable pub with_variables : Cursor → ℕ → Cursor
with_variables p n = record { at = p.at; variables = n; constants = p.constants }

-- Changes the number of constants.
unfoldable pub with_constants : Cursor → ℕ → Cursor
with_constants p n = record { at = p.at; variables = p.variables; constants = n }

-- The work buffer, the answer buffer and the cursor.
pub record Printer : Type 0 where
  pub memory : List ℕ
  pub buffer : List ℕ
  pub cursor : Cursor

-- A work buffer, an answer buffer and a cursor make a printer.
abbrev pub printer : List ℕ → List ℕ → Cursor → Printer
printer w out p = record { memory = w; buffer = out; cursor = p }

-- Bytes were written; the memory is as it was.
unfoldable pub wrote : Printer → Written → Printer
wrote g s = printer g.memory s.buffer (with_position g.cursor s.at)

-- The work buffer and the cursor.
pub record NumberedMemory : Type 0 where
  pub memory : List ℕ
  pub cursor : Cursor

-- A work buffer and a cursor make a record.
abbrev pub numbered_memory : List ℕ → Cursor → NumberedMemory
numbered_memory w p = record { memory = w; cursor = p }

-- The next number, if there is none yet.
unfoldable pub number_variable : List ℕ → Cursor → ℕ → NumberedMemory
number_variable w p x =
    cond (eqb (cell_of w x) 0) (numbered_memory (put_cell w x (truncate (tag_count * increment p.variables)))
    (with_variables p (increment p.variables))) (numbered_memory w p)

-- Field 63 of the first n records: no constant has shown.
unfoldable pub clear_constants : ℕ → List ℕ → List ℕ
clear_constants zero w = w
clear_constants (suc n) w = clear_constants n (put_field w n constant_number_field 0)

-- The number of constant c, plus 1, where n constants have shown. Before the first the fields mean nothing.
unfoldable pub constant_mark : List ℕ → ℕ → ℕ → ℕ
constant_mark w n c = cond (eqb n 0) 0 (field w c constant_number_field)

-- The fields are made ready for one constant more, where n have shown: before the first those of all acts are cleared.
unfoldable pub clear_at_first : ℕ → List ℕ → ℕ → List ℕ
clear_at_first turns w n = cond (eqb n 0) (clear_constants turns w) w

-- A constant gets the next number, if it has none yet.
unfoldable pub number_constant : ℕ → List ℕ → Cursor → ℕ → NumberedMemory
number_constant turns w p c =
    cond (eqb (constant_mark w p.constants c) 0)
    (numbered_memory (put_field (clear_at_first turns w p.constants) c constant_number_field (increment p.constants))
    (with_constants p (increment p.constants)))
    (numbered_memory w p)

-- A symbol is shown: its number, and its final level.
unfoldable pub write_variable : ℕ → Printer → ℕ → Printer
write_variable limit g x =
    let m = number_variable g.memory g.cursor x in
    wrote (printer m.memory g.buffer m.cursor)
    (write_symbol g.buffer limit m.cursor.at (code "_") (cell_of m.memory x / tag_count - 1) (level_of m.memory x))

-- A constant is shown: its number, and its level.
unfoldable pub write_constant : ℕ → ℕ → Printer → ℕ → Printer
write_constant turns limit g c =
    let m = number_constant turns g.memory g.cursor c in
    wrote (printer m.memory g.buffer m.cursor)
    (write_symbol g.buffer limit m.cursor.at (code "!") (field m.memory c constant_number_field - 1)
    (field m.memory c fields.constant_level))
