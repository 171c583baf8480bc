-- Document 01: "A term is written as its name and, in round brackets, its arguments parted by commas, a constant as the bare name".
-- The writer of a term calls itself on its arguments, each time with a limit lower by the bracket still to be closed; it stops as
-- soon as the position has passed the limit, and at rank 0, which is met only then: before each call of itself it writes a bracket
-- or a comma. Where the arguments do not fit, the closing brackets bring the position past each of the limits above.
use Rattle.std.specs.Prelude.{ℕ, zero, suc, ◌-◌, true, false, cond, List, eqb, ltb}
use Prim.Native.Char.{code}
use Rattle.sheet_format.specs.Limits.{max_symbols}
use Rattle.node_table.specs.Layout.{child_count, label_of, child_of, name_start, name_length}
use Rattle.machine.specs.Words.{increment, tag_of, name_of, node_of, frame_of, word_of, constant_tag, variable_tag}
use Rattle.printing.specs.Output.{emit, copy_bytes, write_number}
use Rattle.printing.specs.Bindings.{deref}
use Rattle.printing.specs.Numbering.{Printer, wrote, write_variable, write_constant}

-- A byte on the printer.
unfoldable pub emit_to : ℕ → Printer → ℕ → Printer
emit_to limit g b = wrote g (emit g.buffer limit g.cursor.at b)

-- The name of symbol f, from the sheet.
unfoldable pub write_name : List ℕ → List ℕ → ℕ → Printer → ℕ → Printer
write_name sheet t limit g f = wrote g (copy_bytes (name_length t f) sheet (name_start t f) g.buffer limit g.cursor.at)

-- What stands before the arguments, by its label: the name of a symbol, or a number "in base ten" (request W-204).
unfoldable pub write_functor : List ℕ → List ℕ → ℕ → Printer → ℕ → Printer
write_functor sheet t limit g l =
    elim (ltb l max_symbols) [
      | true ↦ write_name sheet t limit g l
      | false ↦ wrote g (write_number g.buffer limit g.cursor.at (l - max_symbols))
    ]

-- What stands before argument j.
unfoldable pub separator : ℕ → ℕ
separator j = cond (eqb j 0) (code "(") (code ",")

-- The arguments from the j-th on, c of them, of node n in frame f, each by `write`, with what stands before it.
unfoldable pub arguments_by : (Printer → ℕ → Printer) → List ℕ → ℕ → ℕ → ℕ → ℕ → ℕ → Printer → Printer
arguments_by write t limit zero n f j g = g
arguments_by write t limit (suc c) n f j g =
    let s = emit_to limit g (separator j) in
    arguments_by write t limit c n f (suc j) (write s (word_of t s.memory (child_of t n j) f))

-- The arguments, c of them, and the closing bracket, of which the byte is kept free: `write` takes the limit.
unfoldable pub bracketed_by : (ℕ → Printer → ℕ → Printer) → List ℕ → ℕ → ℕ → ℕ → ℕ → Printer → Printer
bracketed_by write t limit c n f g = emit_to limit (arguments_by (write (limit - 1)) t (limit - 1) c n f 0 g) (code ")")

-- An application: its name or number, then its arguments, if there are any.
unfoldable pub application_by : (ℕ → Printer → ℕ → Printer) → List ℕ → List ℕ → ℕ → Printer → ℕ → ℕ → Printer
application_by write sheet t limit g n f =
    let s = write_functor sheet t limit g (label_of t n) in
    elim (eqb (child_count t n) 0) [ true ↦ s | false ↦ bracketed_by write t limit (child_count t n) n f s ]

-- The word a, looked through.
unfoldable pub word_by : (ℕ → Printer → ℕ → Printer) → List ℕ → List ℕ → ℕ → ℕ → Printer → ℕ → Printer
word_by write sheet t turns limit g a = elim (eqb (tag_of a) variable_tag) [
  | true ↦ write_variable limit g (name_of a)
  | false ↦
      elim (eqb (tag_of a) constant_tag) [
        | true ↦ write_constant turns limit g (name_of a)
        | false ↦
            application_by write sheet t limit g (node_of a) (frame_of a)
      ]
]

-- The term of word a: at most `turns` bindings are looked through at a time, and there are as many records of acts.
unfoldable pub write_term : ℕ → List ℕ → List ℕ → ℕ → ℕ → Printer → ℕ → Printer
write_term zero sheet t turns limit g a = g
write_term (suc rank) sheet t turns limit g a =
    elim (ltb limit g.cursor.at) [
      | true ↦ g
      | false ↦
          word_by (write_term rank sheet t turns) sheet t turns limit g (deref turns g.memory a)
    ]

-- A rank that suffices.
unfoldable pub term_to : List ℕ → List ℕ → ℕ → ℕ → Printer → ℕ → Printer
term_to sheet t turns limit g a = write_term (increment limit) sheet t turns limit g a
