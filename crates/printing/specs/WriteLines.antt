-- Document 01, "The answer text": the lines. "Tabs and LF stand as on the sheet."
use Rattle.std.specs.Prelude.{ℕ, zero, suc, ◌-◌, ◌/◌, ◌%◌, true, false, cond, List, eqb, ltb}
use Rattle.sheet_format.specs.Bytes.{ascii, tab, lf}
use Rattle.machine.specs.Fields as fields
use Rattle.machine.specs.Records.{true_line, and_line, left_line, right_line, some_line, all_line}
use Rattle.machine.specs.Words.{variable_word, constant_word}
use Rattle.printing.specs.Output.{write_bytes, write_number}
use Rattle.printing.specs.Numbering.{Printer, wrote}
use Rattle.printing.specs.WriteTerms.{emit_to, term_to}
use Rattle.printing.specs.PathLinks.{next_line_field, line_codes}
use Rattle.memory.specs.Records.{field}

-- Bytes on the printer.
unfoldable pub bytes_to : ℕ → Printer → List ℕ → Printer
bytes_to limit g bs = wrote g (write_bytes bs g.buffer limit g.cursor.at)

-- A number on the printer.
unfoldable pub number_to : ℕ → Printer → ℕ → Printer
number_to limit g n = wrote g (write_number g.buffer limit g.cursor.at n)

-- "First `R`, outcome, units": bs are the bytes before the units.
unfoldable pub result_to : ℕ → Printer → List ℕ → ℕ → Printer
result_to limit g bs units = emit_to limit (number_to limit (bytes_to limit g bs) units) lf

-- The five lines that have no term.
unfoldable pub plain_bytes : ℕ → List ℕ
plain_bytes k =
    cond (eqb k true_line) (ascii "D\ttrue\n")
    (cond (eqb k and_line) (ascii "D\tand\n")
    (cond (eqb k left_line) (ascii "D\tleft\n") (cond (eqb k right_line) (ascii "D\tright\n") (ascii "D\tassume\n"))))

module _ (sheet t : List ℕ) (turns limit : ℕ) where
  -- A line of these bytes and the term of word a.
  unfoldable pub term_line : Printer → List ℕ → ℕ → Printer
  term_line g bs a = emit_to limit (term_to sheet t turns limit (bytes_to limit g bs) a) lf

  -- "`B v term` for each free variable, ascending": the names from v on, n of them; the lowest bit of the mask is that of v.
  unfoldable pub bindings_to : ℕ → ℕ → ℕ → Printer → Printer
  bindings_to zero mask v g = g
  bindings_to (suc n) mask v g =
      elim (eqb (mask % 2) 1) [
        | true ↦ bindings_to n (mask / 2) (suc v) (term_line (number_to limit (bytes_to limit g (ascii "B\t")) v) (ascii "\t") (variable_word v))
        | false ↦ bindings_to n (mask / 2) (suc v) g
      ]

  -- The terms of a prefix: n variables from x on.
  unfoldable pub prefix_to : ℕ → Printer → ℕ → Printer
  prefix_to zero g x = g
  prefix_to (suc n) g x = prefix_to n (term_to sheet t turns limit (emit_to limit g tab) (variable_word x)) (suc x)

  -- "`D clause place term...`", of record q.
  unfoldable pub clause_to : Printer → ℕ → Printer
  clause_to g q =
      let s = number_to limit (bytes_to limit g (ascii "D\tclause\t")) (field g.memory q fields.use_place) in
      emit_to limit (prefix_to (field g.memory q fields.use_count) s (field g.memory q fields.variables)) lf

  -- The line of kind k in record q.
  unfoldable pub line_to : Printer → ℕ → ℕ → Printer
  line_to g q k = elim (ltb k some_line) [
    | true ↦ bytes_to limit g (plain_bytes k)
    | false ↦ elim (eqb k some_line) [
      | true ↦ term_line g (ascii "D\tsome\t") (variable_word (field g.memory q fields.variables))
      | false ↦ elim (eqb k all_line) [ true ↦ term_line g (ascii "D\tall\t") (constant_word q) | false ↦ clause_to g q ]
    ]
  ]

  -- The lines from link e on, at most n of them (Links).
  unfoldable pub lines_to : ℕ → Printer → ℕ → Printer
  lines_to zero g e = g
  lines_to (suc n) g e =
      elim (eqb (e / line_codes) 0) [
        | true ↦ g
        | false ↦
            lines_to n (line_to g (e / line_codes - 1) (e % line_codes)) (field g.memory (e / line_codes - 1) next_line_field)
      ]
