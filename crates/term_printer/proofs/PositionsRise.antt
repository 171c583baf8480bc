-- Positions never fall, so what is left of the answer bytes never rises.
use Prim.Native.Nat.{ℕ, zero, suc, ◌-◌, ◌/◌, ◌≤◌}
use Prim.Native.Char.{code}
use native.Mathlib.Omega.{arith}
use mathlib.Core.Path.{◌≡◌}
use mathlib.Core.Bool.{Bool, true, false}
use mathlib.Core.List.{List}
use lib.Dec.{eqb, ltb}
use Rattle.sheet_format.specs.Limits.{max_symbols}
use Rattle.node_table.specs.Layout.{child_count, label_of, child_of}
use Rattle.machine.specs.Fields as fields
use Rattle.machine.specs.Records.{cell_of, level_of}
use Rattle.machine.specs.Words.{tag_of, name_of, node_of, frame_of, word_of, constant_tag, variable_tag}
use Rattle.printing.specs.Bindings.{deref}
use Rattle.printing.specs.Output.{write_symbol}
use Rattle.printing.specs.Numbering.{with_position, Printer, wrote, number_variable, number_constant, write_variable, write_constant}
use Rattle.printing.specs.Numbering.{constant_number_field}
use Rattle.printing.specs.WriteTerms.{emit_to, write_name, write_functor, separator, arguments_by, bracketed_by, application_by, word_by, write_term}
use Rattle.printing.specs.WriteLines.{number_to}
use Rattle.printing.proofs.Bytes.{bytes_grow, symbol_bytes}
use Rattle.printing.proofs.PrinterStates.{number_then, emitted, name_then, printer_grow}
use Rattle.memory.specs.Records.{field}
use Rattle.printing.proofs.Steps.{number_at_lem, number_constant_at}

record Risen (g s : Printer) : Type 0 where
  position : g.cursor.at ≤ s.cursor.at

risen_same : (g : Printer) → Risen g g
risen_same g = record { position = omega arith }

risen_trans : (g s u : Printer) → Risen g s → Risen s u → Risen g u
risen_trans g s u p q = record { position = omega arith }

risen_either : (g x y : Printer) (b : Bool) → Risen g x → Risen g y → Risen g (elim b [ true ↦ x | false ↦ y ])
risen_either g x y true p q = p
risen_either g x y false p q = q

from : (a b c : ℕ) → b ≡ a → b ≤ c → a ≤ c
from a b c e h = omega arith

module _ (limit : ℕ) (small : limit ≤ 65535) where
  symbol_risen : (out : List ℕ) (at c n l : ℕ) → at ≤ (write_symbol out limit at c n l).at
  symbol_risen out at c n l = rw (symbol_bytes out limit at c n l) (bytes_grow _ out limit at small)

  variable_risen : (g : Printer) (x : ℕ) → Risen g (write_variable limit g x)
  unfolding write_variable wrote with_position
  variable_risen g x =
      let m = number_variable g.memory g.cursor x in
      record {
        position = from _ _ _ (number_at_lem g.memory g.cursor x)
            (symbol_risen g.buffer m.cursor.at (code "_") (cell_of m.memory x / 4 - 1) (level_of m.memory x));
      }

  constant_risen : (turns : ℕ) (g : Printer) (c : ℕ) → Risen g (write_constant turns limit g c)
  unfolding write_constant wrote with_position
  constant_risen turns g c =
      let m = number_constant turns g.memory g.cursor c in
      record {
        position = from _ _ _ (number_constant_at turns g.memory g.cursor c)
            (symbol_risen g.buffer m.cursor.at (code "!") (field m.memory c constant_number_field - 1)
            (field m.memory c fields.constant_level));
      }

  emit_risen : (g : Printer) (b : ℕ) → Risen g (emit_to limit g b)
  emit_risen g b = record { position = rw (emitted limit g b) (printer_grow limit g _ small) }

  name_risen : (sheet t : List ℕ) (g : Printer) (f : ℕ) → Risen g (write_name sheet t limit g f)
  name_risen sheet t g f = record { position = rw (name_then sheet t limit g f) (printer_grow limit g _ small) }

  number_risen : (g : Printer) (n : ℕ) → Risen g (number_to limit g n)
  number_risen g n = record { position = rw (number_then limit g n) (printer_grow limit g _ small) }

  functor_risen : (sheet t : List ℕ) (g : Printer) (l : ℕ) → Risen g (write_functor sheet t limit g l)
  unfolding write_functor number_to
  functor_risen sheet t g l = risen_either g _ _ (ltb l max_symbols) (name_risen sheet t g l) (number_risen g (l - max_symbols))

  module _ (sheet t : List ℕ) where
    arguments_risen : (write : Printer → ℕ → Printer) → ((g : Printer) (a : ℕ) → Risen g (write g a)) → (c n f j : ℕ) (g : Printer)
        → Risen g (arguments_by write t limit c n f j g)
    unfolding arguments_by
    arguments_risen write h zero n f j g = risen_same g
    arguments_risen write h (suc c) n f j g =
        let s = emit_to limit g (separator j) in
        let x = word_of t s.memory (child_of t n j) f in
        risen_trans g s _ (emit_risen g (separator j))
        (risen_trans s (write s x) _ (h s x) (arguments_risen write h c n f (suc j) (write s x)))

-- A writer at any limit.
abbrev Rising : (ℕ → Printer → ℕ → Printer) → Type 0
Rising write = (limit : ℕ) → limit ≤ 65535 → (g : Printer) (a : ℕ) → Risen g (write limit g a)

module _ (sheet t : List ℕ) (limit : ℕ) (small : limit ≤ 65535) (write : ℕ → Printer → ℕ → Printer) (h : Rising write) where
  bracketed_risen : (c n f : ℕ) (g : Printer) → Risen g (bracketed_by write t limit c n f g)
  unfolding bracketed_by
  bracketed_risen c n f g =
      let s = arguments_by (write (limit - 1)) t (limit - 1) c n f 0 g in
      risen_trans g s _
      (arguments_risen (limit - 1) (omega arith) sheet t (write (limit - 1)) (h (limit - 1) (omega arith)) c n f 0 g)
      (emit_risen limit small s (code ")"))

  application_risen : (g : Printer) (n f : ℕ) → Risen g (application_by write sheet t limit g n f)
  unfolding application_by
  application_risen g n f =
      let s = write_functor sheet t limit g (label_of t n) in
      let named = functor_risen limit small sheet t g (label_of t n) in
      risen_either g s _ (eqb (child_count t n) 0) named (risen_trans g s _ named (bracketed_risen (child_count t n) n f s))

  word_risen : (turns : ℕ) (g : Printer) (a : ℕ) → Risen g (word_by write sheet t turns limit g a)
  unfolding word_by
  word_risen turns g a =
      risen_either g _ _ (eqb (tag_of a) variable_tag) (variable_risen limit small g (name_of a))
      (risen_either g _ _ (eqb (tag_of a) constant_tag) (constant_risen limit small turns g (name_of a))
      (application_risen g (node_of a) (frame_of a)))

term_risen : (rank : ℕ) (sheet t : List ℕ) (turns : ℕ) → Rising (write_term rank sheet t turns)
unfolding write_term
term_risen zero sheet t turns limit small g a = risen_same g
term_risen (suc rank) sheet t turns limit small g a =
    risen_either g g _ (ltb limit g.cursor.at) (risen_same g)
    (word_risen sheet t limit small (write_term rank sheet t turns) (term_risen rank sheet t turns) turns g (deref turns g.memory a))

-- The same of what the code's calls gave.
after : (g s u : Printer) → Risen g s → u ≡ s → g.cursor.at ≤ u.cursor.at
after g s u p e = rw e p.position

module _ (limit : ℕ) (small : limit ≤ 65535) (g u : Printer) where
  pub emit_after : (b : ℕ) → u ≡ emit_to limit g b → g.cursor.at ≤ u.cursor.at
  emit_after b e = after g _ u (emit_risen limit small g b) e

  pub functor_after : (sheet t : List ℕ) (l : ℕ) → u ≡ write_functor sheet t limit g l → g.cursor.at ≤ u.cursor.at
  functor_after sheet t l e = after g _ u (functor_risen limit small sheet t g l) e

  pub term_after : (sheet t : List ℕ) (rank turns a : ℕ) → u ≡ write_term rank sheet t turns limit g a → g.cursor.at ≤ u.cursor.at
  term_after sheet t rank turns a e = after g _ u (term_risen rank sheet t turns limit small g a) e
