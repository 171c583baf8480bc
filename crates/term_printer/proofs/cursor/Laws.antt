-- One law for each way through a turn of a loop or through a call; the hypotheses are the facts on the code's path.
use Prim.Native.Nat.{ℕ, ◌-◌, ◌<◌, ◌≤◌}
use mathlib.Core.Path.{◌≡◌, ◌∙◌}
use mathlib.Core.List.{List}
use borrow.Author.Tests.{eq-eqb, ne_eqb, lt-ltb, le-ltb}
use Rattle.sheet_format.specs.Limits.{max_symbols}
use Rattle.node_table.specs.Layout.{name_start, name_length}
use Rattle.printing.specs.declared.Cursor.{Cursor}
use Rattle.printing.specs.Output.{written, emit, copy_bytes, write_number}
use Rattle.printing.specs.Numbering.{with_position, Printer, printer, wrote}
use Rattle.printing.specs.WriteTerms.{emit_to, write_name, write_functor, separator}

-- Bytes on the printer.
module _ (out out' : List ℕ) (limit to : ℕ) (p q : Cursor) where
  pub byte_written : (b : ℕ) → written out' to ≡ emit out limit p.at b → q ≡ with_position p to → (m : List ℕ)
      → printer m out' q ≡ emit_to limit (printer m out p) b
  unfolding emit_to wrote
  byte_written b e eq m = rw eq (simp (emit_to, wrote, ← e))

  pub name_written : (sheet t : List ℕ) (f s i n : ℕ) → s ≡ name_start t f → i ≡ s → n ≡ name_length t f
      → written out' to ≡ copy_bytes n sheet i out limit p.at → q ≡ with_position p to → (m : List ℕ)
      → printer m out' q ≡ write_name sheet t limit (printer m out p) f
  unfolding write_name wrote
  name_written sheet t f s i n es ei en e eq m =
      let e' : written out' to ≡ copy_bytes (name_length t f) sheet (name_start t f) out limit p.at = rw (ei, es, en) at e in
      rw eq (simp (write_name, wrote, ← e'))

  -- The number of a label from 256 on.
  pub number_written : (sheet t : List ℕ) (l n : ℕ) → max_symbols ≤ l → n ≡ l - max_symbols
      → written out' to ≡ write_number out limit p.at n → q ≡ with_position p to → (m : List ℕ)
      → printer m out' q ≡ write_functor sheet t limit (printer m out p) l
  unfolding write_functor wrote
  number_written sheet t l n big en e eq m =
      let e' : written out' to ≡ write_number out limit p.at (l - max_symbols) = rw en at e in
      rw eq (simp (write_functor, wrote, le-ltb l max_symbols big, ← e'))

-- The name of a label below 256.
pub named : (sheet t : List ℕ) (limit l : ℕ) (g h : Printer) → l < max_symbols → h ≡ write_name sheet t limit g l
    → h ≡ write_functor sheet t limit g l
unfolding write_functor
named sheet t limit l g h small e = e ∙ simp (write_functor, lt-ltb l max_symbols small)

pub separator_first : (j : ℕ) → j ≡ 0 → 40 ≡ separator j
unfolding separator
separator_first j e = simp (separator, eq-eqb _ _ e)

pub separator_next : (j : ℕ) → (j ≡ 0 → ⊥) → 44 ≡ separator j
unfolding separator
separator_next j e = simp (separator, ne_eqb _ _ e)
