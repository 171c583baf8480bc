-- Bytes on the printer: every writer that shows no symbol is `bytes_to` some bytes.
use Prim.Native.Nat.{ℕ, ◌≤◌, ◌<◌}
use mathlib.Core.Path.{◌≡◌, refl, ap}
use mathlib.Core.List.{List, [], ◌∷◌}
use lib.ListN.{take, drop}
use Rattle.sheet_format.specs.Bytes.{decimal}
use Rattle.node_table.specs.Layout.{name_start, name_length}
use Rattle.printing.specs.Output.{write_bytes}
use Rattle.printing.specs.Numbering.{with_position, Printer, wrote}
use Rattle.printing.specs.WriteTerms.{emit_to, write_name}
use Rattle.printing.specs.WriteLines.{bytes_to, number_to}
use Rattle.printing.proofs.Bytes.{bytes_over, number_bytes, copied_bytes, bytes_grow}

-- Writing one byte is writing a list of one byte.
pub emitted : (limit : ℕ) (g : Printer) (b : ℕ) → emit_to limit g b ≡ bytes_to limit g (b ∷ [])
unfolding emit_to bytes_to write_bytes
emitted limit g b = refl

-- Writing a list of bytes is writing its first byte and then the others.
pub bytes_next : (limit : ℕ) (g : Printer) (b : ℕ) (bs : List ℕ) → bytes_to limit g (b ∷ bs) ≡ bytes_to limit (emit_to limit g b) bs
unfolding emit_to bytes_to write_bytes wrote with_position
bytes_next limit g b bs = refl

-- Writing a number is writing its digits as bytes.
pub number_then : (limit : ℕ) (g : Printer) (n : ℕ) → number_to limit g n ≡ bytes_to limit g (decimal n)
unfolding bytes_to number_to
number_then limit g n = ap (wrote g) (number_bytes n g.buffer limit g.cursor.at)

-- Writing a name is writing its part of the sheet.
pub name_then : (sheet t : List ℕ) (limit : ℕ) (g : Printer) (f : ℕ)
    → write_name sheet t limit g f ≡ bytes_to limit g (take (name_length t f) (drop (name_start t f) sheet))
unfolding bytes_to write_name
name_then sheet t limit g f = ap (wrote g) (copied_bytes (name_length t f) sheet (name_start t f) g.buffer limit g.cursor.at)

-- Past the limit the printer stays as it is.
pub printer_over : (limit : ℕ) (g : Printer) (bs : List ℕ) → limit < g.cursor.at → bytes_to limit g bs ≡ g
unfolding bytes_to wrote with_position
printer_over limit g bs h = ap (wrote g) (bytes_over bs g.buffer limit g.cursor.at h)

-- Positions never fall.
pub printer_grow : (limit : ℕ) (g : Printer) (bs : List ℕ) → limit ≤ 65535 → g.cursor.at ≤ (bytes_to limit g bs).cursor.at
unfolding bytes_to wrote with_position
printer_grow limit g bs l = bytes_grow bs g.buffer limit g.cursor.at l
