-- The writer. The text of a proof is written into bytes of the writer's own, after what they hold already, and where it fits they are
-- copied into the answer buffer; those of no and spent alone are counted first, and then written. So a text that does not fit
-- (refusal 12) leaves the answer buffer alone.
use Rattle.std.specs.Prelude.{ℕ, min, true, false, List, [], ◌++◌, ltb, length, take, drop, replicate, Option, Some, None}
use Rattle.sheet_format.specs.Limits.{max_text_bytes, variable_names}
use Rattle.sheet_format.specs.Bytes.{ascii, lf}
use Rattle.node_table.specs.Layout.{mask_of}
use Rattle.machine.specs.Records.{Made}
use Rattle.printing.specs.declared.Cursor.{Cursor}
use Rattle.printing.specs.Output.{Written, emit, write_bytes, write_number}
use Rattle.printing.specs.Numbering.{Printer, printer}
use Rattle.printing.specs.WriteLines.{result_to, bindings_to, lines_to}
use Rattle.printing.specs.PathLinks.{link_path}

-- "The answer text is over 65,535 bytes or longer than the answer buffer": the most that fits.
unfoldable pub text_limit : List ℕ → ℕ
text_limit out = min max_text_bytes (length out)

-- The answer buffer after a text, and the length of the text, if it fits.
pub record Fitted : Type 0 where
  pub buffer : List ℕ
  pub length : Option ℕ

-- An answer buffer and perhaps a length make a record.
abbrev pub fitted : List ℕ → Option ℕ → Fitted
fitted out n = record { buffer = out; length = n }

-- What was written fits.
abbrev pub fitting : Written → Fitted
fitting s = fitted s.buffer (Some s.at)

-- The next byte goes to position `at`, and nothing is numbered.
abbrev pub cursor_from : ℕ → Cursor
cursor_from at = record { at = at; variables = 0; constants = 0 }

-- The text of a proved search: the path begins at link e.
unfoldable pub proof_pass : List ℕ → List ℕ → ℕ → ℕ → ℕ → ℕ → ℕ → Printer → Printer
proof_pass sheet t turns limit goal units e g =
    lines_to sheet t turns limit turns
    (bindings_to sheet t turns limit variable_names (mask_of t goal) 0 (result_to limit g (ascii "R\tproved\t") units)) e

-- Forward links.
unfoldable pub prepare : Made → List ℕ
prepare m = (link_path m.registers.acts m.memory m.registers.path m.registers.line 0).memory

-- The link to the first line.
unfoldable pub first_link : Made → ℕ
first_link m = (link_path m.registers.acts m.memory m.registers.path m.registers.line 0).first

-- What the writer leaves: the work buffer, the answer buffer, and the length of the text: a number, or one if the text fits.
pub record Answered (L : Type 0) : Type 0 where
  pub memory : List ℕ
  pub buffer : List ℕ
  pub length : L

-- A work buffer, an answer buffer and a length make a record.
abbrev pub answered : {L : Type 0} → List ℕ → List ℕ → L → Answered L
answered w out n = record { memory = w; buffer = out; length = n }

-- The writer's own bytes: as many as a text may have.
unfoldable pub own_bytes : List ℕ
own_bytes = replicate max_text_bytes 0

-- The text of a proof, written after the first `at` bytes of the writer's own; a position past the limit tells that it does not fit.
unfoldable pub append_proof : List ℕ → List ℕ → ℕ → Made → ℕ → ℕ → List ℕ → ℕ → Answered ℕ
append_proof sheet t goal m units limit own at =
    let g = proof_pass sheet t m.registers.acts limit goal units (first_link m) (printer (prepare m) own (cursor_from at)) in
    answered g.memory g.buffer g.cursor.at

-- The R line of no or spent after the first `at` bytes: bs are the bytes before the units.
unfoldable pub append_result : List ℕ → ℕ → List ℕ → ℕ → ℕ → Written
append_result bs units own limit at =
    let s = write_bytes bs own limit at in
    let n = write_number s.buffer limit s.at units in
    emit n.buffer limit n.at lf

-- The first `at` bytes of the writer's own, copied where they fit.
unfoldable pub copied : ℕ → List ℕ → ℕ → List ℕ → Fitted
copied limit own at out = elim (ltb limit at) [ true ↦ fitted out None | false ↦ fitted (take at own ++ drop at out) (Some at) ]

-- The text of a proved search, copied where it fits.
unfoldable pub write_proof : List ℕ → List ℕ → ℕ → Made → ℕ → List ℕ → Answered (Option ℕ)
write_proof sheet t goal m units out =
    let a = append_proof sheet t goal m units (text_limit out) own_bytes 0 in
    let c = copied (text_limit out) a.buffer a.length out in
    answered a.memory c.buffer c.length

-- A text of no or spent alone is counted, and then written if it fits.
unfoldable pub write_short : List ℕ → ℕ → List ℕ → Fitted
write_short bs units out =
    elim (ltb (text_limit out) (append_result bs units [] (text_limit out) 0).at)
    [ true ↦ fitted out None | false ↦ fitting (append_result bs units out (text_limit out) 0) ]

-- Writes the text of no.
unfoldable pub write_no : ℕ → List ℕ → Fitted
write_no units out = write_short (ascii "R\tno\t") units out

-- Writes the text of spent.
unfoldable pub write_spent : ℕ → List ℕ → Fitted
write_spent budget out = write_short (ascii "R\tspent\t") budget out
