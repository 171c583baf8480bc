-- What a step from token to token changes: the position never falls, the buffer keeps its length, and the memory stays alike.
use Prim.Native.Nat.{ℕ, ◌*◌, ◌≤◌, ◌<◌}
use Prim.Native.Char.{code}
use native.Mathlib.Omega.{arith}
use mathlib.Core.Path.{◌≡◌, refl, ap, ◌∙◌}
use mathlib.Core.Bool.{Bool, true, false, cond}
use mathlib.Core.List.{List, [], ◌∷◌, ◌++◌}
use lib.Dec.{eqb, ltb}
use lib.ListN.{length}
use borrow.Author.Tests.{eqb-true}
use Rattle.terms.specs.Lists.{All}
use Rattle.sequents.specs.Symbols.{Symbol, made, leftover}
use Rattle.sheet_format.specs.Bytes.{decimal}
use Rattle.sheet_format.specs.Limits.{numbers_per_unit}
use Rattle.machine.specs.Fields as fields
use Rattle.machine.specs.Records.{cell_of, level_of, put_cell}
use Rattle.machine.specs.Words.{truncate, increment, tag_of}
use Rattle.printing.specs.declared.Cursor.{Cursor}
use Rattle.printing.specs.Output.{write_symbol}
use Rattle.printing.specs.Numbering.{with_position, with_variables, with_constants, Printer, wrote, numbered_memory, number_variable}
use Rattle.printing.specs.Numbering.{clear_at_first, constant_mark, number_constant, write_variable, write_constant, constant_number_field}
use Rattle.printing.specs.WriteTerms.{emit_to}
use Rattle.printing.proofs.Bytes.{symbol_bytes, bytes_grow, emit_long, bytes_long}
use Rattle.printing.proofs.PrinterStates.{emitted, printer_grow}
use Rattle.printing.proofs.Tokens.{Token, byte, sign, show_symbol, step, steps, signs}
use Rattle.printing.proofs.LeftAlone.{there_from, Alike, alike_refl, alike_trans, alike_fewer, alike_put, alike_number}
use Rattle.printing.proofs.Clearing.{first_alike}
use Rattle.memory.specs.Records.{field, put_field}

-- A symbol leaves the position where it is until its bytes are written.
pub number_at_lem : (w : List ℕ) (p : Cursor) (x : ℕ) → (number_variable w p x).cursor.at ≡ p.at
unfolding number_variable with_variables
number_at_lem w p x = go (eqb (cell_of w x) 0)
  where
    go : (b : Bool)
        → (cond b (numbered_memory (put_cell w x (truncate (4 * increment p.variables))) (with_variables p (increment p.variables)))
        (numbered_memory w p)).cursor.at ≡ p.at
    go true = refl
    go false = refl

-- Numbering a constant leaves the position where it is.
pub number_constant_at : (turns : ℕ) (w : List ℕ) (p : Cursor) (c : ℕ) → (number_constant turns w p c).cursor.at ≡ p.at
unfolding number_constant with_constants
number_constant_at turns w p c = go (eqb (constant_mark w p.constants c) 0)
  where
    go : (b : Bool)
        → (cond b (numbered_memory (put_field (clear_at_first turns w p.constants) c constant_number_field (increment p.constants))
        (with_constants p (increment p.constants))) (numbered_memory w p)).cursor.at ≡ p.at
    go true = refl
    go false = refl

-- Positions never fall.
symbol_grow : (out : List ℕ) (limit at a c n k : ℕ) → limit ≤ 65535 → a ≡ at → at ≤ (write_symbol out limit a c n k).at
symbol_grow out limit at a c n k l e =
    rw (symbol_bytes out limit a c n k) (let r = bytes_grow (c ∷ (decimal n ++ (code "@" ∷ decimal k))) out limit a l in omega arith)

-- The buffer keeps its length.
symbol_long : (out : List ℕ) (limit at c n k : ℕ) → length (write_symbol out limit at c n k).buffer ≡ length out
symbol_long out limit at c n k = rw (symbol_bytes out limit at c n k) (bytes_long _ out limit at)

-- The position never falls when a symbol is shown.
pub write_grow : (turns limit : ℕ) (g : Printer) (s : Symbol) → limit ≤ 65535 → g.cursor.at ≤ (show_symbol turns limit g s).cursor.at
unfolding show_symbol write_variable write_constant wrote with_position
write_grow turns limit g (leftover x k) l = symbol_grow g.buffer limit g.cursor.at _ _ _ _ l (number_at_lem g.memory g.cursor x)
write_grow turns limit g (made c k) l =
    symbol_grow g.buffer limit g.cursor.at _ _ _ _ l (number_constant_at turns g.memory g.cursor c)

-- The position never falls at a token.
pub step_grow : (turns limit : ℕ) (g : Printer) (k : Token) → limit ≤ 65535 → g.cursor.at ≤ (step turns limit g k).cursor.at
unfolding step
step_grow turns limit g (byte b) l = rw (emitted limit g b) (printer_grow limit g (b ∷ []) l)
step_grow turns limit g (sign s) l = go (ltb limit g.cursor.at)
  where
    go : (b : Bool) → g.cursor.at ≤ (cond b g (show_symbol turns limit g s)).cursor.at
    go true = omega arith
    go false = write_grow turns limit g s l

-- The position never falls at any number of tokens.
pub steps_grow : (turns limit : ℕ) (ks : List Token) (g : Printer) → limit ≤ 65535 → g.cursor.at ≤ (steps turns limit ks g).cursor.at
unfolding steps
steps_grow turns limit [] g l = omega arith
steps_grow turns limit (k ∷ ks) g l =
    let a = step_grow turns limit g k l in
    let b = steps_grow turns limit ks (step turns limit g k) l in
    omega arith

-- The buffer keeps its length when a symbol is shown.
show_long : (turns limit : ℕ) (g : Printer) (s : Symbol) → length (show_symbol turns limit g s).buffer ≡ length g.buffer
unfolding show_symbol write_variable write_constant wrote
show_long turns limit g (leftover x k) = symbol_long g.buffer limit _ _ _ _
show_long turns limit g (made c k) = symbol_long g.buffer limit _ _ _ _

-- The buffer keeps its length at a token.
step_long : (turns limit : ℕ) (g : Printer) (k : Token) → length (step turns limit g k).buffer ≡ length g.buffer
unfolding step emit_to wrote
step_long turns limit g (byte b) = emit_long g.buffer limit g.cursor.at b
step_long turns limit g (sign s) = go (ltb limit g.cursor.at)
  where
    go : (b : Bool) → length (cond b g (show_symbol turns limit g s)).buffer ≡ length g.buffer
    go true = refl
    go false = show_long turns limit g s

-- The buffer keeps its length at any number of tokens.
pub steps_long : (turns limit : ℕ) (ks : List Token) (g : Printer) → length (steps turns limit ks g).buffer ≡ length g.buffer
unfolding steps
steps_long turns limit [] g = refl
steps_long turns limit (k ∷ ks) g = steps_long turns limit ks (step turns limit g k) ∙ step_long turns limit g k

-- A number's word has tag 0.
number_tag : (n : ℕ) → tag_of (truncate (4 * n)) ≡ 0
unfolding tag_of truncate
number_tag n = omega arith

module _ (w : List ℕ) (next acts : ℕ) where
  -- A symbol as the memory has it: an unbound variable, a constant of an act done, each with its level.
  unfoldable pub Right : Symbol → Type 0
  Right (leftover x k) = (x < next) × (cell_of w x ≡ 0) × (k ≡ level_of w x)
  Right (made c k) = (c < acts) × (k ≡ field w c fields.constant_level)

  module _ (room : numbers_per_unit * acts ≤ length w) (few : next ≤ 9 * acts) where
    -- A symbol leaves the memory alike.
    write_alike : (limit : ℕ) (g : Printer) (s : Symbol) → Right s → Alike 62 w g.memory
        → Alike 63 g.memory (show_symbol acts limit g s).memory
    unfolding Right show_symbol write_variable write_constant wrote number_variable number_constant tag_of
    write_alike limit g (leftover x k) r a = go (eqb (cell_of g.memory x) 0) refl
      where
        go : (b : Bool) → eqb (cell_of g.memory x) 0 ≡ b
            → Alike 63 g.memory
            (cond b (numbered_memory (put_cell g.memory x (truncate (4 * increment g.cursor.variables)))
            (with_variables g.cursor (increment g.cursor.variables))) (numbered_memory g.memory g.cursor)).memory
        go true e =
            alike_number 63 g.memory x (truncate (4 * increment g.cursor.variables)) (omega arith)
            (there_from acts x g.memory (let l = a.long in omega arith) (let h = r.0 in omega arith))
            (ap tag_of (eqb-true (cell_of g.memory x) 0 e)) (number_tag (increment g.cursor.variables))
        go false e = alike_refl 63 g.memory
    write_alike limit g (made c k) r a = go (eqb (constant_mark g.memory g.cursor.constants c) 0)
      where
        v : List ℕ
        v = clear_at_first acts g.memory g.cursor.constants

        go : (b : Bool)
            → Alike 63 g.memory
            (cond b (numbered_memory (put_field v c constant_number_field (increment g.cursor.constants))
            (with_constants g.cursor (increment g.cursor.constants))) (numbered_memory g.memory g.cursor)).memory
        go true =
            alike_trans 63 g.memory v _ (first_alike acts g.memory g.cursor.constants)
            (alike_put 63 v c 63 (increment g.cursor.constants) (omega arith) (omega arith) (omega arith))
        go false = alike_refl 63 g.memory

    -- A token leaves the memory alike.
    pub step_alike : (limit : ℕ) (g : Printer) (k : Token) → All Right (signs (k ∷ [])) → Alike 62 w g.memory
        → Alike 63 g.memory (step acts limit g k).memory
    unfolding step signs emit_to wrote
    step_alike limit g (byte b) r a = alike_refl 63 g.memory
    step_alike limit g (sign s) r a = go (ltb limit g.cursor.at)
      where
        go : (b : Bool) → Alike 63 g.memory (cond b g (show_symbol acts limit g s)).memory
        go true = alike_refl 63 g.memory
        go false = write_alike limit g s r.0 a

    -- Any number of tokens leaves the memory alike.
    pub steps_alike : (limit : ℕ) (ks : List Token) (g : Printer) → All Right (signs ks) → Alike 62 w g.memory
        → Alike 63 g.memory (steps acts limit ks g).memory
    unfolding steps signs step emit_to wrote
    steps_alike limit [] g r a = alike_refl 63 g.memory
    steps_alike limit (byte b ∷ ks) g r a = steps_alike limit ks (step acts limit g (byte b)) r a
    steps_alike limit (sign s ∷ ks) g r a =
        let b = step_alike limit g (sign s) (r.0, tt) a in
        alike_trans 63 g.memory (step acts limit g (sign s)).memory _ b
        (steps_alike limit ks (step acts limit g (sign s)) r.1
        (alike_trans 62 w g.memory _ a (alike_fewer 63 62 g.memory _ (omega arith) b)))
