-- Request W-207: "An O line elsewhere, or with another word, is refused under 6, after a Q line under 11."
use Rattle.std.specs.Prelude.{ℕ, suc, ◌≡◌, cond, List, [], ◌∷◌, ltb}
use Prim.Native.Char.{code}
use Rattle.sheet_format.specs.Bytes.{lines_of}
use Rattle.sheet_format.specs.Sheets.{Refusal, refusal, Read, sheet, refused}
use Rattle.sheet_format.specs.FormerOrder.{with_order_line}

-- The letter O at the beginning of a line, other than that of the first line `O latest`: what stands before it are whole lines, and
-- anything may stand after it.
pub record OtherOrderLine (before after : List ℕ) : Type 0 where
  pub whole_lines : (lines_of before).rest ≡ []
  pub elsewhere : before ≡ [] → (rest : List ℕ) → code "O" ∷ after ≡ with_order_line rest → ⊥

-- How it is refused, if n lines stand before it, by what these are by themselves. A sheet ends with its Q line: 11 at the next line. If
-- they lack a Q line, which is told at line n + 1, but no line of them is refused: 6 at the line of the O. Else they are refused as they
-- were, under 11 if a line of them stands after a Q line.
unfoldable pub order_line_refusal : ℕ → Read → Refusal
order_line_refusal n (sheet s) = refusal 11 (suc n)
order_line_refusal n (refused r) = cond (ltb n r.line) (refusal 6 (suc n)) r
