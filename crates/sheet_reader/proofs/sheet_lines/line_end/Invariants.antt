use Prim.Native.Nat.{◌≤◌}
use mathlib.Core.Path.{◌≡◌}
use lib.ListN.{length}
use Rattle.sheet_reader.specs.Reader.{line_end}
use Rattle.sheet_reader.proofs.sheet_lines.line_end.Given as goal

abbrev pub invariant-loop-i : goal.invariant-loop-i
invariant-loop-i l = (line_end l.s l.at ≡ line_end l.s l.i) × (length l.s ≤ l.at → l.i ≡ l.at)
