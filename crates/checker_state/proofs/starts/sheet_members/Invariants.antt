use Prim.Native.Nat.{◌+◌, ◌-◌, ◌*◌, ◌≤◌}
use mathlib.Core.Path.{◌≡◌}
use Rattle.line_checking.specs.Members.{sheet_members}
use Rattle.checker_state.proofs.starts.sheet_members.Given as goal

abbrev pub invariant-loop-i : goal.invariant-loop-i
invariant-loop-i l = (l.i ≤ l.clauses) × (l.total ≤ 128 * l.i) × (sheet_members l.clauses l.t 0 ≡ l.total + sheet_members (l.clauses - l.i) l.t l.i)
