use Rattle.std.proofs.Common.{◌≡◌, ◌-◌}
use Rattle.printing.specs.Bindings.{deref}
use Rattle.term_printer.proofs.bindings.deref.Given as goal

abbrev pub invariant-loop-turn : goal.invariant-loop-turn
invariant-loop-turn l = deref l.n l.w l.a ≡ deref (l.n - l._turn) l.w l.at
