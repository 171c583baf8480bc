use Rattle.std.proofs.Common.{◌≡◌, ◌+◌, ◌-◌, ◌<◌, ◌≤◌, length}
use Rattle.term_scanner.specs.Delimiters.{delimiters, Fits, capacity, pushed}
use Rattle.term_scanner.proofs.delimiters.push_arguments.Given as goal

abbrev pub invariant-loop-argument : goal.invariant-loop-argument
invariant-loop-argument l = (length l.lent ≡ length l.initial.lent) × Fits l.lent l.r × (l.bit < 2)
    × (l.n - l._argument + length (delimiters l.lent l.r) ≤ capacity l.lent)
    × (pushed l.n l.initial.bit (delimiters l.initial.lent l.initial.r) ≡ pushed (l.n - l._argument) l.bit (delimiters l.lent l.r))
