use Rattle.std.proofs.Common.{◌≡◌}
use Rattle.printing.specs.Numbering.{clear_constants}
use Rattle.term_printer.proofs.numbering.clear_constants.Given as goal

abbrev pub invariant-loop-c : goal.invariant-loop-c
invariant-loop-c l = clear_constants l.n l.initial.w ≡ clear_constants l.c l.w
