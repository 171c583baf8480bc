use Rattle.std.proofs.Common.{◌≡◌}
use Rattle.printing.specs.PathLinks.{clear_variables}
use Rattle.term_printer.proofs.path_links.clear_variables.Given as goal

abbrev pub invariant-loop-x : goal.invariant-loop-x
invariant-loop-x l = clear_variables l.n l.initial.w ≡ clear_variables l.x l.w
