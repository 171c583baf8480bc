use Rattle.std.proofs.Common.{◌≡◌, drop}
use Rattle.printing.specs.Output.{write_bytes}
use Rattle.term_printer.proofs.output.write_bytes.Given as goal

abbrev pub invariant-loop-b : goal.invariant-loop-b
invariant-loop-b l = write_bytes l.bs l.initial.out l.limit l.at ≡ write_bytes (drop l.b-index l.bs) l.out l.limit l.to
