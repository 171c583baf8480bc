use Rattle.std.proofs.Common.{◌≡◌, ◌-◌}
use Rattle.printing.specs.Numbering.{printer}
use Rattle.printing.specs.WriteLines.{prefix_to}
use Rattle.answer_printer.proofs.clause_lines.prefix_to.Given as goal

abbrev pub invariant-loop-x : goal.invariant-loop-x
invariant-loop-x l =
    prefix_to l.source.sheet.now l.source.table.now l.bounds.turns l.bounds.limit l.fn.prefix.count (printer l.initial.w l.initial.out l.initial.q) l.fn.prefix.first
    ≡ prefix_to l.source.sheet.now l.source.table.now l.bounds.turns l.bounds.limit (l.x-end - l.x) (printer l.w l.out l.q) l.x
