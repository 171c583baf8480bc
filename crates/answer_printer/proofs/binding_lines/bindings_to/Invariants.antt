use Rattle.std.proofs.Common.{◌≡◌, ◌-◌}
use Rattle.printing.specs.Numbering.{printer}
use Rattle.printing.specs.WriteLines.{bindings_to}
use Rattle.answer_printer.proofs.binding_lines.bindings_to.Given as goal

abbrev pub invariant-loop-name : goal.invariant-loop-name
invariant-loop-name l =
    bindings_to l.source.sheet.now l.source.table.now l.bounds.turns l.bounds.limit 8 l.bits 0 (printer l.initial.w l.initial.out l.initial.q)
    ≡ bindings_to l.source.sheet.now l.source.table.now l.bounds.turns l.bounds.limit (8 - l.name) l.rest l.name (printer l.w l.out l.q)
