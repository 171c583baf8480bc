use Rattle.std.proofs.Common.{◌≡◌, ◌-◌}
use Rattle.printing.specs.Numbering.{printer}
use Rattle.printing.specs.WriteLines.{lines_to}
use Rattle.answer_printer.proofs.path_lines.lines_to.Given as goal

abbrev pub invariant-loop-turn : goal.invariant-loop-turn
invariant-loop-turn l =
    lines_to l.source.sheet.now l.source.table.now l.bounds.turns l.bounds.limit l.bounds.turns (printer l.initial.w l.initial.out l.initial.q) l.e
    ≡ lines_to l.source.sheet.now l.source.table.now l.bounds.turns l.bounds.limit (l.bounds.turns - l._turn) (printer l.w l.out l.q) l.link
