use Rattle.std.proofs.Common.{◌≡◌, ◌+◌, ◌-◌, ◌≤◌}
use Rattle.printing.specs.Numbering.{printer}
use Rattle.printing.specs.WriteTerms.{arguments_by, write_term}
use Rattle.term_printer.proofs.+write_term.Given as goal

abbrev pub invariant-loop-j : goal.invariant-loop-j
invariant-loop-j l = (l.initial.s.cursor.at ≤ l.s.cursor.at) × (l.s.bounds ≡ l.initial.s.bounds)
    × (arguments_by (write_term (l.rank - 1) l.source.sheet.now l.source.table.now l.initial.s.bounds.turns l.initial.s.bounds.limit) l.source.table.now
    l.initial.s.bounds.limit l.c l.n l.f 0 (printer l.initial.w l.initial.out l.initial.s.cursor)
    ≡ arguments_by (write_term (l.rank - 1) l.source.sheet.now l.source.table.now l.initial.s.bounds.turns l.initial.s.bounds.limit) l.source.table.now
    l.initial.s.bounds.limit (l.c - l.j) l.n l.f l.j (printer l.w l.out l.s.cursor))

abbrev pub decreases-write_term : goal.decreases-write_term
decreases-write_term l = l.s.now.bounds.limit - l.s.now.cursor.at + l.rank
