use native.Mathlib.Omega.{arith}
use mathlib.Core.Path.{ap, ◌∙◌}
use Rattle.std.specs.Prelude.{Ok, Err}
use borrow.Author.Rules.{rules}
use Rattle.sheet_reader.proofs.first_line.Begins.{begun, contract_before}
use Rattle.sheet_reader.proofs.sheet_lines.Reading.{reading_begins, reading_line, reading_on, reading_stops}
use Rattle.sheet_reader.proofs.sheet_lines.Reading.{reading_ends, reading_open, reading_none}
use Rattle.sheet_reader.proofs.read_sheet.Goals as goal

pub loop-at-init : goal.loop-at-init
loop-at-init c =
    reading_begins _ _ _ _ (begun _ _ c.requires.1 _ _ c.read_order-start.ensures)

pub returns-then-end-sheet : goal.returns-then-end-sheet
returns-then-end-sheet c =
    contract_before _ _ _ _ _ _ c.read_order-start.ensures
    (reading_open _ _ _ _ _ _ _ c.loop-at.invariant _ c.loop-at-test.true c.line_end-end.ensures
    c.if-end-sheet.true (ap Err c.new.ensures))

pub read_at-requires : goal.read_at-requires
read_at-requires c = let e = reading_line c.loop-at.invariant c.line_end-end.ensures c.if-end-sheet.false in (c.requires.0, e.from, search rules)

pub returns-in-Err : goal.returns-in-Err
returns-in-Err c =
    contract_before _ _ _ _ _ _ c.read_order-start.ensures
    (reading_stops _ _ _ _ _ _ _ _ _ c.loop-at.invariant c.loop-at-test.true
    c.line_end-end.ensures c.if-end-sheet.false c.read_at.ensures _ _ c.in-Err.is
    (ap Err c.new-in-Err.ensures))

pub overflow_add-end : goal.overflow_add-end
overflow_add-end c = let e = reading_line c.loop-at.invariant c.line_end-end.ensures c.if-end-sheet.false in omega arith

pub overflow_add-line : goal.overflow_add-line
overflow_add-line c = let e = reading_line c.loop-at.invariant c.line_end-end.ensures c.if-end-sheet.false in omega arith

pub returns-in-Ok-Last : goal.returns-in-Ok-Last
returns-in-Ok-Last c =
    contract_before _ _ _ _ _ _ c.read_order-start.ensures
    (reading_ends _ _ _ _ _ _ _ _ _ c.loop-at.invariant c.loop-at-test.true
    c.line_end-end.ensures c.if-end-sheet.false c.read_at.ensures _ _ (c.in-Ok-Last.is ∙ ap Ok c.in-Ok-Last.field-0-is)
    c.finish.ensures)

pub overflow_add-at : goal.overflow_add-at
overflow_add-at c = let e = reading_line c.loop-at.invariant c.line_end-end.ensures c.if-end-sheet.false in omega arith

pub overflow_add-line-in-loop-at : goal.overflow_add-line-in-loop-at
overflow_add-line-in-loop-at c = let e = reading_line c.loop-at.invariant c.line_end-end.ensures c.if-end-sheet.false in omega arith

pub loop-at-smaller : goal.loop-at-smaller
loop-at-smaller c = let e = reading_line c.loop-at.invariant c.line_end-end.ensures c.if-end-sheet.false in omega arith

pub loop-at-preserved : goal.loop-at-preserved
loop-at-preserved c =
    reading_on _ _ _ _ _ _ _ _ _ c.loop-at.invariant c.loop-at-test.true
    c.line_end-end.ensures c.if-end-sheet.false c.read_at.ensures _ (c.in-Ok-Next.is ∙ ap Ok c.in-Ok-Next.field-0-is)

pub returns : goal.returns
returns c =
    contract_before _ _ _ _ _ _ c.read_order-start.ensures
    (reading_none _ _ _ _ _ _ _ c.loop-at.invariant c.loop-at-test.false (ap Err c.new-2.ensures))
