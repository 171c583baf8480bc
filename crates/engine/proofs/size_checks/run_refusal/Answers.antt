use borrow.Author.Tests.{lt-ltb, le-ltb}
use Rattle.engine.specs.Answering.{run_refusal}
use Rattle.engine.proofs.size_checks.Laws.{refused_ask, refused_work, refused_none}
use Rattle.engine.proofs.size_checks.run_refusal.Goals as goal

pub returns-then-sheet-gt-MAX_SHEET_BYTES : goal.returns-then-sheet-gt-MAX_SHEET_BYTES
unfolding run_refusal
returns-then-sheet-gt-MAX_SHEET_BYTES c = simp (run_refusal, lt-ltb _ _ c.if-sheet-gt-MAX_SHEET_BYTES.true)

pub returns-then-table-lt-TABLE_NUMBERS : goal.returns-then-table-lt-TABLE_NUMBERS
unfolding run_refusal
returns-then-table-lt-TABLE_NUMBERS c = simp (run_refusal, lt-ltb _ _ c.if-table-lt-TABLE_NUMBERS.true, le-ltb _ _ c.if-sheet-gt-MAX_SHEET_BYTES.false)

pub returns-in-Some : goal.returns-in-Some
returns-in-Some c = refused_ask _ _ _ _ c.if-sheet-gt-MAX_SHEET_BYTES.false c.if-table-lt-TABLE_NUMBERS.false _ c.in-Some.ensures

pub returns-then-work-widen : goal.returns-then-work-widen
returns-then-work-widen c =
    refused_work _ _ _ _ c.if-sheet-gt-MAX_SHEET_BYTES.false c.if-table-lt-TABLE_NUMBERS.false _ c.in_default.ensures
    c.widen.ensures.0 c.if-work-widen.true

pub returns : goal.returns
returns c =
    refused_none _ _ _ _ c.if-sheet-gt-MAX_SHEET_BYTES.false c.if-table-lt-TABLE_NUMBERS.false _ c.in_default.ensures
    c.widen.ensures.0 c.if-work-widen.false
