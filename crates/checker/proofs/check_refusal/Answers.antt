use borrow.Author.Tests.{lt-ltb, le-ltb}
use Rattle.checker.specs.Checking.{check_refusal}
use Rattle.checker.proofs.check_refusal.Goals as goal

pub returns-then-sheet-gt-MAX_SHEET_BYTES : goal.returns-then-sheet-gt-MAX_SHEET_BYTES
unfolding check_refusal
returns-then-sheet-gt-MAX_SHEET_BYTES c = simp (check_refusal, lt-ltb _ _ c.if-sheet-gt-MAX_SHEET_BYTES.true)

pub returns-then-table-lt-TABLE_NUMBERS : goal.returns-then-table-lt-TABLE_NUMBERS
unfolding check_refusal
returns-then-table-lt-TABLE_NUMBERS c = simp (check_refusal, lt-ltb _ _ c.if-table-lt-TABLE_NUMBERS.true, le-ltb _ _ c.if-sheet-gt-MAX_SHEET_BYTES.false)

pub returns-then-text-gt-MAX_BYTES : goal.returns-then-text-gt-MAX_BYTES
unfolding check_refusal
returns-then-text-gt-MAX_BYTES c = simp (check_refusal, lt-ltb _ _ c.if-text-gt-MAX_BYTES.true, le-ltb _ _ c.if-sheet-gt-MAX_SHEET_BYTES.false, le-ltb _ _ c.if-table-lt-TABLE_NUMBERS.false)

pub returns : goal.returns
unfolding check_refusal
returns c = simp (check_refusal, le-ltb _ _ c.if-text-gt-MAX_BYTES.false, le-ltb _ _ c.if-sheet-gt-MAX_SHEET_BYTES.false, le-ltb _ _ c.if-table-lt-TABLE_NUMBERS.false)
