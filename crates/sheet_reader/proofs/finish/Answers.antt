use borrow.Author.Tests.{lt-ltb, le-ltb}
use Rattle.sheet_reader.specs.Reader.{finished}
use Rattle.sheet_reader.proofs.finish.Goals as goal

pub returns-then-at-sheet : goal.returns-then-at-sheet
unfolding finished
returns-then-at-sheet c = simp (lt-ltb _ _ c.if-at-sheet.true, c.new.ensures)

pub returns : goal.returns
unfolding finished
returns c = simp (le-ltb _ _ c.if-at-sheet.false)
