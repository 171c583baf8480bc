use Rattle.sheet_format.specs.Bytes.{ascii}
use Rattle.engine.proofs.listing.Laws.{last_none, last_no, last_spent}
use Rattle.engine.proofs.listing.write_last.Goals as goal

pub returns-then-p-eq0 : goal.returns-then-p-eq0
returns-then-p-eq0 c = last_none _ _ _ _ c.if-p-eq0.true

pub returns-then-p-eq-NO : goal.returns-then-p-eq-NO
unfolding ascii
returns-then-p-eq-NO c =
    last_no _ _ _ _ _ _ c.if-p-eq0.false c.if-p-eq-NO.true c.append_result.ensures

pub returns : goal.returns
unfolding ascii
returns c =
    last_spent _ _ _ _ _ _ c.if-p-eq0.false c.if-p-eq-NO.false c.append_result-2.ensures
