use borrow.Author.Tests.{eq-eqb, ne_eqb}
use Rattle.engine.specs.Listing.{tell}
use Rattle.engine.proofs.listing.tell.Goals as goal

pub returns-then-p-eq0 : goal.returns-then-p-eq0
unfolding tell
returns-then-p-eq0 c = simp (tell, ← c.fitting_run.ensures, eq-eqb _ _ c.if-p-eq0.true)

pub returns-then-p-eq-NO : goal.returns-then-p-eq-NO
unfolding tell
returns-then-p-eq-NO c =
    simp (
      tell,
      ← c.fitting_run-then-p-eq-NO.ensures,
      ne_eqb _ _ c.if-p-eq0.false,
      eq-eqb _ _ c.if-p-eq-NO.true,
    )

pub returns : goal.returns
unfolding tell
returns c =
    simp (
      tell,
      ← c.fitting_run-2.ensures,
      ne_eqb _ _ c.if-p-eq0.false,
      ne_eqb _ _ c.if-p-eq-NO.false,
    )
