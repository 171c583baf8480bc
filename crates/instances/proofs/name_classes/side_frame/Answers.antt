use Rattle.scanning.specs.Classes.{side_frame}
use borrow.Author.Tests.{eq-eqb, ne_eqb}
use Rattle.instances.proofs.name_classes.side_frame.Goals as goal

pub returns-then-s-eq0 : goal.returns-then-s-eq0
unfolding side_frame
returns-then-s-eq0 c = rw (eq-eqb _ _ c.if-s-eq0.true)

pub returns : goal.returns
unfolding side_frame
returns c = rw (ne_eqb _ _ c.if-s-eq0.false)
