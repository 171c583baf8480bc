use Rattle.instances.specs.OpenNodes.{match_head}
use borrow.Author.Tests.{eq-eqb, ne_eqb}
use Rattle.instances.proofs.instance_ranges.match_head.Goals as goal

pub returns-then-kind-eq-VARIABLE : goal.returns-then-kind-eq-VARIABLE
unfolding match_head
returns-then-kind-eq-VARIABLE c =
    rw (← c.kind.ensures, eq-eqb _ _ c.if-kind-eq-VARIABLE.true, ← c.label-l.ensures)
    c.match_slot.ensures

pub returns : goal.returns
unfolding match_head
returns c =
    rw (← c.kind.ensures, ne_eqb _ _ c.if-kind-eq-VARIABLE.false, ← c.label-l.ensures)
    c.match_functor.ensures
