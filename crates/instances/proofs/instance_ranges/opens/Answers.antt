use Rattle.instances.specs.OpenNodes.{opens_of}
use borrow.Author.Tests.{eq-eqb, ne_eqb}
use mathlib.Core.Path.{refl}
use Rattle.instances.proofs.instance_ranges.opens.Goals as goal

pub returns-then-kind-ne-VARIABLE : goal.returns-then-kind-ne-VARIABLE
unfolding opens_of
returns-then-kind-ne-VARIABLE c =
    rw (← c.kind.ensures, ne_eqb _ _ c.if-kind-ne-VARIABLE.true, ← c.argument_count.ensures.0) refl

pub returns-else-kind-ne-VARIABLE : goal.returns-else-kind-ne-VARIABLE
unfolding opens_of
returns-else-kind-ne-VARIABLE c = rw (← c.kind.ensures, eq-eqb _ _ c.if-kind-ne-VARIABLE.false) refl
