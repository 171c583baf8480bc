use Rattle.scanning.specs.Instances.{argument_of}
use mathlib.Core.Path.{refl}
use native.Mathlib.Omega.{arith}
use Rattle.instances.proofs.instance_ranges.argument_of.Goals as goal

pub returns : goal.returns
unfolding argument_of
returns c = (rw (← c.child.ensures) refl, omega arith)
