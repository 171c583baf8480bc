use Rattle.scanning.specs.Instances.{argument_count}
use mathlib.Core.Path.{refl}
use native.Mathlib.Omega.{arith}
use Rattle.instances.proofs.instance_ranges.argument_count.Goals as goal

pub returns : goal.returns
unfolding argument_count
returns c = (rw (← c.child_count.ensures) refl, omega arith)
