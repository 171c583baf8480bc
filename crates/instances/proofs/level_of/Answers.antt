use Rattle.instances.specs.OpenPairs.{level_of}
use mathlib.Core.Path.{refl}
use Rattle.instances.proofs.level_of.Goals as goal

pub returns : goal.returns
unfolding level_of
returns c = refl
