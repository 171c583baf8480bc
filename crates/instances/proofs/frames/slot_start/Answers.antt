use Prim.Native.Nat.{ℕ}
use lib.ListN.{get_or}
use mathlib.Core.Path.{ap, ◌∙◌}
use Rattle.memory.specs.Records.{field}
use Rattle.scanning.specs.Frames.{slot_start}
use Rattle.instances.proofs.frames.slot_start.Goals as goal

pub returns : goal.returns
unfolding slot_start field
returns c = c.get.ensures ∙ ap (λ (i : ℕ). get_or c.args.w.now i 0) c.slot_place.ensures.0
