use Prim.Native.Nat.{ℕ, ◌+◌, ◌*◌}
use lib.ListN.{get_or}
use mathlib.Core.Path.{◌≡◌, ap, ◌∙◌}
use native.Mathlib.Omega.{arith}
use Rattle.memory.specs.Records.{field}
use Rattle.scanning.specs.Frames.{slot_end}
use Rattle.instances.proofs.frames.slot_end.Goals as goal

pub returns : goal.returns
unfolding slot_end field
returns c =
    let place = c.slot_place.ensures.0 in
    let z : c.slot_place.result + 1 ≡ 64 * c.args.r + (2 * c.args.v + 1) = omega arith in
    c.get.ensures ∙ ap (λ (i : ℕ). get_or c.args.w.now i 0) z
