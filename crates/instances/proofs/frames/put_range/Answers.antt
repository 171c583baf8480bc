use Prim.Native.Nat.{ℕ, ◌+◌, ◌*◌}
use lib.ListN.{set}
use mathlib.Core.Path.{◌≡◌, ap, ◌∙◌}
use native.Mathlib.Omega.{arith}
use Rattle.memory.specs.Records.{put_field}
use Rattle.instances.proofs.frames.Laws.{slot_made}
use Rattle.instances.proofs.frames.put_range.Goals as goal

pub returns : goal.returns
unfolding put_field
returns c =
    let place = c.slot_place-place.ensures.0 in
    let z : c.slot_place-place.result + 1 ≡ 64 * c.args.r + (2 * c.args.v + 1) = omega arith in
    slot_made _ _ _ _ _ _ _ (c.put.ensures ∙ ap (λ (i : ℕ). set c.args.w.now i c.args.s) place)
    (c.put-2.ensures ∙ ap (λ (i : ℕ). set c.put.new.w i c.args.e) z)
