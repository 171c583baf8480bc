use Prim.Native.Nat.{◌+◌, ◌-◌}
use Rattle.instances.proofs.frames.Laws.{copy_end, copy_on}
use Rattle.scanning.specs.Frames.{copy_ranges}
use mathlib.Core.Path.{◌≡◌, refl, ap, ◌∙◌, sym}
use native.Mathlib.Omega.{arith}
use Prim.Native.Nat.{ℕ}
use Rattle.instances.proofs.frames.copy_ranges.Goals as goal

pub loop-at-init : goal.loop-at-init
loop-at-init c =
    let z : c.args.n ≡ c.args.f + c.args.n - c.args.f = omega arith in
    (refl, ap (λ (m : ℕ). copy_ranges m c.args.w.now c.args.r c.args.q c.args.f) z)

pub loop-at-preserved : goal.loop-at-preserved
loop-at-preserved c = (
  c.put_field.auto.w ∙ c.loop-at.invariant.0,
  c.loop-at.invariant.1 ∙ copy_on _ _ _ _ _ _ _ c.loop-at-test.true c.field-a.ensures c.put_field.ensures,
)

pub returns : goal.returns
returns c = sym (c.loop-at.invariant.1 ∙ copy_end _ _ _ _ _ c.loop-at-test.false)
