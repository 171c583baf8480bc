use native.Mathlib.Omega.{arith}
use mathlib.Core.Path.{refl, sym, ◌∙◌}
use Rattle.sheet_reader.proofs.sheet_lines.Lines.{end_on, end_here, end_past}
use Rattle.sheet_reader.proofs.sheet_lines.line_end.Goals as goal

pub loop-i-init : goal.loop-i-init
loop-i-init c = (refl, λ h. refl)

pub returns-then-s-i-eq10 : goal.returns-then-s-i-eq10
returns-then-s-i-eq10 c = sym (c.loop-i.invariant.0 ∙ end_here _ _ c.loop-i-test.true c.if-s-i-eq10.true)

pub loop-i-preserved : goal.loop-i-preserved
loop-i-preserved c =
    (c.loop-i.invariant.0 ∙ end_on _ _ c.loop-i-test.true c.if-s-i-eq10.false, λ h. absurd (omega (arith, c.loop-i-test.true, c.loop-i.auto.i)))

pub returns : goal.returns
returns c = end_past _ _ _ _ c.loop-i.invariant.0 c.loop-i-test.false c.loop-i.invariant.1 c.loop-i.auto.i-end c.max.ensures
