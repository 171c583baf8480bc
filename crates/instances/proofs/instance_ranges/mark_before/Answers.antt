use Rattle.instances.specs.OpenNodes.{mark_before}
use borrow.Author.Tests.{lt-ltb, le-ltb, eq-eqb, ne_eqb}
use mathlib.Core.Path.{refl}
use native.Mathlib.Omega.{arith}
use Rattle.instances.proofs.instance_ranges.mark_before.Goals as goal

pub returns-then-j-eq0 : goal.returns-then-j-eq0
unfolding mark_before
returns-then-j-eq0 c = (rw (lt-ltb _ _ c.if-j-n.true, eq-eqb _ _ c.if-j-eq0.true) refl, omega arith)

pub returns-then-j-n : goal.returns-then-j-n
unfolding mark_before
returns-then-j-n c = (rw (lt-ltb _ _ c.if-j-n.true, ne_eqb _ _ c.if-j-eq0.false) refl, omega arith)

pub returns : goal.returns
unfolding mark_before
returns c = (rw (le-ltb _ _ c.if-j-n.false) refl, omega arith)
