use Rattle.instances.proofs.name_classes.Laws.{root_end, root_here, root_next, root_on}
use Rattle.scanning.specs.Classes.{root_of}
use mathlib.Core.Path.{refl, sym, ◌∙◌}
use Rattle.instances.proofs.name_classes.root_of.Goals as goal

pub loop-turn-init : goal.loop-turn-init
unfolding root_of
loop-turn-init c = (refl, refl)

pub returns-then-p-eq0 : goal.returns-then-p-eq0
returns-then-p-eq0 c =
    sym (c.loop-turn.invariant.1 ∙ root_here _ _ _ _ _ _ c.loop-turn-test.true c.widen.ensures.0 c.get-p.ensures c.if-p-eq0.true)

pub returns-then-q-eq0 : goal.returns-then-q-eq0
returns-then-q-eq0 c =
    sym (c.loop-turn.invariant.1 ∙ root_next _ _ _ _ _ _ c.loop-turn-test.true c.widen.ensures.0 c.get-p.ensures _ _ c.if-p-eq0.false
    c.widen-in-loop-turn.ensures.0 c.get-q.ensures c.if-q-eq0.true)

pub loop-turn-preserved : goal.loop-turn-preserved
loop-turn-preserved c = (
  c.put.auto.w ∙ c.loop-turn.invariant.0,
  c.loop-turn.invariant.1
      ∙ root_on _ _ _ _ _ _ c.loop-turn-test.true c.widen.ensures.0 c.get-p.ensures _ _ c.if-p-eq0.false
      c.widen-in-loop-turn.ensures.0 c.get-q.ensures _ _ c.if-q-eq0.false c.widen-in-loop-turn-2.ensures.0 c.put.ensures,
)

pub returns : goal.returns
returns c = sym (c.loop-turn.invariant.1 ∙ root_end _ _ _ _ c.loop-turn-test.false)
