use mathlib.Core.Path.{◌∙◌}
use borrow.Author.Tests.{eq-eqb, ne_eqb}
use Rattle.machine.specs.Machine.{due_act}
use Rattle.machine_loop.proofs.Laws.{is_try, act_counted}
use Rattle.machine_loop.proofs.goal_act.Goals as goal

pub returns : goal.returns
unfolding due_act
returns c =
    act_counted _ _ _ _ _ _ _ _ c.increment-u.ensures
    (c.try_next.ensures
    ∙ simp (due_act, ne_eqb _ _ c.if-r-eq-TAKE.false, eq-eqb _ _ (is_try _ c.requires c.if-r-eq-TAKE.false)))
    c.with_acts-2.ensures
