use mathlib.Core.Path.{◌∙◌}
use borrow.Author.Tests.{ne_eqb}
use Rattle.machine.specs.Machine.{due_act}
use Rattle.machine_loop.proofs.Laws.{not_take, not_try, act_counted}
use Rattle.machine_loop.proofs.match_act.Goals as goal

pub returns : goal.returns
unfolding due_act
returns c x =
    act_counted _ _ _ _ _ _ _ _ c.increment-u.ensures
    (c.check_node.ensures
    ∙ simp (
      due_act,
      ne_eqb _ _ (not_take _ c.requires.0),
      ne_eqb _ _ (not_try _ c.requires.0),
      ne_eqb _ _ c.if-r-eq-COMPARE.false,
    ))
    c.with_acts-2.ensures
