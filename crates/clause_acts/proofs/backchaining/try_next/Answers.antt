use Rattle.std.proofs.Common.{arith, ◌∙◌}
use Rattle.std.proofs.lemmas.Grind.{common_steps}
use Rattle.machine.specs.Backchaining.{try_next, try_found}
use Rattle.machine_memory.proofs.Settling.{settled_tried}
use Rattle.clause_acts.proofs.backchaining.try_next.Goals as goal

pub returns-then-label : goal.returns-then-label
unfolding try_next try_found
returns-then-label c = settled_tried _ _ _ _ _ _ _ _ c.try_member.ensures ∙ grind (arith, common_steps)
