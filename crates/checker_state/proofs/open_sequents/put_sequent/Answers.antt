use Rattle.memory.proofs.Records.{and_put}
use Rattle.line_checking.specs.Sequents.{put_sequent}
use Rattle.checker_state.proofs.open_sequents.put_sequent.Goals as goal

pub returns : goal.returns
unfolding put_sequent
returns c =
    and_put _ _ _
    (and_put _ _ _ (and_put _ _ _ (and_put _ _ _ c.put_field.ensures c.put_field-2.ensures)
    c.put_field-3.ensures) c.put_field-4.ensures) c.put_field-5.ensures
