use Rattle.memory.proofs.Records.{and_put}
use Rattle.line_checking.specs.HypothesisChains.{put_links}
use Rattle.checker_state.proofs.hypothesis_chains.put_links.Goals as goal

pub returns : goal.returns
unfolding put_links
returns c =
    and_put _ _ _ (and_put _ _ _ c.put_field.ensures c.put_field-2.ensures)
    c.put_field-3.ensures
