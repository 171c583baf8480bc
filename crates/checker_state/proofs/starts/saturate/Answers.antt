use Rattle.line_checking.specs.HypothesisChains.{saturate}
use borrow.Author.Rules.{rules}
use Rattle.checker_state.proofs.starts.saturate.Goals as goal

pub returns : goal.returns
unfolding saturate
returns c = search rules
