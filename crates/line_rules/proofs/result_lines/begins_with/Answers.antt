use Rattle.line_checking.specs.Bindings.{begins_with}
use Rattle.line_rules.proofs.result_lines.begins_with.Goals as goal

pub returns : goal.returns
unfolding begins_with
returns c = c.same_range.ensures
