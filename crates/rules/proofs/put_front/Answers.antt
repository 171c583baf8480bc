use mathlib.Core.Path.{ap, ◌∙◌}
use mathlib.Core.List.{◌++◌}
use lib.ListN.{drop}
use Rattle.rules.proofs.Results.{copied}
use Rattle.rules.proofs.put_front.Goals as goal

pub returns : goal.returns
returns c = ap (λ x. x ++ drop c.min-n.result c.args.res.now) c.copy_from_slice.ensures.after ∙ copied _ _ _ c.min-n.ensures
