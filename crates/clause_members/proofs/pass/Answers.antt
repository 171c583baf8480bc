use Rattle.clause_members.proofs.Laws.{passed_unnamed}
use Rattle.clause_members.proofs.pass.Goals as goal

pub returns : goal.returns
returns g c = (passed_unnamed _ _ _ _ c.below.ensures c.with_leaf.ensures, λ e. let k = rw c.if-this-ne0.false at e in cc)
