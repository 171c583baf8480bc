use Rattle.instances.proofs.instance_ranges.OpenNodes.{head_differs, head_leaf, head_open}
use mathlib.Core.Path.{sym, ◌∙◌}
use Rattle.instances.proofs.instance_ranges.match_instance.Goals as goal

pub returns-in_err-e : goal.returns-in_err-e
returns-in_err-e c = c.from_residual.ensures ∙ sym (head_differs _ _ _ _ _ 1023 _ _ _ c.match_head.ensures c.in_err-e.was)

pub returns-then-opens : goal.returns-then-opens
returns-then-opens c =
    c.match_children.ensures
    ∙ sym (head_open _ _ _ _ _ 1023 _ _ _ c.match_head.ensures _ _ c.in_ok-e.was c.opens.ensures c.if-opens.true)

pub returns : goal.returns
returns c =
    sym (head_leaf _ _ _ _ _ 1023 _ _ _ c.match_head.ensures _ _ c.in_ok-e.was c.opens.ensures c.if-opens.false)
