use mathlib.Core.Path.{sym, ◌∙◌}
use Rattle.instances.proofs.brief_comparisons.Laws.{brief_none, brief_first, brief_second, brief_apart, brief_open}
use Rattle.instances.proofs.brief_comparisons.Laws.{children_end, children_unknown, children_stop, children_next}
use Rattle.instances.proofs.brief_comparisons.+brief_elements.Goals as goal

pub returns-then-rank-eq0 : goal.returns-then-rank-eq0
returns-then-rank-eq0 t c =
    brief_none _ _ _ _ _ _ _ _ _ c.if-rank-eq0.true

pub returns-then-a-lt-FIRST_APPLICATION : goal.returns-then-a-lt-FIRST_APPLICATION
returns-then-a-lt-FIRST_APPLICATION t c =
    brief_first _ _ _ _ _ _ _ _ _ c.if-rank-eq0.false _ c.if-a-lt-FIRST_APPLICATION.true c.brief_name.ensures

pub returns-then-b-lt-FIRST_APPLICATION : goal.returns-then-b-lt-FIRST_APPLICATION
returns-then-b-lt-FIRST_APPLICATION t c =
    brief_second _ _ _ _ _ _ _ _ _ c.if-rank-eq0.false c.if-a-lt-FIRST_APPLICATION.false _ c.if-b-lt-FIRST_APPLICATION.true c.brief_name-then-b-lt-FIRST_APPLICATION.ensures

pub returns-then-label : goal.returns-then-label
returns-then-label t c =
    brief_apart _ _ _ _ _ _ _ _ _ c.if-rank-eq0.false c.if-a-lt-FIRST_APPLICATION.false c.if-b-lt-FIRST_APPLICATION.false _ _ c.label.ensures
    c.label-2.ensures c.if-label.true

pub loop-k-init : goal.loop-k-init
loop-k-init t c =
    brief_open _ _ _ _ _ _ _ _ _ c.if-rank-eq0.false c.if-a-lt-FIRST_APPLICATION.false c.if-b-lt-FIRST_APPLICATION.false _ _ c.label.ensures
    c.label-2.ensures _ c.if-label.false c.argument_count-n.ensures.0

pub returns-in_err-same : goal.returns-in_err-same
returns-in_err-same t c =
    c.from_residual.ensures ∙ sym (c.loop-k.invariant
    ∙ children_unknown _ _ _ _ _ _ _ _ _ c.loop-k-test.true c.child_of.ensures
    c.child_of-in-loop-k.ensures c.brief_elements.ensures c.in_err-same.was)

pub returns-then-not-same : goal.returns-then-not-same
returns-then-not-same t c =
    sym (c.loop-k.invariant
    ∙ children_stop _ _ _ _ _ _ _ _ _ c.loop-k-test.true c.child_of.ensures
    c.child_of-in-loop-k.ensures c.brief_elements.ensures _ c.in_ok-same.was c.if-not-same.true)

pub loop-k-preserved : goal.loop-k-preserved
loop-k-preserved t c =
    c.loop-k.invariant
    ∙ children_next _ _ _ _ _ _ _ _ _ c.loop-k-test.true c.child_of.ensures
    c.child_of-in-loop-k.ensures c.brief_elements.ensures _ c.in_ok-same.was c.if-not-same.false

pub returns : goal.returns
returns t c = sym (c.loop-k.invariant ∙ children_end _ _ _ _ _ _ c.loop-k-test.false)
