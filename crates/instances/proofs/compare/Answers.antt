use Rattle.instances.proofs.Laws.{compare_one, compare_first, compare_second, compare_open, compare_other}
use Rattle.instances.proofs.compare.Goals as goal

pub returns-then-a-b : goal.returns-then-a-b
returns-then-a-b c =
    compare_one _ _ _ _ _ _ _ _ _ _ _ _ _ c.root_of-a.ensures c.root_of-b.ensures c.if-a-b.true

pub returns-then-a-lt-FIRST_APPLICATION : goal.returns-then-a-lt-FIRST_APPLICATION
returns-then-a-lt-FIRST_APPLICATION c =
    compare_first _ _ _ _ _ _ _ _ _ _ _ _ _ c.root_of-a.ensures c.root_of-b.ensures c.if-a-b.false _ _
    c.if-a-lt-FIRST_APPLICATION.true c.join_name.ensures

pub returns-then-b-lt-FIRST_APPLICATION : goal.returns-then-b-lt-FIRST_APPLICATION
returns-then-b-lt-FIRST_APPLICATION c =
    compare_second _ _ _ _ _ _ _ _ _ _ _ _ _ c.root_of-a.ensures c.root_of-b.ensures c.if-a-b.false _ _
    c.if-a-lt-FIRST_APPLICATION.false c.if-b-lt-FIRST_APPLICATION.true c.join_name-then-b-lt-FIRST_APPLICATION.ensures

pub returns-then-label : goal.returns-then-label
returns-then-label c =
    compare_open _ _ _ _ _ _ _ _ _ _ _ _ _ c.root_of-a.ensures c.root_of-b.ensures c.if-a-b.false
    c.if-a-lt-FIRST_APPLICATION.false c.if-b-lt-FIRST_APPLICATION.false _ _ c.label.ensures c.label-2.ensures _
    c.if-label.true c.level_of.ensures

pub returns : goal.returns
returns c =
    compare_other _ _ _ _ _ _ _ _ _ _ _ _ _ c.root_of-a.ensures c.root_of-b.ensures c.if-a-b.false
    c.if-a-lt-FIRST_APPLICATION.false c.if-b-lt-FIRST_APPLICATION.false _ _ c.label.ensures c.label-2.ensures
    c.if-label.false
