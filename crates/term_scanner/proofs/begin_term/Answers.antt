use Rattle.std.proofs.Common.{ap, ◌∙◌, Some}
use mathlib.Core.Path.{refl}
use Rattle.term_scanner.proofs.Laws.{max_higher}
use Rattle.term_scanner.proofs.Advancing.{begin_spent, begin_none, begin_ended, begin_full, begin_opened}
use Rattle.term_scanner.proofs.begin_term.Goals as goal

pub returns-then-rank-s : goal.returns-then-rank-s
returns-then-rank-s c =
    begin_spent _ _ _ _ _ c.args.lent.now c.args.s c.requires.0 c.requires.2 _ c.if-rank-s.true refl refl refl

pub returns-in-Some-Leaf : goal.returns-in-Some-Leaf
returns-in-Some-Leaf c =
    begin_ended _ _ _ _ _ c.args.lent.now c.args.s c.requires.0 c.requires.2 _ c.if-rank-s.false
    c.scan_head.ensures _ _ _ _ (c.in-Some-Leaf.is ∙ ap Some c.in-Some-Leaf.field-0-is) (max_higher _ _ _ c.max.ensures) refl refl refl refl refl

pub returns-then-room-widen : goal.returns-then-room-widen
returns-then-room-widen c =
    begin_full _ _ _ _ _ c.args.lent.now c.args.s c.requires.0 c.requires.2 _ c.if-rank-s.false
    c.scan_head.ensures _ _ _ _ _ (c.in-Some-Open.is ∙ ap Some c.in-Some-Open.field-0-is) c.room.ensures
    c.widen.ensures.0 c.if-room-widen.true refl refl refl refl refl

pub returns-in-Some-Open : goal.returns-in-Some-Open
returns-in-Some-Open c =
    begin_opened _ _ _ _ _ c.args.lent.now c.args.s c.requires.0 c.requires.2 _ c.if-rank-s.false
    c.scan_head.ensures _ _ _ _ (c.in-Some-Open.is ∙ ap Some c.in-Some-Open.field-0-is) c.push_arguments.ensures.0
    c.push_arguments.ensures.1 refl refl refl refl

pub returns-in-None : goal.returns-in-None
returns-in-None c =
    begin_none _ _ _ _ _ c.args.lent.now c.args.s c.requires.0 c.requires.2 _ c.if-rank-s.false
    c.scan_head.ensures _ c.in-None.is refl refl refl
