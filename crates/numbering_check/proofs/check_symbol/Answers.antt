use Rattle.std.proofs.Common.{◌∙◌, sym}
use Rattle.numbering_check.proofs.Laws.{at_leftover, at_made, at_none, leftover_byte, leftover_known, leftover_right, leftover_wrong, made_known, made_right}
use Rattle.numbering_check.proofs.Laws.{made_wrong}
use Rattle.numbering_check.proofs.check_symbol.Goals as goal

pub returns-then-not-is_symbol : goal.returns-then-not-is_symbol
returns-then-not-is_symbol c = at_none c.args.text.now _ _ _ _ c.is_symbol.ensures _ c.if-not-is_symbol.true c.requires

pub counted-requires : goal.counted-requires
counted-requires c =
    let h = made_known c.args.text.now c.args.levels.now _ _ _ _ _ c.requires c.number_after-n.ensures.0
    (sym c.byte.ensures ∙ c.if-byte-eq33.true) c.made_entry-a.ensures in (h.0, c.number_after-n.ensures.1, h.1)

pub returns-in_err-made : goal.returns-in_err-made
returns-in_err-made c =
    rw c.from_residual.ensures (
    at_made c.args.text.now _ _ _ _ c.is_symbol.ensures _ _ c.counted.new.levels c.if-not-is_symbol.false c.byte.ensures
    c.if-byte-eq33.true
    (made_wrong c.args.text.now c.args.levels.now _ _ _ _ 0 c.requires c.number_after-n.ensures.0 _ c.counted.ensures.0 c.in_err-made.was)
    )

pub returns-then-byte-eq33 : goal.returns-then-byte-eq33
returns-then-byte-eq33 c =
    at_made c.args.text.now _ _ _ _ c.is_symbol.ensures _ _ _ c.if-not-is_symbol.false c.byte.ensures c.if-byte-eq33.true
    (made_right c.args.text.now c.args.levels.now _ _ _ _ _ c.requires c.number_after-n.ensures.0 _ _ _
    (sym c.byte.ensures ∙ c.if-byte-eq33.true) (sym c.is_symbol.ensures ∙ c.if-not-is_symbol.false) c.made_entry-a.ensures
    c.counted.ensures c.in_ok-made.was)

pub counted-requires-2 : goal.counted-requires-2
counted-requires-2 c =
    let b = leftover_byte c.args.text.now _ _ _ c.is_symbol.ensures c.if-not-is_symbol.false c.byte.ensures c.if-byte-eq33.false in
    let h = leftover_known c.args.text.now c.args.levels.now _ _ _ _ _ c.requires c.number_after-n.ensures.0
    b.0 c.leftover_entry-a.ensures in (h.0, c.number_after-n.ensures.1, h.1)

pub returns-in_err-leftover : goal.returns-in_err-leftover
returns-in_err-leftover c =
    rw c.from_residual-in_err-leftover.ensures (
    at_leftover c.args.text.now _ _ _ _ c.is_symbol.ensures _ _ c.counted-2.new.levels c.if-not-is_symbol.false c.byte.ensures
    c.if-byte-eq33.false
    (leftover_wrong c.args.text.now c.args.levels.now _ _ _ _ 0 c.requires c.number_after-n.ensures.0 _ c.counted-2.ensures.0
    c.in_err-leftover.was)
    )

pub returns : goal.returns
returns c =
    let b = leftover_byte c.args.text.now _ _ _ c.is_symbol.ensures c.if-not-is_symbol.false c.byte.ensures c.if-byte-eq33.false in
    at_leftover c.args.text.now _ _ _ _ c.is_symbol.ensures _ _ _ c.if-not-is_symbol.false c.byte.ensures c.if-byte-eq33.false
    (leftover_right c.args.text.now c.args.levels.now _ _ _ _ _ c.requires c.number_after-n.ensures.0 _ _ _
    b.0 b.1 c.leftover_entry-a.ensures c.counted-2.ensures c.in_ok-leftover.was)
