use Rattle.std.proofs.Common.{◌∙◌, sym, arith}
use Rattle.term_scanner.proofs.ranges.Laws.{range_end, range_first, mapped_turn, mapped_off}
use Rattle.term_scanner.proofs.ranges.same_by.Goals as goal

pub loop-byte-init : goal.loop-byte-init
loop-byte-init g c = λ f z h. range_first _ _ _ _ _

pub returns-then-not-same : goal.returns-then-not-same
returns-then-not-same g c =
    λ f z h. sym (c.loop-byte.invariant f z h
    ∙ mapped_off f z _ _ _ _ _ _ _ (omega arith) c.byte.ensures c.byte-in-loop-byte.ensures (h _ _ _ c.if-not-same.ensures))

pub loop-byte-preserved : goal.loop-byte-preserved
loop-byte-preserved g c =
    λ f z h. c.loop-byte.invariant f z h
    ∙ mapped_turn f z _ _ _ _ _ _ _ _ _ _ c.loop-byte-test.true c.byte.ensures c.byte-in-loop-byte.ensures
    (h _ _ _ c.if-not-same.ensures) c.position_after-p.ensures c.position_after-q.ensures

pub returns : goal.returns
returns g c = λ f z h. sym (c.loop-byte.invariant f z h ∙ range_end _ _ _ _ _ (omega arith))
