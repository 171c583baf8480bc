use Prim.Native.Nat.{◌<◌}
use Rattle.instances.proofs.instance_ranges.OpenNodes.{head_forward, open_first, open_none, open_other, open_end}
use Rattle.instances.proofs.instance_ranges.OpenNodes.{open_deep, open_differs, open_leaf, open_inner}
use Rattle.term_scanner.proofs.ranges.Laws.{inside}
use lib.ListN.{length}
use mathlib.Core.Path.{refl, sym, ◌∙◌}
use native.Mathlib.Omega.{arith}
use Rattle.instances.proofs.instance_ranges.match_open.Goals as goal

pub loop-n-init : goal.loop-n-init
loop-n-init c =
    let l = c.put.auto.w in
    let some = c.requires.1 in
    (refl, omega (arith, l, some), omega arith, open_first _ _ _ _ _ _ _ _ _ c.args.stack.now some c.put.ensures)

pub returns-then-byte-mark_before : goal.returns-then-byte-mark_before
returns-then-byte-mark_before c =
    let inv = c.loop-n.invariant in
    sym (inv.3
    ∙ open_other _ _ _ _ _ _ _ _ _ _ _ _ c.loop-n-test.true inv.2 c.get-level.ensures
    c.argument_count-count.ensures.0 c.byte.ensures c.mark_before.ensures.0 c.if-byte-mark_before.true)

pub overflow_add-at : goal.overflow_add-at
overflow_add-at c =
    omega (arith, inside c.args.text.now _ _ _ c.byte.ensures c.if-byte-mark_before.false c.mark_before.ensures.1)

pub returns-then-n-stack : goal.returns-then-n-stack
returns-then-n-stack c whole =
    let inv = c.loop-n.invariant in
    sym (inv.3
    ∙ open_deep _ _ _ _ _ _ _ _ _ _ _ _ c.loop-n-test.true inv.2 c.get-level.ensures
    c.argument_count-count.ensures.0 c.byte.ensures c.mark_before.ensures.0
    c.if-byte-mark_before.false c.if-j-count.true (c.if-n-stack.true ∙ inv.0 ∙ c.put.auto.w ∙ whole))

pub returns-in_default : goal.returns-in_default
returns-in_default c =
    let inv = c.loop-n.invariant in
    let kept = c.put.auto.w in
    let room : c.loop-n.n < 1024 = omega (arith, inv.0, inv.1, kept, c.requires.2, c.if-n-stack.false) in
    sym (inv.3
    ∙ open_differs _ _ _ _ _ _ _ _ _ _ _ _ c.loop-n-test.true inv.2 c.get-level.ensures
    c.argument_count-count.ensures.0 c.byte.ensures c.mark_before.ensures.0
    c.if-byte-mark_before.false c.if-j-count.true room _ _ refl _ c.argument_of.ensures.0 c.match_head.ensures c.in_default.is)

pub overflow_add-level : goal.overflow_add-level
overflow_add-level c =
    let k = c.argument_count-count.ensures.1 in
    omega (arith, c.if-j-count.true)

pub loop-n-smaller-then-opens : goal.loop-n-smaller-then-opens
loop-n-smaller-then-opens c =
    let l = inside c.args.text.now _ _ _ c.byte.ensures c.if-byte-mark_before.false c.mark_before.ensures.1 in
    omega (arith, head_forward _ _ _ _ _ _ _ _ _ c.match_head.ensures c.in-Some.is)

pub loop-n-preserved-then-opens : goal.loop-n-preserved-then-opens
loop-n-preserved-then-opens c =
    let inv = c.loop-n.invariant in
    let left = c.if-n-stack.false in
    let kept = c.put.auto.w in
    let room : c.loop-n.n < 1024 = omega (arith, inv.0, inv.1, kept, c.requires.2, left) in
    let long : c.loop-n.n < length c.loop-n.stack = omega (arith, inv.1, left) in
    let first = c.put-then-j-count.auto.w in
    let second = c.put-then-j-count-2.auto.w in (
      second ∙ first ∙ inv.0,
      omega (arith, second, first, long),
      omega (arith, room),
      inv.3
          ∙ open_inner _ _ _ _ _ _ _ _ _ _ _ _ c.loop-n-test.true inv.2 c.get-level.ensures
          c.argument_count-count.ensures.0 c.byte.ensures c.mark_before.ensures.0 c.if-byte-mark_before.false c.if-j-count.true
          room _ _ refl _ c.argument_of.ensures.0 c.match_head.ensures long _ _
          c.in-Some.is c.opens.ensures _ _ c.put-then-j-count.ensures c.put-then-j-count-2.ensures c.if-opens.true,
    )

pub loop-n-smaller-else-opens : goal.loop-n-smaller-else-opens
loop-n-smaller-else-opens c =
    let l = inside c.args.text.now _ _ _ c.byte.ensures c.if-byte-mark_before.false c.mark_before.ensures.1 in
    omega (arith, head_forward _ _ _ _ _ _ _ _ _ c.match_head.ensures c.in-Some.is)

pub loop-n-preserved-else-opens : goal.loop-n-preserved-else-opens
loop-n-preserved-else-opens c =
    let inv = c.loop-n.invariant in
    let left = c.if-n-stack.false in
    let kept = c.put.auto.w in
    let room : c.loop-n.n < 1024 = omega (arith, inv.0, inv.1, kept, c.requires.2, left) in
    let long : c.loop-n.n < length c.loop-n.stack = omega (arith, inv.1, left) in
    let first = c.put-then-j-count.auto.w in
    let second = c.put-then-j-count-2.auto.w in (
      second ∙ first ∙ inv.0,
      omega (arith, second, first, long),
      omega (arith, room),
      inv.3
          ∙ open_leaf _ _ _ _ _ _ _ _ _ _ _ _ c.loop-n-test.true inv.2 c.get-level.ensures
          c.argument_count-count.ensures.0 c.byte.ensures c.mark_before.ensures.0 c.if-byte-mark_before.false c.if-j-count.true
          room _ _ refl _ c.argument_of.ensures.0 c.match_head.ensures long _ _
          c.in-Some.is c.opens.ensures _ _ c.put-then-j-count.ensures c.put-then-j-count-2.ensures c.if-opens.false,
    )

pub loop-n-smaller : goal.loop-n-smaller
loop-n-smaller c =
    omega (arith, inside c.args.text.now _ _ _ c.byte.ensures c.if-byte-mark_before.false c.mark_before.ensures.1)

pub loop-n-preserved : goal.loop-n-preserved
loop-n-preserved c =
    let inv = c.loop-n.invariant in (
      inv.0,
      omega (arith, inv.1),
      omega (arith, inv.2),
      inv.3
          ∙ open_end _ _ _ _ _ _ _ _ _ _ _ _ c.loop-n-test.true inv.2 c.get-level.ensures
          c.argument_count-count.ensures.0 c.byte.ensures c.mark_before.ensures.0 c.if-byte-mark_before.false c.if-j-count.false,
    )

pub returns : goal.returns
returns c = sym (c.loop-n.invariant.3 ∙ open_none _ _ _ _ _ _ _ _ _ c.loop-n-test.false)
