use Rattle.instances.proofs.OpenPairs.{limit_is, elements_set, child_known, open_first, open_none}
use Rattle.instances.proofs.OpenPairs.{turn_join, turn_deep, turn_differs, turn_same, turn_open, join_less, same_less, open_less}
use Rattle.instances.specs.OpenPairs.{Elements}
use borrow.Author.Rules.{rules}
use lib.ListN.{length, replicate}
use mathlib.Core.Path.{◌≡◌, refl, sym, ◌∙◌, subst}
use native.Mathlib.Omega.{arith}
use Rattle.instances.proofs.same_applications.Goals as goal

pub loop-n-init : goal.loop-n-init
loop-n-init c =
    let l : length c.put.new.w ≡ 2050 = search rules in
    (l, omega arith, refl, c.requires.0, open_first _ _ _ _ _ _ _ _ (replicate 2050 0) _ l c.put.ensures c.requires.1)

pub returns-then-n-eq-COMPARISON_DEPTH : goal.returns-then-n-eq-COMPARISON_DEPTH
returns-then-n-eq-COMPARISON_DEPTH c =
    sym (c.loop-n.invariant.4
    ∙ turn_deep _ _ _ _ _ _ _ _ _ _ _ _ limit_is c.loop-n-test.true c.loop-n.invariant.1
    c.get-top.ensures c.argument_count.ensures.0 c.if-k-argument_count.true c.if-n-eq-COMPARISON_DEPTH.true)

pub overflow_add-top : goal.overflow_add-top
overflow_add-top c =
    let k = c.argument_count.ensures.1 in
    omega (arith, c.if-k-argument_count.true)

pub loop-n-smaller-else-not-same : goal.loop-n-smaller-else-not-same
loop-n-smaller-else-not-same c =
    same_less _ _ _ _ limit_is c.loop-n-test.true c.loop-n.invariant.1 c.get-top.ensures _ _ c.if-k-argument_count.true
    c.argument_count.ensures.1 c.if-n-eq-COMPARISON_DEPTH.false c.loop-n.invariant.0 c.put-then-k-argument_count.ensures

pub loop-n-preserved-else-not-same : goal.loop-n-preserved-else-not-same
loop-n-preserved-else-not-same c =
    let kept = c.put-then-k-argument_count.auto.w in
    let known = child_known _ _ _ _ _ _ _ _ _ _ _ _ c.loop-n.c _ _ c.loop-n.invariant.3 c.child_of.ensures
    c.child_of-then-k-argument_count.ensures c.compare.ensures in (
      kept ∙ c.loop-n.invariant.0,
      c.loop-n.invariant.1,
      c.compare.auto.c ∙ c.loop-n.invariant.2,
      known,
      c.loop-n.invariant.4
          ∙ turn_same _ _ _ _ _ _ _ _ _ _ _ _ limit_is c.loop-n-test.true c.loop-n.invariant.1
          c.get-top.ensures c.argument_count.ensures.0 c.if-k-argument_count.true c.if-n-eq-COMPARISON_DEPTH.false _ _
          c.child_of.ensures c.child_of-then-k-argument_count.ensures _ _ c.compare.ensures
          c.loop-n.invariant.3 c.loop-n.invariant.0 _ c.put-then-k-argument_count.ensures _ c.in-Settled.is c.if-not-same.false,
    )

pub loop-n-smaller-in-Opens : goal.loop-n-smaller-in-Opens
loop-n-smaller-in-Opens c =
    open_less _ _ _ _ limit_is c.loop-n-test.true c.loop-n.invariant.1 c.get-top.ensures _ _ c.if-k-argument_count.true
    c.argument_count.ensures.1 c.if-n-eq-COMPARISON_DEPTH.false c.loop-n.invariant.0 c.put-then-k-argument_count.ensures
    _ _ c.put-in-Opens.ensures

pub loop-n-preserved-in-Opens : goal.loop-n-preserved-in-Opens
loop-n-preserved-in-Opens c =
    let room = c.if-n-eq-COMPARISON_DEPTH.false in
    let few = c.loop-n.invariant.1 in
    let known = child_known _ _ _ _ _ _ _ _ _ _ _ _ c.loop-n.c _ _ c.loop-n.invariant.3 c.child_of.ensures
    c.child_of-then-k-argument_count.ensures c.compare.ensures in (
      c.put-in-Opens.auto.w ∙ c.put-then-k-argument_count.auto.w ∙ c.loop-n.invariant.0,
      omega arith,
      c.compare.auto.c ∙ c.loop-n.invariant.2,
      known,
      c.loop-n.invariant.4
          ∙ turn_open _ _ _ _ _ _ _ _ _ _ _ _ limit_is c.loop-n-test.true c.loop-n.invariant.1
          c.get-top.ensures c.argument_count.ensures.0 c.if-k-argument_count.true c.if-n-eq-COMPARISON_DEPTH.false _ _
          c.child_of.ensures c.child_of-then-k-argument_count.ensures _ _ c.compare.ensures
          c.loop-n.invariant.3 c.loop-n.invariant.0 _ c.put-then-k-argument_count.ensures _ _ c.in-Opens.is c.put-in-Opens.ensures,
    )

pub returns-then-not-same : goal.returns-then-not-same
returns-then-not-same c =
    sym (c.loop-n.invariant.4
    ∙ turn_differs _ _ _ _ _ _ _ _ _ _ _ _ limit_is c.loop-n-test.true c.loop-n.invariant.1
    c.get-top.ensures c.argument_count.ensures.0 c.if-k-argument_count.true c.if-n-eq-COMPARISON_DEPTH.false _ _
    c.child_of.ensures c.child_of-then-k-argument_count.ensures _ _ c.compare.ensures
    c.loop-n.invariant.3 _ c.in-Settled.is c.if-not-same.true)

pub loop-n-smaller : goal.loop-n-smaller
loop-n-smaller c =
    join_less _ _ _ _ limit_is c.loop-n-test.true c.loop-n.invariant.1 c.get-top.ensures

pub loop-n-preserved : goal.loop-n-preserved
loop-n-preserved c =
    let l = c.loop-n.invariant.1 in (
      c.loop-n.invariant.0,
      omega arith,
      search rules,
      subst Elements (sym c.put-else-k-argument_count.ensures) (elements_set _ _ _ c.loop-n.invariant.3 (omega arith)),
      c.loop-n.invariant.4
          ∙ turn_join _ _ _ _ _ _ _ _ _ _ _ _ limit_is c.loop-n-test.true c.loop-n.invariant.1
          c.get-top.ensures c.argument_count.ensures.0 _ _ c.if-k-argument_count.false
          c.widen.ensures.0 c.put-else-k-argument_count.ensures,
    )

pub returns : goal.returns
returns c = sym (c.loop-n.invariant.4 ∙ open_none _ _ _ _ _ _ _ _ _ _ c.loop-n-test.false)
