use Prim.Native.Nat.{ℕ}
use native.Mathlib.Omega.{arith}
use mathlib.Core.Path.{sym}
use lib.ListN.{length-replicate}
use Rattle.text_checker.proofs.Laws.{end_after, line_judged, next_valid, staged_valid, text_start, text_ends, text_breaks, text_on}
use Rattle.text_checker.proofs.Laws.{text_valid}
use borrow.Author.Rules.{rules}
use Rattle.text_checker.proofs.judge_text.Goals as goal

pub loop-e-init : goal.loop-e-init
loop-e-init c = (
  search rules,
  search rules,
  search rules,
  c.text_line_end-e.ensures,
  text_start _ _ _ _ _ _ _ _ c.start-r.ensures,
  length-replicate {A = ℕ} 8472 0,
  text_valid 8472 _ _ c.start-r.ensures,
)

pub invariant_of-line : goal.invariant_of-line
invariant_of-line c =
    record { in_text = (c.loop-e.invariant.2, end_after c.args.text.now _ _ c.loop-e.invariant.3, omega (arith, c.loop-e-test.true, c.requires)) }

pub slice_bounds-order_line-end : goal.slice_bounds-order_line-end
slice_bounds-order_line-end c =
    sym c.loop-e.invariant.5

pub order_line-r-requires : goal.order_line-r-requires
order_line-r-requires c = (
  omega (arith, c.loop-e-test.true),
  staged_valid _ _ _ _ _ _ _ _ _ _ _ _ _ _ c.stage_line-s.ensures c.loop-e.invariant.6,
)

pub returns-then-stage-eq-BROKEN : goal.returns-then-stage-eq-BROKEN
returns-then-stage-eq-BROKEN c =
    let judged = line_judged _ _ _ _ _ _ _ _ _ _ _ _ _ _ c.stage_line-s.ensures (c.order_line-r.ensures.0 _) in
    sym (text_breaks _ _ _ _ _ _ _ _ _ _ _ _ c.loop-e.invariant.1 c.loop-e.invariant.3 _ _ judged
    c.loop-e-test.true c.loop-e.invariant.4 c.if-stage-eq-BROKEN.true)

pub loop-e-smaller : goal.loop-e-smaller
loop-e-smaller c =
    omega (arith, end_after c.args.text.now _ _ c.loop-e.invariant.3, c.loop-e-test.true)

pub loop-e-preserved : goal.loop-e-preserved
loop-e-preserved c =
    let h = end_after c.args.text.now _ _ c.loop-e.invariant.3 in
    let judged = line_judged _ _ _ _ _ _ _ _ _ _ _ _ _ _ c.stage_line-s.ensures (c.order_line-r.ensures.0 _) in (
      search rules,
      search rules,
      omega arith,
      c.text_line_end-e-in-loop-e.ensures,
      text_on _ _ _ _ _ _ _ _ _ _ _ _ c.loop-e.invariant.1 c.loop-e.invariant.3 _ _ judged c.loop-e-test.true
          c.loop-e.invariant.4 c.if-stage-eq-BROKEN.false,
      search rules,
      next_valid c.args.text.now _ _ _ _ _ c.loop-e.invariant.3 c.loop-e.invariant.1 c.loop-e-test.true
          (c.order_line-r.ensures.1 c.if-stage-eq-BROKEN.false),
    )

pub returns : goal.returns
returns c =
    sym (text_ends _ _ _ _ _ _ _ _ _ _ _ _ c.loop-e.invariant.1 c.loop-e.invariant.3 _ c.loop-e.invariant.4
    c.loop-e-test.false c.end_verdict.ensures)
