use Rattle.term_scanner.proofs.blocks.Laws.{find_passed}
use Rattle.term_scanner.proofs.ranges.Laws.{find_here, find_on, find_stop}
use mathlib.Core.Path.{◌≡◌, ◌∙◌, sym}
use native.Mathlib.Omega.{arith}
use Rattle.term_scanner.proofs.ranges.find_byte.Goals as goal

pub loop-at-init : goal.loop-at-init
loop-at-init c = (find_passed _ _ _ _ _ _ c.skip_blocks-from.ensures, omega arith)

pub returns-then-text-at : goal.returns-then-text-at
returns-then-text-at c =
    sym (c.loop-at.invariant.0
    ∙ find_here c.args.text.now _ _ c.loop-at-test.true c.if-text-at.true)

pub loop-at-preserved : goal.loop-at-preserved
loop-at-preserved c =
    (c.loop-at.invariant.0 ∙ find_on c.args.text.now _ _ c.loop-at-test.true c.if-text-at.false, omega arith)

pub returns : goal.returns
returns c =
    (let e : c.max.result ≡ c.loop-at.at = omega (arith, c.max.ensures) in e)
    ∙ sym (c.loop-at.invariant.0 ∙ find_stop c.args.text.now _ _ c.loop-at-test.false)
