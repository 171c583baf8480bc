use Rattle.term_scanner.proofs.tokens.Laws.{end_here, end_on, end_start, end_stop}
use mathlib.Core.Path.{◌≡◌, ◌∙◌, sym}
use native.Mathlib.Omega.{arith}
use Rattle.term_scanner.proofs.tokens.name_end.Goals as goal

pub loop-at-init : goal.loop-at-init
loop-at-init c = (end_start _ _, omega arith)

pub loop-at-preserved : goal.loop-at-preserved
loop-at-preserved c = (
  c.loop-at.invariant.0 ∙ end_on c.args.text.now _ _ c.loop-at-test.true
      c.is_name_byte.ensures c.if-not-is_name_byte.false,
  omega arith,
)

pub returns-then-not-is_name_byte : goal.returns-then-not-is_name_byte
returns-then-not-is_name_byte c =
    sym (c.loop-at.invariant.0 ∙ end_here c.args.text.now _ _ c.loop-at-test.true
    c.is_name_byte.ensures c.if-not-is_name_byte.true)

pub returns : goal.returns
returns c =
    (let e : c.max.result ≡ c.loop-at.at = omega (arith, c.max.ensures) in e)
    ∙ sym (c.loop-at.invariant.0 ∙ end_stop c.args.text.now _ c.loop-at-test.false)
