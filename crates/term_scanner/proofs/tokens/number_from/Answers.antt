use Rattle.std.proofs.Common.{◌≡◌, ℕ, ◌∙◌, sym, ap, Some, arith}
use Rattle.term_scanner.proofs.tokens.Laws.{digit_least, number_ended, number_much, number_on, number_stop}
use Rattle.term_scanner.proofs.tokens.number_from.Goals as goal

pub returns-then-not-is_digit : goal.returns-then-not-is_digit
returns-then-not-is_digit c =
    sym (c.loop-at.invariant.1 ∙ number_ended c.args.text.now _ _ _ c.loop-at-test.true c.is_digit.ensures c.if-not-is_digit.true)

pub overflow_sub-b : goal.overflow_sub-b
overflow_sub-b c = digit_least _ _ c.is_digit.ensures c.if-not-is_digit.false

pub returns-then-next-gt-MAX_NUMBER : goal.returns-then-next-gt-MAX_NUMBER
returns-then-next-gt-MAX_NUMBER c =
    sym (c.loop-at.invariant.1 ∙ number_much c.args.text.now _ _ _ c.loop-at-test.true c.is_digit.ensures c.if-not-is_digit.false
    (rw c.from.ensures at c.if-next-gt-MAX_NUMBER.true))

pub loop-at-preserved : goal.loop-at-preserved
loop-at-preserved c = (
  c.if-next-gt-MAX_NUMBER.false,
  rw c.from.ensures (c.loop-at.invariant.1
      ∙ number_on c.args.text.now _ _ _ c.loop-at-test.true c.is_digit.ensures c.if-not-is_digit.false
      (rw c.from.ensures at c.if-next-gt-MAX_NUMBER.false)),
  omega arith,
)

pub returns : goal.returns
returns c =
    let e : c.max.result ≡ c.loop-at.at = omega (arith, c.max.ensures) in
    ap (λ (j : ℕ). Some (c.loop-at.value, j)) e
    ∙ sym (c.loop-at.invariant.1 ∙ number_stop c.args.text.now _ _ c.loop-at-test.false)
