use Rattle.std.proofs.Common.{rules, arith, refl, sym, ◌∙◌}
use Rattle.line_parser.proofs.fields.Laws.{digits_off, digits_large, digits_on, digits_end, answer_bad, answer_value}
use Rattle.line_parser.proofs.fields.read_digits.Goals as goal

pub loop-b-init : goal.loop-b-init
loop-b-init c = (omega arith, refl)

pub returns-then-not-is_ascii_digit : goal.returns-then-not-is_ascii_digit
returns-then-not-is_ascii_digit c =
    answer_bad _ _ (c.loop-b.invariant.1
    ∙ digits_off _ _ _ c.loop-b-test.true (sym c.is_ascii_digit.ensures.value ∙ c.if-not-is_ascii_digit.true))

pub returns-then-v-gt-MAX_NUMBER : goal.returns-then-v-gt-MAX_NUMBER
returns-then-v-gt-MAX_NUMBER c =
    answer_bad _ _ (c.loop-b.invariant.1
    ∙ digits_large _ _ _ c.loop-b-test.true _ (sym c.is_ascii_digit.ensures.value ∙ c.if-not-is_ascii_digit.false) (omega arith)
    c.if-v-gt-MAX_NUMBER.true)

pub loop-b-preserved : goal.loop-b-preserved
loop-b-preserved c = (
  search rules,
  c.loop-b.invariant.1
      ∙ digits_on _ _ _ c.loop-b-test.true _ (sym c.is_ascii_digit.ensures.value ∙ c.if-not-is_ascii_digit.false) (omega arith),
)

pub returns : goal.returns
returns c =
    let l = c.loop-b in
    answer_value _ _ _ _ (l.invariant.1 ∙ digits_end _ _ _ c.loop-b-test.false l.invariant.0) refl
