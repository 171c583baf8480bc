use Rattle.term_scanner.proofs.tokens.Laws.{digit_inside, digit_least}
use Rattle.scanning.specs.Ranges.{scan_number}
use borrow.Author.Tests.{eq-eqb, ne_eqb}
use native.Mathlib.Omega.{arith}
use Rattle.term_scanner.proofs.tokens.scan_number.Goals as goal

pub overflow_add-i : goal.overflow_add-i
overflow_add-i c =
    omega (
      arith,
      digit_inside c.args.text.now _ _ _ c.byte-b.ensures
          c.is_digit.ensures c.if-is_digit.true,
    )

pub returns-then-b-eq48 : goal.returns-then-b-eq48
unfolding scan_number
returns-then-b-eq48 c =
    simp (
      c.number_zero.ensures,
      scan_number,
      ← c.byte-b.ensures,
      ← c.is_digit.ensures,
      c.if-is_digit.true,
      eq-eqb _ _ c.if-b-eq48.true,
    )

pub overflow_add-i-then-is_digit : goal.overflow_add-i-then-is_digit
overflow_add-i-then-is_digit c =
    omega (
      arith,
      digit_inside c.args.text.now _ _ _ c.byte-b.ensures
          c.is_digit.ensures c.if-is_digit.true,
    )

pub overflow_sub-b : goal.overflow_sub-b
overflow_sub-b c = digit_least _ _ c.is_digit.ensures c.if-is_digit.true

pub returns-then-is_digit : goal.returns-then-is_digit
unfolding scan_number
returns-then-is_digit c =
    simp (
      c.number_from.ensures,
      c.from.ensures,
      scan_number,
      ← c.byte-b.ensures,
      ← c.is_digit.ensures,
      c.if-is_digit.true,
      ne_eqb _ _ c.if-b-eq48.false,
    )

pub returns : goal.returns
unfolding scan_number
returns c = simp (scan_number, ← c.byte-b.ensures, ← c.is_digit.ensures, c.if-is_digit.false)
