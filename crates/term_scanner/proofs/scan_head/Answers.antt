use native.Mathlib.Omega.{arith}
use Rattle.term_scanner.proofs.Laws.{sigil_inside, head_sigil, head_numeral, head_open, head_unknown}
use Rattle.term_scanner.proofs.scan_head.Goals as goal

pub overflow_add-i : goal.overflow_add-i
overflow_add-i c =
    omega (
      arith,
      sigil_inside c.args.text.now _ _ _ c.byte-b.ensures c.is_sigil.ensures c.if-is_sigil.true,
    )

pub returns-then-is_sigil : goal.returns-then-is_sigil
returns-then-is_sigil c =
    head_sigil _ _ _ _ _ _ _ c.byte-b.ensures c.is_sigil.ensures _ _ c.if-is_sigil.true
    c.scan_symbol.ensures c.leaf_of.ensures

pub returns-then-is_digit : goal.returns-then-is_digit
returns-then-is_digit c =
    head_numeral _ _ _ _ _ _ _ c.byte-b.ensures c.is_sigil.ensures c.if-is_sigil.false _
    c.is_digit.ensures _ _ c.if-is_digit.true c.scan_numeral.ensures c.leaf_of-then-is_digit.ensures

pub returns-then-is_applied : goal.returns-then-is_applied
returns-then-is_applied c =
    head_open _ _ _ _ _ _ _ c.byte-b.ensures c.is_sigil.ensures c.if-is_sigil.false _
    c.is_digit.ensures c.if-is_digit.false _ _ c.name_end-at.ensures
    c.symbol_named-k.ensures _ c.is_applied.ensures _ _ c.if-is_applied.true
    c.arity.ensures c.scan_open.ensures

pub returns : goal.returns
returns c =
    head_unknown _ _ _ _ _ _ _ c.byte-b.ensures c.is_sigil.ensures c.if-is_sigil.false _
    c.is_digit.ensures c.if-is_digit.false _ _ c.name_end-at.ensures
    c.symbol_named-k.ensures _ c.is_applied.ensures c.if-is_applied.false
