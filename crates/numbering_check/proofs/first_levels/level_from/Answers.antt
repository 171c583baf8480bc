use Rattle.numbering_check.proofs.first_levels.Laws.{found_later, from_found, from_here, from_none, from_on}
use mathlib.Core.Path.{◌∙◌, sym}
use native.Mathlib.Omega.{arith}
use Rattle.numbering_check.proofs.first_levels.level_from.Goals as goal

pub loop-at-init : goal.loop-at-init
loop-at-init c = from_found c.args.text.now _ _ _ _ c.find_byte-at.ensures

pub returns-then-is_showing : goal.returns-then-is_showing
returns-then-is_showing c =
    sym (c.loop-at.invariant ∙ from_here c.args.text.now _ _ _ _ _ c.loop-at-test.true
    c.is_showing.ensures c.if-is_showing.true c.level_at.ensures)

pub loop-at-smaller : goal.loop-at-smaller
loop-at-smaller c =
    omega (arith, found_later c.args.text.now _ _ _ c.find_byte-at-in-loop-at.ensures)

pub loop-at-preserved : goal.loop-at-preserved
loop-at-preserved c =
    c.loop-at.invariant ∙ from_on c.args.text.now _ _ _ _ c.loop-at-test.true
    c.is_showing.ensures c.if-is_showing.false
    ∙ from_found c.args.text.now _ _ _ _ c.find_byte-at-in-loop-at.ensures

pub returns : goal.returns
returns c =
    sym (c.loop-at.invariant ∙ from_none c.args.text.now _ _ _ c.loop-at-test.false)
