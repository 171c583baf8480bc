use native.Mathlib.Omega.{arith}
use Rattle.numbering_check.proofs.Laws.{sigil_blocks, sigil_end, sigil_leftover, sigil_made, sigil_on}
use mathlib.Core.Path.{◌≡◌, ◌∙◌, refl, sym}
use Rattle.numbering_check.proofs.find_sigil.Goals as goal

pub loop-at-init : goal.loop-at-init
loop-at-init c = (sigil_blocks _ _ _ _ c.skip_blocks-from.ensures, omega arith)

pub bounds-text-at : goal.bounds-text-at
bounds-text-at c = omega (arith, c.loop-at-test.true, c.requires)

pub returns-then-b-eq33 : goal.returns-then-b-eq33
returns-then-b-eq33 c =
    sym (c.loop-at.invariant.0 ∙ sigil_made c.args.text.now _ _ _ c.loop-at-test.true refl c.if-b-eq33.true)

pub returns-then-b-eq95 : goal.returns-then-b-eq95
returns-then-b-eq95 c =
    sym (c.loop-at.invariant.0 ∙ sigil_leftover c.args.text.now _ _ _ c.loop-at-test.true refl
    c.if-b-eq33.false c.if-b-eq95.true)

pub loop-at-preserved : goal.loop-at-preserved
loop-at-preserved c = (
  c.loop-at.invariant.0 ∙ sigil_on c.args.text.now _ _ _ c.loop-at-test.true refl c.if-b-eq33.false
      c.if-b-eq95.false,
  omega arith,
)

pub returns : goal.returns
returns c =
    (let e : c.max.result ≡ c.loop-at.at = omega (arith, c.max.ensures) in e)
    ∙ sym (c.loop-at.invariant.0 ∙ sigil_end c.args.text.now _ _ c.loop-at-test.false)
