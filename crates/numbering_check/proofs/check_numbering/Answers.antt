use native.Mathlib.Omega.{arith}
use mathlib.Core.Path.{◌∙◌, sym}
use Rattle.numbering_check.proofs.LevelCache.{earlier_valid}
use Rattle.numbering_check.proofs.Laws.{numbering_end, numbering_on, numbering_wrong, sigil_later, sigil_passed, valid_counts}
use borrow.Author.Rules.{rules}
use Rattle.numbering_check.proofs.check_numbering.Goals as goal

pub loop-at-init : goal.loop-at-init
loop-at-init c =
    let h = sigil_passed c.args.text.now c.args.levels.now _ _ _ _ _ c.find_sigil-at.ensures c.requires.1 in
    (search rules, h.0, h.1)

pub check_symbol-requires : goal.check_symbol-requires
check_symbol-requires c = c.loop-at.invariant.2

pub returns-in_err-p : goal.returns-in_err-p
returns-in_err-p c =
    rw c.from_residual.ensures (
      sym (c.loop-at.invariant.1 ∙ numbering_wrong _ _ _ _ _ _ c.loop-at-test.true
          c.check_symbol.ensures.0 c.in_err-p.was),
      tt,
    )

pub loop-at-smaller : goal.loop-at-smaller
loop-at-smaller c =
    omega (arith, sigil_later c.args.text.now _ _ _ c.find_sigil-at-in-loop-at.ensures)

pub loop-at-preserved : goal.loop-at-preserved
loop-at-preserved c =
    let valid = valid_counts _ _ _ _ _ _ c.check_symbol.ensures.1 c.in_ok-p.was in
    let h = sigil_passed c.args.text.now _ _ _ _ _ _ c.find_sigil-at-in-loop-at.ensures valid in (
      search rules,
      c.loop-at.invariant.1 ∙ numbering_on _ _ _ _ _ _ _ _ c.loop-at-test.true
          c.check_symbol.ensures.0 c.in_ok-p.was ∙ h.0,
      h.1,
    )

pub returns : goal.returns
returns c = (
  sym (c.loop-at.invariant.1 ∙ numbering_end _ _ _ _ _ c.loop-at-test.false),
  earlier_valid _ _ _ _ _ c.loop-at.invariant.2 _ c.loop-at-test.false,
)
