use Rattle.std.proofs.Common.{◌∙◌, sym}
use Rattle.term_scanner.proofs.folded_ranges.Laws.{folded_end, last_same, last_other}
use Rattle.term_scanner.proofs.folded_ranges.folded_inside.Goals as goal

pub returns-then-not-same_letter : goal.returns-then-not-same_letter
returns-then-not-same_letter c =
    sym (c.loop-k.invariant ∙ last_other _ _ _ _ _ _ c.loop-k-test.true c.same_letter.ensures c.if-not-same_letter.true)

pub loop-k-preserved : goal.loop-k-preserved
loop-k-preserved c =
    c.loop-k.invariant ∙ last_same _ _ _ _ _ _ c.loop-k-test.true c.same_letter.ensures c.if-not-same_letter.false

pub returns : goal.returns
returns c = sym (c.loop-k.invariant ∙ folded_end _ _ _ _ _ c.loop-k-test.false)
