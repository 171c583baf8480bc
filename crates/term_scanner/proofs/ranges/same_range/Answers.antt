use Rattle.std.proofs.Common.{rules, ℕ, ◌∙◌, refl}
use Rattle.term_scanner.proofs.ranges.Laws.{mapped_self}
use Rattle.term_scanner.proofs.ranges.same_range.Goals as goal

pub returns-then-saturating_sub-n : goal.returns-then-saturating_sub-n
returns-then-saturating_sub-n c =
    c.same_by.ensures (λ (x : ℕ). x) refl (λ x y z h. search rules) ∙ mapped_self _ _ _ _ _
