use Rattle.std.proofs.Common.{of_calls, ◌∙◌, refl, sym}
use Rattle.sheet_format.specs.Bytes.{folded, is_capital}
use Rattle.scanning.proofs.Ranges.{range_folded}
use Rattle.term_scanner.proofs.folded_ranges.same_folded.Goals as goal

pub returns-then-saturating_sub-n : goal.returns-then-saturating_sub-n
unfolding folded is_capital
returns-then-saturating_sub-n c =
    c.same_by.ensures folded refl (λ x y z h. search (of_calls, h)) ∙ sym (range_folded _ _ _ _ _)
