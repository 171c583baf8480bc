use mathlib.Core.Path.{refl, ◌∙◌}
use native.Mathlib.Omega.{arith}
use Rattle.term_scanner.proofs.Advancing.{empty_fits, reached, handed_over, whole_start}
use Rattle.term_scanner.proofs.scan_term.Goals as goal

pub scan_within-s-requires : goal.scan_within-s-requires
scan_within-s-requires c = (empty_fits _ _ refl refl refl, omega arith, refl)

pub returns-in-Full : goal.returns-in-Full
returns-in-Full c =
    handed_over _ _ _ _ _ _ _ _ _ _ c.scan_within-s.ensures.0 refl c.scan_deep.ensures
    ∙ whole_start _ _ _ _ _ _ _ refl refl refl refl refl

pub returns-in_default : goal.returns-in_default
returns-in_default c =
    let h = c.scan_within-s.ensures in
    c.found.ensures
    ∙ reached _ _ _ _ _ _ _ _ _ h.0 h.1 h.2 c.in_default.not-Full
    ∙ whole_start _ _ _ _ _ _ _ refl refl refl refl refl
