use mathlib.Core.Path.{refl, ◌∙◌}
use Rattle.term_scanner.proofs.Advancing.{reached_deep, deep_same}
use Rattle.term_scanner.proofs.scan_deep.Goals as goal

pub returns : goal.returns
returns c =
    let h = c.scan_within.ensures in
    c.found.ensures
    ∙ reached_deep _ _ _ _ _ _ _ _ _ h.0 h.1 h.2 refl c.requires.0
    ∙ deep_same _ _ _ _ _ _ _ _ c.requires.1 c.requires.2 refl refl refl refl refl
