use mathlib.Core.Path.{◌∙◌}
use Rattle.instances.proofs.brief_comparisons.Laws.{brief_alike, atoms_undecided, atoms_decided}
use Rattle.instances.proofs.same_atoms.Goals as goal

pub returns-in-Some : goal.returns-in-Some
returns-in-Some c =
    let atoms = c.atom_pair-atoms.ensures in
    atoms_decided _ _ _ _ _ _ _ _ _ (c.brief_elements.ensures ∙ brief_alike _ _ _ _ _ _ _ _ _ _ _ _ _ atoms.0 atoms.1 atoms.2 atoms.3) _
    c.in-Some.is

pub returns-in-None : goal.returns-in-None
returns-in-None c =
    let atoms = c.atom_pair-atoms.ensures in
    atoms_undecided _ _ _ _ _ _ _ _ _ (c.brief_elements.ensures ∙ brief_alike _ _ _ _ _ _ _ _ _ _ _ _ _ atoms.0 atoms.1 atoms.2 atoms.3) _
    c.in-None.is c.same_by_classes.ensures
