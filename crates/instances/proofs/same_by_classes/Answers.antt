use mathlib.Core.Path.{◌∙◌}
use Rattle.instances.proofs.OpenPairs.{compare_alike, atoms_elements, atoms_level, atoms_settled, atoms_opened}
use Rattle.instances.proofs.same_by_classes.Goals as goal

pub returns-in-Settled : goal.returns-in-Settled
returns-in-Settled c =
    let atoms = c.atom_pair-atoms.ensures in
    let look = c.compare.ensures ∙ compare_alike _ _ _ _ _ _ _ _ _ _ _ _ _ atoms.0 atoms.1 atoms.2 atoms.3 in
    atoms_settled _ _ _ _ _ _ _ _ _ _ look _ c.in-Settled.is

pub same_applications-requires : goal.same_applications-requires
same_applications-requires c =
    let atoms = c.atom_pair-atoms.ensures in
    let look = c.compare.ensures ∙ compare_alike _ _ _ _ _ _ _ _ _ _ _ _ _ atoms.0 atoms.1 atoms.2 atoms.3 in
    (atoms_elements _ _ _ _ _ _ _ _ _ _ look, atoms_level _ _ _ _ _ _ _ _ _ _ look _ c.in-Opens.is)

pub returns-in-Opens : goal.returns-in-Opens
returns-in-Opens c =
    let atoms = c.atom_pair-atoms.ensures in
    let look = c.compare.ensures ∙ compare_alike _ _ _ _ _ _ _ _ _ _ _ _ _ atoms.0 atoms.1 atoms.2 atoms.3 in
    atoms_opened _ _ _ _ _ _ _ _ _ _ look _ _ c.in-Opens.is (rw (atoms.0, atoms.1) at c.same_applications.ensures)
