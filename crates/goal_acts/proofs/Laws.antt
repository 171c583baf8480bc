-- A goal with a rule of its own is taken without failing, so nothing is to be settled.
use Rattle.machine_memory.proofs.Settling.{settled_true, settled_and, settled_or, settled_implies, settled_exists, settled_forall}

pub ruleset settled_goals = (settled_true, settled_and, settled_or, settled_implies, settled_exists, settled_forall)
