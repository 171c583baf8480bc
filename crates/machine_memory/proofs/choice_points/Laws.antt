-- Failures that are settled; the hypotheses are the facts on the code's path.
use Prim.Native.Nat.{ℕ}
use mathlib.Core.Path.{◌≡◌, ◌∙◌}
use mathlib.Core.List.{List}
use borrow.Author.Tests.{eq-eqb}
use Rattle.machine.specs.declared.Registers.{Registers}
use Rattle.machine.specs.Records.{made}
use Rattle.machine.specs.RegisterUpdates.{with_mode, with_next, with_trail, with_choice, with_goals, with_path, with_goal, with_member}
use Rattle.machine.specs.ChoicePoints.{resume_goal, resume_member, resume_branch, resume, backtrack, failed}
use Rattle.machine_memory.specs.Settling.{failed_mode, settled}

-- The mode of a failure is overwritten.
pub failure_settled : (r s : Registers) → s ≡ with_mode r failed_mode → (w : List ℕ) → settled w s ≡ failed w r
unfolding settled failed backtrack resume resume_branch resume_goal resume_member with_mode with_next with_trail with_choice with_goals with_path with_goal with_member
failure_settled r s e w = rw e

pub settled_here : (w w' : List ℕ) (r s : Registers) → r.mode ≡ failed_mode → made w' s ≡ failed w r → made w' s ≡ settled w r
unfolding settled
settled_here w w' r s z e = e ∙ rw (eq-eqb _ _ z)
