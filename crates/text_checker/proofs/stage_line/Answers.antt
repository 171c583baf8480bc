use native.Mathlib.Omega.{arith}
use Rattle.text_checker.proofs.Laws.{open_due, bind_due, sequent_due, none_due}
use Rattle.text_checker.proofs.stage_line.Goals as goal

pub returns-in-0 : goal.returns-in-0
returns-in-0 c = open_due _ _ _ _ _ _ _ _ _ _ _ _ c.in-0.is (c.check_result.ensures _)

pub returns-in-1 : goal.returns-in-1
returns-in-1 c = bind_due _ _ _ _ _ _ _ _ _ _ _ _ c.in-1.is c.bind_line.ensures

pub returns-in-2 : goal.returns-in-2
returns-in-2 c = sequent_due _ _ _ _ _ _ _ _ _ _ _ _ c.in-2.is c.sequent_line.ensures

pub returns-in_default : goal.returns-in_default
returns-in_default c = none_due _ _ _ _ _ _ _ _ _ _ _ _ (λ h. omega arith) (λ h. omega arith) (λ h. omega arith) (c.broken.ensures _)
