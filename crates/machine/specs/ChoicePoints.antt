-- Choice points: saving the registers to go on with later, and going on with the latest ones saved ("On failure the latest open
-- alternative is taken up, with all bindings and levels as they were").
use Rattle.std.specs.Prelude.{ℕ, ◌-◌, cond, List, eqb}
use Rattle.machine.specs.declared.Registers.{Registers}
use Rattle.machine.specs.Fields as fields
use Rattle.machine.specs.Records.{Made, made, put_choice, put_chosen, put_position, no_mode, take_mode, try_mode}
use Rattle.machine.specs.RegisterUpdates.{with_mode, with_next, with_trail, with_choice, with_goals, with_path, with_goal, with_member}
use Rattle.machine.specs.Trail.{undo}
use Rattle.memory.specs.Records.{field, put_field}

-- A choice point in record u. Place 0 stands for a goal to take.
unfoldable pub save_choice : List ℕ → ℕ → Registers → List ℕ
save_choice w u r =
    put_position (put_chosen (put_choice (put_field w u fields.variables r.next) u r.trail r.choice r.goals r.path r.line) u
    r.node r.frame r.program r.level) u
    r.hypothesis r.clause r.member r.place

-- Restores the goal or atom of the choice point in record q; `resume_member` restores its member.
unfoldable pub resume_goal : List ℕ → Registers → ℕ → Registers
resume_goal w r q =
    with_goal r (field w q fields.choice_node) (field w q fields.choice_frame) (field w q fields.choice_program) (field w q fields.choice_level)

unfoldable pub resume_member : List ℕ → Registers → ℕ → Registers
resume_member w r q =
    with_mode (with_member r (field w q fields.choice_hypothesis) (field w q fields.choice_clause) (field w q fields.choice_member)
    (field w q fields.choice_place)) (cond (eqb (field w q fields.choice_place) 0) take_mode try_mode)

-- Restores the branch of the choice point in record q, and what was open before it.
unfoldable pub resume_branch : List ℕ → Registers → ℕ → Registers
resume_branch w r q =
    with_path (with_goals (with_choice (with_trail (with_next r (field w q fields.variables)) (field w q fields.choice_trail))
    (field w q fields.choice_before)) (field w q fields.choice_goals)) (field w q fields.choice_path) (field w q fields.choice_line)

unfoldable pub resume : List ℕ → Registers → ℕ → Registers
resume w r q = resume_member w (resume_goal w (resume_branch w r q) q) q

unfoldable pub backtrack : List ℕ → Registers → ℕ → Made
backtrack w r q = made (undo r.trail w r.trail (field w q fields.choice_trail)) (resume w r q)

-- Failure: the latest choice point, or no.
unfoldable pub failed : List ℕ → Registers → Made
failed w r = cond (eqb r.choice 0) (made w (with_mode r no_mode)) (backtrack w r (r.choice - 1))
