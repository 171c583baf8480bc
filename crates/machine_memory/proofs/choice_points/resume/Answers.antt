use Rattle.std.proofs.Common.{◌≡◌, sym, ap, ◌∙◌, slice_index_or}
use borrow.Author.Tests.{eq-eqb, ne_eqb}
use Rattle.memory.specs.Records.{field}
use Rattle.machine.specs.Fields as fields
use Rattle.machine.specs.RegisterUpdates.{with_mode, with_next, with_trail, with_choice, with_goals, with_path, with_goal, with_member}
use Rattle.machine.specs.ChoicePoints.{resume_goal, resume_member, resume_branch, resume}
use Rattle.machine_memory.specs.Rows.{row}
use Rattle.machine_memory.proofs.choice_points.resume.Goals as goal

pub returns-then-place-eq0 : goal.returns-then-place-eq0
unfolding row resume resume_branch resume_goal resume_member with_mode with_next with_trail with_choice with_goals with_path with_goal with_member
returns-then-place-eq0 c =
    let z : field c.args.w.now c.args.q fields.choice_place ≡ 0 =
    ap (λ l. slice_index_or l 13 0) (sym c.row.ensures) ∙ c.if-place-eq0.true in
    rw (c.row.ensures, eq-eqb _ _ z)

pub returns-else-place-eq0 : goal.returns-else-place-eq0
unfolding row resume resume_branch resume_goal resume_member with_mode with_next with_trail with_choice with_goals with_path with_goal with_member
returns-else-place-eq0 c =
    let e : field c.args.w.now c.args.q fields.choice_place ≡ slice_index_or c.row.result 13 0 =
    ap (λ l. slice_index_or l 13 0) (sym c.row.ensures) in
    rw (c.row.ensures, ne_eqb _ _ (λ z. c.if-place-eq0.false (sym e ∙ z)))
