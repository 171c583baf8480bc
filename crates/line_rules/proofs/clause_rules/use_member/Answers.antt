use Rattle.line_rules.proofs.clause_rules.Laws.{member_same, member_other}
use Rattle.line_rules.proofs.clause_rules.use_member.Goals as goal

pub returns-then-same_atoms : goal.returns-then-same_atoms
returns-then-same_atoms c =
    member_same _ _ _ _ _ _ _ _ _ c.head_of.ensures c.same_atoms.ensures _
    c.if-same_atoms.true c.with_body.ensures

pub returns : goal.returns
returns c =
    member_other _ _ _ _ _ _ _ _ _ c.head_of.ensures c.same_atoms.ensures _
    c.if-same_atoms.false (c.broken.ensures _)
