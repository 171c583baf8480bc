use Rattle.table_builder.specs.Nodes.{sum_members}
use borrow.Author.Tests.{le-leb, lt-leb, eq-eqb, ne_eqb}
use borrow.Author.Rules.{rules}
use Rattle.table_builder.proofs.node_info.sum_members.Goals as goal

pub returns-then-m-eq0 : goal.returns-then-m-eq0
unfolding sum_members
returns-then-m-eq0 c =
    (simp (sum_members, eq-eqb _ _ c.if-m-eq0.true), search rules)

pub returns-then-n-eq0 : goal.returns-then-n-eq0
unfolding sum_members
returns-then-n-eq0 c =
    (simp (sum_members, eq-eqb _ _ c.if-n-eq0.true, ne_eqb _ _ c.if-m-eq0.false), search rules)

pub returns-then-m-n-le-MAX_MEMBERS : goal.returns-then-m-n-le-MAX_MEMBERS
unfolding sum_members
returns-then-m-n-le-MAX_MEMBERS c = (
  simp (sum_members, le-leb _ _ c.if-m-n-le-MAX_MEMBERS.true, ne_eqb _ _ c.if-n-eq0.false, ne_eqb _ _ c.if-m-eq0.false),
  search rules,
)

pub returns : goal.returns
unfolding sum_members
returns c = (
  simp (sum_members, lt-leb _ _ c.if-m-n-le-MAX_MEMBERS.false, ne_eqb _ _ c.if-n-eq0.false, ne_eqb _ _ c.if-m-eq0.false),
  search rules,
)
