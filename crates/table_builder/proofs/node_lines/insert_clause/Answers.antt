use Rattle.table_builder.proofs.node_lines.Laws.{clause_taken}
use Rattle.table_builder.specs.Nodes.{insert_clause}
use borrow.Author.Tests.{le-leb, lt-leb, eq-eqb, ne_eqb}
use Rattle.table_builder.proofs.node_lines.insert_clause.Goals as goal

pub returns-then-k-ge-MAX_CLAUSES : goal.returns-then-k-ge-MAX_CLAUSES
unfolding insert_clause
returns-then-k-ge-MAX_CLAUSES c =
    simp (insert_clause, le-leb _ _ c.if-k-ge-MAX_CLAUSES.true)

pub returns-then-k-n : goal.returns-then-k-n
unfolding insert_clause
returns-then-k-n c =
    simp (insert_clause, le-leb _ _ c.if-k-n.true, lt-leb _ _ c.if-k-ge-MAX_CLAUSES.false)

pub returns-then-members-eq0 : goal.returns-then-members-eq0
unfolding insert_clause
returns-then-members-eq0 c =
    simp (
      insert_clause,
      eq-eqb _ _ c.if-members-eq0.true,
      ← c.members.ensures.0,
      lt-leb _ _ c.if-k-n.false,
      lt-leb _ _ c.if-k-ge-MAX_CLAUSES.false,
    )

pub returns-then-mask-eq0 : goal.returns-then-mask-eq0
returns-then-mask-eq0 c =
    clause_taken _ _ _ _ _ _ _ c.if-k-ge-MAX_CLAUSES.false c.if-k-n.false c.members.ensures.0 c.if-members-eq0.false
    c.mask.ensures.0 c.if-mask-eq0.true c.widen.ensures.0 c.put.ensures

pub returns : goal.returns
unfolding insert_clause
returns c =
    simp (
      insert_clause,
      ne_eqb _ _ c.if-mask-eq0.false,
      ← c.mask.ensures.0,
      ne_eqb _ _ c.if-members-eq0.false,
      ← c.members.ensures.0,
      lt-leb _ _ c.if-k-n.false,
      lt-leb _ _ c.if-k-ge-MAX_CLAUSES.false,
    )
