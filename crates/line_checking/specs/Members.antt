-- "the place counts from 1 among the members at that atom in trying order": the member at a place, found by counting members along
-- the hypotheses and the sheet's clauses, then by walking down the clause's nodes. "Places in D lines follow the order in force"
-- (request W-207).
use Rattle.std.specs.Prelude.{ℕ, zero, suc, ◌+◌, ◌-◌, cond, List, eqb, ltb, Option, Some, None}
use Rattle.memory.specs.Records.{field}
use Rattle.node_table.specs.Layout.{members_of, clause_node, order_number, default_order}
use Rattle.scanning.specs.Fields as fields
use Rattle.line_checking.specs.HypothesisChains.{saturate, step_before}

-- A place: the clause's node, its frame, and the number of the member in it; none past the last member.
abbrev pub Place : Type 0
Place = Option (ℕ × ℕ × ℕ)

-- Member k counted from the i-th of the sheet's clauses on, of n clauses: the clause's node, a frame, and the member's number. The
-- sheet's clauses have no free variable, so that any frame serves them.
unfoldable pub clause_from : ℕ → List ℕ → ℕ → ℕ → Place
clause_from zero t i k = None
clause_from (suc n) t i k =
    cond (ltb k (members_of t (clause_node t i))) (Some (clause_node t i, 0, k)) (clause_from n t (i + 1) (k - members_of t (clause_node t i)))

-- Member k counted from the hypothesis h on, of at most n hypotheses, then the sheet's clauses: the order of `O latest`. Where k passes
-- all members up to the target of h's jump, the walk goes on there.
unfoldable pub hypothesis_from : ℕ → List ℕ → ℕ → List ℕ → ℕ → ℕ → Place
hypothesis_from zero t clauses w h k = clause_from clauses t 0 k
hypothesis_from (suc n) t clauses w h k =
    cond (eqb h 0) (clause_from clauses t 0 k)
    (cond (ltb k (members_of t (field w (h - 1) fields.hypothesis_node)))
    (Some (field w (h - 1) fields.hypothesis_node, field w (h - 1) fields.hypothesis_frame, k))
    (cond (ltb k (field w (h - 1) fields.hypothesis_passed))
    (hypothesis_from n t clauses w (field w (h - 1) fields.hypothesis_next) (k - members_of t (field w (h - 1) fields.hypothesis_node)))
    (hypothesis_from n t clauses w (field w (h - 1) fields.hypothesis_jump) (k - field w (h - 1) fields.hypothesis_passed))))

-- How many members n clauses of the sheet have from the i-th on, by which the first hypothesis starts in the default order (request W-207).
unfoldable pub sheet_members : ℕ → List ℕ → ℕ → ℕ
sheet_members zero t i = 0
sheet_members (suc n) t i = members_of t (clause_node t i) + sheet_members n t (i + 1)

-- The start of a hypothesis that is made after the hypothesis h: how many members stand before its own in the default order (request
-- W-207).
unfoldable pub start_after : List ℕ → ℕ → List ℕ → ℕ → ℕ
start_after t clauses w h =
    cond (eqb h 0) (saturate (sheet_members clauses t 0))
    (saturate (field w (h - 1) fields.hypothesis_start + members_of t (field w (h - 1) fields.hypothesis_node)))

-- Member k in the default order (request W-207), the sheet's clauses and then the hypotheses, oldest first: it is looked for from the
-- hypothesis h on, in at most n steps, the latest first, until one starts at k or before.
unfoldable pub oldest_from : ℕ → List ℕ → ℕ → List ℕ → ℕ → ℕ → Place
oldest_from zero t clauses w h k = clause_from clauses t 0 k
oldest_from (suc n) t clauses w h k =
    cond (eqb h 0) (clause_from clauses t 0 k)
    (cond (ltb k (field w (h - 1) fields.hypothesis_start)) (oldest_from n t clauses w (step_before w h k) k)
    (cond (ltb (k - field w (h - 1) fields.hypothesis_start) (members_of t (field w (h - 1) fields.hypothesis_node)))
    (Some (field w (h - 1) fields.hypothesis_node, field w (h - 1) fields.hypothesis_frame, k - field w (h - 1) fields.hypothesis_start))
    None))

-- Member k of a program with the hypotheses from h on, in the order in force (request W-207).
unfoldable pub place_from : List ℕ → ℕ → List ℕ → ℕ → ℕ → Place
place_from t clauses w h k = cond (eqb (order_number t) default_order) (oldest_from h t clauses w h k) (hypothesis_from h t clauses w h k)
