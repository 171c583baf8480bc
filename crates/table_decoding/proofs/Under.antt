-- Below a new node: its children are read in the new table as they were before.
use Prim.Native.Nat.{ℕ, suc, ◌<◌, ◌≤◌}
use native.Mathlib.Omega.{arith}
use mathlib.Core.Path.{◌≡◌, sym, ◌∙◌, subst}
use mathlib.Core.List.{List}
use lib.Bits.{or_lt}
use Rattle.sheet_format.specs.Nodes.{member_count}
use Rattle.sheet_format.proofs.Good.{member_count_members}
use Rattle.node_table.specs.Layout.{child_of, mask_of, goal_bit, members_of}
use Rattle.node_table.specs.Decoding.{term_by, term_at, goal_by, goal_at, clause_by, clause_at_node}
use Rattle.node_table.specs.WellMade.{IsTerm, IsGoal, IsClause}
use Rattle.node_table.proofs.Decoding.{term_agree, goal_agree, clause_agree}
use Rattle.node_table.proofs.Nodes.{is_goal_same, is_clause_same}
use Rattle.table_builder.specs.declared.node_info.Counts.{Counts}
use Rattle.table_builder.specs.declared.node_info.NodeRecord.{NodeRecord}
use Rattle.table_builder.specs.Nodes.{node_written, united_mask}
use Rattle.table_decoding.specs.Decoding.{Decodes}
use Rattle.table_decoding.proofs.Adding.{nodes_of_stands, same}
use Rattle.table_decoding.proofs.NodeKinds.{GoalChild, ClauseChild}

-- The mask that a word holds is below 256.
pub mask_below : (t : List ℕ) (n : ℕ) → mask_of t n < 256
unfolding mask_of
mask_below t n = omega arith

pub goal_le : (t : List ℕ) (n : ℕ) → goal_bit t n ≤ 1
unfolding goal_bit
goal_le t n = omega arith

pub members_below : (t : List ℕ) (n : ℕ) → members_of t n < 128
unfolding members_of
members_below t n = omega arith

pub united_below : (t : List ℕ) (a b : ℕ) → united_mask t a b < 256
unfolding united_mask
united_below t a b = or_lt 8 (mask_of t a) (mask_of t b) (mask_below t a) (mask_below t b)

module _ (bytes t : List ℕ) (k : Counts) (st : Decodes bytes t k) where
  -- A clause that is there has as many members as the table counts.
  pub members_are : (a : ℕ) → a < k.nodes → 1 ≤ members_of t a → member_count (clause_at_node t a) ≡ members_of t a
  members_are a l i = member_count_members (clause_at_node t a) ∙ sym (st.clause a l i).members

  module _ (h : k.nodes < 1024) (r : NodeRecord) (a : ℕ) (l : a < k.nodes) where
    abbrev u : List ℕ
    u = node_written t k.nodes r

    pub term_under : IsTerm t a → term_by k.nodes u a ≡ term_at t a
    unfolding term_at
    term_under i =
        term_agree t u k.symbols k.nodes (same bytes t k st h r) (nodes_of_stands bytes t k st) k.nodes (suc a) a l
        (omega arith) l i

    pub goal_under : IsGoal t a → goal_by k.nodes u a ≡ goal_at t a
    unfolding goal_at
    goal_under i =
        goal_agree t u k.symbols k.nodes (same bytes t k st h r) (nodes_of_stands bytes t k st) k.nodes (suc a) a l
        (omega arith) l i

    pub clause_under : IsClause t a → clause_by k.nodes u a ≡ clause_at_node t a
    unfolding clause_at_node
    clause_under i =
        clause_agree t u k.symbols k.nodes (same bytes t k st h r) (nodes_of_stands bytes t k st) k.nodes (suc a) a l
        (omega arith) l i

    pub goal_there : (j : ℕ) → child_of u k.nodes j ≡ a → IsGoal t a → GoalChild u k.nodes j
    goal_there j e i =
        subst (λ (c : ℕ). (c < k.nodes) × IsGoal u c) (sym e) (l, is_goal_same t u k.symbols k.nodes (same bytes t k st h r) a l i)

    pub clause_there : (j : ℕ) → child_of u k.nodes j ≡ a → IsClause t a → ClauseChild u k.nodes j
    clause_there j e i =
        subst (λ (c : ℕ). (c < k.nodes) × IsClause u c) (sym e)
        (l, is_clause_same t u k.symbols k.nodes (same bytes t k st h r) a l i)
