-- & and | and >: the node that the code makes of two is the one of the definitions.
use Prim.Native.Nat.{ℕ, ◌+◌, ◌<◌, ◌≤◌}
use native.Mathlib.Omega.{arith}
use mathlib.Core.Path.{◌≡◌, refl, sym, ap, ap₂, ◌∙◌, subst}
use mathlib.Core.Bool.{Bool, true, false, ◌||◌, cond}
use mathlib.Core.List.{List}
use mathlib.Core.Option.{none, some}
use lib.Dec.{eqb}
use lib.ListN.{length, length-append}
use borrow.Author.Tests.{eqb-true}
use Rattle.formulas.specs.Formulas.{Goal, atom, and, or, implies, Clause, rule, both, free_ts, free_g, free_c}
use Rattle.formulas.specs.Members.{members}
use Rattle.sheet_format.specs.Nodes.{both_clauses, ruled, map2}
use Rattle.sheet_format.specs.Sheets.{add_node as sheetAddNode}
use Rattle.node_table.specs.Layout.{kind_of, label_of, child_of, mask_of, bit_of, goal_bit, members_of, atom_kind}
use Rattle.node_table.specs.Decoding.{arguments_at, goal_by, goal_at, clause_by, clause_at_node}
use Rattle.node_table.specs.WellMade.{IsGoal, IsClause, Arguments}
use Rattle.node_table.proofs.Same.{same_kind, same_label, same_members}
use Rattle.node_table.proofs.Decoding.{GoalKind, atom_kind_lem, true_kind_lem, and_kind_lem, or_kind_lem, implies_kind_lem, exists_kind_lem, forall_kind_lem, goal_kind}
use Rattle.node_table.proofs.Decoding.{goal_by_atom, goal_by_true, goal_by_and, goal_by_or, goal_by_implies, goal_by_exists, goal_by_forall}
use Rattle.node_table.proofs.Decoding.{clause_by_both, clause_by_rule, arguments_at_same}
use Rattle.node_table.proofs.Nodes.{arguments_same}
use Rattle.table_builder.specs.declared.node_info.Counts.{Counts}
use Rattle.table_builder.specs.declared.node_info.NodeRecord.{NodeRecord}
use Rattle.table_builder.specs.Nodes.{node_record, node_written, add_node, both_goals, sum_members, supposed_goal, ruled_members, united_mask}
use Rattle.table_builder.specs.Nodes.{and_info, or_info, implies_info}
use Rattle.table_decoding.specs.Decoding.{node_read, table_of, Decodes, TableIs, Follows}
use Rattle.table_decoding.proofs.Bits.{bit_or_lem}
use Rattle.table_decoding.proofs.Writing.{NodeIs, written}
use Rattle.table_decoding.proofs.Adding.{node_agree, NewNode, nodes_of_stands, same, added}
use Rattle.table_decoding.proofs.NodeKinds.{a_goal_and, a_goal_or, a_goal_implies, a_conjunction, a_rule}
use Rattle.table_decoding.proofs.Flags.{both_one, both_le, supposed_one, supposed_le, summed, sum_below, goals2_read, supposed_read}
use Rattle.table_decoding.proofs.Flags.{both_read, ruled_read}
use Rattle.table_decoding.proofs.Under.{goal_le, united_below, members_are, goal_under, clause_under, goal_there, clause_there}

-- The bit for both goals is at most 1.
both_goals_le : (t : List ℕ) (a b : ℕ) → both_goals t a b ≤ 1
unfolding both_goals
both_goals_le t a b = both_le (eqb (goal_bit t a) 1) (goal_bit t b) (goal_le t b)

both_goals_lem : (t : List ℕ) (a b : ℕ) → both_goals t a b ≡ 1 → IsGoal t a × IsGoal t b
unfolding both_goals
both_goals_lem t a b e = both_one (goal_bit t a) (goal_bit t b) e

-- The bits of the united mask are those of the children's masks.
united_free : (t : List ℕ) (a b : ℕ) (f g : ℕ → Bool) (v : ℕ) → eqb (bit_of (mask_of t a) v) 1 ≡ f v → eqb (bit_of (mask_of t b) v) 1 ≡ g v
    → eqb (bit_of (united_mask t a b) v) 1 ≡ (f v || g v)
unfolding united_mask
united_free t a b f g v p q = bit_or_lem v (mask_of t a) (mask_of t b) ∙ ap₂ ◌||◌ p q

module _ (bytes t : List ℕ) (k : Counts) (st : Decodes bytes t k) (h : k.nodes < 1024) (a b : ℕ) (la : a < k.nodes)
    (lb : b < k.nodes) where
  abbrev n : ℕ
  n = k.nodes

  -- &

  abbrev and_record : NodeRecord
  and_record = node_record 36 0 a b 0 0 (and_info t a b)

  abbrev and_table : List ℕ
  and_table = node_written t n and_record

  and_is : NodeIs and_table n 4 2 0 a b 0 0 (united_mask t a b) (both_goals t a b) (sum_members (members_of t a) (members_of t b)) 0
  unfolding and_info
  and_is =
      written t n 4 2 0 a b 0 0 (united_mask t a b) (both_goals t a b) (sum_members (members_of t a) (members_of t b)) 0 st.long h
      (omega arith) (united_below t a b)
      (both_goals_le t a b) (sum_below (members_of t a) (members_of t b))

  and_goal : IsGoal t a → IsGoal t b → goal_at and_table n ≡ and (goal_at t a) (goal_at t b)
  unfolding goal_at
  and_goal i j =
      goal_by_and n and_table n and_is.kind
      ∙ ap₂ and (ap (goal_by n and_table) and_is.first ∙ goal_under bytes t k st h and_record a la i)
      (ap (goal_by n and_table) and_is.second ∙ goal_under bytes t k st h and_record b lb j)

  and_clause : IsClause t a → IsClause t b → clause_at_node and_table n ≡ both (clause_at_node t a) (clause_at_node t b)
  unfolding clause_at_node
  and_clause i j =
      clause_by_both n and_table n and_is.kind
      ∙ ap₂ both (ap (clause_by n and_table) and_is.first ∙ clause_under bytes t k st h and_record a la i)
      (ap (clause_by n and_table) and_is.second ∙ clause_under bytes t k st h and_record b lb j)

  and_read : node_read and_table n
      ≡ record {
        term = none;
        goal = map2 and (node_read t a).goal (node_read t b).goal;
        clause = both_clauses (node_read t a).clause (node_read t b).clause;
      }
  unfolding node_read both_goals
  and_read =
      node_agree _ _ _ _ _ _ (rw and_is.size)
      (goals2_read and (goal_bit t a) (goal_bit t b) (goal_bit and_table n) (goal_at t a) (goal_at t b) (goal_at and_table n)
      and_is.goal and_goal)
      (both_read (members_of t a) (members_of t b) (members_of and_table n) (clause_at_node t a) (clause_at_node t b) (clause_at_node and_table n)
      and_is.members
      (members_are bytes t k st a la) (members_are bytes t k st b lb) and_clause)

  and_free_goal : IsGoal t a → IsGoal t b → (v : ℕ) → v < 8 → eqb (bit_of (mask_of and_table n) v) 1 ≡ free_g (goal_at and_table n) v
  unfolding free_g
  and_free_goal i j v l =
      ap (λ (m : ℕ). eqb (bit_of m v) 1) and_is.mask
      ∙ united_free t a b (free_g (goal_at t a)) (free_g (goal_at t b)) v ((st.goal a la i).free v l) ((st.goal b lb j).free v l)
      ∙ ap (λ (g : Goal). free_g g v) (sym (and_goal i j))

  and_free_clause : IsClause t a → IsClause t b → (v : ℕ) → v < 8 → eqb (bit_of (mask_of and_table n) v) 1 ≡ free_c (clause_at_node and_table n) v
  unfolding free_c
  and_free_clause i j v l =
      ap (λ (m : ℕ). eqb (bit_of m v) 1) and_is.mask
      ∙ united_free t a b (free_c (clause_at_node t a)) (free_c (clause_at_node t b)) v ((st.clause a la i).free v l)
      ((st.clause b lb j).free v l)
      ∙ ap (λ (c : Clause). free_c c v) (sym (and_clause i j))

  -- The members of a child are the same in the new table.
  child_members : (r : NodeRecord) (c j : ℕ) → c < n → child_of (node_written t n r) n j ≡ c
      → members_of (node_written t n r) (child_of (node_written t n r) n j) ≡ members_of t c
  child_members r c j l e =
      ap (members_of (node_written t n r)) e ∙ same_members t (node_written t n r) k.symbols n (same bytes t k st h r) c l

  and_new : NewNode and_table n k.symbols
  unfolding members
  and_new =
      let e = and_is.kind in
      record {
        named = λ p q. absurd (omega arith);
        term = λ i. let s = and_is.size in absurd (omega arith);
        goal = λ i.
            let p = both_goals_lem t a b (sym and_is.goal ∙ i) in
            a_goal_and and_table n (and_free_goal p.0 p.1) e (goal_there bytes t k st h and_record a la 0 and_is.first p.0)
            (goal_there bytes t k st h and_record b lb 1 and_is.second p.1);
        clause = λ i.
            let m = and_is.members in
            let s = summed (members_of t a) (members_of t b) (omega arith) in
            let c = and_clause s.left s.right in
            let x = (st.clause a la s.left).members in
            let y = (st.clause b lb s.right).members in
            let few = s.few in
            let sum = s.sum in
            a_conjunction and_table n (omega arith)
            (m ∙ sum ∙ ap₂ ◌+◌ x y ∙ sym (length-append (members (clause_at_node t a)) (members (clause_at_node t b)))
            ∙ ap (λ (d : Clause). length (members d)) (sym c))
            (and_free_clause s.left s.right) e (clause_there bytes t k st h and_record a la 0 and_is.first s.left)
            (clause_there bytes t k st h and_record b lb 1 and_is.second s.right)
            (m ∙ sum ∙ sym (ap₂ ◌+◌ (child_members and_record a 0 la and_is.first) (child_members and_record b 1 lb and_is.second)));
      }

  pub and_added : Follows (TableIs bytes) t (add_node t k and_record) (sheetAddNode (table_of bytes t k) (some
      (record {
        term = none;
        goal = map2 and (node_read t a).goal (node_read t b).goal;
        clause = both_clauses (node_read t a).clause (node_read t b).clause;
      })))
  and_added = added bytes t k st h and_record _ and_read and_new

  -- |

  abbrev or_record : NodeRecord
  or_record = node_record 37 0 a b 0 0 (or_info t a b)

  abbrev or_table : List ℕ
  or_table = node_written t n or_record

  or_is : NodeIs or_table n 5 2 0 a b 0 0 (united_mask t a b) (both_goals t a b) 0 0
  unfolding or_info
  or_is =
      written t n 5 2 0 a b 0 0 (united_mask t a b) (both_goals t a b) 0 0 st.long h (omega arith) (united_below t a b)
      (both_goals_le t a b) (omega arith)

  or_goal : IsGoal t a → IsGoal t b → goal_at or_table n ≡ or (goal_at t a) (goal_at t b)
  unfolding goal_at
  or_goal i j =
      goal_by_or n or_table n or_is.kind
      ∙ ap₂ or (ap (goal_by n or_table) or_is.first ∙ goal_under bytes t k st h or_record a la i)
      (ap (goal_by n or_table) or_is.second ∙ goal_under bytes t k st h or_record b lb j)

  or_read : node_read or_table n ≡ record { term = none; goal = map2 or (node_read t a).goal (node_read t b).goal; clause = none }
  unfolding node_read both_goals
  or_read =
      node_agree _ _ _ _ _ _ (rw or_is.size)
      (goals2_read or (goal_bit t a) (goal_bit t b) (goal_bit or_table n) (goal_at t a) (goal_at t b) (goal_at or_table n) or_is.goal or_goal)
      (rw or_is.members)

  or_free : IsGoal t a → IsGoal t b → (v : ℕ) → v < 8 → eqb (bit_of (mask_of or_table n) v) 1 ≡ free_g (goal_at or_table n) v
  unfolding free_g
  or_free i j v l =
      ap (λ (m : ℕ). eqb (bit_of m v) 1) or_is.mask
      ∙ united_free t a b (free_g (goal_at t a)) (free_g (goal_at t b)) v ((st.goal a la i).free v l) ((st.goal b lb j).free v l)
      ∙ ap (λ (g : Goal). free_g g v) (sym (or_goal i j))

  or_new : NewNode or_table n k.symbols
  or_new =
      let e = or_is.kind in
      record {
        named = λ p q. absurd (omega arith);
        term = λ i. let s = or_is.size in absurd (omega arith);
        goal = λ i.
            let p = both_goals_lem t a b (sym or_is.goal ∙ i) in
            a_goal_or or_table n (or_free p.0 p.1) e (goal_there bytes t k st h or_record a la 0 or_is.first p.0)
            (goal_there bytes t k st h or_record b lb 1 or_is.second p.1);
        clause = λ i. let m = or_is.members in absurd (omega arith);
      }

  pub or_added : Follows (TableIs bytes) t (add_node t k or_record) (sheetAddNode (table_of bytes t k) (some
      (record { term = none; goal = map2 or (node_read t a).goal (node_read t b).goal; clause = none })))
  or_added = added bytes t k st h or_record _ or_read or_new

  -- >

  abbrev implies_record : NodeRecord
  implies_record = node_record 38 0 a b 0 0 (implies_info t a b)

  abbrev implies_table : List ℕ
  implies_table = node_written t n implies_record

  supposed_goal_le : supposed_goal t a b ≤ 1
  unfolding supposed_goal
  supposed_goal_le = supposed_le (eqb (members_of t a) 0) (goal_bit t b) (goal_le t b)

  ruled_le : ruled_members t a b ≤ 1
  unfolding ruled_members
  ruled_le = both_le (eqb (kind_of t b) atom_kind) (both_goals t a b) (both_goals_le t a b)

  implies_is : NodeIs implies_table n 6 2 0 a b 0 0 (united_mask t a b) (supposed_goal t a b) (ruled_members t a b) 0
  unfolding implies_info
  implies_is =
      let l = ruled_le in
      written t n 6 2 0 a b 0 0 (united_mask t a b) (supposed_goal t a b) (ruled_members t a b) 0 st.long h (omega arith)
      (united_below t a b) supposed_goal_le
      (omega arith)

  implies_goal : IsClause t a → IsGoal t b → goal_at implies_table n ≡ implies (clause_at_node t a) (goal_at t b)
  unfolding goal_at
  implies_goal i j =
      goal_by_implies n implies_table n implies_is.kind
      ∙ ap₂ implies (ap (clause_by n implies_table) implies_is.first ∙ clause_under bytes t k st h implies_record a la i)
      (ap (goal_by n implies_table) implies_is.second ∙ goal_under bytes t k st h implies_record b lb j)

  -- A second child of kind 2 is an atom.
  head_atom : kind_of t b ≡ atom_kind → goal_at t b ≡ atom (label_of t b) (arguments_at t b)
  unfolding goal_at
  head_atom e = goal_by_atom b t b e

  -- A second child that is another goal makes no rule.
  no_atom : (g : Goal) → (kind_of t b ≡ atom_kind → ⊥) → IsGoal t b → ruled (some g) (some (goal_at t b)) ≡ none
  unfolding ruled goal_at
  no_atom g d i = let m = st.goal b lb i in go (goal_kind (kind_of t b) m.least m.most)
    where
      go : GoalKind (kind_of t b) → ruled (some g) (some (goal_at t b)) ≡ none
      go (atom_kind_lem e) = absurd (d e)
      go (true_kind_lem e) = ap (λ (x : Goal). ruled (some g) (some x)) (goal_by_true b t b e)
      go (and_kind_lem e) = ap (λ (x : Goal). ruled (some g) (some x)) (goal_by_and b t b e)
      go (or_kind_lem e) = ap (λ (x : Goal). ruled (some g) (some x)) (goal_by_or b t b e)
      go (implies_kind_lem e) = ap (λ (x : Goal). ruled (some g) (some x)) (goal_by_implies b t b e)
      go (exists_kind_lem e) = ap (λ (x : Goal). ruled (some g) (some x)) (goal_by_exists b t b e)
      go (forall_kind_lem e) = ap (λ (x : Goal). ruled (some g) (some x)) (goal_by_forall b t b e)

  implies_clause : kind_of t b ≡ atom_kind → IsGoal t a → IsGoal t b
      → clause_at_node implies_table n ≡ rule (goal_at t a) (label_of t b) (arguments_at t b)
  unfolding clause_at_node
  implies_clause e i j =
      let s = same bytes t k st h implies_record in
      let g : goal_by n implies_table (child_of implies_table n 0) ≡ goal_at t a =
      ap (goal_by n implies_table) implies_is.first ∙ goal_under bytes t k st h implies_record a la i in
      let p : label_of implies_table (child_of implies_table n 1) ≡ label_of t b =
      ap (label_of implies_table) implies_is.second ∙ same_label t implies_table k.symbols n s b lb in
      let q : arguments_at implies_table (child_of implies_table n 1) ≡ arguments_at t b =
      ap (arguments_at implies_table) implies_is.second
      ∙ arguments_at_same t implies_table k.symbols n s (nodes_of_stands bytes t k st) b lb ((st.goal b lb j).atom e) in
      clause_by_rule n implies_table n implies_is.kind ∙ rw (g, p, q)

  implies_read : node_read implies_table n
      ≡ record {
        term = none;
        goal = map2 implies (node_read t a).clause (node_read t b).goal;
        clause = ruled (node_read t a).goal (node_read t b).goal;
      }
  unfolding node_read supposed_goal ruled_members both_goals
  implies_read =
      node_agree _ _ _ _ _ _ (rw implies_is.size)
      (supposed_read (members_of t a) (goal_bit t b) (goal_bit implies_table n) (clause_at_node t a) (goal_at t b) (goal_at implies_table n)
      implies_is.goal implies_goal)
      (ruled_read (kind_of t b) (goal_bit t a) (goal_bit t b) (members_of implies_table n) (goal_at t a) (goal_at t b)
      (clause_at_node implies_table n) (label_of t b) (arguments_at t b)
      (goal_le t b) implies_is.members (λ e j. head_atom e) (no_atom (goal_at t a)) implies_clause)

  implies_free_goal : IsClause t a → IsGoal t b → (v : ℕ) → v < 8
      → eqb (bit_of (mask_of implies_table n) v) 1 ≡ free_g (goal_at implies_table n) v
  unfolding free_g
  implies_free_goal i j v l =
      ap (λ (m : ℕ). eqb (bit_of m v) 1) implies_is.mask
      ∙ united_free t a b (free_c (clause_at_node t a)) (free_g (goal_at t b)) v ((st.clause a la i).free v l) ((st.goal b lb j).free v l)
      ∙ ap (λ (g : Goal). free_g g v) (sym (implies_goal i j))

  implies_free_clause : kind_of t b ≡ atom_kind → IsGoal t a → IsGoal t b → (v : ℕ) → v < 8
      → eqb (bit_of (mask_of implies_table n) v) 1 ≡ free_c (clause_at_node implies_table n) v
  unfolding free_c free_g
  implies_free_clause e i j v l =
      ap (λ (m : ℕ). eqb (bit_of m v) 1) implies_is.mask
      ∙ united_free t a b (free_g (goal_at t a)) (free_ts (arguments_at t b)) v ((st.goal a la i).free v l)
      ((st.goal b lb j).free v l ∙ ap (λ (g : Goal). free_g g v) (head_atom e))
      ∙ ap (λ (c : Clause). free_c c v) (sym (implies_clause e i j))

  -- A rule needs a second child of kind 2 and two goals.
  ruled_one : (j x y : ℕ) → 1 ≤ cond (eqb j 2) (cond (eqb x 1) y 0) 0 → y ≤ 1 → (j ≡ 2) × (x ≡ 1) × (y ≡ 1)
  ruled_one j x y l m = go (eqb j 2) refl (eqb x 1) refl l
    where
      go : (c : Bool) → eqb j 2 ≡ c → (d : Bool) → eqb x 1 ≡ d → 1 ≤ cond c (cond d y 0) 0 → (j ≡ 2) × (x ≡ 1) × (y ≡ 1)
      go true p true q r = (eqb-true j 2 p, eqb-true x 1 q, omega arith)
      go true p false q r = absurd (omega arith)
      go false p d q r = absurd (omega arith)

  rule_parts : 1 ≤ ruled_members t a b → (kind_of t b ≡ atom_kind) × IsGoal t a × IsGoal t b
  unfolding ruled_members both_goals
  rule_parts l = ruled_one (kind_of t b) (goal_bit t a) (goal_bit t b) l (goal_le t b)

  implies_rule : kind_of t b ≡ atom_kind → IsGoal t a → IsGoal t b → members_of implies_table n ≡ 1 → Arguments t b
      → (child_of implies_table n 1 < n) × (kind_of implies_table (child_of implies_table n 1) ≡ atom_kind)
      × Arguments implies_table (child_of implies_table n 1)
  implies_rule e i j m x =
      let s = same bytes t k st h implies_record in
      subst (λ (c : ℕ). (c < n) × (kind_of implies_table c ≡ atom_kind) × Arguments implies_table c) (sym implies_is.second) (
        lb,
        same_kind t implies_table k.symbols n s b lb
            ∙ e,
        arguments_same t implies_table k.symbols n s b lb (st.named b lb (omega arith) (omega arith)).declared x,
      )

  implies_new : NewNode implies_table n k.symbols
  unfolding supposed_goal members
  implies_new =
      let e = implies_is.kind in
      record {
        named = λ p q. absurd (omega arith);
        term = λ i. let s = implies_is.size in absurd (omega arith);
        goal = λ i.
            let p = supposed_one (members_of t a) (goal_bit t b) (sym implies_is.goal ∙ i) in
            a_goal_implies implies_table n (implies_free_goal p.0 p.1) e
            (clause_there bytes t k st h implies_record a la 0 implies_is.first p.0)
            (goal_there bytes t k st h implies_record b lb 1 implies_is.second p.1);
        clause = λ i.
            let m = implies_is.members in
            let l = ruled_le in
            let p = rule_parts (omega arith) in
            let o : members_of implies_table n ≡ 1 = omega arith in
            a_rule implies_table n (omega arith) (o ∙ ap (λ (d : Clause). length (members d)) (sym (implies_clause p.0 p.1 p.2)))
            (implies_free_clause p.0 p.1 p.2) e (goal_there bytes t k st h implies_record a la 0 implies_is.first p.1)
            (implies_rule p.0 p.1 p.2 o ((st.goal b lb p.2).atom p.0));
      }

  pub implies_added : Follows (TableIs bytes) t (add_node t k implies_record) (sheetAddNode (table_of bytes t k) (some
      (record {
        term = none;
        goal = map2 implies (node_read t a).clause (node_read t b).goal;
        clause = ruled (node_read t a).goal (node_read t b).goal;
      })))
  implies_added = added bytes t k st h implies_record _ implies_read implies_new
