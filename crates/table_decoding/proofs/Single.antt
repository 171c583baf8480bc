-- V, N, Y, E and U: the node that the code makes is the one of the definitions.
use Prim.Native.Nat.{ℕ, ◌+◌, ◌<◌, ◌≤◌}
use native.Mathlib.Omega.{arith}
use mathlib.Core.Path.{◌≡◌, sym, ap, ap₂, ◌∙◌}
use mathlib.Core.Bool.{Bool, not, ◌&&◌}
use mathlib.Core.List.{List}
use mathlib.Core.Option.{none, some, map}
use lib.Dec.{eqb}
use lib.ListN.{length}
use Rattle.terms.specs.Terms.{number_term, Term, leaf, app, size}
use Rattle.terms.proofs.Lists.{length_map}
use Rattle.formulas.specs.Formulas.{Goal, truth, exists, forall, Clause, each, free_t, free_ts, free_g, free_c}
use Rattle.formulas.specs.Members.{members, quantify}
use Rattle.sheet_format.specs.Limits.{max_symbols, max_number}
use Rattle.sheet_format.specs.Nodes.{term_node}
use Rattle.sheet_format.specs.Sheets.{add_node as sheetAddNode}
use Rattle.node_table.specs.Layout.{mask_of, bit_of, goal_bit, members_of, pack_info, application_kind}
use Rattle.node_table.specs.Chains.{below_of, chain_names, chain_count, names_over, count_over}
use Rattle.node_table.specs.Decoding.{functor_of, children_by, term_by, term_at, goal_by, goal_at, clause_by, clause_at_node}
use Rattle.node_table.specs.WellMade.{IsGoal, IsClause, label_arity, Arguments, ChainNode}
use Rattle.node_table.proofs.Same.{same_members, same_below, same_names_over, same_count_over}
use Rattle.node_table.proofs.Functors.{numeral_functor, numeral_arity}
use Rattle.node_table.proofs.Decoding.{term_by_variable, term_by_application, goal_by_true, goal_by_exists, goal_by_forall, clause_by_each}
use Rattle.table_builder.specs.declared.node_info.Counts.{Counts}
use Rattle.table_builder.specs.declared.node_info.NodeRecord.{NodeRecord}
use Rattle.table_builder.specs.Nodes.{node_record, node_written, add_node, only_bit, without_bit, exists_info, forall_info}
use Rattle.table_builder.proofs.node_info.Laws.{only_below}
use Rattle.table_decoding.specs.Decoding.{node_read, table_of, Decodes, TableIs, Follows}
use Rattle.table_decoding.proofs.Bits.{bit_none, bit_only, bit_without, without_le}
use Rattle.table_decoding.proofs.Writing.{NodeIs, written}
use Rattle.table_decoding.proofs.Adding.{node_agree, NewNode, same, added}
use Rattle.table_decoding.proofs.NodeKinds.{a_variable, an_application, a_goal_true, a_goal_exists, a_goal_forall, a_quantified}
use Rattle.table_decoding.proofs.Flags.{map_read, map_clause}
use Rattle.table_decoding.proofs.Under.{mask_below, goal_le, members_below, goal_under, clause_under, goal_there, clause_there}

module _ (bytes t : List ℕ) (k : Counts) (st : Decodes bytes t k) (h : k.nodes < 1024) where
  abbrev n : ℕ
  n = k.nodes

  -- Y

  abbrev true_record : NodeRecord
  true_record = node_record 3 0 0 0 0 0 256

  abbrev true_table : List ℕ
  true_table = node_written t n true_record

  true_is : NodeIs true_table n 3 0 0 0 0 0 0 0 1 0 0
  unfolding pack_info
  true_is = written t n 3 0 0 0 0 0 0 0 1 0 0 st.long h (omega arith) (omega arith) (omega arith) (omega arith)

  true_goal : goal_at true_table n ≡ truth
  unfolding goal_at
  true_goal = goal_by_true n true_table n true_is.kind

  true_read : node_read true_table n ≡ record { term = none; goal = some truth; clause = none }
  unfolding node_read
  true_read = node_agree _ _ _ _ _ _ (rw true_is.size) (rw true_is.goal (ap some true_goal)) (rw true_is.members)

  true_new : NewNode true_table n k.symbols
  unfolding free_g
  true_new =
      let e = true_is.kind in
      record {
        named = λ p q. absurd (omega arith);
        term = λ i. let s = true_is.size in absurd (omega arith);
        goal = λ i.
            a_goal_true true_table n
            (λ v l. ap (λ (m : ℕ). eqb (bit_of m v) 1) true_is.mask ∙ ap (λ (x : ℕ). eqb x 1) (bit_none v)
            ∙ ap (λ (g : Goal). free_g g v) (sym true_goal)) e;
        clause = λ i. let m = true_is.members in absurd (omega arith);
      }

  pub true_added : Follows (TableIs bytes) t (add_node t k true_record)
      (sheetAddNode (table_of bytes t k) (some (record { term = none; goal = some truth; clause = none })))
  true_added = added bytes t k st h true_record _ true_read true_new

  -- N

  module _ (m : ℕ) (lm : m ≤ max_number) where
    abbrev numeral_record : NodeRecord
    numeral_record = node_record application_kind (max_symbols + m) 0 0 0 0 (pack_info 0 0 0 1)

    abbrev numeral_table : List ℕ
    numeral_table = node_written t n numeral_record

    numeral_is : NodeIs numeral_table n application_kind 0 (max_symbols + m) 0 0 0 0 0 0 0 1
    numeral_is =
        written t n application_kind 0 (max_symbols + m) 0 0 0 0 0 0 0 1 st.long h (omega arith) (omega arith) (omega arith) (omega arith)

    numeral_term : term_at numeral_table n ≡ number_term m
    unfolding term_at children_by
    numeral_term =
        term_by_application n numeral_table n numeral_is.kind
        ∙ ap₂ app (ap functor_of numeral_is.label ∙ numeral_functor m)
        (ap (λ (c : ℕ). children_by (term_by n numeral_table) numeral_table n c 0) numeral_is.count)

    numeral_read : node_read numeral_table n ≡ term_node (some (number_term m))
    unfolding node_read term_node
    numeral_read =
        node_agree _ _ _ _ _ _ (rw numeral_is.size (ap some numeral_term)) (rw numeral_is.goal) (rw numeral_is.members)

    numeral_arguments : Arguments numeral_table n
    numeral_arguments =
        let c = numeral_is.count in
        record {
          many = c ∙ sym (ap (label_arity numeral_table) numeral_is.label ∙ numeral_arity m numeral_table);
          few = omega arith;
          terms = λ j l. absurd (omega arith);
        }

    numeral_new : NewNode numeral_table n k.symbols
    unfolding free_t free_ts size
    numeral_new =
        record {
          named = λ p q.
              let l = numeral_is.label in
              let e = numeral_is.kind in
              record { declared = λ z. absurd (omega arith); most = omega arith; predicate = λ z. absurd (omega arith) };
          term = λ i.
              an_application numeral_table n numeral_is.kind numeral_arguments
              (numeral_is.size ∙ ap (λ (x : Term ℕ). size x) (sym numeral_term))
              (λ v l. ap (λ (b : ℕ). eqb (bit_of b v) 1) numeral_is.mask ∙ ap (λ (x : ℕ). eqb x 1) (bit_none v)
              ∙ ap (λ (x : Term ℕ). free_t x v) (sym numeral_term));
          goal = λ i. let g = numeral_is.goal in absurd (omega arith);
          clause = λ i. let c = numeral_is.members in absurd (omega arith);
        }

    pub numeral_added : Follows (TableIs bytes) t (add_node t k numeral_record)
        (sheetAddNode (table_of bytes t k) (some (term_node (some (number_term m)))))
    numeral_added = added bytes t k st h numeral_record _ numeral_read numeral_new

  module _ (v : ℕ) (lv : v < 8) where
    -- V

    abbrev variable_record : NodeRecord
    variable_record = node_record 0 v 0 0 0 0 (pack_info (only_bit v) 0 0 1)

    abbrev variable_table : List ℕ
    variable_table = node_written t n variable_record

    variable_is : NodeIs variable_table n 0 0 v 0 0 0 0 (only_bit v) 0 0 1
    variable_is = written t n 0 0 v 0 0 0 0 (only_bit v) 0 0 1 st.long h (omega arith) (only_below v) (omega arith) (omega arith)

    variable_term : term_at variable_table n ≡ leaf v
    unfolding term_at
    variable_term = term_by_variable n variable_table n variable_is.kind ∙ ap leaf variable_is.label

    variable_read : node_read variable_table n ≡ term_node (some (leaf v))
    unfolding node_read term_node
    variable_read =
        node_agree _ _ _ _ _ _ (rw variable_is.size (ap some variable_term)) (rw variable_is.goal) (rw variable_is.members)

    variable_new : NewNode variable_table n k.symbols
    unfolding free_t size
    variable_new =
        let e = variable_is.kind in
        let o = variable_is.label in
        record {
          named = λ p q. absurd (omega arith);
          term = λ i.
              a_variable variable_table n e (omega arith) (variable_is.size ∙ ap (λ (x : Term ℕ). size x) (sym variable_term))
              (λ w l. ap (λ (m : ℕ). eqb (bit_of m w) 1) variable_is.mask ∙ bit_only v w lv
              ∙ ap (λ (x : Term ℕ). free_t x w) (sym variable_term));
          goal = λ i. let g = variable_is.goal in absurd (omega arith);
          clause = λ i. let m = variable_is.members in absurd (omega arith);
        }

    pub variable_added : Follows (TableIs bytes) t (add_node t k variable_record) (sheetAddNode (table_of bytes t k) (some (term_node (some (leaf v)))))
    variable_added = added bytes t k st h variable_record _ variable_read variable_new

    module _ (a : ℕ) (la : a < k.nodes) where
      -- The mask without v is below 256.
      without_below : without_bit v (mask_of t a) < 256
      without_below = let x = without_le v (mask_of t a) in let y = mask_below t a in omega arith

      without_free : (m : ℕ) (f : ℕ → Bool) (w : ℕ) → m ≡ without_bit v (mask_of t a) → eqb (bit_of (mask_of t a) w) 1 ≡ f w
          → eqb (bit_of m w) 1 ≡ (not (eqb v w) && f w)
      without_free m f w e p = ap (λ (x : ℕ). eqb (bit_of x w) 1) e ∙ bit_without v (mask_of t a) w ∙ ap (λ (b : Bool). not (eqb v w) && b) p

      -- E

      abbrev exists_record : NodeRecord
      exists_record = node_record 23 v a 0 0 0 (exists_info t v a)

      abbrev exists_table : List ℕ
      exists_table = node_written t n exists_record

      exists_is : NodeIs exists_table n 7 1 v a 0 0 0 (without_bit v (mask_of t a)) (goal_bit t a) 0 0
      unfolding exists_info
      exists_is =
          written t n 7 1 v a 0 0 0 (without_bit v (mask_of t a)) (goal_bit t a) 0 0 st.long h (omega arith) without_below (goal_le t a)
          (omega arith)

      exists_goal : IsGoal t a → goal_at exists_table n ≡ exists v (goal_at t a)
      unfolding goal_at
      exists_goal i =
          goal_by_exists n exists_table n exists_is.kind
          ∙ ap₂ exists exists_is.label (ap (goal_by n exists_table) exists_is.first ∙ goal_under bytes t k st h exists_record a la i)

      exists_read : node_read exists_table n ≡ record { term = none; goal = map (exists v) (node_read t a).goal; clause = none }
      unfolding node_read
      exists_read =
          node_agree _ _ _ _ _ _ (rw exists_is.size)
          (map_read (exists v) (goal_bit t a) (goal_bit exists_table n) (goal_at t a) (goal_at exists_table n) exists_is.goal exists_goal)
          (rw exists_is.members)

      exists_new : NewNode exists_table n k.symbols
      unfolding free_g
      exists_new =
          let e = exists_is.kind in
          let o = exists_is.label in
          record {
            named = λ p q. absurd (omega arith);
            term = λ i. let s = exists_is.size in absurd (omega arith);
            goal = λ i.
                let p = sym exists_is.goal ∙ i in
                a_goal_exists exists_table n
                (λ w l. without_free (mask_of exists_table n) (free_g (goal_at t a)) w exists_is.mask ((st.goal a la p).free w l)
                ∙ ap (λ (g : Goal). free_g g w) (sym (exists_goal p)))
                e (omega arith) (goal_there bytes t k st h exists_record a la 0 exists_is.first p);
            clause = λ i. let m = exists_is.members in absurd (omega arith);
          }

      pub exists_added : Follows (TableIs bytes) t (add_node t k exists_record) (sheetAddNode (table_of bytes t k) (some
          (record { term = none; goal = map (exists v) (node_read t a).goal; clause = none })))
      exists_added = added bytes t k st h exists_record _ exists_read exists_new

      -- U

      abbrev forall_record : NodeRecord
      forall_record = node_record 24 v a (below_of t a) (names_over t v a) (count_over t v a) (forall_info t v a)

      abbrev forall_table : List ℕ
      forall_table = node_written t n forall_record

      forall_is : NodeIs forall_table n 8 1 v a (below_of t a) (names_over t v a) (count_over t v a) (without_bit v (mask_of t a)) (goal_bit t a)
          (members_of t a) 0
      unfolding forall_info
      forall_is =
          written t n 8 1 v a (below_of t a) (names_over t v a) (count_over t v a) (without_bit v (mask_of t a)) (goal_bit t a) (members_of t a) 0
          st.long h (omega arith) without_below (goal_le t a) (members_below t a)

      forall_goal : IsGoal t a → goal_at forall_table n ≡ forall v (goal_at t a)
      unfolding goal_at
      forall_goal i =
          goal_by_forall n forall_table n forall_is.kind
          ∙ ap₂ forall forall_is.label (ap (goal_by n forall_table) forall_is.first ∙ goal_under bytes t k st h forall_record a la i)

      forall_clause : IsClause t a → clause_at_node forall_table n ≡ each v (clause_at_node t a)
      unfolding clause_at_node
      forall_clause i =
          clause_by_each n forall_table n forall_is.kind
          ∙ ap₂ each forall_is.label (ap (clause_by n forall_table) forall_is.first ∙ clause_under bytes t k st h forall_record a la i)

      forall_read : node_read forall_table n
          ≡ record { term = none; goal = map (forall v) (node_read t a).goal; clause = map (each v) (node_read t a).clause }
      unfolding node_read
      forall_read =
          node_agree _ _ _ _ _ _ (rw forall_is.size)
          (map_read (forall v) (goal_bit t a) (goal_bit forall_table n) (goal_at t a) (goal_at forall_table n) forall_is.goal forall_goal)
          (map_clause (each v) (members_of t a) (members_of forall_table n) (clause_at_node t a) (clause_at_node forall_table n)
          forall_is.members forall_clause)

      -- It keeps what the U nodes from it on come to.
      forall_chain : ChainNode forall_table n v a
      unfolding below_of chain_names chain_count
      forall_chain =
          let s = same bytes t k st h forall_record in
          record {
            below = rw forall_is.kind forall_is.second ∙ sym (same_below t forall_table k.symbols n s a la);
            names = rw forall_is.kind forall_is.third ∙ sym (same_names_over t forall_table k.symbols n s a la v);
            count = rw forall_is.kind forall_is.fourth ∙ sym (same_count_over t forall_table k.symbols n s a la v);
          }

      forall_new : NewNode forall_table n k.symbols
      unfolding free_g free_c members
      forall_new =
          let e = forall_is.kind in
          let o = forall_is.label in
          record {
            named = λ p q. absurd (omega arith);
            term = λ i. let s = forall_is.size in absurd (omega arith);
            goal = λ i.
                let p = sym forall_is.goal ∙ i in
                a_goal_forall forall_table n
                (λ w l. without_free (mask_of forall_table n) (free_g (goal_at t a)) w forall_is.mask ((st.goal a la p).free w l)
                ∙ ap (λ (g : Goal). free_g g w) (sym (forall_goal p)))
                e (omega arith) (goal_there bytes t k st h forall_record a la 0 forall_is.first p);
            clause = λ i.
                let m = forall_is.members in
                let p : IsClause t a = omega arith in
                let x = st.clause a la p in
                let few = x.few in
                a_quantified forall_table n (omega arith)
                (m ∙ x.members ∙ sym (length_map (quantify v) (members (clause_at_node t a)))
                ∙ ap (λ (c : Clause). length (members c)) (sym (forall_clause p)))
                (λ w l. without_free (mask_of forall_table n) (free_c (clause_at_node t a)) w forall_is.mask (x.free w l)
                ∙ ap (λ (c : Clause). free_c c w) (sym (forall_clause p)))
                e (omega arith) (clause_there bytes t k st h forall_record a la 0 forall_is.first p)
                (m ∙ sym (ap (members_of forall_table) forall_is.first
                ∙ same_members t forall_table k.symbols n (same bytes t k st h forall_record) a la))
                (rw (forall_is.label, forall_is.first) forall_chain);
          }

      pub forall_added : Follows (TableIs bytes) t (add_node t k forall_record) (sheetAddNode (table_of bytes t k) (some
          (record { term = none; goal = map (forall v) (node_read t a).goal; clause = map (each v) (node_read t a).clause })))
      forall_added = added bytes t k st h forall_record _ forall_read forall_new
