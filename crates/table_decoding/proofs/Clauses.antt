-- C and Q: a closed clause is added, a goal ends the sheet.
use Prim.Native.Nat.{ℕ, zero, suc, ◌+◌, ◌<◌, ◌≤◌}
use native.Mathlib.Numerals.{add-one}
use native.Mathlib.Omega.{arith}
use mathlib.Core.Path.{◌≡◌, refl, sym, ap, ap₂, ◌∙◌, subst}
use mathlib.Core.Bool.{Bool, true, false, not, ◌||◌, cond}
use mathlib.Core.List.{List, [], ◌∷◌, ◌++◌}
use mathlib.Core.Option.{none, some}
use lib.Dec.{ltb, leb, eqb}
use lib.ListN.{length, set, get_elem?}
use borrow.Author.Tests.{eqb-true, eqb-false, le-ltb, lt-ltb, le-leb, lt-leb, leb-true, leb-false}
use Rattle.std.specs.Prelude.{Ok, Err}
use Rattle.outcomes.specs.declared.refusals.Reason.TheVariants.{TooMany, Unknown, WrongKind, FreeVariable}
use Rattle.formulas.specs.Formulas.{Clause, free_c}
use Rattle.sheet_format.specs.Sheets.{next, stop, any_free, add_clause, last_goal}
use Rattle.sheet_format.specs.Sheets.{clause_at as sheetClauseAt}
use Rattle.sheet_format.specs.Sheets.{take_clause as sheetTakeClause}
use Rattle.sheet_format.specs.Sheets.{goal_at as sheetGoalAt}
use Rattle.node_table.specs.Layout.{clause_at, mask_of, goal_bit, members_of, clause_node}
use Rattle.node_table.specs.Decoding.{goal_at, clause_at_node, clauses_from}
use Rattle.node_table.specs.WellMade.{IsClause}
use Rattle.node_table.proofs.Same.{Same, same_kind}
use Rattle.node_table.proofs.Words.{name_same}
use Rattle.node_table.proofs.Decoding.{clause_at_same}
use Rattle.node_table.proofs.Nodes.{is_term_back, is_goal_back, is_clause_back, is_clause_same, labelled_same, term_same, goal_same, clause_same}
use Rattle.table_builder.specs.declared.node_info.Counts.{Counts}
use Rattle.table_builder.specs.Nodes.{made, counts, insert_clause, check_goal}
use Rattle.table_decoding.specs.Decoding.{node_read, table_of, Decodes, Agrees, TableIs, GoalIs, Follows}
use Rattle.table_decoding.proofs.Bits.{any_of, any_bit}
use Rattle.table_decoding.proofs.Writing.{Rest, rest_clause, same_but_clause, clause_other, clause_written}
use Rattle.table_decoding.proofs.Sequences.{from_length, from_more, clauses_list}
use Rattle.table_decoding.proofs.Adding.{table_agree, nodes_of_stands, symbols_same, nodes_same, clauses_same, below_more}
use Rattle.table_decoding.proofs.Under.{mask_below}
use Rattle.table_decoding.proofs.Arguments.{node_there, node_missing}

-- The definition `any_free` is `any_of` with the test that a name stands free in the clause.
any_free_lem : (n v : ℕ) (c : Clause) → any_free n v c ≡ any_of n v (free_c c)
unfolding any_free any_of
any_free_lem zero v c = refl
any_free_lem (suc n) v c = ap (λ (b : Bool). free_c c v || b) (any_free_lem n (suc v) c)

module _ (bytes t : List ℕ) (k : Counts) (st : Decodes bytes t k) (n : ℕ) where
  masked : n < k.nodes → IsClause t n → any_free 8 0 (clause_at_node t n) ≡ not (eqb (mask_of t n) 0)
  masked l i =
      any_free_lem 8 0 (clause_at_node t n)
      ∙ any_bit (mask_of t n) (free_c (clause_at_node t n)) (mask_below t n) (λ v h. sym ((st.clause n l i).free v h))

  -- In this module node n is a clause that is added.
  module _ (l : n < k.nodes) (i : IsClause t n) (h : k.clauses < 128) where
    abbrev u : List ℕ
    u = set t (clause_at k.clauses) n

    abbrev k' : Counts
    k' = counts k.symbols k.nodes (k.clauses + 1)

    same_table : Same t u k.symbols k.nodes
    same_table =
        let s = same_but_clause t k.clauses n in
        let a = st.few_symbols in
        let b = st.few_nodes in
        record { symbol = λ j f p q. s.symbol j f (omega arith) q; node = λ j f p q. s.node j f (omega arith) q }

    kept : (j : ℕ) → j < k.clauses → clause_node u j ≡ clause_node t j
    kept j p = clause_other t k.clauses n j (λ e. omega arith)

    stands_clause : Decodes bytes u k'
    unfolding Rest
    stands_clause =
        let m = nodes_of_stands bytes t k st in
        let s = same_table in
        let rest = rest_clause t k.clauses n h in
        let long = rest.0 in
        let old = st.long in
        record {
          long = omega arith;
          few_symbols = st.few_symbols;
          few_nodes = st.few_nodes;
          few_clauses = omega arith;
          names = λ j p. name_same t u k.symbols k.nodes s bytes j p (st.names j p);
          named = λ j p q r.
              let e = same_kind t u k.symbols k.nodes s j p in
              labelled_same t u k.symbols k.nodes s k.symbols j (omega arith) p (st.named j p (omega arith) (omega arith));
          term = λ j p q. term_same t u k.symbols k.nodes s m st.named j p (is_term_back t u k.symbols k.nodes s j p q);
          goal = λ j p q. goal_same t u k.symbols k.nodes s m st.named j p (is_goal_back t u k.symbols k.nodes s j p q);
          clause =
              λ j p q. clause_same t u k.symbols k.nodes s m st.named j p (is_clause_back t u k.symbols k.nodes s j p q);
          clauses = below_more (λ j. (clause_node u j < k.nodes) × IsClause u (clause_node u j)) k.clauses
              (λ j p.
              let c = st.clauses j p in
              subst (λ (x : ℕ). (x < k.nodes) × IsClause u x) (sym (kept j p))
              (c.0, is_clause_same t u k.symbols k.nodes s (clause_node t j) c.0 c.1))
              (subst (λ (x : ℕ). (x < k.nodes) × IsClause u x) (sym (clause_written t k.clauses n st.long h))
              (l, is_clause_same t u k.symbols k.nodes s n l i));
        }

    table_clause : table_of bytes u k' ≡ record {
      symbols = (table_of bytes t k).symbols;
      nodes = (table_of bytes t k).nodes;
      clauses = (table_of bytes t k).clauses ++ (clause_at_node t n ∷ []);
    }
    unfolding table_of
    table_clause =
        let m = nodes_of_stands bytes t k st in
        let s = same_table in
        table_agree _ _ _ _ _ _ (symbols_same bytes t u k.symbols k.nodes s) (nodes_same bytes t u k.symbols k.nodes s m)
        (ap (λ (c : ℕ). clauses_from u c 0) (add-one k.clauses) ∙ clauses_list u (suc k.clauses) 0
        ∙ from_more (λ j. clause_at_node u (clause_node u j)) k.clauses 0
        ∙ ap₂ (λ (x : List Clause) (c : Clause). x ++ (c ∷ []))
        (sym (clauses_list u k.clauses 0) ∙ clauses_same bytes t u k.symbols k.nodes s m k.clauses st.clauses kept)
        (let e : 0 + k.clauses ≡ k.clauses = omega arith in
        ap (λ (j : ℕ). clause_at_node u (clause_node u j)) e ∙ ap (clause_at_node u) (clause_written t k.clauses n st.long h)
        ∙ clause_at_same t u k.symbols k.nodes s m n l i))

  clauses_length : length (table_of bytes t k).clauses ≡ k.clauses
  unfolding table_of
  clauses_length = ap length (clauses_list t k.clauses 0) ∙ from_length (λ j. clause_at_node t (clause_node t j)) k.clauses 0

  pub clause_follows : Follows (TableIs bytes) t (insert_clause t k n) (sheetTakeClause (table_of bytes t k) n)
  unfolding insert_clause sheetTakeClause sheetClauseAt add_clause node_read Agrees Rest
  clause_follows = rw clauses_length (room (leb 128 k.clauses) refl)
    where
      free : (l : n < k.nodes) (i : IsClause t n) → k.clauses < 128 → (x : Bool)
          → Follows (TableIs bytes) t (cond x (made (set t (clause_at k.clauses) n) (Ok (counts k.symbols k.nodes (k.clauses + 1))))
          (made t (Err FreeVariable)))
          (cond (not x) (stop 10)
          (next (record {
            symbols = (table_of bytes t k).symbols;
            nodes = (table_of bytes t k).nodes;
            clauses = (table_of bytes t k).clauses ++ (clause_at_node t n ∷ []);
          })))
      free l i h true =
          let rest = rest_clause t k.clauses n h in
          record { agrees = (ap next (sym (table_clause l i h)), stands_clause l i h); long = rest.0; rest = rest.1; order = rest.2 }
      free l i h false = record { agrees = refl; long = refl; rest = refl; order = refl }

      clause : n < k.nodes → k.clauses < 128 → (x : Bool) → eqb (members_of t n) 0 ≡ x
          → Follows (TableIs bytes) t
          (cond x (made t (Err WrongKind))
          (cond (eqb (mask_of t n) 0) (made (set t (clause_at k.clauses) n) (Ok (counts k.symbols k.nodes (k.clauses + 1))))
          (made t (Err FreeVariable))))
          (add_clause (table_of bytes t k) (cond (leb 1 (members_of t n)) (some (clause_at_node t n)) none))
      clause l h true e =
          let z = eqb-true (members_of t n) 0 e in rw (lt-leb 1 (members_of t n) (omega arith))
          (record { agrees = refl; long = refl; rest = refl; order = refl })
      clause l h false e =
          let z = eqb-false (members_of t n) 0 e in
          let i : 1 ≤ members_of t n = omega arith in
          rw (le-leb 1 (members_of t n) i, masked l i) (free l i h (eqb (mask_of t n) 0))

      there : k.clauses < 128 → (x : Bool) → leb k.nodes n ≡ x
          → Follows (TableIs bytes) t
          (cond x (made t (Err Unknown)) (cond (eqb (members_of t n) 0) (made t (Err WrongKind))
          (cond (eqb (mask_of t n) 0) (made (set t (clause_at k.clauses) n) (Ok (counts k.symbols k.nodes (k.clauses + 1))))
          (made t (Err FreeVariable)))))
          (sheetClauseAt (table_of bytes t k) (get_elem? (table_of bytes t k).nodes n))
      there h true e =
          rw (node_missing bytes t k st n (leb-true k.nodes n e)) (record { agrees = refl; long = refl; rest = refl; order = refl })
      there h false e = let l = leb-false k.nodes n e in rw (node_there bytes t k st n l) (clause l h (eqb (members_of t n) 0) refl)

      room : (x : Bool) → leb 128 k.clauses ≡ x
          → Follows (TableIs bytes) t
          (cond x (made t (Err TooMany)) (cond (leb k.nodes n) (made t (Err Unknown))
          (cond (eqb (members_of t n) 0) (made t (Err WrongKind))
          (cond (eqb (mask_of t n) 0) (made (set t (clause_at k.clauses) n) (Ok (counts k.symbols k.nodes (k.clauses + 1))))
          (made t (Err FreeVariable))))))
          (cond (not (ltb k.clauses 128)) (stop 7) (sheetClauseAt (table_of bytes t k) (get_elem? (table_of bytes t k).nodes n)))
      room true e =
          let p = leb-true 128 k.clauses e in
          rw (le-ltb k.clauses 128 p) (record { agrees = refl; long = refl; rest = refl; order = refl })
      room false e = let p = leb-false 128 k.clauses e in rw (lt-ltb k.clauses 128 p) (there p (leb k.nodes n) refl)

  pub goal_follows : Follows (GoalIs k) t (made t (check_goal t k n)) (sheetGoalAt (get_elem? (table_of bytes t k).nodes n))
  unfolding check_goal sheetGoalAt last_goal node_read Agrees
  goal_follows = there (leb k.nodes n) refl
    where
      goal : n < k.nodes → (x : Bool) → eqb (goal_bit t n) 1 ≡ x
          → Follows (GoalIs k) t (made t (cond x (Ok n) (Err WrongKind))) (last_goal (cond x (some (goal_at t n)) none))
      goal l true e = record { agrees = (refl, l, eqb-true (goal_bit t n) 1 e); long = refl; rest = refl; order = refl }
      goal l false e = record { agrees = refl; long = refl; rest = refl; order = refl }

      there : (x : Bool) → leb k.nodes n ≡ x
          → Follows (GoalIs k) t (made t (cond x (Err Unknown) (cond (eqb (goal_bit t n) 1) (Ok n) (Err WrongKind))))
          (sheetGoalAt (get_elem? (table_of bytes t k).nodes n))
      there true e =
          rw (node_missing bytes t k st n (leb-true k.nodes n e)) (record { agrees = refl; long = refl; rest = refl; order = refl })
      there false e = let l = leb-false k.nodes n e in rw (node_there bytes t k st n l) (goal l (eqb (goal_bit t n) 1) refl)
