-- A node is added: the table then stands for what it stood for and the new node.
use Prim.Native.Nat.{ℕ, suc, ◌+◌, ◌/◌, ◌%◌, ◌<◌, ◌≤◌}
use native.Mathlib.Numerals.{add-one}
use native.Mathlib.Nat.{div-div-eq-div-mul}
use native.Mathlib.Omega.{arith}
use mathlib.Core.Path.{◌≡◌, refl, sym, ap, ap₂, ◌∙◌, subst}
use mathlib.Core.Bool.{Bool, true, false, not, ◌||◌, cond}
use mathlib.Core.List.{List, [], ◌∷◌, ◌++◌}
use mathlib.Core.Option.{Option, none, some}
use lib.Dec.{leb, eqb}
use borrow.Author.Tests.{eqb-true, eqb-false, ne_eqb, lt-leb, leb-true, leb-false}
use Rattle.std.specs.Prelude.{Ok, Err}
use Rattle.outcomes.specs.declared.refusals.Reason.TheVariants.{WrongKind}
use Rattle.terms.specs.Terms.{Term}
use Rattle.formulas.specs.Formulas.{Goal, Clause}
use Rattle.sheet_format.specs.Nodes.{Declaration, Node, is_some, is_something}
use Rattle.sheet_format.specs.Sheets.{Table, next, stop}
use Rattle.sheet_format.specs.Sheets.{add_node as sheetAddNode}
use Rattle.node_table.specs.Layout.{kind_of, info_of, goal_bit, members_of, size_of, clause_node, application_kind, atom_kind}
use Rattle.node_table.specs.Decoding.{term_at, goal_at, clause_at_node, declaration_at, declarations_from, clauses_from}
use Rattle.node_table.specs.WellMade.{IsTerm, IsGoal, IsClause, Labelled, TermNode, GoalNode, ClauseNode}
use Rattle.node_table.proofs.Same.{Same, same_kind, same_start, same_length, same_function, same_arity, same_goal, same_members}
use Rattle.node_table.proofs.Words.{name_same}
use Rattle.node_table.proofs.Same.{same_size}
use Rattle.node_table.proofs.Decoding.{Nodes, term_at_same, goal_at_same, clause_at_same}
use Rattle.node_table.proofs.Nodes.{is_term_back, is_goal_back, is_clause_back, is_clause_same, labelled_same, term_same, goal_same, clause_same}
use Rattle.table_builder.specs.declared.node_info.Counts.{Counts}
use Rattle.table_builder.specs.declared.node_info.NodeRecord.{NodeRecord}
use Rattle.table_builder.specs.Nodes.{made, counts, node_written, add_node}
use Rattle.table_decoding.specs.Decoding.{node_read, nodes_from, table_of, Decodes, Agrees, TableIs, Follows}
use Rattle.table_decoding.proofs.Writing.{Rest, rest_node, same_before, clause_kept, read_info}
use Rattle.table_decoding.proofs.Sequences.{from_more, from_agree, declarations_list, nodes_list, clauses_list}

-- the same trees

-- Tables and nodes with equal parts are equal.
pub table_agree : (s s' : List Declaration) (n n' : List Node) (c c' : List Clause) → s ≡ s' → n ≡ n' → c ≡ c'
    → ◌≡◌ {A = Table} (record { symbols = s; nodes = n; clauses = c }) (record { symbols = s'; nodes = n'; clauses = c' })
table_agree s s' n n' c c' p q r = rw (p, q, r)

pub node_agree : (t t' : Option (Term ℕ)) (g g' : Option Goal) (c c' : Option Clause) → t ≡ t' → g ≡ g' → c ≡ c'
    → ◌≡◌ {A = Node} (record { term = t; goal = g; clause = c }) (record { term = t'; goal = g'; clause = c' })
node_agree t t' g g' c c' p q r = rw (p, q, r)

-- Equal tests pick equal options if the trees are equal where the test holds.
cond_agree : {A : Type 0} (b b' : Bool) (x x' : A) → b ≡ b' → (b' ≡ true → x ≡ x') → cond b (some x) none ≡ cond b' (some x') none
cond_agree b true x x' e h = rw e (ap some (h refl))
cond_agree b false x x' e h = rw e

module _ (bytes t u : List ℕ) (symbols nodes : ℕ) (s : Same t u symbols nodes) where
  declaration_same : (i : ℕ) → i < symbols → declaration_at bytes u i ≡ declaration_at bytes t i
  unfolding declaration_at
  declaration_same i h =
      rw (
        same_start t u symbols nodes s i h,
        same_length t u symbols nodes s i h,
        same_function t u symbols nodes s i h,
        same_arity t u symbols nodes s i h,
      )

  pub symbols_same : declarations_from bytes u symbols 0 ≡ declarations_from bytes t symbols 0
  symbols_same =
      declarations_list bytes u symbols 0
      ∙ from_agree (declaration_at bytes u) (declaration_at bytes t) symbols 0 (λ j k l. declaration_same j (omega arith))
      ∙ sym (declarations_list bytes t symbols 0)

  module _ (m : Nodes t nodes) where
    pub node_same : (n : ℕ) → n < nodes → node_read u n ≡ node_read t n
    unfolding node_read
    node_same n h =
        node_agree _ _ _ _ _ _
        (cond_agree (leb 1 (size_of u n)) (leb 1 (size_of t n)) (term_at u n) (term_at t n) (ap (leb 1) (same_size t u symbols nodes s n h))
        (λ e. term_at_same t u symbols nodes s m n h (leb-true 1 (size_of t n) e)))
        (cond_agree (eqb (goal_bit u n) 1) (eqb (goal_bit t n) 1) (goal_at u n) (goal_at t n)
        (ap (λ (x : ℕ). eqb x 1) (same_goal t u symbols nodes s n h))
        (λ e. goal_at_same t u symbols nodes s m n h (eqb-true (goal_bit t n) 1 e)))
        (cond_agree (leb 1 (members_of u n)) (leb 1 (members_of t n)) (clause_at_node u n) (clause_at_node t n)
        (ap (leb 1) (same_members t u symbols nodes s n h))
        (λ e. clause_at_same t u symbols nodes s m n h (leb-true 1 (members_of t n) e)))

    pub nodes_same : nodes_from u nodes 0 ≡ nodes_from t nodes 0
    nodes_same =
        nodes_list u nodes 0 ∙ from_agree (node_read u) (node_read t) nodes 0 (λ j k l. node_same j (omega arith))
        ∙ sym (nodes_list t nodes 0)

    pub clauses_same : (c : ℕ) → ((i : ℕ) → i < c → (clause_node t i < nodes) × IsClause t (clause_node t i))
        → ((i : ℕ) → i < c → clause_node u i ≡ clause_node t i)
        → clauses_from u c 0 ≡ clauses_from t c 0
    clauses_same c h k =
        clauses_list u c 0
        ∙ from_agree (λ j. clause_at_node u (clause_node u j)) (λ j. clause_at_node t (clause_node t j)) c 0
        (λ j p q.
        let l : j < c = omega arith in
        ap (clause_at_node u) (k j l) ∙ clause_at_same t u symbols nodes s m (clause_node t j) (h j l).0 (h j l).1)
        ∙ sym (clauses_list t c 0)

-- the new node

-- What is to be shown of it.
pub record NewNode (u : List ℕ) (n symbols : ℕ) : Type 0 where
  pub named : application_kind ≤ kind_of u n → kind_of u n ≤ atom_kind → Labelled u symbols n
  pub term : IsTerm u n → TermNode u n
  pub goal : IsGoal u n → GoalNode u n
  pub clause : IsClause u n → ClauseNode u n

pub nodes_of_stands : (bytes t : List ℕ) (k : Counts) → Decodes bytes t k → Nodes t k.nodes
nodes_of_stands bytes t k st = record { term = st.term; goal = st.goal; clause = st.clause }

-- What holds of all numbers below n, and of n, holds of all numbers below n + 1.
pub below_more : (R : ℕ → Type 0) (n : ℕ) → ((m : ℕ) → m < n → R m) → R n → (m : ℕ) → m < n + 1 → R m
below_more R n f r m h = go (eqb m n) refl
  where
    go : (b : Bool) → eqb m n ≡ b → R m
    go true e = subst R (sym (eqb-true m n e)) r
    go false e = let d = eqb-false m n e in f m (omega arith)

module _ (bytes t : List ℕ) (k : Counts) (st : Decodes bytes t k) (h : k.nodes < 1024) (r : NodeRecord) where
  abbrev n : ℕ
  n = k.nodes

  abbrev u : List ℕ
  u = node_written t k.nodes r

  abbrev k' : Counts
  k' = counts k.symbols (k.nodes + 1) k.clauses

  pub same : Same t u k.symbols n
  same = same_before t n r k.symbols st.few_symbols

  stands_node : NewNode u n k.symbols → Decodes bytes u k'
  unfolding Rest
  stands_node new =
      let m = nodes_of_stands bytes t k st in
      let rest = rest_node t n r h in
      let long = rest.0 in
      let old = st.long in
      record {
        long = omega arith;
        few_symbols = st.few_symbols;
        few_nodes = omega arith;
        few_clauses = st.few_clauses;
        names = λ i l. name_same t u k.symbols n same bytes i l (st.names i l);
        named = below_more (λ i. application_kind ≤ kind_of u i → kind_of u i ≤ atom_kind → Labelled u k.symbols i) n
            (λ i l p q.
            let e = same_kind t u k.symbols n same i l in
            labelled_same t u k.symbols n same k.symbols i (omega arith) l (st.named i l (omega arith) (omega arith)))
            new.named;
        term = below_more (λ i. IsTerm u i → TermNode u i) n
            (λ i l p. term_same t u k.symbols n same m st.named i l (is_term_back t u k.symbols n same i l p)) new.term;
        goal = below_more (λ i. IsGoal u i → GoalNode u i) n
            (λ i l p. goal_same t u k.symbols n same m st.named i l (is_goal_back t u k.symbols n same i l p)) new.goal;
        clause = below_more (λ i. IsClause u i → ClauseNode u i) n
            (λ i l p. clause_same t u k.symbols n same m st.named i l (is_clause_back t u k.symbols n same i l p)) new.clause;
        clauses = λ i l.
            let c = st.clauses i l in
            subst (λ (j : ℕ). (j < n + 1) × IsClause u j) (sym (clause_kept t n r i h))
            (omega arith, is_clause_same t u k.symbols n same (clause_node t i) c.0 c.1);
      }

  table_node : table_of bytes u k' ≡ record {
    symbols = (table_of bytes t k).symbols;
    nodes = (table_of bytes t k).nodes ++ (node_read u n ∷ []);
    clauses = (table_of bytes t k).clauses;
  }
  unfolding table_of
  table_node =
      let m = nodes_of_stands bytes t k st in
      table_agree _ _ _ _ _ _ (symbols_same bytes t u k.symbols n same)
      (ap (λ (c : ℕ). nodes_from u c 0) (add-one n) ∙ nodes_list u (suc n) 0 ∙ from_more (node_read u) n 0
      ∙ ap₂ (λ (l : List Node) (x : ℕ). l ++ (node_read u x ∷ [])) (sym (nodes_list u n 0) ∙ nodes_same bytes t u k.symbols n same m)
      (let e : 0 + n ≡ n = omega arith in e))
      (clauses_same bytes t u k.symbols n same m k.clauses st.clauses (λ i l. clause_kept t n r i h))

  -- An option picked by a test has a value exactly if the test holds.
  picked : {A : Type 0} (b : Bool) (a : A) → is_some (cond b (some a) none) ≡ b
  unfolding is_some
  picked true a = refl
  picked false a = refl

  -- The number q, which is i / 256, is not 0 exactly if its part for a term, a goal or a clause is not 0.
  three : (q : ℕ) → (leb 1 (q / 256) || eqb (q % 2) 1 || leb 1 (q / 2 % 128)) ≡ not (eqb q 0)
  three q = go (eqb q 0) refl
    where
      some_bit : (q ≡ 0 → ⊥) → (a b c : Bool) → leb 1 (q / 256) ≡ a → eqb (q % 2) 1 ≡ b → leb 1 (q / 2 % 128) ≡ c → (a || b || c) ≡ true
      some_bit z true b c p r s = refl
      some_bit z false true c p r s = refl
      some_bit z false false true p r s = refl
      some_bit z false false false p r s =
          let x = leb-false 1 (q / 256) p in
          let y = eqb-false (q % 2) 1 r in
          let w = leb-false 1 (q / 2 % 128) s in
          absurd (z (omega arith))

      go : (b : Bool) → eqb q 0 ≡ b → (leb 1 (q / 256) || eqb (q % 2) 1 || leb 1 (q / 2 % 128)) ≡ not b
      go true e =
          let z = eqb-true q 0 e in
          rw (lt-leb 1 (q / 256) (omega arith), ne_eqb (q % 2) 1 (λ d. omega arith), lt-leb 1 (q / 2 % 128) (omega arith))
      go false e = some_bit (eqb-false q 0 e) _ _ _ refl refl refl

  parts : (i : ℕ) → (leb 1 (i / 65536) || eqb (i / 256 % 2) 1 || leb 1 (i / 512 % 128)) ≡ not (eqb (i / 256) 0)
  parts i =
      ap₂ (λ (x y : ℕ). leb 1 x || eqb (i / 256 % 2) 1 || leb 1 (y % 128)) (sym (div-div-eq-div-mul i 256 256))
      (sym (div-div-eq-div-mul i 256 2))
      ∙ three (i / 256)

  something : is_something (node_read u n) ≡ not (eqb (r.info / 256) 0)
  unfolding is_something node_read size_of goal_bit members_of info_of
  something =
      rw (
        picked (leb 1 (size_of u n)) (term_at u n),
        picked (eqb (goal_bit u n) 1) (goal_at u n),
        picked (leb 1 (members_of u n)) (clause_at_node u n),
      )
      (parts (info_of u n) ∙ ap (λ (x : ℕ). not (eqb (x / 256) 0)) (read_info t n r st.long h))

  -- A node that is nothing is refused, any other is added.
  pub added : (node : Node) → node_read u n ≡ node → NewNode u n k.symbols
      → Follows (TableIs bytes) t (add_node t k r) (sheetAddNode (table_of bytes t k) (some node))
  unfolding add_node sheetAddNode Agrees Rest
  added node e new = go (eqb (r.info / 256) 0) refl
    where
      is : is_something node ≡ not (eqb (r.info / 256) 0)
      is = ap is_something (sym e) ∙ something

      go : (b : Bool) → eqb (r.info / 256) 0 ≡ b
          → Follows (TableIs bytes) t (cond b (made t (Err WrongKind)) (made u (Ok k')))
          (cond (is_something node)
          (next (record {
            symbols = (table_of bytes t k).symbols;
            nodes = (table_of bytes t k).nodes ++ (node ∷ []);
            clauses = (table_of bytes t k).clauses;
          })) (stop 9))
      go true f = rw (is, f) (record { agrees = refl; long = refl; rest = refl; order = refl })
      go false f =
          let rest = rest_node t n r h in
          rw (is, f) (record {
            agrees = (
              ap next (sym (table_node
                  ∙ ap (λ (x : Node). record {
                    symbols = (table_of bytes t k).symbols;
                    nodes = (table_of bytes t k).nodes ++ (x ∷ []);
                    clauses = (table_of bytes t k).clauses;
                  }) e)),
              stands_node new,
            );
            long = rest.0;
            rest = rest.1;
            order = rest.2;
          })
