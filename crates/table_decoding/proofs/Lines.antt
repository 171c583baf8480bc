-- Each line: what the code's definition makes of it is what document 01's definition makes of it. And the table at the beginning and
-- at the end.
use Prim.Native.Nat.{ℕ, ◌+◌, ◌*◌, ◌<◌, ◌≤◌}
use native.Mathlib.Omega.{arith}
use mathlib.Core.Path.{◌≡◌, refl, ap, ◌∙◌}
use mathlib.Core.Bool.{Bool, true, false, not, cond}
use mathlib.Core.List.{List, map}
use mathlib.Core.Option
use mathlib.Core.Option.{Option, none, some}
use lib.Dec.{ltb, leb}
use lib.ListN.{length, take, drop, get_elem?}
use borrow.Author.Tests.{le-ltb, lt-ltb, leb-true, leb-false}
use Rattle.std.specs.Prelude.{Err}
use Rattle.outcomes.specs.declared.refusals.Reason.{Reason}
use Rattle.outcomes.specs.declared.refusals.Reason.TheVariants.{TooMany, Unknown}
use Rattle.outcomes.specs.Refusals.{number_of}
use Rattle.sheet_format.specs.Limits.{max_number, max_name}
use Rattle.sheet_format.specs.Bytes.{same_name}
use Rattle.sheet_format.specs.SheetLines.{NodeLine, variable_line, number_line, apply_line, true_line, and_line, or_line, implies_line, some_line}
use Rattle.sheet_format.specs.SheetLines.{every_line, declare_line, node_line, clause_line, goal_line}
use Rattle.sheet_format.specs.Nodes.{Declaration, Node, nodes_at, node_of, map2, apply_node}
use Rattle.sheet_format.specs.Sheets.{Table, stop, take_node, take_line}
use Rattle.sheet_format.specs.Sheets.{Taken as SheetTaken}
use Rattle.sheet_format.specs.Sheets.{add_node as sheetAddNode}
use Rattle.node_table.specs.Decoding.{declaration_at}
use Rattle.node_table.specs.Fingerprints.{NamesStand}
use Rattle.node_table.specs.WellMade.{IsGoal, WellMade, Named}
use Rattle.table_builder.specs.declared.node_info.Counts.{Counts}
use Rattle.table_builder.specs.declared.node_info.NodeRecord.{NodeRecord}
use Rattle.table_builder.specs.Nodes.{Made, made, counts, node_record, add_node, add_one, add_two, and_info, or_info, implies_info}
use Rattle.table_builder.specs.Nodes.{insert_variable, insert_numeral, insert_true, insert_and, insert_or, insert_implies}
use Rattle.table_builder.specs.Nodes.{insert_exists, insert_forall, insert_clause, check_goal}
use Rattle.table_builder.specs.Symbols.{all_there, application_info, applied_kind, first_of, insert_application, insert_declaration}
use Rattle.table_decoding.specs.Decoding.{node_read, table_of, Decodes, Agrees, TableIs, GoalIs, Follows}
use Rattle.table_decoding.proofs.Sequences.{from_length, from_at, from_none, nodes_list, declarations_list}
use Rattle.table_decoding.proofs.Pairs.{and_added, or_added, implies_added}
use Rattle.table_decoding.proofs.Single.{true_added, numeral_added, variable_added, exists_added, forall_added}
use Rattle.table_decoding.proofs.Arguments.{node_there, node_missing, nodes_read}
use Rattle.table_decoding.proofs.Applied.{application_added}
use Rattle.table_decoding.proofs.Declared.{declaration_follows}
use Rattle.table_decoding.proofs.Clauses.{clause_follows, goal_follows}

module _ (bytes t : List ℕ) (k : Counts) (st : Decodes bytes t k) where
  abbrev table : Table
  table = table_of bytes t k

  refused : (reason : Reason) → Follows (TableIs bytes) t (made t (Err reason)) (stop (number_of reason))
  unfolding Agrees
  refused reason = record { agrees = refl; long = refl; rest = refl; order = refl }

  -- The nodes are as many as are counted, so that refusal 7 agrees.
  nodes_length : length table.nodes ≡ k.nodes
  unfolding table_of
  nodes_length = ap length (nodes_list t k.nodes 0) ∙ from_length (node_read t) k.nodes 0

  room : (l : NodeLine) (m : Made Counts) → (k.nodes < 1024 → Follows (TableIs bytes) t m (sheetAddNode table (node_of table.symbols table.nodes l)))
      → Follows (TableIs bytes) t (cond (leb 1024 k.nodes) (made t (Err TooMany)) m) (take_node table l)
  unfolding take_node
  room l m h = rw nodes_length (go (leb 1024 k.nodes) refl)
    where
      go : (x : Bool) → leb 1024 k.nodes ≡ x
          → Follows (TableIs bytes) t (cond x (made t (Err TooMany)) m)
          (cond (not (ltb k.nodes 1024)) (stop 7) (sheetAddNode table (node_of table.symbols table.nodes l)))
      go true e = rw (le-ltb k.nodes 1024 (leb-true 1024 k.nodes e)) (refused TooMany)
      go false e = let p = leb-false 1024 k.nodes e in rw (lt-ltb k.nodes 1024 p) (h p)

  -- A line that names a node not yet there is refused with 8, as in the definitions.
  there : (a : ℕ) (f : Option Node → SheetTaken) (m : Made Counts) → f none ≡ stop 8
      → (a < k.nodes → Follows (TableIs bytes) t m (f (some (node_read t a))))
      → Follows (TableIs bytes) t (cond (leb k.nodes a) (made t (Err Unknown)) m) (f (get_elem? table.nodes a))
  there a f m e h = go (leb k.nodes a) refl
    where
      go : (x : Bool) → leb k.nodes a ≡ x → Follows (TableIs bytes) t (cond x (made t (Err Unknown)) m) (f (get_elem? table.nodes a))
      go true p = rw (node_missing bytes t k st a (leb-true k.nodes a p), e) (refused Unknown)
      go false p = let l = leb-false k.nodes a p in rw (node_there bytes t k st a l) (h l)

  two : (l : NodeLine) (kind a b info : ℕ) (f : Node → Node → Node)
      → node_of table.symbols table.nodes l ≡ map2 f (get_elem? table.nodes a) (get_elem? table.nodes b)
      → (k.nodes < 1024 → a < k.nodes → b < k.nodes
      → Follows (TableIs bytes) t (add_node t k (node_record (kind + 32) 0 a b 0 0 info))
      (sheetAddNode table (some (f (node_read t a) (node_read t b)))))
      → Follows (TableIs bytes) t (add_two t k kind a b info) (take_node table l)
  unfolding add_two map2 sheetAddNode
  two l kind a b info f e h =
      room l _ (λ p. rw e
      (there a (λ o. sheetAddNode table (map2 f o (get_elem? table.nodes b))) _ refl
      (λ q. there b (λ o. sheetAddNode table (map2 f (some (node_read t a)) o)) _ refl (λ r. h p q r))))

  one : (l : NodeLine) (r : NodeRecord) (f : Node → Node)
      → node_of table.symbols table.nodes l ≡ Option.map f (get_elem? table.nodes r.first)
      → (k.nodes < 1024 → r.first < k.nodes → Follows (TableIs bytes) t (add_node t k r) (sheetAddNode table (some (f (node_read t r.first)))))
      → Follows (TableIs bytes) t (add_one t k r) (take_node table l)
  unfolding add_one sheetAddNode
  one l r f e h = room l _ (λ p. rw e (there r.first (λ o. sheetAddNode table (Option.map f o)) _ refl (λ q. h p q)))

  -- nodes

  pub follows_variable : (v : ℕ) → v < 8
      → Follows (TableIs bytes) t (insert_variable t k v) (take_line same_name table (some (node_line (variable_line v))))
  unfolding insert_variable take_line node_of
  follows_variable v l = room (variable_line v) _ (λ p. variable_added bytes t k st p v l)

  pub follows_numeral : (n : ℕ) → n ≤ max_number
      → Follows (TableIs bytes) t (insert_numeral t k n) (take_line same_name table (some (node_line (number_line n))))
  unfolding insert_numeral take_line node_of
  follows_numeral n l = room (number_line n) _ (λ p. numeral_added bytes t k st p n l)

  pub follows_true : Follows (TableIs bytes) t (insert_true t k) (take_line same_name table (some (node_line true_line)))
  unfolding insert_true take_line node_of
  follows_true = room true_line _ (λ p. true_added bytes t k st p)

  pub follows_and : (a b : ℕ) → Follows (TableIs bytes) t (insert_and t k a b) (take_line same_name table (some (node_line (and_line a b))))
  unfolding insert_and take_line node_of
  follows_and a b = two (and_line a b) 4 a b (and_info t a b) _ refl (λ p q r. and_added bytes t k st p a b q r)

  pub follows_or : (a b : ℕ) → Follows (TableIs bytes) t (insert_or t k a b) (take_line same_name table (some (node_line (or_line a b))))
  unfolding insert_or take_line node_of
  follows_or a b = two (or_line a b) 5 a b (or_info t a b) _ refl (λ p q r. or_added bytes t k st p a b q r)

  pub follows_implies : (a b : ℕ) → Follows (TableIs bytes) t (insert_implies t k a b) (take_line same_name table (some (node_line (implies_line a b))))
  unfolding insert_implies take_line node_of
  follows_implies a b = two (implies_line a b) 6 a b (implies_info t a b) _ refl (λ p q r. implies_added bytes t k st p a b q r)

  pub follows_exists : (v a : ℕ) → v < 8
      → Follows (TableIs bytes) t (insert_exists t k v a) (take_line same_name table (some (node_line (some_line v a))))
  unfolding insert_exists take_line node_of
  follows_exists v a l = one (some_line v a) _ _ refl (λ p q. exists_added bytes t k st p v l a q)

  pub follows_forall : (v a : ℕ) → v < 8
      → Follows (TableIs bytes) t (insert_forall t k v a) (take_line same_name table (some (node_line (every_line v a))))
  unfolding insert_forall take_line node_of
  follows_forall v a l = one (every_line v a) _ _ refl (λ p q. forall_added bytes t k st p v l a q)

  -- The symbol of an application is found in the table if it is there.
  symbol_there : (f : ℕ) → f < k.symbols → get_elem? table.symbols f ≡ some (declaration_at bytes t f)
  unfolding table_of
  symbol_there f h =
      ap (λ (l : List Declaration). get_elem? l f) (declarations_list bytes t k.symbols 0)
      ∙ from_at (declaration_at bytes t) k.symbols 0 f h
      ∙ ap (λ (x : ℕ). some (declaration_at bytes t x)) (let e : 0 + f ≡ f = omega arith in e)

  symbol_missing : (f : ℕ) → k.symbols ≤ f → get_elem? table.symbols f ≡ none
  unfolding table_of
  symbol_missing f h =
      ap (λ (l : List Declaration). get_elem? l f) (declarations_list bytes t k.symbols 0)
      ∙ from_none (declaration_at bytes t) k.symbols 0 f h

  pub follows_application : (f count a b c d : ℕ) → count ≤ 4
      → Follows (TableIs bytes) t (insert_application t k f count a b c d)
      (take_line same_name table (some (node_line (apply_line f (first_of count a b c d)))))
  unfolding insert_application take_line node_of map2 sheetAddNode
  follows_application f count a b c d few = room (apply_line f (first_of count a b c d)) _ (λ p. symbol p (leb k.symbols f) refl)
    where
      nodes : k.nodes < 1024 → f < k.symbols → (x : Bool) → all_there k.nodes (first_of count a b c d) ≡ x
          → Follows (TableIs bytes) t
          (cond x (add_node t k (node_record (applied_kind t f + 16 * count) f a b c d (application_info t f (first_of count a b c d))))
          (made t (Err Unknown)))
          (sheetAddNode table (map2 (λ d. apply_node d f) (some (declaration_at bytes t f))
          (cond x (some (map (node_read t) (first_of count a b c d))) none)))
      nodes p q true e = application_added bytes t k st p f count a b c d q few e
      nodes p q false e = refused Unknown

      symbol : k.nodes < 1024 → (x : Bool) → leb k.symbols f ≡ x
          → Follows (TableIs bytes) t
          (cond x (made t (Err Unknown)) (cond (all_there k.nodes (first_of count a b c d))
          (add_node t k (node_record (applied_kind t f + 16 * count) f a b c d (application_info t f (first_of count a b c d))))
          (made t (Err Unknown))))
          (sheetAddNode table (map2 (λ d. apply_node d f) (get_elem? table.symbols f) (nodes_at table.nodes (first_of count a b c d))))
      symbol p true e = rw (symbol_missing f (leb-true k.symbols f e)) (refused Unknown)
      symbol p false e =
          let q = leb-false k.symbols f e in
          rw (symbol_there f q, nodes_read bytes t k st (first_of count a b c d))
          (nodes p q (all_there k.nodes (first_of count a b c d)) refl)

  -- clauses, the goal, symbols

  pub follows_clause : (n : ℕ) → Follows (TableIs bytes) t (insert_clause t k n) (take_line same_name table (some (clause_line n)))
  unfolding take_line
  follows_clause n = clause_follows bytes t k st n

  pub follows_goal : (n : ℕ) → Follows (GoalIs k) t (made t (check_goal t k n)) (take_line same_name table (some (goal_line n)))
  unfolding take_line
  follows_goal n = goal_follows bytes t k st n

  pub follows_declaration : (function : Bool) (start len arity : ℕ) → start + len ≤ length bytes → len ≤ max_name
      → Follows (TableIs bytes) t (insert_declaration bytes t k function start len arity)
      (take_line same_name table (some (declare_line function (take len (drop start bytes)) arity)))
  unfolding take_line
  follows_declaration function start len arity h short = declaration_follows bytes t k st function start len arity h short

-- the beginning and the end

-- Before the first line the table may hold anything.
pub stands_empty : (bytes t : List ℕ) → 8192 ≤ length t → Decodes bytes t (counts 0 0 0)
stands_empty bytes t h =
    record {
      long = h;
      few_symbols = omega arith;
      few_nodes = omega arith;
      few_clauses = omega arith;
      names = λ i l. absurd (omega arith);
      named = λ n l p q. absurd (omega arith);
      term = λ n l i. absurd (omega arith);
      goal = λ n l i. absurd (omega arith);
      clause = λ n l i. absurd (omega arith);
      clauses = λ i l. absurd (omega arith);
    }

-- After the Q line the table is as the engine and the checker want it, and is the sheet.
pub well_made_lem : (bytes t : List ℕ) (k : Counts) (goal : ℕ) → Decodes bytes t k → goal < k.nodes → IsGoal t goal
    → WellMade t k.nodes k.clauses goal
well_made_lem bytes t k goal st l i =
    record {
      few_nodes = st.few_nodes;
      few_clauses = st.few_clauses;
      term = st.term;
      goal_node = st.goal;
      clause_nodes = st.clause;
      clause = st.clauses;
      goal_there = l;
      goal_is = i;
    }

pub all_named : (bytes t : List ℕ) (k : Counts) → Decodes bytes t k → Named t k.nodes k.symbols
all_named bytes t k st = st.named

pub names_stand : (bytes t : List ℕ) (k : Counts) → Decodes bytes t k → NamesStand bytes t k.symbols
names_stand bytes t k st = st.names
