-- A line read and taken: what the functions of the table require of it, and that the answer is the one of document 01's definitions.
-- Assumes nothing.
use Prim.Native.Nat.{ℕ, zero, suc, ◌+◌, ◌-◌, ◌≤◌}
use native.Mathlib.Omega.{arith}
use mathlib.Core.Bool.{Bool, true, false, not, cond}
use mathlib.Core.Path.{◌≡◌, refl, sym, ap, ◌∙◌, subst}
use mathlib.Core.List.{List, [], ◌∷◌, ◌++◌}
use mathlib.Core.Option.{Option, none, some}
use lib.Dec.{ltb, leb, eqb}
use lib.ListN.{length, take, drop, get_elem?, length-take, length-drop, length-append}
use lib.Seq.{take-take, drop-drop, length-take-le}
use Rattle.std.specs.Prelude.{Result, Ok, Err}
use Rattle.outcomes.specs.declared.refusals.Reason.{Reason}
use Rattle.outcomes.specs.declared.refusals.Reason.TheVariants.{Malformed, Unknown, WrongKind}
use Rattle.formulas.specs.Formulas.{Goal, Clause}
use Rattle.sheet_format.specs.Limits.{variable_names, max_symbols, max_nodes, max_clauses}
use Rattle.sheet_format.specs.Bytes.{same_name}
use Rattle.sheet_format.specs.SheetLines.{SheetLine, declare_line, node_line, clause_line, goal_line, parse_line}
use Rattle.sheet_format.specs.SheetLines.{NodeLine as SheetNode}
use Rattle.sheet_format.specs.Nodes.{node_of, is_something}
use Rattle.sheet_format.specs.Nodes.{Node as TreeNode}
use Rattle.sheet_format.specs.Sheets.{Table, next, stop, last, is_declared, add_node, add_clause, any_free, clause_at, last_goal, goal_at}
use Rattle.sheet_format.specs.Sheets.{Taken as SheetTaken, take_line as sheetLine, take_declaration as sheetDeclaration}
use Rattle.sheet_format.specs.Sheets.{take_node as sheetNode, take_clause as sheetClause}
use Rattle.sheet_format.proofs.SheetLines.{FormedNodeLine}
use Rattle.line_parser.specs.declared.lines.NodeLine.{NodeLine}
use Rattle.line_parser.specs.declared.lines.NodeLine.TheVariants.{Variable, Numeral, Apply, True, And, Or, Implies, Exists, Forall}
use Rattle.line_parser.specs.declared.lines.Line.{Line}
use Rattle.line_parser.specs.declared.lines.Line.TheVariants.{Declare, Node, Clause as ClauseLine, Goal as GoalLine}
use Rattle.line_parser.specs.Fields.{first_name}
use Rattle.line_parser.specs.Lines.{line_answer, node_list, node_back, line_back}
use Rattle.line_parser.proofs.lines.Lines.{line_is, line_formed, declare_bounds, apply_count}
use Rattle.node_table.specs.Layout.{goal_bit}
use Rattle.table_builder.specs.declared.node_info.Counts.{Counts}
use Rattle.table_builder.specs.Nodes.{Made, made, check_goal}
use Rattle.table_builder.specs.Symbols.{StandsAt, insert_declaration}
use Rattle.table_decoding.specs.Decoding.{table_of, Decodes, TableIs, GoalIs, Agrees, Follows}
use Rattle.table_decoding.proofs.Lines.{follows_variable, follows_numeral, follows_true, follows_and, follows_or, follows_implies}
use Rattle.table_decoding.proofs.Lines.{follows_exists, follows_forall, follows_application, follows_clause, follows_goal}
use Rattle.table_decoding.proofs.Lines.{follows_declaration}
use Rattle.sheet_reader.specs.declared.sheet_lines.Taken.{Taken}
use Rattle.sheet_reader.specs.declared.sheet_lines.Taken.TheVariants.{Next, Last}
use Rattle.sheet_reader.specs.Reader.{nodes_in, goal_or, FormedNode, FormedDeclaration, FormedLine, take_node, taken_as, take_line}
use Rattle.sheet_reader.specs.Reader.{take_answer, line_taken}

-- The bytes from `at` up to `end`.
abbrev pub between : List ℕ → ℕ → ℕ → List ℕ
between s at end = take (end - at) (drop at s)

-- parts of a line

-- Bytes taken from no bytes are no bytes.
part_nil : (n : ℕ) → ◌≡◌ {A = List ℕ} [] (take n [])
part_nil zero = refl
part_nil (suc n) = refl

drop_part : (n : ℕ) (l : List ℕ) → drop 2 (take (suc (suc n)) l) ≡ take n (drop 2 l)
drop_part n [] = part_nil n
drop_part n (c ∷ []) = part_nil n
drop_part n (c ∷ d ∷ l) = refl

-- The rest after the letter and its tab has the same bytes in the line as on the sheet.
rest_at : (s : List ℕ) (at end : ℕ) → at + 2 ≤ end → drop 2 (between s at end) ≡ between s (at + 2) end
rest_at s at end h =
    let z : end - at ≡ suc (suc (end - (at + 2))) = omega arith in
    rw (z, drop_part (end - (at + 2)) (drop at s), drop-drop 2 at s)

-- A declared name has the same bytes in its line as on the sheet.
named_at : (s : List ℕ) (at end n : ℕ) → at ≤ end → end ≤ length s → 2 + n ≤ length (between s at end)
    → take n (drop 2 (between s at end)) ≡ take n (drop (at + 2) s)
named_at s at end n h k i =
    let w = length-take (end - at) (drop at s) in
    let d = length-drop at s in
    let r : at + 2 ≤ end = omega arith in
    let y : n ≤ end - (at + 2) = omega arith in
    rw (rest_at s at end r) (take-take n (end - (at + 2)) (drop (at + 2) s) y)

-- what is required

-- A line that makes a node satisfies what the table's functions require.
node_formed : (s : List ℕ) (l : NodeLine) → Ok (Node l) ≡ line_answer (parse_line s) → FormedNodeLine (node_back l) → FormedNode l
unfolding FormedNode node_back
node_formed s (Variable v) e h = h
node_formed s (Numeral n) e h = h
node_formed s (Apply f ns) e h = apply_count s f ns e
node_formed s True e h = tt
node_formed s (And n m) e h = tt
node_formed s (Or n m) e h = tt
node_formed s (Implies n m) e h = tt
node_formed s (Exists v n) e h = h
node_formed s (Forall v n) e h = h

-- Any line that is read satisfies what the table's functions require.
pub line_fits : (s : List ℕ) (at end : ℕ) → at ≤ end → end ≤ length s → (r : Line) → Ok r ≡ line_answer (parse_line (between s at end))
    → FormedLine s at end r
unfolding FormedLine line_back
line_fits s at end h k (Declare function n arity) e =
    let b = declare_bounds (between s at end) function n arity e in
    let w = length-take (end - at) (drop at s) in
    let d = length-drop at s in
    let i = b.within in
    let r : at + 2 ≤ end = omega arith in
    record {
      rest = r;
      within = k;
      name = ap first_name (sym (rest_at s at end r)) ∙ b.first ∙ named_at s at end n h k i;
      name_within = omega arith;
      arity = b.arity;
    }
line_fits s at end h k (Node l) e =
    node_formed (between s at end) l e (line_formed (between s at end) (Ok (Node l)) (node_line (node_back l)) e refl)
line_fits s at end h k (ClauseLine n) e = tt
line_fits s at end h k (GoalLine n) e = tt

-- the declared name

-- What the name reader returns for the rest of a declaration is the declared name on the sheet.
module _ (s : List ℕ) (at end n arity : ℕ) (name : List ℕ) (f : FormedDeclaration s at end n arity)
    (e : name ≡ first_name (between s (at + 2) end)) where
  name_length_lem : length name ≡ n
  name_length_lem =
      let d = length-drop (at + 2) s in
      let i = f.name_within in
      let y : n ≤ length (drop (at + 2) s) = omega arith in
      ap length (e ∙ f.name) ∙ length-take-le n (drop (at + 2) s) y

  pub name_stands : StandsAt s (at + 2) name
  name_stands =
      let l = name_length_lem in
      let i = f.name_within in
      (omega arith, e ∙ f.name ∙ ap (λ (m : ℕ). take m (drop (at + 2) s)) (sym l))

  -- Its length is the one that the line reader answers.
  pub name_inserted : (t : List ℕ) (k : Counts) (function : Bool) (m : Made Counts)
      → m ≡ insert_declaration s t k function (at + 2) (length name) arity → m ≡ insert_declaration s t k function (at + 2) n arity
  name_inserted t k function m h = h ∙ ap (λ (l : ℕ). insert_declaration s t k function (at + 2) l arity) name_length_lem

-- what a line comes to

-- An answer of the table's functions, handed on.
module _ {A : Type 0} (t' : List ℕ) (f : A → Taken) (r : Result A Reason) where
  pub taken_ok : (a : A) (m : Made A) → made t' r ≡ m → r ≡ Ok a → made t' (Ok (f a)) ≡ made m.table (taken_as f m.answer)
  unfolding taken_as
  taken_ok a m h e =
      let q : made t' (Ok a) ≡ m = ap (made t') (sym e) ∙ h in
      ap (λ (n : Made A). made n.table (taken_as f n.answer)) q

  pub taken_err : (reason : Reason) (x : Result Taken Reason) (m : Made A) → made t' r ≡ m → r ≡ Err reason → x ≡ Err reason
      → made t' x ≡ made m.table (taken_as f m.answer)
  unfolding taken_as
  taken_err reason x m h e g =
      let q : made t' (Err reason) ≡ m = ap (made t') (sym e) ∙ h in
      ap (made t') g ∙ ap (λ (n : Made A). made n.table (taken_as f n.answer)) q

-- The line reader's answer, handed on.
module _ (s t : List ℕ) (k : Counts) (at end : ℕ) (r : Result Line Reason) where
  pub refused_at : (reason : Reason) (x : Result Taken Reason) → r ≡ line_answer (parse_line (between s at end)) → r ≡ Err reason
      → x ≡ Err reason → made t x ≡ line_taken s t k at end
  unfolding line_taken take_answer
  refused_at reason x h e g = rw (← h, e, g)

  pub taken_at : (l : Line) (m : Made Taken) → r ≡ line_answer (parse_line (between s at end)) → r ≡ Ok l → m ≡ take_line s t k at l
      → m ≡ line_taken s t k at end
  unfolding line_taken take_answer
  taken_at l m h e g = rw (← h, e) g

-- what a line adds

-- What holds of the table after a line that is taken, and what of a Q line.
unfoldable OnTaken : (Table → Type 0) → Type 0 → SheetTaken → Type 0
OnTaken P Q (next u) = P u
OnTaken P Q (stop n) = Unit {0}
OnTaken P Q (last g) = Q

-- What holds of both results of a test holds of the result picked.
cond_on : (P : Table → Type 0) (Q : Type 0) (b : Bool) (x y : SheetTaken) → OnTaken P Q x → OnTaken P Q y → OnTaken P Q (cond b x y)
cond_on P Q true x y h k = h
cond_on P Q false x y h k = k

-- The line is a Q line.
unfoldable IsLast : Option SheetLine → Type 0
IsLast none = ⊥
IsLast (some (declare_line function name arity)) = ⊥
IsLast (some (node_line l)) = ⊥
IsLast (some (clause_line n)) = ⊥
IsLast (some (goal_line n)) = Unit {0}

-- A line that is taken makes its nodes and names no goal.
pub record Adds (table : Table) (o : Option SheetLine) (u : Table) : Type 0 where
  pub nodes : length u.nodes ≡ length table.nodes + nodes_in o
  pub goal : (m : ℕ) → goal_or o m ≡ m

-- A line that makes no node adds none, and a node line adds one.
adds_none : (table : Table) (o : Option SheetLine) (u : Table) → u.nodes ≡ table.nodes → nodes_in o ≡ 0 → ((m : ℕ) → goal_or o m ≡ m)
    → Adds table o u
adds_none table o u e z g = record { nodes = let f = ap length e in omega arith; goal = g }

adds_one : (table : Table) (l : SheetNode) (n : TreeNode)
    → Adds table (some (node_line l)) (record { symbols = table.symbols; nodes = table.nodes ++ (n ∷ []); clauses = table.clauses })
unfolding nodes_in goal_or
adds_one table l n = record { nodes = length-append table.nodes (n ∷ []); goal = λ m. refl }

module _ (table : Table) where
  -- Of every line.
  line_adds : (o : Option SheetLine) → OnTaken (Adds table o) (IsLast o) (sheetLine same_name table o)
  unfolding sheetLine sheetDeclaration sheetNode add_node sheetClause clause_at add_clause goal_at last_goal OnTaken IsLast nodes_in goal_or
  line_adds none = tt
  line_adds (some (declare_line function name arity)) =
      cond_on _ _ (not (ltb (length table.symbols) max_symbols)) _ _ tt
      (cond_on _ _ (is_declared same_name name table.symbols) _ _ tt (adds_none _ _ _ refl refl (λ m. refl)))
  line_adds (some (node_line l)) =
      cond_on _ _ (not (ltb (length table.nodes) max_nodes)) _ _ tt (go (node_of table.symbols table.nodes l))
    where
      go : (o : Option TreeNode) → OnTaken (Adds table (some (node_line l))) ⊥ (add_node table o)
      go none = tt
      go (some n) = cond_on _ _ (is_something n) _ _ (adds_one table l n) tt
  line_adds (some (clause_line n)) = cond_on _ _ (not (ltb (length table.clauses) max_clauses)) _ _ tt (at (get_elem? table.nodes n))
    where
      go : (o : Option Clause) → OnTaken (Adds table (some (clause_line n))) ⊥ (add_clause table o)
      go none = tt
      go (some c) = cond_on _ _ (any_free variable_names 0 c) _ _ tt (adds_none _ _ _ refl refl (λ m. refl))

      at : (o : Option TreeNode) → OnTaken (Adds table (some (clause_line n))) ⊥ (clause_at table o)
      at none = tt
      at (some m) = go m.clause
  line_adds (some (goal_line n)) = at (get_elem? table.nodes n)
    where
      go : (o : Option Goal) → OnTaken (Adds table (some (goal_line n))) (Unit {0}) (last_goal o)
      go none = tt
      go (some g) = tt

      at : (o : Option TreeNode) → OnTaken (Adds table (some (goal_line n))) (Unit {0}) (goal_at o)
      at none = tt
      at (some m) = go m.goal

  -- A line that is taken adds its nodes and names no goal.
  pub next_adds : (o : Option SheetLine) (u : Table) → sheetLine same_name table o ≡ next u → Adds table o u
  unfolding OnTaken
  next_adds o u e = subst (OnTaken (Adds table o) (IsLast o)) e (line_adds o)

  -- A line that ends the sheet is a Q line.
  last_is : (o : Option SheetLine) (g : Goal) → sheetLine same_name table o ≡ last g → IsLast o
  unfolding OnTaken
  last_is o g e = subst (OnTaken (Adds table o) (IsLast o)) e (line_adds o)

-- The goal's node is the one that the Q line names.
goal_number : (t : List ℕ) (k : Counts) (n goal : ℕ) → Ok (Last goal) ≡ taken_as Last (check_goal t k n) → n ≡ goal
unfolding check_goal taken_as
goal_number t k n goal e = go (leb k.nodes n) (eqb (goal_bit t n) 1) e
  where
    go : (a b : Bool) → Ok (Last goal) ≡ taken_as Last (cond a (Err Unknown) (cond b (Ok n) (Err WrongKind))) → n ≡ goal
    go true b e = absurd (let z : ◌≡◌ {A = ℕ} 0 1 = cc in omega arith)
    go false true e = cc
    go false false e = absurd (let z : ◌≡◌ {A = ℕ} 0 1 = cc in omega arith)

-- The line reader refuses malformed lines alone.
refused_malformed : (o : Option SheetLine) (n : Reason) → Err n ≡ line_answer o → n ≡ Malformed
unfolding line_answer
refused_malformed none n e = cc
refused_malformed (some (declare_line f m a)) n e = absurd (let z : ◌≡◌ {A = ℕ} 0 1 = cc in omega arith)
refused_malformed (some (node_line l)) n e = absurd (let z : ◌≡◌ {A = ℕ} 0 1 = cc in omega arith)
refused_malformed (some (clause_line m)) n e = absurd (let z : ◌≡◌ {A = ℕ} 0 1 = cc in omega arith)
refused_malformed (some (goal_line m)) n e = absurd (let z : ◌≡◌ {A = ℕ} 0 1 = cc in omega arith)

-- What a line comes to that is taken: the table is the definitions', or the node is the goal that they find.
unfoldable pub TakenIs : List ℕ → Counts → List ℕ → Taken → SheetTaken → Type 0
TakenIs bytes k t (Next j) s = TableIs bytes t j s
TakenIs bytes k t (Last n) s = GoalIs k t n s

module _ (bytes t : List ℕ) (k : Counts) (h : Decodes bytes t k) where
  -- An answer of the table's functions as that of a line.
  as_taken : {A : Type 0} (P : List ℕ → A → SheetTaken → Type 0) (f : A → Taken) (m : Made A) (s : SheetTaken)
      → ((u : List ℕ) (a : A) → P u a s → TakenIs bytes k u (f a) s) → Follows P t m s
      → Follows (TakenIs bytes k) t (made m.table (taken_as f m.answer)) s
  unfolding Agrees taken_as
  as_taken {A} P f m s g x = record { agrees = go m.answer x.agrees; long = x.long; rest = x.rest; order = x.order }
    where
      go : (r : Result A Reason) → Agrees (P m.table) r s → Agrees (TakenIs bytes k m.table) (taken_as f r) s
      go (Ok a) y = g m.table a y
      go (Err reason) y = y

  goes_follows : (m : Made Counts) (s : SheetTaken) → Follows (TableIs bytes) t m s
      → Follows (TakenIs bytes k) t (made m.table (taken_as Next m.answer)) s
  unfolding TakenIs
  goes_follows m s x = as_taken (TableIs bytes) Next m s (λ u a y. y) x

  ends_follows : (m : Made ℕ) (s : SheetTaken) → Follows (GoalIs k) t m s
      → Follows (TakenIs bytes k) t (made m.table (taken_as Last m.answer)) s
  unfolding TakenIs
  ends_follows m s x = as_taken (GoalIs k) Last m s (λ u a y. y) x

  -- A line that makes a node is answered as document 01's definitions say.
  node_follows : (l : NodeLine) → FormedNodeLine (node_back l) → FormedNode l
      → Follows (TableIs bytes) t (take_node t k l) (sheetLine same_name (table_of bytes t k) (some (node_line (node_back l))))
  unfolding take_node node_back node_list FormedNode
  node_follows (Variable v) f g = follows_variable bytes t k h v f
  node_follows (Numeral n) f g = follows_numeral bytes t k h n f
  node_follows (Apply f ns) p g = follows_application bytes t k h f ns.count ns.a ns.b ns.c ns.d g
  node_follows True f g = follows_true bytes t k h
  node_follows (And n m) f g = follows_and bytes t k h n m
  node_follows (Or n m) f g = follows_or bytes t k h n m
  node_follows (Implies n m) f g = follows_implies bytes t k h n m
  node_follows (Exists v n) f g = follows_exists bytes t k h v n f
  node_follows (Forall v n) f g = follows_forall bytes t k h v n f

  -- A malformed line is refused with 6, as document 01's definitions say.
  malformed_follows : Follows (TakenIs bytes k) t (made t (Err Malformed)) (stop 6)
  unfolding Agrees
  malformed_follows = record { agrees = refl; long = refl; rest = refl; order = refl }

  module _ (at end : ℕ) (a : at ≤ end) (b : end ≤ length bytes) where
    -- A declared name lies within the sheet.
    declared_within : (n : ℕ) → 2 + n ≤ length (between bytes at end) → at + 2 + n ≤ length bytes
    declared_within n h =
        let w = length-take (end - at) (drop at bytes) in
        let d = length-drop at bytes in
        omega arith

    -- Any parsed line is answered as document 01's definitions say.
    answer_follows : (r : Result Line Reason) → r ≡ line_answer (parse_line (between bytes at end))
        → Follows (TakenIs bytes k) t (take_answer bytes t k at r)
        (sheetLine same_name (table_of bytes t k) (line_back (between bytes at end) r))
    unfolding take_answer take_line sheetLine line_back
    answer_follows (Ok (Declare function n arity)) e =
        let d = declare_bounds (between bytes at end) function n arity e in
        let z = named_at bytes at end n a b d.within in
        rw z (goes_follows _ _ (follows_declaration bytes t k h function (at + 2) n arity (declared_within n d.within) d.short))
    answer_follows (Ok (Node l)) e =
        let f = line_formed (between bytes at end) (Ok (Node l)) (node_line (node_back l)) e refl in
        goes_follows _ _ (node_follows l f (node_formed (between bytes at end) l e f))
    answer_follows (Ok (ClauseLine n)) e = goes_follows _ _ (follows_clause bytes t k h n)
    answer_follows (Ok (GoalLine n)) e = ends_follows _ _ (follows_goal bytes t k h n)
    answer_follows (Err reason) e = rw (refused_malformed (parse_line (between bytes at end)) reason e) malformed_follows

    -- The line as it is read is answered as document 01's definitions say.
    pub line_follows : Follows (TakenIs bytes k) t (line_taken bytes t k at end)
        (sheetLine same_name (table_of bytes t k) (parse_line (between bytes at end)))
    unfolding line_taken
    line_follows =
        let r = line_answer (parse_line (between bytes at end)) in
        subst (λ (o : Option SheetLine). Follows (TakenIs bytes k) t (take_answer bytes t k at r) (sheetLine same_name (table_of bytes t k) o))
        (sym (line_is (between bytes at end) r refl)) (answer_follows r refl)

    -- The answer to a Q line: the table stays, and the line names the goal's node.
    pub record EndsAt (t' : List ℕ) (goal : ℕ) (o : Option SheetLine) : Type 0 where
      pub same : t' ≡ t
      pub named : o ≡ some (goal_line goal)

    -- A line that is no Q line does not have the answer of one.
    other_line : (m : Made Taken) (o : Option SheetLine) (t' : List ℕ) (goal : ℕ)
        → Follows (TakenIs bytes k) t m (sheetLine same_name (table_of bytes t k) o)
        → made t' (Ok (Last goal)) ≡ m → (IsLast o → ⊥) → EndsAt t' goal o
    unfolding Agrees TakenIs
    other_line m o t' goal f e n =
        let g : Follows (TakenIs bytes k) t (made t' (Ok (Last goal))) (sheetLine same_name (table_of bytes t k) o) = rw e f in
        absurd (n (last_is (table_of bytes t k) o _ g.agrees.0))

    -- Any parsed line that ends the sheet leaves the table and names the goal's node.
    answer_last : (r : Result Line Reason) → r ≡ line_answer (parse_line (between bytes at end)) → (t' : List ℕ) (goal : ℕ)
        → made t' (Ok (Last goal)) ≡ take_answer bytes t k at r
        → EndsAt t' goal (line_back (between bytes at end) r)
    unfolding take_answer take_line line_back IsLast
    answer_last (Ok (Declare function n arity)) e t' goal q = other_line _ _ t' goal (answer_follows (Ok (Declare function n arity)) e) q (λ i. i)
    answer_last (Ok (Node l)) e t' goal q = other_line _ _ t' goal (answer_follows (Ok (Node l)) e) q (λ i. i)
    answer_last (Ok (ClauseLine n)) e t' goal q = other_line _ _ t' goal (answer_follows (Ok (ClauseLine n)) e) q (λ i. i)
    answer_last (Ok (GoalLine n)) e t' goal q =
        record {
          same = ap (λ (m : Made Taken). m.table) q;
          named = ap (λ (m : ℕ). some (goal_line m)) (goal_number t k n goal (ap (λ (m : Made Taken). m.answer) q));
        }
    answer_last (Err reason) e t' goal q = other_line _ _ t' goal (answer_follows (Err reason) e) q (λ i. i)

    -- The line as it is read, if it ends the sheet, leaves the table and names the goal's node.
    pub line_last : (t' : List ℕ) (goal : ℕ) → made t' (Ok (Last goal)) ≡ line_taken bytes t k at end
        → EndsAt t' goal (parse_line (between bytes at end))
    unfolding line_taken
    line_last t' goal e =
        let r = line_answer (parse_line (between bytes at end)) in
        subst (EndsAt t' goal) (sym (line_is (between bytes at end) r refl)) (answer_last r refl t' goal e)
