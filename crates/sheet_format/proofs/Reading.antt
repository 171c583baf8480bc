-- Induction over the lines of a sheet: what holds of the empty table, and is kept by every line that is taken, holds of the table at the
-- Q line.
use Prim.Native.Nat.{ℕ, suc}
use mathlib.Core.Path.{◌≡◌, refl, subst}
use mathlib.Core.Bool.{Bool, true, false, not, cond}
use mathlib.Core.List.{List, [], ◌∷◌, ◌++◌}
use mathlib.Core.Option.{Option, none, some}
use lib.Dec.{ltb}
use lib.ListN.{length, get_elem?}
use Rattle.terms.specs.Lists.{All}
use Rattle.formulas.specs.Formulas.{Goal, Clause}
use Rattle.formulas.specs.Rules.{Order, oldest, latest}
use Rattle.sheet_format.specs.Limits.{variable_names, max_symbols, max_nodes, max_clauses}
use Rattle.sheet_format.specs.Bytes.{lines_of, same_bytes}
use Rattle.sheet_format.specs.SheetLines.{NodeLine, SheetLine, declare_line, node_line, clause_line, goal_line}
use Rattle.sheet_format.specs.Nodes.{Declaration, Node, node_of, is_something}
use Rattle.sheet_format.specs.Sheets.{Sheet, Form, Read, sheet, refused, refusal, Table, Taken, next, stop, last, is_declared}
use Rattle.sheet_format.specs.Sheets.{take_declaration, add_node, take_node, any_free, add_clause, clause_at, take_clause, last_goal, goal_at}
use Rattle.sheet_format.specs.Sheets.{take_line, at_end, after_goal, read_from, empty_table, order_line, read_lines, read_sheet_by}
use Rattle.sheet_format.proofs.Options.{OnSome}

-- The table with one more symbol, node or clause.
abbrev pub with_symbol : Table → Declaration → Table
with_symbol t d = record { symbols = t.symbols ++ (d ∷ []); nodes = t.nodes; clauses = t.clauses }

abbrev pub with_node : Table → Node → Table
with_node t n = record { symbols = t.symbols; nodes = t.nodes ++ (n ∷ []); clauses = t.clauses }

abbrev pub with_clause : Table → Clause → Table
with_clause t c = record { symbols = t.symbols; nodes = t.nodes; clauses = t.clauses ++ (c ∷ []) }

-- The property I is kept by lines of which L holds; names are compared by `same`.
pub record Invariant (same : List ℕ → List ℕ → Bool) (L : SheetLine → Type 0) (I : Table → Type 0) : Type 0 where
  pub declaration : (t : Table) (k : Bool) (n : List ℕ) (a : ℕ) → I t → L (declare_line k n a) → is_declared same n t.symbols ≡ false
      → I (with_symbol t (record { function = k; name = n; arity = a }))
  pub node : (t : Table) (l : NodeLine) (n : Node) → I t → L (node_line l) → node_of t.symbols t.nodes l ≡ some n → I (with_node t n)
  pub clause : (t : Table) (i : ℕ) (n : Node) (c : Clause) → I t → get_elem? t.nodes i ≡ some n → n.clause ≡ some c
      → any_free variable_names 0 c ≡ false → I (with_clause t c)

-- The goal of a node of the table.
pub record GoalOf (t : Table) (g : Goal) : Type 0 where
  pub place : ℕ
  pub node : Node
  pub at : get_elem? t.nodes place ≡ some node
  pub goal : node.goal ≡ some g

module _ (same : List ℕ → List ℕ → Bool) (L : SheetLine → Type 0) (I : Table → Type 0) (kept : Invariant same L I) where
  -- What is known after a line.
  abbrev pub After : Table → Taken → Type 0
  After t (next u) = I u
  After t (stop n) = Unit {0}
  After t (last g) = GoalOf t g

  -- What holds after each result of a test holds after the one picked.
  cond_after : (t : Table) (b : Bool) (x y : Taken) → (b ≡ true → After t x) → (b ≡ false → After t y) → After t (cond b x y)
  cond_after t true x y h k = h refl
  cond_after t false x y h k = k refl

  declaration_after : (t : Table) (k : Bool) (n : List ℕ) (a : ℕ) → I t → L (declare_line k n a)
      → After t (take_declaration same t (record { function = k; name = n; arity = a }))
  unfolding take_declaration
  declaration_after t k n a i h =
      cond_after t (not (ltb (length t.symbols) max_symbols)) (stop 7) _ (λ e. tt)
      (λ e. cond_after t (is_declared same n t.symbols) (stop 8) _ (λ q. tt) (λ q. kept.declaration t k n a i h q))

  node_after : (t : Table) (l : NodeLine) → I t → L (node_line l) → After t (take_node t l)
  unfolding take_node add_node
  node_after t l i h =
      cond_after t (not (ltb (length t.nodes) max_nodes)) (stop 7) _ (λ e. tt) (λ e. go (node_of t.symbols t.nodes l) refl)
    where
      go : (o : Option Node) → node_of t.symbols t.nodes l ≡ o → After t (add_node t o)
      go none q = tt
      go (some n) q = cond_after t (is_something n) _ (stop 9) (λ z. kept.node t l n i h q) (λ z. tt)

  clause_after : (t : Table) (j : ℕ) → I t → After t (take_clause t j)
  unfolding take_clause clause_at add_clause
  clause_after t j i =
      cond_after t (not (ltb (length t.clauses) max_clauses)) (stop 7) _ (λ e. tt) (λ e. at (get_elem? t.nodes j) refl)
    where
      add : (n : Node) → get_elem? t.nodes j ≡ some n → (o : Option Clause) → n.clause ≡ o → After t (add_clause t o)
      add n q none p = tt
      add n q (some c) p = cond_after t (any_free variable_names 0 c) (stop 10) _ (λ e. tt) (λ e. kept.clause t j n c i q p e)

      at : (o : Option Node) → get_elem? t.nodes j ≡ o → After t (clause_at t o)
      at none q = tt
      at (some n) q = add n q n.clause refl

  goal_after : (t : Table) (j : ℕ) → After t (goal_at (get_elem? t.nodes j))
  unfolding goal_at last_goal
  goal_after t j = at (get_elem? t.nodes j) refl
    where
      end : (n : Node) → get_elem? t.nodes j ≡ some n → (o : Option Goal) → n.goal ≡ o → After t (last_goal o)
      end n q none p = tt
      end n q (some g) p = record { place = j; node = n; at = q; goal = p }

      at : (o : Option Node) → get_elem? t.nodes j ≡ o → After t (goal_at o)
      at none q = tt
      at (some n) q = end n q n.goal refl

  -- After any line.
  pub line_after : (t : Table) (o : Option SheetLine) → I t → OnSome L o → After t (take_line same t o)
  unfolding take_line
  line_after t none i h = tt
  line_after t (some (declare_line k n a)) i h = declaration_after t k n a i h
  line_after t (some (node_line l)) i h = node_after t l i h
  line_after t (some (clause_line n)) i h = clause_after t n i
  line_after t (some (goal_line n)) i h = goal_after t n

-- The table at the Q line, of which the property holds.
pub record ReadWith (I : Table → Type 0) (s : Sheet) : Type 0 where
  pub table : Table
  pub holds : I table
  pub symbols : table.symbols ≡ s.symbols
  pub clauses : table.clauses ≡ s.clauses
  pub goal : GoalOf table s.goal

module _ (form : Form) (L : SheetLine → Type 0) (I : Table → Type 0) (kept : Invariant form.same L I) where
  -- A sheet that is read ends in such a table.
  abbrev Reads : Read → Type 0
  Reads (sheet s) = ReadWith I s
  Reads (refused r) = Unit {0}

  after_goal_reads : (ls : List (List ℕ)) (r : List ℕ) (k : ℕ) (s : Sheet) → ReadWith I s → Reads (after_goal ls r k s)
  unfolding after_goal
  after_goal_reads [] [] k s h = h
  after_goal_reads [] (c ∷ cs) k s h = tt
  after_goal_reads (l ∷ ls) r k s h = tt

  at_end_reads : (r : List ℕ) (k : ℕ) → Reads (at_end r k)
  unfolding at_end
  at_end_reads [] k = tt
  at_end_reads (c ∷ cs) k = tt

  from_reads : (o : Order) (ls : List (List ℕ)) (r : List ℕ) (k : ℕ) (t : Table) → All (λ l. OnSome L (form.line l)) ls → I t
      → Reads (read_from form o ls r k t)
  unfolding read_from
  from_reads o [] r k t h i = at_end_reads r k
  from_reads o (l ∷ ls) r k t h i =
      go (take_line form.same t (form.line l)) (line_after form.same L I kept t (form.line l) i h.0)
      (λ u j. from_reads o ls r (suc k) u h.1 j)
    where
      go : (x : Taken) → After form.same L I kept t x → ((u : Table) → I u → Reads (read_from form o ls r (suc k) u))
          → Reads (elim x [
            | next u ↦ read_from form o ls r (suc k) u
            | stop n ↦ refused (refusal n k)
            | last g ↦ after_goal ls r (suc k) (record { order = o; symbols = t.symbols; clauses = t.clauses; goal = g })
          ])
      go (next u) a ih = ih u a
      go (stop n) a ih = tt
      go (last g) a ih =
          after_goal_reads ls r (suc k) _ (record { table = t; holds = i; symbols = refl; clauses = refl; goal = a })

  -- Whichever order the first line gives.
  lines_read : (ls : List (List ℕ)) (r : List ℕ) → All (λ l. OnSome L (form.line l)) ls → I empty_table → Reads (read_lines form ls r)
  unfolding read_lines
  lines_read [] r h i = from_reads oldest [] r 1 empty_table h i
  lines_read (l ∷ ls) r h i = go (same_bytes l order_line)
    where
      go : (b : Bool) → Reads (cond b (read_from form latest ls r 2 empty_table) (read_from form oldest (l ∷ ls) r 1 empty_table))
      go true = from_reads latest ls r 2 empty_table h.1 i
      go false = from_reads oldest (l ∷ ls) r 1 empty_table h i

  -- Of the whole sheet.
  pub sheet_reads : (bytes : List ℕ) (s : Sheet) → All (λ l. OnSome L (form.line l)) (lines_of bytes).whole
      → I empty_table → read_sheet_by form bytes ≡ sheet s → ReadWith I s
  unfolding read_sheet_by
  sheet_reads bytes s h i e = subst Reads e (lines_read (lines_of bytes).whole (lines_of bytes).rest h i)
