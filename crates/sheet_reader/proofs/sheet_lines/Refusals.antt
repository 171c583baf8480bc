-- The refusals of a sheet's lines are 6 to 11, so past them the lent buffers end as zeros.
use Prim.Native.Nat.{ℕ, suc, ◌≤◌}
use native.Mathlib.Omega.{arith}
use mathlib.Core.Path.{◌≡◌, subst}
use mathlib.Core.Bool.{Bool, true, false, not, cond}
use mathlib.Core.List.{List, [], ◌∷◌}
use mathlib.Core.Option.{Option, none, some}
use lib.Dec.{ltb}
use lib.ListN.{length, get_elem?}
use Rattle.formulas.specs.Formulas.{Goal, Clause}
use Rattle.formulas.specs.Rules.{Order, oldest, latest}
use Rattle.sheet_format.specs.Limits.{variable_names, max_symbols, max_nodes, max_clauses}
use Rattle.sheet_format.specs.Bytes.{lines_of, same_bytes, same_name}
use Rattle.sheet_format.specs.SheetLines.{SheetLine, declare_line, node_line, clause_line, goal_line, parse_line}
use Rattle.sheet_format.specs.Nodes.{Node, node_of, is_something}
use Rattle.sheet_format.specs.Sheets.{Sheet, Refusal, refusal, Read, sheet, refused, Table, Taken, next, stop, last, is_declared}
use Rattle.sheet_format.specs.Sheets.{take_declaration, add_node, take_node, any_free, add_clause, clause_at, take_clause, last_goal, goal_at}
use Rattle.sheet_format.specs.Sheets.{take_line, at_end, after_goal, read_from, empty_table, order_line, read_lines, read_sheet_by, sheet_form}
use Rattle.sheet_format.specs.Sheets.{read_sheet}

-- A line that is refused, and a sheet.
abbrev LateLine : Taken → Type 0
LateLine (next u) = Unit {0}
LateLine (stop n) = (6 ≤ n) × (n ≤ 11)
LateLine (last g) = Unit {0}

abbrev LateRead : Read → Type 0
LateRead (sheet s) = Unit {0}
LateRead (refused r) = (6 ≤ r.number) × (r.number ≤ 11)

-- If the refusals in both results of a test are 6 to 11, so is that in the result picked.
cond_late : (b : Bool) (x y : Taken) → LateLine x → LateLine y → LateLine (cond b x y)
cond_late true x y h k = h
cond_late false x y h k = k

-- The refusals of each kind of line are 6 to 11.
add_node_late : (t : Table) (o : Option Node) → LateLine (add_node t o)
unfolding add_node
add_node_late t none = (omega arith, omega arith)
add_node_late t (some n) = cond_late (is_something n) _ (stop 9) tt (omega arith, omega arith)

add_clause_late : (t : Table) (o : Option Clause) → LateLine (add_clause t o)
unfolding add_clause
add_clause_late t none = (omega arith, omega arith)
add_clause_late t (some c) = cond_late (any_free variable_names 0 c) (stop 10) _ (omega arith, omega arith) tt

clause_at_late : (t : Table) (o : Option Node) → LateLine (clause_at t o)
unfolding clause_at
clause_at_late t none = (omega arith, omega arith)
clause_at_late t (some n) = add_clause_late t n.clause

last_goal_late : (o : Option Goal) → LateLine (last_goal o)
unfolding last_goal
last_goal_late none = (omega arith, omega arith)
last_goal_late (some g) = tt

goal_at_late : (o : Option Node) → LateLine (goal_at o)
unfolding goal_at
goal_at_late none = (omega arith, omega arith)
goal_at_late (some n) = last_goal_late n.goal

-- The refusals of any line are 6 to 11.
take_line_late : (t : Table) (o : Option SheetLine) → LateLine (take_line same_name t o)
unfolding take_line take_declaration take_node take_clause
take_line_late t none = (omega arith, omega arith)
take_line_late t (some (declare_line k n a)) =
    cond_late (not (ltb (length t.symbols) max_symbols)) (stop 7) _ (omega arith, omega arith)
    (cond_late (is_declared same_name n t.symbols) (stop 8) _ (omega arith, omega arith) tt)
take_line_late t (some (node_line l)) =
    cond_late (not (ltb (length t.nodes) max_nodes)) (stop 7) _ (omega arith, omega arith) (add_node_late t (node_of t.symbols t.nodes l))
take_line_late t (some (clause_line n)) =
    cond_late (not (ltb (length t.clauses) max_clauses)) (stop 7) _ (omega arith, omega arith) (clause_at_late t (get_elem? t.nodes n))
take_line_late t (some (goal_line n)) = goal_at_late (get_elem? t.nodes n)

-- The refusals at the end of the sheet are 6 to 11.
at_end_late : (r : List ℕ) (k : ℕ) → LateRead (at_end r k)
unfolding at_end
at_end_late [] k = (omega arith, omega arith)
at_end_late (c ∷ cs) k = (omega arith, omega arith)

after_goal_late : (ls : List (List ℕ)) (r : List ℕ) (k : ℕ) (s : Sheet) → LateRead (after_goal ls r k s)
unfolding after_goal
after_goal_late [] [] k s = tt
after_goal_late [] (c ∷ cs) k s = (omega arith, omega arith)
after_goal_late (l ∷ ls) r k s = (omega arith, omega arith)

-- The refusals of a sheet's lines are 6 to 11.
read_from_late : (o : Order) (ls : List (List ℕ)) (r : List ℕ) (k : ℕ) (t : Table) → LateRead (read_from sheet_form o ls r k t)
unfolding read_from sheet_form
read_from_late o [] r k t = at_end_late r k
read_from_late o (l ∷ ls) r k t =
    go (take_line same_name t (parse_line l)) (take_line_late t (parse_line l)) (λ u. read_from_late o ls r (suc k) u)
  where
    go : (x : Taken) → LateLine x → ((u : Table) → LateRead (read_from sheet_form o ls r (suc k) u))
        → LateRead (elim x [
          | next u ↦ read_from sheet_form o ls r (suc k) u
          | stop n ↦ refused (refusal n k)
          | last g ↦ after_goal ls r (suc k) (record { order = o; symbols = t.symbols; clauses = t.clauses; goal = g })
        ])
    go (next u) h ih = ih u
    go (stop n) h ih = h
    go (last g) h ih = after_goal_late ls r (suc k) (record { order = o; symbols = t.symbols; clauses = t.clauses; goal = g })

-- So they are whichever order the first line gives.
read_lines_late : (ls : List (List ℕ)) (r : List ℕ) → LateRead (read_lines sheet_form ls r)
unfolding read_lines
read_lines_late [] r = read_from_late oldest [] r 1 empty_table
read_lines_late (l ∷ ls) r = go (same_bytes l order_line)
  where
    go : (b : Bool) → LateRead (cond b (read_from sheet_form latest ls r 2 empty_table) (read_from sheet_form oldest (l ∷ ls) r 1 empty_table))
    go true = read_from_late latest ls r 2 empty_table
    go false = read_from_late oldest (l ∷ ls) r 1 empty_table

-- The refusal of a sheet that is not read.
refused_number : (bytes : List ℕ) (r : Refusal) → read_sheet bytes ≡ refused r → (6 ≤ r.number) × (r.number ≤ 11)
unfolding read_sheet read_sheet_by
refused_number bytes r e = subst LateRead e (read_lines_late (lines_of bytes).whole (lines_of bytes).rest)

pub refused_late : (bytes : List ℕ) (r : Refusal) → read_sheet bytes ≡ refused r → 6 ≤ r.number
refused_late bytes r e = (refused_number bytes r e).0

pub refused_few : (bytes : List ℕ) (r : Refusal) → read_sheet bytes ≡ refused r → r.number ≤ 11
refused_few bytes r e = (refused_number bytes r e).1
