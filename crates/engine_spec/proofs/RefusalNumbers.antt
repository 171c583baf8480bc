-- The numbers of refusals: a sheet's lines are refused with 11 at most.
use Prim.Native.Nat.{ℕ, suc, ◌≤◌}
use mathlib.Core.Bool.{Bool, true, false, cond, not}
use mathlib.Core.List.{List, [], ◌∷◌}
use mathlib.Core.Option.{Option, none, some}
use native.Mathlib.Omega.{arith}
use lib.Dec.{ltb}
use lib.ListN.{length, get_elem?}
use Rattle.formulas.specs.Formulas.{Goal, Clause}
use Rattle.formulas.specs.Rules.{Order, oldest, latest}
use Rattle.sheet_format.specs.Limits.{variable_names, max_symbols, max_nodes, max_clauses}
use Rattle.sheet_format.specs.Bytes.{lines_of, same_bytes}
use Rattle.sheet_format.specs.SheetLines.{SheetLine, declare_line, node_line, clause_line, goal_line}
use Rattle.sheet_format.specs.Nodes.{Declaration, Node, node_of, is_something}
use Rattle.sheet_format.specs.Sheets.{Sheet, Read, sheet, refused, Table, Taken, next, stop, last, Form, is_declared, any_free}
use Rattle.sheet_format.specs.Sheets.{take_declaration, add_node, take_node, add_clause, clause_at, take_clause, last_goal, goal_at, take_line}
use Rattle.sheet_format.specs.Sheets.{at_end, after_goal, read_from, empty_table, order_line, read_lines, read_sheet_by, sheet_form, read_sheet}

unfoldable TakenLow : Taken → Type 0
TakenLow (next t) = Unit {0}
TakenLow (stop n) = n ≤ 11
TakenLow (last g) = Unit {0}

unfoldable pub ReadLow : Read → Type 0
ReadLow (sheet s) = Unit {0}
ReadLow (refused r) = r.number ≤ 11

either_low : (b : Bool) (x y : Taken) → TakenLow x → TakenLow y → TakenLow (cond b x y)
either_low true x y h k = h
either_low false x y h k = k

declaration_low : (same : List ℕ → List ℕ → Bool) (t : Table) (d : Declaration) → TakenLow (take_declaration same t d)
unfolding take_declaration TakenLow
declaration_low same t d =
    either_low (not (ltb (length t.symbols) max_symbols)) _ _ (omega arith)
    (either_low (is_declared same d.name t.symbols) _ _ (omega arith) tt)

node_low : (t : Table) (n : Option Node) → TakenLow (add_node t n)
unfolding add_node TakenLow
node_low t none = omega arith
node_low t (some n) = either_low (is_something n) _ _ tt (omega arith)

clause_low : (t : Table) (c : Option Clause) → TakenLow (add_clause t c)
unfolding add_clause TakenLow
clause_low t none = omega arith
clause_low t (some c) = either_low (any_free variable_names 0 c) _ _ (omega arith) tt

clause_at_low : (t : Table) (n : Option Node) → TakenLow (clause_at t n)
unfolding clause_at TakenLow
clause_at_low t none = omega arith
clause_at_low t (some n) = clause_low t n.clause

goal_low : (g : Option Goal) → TakenLow (last_goal g)
unfolding last_goal TakenLow
goal_low none = omega arith
goal_low (some g) = tt

goal_at_low : (n : Option Node) → TakenLow (goal_at n)
unfolding goal_at TakenLow
goal_at_low none = omega arith
goal_at_low (some n) = goal_low n.goal

line_low : (same : List ℕ → List ℕ → Bool) (t : Table) (l : Option SheetLine) → TakenLow (take_line same t l)
unfolding take_line take_node take_clause TakenLow
line_low same t none = omega arith
line_low same t (some (declare_line k n a)) = declaration_low same t (record { function = k; name = n; arity = a })
line_low same t (some (node_line l)) =
    either_low (not (ltb (length t.nodes) max_nodes)) _ _ (omega arith) (node_low t (node_of t.symbols t.nodes l))
line_low same t (some (clause_line n)) =
    either_low (not (ltb (length t.clauses) max_clauses)) _ _ (omega arith) (clause_at_low t (get_elem? t.nodes n))
line_low same t (some (goal_line n)) = goal_at_low (get_elem? t.nodes n)

end_low : (r : List ℕ) (k : ℕ) → ReadLow (at_end r k)
unfolding at_end ReadLow
end_low [] k = omega arith
end_low (c ∷ r) k = omega arith

after_goal_low : (ls : List (List ℕ)) (r : List ℕ) (k : ℕ) (s : Sheet) → ReadLow (after_goal ls r k s)
unfolding after_goal ReadLow
after_goal_low [] [] k s = tt
after_goal_low [] (c ∷ r) k s = omega arith
after_goal_low (l ∷ ls) r k s = omega arith

read_from_low : (f : Form) (o : Order) (ls : List (List ℕ)) (r : List ℕ) (k : ℕ) (t : Table) → ReadLow (read_from f o ls r k t)
unfolding read_from ReadLow TakenLow
read_from_low f o [] r k t = end_low r k
read_from_low f o (l ∷ ls) r k t =
    go (take_line f.same t (f.line l)) (line_low f.same t (f.line l)) (λ u. read_from_low f o ls r (suc k) u)
  where
    go : (x : Taken) → TakenLow x → ((u : Table) → ReadLow (read_from f o ls r (suc k) u)) → ReadLow (elim x [
      | next u ↦ read_from f o ls r (suc k) u
      | stop n ↦ refused (record { number = n; line = k })
      | last g ↦ after_goal ls r (suc k) (record { order = o; symbols = t.symbols; clauses = t.clauses; goal = g })
    ])
    go (next u) h ih = ih u
    go (stop n) h ih = h
    go (last g) h ih = after_goal_low ls r (suc k) (record { order = o; symbols = t.symbols; clauses = t.clauses; goal = g })

-- So it is of every string of bytes.
pub read_low : (bytes : List ℕ) → ReadLow (read_sheet bytes)
unfolding read_sheet read_sheet_by
read_low bytes = lines (lines_of bytes).whole (lines_of bytes).rest
  where
    either : (b : Bool) (x y : Read) → ReadLow x → ReadLow y → ReadLow (cond b x y)
    either true x y h k = h
    either false x y h k = k

    lines : (ls : List (List ℕ)) (r : List ℕ) → ReadLow (read_lines sheet_form ls r)
    lines [] r = unfold read_lines in read_from_low sheet_form oldest [] r 1 empty_table
    lines (l ∷ ls) r = unfold read_lines in
        either (same_bytes l order_line) _ _ (read_from_low sheet_form latest ls r 2 empty_table)
        (read_from_low sheet_form oldest (l ∷ ls) r 1 empty_table)
