-- Document 01, "Turned back", refusals 6 to 11: "6 to 10 are tried line by line; 11 gives the line where Q is missing or where the
-- surplus starts." The sheet that the bytes are, or the refusal with its line, for every string of bytes.
use Rattle.std.specs.Prelude.{ℕ, zero, suc, Bool, true, false, not, ◌||◌, cond, List, [], ◌∷◌, ◌++◌, ltb, length}
use Rattle.std.proofs.Math.Option.{Option, none, some}
use Rattle.std.proofs.Math.ListN.{get_elem?}
use Rattle.formulas.specs.Formulas.{Goal, Clause, free_c}
use Rattle.formulas.specs.Rules.{Order, oldest, latest, Rules, rules}
use Rattle.sheet_format.specs.Limits.{variable_names, max_symbols, max_nodes, max_clauses}
use Rattle.sheet_format.specs.Bytes.{ascii, lines_of, same_bytes, same_name}
use Rattle.sheet_format.specs.SheetLines.{NodeLine, SheetLine, declare_line, node_line, clause_line, goal_line, parse_line}
use Rattle.sheet_format.specs.Nodes.{Declaration, Node, node_of, is_something}

-- What the engine and the checker work on. The order in which clauses are tried is that of request W-207.
pub record Sheet : Type 0 where
  pub order : Order
  pub symbols : List Declaration
  pub clauses : List Clause
  pub goal : Goal

-- The sheet's clauses with the order in force.
abbrev pub rules_of : Sheet → Rules Clause
rules_of s = rules s.order s.clauses

-- A refusal: document 01's number, and the line.
pub record Refusal : Type 0 where
  pub number : ℕ
  pub line : ℕ

abbrev pub refusal : ℕ → ℕ → Refusal
refusal n l = record { number = n; line = l }

-- Refusals 1 to 5: turned back with this number and line 0, if the test says so, and otherwise r. A refusal becomes a result by f.
unfoldable pub turn_back_if : {A : Type 0} → (Refusal → A) → Bool → ℕ → A → A
turn_back_if f true n r = f (refusal n 0)
turn_back_if f false n r = r

pub data Read : Type 0 where
  sheet : Sheet → Read
  refused : Refusal → Read

-- What the lines so far have made, in order.
pub record Table : Type 0 where
  pub symbols : List Declaration
  pub nodes : List Node
  pub clauses : List Clause

-- A line is taken, refused with a number, or the Q line.
pub data Taken : Type 0 where
  next : Table → Taken
  stop : ℕ → Taken
  last : Goal → Taken

-- The form of sheets: what a line says, and which names are equal. The reader has it as a parameter, so that a request that changes the
-- form can say of which sheets it changes nothing.
pub record Form : Type 0 where
  pub line : List ℕ → Option SheetLine
  pub same : List ℕ → List ℕ → Bool

unfoldable pub is_declared : (List ℕ → List ℕ → Bool) → List ℕ → List Declaration → Bool
is_declared same n [] = false
is_declared same n (d ∷ ds) = same n d.name || is_declared same n ds

-- A declaration is refused with 7 or 8, tried in this order.
unfoldable pub take_declaration : (List ℕ → List ℕ → Bool) → Table → Declaration → Taken
take_declaration same t d =
    cond (not (ltb (length t.symbols) max_symbols)) (stop 7)
    (cond (is_declared same d.name t.symbols) (stop 8)
    (next (record { symbols = t.symbols ++ (d ∷ []); nodes = t.nodes; clauses = t.clauses })))

-- A node line is refused with 7 (in `take_node`), 8 or 9, tried in this order.
unfoldable pub add_node : Table → Option Node → Taken
add_node t none = stop 8
add_node t (some n) =
    cond (is_something n) (next (record { symbols = t.symbols; nodes = t.nodes ++ (n ∷ []); clauses = t.clauses })) (stop 9)

unfoldable pub take_node : Table → NodeLine → Taken
take_node t l = cond (not (ltb (length t.nodes) max_nodes)) (stop 7) (add_node t (node_of t.symbols t.nodes l))

-- "clauses on C lines have none": the test is that some of the n names from v on stands free.
unfoldable pub any_free : ℕ → ℕ → Clause → Bool
any_free zero v c = false
any_free (suc n) v c = free_c c v || any_free n (suc v) c

-- A C line is refused with 7 (in `take_clause`), 8 (in `clause_at`), 9 or 10, tried in this order.
unfoldable pub add_clause : Table → Option Clause → Taken
add_clause t none = stop 9
add_clause t (some c) =
    cond (any_free variable_names 0 c) (stop 10) (next (record { symbols = t.symbols; nodes = t.nodes; clauses = t.clauses ++ (c ∷ []) }))

unfoldable pub clause_at : Table → Option Node → Taken
clause_at t none = stop 8
clause_at t (some n) = add_clause t n.clause

unfoldable pub take_clause : Table → ℕ → Taken
take_clause t n = cond (not (ltb (length t.clauses) max_clauses)) (stop 7) (clause_at t (get_elem? t.nodes n))

-- A Q line is refused with 8 (in `goal_at`) or 9, tried in this order.
unfoldable pub last_goal : Option Goal → Taken
last_goal none = stop 9
last_goal (some g) = last g

unfoldable pub goal_at : Option Node → Taken
goal_at none = stop 8
goal_at (some n) = last_goal n.goal

-- A malformed line is refused with 6, before all other tests.
unfoldable pub take_line : (List ℕ → List ℕ → Bool) → Table → Option SheetLine → Taken
take_line same t none = stop 6
take_line same t (some (declare_line k n a)) = take_declaration same t (record { function = k; name = n; arity = a })
take_line same t (some (node_line l)) = take_node t l
take_line same t (some (clause_line n)) = take_clause t n
take_line same t (some (goal_line n)) = goal_at (get_elem? t.nodes n)

-- Bytes after the last LF: a line without LF is malformed. None: the Q line is missing.
unfoldable pub at_end : List ℕ → ℕ → Read
at_end [] k = refused (refusal 11 k)
at_end (c ∷ cs) k = refused (refusal 6 k)

-- After the Q line, which "is the last line".
unfoldable pub after_goal : List (List ℕ) → List ℕ → ℕ → Sheet → Read
after_goal [] [] k s = sheet s
after_goal [] (c ∷ cs) k s = refused (refusal 11 k)
after_goal (l ∷ ls) r k s = refused (refusal 11 k)

-- The order, the lines, the bytes after the last LF, the number of the next line, what there is so far. No line is an O line here. Request
-- W-207: "An O line elsewhere, or with another word, is refused under 6, after a Q line under 11."
unfoldable pub read_from : Form → Order → List (List ℕ) → List ℕ → ℕ → Table → Read
read_from f o [] r k t = at_end r k
read_from f o (l ∷ ls) r k t = elim (take_line f.same t (f.line l)) [
  | next u ↦ read_from f o ls r (suc k) u
  | stop n ↦ refused (refusal n k)
  | last g ↦ after_goal ls r (suc k) (record { order = o; symbols = t.symbols; clauses = t.clauses; goal = g })
]

-- What there is before the first line.
abbrev pub empty_table : Table
empty_table = record { symbols = []; nodes = []; clauses = [] }

-- Request W-207: "A sheet that relied on the former order says so with a first line `O latest`." The line without its LF.
abbrev pub order_line : List ℕ
order_line = ascii "O\tlatest"

-- The first line decides on the order; it counts as a line.
unfoldable pub read_lines : Form → List (List ℕ) → List ℕ → Read
read_lines f [] r = read_from f oldest [] r 1 empty_table
read_lines f (l ∷ ls) r = cond (same_bytes l order_line) (read_from f latest ls r 2 empty_table) (read_from f oldest (l ∷ ls) r 1 empty_table)

unfoldable pub read_sheet_by : Form → List ℕ → Read
read_sheet_by f bytes = let l = lines_of bytes in read_lines f l.whole l.rest

-- The form in force.
unfoldable pub sheet_form : Form
sheet_form = record { line = parse_line; same = same_name }

unfoldable pub read_sheet : List ℕ → Read
read_sheet bytes = read_sheet_by sheet_form bytes
