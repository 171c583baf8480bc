-- What `read_sheet` promises, in the definitions of `sheet_format` and `node_table`; then the code's functions on lists.
use Rattle.std.specs.Prelude.{ℕ, zero, suc, ◌+◌, ◌-◌, ◌≤◌, ◌<◌, ◌≡◌, cond, List, [], ◌∷◌, ltb, eqb, length, take, drop, Result, Ok, Err}
use Rattle.std.proofs.Math.Option.{Option, none, some}
use Rattle.outcomes.specs.declared.Refusal.{Refusal}
use Rattle.outcomes.specs.declared.refusals.Reason.{Reason}
use Rattle.outcomes.specs.declared.refusals.Reason.TheVariants.{NoGoal}
use Rattle.outcomes.specs.Refusals.{refused_for}
use Rattle.sheet_format.specs.Limits.{max_number, max_arity, variable_names, table_numbers}
use Rattle.sheet_format.specs.Bytes.{lf, lines_of}
use Rattle.sheet_format.specs.SheetLines.{SheetLine, declare_line, node_line, clause_line, goal_line, parse_line}
use Rattle.sheet_format.specs.Sheets.{refusal, sheet, refused, read_sheet}
use Rattle.sheet_format.specs.Sheets.{Read as SheetRead}
use Rattle.line_parser.specs.declared.lines.NodeLine.{NodeLine}
use Rattle.line_parser.specs.declared.lines.NodeLine.TheVariants.{Variable, Numeral, Apply, True, And, Or, Implies, Exists, Forall}
use Rattle.line_parser.specs.declared.lines.Line.{Line}
use Rattle.line_parser.specs.declared.lines.Line.TheVariants.{Declare, Node, Clause, Goal}
use Rattle.line_parser.specs.Fields.{first_name}
use Rattle.line_parser.specs.Lines.{line_answer}
use Rattle.node_table.specs.Decoding.{decode_sheet}
use Rattle.node_table.specs.Fingerprints.{NamesStand}
use Rattle.node_table.specs.WellMade.{WellMade, Named}
use Rattle.table_builder.specs.declared.node_info.Counts.{Counts}
use Rattle.table_builder.specs.Nodes.{Made, made, insert_variable, insert_numeral, insert_true, insert_and, insert_or, insert_implies}
use Rattle.table_builder.specs.Nodes.{insert_exists, insert_forall, insert_clause, check_goal}
use Rattle.table_builder.specs.Symbols.{insert_application, insert_declaration}
use Rattle.sheet_reader.specs.declared.sheet_lines.Taken.{Taken}
use Rattle.sheet_reader.specs.declared.sheet_lines.Taken.TheVariants.{Next, Last}

-- The contract

-- How many symbols, nodes and clauses there are, and the goal's node; or the refusal.
abbrev pub Read : Type 0
Read = Result (Counts × ℕ) Refusal

-- The answer and the table as document 01's answer: the sheet that the table stands for, or the refusal with its number and line.
unfoldable pub read_of : List ℕ → List ℕ → Read → SheetRead
read_of bytes t (Ok (k, goal)) = sheet (decode_sheet bytes t k.symbols k.clauses goal)
read_of bytes t (Err f) = refused (refusal f.number f.line)

-- A table that stands for a sheet is well made.
unfoldable pub WellRead : List ℕ → Read → Type 0
WellRead t (Ok (k, goal)) = WellMade t k.nodes k.clauses goal
WellRead t (Err f) = Unit {0}

-- Its applications name symbols that are declared, or are numbers.
unfoldable pub NamedRead : List ℕ → Read → Type 0
NamedRead t (Ok (k, goal)) = Named t k.nodes k.symbols
NamedRead t (Err f) = Unit {0}

-- It has the names of its symbols, with their words.
unfoldable pub NamesRead : List ℕ → List ℕ → Read → Type 0
NamesRead bytes t (Ok (k, goal)) = NamesStand bytes t k.symbols
NamesRead bytes t (Err f) = Unit {0}

-- How many nodes a line makes, and the lines together.
unfoldable pub nodes_in : Option SheetLine → ℕ
nodes_in none = 0
nodes_in (some (declare_line function name arity)) = 0
nodes_in (some (node_line l)) = 1
nodes_in (some (clause_line n)) = 0
nodes_in (some (goal_line n)) = 0

unfoldable pub node_count : List (List ℕ) → ℕ
node_count [] = 0
node_count (l ∷ ls) = nodes_in (parse_line l) + node_count ls

-- The node that the line names as the goal, if it is a Q line; of the lines, that of the first Q line.
unfoldable pub goal_or : Option SheetLine → ℕ → ℕ
goal_or none m = m
goal_or (some (declare_line function name arity)) m = m
goal_or (some (node_line l)) m = m
goal_or (some (clause_line n)) m = m
goal_or (some (goal_line n)) m = n

unfoldable pub goal_named : List (List ℕ) → ℕ
goal_named [] = 0
goal_named (l ∷ ls) = goal_or (parse_line l) (goal_named ls)

-- The nodes are those of the sheet's lines; symbols and clauses are counted by the sheet that the table stands for.
unfoldable pub Counted : List ℕ → Read → Type 0
Counted bytes (Ok (k, goal)) = (k.nodes ≡ node_count (lines_of bytes).whole) × (goal ≡ goal_named (lines_of bytes).whole)
Counted bytes (Err f) = Unit {0}

-- From bytes and table t: table t' and answer r. From 8,192 on the table stays as it was.
pub record ReadContract (bytes t t' : List ℕ) (r : Read) : Type 0 where
  pub read : read_sheet bytes ≡ read_of bytes t' r
  pub well_made : WellRead t' r
  pub counted : Counted bytes r
  pub long : length t' ≡ length t
  pub rest : drop table_numbers t' ≡ drop table_numbers t
  pub named : NamedRead t' r
  pub names : NamesRead bytes t' r

-- Lines

-- How many bytes stand before the first LF.
unfoldable pub line_length : List ℕ → ℕ
line_length [] = zero
line_length (c ∷ cs) = cond (eqb c lf) zero (suc (line_length cs))

-- Where the line from `at` on ends.
unfoldable pub line_end : List ℕ → ℕ → ℕ
line_end s at = at + line_length (drop at s)

-- A line that makes a node: its variable is one, its number at most 65,535, an application has at most four nodes.
unfoldable pub FormedNode : NodeLine → Type 0
FormedNode (Variable v) = v < variable_names
FormedNode (Numeral n) = n ≤ max_number
FormedNode (Apply f ns) = ns.count ≤ max_arity
FormedNode True = Unit {0}
FormedNode (And n m) = Unit {0}
FormedNode (Or n m) = Unit {0}
FormedNode (Implies n m) = Unit {0}
FormedNode (Exists v n) = v < variable_names
FormedNode (Forall v n) = v < variable_names

unfoldable pub take_node : List ℕ → Counts → NodeLine → Made Counts
take_node t k (Variable v) = insert_variable t k v
take_node t k (Numeral n) = insert_numeral t k n
take_node t k (Apply f ns) = insert_application t k f ns.count ns.a ns.b ns.c ns.d
take_node t k True = insert_true t k
take_node t k (And n m) = insert_and t k n m
take_node t k (Or n m) = insert_or t k n m
take_node t k (Implies n m) = insert_implies t k n m
take_node t k (Exists v n) = insert_exists t k v n
take_node t k (Forall v n) = insert_forall t k v n

-- A declaration from `at` up to `end` with a name of n bytes: the rest after the letter and its tab lies within the sheet, and its first
-- name is the n bytes there.
pub record FormedDeclaration (s : List ℕ) (at end n a : ℕ) : Type 0 where
  pub rest : at + 2 ≤ end
  pub within : end ≤ length s
  pub name : first_name (take (end - (at + 2)) (drop (at + 2) s)) ≡ take n (drop (at + 2) s)
  pub name_within : at + 2 + n ≤ length s
  pub arity : a ≤ max_arity

-- The line from `at` up to `end`.
unfoldable pub FormedLine : List ℕ → ℕ → ℕ → Line → Type 0
FormedLine s at end (Declare function n arity) = FormedDeclaration s at end n arity
FormedLine s at end (Node l) = FormedNode l
FormedLine s at end (Clause n) = Unit {0}
FormedLine s at end (Goal n) = Unit {0}

-- What a line comes to where it is not refused.
unfoldable pub taken_as : {A : Type 0} → (A → Taken) → Result A Reason → Result Taken Reason
taken_as f (Ok a) = Ok (f a)
taken_as f (Err reason) = Err reason

abbrev pub goes_on : Made Counts → Made Taken
goes_on m = made m.table (taken_as Next m.answer)

unfoldable pub take_line : List ℕ → List ℕ → Counts → ℕ → Line → Made Taken
take_line s t k at (Declare function n arity) = goes_on (insert_declaration s t k function (at + 2) n arity)
take_line s t k at (Node l) = goes_on (take_node t k l)
take_line s t k at (Clause n) = goes_on (insert_clause t k n)
take_line s t k at (Goal n) = made t (taken_as Last (check_goal t k n))

-- The same, or the reason for which the line reader refuses the line.
unfoldable pub take_answer : List ℕ → List ℕ → Counts → ℕ → Result Line Reason → Made Taken
take_answer s t k at (Ok l) = take_line s t k at l
take_answer s t k at (Err reason) = made t (Err reason)

-- The line from `at` up to `end`.
unfoldable pub line_taken : List ℕ → List ℕ → Counts → ℕ → ℕ → Made Taken
line_taken s t k at end = take_answer s t k at (line_answer (parse_line (take (end - at) (drop at s))))

-- After the Q line.
unfoldable pub finished : List ℕ → Counts → ℕ → ℕ → ℕ → Read
finished s k goal at line = cond (ltb at (length s)) (Err (refused_for NoGoal line)) (Ok (k, goal))
