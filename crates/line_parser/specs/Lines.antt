-- The answer of the line reader for what `parse_line` of `sheet_format` makes of a line, and the line back from the answer.
use Rattle.std.specs.Prelude.{ℕ, ◌≡◌, Bool, cond, List, [], ◌∷◌, eqb, leb, ltb, length, get_or, take, drop, Result, Ok, Err}
use Prim.Native.Char.{code}
use Rattle.std.proofs.Math.Option.{Option, none, some}
use Rattle.sheet_format.specs.Limits.{max_arity}
use Rattle.sheet_format.specs.SheetLines.{NodeLine as SheetNode, variable_line, number_line, apply_line, true_line, and_line, or_line}
use Rattle.sheet_format.specs.SheetLines.{implies_line, some_line, every_line, SheetLine, declare_line, node_line, clause_line, goal_line}
use Rattle.sheet_format.specs.SheetLines.{two_numbers, with_variable}
use Rattle.outcomes.specs.declared.refusals.Reason.{Reason}
use Rattle.outcomes.specs.declared.refusals.Reason.TheVariants.{Malformed}
use Rattle.line_parser.specs.declared.lines.Nodes.{Nodes}
use Rattle.line_parser.specs.declared.lines.NodeLine.{NodeLine}
use Rattle.line_parser.specs.declared.lines.NodeLine.TheVariants.{Variable, Numeral, Apply, True, And, Or, Implies, Exists, Forall}
use Rattle.line_parser.specs.declared.lines.Line.{Line}
use Rattle.line_parser.specs.declared.lines.Line.TheVariants.{Declare, Node, Clause, Goal}

-- The nodes of an application: how many, and the first four, 0 where there are fewer.
unfoldable pub nodes_of : List ℕ → Nodes
nodes_of ns = record { count = length ns; a = get_or ns 0 0; b = get_or ns 1 0; c = get_or ns 2 0; d = get_or ns 3 0 }

-- The answer for a line that makes a node.
unfoldable pub node_answer : SheetNode → NodeLine
node_answer (variable_line v) = Variable v
node_answer (number_line n) = Numeral n
node_answer (apply_line f ns) = Apply f (nodes_of ns)
node_answer true_line = True
node_answer (and_line n m) = And n m
node_answer (or_line n m) = Or n m
node_answer (implies_line n m) = Implies n m
node_answer (some_line v n) = Exists v n
node_answer (every_line v n) = Forall v n

-- "A line is malformed": refusal 6.
abbrev pub malformed : {A : Type 0} → Result A Reason
malformed = Err Malformed

-- The answer for a line. Of a declared name it has the length: the name starts at offset 2 of the line.
unfoldable pub line_answer : Option SheetLine → Result Line Reason
line_answer none = malformed
line_answer (some (declare_line k n a)) = Ok (Declare k (length n) a)
line_answer (some (node_line l)) = Ok (Node (node_answer l))
line_answer (some (clause_line n)) = Ok (Clause n)
line_answer (some (goal_line n)) = Ok (Goal n)

-- Back

-- The nodes as a list.
unfoldable pub node_list : Nodes → List ℕ
node_list ns = take ns.count (ns.a ∷ ns.b ∷ ns.c ∷ ns.d ∷ [])

-- The node line that an answer stands for.
unfoldable pub node_back : NodeLine → SheetNode
node_back (Variable v) = variable_line v
node_back (Numeral n) = number_line n
node_back (Apply f ns) = apply_line f (node_list ns)
node_back True = true_line
node_back (And n m) = and_line n m
node_back (Or n m) = or_line n m
node_back (Implies n m) = implies_line n m
node_back (Exists v n) = some_line v n
node_back (Forall v n) = every_line v n

-- The line that an answer stands for, with the name taken from the line's bytes s (law `line-back`).
unfoldable pub line_back : List ℕ → Result Line Reason → Option SheetLine
line_back s (Ok (Declare k n a)) = some (declare_line k (take n (drop 2 s)) a)
line_back s (Ok (Node l)) = some (node_line (node_back l))
line_back s (Ok (Clause n)) = some (clause_line n)
line_back s (Ok (Goal n)) = some (goal_line n)
line_back s (Err reason) = none

-- Steps of the reader

-- One number.
unfoldable pub one_answer : Option (List ℕ) → Result ℕ Reason
one_answer none = malformed
one_answer (some []) = malformed
one_answer (some (n ∷ [])) = Ok n
one_answer (some (n ∷ m ∷ ns)) = malformed

-- Two numbers.
unfoldable pub two_answer : Option (List ℕ) → Result (ℕ × ℕ) Reason
two_answer none = malformed
two_answer (some []) = malformed
two_answer (some (n ∷ [])) = malformed
two_answer (some (n ∷ m ∷ [])) = Ok (n, m)
two_answer (some (n ∷ m ∷ o ∷ ns)) = malformed

-- What makes a line of a number, as `make` says of a number and a line, makes the answer for the line l of that number.
abbrev pub Makes : (ℕ → SheetLine) → (ℕ → Line → Type 0) → Type 0
Makes l make = (n : ℕ) (line : Line) → make n line → Ok line ≡ line_answer (some (l n))

-- The declaration with a name of n bytes and that number as its arity.
unfoldable pub arity_answer : Bool → ℕ → Result ℕ Reason → Result Line Reason
arity_answer k n (Ok a) = cond (leb a max_arity) (Ok (Declare k n a)) malformed
arity_answer k n (Err reason) = malformed

-- One node more; a fifth is not asked for.
unfoldable pub push_node : Nodes → ℕ → Nodes
push_node ns n =
    cond (eqb ns.count 0) (record { count = 1; a = n; b = ns.b; c = ns.c; d = ns.d })
    (cond (eqb ns.count 1) (record { count = 2; a = ns.a; b = n; c = ns.c; d = ns.d })
    (cond (eqb ns.count 2) (record { count = 3; a = ns.a; b = ns.b; c = n; d = ns.d })
    (record { count = 4; a = ns.a; b = ns.b; c = ns.c; d = n })))

-- The application of f to the nodes read so far and the further ones.
unfoldable pub apply_on : ℕ → Nodes → List ℕ → Result Line Reason
apply_on f ns [] = Ok (Node (Apply f ns))
apply_on f ns (m ∷ ms) = cond (ltb ns.count max_arity) (apply_on f (push_node ns m) ms) malformed

-- The same, where the further fields may be no numbers.
unfoldable pub apply_answer : ℕ → Nodes → Option (List ℕ) → Result Line Reason
apply_answer f ns none = malformed
apply_answer f ns (some ms) = apply_on f ns ms

-- The lines with two nodes, by their letter.
unfoldable pub connective_of : ℕ → Option (List ℕ) → Option SheetLine
connective_of c ns =
    cond (eqb c (code "&")) (two_numbers (λ n m. node_line (and_line n m)) ns)
    (cond (eqb c (code "|")) (two_numbers (λ n m. node_line (or_line n m)) ns)
    (cond (eqb c (code ">")) (two_numbers (λ n m. node_line (implies_line n m)) ns) none))

-- The lines with a variable and a node, by their letter.
unfoldable pub quantifier_of : ℕ → Option (List ℕ) → Option SheetLine
quantifier_of c ns =
    cond (eqb c (code "E")) (two_numbers (λ v n. node_line (some_line v n)) (with_variable ns))
    (cond (eqb c (code "U")) (two_numbers (λ v n. node_line (every_line v n)) (with_variable ns)) none)
