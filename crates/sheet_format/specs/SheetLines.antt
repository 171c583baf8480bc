-- Document 01, the table of "The sheet", and refusal 6: "A line is malformed: letter, field count, number, name, arity, variable".
use Rattle.std.specs.Prelude.{ℕ, Bool, true, false, ◌&&◌, cond, List, [], ◌∷◌, eqb, leb, ltb, length}
use Prim.Native.Char.{code}
use Rattle.std.proofs.Math.Option.{Option, none, some}
use Rattle.sheet_format.specs.Limits.{max_arity, variable_names}
use Rattle.sheet_format.specs.Bytes.{fields, number, is_name}

-- A line that makes a node; `number_line` is that of request W-204: "A node line `N n` is a term, n from 0 to 65,535".
pub data NodeLine : Type 0 where
  variable_line number_line : ℕ → NodeLine
  apply_line : ℕ → List ℕ → NodeLine
  true_line : NodeLine
  and_line or_line implies_line : ℕ → ℕ → NodeLine
  some_line every_line : ℕ → ℕ → NodeLine

-- F or P (is it a function symbol?), name, arity; a node; C; Q.
pub data SheetLine : Type 0 where
  declare_line : Bool → List ℕ → ℕ → SheetLine
  node_line : NodeLine → SheetLine
  clause_line : ℕ → SheetLine
  goal_line : ℕ → SheetLine

-- Fields that are numbers.
unfoldable pub cons_number : Option ℕ → Option (List ℕ) → Option (List ℕ)
cons_number none ns = none
cons_number (some n) none = none
cons_number (some n) (some ns) = some (n ∷ ns)

unfoldable pub numbers : List (List ℕ) → Option (List ℕ)
numbers [] = some []
numbers (f ∷ fs) = cons_number (number f) (numbers fs)

-- "F name arity"
unfoldable pub declared : Bool → List ℕ → Option ℕ → Option SheetLine
declared k n none = none
declared k n (some a) = cond (is_name n && leb a max_arity) (some (declare_line k n a)) none

unfoldable pub declaration : Bool → List (List ℕ) → Option SheetLine
declaration k [] = none
declaration k (n ∷ []) = none
declaration k (n ∷ a ∷ []) = declared k n (number a)
declaration k (n ∷ a ∷ b ∷ fs) = none

-- No number, one, two.
unfoldable pub no_number : SheetLine → Option (List ℕ) → Option SheetLine
no_number l none = none
no_number l (some []) = some l
no_number l (some (n ∷ ns)) = none

unfoldable pub one_number : (ℕ → SheetLine) → Option (List ℕ) → Option SheetLine
one_number l none = none
one_number l (some []) = none
one_number l (some (n ∷ [])) = some (l n)
one_number l (some (n ∷ m ∷ ns)) = none

unfoldable pub two_numbers : (ℕ → ℕ → SheetLine) → Option (List ℕ) → Option SheetLine
two_numbers l none = none
two_numbers l (some []) = none
two_numbers l (some (n ∷ [])) = none
two_numbers l (some (n ∷ m ∷ [])) = some (l n m)
two_numbers l (some (n ∷ m ∷ o ∷ ns)) = none

-- The first number is a variable, 0 to 7.
unfoldable pub with_variable : Option (List ℕ) → Option (List ℕ)
with_variable none = none
with_variable (some []) = none
with_variable (some (v ∷ ns)) = cond (ltb v variable_names) (some (v ∷ ns)) none

-- "A symbol node...": a symbol and at most four nodes; "five nodes is refusal 6".
unfoldable pub application : Option (List ℕ) → Option SheetLine
application none = none
application (some []) = none
application (some (f ∷ ns)) = cond (leb (length ns) max_arity) (some (node_line (apply_line f ns))) none

-- The line with the letter c and the fields after it.
unfoldable pub line_of : ℕ → List (List ℕ) → Option SheetLine
line_of c fs =
    cond (eqb c (code "F")) (declaration true fs)
    (cond (eqb c (code "P")) (declaration false fs)
    (cond (eqb c (code "V")) (one_number (λ v. node_line (variable_line v)) (with_variable (numbers fs)))
    (cond (eqb c (code "N")) (one_number (λ n. node_line (number_line n)) (numbers fs))
    (cond (eqb c (code "A")) (application (numbers fs))
    (cond (eqb c (code "Y")) (no_number (node_line true_line) (numbers fs))
    (cond (eqb c (code "&")) (two_numbers (λ n m. node_line (and_line n m)) (numbers fs))
    (cond (eqb c (code "|")) (two_numbers (λ n m. node_line (or_line n m)) (numbers fs))
    (cond (eqb c (code ">")) (two_numbers (λ n m. node_line (implies_line n m)) (numbers fs))
    (cond (eqb c (code "E")) (two_numbers (λ v n. node_line (some_line v n)) (with_variable (numbers fs)))
    (cond (eqb c (code "U")) (two_numbers (λ v n. node_line (every_line v n)) (with_variable (numbers fs)))
    (cond (eqb c (code "C")) (one_number clause_line (numbers fs))
    (cond (eqb c (code "Q")) (one_number goal_line (numbers fs)) none))))))))))))

-- The letter is a field of one byte.
unfoldable pub of_fields : List (List ℕ) → Option SheetLine
of_fields [] = none
of_fields ([] ∷ fs) = none
of_fields ((c ∷ []) ∷ fs) = line_of c fs
of_fields ((c ∷ d ∷ ds) ∷ fs) = none

unfoldable pub parse_line : List ℕ → Option SheetLine
parse_line bytes = of_fields (fields bytes)
