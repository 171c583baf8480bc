-- What holds of every line that `parse_line` gives: names are names, arities at most 4, names of variables below 8.
use Prim.Native.Nat.{ℕ, ◌≤◌, ◌<◌}
use Prim.Native.Char.{code}
use mathlib.Core.Path.{◌≡◌}
use mathlib.Core.Bool.{Bool, true, false, ◌&&◌, cond}
use mathlib.Core.List.{List, [], ◌∷◌}
use mathlib.Core.Option.{Option, none, some}
use lib.Dec.{eqb, leb, ltb}
use lib.ListN.{length}
use borrow.Author.Tests.{leb-true, ltb-true}
use Rattle.terms.specs.Lists.{All}
use Rattle.formulas.proofs.Free.{and_parts}
use Rattle.sheet_format.specs.Limits.{max_number, max_arity, variable_names}
use Rattle.sheet_format.specs.Bytes.{decimal, is_name, fields, number}
use Rattle.sheet_format.specs.SheetLines.{number_line, cons_number, NodeLine, variable_line, apply_line, true_line, and_line, or_line, implies_line, some_line}
use Rattle.sheet_format.specs.SheetLines.{every_line, SheetLine, declare_line, node_line, clause_line, goal_line, numbers, declared}
use Rattle.sheet_format.specs.SheetLines.{declaration, no_number, one_number, two_numbers, with_variable, application, line_of, of_fields}
use Rattle.sheet_format.specs.SheetLines.{parse_line}
use Rattle.sheet_format.proofs.Options.{some_weaken, OnSome, any_some, cond_some}
use Rattle.sheet_format.proofs.Numbers.{number_some}

-- A node line names a variable that there is, or a number up to 65,535.
abbrev pub FormedNodeLine : NodeLine → Type 0
FormedNodeLine (variable_line v) = v < variable_names
FormedNodeLine (number_line n) = n ≤ max_number
FormedNodeLine (apply_line f ns) = Unit {0}
FormedNodeLine true_line = Unit {0}
FormedNodeLine (and_line n m) = Unit {0}
FormedNodeLine (or_line n m) = Unit {0}
FormedNodeLine (implies_line n m) = Unit {0}
FormedNodeLine (some_line v n) = v < variable_names
FormedNodeLine (every_line v n) = v < variable_names

-- A declaration has a name and an arity that there is.
abbrev pub FormedLine : SheetLine → Type 0
FormedLine (declare_line k n a) = (is_name n ≡ true) × (a ≤ max_arity)
FormedLine (node_line l) = FormedNodeLine l
FormedLine (clause_line n) = Unit {0}
FormedLine (goal_line n) = Unit {0}

-- declarations

-- The line made of a name and an arity is well-formed.
declared_some : (k : Bool) (n : List ℕ) (o : Option ℕ) → OnSome FormedLine (declared k n o)
unfolding declared
declared_some k n none = tt
declared_some k n (some a) =
    cond_some FormedLine (is_name n && leb a max_arity) (some (declare_line k n a)) none
    (λ e. let p = and_parts (is_name n) (leb a max_arity) e in (p.0, leb-true a max_arity p.1)) (λ e. tt)

-- The line made of the two fields of a declaration is well-formed.
declaration_some : (k : Bool) (fs : List (List ℕ)) → OnSome FormedLine (declaration k fs)
unfolding declaration
declaration_some k [] = tt
declaration_some k (n ∷ []) = tt
declaration_some k (n ∷ a ∷ []) = declared_some k n (number a)
declaration_some k (n ∷ a ∷ b ∷ fs) = tt

-- numbers, of which P holds

-- A line with no number is well-formed.
no_number_some : (l : SheetLine) → FormedLine l → (o : Option (List ℕ)) → OnSome FormedLine (no_number l o)
unfolding no_number
no_number_some l h none = tt
no_number_some l h (some []) = h
no_number_some l h (some (n ∷ ns)) = tt

-- A line made of one number is well-formed.
one_number_some : (P : List ℕ → Type 0) (l : ℕ → SheetLine) → ((n : ℕ) → P (n ∷ []) → FormedLine (l n)) → (o : Option (List ℕ))
    → OnSome P o → OnSome FormedLine (one_number l o)
unfolding one_number
one_number_some P l h none k = tt
one_number_some P l h (some []) k = tt
one_number_some P l h (some (n ∷ [])) k = h n k
one_number_some P l h (some (n ∷ m ∷ ns)) k = tt

-- A line made of two numbers is well-formed.
two_numbers_some : (P : List ℕ → Type 0) (l : ℕ → ℕ → SheetLine) → ((n m : ℕ) → P (n ∷ m ∷ []) → FormedLine (l n m))
    → (o : Option (List ℕ)) → OnSome P o
    → OnSome FormedLine (two_numbers l o)
unfolding two_numbers
two_numbers_some P l h none k = tt
two_numbers_some P l h (some []) k = tt
two_numbers_some P l h (some (n ∷ [])) k = tt
two_numbers_some P l h (some (n ∷ m ∷ [])) k = h n m k
two_numbers_some P l h (some (n ∷ m ∷ o ∷ ns)) k = tt

-- The first is the name of a variable.
abbrev VariableFirst : List ℕ → Type 0
VariableFirst [] = Unit {0}
VariableFirst (v ∷ ns) = v < variable_names

-- Numbers that are read are at most 65,535.
cons_number_small : (o : Option ℕ) (p : Option (List ℕ)) → OnSome (λ n. n ≤ max_number) o → OnSome (All (λ n. n ≤ max_number)) p → OnSome (All (λ n. n ≤ max_number)) (cons_number o p)
unfolding cons_number
cons_number_small none p h k = tt
cons_number_small (some n) none h k = tt
cons_number_small (some n) (some ns) h k = (h, k)

numbers_small : (fs : List (List ℕ)) → OnSome (All (λ n. n ≤ max_number)) (numbers fs)
unfolding numbers
numbers_small [] = tt
numbers_small (f ∷ fs) =
    cons_number_small (number f) (numbers fs) (some_weaken (λ n. (f ≡ decimal n) × (n ≤ max_number)) (λ n. n ≤ max_number) (λ n h. h.1) (number f) (number_some f)) (numbers_small fs)

-- Numbers that pass `with_variable` have the name of a variable first.
with_variable_some : (o : Option (List ℕ)) → OnSome VariableFirst (with_variable o)
unfolding with_variable
with_variable_some none = tt
with_variable_some (some []) = tt
with_variable_some (some (v ∷ ns)) =
    cond_some VariableFirst (ltb v variable_names) (some (v ∷ ns)) none (λ e. ltb-true v variable_names e) (λ e. tt)

-- The line made of a symbol and its nodes is well-formed.
application_some : (o : Option (List ℕ)) → OnSome FormedLine (application o)
unfolding application
application_some none = tt
application_some (some []) = tt
application_some (some (f ∷ ns)) =
    cond_some FormedLine (leb (length ns) max_arity) (some (node_line (apply_line f ns))) none (λ e. tt) (λ e. tt)

-- lines

-- The line is well-formed if it is so for the letter d and for the letters after it.
letter_some : (c d : ℕ) (x y : Option SheetLine) → OnSome FormedLine x → OnSome FormedLine y → OnSome FormedLine (cond (eqb c d) x y)
letter_some c d x y h k = cond_some FormedLine (eqb c d) x y (λ e. h) (λ e. k)

-- The line of every letter is well-formed.
line_of_some : (c : ℕ) (fs : List (List ℕ)) → OnSome FormedLine (line_of c fs)
unfolding line_of
line_of_some c fs =
    letter_some c (code "F") _ _ (declaration_some true fs)
    (letter_some c (code "P") _ _ (declaration_some false fs)
    (letter_some c (code "V") _ _ (one_number_some VariableFirst (λ v. node_line (variable_line v)) (λ v h. h) (with_variable (numbers fs))
    (with_variable_some (numbers fs)))
    (letter_some c (code "N") _ _ (one_number_some (All (λ n. n ≤ max_number)) (λ n. node_line (number_line n)) (λ n h. h.0) (numbers fs) (numbers_small fs))
    (letter_some c (code "A") _ _ (application_some (numbers fs))
    (letter_some c (code "Y") _ _ (no_number_some (node_line true_line) tt (numbers fs))
    (letter_some c (code "&") _ _ (two (λ n m. node_line (and_line n m)) (λ n m. tt))
    (letter_some c (code "|") _ _ (two (λ n m. node_line (or_line n m)) (λ n m. tt))
    (letter_some c (code ">") _ _ (two (λ n m. node_line (implies_line n m)) (λ n m. tt))
    (letter_some c (code "E") _ _ (two_numbers_some VariableFirst (λ v n. node_line (some_line v n)) (λ v n h. h) (with_variable (numbers fs))
    (with_variable_some (numbers fs)))
    (letter_some c (code "U") _ _ (two_numbers_some VariableFirst (λ v n. node_line (every_line v n)) (λ v n h. h)
    (with_variable (numbers fs)) (with_variable_some (numbers fs)))
    (letter_some c (code "C") _ _ (one clause_line (λ n. tt))
    (letter_some c (code "Q") _ _ (one goal_line (λ n. tt)) tt))))))))))))
  where
    one : (l : ℕ → SheetLine) → ((n : ℕ) → FormedLine (l n)) → OnSome FormedLine (one_number l (numbers fs))
    one l h = one_number_some (λ ns. Unit {0}) l (λ n k. h n) (numbers fs) (any_some (numbers fs))

    two : (l : ℕ → ℕ → SheetLine) → ((n m : ℕ) → FormedLine (l n m)) → OnSome FormedLine (two_numbers l (numbers fs))
    two l h = two_numbers_some (λ ns. Unit {0}) l (λ n m k. h n m) (numbers fs) (any_some (numbers fs))

-- The line made of fields, of which the first is the letter, is well-formed.
of_fields_some : (fs : List (List ℕ)) → OnSome FormedLine (of_fields fs)
unfolding of_fields
of_fields_some [] = tt
of_fields_some ([] ∷ fs) = tt
of_fields_some ((c ∷ []) ∷ fs) = line_of_some c fs
of_fields_some ((c ∷ d ∷ ds) ∷ fs) = tt

-- Every line.
pub parse_line_some : (l : List ℕ) → OnSome FormedLine (parse_line l)
unfolding parse_line
parse_line_some l = of_fields_some (fields l)
