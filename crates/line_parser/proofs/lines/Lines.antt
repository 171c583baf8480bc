-- The line back from the reader's answer, and what the answer says of the line's bytes. Assumes nothing.
use Prim.Native.Nat.{ℕ, ◌+◌, ◌≤◌}
use Prim.Native.Char.{code}
use native.Mathlib.Omega.{arith}
use mathlib.Core.Bool.{Bool, true, false, ◌&&◌, cond}
use mathlib.Core.Path.{◌≡◌, refl, sym, ap, ◌∙◌, subst}
use mathlib.Core.List.{List, [], ◌∷◌}
use mathlib.Core.Option.{Option, none, some}
use lib.Dec.{ltb, leb, eqb}
use lib.ListN.{length, drop, take, length-take, length-drop}
use borrow.Author.Tests.{leb-true, eqb-true}
use Rattle.std.specs.Prelude.{Result, Ok}
use Rattle.sheet_format.specs.Limits.{max_arity, max_name}
use Rattle.sheet_format.specs.Bytes.{tab, fields, is_name, number}
use Rattle.sheet_format.specs.SheetLines.{variable_line, number_line, apply_line, true_line, and_line, or_line, implies_line, some_line, every_line}
use Rattle.sheet_format.specs.SheetLines.{SheetLine, declare_line, node_line, clause_line, goal_line, numbers, declared, declaration, no_number}
use Rattle.sheet_format.specs.SheetLines.{one_number, two_numbers, with_variable, application, line_of, of_fields, parse_line}
use Rattle.sheet_format.proofs.Options.{some_is}
use Rattle.sheet_format.proofs.Bytes.{name_short, name_length_lem}
use Rattle.sheet_format.proofs.SheetLines.{FormedLine, parse_line_some}
use Rattle.line_parser.specs.Fields.{field_len, first_field, first_name}
use Rattle.line_parser.proofs.fields.Fields.{fields_first, first_length}
use Rattle.outcomes.specs.declared.refusals.Reason.{Reason}
use Rattle.line_parser.specs.declared.lines.Nodes.{Nodes}
use Rattle.line_parser.specs.declared.lines.NodeLine.TheVariants.{Apply}
use Rattle.line_parser.specs.declared.lines.Line.{Line}
use Rattle.line_parser.specs.declared.lines.Line.TheVariants.{Declare, Node}
use Rattle.line_parser.specs.Lines.{nodes_of, node_answer, line_answer, node_list, node_back, line_back}
use Rattle.line_parser.proofs.lines.Laws.{alone, lettered, long}

-- back

-- Up to four nodes come back from their record.
nodes_back : (ns : List ℕ) → length ns ≤ max_arity → node_list (nodes_of ns) ≡ ns
unfolding node_list nodes_of
nodes_back [] h = refl
nodes_back (p ∷ []) h = refl
nodes_back (p ∷ q ∷ []) h = refl
nodes_back (p ∷ q ∷ r ∷ []) h = refl
nodes_back (p ∷ q ∷ r ∷ t ∷ []) h = refl
nodes_back (p ∷ q ∷ r ∷ t ∷ u ∷ ns) h = absurd (omega arith)

-- The line comes back from its answer and the bytes s.
abbrev Back : List ℕ → Option SheetLine → Type 0
Back s o = line_back s (line_answer o) ≡ o

-- A line that is neither a declaration nor an application.
abbrev Plain : SheetLine → Type 0
Plain (declare_line k n a) = ⊥
Plain (node_line (variable_line v)) = Unit {0}
Plain (node_line (number_line n)) = Unit {0}
Plain (node_line (apply_line f ns)) = ⊥
Plain (node_line true_line) = Unit {0}
Plain (node_line (and_line n m)) = Unit {0}
Plain (node_line (or_line n m)) = Unit {0}
Plain (node_line (implies_line n m)) = Unit {0}
Plain (node_line (some_line v n)) = Unit {0}
Plain (node_line (every_line v n)) = Unit {0}
Plain (clause_line n) = Unit {0}
Plain (goal_line n) = Unit {0}

-- What holds of no line and of every plain line holds of the lines of each form that are plain.
module _ (P : Option SheetLine → Type 0) (absent : P none) (plain : (l : SheetLine) → Plain l → P (some l)) where
  -- Of a choice if it holds of both sides.
  cond_holds : (t : Bool) (x y : Option SheetLine) → P x → P y → P (cond t x y)
  cond_holds true x y h k = h
  cond_holds false x y h k = k

  -- Of a line without numbers.
  no_holds : (l : SheetLine) → Plain l → (x : Option (List ℕ)) → P (no_number l x)
  unfolding no_number
  no_holds l h none = absent
  no_holds l h (some []) = plain l h
  no_holds l h (some (n ∷ ns)) = absent

  -- Of a line with one number.
  one_holds : (l : ℕ → SheetLine) → ((n : ℕ) → Plain (l n)) → (x : Option (List ℕ)) → P (one_number l x)
  unfolding one_number
  one_holds l h none = absent
  one_holds l h (some []) = absent
  one_holds l h (some (n ∷ [])) = plain (l n) (h n)
  one_holds l h (some (n ∷ m ∷ ns)) = absent

  -- Of a line with two numbers.
  two_holds : (l : ℕ → ℕ → SheetLine) → ((n m : ℕ) → Plain (l n m)) → (x : Option (List ℕ)) → P (two_numbers l x)
  unfolding two_numbers
  two_holds l h none = absent
  two_holds l h (some []) = absent
  two_holds l h (some (n ∷ [])) = absent
  two_holds l h (some (n ∷ m ∷ [])) = plain (l n m) (h n m)
  two_holds l h (some (n ∷ m ∷ o ∷ ns)) = absent

  -- Of a line with any letter, if it holds of applications and of declarations.
  letter_holds : (c : ℕ) (fs : List (List ℕ)) → P (application (numbers fs)) → ((k : Bool) → P (declaration k fs)) → P (line_of c fs)
  unfolding line_of
  letter_holds c fs a h =
      cond_holds (eqb c (code "F")) _ _ (h true)
      (cond_holds (eqb c (code "P")) _ _ (h false)
      (cond_holds (eqb c (code "V")) _ _ (one_holds (λ v. node_line (variable_line v)) (λ v. tt) (with_variable (numbers fs)))
      (cond_holds (eqb c (code "N")) _ _ (one_holds (λ n. node_line (number_line n)) (λ n. tt) (numbers fs))
      (cond_holds (eqb c (code "A")) _ _ a
      (cond_holds (eqb c (code "Y")) _ _ (no_holds (node_line true_line) tt (numbers fs))
      (cond_holds (eqb c (code "&")) _ _ (two_holds (λ n m. node_line (and_line n m)) (λ n m. tt) (numbers fs))
      (cond_holds (eqb c (code "|")) _ _ (two_holds (λ n m. node_line (or_line n m)) (λ n m. tt) (numbers fs))
      (cond_holds (eqb c (code ">")) _ _ (two_holds (λ n m. node_line (implies_line n m)) (λ n m. tt) (numbers fs))
      (cond_holds (eqb c (code "E")) _ _ (two_holds (λ v n. node_line (some_line v n)) (λ v n. tt) (with_variable (numbers fs)))
      (cond_holds (eqb c (code "U")) _ _ (two_holds (λ v n. node_line (every_line v n)) (λ v n. tt) (with_variable (numbers fs)))
      (cond_holds (eqb c (code "C")) _ _ (one_holds clause_line (λ n. tt) (numbers fs))
      (cond_holds (eqb c (code "Q")) _ _ (one_holds goal_line (λ n. tt) (numbers fs)) absent))))))))))))

module _ (s : List ℕ) where
  -- A plain line comes back.
  plain_back : (l : SheetLine) → Plain l → Back s (some l)
  unfolding line_answer node_answer line_back node_back
  plain_back (declare_line k n a) h = absurd h
  plain_back (node_line (variable_line v)) h = refl
  plain_back (node_line (number_line n)) h = refl
  plain_back (node_line (apply_line f ns)) h = absurd h
  plain_back (node_line true_line) h = refl
  plain_back (node_line (and_line n m)) h = refl
  plain_back (node_line (or_line n m)) h = refl
  plain_back (node_line (implies_line n m)) h = refl
  plain_back (node_line (some_line v n)) h = refl
  plain_back (node_line (every_line v n)) h = refl
  plain_back (clause_line n) h = refl
  plain_back (goal_line n) h = refl

  -- An application comes back.
  apply_back : (x : Option (List ℕ)) → Back s (application x)
  unfolding application line_answer node_answer line_back node_back
  apply_back none = refl
  apply_back (some []) = refl
  apply_back (some (f ∷ ns)) = go (leb (length ns) max_arity) refl
    where
      go : (t : Bool) → leb (length ns) max_arity ≡ t → Back s (cond t (some (node_line (apply_line f ns))) none)
      go true e = ap (λ (ms : List ℕ). some (node_line (apply_line f ms))) (nodes_back ns (leb-true (length ns) max_arity e))
      go false e = refl

  -- A declaration whose name stands at offset 2 comes back.
  declare_back : (k : Bool) (f : List ℕ) (fs : List (List ℕ)) → take (length f) (drop 2 s) ≡ f → Back s (declaration k (f ∷ fs))
  unfolding declaration declared line_answer line_back
  declare_back k f [] h = refl
  declare_back k f (a ∷ []) h = go (number a)
    where
      go : (o : Option ℕ) → Back s (declared k f o)
      go none = refl
      go (some n) =
          cond_holds (Back s) refl plain_back (is_name f && leb n max_arity) (some (declare_line k f n)) none
          (ap (λ (m : List ℕ). some (declare_line k m n)) h) refl
  declare_back k f (a ∷ b ∷ fs) h = refl

  -- A line with any letter comes back, if declarations do.
  letter_back : (c : ℕ) (fs : List (List ℕ)) → ((k : Bool) → Back s (declaration k fs)) → Back s (line_of c fs)
  unfolding line_answer line_back
  letter_back c fs h = letter_holds (Back s) refl plain_back c fs (apply_back (numbers fs)) h

-- A text begins with its first field.
first_taken : (ds : List ℕ) → take (length (first_field ds)) ds ≡ first_field ds
unfolding first_field
first_taken ds = rw (first_length ds)

-- A declaration read from the fields at offset 2 comes back.
first_back : (s : List ℕ) (k : Bool) (ds : List ℕ) → ds ≡ drop 2 s → Back s (declaration k (fields ds))
first_back s k ds e =
    rw (fields_first ds)
    (declare_back s k (first_field ds) (cond (ltb (field_len ds) (length ds)) (fields (drop (field_len ds + 1) ds)) [])
    (rw (← e) (first_taken ds)))

-- Every line comes back.
pub line_back_lem : (s : List ℕ) → line_back s (line_answer (parse_line s)) ≡ parse_line s
unfolding parse_line of_fields fields declaration line_answer line_back
line_back_lem [] = refl
line_back_lem (c ∷ []) = rw (alone c) (letter_back (c ∷ []) c [] (λ k. refl))
line_back_lem (c ∷ d ∷ ds) = go (eqb d tab) refl
  where
    go : (t : Bool) → eqb d tab ≡ t → line_back (c ∷ d ∷ ds) (line_answer (parse_line (c ∷ d ∷ ds))) ≡ parse_line (c ∷ d ∷ ds)
    go true e =
        rw (eqb-true d tab e) (rw (lettered c ds)
        (letter_back (c ∷ tab ∷ ds) c (fields ds) (λ k. first_back (c ∷ tab ∷ ds) k ds refl)))
    go false e = rw (long c d ds e)

-- the declared name

-- A declared name is those bytes.
unfoldable Named : List ℕ → Option SheetLine → Type 0
Named f none = Unit {0}
Named f (some (declare_line k n a)) = n ≡ f
Named f (some (node_line l)) = Unit {0}
Named f (some (clause_line n)) = Unit {0}
Named f (some (goal_line n)) = Unit {0}

module _ (f : List ℕ) where
  plain_named : (l : SheetLine) → Plain l → Named f (some l)
  unfolding Named
  plain_named (declare_line k n a) h = absurd h
  plain_named (node_line l) h = tt
  plain_named (clause_line n) h = tt
  plain_named (goal_line n) h = tt

  apply_named : (x : Option (List ℕ)) → Named f (application x)
  unfolding Named application
  apply_named none = tt
  apply_named (some []) = tt
  apply_named (some (g ∷ ns)) =
      cond_holds (Named f) tt plain_named (leb (length ns) max_arity) (some (node_line (apply_line g ns))) none tt tt

  -- A declaration has its first field as its name.
  declare_named : (k : Bool) (fs : List (List ℕ)) → Named f (declaration k (f ∷ fs))
  unfolding Named declaration declared
  declare_named k [] = tt
  declare_named k (a ∷ []) = go (number a)
    where
      go : (o : Option ℕ) → Named f (declared k f o)
      go none = tt
      go (some n) = cond_holds (Named f) tt plain_named (is_name f && leb n max_arity) (some (declare_line k f n)) none refl tt
  declare_named k (a ∷ b ∷ fs) = tt

  letter_named : (c : ℕ) (fs : List (List ℕ)) → ((k : Bool) → Named f (declaration k fs)) → Named f (line_of c fs)
  unfolding Named
  letter_named c fs h = letter_holds (Named f) tt plain_named c fs (apply_named (numbers fs)) h

first_named : (k : Bool) (ds : List ℕ) → Named (first_field ds) (declaration k (fields ds))
first_named k ds =
    rw (fields_first ds)
    (declare_named (first_field ds) k (cond (ltb (field_len ds) (length ds)) (fields (drop (field_len ds + 1) ds)) []))

-- The name that a line declares is the first field of the rest after its letter.
line_named : (s : List ℕ) → Named (first_field (drop 2 s)) (parse_line s)
unfolding parse_line of_fields fields declaration Named
line_named [] = tt
line_named (c ∷ []) = rw (alone c) (letter_named (first_field []) c [] (λ k. tt))
line_named (c ∷ d ∷ ds) = go (eqb d tab) refl
  where
    go : (t : Bool) → eqb d tab ≡ t → Named (first_field ds) (parse_line (c ∷ d ∷ ds))
    go true e =
        rw (eqb-true d tab e) (rw (lettered c ds) (letter_named (first_field ds) c (fields ds) (λ k. first_named k ds)))
    go false e = rw (long c d ds e) tt

-- A first field that is a name is the first name.
first_name_lem : (s n : List ℕ) → n ≡ first_field s → is_name n ≡ true → first_name s ≡ n
unfolding first_name
first_name_lem s n h e = rw (← h) (rw e)

-- what an answer says

-- The line that was read.
pub line_is : (s : List ℕ) (r : Result Line Reason) → r ≡ line_answer (parse_line s) → parse_line s ≡ line_back s r
line_is s r e = sym (line_back_lem s) ∙ ap (line_back s) (sym e)

-- It is formed: its name is a name, its arity at most 4, its variable below 8.
pub line_formed : (s : List ℕ) (r : Result Line Reason) (l : SheetLine) → r ≡ line_answer (parse_line s) → line_back s r ≡ some l → FormedLine l
line_formed s r l e h = some_is FormedLine (parse_line s) l (parse_line_some s) (line_is s r e ∙ h)

-- A declared name stands at offset 2.
pub declare_is : (s : List ℕ) (k : Bool) (n a : ℕ) → Ok (Declare k n a) ≡ line_answer (parse_line s)
    → parse_line s ≡ some (declare_line k (take n (drop 2 s)) a)
unfolding line_back
declare_is s k n a e = line_is s (Ok (Declare k n a)) e

-- It lies within the line, is a name, and is what the name reader returns for the rest after the letter; its arity is at most 4.
pub record DeclareBounds (s : List ℕ) (n a : ℕ) : Type 0 where
  pub named : is_name (take n (drop 2 s)) ≡ true
  pub first : first_name (drop 2 s) ≡ take n (drop 2 s)
  pub some_byte : 1 ≤ n
  pub short : n ≤ max_name
  pub within : 2 + n ≤ length s
  pub arity : a ≤ max_arity

-- The bounds hold of every declaration that is read.
pub declare_bounds : (s : List ℕ) (k : Bool) (n a : ℕ) → Ok (Declare k n a) ≡ line_answer (parse_line s) → DeclareBounds s n a
unfolding line_answer Named
declare_bounds s k n a e =
    let p = declare_is s k n a e in
    let f = some_is FormedLine (parse_line s) (declare_line k (take n (drop 2 s)) a) (parse_line_some s) p in
    let q : ◌≡◌ {A = Result Line Reason} (Ok (Declare k n a)) (Ok (Declare k (length (take n (drop 2 s))) a)) = e ∙ ap line_answer p in
    let z : n ≡ length (take n (drop 2 s)) = cc in
    let l = name_length_lem (take n (drop 2 s)) f.0 in
    let m = name_short (take n (drop 2 s)) f.0 in
    let w = length-take n (drop 2 s) in
    let d = length-drop 2 s in
    record {
      named = f.0;
      first = first_name_lem (drop 2 s) (take n (drop 2 s)) (subst (Named (first_field (drop 2 s))) p (line_named s)) f.0;
      some_byte = omega arith;
      short = omega arith;
      within = omega arith;
      arity = f.1;
    }

-- An application has at most four nodes.
pub apply_count : (s : List ℕ) (f : ℕ) (ns : Nodes) → Ok (Node (Apply f ns)) ≡ line_answer (parse_line s) → ns.count ≤ max_arity
unfolding line_answer node_answer nodes_of line_back node_back node_list
apply_count s f ns e =
    let q : ◌≡◌ {A = Result Line Reason} (Ok (Node (Apply f ns))) (Ok (Node (Apply f (nodes_of (node_list ns))))) = e ∙ ap line_answer (line_is s (Ok (Node (Apply f ns))) e) in
    let z : ns ≡ nodes_of (node_list ns) = cc in
    let y : ns.count ≡ length (node_list ns) = ap (λ (m : Nodes). m.count) z in
    omega (arith, length-take ns.count (ns.a ∷ ns.b ∷ ns.c ∷ ns.d ∷ []))
