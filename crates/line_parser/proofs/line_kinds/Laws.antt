-- Laws of `specs/Lines.antt` and of the lines of `sheet_format`: one for each way through the code. Assumes nothing.
use Prim.Native.Nat.{ℕ, ◌+◌, ◌-◌, ◌≤◌, ◌<◌}
use Prim.Native.Char.{code}
use native.Mathlib.Omega.{arith}
use mathlib.Core.Bool.{Bool, true, false, cond}
use mathlib.Core.Path.{◌≡◌, refl, sym, ap, ◌∙◌}
use mathlib.Core.List.{List, [], ◌∷◌}
use mathlib.Core.Option.{Option, none, some}
use lib.Dec.{eqb, ltb, leb}
use lib.ListN.{length, drop, take}
use borrow.Author.Tests.{lt-ltb, le-ltb, le-leb, lt-leb, ne_eqb, eqb-true, eqb-false}
use Rattle.sheet_format.specs.Limits.{max_arity, variable_names}
use Rattle.sheet_format.specs.Bytes.{fields, is_name, number}
use Rattle.sheet_format.specs.SheetLines.{variable_line, number_line, and_line, or_line, implies_line, some_line, every_line, SheetLine}
use Rattle.sheet_format.specs.SheetLines.{declare_line, node_line, clause_line, goal_line, cons_number, numbers, declared, declaration}
use Rattle.sheet_format.specs.SheetLines.{one_number, two_numbers, with_variable, application}
use Rattle.std.specs.Prelude.{Result, Some, None, Ok, Err}
use Rattle.line_parser.specs.Fields.{field_len, first_field, first_number, first_name, name_answer}
use Rattle.line_parser.proofs.fields.Laws.{rest_part}
use Rattle.line_parser.proofs.fields.Fields.{fields_first, fields_last, fields_more, first_bad, first_last, first_more, first_length}
use Rattle.line_parser.proofs.fields.Fields.{name_absent, name_present}
use Rattle.line_parser.specs.declared.lines.Nodes.{Nodes}
use Rattle.line_parser.specs.declared.lines.NodeLine.TheVariants.{Variable, Numeral, Apply, And, Or, Implies, Exists, Forall}
use Rattle.line_parser.specs.declared.lines.Line.{Line}
use Rattle.line_parser.specs.declared.lines.Line.TheVariants.{Declare, Node, Clause, Goal}
use Rattle.outcomes.specs.declared.refusals.Reason.{Reason}
use Rattle.line_parser.specs.Lines.{malformed, nodes_of, node_answer, line_answer, one_answer, two_answer, arity_answer, push_node, apply_on}
use Rattle.line_parser.specs.Lines.{apply_answer, connective_of, quantifier_of}
use Rattle.line_parser.proofs.lines.Laws.{cond_same, one_is}

-- Where the answer is a refusal, there is no line with one number.
one_none : (l : ℕ → SheetLine) (x : Option (List ℕ)) (r : Reason) → one_answer x ≡ Err r → one_number l x ≡ none
unfolding one_answer one_number
one_none l none r h = refl
one_none l (some []) r h = refl
one_none l (some (m ∷ [])) r h = let z : ◌≡◌ {A = ℕ} 0 1 = cc in absurd (omega arith)
one_none l (some (m ∷ o ∷ ns)) r h = refl

-- Where the answer is `Ok (n, m)`, the numbers are n and m.
two_is : (x : Option (List ℕ)) (n m : ℕ) → two_answer x ≡ Ok (n, m) → x ≡ some (n ∷ m ∷ [])
unfolding two_answer
two_is none n m h = let z : ◌≡◌ {A = ℕ} 0 1 = cc in absurd (omega arith)
two_is (some []) n m h = let z : ◌≡◌ {A = ℕ} 0 1 = cc in absurd (omega arith)
two_is (some (p ∷ [])) n m h = let z : ◌≡◌ {A = ℕ} 0 1 = cc in absurd (omega arith)
two_is (some (p ∷ q ∷ [])) n m h =
    let z : ◌≡◌ {A = ℕ × ℕ} (p, q) (n, m) = cc in
    ap (λ (o : ℕ × ℕ). some (o.0 ∷ o.1 ∷ [])) z
two_is (some (p ∷ q ∷ o ∷ ns)) n m h = let z : ◌≡◌ {A = ℕ} 0 1 = cc in absurd (omega arith)

-- Where the answer is a refusal, there is no line with two numbers.
two_none : (l : ℕ → ℕ → SheetLine) (x : Option (List ℕ)) (r : Reason) → two_answer x ≡ Err r → two_numbers l x ≡ none
unfolding two_answer two_numbers
two_none l none r h = refl
two_none l (some []) r h = refl
two_none l (some (p ∷ [])) r h = refl
two_none l (some (p ∷ q ∷ [])) r h = let z : ◌≡◌ {A = ℕ} 0 1 = cc in absurd (omega arith)
two_none l (some (p ∷ q ∷ o ∷ ns)) r h = refl

-- C, Q, N and V

module _ (x : Option (List ℕ)) where
  -- A line that takes one number is malformed where there is not one number.
  pub single_none : (l : ℕ → SheetLine) (r : Reason) → one_answer x ≡ Err r → malformed ≡ line_answer (one_number l x)
  unfolding line_answer
  single_none l r h = rw (one_none l x r h)

  -- One number makes the line of that number.
  pub single_is : (l : ℕ → SheetLine) (n : ℕ) (r : Result Line Reason) → one_answer x ≡ Ok n → r ≡ line_answer (some (l n))
      → r ≡ line_answer (one_number l x)
  unfolding one_number
  single_is l n r h k = rw (one_is x n h) k

  -- A variable line with a variable from 8 on is malformed.
  pub variable_large : (v : ℕ) → one_answer x ≡ Ok v → variable_names ≤ v
      → malformed ≡ line_answer (one_number (λ w. node_line (variable_line w)) (with_variable x))
  unfolding line_answer one_number with_variable
  variable_large v h l = rw (one_is x v h) (rw (le-ltb v variable_names l))

  -- One number below 8 makes a variable line.
  pub variable_is : (v : ℕ) → one_answer x ≡ Ok v → v < variable_names
      → Ok (Node (Variable v)) ≡ line_answer (one_number (λ w. node_line (variable_line w)) (with_variable x))
  unfolding line_answer node_answer one_number with_variable
  variable_is v h l = rw (one_is x v h) (rw (lt-ltb v variable_names l))

-- What the readers of one number make of it is the answer for the line of that number.
pub made_numeral : (n : ℕ) (l : Line) → l ≡ Node (Numeral n) → Ok l ≡ line_answer (some (node_line (number_line n)))
unfolding line_answer node_answer
made_numeral n l e = ap Ok e

pub made_clause : (n : ℕ) (l : Line) → l ≡ Clause n → Ok l ≡ line_answer (some (clause_line n))
unfolding line_answer
made_clause n l e = ap Ok e

pub made_goal : (n : ℕ) (l : Line) → l ≡ Goal n → Ok l ≡ line_answer (some (goal_line n))
unfolding line_answer
made_goal n l e = ap Ok e

-- A variable line is malformed where there is not one number.
pub variable_none : (x : Option (List ℕ)) (r : Reason) → one_answer x ≡ Err r
    → malformed ≡ line_answer (one_number (λ w. node_line (variable_line w)) (with_variable x))
unfolding one_answer line_answer one_number with_variable
variable_none none r h = refl
variable_none (some []) r h = refl
variable_none (some (v ∷ [])) r h = let z : ◌≡◌ {A = ℕ} 0 1 = cc in absurd (omega arith)
variable_none (some (v ∷ w ∷ ns)) r h = go (ltb v variable_names)
  where
    go : (t : Bool) → malformed ≡ line_answer (one_number (λ u. node_line (variable_line u)) (cond t (some (v ∷ w ∷ ns)) none))
    go true = refl
    go false = refl

-- &, | and >

module _ (c : ℕ) (x : Option (List ℕ)) where
  -- A connective line is malformed where there are not two numbers.
  pub connective_none : (r : Reason) → two_answer x ≡ Err r → malformed ≡ line_answer (connective_of c x)
  unfolding connective_of line_answer
  connective_none r h =
      simp (
        two_none (λ n m. node_line (and_line n m)) x r h,
        two_none (λ n m. node_line (or_line n m)) x r h,
        two_none (λ n m. node_line (implies_line n m)) x r h,
        cond_same,
      )

  module _ (n m : ℕ) (h : two_answer x ≡ Ok (n, m)) where
    -- The letter `&` with two numbers makes a line of and.
    pub connective_and : c ≡ code "&" → Ok (Node (And n m)) ≡ line_answer (connective_of c x)
    unfolding connective_of line_answer node_answer two_numbers
    connective_and e = rw (two_is x n m h, e)

    -- The letter `|` with two numbers makes a line of or.
    pub connective_or : c ≡ code "|" → Ok (Node (Or n m)) ≡ line_answer (connective_of c x)
    unfolding connective_of line_answer node_answer two_numbers
    connective_or e = rw (two_is x n m h, e)

    -- The letter `>` with two numbers makes a line of implies.
    pub connective_implies : c ≡ code ">" → Ok (Node (Implies n m)) ≡ line_answer (connective_of c x)
    unfolding connective_of line_answer node_answer two_numbers
    connective_implies e = rw (two_is x n m h, e)

  -- A connective line with another letter is malformed.
  pub connective_other : (c ≡ code "&" → ⊥) → (c ≡ code "|" → ⊥) → (c ≡ code ">" → ⊥) → malformed ≡ line_answer (connective_of c x)
  unfolding connective_of line_answer
  connective_other p q r = rw (ne_eqb c (code "&") p, ne_eqb c (code "|") q, ne_eqb c (code ">") r)

-- E and U

-- There is no quantifier line where there are not two numbers.
quantified_none : (l : ℕ → ℕ → SheetLine) (x : Option (List ℕ)) (r : Reason) → two_answer x ≡ Err r → two_numbers l (with_variable x) ≡ none
unfolding two_answer two_numbers with_variable
quantified_none l none r h = refl
quantified_none l (some []) r h = refl
quantified_none l (some (p ∷ [])) r h = go (ltb p variable_names)
  where
    go : (t : Bool) → two_numbers l (cond t (some (p ∷ [])) none) ≡ none
    go true = refl
    go false = refl
quantified_none l (some (p ∷ q ∷ [])) r h = let z : ◌≡◌ {A = ℕ} 0 1 = cc in absurd (omega arith)
quantified_none l (some (p ∷ q ∷ o ∷ ns)) r h = go (ltb p variable_names)
  where
    go : (t : Bool) → two_numbers l (cond t (some (p ∷ q ∷ o ∷ ns)) none) ≡ none
    go true = refl
    go false = refl

module _ (c : ℕ) (x : Option (List ℕ)) where
  -- A quantifier line is malformed where there are not two numbers.
  pub quantifier_none : (r : Reason) → two_answer x ≡ Err r → malformed ≡ line_answer (quantifier_of c x)
  unfolding quantifier_of line_answer
  quantifier_none r h =
      simp (quantified_none (λ v n. node_line (some_line v n)) x r h, quantified_none (λ v n. node_line (every_line v n)) x r h, cond_same)

  module _ (v n : ℕ) (h : two_answer x ≡ Ok (v, n)) where
    -- A quantifier line with a variable from 8 on is malformed.
    pub quantifier_large : variable_names ≤ v → malformed ≡ line_answer (quantifier_of c x)
    unfolding quantifier_of line_answer two_numbers with_variable
    quantifier_large l = rw (two_is x v n h) (simp (le-ltb v variable_names l, cond_same))

    -- The letter E with a variable and a node makes a line of some.
    pub quantifier_some : v < variable_names → c ≡ code "E" → Ok (Node (Exists v n)) ≡ line_answer (quantifier_of c x)
    unfolding quantifier_of line_answer node_answer two_numbers with_variable
    quantifier_some l e = rw (two_is x v n h, e) (rw (lt-ltb v variable_names l))

    -- The letter U with a variable and a node makes a line of every.
    pub quantifier_every : v < variable_names → c ≡ code "U" → Ok (Node (Forall v n)) ≡ line_answer (quantifier_of c x)
    unfolding quantifier_of line_answer node_answer two_numbers with_variable
    quantifier_every l e = rw (two_is x v n h, e) (rw (lt-ltb v variable_names l))

  -- A quantifier line with another letter is malformed.
  pub quantifier_other : (c ≡ code "E" → ⊥) → (c ≡ code "U" → ⊥) → malformed ≡ line_answer (quantifier_of c x)
  unfolding quantifier_of line_answer
  quantifier_other p q = rw (ne_eqb c (code "E") p, ne_eqb c (code "U") q)

-- No nodes have been read yet.
abbrev pub no_nodes : Nodes
no_nodes = record { count = 0; a = 0; b = 0; c = 0; d = 0 }

-- Nodes that are read one by one make the line that they make when read all at once.
applied : (f : ℕ) (ms : List ℕ) → apply_on f no_nodes ms ≡ line_answer (application (some (f ∷ ms)))
unfolding apply_on push_node application line_answer node_answer nodes_of
applied f [] = refl
applied f (p ∷ []) = refl
applied f (p ∷ q ∷ []) = refl
applied f (p ∷ q ∷ r ∷ []) = refl
applied f (p ∷ q ∷ r ∷ t ∷ []) = refl
applied f (p ∷ q ∷ r ∷ t ∷ u ∷ ms) = rw (lt-leb (length (p ∷ q ∷ r ∷ t ∷ u ∷ ms)) max_arity (omega arith))

module _ (s : List ℕ) where
  -- An application without a symbol is malformed.
  pub apply_bad : first_number s ≡ None → malformed ≡ line_answer (application (numbers (fields s)))
  unfolding application line_answer
  apply_bad h = rw (first_bad s h)

  -- A symbol alone is an application to no nodes.
  pub apply_last : (f e : ℕ) → first_number s ≡ Some (f, e) → length s ≤ e
      → Ok (Node (Apply f no_nodes)) ≡ line_answer (application (numbers (fields s)))
  unfolding application line_answer node_answer nodes_of
  apply_last f e h l = rw (first_last s f e h l)

  -- A symbol with fields after it is an application to the nodes read from them.
  pub apply_more : (f e : ℕ) → first_number s ≡ Some (f, e) → e < length s
      → apply_answer f no_nodes (numbers (fields (take (length s - (e + 1)) (drop (e + 1) s)))) ≡ line_answer
      (application (numbers (fields s)))
  unfolding apply_answer cons_number application line_answer
  apply_more f e h l = rw (rest_part (e + 1) s, first_more s f e h l) (go (numbers (fields (drop (e + 1) s))))
    where
      go : (x : Option (List ℕ)) → apply_answer f no_nodes x ≡ line_answer (application (cons_number (some f) x))
      go none = refl
      go (some ms) = applied f ms

-- F and P

-- A first field that is no name makes no declaration.
declare_other : (k : Bool) (f : List ℕ) (fs : List (List ℕ)) → is_name f ≡ false → declaration k (f ∷ fs) ≡ none
unfolding declaration declared
declare_other k f [] h = refl
declare_other k f (a ∷ []) h = go (number a)
  where
    go : (o : Option ℕ) → declared k f o ≡ none
    go none = refl
    go (some n) = rw h
declare_other k f (a ∷ b ∷ fs) h = refl

-- For a declaration with a name, the fields after it decide the answer.
declare_fields : (k : Bool) (f : List ℕ) (fs : List (List ℕ)) → is_name f ≡ true
    → line_answer (declaration k (f ∷ fs)) ≡ arity_answer k (length f) (one_answer (numbers fs))
unfolding declaration declared arity_answer one_answer numbers cons_number line_answer
declare_fields k f [] h = refl
declare_fields k f (a ∷ []) h = go (number a)
  where
    bound : (n : ℕ) (t : Bool) → line_answer (cond t (some (declare_line k f n)) none) ≡ cond t (Ok (Declare k (length f) n)) malformed
    bound n true = refl
    bound n false = refl

    go : (o : Option ℕ) → line_answer (declared k f o) ≡ arity_answer k (length f) (one_answer (cons_number o (some [])))
    go none = refl
    go (some n) = rw h (bound n (leb n max_arity))
declare_fields k f (a ∷ b ∷ fs) h = go (number a) (number b) (numbers fs)
  where
    go : (o p : Option ℕ) (x : Option (List ℕ)) → malformed ≡ arity_answer k (length f) (one_answer (cons_number o (cons_number p x)))
    go none p x = refl
    go (some n) none x = refl
    go (some n) (some m) none = refl
    go (some n) (some m) (some ns) = refl

-- The length of a part, from what it says.
name_none : (l : ℕ) → name_answer l ≡ None → l ≡ 0
unfolding name_answer
name_none l h = go (eqb l 0) refl h
  where
    go : (b : Bool) → eqb l 0 ≡ b → cond b None (Some l) ≡ None → l ≡ 0
    go true e h = eqb-true l 0 e
    go false e h = let z : ◌≡◌ {A = ℕ} 0 1 = cc in absurd (omega arith)

name_some : (l n : ℕ) → name_answer l ≡ Some n → (n ≡ l) × (l ≡ 0 → ⊥)
unfolding name_answer
name_some l n h = go (eqb l 0) refl h
  where
    go : (b : Bool) → eqb l 0 ≡ b → cond b None (Some l) ≡ Some n → (n ≡ l) × (l ≡ 0 → ⊥)
    go true e h = let z : ◌≡◌ {A = ℕ} 0 1 = cc in absurd (omega arith)
    go false e h = (cc, eqb-false l 0 e)

module _ (s m : List ℕ) (e : m ≡ first_name s) (k : Bool) where
  -- A declaration is malformed where no name comes first.
  pub declare_absent : name_answer (length m) ≡ None → malformed ≡ line_answer (declaration k (fields s))
  unfolding line_answer
  declare_absent h =
      let n = name_absent s (ap length (sym e) ∙ name_none (length m) h) in
      sym (ap (λ fs. line_answer (declaration k fs)) (fields_first s) ∙ ap line_answer (declare_other k (first_field s) _ n))

  module _ (l : ℕ) (h : name_answer (length m) ≡ Some l) where
    named : (is_name (first_field s) ≡ true) × (l ≡ field_len s)
    named =
        let p = name_some (length m) l h in
        let n = name_present s (λ z. p.1 (ap length e ∙ z)) in
        (n.0, p.0 ∙ ap length e ∙ n.1)

    -- A declaration is malformed where no field follows the name.
    pub declare_short : length s ≤ l → malformed ≡ line_answer (declaration k (fields s))
    unfolding line_answer declaration
    declare_short g = let q = named.1 in rw (fields_last s (omega arith))

    -- Where a name comes first, the rest is read as the arity.
    pub declare_more : l < length s
        → arity_answer k l (one_answer (numbers (fields (take (length s - (l + 1)) (drop (l + 1) s))))) ≡ line_answer
        (declaration k (fields s))
    declare_more g =
        let q = named.1 in
        rw (rest_part (l + 1) s, q)
        (sym (ap (λ fs. line_answer (declaration k fs)) (fields_more s (omega arith)) ∙ declare_fields k (first_field s) _ named.0
        ∙ rw (first_length s)))

-- A declaration is malformed where the rest is not one number.
pub arity_none : (k : Bool) (n : ℕ) (o : Result ℕ Reason) (r : Reason) → o ≡ Err r → malformed ≡ arity_answer k n o
unfolding arity_answer
arity_none k n o r h = rw h

-- A declaration with an arity above 4 is malformed.
pub arity_large : (k : Bool) (n a : ℕ) (o : Result ℕ Reason) → o ≡ Ok a → max_arity < a → malformed ≡ arity_answer k n o
unfolding arity_answer
arity_large k n a o h l = rw h (rw (lt-leb a max_arity l))

-- A declaration with an arity of at most 4 is answered with that arity.
pub arity_is : (k : Bool) (n a : ℕ) (o : Result ℕ Reason) → o ≡ Ok a → a ≤ max_arity → Ok (Declare k n a) ≡ arity_answer k n o
unfolding arity_answer
arity_is k n a o h l = rw h (rw (le-leb a max_arity l))
