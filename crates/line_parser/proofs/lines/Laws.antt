-- Laws of `specs/Lines.antt` and of the lines of `sheet_format`: one for each way through the code. Assumes nothing.
use Prim.Native.Nat.{ℕ, ◌+◌, ◌-◌, ◌≤◌, ◌<◌}
use native.Mathlib.Omega.{arith}
use mathlib.Core.Bool.{Bool, true, false, cond}
use mathlib.Core.Path.{◌≡◌, refl}
use mathlib.Core.List.{List, [], ◌∷◌}
use mathlib.Core.Option.{Option, none, some}
use lib.Dec.{ltb, eqb}
use lib.ListN.{length, drop, take, length-drop}
use borrow.Author.Tests.{lt-ltb, le-ltb, eqb-true}
use Rattle.sheet_format.specs.Limits.{max_arity}
use Rattle.sheet_format.specs.Bytes.{tab, extend_field, fields}
use Rattle.sheet_format.specs.SheetLines.{cons_number, numbers, line_of, of_fields, parse_line}
use Rattle.std.specs.Prelude.{Some, None, Ok, Err}
use Rattle.line_parser.specs.Fields.{field_len, first_number}
use Rattle.line_parser.proofs.fields.Laws.{rest_part}
use Rattle.line_parser.proofs.fields.Fields.{first_bad, first_value, first_last, first_more, numbers_some}
use Rattle.line_parser.specs.declared.lines.Nodes.{Nodes}
use Rattle.line_parser.specs.declared.lines.NodeLine.TheVariants.{Apply}
use Rattle.line_parser.specs.declared.lines.Line.TheVariants.{Node}
use Rattle.outcomes.specs.declared.refusals.Reason.{Reason}
use Rattle.line_parser.specs.Lines.{malformed, one_answer, two_answer, push_node, apply_on, apply_answer}

-- A choice between equal values is that value.
pub cond_same : {A : Type 0} (t : Bool) (a : A) → cond t a a ≡ a
cond_same true a = refl
cond_same false a = refl

-- one number

module _ (s : List ℕ) where
  -- Where no number comes first, there is not one number.
  pub one_bad : first_number s ≡ None → malformed ≡ one_answer (numbers (fields s))
  unfolding one_answer
  one_bad h = rw (first_bad s h)

  -- Where another field follows, there is not one number.
  pub one_more_lem : (n e : ℕ) → first_number s ≡ Some (n, e) → e < length s → malformed ≡ one_answer (numbers (fields s))
  unfolding one_answer cons_number
  one_more_lem n e h l = rw (first_more s n e h l) (go (numbers (fields (drop (e + 1) s))) (numbers_some (drop (e + 1) s)))
    where
      go : (x : Option (List ℕ)) → (x ≡ some [] → ⊥) → malformed ≡ one_answer (cons_number (some n) x)
      go none k = refl
      go (some []) k = absurd (k refl)
      go (some (m ∷ ms)) k = refl

  -- A number that is the only field is the one number.
  pub one_last : (n e : ℕ) → first_number s ≡ Some (n, e) → length s ≤ e → Ok n ≡ one_answer (numbers (fields s))
  unfolding one_answer
  one_last n e h l = rw (first_last s n e h l)

-- Where the answer is `Ok n`, the only number is n.
pub one_is : (x : Option (List ℕ)) (n : ℕ) → one_answer x ≡ Ok n → x ≡ some (n ∷ [])
unfolding one_answer
one_is none n h = let z : ◌≡◌ {A = ℕ} 0 1 = cc in absurd (omega arith)
one_is (some []) n h = let z : ◌≡◌ {A = ℕ} 0 1 = cc in absurd (omega arith)
one_is (some (m ∷ [])) n h = let z : m ≡ n = cc in rw z
one_is (some (m ∷ o ∷ ns)) n h = let z : ◌≡◌ {A = ℕ} 0 1 = cc in absurd (omega arith)

-- two numbers

module _ (s : List ℕ) where
  -- Where no number comes first, there are not two numbers.
  pub two_bad : first_number s ≡ None → malformed ≡ two_answer (numbers (fields s))
  unfolding two_answer
  two_bad h = rw (first_bad s h)

  -- Where no field follows the first number, there are not two numbers.
  pub two_last : (n e : ℕ) → first_number s ≡ Some (n, e) → length s ≤ e → malformed ≡ two_answer (numbers (fields s))
  unfolding two_answer
  two_last n e h l = rw (first_last s n e h l)

  -- Where a field follows the first number, the rest is read.
  pub two_more : (n e : ℕ) → first_number s ≡ Some (n, e) → e < length s
      → two_answer (cons_number (some n) (numbers (fields (take (length s - (e + 1)) (drop (e + 1) s))))) ≡ two_answer (numbers (fields s))
  two_more n e h l = rw (rest_part (e + 1) s, first_more s n e h l)

-- Where the rest is not one number, there are not two numbers.
pub second_none : (n : ℕ) (x : Option (List ℕ)) (r : Reason) → one_answer x ≡ Err r → malformed ≡ two_answer (cons_number (some n) x)
unfolding one_answer two_answer cons_number
second_none n none r h = refl
second_none n (some []) r h = refl
second_none n (some (m ∷ [])) r h = let z : ◌≡◌ {A = ℕ} 0 1 = cc in absurd (omega arith)
second_none n (some (m ∷ o ∷ ns)) r h = refl

-- Where the rest is one number, there are two numbers.
pub second_is : (n m : ℕ) (x : Option (List ℕ)) → one_answer x ≡ Ok m → Ok (n, m) ≡ two_answer (cons_number (some n) x)
unfolding two_answer cons_number
second_is n m x h = rw (one_is x m h)

-- A

module _ (s : List ℕ) (f : ℕ) (ns : Nodes) where
  -- The application is malformed where no number comes next.
  pub nodes_bad : first_number s ≡ None → malformed ≡ apply_answer f ns (numbers (fields s))
  unfolding apply_answer
  nodes_bad h = rw (first_bad s h)

  -- The application is malformed where four nodes were read already.
  pub nodes_full : (n e : ℕ) → first_number s ≡ Some (n, e) → max_arity ≤ ns.count → malformed ≡ apply_answer f ns (numbers (fields s))
  unfolding apply_answer apply_on cons_number
  nodes_full n e h l = rw (first_value s n e h) (go (numbers (cond (ltb (field_len s) (length s)) (fields (drop (field_len s + 1) s)) [])))
    where
      go : (x : Option (List ℕ)) → malformed ≡ apply_answer f ns (cons_number (some n) x)
      go none = refl
      go (some ms) = rw (le-ltb ns.count max_arity l)

  -- The last node ends the application.
  pub nodes_last : (n e : ℕ) (more : Nodes) → first_number s ≡ Some (n, e) → ns.count < max_arity → more ≡ push_node ns n → length s ≤ e
      → Ok (Node (Apply f more)) ≡ apply_answer f ns (numbers (fields s))
  unfolding apply_answer apply_on
  nodes_last n e more h l a k = rw (first_last s n e h k) (rw (lt-ltb ns.count max_arity l, a))

  -- A node with fields after it is added, and the rest is read.
  pub nodes_more : (n e : ℕ) (more : Nodes) → first_number s ≡ Some (n, e) → ns.count < max_arity → more ≡ push_node ns n → e < length s
      → apply_answer f more (numbers (fields (take (length s - (e + 1)) (drop (e + 1) s)))) ≡ apply_answer f ns (numbers (fields s))
  unfolding apply_answer apply_on cons_number
  nodes_more n e more h l a k = rw (rest_part (e + 1) s, first_more s n e h k) (go (numbers (fields (drop (e + 1) s))))
    where
      go : (x : Option (List ℕ)) → apply_answer f more x ≡ apply_answer f ns (cons_number (some n) x)
      go none = refl
      go (some ms) = rw (lt-ltb ns.count max_arity l, a)

-- What is handed on is shorter than the line.
pub rest_less : (s : List ℕ) (e n : ℕ) → length s ≡ n → e < length s → length (take (length s - (e + 1)) (drop (e + 1) s)) < n
rest_less s e n q h = rw (rest_part (e + 1) s) (omega (arith, length-drop (e + 1) s))

-- A letter alone is parsed by the letter, with no fields.
pub alone : (c : ℕ) → parse_line (c ∷ []) ≡ line_of c []
unfolding parse_line of_fields fields extend_field line_of
alone c = go (eqb c tab) refl
  where
    go : (t : Bool) → eqb c tab ≡ t → parse_line (c ∷ []) ≡ line_of c []
    go true e = rw (eqb-true c tab e)
    go false e = rw (e, fields)

-- A letter and a tab are parsed by the letter, with the fields of the rest.
pub lettered : (c : ℕ) (ds : List ℕ) → parse_line (c ∷ tab ∷ ds) ≡ line_of c (fields ds)
unfolding parse_line of_fields fields extend_field line_of
lettered c ds = go (eqb c tab) refl
  where
    go : (t : Bool) → eqb c tab ≡ t → parse_line (c ∷ tab ∷ ds) ≡ line_of c (fields ds)
    go true e = rw (eqb-true c tab e)
    go false e = rw (e, fields)

-- A letter that is followed by another byte than a tab makes no line.
pub long : (c d : ℕ) (ds : List ℕ) → eqb d tab ≡ false → parse_line (c ∷ d ∷ ds) ≡ none
unfolding parse_line of_fields fields extend_field
long c d ds h = go (eqb c tab) refl (fields ds)
  where
    go : (t : Bool) → eqb c tab ≡ t → (fs : List (List ℕ)) → parse_line (c ∷ d ∷ ds) ≡ none
    go true e fs = rw (e, fields)
    go false e fs = rw (e, fields) (rw (h, fields) (rest (fields ds)))
      where
        rest : (gs : List (List ℕ)) → of_fields (extend_field c (extend_field d gs)) ≡ none
        rest [] = refl
        rest (g ∷ gs) = refl
