-- Laws of `specs/Lines.antt` and of the lines of `sheet_format`: one for each way through the code. Assumes nothing.
use Prim.Native.Nat.{ℕ, ◌-◌, ◌≤◌}
use Prim.Native.Char.{code}
use native.Mathlib.Omega.{arith}
use mathlib.Core.Bool.{true, false}
use mathlib.Core.Path.{◌≡◌, refl}
use mathlib.Core.List.{List, [], ◌∷◌}
use mathlib.Core.Logic.{◌⊎◌, inl, inr}
use mathlib.Core.Option.{Option, none, some}
use lib.ListN.{length, drop, take, get_or}
use borrow.Author.Tests.{ne_eqb}
use Rattle.std.specs.Prelude.{Ok}
use Rattle.sheet_format.specs.Bytes.{tab, fields}
use Rattle.sheet_format.specs.SheetLines.{variable_line, number_line, true_line, SheetLine, node_line, clause_line, goal_line, numbers}
use Rattle.sheet_format.specs.SheetLines.{declaration, no_number, one_number, two_numbers, with_variable, application, line_of, of_fields}
use Rattle.sheet_format.specs.SheetLines.{parse_line}
use Rattle.line_parser.proofs.fields.Laws.{rest_part}
use Rattle.line_parser.proofs.fields.Fields.{numbers_some}
use Rattle.line_parser.specs.declared.lines.NodeLine.TheVariants.{True}
use Rattle.line_parser.specs.declared.lines.Line.TheVariants.{Node}
use Rattle.line_parser.specs.Lines.{malformed, node_answer, line_answer, connective_of, quantifier_of}
use Rattle.line_parser.proofs.lines.Laws.{alone, cond_same, lettered, long}

-- by the letter

module _ (c : ℕ) (fs : List (List ℕ)) where
  -- The letter F begins the declaration of a function symbol.
  pub letter_F : c ≡ code "F" → declaration true fs ≡ line_of c fs
  unfolding line_of
  letter_F e = rw e

  -- The letter P begins the declaration of a predicate.
  pub letter_P : c ≡ code "P" → declaration false fs ≡ line_of c fs
  unfolding line_of
  letter_P e = rw e

  -- The letter V begins the line of a variable.
  pub letter_V : c ≡ code "V" → one_number (λ v. node_line (variable_line v)) (with_variable (numbers fs)) ≡ line_of c fs
  unfolding line_of
  letter_V e = rw e

  -- The letter N begins the line of a number as a term.
  pub letter_N : c ≡ code "N" → one_number (λ n. node_line (number_line n)) (numbers fs) ≡ line_of c fs
  unfolding line_of
  letter_N e = rw e

  -- The letter A begins the line of an application.
  pub letter_A : c ≡ code "A" → application (numbers fs) ≡ line_of c fs
  unfolding line_of
  letter_A e = rw e

  -- The letters `&`, `|` and `>` begin the lines of and, or and implies.
  pub letter_connective : (c ≡ code "&") ⊎ ((c ≡ code ">") ⊎ (c ≡ code "|")) → connective_of c (numbers fs) ≡ line_of c fs
  unfolding line_of connective_of
  letter_connective (inl e) = rw e
  letter_connective (inr (inl e)) = rw e
  letter_connective (inr (inr e)) = rw e

  -- The letters E and U begin the lines of some and every.
  pub letter_quantifier : (c ≡ code "E") ⊎ (c ≡ code "U") → quantifier_of c (numbers fs) ≡ line_of c fs
  unfolding line_of quantifier_of
  letter_quantifier (inl e) = rw e
  letter_quantifier (inr e) = rw e

  -- The letter C begins the line of a clause.
  pub letter_C : c ≡ code "C" → one_number clause_line (numbers fs) ≡ line_of c fs
  unfolding line_of
  letter_C e = rw e

  -- The letter Q begins the line of the goal.
  pub letter_Q : c ≡ code "Q" → one_number goal_line (numbers fs) ≡ line_of c fs
  unfolding line_of
  letter_Q e = rw e

-- The letter Y makes no line with a field after it.
true_alone : (l : SheetLine) (s : List ℕ) → no_number l (numbers (fields s)) ≡ none
unfolding no_number
true_alone l s = go (numbers (fields s)) (numbers_some s)
  where
    go : (x : Option (List ℕ)) → (x ≡ some [] → ⊥) → no_number l x ≡ none
    go none h = refl
    go (some []) h = absurd (h refl)
    go (some (n ∷ ns)) h = refl

-- Any other letter with a field after it makes a malformed line.
pub letter_other : (c : ℕ) (s : List ℕ) → (c ≡ code "F" → ⊥) → (c ≡ code "P" → ⊥) → (c ≡ code "V" → ⊥) → (c ≡ code "N" → ⊥)
    → (c ≡ code "A" → ⊥)
    → ((c ≡ code "&") ⊎ ((c ≡ code ">") ⊎ (c ≡ code "|")) → ⊥) → ((c ≡ code "E") ⊎ (c ≡ code "U") → ⊥)
    → (c ≡ code "C" → ⊥) → (c ≡ code "Q" → ⊥) → malformed ≡ line_answer (line_of c (fields s))
unfolding line_of line_answer
letter_other c s f p v n a o q l g =
    simp (
      ne_eqb c (code "F") f,
      ne_eqb c (code "P") p,
      ne_eqb c (code "V") v,
      ne_eqb c (code "N") n,
      ne_eqb c (code "A") a,
      true_alone (node_line true_line) s,
      ne_eqb c (code "&") (λ e. o (inl e)),
      ne_eqb c (code "|") (λ e. o (inr (inr e))),
      ne_eqb c (code ">") (λ e. o (inr (inl e))),
      ne_eqb c (code "E") (λ e. q (inl e)),
      ne_eqb c (code "U") (λ e. q (inr e)),
      ne_eqb c (code "C") l,
      ne_eqb c (code "Q") g,
      cond_same,
    )

-- the whole line

-- An empty line is malformed.
line_empty : (s : List ℕ) → length s ≡ 0 → malformed ≡ line_answer (parse_line s)
unfolding parse_line of_fields fields line_answer
line_empty [] h = refl
line_empty (c ∷ cs) h = absurd (omega arith)

-- The letter Y alone is the line of true.
pub line_true : (s : List ℕ) → length s ≡ 1 → get_or s 0 0 ≡ code "Y" → Ok (Node True) ≡ line_answer (parse_line s)
unfolding line_of numbers no_number line_answer node_answer
line_true [] h e = absurd (omega arith)
line_true (c ∷ []) h e = rw (alone c, e)
line_true (c ∷ d ∷ ds) h e = absurd (omega arith)

-- A letter alone other than Y is malformed.
line_alone : (s : List ℕ) → length s ≡ 1 → (get_or s 0 0 ≡ code "Y" → ⊥) → malformed ≡ line_answer (parse_line s)
unfolding line_of numbers no_number one_number two_numbers with_variable application declaration line_answer
line_alone [] h e = absurd (omega arith)
line_alone (c ∷ []) h e = rw (alone c) (simp (ne_eqb c (code "Y") e, cond_same))
line_alone (c ∷ d ∷ ds) h e = absurd (omega arith)

-- Where a tab follows the letter, the fields of the rest are read.
pub line_fields_lem : (s : List ℕ) → 2 ≤ length s → get_or s 1 0 ≡ tab
    → line_answer (line_of (get_or s 0 0) (fields (take (length s - 2) (drop 2 s)))) ≡ line_answer (parse_line s)
line_fields_lem [] h e = absurd (omega arith)
line_fields_lem (c ∷ []) h e = absurd (omega arith)
line_fields_lem (c ∷ d ∷ ds) h e = rw (rest_part 2 (c ∷ d ∷ ds), e) (rw (lettered c ds))

-- Where another byte than a tab follows the letter, the line is malformed.
line_long : (s : List ℕ) → (length s ≡ 0 → ⊥) → (length s ≡ 1 → ⊥) → (get_or s 1 0 ≡ tab → ⊥) → malformed ≡ line_answer (parse_line s)
unfolding line_answer
line_long [] h k e = absurd (h refl)
line_long (c ∷ []) h k e = absurd (k refl)
line_long (c ∷ d ∷ ds) h k e = rw (long c d ds (ne_eqb d tab e))

-- Any other line is malformed.
pub line_other : (s : List ℕ) → (length s ≡ 1 → get_or s 0 0 ≡ code "Y" → ⊥) → (2 ≤ length s → get_or s 1 0 ≡ tab → ⊥)
    → malformed ≡ line_answer (parse_line s)
line_other [] h k = line_empty [] refl
line_other (c ∷ []) h k = line_alone (c ∷ []) refl (h refl)
line_other (c ∷ d ∷ ds) h k = line_long (c ∷ d ∷ ds) (λ e. omega arith) (λ e. omega arith) (k (omega arith))
