-- What holds after the first line is looked at: the order in force is in the table, and the lines from there on are read in it. Assumes
-- nothing.
use Prim.Native.Nat.{ℕ, ◌≤◌}
use native.Mathlib.Omega.{arith}
use mathlib.Core.Bool.{Bool, true, false, cond, true≢false}
use mathlib.Core.Path.{◌≡◌, refl, sym, ap, ap₂, ◌∙◌, subst}
use mathlib.Core.List.{List, [], ◌∷◌, ◌++◌}
use lib.Dec.{eqb}
use lib.ListN.{length, drop, length-set}
use lib.Seq.{get_or-set_same, drop-set-lt}
use borrow.Author.Tests.{eqb-true, eq-eqb}
use Rattle.formulas.specs.Rules.{oldest, latest}
use Rattle.sheet_format.specs.Limits.{table_numbers}
use Rattle.sheet_format.specs.Bytes.{ascii, extend_line, lines_of}
use Rattle.sheet_format.specs.Sheets.{read_sheet}
use Rattle.sheet_format.specs.FormerOrder.{with_order_line}
use Rattle.sheet_format.proofs.OrderLine.{front_line, other_front, no_other_order_line}
use Rattle.node_table.specs.Layout.{order_number, default_order, former_order}
use Rattle.node_table.specs.Decoding.{order_of}
use Rattle.table_builder.specs.Orders.{put_order}
use Rattle.sheet_reader.specs.declared.first_line.Start.{Start}
use Rattle.sheet_reader.specs.Reader.{Read, nodes_in, node_count, goal_or, goal_named, ReadContract}
use Rattle.sheet_reader.specs.FirstLine.{begins_with, begins_with_order, Started, started, order_line_bytes, read_order}
use Rattle.sheet_reader.proofs.sheet_lines.Reading.{read_on, Begun}

-- the line

-- Bytes that begin with a are a and the bytes after it.
begins_front : (a s : List ℕ) → begins_with a s ≡ true → s ≡ a ++ drop (length a) s
unfolding begins_with
begins_front [] s h = refl
begins_front (b ∷ a) [] h = absurd (true≢false (sym h))
begins_front (b ∷ a) (c ∷ s) h = go (eqb c b) refl h (begins_front a s)
  where
    go : (x : Bool) → eqb c b ≡ x → cond x (begins_with a s) false ≡ true → (begins_with a s ≡ true → s ≡ a ++ drop (length a) s)
        → c ∷ s ≡ b ∷ (a ++ drop (length a) s)
    go true e k ih = ap₂ ◌∷◌ (eqb-true c b e) (ih k)
    go false e k ih = absurd (true≢false (sym k))

-- Bytes put behind a begin with a.
front_begins : (a s : List ℕ) → begins_with a (a ++ s) ≡ true
unfolding begins_with
front_begins [] s = refl
front_begins (b ∷ a) s = rw (eq-eqb b b refl) (front_begins a s)

-- So a test that is true of just these bytes is `begins_with`.
pub begins_is : (a s : List ℕ) (r : Bool) → (r ≡ true → s ≡ a ++ drop (length a) s) × ((rest : List ℕ) → s ≡ a ++ rest → r ≡ true)
    → r ≡ begins_with a s
begins_is a s true h = sym (ap (begins_with a) (h.0 refl) ∙ front_begins a (drop (length a) s))
begins_is a s false h = go (begins_with a s) refl
  where
    go : (b : Bool) → begins_with a s ≡ b → false ≡ b
    go true e = h.1 (drop (length a) s) (begins_front a s e)
    go false e = refl

-- The test of the code is that of the definitions.
order_front : (s : List ℕ) → begins_with_order s ≡ true → s ≡ with_order_line (drop order_line_bytes s)
unfolding begins_with_order ascii
order_front s h = begins_front (ascii "O\tlatest\n") s h

no_order_front : (s : List ℕ) → begins_with_order s ≡ false → (rest : List ℕ) → s ≡ with_order_line rest → ⊥
unfolding begins_with_order ascii
no_order_front s h rest e = true≢false (sym (front_begins (ascii "O\tlatest\n") rest) ∙ ap begins_with_order (sym e) ∙ h)

-- the order in the table

module _ (t : List ℕ) (h : table_numbers ≤ length t) where
  order_written : (n : ℕ) → order_number (put_order t n) ≡ n
  unfolding order_number put_order
  order_written n = get_or-set_same t 8064 n 0 (omega arith)

  default_written : order_of (put_order t default_order) ≡ oldest
  unfolding order_of
  default_written = rw (order_of, order_written default_order)

  former_written : order_of (put_order t former_order) ≡ latest
  unfolding order_of
  former_written = rw (order_of, order_written former_order)

-- Nothing else of the table changes in length or from 8,192 on.
long_written : (t : List ℕ) (n : ℕ) → length (put_order t n) ≡ length t
unfolding put_order
long_written t n = length-set t 8064 n

rest_written : (t : List ℕ) (n : ℕ) → drop table_numbers (put_order t n) ≡ drop table_numbers t
unfolding put_order
rest_written t n = drop-set-lt 8192 t 8064 n (omega arith)

-- the lines behind it

-- The line makes no node, and names no goal.
front_nodes : (rest : List ℕ) → node_count (lines_of (with_order_line rest)).whole ≡ node_count (lines_of rest).whole
unfolding node_count lines_of extend_line ascii nodes_in
front_nodes rest = rw (no_other_order_line (ascii "\tlatest")) (omega arith)

front_goal : (rest : List ℕ) → goal_named (lines_of (with_order_line rest)).whole ≡ goal_named (lines_of rest).whole
unfolding goal_named lines_of extend_line ascii goal_or
front_goal rest = rw (no_other_order_line (ascii "\tlatest"))

-- What holds of each result of a test holds of the one picked.
picked : (P : Started → Type 0) (b : Bool) (x y : Started) → (b ≡ true → P x) → (b ≡ false → P y) → P (cond b x y)
picked P true x y h k = h refl
picked P false x y h k = k refl

module _ (s t : List ℕ) (h : table_numbers ≤ length t) where
  -- Behind the line `O latest`.
  begun_former : begins_with_order s ≡ true → Begun s (put_order t former_order) order_line_bytes 2
  unfolding read_on ascii
  begun_former e =
      let q = order_front s e in
      let l : length s ≡ length (with_order_line (drop order_line_bytes s)) = ap length q in
      let w = long_written t former_order in
      record {
        within = omega arith;
        few = omega arith;
        ahead = rw (former_written t h) (ap read_sheet q ∙ front_line (drop order_line_bytes s));
        nodes = ap (λ (b : List ℕ). node_count (lines_of b).whole) q ∙ front_nodes (drop order_line_bytes s);
        goal = ap (λ (b : List ℕ). goal_named (lines_of b).whole) q ∙ front_goal (drop order_line_bytes s);
        long = omega arith;
      }

  -- At the beginning of every other sheet.
  begun_default : begins_with_order s ≡ false → Begun s (put_order t default_order) 0 1
  unfolding read_on
  begun_default e =
      let w = long_written t default_order in
      record {
        within = omega arith;
        few = omega arith;
        ahead = rw (default_written t h) (other_front s (no_order_front s e));
        nodes = refl;
        goal = refl;
        long = omega arith;
      }

  abbrev BegunWith : Started → Type 0
  BegunWith x = Begun s x.table x.start.at x.start.line

  begun_with : BegunWith (read_order s t)
  unfolding read_order
  begun_with = picked BegunWith (begins_with_order s) _ _ begun_former begun_default

  -- What holds after `read_order`.
  pub begun : (t₁ : List ℕ) (r : Start) → started t₁ r ≡ read_order s t → Begun s t₁ r.at r.line
  begun t₁ r e = subst BegunWith (sym e) begun_with

-- The length and the numbers from 8,192 on stay.
abbrev Kept : List ℕ → List ℕ → Type 0
Kept t u = (length u ≡ length t) × (drop table_numbers u ≡ drop table_numbers t)

order_kept : (s t : List ℕ) → Kept t (read_order s t).table
unfolding read_order
order_kept s t =
    picked (λ x. Kept t x.table) (begins_with_order s) _ _ (λ e. (long_written t former_order, rest_written t former_order))
    (λ e. (long_written t default_order, rest_written t default_order))

-- So a contract from the table with the order is one from the table before.
pub contract_before : (s t t₁ t' : List ℕ) (r : Start) (x : Read) → started t₁ r ≡ read_order s t → ReadContract s t₁ t' x
    → ReadContract s t t' x
contract_before s t t₁ t' r x e c =
    let k : Kept t t₁ = subst (λ (y : Started). Kept t y.table) (sym e) (order_kept s t) in
    record {
      read = c.read;
      well_made = c.well_made;
      counted = c.counted;
      long = c.long ∙ k.0;
      rest = c.rest ∙ k.1;
      named = c.named;
      names = c.names;
    }
