-- Request W-207: a sheet with the line `O latest` in front is read in the former order, from line 2 on, and otherwise alike.
use Prim.Native.Nat.{ℕ, suc, ◌+◌}
use Prim.Native.Char.{code}
use mathlib.Core.Path.{◌≡◌, refl, sym, ◌∙◌, ap, subst}
use mathlib.Core.Bool.{Bool, true, false, cond}
use mathlib.Core.List.{List, [], ◌∷◌, ◌++◌}
use mathlib.Core.Option.{none}
use lib.Dec.{eqb}
use lib.ListN.{length}
use borrow.Author.Tests.{eqb-true}
use native.Mathlib.Omega.{arith}
use Rattle.formulas.specs.Rules.{Order, oldest, latest}
use Rattle.sheet_format.specs.Bytes.{ascii, lf, SplitLines, extend_line, lines_of, extend_field, fields, same_bytes}
use Rattle.sheet_format.specs.SheetLines.{line_of, of_fields, parse_line}
use Rattle.sheet_format.specs.Sheets.{Sheet, Form, refusal, Read, sheet, refused, Table, Taken, next, stop, last, take_line, at_end}
use Rattle.sheet_format.specs.Sheets.{after_goal, read_from, empty_table, order_line, read_lines, read_sheet_by, sheet_form, read_sheet}
use Rattle.sheet_format.specs.FormerOrder.{read_formerly, one_line_lower, in_order, with_order_line}
use Rattle.sheet_format.specs.Promises.{ReadsFormerOrder, SameSheetInBothOrders, OrderInForce}
use Rattle.sheet_format.proofs.Bytes.{same_equal}

-- one line lower

-- The number of the next line matters to refusals alone.
at_end_lower : (r : List ℕ) (k : ℕ) → at_end r (suc k) ≡ one_line_lower (at_end r k)
unfolding at_end one_line_lower
at_end_lower [] k = refl
at_end_lower (c ∷ cs) k = refl

after_goal_lower : (ls : List (List ℕ)) (r : List ℕ) (k : ℕ) (s : Sheet) → after_goal ls r (suc k) s ≡ one_line_lower (after_goal ls r k s)
unfolding after_goal one_line_lower
after_goal_lower [] [] k s = refl
after_goal_lower [] (c ∷ cs) k s = refl
after_goal_lower (l ∷ ls) r k s = refl

from_lower : (f : Form) (o : Order) (ls : List (List ℕ)) (r : List ℕ) (k : ℕ) (t : Table)
    → read_from f o ls r (suc k) t ≡ one_line_lower (read_from f o ls r k t)
unfolding read_from one_line_lower
from_lower f o [] r k t = at_end_lower r k
from_lower f o (l ∷ ls) r k t = go (take_line f.same t (f.line l)) (λ u. from_lower f o ls r (suc k) u)
  where
    go : (x : Taken) → ((u : Table) → read_from f o ls r (suc (suc k)) u ≡ one_line_lower (read_from f o ls r (suc k) u))
        → elim x [
          | next u ↦ read_from f o ls r (suc (suc k)) u
          | stop n ↦ refused (refusal n (suc k))
          | last g ↦ after_goal ls r (suc (suc k)) (record { order = o; symbols = t.symbols; clauses = t.clauses; goal = g })
        ] ≡ one_line_lower (elim x [
          | next u ↦ read_from f o ls r (suc k) u
          | stop n ↦ refused (refusal n k)
          | last g ↦ after_goal ls r (suc k) (record { order = o; symbols = t.symbols; clauses = t.clauses; goal = g })
        ])
    go (next u) ih = ih u
    go (stop n) ih = refl
    go (last g) ih = after_goal_lower ls r (suc k) (record { order = o; symbols = t.symbols; clauses = t.clauses; goal = g })

-- The bytes behind the line are read in the former order, from line 2 on.
pub front_line : (bytes : List ℕ)
    → read_sheet (with_order_line bytes) ≡ read_from sheet_form latest (lines_of bytes).whole (lines_of bytes).rest 2 empty_table
unfolding read_sheet read_sheet_by read_lines ascii lines_of extend_line same_bytes
front_line bytes = refl

pub reads_former_order_lem : ReadsFormerOrder
unfolding read_formerly
reads_former_order_lem bytes = front_line bytes ∙ from_lower sheet_form latest (lines_of bytes).whole (lines_of bytes).rest 1 empty_table

-- another order

-- What is read in the order p, where x is read in another: the same sheet, if it is a sheet.
abbrev ReadsIn : Order → Read → Read → Type 0
ReadsIn p (sheet s) x = x ≡ sheet (in_order p s)
ReadsIn p (refused r) x = Unit {0}

after_goal_order : (p : Order) (ls : List (List ℕ)) (r : List ℕ) (k j : ℕ) (s : Sheet)
    → ReadsIn p (after_goal ls r k s) (after_goal ls r j (in_order p s))
unfolding after_goal
after_goal_order p [] [] k j s = refl
after_goal_order p [] (c ∷ cs) k j s = tt
after_goal_order p (l ∷ ls) r k j s = tt

at_end_order : (p : Order) (r : List ℕ) (k : ℕ) (x : Read) → ReadsIn p (at_end r k) x
unfolding at_end
at_end_order p [] k x = tt
at_end_order p (c ∷ cs) k x = tt

-- Neither the order nor the number of the next line matters to what else the sheet is.
from_order : (f : Form) (o p : Order) (ls : List (List ℕ)) (r : List ℕ) (k j : ℕ) (t : Table)
    → ReadsIn p (read_from f o ls r k t) (read_from f p ls r j t)
unfolding read_from in_order
from_order f o p [] r k j t = at_end_order p r k _
from_order f o p (l ∷ ls) r k j t = go (take_line f.same t (f.line l)) (λ u. from_order f o p ls r (suc k) (suc j) u)
  where
    go : (x : Taken) → ((u : Table) → ReadsIn p (read_from f o ls r (suc k) u) (read_from f p ls r (suc j) u))
        → ReadsIn p (elim x [
          | next u ↦ read_from f o ls r (suc k) u
          | stop n ↦ refused (refusal n k)
          | last g ↦ after_goal ls r (suc k) (record { order = o; symbols = t.symbols; clauses = t.clauses; goal = g })
        ]) (elim x [
          | next u ↦ read_from f p ls r (suc j) u
          | stop n ↦ refused (refusal n j)
          | last g ↦ after_goal ls r (suc j) (record { order = p; symbols = t.symbols; clauses = t.clauses; goal = g })
        ])
    go (next u) ih = ih u
    go (stop n) ih = tt
    go (last g) ih =
        after_goal_order p ls r (suc k) (suc j) (record { order = o; symbols = t.symbols; clauses = t.clauses; goal = g })

-- the order of a sheet

-- A sheet has the order in which it is read.
abbrev HasOrder : Order → Read → Type 0
HasOrder o (sheet s) = s.order ≡ o
HasOrder o (refused r) = Unit {0}

after_goal_has : (ls : List (List ℕ)) (r : List ℕ) (k : ℕ) (s : Sheet) → HasOrder s.order (after_goal ls r k s)
unfolding after_goal
after_goal_has [] [] k s = refl
after_goal_has [] (c ∷ cs) k s = tt
after_goal_has (l ∷ ls) r k s = tt

at_end_has : (o : Order) (r : List ℕ) (k : ℕ) → HasOrder o (at_end r k)
unfolding at_end
at_end_has o [] k = tt
at_end_has o (c ∷ cs) k = tt

from_has : (f : Form) (o : Order) (ls : List (List ℕ)) (r : List ℕ) (k : ℕ) (t : Table) → HasOrder o (read_from f o ls r k t)
unfolding read_from
from_has f o [] r k t = at_end_has o r k
from_has f o (l ∷ ls) r k t = go (take_line f.same t (f.line l)) (λ u. from_has f o ls r (suc k) u)
  where
    go : (x : Taken) → ((u : Table) → HasOrder o (read_from f o ls r (suc k) u))
        → HasOrder o (elim x [
          | next u ↦ read_from f o ls r (suc k) u
          | stop n ↦ refused (refusal n k)
          | last g ↦ after_goal ls r (suc k) (record { order = o; symbols = t.symbols; clauses = t.clauses; goal = g })
        ])
    go (next u) ih = ih u
    go (stop n) ih = tt
    go (last g) ih = after_goal_has ls r (suc k) (record { order = o; symbols = t.symbols; clauses = t.clauses; goal = g })

-- The two orders differ.
not_both : (o : Order) → o ≡ oldest → o ≡ latest → ⊥
not_both o e h = let z : oldest ≡ latest = sym e ∙ h in let q : ◌≡◌ {A = ℕ} 0 1 = cc in omega arith

-- The lines of a sheet in the default order, from line 2 on and in the former order.
lines_order : (f : Form) (ls : List (List ℕ)) (r : List ℕ) (s : Sheet) → read_lines f ls r ≡ sheet s → s.order ≡ oldest
    → read_from f latest ls r 2 empty_table ≡ sheet (in_order latest s)
unfolding read_lines
lines_order f [] r s e o =
    subst (λ x. ReadsIn latest x (read_from f latest [] r 2 empty_table)) e (from_order f oldest latest [] r 1 2 empty_table)
lines_order f (l ∷ ls) r s e o = go (same_bytes l order_line) e
  where
    go : (b : Bool) → cond b (read_from f latest ls r 2 empty_table) (read_from f oldest (l ∷ ls) r 1 empty_table) ≡ sheet s
        → read_from f latest (l ∷ ls) r 2 empty_table ≡ sheet (in_order latest s)
    go true e = absurd (not_both s.order o (subst (HasOrder latest) e (from_has f latest ls r 2 empty_table)))
    go false e =
        subst (λ x. ReadsIn latest x (read_from f latest (l ∷ ls) r 2 empty_table)) e (from_order f oldest latest (l ∷ ls) r 1 2 empty_table)

pub same_in_both_orders : SameSheetInBothOrders
unfolding read_sheet read_sheet_by
same_in_both_orders bytes s e o = front_line bytes ∙ lines_order sheet_form (lines_of bytes).whole (lines_of bytes).rest s e o

-- the first line

-- The bytes begin with the first line and its LF.
abbrev Begins : List ℕ → List ℕ → Type 0
Begins l bytes = (rest : List ℕ) × (bytes ≡ l ++ (lf ∷ rest))

first_begins : (bytes : List ℕ) (l : List ℕ) (ls : List (List ℕ)) → (lines_of bytes).whole ≡ l ∷ ls → Begins l bytes
unfolding lines_of extend_line
first_begins [] l ls e = absurd (let q : ◌≡◌ {A = ℕ} 0 1 = cc in omega arith)
first_begins (c ∷ cs) l ls e = go (eqb c lf) refl (λ m ns h. first_begins cs m ns h) e
  where
    split : Bool → SplitLines
    split b = elim b [
      | true ↦ record { whole = [] ∷ (lines_of cs).whole; rest = (lines_of cs).rest }
      | false ↦ extend_line c (lines_of cs).whole (lines_of cs).rest
    ]

    later : (ms : List (List ℕ)) (r : List ℕ) → ((m : List ℕ) (ns : List (List ℕ)) → ms ≡ m ∷ ns → Begins m cs)
        → (extend_line c ms r).whole ≡ l ∷ ls → Begins l (c ∷ cs)
    later [] r ih h = absurd (let q : ◌≡◌ {A = ℕ} 0 1 = cc in omega arith)
    later (m ∷ ns) r ih h =
        let b = ih m ns refl in
        let q : c ∷ m ≡ l = cc in
        (b.0, ap (c ∷◌) b.1 ∙ ap (λ (k : List ℕ). k ++ (lf ∷ b.0)) q)

    go : (b : Bool) → eqb c lf ≡ b → ((m : List ℕ) (ns : List (List ℕ)) → (lines_of cs).whole ≡ m ∷ ns → Begins m cs)
        → (split b).whole ≡ l ∷ ls → Begins l (c ∷ cs)
    go true q ih h =
        let e = eqb-true c lf q in
        let n : [] ≡ l = cc in
        (cs, ap (◌∷ cs) e ∙ ap (λ (k : List ℕ). k ++ (lf ∷ cs)) n)
    go false q ih h = later (lines_of cs).whole (lines_of cs).rest ih h

-- If the first line is another, the lines are read in the default order, from line 1 on.
lines_default : (bytes : List ℕ) → ((rest : List ℕ) → bytes ≡ with_order_line rest → ⊥) → (ls : List (List ℕ)) → (lines_of bytes).whole ≡ ls
    → read_lines sheet_form ls (lines_of bytes).rest ≡ read_from sheet_form oldest ls (lines_of bytes).rest 1 empty_table
unfolding read_lines
lines_default bytes n [] q = refl
lines_default bytes n (l ∷ ls) q = go (same_bytes l order_line) refl
  where
    r : List ℕ
    r = (lines_of bytes).rest

    go : (b : Bool) → same_bytes l order_line ≡ b
        → cond b (read_from sheet_form latest ls r 2 empty_table) (read_from sheet_form oldest (l ∷ ls) r 1 empty_table)
        ≡ read_from sheet_form oldest (l ∷ ls) r 1 empty_table
    go true z =
        let b = subst (λ (k : List ℕ). Begins k bytes) (same_equal l order_line z) (first_begins bytes l ls q) in
        absurd (n b.0 b.1)
    go false z = refl

-- So bytes that do not begin with the line are.
pub other_front : (bytes : List ℕ) → ((rest : List ℕ) → bytes ≡ with_order_line rest → ⊥)
    → read_sheet bytes ≡ read_from sheet_form oldest (lines_of bytes).whole (lines_of bytes).rest 1 empty_table
unfolding read_sheet read_sheet_by
other_front bytes n = lines_default bytes n (lines_of bytes).whole refl

-- A sheet in the former order begins with the line.
lines_former : (bytes : List ℕ) (s : Sheet) (ls : List (List ℕ)) → (lines_of bytes).whole ≡ ls
    → read_lines sheet_form ls (lines_of bytes).rest ≡ sheet s → s.order ≡ latest → Begins order_line bytes
unfolding read_lines
lines_former bytes s [] q e o =
    absurd (not_both s.order (subst (HasOrder oldest) e (from_has sheet_form oldest [] (lines_of bytes).rest 1 empty_table)) o)
lines_former bytes s (l ∷ ls) q e o = go (same_bytes l order_line) refl e
  where
    r : List ℕ
    r = (lines_of bytes).rest

    go : (b : Bool) → same_bytes l order_line ≡ b
        → cond b (read_from sheet_form latest ls r 2 empty_table) (read_from sheet_form oldest (l ∷ ls) r 1 empty_table) ≡ sheet s
        → Begins order_line bytes
    go true z e = subst (λ (k : List ℕ). Begins k bytes) (same_equal l order_line z) (first_begins bytes l ls q)
    go false z e =
        absurd (not_both s.order (subst (HasOrder oldest) e (from_has sheet_form oldest (l ∷ ls) r 1 empty_table)) o)

-- A sheet that begins with the line is in the former order.
front_former : (bytes : List ℕ) (s : Sheet) → read_sheet (with_order_line bytes) ≡ sheet s → s.order ≡ latest
front_former bytes s e =
    subst (HasOrder latest) (sym (front_line bytes) ∙ e)
    (from_has sheet_form latest (lines_of bytes).whole (lines_of bytes).rest 2 empty_table)

pub order_in_force_lem : OrderInForce
unfolding read_sheet read_sheet_by
order_in_force_lem bytes s e = (
  λ o. lines_former bytes s (lines_of bytes).whole refl e o,
  λ b. front_former b.0 s (ap read_sheet (sym b.1) ∙ e),
)

-- the letter O

-- A field after the letter O makes no line of it.
letter_none : (fs : List (List ℕ)) → of_fields (extend_field (code "O") fs) ≡ none
unfolding of_fields extend_field line_of
letter_none [] = refl
letter_none ([] ∷ fs) = refl
letter_none ((d ∷ ds) ∷ fs) = refl

-- No line that begins with this letter is a line of a sheet.
pub no_other_order_line : (l : List ℕ) → parse_line (code "O" ∷ l) ≡ none
unfolding parse_line fields
no_other_order_line l = letter_none (fields l)

-- A second such line is refused.
order_line_once : (rest : List ℕ) → read_sheet (with_order_line (with_order_line rest)) ≡ refused (refusal 6 2)
unfolding read_from take_line parse_line of_fields line_of fields extend_field ascii lines_of extend_line sheet_form
order_line_once rest = front_line (with_order_line rest)

-- If the bytes and the bytes with the line in front are both sheets, they are the same sheet in the two orders.
pub two_sheets : (bytes : List ℕ) (s z : Sheet) → read_sheet bytes ≡ sheet s → read_sheet (with_order_line bytes) ≡ sheet z
    → (s.order ≡ oldest) × (z ≡ in_order latest s)
two_sheets bytes s z e h = go s.order refl
  where
    go : (o : Order) → s.order ≡ o → (s.order ≡ oldest) × (z ≡ in_order latest s)
    go oldest q = let k = sym h ∙ same_in_both_orders bytes s e q in (q, cc)
    go latest q =
        let r = (order_in_force_lem bytes s e).0 q in
        let k : sheet z ≡ refused (refusal 6 2) =
        sym h ∙ ap (λ (b : List ℕ). read_sheet (with_order_line b)) r.1 ∙ order_line_once r.0 in
        absurd (let x : ◌≡◌ {A = ℕ} 0 1 = cc in omega arith)

-- The line is nine bytes long.
pub line_longer : (bytes : List ℕ) → length (with_order_line bytes) ≡ 9 + length bytes
unfolding ascii
line_longer bytes = omega arith
