-- Request W-207: an O line elsewhere, or with another word, is refused under 6, after a Q line under 11.
use Prim.Native.Nat.{ℕ, suc, ◌+◌, ◌≤◌}
use Prim.Native.Char.{code}
use mathlib.Core.Path.{◌≡◌, refl, sym, ◌∙◌, ap}
use mathlib.Core.Bool.{Bool, true, false, cond}
use mathlib.Core.List.{List, [], ◌∷◌, ◌++◌}
use mathlib.Core.Option.{none}
use lib.Dec.{eqb}
use lib.ListN.{length}
use borrow.Author.Tests.{lt-ltb, le-ltb}
use native.Mathlib.Omega.{arith}
use Rattle.formulas.specs.Rules.{Order, oldest, latest}
use Rattle.sheet_format.specs.Bytes.{lf, SplitLines, extend_line, lines_of, same_bytes}
use Rattle.sheet_format.specs.Sheets.{Sheet, Form, Refusal, refusal, refused, Table, Taken, next, stop, last, take_line}
use Rattle.sheet_format.specs.Sheets.{at_end, after_goal, read_from, empty_table, order_line, read_lines, read_sheet_by, sheet_form, read_sheet}
use Rattle.sheet_format.specs.OrderLines.{order_line_refusal}
use Rattle.sheet_format.specs.Promises.{OtherOrderLinesRefused}
use Rattle.sheet_format.proofs.OrderLine.{other_front, no_other_order_line}

-- where reading stops

-- Lines and bytes after the last LF that are refused under 6 at once: the first line is malformed, or has no LF.
abbrev Malformed : Form → List (List ℕ) → List ℕ → Type 0
Malformed f [] [] = ⊥
Malformed f [] (c ∷ cs) = Unit {0}
Malformed f (l ∷ ls) r = f.line l ≡ none

malformed_refused : (f : Form) (o : Order) (ys : List (List ℕ)) (r : List ℕ) (k : ℕ) (t : Table) → Malformed f ys r
    → read_from f o ys r k t ≡ refused (refusal 6 k)
unfolding read_from at_end take_line
malformed_refused f o [] [] k t m = absurd m
malformed_refused f o [] (c ∷ cs) k t m = refl
malformed_refused f o (l ∷ ls) r k t m = rw (m, read_from)

-- Only the Q line is missing, which is told at the line after the n lines.
lacking : (n : ℕ) → order_line_refusal n (refused (refusal 11 (suc n))) ≡ refusal 6 (suc n)
unfolding order_line_refusal
lacking n = rw (lt-ltb n (suc n) (omega arith))

-- One of the n lines is refused.
stands : (n : ℕ) (r : Refusal) → r.line ≤ n → order_line_refusal n (refused r) ≡ r
unfolding order_line_refusal
stands n r h = rw (le-ltb n r.line h)

-- After the Q line: the number of the next line is k, and ls are left of the n lines.
after_goal_lem : (f : Form) (ls ys : List (List ℕ)) (r : List ℕ) (n k : ℕ) (s : Sheet) → Malformed f ys r → suc n ≡ k + length ls
    → after_goal (ls ++ ys) r k s ≡ refused (order_line_refusal n (after_goal ls [] k s))
unfolding after_goal order_line_refusal
after_goal_lem f [] [] [] n k s m e = absurd m
after_goal_lem f [] [] (c ∷ cs) n k s m e = ap (λ (i : ℕ). refused (refusal 11 i)) (omega arith)
after_goal_lem f [] (y ∷ ys) r n k s m e = ap (λ (i : ℕ). refused (refusal 11 i)) (omega arith)
after_goal_lem f (l ∷ ls) ys r n k s m e = ap refused (sym (stands n (refusal 11 k) (omega arith)))

-- From any line on.
from_other : (f : Form) (o : Order) (ls ys : List (List ℕ)) (r : List ℕ) (n k : ℕ) (t : Table) → Malformed f ys r
    → suc n ≡ k + length ls
    → read_from f o (ls ++ ys) r k t ≡ refused (order_line_refusal n (read_from f o ls [] k t))
unfolding read_from at_end
from_other f o [] ys r n k t m e =
    let q : k ≡ suc n = omega arith in
    malformed_refused f o ys r k t m ∙ ap refused (rw q (sym (lacking n)))
from_other f o (l ∷ ls) ys r n k t m e =
    go (take_line f.same t (f.line l)) (λ u. from_other f o ls ys r n (suc k) u m (omega arith))
  where
    go : (x : Taken) → ((u : Table) → read_from f o (ls ++ ys) r (suc k) u ≡ refused (order_line_refusal n (read_from f o ls [] (suc k) u)))
        → elim x [
          | next u ↦ read_from f o (ls ++ ys) r (suc k) u
          | stop i ↦ refused (refusal i k)
          | last g ↦ after_goal (ls ++ ys) r (suc k) (record { order = o; symbols = t.symbols; clauses = t.clauses; goal = g })
        ] ≡ refused (order_line_refusal n (elim x [
          | next u ↦ read_from f o ls [] (suc k) u
          | stop i ↦ refused (refusal i k)
          | last g ↦ after_goal ls [] (suc k) (record { order = o; symbols = t.symbols; clauses = t.clauses; goal = g })
        ]))
    go (next u) ih = ih u
    go (stop i) ih = ap refused (sym (stands n (refusal i k) (omega arith)))
    go (last g) ih =
        after_goal_lem f ls ys r n (suc k) (record { order = o; symbols = t.symbols; clauses = t.clauses; goal = g }) m (omega arith)

-- From the first line on; without lines before them, ys are read in the default order.
lines_other : (f : Form) (ls ys : List (List ℕ)) (r : List ℕ) → Malformed f ys r
    → (ls ≡ [] → read_lines f ys r ≡ read_from f oldest ys r 1 empty_table)
    → read_lines f (ls ++ ys) r ≡ refused (order_line_refusal (length ls) (read_lines f ls []))
unfolding read_lines
lines_other f [] ys r m first = first refl ∙ from_other f oldest [] ys r 0 1 empty_table m (omega arith)
lines_other f (l ∷ ls) ys r m first = go (same_bytes l order_line)
  where
    n : ℕ
    n = length (l ∷ ls)

    go : (b : Bool)
        → cond b (read_from f latest (ls ++ ys) r 2 empty_table) (read_from f oldest (l ∷ (ls ++ ys)) r 1 empty_table)
        ≡ refused (order_line_refusal n (cond b (read_from f latest ls [] 2 empty_table) (read_from f oldest (l ∷ ls) [] 1 empty_table)))
    go true = from_other f latest ls ys r n 2 empty_table m (omega arith)
    go false = from_other f oldest (l ∷ ls) ys r n 1 empty_table m (omega arith)

-- the lines of the bytes

-- Bytes that follow whole lines.
lines_append : (b x : List ℕ) → (lines_of b).rest ≡ []
    → ((lines_of (b ++ x)).whole ≡ (lines_of b).whole ++ (lines_of x).whole) × ((lines_of (b ++ x)).rest ≡ (lines_of x).rest)
unfolding lines_of extend_line
lines_append [] x e = (refl, refl)
lines_append (c ∷ cs) x e = go (eqb c lf) (lines_of cs) (lines_of (cs ++ x)) (λ h. lines_append cs x h) e
  where
    split : Bool → SplitLines → SplitLines
    split b l = elim b [
      | true ↦ record { whole = [] ∷ l.whole; rest = l.rest }
      | false ↦ extend_line c l.whole l.rest
    ]

    Follows : SplitLines → SplitLines → Type 0
    Follows l m = (m.whole ≡ l.whole ++ (lines_of x).whole) × (m.rest ≡ (lines_of x).rest)

    within : (ls ms : List (List ℕ)) (r q : List ℕ) → (r ≡ [] → (ms ≡ ls ++ (lines_of x).whole) × (q ≡ (lines_of x).rest))
        → (extend_line c ls r).rest ≡ []
        → ((extend_line c ms q).whole ≡ (extend_line c ls r).whole ++ (lines_of x).whole) × ((extend_line c ms q).rest ≡ (lines_of x).rest)
    within [] ms r q ih h = absurd (let z : ◌≡◌ {A = ℕ} 0 1 = cc in omega arith)
    within (l ∷ ls) ms r q ih h =
        let i = ih h in (
          ap (λ (z : List (List ℕ)). (extend_line c z q).whole) i.0,
          ap (λ (z : List (List ℕ)). (extend_line c z q).rest) i.0 ∙ i.1,
        )

    go : (b : Bool) (l m : SplitLines) → (l.rest ≡ [] → Follows l m) → (split b l).rest ≡ [] → Follows (split b l) (split b m)
    go true l m ih h = let i = ih h in (ap ([] ∷◌) i.0, i.1)
    go false l m ih h = within l.whole m.whole l.rest m.rest ih h

-- Bytes without lines and without a rest are none.
no_lines : (b : List ℕ) → (lines_of b).rest ≡ [] → (lines_of b).whole ≡ [] → b ≡ []
unfolding lines_of extend_line
no_lines [] h e = refl
no_lines (c ∷ cs) h e = absurd (go (eqb c lf) (lines_of cs).whole (lines_of cs).rest h e)
  where
    split : Bool → List (List ℕ) → List ℕ → SplitLines
    split b ls r = elim b [ true ↦ record { whole = [] ∷ ls; rest = r } | false ↦ extend_line c ls r ]

    go : (b : Bool) (ls : List (List ℕ)) (r : List ℕ) → (split b ls r).rest ≡ [] → (split b ls r).whole ≡ [] → ⊥
    go true ls r h e = let z : ◌≡◌ {A = ℕ} 0 1 = cc in omega arith
    go false [] r h e = let z : ◌≡◌ {A = ℕ} 0 1 = cc in omega arith
    go false (l ∷ ls) r h e = let z : ◌≡◌ {A = ℕ} 0 1 = cc in omega arith

-- The line of the letter O is malformed, or has no LF.
letter_malformed : (ls : List (List ℕ)) (r : List ℕ)
    → Malformed sheet_form (extend_line (code "O") ls r).whole (extend_line (code "O") ls r).rest
unfolding extend_line sheet_form
letter_malformed [] r = tt
letter_malformed (l ∷ ls) r = no_other_order_line l

pub other_order_lines : OtherOrderLinesRefused
unfolding read_sheet read_sheet_by lines_of
other_order_lines before after h =
    let follow = lines_append before (code "O" ∷ after) h.whole_lines in
    rw (follow.0, follow.1, h.whole_lines)
    (lines_other sheet_form (lines_of before).whole (lines_of (code "O" ∷ after)).whole (lines_of (code "O" ∷ after)).rest
    (letter_malformed (lines_of after).whole (lines_of after).rest)
    (λ q. other_front (code "O" ∷ after) (h.elsewhere (no_lines before h.whole_lines q))))
