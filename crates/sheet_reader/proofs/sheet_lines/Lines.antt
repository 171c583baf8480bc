-- The lines of a sheet: where one ends, and what is left after it. Assumes nothing.
use Prim.Native.Nat.{ℕ, zero, suc, max, ◌+◌, ◌-◌, ◌≤◌, ◌<◌}
use native.Mathlib.Numerals.{add-one}
use native.Mathlib.Omega.{arith}
use mathlib.Core.Bool.{Bool, true, false, cond}
use mathlib.Core.Path.{◌≡◌, refl, sym, ap, ◌∙◌}
use mathlib.Core.List.{List, [], ◌∷◌}
use lib.Dec.{leb, eqb}
use lib.ListN.{length, take, drop, get_or, length-drop, drop_of_length-le}
use lib.Seq.{drop-cons, drop-drop}
use borrow.Author.Tests.{eq-eqb, ne_eqb, leb-true, leb-false}
use Rattle.sheet_format.specs.Bytes.{lf, SplitLines, extend_line, lines_of}
use Rattle.sheet_format.proofs.Bytes.{lines, lines_of_other}
use Rattle.sheet_reader.specs.Reader.{line_length, line_end}

-- the end of a line

-- A line that begins with another byte than LF ends where the line from the next byte on ends.
pub end_on : (s : List ℕ) (i : ℕ) → i < length s → (get_or s i 0 ≡ lf → ⊥) → line_end s i ≡ line_end s (i + 1)
unfolding line_end line_length
end_on s i h n =
    let e : line_length (drop i s) ≡ suc (line_length (drop (i + 1) s)) = rw (drop-cons s i 0 h, add-one i) (simp (ne_eqb _ _ n)) in
    omega arith

-- A line that begins with an LF ends there.
pub end_here : (s : List ℕ) (i : ℕ) → i < length s → get_or s i 0 ≡ lf → line_end s i ≡ i
unfolding line_end line_length
end_here s i h e =
    let z : line_length (drop i s) ≡ 0 = rw (drop-cons s i 0 h) (simp (eq-eqb _ _ e)) in
    omega arith

-- Where no byte is left the line ends at once.
pub end_none : (s : List ℕ) (i : ℕ) → length s ≤ i → line_end s i ≡ i
unfolding line_end line_length
end_none s i h = rw (drop_of_length-le s h) (omega arith)

-- So is the end past the last byte, where a loop over positions from `at` on has come to i.
pub end_past : (s : List ℕ) (at i end : ℕ) → line_end s at ≡ line_end s i → length s ≤ i → (length s ≤ at → i ≡ at)
    → (at ≤ length s → i ≤ length s) → end ≡ max at (length s) → end ≡ line_end s at
end_past s at i end q h past within m = go (leb (length s) at) refl
  where
    go : (b : Bool) → leb (length s) at ≡ b → end ≡ line_end s at
    go true b =
        let l = past (leb-true (length s) at b) in
        let w : end ≡ i = omega arith in
        w ∙ sym (end_none s i h) ∙ sym q
    go false b =
        let f = leb-false (length s) at b in
        let l = within (omega arith) in
        let w : end ≡ i = omega arith in
        w ∙ sym (end_none s i h) ∙ sym q

-- No line is longer than the bytes.
length_most : (s : List ℕ) → line_length s ≤ length s
unfolding line_length
length_most [] = omega arith
length_most (c ∷ cs) = go (eqb c lf) (length_most cs)
  where
    go : (b : Bool) → line_length cs ≤ length cs → cond b zero (suc (line_length cs)) ≤ suc (length cs)
    go true h = omega arith
    go false h = omega arith

-- The end of a line lies within the bytes.
pub end_within_lem : (s : List ℕ) (at end : ℕ) → at ≤ length s → end ≡ line_end s at → (at ≤ end) × (end ≤ length s)
unfolding line_end
end_within_lem s at end h e = (omega arith, omega (arith, length_most (drop at s), length-drop at s))

-- whole lines

-- A byte other than LF makes the line one byte longer.
length_other : (c : ℕ) (cs : List ℕ) → eqb c lf ≡ false → line_length (c ∷ cs) ≡ suc (line_length cs)
unfolding line_length
length_other c cs h = rw h

-- An LF ends a line.
pub lines_of_lf : (c : ℕ) (cs : List ℕ) → eqb c lf ≡ true → lines_of (c ∷ cs) ≡ lines ([] ∷ (lines_of cs).whole) (lines_of cs).rest
unfolding lines_of
lines_of_lf c cs h = rw (h, lines_of)

length_lf : (c : ℕ) (cs : List ℕ) → eqb c lf ≡ true → line_length (c ∷ cs) ≡ 0
unfolding line_length
length_lf c cs h = rw h

-- The bytes up to the first LF are the first line.
first_line : (s : List ℕ) → line_length s < length s
    → lines_of s ≡ lines (take (line_length s) s ∷ (lines_of (drop (suc (line_length s)) s)).whole) (lines_of (drop (suc (line_length s)) s)).rest
unfolding line_length extend_line
first_line [] h = absurd (omega arith)
first_line (c ∷ cs) h = go (eqb c lf) refl (first_line cs)
  where
    go : (b : Bool) → eqb c lf ≡ b
        → (line_length cs < length cs → lines_of cs ≡ lines (take (line_length cs) cs ∷ (lines_of (drop (suc (line_length cs)) cs)).whole)
        (lines_of (drop (suc (line_length cs)) cs)).rest)
        → lines_of (c ∷ cs) ≡ lines (take (line_length (c ∷ cs)) (c ∷ cs) ∷ (lines_of (drop (suc (line_length (c ∷ cs))) (c ∷ cs))).whole)
        (lines_of (drop (suc (line_length (c ∷ cs))) (c ∷ cs))).rest
    go true e more = rw (length_lf c cs e) (lines_of_lf c cs e)
    go false e more =
        let l = length_other c cs e in
        rw l (lines_of_other c cs e ∙ ap (λ (x : SplitLines). extend_line c x.whole x.rest) (more (omega arith)))

-- Without LF there is no line.
no_line : (s : List ℕ) → line_length s ≡ length s → lines_of s ≡ lines [] s
unfolding line_length lines_of extend_line
no_line [] h = refl
no_line (c ∷ cs) h = go (eqb c lf) refl (no_line cs)
  where
    go : (b : Bool) → eqb c lf ≡ b → (line_length cs ≡ length cs → lines_of cs ≡ lines [] cs) → lines_of (c ∷ cs) ≡ lines [] (c ∷ cs)
    go true e more = let l = length_lf c cs e in absurd (omega arith)
    go false e more =
        let l = length_other c cs e in
        lines_of_other c cs e ∙ ap (λ (x : SplitLines). extend_line c x.whole x.rest) (more (omega arith))

-- lines from a position on

-- The lines from `at` on are the line up to its end, then the lines from the byte after its LF on.
pub line_at : (s : List ℕ) (at end : ℕ) → at ≤ length s → end ≡ line_end s at → (end ≡ length s → ⊥)
    → lines_of (drop at s) ≡ lines (take (end - at) (drop at s) ∷ (lines_of (drop (end + 1) s)).whole) (lines_of (drop (end + 1) s)).rest
unfolding line_end
line_at s at end h e n =
    let m = length_most (drop at s) in
    let d = length-drop at s in
    let z : end - at ≡ line_length (drop at s) = omega arith in
    let y : end + 1 ≡ at + suc (line_length (drop at s)) = omega arith in
    rw (z, y, ← drop-drop (suc (line_length (drop at s))) at s) (first_line (drop at s) (omega arith))

-- Without an LF from `at` on there is no whole line, only the rest.
pub open_at : (s : List ℕ) (at end : ℕ) → at ≤ length s → end ≡ line_end s at → end ≡ length s → lines_of (drop at s) ≡ lines [] (drop at s)
unfolding line_end
open_at s at end h e n =
    let d = length-drop at s in
    no_line (drop at s) (omega arith)
