-- The LF bytes of a text: one for each whole line. A work buffer has 64 numbers for each.
use Prim.Native.Nat.{ℕ, suc, ◌+◌, ◌≤◌, ◌<◌}
use native.Mathlib.Numerals.{add-one}
use native.Mathlib.Omega.{arith}
use mathlib.Core.Path.{◌≡◌, refl, ap}
use mathlib.Core.Bool.{Bool, true, false, cond}
use mathlib.Core.List.{List, [], ◌∷◌}
use lib.Dec.{eqb}
use lib.ListN.{length, drop, get_or, drop_of_length-le}
use lib.Seq.{drop-cons}
use borrow.Author.Tests.{eq-eqb, ne_eqb}
use Rattle.sheet_format.specs.Bytes.{lf, SplitLines, extend_line, lines_of}
use Rattle.line_checking.specs.Simulation.{line_feeds}
use Rattle.checker_spec.specs.CheckText.{count_lf}

-- In the first i bytes there are n.
pub record Counted (s : List ℕ) (n i : ℕ) : Type 0 where
  pub few : n ≤ i
  pub sum : n + count_lf (drop i s) ≡ count_lf s

pub count_start : (s : List ℕ) → Counted s 0 0
count_start s = record { few = omega arith; sum = omega arith }

pub count_here : (s : List ℕ) (n m i : ℕ) → Counted s n i → i < length s → get_or s i 0 ≡ lf → m ≡ n + 1 → Counted s m (i + 1)
unfolding count_lf
count_here s n m i k h e d =
    let z : count_lf (drop i s) ≡ suc (count_lf (drop (i + 1) s)) = rw (drop-cons s i 0 h, add-one i) (simp (eq-eqb _ _ e)) in
    record { few = omega (arith, k.few); sum = omega (arith, k.sum) }

pub count_other : (s : List ℕ) (n m i : ℕ) → Counted s n i → i < length s → (get_or s i 0 ≡ lf → ⊥) → m ≡ n → Counted s m (i + 1)
unfolding count_lf
count_other s n m i k h e d =
    let z : count_lf (drop i s) ≡ count_lf (drop (i + 1) s) = rw (drop-cons s i 0 h, add-one i) (simp (ne_eqb _ _ e)) in
    record { few = omega (arith, k.few); sum = omega (arith, k.sum) }

pub count_end : (s : List ℕ) (n i : ℕ) → Counted s n i → length s ≤ i → n ≡ count_lf s
unfolding count_lf
count_end s n i k h =
    let z : count_lf (drop i s) ≡ 0 = rw (drop_of_length-le s h) in
    omega (arith, k.sum)

-- A text has at most one LF for each byte.
pub count_lf_most : (s : List ℕ) → count_lf s ≤ length s
unfolding count_lf
count_lf_most [] = omega arith
count_lf_most (c ∷ cs) = go (eqb c lf) (count_lf_most cs)
  where
    go : (b : Bool) → count_lf cs ≤ length cs → cond b (suc (count_lf cs)) (count_lf cs) ≤ suc (length cs)
    go true h = omega arith
    go false h = omega arith

-- A text has one LF for each whole line.
pub count_lf_lines : (s : List ℕ) → count_lf s ≡ line_feeds s
unfolding count_lf line_feeds lines_of extend_line
count_lf_lines [] = refl
count_lf_lines (c ∷ cs) = go (eqb c lf) (lines_of cs).whole (lines_of cs).rest (count_lf_lines cs)
  where
    go : (b : Bool) (ls : List (List ℕ)) (r : List ℕ) → count_lf cs ≡ length ls
        → cond b (suc (count_lf cs)) (count_lf cs) ≡ length
        (elim b as (λ _. SplitLines) [ true ↦ record { whole = [] ∷ ls; rest = r } | false ↦ extend_line c ls r ]).whole
    go true ls r h = ap suc h
    go false [] r h = h
    go false (l ∷ ls) r h = h
