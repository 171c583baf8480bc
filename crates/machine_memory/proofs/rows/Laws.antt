-- Numbers in a row. A row within the buffer is a part of it that is copied; any row is written number by number.
use Prim.Native.Nat.{ℕ, zero, suc, ◌+◌, ◌-◌, ◌*◌, ◌≤◌, ◌<◌}
use native.Mathlib.Omega.{arith}
use native.Mathlib.Numerals.{add-one}
use mathlib.Core.Path.{◌≡◌, refl, sym, ◌∙◌, ap}
use mathlib.Core.List.{List, [], ◌∷◌, ◌++◌}
use borrow.Rule.Slice.PartMut.{put_mid}
use lib.ListN.{length, drop, set, get_or}
use Rattle.std.proofs.Common.{append_assoc, take, take-append-drop, length-set}
use Rattle.std.proofs.lemmas.List.{drop-set-lt, drop_all, take_all, append-nil}
use Rattle.std.proofs.Math.Seq.{take-suc-set, drop-cons}
use Rattle.memory.specs.Records.{field, put_field}
use Rattle.machine_memory.specs.Rows.{row, put_row}

pub row_within : (l w : List ℕ) (u f i n : ℕ) → i ≡ 64 * u + f → n ≡ length l → i + length l ≤ length w
    → put_mid i n w l ≡ put_row l w u f
unfolding put_row put_field
row_within [] w u f i n ei en h = rw en (take-append-drop i w)
row_within (a ∷ l) w u f i n ei en h =
    let e : suc i ≡ 64 * u + suc f = omega arith in
    let s = length-set w i a in
    let t = row_within l (set w i a) u (suc f) (suc i) (length l) e refl (omega arith) in
    rw (en, drop-cons w i 0 (omega arith)) (
    sym (append_assoc (take i w) (a ∷ []) (l ++ drop (length l) (drop (suc i) w)))
    ∙ rw (← take-suc-set w i a (omega arith), ← drop-set-lt (suc i) w i a (omega arith)) (t ∙ ap (λ k. put_row l (set w k a) u (suc f)) ei)
    )

pub row_on : (l w w' : List ℕ) (u f i j : ℕ) → j ≡ 64 * u + f → i < length l → w' ≡ set w (j + i) (get_or l i 0)
    → put_row (drop i l) w u (f + i) ≡ put_row (drop (i + 1) l) w' u (f + (i + 1))
unfolding put_row put_field
row_on l w w' u f i j ej h e =
    let k : 64 * u + (f + i) ≡ j + i = omega arith in
    let m : f + (i + 1) ≡ suc (f + i) = omega arith in
    rw (drop-cons l i 0 h, m, add-one i)
    (ap (λ z. put_row (drop (suc i) l) z u (suc (f + i))) (ap (λ z. set w z (get_or l i 0)) k ∙ sym e))

pub row_end : (l w : List ℕ) (u f i : ℕ) → length l ≤ i → put_row (drop i l) w u (f + i) ≡ w
unfolding put_row
row_end l w u f i h = rw (drop_all i l h)

-- A row that is read.
pub row_read : (n : ℕ) (w : List ℕ) (u f i : ℕ) → i ≡ 64 * u + f → i + n ≤ length w → take n (drop i w) ≡ row n w u f
unfolding row field
row_read zero w u f i ei h = refl
row_read (suc n) w u f i ei h =
    let e : suc i ≡ 64 * u + suc f = omega arith in
    rw (drop-cons w i 0 (omega arith), row_read n w u (suc f) (suc i) e (omega arith))
    (ap (λ k. get_or w k 0 ∷ row n w u (suc f)) ei)

pub row_more : (n : ℕ) (l w : List ℕ) (u f i j x : ℕ) → j ≡ 64 * u + f → i < n → length l ≡ n → x ≡ get_or w (j + i) 0
    → take i l ++ row (n - i) w u (f + i) ≡ take (i + 1) (set l i x) ++ row (n - (i + 1)) w u (f + (i + 1))
unfolding row field
row_more n l w u f i j x ej h el ex =
    let k : n - i ≡ suc (n - (i + 1)) = omega arith in
    let m : f + (i + 1) ≡ suc (f + i) = omega arith in
    let a : 64 * u + (f + i) ≡ j + i = omega arith in
    rw (k, m, add-one i, take-suc-set l i x (omega arith), append_assoc (take i l) (x ∷ []) (row (n - suc i) w u (suc (f + i))))
    (ap (λ z. take i l ++ (z ∷ row (n - suc i) w u (suc (f + i)))) (ap (λ z. get_or w z 0) a ∙ sym ex))

pub row_whole : (n : ℕ) (l w : List ℕ) (u f i : ℕ) → n ≤ i → length l ≡ n → take i l ++ row (n - i) w u (f + i) ≡ l
unfolding row
row_whole n l w u f i h el = let k : n - i ≡ 0 = omega arith in rw (k, take_all i l (omega arith)) (append-nil l)
