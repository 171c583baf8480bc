-- One law for each way through a turn of a loop or through a call; the hypotheses are the facts on the code's path.
use Prim.Native.Nat.{ℕ, zero, suc, ◌+◌, ◌-◌, ◌<◌, ◌≤◌}
use native.Mathlib.Omega.{arith}
use native.Mathlib.Numerals.{sub-one}
use mathlib.Core.Path.{◌≡◌, refl, sym, ap, ap₂, ◌∙◌}
use mathlib.Core.Bool.{Bool, true, false, ◌&&◌, cond, true≢false}
use mathlib.Core.List.{List}
use lib.Dec.{eqb}
use lib.ListN.{get_or}
use borrow.Author.Tests.{eqb-true, eq-eqb}
use Rattle.sheet_format.specs.Bytes.{folded, folded_name}
use Rattle.scanning.specs.Ranges.{same_range, same_folded}
use Rattle.node_table.proofs.Words.{byte_folded}
use Rattle.scanning.proofs.Ranges.{range_folded}
use Rattle.term_scanner.proofs.ranges.Laws.{range_end, range_last}

-- Two ranges are the same but for case if the ranges of the folded lists are the same, so each law is that of `same_range` there.

pub folded_end : (n : ℕ) (a : List ℕ) (i : ℕ) (b : List ℕ) (j : ℕ) → n ≤ 0 → same_folded n a i b j ≡ true
folded_end n a i b j h = range_folded n a i b j ∙ range_end n (folded_name a) i (folded_name b) j h

-- Equal bytes are the same letter.
equal_folded : (n : ℕ) (a : List ℕ) (i : ℕ) (b : List ℕ) (j : ℕ) → same_range n a i b j ≡ true → same_folded n a i b j ≡ true
unfolding same_range same_folded
equal_folded zero a i b j h = refl
equal_folded (suc n) a i b j h = go (eqb (get_or a i 0) (get_or b j 0)) refl h (λ k. equal_folded n a (i + 1) b (j + 1) k)
  where
    go : (z : Bool) → eqb (get_or a i 0) (get_or b j 0) ≡ z → cond z (same_range n a (i + 1) b (j + 1)) false ≡ true
        → (same_range n a (i + 1) b (j + 1) ≡ true → same_folded n a (i + 1) b (j + 1) ≡ true)
        → cond (eqb (folded (get_or a i 0)) (folded (get_or b j 0))) (same_folded n a (i + 1) b (j + 1)) false ≡ true
    go true e h rest =
        rw (eq-eqb (folded (get_or a i 0)) (folded (get_or b j 0)) (ap folded (eqb-true (get_or a i 0) (get_or b j 0) e))) (rest h)
    go false e h rest = absurd (true≢false (sym h))

pub range_equal : (n : ℕ) (a : List ℕ) (i : ℕ) (b : List ℕ) (j : ℕ) (z : Bool) → z ≡ same_range n a i b j → z ≡ true
    → true ≡ same_folded n a i b j
range_equal n a i b j z h e = sym (equal_folded n a i b j (sym h ∙ e))

-- ranges from their last byte

-- The last letter decides, and otherwise those before it.
folded_last : (k : ℕ) (a : List ℕ) (i : ℕ) (b : List ℕ) (j : ℕ)
    → same_folded (suc k) a i b j ≡ (same_folded k a i b j && eqb (folded (get_or a (i + k) 0)) (folded (get_or b (j + k) 0)))
folded_last k a i b j =
    range_folded (suc k) a i b j ∙ range_last k (folded_name a) i (folded_name b) j
    ∙ ap₂ ◌&&◌ (sym (range_folded k a i b j)) (ap₂ eqb (byte_folded a (i + k)) (byte_folded b (j + k)))

-- A test and a test that is known.
and_true : (t z : Bool) → z ≡ true → (t && z) ≡ t
and_true true z h = h
and_true false z h = refl

and_false : (t z : Bool) → z ≡ false → (t && z) ≡ false
and_false true z h = h
and_false false z h = refl

-- Before a last letter that is the same, the others decide.
pub last_same : (n : ℕ) (a : List ℕ) (i : ℕ) (b : List ℕ) (j : ℕ) (z : Bool) → 0 < n
    → z ≡ eqb (folded (get_or a (i + (n - 1)) 0)) (folded (get_or b (j + (n - 1)) 0)) → z ≡ true
    → same_folded n a i b j ≡ same_folded (n - 1) a i b j
last_same zero a i b j z h e t = absurd (omega arith)
last_same (suc k) a i b j z h e t =
    rw (sub-one (suc k)) (folded_last k a i b j
    ∙ and_true (same_folded k a i b j) (eqb (folded (get_or a (i + k) 0)) (folded (get_or b (j + k) 0))) (sym (rw (sub-one (suc k)) at e) ∙ t))

-- A last letter that is another decides.
pub last_other : (n : ℕ) (a : List ℕ) (i : ℕ) (b : List ℕ) (j : ℕ) (z : Bool) → 0 < n
    → z ≡ eqb (folded (get_or a (i + (n - 1)) 0)) (folded (get_or b (j + (n - 1)) 0)) → z ≡ false → same_folded n a i b j ≡ false
last_other zero a i b j z h e t = absurd (omega arith)
last_other (suc k) a i b j z h e t =
    folded_last k a i b j
    ∙ and_false (same_folded k a i b j) (eqb (folded (get_or a (i + k) 0)) (folded (get_or b (j + k) 0))) (sym (rw (sub-one (suc k)) at e) ∙ t)

-- ranges that end at e

-- The last letter, read from the end of a range.
last_letter : (n : ℕ) (x : List ℕ) (i e : ℕ) (b : List ℕ) (s c d : ℕ) (z : Bool) → e - i ≡ n → 0 < n → c ≡ get_or x (e - 1) 0
    → d ≡ get_or b (s + (n - 1)) 0 → z ≡ eqb (folded c) (folded d)
    → z ≡ eqb (folded (get_or x (i + (n - 1)) 0)) (folded (get_or b (s + (n - 1)) 0))
last_letter n x i e b s c d z l m p q h =
    let u : e - 1 ≡ i + (n - 1) = omega arith in
    h ∙ ap₂ (λ (y o : ℕ). eqb (folded y) (folded o)) (p ∙ ap (λ (o : ℕ). get_or x o 0) u) q

-- A range of one letter is the same if that letter is.
pub one_same : (n : ℕ) (x : List ℕ) (i e : ℕ) (b : List ℕ) (s c d : ℕ) (z : Bool) → e - i ≡ n → n ≡ 1 → c ≡ get_or x (e - 1) 0
    → d ≡ get_or b (s + (n - 1)) 0 → z ≡ eqb (folded c) (folded d) → z ≡ true → true ≡ same_folded n x i b s
one_same n x i e b s c d z l k p q h t =
    let m : 0 < n = omega arith in
    let u : n - 1 ≤ 0 = omega arith in
    sym (last_same n x i b s z m (last_letter n x i e b s c d z l m p q h) t ∙ folded_end (n - 1) x i b s u)

-- Ranges whose last letters differ are not the same.
pub last_apart : (n : ℕ) (x : List ℕ) (i e : ℕ) (b : List ℕ) (s c d : ℕ) (z : Bool) → e - i ≡ n → (n ≡ 0 → ⊥) → c ≡ get_or x (e - 1) 0
    → d ≡ get_or b (s + (n - 1)) 0 → z ≡ eqb (folded c) (folded d) → z ≡ false → false ≡ same_folded n x i b s
last_apart n x i e b s c d z l k p q h f =
    let m : 0 < n = omega arith in
    sym (last_other n x i b s z m (last_letter n x i e b s c d z l m p q h) f)
