-- One law for each way through a turn of a loop or through a call; the hypotheses are the facts on the code's path.
use Prim.Native.Nat.{ℕ, zero, suc, ◌+◌, ◌-◌, ◌<◌, ◌≤◌}
use native.Mathlib.Omega.{arith}
use native.Mathlib.Numerals.{add-one, sub-one}
use mathlib.Core.Path.{◌≡◌, refl, sym, ap, ◌∙◌}
use mathlib.Core.Bool.{Bool, true, false, ◌&&◌, cond}
use mathlib.Core.List.{List, [], ◌∷◌, map}
use lib.Dec.{eqb, ltb}
use lib.ListN.{length, get_or, get_or-eq_default, get_or-map, length-map}
use borrow.Author.Tests.{ltb-true, ltb-false, eqb-true, eqb-false, eq-eqb, ne_eqb}
use Rattle.scanning.specs.Ranges.{same_range, find_byte}

-- ranges

pub range_end : (n : ℕ) (a : List ℕ) (i : ℕ) (b : List ℕ) (j : ℕ) → n ≤ 0 → same_range n a i b j ≡ true
unfolding same_range
range_end zero a i b j h = refl
range_end (suc n) a i b j h = absurd (omega arith)

pub range_on : (n : ℕ) (a : List ℕ) (i : ℕ) (b : List ℕ) (j c d : ℕ) → 0 < n → c ≡ get_or a i 0 → d ≡ get_or b j 0 → c ≡ d
    → same_range n a i b j ≡ same_range (n - 1) a (i + 1) b (j + 1)
unfolding same_range
range_on zero a i b j c d h p q e = absurd (omega arith)
range_on (suc n) a i b j c d h p q e = rw (sub-one (suc n), ← p, ← q, eq-eqb c d e)

pub range_off : (n : ℕ) (a : List ℕ) (i : ℕ) (b : List ℕ) (j c d : ℕ) → 0 < n → c ≡ get_or a i 0 → d ≡ get_or b j 0 → (c ≡ d → ⊥)
    → same_range n a i b j ≡ false
unfolding same_range
range_off zero a i b j c d h p q e = absurd (omega arith)
range_off (suc n) a i b j c d h p q e = rw (← p, ← q, ne_eqb c d e)

-- past the end every position reads as 0

past_left : (n : ℕ) (a : List ℕ) (i k : ℕ) (b : List ℕ) (j : ℕ) → length a ≤ i → length a ≤ k → same_range n a i b j ≡ same_range n a k b j
unfolding same_range
past_left zero a i k b j h g = refl
past_left (suc n) a i k b j h g =
    let p : length a ≤ i + 1 = omega arith in
    let q : length a ≤ k + 1 = omega arith in
    rw (get_or-eq_default a 0 h, get_or-eq_default a 0 g, past_left n a (i + 1) (k + 1) b (j + 1) p q)

past_right : (n : ℕ) (a : List ℕ) (i : ℕ) (b : List ℕ) (j k : ℕ) → length b ≤ j → length b ≤ k → same_range n a i b j ≡ same_range n a i b k
unfolding same_range
past_right zero a i b j k h g = refl
past_right (suc n) a i b j k h g =
    let p : length b ≤ j + 1 = omega arith in
    let q : length b ≤ k + 1 = omega arith in
    rw (get_or-eq_default b 0 h, get_or-eq_default b 0 g, past_right n a (i + 1) b (j + 1) (k + 1) p q)

after_left : (n : ℕ) (a : List ℕ) (i : ℕ) (b : List ℕ) (j p : ℕ) → p ≡ cond (ltb i (length a)) (i + 1) i
    → same_range n a (i + 1) b j ≡ same_range n a p b j
after_left n a i b j p e = go (ltb i (length a)) refl e
  where
    go : (z : Bool) → ltb i (length a) ≡ z → p ≡ cond z (i + 1) i → same_range n a (i + 1) b j ≡ same_range n a p b j
    go true h e = rw e
    go false h e = let l = ltb-false i (length a) h in past_left n a (i + 1) p b j (omega arith) (omega arith)

after_right : (n : ℕ) (a : List ℕ) (i : ℕ) (b : List ℕ) (j q : ℕ) → q ≡ cond (ltb j (length b)) (j + 1) j
    → same_range n a i b (j + 1) ≡ same_range n a i b q
after_right n a i b j q e = go (ltb j (length b)) refl e
  where
    go : (z : Bool) → ltb j (length b) ≡ z → q ≡ cond z (j + 1) j → same_range n a i b (j + 1) ≡ same_range n a i b q
    go true h e = rw e
    go false h e = let l = ltb-false j (length b) h in past_right n a i b (j + 1) q (omega arith) (omega arith)

range_next : (n : ℕ) (a : List ℕ) (i : ℕ) (b : List ℕ) (j c d p q : ℕ) → 0 < n → c ≡ get_or a i 0 → d ≡ get_or b j 0 → c ≡ d
    → p ≡ cond (ltb i (length a)) (i + 1) i → q ≡ cond (ltb j (length b)) (j + 1) j → same_range n a i b j ≡ same_range (n - 1) a p b q
range_next n a i b j c d p q h ec ed e ep eq =
    range_on n a i b j c d h ec ed e ∙ after_left (n - 1) a i b (j + 1) p ep ∙ after_right (n - 1) a p b j q eq

-- Of n bytes k are compared.
pub range_first : (n : ℕ) (a : List ℕ) (i : ℕ) (b : List ℕ) (j : ℕ) → same_range n a i b j ≡ same_range (n - 0) a i b j
range_first n a i b j = let e : n - 0 ≡ n = omega arith in rw e

pub range_turn : (n k : ℕ) (a : List ℕ) (i : ℕ) (b : List ℕ) (j c d p q : ℕ) → k < n → c ≡ get_or a i 0 → d ≡ get_or b j 0 → c ≡ d
    → p ≡ cond (ltb i (length a)) (i + 1) i → q ≡ cond (ltb j (length b)) (j + 1) j
    → same_range (n - k) a i b j ≡ same_range (n - (k + 1)) a p b q
range_turn n k a i b j c d p q h ec ed e ep eq =
    let u : n - (k + 1) ≡ n - k - 1 = omega arith in
    rw u (range_next (n - k) a i b j c d p q (omega arith) ec ed e ep eq)

-- comparing bytes after a function

map_self : (l : List ℕ) → map (λ (x : ℕ). x) l ≡ l
map_self [] = refl
map_self (c ∷ l) = ap (c ∷◌) (map_self l)

pub mapped_self : (n : ℕ) (a : List ℕ) (i : ℕ) (b : List ℕ) (j : ℕ)
    → same_range n (map (λ (x : ℕ). x) a) i (map (λ (x : ℕ). x) b) j ≡ same_range n a i b j
mapped_self n a i b j = rw (map_self a, map_self b)

module _ (f : ℕ → ℕ) (z : f 0 ≡ 0) where
  mapped_byte : (x : List ℕ) (i c : ℕ) → c ≡ get_or x i 0 → f c ≡ get_or (map f x) i 0
  mapped_byte x i c e = ap f e ∙ sym (get_or-map f x i 0) ∙ ap (get_or (map f x) i) z

  mapped_after : (x : List ℕ) (i p : ℕ) → p ≡ cond (ltb i (length x)) (i + 1) i → p ≡ cond (ltb i (length (map f x))) (i + 1) i
  mapped_after x i p e = rw (length-map x f) e

  pub mapped_turn : (n k : ℕ) (a : List ℕ) (i : ℕ) (b : List ℕ) (j c d p q : ℕ) → k < n → c ≡ get_or a i 0 → d ≡ get_or b j 0
      → true ≡ eqb (f c) (f d) → p ≡ cond (ltb i (length a)) (i + 1) i → q ≡ cond (ltb j (length b)) (j + 1) j
      → same_range (n - k) (map f a) i (map f b) j ≡ same_range (n - (k + 1)) (map f a) p (map f b) q
  mapped_turn n k a i b j c d p q h ec ed e ep eq =
      range_turn n k (map f a) i (map f b) j (f c) (f d) p q h (mapped_byte a i c ec) (mapped_byte b j d ed)
      (eqb-true (f c) (f d) (sym e)) (mapped_after a i p ep) (mapped_after b j q eq)

  pub mapped_off : (n : ℕ) (a : List ℕ) (i : ℕ) (b : List ℕ) (j c d : ℕ) → 0 < n → c ≡ get_or a i 0 → d ≡ get_or b j 0
      → false ≡ eqb (f c) (f d) → same_range n (map f a) i (map f b) j ≡ false
  mapped_off n a i b j c d h ec ed e =
      range_off n (map f a) i (map f b) j (f c) (f d) h (mapped_byte a i c ec) (mapped_byte b j d ed) (eqb-false (f c) (f d) (sym e))

-- a range from its front

pub range_none : (a : List ℕ) (i : ℕ) (b : List ℕ) (j : ℕ) → true ≡ same_range 0 a i b j
unfolding same_range
range_none a i b j = refl

pub range_last : (k : ℕ) (a : List ℕ) (i : ℕ) (b : List ℕ) (j : ℕ)
    → same_range (suc k) a i b j ≡ (same_range k a i b j && eqb (get_or a (i + k) 0) (get_or b (j + k) 0))
unfolding same_range
range_last zero a i b j =
    let p : i + 0 ≡ i = omega arith in
    let q : j + 0 ≡ j = omega arith in
    rw (p, q) (go (eqb (get_or a i 0) (get_or b j 0)))
  where
    go : (z : Bool) → cond z true false ≡ (true && z)
    go true = refl
    go false = refl
range_last (suc k) a i b j =
    let p : i + suc k ≡ (i + 1) + k = omega arith in
    let q : j + suc k ≡ (j + 1) + k = omega arith in
    rw (p, q)
    (go (same_range k a (i + 1) b (j + 1)) (same_range (suc k) a (i + 1) b (j + 1)) (eqb (get_or a ((i + 1) + k) 0) (get_or b ((j + 1) + k) 0))
    (eqb (get_or a i 0) (get_or b j 0)) (range_last k a (i + 1) b (j + 1)))
  where
    go : (s l e z : Bool) → l ≡ (s && e) → cond z l false ≡ (cond z s false && e)
    go s l e true h = h
    go s l e false h = refl

pub range_more : (k : ℕ) (a : List ℕ) (i : ℕ) (b : List ℕ) (j : ℕ) (z : Bool) → z ≡ same_range k a i b j
    → (z && eqb (get_or a (i + k) 0) (get_or b (j + k) 0)) ≡ same_range (k + 1) a i b j
range_more k a i b j z h = rw (h, add-one k) (sym (range_last k a i b j))

pub range_all : (n k : ℕ) (a : List ℕ) (i : ℕ) (b : List ℕ) (j : ℕ) (z : Bool) → k ≤ n → n ≤ k → z ≡ same_range k a i b j
    → z ≡ same_range n a i b j
range_all n k a i b j z p q h = let e : k ≡ n = omega arith in rw e at h

-- finding a byte

-- The positions left from i on are one more than those left from i + 1 on.
pub one_less : (x : List ℕ) (i : ℕ) → i < length x → length x - i ≡ suc (length x - (i + 1))
one_less x i h = omega arith

pub find_stop : (x : List ℕ) (c i : ℕ) → length x ≤ i → find_byte (length x - i) x c i ≡ i
unfolding find_byte
find_stop x c i h = let e : length x - i ≡ 0 = omega arith in rw e

pub find_here : (x : List ℕ) (c i : ℕ) → i < length x → get_or x i 0 ≡ c → find_byte (length x - i) x c i ≡ i
unfolding find_byte
find_here x c i h e = rw (one_less x i h, eq-eqb (get_or x i 0) c e)

pub find_on : (x : List ℕ) (c i : ℕ) → i < length x → (get_or x i 0 ≡ c → ⊥)
    → find_byte (length x - i) x c i ≡ find_byte (length x - (i + 1)) x c (i + 1)
unfolding find_byte
find_on x c i h e = rw (one_less x i h, ne_eqb (get_or x i 0) c e)

-- positions that are read

-- A byte that is not 0 stands within the text.
pub inside : (x : List ℕ) (i b c : ℕ) → b ≡ get_or x i 0 → b ≡ c → 0 < c → i < length x
inside x i b c e h z = go (ltb i (length x)) refl
  where
    go : (k : Bool) → ltb i (length x) ≡ k → i < length x
    go true p = ltb-true i (length x) p
    go false p = let q = sym e ∙ h in let d = get_or-eq_default x 0 (ltb-false i (length x) p) in absurd (omega arith)
