-- Laws of the stack of delimiters: how many there are, and what is on it after one is pushed.
use Prim.Native.Nat.{ℕ, zero, suc, ◌+◌, ◌-◌, ◌*◌, ◌/◌, ◌%◌, ◌<◌, ◌≤◌}
use native.Mathlib.Omega.{arith}
use native.Mathlib.Numerals.{add-one}
use mathlib.Core.Path.{◌≡◌, refl, sym, ap, ◌∙◌}
use mathlib.Core.List.{List, ◌∷◌}
use lib.ListN.{length, get_or, set, length-set}
use lib.Seq.{get_or-set_same, get_or-set_other}
use Rattle.term_scanner.specs.declared.delimiters.DelimiterStack.{DelimiterStack}
use Rattle.term_scanner.specs.Delimiters.{bits_before, bits_of_words, delimiters, power_of2, Fits, capacity, pushed}

-- lengths

bits_length : (n v : ℕ) (l : List ℕ) → length (bits_before n v l) ≡ n + length l
unfolding bits_before
bits_length zero v l = omega arith
bits_length (suc n) v l = let h = bits_length n (v / 2) l in omega arith

words_length : (u : ℕ) (w : List ℕ) → length (bits_of_words u w) ≡ 64 * u
unfolding bits_of_words
words_length zero w = refl
words_length (suc u) w =
    let h = bits_length 64 (get_or w u 0) (bits_of_words u w) in
    let k = words_length u w in
    omega arith

pub stack_length : (w : List ℕ) (s : DelimiterStack) → length (delimiters w s) ≡ 64 * s.words + s.count
unfolding delimiters
stack_length w s =
    let h = bits_length s.count s.top (bits_of_words s.words w) in
    let k = words_length s.words w in
    omega arith

pub pushed_length : (n b : ℕ) (l : List ℕ) → length (pushed n b l) ≡ n + length l
unfolding pushed
pushed_length zero b l = omega arith
pushed_length (suc n) b l = let h = pushed_length n 1 (b ∷ l) in omega arith

-- powers of 2

power_le : (m n : ℕ) → n ≤ m → power_of2 n ≤ power_of2 m
unfolding power_of2
power_le zero zero h = omega arith
power_le zero (suc n) h = absurd (omega arith)
power_le (suc m) zero h = let k = power_le m zero (omega arith) in omega arith
power_le (suc m) (suc n) h = let k = power_le m n (omega arith) in omega arith

-- A number of fewer than 64 bits can be doubled.
pub power_word : (n : ℕ) → n < 64 → 2 * power_of2 n ≤ 18446744073709551616
unfolding power_of2
power_word n h = power_le 64 (suc n) (omega arith)

-- one delimiter more

bits_pushed : (n v b : ℕ) (l : List ℕ) → b < 2 → bits_before (n + 1) (2 * v + b) l ≡ b ∷ bits_before n v l
unfolding bits_before
bits_pushed n v b l h =
    let p : (2 * v + b) % 2 ≡ b = omega arith in
    let q : (2 * v + b) / 2 ≡ v = omega arith in
    let r : n + 1 ≡ suc n = omega arith in
    rw (r, bits_before, p, q)

words_kept : (u : ℕ) (w : List ℕ) (i v : ℕ) → u ≤ i → bits_of_words u (set w i v) ≡ bits_of_words u w
unfolding bits_of_words
words_kept zero w i v h = refl
words_kept (suc u) w i v h =
    let k : u ≡ i → ⊥ = λ e. omega arith in
    rw (get_or-set_other w i u v 0 k, words_kept u w i v (omega arith))

-- What is on a stack; the law is cited where the bits of a word are not to be computed.
stack_is : (w : List ℕ) (s : DelimiterStack) → delimiters w s ≡ bits_before s.count s.top (bits_of_words s.words w)
unfolding delimiters
stack_is w s = refl

word_first : (u : ℕ) (w : List ℕ) → bits_of_words (suc u) w ≡ bits_before 64 (get_or w u 0) (bits_of_words u w)
unfolding bits_of_words
word_first u w = refl

one_bit : (b : ℕ) (l : List ℕ) → b < 2 → bits_before 1 b l ≡ b ∷ l
unfolding bits_before
one_bit b l h = let e : b % 2 ≡ b = omega arith in rw e

word_bounded : (v : ℕ) → v < 18446744073709551616 → v < power_of2 64
unfolding power_of2
word_bounded v h = h

none_before : (v : ℕ) (l : List ℕ) → bits_before 0 v l ≡ l
unfolding bits_before
none_before v l = refl

one_bounded : (b : ℕ) → b < 2 → b < power_of2 1
unfolding power_of2
one_bounded b h = h

module _ (w : List ℕ) (s : DelimiterStack) (f : Fits w s) where
  -- Where there is room, there is a word for a full top.
  pub push_within : length (delimiters w s) < capacity w → 64 ≤ s.count → s.words < length w
  unfolding capacity
  push_within l g = let n = stack_length w s in omega arith

  -- The top has room for one more.
  pub push_top : (b : ℕ) (r : DelimiterStack) → b < 2 → s.count < 64 → r.top ≡ 2 * s.top + b → r.count ≡ s.count + 1
      → r.words ≡ s.words → Fits w r × (delimiters w r ≡ b ∷ delimiters w s)
  unfolding delimiters power_of2
  push_top b r h g et ec ew = (
    record {
      counted = omega arith;
      bounded = let k = f.bounded in let e : r.count ≡ suc s.count = omega arith in rw (e, et) (omega arith);
      within = let k = f.within in omega arith;
    },
    rw (et, ec, ew) (bits_pushed s.count s.top b (bits_of_words s.words w) h),
  )

  -- The top is full, and goes to the next word.
  pub push_word : (b : ℕ) (v : List ℕ) (r : DelimiterStack) → b < 2 → 64 ≤ s.count → length (delimiters w s) < capacity w
      → v ≡ set w s.words s.top → r.top ≡ b → r.count ≡ 1 → r.words ≡ s.words + 1
      → Fits v r × (delimiters v r ≡ b ∷ delimiters w s)
  push_word b v r h g l e et ec ew =
      let o = push_within l g in
      let n = ap length e ∙ length-set w s.words s.top in (
        record { counted = omega arith; bounded = rw (et, ec) (one_bounded b h); within = omega arith },
        one_more_lem,
      )
    where
      c : s.count ≡ 64
      c = let k = f.counted in omega arith

      one_more_lem : delimiters v r ≡ b ∷ delimiters w s
      one_more_lem =
          let o = push_within l g in
          stack_is v r ∙ rw (et, ec, ew, e, add-one s.words, word_first s.words (set w s.words s.top))
          (one_bit b _ h ∙ ap (λ (k : List ℕ). b ∷ k)
          (rw (get_or-set_same w s.words s.top 0 o, words_kept s.words w s.words s.top (omega arith))
          (sym (stack_is w s ∙ rw c))))

  -- How many delimiters more there is room for.
  pub room_left : (r : ℕ) → r ≡ 64 * (length w - s.words) + (64 - s.count) → r + length (delimiters w s) ≡ capacity w
  unfolding capacity
  room_left r e =
      let n = stack_length w s in
      let k = f.within in
      let m = f.counted in
      omega arith

  -- An empty top is filled from the last word.
  pub next_word : (r : DelimiterStack) → s.count ≡ 0 → 0 < s.words → r.top ≡ get_or w (s.words - 1) 0 → r.top < 18446744073709551616
      → r.count ≡ 64 → r.words ≡ s.words - 1
      → Fits w r × (delimiters w r ≡ delimiters w s) × (0 < r.count)
  next_word r z o et l ec ew = (
    record { counted = omega arith; bounded = rw ec (word_bounded r.top l); within = let k = f.within in omega arith },
    filled ∙ sym (word_first (s.words - 1) w) ∙ sym (before ∙ same_words),
    omega arith,
  )
    where
      filled : delimiters w r ≡ bits_before 64 (get_or w (s.words - 1) 0) (bits_of_words (s.words - 1) w)
      filled = stack_is w r ∙ rw (ec, et, ew)

      before : delimiters w s ≡ bits_of_words s.words w
      before = stack_is w s ∙ rw z (none_before s.top (bits_of_words s.words w))

      same_words : bits_of_words s.words w ≡ bits_of_words (suc (s.words - 1)) w
      same_words = ap (λ (u : ℕ). bits_of_words u w) (let e : s.words ≡ suc (s.words - 1) = omega arith in e)

-- the delimiters of arguments

-- Of n delimiters i are pushed.
pub pushed_first : (n b : ℕ) (l : List ℕ) → pushed n b l ≡ pushed (n - 0) b l
pushed_first n b l = let e : n - 0 ≡ n = omega arith in rw e

pub pushed_all : (n i b : ℕ) (l : List ℕ) → n ≤ i → pushed (n - i) b l ≡ l
unfolding pushed
pushed_all n i b l h = let e : n - i ≡ 0 = omega arith in rw e

pub pushed_more : (n i b : ℕ) (l k : List ℕ) → i < n → k ≡ b ∷ l → pushed (n - i) b l ≡ pushed (n - (i + 1)) 1 k
unfolding pushed
pushed_more n i b l k h e = let d : n - i ≡ suc (n - (i + 1)) = omega arith in rw (d, e)

-- There is room for the delimiters that are left.
pub room_more : (w v : List ℕ) (n i b : ℕ) (l k : List ℕ) → i < n → n - i + length l ≤ capacity w → length v ≡ length w → k ≡ b ∷ l
    → n - (i + 1) + length k ≤ capacity v
unfolding capacity
room_more w v n i b l k h g e d = let c = ap length d in omega arith
