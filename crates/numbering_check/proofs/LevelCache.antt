-- The levels that are kept are those of first showings, before every position of the text.
use Prim.Native.Nat.{ℕ, zero, suc, ◌+◌, ◌-◌, ◌<◌, ◌≤◌}
use native.Mathlib.Omega.{arith}
use mathlib.Core.Path.{◌≡◌, refl, sym, ap, ◌∙◌, subst}
use mathlib.Core.Bool.{Bool, true, false, cond, true≢false}
use mathlib.Core.List.{List}
use lib.Dec.{eqb, ltb}
use lib.ListN.{length, get_or, set, length-set, get_or-eq_default}
use lib.Seq.{set_out, get_or-set_same, get_or-set_other}
use borrow.Author.Tests.{eqb-true, eqb-false, ltb-true, ltb-false, lt-ltb, eq-eqb}
use Rattle.scanning.specs.Numbering.{is_symbol, number_at, level_at, is_showing, level_from, first_level, in_order, count_after}
use Rattle.numbering_check.specs.LevelCache.{made_entry, leftover_entry, cache_level, cache_showing, Cached, ShownBelow, CacheValid}

-- showings

-- A symbol shows with its first byte and its number.
is_showing_lem : (x : List ℕ) (c i : ℕ) → get_or x i 0 ≡ c → is_symbol x i ≡ true → is_showing x c (number_at x (i + 1)) i ≡ true
unfolding is_showing
is_showing_lem x c i p q = rw (eq-eqb (get_or x i 0) c p, q) (eq-eqb (number_at x (i + 1)) (number_at x (i + 1)) refl)

-- What shows at a position has the byte and the number there, and is a symbol.
showing_parts : (x : List ℕ) (c n i : ℕ) → is_showing x c n i ≡ true
    → (get_or x i 0 ≡ c) × (is_symbol x i ≡ true) × (number_at x (i + 1) ≡ n)
unfolding is_showing
showing_parts x c n i = go (eqb (get_or x i 0) c) refl (is_symbol x i) refl (eqb (number_at x (i + 1)) n) refl
  where
    go : (a : Bool) → eqb (get_or x i 0) c ≡ a → (b : Bool) → is_symbol x i ≡ b → (d : Bool) → eqb (number_at x (i + 1)) n ≡ d
        → cond a (cond b d false) false ≡ true
        → (get_or x i 0 ≡ c) × (is_symbol x i ≡ true) × (number_at x (i + 1) ≡ n)
    go true p true q true r h = (eqb-true (get_or x i 0) c p, q, eqb-true (number_at x (i + 1)) n r)
    go true p true q false r h = absurd (true≢false (sym h))
    go true p false q d r h = absurd (true≢false (sym h))
    go false p b q d r h = absurd (true≢false (sym h))

-- A position is before another one, or it is the same, where it is not after it.
before_or_at : (P : ℕ → Type 0) (i j : ℕ) → j ≤ i → (j < i → P j) → P i → P j
before_or_at P i j l f g = go (ltb j i) refl
  where
    go : (b : Bool) → ltb j i ≡ b → P j
    go true e = f (ltb-true j i e)
    go false e = let h = ltb-false j i e in let d : i ≡ j = omega arith in subst P d g

-- The search comes to position i where the number shows there and not between.
found_from : (m : ℕ) (x : List ℕ) (c n i j : ℕ) → is_showing x c n i ≡ true → ((h : ℕ) → h < i → is_showing x c n h ≡ true → ⊥) → j ≤ i
    → i < j + m → level_from m x c n j ≡ level_at x i
unfolding level_from
found_from zero x c n i j s f p q = absurd (omega arith)
found_from (suc m) x c n i j s f p q = go (is_showing x c n j) refl (λ r t. found_from m x c n i (j + 1) s f r t)
  where
    go : (z : Bool) → is_showing x c n j ≡ z → (j + 1 ≤ i → i < j + 1 + m → level_from m x c n (j + 1) ≡ level_at x i)
        → cond z (level_at x j) (level_from m x c n (j + 1)) ≡ level_at x i
    go true e ih = before_or_at (λ (k : ℕ). level_at x k ≡ level_at x i) i j p (λ l. absurd (f j l e)) refl
    go false e ih =
        let d : j ≡ i → ⊥ = λ r. true≢false (sym s ∙ ap (is_showing x c n) (sym r) ∙ e) in
        ih (omega arith) (omega arith)

-- A number that shows at position i and not before it has its level there.
first_here : (x : List ℕ) (c n i : ℕ) → 0 < c → is_showing x c n i ≡ true → ((h : ℕ) → h < i → is_showing x c n h ≡ true → ⊥)
    → first_level x c n ≡ level_at x i
unfolding first_level
first_here x c n i h s f =
    let b = (showing_parts x c n i s).0 in
    let l : i < length x = inside (ltb i (length x)) refl in
    found_from (length x) x c n i 0 s f (omega arith) (omega arith)
  where
    inside : (z : Bool) → ltb i (length x) ≡ z → i < length x
    inside true e = ltb-true i (length x) e
    inside false e =
        let d = get_or-eq_default x 0 (ltb-false i (length x) e) in
        let b = (showing_parts x c n i s).0 in
        absurd (omega arith)

-- numbers below the count

-- A symbol in order has a number below the count after it, which is no less than the one before.
counted : (x : List ℕ) (i k : ℕ) → in_order x i k ≡ true → (number_at x (i + 1) < count_after x i k) × (k ≤ count_after x i k)
unfolding in_order count_after
counted x i k = go (eqb n k) refl (ltb n k) refl (eqb (first_level x (get_or x i 0) n) (level_at x i))
  where
    n : ℕ
    n = number_at x (i + 1)

    go : (a : Bool) → eqb n k ≡ a → (b : Bool) → ltb n k ≡ b → (d : Bool) → cond a true (cond b d false) ≡ true
        → (n < cond a (k + 1) k) × (k ≤ cond a (k + 1) k)
    go true p b q d h = let e = eqb-true n k p in (omega arith, omega arith)
    go false p true q d h = (ltb-true n k q, omega arith)
    go false p false q d h = absurd (true≢false (sym h))

-- One position more, at which no number shows that is too large.
below_on : (x : List ℕ) (c k i : ℕ) → ShownBelow x c k i → ((n : ℕ) → is_showing x c n i ≡ true → n < k) → ShownBelow x c k (i + 1)
below_on x c k i h g j n l s =
    before_or_at (λ (p : ℕ). is_showing x c n p ≡ true → n < k) i j (omega arith) (λ q. h j n q) (g n) s

-- A symbol of the kind that is in order.
below_same : (x : List ℕ) (c k i : ℕ) → ShownBelow x c k i → in_order x i k ≡ true → ShownBelow x c (count_after x i k) (i + 1)
below_same x c k i h e =
    let d = counted x i k e in
    below_on x c (count_after x i k) i (λ j n l s. let a = h j n l s in omega arith)
    (λ n s. let a = (showing_parts x c n i s).2 in omega arith)

-- A symbol of the other kind.
below_other : (x : List ℕ) (c d k i : ℕ) → get_or x i 0 ≡ d → (d ≡ c → ⊥) → ShownBelow x c k i → ShownBelow x c k (i + 1)
below_other x c d k i b u h = below_on x c k i h (λ n s. absurd (u (sym b ∙ (showing_parts x c n i s).0)))

-- No symbol.
below_none : (x : List ℕ) (c k i : ℕ) → is_symbol x i ≡ false → ShownBelow x c k i → ShownBelow x c k (i + 1)
below_none x c k i e h = below_on x c k i h (λ n s. absurd (true≢false (sym (showing_parts x c n i s).1 ∙ e)))

-- entries

-- A made constant has an entry of its own where it is no leftover variable's.
made_entry_is : (size n l : ℕ) → made_entry size n l < size → (made_entry size n l ≡ n) × (n + l < size)
unfolding made_entry
made_entry_is size n l = go (ltb (n + l) size) refl
  where
    go : (b : Bool) → ltb (n + l) size ≡ b → cond b n size < size → (cond b n size ≡ n) × (n + l < size)
    go true e h = (refl, ltb-true (n + l) size e)
    go false e h = absurd (omega arith)

-- So does a leftover variable.
leftover_entry_is : (size n m : ℕ) → leftover_entry size n m < size → (leftover_entry size n m ≡ size - (n + 1)) × (n + m < size)
unfolding leftover_entry
leftover_entry_is size n m = go (ltb (n + m) size) refl
  where
    go : (b : Bool) → ltb (n + m) size ≡ b → cond b (size - (n + 1)) size < size
        → (cond b (size - (n + 1)) size ≡ size - (n + 1)) × (n + m < size)
    go true e h = (refl, ltb-true (n + m) size e)
    go false e h = absurd (omega arith)

-- Nothing is kept past the end.
cached_past : (v : List ℕ) (k : ℕ) → Cached (get_or v (length v) 0) k
cached_past v k h =
    let e : length v ≤ length v = omega arith in
    let d = get_or-eq_default v 0 e in
    absurd (omega arith)

-- Where more leftover variables have shown, an entry of a made constant is the same or past the end.
made_later : (v : List ℕ) (n l l' k : ℕ) → l ≤ l' → Cached (get_or v (made_entry (length v) n l) 0) k
    → Cached (get_or v (made_entry (length v) n l') 0) k
unfolding made_entry
made_later v n l l' k u h = go (ltb (n + l') (length v)) refl
  where
    go : (b : Bool) → ltb (n + l') (length v) ≡ b → Cached (get_or v (cond b n (length v)) 0) k
    go true e = let q = ltb-true (n + l') (length v) e in rw (lt-ltb (n + l) (length v) (omega arith)) at h
    go false e = cached_past v k

-- Where more made constants have shown, an entry of a leftover variable is the same or past the end.
leftover_later : (v : List ℕ) (n m m' k : ℕ) → m ≤ m' → Cached (get_or v (leftover_entry (length v) n m) 0) k
    → Cached (get_or v (leftover_entry (length v) n m') 0) k
unfolding leftover_entry
leftover_later v n m m' k u h = go (ltb (n + m') (length v)) refl
  where
    go : (b : Bool) → ltb (n + m') (length v) ≡ b → Cached (get_or v (cond b (length v - (n + 1)) (length v)) 0) k
    go true e = let q = ltb-true (n + m') (length v) e in rw (lt-ltb (n + m) (length v) (omega arith)) at h
    go false e = cached_past v k

-- writing

-- A written entry is right, and the others stay.
cached_set : (v : List ℕ) (a b e k : ℕ) → (b ≡ a → a < length v → e ≡ k + 1) → Cached (get_or v b 0) k → Cached (get_or (set v a e) b 0) k
cached_set v a b e k f h = go (eqb b a) refl (ltb a (length v)) refl
  where
    go : (p : Bool) → eqb b a ≡ p → (q : Bool) → ltb a (length v) ≡ q → Cached (get_or (set v a e) b 0) k
    go true p true q =
        let d = eqb-true b a p in
        let l = ltb-true a (length v) q in
        rw (d, get_or-set_same v a e 0 l) (λ z. f d l)
    go true p false q = rw (set_out v a e (ltb-false a (length v) q)) h
    go false p z q = rw (get_or-set_other v a b e 0 (eqb-false b a p)) h

-- A level that is kept is right.
cached_level : (v : List ℕ) (a b j k : ℕ) → (b ≡ a → a < length v → j ≡ k) → Cached (get_or v b 0) k → Cached (get_or (cache_level v a j) b 0) k
unfolding cache_level
cached_level v a b j k f h = go (ltb j 65535)
  where
    go : (p : Bool) → Cached (get_or (cond p (set v a (j + 1)) v) b 0) k
    go true = cached_set v a b (j + 1) k (λ p q. ap (◌+ 1) (f p q)) h
    go false = h

-- So is what is kept after a symbol.
cached_showing : (x v : List ℕ) (a i c b k : ℕ) → (number_at x (i + 1) ≡ c → b ≡ a → a < length v → level_at x i ≡ k)
    → Cached (get_or v b 0) k → Cached (get_or (cache_showing x v a i c) b 0) k
unfolding cache_showing
cached_showing x v a i c b k f h = go (eqb (number_at x (i + 1)) c) refl
  where
    go : (p : Bool) → eqb (number_at x (i + 1)) c ≡ p → Cached (get_or (cond p (cache_level v a (level_at x i)) v) b 0) k
    go true e = cached_level v a b (level_at x i) k (f (eqb-true (number_at x (i + 1)) c e)) h
    go false e = h

-- No entry is gained or lost.
showing_length : (x v : List ℕ) (a i c : ℕ) → length (cache_showing x v a i c) ≡ length v
unfolding cache_showing cache_level
showing_length x v a i c = go (eqb (number_at x (i + 1)) c) (ltb (level_at x i) 65535)
  where
    go : (p q : Bool) → length (cond p (cond q (set v a (level_at x i + 1)) v) v) ≡ length v
    go true true = length-set v a (level_at x i + 1)
    go true false = refl
    go false q = refl

-- from position to position

-- A new number is kept with its level.
new_level : (x : List ℕ) (c k i : ℕ) → 0 < c → get_or x i 0 ≡ c → is_symbol x i ≡ true → ShownBelow x c k i → number_at x (i + 1) ≡ k
    → first_level x c k ≡ level_at x i
new_level x c k i z b s h e =
    first_here x c k i z (subst (λ (n : ℕ). is_showing x c n i ≡ true) e (is_showing_lem x c i b s))
    (λ j l t. let q = h j k l t in absurd (omega arith))

module _ (x v : List ℕ) (i m l : ℕ) (valid : CacheValid x v i m l) where
  -- After a made constant.
  pub made_valid : get_or x i 0 ≡ 33 → is_symbol x i ≡ true → in_order x i m ≡ true
      → CacheValid x (cache_showing x v (made_entry (length v) (number_at x (i + 1)) l) i m) (i + 1) (count_after x i m) l
  made_valid b s o =
      let size = showing_length x v a i m in
      let up = (counted x i m o).1 in
      record {
        made_below = below_same x 33 m i valid.made_below o;
        leftover_below = below_other x 95 33 l i b (λ e. omega arith) valid.leftover_below;
        made_levels = λ n. rw size (cached_showing x v a i m (made_entry (length v) n l) (first_level x 33 n) (own n) (valid.made_levels n));
        leftover_levels = λ n. rw size (cached_showing x v a i m (leftover_entry (length v) n (count_after x i m)) (first_level x 95 n) (other n)
            (leftover_later v n m (count_after x i m) (first_level x 95 n) up (valid.leftover_levels n)));
      }
    where
      N : ℕ
      N = number_at x (i + 1)

      a : ℕ
      a = made_entry (length v) N l

      own : (n : ℕ) → N ≡ m → made_entry (length v) n l ≡ a → a < length v → level_at x i ≡ first_level x 33 n
      own n p q r =
          let f = made_entry_is (length v) N l r in
          let g = made_entry_is (length v) n l (omega arith) in
          let d : m ≡ n = omega arith in
          sym (new_level x 33 m i (omega arith) b s valid.made_below p) ∙ ap (first_level x 33) d

      other : (n : ℕ) → N ≡ m → leftover_entry (length v) n (count_after x i m) ≡ a → a < length v → level_at x i ≡ first_level x 95 n
      other n p q r =
          let f = made_entry_is (length v) N l r in
          let g = leftover_entry_is (length v) n (count_after x i m) (omega arith) in
          let u = (counted x i m o).0 in
          absurd (omega arith)

  -- After a leftover variable.
  pub leftover_valid : get_or x i 0 ≡ 95 → is_symbol x i ≡ true → in_order x i l ≡ true
      → CacheValid x (cache_showing x v (leftover_entry (length v) (number_at x (i + 1)) m) i l) (i + 1) m (count_after x i l)
  leftover_valid b s o =
      let size = showing_length x v a i l in
      let up = (counted x i l o).1 in
      record {
        made_below = below_other x 33 95 m i b (λ e. omega arith) valid.made_below;
        leftover_below = below_same x 95 l i valid.leftover_below o;
        made_levels = λ n. rw size (cached_showing x v a i l (made_entry (length v) n (count_after x i l)) (first_level x 33 n) (other n)
            (made_later v n l (count_after x i l) (first_level x 33 n) up (valid.made_levels n)));
        leftover_levels = λ n. rw size (cached_showing x v a i l (leftover_entry (length v) n m) (first_level x 95 n) (own n)
            (valid.leftover_levels n));
      }
    where
      N : ℕ
      N = number_at x (i + 1)

      a : ℕ
      a = leftover_entry (length v) N m

      own : (n : ℕ) → N ≡ l → leftover_entry (length v) n m ≡ a → a < length v → level_at x i ≡ first_level x 95 n
      own n p q r =
          let f = leftover_entry_is (length v) N m r in
          let g = leftover_entry_is (length v) n m (omega arith) in
          let d : l ≡ n = omega arith in
          sym (new_level x 95 l i (omega arith) b s valid.leftover_below p) ∙ ap (first_level x 95) d

      other : (n : ℕ) → N ≡ l → made_entry (length v) n (count_after x i l) ≡ a → a < length v → level_at x i ≡ first_level x 33 n
      other n p q r =
          let f = leftover_entry_is (length v) N m r in
          let g = made_entry_is (length v) n (count_after x i l) (omega arith) in
          let u = (counted x i l o).0 in
          absurd (omega arith)

  -- After a position where no symbol begins.
  pub none_valid : is_symbol x i ≡ false → CacheValid x v (i + 1) m l
  none_valid e =
      record {
        made_below = below_none x 33 m i e valid.made_below;
        leftover_below = below_none x 95 l i e valid.leftover_below;
        made_levels = valid.made_levels;
        leftover_levels = valid.leftover_levels;
      }

  -- Before an earlier position.
  pub earlier_valid : (e : ℕ) → e ≤ i → CacheValid x v e m l
  earlier_valid e h =
      record {
        made_below = λ j n q. valid.made_below j n (omega arith);
        leftover_below = λ j n q. valid.leftover_below j n (omega arith);
        made_levels = valid.made_levels;
        leftover_levels = valid.leftover_levels;
      }

-- Before the text nothing has shown.
pub start_valid : (x v : List ℕ) → ((a : ℕ) → get_or v a 0 ≡ 0) → CacheValid x v 0 0 0
start_valid x v h =
    record {
      made_below = λ j n l. absurd (omega arith);
      leftover_below = λ j n l. absurd (omega arith);
      made_levels = λ n p. let z = h (made_entry (length v) n 0) in absurd (omega arith);
      leftover_levels = λ n p. let z = h (leftover_entry (length v) n 0) in absurd (omega arith);
    }
