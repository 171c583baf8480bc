-- Checking the numbering in place is the test that goes from symbol to symbol: a number that has shown is found again where it showed
-- first, with the level that it had.
use Prim.Native.Nat.{ℕ, zero, suc, ◌+◌, ◌-◌, ◌<◌, ◌≤◌}
use native.Mathlib.Omega.{arith}
use native.Mathlib.Numerals.{add-one}
use mathlib.Core.Path.{◌≡◌, refl, sym, ap, ◌∙◌, subst}
use mathlib.Core.Bool.{Bool, true, false, not, ◌&&◌, cond, true≢false}
use mathlib.Core.List.{List, [], ◌∷◌, ◌++◌}
use mathlib.Core.Option.{Option, none, some, map}
use mathlib.Core.Logic.{◌⊎◌, inl, inr}
use lib.Dec.{eqb, ltb}
use lib.ListN.{length, get_or, length-append, get_or-append}
use lib.Seq.{get_or-append_seam}
use borrow.Author.Tests.{eqb-true, eqb-false, ne_eqb, ltb-true}
use Rattle.sequents.specs.Symbols.{Symbol, made, leftover, symbol_level}
use Rattle.text_judging.specs.Judging.{Seen, show_number, show_symbol, show_symbols}
use Rattle.text_judging.proofs.Infer.{nothing, mapped}
use Rattle.text_judging.proofs.Showings.{shows_cons, shows_parts, shows_append, unseen}
use Rattle.scanning.specs.Numbering.{SymbolCounts}
use Rattle.std.specs.Prelude.{Some, None}
use Rattle.scanning.specs.Numbering.{outside_name, is_symbol, number_at, level_at, is_showing, level_from, first_level, in_order, count_after}
use Rattle.scanning.specs.Numbering.{check_made, check_leftover, check_symbol, check_numbering}
use Rattle.scanning.proofs.SymbolsInText.{symbol_at, starts_in, starts_append}

-- first showings, of lists of symbols

-- The levels seen of one kind: of made constants if the test is true.
abbrev pub levels_of : Bool → Seen → List ℕ
levels_of true s = s.of_made
levels_of false s = s.of_leftover

-- A symbol of that kind with number n.
unfoldable shows : Bool → ℕ → Symbol → Bool
shows k n (made m j) = k && eqb m n
shows k n (leftover m j) = not k && eqb m n

-- The level at the first showing.
unfoldable level_in : Bool → ℕ → List Symbol → Option ℕ
level_in k n [] = none
level_in k n (s ∷ l) = cond (shows k n s) (some (symbol_level s)) (level_in k n l)

-- More symbols after a first showing do not change its level.
level_in_append : (k : Bool) (n v : ℕ) (l m : List Symbol) → level_in k n l ≡ some v → level_in k n (l ++ m) ≡ some v
unfolding level_in
level_in_append k n v [] m h = nothing v h
level_in_append k n v (s ∷ l) m h = go (shows k n s) (level_in_append k n v l m) h
  where
    go : (z : Bool) → (level_in k n l ≡ some v → level_in k n (l ++ m) ≡ some v) → cond z (some (symbol_level s)) (level_in k n l) ≡ some v
        → cond z (some (symbol_level s)) (level_in k n (l ++ m)) ≡ some v
    go true ih q = q
    go false ih q = ih q

-- What is seen of a kind after more symbols: all that was, and each new one with the level at its first showing.
record Seeing (k : Bool) (l : List Symbol) (a c : List ℕ) : Type 0 where
  longer : length a ≤ length c
  kept : (n : ℕ) → n < length a → get_or c n 0 ≡ get_or a n 0
  new : (n : ℕ) → length a ≤ n → n < length c → level_in k n l ≡ some (get_or c n 0)

-- After no symbols, the levels are as they were.
seeing_nil : (k : Bool) (a : List ℕ) → Seeing k [] a a
seeing_nil k a = record { longer = omega arith; kept = λ n h. refl; new = λ n h u. absurd (omega arith) }

-- A symbol of another kind, or one that showed before, adds no level.
seeing_old : (k : Bool) (s : Symbol) (l : List Symbol) (a c : List ℕ) → ((n : ℕ) → length a ≤ n → shows k n s ≡ false) → Seeing k l a c
    → Seeing k (s ∷ l) a c
unfolding level_in
seeing_old k s l a c f h = record { longer = h.longer; kept = h.kept; new = λ n g u. rw (f n g) (h.new n g u) }

-- A new symbol adds its level.
seeing_new : (k : Bool) (s : Symbol) (l : List Symbol) (a c : List ℕ) → ((n : ℕ) → shows k n s ≡ eqb (length a) n)
    → Seeing k l (a ++ (symbol_level s ∷ [])) c → Seeing k (s ∷ l) a c
unfolding level_in
seeing_new k s l a c f h =
    let e = length-append a (symbol_level s ∷ []) in
    record {
      longer = let q = h.longer in omega arith;
      kept = λ n u. h.kept n (omega arith) ∙ get_or-append a (symbol_level s ∷ []) 0 n u;
      new = λ n g u. rw (f n) (go n g u (eqb (length a) n) refl);
    }
  where
    go : (n : ℕ) → length a ≤ n → n < length c → (z : Bool) → eqb (length a) n ≡ z
        → cond z (some (symbol_level s)) (level_in k n l) ≡ some (get_or c n 0)
    go n g u true q =
        let d = eqb-true (length a) n q in
        let e = length-append a (symbol_level s ∷ []) in
        ap some (sym (h.kept n (omega arith) ∙ ap (λ (j : ℕ). get_or (a ++ (symbol_level s ∷ [])) j 0) (sym d)
        ∙ get_or-append_seam a (symbol_level s) [] 0))
    go n g u false q =
        let d = eqb-false (length a) n q in
        let e = length-append a (symbol_level s ∷ []) in
        h.new n (omega arith) u

-- A number that passes is new and adds its level, or has shown and leaves the levels.
shown_number : (ls ms : List ℕ) (n k : ℕ) → show_number ls n k ≡ some ms → ((n ≡ length ls) × (ms ≡ ls ++ (k ∷ [])))
    ⊎ ((n < length ls) × (ms ≡ ls))
unfolding show_number
shown_number ls ms n k h = go (eqb n (length ls)) refl (ltb n (length ls)) refl (eqb (get_or ls n 0) k) h
  where
    go : (a : Bool) → eqb n (length ls) ≡ a → (b : Bool) → ltb n (length ls) ≡ b → (c : Bool)
        → cond a (some (ls ++ (k ∷ []))) (cond (b && c) (some ls) none) ≡ some ms
        → ((n ≡ length ls) × (ms ≡ ls ++ (k ∷ []))) ⊎ ((n < length ls) × (ms ≡ ls))
    go true p b q c r = inl (eqb-true n (length ls) p, cc)
    go false p true q true r = inr (ltb-true n (length ls) q, cc)
    go false p true q false r = nothing ms r
    go false p false q c r = nothing ms r

-- A symbol of the kind that passes is new and adds its level, or has shown and leaves the levels.
seeing_same : (k : Bool) (x : Symbol) (l : List Symbol) (ls ms c : List ℕ) (n : ℕ) → ((m : ℕ) → shows k m x ≡ eqb n m)
    → ((n ≡ length ls) × (ms ≡ ls ++ (symbol_level x ∷ []))) ⊎ ((n < length ls) × (ms ≡ ls)) → Seeing k l ms c → Seeing k (x ∷ l) ls c
seeing_same k x l ls ms c n f (inl q) h =
    seeing_new k x l ls c (λ m. f m ∙ ap (λ (i : ℕ). eqb i m) q.0) (subst (λ (v : List ℕ). Seeing k l v c) q.1 h)
seeing_same k x l ls ms c n f (inr q) h =
    seeing_old k x l ls c (λ m g. f m ∙ ne_eqb n m (λ e. let d = q.0 in omega arith)) (subst (λ (v : List ℕ). Seeing k l v c) q.1 h)

-- One symbol that passes changes the levels of a kind as `Seeing` says.
seeing_symbol : (k : Bool) (x : Symbol) (l : List Symbol) (s u : Seen) (c : List ℕ) → show_symbol s x ≡ some u
    → Seeing k l (levels_of k u) c → Seeing k (x ∷ l) (levels_of k s) c
unfolding show_symbol shows symbol_level
seeing_symbol true (made n j) l s u c h g =
    let r = mapped (λ ls. record { of_made = ls; of_leftover = s.of_leftover }) (show_number s.of_made n j) u h in
    seeing_same true (made n j) l s.of_made r.0 c n (λ m. refl) (shown_number s.of_made r.0 n j r.1)
    (subst (λ (v : Seen). Seeing true l v.of_made c) (sym r.2) g)
seeing_symbol false (made n j) l s u c h g =
    let r = mapped (λ ls. record { of_made = ls; of_leftover = s.of_leftover }) (show_number s.of_made n j) u h in
    seeing_old false (made n j) l s.of_leftover c (λ m q. refl) (subst (λ (v : Seen). Seeing false l v.of_leftover c) (sym r.2) g)
seeing_symbol true (leftover n j) l s u c h g =
    let r = mapped (λ ls. record { of_made = s.of_made; of_leftover = ls }) (show_number s.of_leftover n j) u h in
    seeing_old true (leftover n j) l s.of_made c (λ m q. refl) (subst (λ (v : Seen). Seeing true l v.of_made c) (sym r.2) g)
seeing_symbol false (leftover n j) l s u c h g =
    let r = mapped (λ ls. record { of_made = s.of_made; of_leftover = ls }) (show_number s.of_leftover n j) u h in
    seeing_same false (leftover n j) l s.of_leftover r.0 c n (λ m. refl) (shown_number s.of_leftover r.0 n j r.1)
    (subst (λ (v : Seen). Seeing false l v.of_leftover c) (sym r.2) g)

-- Symbols that all pass change the levels of a kind as `Seeing` says.
seeing : (k : Bool) (l : List Symbol) (s u : Seen) → show_symbols l s ≡ some u → Seeing k l (levels_of k s) (levels_of k u)
unfolding show_symbols
seeing k [] s u h = subst (λ (v : Seen). Seeing k [] (levels_of k s) (levels_of k v)) (let e : s ≡ u = cc in e) (seeing_nil k (levels_of k s))
seeing k (x ∷ l) s u h =
    let r = shows_parts x l s u h in
    seeing_symbol k x l s r.0 (levels_of k u) r.1 (seeing k l r.0 u r.2)

-- From the start, each number has the level of its first showing.
seen_level : (k : Bool) (l : List Symbol) (u : Seen) (n : ℕ) → show_symbols l unseen ≡ some u → n < length (levels_of k u)
    → level_in k n l ≡ some (get_or (levels_of k u) n 0)
seen_level true l u n h g = (seeing true l unseen u h).new n (omega arith) g
seen_level false l u n h g = (seeing false l unseen u h).new n (omega arith) g

-- looking in the text

-- The byte that a symbol of the kind begins with.
abbrev pub kind_byte : Bool → ℕ
kind_byte true = 33
kind_byte false = 95

-- The level, or the number that is none.
abbrev or_none : Option ℕ → ℕ
or_none none = 65536
or_none (some k) = k

-- At a position where a symbol begins, the test tells whether it shows that number of its kind.
showing_is : (k : Bool) (x : List ℕ) (n i : ℕ) → is_symbol x i ≡ true → is_showing x (kind_byte k) n i ≡ shows k n (symbol_at x i)
unfolding is_showing is_symbol symbol_at shows
showing_is k x n i h = rw h (go k (eqb (get_or x i 0) 33) refl (eqb (get_or x i 0) 95) refl h)
  where
    N : ℕ
    N = number_at x (i + 1)

    go : (k a : Bool) → eqb (get_or x i 0) 33 ≡ a → (c : Bool) → eqb (get_or x i 0) 95 ≡ c → cond a true (cond c (outside_name x i) false) ≡ true
        → cond (eqb (get_or x i 0) (kind_byte k)) (eqb N n) false ≡ shows k n (cond a (made N (level_at x i)) (leftover N (level_at x i)))
    go true true p c q e = rw p
    go false true p c q e = rw (ap (λ (d : ℕ). eqb d 95) (eqb-true (get_or x i 0) 33 p))
    go true false p c q e = rw p
    go false false p true q e = rw q
    go false false p false q e = absurd (true≢false (sym e))

-- There is no showing where no symbol begins.
showing_none : (c : ℕ) (x : List ℕ) (n i : ℕ) → is_symbol x i ≡ false → is_showing x c n i ≡ false
unfolding is_showing
showing_none c x n i h = rw h (go (eqb (get_or x i 0) c))
  where
    go : (b : Bool) → cond b false false ≡ false
    go true = refl
    go false = refl

-- A symbol's level is the one at its position.
level_is : (x : List ℕ) (i : ℕ) → symbol_level (symbol_at x i) ≡ level_at x i
unfolding symbol_at symbol_level
level_is x i = go (eqb (get_or x i 0) 33)
  where
    go : (b : Bool)
        → symbol_level (cond b (made (number_at x (i + 1)) (level_at x i)) (leftover (number_at x (i + 1)) (level_at x i))) ≡ level_at x i
    go true = refl
    go false = refl

-- Looking from position i on finds the level of the first showing among the symbols there.
level_from_lem : (k : Bool) (m : ℕ) (x : List ℕ) (n i : ℕ) → level_from m x (kind_byte k) n i ≡ or_none (level_in k n (starts_in m x i))
unfolding level_from starts_in level_in
level_from_lem k zero x n i = refl
level_from_lem k (suc m) x n i =
    ap (λ (z : ℕ). cond (is_showing x (kind_byte k) n i) (level_at x i) (level_from m x (kind_byte k) n z)) (add-one i)
    ∙ go (is_symbol x i) refl (level_from_lem k m x n (suc i))
  where
    found : (z : Bool) → level_from m x (kind_byte k) n (suc i) ≡ or_none (level_in k n (starts_in m x (suc i)))
        → cond z (level_at x i) (level_from m x (kind_byte k) n (suc i)) ≡ or_none
        (cond z (some (symbol_level (symbol_at x i))) (level_in k n (starts_in m x (suc i))))
    found true ih = sym (level_is x i)
    found false ih = ih

    go : (z : Bool) → is_symbol x i ≡ z → level_from m x (kind_byte k) n (suc i) ≡ or_none (level_in k n (starts_in m x (suc i)))
        → cond (is_showing x (kind_byte k) n i) (level_at x i) (level_from m x (kind_byte k) n (suc i)) ≡ or_none
        (level_in k n (cond z (symbol_at x i ∷ starts_in m x (suc i)) (starts_in m x (suc i))))
    go true h ih = rw (showing_is k x n i h) (found (shows k n (symbol_at x i)) ih)
    go false h ih = rw (showing_none (kind_byte k) x n i h) ih

-- A number that has shown before position i is found with its level.
first_level_lem : (k : Bool) (x : List ℕ) (i n : ℕ) (u : Seen) → i ≤ length x → show_symbols (starts_in i x 0) unseen ≡ some u
    → n < length (levels_of k u)
    → first_level x (kind_byte k) n ≡ get_or (levels_of k u) n 0
unfolding first_level
first_level_lem k x i n u l h g =
    let e : length x ≡ i + (length x - i) = omega arith in
    level_from_lem k (length x) x n 0
    ∙ ap (λ (m : List Symbol). or_none (level_in k n m)) (ap (λ (j : ℕ). starts_in j x 0) e ∙ starts_append i (length x - i) x 0)
    ∙ ap or_none (level_in_append k n (get_or (levels_of k u) n 0) (starts_in i x 0) (starts_in (length x - i) x (0 + i))
    (seen_level k (starts_in i x 0) u n h g))

-- from symbol to symbol

-- A test and a count agree with the levels of a kind after a number.
abbrev Counted : Bool → ℕ → Option (List ℕ) → Type 0
Counted true c none = ⊥
Counted true c (some ls) = c ≡ length ls
Counted false c none = Unit {0}
Counted false c (some ls) = ⊥

-- At a symbol, the test and the count agree with the levels of its kind.
counted : (x : List ℕ) (i c : ℕ) (ls : List ℕ) → get_or x i 0 ≡ c → ((n : ℕ) → n < length ls → first_level x c n ≡ get_or ls n 0)
    → Counted (in_order x i (length ls)) (count_after x i (length ls)) (show_number ls (number_at x (i + 1)) (level_at x i))
unfolding in_order count_after show_number
counted x i c ls b f = go (eqb N (length ls)) (ltb N (length ls)) refl
  where
    N : ℕ
    N = number_at x (i + 1)

    K : ℕ
    K = level_at x i

    old : (z : Bool) → Counted z (length ls) (cond z (some ls) none)
    old true = refl
    old false = tt

    go : (p q : Bool) → ltb N (length ls) ≡ q
        → Counted (cond p true (cond q (eqb (first_level x (get_or x i 0) N) K) false)) (cond p (length ls + 1) (length ls))
        (cond p (some (ls ++ (K ∷ []))) (cond (q && eqb (get_or ls N 0) K) (some ls) none))
    go true q e = sym (length-append ls (K ∷ []))
    go false true e = rw (b, f N (ltb-true N (length ls) e)) (old (eqb (get_or ls N 0) K))
    go false false e = tt

-- Counts agree with what is seen.
abbrev pub ShowsAs : SymbolCounts → Option Seen → Type 0
ShowsAs None none = Unit {0}
ShowsAs None (some u) = ⊥
ShowsAs (Some (m, l)) none = ⊥
ShowsAs (Some (m, l)) (some u) = (m ≡ length u.of_made) × (l ≡ length u.of_leftover)

module _ (x : List ℕ) (i : ℕ) (u : Seen) (within : i ≤ length x) (seen : show_symbols (starts_in i x 0) unseen ≡ some u) where
  -- Checking a made constant in place agrees with what is seen of it.
  made_as : get_or x i 0 ≡ 33 → ShowsAs (check_made x i (length u.of_made) (length u.of_leftover))
      (show_symbol u (made (number_at x (i + 1)) (level_at x i)))
  unfolding check_made show_symbol
  made_as b =
      go (in_order x i (length u.of_made)) (show_number u.of_made (number_at x (i + 1)) (level_at x i))
      (counted x i 33 u.of_made b (λ n l. first_level_lem true x i n u within seen l))
    where
      go : (z : Bool) (o : Option (List ℕ)) → Counted z (count_after x i (length u.of_made)) o
          → ShowsAs (cond z (Some (count_after x i (length u.of_made), length u.of_leftover)) None)
          (map (λ ls. record { of_made = ls; of_leftover = u.of_leftover }) o)
      go true none h = absurd h
      go true (some ls) h = (h, refl)
      go false none h = tt
      go false (some ls) h = absurd h

  -- Checking a leftover variable in place agrees with showing it.
  leftover_as : get_or x i 0 ≡ 95 → ShowsAs (check_leftover x i (length u.of_made) (length u.of_leftover))
      (show_symbol u (leftover (number_at x (i + 1)) (level_at x i)))
  unfolding check_leftover show_symbol
  leftover_as b =
      go (in_order x i (length u.of_leftover)) (show_number u.of_leftover (number_at x (i + 1)) (level_at x i))
      (counted x i 95 u.of_leftover b (λ n l. first_level_lem false x i n u within seen l))
    where
      go : (z : Bool) (o : Option (List ℕ)) → Counted z (count_after x i (length u.of_leftover)) o
          → ShowsAs (cond z (Some (length u.of_made, count_after x i (length u.of_leftover))) None)
          (map (λ ls. record { of_made = u.of_made; of_leftover = ls }) o)
      go true none h = absurd h
      go true (some ls) h = (refl, h)
      go false none h = tt
      go false (some ls) h = absurd h

  -- Checking the symbol that begins at position i agrees with showing it.
  symbol_as : is_symbol x i ≡ true → ShowsAs (check_symbol x i (length u.of_made) (length u.of_leftover)) (show_symbol u (symbol_at x i))
  unfolding check_symbol is_symbol symbol_at
  symbol_as h = rw h (go (eqb (get_or x i 0) 33) refl (eqb (get_or x i 0) 95) refl h)
    where
      go : (a : Bool) → eqb (get_or x i 0) 33 ≡ a → (c : Bool) → eqb (get_or x i 0) 95 ≡ c → cond a true (cond c (outside_name x i) false) ≡ true
          → ShowsAs (cond a (check_made x i (length u.of_made) (length u.of_leftover))
          (check_leftover x i (length u.of_made) (length u.of_leftover)))
          (show_symbol u (cond a (made (number_at x (i + 1)) (level_at x i)) (leftover (number_at x (i + 1)) (level_at x i))))
      go true p c q e = made_as (eqb-true (get_or x i 0) 33 p)
      go false p true q e = leftover_as (eqb-true (get_or x i 0) 95 q)
      go false p false q e = absurd (true≢false (sym e))

-- The symbols up to position i + 1 are those up to i, then the one that may begin at i.
starts_next : (x : List ℕ) (i : ℕ) → starts_in (suc i) x 0 ≡ starts_in i x 0 ++ starts_in 1 x i
starts_next x i =
    let a : suc i ≡ i + 1 = omega arith in
    let b : 0 + i ≡ i = omega arith in
    ap (λ (n : ℕ). starts_in n x 0) a ∙ starts_append i 1 x 0 ∙ ap (λ (n : ℕ). starts_in i x 0 ++ starts_in 1 x n) b

-- Where the symbols before position i have passed, those that begin at n positions from i on pass in place exactly if they pass.
pub check_numbering_lem : (n : ℕ) (x : List ℕ) (i : ℕ) (u : Seen) → i + n ≤ length x → show_symbols (starts_in i x 0) unseen ≡ some u
    → ShowsAs (check_numbering n x i (length u.of_made) (length u.of_leftover)) (show_symbols (starts_in n x i) u)
unfolding check_numbering check_symbol starts_in show_symbols
check_numbering_lem zero x i u l h = (refl, refl)
check_numbering_lem (suc n) x i u l h =
    go (is_symbol x i) refl
    (λ v e. subst (λ (j : ℕ). ShowsAs (check_numbering n x j (length v.of_made) (length v.of_leftover))
    (show_symbols (starts_in n x (suc i)) v)) (sym (add-one i))
    (check_numbering_lem n x (suc i) v (omega arith) (ap (λ (m : List Symbol). show_symbols m unseen) (starts_next x i)
    ∙ shows_append (starts_in i x 0) (starts_in 1 x i) unseen u h ∙ e)))
  where
    a : ℕ
    a = length u.of_made

    b : ℕ
    b = length u.of_leftover

    Later : Type 0
    Later =
        (v : Seen) → show_symbols (starts_in 1 x i) u ≡ some v
        → ShowsAs (check_numbering n x (i + 1) (length v.of_made) (length v.of_leftover)) (show_symbols (starts_in n x (suc i)) v)

    symbol : (s : SymbolCounts) (o : Option Seen) → show_symbol u (symbol_at x i) ≡ o → is_symbol x i ≡ true → ShowsAs s o → Later
        → ShowsAs (elim s as (λ z. SymbolCounts) [ Some (p, q) ↦ check_numbering n x (i + 1) p q | None ↦ None ])
        (elim o as (λ z. Option Seen) [ none ↦ none | some v ↦ show_symbols (starts_in n x (suc i)) v ])
    symbol None none e z q f = tt
    symbol None (some v) e z q f = absurd q
    symbol (Some (p, m)) none e z q f = absurd q
    symbol (Some (p, m)) (some v) e z q f =
        rw (q.0, q.1) (f v (rw (starts_in, z) (shows_cons (symbol_at x i) [] u v e)))

    go : (z : Bool) → is_symbol x i ≡ z → Later
        → ShowsAs (elim (check_symbol x i a b) as (λ z. SymbolCounts) [
          | Some (p, q) ↦ check_numbering n x (i + 1) p q
          | None ↦
              None
        ]) (show_symbols (cond z (symbol_at x i ∷ starts_in n x (suc i)) (starts_in n x (suc i))) u)
    go true e f = symbol (check_symbol x i a b) (show_symbol u (symbol_at x i)) refl e (symbol_as x i u (omega arith) h e) f
    go false e f = rw (check_symbol, e) (f u (rw (starts_in, e)))
