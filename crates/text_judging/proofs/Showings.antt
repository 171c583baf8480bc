-- Numbering by first showing, of lists of symbols: the test that goes from symbol to symbol passes the symbols that `numbering_of`
-- numbers, and what passes it `numbering_of` leaves as it is.
use Prim.Native.Nat.{ℕ, zero, suc, ◌+◌, ◌≤◌, ◌<◌}
use mathlib.Core.Path.{◌≡◌, refl, sym, ◌∙◌, ap, subst}
use mathlib.Core.Bool.{Bool, true, false, ◌&&◌, ◌||◌, cond, true≢false}
use mathlib.Core.List.{List, [], ◌∷◌, ◌++◌, map, append-nil, append_assoc}
use mathlib.Core.Option
use mathlib.Core.Option.{Option, none, some}
use native.Mathlib.Omega.{arith}
use lib.Dec.{eqb, ltb}
use lib.ListN.{length, get_or}
use borrow.Author.Tests.{eqb-true, eq-eqb, ne_eqb, ltb-true, lt-ltb}
use Rattle.terms.specs.Lists.{All, Mem, here, there}
use Rattle.terms.proofs.Lists.{map_append, length_map}
use Rattle.formulas.proofs.Free.{and_parts, or_left, or_right}
use Rattle.sequents.specs.Symbols.{Symbol, made, leftover, symbol_level}
use Rattle.sequents.specs.Renamings.{rename}
use Rattle.answer_texts.specs.Numbering.{same_symbol, is_made, made_only, leftover_only, firsts, index_of, numbering_of}
use Rattle.answer_texts.proofs.FirstShowings.{and_both, same_symbol_true, same_symbol_refl, has, fresh, has_firsts, firsts_snoc}
use Rattle.answer_texts.proofs.FirstShowings.{firsts_append}
use Rattle.answer_texts.proofs.FirstShowings.{index_append, index_new, index_old, made_only_append, leftover_only_append, mem_made}
use Rattle.answer_texts.proofs.FirstShowings.{mem_leftover}
use Rattle.text_judging.specs.Judging.{Seen, show_number, show_symbol, show_symbols}
use Rattle.text_judging.proofs.Infer.{guarded, nothing, mapped}

-- one kind

-- A number that is due passes, and its level is added.
show_number_new : (ls : List ℕ) (n k : ℕ) → n ≡ length ls → show_number ls n k ≡ some (ls ++ (k ∷ []))
unfolding show_number
show_number_new ls n k h = rw (eq-eqb n (length ls) h)

-- A number that has shown with the given level passes.
show_number_old : (ls : List ℕ) (n k : ℕ) → n < length ls → get_or ls n 0 ≡ k → show_number ls n k ≡ some ls
unfolding show_number
show_number_old ls n k h g = rw (ne_eqb n (length ls) (λ p. omega arith), lt-ltb n (length ls) h, eq-eqb (get_or ls n 0) k g)

-- The levels of the first showings.
unfoldable levels : List Symbol → List ℕ
levels l = map symbol_level (firsts l)

-- A symbol that is numbered by its position among the first showings passes.
shows_next : (x : Symbol) (l more : List Symbol)
    → show_number (levels l) (index_of x (firsts (l ++ (x ∷ more)))) (symbol_level x) ≡ some (levels (l ++ (x ∷ [])))
unfolding levels fresh
shows_next x l more =
    let r = firsts_append (l ++ (x ∷ [])) more in
    ap (λ (p : List Symbol). show_number (levels l) (index_of x p) (symbol_level x)) (ap firsts (sym (append_assoc l (x ∷ []) more)) ∙ r.1
    ∙ ap (◌++ r.0) (firsts_snoc l x))
    ∙ go r.0 (has x (firsts l)) refl
    ∙ ap (λ (p : List Symbol). some (map symbol_level p)) (sym (firsts_snoc l x))
  where
    go : (m : List Symbol) (b : Bool) → has x (firsts l) ≡ b
        → show_number (levels l) (index_of x ((firsts l ++ cond b [] (x ∷ [])) ++ m)) (symbol_level x) ≡ some
        (map symbol_level (firsts l ++ cond b [] (x ∷ [])))
    go m true q =
        let i = index_old x (firsts l) q in
        rw (append-nil (firsts l), index_append x (firsts l) m q)
        (show_number_old (levels l) (index_of x (firsts l)) (symbol_level x)
        (let e = length_map symbol_level (firsts l) in omega (arith, i.0)) i.1)
    go m false q =
        rw (append_assoc (firsts l) (x ∷ []) m, index_new x (firsts l) m q, map_append symbol_level (firsts l) (x ∷ []))
        (show_number_new (levels l) (length (firsts l)) (symbol_level x) (sym (length_map symbol_level (firsts l))))

-- The symbols of one kind, numbered from i on, with these levels.
unfoldable counted : (ℕ → ℕ → Symbol) → ℕ → List ℕ → List Symbol
counted c i [] = []
counted c i (k ∷ ks) = c i k ∷ counted c (suc i) ks

-- One more level adds one symbol with the next number.
counted_snoc : (c : ℕ → ℕ → Symbol) (i : ℕ) (ls : List ℕ) (n k : ℕ) → n ≡ i + length ls
    → counted c i (ls ++ (k ∷ [])) ≡ counted c i ls ++ (c n k ∷ [])
unfolding counted
counted_snoc c i [] n k h = ap (λ (j : ℕ). c j k ∷ []) (let e : i ≡ n = omega arith in e)
counted_snoc c i (l ∷ ls) n k h = ap (c i l ∷◌) (counted_snoc c (suc i) ls n k (omega arith))

module _ (c : ℕ → ℕ → Symbol) (same : (n k m j : ℕ) → same_symbol (c n k) (c m j) ≡ (eqb n m && eqb k j)) where
  -- A symbol whose number is due is not in the list yet.
  counted_new : (i : ℕ) (ls : List ℕ) (n k : ℕ) → i + length ls ≤ n → has (c n k) (counted c i ls) ≡ false
  unfolding counted has
  counted_new i [] n k h = refl
  counted_new i (l ∷ ls) n k h = rw (same i l n k, ne_eqb i n (λ q. omega arith)) (counted_new (suc i) ls n k (omega arith))

  -- A symbol whose number has shown with its level is in the list.
  counted_old : (i j : ℕ) (ls : List ℕ) (n k : ℕ) → n ≡ i + j → j < length ls → get_or ls j 0 ≡ k → has (c n k) (counted c i ls) ≡ true
  unfolding counted has
  counted_old i j [] n k h l g = absurd (omega arith)
  counted_old i zero (a ∷ ls) n k h l g =
      or_left (same_symbol (c i a) (c n k)) (has (c n k) (counted c (suc i) ls)) (same i a n k
      ∙ and_both (eqb i n) (eqb a k) (eq-eqb i n (omega arith)) (eq-eqb a k g))
  counted_old i (suc j) (a ∷ ls) n k h l g =
      or_right (same_symbol (c i a) (c n k)) (has (c n k) (counted c (suc i) ls))
      (counted_old (suc i) j ls n k (omega arith) (omega arith) g)

  -- The number of a symbol in the list is i plus its position.
  counted_index : (i : ℕ) (ls : List ℕ) (n k : ℕ) → has (c n k) (counted c i ls) ≡ true → i + index_of (c n k) (counted c i ls) ≡ n
  unfolding counted has index_of
  counted_index i [] n k h = absurd (true≢false (sym h))
  counted_index i (a ∷ ls) n k h = go (same_symbol (c i a) (c n k)) refl h (counted_index (suc i) ls n k)
    where
      go : (b : Bool) → same_symbol (c i a) (c n k) ≡ b → (b || has (c n k) (counted c (suc i) ls)) ≡ true
          → (has (c n k) (counted c (suc i) ls) ≡ true → suc i + index_of (c n k) (counted c (suc i) ls) ≡ n)
          → i + cond b 0 (suc (index_of (c n k) (counted c (suc i) ls))) ≡ n
      go true q p f = let e = eqb-true i n (and_parts (eqb i n) (eqb a k) (sym (same i a n k) ∙ q)).0 in omega arith
      go false q p f = let e = f p in omega arith

  -- A symbol that passes keeps the first showings counted.
  counts_next : (l : List Symbol) (ls ms : List ℕ) (n k : ℕ) → show_number ls n k ≡ some ms → firsts l ≡ counted c 0 ls
      → firsts (l ++ (c n k ∷ [])) ≡ counted c 0 ms
  unfolding show_number fresh
  counts_next l ls ms n k h e =
      firsts_snoc l (c n k) ∙ ap (λ (p : List Symbol). p ++ fresh (c n k) p) e ∙ go (eqb n (length ls)) refl h
    where
      go : (b : Bool) → eqb n (length ls) ≡ b
          → cond b (some (ls ++ (k ∷ []))) (cond (ltb n (length ls) && eqb (get_or ls n 0) k) (some ls) none) ≡ some ms
          → counted c 0 ls ++ cond (has (c n k) (counted c 0 ls)) [] (c n k ∷ []) ≡ counted c 0 ms
      go true q p =
          let d = eqb-true n (length ls) q in
          let r : ls ++ (k ∷ []) ≡ ms = cc in
          rw (counted_new 0 ls n k (omega arith)) (sym (counted_snoc c 0 ls n k (omega arith)) ∙ ap (counted c 0) r)
      go false q p =
          let r = guarded (ltb n (length ls) && eqb (get_or ls n 0) k) ls ms p in
          let d = and_parts (ltb n (length ls)) (eqb (get_or ls n 0) k) r.0 in
          rw (
            counted_old 0 n ls n k (omega arith) (ltb-true n (length ls) d.0) (eqb-true (get_or ls n 0) k d.1),
            append-nil (counted c 0 ls),
          ) (ap (counted c 0) r.1)

-- both kinds

-- After a symbol that passes, the test goes on with the other symbols.
pub shows_cons : (x : Symbol) (l : List Symbol) (s u : Seen) → show_symbol s x ≡ some u → show_symbols (x ∷ l) s ≡ show_symbols l u
unfolding show_symbols
shows_cons x l s u h = ap (λ (o : Option Seen). elim o as (λ o. Option Seen) [ none ↦ none | some w ↦ show_symbols l w ]) h

-- If symbols pass, the first passes and the others pass after it.
pub shows_parts : (x : Symbol) (l : List Symbol) (s v : Seen) → show_symbols (x ∷ l) s ≡ some v → (u : Seen) × (show_symbol s x ≡ some u)
    × (show_symbols l u ≡ some v)
unfolding show_symbols
shows_parts x l s v h = go (show_symbol s x) refl h
  where
    go : (o : Option Seen) → show_symbol s x ≡ o → elim o as (λ o. Option Seen) [ none ↦ none | some w ↦ show_symbols l w ] ≡ some v
        → (u : Seen) × (show_symbol s x ≡ some u) × (show_symbols l u ≡ some v)
    go none q p = nothing v p
    go (some u) q p = (u, q, p)

-- After a list that passes, the test goes on with the list that follows.
pub shows_append : (x y : List Symbol) (s u : Seen) → show_symbols x s ≡ some u → show_symbols (x ++ y) s ≡ show_symbols y u
unfolding show_symbols
shows_append [] y s u h = ap (show_symbols y) (let e : s ≡ u = cc in e)
shows_append (a ∷ x) y s u h = let r = shows_parts a x s u h in shows_cons a (x ++ y) s r.0 r.1 ∙ shows_append x y r.0 u r.2

-- If two lists joined pass, the first passes and the second passes after it.
pub shows_split : (x y : List Symbol) (s v : Seen) → show_symbols (x ++ y) s ≡ some v → (u : Seen) × (show_symbols x s ≡ some u)
    × (show_symbols y u ≡ some v)
unfolding show_symbols
shows_split [] y s v h = (s, refl, h)
shows_split (a ∷ x) y s v h =
    let r = shows_parts a (x ++ y) s v h in
    let q = shows_split x y r.0 v r.2 in
    (q.0, shows_cons a x s r.0 r.1 ∙ q.1, q.2)

-- Before the first line.
abbrev pub unseen : Seen
unseen = record { of_made = []; of_leftover = [] }

-- numbered symbols pass

-- What has shown after a list whose symbols are numbered by first showing.
unfoldable seen_after : List Symbol → Seen
seen_after l = record { of_made = levels (made_only l); of_leftover = levels (leftover_only l) }

-- The next symbol, numbered by first showing, passes.
passes_next : (x : Symbol) (l m : List Symbol)
    → show_symbol (seen_after l) (rename (numbering_of (l ++ (x ∷ m))) x) ≡ some (seen_after (l ++ (x ∷ [])))
unfolding show_symbol seen_after rename numbering_of made_only leftover_only is_made symbol_level
passes_next (made n k) l m =
    rw (
      made_only_append l (made n k ∷ m),
      made_only_append l (made n k ∷ []),
      leftover_only_append l (made n k ∷ []),
      append-nil (leftover_only l),
    )
    (ap (Option.map _) (shows_next (made n k) (made_only l) (made_only m)))
passes_next (leftover n k) l m =
    rw (
      leftover_only_append l (leftover n k ∷ m),
      leftover_only_append l (leftover n k ∷ []),
      made_only_append l (leftover n k ∷ []),
      append-nil (made_only l),
    )
    (ap (Option.map _) (shows_next (leftover n k) (leftover_only l) (leftover_only m)))

-- All further symbols, numbered by first showing, pass.
passes : (l m : List Symbol) → show_symbols (map (rename (numbering_of (l ++ m))) m) (seen_after l) ≡ some (seen_after (l ++ m))
unfolding show_symbols
passes l [] = ap (λ (p : List Symbol). some (seen_after p)) (sym (append-nil l))
passes l (x ∷ m) =
    let r = rename (numbering_of (l ++ (x ∷ m))) in
    shows_cons (r x) (map r m) (seen_after l) (seen_after (l ++ (x ∷ []))) (passes_next x l m)
    ∙ subst (λ (p : List Symbol). show_symbols (map (rename (numbering_of p)) m) (seen_after (l ++ (x ∷ []))) ≡ some (seen_after p))
    (append_assoc l (x ∷ []) m) (passes (l ++ (x ∷ [])) m)

-- symbols that pass are numbered

-- The first showings of each kind are numbered from 0, with the levels seen.
record Counted (l : List Symbol) (s : Seen) : Type 0 where
  of_made : firsts (made_only l) ≡ counted made 0 s.of_made
  of_leftover : firsts (leftover_only l) ≡ counted leftover 0 s.of_leftover

-- Two made constants are the same exactly if their numbers and levels are equal.
same_made : (n k m j : ℕ) → same_symbol (made n k) (made m j) ≡ (eqb n m && eqb k j)
unfolding same_symbol
same_made n k m j = refl

-- Two leftover variables are the same exactly if their numbers and levels are equal.
same_leftover : (n k m j : ℕ) → same_symbol (leftover n k) (leftover m j) ≡ (eqb n m && eqb k j)
unfolding same_symbol
same_leftover n k m j = refl

-- One symbol that passes keeps the symbols counted.
counts_symbol : (x : Symbol) (l : List Symbol) (s u : Seen) → show_symbol s x ≡ some u → Counted l s → Counted (l ++ (x ∷ [])) u
unfolding show_symbol made_only leftover_only is_made
counts_symbol (made n k) l s u h c =
    let r = mapped (λ ls. record { of_made = ls; of_leftover = s.of_leftover }) (show_number s.of_made n k) u h in
    subst (Counted (l ++ (made n k ∷ []))) r.2 (record {
      of_made =
          ap firsts (made_only_append l (made n k ∷ [])) ∙ counts_next made same_made (made_only l) s.of_made r.0 n k r.1 c.of_made;
      of_leftover = ap firsts (leftover_only_append l (made n k ∷ []) ∙ append-nil (leftover_only l)) ∙ c.of_leftover;
    })
counts_symbol (leftover n k) l s u h c =
    let r = mapped (λ ls. record { of_made = s.of_made; of_leftover = ls }) (show_number s.of_leftover n k) u h in
    subst (Counted (l ++ (leftover n k ∷ []))) r.2 (record {
      of_made = ap firsts (made_only_append l (leftover n k ∷ []) ∙ append-nil (made_only l)) ∙ c.of_made;
      of_leftover =
          ap firsts (leftover_only_append l (leftover n k ∷ []))
          ∙ counts_next leftover same_leftover (leftover_only l) s.of_leftover r.0 n k r.1 c.of_leftover;
    })

-- All symbols that pass keep the symbols counted.
counts : (l m : List Symbol) (s v : Seen) → show_symbols m s ≡ some v → Counted l s → Counted (l ++ m) v
unfolding show_symbols
counts l [] s v h c = subst (λ (p : List Symbol). Counted p v) (sym (append-nil l)) (subst (Counted l) (let e : s ≡ v = cc in e) c)
counts l (x ∷ m) s v h c =
    let r = shows_parts x m s v h in
    subst (λ (p : List Symbol). Counted p v) (append_assoc l (x ∷ []) m)
    (counts (l ++ (x ∷ [])) m r.0 v r.2 (counts_symbol x l s r.0 r.1 c))

-- Numbering does not change a symbol of a list that is counted.
counted_fixed : (l : List Symbol) (s : Seen) → Counted l s → (x : Symbol) → Mem x l → rename (numbering_of l) x ≡ x
unfolding rename numbering_of
counted_fixed l s c (made n k) h =
    ap (λ (i : ℕ). made i k) (ap (index_of (made n k)) c.of_made ∙ place)
  where
    place : index_of (made n k) (counted made 0 s.of_made) ≡ n
    place =
        let e = counted_index made same_made 0 s.of_made n k (ap (has (made n k)) (sym c.of_made) ∙ has_firsts (made n k) (made_only l)
        ∙ mem_made n k l h) in
        omega arith
counted_fixed l s c (leftover n k) h =
    ap (λ (i : ℕ). leftover i k) (ap (index_of (leftover n k)) c.of_leftover ∙ place)
  where
    place : index_of (leftover n k) (counted leftover 0 s.of_leftover) ≡ n
    place =
        let e = counted_index leftover same_leftover 0 s.of_leftover n k
        (ap (has (leftover n k)) (sym c.of_leftover) ∙ has_firsts (leftover n k) (leftover_only l) ∙ mem_leftover n k l h) in
        omega arith

-- What holds of each element that stands in a list holds of all its elements.
all_of_mem : {A : Type 0} (P : A → Type 0) (l : List A) → ((a : A) → Mem a l → P a) → All P l
all_of_mem P [] f = tt
all_of_mem P (a ∷ l) f = (f a here, all_of_mem P l (λ b h. f b (there h)))

-- Numbering does not change symbols that pass.
pub shows_fixed : (l : List Symbol) (u : Seen) → show_symbols l unseen ≡ some u → All (λ x. rename (numbering_of l) x ≡ x) l
unfolding firsts made_only leftover_only counted
shows_fixed l u h =
    all_of_mem (λ x. rename (numbering_of l) x ≡ x) l
    (counted_fixed l u (counts [] l unseen u h (record { of_made = refl; of_leftover = refl })))

-- Symbols that are numbered by first showing pass.
pub renamed_shows : (l : List Symbol) → (u : Seen) × (show_symbols (map (rename (numbering_of l)) l) unseen ≡ some u)
unfolding seen_after levels made_only leftover_only firsts
renamed_shows l = (seen_after l, passes [] l)
