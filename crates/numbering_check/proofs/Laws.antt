-- One law for each way through a turn of a loop or through a call; the hypotheses are the facts on the code's path.
use Prim.Native.Nat.{ℕ, zero, suc, ◌+◌, ◌-◌, ◌<◌, ◌≤◌}
use native.Mathlib.Omega.{arith}
use mathlib.Core.Path.{◌≡◌, refl, sym, ◌∙◌, subst}
use mathlib.Core.Bool.{Bool, true, false, cond, true≢false}
use mathlib.Core.List.{List}
use lib.Dec.{eqb}
use lib.ListN.{length, get_or}
use borrow.Author.Tests.{eqb-true, lt-ltb, le-ltb, eq-eqb, ne_eqb}
use Rattle.scanning.specs.Numbering.{SymbolCounts}
use Rattle.std.specs.Prelude.{Option, Some, None}
use Rattle.scanning.specs.Numbering.{outside_name, is_symbol, number_at, level_at, first_level, in_order, count_after, check_made, check_leftover, check_symbol}
use Rattle.scanning.specs.Numbering.{check_numbering}
use Rattle.numbering_check.specs.LevelCache.{made_entry, leftover_entry, cache_level, cache_showing, Cached, CacheValid, ValidAfter}
use Rattle.numbering_check.specs.Sigils.{find_sigil}
use Rattle.term_scanner.specs.Blocks.{Passes}
use Rattle.term_scanner.proofs.blocks.Laws.{search_passed}
use Rattle.numbering_check.proofs.LevelCache.{made_valid, leftover_valid, none_valid}

-- the level at the first showing

pub known_kept : (e k n : ℕ) → Cached e k → n ≡ e → 0 < n → n - 1 ≡ k
known_kept e k n h p q = let r = h (omega arith) in omega arith

-- order

pub order_known : (x : List ℕ) (i b n e : ℕ) → b ≡ get_or x i 0 → Cached e (first_level x (get_or x i 0) n) → Cached e (first_level x b n)
order_known x i b n e p h = rw p h

pub order_new : (x : List ℕ) (i k n : ℕ) → n ≡ number_at x (i + 1) → n ≡ k → true ≡ in_order x i k
unfolding in_order
order_new x i k n p q = rw (← p, eq-eqb n k q)

pub order_old : (x : List ℕ) (i k n b l m : ℕ) → n ≡ number_at x (i + 1) → (n ≡ k → ⊥) → n < k → b ≡ get_or x i 0 → l ≡ first_level x b n
    → m ≡ level_at x i → eqb l m ≡ in_order x i k
unfolding in_order
order_old x i k n b l m p q h d e f = rw (← p, ne_eqb n k q, lt-ltb n k h, ← d, ← e, ← f)

pub order_none : (x : List ℕ) (i k n : ℕ) → n ≡ number_at x (i + 1) → (n ≡ k → ⊥) → k ≤ n → false ≡ in_order x i k
unfolding in_order
order_none x i k n p q h = rw (← p, ne_eqb n k q, le-ltb n k h)

pub count_new : (x : List ℕ) (i k n : ℕ) → n ≡ number_at x (i + 1) → n ≡ k → k + 1 ≡ count_after x i k
unfolding count_after
count_new x i k n p q = rw (← p, eq-eqb n k q)

pub count_old : (x : List ℕ) (i k n : ℕ) → n ≡ number_at x (i + 1) → (n ≡ k → ⊥) → k ≡ count_after x i k
unfolding count_after
count_old x i k n p q = rw (← p, ne_eqb n k q)

pub cache_new : (x v w : List ℕ) (a i k n l : ℕ) → n ≡ number_at x (i + 1) → n ≡ k → l ≡ level_at x i → w ≡ cache_level v a l
    → w ≡ cache_showing x v a i k
unfolding cache_showing
cache_new x v w a i k n l p q e h = rw (← p, eq-eqb n k q, ← e) h

pub cache_old : (x v : List ℕ) (a i k n : ℕ) → n ≡ number_at x (i + 1) → (n ≡ k → ⊥) → v ≡ cache_showing x v a i k
unfolding cache_showing
cache_old x v a i k n p q = rw (← p, ne_eqb n k q)

-- one position

-- What `counted` hands back says whether the symbol is in order.
in_order_some : (c k : ℕ) (u v w : List ℕ) (s : Option ℕ) (z : Bool) → (s ≡ cond z (Some c) None) × (w ≡ cond z u v) → s ≡ Some k
    → (z ≡ true) × (k ≡ c) × (w ≡ u)
in_order_some c k u v w s true p q = let e = p.0 in (refl, cc, p.1)
in_order_some c k u v w s false p q = let e = p.0 in absurd (let z : ◌≡◌ {A = ℕ} 0 1 = cc in omega arith)

in_order_none : (c : ℕ) (s : Option ℕ) (z : Bool) → s ≡ cond z (Some c) None → s ≡ None → z ≡ false
in_order_none c s true p q = absurd (let z : ◌≡◌ {A = ℕ} 0 1 = cc in omega arith)
in_order_none c s false p q = refl

-- A made constant, then a leftover variable. What is kept stays right where the numbering does.
module _ (x v : List ℕ) (i m l n a : ℕ) (valid : CacheValid x v i m l) (p : n ≡ number_at x (i + 1)) where
  pub made_known : get_or x i 0 ≡ 33 → a ≡ made_entry (length v) n l
      → (n ≡ number_at x (i + 1)) × Cached (get_or v a 0) (first_level x (get_or x i 0) n)
  made_known b e = (p, rw (b, e) (valid.made_levels n))

  pub made_right : (k : ℕ) (w : List ℕ) (r : Option ℕ) → get_or x i 0 ≡ 33 → is_symbol x i ≡ true → a ≡ made_entry (length v) n l
      → (r ≡ cond (in_order x i m) (Some (count_after x i m)) None) × (w ≡ cond (in_order x i m) (cache_showing x v a i m) v) → r ≡ Some k
      → (Some (k, l) ≡ check_made x i m l) × CacheValid x w (i + 1) k l
  unfolding check_made
  made_right k w r b s e o t =
      let h = in_order_some (count_after x i m) k (cache_showing x v a i m) v w r (in_order x i m) o t in (
        rw (h.0, ← h.1),
        rw (h.1, h.2, e, p) (made_valid x v i m l valid b s h.0),
      )

  pub made_wrong : (r : Option ℕ) → r ≡ cond (in_order x i m) (Some (count_after x i m)) None → r ≡ None → (None ≡ check_made x i m l) × Unit {0}
  unfolding check_made
  made_wrong r o t = (rw (in_order_none (count_after x i m) r (in_order x i m) o t), tt)

  pub leftover_known : get_or x i 0 ≡ 95 → a ≡ leftover_entry (length v) n m
      → (n ≡ number_at x (i + 1)) × Cached (get_or v a 0) (first_level x (get_or x i 0) n)
  leftover_known b e = (p, rw (b, e) (valid.leftover_levels n))

  pub leftover_right : (k : ℕ) (w : List ℕ) (r : Option ℕ) → get_or x i 0 ≡ 95 → is_symbol x i ≡ true → a ≡ leftover_entry (length v) n m
      → (r ≡ cond (in_order x i l) (Some (count_after x i l)) None) × (w ≡ cond (in_order x i l) (cache_showing x v a i l) v) → r ≡ Some k
      → (Some (m, k) ≡ check_leftover x i m l) × CacheValid x w (i + 1) m k
  unfolding check_leftover
  leftover_right k w r b s e o t =
      let h = in_order_some (count_after x i l) k (cache_showing x v a i l) v w r (in_order x i l) o t in (
        rw (h.0, ← h.1),
        rw (h.1, h.2, e, p) (leftover_valid x v i m l valid b s h.0),
      )

  pub leftover_wrong : (r : Option ℕ) → r ≡ cond (in_order x i l) (Some (count_after x i l)) None → r ≡ None
      → (None ≡ check_leftover x i m l) × Unit {0}
  unfolding check_leftover
  leftover_wrong r o t = (rw (in_order_none (count_after x i l) r (in_order x i l) o t), tt)

-- A symbol whose first byte is not `!` begins with `_`.
pub leftover_byte : (x : List ℕ) (i b : ℕ) (z : Bool) → z ≡ is_symbol x i → z ≡ true → b ≡ get_or x i 0 → (b ≡ 33 → ⊥)
    → (get_or x i 0 ≡ 95) × (is_symbol x i ≡ true)
unfolding is_symbol
leftover_byte x i b z p q e h = (go (eqb (get_or x i 0) 33) refl (eqb (get_or x i 0) 95) refl (sym p ∙ q), sym p ∙ q)
  where
    go : (a : Bool) → eqb (get_or x i 0) 33 ≡ a → (c : Bool) → eqb (get_or x i 0) 95 ≡ c → cond a true (cond c (outside_name x i) false) ≡ true
        → get_or x i 0 ≡ 95
    go true u c w t = absurd (h (e ∙ eqb-true (get_or x i 0) 33 u))
    go false u true w t = eqb-true (get_or x i 0) 95 w
    go false u false w t = absurd (true≢false (sym t))

module _ (x : List ℕ) (i m l : ℕ) (z : Bool) (p : z ≡ is_symbol x i) where
  pub at_made : (b : ℕ) (s : SymbolCounts) (v : List ℕ) → z ≡ true → b ≡ get_or x i 0 → b ≡ 33
      → (s ≡ check_made x i m l) × ValidAfter x v (i + 1) s → (s ≡ check_symbol x i m l) × ValidAfter x v (i + 1) s
  unfolding check_symbol
  at_made b s v q e h k = (rw (← p, q, ← e, eq-eqb b 33 h) k.0, k.1)

  pub at_leftover : (b : ℕ) (s : SymbolCounts) (v : List ℕ) → z ≡ true → b ≡ get_or x i 0 → (b ≡ 33 → ⊥)
      → (s ≡ check_leftover x i m l) × ValidAfter x v (i + 1) s → (s ≡ check_symbol x i m l) × ValidAfter x v (i + 1) s
  unfolding check_symbol
  at_leftover b s v q e h k = (rw (← p, q, ← e, ne_eqb b 33 h) k.0, k.1)

  pub at_none : (v : List ℕ) → z ≡ false → CacheValid x v i m l → (Some (m, l) ≡ check_symbol x i m l) × CacheValid x v (i + 1) m l
  unfolding check_symbol
  at_none v q valid = (rw (← p, q), none_valid x v i m l valid (sym p ∙ q))

-- where symbols may begin

no_symbol : (x : List ℕ) (i : ℕ) → eqb (get_or x i 0) 33 ≡ false → eqb (get_or x i 0) 95 ≡ false → is_symbol x i ≡ false
unfolding is_symbol
no_symbol x i p q = rw (p, q)

module _ (x : List ℕ) (e i b : ℕ) (l : i < e) (p : b ≡ get_or x i 0) where
  pub sigil_made : b ≡ 33 → find_sigil (e - i) x i ≡ i
  unfolding find_sigil
  sigil_made q = let d : e - i ≡ suc (e - (i + 1)) = omega arith in rw (d, ← p, eq-eqb b 33 q)

  pub sigil_leftover : (b ≡ 33 → ⊥) → b ≡ 95 → find_sigil (e - i) x i ≡ i
  unfolding find_sigil
  sigil_leftover n q = let d : e - i ≡ suc (e - (i + 1)) = omega arith in rw (d, ← p, ne_eqb b 33 n, eq-eqb b 95 q)

  pub sigil_on : (b ≡ 33 → ⊥) → (b ≡ 95 → ⊥) → find_sigil (e - i) x i ≡ find_sigil (e - (i + 1)) x (i + 1)
  unfolding find_sigil
  sigil_on n m = let d : e - i ≡ suc (e - (i + 1)) = omega arith in rw (d, ← p, ne_eqb b 33 n, ne_eqb b 95 m)

-- The search may begin behind the blocks that were passed.
pub sigil_blocks : (x : List ℕ) (i e r : ℕ) → Passes x 33 95 i e r → find_sigil (e - i) x i ≡ find_sigil (e - r) x r
unfolding find_sigil
sigil_blocks x i e r p =
    search_passed x 33 95 (λ n j. find_sigil n x j) (λ n j h g. rw (ne_eqb (get_or x j 0) 33 h, ne_eqb (get_or x j 0) 95 g)) i e r p

pub sigil_end : (x : List ℕ) (e i : ℕ) → e ≤ i → find_sigil (e - i) x i ≡ i
unfolding find_sigil
sigil_end x e i h = let d : e - i ≡ 0 = omega arith in rw d

-- all positions

-- What was found is right, and what is kept with it.
pub valid_counts : (x v : List ℕ) (i m l : ℕ) (s : SymbolCounts) → ValidAfter x v i s → s ≡ Some (m, l) → CacheValid x v i m l
valid_counts x v i m l s h e = subst (ValidAfter x v i) e h

pub numbering_end : (x : List ℕ) (e i m l : ℕ) → e ≤ i → check_numbering (e - i) x i m l ≡ Some (m, l)
unfolding check_numbering
numbering_end x e i m l h = let d : e - i ≡ 0 = omega arith in rw d

pub numbering_wrong : (x : List ℕ) (e i m l : ℕ) (s : SymbolCounts) → i < e → s ≡ check_symbol x i m l → s ≡ None
    → check_numbering (e - i) x i m l ≡ None
unfolding check_numbering
numbering_wrong x e i m l s h p q = let d : e - i ≡ suc (e - (i + 1)) = omega arith in rw (d, check_numbering, ← p, q)

pub numbering_on : (x : List ℕ) (e i m l j k : ℕ) (s : SymbolCounts) → i < e → s ≡ check_symbol x i m l → s ≡ Some (j, k)
    → check_numbering (e - i) x i m l ≡ check_numbering (e - (i + 1)) x (i + 1) j k
unfolding check_numbering
numbering_on x e i m l j k s h p q = let d : e - i ≡ suc (e - (i + 1)) = omega arith in rw (d, check_numbering, ← p, q)

-- A position where no symbol begins changes no count.
none_symbol : (x : List ℕ) (i m l : ℕ) → is_symbol x i ≡ false → check_symbol x i m l ≡ Some (m, l)
unfolding check_symbol
none_symbol x i m l e = rw e

none_counted : (n : ℕ) (x : List ℕ) (i m l : ℕ) → is_symbol x i ≡ false → check_numbering (suc n) x i m l ≡ check_numbering n x (i + 1) m l
unfolding check_numbering
none_counted n x i m l e = rw (check_numbering, none_symbol x i m l e)

-- Positions where no symbol may begin are passed over.
module _ (v : List ℕ) (m l : ℕ) where
  passed : (n : ℕ) (x : List ℕ) (e i : ℕ) → e - i ≡ n → CacheValid x v i m l
      → (check_numbering n x i m l ≡ check_numbering (e - find_sigil n x i) x (find_sigil n x i) m l) × CacheValid x v (find_sigil n x i) m l
  unfolding find_sigil
  passed zero x e i h valid = (rw h, valid)
  passed (suc n) x e i h valid =
      go (eqb (get_or x i 0) 33) refl (eqb (get_or x i 0) 95) refl (λ q. passed n x e (i + 1) (omega arith) q)
    where
      Passed : ℕ → ℕ → Type 0
      Passed k j = (check_numbering k x i m l ≡ check_numbering (e - j) x j m l) × CacheValid x v j m l

      Later : Type 0
      Later =
          CacheValid x v (i + 1) m l → (check_numbering n x (i + 1) m l ≡ check_numbering (e - find_sigil n x (i + 1)) x (find_sigil n x (i + 1)) m l)
          × CacheValid x v (find_sigil n x (i + 1)) m l

      go : (a : Bool) → eqb (get_or x i 0) 33 ≡ a → (b : Bool) → eqb (get_or x i 0) 95 ≡ b → Later
          → Passed (suc n) (cond a i (cond b i (find_sigil n x (i + 1))))
      go true p b q f = (rw h, valid)
      go false p true q f = (rw h, valid)
      go false p false q f =
          let none = no_symbol x i p q in
          let rest = f (none_valid x v i m l valid none) in
          (none_counted n x i m l none ∙ rest.0, rest.1)

pub sigil_passed : (x v : List ℕ) (e i j m l : ℕ) → j ≡ find_sigil (e - i) x i → CacheValid x v i m l
    → (check_numbering (e - i) x i m l ≡ check_numbering (e - j) x j m l) × CacheValid x v j m l
sigil_passed x v e i j m l h valid = rw h (passed v m l (e - i) x e i refl valid)

-- The position that is found is not before the one where the search begins.
sigil_least : (n : ℕ) (x : List ℕ) (i : ℕ) → i ≤ find_sigil n x i
unfolding find_sigil
sigil_least zero x i = omega arith
sigil_least (suc n) x i = go (eqb (get_or x i 0) 33) (eqb (get_or x i 0) 95) (sigil_least n x (i + 1))
  where
    go : (a b : Bool) → i + 1 ≤ find_sigil n x (i + 1) → i ≤ cond a i (cond b i (find_sigil n x (i + 1)))
    go true b h = omega arith
    go false true h = omega arith
    go false false h = omega arith

pub sigil_later : (x : List ℕ) (e i j : ℕ) → j ≡ find_sigil (e - i) x i → i ≤ j
sigil_later x e i j h = rw h (sigil_least (e - i) x i)
