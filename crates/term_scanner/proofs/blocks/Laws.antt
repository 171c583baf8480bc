-- What a block has, from its front, and what passing blocks comes to.
use Prim.Native.Nat.{ℕ, zero, suc, ◌+◌, ◌-◌, ◌≤◌}
use native.Mathlib.Omega.{arith}
use native.Mathlib.Numerals.{add-one}
use mathlib.Core.Path.{◌≡◌, refl, sym, ap, ◌∙◌, subst}
use mathlib.Core.Bool.{Bool, true, false, ◌||◌, true≢false}
use mathlib.Core.List.{List}
use lib.Dec.{eqb}
use lib.ListN.{get_or}
use borrow.Author.Tests.{eqb-false, ne_eqb}
use Rattle.scanning.specs.Ranges.{find_byte}
use Rattle.term_scanner.specs.Blocks.{has_either, Passes}

module _ (x : List ℕ) (c d : ℕ) where
  -- The byte at position i is c or d.
  abbrev Either : ℕ → Bool
  Either i = eqb (get_or x i 0) c || eqb (get_or x i 0) d

  pub has_none : (i : ℕ) → false ≡ has_either 0 x c d i
  unfolding has_either
  has_none i = refl

  has_last : (k i : ℕ) → has_either (suc k) x c d i ≡ (has_either k x c d i || Either (i + k))
  unfolding has_either
  has_last zero i = let p : i + 0 ≡ i = omega arith in rw p (go (Either i))
    where
      go : (z : Bool) → (z || false) ≡ (false || z)
      go true = refl
      go false = refl
  has_last (suc k) i =
      let p : i + suc k ≡ (i + 1) + k = omega arith in
      rw p (go (has_either k x c d (i + 1)) (has_either (suc k) x c d (i + 1)) (Either ((i + 1) + k)) (Either i) (has_last k (i + 1)))
    where
      go : (s l e z : Bool) → l ≡ (s || e) → (z || l) ≡ ((z || s) || e)
      go s l e true h = refl
      go s l e false h = h

  pub has_more : (k i : ℕ) (z : Bool) → z ≡ has_either k x c d i → (z || Either (i + k)) ≡ has_either (k + 1) x c d i
  has_more k i z h = rw (h, add-one k) (sym (has_last k i))

  pub has_all : (n k i : ℕ) (z : Bool) → k ≤ n → n ≤ k → z ≡ has_either k x c d i → z ≡ has_either n x c d i
  has_all n k i z p q h = let e : k ≡ n = omega arith in rw e at h

  -- Where neither stands, neither is the first byte, and neither stands after it.
  pub record Neither (n i : ℕ) : Type 0 where
    pub first : get_or x i 0 ≡ c → ⊥
    pub second : get_or x i 0 ≡ d → ⊥
    pub rest : has_either n x c d (i + 1) ≡ false

  pub neither_first : (n i : ℕ) → has_either (suc n) x c d i ≡ false → Neither n i
  unfolding has_either
  neither_first n i h = go (eqb (get_or x i 0) c) refl (eqb (get_or x i 0) d) refl (has_either n x c d (i + 1)) refl h
    where
      wrong : true ≡ false → Neither n i
      wrong k = absurd (true≢false k)

      go : (a : Bool) → eqb (get_or x i 0) c ≡ a → (b : Bool) → eqb (get_or x i 0) d ≡ b → (r : Bool) → has_either n x c d (i + 1) ≡ r
          → ((a || b) || r) ≡ false → Neither n i
      go false p false q false e k =
          record { first = eqb-false (get_or x i 0) c p; second = eqb-false (get_or x i 0) d q; rest = e }
      go false p false q true e k = wrong k
      go false p true q r e k = wrong k
      go true p b q r e k = wrong k

  -- Neither stands in two parts.
  has_both : (n k i : ℕ) → has_either n x c d i ≡ false → has_either k x c d (i + n) ≡ false → has_either (n + k) x c d i ≡ false
  unfolding has_either
  has_both zero k i h g =
      let p : 0 + k ≡ k = omega arith in
      let q : i + 0 ≡ i = omega arith in
      rw p (subst (λ (j : ℕ). has_either k x c d j ≡ false) q g)
  has_both (suc n) k i h g =
      let p : suc n + k ≡ suc (n + k) = omega arith in
      let q : i + suc n ≡ (i + 1) + n = omega arith in
      let f = neither_first n i h in
      rw (p, ne_eqb (get_or x i 0) c f.first, ne_eqb (get_or x i 0) d f.second)
      (has_both n k (i + 1) f.rest (subst (λ (j : ℕ). has_either k x c d j ≡ false) q g))

  pub passes_start : (i e : ℕ) → Passes x c d i e i
  unfolding has_either
  passes_start i e = let z : i - i ≡ 0 = omega arith in record { forward = omega arith; before = omega arith; neither = rw z }

  pub passes_block : (i e r : ℕ) → Passes x c d i e r → 16 ≤ e - r → has_either 16 x c d r ≡ false → Passes x c d i e (r + 16)
  passes_block i e r p l h =
      let f = p.forward in
      let b = p.before in
      let n : (r + 16) - i ≡ (r - i) + 16 = omega arith in
      let m : r ≡ i + (r - i) = omega arith in
      record {
        forward = omega arith;
        before = omega arith;
        neither = rw n (has_both (r - i) 16 i p.neither (subst (λ (j : ℕ). has_either 16 x c d j ≡ false) m h));
      }

  -- A search of m positions from i on that goes on past each byte but c and d.
  abbrev pub Onward : (ℕ → ℕ → ℕ) → Type 0
  Onward f = (m i : ℕ) → (get_or x i 0 ≡ c → ⊥) → (get_or x i 0 ≡ d → ⊥) → f (suc m) i ≡ f m (i + 1)

  onward_all : (f : ℕ → ℕ → ℕ) → Onward f → (n m i : ℕ) → has_either n x c d i ≡ false → f (n + m) i ≡ f m (i + n)
  onward_all f on zero m i h =
      let p : 0 + m ≡ m = omega arith in
      let q : i + 0 ≡ i = omega arith in
      rw (p, q)
  onward_all f on (suc n) m i h =
      let p : suc n + m ≡ suc (n + m) = omega arith in
      let q : (i + 1) + n ≡ i + suc n = omega arith in
      let r = neither_first n i h in
      rw p (on (n + m) i r.first r.second ∙ onward_all f on n m (i + 1) r.rest ∙ ap (f m) q)

  -- Such a search may begin behind the blocks that were passed.
  pub search_passed : (f : ℕ → ℕ → ℕ) → Onward f → (i e r : ℕ) → Passes x c d i e r → f (e - i) i ≡ f (e - r) r
  search_passed f on i e r p =
      let k = p.forward in
      let b = p.before in
      let n : e - i ≡ (r - i) + (e - r) = omega arith in
      let m : i + (r - i) ≡ r = omega arith in
      rw n (onward_all f on (r - i) (e - r) i p.neither ∙ ap (f (e - r)) m)

-- So the search for a byte.
pub find_passed : (x : List ℕ) (c d i e r : ℕ) → Passes x c d i e r → find_byte (e - i) x c i ≡ find_byte (e - r) x c r
unfolding find_byte
find_passed x c d i e r p = search_passed x c d (λ n j. find_byte n x c j) (λ n j h g. rw (ne_eqb (get_or x j 0) c h)) i e r p
