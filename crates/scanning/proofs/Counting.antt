-- How many of the numbers below n pass a test: at most n, and the more, the more numbers pass it.
use Prim.Native.Nat.{ℕ, zero, suc, ◌<◌, ◌≤◌}
use native.Mathlib.Omega.{arith}
use mathlib.Core.Path.{◌≡◌, refl, sym, ◌∙◌, subst}
use mathlib.Core.Bool.{Bool, true, false, cond, true≢false}
use lib.Dec.{eqb}
use borrow.Author.Tests.{eqb-true, eqb-false}

unfoldable pub count_below : (ℕ → Bool) → ℕ → ℕ
count_below p zero = 0
count_below p (suc n) = cond (p n) (suc (count_below p n)) (count_below p n)

-- There are n numbers below n.
pub count_most : (p : ℕ → Bool) (n : ℕ) → count_below p n ≤ n
unfolding count_below
count_most p zero = omega arith
count_most p (suc n) = go (p n) (count_most p n)
  where
    go : (z : Bool) → count_below p n ≤ n → cond z (suc (count_below p n)) (count_below p n) ≤ suc n
    go true h = omega arith
    go false h = omega arith

module _ (p q : ℕ → Bool) (more : (i : ℕ) → p i ≡ true → q i ≡ true) where
  -- A test that more numbers pass counts more.
  pub count_more : (n : ℕ) → count_below p n ≤ count_below q n
  unfolding count_below
  count_more zero = omega arith
  count_more (suc n) = go (p n) refl (q n) refl (count_more n)
    where
      go : (y : Bool) → p n ≡ y → (z : Bool) → q n ≡ z → count_below p n ≤ count_below q n
          → cond y (suc (count_below p n)) (count_below p n) ≤ cond z (suc (count_below q n)) (count_below q n)
      go true h true k l = omega arith
      go true h false k l = absurd (true≢false (sym (more n h) ∙ k))
      go false h true k l = omega arith
      go false h false k l = l

  -- The count is strictly larger if a number passes the second test only.
  pub count_strictly : (n i : ℕ) → i < n → p i ≡ false → q i ≡ true → count_below p n < count_below q n
  unfolding count_below
  count_strictly zero i l f g = absurd (omega arith)
  count_strictly (suc n) i l f g = go (eqb i n) refl (p n) refl (q n) refl (count_more n) (λ k. count_strictly n i k f g)
    where
      go : (o : Bool) → eqb i n ≡ o → (y : Bool) → p n ≡ y → (z : Bool) → q n ≡ z → count_below p n ≤ count_below q n
          → (i < n → count_below p n < count_below q n)
          → cond y (suc (count_below p n)) (count_below p n) < cond z (suc (count_below q n)) (count_below q n)
      go true e true h z k m ih = absurd (true≢false (sym h ∙ subst (λ (j : ℕ). p j ≡ false) (eqb-true i n e) f))
      go true e false h true k m ih = omega arith
      go true e false h false k m ih = absurd (true≢false (sym (subst (λ (j : ℕ). q j ≡ true) (eqb-true i n e) g) ∙ k))
      go false e true h true k m ih = let d = eqb-false i n e in let a = ih (omega arith) in omega arith
      go false e true h false k m ih = absurd (true≢false (sym (more n h) ∙ k))
      go false e false h true k m ih = omega arith
      go false e false h false k m ih = let d = eqb-false i n e in ih (omega arith)
