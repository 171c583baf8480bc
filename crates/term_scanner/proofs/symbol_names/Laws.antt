-- One law for each way through a turn of a loop or through a call; the hypotheses are the facts on the code's path.
use Prim.Native.Nat.{ℕ, suc, ◌+◌, ◌-◌, ◌<◌, ◌≤◌}
use native.Mathlib.Omega.{arith}
use mathlib.Core.Path.{◌≡◌, refl, sym, ◌∙◌}
use mathlib.Core.Bool.{Bool, true, false}
use mathlib.Core.List.{List}
use borrow.Author.Tests.{eq-eqb, ne_eqb}
use Rattle.node_table.specs.Layout.{name_start, name_word}
use Rattle.node_table.specs.Fingerprints.{word_at}
use Rattle.scanning.specs.Ranges.{same_folded}
use Rattle.scanning.specs.Scanning.{name_size, is_named, symbol_from, symbol_named}

-- symbols

-- A symbol of another word.
pub named_apart : (b t : List ℕ) (k word : ℕ) (x : List ℕ) (i e m : ℕ) → m ≡ name_word t k → (m ≡ word → ⊥) → false ≡ is_named b t k word x i e
unfolding is_named
named_apart b t k word x i e m em h = rw (ne_eqb (name_word t k) word (λ d. h (em ∙ d)))

module _ (b t : List ℕ) (k word : ℕ) (x : List ℕ) (i e n m v : ℕ) (ev : v ≡ name_word t k) (ew : v ≡ word) (en : n ≡ name_size b t k)
    (em : m ≡ e - i) where
  pub named_same : (s p : ℕ) (z : Bool) → m ≡ n → p ≡ name_start t k → s ≡ p → z ≡ same_folded n x i b s → z ≡ is_named b t k word x i e
  unfolding is_named
  named_same s p z h ep es ez =
      let d : e - i ≡ name_size b t k = sym em ∙ h ∙ en in
      let f : s ≡ name_start t k = es ∙ ep in
      rw (eq-eqb (name_word t k) word (sym ev ∙ ew), d, eq-eqb (name_size b t k) (name_size b t k) refl, ← en, ← f) ez

  pub named_other : (m ≡ n → ⊥) → false ≡ is_named b t k word x i e
  unfolding is_named
  named_other h = rw (eq-eqb (name_word t k) word (sym ev ∙ ew), ne_eqb (e - i) (name_size b t k) (λ d. h (em ∙ d ∙ sym en)))

pub symbol_start : (n : ℕ) (b t : List ℕ) (word : ℕ) (x : List ℕ) (i e : ℕ) → word ≡ word_at x i (e - i)
    → symbol_named n b t x i e ≡ symbol_from (n - 0) b t 0 word x i e
unfolding symbol_named
symbol_start n b t word x i e h = let d : n - 0 ≡ n = omega arith in rw (d, h)

pub symbol_stop : (n : ℕ) (b t : List ℕ) (k word : ℕ) (x : List ℕ) (i e : ℕ) → n ≤ k → symbol_from (n - k) b t k word x i e ≡ k
unfolding symbol_from
symbol_stop n b t k word x i e h = let d : n - k ≡ 0 = omega arith in rw d

pub symbol_here : (n : ℕ) (b t : List ℕ) (k word : ℕ) (x : List ℕ) (i e : ℕ) (z : Bool) → k < n → z ≡ is_named b t k word x i e → z ≡ true
    → symbol_from (n - k) b t k word x i e ≡ k
unfolding symbol_from
symbol_here n b t k word x i e z h p q = let d : n - k ≡ suc (n - (k + 1)) = omega arith in rw (d, ← p, q)

pub symbol_on : (n : ℕ) (b t : List ℕ) (k word : ℕ) (x : List ℕ) (i e : ℕ) (z : Bool) → k < n → z ≡ is_named b t k word x i e → z ≡ false
    → symbol_from (n - k) b t k word x i e ≡ symbol_from (n - (k + 1)) b t (k + 1) word x i e
unfolding symbol_from
symbol_on n b t k word x i e z h p q = let d : n - k ≡ suc (n - (k + 1)) = omega arith in rw (d, ← p, q)
