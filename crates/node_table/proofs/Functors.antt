-- Labels of applications are functors, one for one.
use Prim.Native.Nat.{ℕ, ◌+◌, ◌-◌, ◌≤◌, ◌<◌}
use mathlib.Core.Path.{◌≡◌, refl, sym, ap}
use mathlib.Core.Bool.{Bool, true, false, cond}
use mathlib.Core.List.{List}
use lib.Dec.{eqb, ltb}
use borrow.Author.Tests.{eqb-true, eqb-false, eq-eqb, ne_eqb, ltb-true, ltb-false, lt-ltb, le-ltb}
use native.Mathlib.Omega.{arith}
use Rattle.terms.specs.Terms.{sheet_symbol, numeral, same_functor}
use Rattle.sheet_format.specs.Limits.{max_symbols}
use Rattle.node_table.specs.Layout.{arity_of}
use Rattle.node_table.specs.Decoding.{functor_of}
use Rattle.node_table.specs.WellMade.{label_arity}

-- Comparing labels compares functors.
pub labels_compare : (a b : ℕ) → same_functor (functor_of a) (functor_of b) ≡ eqb a b
unfolding functor_of same_functor
labels_compare a b = go (ltb a max_symbols) refl (ltb b max_symbols) refl
  where
    numbers : 256 ≤ a → 256 ≤ b → (c : Bool) → eqb a b ≡ c → eqb (a - max_symbols) (b - max_symbols) ≡ c
    numbers p q true e = eq-eqb (a - max_symbols) (b - max_symbols) (let h = eqb-true a b e in omega arith)
    numbers p q false e = ne_eqb (a - max_symbols) (b - max_symbols) (λ z. (let h = eqb-false a b e in omega arith))

    go : (x : Bool) → ltb a max_symbols ≡ x → (y : Bool) → ltb b max_symbols ≡ y
        → same_functor (cond (ltb a max_symbols) (sheet_symbol a) (numeral (a - max_symbols))) (cond (ltb b max_symbols) (sheet_symbol b) (numeral (b - max_symbols))) ≡ eqb a b
    go true p true q = rw (p, q) refl
    go true p false q = rw (p, q) (sym (ne_eqb a b (λ z. (let h = ltb-true a max_symbols p in let k = ltb-false b max_symbols q in omega arith))))
    go false p true q = rw (p, q) (sym (ne_eqb a b (λ z. (let h = ltb-false a max_symbols p in let k = ltb-true b max_symbols q in omega arith))))
    go false p false q = rw (p, q) (numbers (ltb-false a max_symbols p) (ltb-false b max_symbols q) (eqb a b) refl)

-- A label below 256 is that symbol, with its arity.
module _ (l : ℕ) (h : l < max_symbols) where
  pub symbol_functor : functor_of l ≡ sheet_symbol l
  unfolding functor_of
  symbol_functor = rw (lt-ltb l max_symbols h)

  pub symbol_arity : (t : List ℕ) → label_arity t l ≡ arity_of t l
  unfolding label_arity
  symbol_arity t = rw (lt-ltb l max_symbols h)

-- The label 256 + n is the number n, which takes no arguments.
module _ (n : ℕ) where
  no_symbol : ltb (max_symbols + n) max_symbols ≡ false
  no_symbol = le-ltb (max_symbols + n) max_symbols (omega arith)

  pub numeral_functor : functor_of (max_symbols + n) ≡ numeral n
  unfolding functor_of
  numeral_functor = let e : max_symbols + n - max_symbols ≡ n = omega arith in rw no_symbol (ap numeral e)

  pub numeral_arity : (t : List ℕ) → label_arity t (max_symbols + n) ≡ 0
  unfolding label_arity
  numeral_arity t = rw no_symbol
