-- How deep a term is nested: deeper than its arguments.
use Prim.Native.Nat.{ℕ, zero, suc, ◌+◌, ◌<◌, ◌≤◌, max}
use native.Mathlib.Omega.{arith}
use mathlib.Core.Path.{◌≡◌, refl, ap}
use mathlib.Core.Bool.{Bool, true, false}
use mathlib.Core.List.{List}
use lib.Dec.{eqb}
use borrow.Author.Tests.{eqb-true, eqb-false}
use Rattle.terms.specs.Terms.{leaf, app, Terms, nil, cons, substitute, substitutes}
use Rattle.sequents.specs.Symbols.{Symbol, Ground}
use Rattle.sequents.specs.Sequents.{Environment}
use Rattle.node_table.specs.Layout.{child_of}
use Rattle.node_table.specs.Decoding.{children_by, term_at}

-- How many brackets are open at a time.
unfoldable mutual
  pub depth : Ground → ℕ
  depth (leaf s) = 0
  depth (app f ts) = depths ts

  pub depths : Terms Symbol → ℕ
  depths nil = 0
  depths (cons t ts) = max (suc (depth t)) (depths ts)

module _ (t : List ℕ) (m : ℕ) (e : Environment Symbol) where
  -- The j-th child's instance.
  abbrev child : ℕ → Ground
  child j = substitute (term_at t (child_of t m j)) e

  -- A child is nested less deep than the term of the children.
  pub child_depth : (c j k : ℕ) → j ≤ k → k < j + c → depth (child k) < depths (substitutes (children_by (term_at t) t m c j) e)
  unfolding depths children_by substitutes
  child_depth zero j k l u = absurd (omega arith)
  child_depth (suc c) j k l u = go (eqb j k) refl (λ d. child_depth c (suc j) k d (omega arith))
    where
      go : (z : Bool) → eqb j k ≡ z → (suc j ≤ k → depth (child k) < depths (substitutes (children_by (term_at t) t m c (suc j)) e))
          → depth (child k) < max (suc (depth (child j))) (depths (substitutes (children_by (term_at t) t m c (suc j)) e))
      go true q ih = let d = ap (λ (i : ℕ). depth (child i)) (eqb-true j k q) in omega arith
      go false q ih = let d = eqb-false j k q in let a = ih (omega arith) in omega arith
