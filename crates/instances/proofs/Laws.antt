-- One law for each way through a turn of a loop or through a call; the hypotheses are the facts on the code's path.
use Prim.Native.Nat.{ℕ, ◌/◌, ◌%◌, ◌<◌, ◌≤◌}
use mathlib.Core.Path.{◌≡◌}
use mathlib.Core.Bool.{Bool, true, false}
use mathlib.Core.List.{List}
use borrow.Author.Tests.{eq-eqb, ne_eqb, lt-ltb, le-ltb}
use Rattle.node_table.specs.Layout.{label_of}
use Rattle.scanning.specs.Classes.{is_name_element, element_node, rooted, root_of}
use Rattle.scanning.specs.Instances.{Compared, compared, join_name}
use Rattle.instances.specs.declared.Comparison.TheVariants.{Settled, Opens}
use Rattle.instances.specs.OpenPairs.{level_of, looked, decided, compare_roots, compare_elements}

-- A comparison of texts settles it.
settle : (o : Compared) (h : List ℕ) (z : Bool) → compared h z ≡ o → looked h (Settled z) ≡ decided o
unfolding decided
settle o h z p = rw (← p)

module _ (b t x w : List ℕ) (f g : ℕ) (c d e : List ℕ) (i j a k : ℕ) (left : rooted d a ≡ root_of c i)
    (right : rooted e k ≡ root_of d j) where
  -- The comparison of two elements is that of their representatives.
  roots : compare_elements b t x w f g c i j ≡ compare_roots b t x w f g a k e
  unfolding compare_elements
  roots = rw (← left, ← right)

  pub compare_one : a ≡ k → looked e (Settled true) ≡ compare_elements b t x w f g c i j
  unfolding compare_roots
  compare_one h = rw (roots, eq-eqb a k h)

  module _ (apart : a ≡ k → ⊥) where
    pub compare_first : (h : List ℕ) (z : Bool) → a < 2048 → compared h z ≡ join_name b t x w f g e a k
        → looked h (Settled z) ≡ compare_elements b t x w f g c i j
    unfolding compare_roots is_name_element
    compare_first h z l p = rw (roots, ne_eqb a k apart, lt-ltb a 2048 l) (settle (join_name b t x w f g e a k) h z p)

    pub compare_second : (h : List ℕ) (z : Bool) → 2048 ≤ a → k < 2048 → compared h z ≡ join_name b t x w f g e k a
        → looked h (Settled z) ≡ compare_elements b t x w f g c i j
    unfolding compare_roots is_name_element
    compare_second h z l m p =
        rw (roots, ne_eqb a k apart, le-ltb a 2048 l, lt-ltb k 2048 m) (settle (join_name b t x w f g e k a) h z p)

    module _ (high : 2048 ≤ a) (also : 2048 ≤ k) (p q : ℕ) (one : p ≡ label_of t (a / 2 % 1024)) (two : q ≡ label_of t (k / 2 % 1024)) where
      pub compare_open : (l : ℕ) → p ≡ q → l ≡ level_of a k
          → looked e (Opens l) ≡ compare_elements b t x w f g c i j
      unfolding compare_roots is_name_element element_node
      compare_open l h y =
          rw (roots, ne_eqb a k apart, le-ltb a 2048 high, le-ltb k 2048 also, ← one, ← two, eq-eqb p q h, y)

      pub compare_other : (p ≡ q → ⊥) → looked e (Settled false) ≡ compare_elements b t x w f g c i j
      unfolding compare_roots is_name_element element_node
      compare_other h =
          rw (roots, ne_eqb a k apart, le-ltb a 2048 high, le-ltb k 2048 also, ← one, ← two, ne_eqb p q h)
