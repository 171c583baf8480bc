-- One law for each way through a brief comparison; the hypotheses are the facts on the code's path.
use Prim.Native.Nat.{ℕ, suc, ◌+◌, ◌-◌, ◌*◌, ◌/◌, ◌%◌, ◌<◌, ◌≤◌}
use native.Mathlib.Omega.{arith}
use mathlib.Core.Path.{◌≡◌, refl, sym, ap, ◌∙◌}
use mathlib.Core.Bool.{Bool, true, false, cond}
use mathlib.Core.List.{List}
use Rattle.std.specs.Prelude.{Option, Some, None}
use borrow.Author.Tests.{eq-eqb, ne_eqb, lt-ltb, le-ltb}
use Rattle.node_table.specs.Layout.{label_of}
use Rattle.scanning.specs.Classes.{is_name_element, element_node, element_child, node_element}
use Rattle.scanning.specs.Instances.{argument_count, start_of, end_of, same_name, same_by_classes}
use Rattle.scanning.specs.BriefComparisons.{brief_name, found_then, brief_children, brief_nodes, brief_elements, decided_by, same_atoms}

-- names

module _ (b t x w : List ℕ) (f g i j s e n : ℕ) (es : s ≡ start_of w f g i) (ee : e ≡ end_of w f g i) (en : n ≡ e - s) where
  pub name_long : 256 < n → None ≡ brief_name b t x w f g i j
  unfolding brief_name
  name_long h = rw (← ee, ← es, ← en, lt-ltb 256 n h)

  pub name_short : (z : Bool) → n ≤ 256 → z ≡ same_name b t x w f g i j → Some z ≡ brief_name b t x w f g i j
  unfolding brief_name
  name_short z h p = rw (← ee, ← es, ← en, le-ltb 256 n h, ← p)

-- elements

module _ (b t x w : List ℕ) (f g : ℕ) where
  pub brief_none : (rank i j : ℕ) → rank ≡ 0 → None ≡ brief_elements rank b t x w f g i j
  unfolding brief_elements
  brief_none rank i j h = rw h refl

  module _ (rank i j : ℕ) (some : rank ≡ 0 → ⊥) where
    -- The comparison of two elements at a rank above 0.
    brief_at : brief_elements rank b t x w f g i j ≡ cond (is_name_element i) (brief_name b t x w f g i j)
        (cond (is_name_element j) (brief_name b t x w f g j i) (brief_nodes (brief_elements (rank - 1) b t x w f g) t i j))
    unfolding brief_elements
    brief_at =
        let e : rank ≡ suc (rank - 1) = omega arith in
        ap (λ (n : ℕ). brief_elements n b t x w f g i j) e

    pub brief_first : (v : Option Bool) → i < 2048 → v ≡ brief_name b t x w f g i j → v ≡ brief_elements rank b t x w f g i j
    unfolding is_name_element
    brief_first v h e = e ∙ sym (brief_at ∙ rw (lt-ltb i 2048 h) refl)

    module _ (hi : 2048 ≤ i) where
      pub brief_second : (v : Option Bool) → j < 2048 → v ≡ brief_name b t x w f g j i → v ≡ brief_elements rank b t x w f g i j
      unfolding is_name_element
      brief_second v h e = e ∙ sym (brief_at ∙ rw (le-ltb i 2048 hi, lt-ltb j 2048 h) refl)

      module _ (hj : 2048 ≤ j) (k m : ℕ) (ek : k ≡ label_of t (i / 2 % 1024)) (em : m ≡ label_of t (j / 2 % 1024)) where
        brief_nodes_lem : brief_elements rank b t x w f g i j ≡ brief_nodes (brief_elements (rank - 1) b t x w f g) t i j
        unfolding is_name_element
        brief_nodes_lem = brief_at ∙ rw (le-ltb i 2048 hi, le-ltb j 2048 hj) refl

        pub brief_apart : (k ≡ m → ⊥) → Some false ≡ brief_elements rank b t x w f g i j
        unfolding brief_nodes element_node
        brief_apart h = sym (brief_nodes_lem ∙ rw (← ek, ← em, ne_eqb k m h) refl)

        -- The children of applications of one symbol.
        pub brief_open : (n : ℕ) → k ≡ m → n ≡ argument_count t (i / 2 % 1024)
            → brief_elements rank b t x w f g i j ≡ brief_children (brief_elements (rank - 1) b t x w f g) (n - 0) t i j 0
        unfolding brief_nodes element_node
        brief_open n h en = let z : n - 0 ≡ n = omega arith in brief_nodes_lem ∙ rw (← ek, ← em, eq-eqb k m h, z, ← en) refl

module _ (r : ℕ → ℕ → Option Bool) (t : List ℕ) (i j n k : ℕ) where
  pub children_end : n ≤ k → brief_children r (n - k) t i j k ≡ Some true
  unfolding brief_children
  children_end h = let z : n - k ≡ 0 = omega arith in rw z refl

  module _ (p q : ℕ) (v : Option Bool) (some : k < n) (ep : p ≡ element_child t i k) (eq : q ≡ element_child t j k) (ev : v ≡ r p q) where
    children_at : brief_children r (n - k) t i j k
        ≡ found_then v (brief_children r (n - (k + 1)) t i j (k + 1))
    unfolding brief_children
    children_at = let z : n - k ≡ suc (n - (k + 1)) = omega arith in rw (z, ← ep, ← eq, ← ev) refl

    pub children_unknown : v ≡ None → brief_children r (n - k) t i j k ≡ None
    children_unknown h = children_at ∙ rw h refl

    pub children_stop : (z : Bool) → v ≡ Some z → z ≡ false → brief_children r (n - k) t i j k ≡ Some false
    children_stop z h e = children_at ∙ rw (h, e) refl

    pub children_next : (z : Bool) → v ≡ Some z → z ≡ true → brief_children r (n - k) t i j k ≡ brief_children r (n - (k + 1)) t i j (k + 1)
    children_next z h e = children_at ∙ rw (h, e) refl

-- atoms

module _ (b t x w : List ℕ) (f g k m : ℕ) (v : Option Bool) (found : v ≡ brief_elements 3 b t x w f g (2 * (k % 1024) + 2048) (2 * (m % 1024) + 2049)) where
  pub atoms_undecided : (z : Bool) → v ≡ None → z ≡ same_by_classes b t x w f g k m → z ≡ same_atoms b t x w f g k m
  unfolding same_atoms decided_by node_element
  atoms_undecided z h e = rw (← found, h) e

  pub atoms_decided : (z : Bool) → v ≡ Some z → z ≡ same_atoms b t x w f g k m
  unfolding same_atoms decided_by node_element
  atoms_decided z h = rw (← found, h) refl

-- Elements and frames that are equal are compared alike.
pub brief_alike : (n : ℕ) (b t x w : List ℕ) (f g i j f' g' i' j' : ℕ) → f ≡ f' → g ≡ g' → i ≡ i' → j ≡ j'
    → brief_elements n b t x w f g i j ≡ brief_elements n b t x w f' g' i' j'
brief_alike n b t x w f g i j f' g' i' j' p q y z = rw (p, q, y, z) refl
