-- Comparing instances as a loop: what remains to be compared for the pairs of applications that are open, the innermost first. An open
-- pair is a number v of the stack s: the children of the applications v / 8 / 4096 and v / 8 % 4096 from the (v % 8)-th on are still to be
-- compared, with rank r at the innermost.
use Prim.Native.Nat.{ℕ, zero, suc, ◌+◌, ◌-◌, ◌*◌, ◌/◌, ◌%◌, ◌<◌, ◌≤◌}
use native.Mathlib.Omega.{arith}
use native.Mathlib.Numerals.{add-one, sub-one}
use mathlib.Core.Path.{◌≡◌, refl, sym, ap, ap₂, ◌∙◌, subst}
use mathlib.Core.Bool.{Bool, true, false, cond}
use mathlib.Core.List.{List}
use lib.Dec.{eqb}
use lib.ListN.{length, get_or, set, replicate, length-set}
use lib.Seq.{get_or-set_same, get_or-set_other}
use borrow.Author.Tests.{eqb-true, eqb-false}
use Rattle.node_table.specs.Layout.{kind_of, label_of, child_of}
use Rattle.scanning.specs.Classes.{name_element, node_element, element_of, is_name_element, element_side, element_node, element_child, root_of}
use Rattle.scanning.specs.Classes.{separate}
use Rattle.scanning.specs.Instances.{argument_count, Compared, compared, joined, same_name, join_name, same_children, same_nodes, same_roots}
use Rattle.scanning.specs.Instances.{same_elements, same_by_classes}
use Rattle.scanning.proofs.Classes.{Forest, separate_forest, forest_set, root_of_lem}
use Rattle.instances.specs.declared.Comparison.{Comparison}
use Rattle.instances.specs.declared.Comparison.TheVariants.{Settled, Opens}
use Rattle.instances.specs.OpenPairs.{level_of, Looked, looked, decided, compare_roots, compare_elements, Elements}
use Rattle.instances.specs.OpenPairs.{depth_limit, same_applications}

-- Going on after a comparison whose terms are the same.
abbrev after : (List ℕ → Bool) → Compared → Bool
after k o = cond o.same (k o.classes) false

after_same : (h k : List ℕ → Bool) → ((c : List ℕ) → h c ≡ k c) → (o : Compared) → after h o ≡ after k o
after_same h k p o = ap (λ (z : Bool). cond o.same z false) (p o.classes)

-- the children of two applications

module _ (r : List ℕ → ℕ → ℕ → Compared) (t : List ℕ) (i j : ℕ) (l : List ℕ → Bool) where
  children_none : (n k : ℕ) (c : List ℕ) → n ≤ 0 → after l (joined (same_children r n t i j k c) i j) ≡ l (set c i j)
  unfolding same_children joined
  children_none zero k c h = refl
  children_none (suc n) k c h = absurd (omega arith)

  children_next : (n k : ℕ) (c : List ℕ) → 0 < n → after l (joined (same_children r n t i j k c) i j)
      ≡ after (λ d. after l (joined (same_children r (n - 1) t i j (k + 1) d) i j)) (r c (element_child t i k) (element_child t j k))
  unfolding same_children joined
  children_next zero k c h = absurd (omega arith)
  children_next (suc n) k c h = rw (sub-one (suc n)) (go (r c (element_child t i k) (element_child t j k)))
    where
      go : (o : Compared) → after l (joined (cond o.same (same_children r n t i j (k + 1) o.classes) o) i j)
          ≡ after (λ d. after l (joined (same_children r n t i j (k + 1) d) i j)) o
      go o = by o.same refl
        where
          by : (z : Bool) → o.same ≡ z → after l (joined (cond o.same (same_children r n t i j (k + 1) o.classes) o) i j)
              ≡ after (λ d. after l (joined (same_children r n t i j (k + 1) d) i j)) o
          by true q = rw q
          by false q = rw q

-- elements

-- Every element of the table is below 4,096.
child_low : (t : List ℕ) (i k : ℕ) → element_child t i k < 4096
unfolding element_child element_of name_element node_element element_side
child_low t i k = go (eqb (kind_of t (child_of t (element_node i) k)) 0)
  where
    go : (z : Bool) → cond z (name_element (element_side i) (label_of t (child_of t (element_node i) k)))
        (node_element (element_side i) (child_of t (element_node i) k)) < 4096
    go true = omega arith
    go false = omega arith

-- An element below 4,096 is related to those below 4,096.
abbrev Low : ℕ → ℕ → Type 0
Low i j = i < 4096 → j < 4096

low_self : (i : ℕ) → Low i i
low_self i h = h

low_then : (i j k : ℕ) → Low i j → Low j k → Low i k
low_then i j k p q h = q (p h)

forest_of : (c : List ℕ) → Elements c → Forest Low low_self low_then c
unfolding Elements
forest_of c e i n h = e i h

of_forest : (c : List ℕ) → Forest Low low_self low_then c → Elements c
unfolding Elements
of_forest c f i h = go (eqb (get_or c i 0) 0) refl
  where
    go : (z : Bool) → eqb (get_or c i 0) 0 ≡ z → get_or c i 0 < 4096
    go true q = let e = eqb-true (get_or c i 0) 0 q in omega arith
    go false q = f i (eqb-false (get_or c i 0) 0 q) h

pub elements_set : (c : List ℕ) (i j : ℕ) → Elements c → j < 4096 → Elements (set c i j)
elements_set c i j e h = of_forest (set c i j) (forest_set Low low_self low_then c i j (forest_of c e) (λ k. h))

pub limit_is : depth_limit ≡ 2050
unfolding depth_limit
limit_is = refl

module _ (b t x w : List ℕ) (f g : ℕ) where
  -- The rest of an open pair.
  abbrev same_pair : ℕ → ℕ → List ℕ → Compared
  same_pair r v c =
      joined (same_children (same_elements r b t x w f g) (argument_count t (element_node (v / 8 / 4096)) - v % 8) t (v / 8 / 4096)
      (v / 8 % 4096) (v % 8) c) (v / 8 / 4096) (v / 8 % 4096)

  -- The rest of all open pairs.
  unfoldable pub same_open : ℕ → List ℕ → ℕ → List ℕ → Bool
  same_open r s zero c = true
  same_open r s (suc n) c = after (same_open (suc r) s n) (same_pair r (get_or s n 0) c)

  -- What stands above the open pairs does not matter.
  open_kept : (n r : ℕ) (s : List ℕ) (k v : ℕ) (c : List ℕ) → n ≤ k → same_open r (set s k v) n c ≡ same_open r s n c
  unfolding same_open
  open_kept zero r s k v c h = refl
  open_kept (suc n) r s k v c h =
      rw (get_or-set_other s k n v 0 (λ q. omega arith))
      (after_same (same_open (suc r) (set s k v) n) (same_open (suc r) s n) (λ d. open_kept n (suc r) s k v d (omega arith))
      (same_pair r (get_or s n 0) c))

  -- A pair is opened.
  open_push : (n r : ℕ) (s : List ℕ) (v : ℕ) (c : List ℕ) → n < length s
      → same_open r (set s n v) (suc n) c ≡ after (same_open (suc r) s n) (same_pair r v c)
  unfolding same_open
  open_push n r s v c h =
      rw (get_or-set_same s n v 0 h)
      (after_same (same_open (suc r) (set s n v) n) (same_open (suc r) s n) (λ d. open_kept n (suc r) s n v d (omega arith))
      (same_pair r v c))

  open_top : (r n v : ℕ) (s c : List ℕ) → 0 < n → v ≡ get_or s (n - 1) 0
      → same_open r s n c ≡ after (same_open (suc r) s (n - 1)) (same_pair r v c)
  unfolding same_open
  open_top r zero v s c h k = absurd (omega arith)
  open_top r (suc n) v s c h k =
      let z : get_or s n 0 ≡ v = sym (k ∙ ap (λ (i : ℕ). get_or s i 0) (sub-one (suc n))) in
      rw (sub-one (suc n), z)

  -- a look at two elements

  -- A level that was just opened.
  level_parts : (i j : ℕ) → i < 4096 → j < 4096 → (level_of i j / 8 / 4096 ≡ i) × (level_of i j / 8 % 4096 ≡ j) × (level_of i j % 8 ≡ 0)
  unfolding level_of
  level_parts i j h k =
      let p : i % 4096 ≡ i = omega arith in
      let q : j % 4096 ≡ j = omega arith in
      let l : 8 * (4096 * i + j) / 8 ≡ 4096 * i + j = omega arith in
      rw (p, q, l) (omega arith, omega arith, omega arith)

  -- What a look with the classes c finds of the comparison a.
  abbrev pub Found : ℕ → List ℕ → Comparison → Compared → Type 0
  Found r c (Settled z) a = a ≡ compared c z
  Found r c (Opens l) a = (l % 8 ≡ 0) × (a ≡ same_pair r l c)

  -- What is known after a look.
  pub record Known (r : ℕ) (o : Looked) (a : Compared) : Type 0 where
    pub elements : Elements o.classes
    pub found : Found r o.classes o.comparison a

  -- A comparison of texts.
  joined_elements : (c : List ℕ) (i j : ℕ) → Elements c → j < 4096 → Elements (join_name b t x w f g c i j).classes
  unfolding join_name joined
  joined_elements c i j e h = go (same_name b t x w f g i j)
    where
      go : (z : Bool) → Elements (cond z (compared (set c i j) true) (compared c false)).classes
      go true = elements_set c i j e h
      go false = e

  decided_known : (r : ℕ) (o : Compared) → Elements o.classes → Known r (decided o) o
  unfolding decided
  decided_known r o e = record { elements = e; found = refl }

  roots_known : (r i j : ℕ) (c : List ℕ) → Elements c → i < 4096 → j < 4096
      → Known r (compare_roots b t x w f g i j c) (same_roots (same_elements r b t x w f g) b t x w f g i j c)
  unfolding compare_roots same_roots same_nodes
  roots_known r i j c e h k =
      go (eqb i j) (is_name_element i) (is_name_element j) (eqb (label_of t (element_node i)) (label_of t (element_node j)))
    where
      go : (y z u v : Bool)
          → Known r (cond y (looked c (Settled true)) (cond z (decided (join_name b t x w f g c i j))
          (cond u (decided (join_name b t x w f g c j i)) (looked c (cond v (Opens (level_of i j)) (Settled false))))))
          (cond y (compared c true) (cond z (join_name b t x w f g c i j) (cond u (join_name b t x w f g c j i)
          (cond v (joined (same_children (same_elements r b t x w f g) (argument_count t (element_node i)) t i j 0 c) i j)
          (compared c false)))))
      go true z u v = record { elements = e; found = refl }
      go false true u v = decided_known r (join_name b t x w f g c i j) (joined_elements c i j e k)
      go false false true v = decided_known r (join_name b t x w f g c j i) (joined_elements c j i e h)
      go false false false true =
          let p = level_parts i j h k in
          let z : argument_count t (element_node i) - 0 ≡ argument_count t (element_node i) = omega arith in
          record { elements = e; found = (p.2, rw (p.0, p.1, p.2, z) refl) }
      go false false false false = record { elements = e; found = refl }

  pub compare_known : (r : ℕ) (c : List ℕ) (i j : ℕ) → Elements c → i < 4096 → j < 4096
      → Known r (compare_elements b t x w f g c i j) (same_elements (suc r) b t x w f g c i j)
  unfolding compare_elements same_elements
  compare_known r c i j e h k =
      let p = root_of_lem Low low_self low_then c i (forest_of c e) in
      let q = root_of_lem Low low_self low_then (root_of c i).classes j p.forest in
      roots_known r (root_of c i).root (root_of (root_of c i).classes j).root (root_of (root_of c i).classes j).classes
      (of_forest (root_of (root_of c i).classes j).classes q.forest) (p.related h) (q.related k)

  -- What is known after a look at two children.
  pub child_known : (i k j h p q : ℕ) (c d : List ℕ) (l : Comparison) → Elements c → p ≡ element_child t i k → q ≡ element_child t j h
      → looked d l ≡ compare_elements b t x w f g c p q
      → Elements d
  child_known i k j h p q c d l e one two look =
      (subst (λ (o : Looked). Known 0 o (same_elements 1 b t x w f g c p q)) (sym look)
      (compare_known 0 c p q e (rw one (child_low t i k)) (rw two (child_low t j h)))).elements

  -- the turns of the loop

  pub open_none : (r n : ℕ) (s c : List ℕ) → n ≤ 0 → same_open r s n c ≡ true
  unfolding same_open
  open_none r zero s c h = refl
  open_none r (suc n) s c h = absurd (omega arith)

  -- The loop begins with one open pair.
  fresh : (r v : ℕ) (c : List ℕ) → v % 8 ≡ 0
      → joined (same_children (same_elements r b t x w f g) (argument_count t (element_node (v / 8 / 4096))) t (v / 8 / 4096)
      (v / 8 % 4096) 0 c) (v / 8 / 4096) (v / 8 % 4096)
      ≡ same_pair r v c
  fresh r v c h =
      let z : argument_count t (element_node (v / 8 / 4096)) - 0 ≡ argument_count t (element_node (v / 8 / 4096)) = omega arith in
      rw (h, z)

  pub open_first : (v : ℕ) (s z c : List ℕ) → length s ≡ 2050 → s ≡ set z 0 v → v % 8 ≡ 0
      → same_applications b t x w f g c (v / 8 / 4096) (v / 8 % 4096) ≡ same_open (depth_limit - 1) s 1 c
  unfolding same_applications same_open
  open_first v s z c l h q =
      let k : 0 < length z = (let y = ap length h ∙ length-set z 0 v in omega arith) in
      ap (λ (o : Compared). o.same) (fresh (depth_limit - 1) v c q)
      ∙ sym (ap (λ (y : List ℕ). same_open (depth_limit - 1) y 1 c) h ∙ open_push 0 (depth_limit - 1) z v c k
      ∙ ending (same_pair (depth_limit - 1) v c).same)
    where
      ending : (y : Bool) → cond y true false ≡ y
      ending true = refl
      ending false = refl

  -- atoms

  module _ (k m : ℕ) (d : List ℕ) (l : Comparison)
      (look : looked d l ≡ compare_elements b t x w f g (replicate 4096 0) (2 * (k % 1024) + 2048) (2 * (m % 1024) + 2049)) where
    atoms_known : Known (depth_limit - 1) (looked d l)
        (same_elements (suc (depth_limit - 1)) b t x w f g separate (node_element 0 k) (node_element 1 m))
    unfolding separate node_element
    atoms_known =
        subst (λ (o : Looked). Known (depth_limit - 1) o
        (same_elements (suc (depth_limit - 1)) b t x w f g separate (node_element 0 k) (node_element 1 m))) (sym look)
        (compare_known (depth_limit - 1) separate (node_element 0 k) (node_element 1 m)
        (of_forest separate (separate_forest Low low_self low_then)) (omega arith) (omega arith))

    atoms_are : (same_elements (suc (depth_limit - 1)) b t x w f g separate (node_element 0 k) (node_element 1 m)).same
        ≡ same_by_classes b t x w f g k m
    unfolding same_by_classes
    atoms_are =
        let e : suc (depth_limit - 1) ≡ 2050 = (let y = limit_is in omega arith) in
        ap (λ (r : ℕ). (same_elements r b t x w f g separate (node_element 0 k) (node_element 1 m)).same) e

    pub atoms_elements : Elements d
    atoms_elements = atoms_known.elements

    -- What was found, where it is the comparison o.
    atoms_found : (o : Comparison) → l ≡ o → Found (depth_limit - 1) d o
        (same_elements (suc (depth_limit - 1)) b t x w f g separate (node_element 0 k) (node_element 1 m))
    atoms_found o h =
        subst (λ (y : Comparison). Found (depth_limit - 1) d y
        (same_elements (suc (depth_limit - 1)) b t x w f g separate (node_element 0 k) (node_element 1 m))) h atoms_known.found

    pub atoms_level : (v : ℕ) → l ≡ Opens v → v % 8 ≡ 0
    atoms_level v h = (atoms_found (Opens v) h).0

    pub atoms_settled : (z : Bool) → l ≡ Settled z → z ≡ same_by_classes b t x w f g k m
    atoms_settled z h = sym (ap (λ (o : Compared). o.same) (atoms_found (Settled z) h)) ∙ atoms_are

    pub atoms_opened : (v : ℕ) (z : Bool) → l ≡ Opens v → z ≡ same_applications b t x w f g d (v / 8 / 4096) (v / 8 % 4096)
        → z ≡ same_by_classes b t x w f g k m
    unfolding same_applications
    atoms_opened v z h p =
        p ∙ ap (λ (o : Compared). o.same) (fresh (depth_limit - 1) v d (atoms_level v h) ∙ sym (atoms_found (Opens v) h).1) ∙ atoms_are

  -- turns

  module _ (D n v k : ℕ) (s c : List ℕ) (limit : D ≡ 2050) (some : 0 < n) (few : n ≤ 2050) (top : v ≡ get_or s (n - 1) 0)
      (count : k ≡ argument_count t (v / 8 / 4096 / 2 % 1024)) where
    -- The count of the pair's children.
    counted : k ≡ argument_count t (element_node (v / 8 / 4096))
    unfolding element_node
    counted = count

    counted_few : k < 8
    unfolding argument_count
    counted_few = omega arith

    pub turn_join : (l : ℕ) (d : List ℕ) → k ≤ v % 8 → l ≡ v / 8 / 4096 → d ≡ set c l (v / 8 % 4096)
        → same_open (D - n) s n c ≡ same_open (D - (n - 1)) s (n - 1) d
    turn_join l d h e q =
        let z : suc (D - n) ≡ D - (n - 1) = omega arith in
        let y = counted in
        open_top (D - n) n v s c some top
        ∙ children_none (same_elements (D - n) b t x w f g) t (v / 8 / 4096) (v / 8 % 4096) (same_open (suc (D - n)) s (n - 1))
        (argument_count t (element_node (v / 8 / 4096)) - v % 8) (v % 8) c (omega arith)
        ∙ ap₂ (λ (r : ℕ) (o : List ℕ). same_open r s (n - 1) o) z (sym (q ∙ ap (λ (i : ℕ). set c i (v / 8 % 4096)) e))

    module _ (child : v % 8 < k) where
      -- The children are compared, then the rest of the open pairs.
      below : same_open (D - n) s n c
          ≡ after (λ d. after (same_open (suc (D - n)) s (n - 1)) (same_pair (D - n) (v + 1) d))
          (same_elements (D - n) b t x w f g c (element_child t (v / 8 / 4096) (v % 8)) (element_child t (v / 8 % 4096) (v % 8)))
      below =
          let y = counted in
          let w' = counted_few in
          let p : (v + 1) / 8 ≡ v / 8 = omega arith in
          let q : (v + 1) % 8 ≡ v % 8 + 1 = omega arith in
          let z : argument_count t (element_node (v / 8 / 4096)) - v % 8 - 1 ≡ argument_count t (element_node (v / 8 / 4096)) - (v % 8 + 1) =
          omega arith in
          let r = same_elements (D - n) b t x w f g in
          let K = same_open (suc (D - n)) s (n - 1) in
          open_top (D - n) n v s c some top
          ∙ children_next r t (v / 8 / 4096) (v / 8 % 4096) K (argument_count t (element_node (v / 8 / 4096)) - v % 8) (v % 8) c (omega arith)
          ∙ after_same
          (λ d. after K (joined (same_children r (argument_count t (element_node (v / 8 / 4096)) - v % 8 - 1) t (v / 8 / 4096) (v / 8 % 4096)
          (v % 8 + 1) d) (v / 8 / 4096) (v / 8 % 4096)))
          (λ d. after K (same_pair (D - n) (v + 1) d)) (λ d. rw (p, q, z))
          (r c (element_child t (v / 8 / 4096) (v % 8)) (element_child t (v / 8 % 4096) (v % 8)))

      pub turn_deep : n ≡ 2050 → same_open (D - n) s n c ≡ false
      unfolding same_elements
      turn_deep h =
          let z : D - n ≡ 0 = omega arith in
          below ∙ ap (λ (r : ℕ). after (λ d. after (same_open (suc (D - n)) s (n - 1)) (same_pair (D - n) (v + 1) d))
          (same_elements r b t x w f g c (element_child t (v / 8 / 4096) (v % 8)) (element_child t (v / 8 % 4096) (v % 8)))) z

      module _ (room : n ≡ 2050 → ⊥) (p q : ℕ) (one : p ≡ element_child t (v / 8 / 4096) (v % 8))
          (two : q ≡ element_child t (v / 8 % 4096) (v % 8)) (d : List ℕ) (l : Comparison)
          (look : looked d l ≡ compare_elements b t x w f g c p q) (elements : Elements c) where
        rank : D - n ≡ suc (D - (n + 1))
        rank = omega arith

        known : Known (D - (n + 1)) (looked d l) (same_elements (D - n) b t x w f g c p q)
        known =
            rw (rank, look)
            (compare_known (D - (n + 1)) c p q elements (rw one (child_low t (v / 8 / 4096) (v % 8)))
            (rw two (child_low t (v / 8 % 4096) (v % 8))))

        onward : same_open (D - n) s n c
            ≡ after (λ e. after (same_open (suc (D - n)) s (n - 1)) (same_pair (D - n) (v + 1) e)) (same_elements (D - n) b t x w f g c p q)
        onward = rw (one, two) below

        -- What was found, where it is the comparison o.
        here : (o : Comparison) → l ≡ o → Found (D - (n + 1)) d o (same_elements (D - n) b t x w f g c p q)
        here o h = subst (λ (y : Comparison). Found (D - (n + 1)) d y (same_elements (D - n) b t x w f g c p q)) h known.found

        -- The rest of the open pairs, the children of the innermost from the next one on.
        abbrev K : List ℕ → Bool
        K e = after (same_open (suc (D - n)) s (n - 1)) (same_pair (D - n) (v + 1) e)

        pub turn_differs : (z : Bool) → l ≡ Settled z → z ≡ false → same_open (D - n) s n c ≡ false
        turn_differs z h e = onward ∙ ap (after K) (here (Settled z) h) ∙ rw e refl

        module _ (long : length s ≡ 2050) (s₁ : List ℕ) (first : s₁ ≡ set s (n - 1) (v + 1)) where
          rest : (e : List ℕ) → K e ≡ same_open (D - n) s₁ n e
          rest e =
              let z : suc (n - 1) ≡ n = omega arith in
              sym (ap (λ (y : List ℕ). same_open (D - n) y n e) first
              ∙ ap (λ (y : ℕ). same_open (D - n) (set s (n - 1) (v + 1)) y e) (sym z)
              ∙ open_push (n - 1) (D - n) s (v + 1) e (omega arith))

          pub turn_same : (z : Bool) → l ≡ Settled z → z ≡ true → same_open (D - n) s n c ≡ same_open (D - n) s₁ n d
          turn_same z h e = onward ∙ ap (after K) (here (Settled z) h) ∙ (rw e (rest d))

          pub turn_open : (u : ℕ) (s₂ : List ℕ) → l ≡ Opens u → s₂ ≡ set s₁ n u → same_open (D - n) s n c ≡ same_open (D - (n + 1)) s₂ (n + 1) d
          turn_open u s₂ h second =
              let r = D - (n + 1) in
              let m : n < length s₁ = (let y = ap length first ∙ length-set s (n - 1) (v + 1) in omega arith) in
              onward
              ∙ ap (after K) (here (Opens u) h).1
              ∙ after_same K (same_open (suc r) s₁ n) (λ e. rest e ∙ ap (λ (y : ℕ). same_open y s₁ n e) rank) (same_pair r u d)
              ∙ sym (ap (λ (y : List ℕ). same_open r y (suc n) d) second ∙ open_push n r s₁ u d m)
              ∙ ap (λ (i : ℕ). same_open r s₂ i d) (sym (add-one n))

-- Elements and frames that are equal are compared alike.
pub compare_alike : (b t x w c : List ℕ) (f g i j f' g' i' j' : ℕ) → f ≡ f' → g ≡ g' → i ≡ i' → j ≡ j'
    → compare_elements b t x w f g c i j ≡ compare_elements b t x w f' g' c i' j'
compare_alike b t x w c f g i j f' g' i' j' p q y z = rw (p, q, y, z) refl

-- The loop ends: the work that is left falls.

-- k times a.
unfoldable pub times : ℕ → ℕ → ℕ
times zero a = 0
times (suc k) a = a + times k a

times_less : (k m a : ℕ) → k ≤ m → times k a ≤ times m a
unfolding times
times_less zero m a h = omega arith
times_less (suc k) zero a h = absurd (omega arith)
times_less (suc k) (suc m) a h = let y = times_less k m a (omega arith) in omega arith

times_next : (k a : ℕ) → k < 8 → times (8 - k) a ≡ a + times (8 - (k + 1)) a
unfolding times
times_next k a h = let z : 8 - k ≡ suc (8 - (k + 1)) = omega arith in rw z

-- The most turns that a comparison of rank r takes, and those that the open pairs do.
unfoldable pub turns : ℕ → ℕ
turns zero = 1
turns (suc r) = suc (suc (times 8 (turns r)))

unfoldable pub turns_left : ℕ → List ℕ → ℕ → ℕ
turns_left r s zero = 0
turns_left r s (suc n) = suc (times (8 - get_or s n 0 % 8) (turns r)) + turns_left (suc r) s n

turns_next : (r : ℕ) → turns (suc r) ≡ suc (suc (times 8 (turns r)))
unfolding turns
turns_next r = refl

turns_some : (r : ℕ) → 0 < turns r
unfolding turns
turns_some zero = omega arith
turns_some (suc r) = omega arith

left_kept : (n r : ℕ) (s : List ℕ) (k v : ℕ) → n ≤ k → turns_left r (set s k v) n ≡ turns_left r s n
unfolding turns_left
left_kept zero r s k v h = refl
left_kept (suc n) r s k v h =
    rw (get_or-set_other s k n v 0 (λ q. omega arith)) (ap (λ (i : ℕ). suc (times (8 - get_or s n 0 % 8) (turns r)) + i)
    (left_kept n (suc r) s k v (omega arith)))

left_push : (n r : ℕ) (s : List ℕ) (v : ℕ) → n < length s
    → turns_left r (set s n v) (suc n) ≡ suc (times (8 - v % 8) (turns r)) + turns_left (suc r) s n
unfolding turns_left
left_push n r s v h =
    rw (get_or-set_same s n v 0 h) (ap (λ (i : ℕ). suc (times (8 - v % 8) (turns r)) + i) (left_kept n (suc r) s n v (omega arith)))

left_top : (r n v : ℕ) (s : List ℕ) → 0 < n → v ≡ get_or s (n - 1) 0
    → turns_left r s n ≡ suc (times (8 - v % 8) (turns r)) + turns_left (suc r) s (n - 1)
unfolding turns_left
left_top r zero v s h k = absurd (omega arith)
left_top r (suc n) v s h k =
    let z : get_or s n 0 ≡ v = sym (k ∙ ap (λ (i : ℕ). get_or s i 0) (sub-one (suc n))) in
    rw (sub-one (suc n), z)

module _ (D n v : ℕ) (s : List ℕ) (limit : D ≡ 2050) (some : 0 < n) (few : n ≤ 2050) (top : v ≡ get_or s (n - 1) 0) where
  pub join_less : turns_left (D - (n - 1)) s (n - 1) < turns_left (D - n) s n
  join_less =
      let y = left_top (D - n) n v s some top in
      let z : suc (D - n) ≡ D - (n - 1) = omega arith in
      let x = ap (λ (r : ℕ). turns_left r s (n - 1)) z in
      omega arith

  module _ (k : ℕ) (s₁ : List ℕ) (child : v % 8 < k) (low : k < 8) (room : n ≡ 2050 → ⊥) (long : length s ≡ 2050)
      (first : s₁ ≡ set s (n - 1) (v + 1)) where
    -- After the step to the next child.
    stepped : turns_left (D - n) s₁ n + turns (D - n) ≡ turns_left (D - n) s n
    stepped =
        let y = left_top (D - n) n v s some top in
        let z : suc (n - 1) ≡ n = omega arith in
        let q : (v + 1) % 8 ≡ v % 8 + 1 = omega arith in
        let e = ap (λ (i : List ℕ). turns_left (D - n) i n) first
        ∙ ap (λ (i : ℕ). turns_left (D - n) (set s (n - 1) (v + 1)) i) (sym z)
        ∙ left_push (n - 1) (D - n) s (v + 1) (omega arith) in
        let m = times_next (v % 8) (turns (D - n)) (omega arith) in
        let u = ap (λ (i : ℕ). times (8 - i) (turns (D - n))) q in
        omega arith

    pub same_less : turns_left (D - n) s₁ n < turns_left (D - n) s n
    same_less =
        let p = stepped in
        let q = turns_some (D - n) in
        omega arith

    pub open_less : (l : ℕ) (s₂ : List ℕ) → s₂ ≡ set s₁ n l → turns_left (D - (n + 1)) s₂ (n + 1) < turns_left (D - n) s n
    open_less l s₂ second =
        let m : n < length s₁ = (let y = ap length first ∙ length-set s (n - 1) (v + 1) in omega arith) in
        let e = ap (λ (i : ℕ). turns_left (D - i) s₂ i) (add-one n) ∙ ap (λ (i : List ℕ). turns_left (D - suc n) i (suc n)) second
        ∙ left_push n (D - suc n) s₁ l m in
        let r : D - n ≡ suc (D - suc n) = omega arith in
        let a = ap (λ (i : ℕ). turns_left i s₁ n) r in
        let b = ap turns r ∙ turns_next (D - suc n) in
        let c = times_less (8 - l % 8) 8 (turns (D - suc n)) (omega arith) in
        let p = stepped in
        omega arith
