-- One law for each way through a turn of a loop or through a call; the hypotheses are the facts on the code's path.
use Prim.Native.Nat.{ℕ, suc, ◌+◌, ◌-◌, ◌*◌, ◌/◌, ◌%◌, ◌<◌, ◌≤◌}
use native.Mathlib.Omega.{arith}
use mathlib.Core.Path.{◌≡◌, refl}
use mathlib.Core.Bool.{Bool, true, false}
use mathlib.Core.List.{List}
use lib.ListN.{get_or, set}
use borrow.Author.Tests.{eq-eqb, ne_eqb, lt-ltb, le-ltb}
use Rattle.node_table.specs.Layout.{kind_of, label_of, child_of}
use Rattle.scanning.specs.Frames.{slot_start, slot_end}
use Rattle.scanning.specs.Classes.{name_element, node_element, element_of, is_name_element, element_side, element_node, element_name, element_child}
use Rattle.scanning.specs.Classes.{side_frame, rooted, root_from}
use Rattle.scanning.specs.Instances.{same_slots, is_instance, compared, joined, start_of, end_of, same_name, join_name}

-- elements

pub element_name_lem : (t : List ℕ) (s m k l : ℕ) → k ≡ kind_of t m → k ≡ 0 → l ≡ label_of t m → 2 * (l % 8) + (s + 16) ≡ element_of t s m
unfolding element_of name_element
element_name_lem t s m k l p q e = rw (← p, eq-eqb k 0 q, ← e)

pub element_node_lem : (t : List ℕ) (s m k : ℕ) → k ≡ kind_of t m → (k ≡ 0 → ⊥) → 2 * (m % 1024) + (s + 2048) ≡ element_of t s m
unfolding element_of node_element
element_node_lem t s m k p q = rw (← p, ne_eqb k 0 q)

pub element_child_lem : (t : List ℕ) (i j m r : ℕ) → m ≡ child_of t (i / 2 % 1024) j → r ≡ element_of t (i % 2) m → r ≡ element_child t i j
unfolding element_child element_side element_node
element_child_lem t i j m r p q = rw (← p) q

pub name_start_lem : (w : List ℕ) (f g i h s r : ℕ) → h ≡ side_frame f g (i % 2) → s ≡ slot_start w h (i / 2 % 8) → r ≡ s → r ≡ start_of w f g i
unfolding start_of element_side element_name
name_start_lem w f g i h s r p q e = rw (← p, ← q) e

pub name_end_lem : (w : List ℕ) (f g i h s r : ℕ) → h ≡ side_frame f g (i % 2) → s ≡ slot_end w h (i / 2 % 8) → r ≡ s → r ≡ end_of w f g i
unfolding end_of element_side element_name
name_end_lem w f g i h s r p q e = rw (← p, ← q) e

-- representatives

-- On the way so many of n steps have been made.
module _ (n turn : ℕ) (c : List ℕ) (i : ℕ) where
  pub root_end : n ≤ turn → root_from (n - turn) c i ≡ rooted c i
  unfolding root_from
  root_end h = let z : n - turn ≡ 0 = omega arith in rw z refl

  module _ (j p : ℕ) (left : turn < n) (at : j ≡ i) (parent : p ≡ get_or c j 0) where
    -- A step is left.
    step : n - turn ≡ suc (n - (turn + 1))
    step = omega arith

    pub root_here : p ≡ 0 → root_from (n - turn) c i ≡ rooted c i
    unfolding root_from
    root_here h = rw step (rw (root_from, ← at, ← parent, h))

    module _ (k q : ℕ) (some : p ≡ 0 → ⊥) (up : k ≡ p) (next : q ≡ get_or c k 0) where
      pub root_next : q ≡ 0 → root_from (n - turn) c i ≡ rooted c p
      unfolding root_from
      root_next h = rw step (rw (root_from, ← at, ← parent, ne_eqb p 0 some, ← up, ← next, h))

      pub root_on : (l : ℕ) (d : List ℕ) → (q ≡ 0 → ⊥) → l ≡ i → d ≡ set c l q → root_from (n - turn) c i ≡ root_from (n - (turn + 1)) d q
      unfolding root_from
      root_on l d h e u = rw step (rw (root_from, u, e, ← at, ← parent, ne_eqb p 0 some, ← up, ← next, ne_eqb q 0 h))

-- names

pub name_slots : (b t x w : List ℕ) (f g i j s e u v : ℕ) (z : Bool) → s ≡ start_of w f g i → e ≡ end_of w f g i → j < 2048
    → u ≡ start_of w f g j → v ≡ end_of w f g j
    → z ≡ same_slots x s e u v → z ≡ same_name b t x w f g i j
unfolding same_name is_name_element
name_slots b t x w f g i j s e u v z p q l y o h = rw (lt-ltb j 2048 l, ← p, ← q, ← y, ← o) h

pub name_instance : (b t x w : List ℕ) (f g i j s e h : ℕ) (z : Bool) → s ≡ start_of w f g i → e ≡ end_of w f g i → 2048 ≤ j
    → h ≡ side_frame f g (j % 2)
    → z ≡ is_instance b t x w s e h (j / 2 % 1024) → z ≡ same_name b t x w f g i j
unfolding same_name is_name_element element_side element_node
name_instance b t x w f g i j s e h z p q l y k = rw (le-ltb j 2048 l, ← p, ← q, ← y) k

pub join_same : (b t x w : List ℕ) (f g : ℕ) (c : List ℕ) (i j k : ℕ) (d : List ℕ) (z : Bool) → z ≡ same_name b t x w f g i j → z ≡ true
    → k ≡ i → d ≡ set c k j
    → compared d true ≡ join_name b t x w f g c i j
unfolding join_name joined
join_same b t x w f g c i j k d z p q e h = rw (← p, q, h, e)

pub join_other : (b t x w : List ℕ) (f g : ℕ) (c : List ℕ) (i j : ℕ) (z : Bool) → z ≡ same_name b t x w f g i j → z ≡ false
    → compared c false ≡ join_name b t x w f g c i j
unfolding join_name joined
join_other b t x w f g c i j z p q = rw (← p, q)
