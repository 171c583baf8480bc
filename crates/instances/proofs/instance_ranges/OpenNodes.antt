-- Matching an instance as a loop: what remains to be matched for the nodes that are open, the innermost first. An open node is a number of
-- the stack s, 8 * m + j: the children of node m from the j-th on are still to be matched. There are n of them; f is the rank at which the
-- children of the innermost are matched.
use Prim.Native.Nat.{ℕ, zero, suc, ◌+◌, ◌-◌, ◌*◌, ◌/◌, ◌%◌, ◌<◌, ◌≤◌}
use native.Mathlib.Omega.{arith}
use native.Mathlib.Numerals.{add-one, sub-one}
use mathlib.Core.Path.{◌≡◌, refl, sym, ap, ◌∙◌}
use mathlib.Core.Bool.{Bool, true, false, cond, true≢false}
use mathlib.Core.List.{List}
use lib.Dec.{eqb, leb, ltb}
use lib.ListN.{length, get_or, set, length-set}
use lib.Seq.{get_or-set_same, get_or-set_other}
use borrow.Author.Tests.{eq-eqb, ne_eqb, ltb-true, ltb-false, lt-ltb, le-ltb}
use Rattle.sheet_format.specs.Limits.{max_symbols}
use Rattle.node_table.specs.Layout.{kind_of, label_of}
use Rattle.scanning.specs.Ranges.{Number}
use Rattle.std.specs.Prelude.{Some, None}
use Rattle.scanning.specs.Instances.{Reach}
use Rattle.scanning.specs.Ranges.{same_folded, scan_number}
use Rattle.scanning.specs.Instances.{match_range, match_name, match_number, match_functor, match_slot, argument_count, argument_of, match_more}
use Rattle.scanning.specs.Instances.{match_arguments, match_application, match_instance}
use Rattle.term_scanner.proofs.Ends.{NumberFrom, number_ends}
use Rattle.instances.specs.OpenNodes.{opens_of, match_head, mark_before, match_children}

-- Going on from a position that was reached.
abbrev onward : (ℕ → Reach) → Reach → Reach
onward k (Some e) = k e
onward k None = None

onward_same : (h k : ℕ → Reach) → ((e : ℕ) → h e ≡ k e) → (r : Reach) → onward h r ≡ onward k r
onward_same h k p (Some e) = p e
onward_same h k p None = refl

onward_then : (h k : ℕ → Reach) (r : Reach) → onward h (onward k r) ≡ onward (λ e. onward h (k e)) r
onward_then h k (Some e) = refl
onward_then h k None = refl

onward_end : (r : Reach) → onward Some r ≡ r
onward_end (Some e) = refl
onward_end None = refl

-- A match ends no sooner than it begins.

range_forward : (n : ℕ) (a : List ℕ) (s : ℕ) (x : List ℕ) (i e : ℕ) → match_range n a s x i ≡ Some e → i ≤ e
unfolding match_range
range_forward n a s x i e h = go (leb n (length x - i)) (same_folded n a s x i) h
  where
    go : (y z : Bool) → cond y (cond z (Some (i + n)) None) None ≡ Some e → i ≤ e
    go true true k = let q : i + n ≡ e = cc in omega arith
    go true false k = absurd (let q : ◌≡◌ {A = ℕ} 0 1 = cc in omega arith)
    go false z k = absurd (let q : ◌≡◌ {A = ℕ} 0 1 = cc in omega arith)

number_forward : (n : ℕ) (x : List ℕ) (i e : ℕ) → match_number n x i ≡ Some e → i ≤ e
unfolding match_number
number_forward n x i e h = go (scan_number x i) (number_ends x i) h
  where
    equal : (m j : ℕ) → i ≤ j → (z : Bool) → cond z (Some j) None ≡ Some e → i ≤ e
    equal m j l true k = let q : j ≡ e = cc in omega arith
    equal m j l false k = absurd (let q : ◌≡◌ {A = ℕ} 0 1 = cc in omega arith)

    go : (o : Number) → NumberFrom i o
        → elim o as (λ z. Reach) [ Some (m, j) ↦ cond (eqb m n) (Some j) None | None ↦ None ] ≡ Some e → i ≤ e
    go (Some (m, j)) l k = equal m j l (eqb m n) k
    go None l k = absurd (let q : ◌≡◌ {A = ℕ} 0 1 = cc in omega arith)

pub head_forward : (b t x w : List ℕ) (g m i e : ℕ) (r : Reach) → r ≡ match_head b t x w g m i → r ≡ Some e → i ≤ e
unfolding match_head match_slot match_functor match_name
head_forward b t x w g m i e r p q = go (eqb (kind_of t m) 0) (ltb (label_of t m) max_symbols) (sym p ∙ q)
  where
    go : (y z : Bool)
        → cond y (match_slot x w g (label_of t m) i)
        (cond z (match_name b t (label_of t m) x i) (match_number (label_of t m - max_symbols) x i)) ≡ Some e → i ≤ e
    go true z h = range_forward _ _ _ _ i e h
    go false true h = range_forward _ _ _ _ i e h
    go false false h = number_forward (label_of t m - max_symbols) x i e h

-- The children of a node

module _ (r : ℕ → ℕ → Reach) (t : List ℕ) (m : ℕ) (x : List ℕ) (n j c i d : ℕ) (byte : d ≡ get_or x i 0) where
  more_closed : n ≤ 0 → d ≡ 41 → match_more r n t m j x c i ≡ Some (i + 1)
  unfolding match_more
  more_closed h e = let z : n ≡ 0 = omega arith in rw (z, ← byte, eq-eqb d 41 e)

  more_unclosed : n ≤ 0 → (d ≡ 41 → ⊥) → match_more r n t m j x c i ≡ None
  unfolding match_more
  more_unclosed h e = let z : n ≡ 0 = omega arith in rw (z, ← byte, ne_eqb d 41 e)

  more_other : 0 < n → (d ≡ c → ⊥) → match_more r n t m j x c i ≡ None
  unfolding match_more
  more_other h e = let z : n ≡ suc (n - 1) = omega arith in rw (z, ← byte, ne_eqb d c e)

module _ (r : ℕ → ℕ → Reach) (t : List ℕ) (m : ℕ) (x : List ℕ) where
  more_child : (n j c i d : ℕ) → d ≡ get_or x i 0 → 0 < n → d ≡ c
      → match_more r n t m j x c i ≡ onward (match_more r (n - 1) t m (j + 1) x 44) (r (argument_of t m j) (i + 1))
  unfolding match_more
  more_child zero j c i d byte h e = absurd (omega arith)
  more_child (suc n) j c i d byte h e = rw (sub-one (suc n), ← byte, eq-eqb d c e) (go (r (argument_of t m j) (i + 1)))
    where
      go : (o : Reach) → elim o as (λ y. Reach) [ Some p ↦ match_more r n t m (j + 1) x 44 p | None ↦ None ]
          ≡ onward (match_more r n t m (j + 1) x 44) o
      go (Some p) = refl
      go None = refl

module _ (b t x w : List ℕ) (g : ℕ) where
  -- Matching the rest of an open node.
  abbrev match_node : ℕ → ℕ → ℕ → Reach
  match_node f v e =
      match_more (match_instance f b t x w g) (argument_count t (v / 8) - v % 8) t (v / 8) (v % 8) x (cond (eqb (v % 8) 0) 40 44) e

  -- Matching the rest of all open nodes.
  unfoldable pub match_open : ℕ → List ℕ → ℕ → ℕ → Reach
  match_open f s zero e = Some e
  match_open f s (suc n) e = onward (match_open (suc f) s n) (match_node f (get_or s n 0) e)

  -- What stands above the open nodes does not matter.
  open_kept : (n f : ℕ) (s : List ℕ) (k v e : ℕ) → n ≤ k → match_open f (set s k v) n e ≡ match_open f s n e
  unfolding match_open
  open_kept zero f s k v e h = refl
  open_kept (suc n) f s k v e h =
      rw (get_or-set_other s k n v 0 (λ q. omega arith))
      (onward_same (match_open (suc f) (set s k v) n) (match_open (suc f) s n) (λ p. open_kept n (suc f) s k v p (omega arith))
      (match_node f (get_or s n 0) e))

  -- A node is opened.
  open_push : (n f : ℕ) (s : List ℕ) (v e : ℕ) → n < length s
      → match_open f (set s n v) (suc n) e ≡ onward (match_open (suc f) s n) (match_node f v e)
  unfolding match_open
  open_push n f s v e h =
      rw (get_or-set_same s n v 0 h)
      (onward_same (match_open (suc f) (set s n v) n) (match_open (suc f) s n) (λ p. open_kept n (suc f) s n v p (omega arith))
      (match_node f v e))

  -- The turns of the loop.

  module _ (f v e d c : ℕ) (count : c ≡ argument_count t (v / 8)) (byte : d ≡ get_or x e 0) where
    few : c < 8
    unfolding argument_count
    few = omega arith

    node_other : (d ≡ mark_before (v % 8) c → ⊥) → match_node f v e ≡ None
    unfolding mark_before
    node_other h = rw (← count) (go (ltb (v % 8) c) refl)
      where
        go : (z : Bool) → ltb (v % 8) c ≡ z
            → match_more (match_instance f b t x w g) (c - v % 8) t (v / 8) (v % 8) x (cond (eqb (v % 8) 0) 40 44) e ≡ None
        go true q =
            let l = ltb-true (v % 8) c q in
            more_other (match_instance f b t x w g) t (v / 8) x (c - v % 8) (v % 8) (cond (eqb (v % 8) 0) 40 44) e d byte (omega arith)
            (λ o. h (rw q o))
        go false q =
            let l = ltb-false (v % 8) c q in
            more_unclosed (match_instance f b t x w g) t (v / 8) x (c - v % 8) (v % 8) (cond (eqb (v % 8) 0) 40 44) e d byte (omega arith)
            (λ o. h (rw q o))

    node_end : c ≤ v % 8 → d ≡ mark_before (v % 8) c → match_node f v e ≡ Some (e + 1)
    unfolding mark_before
    node_end l h =
        let q : d ≡ 41 = h ∙ rw (le-ltb (v % 8) c l) in
        rw (← count)
        (more_closed (match_instance f b t x w g) t (v / 8) x (c - v % 8) (v % 8) (cond (eqb (v % 8) 0) 40 44) e d byte (omega arith) q)

    node_child : v % 8 < c → d ≡ mark_before (v % 8) c
        → match_node f v e ≡ onward (match_node f (v + 1)) (match_instance f b t x w g (argument_of t (v / 8) (v % 8)) (e + 1))
    unfolding mark_before
    node_child l h =
        let k = few in
        let q : d ≡ cond (eqb (v % 8) 0) 40 44 = h ∙ rw (lt-ltb (v % 8) c l) in
        let m : (v + 1) / 8 ≡ v / 8 = omega arith in
        let j : (v + 1) % 8 ≡ v % 8 + 1 = omega arith in
        let z : c - (v % 8 + 1) ≡ c - v % 8 - 1 = omega arith in
        let r = match_instance f b t x w g in
        (rw (← count) (more_child r t (v / 8) x (c - v % 8) (v % 8) (cond (eqb (v % 8) 0) 40 44) e d byte (omega arith) q))
        ∙ onward_same (match_more r (c - v % 8 - 1) t (v / 8) (v % 8 + 1) x 44) (match_node f (v + 1))
        (λ p. rw (m, j, ← count, z, ne_eqb (v % 8 + 1) 0 (λ o. omega arith))) (r (argument_of t (v / 8) (v % 8)) (e + 1))

  -- The symbol or number of a node, and its children if there are any.

  module _ (f m i : ℕ) (r : Reach) (head : r ≡ match_head b t x w g m i) where
    pub head_differs : r ≡ None → match_instance (suc f) b t x w g m i ≡ None
    unfolding match_instance match_head match_application
    head_differs h = go (eqb (kind_of t m) 0) refl
      where
        go : (z : Bool) → eqb (kind_of t m) 0 ≡ z → match_instance (suc f) b t x w g m i ≡ None
        go true q = rw (match_instance, q) (sym (head ∙ rw q refl) ∙ h)
        go false q =
            let y : match_functor b t (label_of t m) x i ≡ None = sym (head ∙ rw q refl) ∙ h in
            rw (match_instance, q, match_application, y)

    module _ (e : ℕ) (o : Bool) (there : r ≡ Some e) (opens : o ≡ opens_of t m) where
      pub head_leaf : o ≡ false → match_instance (suc f) b t x w g m i ≡ Some e
      unfolding match_instance match_head match_application match_arguments opens_of
      head_leaf h = go (eqb (kind_of t m) 0) refl (eqb (argument_count t m) 0) refl
        where
          go : (y : Bool) → eqb (kind_of t m) 0 ≡ y → (z : Bool) → eqb (argument_count t m) 0 ≡ z → match_instance (suc f) b t x w g m i ≡ Some e
          go true q z k = rw (match_instance, q) (sym (head ∙ rw q refl) ∙ there)
          go false q true k =
              let y : match_functor b t (label_of t m) x i ≡ Some e = sym (head ∙ rw q refl) ∙ there in
              rw (match_instance, q, match_application, y, k)
          go false q false k = absurd (true≢false (sym (sym h ∙ opens ∙ rw (q, k) refl)))

      pub head_open : o ≡ true → match_instance (suc f) b t x w g m i ≡ match_children f b t x w g m e
      unfolding match_instance match_head match_application match_arguments opens_of match_children
      head_open h = go (eqb (kind_of t m) 0) refl (eqb (argument_count t m) 0) refl
        where
          go : (y : Bool) → eqb (kind_of t m) 0 ≡ y → (z : Bool) → eqb (argument_count t m) 0 ≡ z
              → match_instance (suc f) b t x w g m i ≡ match_more (match_instance f b t x w g) (argument_count t m) t m 0 x 40 e
          go true q z k = absurd (true≢false (sym h ∙ opens ∙ rw q refl))
          go false q true k = absurd (true≢false (sym h ∙ opens ∙ rw (q, k) refl))
          go false q false k =
              let y : match_functor b t (label_of t m) x i ≡ Some e = sym (head ∙ rw q refl) ∙ there in
              rw (match_instance, q, match_application, y, k)

  -- The children of a node that has just been opened.
  node_fresh : (f m e : ℕ) → match_node f (8 * m) e ≡ match_children f b t x w g m e
  unfolding match_children
  node_fresh f m e =
      let q : 8 * m / 8 ≡ m = omega arith in
      let r : 8 * m % 8 ≡ 0 = omega arith in
      let z : argument_count t m - 0 ≡ argument_count t m = omega arith in
      rw (q, r, z)

  -- A loop's turns

  -- The loop begins with one open node.
  pub open_first : (f m e : ℕ) (s z : List ℕ) → 0 < length z → s ≡ set z 0 (8 * m)
      → match_children f b t x w g m e ≡ match_open f s 1 e
  unfolding match_open
  open_first f m e s z l h = rw h (sym (open_push 0 f z (8 * m) e l ∙ onward_end (match_node f (8 * m) e) ∙ node_fresh f m e))

  -- It ends when no node is open.
  pub open_none : (f n e : ℕ) (s : List ℕ) → n ≤ 0 → match_open f s n e ≡ Some e
  unfolding match_open
  open_none f zero e s h = refl
  open_none f (suc n) e s h = absurd (omega arith)

  -- The innermost node is at the top of the stack.
  open_top : (f n e v : ℕ) (s : List ℕ) → 0 < n → v ≡ get_or s (n - 1) 0
      → match_open f s n e ≡ onward (match_open (suc f) s (n - 1)) (match_node f v e)
  unfolding match_open
  open_top f zero e v s h k = absurd (omega arith)
  open_top f (suc n) e v s h k =
      let z : get_or s n 0 ≡ v = sym (k ∙ ap (λ (i : ℕ). get_or s i 0) (sub-one (suc n))) in
      rw (sub-one (suc n), z)

  module _ (n e v c d k : ℕ) (s : List ℕ) (some : 0 < n) (few : n ≤ 1024) (top : v ≡ get_or s (n - 1) 0)
      (count : c ≡ argument_count t (v / 8)) (byte : d ≡ get_or x e 0) (mark : k ≡ mark_before (v % 8) c) where
    pub open_other : (d ≡ k → ⊥) → match_open (1024 - n) s n e ≡ None
    open_other h =
        open_top (1024 - n) n e v s some top
        ∙ ap (onward (match_open (suc (1024 - n)) s (n - 1))) (node_other (1024 - n) v e d c count byte (λ q. h (q ∙ sym mark)))

    module _ (marked : d ≡ k) where
      pub open_end : c ≤ v % 8 → match_open (1024 - n) s n e ≡ match_open (1024 - (n - 1)) s (n - 1) (e + 1)
      open_end h =
          let z : suc (1024 - n) ≡ 1024 - (n - 1) = omega arith in
          open_top (1024 - n) n e v s some top
          ∙ ap (onward (match_open (suc (1024 - n)) s (n - 1))) (node_end (1024 - n) v e d c count byte h (marked ∙ mark))
          ∙ ap (λ (f : ℕ). match_open f s (n - 1) (e + 1)) z

      module _ (child : v % 8 < c) where
        -- The child is matched, then the rest of the open nodes.
        below : match_open (1024 - n) s n e ≡ onward (match_open (suc (1024 - n)) s (n - 1)) (onward (match_node (1024 - n) (v + 1))
            (match_instance (1024 - n) b t x w g (argument_of t (v / 8) (v % 8)) (e + 1)))
        below =
            open_top (1024 - n) n e v s some top
            ∙ ap (onward (match_open (suc (1024 - n)) s (n - 1))) (node_child (1024 - n) v e d c count byte child (marked ∙ mark))

        pub open_deep : n ≡ 1024 → match_open (1024 - n) s n e ≡ None
        unfolding match_instance
        open_deep h =
            let z : 1024 - n ≡ 0 = omega arith in
            below ∙ ap (λ (f : ℕ). onward (match_open (suc (1024 - n)) s (n - 1)) (onward (match_node (1024 - n) (v + 1))
            (match_instance f b t x w g (argument_of t (v / 8) (v % 8)) (e + 1)))) z

        module _ (room : n < 1024) (a q : ℕ) (next : q ≡ e + 1) (r : Reach) (node : a ≡ argument_of t (v / 8) (v % 8))
            (head : r ≡ match_head b t x w g a q) where
          -- The child's rank, and the child.
          rank : 1024 - n ≡ suc (1024 - (n + 1))
          rank = omega arith

          child_is : match_instance (1024 - n) b t x w g (argument_of t (v / 8) (v % 8)) (e + 1)
              ≡ match_instance (suc (1024 - (n + 1))) b t x w g a q
          child_is = rw (← node, ← next, rank)

          pub open_differs : r ≡ None → match_open (1024 - n) s n e ≡ None
          open_differs h =
              below ∙ ap (λ (o : Reach). onward (match_open (suc (1024 - n)) s (n - 1)) (onward (match_node (1024 - n) (v + 1)) o))
              (child_is ∙ head_differs (1024 - (n + 1)) a q r head h)

          -- The stack with the node's next child, and with the child's node above it.
          module _ (long : n < length s) (p : ℕ) (o : Bool) (there : r ≡ Some p) (opens : o ≡ opens_of t a) (s₁ s₂ : List ℕ)
              (first : s₁ ≡ set s (n - 1) (v + 1)) (second : s₂ ≡ set s₁ n (8 * a)) where
            rest : (i : ℕ) → onward (match_open (suc (1024 - n)) s (n - 1)) (match_node (1024 - n) (v + 1) i) ≡ match_open (1024 - n) s₁ n i
            rest i =
                let z : suc (n - 1) ≡ n = omega arith in
                sym (ap (λ (y : List ℕ). match_open (1024 - n) y n i) first
                ∙ ap (λ (y : ℕ). match_open (1024 - n) (set s (n - 1) (v + 1)) y i) (sym z)
                ∙ open_push (n - 1) (1024 - n) s (v + 1) i (omega arith))

            pub open_leaf : o ≡ false → match_open (1024 - n) s n e ≡ match_open (1024 - n) s₂ n p
            open_leaf h =
                below
                ∙ ap (λ (y : Reach). onward (match_open (suc (1024 - n)) s (n - 1)) (onward (match_node (1024 - n) (v + 1)) y))
                (child_is ∙ head_leaf (1024 - (n + 1)) a q r head p o there opens h)
                ∙ rest p
                ∙ sym (ap (λ (y : List ℕ). match_open (1024 - n) y n p) second ∙ open_kept n (1024 - n) s₁ n (8 * a) p (omega arith))

            pub open_inner : o ≡ true → match_open (1024 - n) s n e ≡ match_open (1024 - (n + 1)) s₂ (n + 1) p
            open_inner h =
                let f = 1024 - (n + 1) in
                let l : n < length s₁ = (let y = ap length first ∙ length-set s (n - 1) (v + 1) in omega arith) in
                below
                ∙ ap (λ (y : Reach). onward (match_open (suc (1024 - n)) s (n - 1)) (onward (match_node (1024 - n) (v + 1)) y))
                (child_is ∙ head_open f a q r head p o there opens h ∙ sym (node_fresh f a p))
                ∙ onward_then (match_open (suc (1024 - n)) s (n - 1)) (match_node (1024 - n) (v + 1)) (match_node f (8 * a) p)
                ∙ onward_same (λ i. onward (match_open (suc (1024 - n)) s (n - 1)) (match_node (1024 - n) (v + 1) i)) (match_open (suc f) s₁ n)
                (λ i. rest i ∙ ap (λ (y : ℕ). match_open y s₁ n i) rank) (match_node f (8 * a) p)
                ∙ sym (ap (λ (y : List ℕ). match_open f y (suc n) p) second ∙ open_push n f s₁ (8 * a) p l)
                ∙ ap (λ (i : ℕ). match_open f s₂ i p) (sym (add-one n))
