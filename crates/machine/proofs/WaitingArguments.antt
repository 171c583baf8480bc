-- Pairs and nodes that wait: the arguments of linked records.
use Prim.Native.Nat.{ℕ, zero, suc, ◌+◌, ◌-◌, ◌*◌, ◌/◌, ◌%◌, ◌≤◌, ◌<◌}
use native.Mathlib.Omega.{arith}
use mathlib.Core.Bool.{cond}
use mathlib.Core.Path.{◌≡◌, refl, ap, ◌∙◌}
use mathlib.Core.List.{List, [], ◌∷◌}
use mathlib.Core.Option.{Option, some}
use lib.Dec.{ltb}
use borrow.Author.Tests.{lt-ltb, le-ltb, ne_eqb}
use Rattle.terms.specs.Terms.{Term, substitute, substitutes}
use Rattle.unification.specs.Store.{Leaf}
use Rattle.unification.specs.Matching.{Pair, push_terms, push_pairs}
use Rattle.sheet_format.specs.Limits.{max_budget}
use Rattle.node_table.specs.Layout.{child_count, child_of}
use Rattle.node_table.specs.Decoding.{children_by, term_at}
use Rattle.machine.specs.Fields as fields
use Rattle.machine.specs.Words.{word_of, environment_at}
use Rattle.machine.specs.Matching.{position_word, pairs_from, nodes_from, argument_word, pairs_after, nodes_after}
use Rattle.machine.proofs.Words.{position_small, position_record, position_argument}
use Rattle.machine.proofs.MemoryOrder.{Extends}
use Rattle.machine.proofs.Tables.{Table, Applied, argument_term, few_arguments}
use Rattle.machine.proofs.Terms.{FrameIn, framed_extends, framed_up, environment_extends, WordAt, node_word}
use Rattle.memory.specs.Records.{field}

-- Reading by pointers.
pub pairs_from_lem : (t w : List ℕ) (r i : ℕ)
    → pairs_from t w (suc r) i ≡ cond (ltb i (child_count t (field w r fields.goal_side_node))) (position_word (suc r) i)
    (field w r fields.pairs_after)
unfolding pairs_from
pairs_from_lem t w r i = let e : suc r - 1 ≡ r = omega arith in rw e

-- The nodes from argument i on begin with that argument, or are those after the record.
pub nodes_from_lem : (t w : List ℕ) (r i : ℕ)
    → nodes_from t w (suc r) i ≡ cond (ltb i (child_count t (field w r fields.waiting_node))) (position_word (suc r) i)
    (field w r fields.waiting_after)
unfolding nodes_from
nodes_from_lem t w r i = let e : suc r - 1 ≡ r = omega arith in rw e

-- The word of an argument is that of the node's child in the record's frame.
pub argument_word_lem : (t w : List ℕ) (r i f : ℕ) → i < 4
    → argument_word t w (4 * suc r + i) f ≡ word_of t w (child_of t (field w r f) i) (field w r (f + 1))
unfolding argument_word
argument_word_lem t w r i f h =
    let e : suc r - 1 ≡ r = omega arith in
    rw (position_record (suc r) i h, position_argument (suc r) i h, e)

-- The record and the number of the argument after the one at a position.
argument_after : (a r i : ℕ) → a ≡ 4 * suc r + i → i < 4 → (a / 4 ≡ suc r) × (a % 4 + 1 ≡ suc i)
argument_after a r i e k = (omega arith, omega arith)

-- The position after that of a pair.
pub pairs_after_lem : (t w : List ℕ) (a r i : ℕ) → a ≡ 4 * suc r + i → i < 4 → pairs_after t w a ≡ pairs_from t w (suc r) (suc i)
unfolding pairs_after
pairs_after_lem t w a r i e k = let z = argument_after a r i e k in rw (z.0, z.1)

-- The position after that of a node.
pub nodes_after_lem : (t w : List ℕ) (a r i : ℕ) → a ≡ 4 * suc r + i → i < 4 → nodes_after t w a ≡ nodes_from t w (suc r) (suc i)
unfolding nodes_after
nodes_after_lem t w a r i e k = let z = argument_after a r i e k in rw (ne_eqb a 0 (λ q. omega arith), z.0, z.1)

module _ (T : Table) where
  -- Argument i of the node a in the frame f.
  pub record ArgumentAt (n x : ℕ) (w : List ℕ) (a f i : ℕ) (s : Term Leaf) : Type 0 where
    pub node : Applied T a
    pub frame : FrameIn n x w f
    pub more : i < child_count T.numbers a
    pub is : substitute (term_at T.numbers (child_of T.numbers a i)) (environment_at w f) ≡ s

  -- Pairs from a position on. What comes after a record is in an earlier one.
  unfoldable pub PairsAt : ℕ → ℕ → List Pair → List ℕ → ℕ → Type 0
  PairsAt n x [] w a = a ≡ 0
  PairsAt n x (q ∷ ps) w a =
      (r : ℕ) × (i : ℕ) × (a ≡ 4 * suc r + i) × (r < n)
      × ArgumentAt n x w (field w r fields.goal_side_node) (field w r fields.goal_side_frame) i q.goal
      × ArgumentAt n x w (field w r fields.clause_side_node) (field w r fields.clause_side_frame) i q.clause
      × PairsAt n x ps w (pairs_from T.numbers w (suc r) (suc i)) × (field w r fields.pairs_after < 4 * suc r)

  -- Nodes from a position on.
  unfoldable pub NodesAt : ℕ → ℕ → List (Term Leaf) → List ℕ → ℕ → Type 0
  NodesAt n x [] w a = a ≡ 0
  NodesAt n x (s ∷ ss) w a =
      (r : ℕ) × (i : ℕ) × (a ≡ 4 * suc r + i) × (r < n)
      × ArgumentAt n x w (field w r fields.waiting_node) (field w r fields.waiting_frame) i s
      × NodesAt n x ss w (nodes_from T.numbers w (suc r) (suc i)) × (field w r fields.waiting_after < 4 * suc r)

  -- They stay.
  argument_extends : (n x : ℕ) (w w' : List ℕ) (a f i : ℕ) (s : Term Leaf) → Extends fields.constant_level n w w'
      → ArgumentAt n x w a f i s → ArgumentAt n x w' a f i s
  argument_extends n x w w' a f i s h c = record {
    node = c.node;
    frame = framed_extends n x w w' f h c.frame;
    more = c.more;
    is = ap (substitute (term_at T.numbers (child_of T.numbers a i))) (environment_extends n w w' f h c.frame.frame) ∙ c.is;
  }

  -- An argument stays one act later.
  argument_up : (n x y : ℕ) (w : List ℕ) (a f i : ℕ) (s : Term Leaf) → x ≤ y → ArgumentAt n x w a f i s → ArgumentAt (suc n) y w a f i s
  argument_up n x y w a f i s l c = record { node = c.node; frame = framed_up n x y w f l c.frame; more = c.more; is = c.is }

  -- An argument whose node and frame are two fields of a record stays in an extended memory.
  argument_fields : (n x : ℕ) (w w' : List ℕ) (r f i : ℕ) (s : Term Leaf) → Extends fields.constant_level n w w' → r < n
      → fields.constant_level ≤ f → f + 1 < fields.writers → ArgumentAt n x w (field w r f) (field w r (f + 1)) i s
      → ArgumentAt n x w' (field w' r f) (field w' r (f + 1)) i s
  argument_fields n x w w' r f i s h l a b c =
      rw (h.old r f l a (omega arith), h.old r (f + 1) l (omega arith) b)
      (argument_extends n x w w' (field w r f) (field w r (f + 1)) i s h c)

  -- The position after a pair stays in an extended memory.
  pairs_from_extends : (n : ℕ) (w w' : List ℕ) (r i : ℕ) → Extends fields.constant_level n w w' → r < n
      → pairs_from T.numbers w' (suc r) i ≡ pairs_from T.numbers w (suc r) i
  pairs_from_extends n w w' r i h l =
      rw (
        pairs_from_lem T.numbers w' r i,
        pairs_from_lem T.numbers w r i,
        h.old r fields.goal_side_node l (omega arith) (omega arith),
        h.old r fields.pairs_after l (omega arith) (omega arith),
      )

  -- The position after a node stays in an extended memory.
  nodes_from_extends : (n : ℕ) (w w' : List ℕ) (r i : ℕ) → Extends fields.constant_level n w w' → r < n
      → nodes_from T.numbers w' (suc r) i ≡ nodes_from T.numbers w (suc r) i
  nodes_from_extends n w w' r i h l =
      rw (
        nodes_from_lem T.numbers w' r i,
        nodes_from_lem T.numbers w r i,
        h.old r fields.goal_side_node l (omega arith) (omega arith),
        h.old r fields.clause_side_node l (omega arith) (omega arith),
      )

  -- Pairs that wait stay in an extended memory.
  pub pairs_extends : (n x : ℕ) (ps : List Pair) (w w' : List ℕ) (a : ℕ) → Extends fields.constant_level n w w' → PairsAt n x ps w a
      → PairsAt n x ps w' a
  unfolding PairsAt
  pairs_extends n x [] w w' a h c = c
  pairs_extends n x (q ∷ ps) w w' a h c =
      let r = c.0 in
      let i = c.1 in
      let l = c.3 in (
        r,
        i,
        c.2,
        l,
        argument_fields n x w w' r fields.goal_side_node i q.goal h l (omega arith) (omega arith) c.4,
        argument_fields n x w w' r fields.clause_side_node i q.clause h l (omega arith) (omega arith) c.5,
        rw (pairs_from_extends n w w' r (suc i) h l) (pairs_extends n x ps w w' (pairs_from T.numbers w (suc r) (suc i)) h c.6),
        rw (h.old r fields.pairs_after l (omega arith) (omega arith)) c.7,
      )

  -- Pairs that wait stay one act later.
  pub pairs_up : (n x y : ℕ) (ps : List Pair) (w : List ℕ) (a : ℕ) → x ≤ y → PairsAt n x ps w a → PairsAt (suc n) y ps w a
  unfolding PairsAt
  pairs_up n x y [] w a b c = c
  pairs_up n x y (q ∷ ps) w a b c =
      let r = c.0 in
      let i = c.1 in
      let l = c.3 in (
        r,
        i,
        c.2,
        omega arith,
        argument_up n x y w (field w r fields.goal_side_node) (field w r fields.goal_side_frame) i q.goal b c.4,
        argument_up n x y w (field w r fields.clause_side_node) (field w r fields.clause_side_frame) i q.clause b c.5,
        pairs_up n x y ps w (pairs_from T.numbers w (suc r) (suc i)) b c.6,
        c.7,
      )

  -- Nodes that wait stay in an extended memory.
  pub nodes_extends : (n x : ℕ) (ss : List (Term Leaf)) (w w' : List ℕ) (a : ℕ) → Extends fields.constant_level n w w' → NodesAt n x ss w a
      → NodesAt n x ss w' a
  unfolding NodesAt
  nodes_extends n x [] w w' a h c = c
  nodes_extends n x (s ∷ ss) w w' a h c =
      let r = c.0 in
      let i = c.1 in
      let l = c.3 in (
        r,
        i,
        c.2,
        l,
        argument_fields n x w w' r fields.goal_side_node i s h l (omega arith) (omega arith) c.4,
        rw (nodes_from_extends n w w' r (suc i) h l) (nodes_extends n x ss w w' (nodes_from T.numbers w (suc r) (suc i)) h c.5),
        rw (h.old r fields.waiting_after l (omega arith) (omega arith)) c.6,
      )

  -- Nodes that wait stay one act later.
  pub nodes_up : (n x y : ℕ) (ss : List (Term Leaf)) (w : List ℕ) (a : ℕ) → x ≤ y → NodesAt n x ss w a → NodesAt (suc n) y ss w a
  unfolding NodesAt
  nodes_up n x y [] w a b c = c
  nodes_up n x y (s ∷ ss) w a b c =
      let r = c.0 in
      let i = c.1 in
      let l = c.3 in (
        r,
        i,
        c.2,
        omega arith,
        argument_up n x y w (field w r fields.waiting_node) (field w r fields.waiting_frame) i s b c.4,
        nodes_up n x y ss w (nodes_from T.numbers w (suc r) (suc i)) b c.5,
        c.6,
      )

  -- Pairs that wait are arguments of records made before.
  pub pairs_before : (n x : ℕ) (ps : List Pair) (w : List ℕ) (a : ℕ) → PairsAt n x ps w a → a < 4 * suc n
  unfolding PairsAt
  pairs_before n x [] w a c = omega arith
  pairs_before n x (q ∷ ps) w a c =
      let e = c.2 in
      let l = c.3 in
      let k = few_arguments T (field w c.0 fields.goal_side_node) c.1 c.4.node c.4.more in
      omega arith

  -- Nodes that wait are arguments of records made before.
  pub nodes_before : (n x : ℕ) (ss : List (Term Leaf)) (w : List ℕ) (a : ℕ) → NodesAt n x ss w a → a < 4 * suc n
  unfolding NodesAt
  nodes_before n x [] w a c = omega arith
  nodes_before n x (s ∷ ss) w a c =
      let e = c.2 in
      let l = c.3 in
      let k = few_arguments T (field w c.0 fields.waiting_node) c.1 c.4.node c.4.more in
      omega arith

  -- Pushing the arguments of a record.
  pub record Pushed (n x : ℕ) (w : List ℕ) (o : Option (List Pair)) (a : ℕ) : Type 0 where
    pub list : List Pair
    pub is : o ≡ some list
    pub there : PairsAt n x list w a

  -- Pushing the pairs from argument i on is level 1's `push_pairs`.
  pub push_pairs_lem : (k n x : ℕ) (w : List ℕ) (ps : List Pair) (r i : ℕ) → n ≤ max_budget → r < n → Applied T (field w r fields.goal_side_node)
      → Applied T (field w r fields.clause_side_node) → FrameIn n x w (field w r fields.goal_side_frame)
      → FrameIn n x w (field w r fields.clause_side_frame)
      → child_count T.numbers (field w r fields.goal_side_node) ≡ child_count T.numbers (field w r fields.clause_side_node)
      → i + k ≡ child_count T.numbers (field w r fields.goal_side_node) → PairsAt n x ps w (field w r fields.pairs_after)
      → field w r fields.pairs_after < 4 * suc r
      → Pushed n x w
      (push_pairs (substitutes (children_by (term_at T.numbers) T.numbers (field w r fields.goal_side_node) k i)
      (environment_at w (field w r fields.goal_side_frame)))
      (substitutes (children_by (term_at T.numbers) T.numbers (field w r fields.clause_side_node) k i)
      (environment_at w (field w r fields.clause_side_frame))) ps) (pairs_from T.numbers w (suc r) i)
  unfolding children_by substitutes push_pairs PairsAt
  push_pairs_lem zero n x w ps r i z l a b f g e q h d =
      record {
        list = ps;
        is = refl;
        there = rw (pairs_from_lem T.numbers w r i, le-ltb i (child_count T.numbers (field w r fields.goal_side_node)) (omega arith)) h;
      }
  push_pairs_lem (suc k) n x w ps r i z l a b f g e q h d =
      let c = push_pairs_lem k n x w ps r (suc i) z l a b f g e (omega arith) h d in
      let t = T.numbers in
      record {
        list =
            record {
              goal = substitute (term_at t (child_of t (field w r fields.goal_side_node) i))
                  (environment_at w (field w r fields.goal_side_frame));
              clause =
                  substitute (term_at t (child_of t (field w r fields.clause_side_node) i))
                  (environment_at w (field w r fields.clause_side_frame));
            }
            ∷ c.list;
        is = rw c.is;
        there = (
          r,
          i,
          pairs_from_lem t w r i ∙ rw (lt-ltb i (child_count t (field w r fields.goal_side_node)) (omega arith))
              (position_small (suc r) i (omega arith) (few_arguments T (field w r fields.goal_side_node) i a (omega arith))),
          l,
          record { node = a; frame = f; more = omega arith; is = refl },
          record { node = b; frame = g; more = omega arith; is = refl },
          c.there,
          d,
        );
      }

  -- Pushing the nodes of one record from argument i on is level 1's `push_terms`.
  pub push_nodes : (k n x : ℕ) (w : List ℕ) (ss : List (Term Leaf)) (r i : ℕ) → n ≤ max_budget → r < n
      → Applied T (field w r fields.waiting_node) → FrameIn n x w (field w r fields.waiting_frame)
      → i + k ≡ child_count T.numbers (field w r fields.waiting_node) → NodesAt n x ss w (field w r fields.waiting_after)
      → field w r fields.waiting_after < 4 * suc r
      → NodesAt n x
      (push_terms (substitutes (children_by (term_at T.numbers) T.numbers (field w r fields.waiting_node) k i)
      (environment_at w (field w r fields.waiting_frame))) ss) w (nodes_from T.numbers w (suc r) i)
  unfolding children_by substitutes push_terms NodesAt
  push_nodes zero n x w ss r i z l a f q h d =
      rw (nodes_from_lem T.numbers w r i, le-ltb i (child_count T.numbers (field w r fields.waiting_node)) (omega arith)) h
  push_nodes (suc k) n x w ss r i z l a f q h d =
      let t = T.numbers in (
        r,
        i,
        nodes_from_lem t w r i ∙ rw (lt-ltb i (child_count t (field w r fields.waiting_node)) (omega arith))
            (position_small (suc r) i (omega arith) (few_arguments T (field w r fields.waiting_node) i a (omega arith))),
        l,
        record { node = a; frame = f; more = omega arith; is = refl },
        push_nodes k n x w ss r (suc i) z l a f (omega arith) h d,
        d,
      )

  -- The word of the argument at a position.
  pub position_word_lem : (n x : ℕ) (w : List ℕ) (a r i f : ℕ) (s : Term Leaf) → n ≤ max_budget → a ≡ 4 * suc r + i
      → ArgumentAt n x w (field w r f) (field w r (f + 1)) i s
      → WordAt T n x w (argument_word T.numbers w a f) s
  position_word_lem n x w a r i f s b e c =
      let t = T.numbers in
      let k = few_arguments T (field w r f) i c.node c.more in
      rw (e, argument_word_lem t w r i f k, ← c.is)
      (node_word T n x w (child_of t (field w r f) i) (field w r (f + 1)) b (argument_term T (field w r f) i c.node c.more) c.frame)

  -- The first of the pairs that wait: the words of its sides, and the pairs after it.
  pub first_pair : (n x : ℕ) (w : List ℕ) (a : ℕ) (q : Pair) (ps : List Pair) → n ≤ max_budget → PairsAt n x (q ∷ ps) w a
      → WordAt T n x w (argument_word T.numbers w a fields.goal_side_node) q.goal
      × WordAt T n x w (argument_word T.numbers w a fields.clause_side_node) q.clause × PairsAt n x ps w (pairs_after T.numbers w a)
  unfolding PairsAt
  first_pair n x w a q ps small c =
      let r = c.0 in
      let i = c.1 in
      let k = few_arguments T (field w r fields.goal_side_node) i c.4.node c.4.more in (
        position_word_lem n x w a r i fields.goal_side_node q.goal small c.2 c.4,
        position_word_lem n x w a r i fields.clause_side_node q.clause small c.2 c.5,
        rw (pairs_after_lem T.numbers w a r i c.2 k) c.6,
      )

  -- The first of the nodes that wait: its word, and the nodes after it.
  pub first_node_lem : (n x : ℕ) (w : List ℕ) (a : ℕ) (s : Term Leaf) (ss : List (Term Leaf)) → n ≤ max_budget → NodesAt n x (s ∷ ss) w a
      → WordAt T n x w (argument_word T.numbers w a fields.waiting_node) s × NodesAt n x ss w (nodes_after T.numbers w a)
  unfolding NodesAt
  first_node_lem n x w a s ss small c =
      let r = c.0 in
      let i = c.1 in
      let k = few_arguments T (field w r fields.waiting_node) i c.4.node c.4.more in (
        position_word_lem n x w a r i fields.waiting_node s small c.2 c.4,
        rw (nodes_after_lem T.numbers w a r i c.2 k) c.5,
      )
