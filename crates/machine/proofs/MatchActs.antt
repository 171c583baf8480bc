-- The acts of matching, from state to state: following a binding, comparing a pair, looking at a node.
use Prim.Native.Nat.{ℕ, suc, ◌*◌, ◌≤◌, ◌<◌}
use native.Mathlib.Omega.{arith}
use mathlib.Core.Path.{refl, subst}
use mathlib.Core.List.{List, ◌∷◌, ◌++◌}
use mathlib.Core.Logic.{inl, inr}
use mathlib.Core.Option.{Option, none, some}
use lib.ListN.{length}
use borrow.Author.Tests.{eq-eqb, ne_eqb}
use Rattle.terms.specs.Terms.{Term}
use Rattle.unification.specs.Store.{Leaf, Store, follow}
use Rattle.unification.specs.Matching.{Pair, pairs, check, on_pair, on_node, match_step}
use Rattle.unification.proofs.Follow.{unbound_binding}
use Rattle.unification.proofs.Invariant.{Running}
use Rattle.search.specs.Configurations.{Branch, Configuration, match}
use Rattle.search.specs.Steps.{settle}
use Rattle.search.proofs.Invariant.{Invariant}
use Rattle.sheet_format.specs.Limits.{max_budget, numbers_per_unit}
use Rattle.machine.specs.declared.Registers.{Registers}
use Rattle.machine.specs.RegisterUpdates.{with_sides, with_due}
use Rattle.machine.specs.Words.{binding_of}
use Rattle.machine.specs.Matching.{pairs_after, left_word, right_word, compare_sides, compare_pair, due_word, nodes_after}
use Rattle.machine.specs.Matching.{check_word, check_node}
use Rattle.machine.proofs.MemoryOrder.{grow_refl}
use Rattle.machine.proofs.Tables.{Table}
use Rattle.machine.proofs.Terms.{WordAt, word_up, word_nonzero}
use Rattle.machine.proofs.Stores.{CellAt, follow_word}
use Rattle.machine.proofs.WaitingArguments.{PairsAt, NodesAt, first_pair, first_node_lem}
use Rattle.machine.proofs.Configurations.{store_of, DueAt, CheckAt, SidesAt, PairAt, CompareAt, ConfigurationAt, configuration_up}
use Rattle.machine.proofs.ChoicePoints.{StateAt, SharedAt, shared_grow, ResultAt}
use Rattle.machine.proofs.Comparing.{compare_result}
use Rattle.machine.proofs.Checking.{visit_result}

-- The words of the pair that is due, and the pairs after it.
pub pair_words : (T : Table) (w : List ℕ) (r : Registers) (x : ℕ) (p : Pair) (ps : List Pair) (b : Branch) → r.acts ≤ max_budget
    → PairAt T r.acts x w r p ps b
    → WordAt T r.acts x w (left_word T.numbers w r) p.goal × WordAt T r.acts x w (right_word T.numbers w r) p.clause
    × PairsAt T r.acts x ps w (pairs_after T.numbers w r.pairs)
unfolding left_word right_word
pair_words T w r x p ps b small h = go h.sides
  where
    go : SidesAt T r.acts x w r h.stood p
        → WordAt T r.acts x w (left_word T.numbers w r) p.goal × WordAt T r.acts x w (right_word T.numbers w r) p.clause
        × PairsAt T r.acts x ps w (pairs_after T.numbers w r.pairs)
    go (inl c) =
        rw (eq-eqb r.left 0 c.0)
        (first_pair T r.acts x w r.pairs p ps small
        (subst (λ (q : Pair). PairsAt T r.acts x (q ∷ ps) w r.pairs) c.1 h.waits))
    go (inr c) =
        rw (ne_eqb r.left 0 (word_nonzero T c.0))
        (c.0, c.1, (first_pair T r.acts x w r.pairs h.stood ps small h.waits).2)

-- The word of the node that is due, and the nodes after it.
pub due_word_lem : (T : Table) (w : List ℕ) (r : Registers) → r.acts ≤ max_budget → (v : ℕ) (x : Term Leaf) (ns : List (Term Leaf))
    → DueAt T r.acts v w r.node r.nodes x ns
    → WordAt T r.acts v w (due_word T.numbers w r) x × NodesAt T r.acts v ns w (nodes_after T.numbers w r.nodes)
unfolding due_word nodes_after NodesAt
due_word_lem T w r small v x ns (inl (c, inl k)) =
    rw (ne_eqb r.node 0 (word_nonzero T c), eq-eqb r.nodes 0 k.0, k.1) (c, refl)
due_word_lem T w r small v x ns (inl (c, inr k)) =
    rw (ne_eqb r.node 0 (word_nonzero T c)) (c, (first_node_lem T r.acts v w r.nodes k.0 ns small k.1).1)
due_word_lem T w r small v x ns (inr c) = rw (eq-eqb r.node 0 c.0) (first_node_lem T r.acts v w r.nodes x ns small c.1)

-- Where a binding of the node that is due has been followed, the register has the word that was come to.
due_followed : (T : Table) (n v : ℕ) (w : List ℕ) (d e a : ℕ) (x y : Term Leaf) (ns : List (Term Leaf)) → WordAt T n v w e y
    → DueAt T n v w d a x ns → DueAt T n v w e a y ns
due_followed T n v w d e a x y ns c (inl k) = inl (c, k.1)
due_followed T n v w d e a x y ns c (inr k) = inl (c, inr (x, k.1))

module _ (T : Table) (w : List ℕ) (r : Registers) (b : Branch) (ds : List Configuration)
    (room : numbers_per_unit * suc r.acts ≤ length w) (small : r.acts < max_budget) where
  -- A word stays the term's, one act later.
  later : (s : Store) {a : ℕ} {t : Term Leaf} → WordAt T r.acts s.next w a t → WordAt T (suc r.acts) s.next w a t
  later s v = word_up T r.acts s.next s.next w (omega arith) v

  -- An act that writes nothing leaves store and alternatives as they are.
  unwritten : (s : Store) → SharedAt T r.acts w r.next r.trail r.choice s ds
      → SharedAt T (suc r.acts) w r.next r.trail r.choice s ds
  unwritten s c = shared_grow T r.acts w w r.next r.trail r.choice s ds (grow_refl r.acts s.next w) c

  -- The pair that is due: its bindings are followed, the goal's side first, one an act; then it is compared.
  pub compare_act : (s : Store) (p : Pair) (ps : List Pair) → Invariant (match (pairs s (p ∷ ps)) b)
      → StateAt T r.acts w r (match (pairs s (p ∷ ps)) b) ds
      → ResultAt T (suc r.acts) (compare_pair T.numbers w r) (settle (match_step (pairs s (p ∷ ps))) b ++ ds)
  unfolding compare_pair compare_sides match_step on_pair settle Invariant Running ConfigurationAt CompareAt CellAt ResultAt store_of with_sides
  compare_act s p ps i st =
      go (follow s.bindings p.goal) (follow s.bindings p.clause)
      (follow_word T r.acts w s st.shared.store z.0 i.1.0.0)
      (follow_word T r.acts w s st.shared.store z.1 i.1.0.1)
    where
      f : PairAt T r.acts s.next w r p ps b
      f = st.front

      up : PairAt T (suc r.acts) s.next w r p ps b
      up = configuration_up T r.acts w r (match (pairs s (p ∷ ps)) b) f

      x : ℕ
      x = left_word T.numbers w r

      y : ℕ
      y = right_word T.numbers w r

      z : WordAt T r.acts s.next w x p.goal × WordAt T r.acts s.next w y p.clause
          × PairsAt T r.acts s.next ps w (pairs_after T.numbers w r.pairs)
      z = pair_words T w r s.next p ps b (omega arith) f

      go : (o q : Option (Term Leaf)) → CellAt T r.acts s.next w (binding_of w x) o → CellAt T r.acts s.next w (binding_of w y) q
          → ResultAt T (suc r.acts) (compare_sides T.numbers w r x y) (settle (on_pair s p ps o q) b ++ ds)
      go (some t) q c d =
          rw (ne_eqb (binding_of w x) 0 (word_nonzero T c)) (record {
            front =
                record {
                  mode = up.mode;
                  stood = up.stood;
                  waits = up.waits;
                  sides = inr (later s c, later s z.1);
                  branch = up.branch;
                };
            shared = unwritten s st.shared;
          })
      go none (some t) c d =
          rw (eq-eqb (binding_of w x) 0 c, ne_eqb (binding_of w y) 0 (word_nonzero T d)) (record {
            front =
                record {
                  mode = up.mode;
                  stood = up.stood;
                  waits = up.waits;
                  sides = inr (later s z.0, later s d);
                  branch = up.branch;
                };
            shared = unwritten s st.shared;
          })
      go none none c d =
          rw (eq-eqb (binding_of w x) 0 c, eq-eqb (binding_of w y) 0 d)
          (compare_result T w r s b ds room small f.branch st.shared (pairs_after T.numbers w r.pairs) x y p.goal p.clause
          ps z.0 z.1 z.2)

  -- The node that is due: its bindings are followed, one an act; then it is looked at.
  pub check_act : (s : Store) (y : ℕ) (t x : Term Leaf) (ns : List (Term Leaf)) (ps : List Pair) → Invariant (match (check s y t x ns ps) b)
      → StateAt T r.acts w r (match (check s y t x ns ps) b) ds
      → ResultAt T (suc r.acts) (check_node T.numbers w r) (settle (match_step (check s y t x ns ps)) b ++ ds)
  unfolding check_node check_word match_step on_node settle Invariant Running ConfigurationAt CellAt ResultAt store_of with_due
  check_act s y t x ns ps i st =
      go (follow s.bindings x) (follow_word T r.acts w s st.shared.store z.0 i.0.nodes.0)
    where
      f : CheckAt T r.acts s.next w r y t x ns ps b
      f = st.front

      up : CheckAt T (suc r.acts) s.next w r y t x ns ps b
      up = configuration_up T r.acts w r (match (check s y t x ns ps) b) f

      a : ℕ
      a = due_word T.numbers w r

      z : WordAt T r.acts s.next w a x × NodesAt T r.acts s.next ns w (nodes_after T.numbers w r.nodes)
      z = due_word_lem T w r (omega arith) s.next x ns f.nodes

      go : (o : Option (Term Leaf)) → CellAt T r.acts s.next w (binding_of w a) o
          → ResultAt T (suc r.acts) (check_word T.numbers w r a) (settle (on_node s y t x ns ps o) b ++ ds)
      go (some v) c =
          rw (ne_eqb (binding_of w a) 0 (word_nonzero T c)) (record {
            front =
                record {
                  mode = up.mode;
                  variable = up.variable;
                  value = up.value;
                  nodes = due_followed T (suc r.acts) s.next w r.node (binding_of w a) r.nodes x v ns (later s c) up.nodes;
                  pairs = up.pairs;
                  branch = up.branch;
                };
            shared = unwritten s st.shared;
          })
      go none c =
          let g = i.0.good.formed in
          rw (eq-eqb (binding_of w a) 0 c)
          (visit_result T w r s b ds room small f.branch st.shared f.mode y (nodes_after T.numbers w r.nodes) t ns ps
          f.variable f.value f.pairs i.0.low (unbound_binding s.bindings y g.bound i.0.unbound)
          a x z.0 i.0.nodes.0 z.1)
