-- Looking at one node in a range check is level 1's `visit`.
use Prim.Native.Nat.{ℕ, suc, ◌+◌, ◌*◌, ◌≤◌, ◌<◌, min}
use native.Mathlib.Omega.{arith}
use mathlib.Core.Bool.{Bool, true, false, cond, false≢true}
use mathlib.Core.Path.{◌≡◌, refl, sym, ap, ap₂, ◌∙◌, subst}
use mathlib.Core.List.{List, [], ◌∷◌, ◌++◌}
use mathlib.Core.Option.{Option, none}
use mathlib.Core.Logic.{inr}
use lib.Dec.{eqb, leb}
use lib.ListN.{length, get_or}
use borrow.Author.Tests.{eqb-true, eqb-false, eq-eqb, ne_eqb}
use Rattle.terms.specs.Terms.{Term, substitutes, Leaves}
use Rattle.unification.specs.Store.{Leaf, Store, binding, lower, bind}
use Rattle.unification.specs.Matching.{Pair, pairs, check, fail, push_terms, after_node, visit}
use Rattle.unification.specs.Promises.{Below}
use Rattle.search.specs.Configurations.{Branch, Configuration, match}
use Rattle.search.specs.Steps.{settle}
use Rattle.sheet_format.specs.Limits.{max_budget, max_nodes, numbers_per_unit}
use Rattle.node_table.specs.Layout.{child_count}
use Rattle.node_table.specs.Decoding.{arguments_at}
use Rattle.machine.specs.declared.Registers.{Registers}
use Rattle.machine.specs.Fields as fields
use Rattle.machine.specs.Records.{cell_of, level_of, put_cell, put_level, made, put_nodes, check_mode}
use Rattle.machine.specs.RegisterUpdates.{with_trail, with_nodes}
use Rattle.machine.specs.Words.{increment, name_of, environment_at, closure_tag, constant_tag, variable_tag}
use Rattle.machine.specs.Trail.{lower_to, bind_to, old_level, effect}
use Rattle.machine.specs.ChoicePoints.{failed}
use Rattle.machine.specs.Matching.{nodes_from, bind_value, pass_node, visit_variable, visit_constant, visit_closure, visit_word}
use Rattle.machine.proofs.Records.{There, there}
use Rattle.machine.proofs.Words.{increment_small, name_is_lem, tag_of_lem, name_of_lem, node_is, frame_is}
use Rattle.machine.proofs.MemoryOrder.{Grow, extends_22, grow_refl, grow_puts}
use Rattle.machine.proofs.Trail.{extends_lower_to, grow_entry, extends_effect, extends_effect_22, effect_before, LowerAt, FreeAt}
use Rattle.machine.proofs.Trail.{undo_effect}
use Rattle.machine.proofs.Tables.{Table, Applied, applied, node_small}
use Rattle.machine.proofs.Terms.{FrameIn, framed_extends, framed_up, environment_extends, WordAt, word_variable, word_constant}
use Rattle.machine.proofs.Terms.{word_closure, word_extends, word_up}
use Rattle.machine.proofs.Stores.{CellAt, StoreAt, store_grow, store_up, store_lower, store_bind}
use Rattle.machine.proofs.WaitingArguments.{PairsAt, NodesAt, pairs_extends, pairs_up, nodes_extends, nodes_up, nodes_before}
use Rattle.machine.proofs.WaitingArguments.{push_nodes}
use Rattle.machine.proofs.Branches.{BranchAt, branch_extends, branch_up}
use Rattle.machine.proofs.Configurations.{store_of, ConfigurationAt}
use Rattle.machine.proofs.ChoicePoints.{bounded_next, alternatives_noted, SharedAt, shared_same, ResultAt}
use Rattle.machine.proofs.AfterAct.{pairs_result}
use Rattle.machine.proofs.Comparing.{now_failed}
use Rattle.memory.proofs.Records.{puts, puts_at}
use Rattle.memory.specs.Records.{field}

-- The writes at a variable's word, and at none.
lower_variable : (w : List ℕ) (x k : ℕ) → lower_to w (4 * x + 1) k ≡ put_level w x k
unfolding lower_to
lower_variable w x k = rw (ne_eqb (4 * x + 1) 0 (λ e. omega arith), name_is_lem x 1 (omega arith))

-- Binding at a variable's word.
bind_variable : (w : List ℕ) (x a : ℕ) → bind_to w (4 * x + 1) a ≡ put_cell w x a
unfolding bind_to
bind_variable w x a = rw (ne_eqb (4 * x + 1) 0 (λ e. omega arith), name_is_lem x 1 (omega arith))

-- No variable is unbound.
free_none : (w : List ℕ) → FreeAt 0 w
free_none w e = absurd (false≢true (sym e))

-- The record of nodes.
nodes_are : (w : List ℕ) (u a f e : ℕ) → put_nodes w u a f e ≡ puts (a ∷ f ∷ e ∷ []) w u fields.waiting_node
unfolding put_nodes puts
nodes_are w u a f e = refl

module _ (T : Table) where
  -- After a node, in the memory w, where a record of nodes may have been made: s₁ is the store with the variable z lowered to k.
  module _ (w : List ℕ) (r : Registers) (s s₁ : Store) (b : Branch) (ds : List Configuration)
      (room : numbers_per_unit * suc r.acts ≤ length w) (small : r.acts < max_budget)
      (branch : BranchAt T r.acts s₁.next w r.goals r.path r.line b)
      (shared : SharedAt T r.acts w r.next r.trail r.choice s ds)
      (mode : r.mode ≡ check_mode) (z k y e : ℕ) (t : Term Leaf) (ns : List (Term Leaf)) (ps : List Pair)
      (variable : r.left ≡ 4 * y + 1) (value : WordAt T r.acts s₁.next w r.right t)
      (waiting : PairsAt T r.acts s₁.next ps w r.pairs)
      (bound : y < s.next) (unbound : cell_of w y ≡ 0) (lowered : LowerAt z w) (store : StoreAt T r.acts (lower_to w z k) s₁)
      (next : s₁.next ≡ s.next) (bindings : s₁.bindings ≡ s.bindings) where
    -- The act's number.
    abbrev u : ℕ
    u = r.acts

    -- The cell of the variable to be bound is in memory.
    y_there : There y w
    y_there = there u y w room (let q = (bounded_next u s shared.bounded).0 in omega arith)

    -- The variable to be bound is unbound.
    free : FreeAt r.left w
    free q = rw (variable, name_is_lem y 1 (omega arith)) (unbound, y_there)

    -- After the act's trail entry, what every act carries on holds, whatever is bound.
    noted : (a v : ℕ) → FreeAt a w → (s₂ : Store) → s₂.next ≡ s.next → length s₂.bindings ≤ suc r.acts
        → StoreAt T r.acts (effect w r.acts z k a v r.trail) s₂
        → SharedAt T (suc r.acts) (effect w r.acts z k a v r.trail) r.next (suc r.acts) r.choice s₂ ds
    noted a v f s₂ n l st =
        let w' = effect w u z k a v r.trail in
        let g = undo_effect u s.next w u z k a v r.trail (omega arith) (omega arith) lowered f in
        let bv = shared.bounded.variables in
        record {
          store = store_up T u w' s₂ st;
          bounded =
              record {
                bindings = l;
                least = let q = shared.bounded.least in omega arith;
                variables = omega arith;
                later = λ q. let z =
                    (bounded_next u s shared.bounded).1 in omega arith;
              };
          next = shared.next ∙ sym n;
          trail = omega arith;
          alternatives =
              rw n (alternatives_noted T u w' (extends_effect u w u z k a v r.trail (omega arith)) g
              (effect_before w u z k a v r.trail (omega arith)) shared.trail shared.alternatives);
        }

    -- After the last node, the store in memory has the variable bound.
    bound_store : StoreAt T r.acts (effect w r.acts z k r.left r.right r.trail) (bind s₁ y t)
    unfolding effect bind
    bound_store =
        let w₁ = lower_to w z k in
        let h₁ = extends_lower_to u w z k in
        let l₁ = h₁.len in
        let th = y_there in
        let st : StoreAt T u (put_cell w₁ y r.right) (bind s₁ y t) =
        store_bind T u w₁ s₁ y r.right t (omega arith) (word_extends T u s₁.next w w₁ (extends_22 u w w₁ h₁) value) store in
        let e₂ : bind_to w₁ r.left r.right ≡ put_cell w₁ y r.right = ap (λ (a : ℕ). bind_to w₁ a r.right) variable
        ∙ bind_variable w₁ y r.right in
        let w₂ = bind_to w₁ r.left r.right in
        store_grow T u s₁.next w₂ (effect w u z k r.left r.right r.trail) (bind s₁ y t)
        (grow_entry u s₁.next w₂ u z (old_level w z) r.left r.trail (omega arith)) (omega arith)
        (rw e₂ st)

    -- Once the variable is bound, the pairs that wait are due.
    bind_result : ResultAt T (suc r.acts) (bind_value w r z k) (settle (pairs (bind s₁ y t) ps) b ++ ds)
    unfolding bind_value with_trail bind
    bind_result =
        let w' = effect w u z k r.left r.right r.trail in
        let h = extends_effect_22 u w u z k r.left r.right r.trail in
        let m = shared.bounded.bindings in
        let lb : length (bind s₁ y t).bindings ≤ suc u = rw bindings (omega arith) in
        rw (increment_small u (omega arith))
        (pairs_result T (suc u) w' (with_trail r (suc u)) (bind s₁ y t) b ds ps r.pairs
        (pairs_up T u s₁.next s₁.next ps w' r.pairs (omega arith) (pairs_extends T u s₁.next ps w w' r.pairs h waiting))
        (branch_up T u s₁.next w' r.goals r.path r.line b
        (branch_extends T u s₁.next w w' r.goals r.path r.line b h branch))
        (noted r.left r.right free (bind s₁ y t) next lb bound_store))

    -- If nodes are left, the store in memory has only the level lowered.
    lowered_store : StoreAt T r.acts (effect w r.acts z k 0 0 r.trail) s₁
    unfolding effect bind_to
    lowered_store =
        store_grow T u s₁.next (lower_to w z k) (effect w u z k 0 0 r.trail) s₁
        (grow_entry u s₁.next (lower_to w z k) u z (old_level w z) 0 r.trail (omega arith)) (omega arith) store

    -- If nodes are left, the next one is due.
    more_result : (n : Term Leaf) (ns : List (Term Leaf)) → NodesAt T (suc r.acts) s₁.next (n ∷ ns) w e
        → ResultAt T (suc r.acts) (made (effect w r.acts z k 0 0 r.trail) (with_nodes (with_trail r (increment r.acts)) e))
        (match (check s₁ y t n ns ps) b ∷ ds)
    unfolding with_nodes with_trail ResultAt ConfigurationAt store_of
    more_result n ns h =
        let w' = effect w u z k 0 0 r.trail in
        let h₀ = extends_effect_22 u w u z k 0 0 r.trail in
        let h₁ = extends_effect_22 (suc u) w u z k 0 0 r.trail in
        let m = shared.bounded.bindings in
        let lb : length s₁.bindings ≤ suc u = rw bindings (omega arith) in
        rw (increment_small u (omega arith)) (record {
          front = record {
            mode = mode;
            variable = variable;
            value = word_up T u s₁.next s₁.next w' (omega arith) (word_extends T u s₁.next w w' h₀ value);
            nodes = inr (refl, nodes_extends T (suc u) s₁.next (n ∷ ns) w w' e h₁ h);
            pairs =
                pairs_up T u s₁.next s₁.next ps w' r.pairs (omega arith)
                (pairs_extends T u s₁.next ps w w' r.pairs h₀ waiting);
            branch =
                branch_up T u s₁.next w' r.goals r.path r.line b
                (branch_extends T u s₁.next w w' r.goals r.path r.line b h₀ branch);
          };
          shared = noted 0 0 (free_none w) s₁ next lb lowered_store;
        })

    -- After a node: level 1's `after_node`.
    pub pass_result : NodesAt T (suc r.acts) s₁.next ns w e
        → ResultAt T (suc r.acts) (pass_node w r z k e) (settle (after_node s₁ y t ns ps) b ++ ds)
    unfolding pass_node after_node settle NodesAt
    pass_result h = go ns h
      where
        go : (ns : List (Term Leaf)) → NodesAt T (suc r.acts) s₁.next ns w e
            → ResultAt T (suc r.acts) (pass_node w r z k e) (settle (after_node s₁ y t ns ps) b ++ ds)
        go [] h = rw (eq-eqb e 0 h) bind_result
        go (n ∷ ns) h = rw (ne_eqb e 0 (λ x. let q = h.2 in omega arith)) (more_result n ns h)

  -- The node that is due, looked through: its word x and its term p.
  module _ (w : List ℕ) (r : Registers) (s : Store) (b : Branch) (ds : List Configuration)
      (room : numbers_per_unit * suc r.acts ≤ length w) (small : r.acts < max_budget)
      (branch : BranchAt T r.acts s.next w r.goals r.path r.line b)
      (shared : SharedAt T r.acts w r.next r.trail r.choice s ds)
      (mode : r.mode ≡ check_mode) (y e : ℕ) (t : Term Leaf) (ns : List (Term Leaf)) (ps : List Pair) (variable : r.left ≡ 4 * y + 1)
      (value : WordAt T r.acts s.next w r.right t)
      (waiting : PairsAt T r.acts s.next ps w r.pairs) (bound : y < s.next) (free : binding s.bindings y ≡ none) where
    -- The variable that is to be bound has no word yet.
    unbound : cell_of w y ≡ 0
    unfolding CellAt
    unbound = subst (λ (c : Option (Term Leaf)). CellAt T r.acts s.next w (cell_of w y) c) free (shared.store.cells y bound)

    -- Places of variables are in memory.
    variable_there : (z : ℕ) → z < s.next → There z w
    variable_there z h = there r.acts z w room (let q = (bounded_next r.acts s shared.bounded).0 in omega arith)

    -- A node that lowers nothing is passed, in a memory w' that may have a record of nodes.
    passes : (w' : List ℕ) → Grow r.acts s.next w w' → (ns' : List (Term Leaf)) (e' : ℕ)
        → NodesAt T (suc r.acts) s.next ns' w' e'
        → ResultAt T (suc r.acts) (pass_node w' r 0 0 e') (settle (after_node s y t ns' ps) b ++ ds)
    unfolding lower_to
    passes w' g ns' e' h =
        let u = r.acts in
        let h₀ = extends_22 u w w' g.extends in
        let l = g.extends.len in
        let sh = shared_same T u w w' r.next r.trail r.choice s ds g shared in
        pass_result w' r s s b ds (omega arith) small (branch_extends T u s.next w w' r.goals r.path r.line b h₀ branch) sh
        mode 0 0 y e' t ns' ps variable
        (word_extends T u s.next w w' h₀ value) (pairs_extends T u s.next ps w w' r.pairs h₀ waiting) bound (g.cells y bound
        ∙ unbound) (λ q. absurd (false≢true (sym q))) sh.store refl refl h

    -- At an application, its arguments wait.
    closure : (m f : ℕ) → Applied T m → FrameIn r.acts s.next w f → NodesAt T r.acts s.next ns w e → (w' : List ℕ)
        → w' ≡ put_nodes w r.acts m f e
        → ResultAt T (suc r.acts) (pass_node w' r 0 0 (nodes_from T.numbers w' (increment r.acts) 0))
        (settle (after_node s y t (push_terms (substitutes (arguments_at T.numbers m) (environment_at w f)) ns) ps) b ++ ds)
    unfolding arguments_at
    closure m f a hf h w' z =
        let u = r.acts in
        let g : Grow u s.next w w' =
        rw (z, nodes_are w u m f e) (grow_puts (m ∷ f ∷ e ∷ []) w u s.next u fields.waiting_node (omega arith) (omega arith)
        (omega arith)) in
        let h₀ = extends_22 u w w' g.extends in
        let at : (i : ℕ) → i < 3 → field w' u (fields.waiting_node + i) ≡ get_or (m ∷ f ∷ e ∷ []) i 0 =
        λ i k. rw (z, nodes_are w u m f e) (puts_at (m ∷ f ∷ e ∷ []) w u fields.waiting_node i (omega arith) (omega arith) k) in
        let e₀ : field w' u fields.waiting_node ≡ m = at 0 (omega arith) in
        let e₁ : field w' u fields.waiting_frame ≡ f = at 1 (omega arith) in
        let e₂ : field w' u fields.waiting_after ≡ e = at 2 (omega arith) in
        rw (increment_small u (omega arith))
        (passes w' g _ (nodes_from T.numbers w' (suc u) 0)
        (rw (← environment_extends u w w' f h₀ hf.frame, ← e₀, ← e₁)
        (push_nodes T (child_count T.numbers (field w' u fields.waiting_node)) (suc u) s.next w' ns u 0 (omega arith) (omega arith)
        (rw e₀ a) (rw e₁ (framed_up u s.next s.next w' f (omega arith) (framed_extends u s.next w w' f h₀ hf))) (omega arith)
        (rw e₂ (nodes_up T u s.next s.next ns w' e (omega arith) (nodes_extends T u s.next ns w w' e h₀ h)))
        (rw e₂ (nodes_before T u s.next ns w e h)))))

    -- By the node's word: level 1's `visit`.
    pub visit_result : (x : ℕ) (p : Term Leaf) → WordAt T r.acts s.next w x p → Leaves p (Below s.next)
        → NodesAt T r.acts s.next ns w e
        → ResultAt T (suc r.acts) (visit_word T.numbers w r e x) (settle (visit s y t p ns ps) b ++ ds)
    unfolding visit_word visit_variable visit_constant visit_closure visit settle Leaves Below lower
    visit_result x p (word_variable {y = z} ex) l h = rw (tag_of_lem x z variable_tag (omega arith) ex) (go (eqb z y) refl)
      where
        k : ℕ
        k = min (level_of w z) (s.level y)

        st : StoreAt T r.acts (lower_to w x k) (lower s z (s.level y))
        st = rw (ex, lower_variable w z k) (store_lower T r.acts w s z (s.level y) (variable_there z l) l shared.store)

        lk : min (level_of w (name_of x)) (level_of w (name_of r.left)) ≡ k
        lk =
            ap₂ min (ap (level_of w) (name_of_lem x z 1 (omega arith) ex)) (ap (level_of w) (name_of_lem r.left y 1 (omega arith) variable)
            ∙ shared.store.levels y bound)

        go : (c : Bool) → eqb z y ≡ c
            → ResultAt T (suc r.acts)
            (cond (eqb x r.left) (failed w r) (pass_node w r x (min (level_of w (name_of x)) (level_of w (name_of r.left))) e))
            (settle (cond c fail (after_node (lower s z (s.level y)) y t ns ps)) b ++ ds)
        go true q = rw (eq-eqb x r.left (let i = eqb-true z y q in omega arith)) (now_failed T w r s b ds room small branch shared)
        go false q =
            rw (ne_eqb x r.left (λ i. eqb-false z y q (omega arith)), lk)
            (pass_result w r s (lower s z (s.level y)) b ds room small branch shared mode x k y e t ns ps variable value waiting bound
            unbound
            (λ i. rw (name_of_lem x z 1 (omega arith) ex) (variable_there z l)) st refl refl
            (nodes_up T r.acts s.next s.next ns w e (omega arith) h))
    visit_result x p (word_constant {c = c} {k = j} ex g v) l h =
        rw (
          tag_of_lem x c constant_tag (omega arith) ex,
          name_of_lem x c 2 (omega arith) ex,
          v,
          name_of_lem r.left y 1 (omega arith) variable,
          shared.store.levels y bound,
        ) (go (leb j (s.level y)))
      where
        go : (q : Bool) → ResultAt T (suc r.acts) (cond q (pass_node w r 0 0 e) (failed w r))
            (settle (cond q (after_node s y t ns ps) fail) b ++ ds)
        go true = passes w (grow_refl r.acts s.next w) ns e (nodes_up T r.acts s.next s.next ns w e (omega arith) h)
        go false = now_failed T w r s b ds room small branch shared
    visit_result x p (word_closure {g = k} {ts = ts} m f ex a v i j) l h =
        rw (
          tag_of_lem x (max_nodes * f + m) closure_tag (omega arith) ex,
          ex,
          node_is m f (node_small T m a.0),
          frame_is m f (node_small T m a.0),
          ← j,
        )
        (closure m f (applied T m a) v h (put_nodes w r.acts m f e) refl)
