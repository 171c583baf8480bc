-- Comparing a pair is level 1's `compare_terms`.
use Prim.Native.Nat.{ℕ, suc, ◌+◌, ◌*◌, ◌≤◌, ◌<◌}
use native.Mathlib.Omega.{arith}
use mathlib.Core.Bool.{Bool, true, false, ◌&&◌, cond}
use mathlib.Core.Path.{◌≡◌, refl, sym, ap, ◌∙◌}
use mathlib.Core.List.{List, [], ◌∷◌, ◌++◌}
use mathlib.Core.Logic.{inl}
use lib.Dec.{eqb}
use lib.ListN.{length, get_or}
use borrow.Author.Tests.{eqb-true, eqb-false, eq-eqb, ne_eqb}
use Rattle.terms.specs.Terms.{Term, leaf, app, substitutes}
use Rattle.sequents.specs.Sequents.{Environment}
use Rattle.unification.specs.Store.{Leaf, var, con, Store}
use Rattle.unification.specs.Matching.{Pair, pairs, check, fail, push_pairs, comparing, compare_terms}
use Rattle.search.specs.Configurations.{Branch, Configuration, match}
use Rattle.search.specs.Steps.{settle}
use Rattle.sheet_format.specs.Limits.{max_budget, max_nodes, numbers_per_unit}
use Rattle.node_table.specs.Layout.{child_count, label_of}
use Rattle.node_table.specs.Decoding.{arguments_at}
use Rattle.node_table.proofs.Functors.{labels_compare}
use Rattle.machine.specs.declared.Registers.{Registers}
use Rattle.machine.specs.Fields as fields
use Rattle.machine.specs.Records.{made, put_pairs}
use Rattle.machine.specs.RegisterUpdates.{with_check}
use Rattle.machine.specs.Words.{increment, environment_at, closure_tag, constant_tag, variable_tag}
use Rattle.machine.specs.ChoicePoints.{failed}
use Rattle.machine.specs.Matching.{pairs_from, due_pairs, compare_closures, compare_leaves, compare_words}
use Rattle.machine.proofs.Words.{increment_small, tag_of_lem, node_is, frame_is}
use Rattle.machine.proofs.MemoryOrder.{Grow, extends_22, grow_refl, grow_puts}
use Rattle.machine.proofs.Tables.{Table, Applied, applied, node_small, same_count}
use Rattle.machine.proofs.Terms.{FrameIn, framed_extends, framed_up, environment_extends, WordAt, word_variable, word_constant}
use Rattle.machine.proofs.Terms.{word_closure, word_up}
use Rattle.machine.proofs.WaitingArguments.{PairsAt, pairs_extends, pairs_up, pairs_before, Pushed, push_pairs_lem}
use Rattle.machine.proofs.Branches.{BranchAt, branch_extends, branch_up}
use Rattle.machine.proofs.Configurations.{store_of, ConfigurationAt}
use Rattle.machine.proofs.ChoicePoints.{alternatives_up, SharedAt, shared_grow, ResultAt, failed_result}
use Rattle.machine.proofs.AfterAct.{pairs_result, pushed_result}
use Rattle.memory.proofs.Records.{puts, puts_at}
use Rattle.memory.specs.Records.{field}

-- The record of pairs.
pairs_are : (w : List ℕ) (u a f b g e : ℕ) → put_pairs w u a f b g e ≡ puts (a ∷ f ∷ b ∷ g ∷ e ∷ []) w u fields.goal_side_node
unfolding put_pairs puts
pairs_are w u a f b g e = refl

-- A record of pairs leaves older records.
pub grow_pairs : (n k : ℕ) (w : List ℕ) (u a f b g e : ℕ) → n ≤ u → Grow n k w (put_pairs w u a f b g e)
grow_pairs n k w u a f b g e l =
    rw (pairs_are w u a f b g e) (grow_puts (a ∷ f ∷ b ∷ g ∷ e ∷ []) w n k u fields.goal_side_node l (omega arith) (omega arith))

-- A record of pairs has its five fields.
pub pairs_at : (w : List ℕ) (u a f b g e i : ℕ) → numbers_per_unit * suc u ≤ length w → i < 5
    → field (put_pairs w u a f b g e) u (fields.goal_side_node + i) ≡ get_or (a ∷ f ∷ b ∷ g ∷ e ∷ []) i 0
pairs_at w u a f b g e i l h =
    rw (pairs_are w u a f b g e) (puts_at (a ∷ f ∷ b ∷ g ∷ e ∷ []) w u fields.goal_side_node i (omega arith) (omega arith) h)

-- The arguments of two nodes are pushed, in any memory with the record's fields.
pub push_held : (T : Table) (n v : ℕ) (w : List ℕ) (ps : List Pair) (u a f b g e : ℕ) (x y : Environment Leaf) → n ≤ max_budget → u < n
    → Applied T a → Applied T b → FrameIn n v w f → FrameIn n v w g
    → environment_at w f ≡ x → environment_at w g ≡ y → label_of T.numbers a ≡ label_of T.numbers b
    → field w u fields.goal_side_node ≡ a → field w u fields.goal_side_frame ≡ f → field w u fields.clause_side_node ≡ b
    → field w u fields.clause_side_frame ≡ g → field w u fields.pairs_after ≡ e → PairsAt T n v ps w e → e < 4 * suc u
    → Pushed T n v w (push_pairs (substitutes (arguments_at T.numbers a) x) (substitutes (arguments_at T.numbers b) y) ps)
    (pairs_from T.numbers w (suc u) 0)
unfolding arguments_at
push_held T n v w ps u a f b g e x y small l aa ab hf hg ex ey lab e₀ e₁ e₂ e₃ e₄ p d =
    rw (← ex, ← ey, ← same_count T a b aa ab lab, ← e₀, ← e₁, ← e₂, ← e₃)
    (push_pairs_lem T (child_count T.numbers (field w u fields.goal_side_node)) n v w ps u 0 small l (rw e₀ aa) (rw e₂ ab) (rw e₁ hf) (rw e₃ hg)
    (rw (e₀, e₂) (same_count T a b aa ab lab)) (omega arith) (rw e₄ p) (rw e₄ d))

-- One act, in the registers r at the branch b of the store s.
module _ (T : Table) (w : List ℕ) (r : Registers) (s : Store) (b : Branch) (ds : List Configuration)
    (room : numbers_per_unit * suc r.acts ≤ length w) (small : r.acts < max_budget)
    (branch : BranchAt T r.acts s.next w r.goals r.path r.line b)
    (shared : SharedAt T r.acts w r.next r.trail r.choice s ds) where
  -- The act's number.
  abbrev u : ℕ
  u = r.acts

  -- On failure the latest alternative is due.
  pub now_failed : ResultAt T (suc r.acts) (failed w r) ds
  now_failed = failed_result T (suc u) s.next w r ds (let l = shared.trail in omega arith) (alternatives_up T u shared.alternatives)

  -- The pairs that wait are due, or the next goal if none wait.
  pub now_pairs : (ps : List Pair) (e : ℕ) → PairsAt T r.acts s.next ps w e
      → ResultAt T (suc r.acts) (made w (due_pairs w r e)) (settle (pairs s ps) b ++ ds)
  now_pairs ps e p =
      pairs_result T (suc u) w r s b ds ps e (pairs_up T u s.next s.next ps w e (omega arith) p)
      (branch_up T u s.next w r.goals r.path r.line b branch)
      (shared_grow T u w w r.next r.trail r.choice s ds (grow_refl u s.next w) shared)

  -- A range check of the variable and its value is due.
  now_check : (x a e y : ℕ) (t : Term Leaf) (ps : List Pair) → x ≡ 4 * y + 1 → WordAt T r.acts s.next w a t
      → PairsAt T r.acts s.next ps w e
      → ResultAt T (suc r.acts) (made w (with_check r e x a)) (match (check s y t t [] ps) b ∷ ds)
  unfolding with_check ResultAt ConfigurationAt store_of
  now_check x a e y t ps q v p = record {
    front = record {
      mode = refl;
      variable = q;
      value = word_up T u s.next s.next w (omega arith) v;
      nodes = inl (word_up T u s.next s.next w (omega arith) v, inl (refl, refl));
      pairs = pairs_up T u s.next s.next ps w e (omega arith) p;
      branch = branch_up T u s.next w r.goals r.path r.line b branch;
    };
    shared = shared_grow T u w w r.next r.trail r.choice s ds (grow_refl u s.next w) shared;
  }

  -- Two applications of one symbol have their arguments compared before the pairs that wait.
  closures : (e m f n g : ℕ) (ps : List Pair) → Applied T m → Applied T n → FrameIn r.acts s.next w f
      → FrameIn r.acts s.next w g → label_of T.numbers m ≡ label_of T.numbers n → PairsAt T r.acts s.next ps w e
      → (w' : List ℕ) → w' ≡ put_pairs w r.acts m f n g e
      → ResultAt T (suc r.acts) (made w' (due_pairs w' r (pairs_from T.numbers w' (increment r.acts) 0)))
      (settle (comparing s (push_pairs (substitutes (arguments_at T.numbers m) (environment_at w f))
      (substitutes (arguments_at T.numbers n) (environment_at w g)) ps)) b ++ ds)
  closures e m f n g ps am an hf hg lab p w' z =
      let gr : Grow u s.next w w' = rw z (grow_pairs u s.next w u m f n g e (omega arith)) in
      let h = extends_22 u w w' gr.extends in
      let at : (i : ℕ) → i < 5 → field w' u (fields.goal_side_node + i) ≡ get_or (m ∷ f ∷ n ∷ g ∷ e ∷ []) i 0 =
      λ i k. rw z (pairs_at w u m f n g e i room k) in
      let P = push_held T (suc u) s.next w' ps u m f n g e (environment_at w f) (environment_at w g) (omega arith) (omega arith) am an
      (framed_up u s.next s.next w' f (omega arith) (framed_extends u s.next w w' f h hf))
      (framed_up u s.next s.next w' g (omega arith) (framed_extends u s.next w w' g h hg))
      (environment_extends u w w' f h hf.frame) (environment_extends u w w' g h hg.frame) lab
      (at 0 (omega arith)) (at 1 (omega arith)) (at 2 (omega arith)) (at 3 (omega arith)) (at 4 (omega arith))
      (pairs_up T u s.next s.next ps w' e (omega arith) (pairs_extends T u s.next ps w w' e h p))
      (pairs_before T u s.next ps w e p) in
      rw (increment_small u (omega arith))
      (pushed_result T (suc u) w' r s b ds _ (pairs_from T.numbers w' (suc u) 0) P
      (branch_up T u s.next w' r.goals r.path r.line b
      (branch_extends T u s.next w w' r.goals r.path r.line b h branch))
      (shared_grow T u w w' r.next r.trail r.choice s ds gr shared))

  -- By the words of both sides: level 1's `compare_terms`.
  pub compare_result : (e x y : ℕ) (p q : Term Leaf) (ps : List Pair) → WordAt T r.acts s.next w x p
      → WordAt T r.acts s.next w y q → PairsAt T r.acts s.next ps w e
      → ResultAt T (suc r.acts) (compare_words T.numbers w r e x y) (settle (compare_terms s p q ps) b ++ ds)
  unfolding compare_words compare_leaves compare_closures compare_terms settle
  compare_result e x y p q ps (word_variable {y = i} ex) (word_variable {y = j} ey) h =
      rw (tag_of_lem x i variable_tag (omega arith) ex) (go (eqb i j) refl)
    where
      go : (c : Bool) → eqb i j ≡ c → ResultAt T (suc r.acts) (cond (eqb x y) (made w (due_pairs w r e)) (made w (with_check r e x y)))
          (settle (cond c (pairs s ps) (check s i (leaf (var j)) (leaf (var j)) [] ps)) b ++ ds)
      go true z = rw (eq-eqb x y (let k = eqb-true i j z in omega arith)) (now_pairs ps e h)
      go false z = rw (ne_eqb x y (λ k. eqb-false i j z (omega arith))) (now_check x y e i (leaf (var j)) ps ex (word_variable ey) h)
  compare_result e x y p q ps (word_variable {y = i} ex) (word_constant {c = d} {k = l} ey g v) h =
      rw (tag_of_lem x i variable_tag (omega arith) ex, ne_eqb x y (λ z. omega arith))
      (now_check x y e i (leaf (con d l)) ps ex (word_constant ey g v) h)
  compare_result e x y p q ps (word_variable {y = i} ex) (word_closure {g = k} {ts = ts} m f ey a v l z) h =
      rw (tag_of_lem x i variable_tag (omega arith) ex, ne_eqb x y (λ z. omega arith))
      (now_check x y e i (app k ts) ps ex (word_closure m f ey a v l z) h)
  compare_result e x y p q ps (word_constant {c = c} {k = k} ex g v) (word_variable {y = j} ey) h =
      rw (tag_of_lem x c constant_tag (omega arith) ex, tag_of_lem y j variable_tag (omega arith) ey)
      (now_check y x e j (leaf (con c k)) ps ey (word_constant ex g v) h)
  compare_result e x y p q ps (word_constant {c = c} {k = k} ex g v) (word_constant {c = d} {k = l} ey g' v') h =
      rw (tag_of_lem x c constant_tag (omega arith) ex, tag_of_lem y d constant_tag (omega arith) ey) (go (eqb c d) refl)
    where
      go : (z : Bool) → eqb c d ≡ z → ResultAt T (suc r.acts) (cond (eqb x y) (made w (due_pairs w r e)) (failed w r))
          (settle (cond (z && eqb k l) (pairs s ps) fail) b ++ ds)
      go true z =
          let i = eqb-true c d z in
          rw (eq-eqb x y (omega arith), eq-eqb k l (sym v ∙ ap (λ (j : ℕ). field w j fields.constant_level) i ∙ v')) (now_pairs ps e h)
      go false z = rw (ne_eqb x y (λ i. eqb-false c d z (omega arith))) now_failed
  compare_result e x y p q ps (word_constant {c = c} {k = k} ex g v) (word_closure m f ey a v' l z) h =
      rw (tag_of_lem x c constant_tag (omega arith) ex, tag_of_lem y (max_nodes * f + m) closure_tag (omega arith) ey, ne_eqb x y (λ i. omega arith))
      now_failed
  compare_result e x y p q ps (word_closure {g = k} {ts = ts} m f ex a v l z) (word_variable {y = j} ey) h =
      rw (tag_of_lem x (max_nodes * f + m) closure_tag (omega arith) ex, tag_of_lem y j variable_tag (omega arith) ey)
      (now_check y x e j (app k ts) ps ey (word_closure m f ex a v l z) h)
  compare_result e x y p q ps (word_closure m f ex a v l z) (word_constant {c = d} ey g v') h =
      rw (tag_of_lem x (max_nodes * f + m) closure_tag (omega arith) ex, tag_of_lem y d constant_tag (omega arith) ey) now_failed
  compare_result e x y p q ps (word_closure {g = k} {ts = ts} m f ex a v l z) (word_closure {g = k'} {ts = us} n g ey a' v' l' z') h =
      rw (
        tag_of_lem x (max_nodes * f + m) closure_tag (omega arith) ex,
        tag_of_lem y (max_nodes * g + n) closure_tag (omega arith) ey,
        ex,
        ey,
        node_is m f (node_small T m a.0),
        frame_is m f (node_small T m a.0),
        node_is n g (node_small T n a'.0),
        frame_is n g (node_small T n a'.0),
        ← l,
        ← l',
        ← z,
        ← z',
        labels_compare (label_of T.numbers m) (label_of T.numbers n),
      )
      (go (eqb (label_of T.numbers m) (label_of T.numbers n)) refl)
    where
      t : List ℕ
      t = T.numbers

      w' : List ℕ
      w' = put_pairs w r.acts m f n g e

      go : (c : Bool) → eqb (label_of t m) (label_of t n) ≡ c
          → ResultAt T (suc r.acts) (cond c (made w' (due_pairs w' r (pairs_from t w' (increment r.acts) 0))) (failed w r))
          (settle (cond c
          (comparing s (push_pairs (substitutes (arguments_at t m) (environment_at w f))
          (substitutes (arguments_at t n) (environment_at w g)) ps)) fail) b ++ ds)
      go true i = closures e m f n g ps (applied T m a) (applied T n a') v v' (eqb-true (label_of t m) (label_of t n) i) h w' refl
      go false i = now_failed
