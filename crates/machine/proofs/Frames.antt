-- Making frames and fresh variables is level 1's `update`, `assign` and `fresh`.
use Prim.Native.Nat.{ℕ, zero, suc, ◌+◌, ◌-◌, ◌*◌, ◌/◌, ◌%◌, ◌≤◌, ◌<◌}
use native.Mathlib.Omega.{arith}
use mathlib.Core.Bool.{Bool, true, false, cond}
use mathlib.Core.Path.{◌≡◌, refl, sym, ap, ◌∙◌, fun_ext, subst}
use mathlib.Core.List.{List, [], ◌∷◌}
use mathlib.Core.Logic.{◌⊎◌, inl, inr}
use lib.Dec.{ltb, eqb}
use lib.ListN.{length}
use borrow.Author.Tests.{ltb-true, ltb-false, eqb-true, eqb-false, ne_eqb}
use Rattle.terms.specs.Lists.{update}
use Rattle.terms.specs.Terms.{sheet_symbol, leaf, app, nil}
use Rattle.sequents.specs.Sequents.{Environment, assign}
use Rattle.unification.specs.Store.{Leaf, var, Store, past, fresh, fresh_levels, fresh_variables}
use Rattle.unification.specs.Promises.{Formed}
use Rattle.unification.proofs.Look.{unbound_beyond}
use Rattle.unification.proofs.Stores.{fresh_formed}
use Rattle.sheet_format.specs.Limits.{max_budget, numbers_per_unit, variable_names}
use Rattle.machine.specs.Fields as fields
use Rattle.machine.specs.Records.{put_cell, put_level}
use Rattle.machine.specs.Words.{variable_word, slot_of, leaf_of, environment_at, name_of}
use Rattle.machine.specs.Frames.{copy_frame, put_variable, put_fresh}
use Rattle.machine.proofs.Records.{there, field_cell, field_level}
use Rattle.machine.proofs.Words.{increment_small, variable_small}
use Rattle.machine.proofs.MemoryOrder.{Extends, Grow, extends_22, extends_put, grow_refl, grow_trans, grow_less, grow_put, grow_cell}
use Rattle.machine.proofs.MemoryOrder.{grow_level}
use Rattle.machine.proofs.Tables.{Table}
use Rattle.machine.proofs.Terms.{LeafAt, variable_at, leaf_up, FrameAt, frame_extends, slot_leaf, slot_extends, leaf_extends}
use Rattle.machine.proofs.Terms.{variable_leaf}
use Rattle.unification.proofs.Follow.{unbound_binding}
use Rattle.machine.proofs.Stores.{StoreAt, store_grow, store_fresh}
use Rattle.memory.proofs.Records.{length_put, field_same, field_other, puts, puts_out}
use Rattle.memory.specs.Records.{field, put_field}
use Rattle.clause_members.proofs.Prefixes.{names_of}

-- Frames and levels of constants stay, in every record.
abbrev pub SameFrames : List ℕ → List ℕ → Type 0
SameFrames w w' = (r f : ℕ) → fields.constant_level ≤ f → f < fields.goal_node → field w' r f ≡ field w r f

-- One after the other.
pub same_trans : (a b c : List ℕ) → SameFrames a b → SameFrames b c → SameFrames a c
same_trans a b c p q r f h k = q r f h k ∙ p r f h k

-- Later fields of a record leave them.
pub same_puts : (l w : List ℕ) (u f : ℕ) → fields.goal_node ≤ f → f + length l ≤ numbers_per_unit → SameFrames w (puts l w u f)
same_puts l w u f h k r g a b = puts_out l w u f r g k (omega arith) (inl (omega arith))

-- If frames stay, a word stands for the same leaf.
leaf_same : (w w' : List ℕ) (a : ℕ) → SameFrames w w' → leaf_of w' a ≡ leaf_of w a
unfolding leaf_of
leaf_same w w' a e = rw (e (name_of a) 22 (omega arith) (omega arith))

-- If frames stay, a slot is the same.
slot_same : (w w' : List ℕ) (f v : ℕ) → v < variable_names → SameFrames w w' → slot_of w' f v ≡ slot_of w f v
unfolding slot_of
slot_same w w' f v l e = rw (e (f - 1) (fields.frame + v) (omega arith) (omega arith))

-- If frames stay, an environment is the same.
pub environment_same : (w w' : List ℕ) (f : ℕ) → SameFrames w w' → environment_at w' f ≡ environment_at w f
unfolding environment_at
environment_same w w' f e = fun_ext (λ v. go v (ltb v 8) refl)
  where
    go : (v : ℕ) (b : Bool) → ltb v 8 ≡ b
        → cond b (leaf (leaf_of w' (slot_of w' f v))) (app (sheet_symbol 0) nil) ≡ cond b (leaf (leaf_of w (slot_of w f v))) (app (sheet_symbol 0) nil)
    go v true q = ap leaf (leaf_same w w' (slot_of w' f v) e ∙ ap (leaf_of w) (slot_same w w' f v (ltb-true v 8 q) e))
    go v false q = refl

-- If frames stay, a frame remains a frame.
pub frame_same : (n : ℕ) (w w' : List ℕ) (f : ℕ) → SameFrames w w' → FrameAt n w f → FrameAt n w' f
unfolding FrameAt
frame_same n w w' zero e h = tt
frame_same n w w' (suc r) e h = (h.0, λ v l. rw (e r (fields.frame + v) (omega arith) (omega arith)) (h.1 v l))

-- Copying

module _ (u f : ℕ) where
  -- A copy leaves older records.
  pub copy_grow : (n : ℕ) (w : List ℕ) (v k : ℕ) → v + n ≤ 8 → Grow u k w (copy_frame n w u f v)
  unfolding copy_frame
  copy_grow zero w v k h = grow_refl u k w
  copy_grow (suc n) w v k h =
      let w₁ = put_field w u (fields.frame + v) (slot_of w f v) in
      grow_trans u k w w₁ (copy_frame n w₁ u f (suc v))
      (grow_put u k w u (fields.frame + v) (slot_of w f v) (omega arith) (omega arith) (omega arith))
      (copy_grow n w₁ (suc v) k (omega arith))

  -- Fields beside the slots stay.
  copy_out : (n : ℕ) (w : List ℕ) (v q g : ℕ) → v + n ≤ 8 → g < numbers_per_unit → (g < 23 + v ⊎ 31 ≤ g)
      → field (copy_frame n w u f v) q g ≡ field w q g
  unfolding copy_frame
  copy_out zero w v q g h k o = refl
  copy_out (suc n) w v q g h k (inl o) =
      copy_out n (put_field w u (fields.frame + v) (slot_of w f v)) (suc v) q g (omega arith) k (inl (omega arith))
      ∙ field_other w u (fields.frame + v) q g (slot_of w f v) (omega arith) k (λ e. omega arith)
  copy_out (suc n) w v q g h k (inr o) =
      copy_out n (put_field w u (fields.frame + v) (slot_of w f v)) (suc v) q g (omega arith) k (inr o)
      ∙ field_other w u (fields.frame + v) q g (slot_of w f v) (omega arith) k (λ e. omega arith)

  -- The slots are the frame's.
  pub copy_at : (n : ℕ) (w : List ℕ) (v i : ℕ) → numbers_per_unit * suc u ≤ length w → FrameAt u w f → v + n ≤ 8 → v ≤ i → i < v + n
      → field (copy_frame n w u f v) u (fields.frame + i) ≡ slot_of w f i
  unfolding copy_frame
  copy_at zero w v i b h l m k = absurd (omega arith)
  copy_at (suc n) w v i b h l m k =
      go (eqb i v) refl (λ q. copy_at n w₁ (suc v) i (let z = length_put w u (fields.frame + v) (slot_of w f v) in omega arith)
      (frame_extends u w w₁ f e h) (omega arith) q (omega arith))
    where
      w₁ : List ℕ
      w₁ = put_field w u (fields.frame + v) (slot_of w f v)

      e : Extends fields.constant_level u w w₁
      e = extends_put fields.constant_level u w u (fields.frame + v) (slot_of w f v) (omega arith) (omega arith)

      go : (c : Bool) → eqb i v ≡ c → (suc v ≤ i → field (copy_frame n w₁ u f (suc v)) u (fields.frame + i) ≡ slot_of w₁ f i)
          → field (copy_frame n w₁ u f (suc v)) u (fields.frame + i) ≡ slot_of w f i
      go true q ih =
          rw (eqb-true i v q) (copy_out n w₁ (suc v) u (fields.frame + v) (omega arith) (omega arith) (inl (omega arith))
          ∙ field_same w u (fields.frame + v) (slot_of w f v) (omega arith))
      go false q ih = let d = eqb-false i v q in ih (omega arith) ∙ slot_extends u w w₁ f i (omega arith) e h

-- The frame of record u, whole.
pub record FrameMade (w : List ℕ) (u : ℕ) (e : Environment Leaf) : Type 0 where
  pub frame : FrameAt (suc u) w (suc u)
  pub environment : environment_at w (suc u) ≡ e

-- A slot of the frame of record u is a field of that record.
made_slot : (w : List ℕ) (u v : ℕ) → slot_of w (suc u) v ≡ field w u (fields.frame + v)
unfolding slot_of
made_slot w u v = let e : suc u - 1 ≡ u = omega arith in rw (ne_eqb (suc u) 0 (λ q. omega arith), e)

-- A frame with the slots of the frame f has the environment of f.
pub made_held : (w w' : List ℕ) (u f : ℕ) → Extends fields.constant_level u w w' → FrameAt u w f
    → ((v : ℕ) → v < variable_names → field w' u (fields.frame + v) ≡ slot_of w f v) → FrameMade w' u (environment_at w f)
unfolding FrameAt environment_at
made_held w w' u f e h s =
    record {
      frame = (omega arith, λ v l. rw (s v l) (leaf_up u (slot_of w f v) (slot_leaf u w f v l h)));
      environment = fun_ext (λ v. go v (ltb v 8) refl);
    }
  where
    go : (v : ℕ) (q : Bool) → ltb v 8 ≡ q
        → cond q (leaf (leaf_of w' (slot_of w' (suc u) v))) (app (sheet_symbol 0) nil) ≡ cond q (leaf (leaf_of w (slot_of w f v))) (app (sheet_symbol 0) nil)
    go v true q =
        let l = ltb-true v 8 q in ap leaf (ap (leaf_of w') (made_slot w' u v ∙ s v l)
        ∙ leaf_extends u w w' (slot_of w f v) e (slot_leaf u w f v l h))
    go v false q = refl

-- A copy is the same environment.
pub copy_made : (w : List ℕ) (u f : ℕ) → numbers_per_unit * suc u ≤ length w → FrameAt u w f
    → FrameMade (copy_frame variable_names w u f 0) u (environment_at w f)
copy_made w u f b h =
    made_held w (copy_frame variable_names w u f 0) u f
    (extends_22 u w (copy_frame variable_names w u f 0) (copy_grow u f 8 w 0 0 (omega arith)).extends) h
    (λ v l. copy_at u f 8 w 0 v b h (omega arith) (omega arith) (omega arith))

-- What a word stands for needs no field from 23 on.
leaf_put : (w : List ℕ) (u f a x : ℕ) → 23 ≤ f → f < numbers_per_unit → leaf_of (put_field w u f a) x ≡ leaf_of w x
unfolding leaf_of
leaf_put w u f a x h k = rw (field_other w u f (name_of x) fields.constant_level a k (omega arith) (λ q. omega arith))

-- One name changed.
pub slot_made : (w : List ℕ) (u v a : ℕ) (e : Environment Leaf) (l : Leaf) → numbers_per_unit * suc u ≤ length w → v < variable_names
    → LeafAt (suc u) a → leaf_of w a ≡ l → FrameMade w u e
    → FrameMade (put_field w u (fields.frame + v) a) u (update e v (leaf l))
unfolding FrameAt environment_at update
slot_made w u v a e l b h la ea m = record {
  frame = (omega arith, λ i k. slot i k (eqb i v) refl);
  environment = fun_ext (λ i. go i (ltb i 8) refl (eqb i v) refl (λ x. ap (λ (z : Environment Leaf). z i) m.environment));
}
  where
    w' : List ℕ
    w' = put_field w u (fields.frame + v) a

    same : field w' u (fields.frame + v) ≡ a
    same = field_same w u (fields.frame + v) a (omega arith)

    other : (i : ℕ) → i < variable_names → (i ≡ v → ⊥) → field w' u (fields.frame + i) ≡ field w u (fields.frame + i)
    other i k d = field_other w u (fields.frame + v) u (fields.frame + i) a (omega arith) (omega arith) (λ q. d (omega arith))

    leaves : (x : ℕ) → leaf_of w' x ≡ leaf_of w x
    leaves x = leaf_put w u (fields.frame + v) a x (omega arith) (omega arith)

    slot : (i : ℕ) → i < variable_names → (c : Bool) → eqb i v ≡ c → LeafAt (suc u) (field w' u (fields.frame + i))
    slot i k true q = rw (eqb-true i v q, same) la
    slot i k false q = rw (other i k (eqb-false i v q)) (m.frame.1 i k)

    go : (i : ℕ) (p : Bool) → ltb i 8 ≡ p → (c : Bool) → eqb i v ≡ c
        → ((x : Unit {0}) → cond (ltb i 8) (leaf (leaf_of w (slot_of w (suc u) i))) (app (sheet_symbol 0) nil) ≡ e i)
        → cond p (leaf (leaf_of w' (slot_of w' (suc u) i))) (app (sheet_symbol 0) nil) ≡ cond c (leaf l) (e i)
    go i true p true q k =
        ap leaf (leaves (slot_of w' (suc u) i)
        ∙ ap (leaf_of w) (made_slot w' u i ∙ ap (λ (j : ℕ). field w' u (fields.frame + j)) (eqb-true i v q) ∙ same) ∙ ea)
    go i true p false q k =
        let o = other i (ltb-true i 8 p) (eqb-false i v q) in
        ap leaf (leaves (slot_of w' (suc u) i) ∙ ap (leaf_of w) (made_slot w' u i ∙ o ∙ sym (made_slot w u i)))
        ∙ subst (λ (z : Bool). cond z (leaf (leaf_of w (slot_of w (suc u) i))) (app (sheet_symbol 0) nil) ≡ e i) p (k tt)
    go i false p true q k = absurd (let x = ltb-false i 8 p in let y = eqb-true i v q in omega arith)
    go i false p false q k = subst (λ (z : Bool). cond z (leaf (leaf_of w (slot_of w (suc u) i))) (app (sheet_symbol 0) nil) ≡ e i) p (k tt)

-- A frame that was made stays where frames stay.
pub made_same : (w w' : List ℕ) (u : ℕ) (e : Environment Leaf) → SameFrames w w' → FrameMade w u e → FrameMade w' u e
made_same w w' u e h m =
    record { frame = frame_same (suc u) w w' (suc u) h m.frame; environment = environment_same w w' (suc u) h ∙ m.environment }

-- Fresh variables

-- Making a variable leaves frames.
same_variable : (w : List ℕ) (x i : ℕ) → SameFrames w (put_variable w x i)
unfolding put_variable
same_variable w x i r f h k =
    field_level (put_cell w x 0) x i r f (omega arith) (omega arith) ∙ field_cell w x 0 r f (omega arith) (omega arith)

-- Making a variable leaves older records and variables.
grow_variable : (n k : ℕ) (w : List ℕ) (x i : ℕ) → k ≤ x → Grow n k w (put_variable w x i)
unfolding put_variable
grow_variable n k w x i h =
    grow_trans n k w (put_cell w x 0) (put_level (put_cell w x 0) x i) (grow_cell n k w x 0 h) (grow_level n k (put_cell w x 0) x i h)

pub record FreshMade (T : Table) (w w' : List ℕ) (u : ℕ) (s s' : Store) (e : Environment Leaf) : Type 0 where
  pub store : StoreAt T u w' s'
  pub frame : FrameMade w' u e
  pub grow : Grow u s.next w w'

-- Fresh variables for the names: level 1's `fresh` and `assign`.
pub fresh_made : (n : ℕ) (T : Table) (w : List ℕ) (u vs i : ℕ) (s : Store) (e : Environment Leaf) → Formed s
    → numbers_per_unit * suc u ≤ length w → u < max_budget → s.next + n ≤ 9 * suc u → StoreAt T u w s → FrameMade w u e
    → FreshMade T w (put_fresh n w u vs s.next i) u s (fresh (names_of n vs) i s)
    (assign (names_of n vs) (fresh_variables (names_of n vs) s.next) e)
unfolding put_fresh names_of fresh fresh_levels past assign fresh_variables
fresh_made zero T w u vs i s e fm room small b st m = record { store = st; frame = m; grow = grow_refl u s.next w }
fresh_made (suc n) T w u vs i s e fm room small b st m =
    let x = s.next in
    let v = vs % 8 in
    let s₁ = fresh (v ∷ []) i s in
    let w₁ = put_variable w x i in
    let w₂ = put_field w₁ u (fields.frame + v) (variable_word x) in
    let g₁ = grow_variable u x w x i (omega arith) in
    let l₁ = g₁.extends.len in
    let z : variable_word x ≡ 4 * x + 1 = variable_small x (omega arith) in
    let st₁ : StoreAt T u w₁ s₁ = store_fresh T u w s v i (there u x w room (omega arith))
    (unbound_binding s.bindings x fm.bound (unbound_beyond s.bindings x x (omega arith) fm.below)) st in
    let lv : v < 8 = omega arith in
    let st₂ : StoreAt T u w₂ s₁ = store_grow T u s₁.next w₁ w₂ s₁
    (grow_put u s₁.next w₁ u (fields.frame + v) (variable_word x) (omega arith) (omega arith) (omega arith)) (omega arith) st₁ in
    let m₂ : FrameMade w₂ u (update e v (leaf (var x))) =
    slot_made w₁ u v (variable_word x) e (var x) (omega arith) lv (variable_at x z) (ap (leaf_of w₁) z ∙ variable_leaf w₁ x)
    (made_same w w₁ u e (same_variable w x i) m) in
    let g₂ : Grow u x w w₂ =
    grow_trans u x w w₁ w₂ g₁ (grow_put u x w₁ u (fields.frame + v) (variable_word x) (omega arith) (omega arith) (omega arith)) in
    let l₂ = g₂.extends.len in
    let h = fresh_made n T w₂ u (vs / 8) i s₁ (update e v (leaf (var x))) (fresh_formed (v ∷ []) i s fm) (omega arith) small
    (omega arith) st₂ m₂ in
    rw (increment_small x (omega arith)) (record {
      store = h.store;
      frame = h.frame;
      grow =
          grow_trans u x w w₂ (put_fresh n w₂ u (vs / 8) (suc x) i) g₂
          (grow_less u x (suc x) w₂ (put_fresh n w₂ u (vs / 8) (suc x) i) (omega arith) h.grow);
    })
