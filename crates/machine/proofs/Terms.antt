-- Frames and words in memory: the environments and terms that they stand for, and that these stay.
use Prim.Native.Nat.{ℕ, zero, suc, ◌+◌, ◌-◌, ◌*◌, ◌≤◌, ◌<◌}
use native.Mathlib.Omega.{arith}
use mathlib.Core.Bool.{Bool, true, false, cond}
use mathlib.Core.Path.{◌≡◌, refl, sym, ap, ap₂, ◌∙◌, fun_ext, subst}
use mathlib.Core.List.{List}
use lib.Dec.{ltb, eqb}
use borrow.Author.Tests.{ltb-true, lt-ltb, eqb-true, eqb-false, ne_eqb}
use Rattle.terms.specs.Terms.{Functor, sheet_symbol, Term, leaf, app, nil, Terms, substitute, substitutes}
use Rattle.unification.specs.Store.{Leaf, var, con}
use Rattle.unification.proofs.Stores.{below_more}
use Rattle.search.proofs.Invariant.{EnvironmentBelow}
use Rattle.sheet_format.specs.Limits.{max_budget, max_nodes, variable_names}
use Rattle.node_table.specs.Layout.{kind_of, label_of, variable_kind}
use Rattle.node_table.specs.Decoding.{functor_of, term_at, arguments_at}
use Rattle.machine.specs.Fields as fields
use Rattle.machine.specs.Words.{closure_word, slot_of, word_of, leaf_of, environment_at, term_of, tag_of}
use Rattle.machine.proofs.Words.{variable_small, closure_small, tag_is, name_is_lem, node_is, frame_is, zero_tag}
use Rattle.machine.proofs.MemoryOrder.{Extends}
use Rattle.machine.proofs.Tables.{Table, TermOf, ApplicationOf, node_small, name_small, not_variable, variable_is, application_is}
use Rattle.memory.specs.Records.{field}

-- The word of a leaf, of constants made before act n.
pub data LeafAt (n a : ℕ) : Type 0 where
  variable_at : (x : ℕ) → a ≡ 4 * x + 1 → LeafAt n a
  constant_at : (c : ℕ) → a ≡ 4 * c + 2 → c < n → LeafAt n a

-- A frame: 0, or made before act n and all its slots leaves.
unfoldable pub FrameAt : ℕ → List ℕ → ℕ → Type 0
FrameAt n w zero = Unit {0}
FrameAt n w (suc r) = (r < n) × ((v : ℕ) → v < variable_names → LeafAt n (field w r (fields.frame + v)))

-- A leaf's word stays one act later.
pub leaf_up : (n a : ℕ) → LeafAt n a → LeafAt (suc n) a
leaf_up n a (variable_at x e) = variable_at x e
leaf_up n a (constant_at c e h) = constant_at c e (omega arith)

-- A frame stays one act later.
pub frame_up : (n : ℕ) (w : List ℕ) (f : ℕ) → FrameAt n w f → FrameAt (suc n) w f
unfolding FrameAt
frame_up n w zero h = tt
frame_up n w (suc r) h = (let l = h.0 in omega arith, λ v l. leaf_up n (field w r (fields.frame + v)) (h.1 v l))

-- Frames were made before.
pub frame_le : (n : ℕ) (w : List ℕ) (f : ℕ) → FrameAt n w f → f ≤ n
unfolding FrameAt
frame_le n w zero h = omega arith
frame_le n w (suc r) h = let l = h.0 in omega arith

-- A frame stays.
pub frame_extends : (n : ℕ) (w w' : List ℕ) (f : ℕ) → Extends fields.constant_level n w w' → FrameAt n w f → FrameAt n w' f
unfolding FrameAt
frame_extends n w w' zero e h = tt
frame_extends n w w' (suc r) e h = (h.0, λ v l. rw (e.old r (fields.frame + v) h.0 (omega arith) (omega arith)) (h.1 v l))

-- The slots of a frame are words of leaves.
pub slot_leaf : (n : ℕ) (w : List ℕ) (f v : ℕ) → v < variable_names → FrameAt n w f → LeafAt n (slot_of w f v)
unfolding FrameAt slot_of
slot_leaf n w zero v l h = variable_at v (variable_small v (omega arith))
slot_leaf n w (suc r) v l h =
    let e : suc r - 1 ≡ r = omega arith in
    rw (ne_eqb (suc r) 0 (λ q. omega arith), e) (h.1 v l)

-- They stay.
pub slot_extends : (n : ℕ) (w w' : List ℕ) (f v : ℕ) → v < variable_names → Extends fields.constant_level n w w' → FrameAt n w f
    → slot_of w' f v ≡ slot_of w f v
unfolding FrameAt slot_of
slot_extends n w w' zero v l e h = refl
slot_extends n w w' (suc r) v l e h =
    let p : suc r - 1 ≡ r = omega arith in
    rw (ne_eqb (suc r) 0 (λ q. omega arith), p) (e.old r (fields.frame + v) h.0 (omega arith) (omega arith))

-- A variable's word stands for the variable.
pub variable_leaf : (w : List ℕ) (x : ℕ) → leaf_of w (4 * x + 1) ≡ var x
unfolding leaf_of
variable_leaf w x = rw (tag_is x 1 (omega arith), name_is_lem x 1 (omega arith))

-- A constant's word stands for the constant, with the level in its record.
pub constant_leaf : (w : List ℕ) (c : ℕ) → leaf_of w (4 * c + 2) ≡ con c (field w c fields.constant_level)
unfolding leaf_of
constant_leaf w c = rw (tag_is c 2 (omega arith), name_is_lem c 2 (omega arith))

-- It stays.
pub leaf_extends : (n : ℕ) (w w' : List ℕ) (a : ℕ) → Extends fields.constant_level n w w' → LeafAt n a → leaf_of w' a ≡ leaf_of w a
leaf_extends n w w' a e (variable_at x q) = rw (q, variable_leaf w' x, variable_leaf w x)
leaf_extends n w w' a e (constant_at c q h) =
    rw (q, constant_leaf w' c, constant_leaf w c, e.old c fields.constant_level h (omega arith) (omega arith))

-- An environment stays in an extended memory.
pub environment_extends : (n : ℕ) (w w' : List ℕ) (f : ℕ) → Extends fields.constant_level n w w' → FrameAt n w f
    → environment_at w' f ≡ environment_at w f
unfolding environment_at
environment_extends n w w' f e h = fun_ext (λ v. go v (ltb v 8) refl)
  where
    go : (v : ℕ) (b : Bool) → ltb v 8 ≡ b
        → cond b (leaf (leaf_of w' (slot_of w' f v))) (app (sheet_symbol 0) nil) ≡ cond b (leaf (leaf_of w (slot_of w f v))) (app (sheet_symbol 0) nil)
    go v true q =
        let l = ltb-true v 8 q in
        ap leaf (ap (leaf_of w') (slot_extends n w w' f v l e h) ∙ leaf_extends n w w' (slot_of w f v) e (slot_leaf n w f v l h))
    go v false q = refl

-- What a name stands for.
pub environment_name : (w : List ℕ) (f v : ℕ) → v < variable_names → environment_at w f v ≡ leaf (leaf_of w (slot_of w f v))
unfolding environment_at
environment_name w f v l = rw (lt-ltb v 8 l)

-- A frame whose names stand for constants and for variables below x.
pub record FrameIn (n x : ℕ) (w : List ℕ) (f : ℕ) : Type 0 where
  pub frame : FrameAt n w f
  pub below : EnvironmentBelow x (environment_at w f)

-- A frame with variables below x stays in an extended memory.
pub framed_extends : (n x : ℕ) (w w' : List ℕ) (f : ℕ) → Extends fields.constant_level n w w' → FrameIn n x w f → FrameIn n x w' f
framed_extends n x w w' f e h =
    record {
      frame = frame_extends n w w' f e h.frame;
      below = subst (EnvironmentBelow x) (sym (environment_extends n w w' f e h.frame)) h.below;
    }

-- A frame with variables below x stays one act later, with a greater bound.
pub framed_up : (n x y : ℕ) (w : List ℕ) (f : ℕ) → x ≤ y → FrameIn n x w f → FrameIn (suc n) y w f
framed_up n x y w f l h = record { frame = frame_up n w f h.frame; below = λ v. below_more (environment_at w f v) x y l (h.below v) }

-- A frame with variables below x stays when more variables are made.
pub framed_wider : (n x y : ℕ) (w : List ℕ) (f : ℕ) → x ≤ y → FrameIn n x w f → FrameIn n y w f
framed_wider n x y w f l h = record { frame = h.frame; below = λ v. below_more (environment_at w f v) x y l (h.below v) }

module _ (T : Table) where
  -- The word of a term; frames hold variables below x.
  pub data WordAt (n x : ℕ) (w : List ℕ) : ℕ → Term Leaf → Type 0 where
    word_variable : {a y : ℕ} → a ≡ 4 * y + 1 → WordAt n x w a (leaf (var y))
    word_constant : {a c k : ℕ} → a ≡ 4 * c + 2 → c < n → field w c fields.constant_level ≡ k → WordAt n x w a (leaf (con c k))
    word_closure : {a : ℕ} {g : Functor} {ts : Terms Leaf} (m f : ℕ) → a ≡ 4 * (max_nodes * f + m) + 3 → ApplicationOf T m → FrameIn n x w f
        → functor_of (label_of T.numbers m) ≡ g
        → substitutes (arguments_at T.numbers m) (environment_at w f) ≡ ts → WordAt n x w a (app g ts)

  -- A term's word stays in an extended memory.
  pub word_extends : (n x : ℕ) (w w' : List ℕ) {a : ℕ} {s : Term Leaf} → Extends fields.constant_level n w w' → WordAt n x w a s
      → WordAt n x w' a s
  word_extends n x w w' e (word_variable q) = word_variable q
  word_extends n x w w' e (word_constant {c = c} q h k) =
      word_constant q h (e.old c fields.constant_level h (omega arith) (omega arith) ∙ k)
  word_extends n x w w' e (word_closure m f q b h l k) =
      word_closure m f q b (framed_extends n x w w' f e h) l
      (ap (substitutes (arguments_at T.numbers m)) (environment_extends n w w' f e h.frame) ∙ k)

  -- A term's word stays one act later.
  pub word_up : (n x y : ℕ) (w : List ℕ) {a : ℕ} {s : Term Leaf} → x ≤ y → WordAt n x w a s → WordAt (suc n) y w a s
  word_up n x y w b (word_variable q) = word_variable q
  word_up n x y w b (word_constant {c = c} q h k) = word_constant q (omega arith) k
  word_up n x y w b (word_closure m f q a h l k) = word_closure m f q a (framed_up n x y w f b h) l k

  -- When more variables are made.
  pub word_wider : (n x y : ℕ) (w : List ℕ) {a : ℕ} {s : Term Leaf} → x ≤ y → WordAt n x w a s → WordAt n y w a s
  word_wider n x y w b (word_variable q) = word_variable q
  word_wider n x y w b (word_constant q h k) = word_constant q h k
  word_wider n x y w b (word_closure m f q a h l k) = word_closure m f q a (framed_wider n x y w f b h) l k

  -- A leaf's word.
  pub leaf_word : (n x : ℕ) (w : List ℕ) (a : ℕ) → LeafAt n a → WordAt n x w a (leaf (leaf_of w a))
  leaf_word n x w a (variable_at y e) =
      subst (λ (l : Leaf). WordAt n x w a (leaf l)) (sym (ap (leaf_of w) e ∙ variable_leaf w y)) (word_variable {y = y} e)
  leaf_word n x w a (constant_at c e h) =
      subst (λ (l : Leaf). WordAt n x w a (leaf l)) (sym (ap (leaf_of w) e ∙ constant_leaf w c)) (word_constant {c = c} e h refl)

  -- The word of a term's node in a frame.
  pub node_word : (n x : ℕ) (w : List ℕ) (m f : ℕ) → n ≤ max_budget → TermOf T m → FrameIn n x w f
      → WordAt n x w (word_of T.numbers w m f) (substitute (term_at T.numbers m) (environment_at w f))
  unfolding word_of substitute
  node_word n x w m f b h k = go (eqb (kind_of T.numbers m) variable_kind) refl
    where
      t : List ℕ
      t = T.numbers

      go : (q : Bool) → eqb (kind_of t m) variable_kind ≡ q
          → WordAt n x w (cond q (slot_of w f (label_of t m)) (closure_word m f)) (substitute (term_at t m) (environment_at w f))
      go true e =
          let z = eqb-true (kind_of t m) 0 e in
          let l = name_small T m h z in
          rw (variable_is T m h z, environment_name w f (label_of t m) l)
          (leaf_word n x w (slot_of w f (label_of t m)) (slot_leaf n w f (label_of t m) l k.frame))
      go false e =
          let z = not_variable T m h (eqb-false (kind_of t m) 0 e) in
          let l = frame_le n w f k.frame in
          let y : ApplicationOf T m = (h.0, h.1, z) in
          rw (application_is T m y) (word_closure m f (closure_small m f (node_small T m h.0) (omega arith)) y k refl refl)

  -- It is read back as the term.
  pub word_term : (n x : ℕ) (w : List ℕ) {a : ℕ} {s : Term Leaf} → WordAt n x w a s → term_of T.numbers w a ≡ s
  unfolding term_of substitute
  word_term n x w (word_variable {y = y} q) = rw (q, tag_is y 1 (omega arith)) (ap leaf (variable_leaf w y))
  word_term n x w (word_constant {c = c} q h k) = rw (q, tag_is c 2 (omega arith)) (ap leaf (constant_leaf w c ∙ ap (con c) k))
  word_term n x w (word_closure m f q b h l k) =
      rw (
        q,
        tag_is (max_nodes * f + m) 3 (omega arith),
        node_is m f (node_small T m b.0),
        frame_is m f (node_small T m b.0),
        application_is T m b,
      ) (ap₂ app l k)

  -- No word has tag 0.
  pub word_tag : {n x : ℕ} {w : List ℕ} {a : ℕ} {t : Term Leaf} → WordAt n x w a t → tag_of a ≡ 0 → ⊥
  unfolding tag_of
  word_tag (word_variable q) e = omega arith
  word_tag (word_constant q l k) e = omega arith
  word_tag (word_closure m f q l k i j) e = omega arith

  -- No word is 0.
  pub word_nonzero : {n x : ℕ} {w : List ℕ} {a : ℕ} {t : Term Leaf} → WordAt n x w a t → a ≡ 0 → ⊥
  word_nonzero g e = word_tag g (ap tag_of e ∙ zero_tag)
