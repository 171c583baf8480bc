-- The store in memory: cells and levels of the variables that have been made; each operation of level 1's store.
use Prim.Native.Nat.{ℕ, suc, ◌+◌, ◌*◌, ◌≤◌, ◌<◌, min}
use native.Mathlib.Omega.{arith}
use mathlib.Core.Bool.{Bool, true, false, cond}
use mathlib.Core.Path.{◌≡◌, refl, sym, ap, ◌∙◌}
use mathlib.Core.List.{List, [], ◌∷◌}
use mathlib.Core.Option.{Option, none, some}
use lib.Dec.{eqb}
use borrow.Author.Tests.{eqb-true, eqb-false, eq-eqb, ne_eqb}
use Rattle.terms.specs.Lists.{update}
use Rattle.terms.specs.Terms.{Term, leaf, Leaves}
use Rattle.unification.specs.Store.{binding, follow, Leaf, var, Store, lower, bind, fresh_levels, past, fresh, bound_to}
use Rattle.unification.specs.Promises.{Below}
use Rattle.sheet_format.specs.Limits.{max_nodes}
use Rattle.machine.specs.Fields as fields
use Rattle.machine.specs.Records.{cell_of, level_of, put_cell, put_level}
use Rattle.machine.specs.Words.{term_of, variable_tag, binding_of}
use Rattle.machine.specs.Frames.{put_variable}
use Rattle.machine.specs.Reading.{variable_of}
use Rattle.machine.proofs.Records.{There, cell_same, level_same, level_cell, cell_other, cell_level, level_other, length_cell}
use Rattle.machine.proofs.Words.{tag_of_lem, name_of_lem}
use Rattle.machine.proofs.MemoryOrder.{Extends, Grow, extends_22, extends_trans, extends_cell, extends_level}
use Rattle.machine.proofs.Tables.{Table}
use Rattle.machine.proofs.Terms.{WordAt, word_variable, word_constant, word_closure, word_extends, word_up, word_wider, word_term}
use Rattle.machine.proofs.Terms.{word_nonzero}
use Rattle.unification.proofs.Follow.{binding_none, binding_some}

module _ (T : Table) where
  -- A cell: 0 for an unbound variable, else the word of what it is bound to.
  unfoldable pub CellAt : ℕ → ℕ → List ℕ → ℕ → Option (Term Leaf) → Type 0
  CellAt n x w a none = a ≡ 0
  CellAt n x w a (some t) = WordAt T n x w a t

  pub record StoreAt (n : ℕ) (w : List ℕ) (s : Store) : Type 0 where
    pub cells : (x : ℕ) → x < s.next → CellAt n s.next w (cell_of w x) (binding s.bindings x)
    pub levels : (x : ℕ) → x < s.next → level_of w x ≡ s.level x

  -- It stays.
  cell_extends : (n x : ℕ) (w w' : List ℕ) (a : ℕ) (o : Option (Term Leaf)) → Extends fields.constant_level n w w' → CellAt n x w a o
      → CellAt n x w' a o
  unfolding CellAt
  cell_extends n x w w' a none e h = h
  cell_extends n x w w' a (some t) e h = word_extends T n x w w' e h

  -- An act later.
  cell_up : (n x : ℕ) (w : List ℕ) (a : ℕ) (o : Option (Term Leaf)) → CellAt n x w a o → CellAt (suc n) x w a o
  unfolding CellAt
  cell_up n x w a none h = h
  cell_up n x w a (some t) h = word_up T n x x w (omega arith) h

  -- A cell stays when more variables are made.
  cell_wider : (n x y : ℕ) (w : List ℕ) (a : ℕ) (o : Option (Term Leaf)) → x ≤ y → CellAt n x w a o → CellAt n y w a o
  unfolding CellAt
  cell_wider n x y w a none l h = h
  cell_wider n x y w a (some t) l h = word_wider T n x y w l h

  -- The store stays when memory grows.
  pub store_grow : (n k : ℕ) (w w' : List ℕ) (s : Store) → Grow n k w w' → s.next ≤ k → StoreAt n w s → StoreAt n w' s
  store_grow n k w w' s g l r = record {
    cells =
        λ x h. rw (g.cells x (omega arith))
        (cell_extends n s.next w w' (cell_of w x) (binding s.bindings x) (extends_22 n w w' g.extends) (r.cells x h));
    levels = λ x h. g.levels x (omega arith) ∙ r.levels x h;
  }

  -- The store stays one act later.
  pub store_up : (n : ℕ) (w : List ℕ) (s : Store) → StoreAt n w s → StoreAt (suc n) w s
  store_up n w s r =
      record { cells = λ x h. cell_up n s.next w (cell_of w x) (binding s.bindings x) (r.cells x h); levels = r.levels }

  -- Lowering a level in memory is level 1's `lower`.
  pub store_lower : (n : ℕ) (w : List ℕ) (s : Store) (z k : ℕ) → There z w → z < s.next → StoreAt n w s
      → StoreAt n (put_level w z (min (level_of w z) k)) (lower s z k)
  unfolding lower update
  store_lower n w s z k b l r = record {
    cells =
        λ x h. rw (cell_level w z j x) (cell_extends n s.next w (put_level w z j) (cell_of w x) (binding s.bindings x)
        (extends_22 n w (put_level w z j) (extends_level n w z j)) (r.cells x h));
    levels = λ x h. go x h (eqb x z) refl;
  }
    where
      j : ℕ
      j = min (level_of w z) k

      go : (x : ℕ) → x < s.next → (c : Bool) → eqb x z ≡ c → level_of (put_level w z j) x ≡ cond c (min (s.level z) k) (s.level x)
      go x h true q = rw (eqb-true x z q) (level_same w z j b ∙ ap (λ (i : ℕ). min i k) (r.levels z l))
      go x h false q = level_other w z j x (eqb-false x z q) ∙ r.levels x h

  -- Binding a variable in memory is level 1's `bind`.
  pub store_bind : (n : ℕ) (w : List ℕ) (s : Store) (y a : ℕ) (t : Term Leaf) → There y w → WordAt T n s.next w a t → StoreAt n w s
      → StoreAt n (put_cell w y a) (bind s y t)
  unfolding bind binding CellAt
  store_bind n w s y a t b g r = record { cells = λ x h. go x h (eqb x y) refl; levels = λ x h. level_cell w y a x ∙ r.levels x h }
    where
      e : Extends fields.constant_level n w (put_cell w y a)
      e = extends_22 n w (put_cell w y a) (extends_cell n w y a)

      go : (x : ℕ) → x < s.next → (c : Bool) → eqb x y ≡ c
          → CellAt n s.next (put_cell w y a) (cell_of (put_cell w y a) x) (cond c (some t) (binding s.bindings x))
      go x h true q = rw (eqb-true x y q, cell_same w y a b) (word_extends T n s.next w (put_cell w y a) e g)
      go x h false q =
          rw (cell_other w y a x (eqb-false x y q))
          (cell_extends n s.next w (put_cell w y a) (cell_of w x) (binding s.bindings x) e (r.cells x h))

  -- Making a variable in memory is level 1's `fresh`.
  pub store_fresh : (n : ℕ) (w : List ℕ) (s : Store) (v i : ℕ) → There s.next w → binding s.bindings s.next ≡ none → StoreAt n w s
      → StoreAt n (put_variable w s.next i) (fresh (v ∷ []) i s)
  unfolding put_variable fresh fresh_levels past update CellAt
  store_fresh n w s v i b u r = record { cells = λ x h. cells x h (eqb x y) refl; levels = λ x h. levels x h (eqb x y) refl }
    where
      y : ℕ
      y = s.next

      w₁ : List ℕ
      w₁ = put_cell w y 0

      w₂ : List ℕ
      w₂ = put_level w₁ y i

      e : Extends fields.constant_level n w w₂
      e = extends_22 n w w₂ (extends_trans fields.entry_lowered n w w₁ w₂ (extends_cell n w y 0) (extends_level n w₁ y i))

      cells : (x : ℕ) → x < suc y → (c : Bool) → eqb x y ≡ c → CellAt n (suc y) w₂ (cell_of w₂ x) (binding s.bindings x)
      cells x h true q = rw (eqb-true x y q, u) (cell_level w₁ y i y ∙ cell_same w y 0 b)
      cells x h false q =
          let d = eqb-false x y q in
          rw (cell_level w₁ y i x ∙ cell_other w y 0 x d)
          (cell_wider n y (suc y) w₂ (cell_of w x) (binding s.bindings x) (omega arith)
          (cell_extends n y w w₂ (cell_of w x) (binding s.bindings x) e (r.cells x (omega arith))))

      levels : (x : ℕ) → x < suc y → (c : Bool) → eqb x y ≡ c → level_of w₂ x ≡ cond c i (s.level x)
      levels x h true q = rw (eqb-true x y q) (level_same w₁ y i (let l = length_cell w y 0 in omega arith))
      levels x h false q = let d = eqb-false x y q in level_other w₁ y i x d ∙ level_cell w y 0 x ∙ r.levels x (omega arith)

  -- Following one binding in memory is level 1's `follow`.
  pub follow_word : (n : ℕ) (w : List ℕ) (s : Store) → StoreAt n w s → {a : ℕ} {t : Term Leaf} → WordAt T n s.next w a t
      → Leaves t (Below s.next) → CellAt n s.next w (binding_of w a) (follow s.bindings t)
  unfolding binding_of follow Leaves Below CellAt
  follow_word n w s r {a} (word_variable {y = x} q) b =
      rw (tag_of_lem a x variable_tag (omega arith) q, name_of_lem a x 1 (omega arith) q) (r.cells x b)
  follow_word n w s r {a} (word_constant {c = c} q l e) b = rw (tag_of_lem a c 2 (omega arith) q) refl
  follow_word n w s r {a} (word_closure m d q l k e i) b = rw (tag_of_lem a (max_nodes * d + m) 3 (omega arith) q) refl

  -- The store is read back.
  pub store_bindings : (n : ℕ) (w : List ℕ) (s : Store) → StoreAt n w s → (x : ℕ) → x < s.next
      → variable_of T.numbers w x ≡ bound_to s.bindings x
  unfolding variable_of CellAt
  store_bindings n w s r x h = go (binding s.bindings x) refl (r.cells x h)
    where
      go : (c : Option (Term Leaf)) → binding s.bindings x ≡ c → CellAt n s.next w (cell_of w x) c
          → cond (eqb (cell_of w x) 0) (leaf (var x)) (term_of T.numbers w (cell_of w x)) ≡ bound_to s.bindings x
      go none e g = rw (eq-eqb (cell_of w x) 0 g) (sym (binding_none s.bindings x e))
      go (some t) e g = rw (ne_eqb (cell_of w x) 0 (word_nonzero T g)) (word_term T n s.next w g ∙ sym (binding_some s.bindings x t e))
