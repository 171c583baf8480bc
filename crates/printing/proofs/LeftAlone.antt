-- What the writer leaves alone: everything but the free fields from `hi` on and the numbers in unbound variables' cells.
use Prim.Native.Nat.{ℕ, zero, suc, ◌+◌, ◌-◌, ◌*◌, ◌/◌, ◌%◌, ◌≤◌, ◌<◌}
use native.Mathlib.Omega.{arith}
use mathlib.Core.Path.{◌≡◌, refl, sym, ap, ◌∙◌}
use mathlib.Core.Bool.{Bool, true, false, cond}
use mathlib.Core.List.{List}
use lib.Dec.{eqb}
use lib.ListN.{length}
use borrow.Author.Tests.{eqb-true, eqb-false, eq-eqb}
use Rattle.sheet_format.specs.Limits.{numbers_per_unit, variable_names}
use Rattle.node_table.specs.Layout.{kind_of, label_of, variable_kind}
use Rattle.machine.specs.Fields as fields
use Rattle.machine.specs.Records.{cell_of, level_of, put_cell}
use Rattle.machine.specs.Words.{closure_word, tag_of, name_of, slot_of, word_of, variable_tag}
use Rattle.printing.specs.Bindings.{deref}
use Rattle.machine.proofs.Records.{There, cell_same, cell_put, level_put, field_cell, level_cell, cell_other}
use Rattle.memory.proofs.Records.{length_put, field_other}
use Rattle.memory.specs.Records.{field, put_field}

-- A variable of the first n records is in memory.
pub there_from : (n x : ℕ) (w : List ℕ) → numbers_per_unit * n ≤ length w → x < 9 * n → There x w
there_from n x w r h = let d : x / 9 < n = omega arith in omega arith

-- Two memories that read alike.
pub record Alike (hi : ℕ) (w w' : List ℕ) : Type 0 where
  pub long : length w' ≡ length w
  pub fields : (u f : ℕ) → fields.entry_lowered ≤ f → f < hi → field w' u f ≡ field w u f
  pub levels : (x : ℕ) → level_of w' x ≡ level_of w x
  pub free : (x : ℕ) → tag_of (cell_of w x) ≡ 0 → tag_of (cell_of w' x) ≡ 0
  pub bound : (x : ℕ) → (tag_of (cell_of w x) ≡ 0 → ⊥) → cell_of w' x ≡ cell_of w x

-- A memory is like itself.
pub alike_refl : (hi : ℕ) (w : List ℕ) → Alike hi w w
alike_refl hi w = record { long = refl; fields = λ u f p q. refl; levels = λ x. refl; free = λ x e. e; bound = λ x n. refl }

-- Likeness of memories is transitive.
pub alike_trans : (hi : ℕ) (w w' w'' : List ℕ) → Alike hi w w' → Alike hi w' w'' → Alike hi w w''
alike_trans hi w w' w'' a b = record {
  long = b.long ∙ a.long;
  fields = λ u f p q. b.fields u f p q ∙ a.fields u f p q;
  levels = λ x. b.levels x ∙ a.levels x;
  free = λ x e. b.free x (a.free x e);
  bound = λ x n. b.bound x (λ e. n (ap tag_of (sym (a.bound x n)) ∙ e)) ∙ a.bound x n;
}

-- Likeness is likeness in fewer fields.
pub alike_fewer : (hi lo : ℕ) (w w' : List ℕ) → lo ≤ hi → Alike hi w w' → Alike lo w w'
alike_fewer hi lo w w' h a =
    record { long = a.long; fields = λ u f p q. a.fields u f p (omega arith); levels = a.levels; free = a.free; bound = a.bound }

-- A free field is written.
pub alike_put : (hi : ℕ) (w : List ℕ) (u f a : ℕ) → hi ≤ f → fields.entry_lowered ≤ f → f < numbers_per_unit → Alike hi w (put_field w u f a)
alike_put hi w u f a h l k = record {
  long = length_put w u f a;
  fields = λ v g p q. field_other w u f v g a k (omega arith) (λ e. omega arith);
  levels = λ x. level_put w x u f a l k;
  free = λ x e. ap tag_of (cell_put w x u f a l k) ∙ e;
  bound = λ x n. cell_put w x u f a l k;
}

-- An unbound variable gets a number.
pub alike_number : (hi : ℕ) (w : List ℕ) (x a : ℕ) → hi ≤ 64 → There x w → tag_of (cell_of w x) ≡ 0 → tag_of a ≡ 0 → Alike hi w (put_cell w x a)
unfolding put_cell
alike_number hi w x a h t e f = record {
  long = length_put w (x / 9) (x % 9) a;
  fields = λ u g p q. field_cell w x a u g p (omega arith);
  levels = λ y. level_cell w x a y;
  free = λ y k. go y (eqb y x) refl k;
  bound = λ y n. cell_other w x a y (λ q. n (ap (λ (z : ℕ). tag_of (cell_of w z)) q ∙ e));
}
  where
    go : (y : ℕ) (b : Bool) → eqb y x ≡ b → tag_of (cell_of w y) ≡ 0 → tag_of (cell_of (put_cell w x a) y) ≡ 0
    go y true q k = ap (λ (z : ℕ). tag_of (cell_of (put_cell w x a) z)) (eqb-true y x q) ∙ ap tag_of (cell_same w x a t) ∙ f
    go y false q k = ap tag_of (cell_other w x a y (eqb-false y x q)) ∙ k

-- Looking through gives the same word in a memory that is alike.
pub deref_alike : (hi n : ℕ) (w w' : List ℕ) (a : ℕ) → Alike hi w w' → deref n w' a ≡ deref n w a
unfolding deref
deref_alike hi zero w w' a h = refl
deref_alike hi (suc n) w w' a h = go (eqb (tag_of a) variable_tag) (λ b. deref_alike hi n w w' b h)
  where
    turn : List ℕ → ℕ → ℕ
    turn v c = elim (eqb (tag_of c) 0) [ true ↦ a | false ↦ deref n v c ]

    bound : (b : Bool) → eqb (tag_of (cell_of w (name_of a))) 0 ≡ b → ((b : ℕ) → deref n w' b ≡ deref n w b)
        → turn w' (cell_of w' (name_of a)) ≡ turn w (cell_of w (name_of a))
    bound true e f = rw (turn, e, eq-eqb (tag_of (cell_of w' (name_of a))) 0 (h.free (name_of a) (eqb-true (tag_of (cell_of w (name_of a))) 0 e)))
    bound false e f =
        ap (turn w') (h.bound (name_of a) (eqb-false (tag_of (cell_of w (name_of a))) 0 e)) ∙ rw (turn, e) (f (cell_of w (name_of a)))

    go : (b : Bool) → ((b : ℕ) → deref n w' b ≡ deref n w b)
        → ◌≡◌ {A = ℕ} (elim b [ true ↦ turn w' (cell_of w' (name_of a)) | false ↦ a ])
        (elim b [ true ↦ turn w (cell_of w (name_of a)) | false ↦ a ])
    go true f = bound (eqb (tag_of (cell_of w (name_of a))) 0) refl f
    go false f = refl

-- A slot is the same in a memory that is alike.
pub slot_alike : (hi : ℕ) (w w' : List ℕ) (f v : ℕ) → 31 ≤ hi → v < variable_names → Alike hi w w' → slot_of w' f v ≡ slot_of w f v
unfolding slot_of
slot_alike hi w w' f v h l a = rw (a.fields (f - 1) (fields.frame + v) (omega arith) (omega arith))

-- The word of a node is the same in a memory that is alike.
pub word_alike : (hi : ℕ) (t w w' : List ℕ) (n f : ℕ) → 31 ≤ hi → (kind_of t n ≡ variable_kind → label_of t n < variable_names)
    → Alike hi w w' → word_of t w' n f ≡ word_of t w n f
unfolding word_of
word_alike hi t w w' n f h l a = go (eqb (kind_of t n) variable_kind) refl
  where
    go : (b : Bool) → eqb (kind_of t n) variable_kind ≡ b
        → cond b (slot_of w' f (label_of t n)) (closure_word n f) ≡ cond b (slot_of w f (label_of t n)) (closure_word n f)
    go true e = slot_alike hi w w' f (label_of t n) h (l (eqb-true (kind_of t n) 0 e)) a
    go false e = refl
