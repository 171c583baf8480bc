-- The trail: undoing what was noted gives back all that was readable.
use Prim.Native.Nat.{ℕ, zero, suc, ◌+◌, ◌-◌, ◌*◌, ◌/◌, ◌%◌, ◌≤◌, ◌<◌}
use native.Mathlib.Omega.{arith}
use mathlib.Core.Bool.{Bool, true, false, cond}
use mathlib.Core.Path.{◌≡◌, refl, sym, ◌∙◌}
use mathlib.Core.List.{List, [], ◌∷◌}
use lib.Dec.{eqb}
use lib.ListN.{length, get_or}
use borrow.Author.Tests.{eqb-true, eqb-false, eq-eqb, ne_eqb}
use Rattle.terms.specs.Lists.{All}
use Rattle.sheet_format.specs.Limits.{numbers_per_unit}
use Rattle.machine.specs.Fields as fields
use Rattle.machine.specs.Records.{cell_of, level_of, put_cell, put_level, put_entry}
use Rattle.machine.specs.Words.{name_of}
use Rattle.machine.specs.Trail.{lower_to, bind_to, old_level, effect, undo_entry, undo}
use Rattle.machine.proofs.Records.{There, cell_same, level_same, level_cell, cell_other, cell_level, level_other}
use Rattle.machine.proofs.MemoryOrder.{Extends, Grow, extends_refl, extends_trans, extends_low, extends_22, extends_cell}
use Rattle.machine.proofs.MemoryOrder.{extends_level, extends_both, grow_puts}
use Rattle.memory.proofs.Records.{field_agree, puts, puts_at}
use Rattle.memory.specs.Records.{field, put_field}

-- The writes by a variable's word: what they leave as it was.
pub extends_lower_to : (n : ℕ) (w : List ℕ) (a k : ℕ) → Extends fields.entry_lowered n w (lower_to w a k)
unfolding lower_to
extends_lower_to n w a k = go (eqb a 0)
  where
    go : (b : Bool) → Extends fields.entry_lowered n w (cond b w (put_level w (name_of a) k))
    go true = extends_refl fields.entry_lowered n w
    go false = extends_level n w (name_of a) k

-- Binding leaves records.
pub extends_bind_to : (n : ℕ) (w : List ℕ) (a v : ℕ) → Extends fields.entry_lowered n w (bind_to w a v)
unfolding bind_to
extends_bind_to n w a v = go (eqb a 0)
  where
    go : (b : Bool) → Extends fields.entry_lowered n w (cond b w (put_cell w (name_of a) v))
    go true = extends_refl fields.entry_lowered n w
    go false = extends_cell n w (name_of a) v

-- Lowering leaves cells.
pub cell_lower_to : (w : List ℕ) (a k x : ℕ) → cell_of (lower_to w a k) x ≡ cell_of w x
unfolding lower_to
cell_lower_to w a k x = go (eqb a 0)
  where
    go : (b : Bool) → cell_of (cond b w (put_level w (name_of a) k)) x ≡ cell_of w x
    go true = refl
    go false = cell_level w (name_of a) k x

-- Binding leaves levels.
pub level_bind_to : (w : List ℕ) (a v x : ℕ) → level_of (bind_to w a v) x ≡ level_of w x
unfolding bind_to
level_bind_to w a v x = go (eqb a 0)
  where
    go : (b : Bool) → level_of (cond b w (put_cell w (name_of a) v)) x ≡ level_of w x
    go true = refl
    go false = level_cell w (name_of a) v x

-- The same write to two memories keeps their order.
grow_lower_to : (n k a i : ℕ) (w w' : List ℕ) → Grow n k w w' → Grow n k (lower_to w a i) (lower_to w' a i)
unfolding lower_to put_level level_of
grow_lower_to n k a i w w' g = go (eqb a 0)
  where
    x : ℕ
    x = name_of a

    go : (b : Bool) → Grow n k (cond b w (put_level w x i)) (cond b w' (put_level w' x i))
    go true = g
    go false = record {
      extends = extends_both n w w' (put_level w x i) (put_level w' x i) g.extends (extends_level n w x i) (extends_level n w' x i);
      cells = λ y h. cell_level w' x i y ∙ g.cells y h ∙ sym (cell_level w x i y);
      levels = λ y h. field_agree w w' (x / 9) (9 + x % 9) i (y / 9) (9 + y % 9) g.extends.len (g.levels y h);
    }

-- Binding.
grow_bind_to : (n k a v : ℕ) (w w' : List ℕ) → Grow n k w w' → Grow n k (bind_to w a v) (bind_to w' a v)
unfolding bind_to put_cell cell_of
grow_bind_to n k a v w w' g = go (eqb a 0)
  where
    x : ℕ
    x = name_of a

    go : (b : Bool) → Grow n k (cond b w (put_cell w x v)) (cond b w' (put_cell w' x v))
    go true = g
    go false = record {
      extends = extends_both n w w' (put_cell w x v) (put_cell w' x v) g.extends (extends_cell n w x v) (extends_cell n w' x v);
      cells = λ y h. field_agree w w' (x / 9) (x % 9) v (y / 9) (y % 9) g.extends.len (g.cells y h);
      levels = λ y h. level_cell w' x v y ∙ g.levels y h ∙ sym (level_cell w x v y);
    }

-- Undoing entries, latest first.
unfoldable pub undo_all : List ℕ → List ℕ → List ℕ
undo_all [] w = w
undo_all (r ∷ rs) w = undo_all rs (undo_entry w r)

-- Undoing one entry leaves records.
extends_undo_entry : (n : ℕ) (w : List ℕ) (r : ℕ) → Extends fields.entry_lowered n w (undo_entry w r)
unfolding undo_entry
extends_undo_entry n w r =
    extends_trans fields.entry_lowered n w (bind_to w (field w r fields.entry_bound) 0) (undo_entry w r)
    (extends_bind_to n w (field w r fields.entry_bound) 0)
    (extends_lower_to n (bind_to w (field w r fields.entry_bound) 0) (field w r fields.entry_lowered) (field w r fields.entry_level))

-- Undoing all entries leaves records.
pub extends_undo_all : (n : ℕ) (rs : List ℕ) (w : List ℕ) → Extends fields.entry_lowered n w (undo_all rs w)
unfolding undo_all
extends_undo_all n [] w = extends_refl fields.entry_lowered n w
extends_undo_all n (r ∷ rs) w =
    extends_trans fields.entry_lowered n w (undo_entry w r) (undo_all rs (undo_entry w r)) (extends_undo_entry n w r)
    (extends_undo_all n rs (undo_entry w r))

-- One entry keeps the order of two memories.
grow_undo_entry : (n k r : ℕ) (w w' : List ℕ) → r < n → Grow n k w w' → Grow n k (undo_entry w r) (undo_entry w' r)
unfolding undo_entry
grow_undo_entry n k r w w' l g =
    let h = g.extends in
    rw (
      h.old r fields.entry_lowered l (omega arith) (omega arith),
      h.old r fields.entry_level l (omega arith) (omega arith),
      h.old r fields.entry_bound l (omega arith) (omega arith),
    )
    (grow_lower_to n k (field w r fields.entry_lowered) (field w r fields.entry_level) (bind_to w (field w r fields.entry_bound) 0)
    (bind_to w' (field w r fields.entry_bound) 0) (grow_bind_to n k (field w r fields.entry_bound) 0 w w' g))

-- Undoing entries of records that two memories share keeps the memories' order.
pub grow_undo_all : (n k : ℕ) (rs : List ℕ) (w w' : List ℕ) → All (λ r. r < n) rs → Grow n k w w' → Grow n k (undo_all rs w) (undo_all rs w')
unfolding undo_all
grow_undo_all n k [] w w' l g = g
grow_undo_all n k (r ∷ rs) w w' l g = grow_undo_all n k rs (undo_entry w r) (undo_entry w' r) l.1 (grow_undo_entry n k r w w' l.0 g)

-- An entry

-- Its fields are written in a row.
entry_is : (w : List ℕ) (u z k y h : ℕ) → put_entry w u z k y h ≡ puts (z ∷ k ∷ y ∷ h ∷ []) w u fields.entry_lowered
unfolding put_entry puts
entry_is w u z k y h = refl

-- It leaves older records.
pub grow_entry : (n k : ℕ) (w : List ℕ) (u z i y h : ℕ) → n ≤ u → Grow n k w (put_entry w u z i y h)
grow_entry n k w u z i y h l =
    rw (entry_is w u z i y h) (grow_puts (z ∷ i ∷ y ∷ h ∷ []) w n k u fields.entry_lowered l (omega arith) (omega arith))

-- A trail entry has its four fields.
entry_at : (w : List ℕ) (u z k y h i : ℕ) → numbers_per_unit * u + 63 < length w → i < 4
    → field (put_entry w u z k y h) u (fields.entry_lowered + i) ≡ get_or (z ∷ k ∷ y ∷ h ∷ []) i 0
entry_at w u z k y h i l b = rw (entry_is w u z k y h) (puts_at (z ∷ k ∷ y ∷ h ∷ []) w u fields.entry_lowered i (omega arith) l b)

-- A trail entry leaves all that is read back as data, in its own record too.
extends_entry : (n : ℕ) (w : List ℕ) (u z k y h : ℕ) → Extends fields.constant_level n w (put_entry w u z k y h)
unfolding put_entry
extends_entry n w u z k y h =
    let a = put_field w u fields.entry_lowered z in
    let b = put_field a u fields.entry_level k in
    let c = put_field b u fields.entry_bound y in
    let d = put_field c u fields.entry_before h in
    extends_trans fields.constant_level n w a d (extends_low fields.constant_level n w u fields.entry_lowered z (omega arith) (omega arith))
    (extends_trans fields.constant_level n a b d (extends_low fields.constant_level n a u fields.entry_level k (omega arith) (omega arith))
    (extends_trans fields.constant_level n b c d (extends_low fields.constant_level n b u fields.entry_bound y (omega arith) (omega arith))
    (extends_low fields.constant_level n c u fields.entry_before h (omega arith) (omega arith))))

-- The word of a variable whose cell is in memory, or 0; one that is unbound besides.
abbrev pub LowerAt : ℕ → List ℕ → Type 0
LowerAt a w = eqb a 0 ≡ false → There (name_of a) w

-- The same, and the variable is unbound.
abbrev pub FreeAt : ℕ → List ℕ → Type 0
FreeAt a w = eqb a 0 ≡ false → (cell_of w (name_of a) ≡ 0) × There (name_of a) w

-- Unbinding gives back the cells.
cell_back : (y a x : ℕ) (w v : List ℕ) → FreeAt y w → length v ≡ length w → ((x : ℕ) → cell_of v x ≡ cell_of (bind_to w y a) x)
    → cell_of (bind_to v y 0) x ≡ cell_of w x
unfolding bind_to
cell_back y a x w v f e h = go (eqb y 0) f h (eqb x (name_of y)) refl
  where
    z : ℕ
    z = name_of y

    go : (b : Bool) → (b ≡ false → (cell_of w z ≡ 0) × There z w) → ((x : ℕ) → cell_of v x ≡ cell_of (cond b w (put_cell w z a)) x)
        → (c : Bool) → eqb x z ≡ c
        → cell_of (cond b v (put_cell v z 0)) x ≡ cell_of w x
    go true f h c q = h x
    go false f h true q = let l = (f refl).1 in rw (eqb-true x z q, cell_same v z 0 (omega arith)) (sym (f refl).0)
    go false f h false q = let n = eqb-false x z q in cell_other v z 0 x n ∙ h x ∙ cell_other w z a x n

-- Writing the old level gives back the levels.
level_back : (z i x : ℕ) (w v : List ℕ) → LowerAt z w → length v ≡ length w → ((x : ℕ) → level_of v x ≡ level_of (lower_to w z i) x)
    → level_of (lower_to v z (old_level w z)) x ≡ level_of w x
unfolding lower_to old_level
level_back z i x w v f e h = go (eqb z 0) f h (eqb x (name_of z)) refl
  where
    y : ℕ
    y = name_of z

    go : (b : Bool) → (b ≡ false → There y w) → ((x : ℕ) → level_of v x ≡ level_of (cond b w (put_level w y i)) x) → (c : Bool) → eqb x y ≡ c
        → level_of (cond b v (put_level v y (cond b 0 (level_of w y)))) x ≡ level_of w x
    go true f h c q = h x
    go false f h true q = let l = f refl in rw (eqb-true x y q) (level_same v y (level_of w y) (omega arith))
    go false f h false q = let n = eqb-false x y q in level_other v y (level_of w y) x n ∙ h x ∙ level_other w y i x n

-- An act that lowers and binds

-- Older records stay.
pub extends_effect : (n : ℕ) (w : List ℕ) (u z i y a h : ℕ) → n ≤ u → Extends fields.entry_lowered n w (effect w u z i y a h)
unfolding effect
extends_effect n w u z i y a h l =
    let w₁ = lower_to w z i in
    let w₂ = bind_to w₁ y a in
    extends_trans fields.entry_lowered n w w₁ (effect w u z i y a h) (extends_lower_to n w z i)
    (extends_trans fields.entry_lowered n w₁ w₂ (effect w u z i y a h) (extends_bind_to n w₁ y a)
    (grow_entry n 0 w₂ u z (old_level w z) y h l).extends)

-- An act that lowers and binds leaves what is read back as data in every record.
pub extends_effect_22 : (n : ℕ) (w : List ℕ) (u z i y a h : ℕ) → Extends fields.constant_level n w (effect w u z i y a h)
unfolding effect
extends_effect_22 n w u z i y a h =
    let w₁ = lower_to w z i in
    let w₂ = bind_to w₁ y a in
    extends_trans fields.constant_level n w w₁ (effect w u z i y a h) (extends_22 n w w₁ (extends_lower_to n w z i))
    (extends_trans fields.constant_level n w₁ w₂ (effect w u z i y a h) (extends_22 n w₁ w₂ (extends_bind_to n w₁ y a))
    (extends_entry n w₂ u z (old_level w z) y h))

-- The entry of an act that lowers and binds points to the entry before it.
pub effect_before : (w : List ℕ) (u z i y a h : ℕ) → numbers_per_unit * u + 63 < length w
    → field (effect w u z i y a h) u fields.entry_before ≡ h
unfolding effect
effect_before w u z i y a h l =
    let w₁ = lower_to w z i in
    let w₂ = bind_to w₁ y a in
    let l₁ = (extends_lower_to 0 w z i).len in
    let l₂ = (extends_bind_to 0 w₁ y a).len in
    entry_at w₂ u z (old_level w z) y h 3 (omega arith) (omega arith)

-- Undone, it leaves everything readable as it was.
pub undo_effect : (n j : ℕ) (w : List ℕ) (u z i y a h : ℕ) → n ≤ u → numbers_per_unit * u + 63 < length w → LowerAt z w → FreeAt y w
    → Grow n j w (undo_entry (effect w u z i y a h) u)
unfolding undo_entry effect
undo_effect n j w u z i y a h l len lz fy =
    let w₁ = lower_to w z i in
    let w₂ = bind_to w₁ y a in
    let k = old_level w z in
    let w₃ = put_entry w₂ u z k y h in
    let g₃ = grow_entry n j w₂ u z k y h l in
    let l₁ = (extends_lower_to n w z i).len in
    let l₂ = (extends_bind_to n w₁ y a).len in
    let l₃ = g₃.extends.len in
    let w₄ = bind_to w₃ y 0 in
    let l₄ = (extends_bind_to n w₃ y 0).len in
    let e : (i : ℕ) → i < 4 → field w₃ u (fields.entry_lowered + i) ≡ get_or (z ∷ k ∷ y ∷ h ∷ []) i 0 =
    λ i b. entry_at w₂ u z k y h i (omega arith) b in
    rw (e 0 (omega arith), e 1 (omega arith), e 2 (omega arith)) (record {
      extends = extends_trans fields.entry_lowered n w w₁ (lower_to w₄ z k) (extends_lower_to n w z i)
          (extends_trans fields.entry_lowered n w₁ w₂ (lower_to w₄ z k) (extends_bind_to n w₁ y a)
          (extends_trans fields.entry_lowered n w₂ w₃ (lower_to w₄ z k) g₃.extends
          (extends_trans fields.entry_lowered n w₃ w₄ (lower_to w₄ z k) (extends_bind_to n w₃ y 0) (extends_lower_to n w₄ z k))));
      cells = λ x b.
          cell_lower_to w₄ z k x
          ∙ cell_back y a x w₁ w₃ (λ q. (cell_lower_to w z i (name_of y) ∙ (fy q).0, let m = (fy q).1 in omega arith)) (omega arith)
          (λ x. (grow_entry n (suc x) w₂ u z k y h l).cells x (omega arith))
          ∙ cell_lower_to w z i x;
      levels = λ x b.
          level_back z i x w w₄ lz (omega arith) (λ x. level_bind_to w₃ y 0 x ∙ (grow_entry n (suc x) w₂ u z k y h l).levels x (omega arith)
          ∙ level_bind_to w₁ y a x);
    })

-- The loop

-- The trail from head h down to the mark, linked through field 21: newer entries in later records.
unfoldable pub Chain : List ℕ → List ℕ → ℕ → ℕ → Type 0
Chain [] w h mark = h ≡ mark
Chain (r ∷ rs) w h mark = (h ≡ suc r) × (mark ≤ r) × (field w r fields.entry_before ≤ r) × Chain rs w (field w r fields.entry_before) mark

-- It stays.
pub chain_extends : (n : ℕ) (rs : List ℕ) (w w' : List ℕ) (h mark : ℕ) → All (λ r. r < n) rs → Extends fields.entry_lowered n w w'
    → Chain rs w h mark → Chain rs w' h mark
unfolding Chain
chain_extends n [] w w' h mark l g c = c
chain_extends n (r ∷ rs) w w' h mark l g c =
    rw (g.old r fields.entry_before l.0 (omega arith) (omega arith))
    (c.0, c.1, c.2, chain_extends n rs w w' (field w r fields.entry_before) mark l.1 g c.3)

-- The mark is not above the head.
pub chain_le : (rs : List ℕ) (w : List ℕ) (h mark : ℕ) → Chain rs w h mark → mark ≤ h
unfolding Chain
chain_le [] w h mark k = omega arith
chain_le (r ∷ rs) w h mark k = let x = k.0 in let y = k.1 in omega arith

-- The machine's loop undoes that list.
pub undo_chain : (rs : List ℕ) (n f : ℕ) (w : List ℕ) (h mark : ℕ) → All (λ r. r < n) rs → h ≤ f → Chain rs w h mark
    → undo f w h mark ≡ undo_all rs w
unfolding undo undo_all Chain
undo_chain [] n zero w h mark a l c = refl
undo_chain [] n (suc f) w h mark a l c = rw (undo, eq-eqb h mark c)
undo_chain (r ∷ rs) n zero w h mark a l c = absurd (let e = c.0 in omega arith)
undo_chain (r ∷ rs) n (suc f) w h mark a l c =
    let e = c.0 in
    let q = c.1 in
    let b = c.2 in
    let p : h - 1 ≡ r = omega arith in
    rw (undo, ne_eqb h mark (λ z. omega arith), p)
    (undo_chain rs n f (undo_entry w r) (field w r fields.entry_before) mark a.1 (omega arith)
    (chain_extends n rs w (undo_entry w r) (field w r fields.entry_before) mark a.1 (extends_undo_entry n w r) c.3))
