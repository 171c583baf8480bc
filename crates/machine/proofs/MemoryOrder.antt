-- Orders on memories. Every act leaves the records of older acts as they are, but for the cells and levels of variables.
use Prim.Native.Nat.{ℕ, suc, ◌+◌, ◌≤◌, ◌<◌}
use native.Mathlib.Omega.{arith}
use mathlib.Core.Path.{◌≡◌, refl, sym, ◌∙◌}
use mathlib.Core.List.{List, [], ◌∷◌}
use lib.ListN.{length}
use Rattle.sheet_format.specs.Limits.{numbers_per_unit}
use Rattle.machine.specs.Fields as fields
use Rattle.machine.specs.Records.{cell_of, level_of, put_cell, put_level}
use Rattle.machine.proofs.Records.{length_cell, length_level, cell_put, level_put, field_cell, level_cell, cell_other, field_level}
use Rattle.machine.proofs.Records.{cell_level, level_other}
use Rattle.memory.proofs.Records.{length_put, record_other, field_other, puts}
use Rattle.memory.specs.Records.{field, put_field}

-- In records below n the fields from lo on stay, but for the writer's. From 22 on: all that is read back as data; from 18 on: the
-- trail too.
pub record Extends (lo n : ℕ) (w w' : List ℕ) : Type 0 where
  pub len : length w' ≡ length w
  pub old : (u f : ℕ) → u < n → lo ≤ f → f < fields.writers → field w' u f ≡ field w u f

-- And the variables below k have their cells and levels.
pub record Grow (n k : ℕ) (w w' : List ℕ) : Type 0 where
  pub extends : Extends fields.entry_lowered n w w'
  pub cells : (x : ℕ) → x < k → cell_of w' x ≡ cell_of w x
  pub levels : (x : ℕ) → x < k → level_of w' x ≡ level_of w x

-- Nothing changed.
pub extends_refl : (lo n : ℕ) (w : List ℕ) → Extends lo n w w
extends_refl lo n w = record { len = refl; old = λ u f a b c. refl }

-- One change after the other.
pub extends_trans : (lo n : ℕ) (a b c : List ℕ) → Extends lo n a b → Extends lo n b c → Extends lo n a c
extends_trans lo n a b c p q = record { len = q.len ∙ p.len; old = λ u f x y z. q.old u f x y z ∙ p.old u f x y z }

-- What was changed is changed back.
pub extends_back : (n : ℕ) (a b : List ℕ) → Extends fields.constant_level n a b → Extends fields.constant_level n b a
extends_back n a b h = record { len = sym h.len; old = λ u f x y z. sym (h.old u f x y z) }

-- The trail may change as well.
pub extends_22 : (n : ℕ) (a b : List ℕ) → Extends fields.entry_lowered n a b → Extends fields.constant_level n a b
extends_22 n a b h = record { len = h.len; old = λ u f x y z. h.old u f x (omega arith) z }

-- A field of this act's record.
pub extends_put : (lo n : ℕ) (w : List ℕ) (u f a : ℕ) → n ≤ u → f < numbers_per_unit → Extends lo n w (put_field w u f a)
extends_put lo n w u f a h k = record { len = length_put w u f a; old = λ v g x y z. record_other w u f v g a k (omega arith) (λ e. omega arith) }

-- Writing a field below lo, of any record, extends the memory.
pub extends_low : (lo n : ℕ) (w : List ℕ) (u f a : ℕ) → f < lo → f < numbers_per_unit → Extends lo n w (put_field w u f a)
extends_low lo n w u f a h k = record { len = length_put w u f a; old = λ v g x y z. field_other w u f v g a k (omega arith) (λ e. omega arith) }

-- Writing a cell extends the memory.
pub extends_cell : (n : ℕ) (w : List ℕ) (x a : ℕ) → Extends fields.entry_lowered n w (put_cell w x a)
extends_cell n w x a = record { len = length_cell w x a; old = λ v g p q r. field_cell w x a v g q (omega arith) }

-- Writing a level extends the memory.
pub extends_level : (n : ℕ) (w : List ℕ) (x a : ℕ) → Extends fields.entry_lowered n w (put_level w x a)
extends_level n w x a = record { len = length_level w x a; old = λ v g p q r. field_level w x a v g q (omega arith) }

-- If b and c extend one memory, what extends b extends c.
pub extends_both : (n : ℕ) (a b c d : List ℕ) → Extends fields.entry_lowered n a b → Extends fields.entry_lowered n a c
    → Extends fields.entry_lowered n b d → Extends fields.entry_lowered n c d
extends_both n a b c d p q r =
    record { len = r.len ∙ p.len ∙ sym q.len; old = λ u f x y z. r.old u f x y z ∙ p.old u f x y z ∙ sym (q.old u f x y z) }

-- Nothing changed.
pub grow_refl : (n k : ℕ) (w : List ℕ) → Grow n k w w
grow_refl n k w = record { extends = extends_refl fields.entry_lowered n w; cells = λ x h. refl; levels = λ x h. refl }

-- One change after the other.
pub grow_trans : (n k : ℕ) (a b c : List ℕ) → Grow n k a b → Grow n k b c → Grow n k a c
grow_trans n k a b c p q =
    record {
      extends = extends_trans fields.entry_lowered n a b c p.extends q.extends;
      cells = λ x h. q.cells x h
          ∙ p.cells x h;
      levels = λ x h. q.levels x h ∙ p.levels x h;
    }

-- Growth that keeps k variables keeps fewer variables.
pub grow_less : (n j k : ℕ) (w w' : List ℕ) → j ≤ k → Grow n k w w' → Grow n j w w'
grow_less n j k w w' l g =
    record { extends = g.extends; cells = λ x h. g.cells x (omega arith); levels = λ x h. g.levels x (omega arith) }

-- Writing a field of this act's record leaves older records and all variables.
pub grow_put : (n k : ℕ) (w : List ℕ) (u f a : ℕ) → n ≤ u → fields.entry_lowered ≤ f → f < numbers_per_unit → Grow n k w (put_field w u f a)
grow_put n k w u f a h l m =
    record {
      extends = extends_put fields.entry_lowered n w u f a h m;
      cells = λ x b. cell_put w x u f a l m;
      levels = λ x b. level_put w x u f a l m;
    }

-- Several fields.
pub grow_puts : (l w : List ℕ) (n k u f : ℕ) → n ≤ u → fields.entry_lowered ≤ f → f + length l ≤ numbers_per_unit → Grow n k w (puts l w u f)
unfolding puts
grow_puts [] w n k u f h a b = grow_refl n k w
grow_puts (x ∷ l) w n k u f h a b =
    grow_trans n k w (put_field w u f x) (puts l (put_field w u f x) u (suc f)) (grow_put n k w u f x h a (omega arith))
    (grow_puts l (put_field w u f x) n k u (suc f) h (omega arith) (omega arith))

-- Writing the cell of a variable from k on leaves older records and the variables below k.
pub grow_cell : (n k : ℕ) (w : List ℕ) (x a : ℕ) → k ≤ x → Grow n k w (put_cell w x a)
grow_cell n k w x a h =
    record { extends = extends_cell n w x a; cells = λ y l. cell_other w x a y (λ e. omega arith); levels = λ y l. level_cell w x a y }

-- Its level.
pub grow_level : (n k : ℕ) (w : List ℕ) (x a : ℕ) → k ≤ x → Grow n k w (put_level w x a)
grow_level n k w x a h =
    record { extends = extends_level n w x a; cells = λ y l. cell_level w x a y; levels = λ y l. level_other w x a y (λ e. omega arith) }
