-- The fields of the constants' numbers, cleared when the first constant is shown: they are 0 then, and all else reads alike.
use Prim.Native.Nat.{ℕ, zero, suc, ◌*◌, ◌≤◌, ◌<◌}
use native.Mathlib.Omega.{arith}
use mathlib.Core.Path.{◌≡◌, refl, ap, ◌∙◌}
use mathlib.Core.Bool.{Bool, true, false, cond}
use mathlib.Core.List.{List}
use lib.Dec.{eqb}
use lib.ListN.{length}
use borrow.Author.Tests.{eqb-true, eqb-false, ne_eqb}
use Rattle.sheet_format.specs.Limits.{numbers_per_unit}
use Rattle.machine.specs.Records.{cell_of}
use Rattle.machine.proofs.Records.{cell_put}
use Rattle.printing.specs.Numbering.{constant_number_field, clear_constants, constant_mark, clear_at_first}
use Rattle.printing.proofs.LeftAlone.{Alike, alike_refl, alike_trans, alike_put}
use Rattle.memory.proofs.Records.{length_put, field_same, record_other}
use Rattle.memory.specs.Records.{field, put_field}

-- Clearing the numbers of constants leaves the rest.
clear_alike : (n : ℕ) (v : List ℕ) → Alike 63 v (clear_constants n v)
unfolding clear_constants
clear_alike zero v = alike_refl 63 v
clear_alike (suc n) v =
    alike_trans 63 v (put_field v n constant_number_field 0) _ (alike_put 63 v n 63 0 (omega arith) (omega arith) (omega arith))
    (clear_alike n (put_field v n constant_number_field 0))

-- Clearing the numbers of constants writes no cell.
clear_cells : (n : ℕ) (v : List ℕ) (x : ℕ) → cell_of (clear_constants n v) x ≡ cell_of v x
unfolding clear_constants
clear_cells zero v x = refl
clear_cells (suc n) v x =
    clear_cells n (put_field v n constant_number_field 0) x ∙ cell_put v x n constant_number_field 0 (omega arith) (omega arith)

-- Clearing leaves the records from n on.
clear_beyond : (n : ℕ) (v : List ℕ) (c : ℕ) → n ≤ c → field (clear_constants n v) c constant_number_field ≡ field v c constant_number_field
unfolding clear_constants
clear_beyond zero v c h = refl
clear_beyond (suc n) v c h =
    clear_beyond n (put_field v n constant_number_field 0) c (omega arith)
    ∙ record_other v n constant_number_field c constant_number_field 0 (omega arith) (omega arith) (λ q. omega arith)

-- The numbers of all constants below n are 0 after clearing.
clear_zero : (n : ℕ) (v : List ℕ) (c : ℕ) → numbers_per_unit * n ≤ length v → c < n → field (clear_constants n v) c constant_number_field ≡ 0
unfolding clear_constants
clear_zero zero v c r h = absurd (omega arith)
clear_zero (suc n) v c r h = go (eqb c n) refl (clear_zero n (put_field v n constant_number_field 0) c)
  where
    go : (b : Bool) → eqb c n ≡ b → (numbers_per_unit * n ≤ length (put_field v n constant_number_field 0) → c < n
        → field (clear_constants n (put_field v n constant_number_field 0)) c constant_number_field ≡ 0)
        → field (clear_constants n (put_field v n constant_number_field 0)) c constant_number_field ≡ 0
    go true e f =
        let q = eqb-true c n e in clear_beyond n (put_field v n constant_number_field 0) c (omega arith)
        ∙ ap (λ (d : ℕ). field (put_field v n constant_number_field 0) d constant_number_field) q
        ∙ field_same v n constant_number_field 0 (omega arith)
    go false e f = let q = eqb-false c n e in f (let l = length_put v n constant_number_field 0 in omega arith) (omega arith)

module _ (turns : ℕ) (v : List ℕ) (n : ℕ) where
  -- Whether or not it is the first constant, the rest is left.
  pub first_alike : Alike 63 v (clear_at_first turns v n)
  unfolding clear_at_first
  first_alike = go (eqb n 0)
    where
      go : (b : Bool) → Alike 63 v (cond b (clear_constants turns v) v)
      go true = clear_alike turns v
      go false = alike_refl 63 v

  -- No cell is written.
  pub first_cells : (x : ℕ) → cell_of (clear_at_first turns v n) x ≡ cell_of v x
  unfolding clear_at_first
  first_cells x = go (eqb n 0)
    where
      go : (b : Bool) → cell_of (cond b (clear_constants turns v) v) x ≡ cell_of v x
      go true = clear_cells turns v x
      go false = refl

  -- From then on the field of a constant is its mark.
  pub first_mark : (c : ℕ) → numbers_per_unit * turns ≤ length v → c < turns
      → field (clear_at_first turns v n) c constant_number_field ≡ constant_mark v n c
  unfolding clear_at_first constant_mark
  first_mark c r h = go (eqb n 0)
    where
      go : (b : Bool) → field (cond b (clear_constants turns v) v) c constant_number_field ≡ cond b 0 (field v c constant_number_field)
      go true = clear_zero turns v c r h
      go false = refl

-- Once a constant has shown, the mark is the field.
pub mark_after : (v : List ℕ) (n c : ℕ) → constant_mark v (suc n) c ≡ field v c constant_number_field
unfolding constant_mark
mark_after v n c = rw (ne_eqb (suc n) 0 (λ q. omega arith))

-- The mark of a constant that has shown is its field.
pub mark_shown : (v : List ℕ) (n c m : ℕ) → constant_mark v n c ≡ suc m → field v c constant_number_field ≡ suc m
unfolding constant_mark
mark_shown v n c m e = go (eqb n 0) e
  where
    go : (b : Bool) → cond b 0 (field v c constant_number_field) ≡ suc m → field v c constant_number_field ≡ suc m
    go true q = absurd (omega arith)
    go false q = q
