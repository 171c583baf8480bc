-- One law for each way through a turn of a loop or through a call; the hypotheses are the facts on the code's path.
use Prim.Native.Nat.{ℕ, ◌+◌, ◌-◌, ◌<◌, ◌≤◌}
use mathlib.Core.Path.{◌≡◌}
use mathlib.Core.Bool.{Bool, true, false}
use mathlib.Core.List.{List}
use lib.Dec.{eqb}
use lib.ListN.{length}
use borrow.Author.Tests.{eq-eqb, ne_eqb, le-leb, lt-leb}
use Rattle.node_table.specs.Layout.{name_start}
use Rattle.scanning.specs.Ranges.{Number}
use Rattle.std.specs.Prelude.{Some, None}
use Rattle.scanning.specs.Instances.{Reach}
use Rattle.scanning.specs.Ranges.{same_folded, scan_number}
use Rattle.scanning.specs.Scanning.{name_size}
use Rattle.scanning.specs.Frames.{slot_start, slot_end}
use Rattle.scanning.specs.Instances.{same_slots, match_range, match_name, match_number, match_slot, match_instance, ends_at, is_instance}

-- terms of the text

pub slots_same : (x : List ℕ) (s e i j n m : ℕ) (z : Bool) → (s ≡ i → ⊥) → n ≡ e - s → m ≡ j - i → n ≡ m → z ≡ same_folded n x s x i
    → z ≡ same_slots x s e i j
unfolding same_slots
slots_same x s e i j n m z d p q h k = rw (ne_eqb s i d, ← p, ← q, eq-eqb n m h) k

pub slots_other : (x : List ℕ) (s e i j n m : ℕ) → (s ≡ i → ⊥) → n ≡ e - s → m ≡ j - i → (n ≡ m → ⊥) → false ≡ same_slots x s e i j
unfolding same_slots
slots_other x s e i j n m d p q h = rw (ne_eqb s i d, ← p, ← q, ne_eqb n m h)

-- ranges

pub range_there : (n : ℕ) (a : List ℕ) (s : ℕ) (x : List ℕ) (i l : ℕ) (z : Bool) → l ≡ length x - i → n ≤ l → z ≡ same_folded n a s x i
    → z ≡ true → Some (i + n) ≡ match_range n a s x i
unfolding match_range
range_there n a s x i l z e h p q = rw (← e, le-leb n l h, ← p, q)

pub range_differs : (n : ℕ) (a : List ℕ) (s : ℕ) (x : List ℕ) (i l : ℕ) (z : Bool) → l ≡ length x - i → n ≤ l → z ≡ same_folded n a s x i
    → z ≡ false → None ≡ match_range n a s x i
unfolding match_range
range_differs n a s x i l z e h p q = rw (← e, le-leb n l h, ← p, q)

pub range_long : (n : ℕ) (a : List ℕ) (s : ℕ) (x : List ℕ) (i l : ℕ) → l ≡ length x - i → l < n → None ≡ match_range n a s x i
unfolding match_range
range_long n a s x i l e h = rw (← e, lt-leb n l h)

-- names

pub name_matches : (b t : List ℕ) (k : ℕ) (x : List ℕ) (i n p s : ℕ) (r : Reach) → n ≡ name_size b t k → p ≡ name_start t k → s ≡ p
    → r ≡ match_range n b s x i → r ≡ match_name b t k x i
unfolding match_name
name_matches b t k x i n p s r en ep es h = rw (← en, ← ep, ← es) h

-- numbers

module _ (n : ℕ) (x : List ℕ) (i : ℕ) (o : Number) (p : o ≡ scan_number x i) where
  pub number_equal : (m e : ℕ) → o ≡ Some (m, e) → m ≡ n → Some e ≡ match_number n x i
  unfolding match_number
  number_equal m e q h = rw (match_number, ← p, q) (rw (eq-eqb m n h))

  pub number_other : (m e : ℕ) → o ≡ Some (m, e) → (m ≡ n → ⊥) → None ≡ match_number n x i
  unfolding match_number
  number_other m e q h = rw (match_number, ← p, q) (rw (ne_eqb m n h))

  pub number_none : o ≡ None → None ≡ match_number n x i
  unfolding match_number
  number_none q = rw (match_number, ← p, q)

-- terms of frames

pub slot_matches : (x w : List ℕ) (g v i a s c e n : ℕ) (r : Reach) → a ≡ slot_start w g v → s ≡ a → c ≡ slot_end w g v → e ≡ c → n ≡ e - s
    → r ≡ match_range n x s x i → r ≡ match_slot x w g v i
unfolding match_slot
slot_matches x w g v i a s c e n r ea es ec ee en h = rw (← ea, ← es, ← ec, ← ee, ← en) h

-- instances of terms of the text

pub instance_ends : (b t x w : List ℕ) (s e g m i : ℕ) (r : Reach) → r ≡ match_instance 1024 b t x w g m s → r ≡ Some i
    → eqb i e ≡ is_instance b t x w s e g m
unfolding is_instance ends_at
instance_ends b t x w s e g m i r p q = rw (← p, q)

pub instance_differs : (b t x w : List ℕ) (s e g m : ℕ) (r : Reach) → r ≡ match_instance 1024 b t x w g m s → r ≡ None
    → false ≡ is_instance b t x w s e g m
unfolding is_instance ends_at
instance_differs b t x w s e g m r p q = rw (← p, q)
