-- Laws of specs/Nodes.antt for the code's proofs: what a node is, as numbers.
use Prim.Native.Nat.{ℕ, zero, suc, ◌+◌, ◌-◌, ◌*◌, ◌/◌, ◌%◌, ◌^◌, ◌<◌, ◌≤◌}
use native.Mathlib.Numerals.{sub-one}
use native.Mathlib.Omega.{arith}
use mathlib.Core.Bool.{Bool, true, false, cond}
use mathlib.Core.List.{List}
use mathlib.Core.Path.{◌≡◌, refl, sym, ap, ◌∙◌}
use lib.Dec.{eqb}
use mir.Val.{bool_byte}
use borrow.Author.Tests.{eq-eqb, ne_eqb}
use Rattle.node_table.specs.Layout.{kind_of, goal_bit, members_of, atom_kind}
use Rattle.table_builder.specs.Nodes.{only_bit, without_bit, both_goals, supposed_goal, ruled_members}

-- whether a node is a goal, as a number

goal_bit_most : (t : List ℕ) (n : ℕ) → goal_bit t n ≤ 1
unfolding goal_bit
goal_bit_most t n = omega arith

pub both_most : (t : List ℕ) (a b : ℕ) → both_goals t a b ≤ 1
unfolding both_goals
both_most t a b = go (eqb (goal_bit t a) 1)
  where
    go : (x : Bool) → cond x (goal_bit t b) 0 ≤ 1
    go true = goal_bit_most t b
    go false = omega arith

pub supposed_most : (t : List ℕ) (a b : ℕ) → supposed_goal t a b ≤ 1
unfolding supposed_goal
supposed_most t a b = go (eqb (members_of t a) 0)
  where
    go : (x : Bool) → cond x 0 (goal_bit t b) ≤ 1
    go true = omega arith
    go false = goal_bit_most t b

-- A number that is 0 or 1 is what its test is as a number.
pub bit_is : (x n : ℕ) (b : Bool) → x ≤ 1 → b ≡ eqb x 1 → n ≡ bool_byte b → n ≡ x
bit_is zero n b h e f = f ∙ ap bool_byte e
bit_is (suc zero) n b h e f = f ∙ ap bool_byte e
bit_is (suc (suc x)) n b h e f = absurd (omega arith)

pub ruled : (t : List ℕ) (a b kind n : ℕ) (r from : Bool) → kind ≡ kind_of t b → kind ≡ atom_kind → r ≡ eqb (both_goals t a b) 1
    → from ≡ r → n ≡ bool_byte from → (n ≡ ruled_members t a b) × (n ≤ 1)
unfolding ruled_members
ruled t a b kind n r from k l e f g =
    let x : n ≡ both_goals t a b = bit_is (both_goals t a b) n from (both_most t a b) (f ∙ e) g in
    let m = both_most t a b in
    (rw (eq-eqb (kind_of t b) atom_kind (sym k ∙ l)) x, omega arith)

pub unruled : (t : List ℕ) (a b kind n : ℕ) (from : Bool) → kind ≡ kind_of t b → (kind ≡ atom_kind → ⊥) → from ≡ eqb kind atom_kind
    → n ≡ bool_byte from → (n ≡ ruled_members t a b) × (n ≤ 1)
unfolding ruled_members
unruled t a b kind n from k l e f =
    let z : n ≡ 0 = f ∙ ap bool_byte (e ∙ ne_eqb kind atom_kind l) in
    (rw (ne_eqb (kind_of t b) atom_kind (λ x. l (k ∙ x))) z, omega arith)

-- bits

pub only_is : (v : ℕ) → v < 8 → 1 * 2 ^ v % 4294967296 ≡ only_bit v
unfolding only_bit
only_is zero h = refl
only_is (suc zero) h = refl
only_is (suc (suc zero)) h = refl
only_is (suc (suc (suc zero))) h = refl
only_is (suc (suc (suc (suc zero)))) h = refl
only_is (suc (suc (suc (suc (suc zero))))) h = refl
only_is (suc (suc (suc (suc (suc (suc zero)))))) h = refl
only_is (suc (suc (suc (suc (suc (suc (suc zero))))))) h = refl
only_is (suc (suc (suc (suc (suc (suc (suc (suc v)))))))) h = absurd (omega arith)

pub only_below : (v : ℕ) → only_bit v < 256
unfolding only_bit
only_below zero = omega arith
only_below (suc zero) = omega arith
only_below (suc (suc zero)) = omega arith
only_below (suc (suc (suc zero))) = omega arith
only_below (suc (suc (suc (suc zero)))) = omega arith
only_below (suc (suc (suc (suc (suc zero))))) = omega arith
only_below (suc (suc (suc (suc (suc (suc zero)))))) = omega arith
only_below (suc (suc (suc (suc (suc (suc (suc zero))))))) = omega arith
only_below (suc (suc (suc (suc (suc (suc (suc (suc v)))))))) = omega arith

pub without_first : (v m : ℕ) → v ≡ 0 → m / 2 * 2 ≡ without_bit v m
unfolding without_bit
without_first zero m e = refl
without_first (suc v) m e = absurd (omega arith)

pub without_more : (v m r : ℕ) → (v ≡ 0 → ⊥) → r ≡ without_bit (v - 1) (m / 2) → r * 2 + m % 2 ≡ without_bit v m
unfolding without_bit
without_more zero m r n e = absurd (n refl)
without_more (suc v) m r n e = rw e (rw (sub-one (suc v)))
