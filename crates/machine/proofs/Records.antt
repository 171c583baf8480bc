-- Reads after writes: cells and levels of variables never meet other fields.
use Prim.Native.Nat.{ℕ, suc, ◌+◌, ◌*◌, ◌/◌, ◌%◌, ◌≤◌, ◌<◌}
use native.Mathlib.Omega.{arith}
use mathlib.Core.Path.{◌≡◌}
use mathlib.Core.List.{List}
use lib.ListN.{length}
use lib.Seq.{get_or-set_other}
use Rattle.memory.specs.Records.{field, put_field}
use Rattle.memory.proofs.Records.{length_put, field_same, field_other}
use Rattle.machine.specs.Records.{cell_of, level_of, put_cell, put_level}

-- The cell of a variable is computed over named numbers first.
nine : (x y : ℕ) → x / 9 ≡ y / 9 → x % 9 ≡ y % 9 → x ≡ y
nine x y d m = omega arith

-- The position of a cell determines its record.
position_quotient : (q r q' r' : ℕ) → r < 9 → r' < 9 → 64 * q + r ≡ 64 * q' + r' → q ≡ q'
position_quotient q r q' r' h k e = omega arith

-- The position of a cell determines its number in the record.
position_rest : (q r q' r' : ℕ) → r < 9 → r' < 9 → 64 * q + r ≡ 64 * q' + r' → r ≡ r'
position_rest q r q' r' h k e = omega (arith, position_quotient q r q' r' h k e)

-- Nine to a record.
mod_lt : (x : ℕ) → x % 9 < 9
mod_lt x = omega arith

-- Which record.
div_lt : (x n : ℕ) → x < 9 * n → x / 9 < n
div_lt x n h = omega arith

-- A variable's cell is in memory.
abbrev pub There : ℕ → List ℕ → Type 0
There x w = 64 * (x / 9) + 17 < length w

-- Variables of the records so far.
pub there : (n x : ℕ) (w : List ℕ) → 64 * suc n ≤ length w → x < 9 * suc n → There x w
there n x w r h = let d = div_lt x (suc n) h in omega arith

-- What was written is read.
pub cell_same : (w : List ℕ) (x a : ℕ) → There x w → cell_of (put_cell w x a) x ≡ a
unfolding cell_of put_cell
cell_same w x a h = field_same w (x / 9) (x % 9) a (let m = mod_lt x in omega arith)

-- The same of levels.
pub level_same : (w : List ℕ) (x a : ℕ) → There x w → level_of (put_level w x a) x ≡ a
unfolding level_of put_level
level_same w x a h = field_same w (x / 9) (9 + x % 9) a (let m = mod_lt x in omega arith)

-- Writing a field from 18 on leaves cells.
pub cell_put : (w : List ℕ) (x u f a : ℕ) → 18 ≤ f → f < 64 → cell_of (put_field w u f a) x ≡ cell_of w x
unfolding cell_of
cell_put w x u f a h k = let m = mod_lt x in field_other w u f (x / 9) (x % 9) a k (omega arith) (λ e. omega arith)

-- Levels.
pub level_put : (w : List ℕ) (x u f a : ℕ) → 18 ≤ f → f < 64 → level_of (put_field w u f a) x ≡ level_of w x
unfolding level_of
level_put w x u f a h k = let m = mod_lt x in field_other w u f (x / 9) (9 + x % 9) a k (omega arith) (λ e. omega arith)

-- Writing a cell leaves the fields from 18 on.
pub field_cell : (w : List ℕ) (x a v g : ℕ) → 18 ≤ g → g < 64 → field (put_cell w x a) v g ≡ field w v g
unfolding put_cell
field_cell w x a v g h k = let m = mod_lt x in field_other w (x / 9) (x % 9) v g a (omega arith) k (λ e. omega arith)

-- Writing a cell leaves levels.
pub level_cell : (w : List ℕ) (x a y : ℕ) → level_of (put_cell w x a) y ≡ level_of w y
unfolding put_cell level_of
level_cell w x a y =
    let m = mod_lt x in let n = mod_lt y in field_other w (x / 9) (x % 9) (y / 9) (9 + y % 9) a (omega arith) (omega arith)
    (λ e. omega arith)

-- Writing a cell leaves other cells.
pub cell_other : (w : List ℕ) (x a y : ℕ) → (y ≡ x → ⊥) → cell_of (put_cell w x a) y ≡ cell_of w y
unfolding put_cell cell_of put_field field
cell_other w x a y n =
    let h = mod_lt x in
    let k = mod_lt y in
    get_or-set_other w (64 * (x / 9) + x % 9) (64 * (y / 9) + y % 9) a 0
    (λ e. n (nine y x (position_quotient (y / 9) (y % 9) (x / 9) (x % 9) k h e) (position_rest (y / 9) (y % 9) (x / 9) (x % 9) k h e)))

-- Writing a level leaves the fields from 18 on.
pub field_level : (w : List ℕ) (x a v g : ℕ) → 18 ≤ g → g < 64 → field (put_level w x a) v g ≡ field w v g
unfolding put_level
field_level w x a v g h k = let m = mod_lt x in field_other w (x / 9) (9 + x % 9) v g a (omega arith) k (λ e. omega arith)

-- Writing a level leaves cells.
pub cell_level : (w : List ℕ) (x a y : ℕ) → cell_of (put_level w x a) y ≡ cell_of w y
unfolding put_level cell_of
cell_level w x a y =
    let m = mod_lt x in let n = mod_lt y in field_other w (x / 9) (9 + x % 9) (y / 9) (y % 9) a (omega arith) (omega arith)
    (λ e. omega arith)

-- Writing a level leaves other levels.
pub level_other : (w : List ℕ) (x a y : ℕ) → (y ≡ x → ⊥) → level_of (put_level w x a) y ≡ level_of w y
unfolding put_level level_of put_field field
level_other w x a y n =
    let h = mod_lt x in
    let k = mod_lt y in
    get_or-set_other w (64 * (x / 9) + (9 + x % 9)) (64 * (y / 9) + (9 + y % 9)) a 0
    (λ e. n (nine y x (position_quotient (y / 9) (y % 9) (x / 9) (x % 9) k h (omega arith))
    (position_rest (y / 9) (y % 9) (x / 9) (x % 9) k h (omega arith))))

-- Writing a cell keeps the length.
pub length_cell : (w : List ℕ) (x a : ℕ) → length (put_cell w x a) ≡ length w
unfolding put_cell
length_cell w x a = length_put w (x / 9) (x % 9) a

-- Writing a level keeps the length.
pub length_level : (w : List ℕ) (x a : ℕ) → length (put_level w x a) ≡ length w
unfolding put_level
length_level w x a = length_put w (x / 9) (9 + x % 9) a
