-- Numbers of 32 bits, and the parts of words. Nothing after this file looks at `/`, `%` or the width.
use Prim.Native.Nat.{ℕ, suc, ◌+◌, ◌*◌, ◌/◌, ◌%◌, ◌≤◌, ◌<◌}
use native.Mathlib.Omega.{arith}
use mathlib.Core.Path.{◌≡◌, ap, ◌∙◌, refl}
use Rattle.sheet_format.specs.Limits.{max_budget, max_nodes}
use Rattle.machine.specs.Words.{truncate, increment, variable_word, constant_word, closure_word, tag_of, name_of, node_of, frame_of}
use Rattle.machine.specs.Matching.{position_word}

-- Numbers that fit stay as they are:
pub truncate_small : (a : ℕ) → a < 4294967296 → truncate a ≡ a
unfolding truncate
truncate_small a h = omega arith

-- The next number is not truncated if it fits.
pub increment_small : (a : ℕ) → a < 4294967295 → increment a ≡ suc a
unfolding increment
increment_small a h = truncate_small (a + 1) (omega arith) ∙ (omega arith)

-- A variable's word is not truncated if it fits.
pub variable_small : (x : ℕ) → x < 1000000000 → variable_word x ≡ 4 * x + 1
unfolding variable_word
variable_small x h = truncate_small (4 * x + 1) (omega arith)

-- A constant's word is not truncated if it fits.
pub constant_small : (c : ℕ) → c ≤ max_budget → constant_word c ≡ 4 * c + 2
unfolding constant_word
constant_small c h = truncate_small (4 * c + 2) (omega arith)

-- A closure's word is not truncated if it fits.
pub closure_small : (n f : ℕ) → n < 1024 → f ≤ 50001 → closure_word n f ≡ 4 * (max_nodes * f + n) + 3
unfolding closure_word
closure_small n f h k = truncate_small (4 * (max_nodes * f + n) + 3) (omega arith)

-- A position's word is not truncated if it fits.
pub position_small : (p i : ℕ) → p ≤ 50001 → i < 4 → position_word p i ≡ 4 * p + i
unfolding position_word
position_small p i h k = truncate_small (4 * p + i) (omega arith)

-- The lowest two bits are the tag.
mod4 : (p t : ℕ) → t < 4 → (4 * p + t) % 4 ≡ t
mod4 p t h = omega arith

-- The bits above the tag are the rest of the word.
div4 : (p t : ℕ) → t < 4 → (4 * p + t) / 4 ≡ p
div4 p t h = omega arith

-- The lowest ten bits of the rest are a node.
mod1024 : (p t : ℕ) → t < 1024 → (max_nodes * p + t) % 1024 ≡ t
mod1024 p t h = omega arith

-- The bits above the node are the frame.
div1024 : (p t : ℕ) → t < 1024 → (max_nodes * p + t) / 1024 ≡ p
div1024 p t h = omega arith

-- The tag of no word.
pub zero_tag : tag_of 0 ≡ 0
unfolding tag_of
zero_tag = refl

-- The tag is read back from a word.
pub tag_is : (p t : ℕ) → t < 4 → tag_of (4 * p + t) ≡ t
unfolding tag_of
tag_is p t h = mod4 p t h

-- The name is read back from a word.
pub name_is_lem : (p t : ℕ) → t < 4 → name_of (4 * p + t) ≡ p
unfolding name_of
name_is_lem p t h = div4 p t h

-- The node is read back from a closure's word.
pub node_is : (n f : ℕ) → n < 1024 → node_of (4 * (max_nodes * f + n) + 3) ≡ n
unfolding node_of
node_is n f h = rw (div4 (max_nodes * f + n) 3 (omega arith)) (mod1024 f n h)

-- The frame is read back from a closure's word.
pub frame_is : (n f : ℕ) → n < 1024 → frame_of (4 * (max_nodes * f + n) + 3) ≡ f
unfolding frame_of
frame_is n f h = rw (div4 (max_nodes * f + n) 3 (omega arith)) (div1024 f n h)

-- The same of a word given by an equation.
pub tag_of_lem : (a p t : ℕ) → t < 4 → a ≡ 4 * p + t → tag_of a ≡ t
tag_of_lem a p t h e = ap tag_of e ∙ tag_is p t h

-- The name.
pub name_of_lem : (a p t : ℕ) → t < 4 → a ≡ 4 * p + t → name_of a ≡ p
name_of_lem a p t h e = ap name_of e ∙ name_is_lem p t h

-- The parts of a position.
pub position_record : (p i : ℕ) → i < 4 → (4 * p + i) / 4 ≡ p
position_record p i h = div4 p i h

-- The argument.
pub position_argument : (p i : ℕ) → i < 4 → (4 * p + i) % 4 ≡ i
position_argument p i h = mod4 p i h

-- Words of different variables or constants differ.
pub same_name_lem : (x y t : ℕ) → 4 * x + t ≡ 4 * y + t → x ≡ y
same_name_lem x y t e = omega arith
