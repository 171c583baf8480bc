-- The parts of the words that the writer makes.
use Prim.Native.Nat.{ℕ, ◌+◌, ◌*◌, ◌/◌, ◌%◌, ◌≤◌, ◌<◌}
use native.Mathlib.Omega.{arith}
use mathlib.Core.Path.{◌≡◌, ap, ◌∙◌}
use Rattle.sheet_format.specs.Limits.{max_budget, max_nodes}
use Rattle.machine.specs.Words.{variable_word, constant_word, closure_word, tag_of, name_of, node_of, frame_of, closure_tag, constant_tag}
use Rattle.machine.specs.Words.{variable_tag}
use Rattle.machine.proofs.Words.{truncate_small, variable_small, constant_small, closure_small, tag_is, name_is_lem, node_is, frame_is}
use Rattle.printing.specs.PathLinks.{link_word}

module _ (x : ℕ) (h : x ≤ 1000000) where
  -- The tag of a variable's word is 1.
  pub variable_tag_lem : tag_of (variable_word x) ≡ variable_tag
  variable_tag_lem = ap tag_of (variable_small x (omega arith)) ∙ tag_is x 1 (omega arith)

  -- The name in a variable's word is the variable.
  pub variable_name : name_of (variable_word x) ≡ x
  variable_name = ap name_of (variable_small x (omega arith)) ∙ name_is_lem x 1 (omega arith)

module _ (c : ℕ) (h : c ≤ max_budget) where
  -- The tag of a constant's word is 2.
  pub constant_tag_lem : tag_of (constant_word c) ≡ constant_tag
  constant_tag_lem = ap tag_of (constant_small c h) ∙ tag_is c 2 (omega arith)

  -- The name in a constant's word is the constant.
  pub constant_name : name_of (constant_word c) ≡ c
  constant_name = ap name_of (constant_small c h) ∙ name_is_lem c 2 (omega arith)

module _ (n f : ℕ) (h : n < 1024) (k : f ≤ max_budget) where
  -- The tag of a closure's word is 3.
  pub closure_tag_lem : tag_of (closure_word n f) ≡ closure_tag
  closure_tag_lem = ap tag_of (closure_small n f h (omega arith)) ∙ tag_is (max_nodes * f + n) 3 (omega arith)

  -- The node is read back from a closure's word.
  pub closure_node : node_of (closure_word n f) ≡ n
  closure_node = ap node_of (closure_small n f h (omega arith)) ∙ node_is n f h

  -- The frame is read back from a closure's word.
  pub closure_frame : frame_of (closure_word n f) ≡ f
  closure_frame = ap frame_of (closure_small n f h (omega arith)) ∙ frame_is n f h

-- A link's pointer and its line.
module _ (p k : ℕ) (h : p ≤ max_budget) (l : k ≤ 7) where
  -- A link fits 32 bits.
  link_is : link_word p k ≡ 8 * p + k
  unfolding link_word
  link_is = truncate_small (8 * p + k) (omega arith)

  -- The pointer is read back from a link.
  pub link_pointer : link_word p k / 8 ≡ p
  link_pointer = rw link_is (omega arith)

  -- The line is read back from a link.
  pub link_line : link_word p k % 8 ≡ k
  link_line = rw link_is (omega arith)
