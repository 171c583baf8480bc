-- Two tables with the same symbols and nodes up to given numbers: every field that is read there is the same.
use Prim.Native.Nat.{ℕ, ◌+◌, ◌/◌, ◌%◌, ◌<◌}
use native.Mathlib.Omega.{arith}
use mathlib.Core.Path.{◌≡◌, refl, ap}
use mathlib.Core.List.{List}
use lib.ListN.{get_or}
use Rattle.node_table.specs.Layout.{symbol_at, node_at, kind_of, child_count, label_of, child_of, info_of, mask_of, goal_bit, members_of}
use Rattle.node_table.specs.Layout.{size_of, name_start, name_word, name_length, is_function_bit, arity_of}
use Rattle.node_table.specs.Chains.{below_of, chain_names, chain_count, is_free, names_over, count_over}

pub record Same (t u : List ℕ) (symbols nodes : ℕ) : Type 0 where
  pub symbol : (i f : ℕ) → i < symbols → f < 3 → get_or u (symbol_at i f) 0 ≡ get_or t (symbol_at i f) 0
  pub node : (n f : ℕ) → n < nodes → f < 7 → get_or u (node_at n f) 0 ≡ get_or t (node_at n f) 0

-- A table is the same as itself.
pub same_self : (t : List ℕ) (symbols nodes : ℕ) → Same t t symbols nodes
same_self t symbols nodes = record { symbol = λ i f h k. refl; node = λ n f h k. refl }

module _ (t u : List ℕ) (symbols nodes : ℕ) (s : Same t u symbols nodes) where
  module _ (i : ℕ) (h : i < symbols) where
    pub same_start : name_start u i ≡ name_start t i
    unfolding name_start
    same_start = s.symbol i 0 h (omega arith)

    pub same_word_lem : name_word u i ≡ name_word t i
    unfolding name_word
    same_word_lem = s.symbol i 1 h (omega arith)

    pub same_length : name_length u i ≡ name_length t i
    unfolding name_length
    same_length = ap (λ (x : ℕ). x % 32) same_word_lem

    pub same_function : is_function_bit u i ≡ is_function_bit t i
    unfolding is_function_bit
    same_function = ap (λ (x : ℕ). x % 2) (s.symbol i 2 h (omega arith))

    pub same_arity : arity_of u i ≡ arity_of t i
    unfolding arity_of
    same_arity = ap (λ (x : ℕ). x / 2) (s.symbol i 2 h (omega arith))

  module _ (n : ℕ) (h : n < nodes) where
    pub same_kind : kind_of u n ≡ kind_of t n
    unfolding kind_of
    same_kind = ap (λ (x : ℕ). x % 16) (s.node n 0 h (omega arith))

    pub same_count : child_count u n ≡ child_count t n
    unfolding child_count
    same_count = ap (λ (x : ℕ). x / 16) (s.node n 0 h (omega arith))

    pub same_label : label_of u n ≡ label_of t n
    unfolding label_of
    same_label = s.node n 1 h (omega arith)

    pub same_child : (j : ℕ) → j < 4 → child_of u n j ≡ child_of t n j
    unfolding child_of
    same_child j k = s.node n (2 + j) h (omega arith)

    pub same_info : info_of u n ≡ info_of t n
    unfolding info_of
    same_info = s.node n 6 h (omega arith)

    pub same_mask : mask_of u n ≡ mask_of t n
    unfolding mask_of
    same_mask = ap (λ (x : ℕ). x % 256) same_info

    pub same_goal : goal_bit u n ≡ goal_bit t n
    unfolding goal_bit
    same_goal = ap (λ (x : ℕ). x / 256 % 2) same_info

    pub same_members : members_of u n ≡ members_of t n
    unfolding members_of
    same_members = ap (λ (x : ℕ). x / 512 % 128) same_info

    pub same_size : size_of u n ≡ size_of t n
    unfolding size_of
    same_size = ap (λ (x : ℕ). x / 65536) same_info

    -- So are the U nodes from n on, and what they come to with another one over them.
    pub same_below : below_of u n ≡ below_of t n
    unfolding below_of
    same_below = rw (same_kind, same_child 1 (omega arith))

    pub same_names : chain_names u n ≡ chain_names t n
    unfolding chain_names
    same_names = rw (same_kind, same_child 2 (omega arith))

    pub same_chain : chain_count u n ≡ chain_count t n
    unfolding chain_count
    same_chain = rw (same_kind, same_child 3 (omega arith))

    pub same_free : (v : ℕ) → is_free u v n ≡ is_free t v n
    unfolding is_free
    same_free v = rw same_mask

    pub same_names_over : (v : ℕ) → names_over u v n ≡ names_over t v n
    unfolding names_over
    same_names_over v = rw (same_free v, same_names)

    pub same_count_over : (v : ℕ) → count_over u v n ≡ count_over t v n
    unfolding count_over
    same_count_over v = rw (same_free v, same_chain)
