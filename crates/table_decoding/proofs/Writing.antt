-- Reads after writes: a written node, symbol or clause is read back, and nothing else changes.
use Prim.Native.Nat.{ℕ, ◌+◌, ◌*◌, ◌/◌, ◌%◌, ◌<◌, ◌≤◌}
use native.Mathlib.Omega.{arith}
use mathlib.Core.Path.{◌≡◌, refl, ap, ◌∙◌}
use mathlib.Core.List.{List}
use lib.ListN.{length, get_or, set, drop, length-set}
use lib.Seq.{get_or-set_same, get_or-set_other, drop-set-lt}
use Rattle.node_table.specs.Layout.{symbol_at, node_at, clause_at, kind_of, child_count, label_of, child_of, info_of, mask_of, goal_bit, members_of}
use Rattle.node_table.specs.Layout.{size_of, pack_info, name_start, name_word, is_function_bit, arity_of, clause_node, order_at, order_number}
use Rattle.node_table.proofs.Same.{Same}
use Rattle.table_builder.specs.declared.node_info.NodeRecord.{NodeRecord}
use Rattle.table_builder.specs.Nodes.{node_record, node_written}
use Rattle.table_builder.specs.Symbols.{symbol_written}

-- one write

-- The length, the numbers from 8,192 on and the number of the order in force stay.
unfoldable pub Rest : List ℕ → List ℕ → Type 0
Rest t u = (length u ≡ length t) × (drop 8192 u ≡ drop 8192 t) × (order_number u ≡ order_number t)

pub rest_refl : (t : List ℕ) → Rest t t
unfolding Rest
rest_refl t = (refl, refl, refl)

-- Symbols, nodes and clauses are all below the order.
rest_set : (t u : List ℕ) (i x : ℕ) → i < order_at → Rest t u → Rest t (set u i x)
unfolding Rest order_number
rest_set t u i x h r = (
  length-set u i x ∙ r.0,
  drop-set-lt 8192 u i x (omega arith) ∙ r.1,
  get_or-set_other u i order_at x 0 (λ e. omega arith) ∙ r.2,
)

-- nodes

module _ (t : List ℕ) (n : ℕ) (r : NodeRecord) where
  -- These are the tables after each of the seven writes.
  abbrev after0 : List ℕ
  after0 = set t (node_at n 0) r.head

  abbrev after1 : List ℕ
  after1 = set after0 (node_at n 1) r.label

  abbrev after2 : List ℕ
  after2 = set after1 (node_at n 2) r.first

  abbrev after3 : List ℕ
  after3 = set after2 (node_at n 3) r.second

  abbrev after4 : List ℕ
  after4 = set after3 (node_at n 4) r.third

  abbrev after5 : List ℕ
  after5 = set after4 (node_at n 5) r.fourth

  abbrev after6 : List ℕ
  after6 = set after5 (node_at n 6) r.info

  -- A read below the fields that are written later is not changed by them.
  below5 : (j : ℕ) → j < node_at n 6 → get_or after6 j 0 ≡ get_or after5 j 0
  below5 j h = get_or-set_other after5 (node_at n 6) j r.info 0 (λ e. omega arith)

  below4 : (j : ℕ) → j < node_at n 5 → get_or after6 j 0 ≡ get_or after4 j 0
  below4 j h = below5 j (omega arith) ∙ get_or-set_other after4 (node_at n 5) j r.fourth 0 (λ e. omega arith)

  below3 : (j : ℕ) → j < node_at n 4 → get_or after6 j 0 ≡ get_or after3 j 0
  below3 j h = below4 j (omega arith) ∙ get_or-set_other after3 (node_at n 4) j r.third 0 (λ e. omega arith)

  below2 : (j : ℕ) → j < node_at n 3 → get_or after6 j 0 ≡ get_or after2 j 0
  below2 j h = below3 j (omega arith) ∙ get_or-set_other after2 (node_at n 3) j r.second 0 (λ e. omega arith)

  below1 : (j : ℕ) → j < node_at n 2 → get_or after6 j 0 ≡ get_or after1 j 0
  below1 j h = below2 j (omega arith) ∙ get_or-set_other after1 (node_at n 2) j r.first 0 (λ e. omega arith)

  below0 : (j : ℕ) → j < node_at n 1 → get_or after6 j 0 ≡ get_or after0 j 0
  below0 j h = below1 j (omega arith) ∙ get_or-set_other after0 (node_at n 1) j r.label 0 (λ e. omega arith)

  module _ (h : 8192 ≤ length t) (k : n < 1024) where
    read_head : get_or (node_written t n r) (node_at n 0) 0 ≡ r.head
    unfolding node_written
    read_head = below0 (node_at n 0) (omega arith) ∙ get_or-set_same t (node_at n 0) r.head 0 (omega arith)

    read_label : get_or (node_written t n r) (node_at n 1) 0 ≡ r.label
    unfolding node_written
    read_label = below1 (node_at n 1) (omega arith) ∙ get_or-set_same after0 (node_at n 1) r.label 0 (simp length-set (omega arith))

    read_first : get_or (node_written t n r) (node_at n 2) 0 ≡ r.first
    unfolding node_written
    read_first = below2 (node_at n 2) (omega arith) ∙ get_or-set_same after1 (node_at n 2) r.first 0 (simp length-set (omega arith))

    read_second : get_or (node_written t n r) (node_at n 3) 0 ≡ r.second
    unfolding node_written
    read_second = below3 (node_at n 3) (omega arith) ∙ get_or-set_same after2 (node_at n 3) r.second 0 (simp length-set (omega arith))

    read_third : get_or (node_written t n r) (node_at n 4) 0 ≡ r.third
    unfolding node_written
    read_third = below4 (node_at n 4) (omega arith) ∙ get_or-set_same after3 (node_at n 4) r.third 0 (simp length-set (omega arith))

    read_fourth : get_or (node_written t n r) (node_at n 5) 0 ≡ r.fourth
    unfolding node_written
    read_fourth = below5 (node_at n 5) (omega arith) ∙ get_or-set_same after4 (node_at n 5) r.fourth 0 (simp length-set (omega arith))

    pub read_info : get_or (node_written t n r) (node_at n 6) 0 ≡ r.info
    unfolding node_written
    read_info = get_or-set_same after5 (node_at n 6) r.info 0 (simp length-set (omega arith))

  pub rest_node : n < 1024 → Rest t (node_written t n r)
  unfolding node_written
  rest_node h =
      rest_set t after5 (node_at n 6) r.info (omega arith)
      (rest_set t after4 (node_at n 5) r.fourth (omega arith)
      (rest_set t after3 (node_at n 4) r.third (omega arith)
      (rest_set t after2 (node_at n 3) r.second (omega arith)
      (rest_set t after1 (node_at n 2) r.first (omega arith)
      (rest_set t after0 (node_at n 1) r.label (omega arith) (rest_set t t (node_at n 0) r.head (omega arith) (rest_refl t)))))))

  -- What stands before the node, or after it, is as it was.
  node_before : (j : ℕ) → j < node_at n 0 → get_or (node_written t n r) j 0 ≡ get_or t j 0
  unfolding node_written
  node_before j h = below0 j (omega arith) ∙ get_or-set_other t (node_at n 0) j r.head 0 (λ e. omega arith)

  node_after : (j : ℕ) → node_at n 6 < j → get_or (node_written t n r) j 0 ≡ get_or t j 0
  unfolding node_written
  node_after j h =
      get_or-set_other after5 (node_at n 6) j r.info 0 (λ e. omega arith)
      ∙ get_or-set_other after4 (node_at n 5) j r.fourth 0 (λ e. omega arith)
      ∙ get_or-set_other after3 (node_at n 4) j r.third 0 (λ e. omega arith)
      ∙ get_or-set_other after2 (node_at n 3) j r.second 0 (λ e. omega arith)
      ∙ get_or-set_other after1 (node_at n 2) j r.first 0 (λ e. omega arith)
      ∙ get_or-set_other after0 (node_at n 1) j r.label 0 (λ e. omega arith)
      ∙ get_or-set_other t (node_at n 0) j r.head 0 (λ e. omega arith)

  -- Writing a node keeps the symbols and the nodes before it.
  pub same_before : (symbols : ℕ) → symbols ≤ 256 → Same t (node_written t n r) symbols n
  same_before symbols h =
      record { symbol = λ i f k l. node_before (symbol_at i f) (omega arith); node = λ i f k l. node_before (node_at i f) (omega arith) }

  -- Writing a node keeps the clauses.
  pub clause_kept : (i : ℕ) → n < 1024 → clause_node (node_written t n r) i ≡ clause_node t i
  unfolding clause_node
  clause_kept i h = node_after (clause_at i) (omega arith)

-- The fields of node n.
pub record NodeIs (u : List ℕ) (n k m l a b c d f g o s : ℕ) : Type 0 where
  pub kind : kind_of u n ≡ k
  pub count : child_count u n ≡ m
  pub label : label_of u n ≡ l
  pub first : child_of u n 0 ≡ a
  pub second : child_of u n 1 ≡ b
  pub third : child_of u n 2 ≡ c
  pub fourth : child_of u n 3 ≡ d
  pub mask : mask_of u n ≡ f
  pub goal : goal_bit u n ≡ g
  pub members : members_of u n ≡ o
  pub size : size_of u n ≡ s

-- What is packed is unpacked.
module _ (mask goal members size : ℕ) (l : mask < 256) (m : goal ≤ 1) (o : members < 128) where
  pub packed_mask : pack_info mask goal members size % 256 ≡ mask
  unfolding pack_info
  packed_mask = omega arith

  pub packed_goal : pack_info mask goal members size / 256 % 2 ≡ goal
  unfolding pack_info
  packed_goal = omega arith

  pub packed_members : pack_info mask goal members size / 512 % 128 ≡ members
  unfolding pack_info
  packed_members = omega arith

  pub packed_size : pack_info mask goal members size / 65536 ≡ size
  unfolding pack_info
  packed_size = omega arith

pub written : (t : List ℕ) (n kind count label a b c d mask goal members size : ℕ) → 8192 ≤ length t → n < 1024 → kind < 16 → mask < 256
    → goal ≤ 1 → members < 128
    → NodeIs (node_written t n (node_record (kind + 16 * count) label a b c d (pack_info mask goal members size))) n kind count label a b c d
    mask goal members size
unfolding kind_of child_count label_of child_of mask_of goal_bit members_of size_of info_of
written t n kind count label a b c d mask goal members size h k p q v w =
    let r = node_record (kind + 16 * count) label a b c d (pack_info mask goal members size) in
    let i : get_or (node_written t n r) (node_at n 6) 0 ≡ pack_info mask goal members size = read_info t n r h k in
    let x : (kind + 16 * count) % 16 ≡ kind = omega arith in
    let y : (kind + 16 * count) / 16 ≡ count = omega arith in
    record {
      kind = ap (λ (z : ℕ). z % 16) (read_head t n r h k) ∙ x;
      count = ap (λ (z : ℕ). z / 16) (read_head t n r h k) ∙ y;
      label = read_label t n r h k;
      first = read_first t n r h k;
      second = read_second t n r h k;
      third = read_third t n r h k;
      fourth = read_fourth t n r h k;
      mask = ap (λ (z : ℕ). z % 256) i ∙ packed_mask mask goal members size q v w;
      goal = ap (λ (z : ℕ). z / 256 % 2) i ∙ packed_goal mask goal members size q v w;
      members = ap (λ (z : ℕ). z / 512 % 128) i ∙ packed_members mask goal members size q v w;
      size = ap (λ (z : ℕ). z / 65536) i ∙ packed_size mask goal members size q v w;
    }

-- symbols

module _ (t : List ℕ) (i start name word : ℕ) (k : i < 256) where
  abbrev put0 : List ℕ
  put0 = set t (symbol_at i 0) start

  abbrev put1 : List ℕ
  put1 = set put0 (symbol_at i 1) name

  pub rest_symbol : Rest t (symbol_written t i start name word)
  unfolding symbol_written
  rest_symbol =
      rest_set t put1 (symbol_at i 2) word (omega arith)
      (rest_set t put0 (symbol_at i 1) name (omega arith) (rest_set t t (symbol_at i 0) start (omega arith) (rest_refl t)))

  symbol_other : (j : ℕ) → ((f : ℕ) → f < 3 → j ≡ symbol_at i f → ⊥) → get_or (symbol_written t i start name word) j 0 ≡ get_or t j 0
  unfolding symbol_written
  symbol_other j h =
      get_or-set_other put1 (symbol_at i 2) j word 0 (h 2 (omega arith)) ∙ get_or-set_other put0 (symbol_at i 1) j name 0 (h 1 (omega arith))
      ∙ get_or-set_other t (symbol_at i 0) j start 0 (h 0 (omega arith))

  -- Writing a symbol keeps the nodes and the symbols before it.
  pub same_but_symbol : (nodes : ℕ) → Same t (symbol_written t i start name word) i nodes
  same_but_symbol nodes =
      record {
        symbol = λ j f l m. symbol_other (symbol_at j f) (λ g p e. omega arith);
        node = λ n f l m. symbol_other (node_at n f) (λ g p e. omega arith);
      }

  pub clause_kept_symbol : (j : ℕ) → clause_node (symbol_written t i start name word) j ≡ clause_node t j
  unfolding clause_node
  clause_kept_symbol j = symbol_other (clause_at j) (λ g p e. omega arith)

  module _ (h : 8192 ≤ length t) where
    pub written_start : name_start (symbol_written t i start name word) i ≡ start
    unfolding name_start symbol_written
    written_start =
        get_or-set_other put1 (symbol_at i 2) (symbol_at i 0) word 0 (λ e. omega arith)
        ∙ get_or-set_other put0 (symbol_at i 1) (symbol_at i 0) name 0 (λ e. omega arith)
        ∙ get_or-set_same t (symbol_at i 0) start 0 (omega arith)

    pub written_name : name_word (symbol_written t i start name word) i ≡ name
    unfolding name_word symbol_written
    written_name =
        get_or-set_other put1 (symbol_at i 2) (symbol_at i 1) word 0 (λ e. omega arith)
        ∙ get_or-set_same put0 (symbol_at i 1) name 0 (simp length-set (omega arith))

    written_word : get_or (symbol_written t i start name word) (symbol_at i 2) 0 ≡ word
    unfolding symbol_written
    written_word = get_or-set_same put1 (symbol_at i 2) word 0 (simp length-set (omega arith))

    pub written_function : is_function_bit (symbol_written t i start name word) i ≡ word % 2
    unfolding is_function_bit
    written_function = ap (λ (x : ℕ). x % 2) written_word

    pub written_arity : arity_of (symbol_written t i start name word) i ≡ word / 2
    unfolding arity_of
    written_arity = ap (λ (x : ℕ). x / 2) written_word

-- Writing a node keeps the clauses.

module _ (t : List ℕ) (i n : ℕ) where
  pub rest_clause : i < 128 → Rest t (set t (clause_at i) n)
  rest_clause k = rest_set t t (clause_at i) n (omega arith) (rest_refl t)

  pub same_but_clause : Same t (set t (clause_at i) n) 256 1024
  same_but_clause =
      record {
        symbol = λ j f l m. get_or-set_other t (clause_at i) (symbol_at j f) n 0 (λ e. omega arith);
        node = λ j f l m. get_or-set_other t (clause_at i) (node_at j f) n 0 (λ e. omega arith);
      }

  pub clause_other : (j : ℕ) → (j ≡ i → ⊥) → clause_node (set t (clause_at i) n) j ≡ clause_node t j
  unfolding clause_node
  clause_other j h = get_or-set_other t (clause_at i) (clause_at j) n 0 (λ e. h (omega arith))

  pub clause_written : 8192 ≤ length t → i < 128 → clause_node (set t (clause_at i) n) i ≡ n
  unfolding clause_node
  clause_written h k = get_or-set_same t (clause_at i) n 0 (omega arith)
