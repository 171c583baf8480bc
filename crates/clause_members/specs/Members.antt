-- The k-th member of the clause at a node, found by walking down the table. A leaf is the node of an atom or of an implication.
use Rattle.std.specs.Prelude.{ℕ, zero, suc, ◌-◌, ◌/◌, ◌%◌, ◌≡◌, Bool, true, false, cond, List, eqb, ltb}
use Rattle.sheet_format.specs.Limits.{max_nodes, variable_names}
use Rattle.node_table.specs.Layout.{and_kind, implies_kind, kind_of, child_of, mask_of, bit_of, members_of}
use Rattle.node_table.specs.Chains.{below_of, chain_names, chain_count, name_before, one_more}
use Rattle.clause_members.specs.declared.Found.{Found}
use Rattle.clause_members.specs.declared.Side.{Side}

-- The leaf, the digits of the prefix's names, and how many there are. On the way down: the node that the walk has come to, and the names
-- that the U nodes above it bind.
abbrev pub found : ℕ → ℕ → ℕ → Found
found leaf names count = record { leaf = leaf; names = names; count = count }

-- A side of an & node, and the number that the member has there.
abbrev pub side : ℕ → ℕ → Side
side node place = record { node = node; place = place }

-- The walk goes on to node n.
unfoldable pub with_leaf : Found → ℕ → Found
with_leaf m n = found n m.names m.count

-- "& gives the left's, then the right's": where member k of the & node n is.
unfoldable pub side_of : List ℕ → ℕ → ℕ → Side
side_of t n k =
    cond (ltb k (members_of t (child_of t n 0))) (side (child_of t n 0) k) (side (child_of t n 1) (k - members_of t (child_of t n 0)))

-- The U nodes from n on: the node below them, and the names that they bind there.
unfoldable pub chain_at : List ℕ → ℕ → Found
chain_at t n = found (below_of t n) (chain_names t n) (chain_count t n)

-- One name more, in front.
unfoldable pub push_name : ℕ → Found → Found
push_name v m = found m.leaf (name_before v m.names) (one_more m.count)

-- One name more in front, if it is in the mask.
unfoldable pub push_free : ℕ → ℕ → Found → Found
push_free mask v m = cond (eqb (bit_of mask v) 1) (push_name v m) m

-- Of the names of n digits those that are in the mask, in reverse order, in front of those of m.
unfoldable pub reverse_free : ℕ → ℕ → ℕ → Found → Found
reverse_free zero vs mask m = m
reverse_free (suc n) vs mask m = reverse_free n (vs / variable_names) mask (push_free mask (vs % variable_names) m)

-- The walk passes the U nodes from its node on. Of the names above them those that stand free there stay, in their order: any other is
-- bound again by a U below, or binds nothing.
unfoldable pub pass_chain : List ℕ → Found → Found
pass_chain t m =
    let r = reverse_free m.count m.names (mask_of t m.leaf) (found m.leaf 0 0) in
    reverse_free r.count r.names (mask_of t m.leaf) (chain_at t m.leaf)

-- Children have smaller numbers: the first argument is above the node's. Branches by `elim`, of which only the one that is taken is
-- computed.
unfoldable pub find_member : ℕ → List ℕ → ℕ → Found → Found
find_member zero t k m = m
find_member (suc f) t k m =
    elim (eqb (kind_of t m.leaf) and_kind) [
      | true ↦ find_member f t (side_of t m.leaf k).place (with_leaf m (side_of t m.leaf k).node)
      | false ↦
          elim (eqb (kind_of t (pass_chain t m).leaf) and_kind) [ true ↦ find_member f t k (pass_chain t m) | false ↦ pass_chain t m ]
    ]

-- What a walk finds that may leave the names aside: the same leaf and, with the names, the same in all.
abbrev pub FoundAs : Bool → Found → Found → Type 0
FoundAs names r m = (r.leaf ≡ m.leaf) × (names ≡ true → r ≡ m)

-- At any node of a table.
unfoldable pub member : List ℕ → ℕ → ℕ → Found
member t n k = find_member max_nodes t k (found n 0 0)

-- The node of a leaf's head; an implication has a body.
unfoldable pub head_of : List ℕ → ℕ → ℕ
head_of t n = cond (eqb (kind_of t n) implies_kind) (child_of t n 1) n
