-- U nodes in a row. A U node keeps what the row from it on comes to, in the fields of the children that it has not: the first node below
-- that is no U node, and the names that the row binds there, outermost first, as digits to base 8, lowest first. A U binds nothing if its
-- name does not stand free below it, so that no name stands twice.
use Rattle.std.specs.Prelude.{ℕ, ◌+◌, ◌*◌, ◌%◌, Bool, cond, List, eqb}
use Rattle.sheet_format.specs.Limits.{variable_names}
use Rattle.node_table.specs.Layout.{forall_kind, kind_of, child_of, mask_of, bit_of}

-- So many numbers have eight digits to base 8.
abbrev pub prefixes : ℕ
prefixes = 16777216

-- The node below, the digits of the names, and how many there are. A node that is no U node is itself below, with no names.
unfoldable pub below_of : List ℕ → ℕ → ℕ
below_of t n = cond (eqb (kind_of t n) forall_kind) (child_of t n 1) n

unfoldable pub chain_names : List ℕ → ℕ → ℕ
chain_names t n = cond (eqb (kind_of t n) forall_kind) (child_of t n 2) 0

unfoldable pub chain_count : List ℕ → ℕ → ℕ
chain_count t n = cond (eqb (kind_of t n) forall_kind) (child_of t n 3) 0

-- The name v stands free in node a.
unfoldable pub is_free : List ℕ → ℕ → ℕ → Bool
is_free t v a = eqb (bit_of (mask_of t a) v) 1

-- One name more, in front of others, and counted.
unfoldable pub name_before : ℕ → ℕ → ℕ
name_before v names = v % variable_names + variable_names * (names % prefixes)

unfoldable pub one_more : ℕ → ℕ
one_more count = count % variable_names + 1

-- The names, and how many there are, with U of variable v over node a.
unfoldable pub names_over : List ℕ → ℕ → ℕ → ℕ
names_over t v a = cond (is_free t v a) (name_before v (chain_names t a)) (chain_names t a)

unfoldable pub count_over : List ℕ → ℕ → ℕ → ℕ
count_over t v a = cond (is_free t v a) (one_more (chain_count t a)) (chain_count t a)
