-- Where the table keeps what: 256 symbols of three numbers, 1,024 nodes of seven, 128 clauses of one, 8,064 in all; then the order.
use Rattle.std.specs.Prelude.{ℕ, zero, suc, ◌+◌, ◌*◌, ◌/◌, ◌%◌, List, get_or}

-- The numbers of a symbol and of a node, and where the nodes and the clauses begin.
abbrev pub symbol_numbers : ℕ
symbol_numbers = 3

abbrev pub node_numbers : ℕ
node_numbers = 7

abbrev pub first_node : ℕ
first_node = 768

abbrev pub first_clause : ℕ
first_clause = 7936

-- Where the order in force is, and its numbers (request W-207: the order in force, 0 for the default, 1 for `O latest`). Symbols, nodes and
-- clauses are all before it.
abbrev pub order_at : ℕ
order_at = 8064

abbrev pub default_order : ℕ
default_order = 0

abbrev pub former_order : ℕ
former_order = 1

-- Fields of a symbol: where its name starts on the sheet, its name's word, which has the length and a fingerprint (Fingerprints.antt), and
-- 2 * arity + 1 for a function symbol, 2 * arity for a predicate.
abbrev pub name_start_field : ℕ
name_start_field = 0

abbrev pub name_word_field : ℕ
name_word_field = 1

abbrev pub arity_field : ℕ
arity_field = 2

-- Fields of a node: kind + 16 * number of children, the label (the symbol, the variable, or 256 + n for the number n), the children, what
-- it is (below). A U node has one child; what it keeps in the fields of the others is in specs/Chains.antt.
abbrev pub head_field : ℕ
head_field = 0

abbrev pub label_field : ℕ
label_field = 1

abbrev pub first_child_field : ℕ
first_child_field = 2

abbrev pub second_child_field : ℕ
second_child_field = 3

abbrev pub third_child_field : ℕ
third_child_field = 4

abbrev pub fourth_child_field : ℕ
fourth_child_field = 5

abbrev pub info_field : ℕ
info_field = 6

-- What a fingerprint adds to the word of a name: the length is below it.
abbrev pub fingerprint_unit : ℕ
fingerprint_unit = 32

-- What a child adds to the head of a node; what a goal, a member and a symbol of a term add to what it is.
abbrev pub child_unit : ℕ
child_unit = 16

abbrev pub goal_unit : ℕ
goal_unit = 256

abbrev pub member_unit : ℕ
member_unit = 512

abbrev pub size_unit : ℕ
size_unit = 65536

-- Field f of symbol i.
abbrev pub symbol_at : ℕ → ℕ → ℕ
symbol_at i f = symbol_numbers * i + f

-- Field f of node n.
abbrev pub node_at : ℕ → ℕ → ℕ
node_at n f = first_node + (node_numbers * n + f)

-- Clause i: its node.
abbrev pub clause_at : ℕ → ℕ
clause_at i = first_clause + i

-- Kinds: V, F applied or N, P applied (an atom), Y, &, |, >, E, U.
abbrev pub variable_kind : ℕ
variable_kind = 0

abbrev pub application_kind : ℕ
application_kind = 1

abbrev pub atom_kind : ℕ
atom_kind = 2

abbrev pub true_kind : ℕ
true_kind = 3

abbrev pub and_kind : ℕ
and_kind = 4

abbrev pub or_kind : ℕ
or_kind = 5

abbrev pub implies_kind : ℕ
implies_kind = 6

abbrev pub exists_kind : ℕ
exists_kind = 7

abbrev pub forall_kind : ℕ
forall_kind = 8

-- Reading the fields. Past the end of the table all is 0.
unfoldable pub kind_of : List ℕ → ℕ → ℕ
kind_of t n = get_or t (node_at n head_field) 0 % child_unit

unfoldable pub child_count : List ℕ → ℕ → ℕ
child_count t n = get_or t (node_at n head_field) 0 / child_unit

unfoldable pub label_of : List ℕ → ℕ → ℕ
label_of t n = get_or t (node_at n label_field) 0

unfoldable pub child_of : List ℕ → ℕ → ℕ → ℕ
child_of t n j = get_or t (node_at n (first_child_field + j)) 0

-- What a node is, in one number: the mask of its free variables (variable v is bit v), whether it is a goal, its number of
-- members if it is a clause (else 0), its size if it is a term (else 0).
unfoldable pub info_of : List ℕ → ℕ → ℕ
info_of t n = get_or t (node_at n info_field) 0

unfoldable pub pack_info : ℕ → ℕ → ℕ → ℕ → ℕ
pack_info mask goal members size = mask + (goal_unit * goal + (member_unit * members + size_unit * size))

unfoldable pub mask_of : List ℕ → ℕ → ℕ
mask_of t n = info_of t n % goal_unit

unfoldable pub goal_bit : List ℕ → ℕ → ℕ
goal_bit t n = info_of t n / goal_unit % 2

unfoldable pub members_of : List ℕ → ℕ → ℕ
members_of t n = info_of t n / member_unit % 128

unfoldable pub size_of : List ℕ → ℕ → ℕ
size_of t n = info_of t n / size_unit

-- Bit v of a mask.
unfoldable pub bit_of : ℕ → ℕ → ℕ
bit_of mask zero = mask % 2
bit_of mask (suc v) = bit_of (mask / 2) v

-- Symbols and clauses.
unfoldable pub name_start : List ℕ → ℕ → ℕ
name_start t i = get_or t (symbol_at i name_start_field) 0

unfoldable pub name_word : List ℕ → ℕ → ℕ
name_word t i = get_or t (symbol_at i name_word_field) 0

unfoldable pub name_length : List ℕ → ℕ → ℕ
name_length t i = name_word t i % fingerprint_unit

unfoldable pub is_function_bit : List ℕ → ℕ → ℕ
is_function_bit t i = get_or t (symbol_at i arity_field) 0 % 2

unfoldable pub arity_of : List ℕ → ℕ → ℕ
arity_of t i = get_or t (symbol_at i arity_field) 0 / 2

unfoldable pub clause_node : List ℕ → ℕ → ℕ
clause_node t i = get_or t (clause_at i) 0

-- The number of the order in force (request W-207).
unfoldable pub order_number : List ℕ → ℕ
order_number t = get_or t order_at 0
