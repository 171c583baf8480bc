-- What F, P and A lines make in the table: the code's functions on lists. That they agree with the trees of document 01 is proved in
-- crate table_decoding.
use Rattle.std.specs.Prelude.{ℕ, zero, suc, ◌+◌, ◌*◌, ◌≤◌, ◌≡◌, Bool, true, false, cond, List, [], ◌∷◌, ltb, leb, eqb, length, take, drop, get_or, set, Ok, Err}
use Rattle.std.specs.Int.Bits.{bit_or}
use Rattle.outcomes.specs.declared.refusals.Reason.TheVariants.{TooMany, Unknown}
use Rattle.sheet_format.specs.Limits.{max_term_size, max_symbols, max_nodes}
use Rattle.sheet_format.specs.Bytes.{folded}
use Rattle.node_table.specs.Layout.{symbol_at, mask_of, size_of, pack_info, name_start, name_word, is_function_bit, arity_of, application_kind}
use Rattle.node_table.specs.Layout.{atom_kind, name_start_field, name_word_field, arity_field, child_unit}
use Rattle.node_table.specs.Fingerprints.{word_at}
use Rattle.table_builder.specs.declared.node_info.Counts.{Counts}
use Rattle.table_builder.specs.Nodes.{Made, made, counts, node_record, add_node}

-- Arguments: all there, all terms; their sizes added to s, their masks united with m.
unfoldable pub all_there : ℕ → List ℕ → Bool
all_there n [] = true
all_there n (a ∷ l) = cond (ltb a n) (all_there n l) false

unfoldable pub all_terms : List ℕ → List ℕ → Bool
all_terms t [] = true
all_terms t (a ∷ l) = cond (eqb (size_of t a) 0) false (all_terms t l)

unfoldable pub sizes_from : List ℕ → ℕ → List ℕ → ℕ
sizes_from t s [] = s
sizes_from t s (a ∷ l) = sizes_from t (s + size_of t a) l

unfoldable pub masks_from : List ℕ → ℕ → List ℕ → ℕ
masks_from t m [] = m
masks_from t m (a ∷ l) = masks_from t (bit_or m (mask_of t a)) l

-- "at most 1,024 variables and symbols"
unfoldable pub term_info : ℕ → ℕ → ℕ
term_info mask size = cond (leb size max_term_size) (pack_info mask 0 0 size) 0

unfoldable pub applied_info : List ℕ → ℕ → List ℕ → ℕ
applied_info t f args =
    cond (eqb (is_function_bit t f) 1) (term_info (masks_from t 0 args) (sizes_from t 1 args)) (pack_info (masks_from t 0 args) 1 1 0)

-- What an application is, as one number, is 0 where it is nothing.
unfoldable pub application_info : List ℕ → ℕ → List ℕ → ℕ
application_info t f args = cond (eqb (arity_of t f) (length args)) (cond (all_terms t args) (applied_info t f args) 0) 0

unfoldable pub applied_kind : List ℕ → ℕ → ℕ
applied_kind t f = cond (eqb (is_function_bit t f) 1) application_kind atom_kind

abbrev pub first_of : ℕ → ℕ → ℕ → ℕ → ℕ → List ℕ
first_of count a b c d = take count (a ∷ b ∷ c ∷ d ∷ [])

unfoldable pub insert_application : List ℕ → Counts → ℕ → ℕ → ℕ → ℕ → ℕ → ℕ → Made Counts
insert_application t k f count a b c d =
    cond (leb max_nodes k.nodes) (made t (Err TooMany))
    (cond (leb k.symbols f) (made t (Err Unknown))
    (cond (all_there k.nodes (first_of count a b c d))
    (add_node t k (node_record (applied_kind t f + child_unit * count) f a b c d (application_info t f (first_of count a b c d))))
    (made t (Err Unknown))))

-- F and P. The name stands on the sheet at `at`; it is symbol i's name; it is one of `left` symbols' names from the i-th on. Names are
-- compared whatever the case of their letters (request W-201), and only if their words are equal.
unfoldable pub same_at : List ℕ → ℕ → List ℕ → Bool
same_at sheet at [] = true
same_at sheet at (b ∷ l) = cond (eqb (folded (get_or sheet at 0)) (folded b)) (same_at sheet (at + 1) l) false

unfoldable pub name_is : List ℕ → List ℕ → ℕ → ℕ → List ℕ → Bool
name_is sheet t i word name = cond (eqb (name_word t i) word) (same_at sheet (name_start t i) name) false

unfoldable pub find_from : ℕ → List ℕ → List ℕ → ℕ → ℕ → List ℕ → Bool
find_from zero sheet t i word name = false
find_from (suc left) sheet t i word name = cond (name_is sheet t i word name) true (find_from left sheet t (i + 1) word name)

unfoldable pub find_name : List ℕ → List ℕ → ℕ → ℕ → List ℕ → Bool
find_name sheet t count word name = find_from count sheet t 0 word name

unfoldable pub symbol_written : List ℕ → ℕ → ℕ → ℕ → ℕ → List ℕ
symbol_written t i start name word =
    set (set (set t (symbol_at i name_start_field) start) (symbol_at i name_word_field) name) (symbol_at i arity_field) word

unfoldable pub symbol_word : Bool → ℕ → ℕ
symbol_word function arity = cond function (2 * arity + 1) (2 * arity)

-- The name is a part of the sheet: the bytes from `start` on.
abbrev pub StandsAt : List ℕ → ℕ → List ℕ → Type 0
StandsAt sheet start name = (start + length name ≤ length sheet) × (name ≡ take (length name) (drop start sheet))

unfoldable pub insert_declaration : List ℕ → List ℕ → Counts → Bool → ℕ → ℕ → ℕ → Made Counts
insert_declaration sheet t k function start len arity =
    cond (leb max_symbols k.symbols) (made t (Err TooMany))
    (cond (find_name sheet t k.symbols (word_at sheet start len) (take len (drop start sheet))) (made t (Err Unknown))
    (made (symbol_written t k.symbols start (word_at sheet start len) (symbol_word function arity))
    (Ok (counts (k.symbols + 1) k.nodes k.clauses))))
