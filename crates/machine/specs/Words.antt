-- Packed words: a variable, a made constant (by the act that made it), or a closure: the node of an
-- application with the frame that its names are read in. Every word and pointer of a search within 50,000 acts is below 2 ^ 32.
use Rattle.std.specs.Prelude.{ℕ, ◌+◌, ◌-◌, ◌*◌, ◌/◌, ◌%◌, cond, List, eqb, ltb}
use Rattle.terms.specs.Terms.{sheet_symbol, Term, leaf, app, nil, substitute}
use Rattle.unification.specs.Store.{Leaf, var, con}
use Rattle.sheet_format.specs.Limits.{max_nodes, variable_names}
use Rattle.node_table.specs.Layout.{kind_of, label_of, variable_kind}
use Rattle.node_table.specs.Decoding.{term_at}
use Rattle.machine.specs.Fields as fields
use Rattle.machine.specs.Records.{cell_of}
use Rattle.memory.specs.Records.{field}

-- Tags, which are the remainders of words by the number of tags.
abbrev pub tag_count : ℕ
tag_count = 4

abbrev pub variable_tag : ℕ
variable_tag = 1

abbrev pub constant_tag : ℕ
constant_tag = 2

abbrev pub closure_tag : ℕ
closure_tag = 3

-- A number kept in 32 bits, and the number after it.
unfoldable pub truncate : ℕ → ℕ
truncate a = a % 4294967296

unfoldable pub increment : ℕ → ℕ
increment a = truncate (a + 1)

unfoldable pub variable_word : ℕ → ℕ
variable_word x = truncate (tag_count * x + variable_tag)

unfoldable pub constant_word : ℕ → ℕ
constant_word c = truncate (tag_count * c + constant_tag)

unfoldable pub closure_word : ℕ → ℕ → ℕ
closure_word n f = truncate (tag_count * (max_nodes * f + n) + closure_tag)

-- The parts of a word.
unfoldable pub tag_of : ℕ → ℕ
tag_of a = a % tag_count

unfoldable pub name_of : ℕ → ℕ
name_of a = a / tag_count

unfoldable pub node_of : ℕ → ℕ
node_of a = a / tag_count % max_nodes

unfoldable pub frame_of : ℕ → ℕ
frame_of a = a / tag_count / max_nodes

-- What name v stands for in a frame. Frame 0 is the first environment: name v is variable v.
unfoldable pub slot_of : List ℕ → ℕ → ℕ → ℕ
slot_of w f v = cond (eqb f 0) (variable_word v) (field w (f - 1) (fields.frame + v))

-- The word of a term's node in a frame.
unfoldable pub word_of : List ℕ → List ℕ → ℕ → ℕ → ℕ
word_of t w n f = cond (eqb (kind_of t n) variable_kind) (slot_of w f (label_of t n)) (closure_word n f)

-- What a word is bound to; 0 where it is no variable, or an unbound one.
unfoldable pub binding_of : List ℕ → ℕ → ℕ
binding_of w a = cond (eqb (tag_of a) variable_tag) (cell_of w (name_of a)) 0

-- How words are read back: a leaf, an environment, a term.
unfoldable pub leaf_of : List ℕ → ℕ → Leaf
leaf_of w a = cond (eqb (tag_of a) variable_tag) (var (name_of a)) (con (name_of a) (field w (name_of a) fields.constant_level))

unfoldable pub environment_at : List ℕ → ℕ → ℕ → Term Leaf
environment_at w f v = cond (ltb v variable_names) (leaf (leaf_of w (slot_of w f v))) (app (sheet_symbol 0) nil)

unfoldable pub term_of : List ℕ → List ℕ → ℕ → Term Leaf
term_of t w a = cond (eqb (tag_of a) closure_tag) (substitute (term_at t (node_of a)) (environment_at w (frame_of a))) (leaf (leaf_of w a))
