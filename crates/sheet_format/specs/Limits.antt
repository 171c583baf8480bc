-- The numbers that document 01 fixes, each once.
use Rattle.std.specs.Prelude.{ℕ}
pub use Rattle.formulas.specs.Formulas.{variable_names}

-- "Numbers are in base ten, without sign or leading zeros, up to 65,535."
abbrev pub max_number : ℕ
max_number = 65535

-- "Names are 1 to 16 of a to z, 0 to 9 and `_`", and of A to Z by request W-201.
abbrev pub max_name : ℕ
max_name = 16

-- "arity 0 to 4" fixes this number; the eight names of variables are in `formulas`.
abbrev pub max_arity : ℕ
max_arity = 4

-- "Terms on a sheet are V and F applications of at most 1,024 variables and symbols"
abbrev pub max_term_size : ℕ
max_term_size = 1024

-- "& of clauses with at most 64 members in all"
abbrev pub max_members : ℕ
max_members = 64

-- "A line would make symbol 257, node 1,025 or clause 129."
abbrev pub max_symbols : ℕ
max_symbols = 256

abbrev pub max_nodes : ℕ
max_nodes = 1024

abbrev pub max_clauses : ℕ
max_clauses = 128

-- The next five numbers are those of refusals 1 to 5 and 12.
abbrev pub max_sheet_bytes : ℕ
max_sheet_bytes = 16384

abbrev pub table_numbers : ℕ
table_numbers = 8192

abbrev pub max_budget : ℕ
max_budget = 50000

abbrev pub numbers_per_unit : ℕ
numbers_per_unit = 64

abbrev pub max_text_bytes : ℕ
max_text_bytes = 65535

-- Request W-202: "The caller gives a number from 1 to 64": the number of proofs.
abbrev pub max_proofs : ℕ
max_proofs = 64
