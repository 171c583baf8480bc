-- Refusals 6 to 11 with their lines, on small sheets, computed. Limits at and one past are in the tests.
use Prim.Native.Nat.{ℕ}
use Prim.Native.String.{String}
use mathlib.Core.Path.{◌≡◌, refl}
use Rattle.formulas.specs.Rules.{Order, oldest, latest}
use Rattle.sheet_format.specs.Bytes.{ascii}
use Rattle.sheet_format.specs.Sheets.{Read, sheet, refused}
use Rattle.sheet_format.proofs.Computing.{compute_sheet}

-- A refusal is told as its number and its line, a sheet as 0 and 0.
abbrev told : Read → ℕ × ℕ
told (sheet s) = (0, 0)
told (refused r) = (r.number, r.line)

unfoldable reads : String → ℕ × ℕ
unfolding compute_sheet
reads s = told (compute_sheet (ascii s))

-- The default order is told as 1, the former one as 2, a refusal as 0.
abbrev order_number : Order → ℕ
order_number oldest = 1
order_number latest = 2

abbrev order_told : Read → ℕ
order_told (sheet s) = order_number s.order
order_told (refused r) = 0

unfoldable order : String → ℕ
unfolding compute_sheet
order s = order_told (compute_sheet (ascii s))

-- Refusal 6 is for a letter, field count, number, name, arity, variable, no LF, an empty line, or five nodes.
letter : reads "y\n" ≡ (6, 1)
unfolding reads
letter = refl

count : reads "Y\t\n" ≡ (6, 1)
unfolding reads
count = refl

leading_zero : reads "P\tp\t00\n" ≡ (6, 1)
unfolding reads
leading_zero = refl

over : reads "P\tp\t0\nA\t65536\n" ≡ (6, 2)
unfolding reads
over = refl

name : reads "P\t_p\t0\n" ≡ (6, 1)
unfolding reads
name = refl

long_name : reads "P\ta234567890123456\t0\nP\ta2345678901234567\t0\n" ≡ (6, 2)
unfolding reads
long_name = refl

arity : reads "F\tf\t4\nF\tg\t5\n" ≡ (6, 2)
unfolding reads
arity = refl

variable : reads "V\t7\nV\t8\n" ≡ (6, 2)
unfolding reads
variable = refl

no_lf : reads "Y\nQ\t0" ≡ (6, 2)
unfolding reads
no_lf = refl

empty_line : reads "\n" ≡ (6, 1)
unfolding reads
empty_line = refl

five_nodes : reads "A\t0\t1\t2\t3\t4\t5\n" ≡ (6, 1)
unfolding reads
five_nodes = refl

-- Refusal 8 is for a symbol not yet there, a node's own number, or a name declared again.
unknown : reads "P\tp\t0\nA\t1\n" ≡ (8, 2)
unfolding reads
unknown = refl

own_number : reads "E\t0\t0\n" ≡ (8, 1)
unfolding reads
own_number = refl

again : reads "P\tp\t0\nF\tp\t1\n" ≡ (8, 2)
unfolding reads
again = refl

-- Refusal 9 is for neither kind, a wrong arity, or a wrong kind at C and Q; > to what is no atom is no clause.
neither_kind : reads "Y\nV\t0\n&\t0\t1\n" ≡ (9, 3)
unfolding reads
neither_kind = refl

wrong_arity : reads "P\tp\t1\nA\t0\n" ≡ (9, 2)
unfolding reads
wrong_arity = refl

clause_kind : reads "Y\nC\t0\n" ≡ (9, 2)
unfolding reads
clause_kind = refl

goal_kind : reads "V\t0\nQ\t0\n" ≡ (9, 2)
unfolding reads
goal_kind = refl

no_rule : reads "P\tp\t0\nA\t0\n&\t0\t0\n>\t0\t1\nC\t2\n" ≡ (9, 5)
unfolding reads
no_rule = refl

-- A clause of 64 members passes, and one of 65 does not.
members_64 : reads "P\tp\t0\nA\t0\n&\t0\t0\n&\t1\t1\n&\t2\t2\n&\t3\t3\n&\t4\t4\n&\t5\t5\nC\t6\nQ\t0\n" ≡ (0, 0)
unfolding reads
members_64 = refl

members_65 : reads "P\tp\t0\nA\t0\n&\t0\t0\n&\t1\t1\n&\t2\t2\n&\t3\t3\n&\t4\t4\n&\t5\t5\n&\t6\t0\nC\t7\nQ\t0\n" ≡ (9, 10)
unfolding reads
members_65 = refl

-- A term of 1,024 variables and symbols passes, and one with one more does not.
term_1024 : reads
    "F\tf\t2\nF\tg\t1\nV\t0\nA\t0\t0\t0\nA\t0\t1\t1\nA\t0\t2\t2\nA\t0\t3\t3\nA\t0\t4\t4\nA\t0\t5\t5\nA\t0\t6\t6\nA\t0\t7\t7\nA\t0\t8\t8\nA\t1\t9\nY\nQ\t11\n" ≡ (0, 0)
unfolding reads
term_1024 = refl

term_1025 : reads
    "F\tf\t2\nF\tg\t1\nV\t0\nA\t0\t0\t0\nA\t0\t1\t1\nA\t0\t2\t2\nA\t0\t3\t3\nA\t0\t4\t4\nA\t0\t5\t5\nA\t0\t6\t6\nA\t0\t7\t7\nA\t0\t8\t8\nA\t1\t9\nA\t1\t10\n" ≡ (9, 14)
unfolding reads
term_1025 = refl

-- Refusal 10 is for a free variable in a clause, and a bound one passes.
open_clause : reads "P\tp\t1\nV\t7\nA\t0\t0\nC\t1\n" ≡ (10, 4)
unfolding reads
open_clause = refl

closed : reads "P\tp\t1\nV\t7\nA\t0\t0\nU\t7\t1\nC\t2\nQ\t1\n" ≡ (0, 0)
unfolding reads
closed = refl

-- Refusal 11 is for no Q line, or for bytes after it.
no_goal : reads "Y\n" ≡ (11, 2)
unfolding reads
no_goal = refl

surplus : reads "Y\nQ\t0\n?" ≡ (11, 3)
unfolding reads
surplus = refl

-- Request W-201: a name may have capitals, first too, and a name that differs in case only is declared already. A line's letter is exact.
capitals : reads "P\tStROBE_9\t0\nA\t0\nQ\t0\n" ≡ (0, 0)
unfolding reads
capitals = refl

declared_in_capitals : reads "F\tStrobe\t0\nP\tSTROBE\t1\n" ≡ (8, 2)
unfolding reads
declared_in_capitals = refl

underscore_not_folded : reads "F\ta_\t0\nF\ta\t0\nY\nQ\t0\n" ≡ (0, 0)
unfolding reads
underscore_not_folded = refl

small_line_letter : reads "f\ta\t0\n" ≡ (6, 1)
unfolding reads
small_line_letter = refl

-- Request W-204: an N line has one number up to 65,535, in the form of numbers.
numeral_most : reads "N\t65535\nY\nQ\t1\n" ≡ (0, 0)
unfolding reads
numeral_most = refl

numeral_over : reads "N\t65536\n" ≡ (6, 1)
unfolding reads
numeral_over = refl

numeral_zeros : reads "N\t0\nN\t01\n" ≡ (6, 2)
unfolding reads
numeral_zeros = refl

numeral_missing : reads "N\n" ≡ (6, 1)
unfolding reads
numeral_missing = refl

numeral_twice : reads "N\t1\t2\n" ≡ (6, 1)
unfolding reads
numeral_twice = refl

-- It is a term and nothing else, and one of the 1,024 variables and symbols of a term.
numeral_goal : reads "N\t5\nQ\t0\n" ≡ (9, 2)
unfolding reads
numeral_goal = refl

numeral_clause : reads "N\t5\nC\t0\n" ≡ (9, 2)
unfolding reads
numeral_clause = refl

numeral_part : reads "N\t5\nY\n&\t1\t0\n" ≡ (9, 3)
unfolding reads
numeral_part = refl

numeral_argument : reads "P\tp\t1\nN\t5\nA\t0\t0\nC\t1\nQ\t1\n" ≡ (0, 0)
unfolding reads
numeral_argument = refl

numerals_1025 : reads
    "F\tf\t2\nF\tg\t1\nN\t0\nA\t0\t0\t0\nA\t0\t1\t1\nA\t0\t2\t2\nA\t0\t3\t3\nA\t0\t4\t4\nA\t0\t5\t5\nA\t0\t6\t6\nA\t0\t7\t7\nA\t0\t8\t8\nA\t1\t9\nA\t1\t10\n" ≡ (9, 14)
unfolding reads
numerals_1025 = refl

-- Request W-207: without an O line the order is the default one, with it the former one.
no_order : order "Y\nQ\t0\n" ≡ 1
unfolding order
no_order = refl

order_latest : order "O\tlatest\nY\nQ\t0\n" ≡ 2
unfolding order
order_latest = refl

-- The O line counts as a line, and a sheet of nothing else has no Q line.
order_alone : reads "O\tlatest\n" ≡ (11, 2)
unfolding reads
order_alone = refl

order_counts : reads "O\tlatest\nY\nV\t8\n" ≡ (6, 3)
unfolding reads
order_counts = refl

-- Without LF, with another word, with a capital, with no word or with a third field it is malformed.
order_no_lf : reads "O\tlatest" ≡ (6, 1)
unfolding reads
order_no_lf = refl

order_word : reads "O\toldest\nY\nQ\t0\n" ≡ (6, 1)
unfolding reads
order_word = refl

order_capital : reads "O\tLatest\nY\nQ\t0\n" ≡ (6, 1)
unfolding reads
order_capital = refl

order_small_letter : reads "o\tlatest\nY\nQ\t0\n" ≡ (6, 1)
unfolding reads
order_small_letter = refl

order_no_word : reads "O\nY\nQ\t0\n" ≡ (6, 1)
unfolding reads
order_no_word = refl

order_third_field : reads "O\tlatest\t\nY\nQ\t0\n" ≡ (6, 1)
unfolding reads
order_third_field = refl

-- A second one, or one further down, is malformed too, and after the Q line it is one line too many.
order_twice : reads "O\tlatest\nO\tlatest\nY\nQ\t0\n" ≡ (6, 2)
unfolding reads
order_twice = refl

order_later : reads "Y\nO\tlatest\nQ\t0\n" ≡ (6, 2)
unfolding reads
order_later = refl

order_after : reads "Y\nQ\t0\nO\tlatest\n" ≡ (11, 3)
unfolding reads
order_after = refl

order_after_former : reads "O\tlatest\nY\nQ\t0\nO\tlatest\n" ≡ (11, 4)
unfolding reads
order_after_former = refl
