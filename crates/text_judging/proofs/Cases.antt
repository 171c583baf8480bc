-- Numbering, spelling and judging on small texts, computed.
use Prim.Native.Nat.{ℕ}
use Prim.Native.String.{String}
use mathlib.Core.Path.{◌≡◌, refl}
use mathlib.Core.Bool.{true, false}
use mathlib.Core.List.{List, [], ◌∷◌}
use Rattle.terms.specs.Terms.{number_term, sheet_symbol, leaf, app, nil, cons}
use Rattle.formulas.specs.Formulas.{atom, implies, exists, forall, fact, rule, each}
use Rattle.formulas.specs.Rules.{Order, oldest, latest}
use Rattle.sequents.specs.Symbols.{made, leftover}
use Rattle.sequents.specs.Sequents.{Dsome, Dall}
use Rattle.sheet_format.specs.Bytes.{ascii}
use Rattle.sheet_format.specs.Nodes.{Declaration}
use Rattle.sheet_format.specs.Sheets.{Sheet}
use Rattle.answer_texts.specs.TextLines.{TextLine, binding_line, derivation_line}
use Rattle.answer_texts.specs.Judgements.{Judgement, valid, invalid}
use Rattle.answer_texts.proofs.Computing.{compute_text}
use Rattle.text_judging.proofs.Computing.{compute_judgement}

-- The symbols are p/2, f/2 and a/0.
abbrev symbols : List Declaration
symbols =
    record { function = false; name = ascii "p"; arity = 2 } ∷
    record { function = true; name = ascii "f"; arity = 2 } ∷
    record { function = true; name = ascii "a"; arity = 0 } ∷ []

unfoldable text : List TextLine → List ℕ
unfolding compute_text
text xs = compute_text symbols xs

-- Each kind has one count over all levels; a symbol keeps its number, and that number at another level is another symbol.
numbers : text (derivation_line (Dsome (leaf (leftover 5 0))) ∷ derivation_line (Dall (leaf (made 3 1))) ∷ derivation_line
    (Dsome (leaf (leftover 5 1)))
    ∷ derivation_line (Dsome (leaf (leftover 5 0))) ∷ []) ≡ ascii "D\tsome\t_0@0\nD\tall\t!0@1\nD\tsome\t_1@1\nD\tsome\t_0@0\n"
unfolding text ascii
numbers = refl

-- A term is spelled with names, brackets and commas, and a constant as the bare name.
spelling : text (binding_line 3 (app (sheet_symbol 1) (cons (app (sheet_symbol 2) nil) (cons (app (sheet_symbol 1) (cons (leaf (leftover 0 0)) (cons (app (sheet_symbol 2) nil) nil))) nil))) ∷ [])
    ≡ ascii "B\t3\tf(a,f(_0@0,a))\n"
unfolding text ascii
spelling = refl

-- Request W-204: a number is spelled in base ten.
numerals : text (binding_line 0 (app (sheet_symbol 1) (cons (number_term 0) (cons (number_term 65535) nil))) ∷ []) ≡ ascii "B\t0\tf(0,65535)\n"
unfolding text ascii
numerals = refl

-- The sheet has the clause every z p(z,z) and the goal every b some a p(a,b).
abbrev sheet : Sheet
sheet = record {
  order = oldest;
  symbols = symbols;
  clauses = each 7 (fact 0 (cons (leaf 7) (cons (leaf 7) nil))) ∷ [];
  goal = forall 1 (exists 0 (atom 0 (cons (leaf 0) (cons (leaf 1) nil))));
}

unfoldable says : String → Judgement
unfolding compute_judgement ascii
says t = compute_judgement sheet (ascii t)

-- The engine's text is valid, and so is a text of that derivation with other units.
right : says "R\tproved\t8\nD\tall\t!0@1\nD\tsome\t!0@1\nD\tclause\t1\t!0@1\n" ≡ valid
unfolding says
right = refl

other_units : says "R\tproved\t50000\nD\tall\t!0@1\nD\tsome\t!0@1\nD\tclause\t1\t!0@1\n" ≡ valid
unfolding says
other_units = refl

-- A wrong witness in range breaks where the atom is not the head; a witness above the level breaks its own line.
witness : says "R\tproved\t8\nD\tall\t!0@1\nD\tsome\t!1@1\nD\tclause\t1\t!0@1\n" ≡ invalid 4
unfolding says
witness = refl

high : says "R\tproved\t8\nD\tall\t!0@1\nD\tsome\t!1@2\n" ≡ invalid 3
unfolding says
high = refl

-- A constant of a wrong level, number or kind breaks its line.
constant_level_lem : says "R\tproved\t8\nD\tall\t!0@2\n" ≡ invalid 2
unfolding says
constant_level_lem = refl

constant_number : says "R\tproved\t8\nD\tall\t!1@1\n" ≡ invalid 2
unfolding says
constant_number = refl

constant_kind : says "R\tproved\t8\nD\tall\t_0@1\n" ≡ invalid 2
unfolding says
constant_kind = refl

-- A wrong place or a wrong number of prefix terms breaks its line.
place : says "R\tproved\t8\nD\tall\t!0@1\nD\tsome\t!0@1\nD\tclause\t2\t!0@1\n" ≡ invalid 4
unfolding says
place = refl

few : says "R\tproved\t8\nD\tall\t!0@1\nD\tsome\t!0@1\nD\tclause\t1\n" ≡ invalid 4
unfolding says
few = refl

-- A text with missing or surplus lines, no LF at the end, no byte, another outcome or wrong units is not valid.
missing : says "R\tproved\t8\nD\tall\t!0@1\n" ≡ invalid 3
unfolding says
missing = refl

surplus : says "R\tproved\t8\nD\tall\t!0@1\nD\tsome\t!0@1\nD\tclause\t1\t!0@1\n\n" ≡ invalid 5
unfolding says
surplus = refl

no_lf : says "R\tproved\t8\nD\tall\t!0@1\nD\tsome\t!0@1\nD\tclause\t1\t!0@1" ≡ invalid 4
unfolding says
no_lf = refl

unfinished : says "R\tproved\t8\nD\tall\t!0@1\nD\tsome\t!0@1\nD\tclause\t1\t!0@1\nx" ≡ invalid 5
unfolding says
unfinished = refl

empty : says "" ≡ invalid 1
unfolding says
empty = refl

outcome_no : says "R\tno\t8\n" ≡ invalid 1
unfolding says
outcome_no = refl

units_0 : says "R\tproved\t0\n" ≡ invalid 1
unfolding says
units_0 = refl

units_50001 : says "R\tproved\t50001\n" ≡ invalid 1
unfolding says
units_50001 = refl

-- The clauses are every z (q(z) implies p) and q(a); a prefix term that only the body uses is needed too.
abbrev in_body : Sheet
in_body = record {
  order = oldest;
  symbols = record { function = false; name = ascii "p"; arity = 0 } ∷ record { function = false; name = ascii "q"; arity = 1 }
      ∷ record { function = true; name = ascii "a"; arity = 0 } ∷ [];
  clauses = each 7 (rule (atom 1 (cons (leaf 7) nil)) 0 nil) ∷ fact 1 (cons (app (sheet_symbol 2) nil) nil) ∷ [];
  goal = atom 0 nil;
}

unfoldable judges : String → Judgement
unfolding compute_judgement ascii
judges t = compute_judgement in_body (ascii t)

body_term : judges "R\tproved\t6\nD\tclause\t1\ta\nD\tclause\t2\n" ≡ valid
unfolding judges
body_term = refl

no_body_term : judges "R\tproved\t6\nD\tclause\t1\n" ≡ invalid 2
unfolding judges
no_body_term = refl

-- Request W-201: a name may stand in either case, each time in its own. Letters and words of lines are exact, and `_` is not folded.
abbrev capitals : Sheet
capitals = record {
  order = oldest;
  symbols = record { function = false; name = ascii "Lamp"; arity = 1 } ∷ record { function = true; name = ascii "Strobe_1"; arity = 0 } ∷ [];
  clauses = each 7 (fact 0 (cons (leaf 7) nil)) ∷ [];
  goal = atom 0 (cons (leaf 3) nil);
}

unfoldable tells : String → Judgement
unfolding compute_judgement ascii
tells t = compute_judgement capitals (ascii t)

other_case : tells "R\tproved\t3\nB\t3\tSTROBE_1\nD\tclause\t1\tstrobe_1\n" ≡ valid
unfolding tells
other_case = refl

other_mark : tells "R\tproved\t3\nB\t3\tSTROBE?1\n" ≡ invalid 2
unfolding tells
other_mark = refl

case_of_word : tells "R\tproved\t3\nB\t3\tSTROBE_1\nD\tCLAUSE\t1\tstrobe_1\n" ≡ invalid 3
unfolding tells
case_of_word = refl

case_of_outcome : tells "R\tProved\t3\n" ≡ invalid 1
unfolding tells
case_of_outcome = refl

case_of_letter : tells "R\tproved\t3\nb\t3\tstrobe_1\n" ≡ invalid 2
unfolding tells
case_of_letter = refl

-- Request W-204: any number may stand for a variable, on the sheet or not, in the form of numbers and without arguments.
abbrev anything : Sheet
anything = record {
  order = oldest;
  symbols = record { function = false; name = ascii "p"; arity = 1 } ∷ record { function = true; name = ascii "f"; arity = 1 } ∷ [];
  clauses = each 7 (fact 0 (cons (leaf 7) nil)) ∷ [];
  goal = exists 0 (atom 0 (cons (leaf 0) nil));
}

unfoldable answers : String → Judgement
unfolding compute_judgement ascii
answers t = compute_judgement anything (ascii t)

any_number : answers "R\tproved\t5\nD\tsome\t513\nD\tclause\t1\t513\n" ≡ valid
unfolding answers
any_number = refl

inside : answers "R\tproved\t5\nD\tsome\tf(65535)\nD\tclause\t1\tf(65535)\n" ≡ valid
unfolding answers
inside = refl

another_number : answers "R\tproved\t5\nD\tsome\t513\nD\tclause\t1\t514\n" ≡ invalid 3
unfolding answers
another_number = refl

zeros_first : answers "R\tproved\t5\nD\tsome\t0513\nD\tclause\t1\t0513\n" ≡ invalid 2
unfolding answers
zeros_first = refl

too_large : answers "R\tproved\t5\nD\tsome\t65536\nD\tclause\t1\t65536\n" ≡ invalid 2
unfolding answers
too_large = refl

number_applied : answers "R\tproved\t5\nD\tsome\t5(5)\nD\tclause\t1\t5(5)\n" ≡ invalid 2
unfolding answers
number_applied = refl

letters_after : answers "R\tproved\t5\nD\tsome\t5a\nD\tclause\t1\t5a\n" ≡ invalid 2
unfolding answers
letters_after = refl

-- A number is no made constant: line 2 of the engine's text with a number in the place of one.
number_for_all : says "R\tproved\t8\nD\tall\t5\nD\tsome\t5\nD\tclause\t1\t5\n" ≡ invalid 2
unfolding says
number_for_all = refl

-- Request W-207: p implies q, with the clause q of the sheet. The place of the clause follows the order in force.
abbrev supposing : Order → Sheet
supposing o = record {
  order = o;
  symbols = record { function = false; name = ascii "p"; arity = 0 } ∷ record { function = false; name = ascii "q"; arity = 0 } ∷ [];
  clauses = fact 1 nil ∷ [];
  goal = implies (fact 0 nil) (atom 1 nil);
}

unfoldable judged : Order → String → Judgement
unfolding compute_judgement ascii
judged o t = compute_judgement (supposing o) (ascii t)

sheet_first : judged oldest "R\tproved\t3\nD\tassume\nD\tclause\t1\n" ≡ valid
unfolding judged
sheet_first = refl

sheet_not_second : judged oldest "R\tproved\t3\nD\tassume\nD\tclause\t2\n" ≡ invalid 3
unfolding judged
sheet_not_second = refl

assumption_first : judged latest "R\tproved\t4\nD\tassume\nD\tclause\t2\n" ≡ valid
unfolding judged
assumption_first = refl

sheet_not_first : judged latest "R\tproved\t4\nD\tassume\nD\tclause\t1\n" ≡ invalid 3
unfolding judged
sheet_not_first = refl
