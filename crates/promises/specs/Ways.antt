-- Request W-202: "The text holds the proofs in walk order, each with its R line and the units so far, then an R line with no or spent if
-- fewer were found." Cases on bytes in and bytes out, in which "The checker takes each proof by itself".
use Rattle.std.specs.Prelude.{ℕ, ◌*◌, ◌≡◌, List, [], ◌∷◌, map, length}
use Prim.Native.String.{String}
use Rattle.terms.specs.Lists.{All}
use Rattle.sheet_format.specs.Limits.{table_numbers, max_text_bytes}
use Rattle.sheet_format.specs.Bytes.{ascii}
use Rattle.sheet_format.specs.Sheets.{refusal}
use Rattle.answer_texts.specs.Judgements.{Judgement, valid, invalid}
use Rattle.engine_spec.specs.EngineRun.{Request, Reported, reported_proved, reported_no, reported_spent, answered, turned_back, engine_run}
use Rattle.engine_spec.specs.Promises.{join_texts}
use Rattle.checker_spec.specs.CheckText.{judged, check_text, count_lf}

-- A sheet and what is asked for, with the outcome and units of the last R line, the proofs by themselves, and the line after them.
pub record WaysCase : Type 0 where
  pub sheet : String
  pub ask : Request
  pub outcome : Reported
  pub units : ℕ
  pub proofs : List String
  pub line : String

-- So many units, and so many proofs.
abbrev pub asks : ℕ → ℕ → Request
asks budget proofs = record { budget = budget; proofs = proofs }

abbrev pub ways : String → Request → Reported → ℕ → List String → String → WaysCase
ways s ask o n ps l = record { sheet = s; ask = ask; outcome = o; units = n; proofs = ps; line = l }

-- The sheet has the facts p(a), p(b) and p(c), and the free goal p(v).
abbrev pub three_facts : String
three_facts = "P\tp\t1\nF\ta\t0\nA\t1\nA\t0\t0\nC\t1\nF\tb\t0\nA\t2\nA\t0\t2\nC\t3\nF\tc\t0\nA\t3\nA\t0\t4\nC\t5\nV\t0\nA\t0\t6\nQ\t7\n"

abbrev pub first : String
first = "R\tproved\t4\nB\t0\ta\nD\tclause\t1\n"

abbrev pub second : String
second = "R\tproved\t7\nB\t0\tb\nD\tclause\t2\n"

abbrev pub third : String
third = "R\tproved\t10\nB\t0\tc\nD\tclause\t3\n"

-- The sheet has the same C line twice.
abbrev pub same_line_twice : String
same_line_twice = "P\tp\t0\nA\t0\nC\t0\nC\t0\nQ\t0\n"

-- The goal is p and p, each of which has two proofs.
abbrev pub two_twice : String
two_twice = "P\tp\t0\nA\t0\nC\t0\nC\t0\n&\t0\t0\nQ\t1\n"

abbrev pub four_pairs : List String
four_pairs =
    "R\tproved\t5\nD\tand\nD\tclause\t1\nD\tclause\t1\n" ∷
    "R\tproved\t6\nD\tand\nD\tclause\t1\nD\tclause\t2\n" ∷
    "R\tproved\t9\nD\tand\nD\tclause\t2\nD\tclause\t1\n" ∷
    "R\tproved\t10\nD\tand\nD\tclause\t2\nD\tclause\t2\n" ∷
    []

-- The sheet has the clauses every v p(v,a) and every v p(b,v), and the free goal p(w,x).
abbrev pub leftovers : String
leftovers =
    "P\tp\t2\nV\t0\nF\ta\t0\nA\t1\nA\t0\t0\t1\nU\t0\t2\nC\t3\nF\tb\t0\nA\t2\nA\t0\t4\t0\nU\t0\t5\nC\t6\nV\t1\nV\t2\nA\t0\t7\t8\nQ\t9\n"

-- The sheet has the clauses n(z) and every v n(s(v)) if n(v), and the free goal n(v): there is no last proof.
abbrev pub no_last : String
no_last = "P\tn\t1\nF\tz\t0\nA\t1\nA\t0\t0\nC\t1\nV\t0\nA\t0\t2\nF\ts\t1\nA\t2\t2\nA\t0\t4\n>\t3\t5\nU\t0\t6\nC\t7\nQ\t3\n"

-- A number reached exactly, though nothing is left, has no further R line; spent reports the budget; "each numbers its variables and
-- constants from 0".
unfoldable pub several : List WaysCase
several =
    ways three_facts (asks 256 1) reported_proved 4 (first ∷ []) "" ∷
    ways three_facts (asks 256 2) reported_proved 7 (first ∷ second ∷ []) "" ∷
    ways three_facts (asks 256 3) reported_proved 10 (first ∷ second ∷ third ∷ []) "" ∷
    ways three_facts (asks 256 4) reported_no 10 (first ∷ second ∷ third ∷ []) "R\tno\t10\n" ∷
    ways three_facts (asks 256 64) reported_no 10 (first ∷ second ∷ third ∷ []) "R\tno\t10\n" ∷
    ways three_facts (asks 3 3) reported_spent 3 [] "R\tspent\t3\n" ∷
    ways three_facts (asks 4 3) reported_spent 4 (first ∷ []) "R\tspent\t4\n" ∷
    ways three_facts (asks 9 3) reported_spent 9 (first ∷ second ∷ []) "R\tspent\t9\n" ∷
    ways same_line_twice (asks 256 3) reported_no 3 ("R\tproved\t2\nD\tclause\t1\n" ∷ "R\tproved\t3\nD\tclause\t2\n" ∷ []) "R\tno\t3\n" ∷
    ways two_twice (asks 256 5) reported_no 10 four_pairs "R\tno\t10\n" ∷
    ways leftovers (asks 256 2) reported_proved 11
    ("R\tproved\t6\nB\t1\t_0@0\nB\t2\ta\nD\tclause\t1\t_0@0\n" ∷ "R\tproved\t11\nB\t1\tb\nB\t2\t_0@0\nD\tclause\t2\t_0@0\n" ∷ []) "" ∷
    ways no_last (asks 19 64) reported_spent 19
    ("R\tproved\t4\nB\t0\tz\nD\tclause\t1\n" ∷ "R\tproved\t12\nB\t0\ts(z)\nD\tclause\t2\tz\nD\tclause\t1\n" ∷ []) "R\tspent\t19\n" ∷
    []

-- The engine gives this answer,
abbrev pub RunsWays : WaysCase → Type 0
RunsWays c =
    engine_run (ascii c.sheet) c.ask table_numbers (64 * c.ask.budget) max_text_bytes
    ≡ answered
    (record {
      outcome = c.outcome;
      units = c.units;
      proofs = length c.proofs;
      text = join_texts (map ascii c.proofs) (ascii c.line);
    })

-- and the checker says valid to each proof by itself.
abbrev pub AcceptsWays : WaysCase → Type 0
AcceptsWays c =
    All (λ p. check_text (ascii c.sheet) (ascii p) table_numbers (64 * count_lf (ascii p)) ≡ judged valid) c.proofs

-- "Refused: 13 if the number is 0 or over 64, right after 3, with line 0": a sheet, what is asked for and the numbers of the work buffer.
pub record RefusedCase : Type 0 where
  pub sheet : String
  pub ask : Request
  pub work : ℕ
  pub number : ℕ

abbrev pub refuses : String → Request → ℕ → ℕ → RefusedCase
refuses s ask w n = record { sheet = s; ask = ask; work = w; number = n }

unfoldable pub not_several : List RefusedCase
not_several =
    refuses three_facts (asks 256 0) 16384 13 ∷
    refuses three_facts (asks 256 65) 16384 13 ∷
    refuses three_facts (asks 256 4294967295) 16384 13 ∷
    refuses three_facts (asks 10 0) 5 13 ∷
    refuses three_facts (asks 10 64) 5 5 ∷
    refuses three_facts (asks 0 0) 0 3 ∷
    refuses three_facts (asks 50001 65) 0 3 ∷
    refuses "x\n" (asks 256 65) 16384 13 ∷
    []

abbrev pub TurnsBack : RefusedCase → Type 0
TurnsBack c = engine_run (ascii c.sheet) c.ask table_numbers c.work max_text_bytes ≡ turned_back (refusal c.number 0)

-- What the checker says of texts over the sheet of three facts: a text of two proofs, or with an R line after its proof, is not valid
-- at that line; the third proof is valid without those before it.
pub record TextCase : Type 0 where
  pub texts : List String
  pub judgement : Judgement

unfoldable pub by_itself : List TextCase
by_itself =
    record { texts = third ∷ []; judgement = valid } ∷
    record { texts = first ∷ second ∷ []; judgement = invalid 4 } ∷
    record { texts = first ∷ "R\tno\t12\n" ∷ []; judgement = invalid 4 } ∷
    []

abbrev pub JudgesText : TextCase → Type 0
JudgesText c =
    check_text (ascii three_facts) (join_texts (map ascii c.texts) []) table_numbers (64 * count_lf (join_texts (map ascii c.texts) []))
    ≡ judged c.judgement

-- All of these come out right.
abbrev pub WaysCases : Type 0
WaysCases = All (λ c. RunsWays c × AcceptsWays c) several × All TurnsBack not_several × All JudgesText by_itself
