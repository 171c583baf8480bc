-- Document 01, "Rehearsed sheets": the marked cases as one table, sheets and texts as bytes. The last bullet counts as marked. The occurs
-- case has 9 units by request W-206. Each run is for one proof.
use Rattle.std.specs.Prelude.{ℕ, ◌*◌, ◌≡◌, List, [], ◌∷◌}
use Prim.Native.String.{String}
use Rattle.terms.specs.Lists.{All}
use Rattle.sheet_format.specs.Limits.{table_numbers}
use Rattle.sheet_format.specs.Bytes.{ascii}
use Rattle.sheet_format.specs.Sheets.{refusal}
use Rattle.answer_texts.specs.Judgements.{valid}
use Rattle.engine_spec.specs.EngineRun.{Reported, reported_proved, reported_no, reported_spent, Result, answered, turned_back, engine_run}
use Rattle.checker_spec.specs.CheckText.{judged, check_text, count_lf}

-- A sheet, a budget and a number of answer bytes, with the result. The table has 8,192 numbers, the work buffer 64 for each unit.
pub record Case : Type 0 where
  pub sheet : String
  pub budget : ℕ
  pub answer_bytes : ℕ
  pub result : Result

abbrev pub proves : ℕ → String → Result
proves n t = answered (record { outcome = reported_proved; units = n; proofs = 1; text = ascii t })

abbrev pub says_no : ℕ → String → Result
says_no n t = answered (record { outcome = reported_no; units = n; proofs = 0; text = ascii t })

abbrev pub says_spent : ℕ → String → Result
says_spent n t = answered (record { outcome = reported_spent; units = n; proofs = 0; text = ascii t })

abbrev pub refuses : ℕ → ℕ → Result
refuses n l = turned_back (refusal n l)

-- The whole sheet of document 01 says that a strobe may go.
abbrev pub strobe : String
strobe = "P\tmay\t1\nF\tstrobe\t0\nA\t1\nA\t0\t0\nC\t1\nQ\t1\n"

-- These sheets have the clause every z p(z,z); the goals: some a every b p(a,b), every b some a p(a,b), some a p(a,f(a)).
abbrev pub some_every : String
some_every = "P\tp\t2\nV\t0\nV\t1\nV\t2\nA\t0\t2\t2\nU\t2\t3\nC\t4\nA\t0\t0\t1\nU\t1\t5\nE\t0\t6\nQ\t7\n"

abbrev pub every_some : String
every_some = "P\tp\t2\nV\t0\nV\t1\nV\t2\nA\t0\t2\t2\nU\t2\t3\nC\t4\nA\t0\t0\t1\nE\t0\t5\nU\t1\t6\nQ\t7\n"

abbrev pub occurs : String
occurs = "P\tp\t2\nF\tf\t1\nV\t0\nV\t2\nA\t0\t1\t1\nU\t2\t2\nC\t3\nA\t1\t0\nA\t0\t0\t4\nE\t0\t5\nQ\t6\n"

-- The sheet has no clause, and the goal ((every a p(a)) implies q) implies some a (p(a) implies q).
abbrev pub drinker : String
drinker = "P\tp\t1\nP\tq\t0\nV\t0\nA\t0\t0\nA\t1\nU\t0\t1\n>\t3\t2\n>\t1\t2\nE\t0\t5\n>\t4\t6\nQ\t7\n"

-- The sheet has the goal some a true.
abbrev pub some_true : String
some_true = "Y\nE\t0\t0\nQ\t1\n"

-- The sheet has the clause every z p(z), and the free goal p(a).
abbrev pub free_goal : String
free_goal = "P\tp\t1\nV\t0\nV\t1\nA\t0\t1\nU\t1\t2\nC\t3\nA\t0\t0\nQ\t4\n"

-- Two sheets have a clause of 64 members, and of 65: an atom doubled six times, and once more with the atom itself.
abbrev pub members64 : String
members64 = "P\tp\t0\nA\t0\n&\t0\t0\n&\t1\t1\n&\t2\t2\n&\t3\t3\n&\t4\t4\n&\t5\t5\nC\t6\nQ\t0\n"

abbrev pub members65 : String
members65 = "P\tp\t0\nA\t0\n&\t0\t0\n&\t1\t1\n&\t2\t2\n&\t3\t3\n&\t4\t4\n&\t5\t5\n&\t6\t0\nC\t7\nQ\t0\n"

abbrev pub case : String → ℕ → ℕ → Result → Case
case s b a r = record { sheet = s; budget = b; answer_bytes = a; result = r }

unfoldable pub marked : List Case
marked =
    case strobe 256 16384 (proves 3 "R\tproved\t3\nD\tclause\t1\n") ∷
    case strobe 3 16384 (proves 3 "R\tproved\t3\nD\tclause\t1\n") ∷
    case strobe 2 16384 (says_spent 2 "R\tspent\t2\n") ∷
    case strobe 256 22 (proves 3 "R\tproved\t3\nD\tclause\t1\n") ∷
    case strobe 256 21 (refuses 12 0) ∷
    case some_every 256 16384 (says_no 8 "R\tno\t8\n") ∷
    case every_some 256 16384 (proves 8 "R\tproved\t8\nD\tall\t!0@1\nD\tsome\t!0@1\nD\tclause\t1\t!0@1\n") ∷
    case occurs 256 16384 (says_no 9 "R\tno\t9\n") ∷
    case drinker 256 16384 (says_no 12 "R\tno\t12\n") ∷
    case some_true 256 16384 (proves 2 "R\tproved\t2\nD\tsome\t_0@0\nD\ttrue\n") ∷
    case free_goal 256 16384 (proves 4 "R\tproved\t4\nB\t0\t_0@0\nD\tclause\t1\t_0@0\n") ∷
    case "" 256 16384 (refuses 11 1) ∷
    case members64 256 16384 (proves 2 "R\tproved\t2\nD\tclause\t1\n") ∷
    case members65 256 16384 (refuses 9 10) ∷
    case strobe 50000 16384 (proves 3 "R\tproved\t3\nD\tclause\t1\n") ∷
    case strobe 50001 16384 (refuses 3 0) ∷
    []

-- The engine gives the result of the case.
abbrev pub RunsAs : Case → Type 0
RunsAs c =
    engine_run (ascii c.sheet) (record { budget = c.budget; proofs = 1 }) table_numbers (64 * c.budget) c.answer_bytes ≡ c.result

-- The checker says valid to every proof.
unfoldable pub AcceptsAnswer : Case → Reported → List ℕ → Type 0
AcceptsAnswer c reported_proved text = check_text (ascii c.sheet) text table_numbers (64 * count_lf text) ≡ judged valid
AcceptsAnswer c reported_no text = Unit {0}
AcceptsAnswer c reported_spent text = Unit {0}

unfoldable pub AcceptsResult : Case → Result → Type 0
AcceptsResult c (answered a) = AcceptsAnswer c a.outcome a.text
AcceptsResult c (turned_back r) = Unit {0}

abbrev pub RightCase : Case → Type 0
RightCase c = RunsAs c × AcceptsResult c c.result

-- T9 says that every marked case comes out right.
abbrev pub MarkedCases : Type 0
MarkedCases = All RightCase marked
