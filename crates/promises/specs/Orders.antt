-- Request W-207: "a goal may be spent under one only". Two sheets, each with and without the first line `O latest`, with 256 units: one is
-- spent by default and proved in the former order, the other the other way round.
use Prim.Native.String.{String}
use Rattle.std.specs.Prelude.{List, [], ◌∷◌}
use Rattle.terms.specs.Lists.{All}
use Rattle.promises.specs.Marked.{Case, proves, says_spent, case, RightCase}

-- The sheet has the clause p if p, and the goal p implies p: the house's rule is used without end.
abbrev pub rule_first : String
rule_first = "P\tp\t0\nA\t0\n>\t0\t0\nC\t1\nQ\t1\n"

abbrev pub rule_last : String
rule_last = "O\tlatest\nP\tp\t0\nA\t0\n>\t0\t0\nC\t1\nQ\t1\n"

-- The sheet has the clause p, and the goal (p if p) implies p: what is supposed is used without end.
abbrev pub fact_first : String
fact_first = "P\tp\t0\nA\t0\n>\t0\t0\n>\t1\t0\nC\t0\nQ\t2\n"

abbrev pub fact_last : String
fact_last = "O\tlatest\nP\tp\t0\nA\t0\n>\t0\t0\n>\t1\t0\nC\t0\nQ\t2\n"

unfoldable pub spent_under_one : List Case
spent_under_one =
    case rule_first 256 16384 (says_spent 256 "R\tspent\t256\n") ∷
    case rule_last 256 16384 (proves 3 "R\tproved\t3\nD\tassume\nD\tclause\t1\n") ∷
    case fact_first 256 16384 (proves 3 "R\tproved\t3\nD\tassume\nD\tclause\t1\n") ∷
    case fact_last 256 16384 (says_spent 256 "R\tspent\t256\n") ∷
    []

abbrev pub SpentUnderOne : Type 0
SpentUnderOne = All RightCase spent_under_one
