-- Document 01: "When an answer is an enum, a definition gives this paper's number and values for each of its cases."
use Rattle.std.specs.Prelude.{ℕ}
use Rattle.outcomes.specs.declared.Outcome.{Outcome}
use Rattle.outcomes.specs.declared.Outcome.TheVariants.{Proved, No, Spent, Refused}
use Rattle.outcomes.specs.declared.Run.{Run}
use Rattle.outcomes.specs.declared.Verdict.{Verdict}
use Rattle.outcomes.specs.declared.Verdict.TheVariants.{Valid, Invalid, Refused as TurnedBack}

-- A refused run: units, number of proofs and text length are 0.
abbrev pub refused_run : ℕ → ℕ → Run
refused_run number line = record { outcome = Refused (record { number = number; line = line }); units = 0; proofs = 0; length = 0 }

-- Outcomes: 0 proved, 1 no, 2 spent, 3 refused; the refusal's number and line, 0 where there is none.
unfoldable pub outcome_code : Outcome → ℕ
outcome_code Proved = 0
outcome_code No = 1
outcome_code Spent = 2
outcome_code (Refused r) = 3

unfoldable pub refusal_number : Outcome → ℕ
refusal_number Proved = 0
refusal_number No = 0
refusal_number Spent = 0
refusal_number (Refused r) = r.number

unfoldable pub refusal_line : Outcome → ℕ
refusal_line Proved = 0
refusal_line No = 0
refusal_line Spent = 0
refusal_line (Refused r) = r.line

-- Verdicts: 0 valid, 1 not valid, 3 refused; the line that breaks or is refused; the refusal's number.
unfoldable pub verdict_code : Verdict → ℕ
verdict_code Valid = 0
verdict_code (Invalid k) = 1
verdict_code (TurnedBack r) = 3

unfoldable pub verdict_line : Verdict → ℕ
verdict_line Valid = 0
verdict_line (Invalid k) = k
verdict_line (TurnedBack r) = r.line

unfoldable pub verdict_number : Verdict → ℕ
verdict_number Valid = 0
verdict_number (Invalid k) = 0
verdict_number (TurnedBack r) = r.number
