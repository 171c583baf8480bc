-- Document 01, "Turned back": the reasons by their numbers; request W-202 adds 13.
use Rattle.std.specs.Prelude.{ℕ}
use Rattle.outcomes.specs.declared.Refusal.{Refusal}
use Rattle.outcomes.specs.declared.refusals.Reason.{Reason}
use Rattle.outcomes.specs.declared.refusals.Reason.TheVariants.{SheetTooLong, TableTooShort, Budget, TextTooLong, WorkTooShort, Malformed, TooMany}
use Rattle.outcomes.specs.declared.refusals.Reason.TheVariants.{Unknown, WrongKind, FreeVariable, NoGoal, AnswerTooLong, Proofs}

abbrev pub number_of : Reason → ℕ
number_of SheetTooLong = 1
number_of TableTooShort = 2
number_of Budget = 3
number_of TextTooLong = 4
number_of WorkTooShort = 5
number_of Malformed = 6
number_of TooMany = 7
number_of Unknown = 8
number_of WrongKind = 9
number_of FreeVariable = 10
number_of NoGoal = 11
number_of AnswerTooLong = 12
number_of Proofs = 13

-- The refusal for a reason at a line.
abbrev pub refused_for : Reason → ℕ → Refusal
refused_for reason line = record { number = number_of reason; line = line }
