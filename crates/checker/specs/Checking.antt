-- The code's functions on numbers.
use Rattle.std.specs.Prelude.{ℕ, cond, ltb, Option, Some, None}
use Rattle.outcomes.specs.declared.Verdict.{Verdict}
use Rattle.outcomes.specs.declared.Verdict.TheVariants.{Valid, Invalid, Refused}
use Rattle.outcomes.specs.declared.refusals.Reason.{Reason}
use Rattle.outcomes.specs.declared.refusals.Reason.TheVariants.{SheetTooLong, TableTooShort, TextTooLong}
use Rattle.outcomes.specs.Refusals.{refused_for}
use Rattle.sheet_format.specs.Limits.{max_sheet_bytes, table_numbers, max_text_bytes}

-- Refusals 1, 2 and 4: the first that arises, or none. The lengths of sheet, table and text.
unfoldable pub check_refusal : ℕ → ℕ → ℕ → Option Reason
check_refusal sheet table text =
    cond (ltb max_sheet_bytes sheet) (Some SheetTooLong)
    (cond (ltb table table_numbers) (Some TableTooShort) (cond (ltb max_text_bytes text) (Some TextTooLong) None))

-- A refusal.
abbrev pub refused_check : Reason → ℕ → Verdict
refused_check reason line = Refused (refused_for reason line)

-- Not valid at the line that breaks; valid where none does.
unfoldable pub verdict_at : Option ℕ → Verdict
verdict_at None = Valid
verdict_at (Some line) = Invalid line
