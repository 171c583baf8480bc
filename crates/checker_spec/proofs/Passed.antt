-- A check that passes refusals 1, 2 and 4.
use Prim.Native.Nat.{ℕ, ◌≤◌}
use mathlib.Core.Path.{◌≡◌}
use mathlib.Core.List.{List}
use lib.Dec.{ltb}
use lib.ListN.{length}
use borrow.Author.Tests.{le-ltb}
use Rattle.sheet_format.specs.Limits.{max_sheet_bytes, table_numbers, max_text_bytes}
use Rattle.sheet_format.specs.Buffers.{demanded}
use Rattle.sheet_format.specs.Sheets.{read_sheet, turn_back_if}
use Rattle.checker_spec.specs.CheckText.{check_refused, count_lf, check_sheet, check_text}

-- None of refusals 1, 2 and 4 arises.
pub record Passed (bytes text : List ℕ) (t : ℕ) : Type 0 where
  pub sheet_fits : length bytes ≤ max_sheet_bytes
  pub table_fits : table_numbers ≤ t
  pub text_fits : length text ≤ max_text_bytes

pub passed_checks : (bytes text : List ℕ) (t w : ℕ) → Passed bytes text t
    → check_text bytes text t w ≡ turn_back_if check_refused (ltb w (demanded (count_lf text))) 5 (check_sheet text (read_sheet bytes))
unfolding check_text turn_back_if
passed_checks bytes text t w p =
    rw (
      le-ltb max_sheet_bytes (length bytes) p.sheet_fits,
      le-ltb t table_numbers p.table_fits,
      le-ltb max_text_bytes (length text) p.text_fits,
    )
