-- Request W-207 of the checker, kept: with `O latest` in front a sheet is read as it was.
use Prim.Native.Nat.{ℕ, ◌≤◌}
use Prim.Native.Char.{code}
use mathlib.Core.Path.{◌≡◌, ◌∙◌, ap}
use mathlib.Core.List.{List, ◌∷◌, ◌++◌}
use native.Mathlib.Omega.{arith}
use lib.ListN.{length}
use borrow.Author.Tests.{le-ltb}
use Rattle.sheet_format.specs.Limits.{max_sheet_bytes}
use Rattle.sheet_format.specs.Buffers.{demanded}
use Rattle.sheet_format.specs.Bytes.{lines_of}
use Rattle.sheet_format.specs.Sheets.{Refusal, turn_back_if, refused, read_sheet}
use Rattle.sheet_format.specs.FormerOrder.{with_order_line}
use Rattle.sheet_format.specs.OrderLines.{order_line_refusal}
use Rattle.sheet_format.proofs.Promises.{reads_former_order, other_order_lines_refused}
use Rattle.sheet_format.proofs.OrderLine.{line_longer}
use Rattle.checker_spec.specs.CheckText.{Checked, check_refused, count_lf, check_sheet, check_text, table_after, work_after}
use Rattle.checker_spec.specs.Promises.{handed_back}
use Rattle.checker_spec.specs.Orders.{former_check, ChecksInFormerOrder, JudgedInFormerOrder, OtherOrderLinesTurnedBack}
use Rattle.checker_spec.proofs.Passed.{Passed, passed_checks}

-- The check is the former one.
pub checks_in_former_order : ChecksInFormerOrder
unfolding check_text former_check
checks_in_former_order bytes text h t w =
    let k = line_longer bytes in
    rw (le-ltb max_sheet_bytes (length (with_order_line bytes)) h, le-ltb max_sheet_bytes (length bytes) (omega arith), reads_former_order bytes)

-- So are what is handed back and the lent buffers.
pub judged_in_former_order : JudgedInFormerOrder
judged_in_former_order bytes text h table work table' work' r c =
    let e = checks_in_former_order bytes text h (length table) (length work) in (
      c.value ∙ ap handed_back e,
      c.table_end ∙ ap (λ (x : Checked). table_after x table) e,
      c.work_end ∙ ap (λ (x : Checked). work_after x text work) e,
    )

-- Past refusals 1 to 5, a refusal of the reader is the check's.
reader_refuses : (bytes text : List ℕ) (t w : ℕ) (f : Refusal) → Passed bytes text t → demanded (count_lf text) ≤ w
    → read_sheet bytes ≡ refused f → check_text bytes text t w ≡ check_refused f
unfolding turn_back_if check_sheet
reader_refuses bytes text t w f p spare e = rw (passed_checks bytes text t w p, le-ltb w (demanded (count_lf text)) spare, e)

-- An O line elsewhere, or with another word, is handed back as such a refusal.
pub other_order_lines_turned_back : OtherOrderLinesTurnedBack
other_order_lines_turned_back before after o text table work table' work' r c short room few spare =
    let e = reader_refuses (before ++ (code "O" ∷ after)) text (length table) (length work)
    (order_line_refusal (length (lines_of before).whole) (read_sheet before))
    (record { sheet_fits = short; table_fits = room; text_fits = few }) spare (other_order_lines_refused before after o) in (
      c.value ∙ ap handed_back e,
      c.table_end ∙ ap (λ (x : Checked). table_after x table) e,
      c.work_end ∙ ap (λ (x : Checked). work_after x text work) e,
    )
