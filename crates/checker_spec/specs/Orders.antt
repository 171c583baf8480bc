-- Request W-207 of the checker: "Places in D lines follow the order in force"; and O lines that are refused.
use Rattle.std.specs.Prelude.{ℕ, ◌≤◌, ◌≡◌, List, ◌∷◌, ◌++◌, length}
use Prim.Native.Char.{code}
use Rattle.sheet_format.specs.Limits.{max_sheet_bytes, table_numbers, max_text_bytes}
use Rattle.sheet_format.specs.Buffers.{demanded}
use Rattle.sheet_format.specs.Bytes.{lines_of}
use Rattle.sheet_format.specs.Sheets.{read_sheet}
use Rattle.sheet_format.specs.FormerOrder.{read_formerly, one_line_lower, with_order_line}
use Rattle.sheet_format.specs.OrderLines.{OtherOrderLine, order_line_refusal}
use Rattle.checker_spec.specs.CheckText.{Checked, check_refused, count_lf, check_text_by, check_text, table_after, work_after}
use Rattle.checker_spec.specs.Promises.{HandedBack, handed_back, CheckContract}

-- The check before this request: every sheet is in the former order. A refusal of a line tells the next line, since `O latest` counts as
-- one.
unfoldable pub former_check : List ℕ → List ℕ → ℕ → ℕ → Checked
former_check bytes text tableLength workLength =
    check_text_by (λ b. one_line_lower (read_formerly b)) bytes text tableLength workLength

-- "A sheet that relied on the former order says so with a first line `O latest`": with this line every text is judged as it was,
abbrev pub ChecksInFormerOrder : Type 0
ChecksInFormerOrder = (bytes text : List ℕ) → length (with_order_line bytes) ≤ max_sheet_bytes → (t w : ℕ)
    → check_text (with_order_line bytes) text t w ≡ former_check bytes text t w

-- and a caller is handed back what he was, and each lent buffer then holds what it did.
abbrev pub JudgedInFormerOrder : Type 0
JudgedInFormerOrder =
    (bytes text : List ℕ) → length (with_order_line bytes) ≤ max_sheet_bytes → (table work table' work' : List ℕ) (r : HandedBack)
    → CheckContract (with_order_line bytes) text table work table' work' r
    → let former = former_check bytes text (length table) (length work) in
    (r ≡ handed_back former) × (table' ≡ table_after former table) × (work' ≡ work_after former text work)

-- "An O line elsewhere, or with another word, is refused under 6, after a Q line under 11": whatever stands before and after it, and for
-- every text, this refusal is handed back, if refusals 1 to 5 do not arise.
abbrev pub OtherOrderLinesTurnedBack : Type 0
OtherOrderLinesTurnedBack =
    (before after : List ℕ) → OtherOrderLine before after → (text table work table' work' : List ℕ) (r : HandedBack)
    → CheckContract (before ++ (code "O" ∷ after)) text table work table' work' r
    → length (before ++ (code "O" ∷ after)) ≤ max_sheet_bytes → table_numbers ≤ length table → length text ≤ max_text_bytes
    → demanded (count_lf text) ≤ length work
    → let told = check_refused (order_line_refusal (length (lines_of before).whole) (read_sheet before)) in
    (r ≡ handed_back told) × (table' ≡ table_after told table) × (work' ≡ work_after told text work)
