-- Refusals 1, 2, 4 and 5: where one arises the check is turned back and no buffer changes; where none does, the text is judged and
-- the demanded parts of table and work buffer end as zeros.
use Prim.Native.Nat.{ℕ, ◌*◌, ◌≤◌, ◌<◌}
use native.Mathlib.Omega.{arith}
use mathlib.Core.Path.{◌≡◌, refl, ap}
use mathlib.Core.Bool.{Bool, true, false, cond}
use mathlib.Core.List.{List, ◌++◌}
use lib.Dec.{ltb}
use lib.ListN.{length, take, drop, replicate}
use lib.Seq.{length-take-le}
use borrow.Author.Tests.{ltb-false, lt-ltb, le-ltb, le-leb, lt-leb}
use Rattle.std.specs.Prelude.{Some, None}
use Rattle.outcomes.specs.declared.Verdict.{Verdict}
use Rattle.outcomes.specs.declared.Verdict.TheVariants.{Refused}
use Rattle.outcomes.specs.declared.Refusal.{Refusal}
use Rattle.outcomes.specs.declared.refusals.Reason.{Reason}
use Rattle.outcomes.specs.declared.refusals.Reason.TheVariants.{SheetTooLong, TableTooShort, TextTooLong, WorkTooShort}
use Rattle.outcomes.specs.Refusals.{number_of, refused_for}
use Rattle.outcomes.specs.Outcomes.{verdict_code, verdict_line, verdict_number}
use Rattle.sheet_format.specs.Limits.{max_sheet_bytes, table_numbers, max_text_bytes, numbers_per_unit}
use Rattle.sheet_format.specs.Buffers.{demanded, zeroed}
use Rattle.sheet_format.specs.Sheets.{refusal, Read, sheet, refused, read_sheet, turn_back_if}
use Rattle.checker_spec.specs.CheckText.{Checked, check_refused, count_lf, check_sheet, check_text, is_early, table_after}
use Rattle.checker_spec.specs.CheckText.{work_after}
use Rattle.checker_spec.specs.Promises.{handed_back, CheckContract}
use Rattle.checker_spec.specs.Handed.{handed}
use Rattle.checker.specs.Checking.{check_refusal, refused_check}
use Rattle.checker_spec.proofs.Passed.{Passed, passed_checks}
use Rattle.sheet_reader.proofs.sheet_lines.Refusals.{refused_late}

-- Where a test of refusals 1, 2 and 4 holds, the check is refused for its reason, whose number is at most 5.
shut : (a b c : Bool) (r : Checked) (reason : Reason) → Some reason ≡ cond a (Some SheetTooLong) (cond b (Some TableTooShort) (cond c (Some TextTooLong) None))
    → (turn_back_if check_refused a 1 (turn_back_if check_refused b 2 (turn_back_if check_refused c 4 r)) ≡ check_refused (refusal (number_of reason) 0))
    × (number_of reason ≤ 5)
unfolding turn_back_if
shut true b c r reason q = let e : reason ≡ SheetTooLong = cc in rw e (refl, omega arith)
shut false true c r reason q = let e : reason ≡ TableTooShort = cc in rw e (refl, omega arith)
shut false false true r reason q = let e : reason ≡ TextTooLong = cc in rw e (refl, omega arith)
shut false false false r reason q = cc

-- Where none arises, the tests of refusals 1, 2 and 4 all fail.
none_shut : (a b c : Bool) → cond a (Some SheetTooLong) (cond b (Some TableTooShort) (cond c (Some TextTooLong) None)) ≡ None
    → (a ≡ false) × (b ≡ false) × (c ≡ false)
none_shut true b c q = cc
none_shut false true c q = cc
none_shut false false true q = cc
none_shut false false false q = (refl, refl, refl)

pub early_passed : (bytes text : List ℕ) (t : ℕ) → check_refusal (length bytes) t (length text) ≡ None → Passed bytes text t
unfolding check_refusal
early_passed bytes text t q =
    let o = none_shut (ltb max_sheet_bytes (length bytes)) (ltb t table_numbers) (ltb max_text_bytes (length text)) q in
    record { sheet_fits = ltb-false _ _ o.0; table_fits = ltb-false _ _ o.1; text_fits = ltb-false _ _ o.2 }

-- Past refusal 5 every answer is late: it is a refusal of the sheet or a judgement.
late : (bytes text : List ℕ) → is_early (check_sheet text (read_sheet bytes)) ≡ false
unfolding check_sheet is_early
late bytes text = go (read_sheet bytes) refl
  where
    go : (x : Read) → read_sheet bytes ≡ x → is_early (check_sheet text x) ≡ false
    go (refused r) q = lt-leb r.number 5 (refused_late bytes r q)
    go (sheet s) q = refl

-- Turned back for an early reason: no buffer changes.
turned_back_lem : (bytes text table work : List ℕ) (reason : Reason) (v : Verdict)
    → check_text bytes text (length table) (length work) ≡ check_refused (refusal (number_of reason) 0) → number_of reason ≤ 5 → v ≡ refused_check reason 0
    → CheckContract bytes text table work table work (handed v)
unfolding handed handed_back verdict_code verdict_line verdict_number table_after work_after is_early
turned_back_lem bytes text table work reason v g l e =
    let z = le-leb (number_of reason) 5 l in
    record {
      value = rw (e, g);
      table_end = rw (g, z);
      work_end = rw (g, z);
    }

-- Refusals 1, 2 and 4.
pub check_refused_lem : (bytes text table work : List ℕ) (reason : Reason) (f : Refusal)
    → Some reason ≡ check_refusal (length bytes) (length table) (length text) → f ≡ refused_for reason 0
    → CheckContract bytes text table work table work (handed (Refused f))
unfolding check_refusal check_text
check_refused_lem bytes text table work reason f q e =
    let g = shut (ltb max_sheet_bytes (length bytes)) (ltb (length table) table_numbers) (ltb max_text_bytes (length text))
    (turn_back_if check_refused (ltb (length work) (demanded (count_lf text))) 5 (check_sheet text (read_sheet bytes))) reason q in
    turned_back_lem bytes text table work reason (Refused f) g.0 g.1 (ap Refused e)

-- Refusal 5.
pub check_short : (bytes text table work : List ℕ) (m : ℕ) (f : Refusal) → check_refusal (length bytes) (length table) (length text) ≡ None
    → m ≡ count_lf text → length work < numbers_per_unit * m
    → f ≡ refused_for WorkTooShort 0 → CheckContract bytes text table work table work (handed (Refused f))
unfolding turn_back_if demanded
check_short bytes text table work m f q em h e =
    let p = early_passed bytes text (length table) q in
    let g : check_text bytes text (length table) (length work) ≡ check_refused (refusal 5 0) =
    rw (passed_checks bytes text (length table) (length work) p, ← em, lt-ltb (length work) (numbers_per_unit * m) h) in
    turned_back_lem bytes text table work WorkTooShort (Refused f) g (omega arith) (ap Refused e)

-- None: the parts lent end as zeros.
pub check_passed : (bytes text table work t w : List ℕ) (m : ℕ) (v : Verdict)
    → check_refusal (length bytes) (length table) (length text) ≡ None → m ≡ count_lf text → numbers_per_unit * m ≤ length work
    → handed v ≡ handed_back (check_sheet text (read_sheet bytes)) → t ≡ replicate (length (take 8192 table)) 0
    → w ≡ replicate (length (take (numbers_per_unit * m) work)) 0
    → CheckContract bytes text table work (t ++ drop 8192 table) (w ++ drop (numbers_per_unit * m) work) (handed v)
unfolding turn_back_if table_after work_after zeroed demanded
check_passed bytes text table work t w m v q em h i et ew =
    let p = early_passed bytes text (length table) q in
    let g : check_text bytes text (length table) (length work) ≡ check_sheet text (read_sheet bytes) =
    rw (passed_checks bytes text (length table) (length work) p, ← em, le-ltb (length work) (numbers_per_unit * m) h) in
    let l = late bytes text in
    record {
      value = rw g i;
      table_end = rw (g, l, et, length-take-le 8192 table p.table_fits);
      work_end = rw (g, l, ew, ← em, length-take-le (numbers_per_unit * m) work h);
    }
