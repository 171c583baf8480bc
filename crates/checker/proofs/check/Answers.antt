use mathlib.Core.Path.{sym}
use lib.Seq.{length-take-le}
use borrow.Author.Rules.{rules}
use Rattle.checker.proofs.LineFeeds.{count_lf_most}
use Rattle.memory.proofs.Parts.{part_fits}
use Rattle.checker.proofs.Parts.{part_demanded}
use Rattle.checker.proofs.SizeChecks.{early_passed, check_refused_lem, check_short, check_passed}
use Rattle.checker.proofs.check.Goals as goal

pub returns-in-Some : goal.returns-in-Some
returns-in-Some c = check_refused_lem _ _ _ _ _ _ c.in-Some.ensures c.new.ensures

pub overflow_mul-m : goal.overflow_mul-m
overflow_mul-m c =
    let few = (early_passed _ _ _ (sym c.in_default.ensures)).text_fits in
    let most = count_lf_most c.args.text.now in
    let e = c.count_lf-m.ensures in
    search rules

pub returns-then-work-m : goal.returns-then-work-m
returns-then-work-m c =
    check_short _ _ _ _ _ _ (sym c.in_default.ensures) c.count_lf-m.ensures c.if-work-m.true c.new-then-work-m.ensures

pub slice_bounds-check_in_parts-end : goal.slice_bounds-check_in_parts-end
slice_bounds-check_in_parts-end c = (early_passed _ _ _ (sym c.in_default.ensures)).table_fits

pub slice_bounds-check_in_parts-end-2 : goal.slice_bounds-check_in_parts-end-2
slice_bounds-check_in_parts-end-2 c =
    sym (length-take-le 8192 c.args.table.now (early_passed _ _ _ (sym c.in_default.ensures)).table_fits)

pub slice_bounds-check_in_parts-end-4 : goal.slice_bounds-check_in_parts-end-4
slice_bounds-check_in_parts-end-4 c =
    sym (length-take-le _ c.args.work.now c.if-work-m.false)

pub check_in_parts-requires : goal.check_in_parts-requires
check_in_parts-requires c =
    let start = c.args in
    let p = early_passed _ _ _ (sym c.in_default.ensures) in (
      p.sheet_fits,
      part_fits 8192 start.table.now p.table_fits,
      p.text_fits,
      part_demanded _ _ start.work.now c.count_lf-m.ensures c.if-work-m.false,
    )

pub returns : goal.returns
returns c =
    check_passed _ _ _ _ _ _ _ _ (sym c.in_default.ensures) c.count_lf-m.ensures
    c.if-work-m.false c.check_in_parts.ensures.0 c.check_in_parts.ensures.1
    c.check_in_parts.ensures.2
