use Prim.Native.Nat.{ℕ, ◌*◌, ◌≤◌}
use native.Mathlib.Omega.{arith}
use mathlib.Core.Path.{◌≡◌, sym}
use mathlib.Core.List.{List}
use lib.Seq.{length-take-le}
use Rattle.sheet_format.specs.Buffers.{demanded}
use Rattle.sheet_format.specs.Limits.{numbers_per_unit}
use Rattle.outcomes.specs.declared.Request.{Request as Asks}
use Rattle.engine_spec.specs.Handed.{asked}
use Rattle.engine_spec.proofs.Answered.{Passed}
use Rattle.memory.proofs.Parts.{part_fits}
use Rattle.engine.proofs.Laws.{part_demanded}
use Rattle.engine.proofs.SizeChecks.{early_passed, run_refused, run_passed}
use Rattle.engine.proofs.run.Goals as goal

-- The work that is demanded stands in the lent buffer.
work_fits : (bytes : List ℕ) (ask : Asks) (t w m : ℕ) → Passed bytes (asked ask) t w → m ≡ ask.budget → numbers_per_unit * m ≤ w
unfolding demanded asked
work_fits bytes ask t w m p e = let h = p.work_fits in omega arith

pub returns-in-Some : goal.returns-in-Some
returns-in-Some c = run_refused _ _ _ _ _ _ _ _ c.in-Some.ensures c.new.ensures c.from.ensures

pub slice_bounds-run_in_parts-end : goal.slice_bounds-run_in_parts-end
slice_bounds-run_in_parts-end c = (early_passed _ _ _ _ (sym c.in_default.ensures)).table_fits

pub slice_bounds-run_in_parts-end-2 : goal.slice_bounds-run_in_parts-end-2
slice_bounds-run_in_parts-end-2 c =
    sym (length-take-le 8192 c.args.table.now (early_passed _ _ _ _ (sym c.in_default.ensures)).table_fits)

pub slice_bounds-run_in_parts-end-3 : goal.slice_bounds-run_in_parts-end-3
slice_bounds-run_in_parts-end-3 c = work_fits _ _ _ _ _ (early_passed _ _ _ _ (sym c.in_default.ensures)) c.widen-m.ensures.0

pub slice_bounds-run_in_parts-end-4 : goal.slice_bounds-run_in_parts-end-4
slice_bounds-run_in_parts-end-4 c =
    sym (length-take-le _ c.args.work.now (work_fits _ _ _ _ _ (early_passed _ _ _ _ (sym c.in_default.ensures)) c.widen-m.ensures.0))

pub run_in_parts-requires : goal.run_in_parts-requires
unfolding asked
run_in_parts-requires c =
    let start = c.args in
    let p = early_passed _ _ _ _ (sym c.in_default.ensures) in (
      p.sheet_fits,
      part_fits 8192 start.table.now p.table_fits,
      p.most,
      p.least_proofs,
      part_demanded _ _ start.work.now c.widen-m.ensures.0 p.work_fits,
    )

pub returns : goal.returns
returns c =
    run_passed _ _ _ _ _ _ _ _ _ _ (sym c.in_default.ensures) c.widen-m.ensures.0
    c.run_in_parts.ensures.0 c.run_in_parts.ensures.1 c.run_in_parts.ensures.2
