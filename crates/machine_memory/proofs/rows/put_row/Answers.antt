use Rattle.std.proofs.Common.{◌+◌, ◌*◌, ◌-◌, ◌≡◌, sym, ◌∙◌, arith, length}
use Rattle.machine_memory.proofs.rows.Laws.{row_within, row_on, row_end}
use Rattle.machine_memory.proofs.rows.put_row.Goals as goal

pub returns-then-record-w : goal.returns-then-record-w
returns-then-record-w c =
    let at = 64 * c.widen-record.result + c.widen.result in
    let l = c.args.numbers.now in
    let i : at ≡ 64 * c.args.u + c.args.f = omega (arith, c.widen-record.ensures.0, c.widen.ensures.0) in
    rw (c.copy_from_slice.ensures.after)
    (row_within l c.args.w.now c.args.u c.args.f at (at + length l - at) i (omega arith)
    (omega (arith, i, c.widen-record.ensures.0, c.requires, c.if-record-w.true)))

pub loop-i-preserved : goal.loop-i-preserved
loop-i-preserved c = (
  c.put.auto.w ∙ c.loop-i.invariant.0,
  c.loop-i.invariant.1
      ∙ row_on _ _ _ _ _ _ _ (omega (arith, c.widen-record.ensures.0, c.widen.ensures.0)) c.loop-i-test.true c.put.ensures,
)

pub returns : goal.returns
returns c = sym (c.loop-i.invariant.1 ∙ row_end _ _ _ _ _ c.loop-i-test.false)
