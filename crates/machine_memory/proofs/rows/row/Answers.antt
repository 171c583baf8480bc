use Rattle.std.proofs.Common.{◌+◌, ◌*◌, ◌-◌, ◌≡◌, sym, ◌∙◌, arith, length-set}
use Rattle.machine_memory.proofs.rows.Laws.{row_read, row_more, row_whole}
use Rattle.machine_memory.proofs.rows.row.Goals as goal

pub returns-then-record-w : goal.returns-then-record-w
returns-then-record-w g c =
    let at = 64 * c.widen-record.result + c.widen.result in
    let i : at ≡ 64 * c.args.u + c.args.f = omega (arith, c.widen-record.ensures.0, c.widen.ensures.0) in
    let n : at + g.row.N - at ≡ g.row.N = omega arith in
    c.copy_from_slice.ensures.after
    ∙ rw n (row_read g.row.N c.args.w.now c.args.u c.args.f at i
    (omega (arith, i, c.widen-record.ensures.0, c.requires, c.if-record-w.true)))

pub loop-i-preserved : goal.loop-i-preserved
loop-i-preserved g c = (
  length-set c.loop-i.numbers c.loop-i.i c.get.result ∙ c.loop-i.invariant.0,
  c.loop-i.invariant.1
      ∙ row_more _ _ _ _ _ _ _ _ (omega (arith, c.widen-record.ensures.0, c.widen.ensures.0)) c.loop-i-test.true
      c.loop-i.invariant.0 c.get.ensures,
)

pub returns : goal.returns
returns g c = sym (c.loop-i.invariant.1 ∙ row_whole _ _ _ _ _ _ c.loop-i-test.false c.loop-i.invariant.0)
