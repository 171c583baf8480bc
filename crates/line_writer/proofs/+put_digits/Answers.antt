use native.Mathlib.Omega.{arith}
use Rattle.line_writer.proofs.Laws.{no_digit, last_digit, more_digits, last_room, more_room}
use Rattle.line_writer.proofs.+put_digits.Goals as goal

pub returns-then-f-eq0 : goal.returns-then-f-eq0
returns-then-f-eq0 t c = no_digit _ _ _ _ c.if-f-eq0.true

pub put_byte-requires : goal.put_byte-requires
put_byte-requires t c =
    last_room _ _ _ _ c.if-f-eq0.false c.if-n-lt10.true c.requires

pub returns-then-n-lt10 : goal.returns-then-n-lt10
returns-then-n-lt10 t c =
    last_digit _ _ _ _ _ _ _ c.if-f-eq0.false c.if-n-lt10.true c.digit.ensures
    c.put_byte.ensures

pub put_digits-to-requires : goal.put_digits-to-requires
put_digits-to-requires t c =
    let r = more_room _ _ _ _ c.if-f-eq0.false c.if-n-lt10.false c.requires in
    (omega (arith, c.decreases), omega (arith, r))

pub put_byte-requires-2 : goal.put_byte-requires-2
put_byte-requires-2 t c =
    let r = more_room _ _ _ _ c.if-f-eq0.false c.if-n-lt10.false c.requires in
    omega (arith, r, c.put_digits-to.ensures.count, c.put_digits-to.auto)

pub returns : goal.returns
returns t c =
    more_digits _ _ _ _ _ _ _ _ _ c.if-f-eq0.false c.if-n-lt10.false c.put_digits-to.ensures
    c.digit-2.ensures c.put_byte-2.ensures
