use Rattle.std.proofs.Common.{refl, arith}
use Rattle.term_scanner.proofs.Advancing.{reaches_start, reaches_on}
use Rattle.term_scanner.proofs.scan_within.Goals as goal

pub loop-s-init : goal.loop-s-init
loop-s-init c =
    reaches_start _ _ _ _ _ c.args.lent.now c.args.from c.requires.0 c.requires.2

pub begin_term-s-requires : goal.begin_term-s-requires
begin_term-s-requires c =
    (c.loop-s.invariant.fits, omega (arith, c.loop-s.invariant.kept, c.requires.1), c.in-Begin.is)

pub loop-s-smaller-in-Begin : goal.loop-s-smaller-in-Begin
loop-s-smaller-in-Begin c = c.begin_term-s.ensures.falls

pub loop-s-preserved-in-Begin : goal.loop-s-preserved-in-Begin
loop-s-preserved-in-Begin c =
    reaches_on _ _ _ _ _ _ _ _ _ _ _ c.loop-s.invariant c.begin_term-s.ensures c.begin_term-s.auto.lent

pub take_delimiter-s-requires : goal.take_delimiter-s-requires
take_delimiter-s-requires c = (c.loop-s.invariant.fits, c.in-After.is)

pub loop-s-smaller : goal.loop-s-smaller
loop-s-smaller c =
    (c.take_delimiter-s.ensures c.args.rank c.args.sheet.now c.args.t.now c.args.symbols).falls

pub loop-s-preserved : goal.loop-s-preserved
loop-s-preserved c =
    reaches_on _ _ _ _ _ _ _ _ _ _ _ c.loop-s.invariant (c.take_delimiter-s.ensures _ _ _ _) refl

pub returns-in_default : goal.returns-in_default
returns-in_default c = (c.loop-s.invariant, c.in_default.not-Begin, c.in_default.not-After)
