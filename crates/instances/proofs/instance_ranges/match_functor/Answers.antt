use borrow.Author.Tests.{lt-ltb, le-ltb}
use Rattle.scanning.specs.Instances.{match_functor}
use Rattle.instances.proofs.instance_ranges.match_functor.Goals as goal

pub returns-then-l-lt-MAX_SYMBOLS : goal.returns-then-l-lt-MAX_SYMBOLS
unfolding match_functor
returns-then-l-lt-MAX_SYMBOLS c = rw (lt-ltb _ _ c.if-l-lt-MAX_SYMBOLS.true) c.match_name.ensures

pub returns : goal.returns
unfolding match_functor
returns c = rw (le-ltb _ _ c.if-l-lt-MAX_SYMBOLS.false) c.match_number.ensures
