use Rattle.term_printer.proofs.cursor.Laws.{named, number_written}
use mathlib.Core.Path.{refl}
use Rattle.term_printer.proofs.cursor.write_functor.Goals as goal

pub returns-then-l-lt-MAX_SYMBOLS : goal.returns-then-l-lt-MAX_SYMBOLS
returns-then-l-lt-MAX_SYMBOLS c =
    λ m. named _ _ _ _ _ _ c.if-l-lt-MAX_SYMBOLS.true (c.write_name.ensures m)

pub returns : goal.returns
returns c =
    number_written _ _ _ _ _ _ _ _ _ _ c.if-l-lt-MAX_SYMBOLS.false refl c.write_number-to.ensures
    c.with_position.ensures
