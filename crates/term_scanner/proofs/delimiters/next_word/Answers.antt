use Rattle.std.proofs.Common.{◌-◌, arith, refl}
use Rattle.term_scanner.proofs.delimiters.Laws.{next_word}
use Rattle.term_scanner.proofs.delimiters.next_word.Goals as goal

pub returns : goal.returns
returns c =
    next_word c.args.lent.now c.args.s c.requires.0 _ c.requires.1 c.requires.2 refl
    (omega (arith, c.type_inv.lent (c.args.s.words - 1))) refl refl
