use borrow.Author.Rules.{rules}
use Rattle.term_scanner.proofs.delimiters.Laws.{room_left}
use Rattle.term_scanner.proofs.delimiters.room.Goals as goal

pub returns : goal.returns
returns c =
    room_left c.args.lent.now c.args.s c.requires.0 _ (search rules)
