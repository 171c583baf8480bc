use Rattle.term_printer.proofs.path_links.Laws.{link_of}
use Rattle.term_printer.proofs.path_links.link_word.Goals as goal

pub returns : goal.returns
returns c = link_of _ _ _ _ _ c.widen.ensures.0 c.widen-2.ensures.0 c.truncate.ensures
