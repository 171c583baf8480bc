use Rattle.term_scanner.proofs.symbol_names.Laws.{named_apart, named_other, named_same}
use Rattle.term_scanner.proofs.symbol_names.is_named.Goals as goal

pub returns-then-name_word-word : goal.returns-then-name_word-word
returns-then-name_word-word c = named_apart _ _ _ _ _ _ _ _ c.name_word.ensures c.if-name_word-word.true

pub returns-then-saturating_sub-n : goal.returns-then-saturating_sub-n
returns-then-saturating_sub-n c =
    named_same _ _ _ _ _ _ _ _ _ _ c.name_word.ensures c.if-name_word-word.false c.name_size-n.ensures.0
    c.saturating_sub.ensures _ _ _ c.if-saturating_sub-n.true c.name_start.ensures
    c.widen.ensures.0 c.is_spelled.ensures

pub returns : goal.returns
returns c =
    named_other _ _ _ _ _ _ _ _ _ _ c.name_word.ensures c.if-name_word-word.false c.name_size-n.ensures.0
    c.saturating_sub.ensures c.if-saturating_sub-n.false
