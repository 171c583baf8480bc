use mathlib.Core.Path.{refl}
use native.Mathlib.Omega.{arith}
use Rattle.term_scanner.proofs.delimiters.Laws.{power_word, push_top, push_within, push_word}
use Rattle.term_scanner.proofs.delimiters.push.Goals as goal

pub overflow_mul-result : goal.overflow_mul-result
overflow_mul-result c =
    omega (arith, power_word c.args.s.count c.if-s-lt-WORD_BITS.true, c.requires.0.bounded)

pub overflow_add-result : goal.overflow_add-result
overflow_add-result c =
    omega (arith, power_word c.args.s.count c.if-s-lt-WORD_BITS.true, c.requires.0.bounded)

pub returns-then-s-lt-WORD_BITS : goal.returns-then-s-lt-WORD_BITS
returns-then-s-lt-WORD_BITS c =
    push_top c.args.lent.now c.args.s c.requires.0 _ _ c.requires.1 c.if-s-lt-WORD_BITS.true refl refl refl

pub bounds-lent-words : goal.bounds-lent-words
bounds-lent-words c =
    omega (arith, push_within c.args.lent.now c.args.s c.requires.0 c.requires.2 c.if-s-lt-WORD_BITS.false)

pub returns : goal.returns
returns c =
    push_word c.args.lent.now c.args.s c.requires.0 _ _ _ c.requires.1 c.if-s-lt-WORD_BITS.false c.requires.2 refl refl refl
    refl
