use mathlib.Core.Path.{refl}
use native.Mathlib.Omega.{arith}
use Rattle.term_scanner.proofs.ranges.Laws.{inside}
use Rattle.term_scanner.proofs.Advancing.{take_none, take_word, take_bracket, take_no_bracket, take_comma, take_no_comma}
use Rattle.term_scanner.proofs.take_delimiter.Goals as goal

pub returns-then-stack-eq0-2 : goal.returns-then-stack-eq0-2
returns-then-stack-eq0-2 c =
    λ rank b t symbols. take_none rank b t symbols c.args.text.now c.args.lent.now c.args.s c.requires.0
    c.requires.1 _ refl _ c.if-stack-eq0.true c.if-stack-eq0-2.true refl refl refl refl

pub next_word-requires : goal.next_word-requires
next_word-requires c =
    (c.requires.0, c.if-stack-eq0.true, omega (arith, c.if-stack-eq0-2.false))

pub returns-then-stack-eq0 : goal.returns-then-stack-eq0
returns-then-stack-eq0 c =
    let word = c.next_word.ensures in
    λ rank b t symbols. take_word rank b t symbols c.args.text.now c.args.lent.now c.args.s c.requires.0
    c.requires.1 _ refl _ _ c.if-stack-eq0.true word.0 word.1 word.2 refl refl refl refl refl

pub overflow_add-result : goal.overflow_add-result
overflow_add-result c =
    omega (arith, inside c.args.text.now _ _ 41 c.byte-b.ensures c.if-b-eq41.true (omega arith))

pub returns-then-b-eq41 : goal.returns-then-b-eq41
returns-then-b-eq41 c =
    λ rank b t symbols. take_bracket rank b t symbols c.args.text.now c.args.lent.now c.args.s c.requires.0
    c.requires.1 _ refl _ c.if-stack-eq0.false refl refl refl _ c.byte-b.ensures _ c.if-stack-eq-BRACKET.true
    c.if-b-eq41.true refl c.saturating_sub.ensures refl refl refl

pub returns-then-stack-eq-BRACKET : goal.returns-then-stack-eq-BRACKET
returns-then-stack-eq-BRACKET c =
    λ rank b t symbols. take_no_bracket rank b t symbols c.args.text.now c.args.lent.now c.args.s c.requires.0
    c.requires.1 _ refl _ c.if-stack-eq0.false refl refl refl _ c.byte-b.ensures _ c.if-stack-eq-BRACKET.true
    c.if-b-eq41.false refl refl refl

pub overflow_add-result-then-b-eq44 : goal.overflow_add-result-then-b-eq44
overflow_add-result-then-b-eq44 c =
    omega (arith, inside c.args.text.now _ _ 44 c.byte-b.ensures c.if-b-eq44.true (omega arith))

pub returns-then-b-eq44 : goal.returns-then-b-eq44
returns-then-b-eq44 c =
    λ rank b t symbols. take_comma rank b t symbols c.args.text.now c.args.lent.now c.args.s c.requires.0
    c.requires.1 _ refl _ c.if-stack-eq0.false refl refl refl _ c.byte-b.ensures _ c.if-stack-eq-BRACKET.false
    c.if-b-eq44.true refl refl refl refl refl

pub returns : goal.returns
returns c =
    λ rank b t symbols. take_no_comma rank b t symbols c.args.text.now c.args.lent.now c.args.s c.requires.0
    c.requires.1 _ refl _ c.if-stack-eq0.false refl refl refl _ c.byte-b.ensures _ c.if-stack-eq-BRACKET.false
    c.if-b-eq44.false refl refl refl
