use Rattle.term_scanner.proofs.symbol_names.Laws.{symbol_here, symbol_on, symbol_start, symbol_stop}
use Rattle.std.proofs.Common.{◌≡◌, ◌∙◌, sym, arith}
use Rattle.term_scanner.proofs.symbol_names.symbol_named.Goals as goal

pub loop-k-init : goal.loop-k-init
loop-k-init c = symbol_start _ _ _ _ _ _ _ c.word_at-word.ensures

pub returns-then-is_named : goal.returns-then-is_named
returns-then-is_named c =
    sym (c.loop-k.invariant
    ∙ symbol_here _ _ _ _ _ _ _ _ _ c.loop-k-test.true c.is_named.ensures c.if-is_named.true)

pub loop-k-preserved : goal.loop-k-preserved
loop-k-preserved c =
    c.loop-k.invariant ∙ symbol_on _ _ _ _ _ _ _ _ _ c.loop-k-test.true c.is_named.ensures c.if-is_named.false

pub returns : goal.returns
returns c =
    (let e : c.args.symbols ≡ c.loop-k.k = omega arith in e)
    ∙ sym (c.loop-k.invariant ∙ symbol_stop _ _ _ _ _ _ _ _ c.loop-k-test.false)
