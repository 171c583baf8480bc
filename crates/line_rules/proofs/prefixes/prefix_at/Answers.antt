use mathlib.Core.Path.{ap, ◌∙◌}
use native.Mathlib.Omega.{arith}
use Rattle.scanning.specs.Scanning.{Scan}
use Rattle.line_checking.specs.Clauses.{read}
use Rattle.line_rules.proofs.prefixes.Laws.{tab_inside, term_none, term_read, term_wrong}
use Rattle.line_rules.proofs.prefixes.prefix_at.Goals as goal

pub returns-then-byte-ne9 : goal.returns-then-byte-ne9
returns-then-byte-ne9 c = term_none _ _ _ _ _ _ _ _ _ _ _ c.byte.ensures c.if-byte-ne9.true

pub overflow_add-at : goal.overflow_add-at
overflow_add-at c =
    let h = tab_inside c.args.input.text.now _ _ c.byte.ensures c.if-byte-ne9.false in
    omega arith

pub prefix_term-requires : goal.prefix_term-requires
prefix_term-requires c =
    let h = tab_inside c.args.input.text.now _ _ c.byte.ensures c.if-byte-ne9.false in
    omega arith

pub returns : goal.returns
returns c =
    term_read _ _ _ _ _ _ _ _ _ _ _
    c.byte.ensures
    c.if-byte-ne9.false _
    c.scan_term.ensures _ _ _
    c.in_ok-j.was c.prefix_term.ensures

pub returns-in_err-j : goal.returns-in_err-j
returns-in_err-j c =
    ap (λ (o : Scan). read c.args.w.now o) c.from_residual.ensures
    ∙ term_wrong _ _ _ _ _ _ _ _ _ _ _ c.byte.ensures c.if-byte-ne9.false _ c.scan_term.ensures c.in_err-j.was
