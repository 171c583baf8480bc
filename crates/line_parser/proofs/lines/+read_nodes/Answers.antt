use mathlib.Core.Path.{sym, ◌∙◌}
use Rattle.line_parser.proofs.lines.Laws.{rest_less, nodes_bad, nodes_full, nodes_last, nodes_more}
use borrow.Author.Rules.{rules}
use Rattle.line_parser.proofs.lines.+read_nodes.Goals as goal

pub returns-in_default : goal.returns-in_default
returns-in_default t c = nodes_bad _ _ _ (sym c.read_number.ensures ∙ c.in_default.is)

pub returns-then-ns-ge-MAX_ARITY : goal.returns-then-ns-ge-MAX_ARITY
returns-then-ns-ge-MAX_ARITY t c =
    nodes_full _ _ _ _ _ (sym c.read_number.ensures ∙ c.in-Some.is)
    c.if-ns-ge-MAX_ARITY.true

pub returns-then-s-e : goal.returns-then-s-e
returns-then-s-e t c =
    nodes_last _ _ _ _ _ _ (sym c.read_number.ensures ∙ c.in-Some.is) c.if-ns-ge-MAX_ARITY.false
    c.push_node-more.ensures c.if-s-e.true

pub read_nodes-requires : goal.read_nodes-requires
read_nodes-requires t c =
    (rest_less c.args.s.now _ _ c.decreases c.if-s-e.false, search rules)

pub returns : goal.returns
returns t c =
    c.read_nodes.ensures ∙ nodes_more _ _ _ _ _ _
    (sym c.read_number.ensures ∙ c.in-Some.is)
    c.if-ns-ge-MAX_ARITY.false
    c.push_node-more.ensures c.if-s-e.false
