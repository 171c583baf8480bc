use Rattle.std.proofs.Common.{eqb, rules, tests, sym, ◌∙◌}
use mathlib.Core.Bool.{not}
use Rattle.std.proofs.lemmas.Iterator.{YieldsList-from_slice}
use Rattle.std.proofs.lemmas.Iterator.Search.{all_from_yields_List}
use Rattle.node_table.specs.Layout.{size_of}
use Rattle.table_builder.proofs.arguments.Laws.{terms_all}
use Rattle.table_builder.proofs.arguments.all_terms.Goals as goal

pub returns : goal.returns
returns c =
    let l = c.args.args.now in
    all_from_yields_List (λ a. not (eqb (size_of c.args.t.now a) 0)) _ _ _ c.all.ensures.ran (YieldsList-from_slice l cc)
    (λ x b q k. search (rules, tests))
    ∙ sym (terms_all c.args.t.now l)
