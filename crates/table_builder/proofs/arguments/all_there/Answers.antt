use Rattle.std.proofs.Common.{ltb, rules, tests, sym, ◌∙◌}
use Rattle.std.proofs.lemmas.Iterator.{YieldsList-from_slice}
use Rattle.std.proofs.lemmas.Iterator.Search.{all_from_yields_List}
use Rattle.table_builder.proofs.arguments.Laws.{there_all}
use Rattle.table_builder.proofs.arguments.all_there.Goals as goal

pub returns : goal.returns
returns c =
    let l = c.args.args.now in
    all_from_yields_List (λ a. ltb a c.args.n) _ _ _ c.all.ensures.ran (YieldsList-from_slice l cc) (λ x b q k. search (rules, tests))
    ∙ sym (there_all c.args.n l)
