use Rattle.std.proofs.Common.{rules, ap, ◌∙◌, length}
use lib.Dec.{eqb}
use Rattle.std.specs.Prelude.{unwrap_or}
use Rattle.std.proofs.lemmas.Iterator.{YieldsList-from_slice}
use Rattle.std.proofs.lemmas.Iterator.Search.{position_from_yields_List}
use Rattle.sheet_format.specs.Bytes.{tab}
use Rattle.line_parser.proofs.fields.Laws.{field_position}
use Rattle.line_parser.proofs.fields.field_len.Goals as goal

pub returns : goal.returns
returns c =
    c.unwrap_or.ensures
    ∙ ap (λ o. unwrap_or o (length c.args.s.now)) (position_from_yields_List (λ b. eqb b tab) _ _ _ c.position.ensures.ran
    (YieldsList-from_slice c.args.s.now cc) (λ x b q k. search rules))
    ∙ field_position c.args.s.now
