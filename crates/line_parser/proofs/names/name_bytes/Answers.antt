use Rattle.std.proofs.Common.{rules, refl, sym, ◌∙◌}
use Rattle.std.proofs.lemmas.Iterator.{YieldsList-from_slice}
use Rattle.std.proofs.lemmas.Iterator.Search.{all_from_yields_List}
use Rattle.std.proofs.lemmas.List.Recursion.{same_from_clauses}
use Rattle.std.specs.List.{list_all}
use mathlib.Core.Bool.{◌&&◌}
use Rattle.sheet_format.specs.Bytes.{is_name_byte, name_bytes}
use Rattle.line_parser.proofs.names.Laws.{bytes_step}
use Rattle.line_parser.proofs.names.name_bytes.Goals as goal

pub returns : goal.returns
unfolding name_bytes
returns c =
    all_from_yields_List is_name_byte _ _ _ c.all.ensures.ran (YieldsList-from_slice c.args.f.now cc) (λ x b q k. search rules)
    ∙ sym (same_from_clauses name_bytes (list_all is_name_byte) (λ x y. is_name_byte x && y) refl bytes_step (λ x xs. refl) c.args.f.now)
