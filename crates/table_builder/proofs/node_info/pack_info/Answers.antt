use mathlib.Core.Path.{refl}
use Rattle.node_table.specs.Layout.{pack_info}
use Rattle.table_builder.proofs.node_info.pack_info.Goals as goal

pub returns : goal.returns
unfolding pack_info
returns c = refl
