use mathlib.Core.Path.{sym}
use lib.Seq.{set_out}
use Rattle.memory.proofs.put_item.Goals as goal

pub returns-else-i-items : goal.returns-else-i-items
returns-else-i-items g c = sym (set_out _ _ _ c.if-i-items.false)
