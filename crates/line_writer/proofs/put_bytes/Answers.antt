use Rattle.line_writer.proofs.Laws.{part_appended}
use Rattle.line_writer.proofs.put_bytes.Goals as goal

pub returns : goal.returns
returns c = part_appended _ _ _ _ _ c.copy_from_slice.ensures.after c.requires
