use Rattle.line_writer.proofs.Laws.{byte_appended}
use Rattle.line_writer.proofs.put_byte.Goals as goal

pub returns : goal.returns
returns c = byte_appended _ _ _ c.requires
