use Rattle.std.proofs.Common.{arith}
use Rattle.line_writer.proofs.Laws.{refusal_written}
use Rattle.line_writer.proofs.put_refusal.Goals as goal

pub returns : goal.returns
returns c =
    refusal_written _ _ _ _ _ _ _ _ _ _ _ _ _ (omega arith) (omega arith) c.put_bytes-to.ensures
    c.put_number-to.ensures c.put_byte-to.ensures c.put_number-to-2.ensures
    c.put_byte.ensures
