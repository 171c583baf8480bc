use native.Mathlib.Omega.{arith}
use Rattle.sheet_format.specs.Bytes.{ascii}
use Rattle.checker_output.proofs.Laws.{invalid_written}
use Rattle.checker_output.proofs.put_invalid.Goals as goal

pub returns : goal.returns
unfolding ascii
returns c =
    invalid_written _ _ _ _ _ _ _ _ (omega arith) c.put_bytes-to.ensures c.put_number-to.ensures
    c.put_byte.ensures
