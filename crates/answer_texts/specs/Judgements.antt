-- Document 01, the checker: "valid, or not valid with the first line that breaks a rule or form given here".
use Rattle.std.specs.Prelude.{ℕ}

pub data Judgement : Type 0 where
  valid : Judgement
  invalid : ℕ → Judgement
