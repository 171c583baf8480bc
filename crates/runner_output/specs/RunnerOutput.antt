-- Document 01, "Turned back", last paragraph: "The sheet runner reads a sheet from standard input, runs it with 256 units, a work buffer
-- of 16,384 zeros and 16,384 answer bytes, and prints the answer text, or `X`, number, line, with tabs between and LF at the end."
-- Request W-202: "The caller gives a number from 1 to 64": the runner's argument, and 1 where it has none.
use Rattle.std.specs.Prelude.{ℕ, List}
use Rattle.std.proofs.Math.Option.{Option, none, some}
use Rattle.sheet_format.specs.Limits.{table_numbers}
use Rattle.sheet_format.specs.Bytes.{number}
use Rattle.engine_spec.specs.EngineRun.{Result, answered, turned_back, engine_run}
use Rattle.line_writer.specs.RefusalLine.{refusal_line}

abbrev pub units : ℕ
units = 256

abbrev pub work_numbers : ℕ
work_numbers = 16384

abbrev pub answer_bytes : ℕ
answer_bytes = 16384

unfoldable pub printed : Result → List ℕ
printed (answered a) = a.text
printed (turned_back r) = refusal_line r.number r.line

-- The sheet's bytes, the number of proofs. The table is the smallest that refusal 2 lets pass.
unfoldable pub runner_output : List ℕ → ℕ → List ℕ
runner_output bytes proofs = printed (engine_run bytes (record { budget = units; proofs = proofs }) table_numbers work_numbers answer_bytes)

-- What is no number counts as 0, which is refused: "13 if the number is 0 or over 64".
unfoldable pub or_zero : Option ℕ → ℕ
or_zero none = 0
or_zero (some n) = n

-- The number that the bytes of an argument are. Document 01: "Numbers are in base ten, without sign or leading zeros, up to 65,535."
unfoldable pub proofs_asked : List ℕ → ℕ
proofs_asked argument = or_zero (number argument)
