-- One law for each way through a function; the hypotheses are the facts on the code's path.
use Prim.Native.Nat.{ℕ, ◌*◌, ◌≤◌, ◌<◌}
use mathlib.Core.Path.{◌≡◌}
use Rattle.std.specs.Prelude.{Some, None}
use borrow.Author.Tests.{lt-ltb, le-ltb}
use Rattle.outcomes.specs.declared.Request.{Request}
use Rattle.outcomes.specs.declared.refusals.Reason.{Reason}
use Rattle.outcomes.specs.declared.refusals.Reason.TheVariants.{WorkTooShort}
use Rattle.sheet_format.specs.Limits.{max_sheet_bytes, table_numbers, numbers_per_unit}
use Rattle.sheet_format.specs.Buffers.{demanded}
use Rattle.engine.specs.Answering.{ask_refusal, run_refusal}

module _ (sheet : ℕ) (ask : Request) (table work : ℕ) (short : sheet ≤ max_sheet_bytes) (room : table_numbers ≤ table) where
  -- What is asked for is refused.
  pub refused_ask : (reason : Reason) → Some reason ≡ ask_refusal ask.budget ask.proofs → Some reason ≡ run_refusal sheet ask table work
  unfolding run_refusal
  refused_ask reason e = rw (le-ltb max_sheet_bytes sheet short, le-ltb table table_numbers room, ← e)

  -- The work buffer is too short.
  pub refused_work : (b : ℕ) → None ≡ ask_refusal ask.budget ask.proofs → b ≡ ask.budget → work < numbers_per_unit * b
      → Some WorkTooShort ≡ run_refusal sheet ask table work
  unfolding run_refusal demanded
  refused_work b e i h =
      rw (
        le-ltb max_sheet_bytes sheet short,
        le-ltb table table_numbers room,
        ← e,
        ← i,
        lt-ltb work (numbers_per_unit * b) h,
      )

  -- Nothing is refused.
  pub refused_none : (b : ℕ) → None ≡ ask_refusal ask.budget ask.proofs → b ≡ ask.budget → numbers_per_unit * b ≤ work
      → None ≡ run_refusal sheet ask table work
  unfolding run_refusal demanded
  refused_none b e i h =
      rw (
        le-ltb max_sheet_bytes sheet short,
        le-ltb table table_numbers room,
        ← e,
        ← i,
        le-ltb work (numbers_per_unit * b) h,
      )
