-- What `rules_run` promises: the engine's contract, and what the engine hands back as numbers in a lent list.
use Rattle.std.specs.Prelude.{ℕ, ◌≡◌, List, [], ◌∷◌, length}
use Rattle.engine_spec.specs.EngineRun.{Request, engine_run}
use Rattle.engine_spec.specs.Promises.{HandedBack, handed_back, RunContract}
use Rattle.rules.specs.Results.{put_front}

-- Outcome, units, text length, refusal number, line.
unfoldable pub run_numbers : HandedBack → List ℕ
run_numbers h = h.outcome ∷ h.units ∷ h.length ∷ h.number ∷ h.line ∷ []

-- One proof is asked for.
abbrev pub one_proof : ℕ → Request
one_proof budget = record { budget = budget; proofs = 1 }

-- What the engine hands back for these bytes, this request and buffers of these lengths.
unfoldable pub run_of : List ℕ → Request → List ℕ → List ℕ → List ℕ → HandedBack
run_of bytes ask table work answer = handed_back (engine_run bytes ask (length table) (length work) (length answer))

-- For every input: the lent buffers as the engine leaves them, the outcome's number returned, the five numbers over the front of `result`.
pub record RulesRun (bytes : List ℕ) (budget : ℕ) (table work answer result table' work' answer' result' : List ℕ) (n : ℕ) : Type 0 where
  pub runs : RunContract bytes (one_proof budget) table work answer table' work' answer' (run_of bytes (one_proof budget) table work answer)
  pub value : n ≡ (run_of bytes (one_proof budget) table work answer).outcome
  pub result_end : result' ≡ put_front (run_numbers (run_of bytes (one_proof budget) table work answer)) result
