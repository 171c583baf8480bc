-- What `rules_ask` promises (request W-202): the engine's contract for what the request's numbers ask for, and what it hands back as numbers
-- in a lent list. Both lists are read and written as far as they are long, so that later numbers leave today's callers as they are.
use Rattle.std.specs.Prelude.{ℕ, ◌≡◌, List, [], ◌∷◌, ◌++◌, get_or}
use Rattle.engine_spec.specs.EngineRun.{Request}
use Rattle.engine_spec.specs.Promises.{HandedBack, RunContract}
use Rattle.rules.specs.Results.{put_front}
use Rattle.rules.specs.RulesRun.{run_numbers, run_of}

-- The budget and the number of proofs; a missing budget is 0, a missing number 1.
unfoldable pub requested : List ℕ → Request
requested l = record { budget = get_or l 0 0; proofs = get_or l 1 1 }

-- The numbers of `rules_run`, then the number of proofs.
unfoldable pub ask_numbers : HandedBack → List ℕ
ask_numbers h = run_numbers h ++ (h.proofs ∷ [])

-- For every input: the lent buffers as the engine leaves them, the outcome's number returned, the six numbers over the front of `result`.
pub record RulesAsk (bytes request table work answer result table' work' answer' result' : List ℕ) (n : ℕ) : Type 0 where
  pub runs : RunContract bytes (requested request) table work answer table' work' answer'
      (run_of bytes (requested request) table work answer)
  pub value : n ≡ (run_of bytes (requested request) table work answer).outcome
  pub result_end : result' ≡ put_front (ask_numbers (run_of bytes (requested request) table work answer)) result
