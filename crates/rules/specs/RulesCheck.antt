-- What `rules_check` promises: the checker's contract, and what the checker hands back as numbers in a lent list.
use Rattle.std.specs.Prelude.{ℕ, ◌≡◌, List, [], ◌∷◌, length}
use Rattle.checker_spec.specs.CheckText.{check_text}
use Rattle.checker_spec.specs.Promises.{HandedBack, handed_back, CheckContract}
use Rattle.rules.specs.Results.{put_front}

-- Verdict, line, refusal number.
unfoldable pub check_numbers : HandedBack → List ℕ
check_numbers h = h.verdict ∷ h.line ∷ h.number ∷ []

-- What the checker hands back for these bytes, this text and buffers of these lengths.
unfoldable pub check_of : List ℕ → List ℕ → List ℕ → List ℕ → HandedBack
check_of bytes text table work = handed_back (check_text bytes text (length table) (length work))

-- For every input: the lent buffers as the checker leaves them, the verdict's number returned, the three numbers over the front
-- of `result`.
pub record RulesCheck (bytes text table work result table' work' result' : List ℕ) (n : ℕ) : Type 0 where
  pub checks : CheckContract bytes text table work table' work' (check_of bytes text table work)
  pub value : n ≡ (check_of bytes text table work).verdict
  pub result_end : result' ≡ put_front (check_numbers (check_of bytes text table work)) result
