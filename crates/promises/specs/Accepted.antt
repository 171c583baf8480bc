-- Promise T5 (demand 2): the checker accepts what the engine writes. Request W-202: "The checker takes each proof by itself".
use Rattle.std.specs.Prelude.{ℕ, ◌≤◌, ◌<◌, ◌≡◌, List, ◌⊎◌, length, take}
use Rattle.sheet_format.specs.Limits.{table_numbers}
use Rattle.sheet_format.specs.Buffers.{demanded}
use Rattle.sheet_format.specs.Sheets.{Refusal}
use Rattle.answer_texts.specs.Judgements.{valid}
use Rattle.engine_spec.specs.EngineRun.{Request, Answer, answered, engine_run}
use Rattle.engine_spec.specs.Promises.{HandedBack, RunContract, ProofsIn}
use Rattle.checker_spec.specs.CheckText.{judged, check_refused, count_lf, check_text}
use Rattle.checker_spec.specs.Promises.{HandedBack as CheckedBack, CheckContract}

-- The text is valid, with any buffers that the checker does not turn back. Only refusals 2 and 5 can arise, each where its buffer is
-- too short.
abbrev pub Accepted : List ℕ → List ℕ → Type 0
Accepted bytes text = (t w : ℕ) → (check_text bytes text t w ≡ judged valid)
    ⊎ ((r : Refusal) × (check_text bytes text t w ≡ check_refused r)
    × (((r.number ≡ 2) × (t < table_numbers)) ⊎ ((r.number ≡ 5) × (w < demanded (count_lf text)))))

-- T5: it "accepts every derivation written": each proof in the text of an answer, taken by itself.
abbrev pub AcceptsWritten : Type 0
AcceptsWritten = (bytes : List ℕ) (ask : Request) (t w a : ℕ) (x : Answer) → engine_run bytes ask t w a ≡ answered x
    → ProofsIn (Accepted bytes) x.proofs x.text

-- The same of `check`, which promises this contract for every input: a check says valid, whatever the buffers hold, or turns back a
-- buffer that is too short.
abbrev pub Checks : List ℕ → List ℕ → Type 0
Checks bytes text = (table work table' work' : List ℕ) (v : CheckedBack) → CheckContract bytes text table work table' work' v
    → (v.verdict ≡ 0)
    ⊎ (((v.number ≡ 2) × (length table < table_numbers)) ⊎ ((v.number ≡ 5) × (length work < demanded (count_lf text))))

-- T5 of `run` and `check`: where a run hands back an outcome, as many proofs as it hands back stand in the answer buffer, and a check of
-- the same sheet and of any of them says so.
abbrev pub RunChecks : Type 0
RunChecks = (bytes : List ℕ) (ask : Request) (table work answer table' work' answer' : List ℕ) (r : HandedBack)
    → RunContract bytes ask table work answer table' work' answer' r → r.outcome ≤ 2
    → ProofsIn (Checks bytes) r.proofs (take r.length answer')

-- Where proved is handed back with one proof, nothing follows it: the whole text is such a proof.
abbrev pub RunChecksWhole : Type 0
RunChecksWhole = (bytes : List ℕ) (ask : Request) (table work answer table' work' answer' : List ℕ) (r : HandedBack)
    → RunContract bytes ask table work answer table' work' answer' r → r.outcome ≡ 0 → r.proofs ≡ 1
    → Checks bytes (take r.length answer')
