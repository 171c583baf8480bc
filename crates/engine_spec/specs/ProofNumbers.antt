-- Request W-202: "Refused: 13 if the number is 0 or over 64, right after 3, with line 0 and no buffer changed."
use Rattle.std.specs.Prelude.{ℕ, ◌≤◌, ◌<◌, ◌≡◌, List, ◌⊎◌, length}
use Rattle.sheet_format.specs.Limits.{max_sheet_bytes, table_numbers, max_budget, max_proofs}
use Rattle.sheet_format.specs.Sheets.{refusal}
use Rattle.engine_spec.specs.EngineRun.{Request, turned_back}
use Rattle.engine_spec.specs.Promises.{HandedBack, handed_back, RunContract}

-- The number is 0 or over 64.
abbrev pub NotPermitted : ℕ → Type 0
NotPermitted proofs = (proofs ≡ 0) ⊎ (max_proofs < proofs)

-- Such a number is turned back with 13 where refusals 1, 2 and 3 do not arise, whatever the sheet's bytes and the other buffers;
abbrev pub NumbersTurnedBack : Type 0
NumbersTurnedBack =
    (bytes : List ℕ) (ask : Request) (table work answer table' work' answer' : List ℕ) (r : HandedBack)
    → RunContract bytes ask table work answer table' work' answer' r
    → length bytes ≤ max_sheet_bytes → table_numbers ≤ length table → 1 ≤ ask.budget → ask.budget ≤ max_budget → NotPermitted ask.proofs
    → (r ≡ handed_back (turned_back (refusal 13 0))) × (table' ≡ table) × (work' ≡ work) × (answer' ≡ answer)

-- and nothing else is turned back with 13.
abbrev pub OnlyNumbersTurnedBack : Type 0
OnlyNumbersTurnedBack =
    (bytes : List ℕ) (ask : Request) (table work answer table' work' answer' : List ℕ) (r : HandedBack)
    → RunContract bytes ask table work answer table' work' answer' r → r.number ≡ 13
    → NotPermitted ask.proofs × (r ≡ handed_back (turned_back (refusal 13 0))) × (table' ≡ table) × (work' ≡ work) × (answer' ≡ answer)
