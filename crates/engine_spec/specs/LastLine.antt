-- Request W-202: "The run hands back the outcome and units of the last R line and the number of proofs".
use Rattle.std.specs.Prelude.{ℕ, suc, ◌≡◌, List, length}
use Rattle.enumeration.specs.Enumeration.{Proof}
use Rattle.sheet_format.specs.Sheets.{Sheet, sheet, read_sheet}
use Rattle.answer_texts.specs.Spelling.{no_text, spent_text}
use Rattle.answer_texts.specs.Enumerations.{found_text}
use Rattle.engine_spec.specs.EngineRun.{Request, Reported, reported_proved, reported_no, reported_spent, Answer, answered, engine_run}
use Rattle.engine_spec.specs.Promises.{join_texts}

-- What stands after the texts of other proofs: the last proof, which begins with its R line, or the R line of no or of spent.
unfoldable pub EndsWith : Sheet → Answer → List (List ℕ) → Reported → Type 0
EndsWith s x before reported_proved =
    (p : Proof) × (suc (length before) ≡ x.proofs) × (x.units ≡ p.units) × (x.text ≡ join_texts before (found_text s p))
EndsWith s x before reported_no = (length before ≡ x.proofs) × (x.text ≡ join_texts before (no_text x.units))
EndsWith s x before reported_spent = (length before ≡ x.proofs) × (x.text ≡ join_texts before (spent_text x.units))

-- It has the outcome and the units of the answer.
abbrev pub LastLines : Type 0
LastLines = (bytes : List ℕ) (ask : Request) (t w a : ℕ) (x : Answer) → engine_run bytes ask t w a ≡ answered x
    → (s : Sheet) → read_sheet bytes ≡ sheet s → (before : List (List ℕ)) × EndsWith s x before x.outcome
