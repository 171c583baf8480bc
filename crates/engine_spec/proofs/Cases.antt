-- Refusals 1 to 5, 13 and 12, in checking order, and the final contents of the buffers, computed on the sheet "a strobe may go".
use Prim.Native.Nat.{ℕ}
use mathlib.Core.Path.{◌≡◌, refl}
use mathlib.Core.List.{List, [], ◌∷◌}
use lib.ListN.{replicate}
use Rattle.sheet_format.specs.Bytes.{ascii}
use Rattle.sheet_format.specs.Sheets.{refusal}
use Rattle.sheet_format.specs.Buffers.{zeroed, demanded}
use Rattle.engine_spec.specs.EngineRun.{Request, turned_back, answered, reported_proved, reported_no, is_early, work_after, answer_after}
use Rattle.engine_spec.proofs.Computing.{compute_run}

abbrev strobe : List ℕ
strobe = ascii "P\tmay\t1\nF\tstrobe\t0\nA\t1\nA\t0\t0\nC\t1\nQ\t1\n"

-- So many units, and so many proofs.
abbrev ask : ℕ → ℕ → Request
ask budget proofs = record { budget = budget; proofs = proofs }

-- Refusals arise in the order of sheet, table, budget, number of proofs, work buffer, the sheet's lines and answer buffer.
sheet_first : compute_run (replicate 16385 0) (ask 0 0) 8191 0 0 ≡ turned_back (refusal 1 0)
unfolding compute_run
sheet_first = refl

then_table : compute_run (replicate 16384 0) (ask 0 0) 8191 0 0 ≡ turned_back (refusal 2 0)
unfolding compute_run
then_table = refl

then_budget : compute_run (ascii "x") (ask 0 0) 8192 0 0 ≡ turned_back (refusal 3 0)
unfolding compute_run
then_budget = refl

over_budget : compute_run (ascii "x") (ask 50001 65) 8192 0 0 ≡ turned_back (refusal 3 0)
unfolding compute_run
over_budget = refl

then_proofs : compute_run (ascii "x") (ask 50000 0) 8192 0 0 ≡ turned_back (refusal 13 0)
unfolding compute_run
then_proofs = refl

over_proofs : compute_run (ascii "x") (ask 50000 65) 8192 0 0 ≡ turned_back (refusal 13 0)
unfolding compute_run
over_proofs = refl

then_work : compute_run (ascii "x") (ask 50000 64) 8192 3199999 0 ≡ turned_back (refusal 5 0)
unfolding compute_run
then_work = refl

then_lines : compute_run (ascii "x") (ask 50000 64) 8192 3200000 0 ≡ turned_back (refusal 6 1)
unfolding compute_run
then_lines = refl

then_answer : compute_run strobe (ask 3 1) 8192 192 21 ≡ turned_back (refusal 12 0)
unfolding compute_run
then_answer = refl

fits : compute_run strobe (ask 3 1) 8192 192 22 ≡ answered
    (record { outcome = reported_proved; units = 3; proofs = 1; text = ascii "R\tproved\t3\nD\tclause\t1\n" })
unfolding compute_run
fits = refl

-- Request W-202: the walk goes on after the proof, at no unit, and no further path succeeds.
no_other_lem : compute_run strobe (ask 256 2) 8192 16384 256 ≡ answered
    (record { outcome = reported_no; units = 3; proofs = 1; text = ascii "R\tproved\t3\nD\tclause\t1\nR\tno\t3\n" })
unfolding compute_run
no_other_lem = refl

-- On refusals 5 and 13 the work buffer stays; past 5 only its demanded part is zeroed; an answer changes only its own bytes.
untouched_13 : work_after (turned_back (refusal 13 0)) 1 (7 ∷ 7 ∷ []) ≡ 7 ∷ 7 ∷ []
unfolding work_after is_early
untouched_13 = refl

untouched : work_after (turned_back (refusal 5 0)) 1 (7 ∷ 7 ∷ []) ≡ 7 ∷ 7 ∷ []
unfolding work_after is_early
untouched = refl

cleared : work_after (turned_back (refusal 12 0)) 1 (replicate 65 7) ≡ zeroed 64 (replicate 65 7)
unfolding work_after is_early demanded
cleared = refl

own_bytes_lem : answer_after (answered (record { outcome = reported_proved; units = 1; proofs = 1; text = 1 ∷ 2 ∷ [] })) (7 ∷ 7 ∷ 7 ∷ [])
    ≡ 1 ∷ 2 ∷ 7 ∷ []
unfolding answer_after
own_bytes_lem = refl
