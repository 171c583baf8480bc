-- One law for each way through a function; the hypotheses are the facts on the code's path.
use Prim.Native.Nat.{ℕ, ◌*◌, ◌≤◌}
use mathlib.Core.Path.{◌≡◌, ◌∙◌, ap}
use mathlib.Core.List.{List}
use lib.ListN.{length, take}
use borrow.Author.Tests.{eq-eqb, ne_eqb}
use Rattle.outcomes.specs.declared.Run.{Run}
use Rattle.machine.specs.declared.Registers.{Registers}
use Rattle.machine.specs.Records.{Made, made}
use Rattle.machine.specs.Machine.{run_machine}
use Rattle.sheet_format.specs.Limits.{numbers_per_unit}
use Rattle.memory.proofs.Parts.{part_fits}
use Rattle.sheet_format.specs.Buffers.{demanded}
use Rattle.engine.specs.declared.listing.Query.{Query}
use Rattle.engine.specs.Answering.{reply, report_outcome}
use Rattle.engine.specs.Listing.{report_proofs}
use Rattle.engine.specs.Searching.{report_search}

-- The part of the work buffer that is lent is long enough.
pub part_demanded : (budget m : ℕ) (l : List ℕ) → m ≡ budget → demanded budget ≤ length l
    → demanded budget ≤ length (take (numbers_per_unit * m) l)
unfolding demanded
part_demanded budget m l e h = rw e (part_fits (numbers_per_unit * budget) l h)

-- The search for one proof is told,
pub searched_once : (sheet t : List ℕ) (q : Query) (w w' out out' : List ℕ) (r : Registers) (e : Run) → q.proofs ≡ 1
    → made w' r ≡ run_machine q.budget t q.clauses q.goal w
    → reply out' e ≡ report_outcome sheet t q.goal q.budget (made w' r) out
    → reply out' e ≡ report_search sheet t q (run_machine q.budget t q.clauses q.goal w) out
unfolding report_search
searched_once sheet t q w w' out out' r e h m d =
    rw (eq-eqb q.proofs 1 h) (d ∙ ap (λ (x : Made). report_outcome sheet t q.goal q.budget x out) m)

-- and that for several.
pub searched_all : (sheet t : List ℕ) (q : Query) (w w' out out' : List ℕ) (r : Registers) (e : Run) → (q.proofs ≡ 1 → ⊥)
    → made w' r ≡ run_machine q.budget t q.clauses q.goal w → reply out' e ≡ report_proofs sheet t q (made w' r) out
    → reply out' e ≡ report_search sheet t q (run_machine q.budget t q.clauses q.goal w) out
unfolding report_search
searched_all sheet t q w w' out out' r e h m d =
    rw (ne_eqb q.proofs 1 h) (d ∙ ap (λ (x : Made). report_proofs sheet t q x out) m)
