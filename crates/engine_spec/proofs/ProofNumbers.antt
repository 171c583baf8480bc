-- Request W-202: a number of proofs that is not permitted is turned back with 13, and nothing else is.
use Prim.Native.Nat.{ℕ}
use mathlib.Core.Path.{◌≡◌, refl, sym, ◌∙◌, ap}
use mathlib.Core.Bool.{Bool, true, false, ◌||◌, cond}
use mathlib.Core.List.{List}
use mathlib.Core.Logic.{inl, inr}
use native.Mathlib.Omega.{arith}
use lib.Dec.{eqb, ltb}
use lib.ListN.{length}
use borrow.Author.Tests.{eqb-true, ltb-true, le-ltb, lt-ltb, ne_eqb}
use Rattle.sheet_format.specs.Limits.{max_sheet_bytes, table_numbers, max_budget, max_proofs, max_text_bytes}
use Rattle.sheet_format.specs.Sheets.{refusal, Read, sheet, refused, read_sheet, turn_back_if}
use Rattle.engine_spec.specs.EngineRun.{Request, Answer, Result, answered, turned_back, answer_to, enumeration_of, fit, run_sheet}
use Rattle.engine_spec.specs.EngineRun.{engine_run, engine_run_by, is_early, table_after, work_after, answer_after}
use Rattle.engine_spec.specs.Promises.{HandedBack, handed_back, RunContract}
use Rattle.engine_spec.specs.ProofNumbers.{NotPermitted, NumbersTurnedBack, OnlyNumbersTurnedBack}
use Rattle.engine_spec.proofs.RefusalNumbers.{ReadLow, read_low}

-- The test of 13 tells whether the number is permitted.
not_permitted : (n : ℕ) → eqb n 0 || ltb max_proofs n ≡ true → NotPermitted n
not_permitted n e = go (eqb n 0) refl e
  where
    go : (b : Bool) → eqb n 0 ≡ b → b || ltb max_proofs n ≡ true → NotPermitted n
    go true q k = inl (eqb-true n 0 q)
    go false q k = inr (ltb-true max_proofs n k)

is_refused : (n : ℕ) → NotPermitted n → eqb n 0 || ltb max_proofs n ≡ true
is_refused n (inl e) = rw (e)
is_refused n (inr l) = rw (ne_eqb n 0 (λ e. omega arith), lt-ltb max_proofs n l)

-- A refusal with 13 is that of a number that is not permitted.
unfoldable Only : ℕ → Result → Type 0
Only n (answered a) = Unit {0}
Only n (turned_back f) = f.number ≡ 13 → NotPermitted n × (f ≡ refusal 13 0)

-- A test with another number keeps it so,
only_gate : (n : ℕ) (b : Bool) (k : ℕ) (r : Result) → (k ≡ 13 → ⊥) → Only n r → Only n (turn_back_if turned_back b k r)
unfolding turn_back_if Only
only_gate n true k r ne h = λ e. absurd (ne e)
only_gate n false k r ne h = h

-- and so does the test of the number.
only_number : (n : ℕ) (b : Bool) → eqb n 0 || ltb max_proofs n ≡ b → (r : Result) → Only n r → Only n (turn_back_if turned_back b 13 r)
unfolding turn_back_if Only
only_number n true e r h = λ k. (not_permitted n e, refl)
only_number n false e r h = h

only_sheet : (ask : Request) (a : ℕ) (r : Read) → ReadLow r → Only ask.proofs (run_sheet ask a r)
unfolding run_sheet fit Only ReadLow
only_sheet ask a (refused f) h = λ e. absurd (omega arith)
only_sheet ask a (sheet s) h = fits (ltb max_text_bytes (length x.text) || ltb a (length x.text))
  where
    x : Answer
    x = answer_to s ask.budget (enumeration_of s ask)

    fits : (b : Bool) → Only ask.proofs (cond b (turned_back (refusal 12 0)) (answered x))
    fits true = λ e. absurd (omega arith)
    fits false = tt

only_run : (bytes : List ℕ) (ask : Request) (t w a : ℕ) → Only ask.proofs (engine_run bytes ask t w a)
unfolding engine_run engine_run_by
only_run bytes ask t w a =
    only_gate n _ 1 _ (λ e. omega arith)
    (only_gate n _ 2 _ (λ e. omega arith)
    (only_gate n _ 3 _ (λ e. omega arith)
    (only_number n (eqb n 0 || ltb max_proofs n) refl _
    (only_gate n _ 5 _ (λ e. omega arith) (only_sheet ask a (read_sheet bytes) (read_low bytes))))))
  where
    n : ℕ
    n = ask.proofs

-- What a refusal with 13 leaves.
refused_13 : (bytes : List ℕ) (ask : Request) (table work answer table' work' answer' : List ℕ) (r : HandedBack)
    → RunContract bytes ask table work answer table' work' answer' r
    → engine_run bytes ask (length table) (length work) (length answer) ≡ turned_back (refusal 13 0)
    → (r ≡ handed_back (turned_back (refusal 13 0))) × (table' ≡ table) × (work' ≡ work) × (answer' ≡ answer)
unfolding table_after work_after answer_after is_early
refused_13 bytes ask table work answer table' work' answer' r c e = (
  c.value ∙ ap handed_back e,
  c.table_end ∙ ap (λ (x : Result). table_after x table) e,
  c.work_end ∙ ap (λ (x : Result). work_after x ask.budget work) e,
  c.answer_end ∙ ap (λ (x : Result). answer_after x answer) e,
)

pub numbers_turned_back : NumbersTurnedBack
unfolding engine_run engine_run_by turn_back_if
numbers_turned_back bytes ask table work answer table' work' answer' r c small room least most h =
    refused_13 bytes ask table work answer table' work' answer' r c
    (rw (
      le-ltb max_sheet_bytes (length bytes) small,
      le-ltb (length table) table_numbers room,
      ne_eqb ask.budget 0 (λ e. omega arith),
      le-ltb max_budget ask.budget most,
      is_refused ask.proofs h,
    ))

pub only_numbers_turned_back : OnlyNumbersTurnedBack
unfolding Only handed_back
only_numbers_turned_back bytes ask table work answer table' work' answer' r c h =
    go (engine_run bytes ask (length table) (length work) (length answer)) refl
    (only_run bytes ask (length table) (length work) (length answer))
  where
    go : (q : Result) → engine_run bytes ask (length table) (length work) (length answer) ≡ q → Only ask.proofs q
        → NotPermitted ask.proofs × (r ≡ handed_back (turned_back (refusal 13 0))) × (table' ≡ table) × (work' ≡ work) × (answer' ≡ answer)
    go (answered x) e o = absurd (let z : r.number ≡ 0 = ap (λ (b : HandedBack). b.number) (c.value ∙ ap handed_back e) in omega arith)
    go (turned_back f) e o =
        let z : r.number ≡ f.number = ap (λ (b : HandedBack). b.number) (c.value ∙ ap handed_back e) in
        let p = o (sym z ∙ h) in
        let q = refused_13 bytes ask table work answer table' work' answer' r c (e ∙ ap turned_back p.1) in
        (p.0, q.0, q.1, q.2, q.3)
