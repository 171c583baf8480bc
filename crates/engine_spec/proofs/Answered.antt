-- When a run answers, and with what: none of refusals 1 to 5 and 13 arose, the bytes are a sheet, and its answer fits.
use Prim.Native.Nat.{ℕ, ◌≤◌}
use mathlib.Core.Path.{◌≡◌, refl, sym}
use mathlib.Core.Bool.{Bool, true, false, ◌||◌, cond}
use mathlib.Core.List.{List}
use mathlib.Core.Logic.{◌⊎◌, inl, inr}
use native.Mathlib.Omega.{arith}
use lib.Dec.{eqb, ltb}
use lib.ListN.{length}
use borrow.Author.Tests.{ltb-false, eqb-false, le-ltb, ne_eqb}
use Rattle.sheet_format.specs.Limits.{max_sheet_bytes, table_numbers, max_budget, max_proofs, max_text_bytes}
use Rattle.sheet_format.specs.Sheets.{Sheet, Refusal, refusal, Read, sheet, refused, read_sheet, turn_back_if}
use Rattle.sheet_format.specs.Buffers.{demanded}
use Rattle.engine_spec.specs.EngineRun.{Request, Answer, Result, answered, turned_back, enumeration_of, answer_to, fit, run_sheet}
use Rattle.engine_spec.specs.EngineRun.{engine_run, engine_run_by}

-- The tests of refusals 1, 2, 3, 13 and 5 all fail.
pub record Passed (bytes : List ℕ) (ask : Request) (t w : ℕ) : Type 0 where
  pub sheet_fits : length bytes ≤ max_sheet_bytes
  pub table_fits : table_numbers ≤ t
  pub least : 1 ≤ ask.budget
  pub most : ask.budget ≤ max_budget
  pub least_proofs : 1 ≤ ask.proofs
  pub most_proofs : ask.proofs ≤ max_proofs
  pub work_fits : demanded ask.budget ≤ w

-- The run answers x for the sheet s.
pub record Answers (bytes : List ℕ) (ask : Request) (t w a : ℕ) (x : Answer) : Type 0 where
  pub passed : Passed bytes ask t w
  pub s : Sheet
  pub read : read_sheet bytes ≡ sheet s
  pub text_fits : length x.text ≤ max_text_bytes
  pub buffer_fits : length x.text ≤ a
  pub is : x ≡ answer_to s ask.budget (enumeration_of s ask)

-- A refusal is no answer.
refused_answered : (r : Refusal) (x : Answer) → turned_back r ≡ answered x → ⊥
refused_answered r x e = let z : ◌≡◌ {A = ℕ} 0 1 = cc in omega arith

-- Where there is an answer, the size check was passed and what follows it is the answer.
passed_gate : (b : Bool) (n : ℕ) (r : Result) (x : Answer) → turn_back_if turned_back b n r ≡ answered x → (b ≡ false) × (r ≡ answered x)
unfolding turn_back_if
passed_gate true n r x e = absurd (refused_answered (refusal n 0) x e)
passed_gate false n r x e = (refl, e)

or_false : (a b : Bool) → a || b ≡ false → (a ≡ false) × (b ≡ false)
or_false true b e = absurd (let z : ◌≡◌ {A = ℕ} 0 1 = cc in omega arith)
or_false false b e = (refl, e)

fit_answered : (a : ℕ) (y x : Answer) → fit a y ≡ answered x → (y ≡ x) × (length y.text ≤ max_text_bytes) × (length y.text ≤ a)
unfolding fit
fit_answered a y x e = go (ltb max_text_bytes (length y.text) || ltb a (length y.text)) refl e
  where
    go : (b : Bool) → ltb max_text_bytes (length y.text) || ltb a (length y.text) ≡ b
        → cond b (turned_back (refusal 12 0)) (answered y) ≡ answered x
        → (y ≡ x) × (length y.text ≤ max_text_bytes) × (length y.text ≤ a)
    go true q e = absurd (refused_answered (refusal 12 0) x e)
    go false q e = let r = or_false _ _ q in (cc, ltb-false _ _ r.0, ltb-false _ _ r.1)

run_sheet_answered : (ask : Request) (a : ℕ) (r : Read) (x : Answer) → run_sheet ask a r ≡ answered x
    → (s : Sheet) × (r ≡ sheet s) × (fit a (answer_to s ask.budget (enumeration_of s ask)) ≡ answered x)
unfolding run_sheet
run_sheet_answered ask a (refused r) x e = absurd (refused_answered r x e)
run_sheet_answered ask a (sheet s) x e = (s, refl, e)

-- A run that answers x has passed the size checks, read a sheet and answered what the search comes to.
pub answered_answers : (bytes : List ℕ) (ask : Request) (t w a : ℕ) (x : Answer) → engine_run bytes ask t w a ≡ answered x
    → Answers bytes ask t w a x
unfolding engine_run engine_run_by
answered_answers bytes ask t w a x e =
    let g1 = passed_gate _ _ _ x e in
    let g2 = passed_gate _ _ _ x g1.1 in
    let g3 = passed_gate _ _ _ x g2.1 in
    let g13 = passed_gate _ _ _ x g3.1 in
    let g5 = passed_gate _ _ _ x g13.1 in
    let b = or_false (eqb ask.budget 0) (ltb max_budget ask.budget) g3.0 in
    let p = or_false (eqb ask.proofs 0) (ltb max_proofs ask.proofs) g13.0 in
    let q = run_sheet_answered ask a (read_sheet bytes) x g5.1 in
    let f = fit_answered a (answer_to q.0 ask.budget (enumeration_of q.0 ask)) x q.2 in
    record {
      passed = record {
        sheet_fits = ltb-false _ _ g1.0;
        table_fits = ltb-false _ _ g2.0;
        least = let z = eqb-false ask.budget 0 b.0 in omega arith;
        most = ltb-false _ _ b.1;
        least_proofs = let z = eqb-false ask.proofs 0 p.0 in omega arith;
        most_proofs = ltb-false _ _ p.1;
        work_fits = ltb-false _ _ g5.0;
      };
      s = q.0;
      read = q.1;
      text_fits = rw (← f.0) f.1;
      buffer_fits = rw (← f.0) f.2;
      is = sym f.0;
    }

-- A run whose sheet and budget pass ends with its answer, or with refusal 2, 5 or 12.
pub passes : (bytes : List ℕ) (ask : Request) (t w a : ℕ) (s : Sheet) → length bytes ≤ max_sheet_bytes → 1 ≤ ask.budget
    → ask.budget ≤ max_budget → 1 ≤ ask.proofs → ask.proofs ≤ max_proofs → read_sheet bytes ≡ sheet s
    → (engine_run bytes ask t w a ≡ answered (answer_to s ask.budget (enumeration_of s ask)))
    ⊎ ((r : Refusal) × (engine_run bytes ask t w a ≡ turned_back r) × ((r.number ≡ 2) ⊎ ((r.number ≡ 5) ⊎ (r.number ≡ 12))))
unfolding engine_run engine_run_by turn_back_if run_sheet fit
passes bytes ask t w a s short least most one few read =
    rw (
      le-ltb max_sheet_bytes (length bytes) short,
      ne_eqb ask.budget 0 (λ q. omega arith),
      le-ltb max_budget ask.budget most,
      ne_eqb ask.proofs 0 (λ q. omega arith),
      le-ltb max_proofs ask.proofs few,
      read,
    ) (table (ltb t table_numbers))
  where
    y : Answer
    y = answer_to s ask.budget (enumeration_of s ask)

    Ends : Result → Type 0
    Ends o = (o ≡ answered y) ⊎ ((r : Refusal) × (o ≡ turned_back r) × ((r.number ≡ 2) ⊎ ((r.number ≡ 5) ⊎ (r.number ≡ 12))))

    fitting : (b : Bool) → Ends (cond b (turned_back (refusal 12 0)) (answered y))
    fitting true = inr (refusal 12 0, refl, inr (inr refl))
    fitting false = inl refl

    work : (b : Bool) → Ends (turn_back_if turned_back b 5 (fit a y))
    work true = inr (refusal 5 0, refl, inr (inl refl))
    work false = fitting (ltb max_text_bytes (length y.text) || ltb a (length y.text))

    table : (b : Bool) → Ends (turn_back_if turned_back b 2 (turn_back_if turned_back (ltb w (demanded ask.budget)) 5 (fit a y)))
    table true = inr (refusal 2 0, refl, inl refl)
    table false = work (ltb w (demanded ask.budget))

-- A run with the buffers for it ends with its answer.
pub passes_all : (bytes : List ℕ) (ask : Request) (t w a : ℕ) (s : Sheet) → Passed bytes ask t w → read_sheet bytes ≡ sheet s
    → length (answer_to s ask.budget (enumeration_of s ask)).text ≤ max_text_bytes
    → length (answer_to s ask.budget (enumeration_of s ask)).text ≤ a
    → engine_run bytes ask t w a ≡ answered (answer_to s ask.budget (enumeration_of s ask))
unfolding engine_run engine_run_by turn_back_if run_sheet fit
passes_all bytes ask t w a s p read small room =
    let z = p.least in
    let y = p.least_proofs in
    rw (
      le-ltb max_sheet_bytes (length bytes) p.sheet_fits,
      le-ltb t table_numbers p.table_fits,
      ne_eqb ask.budget 0 (λ q. omega arith),
      le-ltb max_budget ask.budget p.most,
      ne_eqb ask.proofs 0 (λ q. omega arith),
      le-ltb max_proofs ask.proofs p.most_proofs,
      le-ltb w (demanded ask.budget) p.work_fits,
      read,
      le-ltb max_text_bytes _ small,
      le-ltb a _ room,
    )
