-- Refusals 1, 2, 3, 13 and 5: where one arises the run is turned back and no buffer changes; where none does, the sheet is answered and
-- the demanded parts of table and work buffer end as zeros.
use Prim.Native.Nat.{ℕ, ◌*◌}
use native.Mathlib.Omega.{arith}
use mathlib.Core.Path.{◌≡◌, refl, ◌∙◌, ap}
use mathlib.Core.Bool.{Bool, true, false, ◌||◌, cond}
use mathlib.Core.List.{List, ◌++◌}
use lib.Dec.{eqb, leb, ltb}
use lib.ListN.{length, take, drop, replicate}
use lib.Seq.{length-take-le}
use borrow.Author.Tests.{ltb-false, eqb-false, le-ltb, ne_eqb, lt-leb}
use Rattle.outcomes.specs.declared.Request.{Request}
use Rattle.outcomes.specs.declared.Run.{Run}
use Rattle.std.specs.Prelude.{Option, Some, None}
use Rattle.outcomes.specs.declared.Refusal.{Refusal}
use Rattle.outcomes.specs.declared.refusals.Reason.{Reason}
use Rattle.outcomes.specs.declared.refusals.Reason.TheVariants.{SheetTooLong, TableTooShort, Budget, WorkTooShort, Proofs}
use Rattle.outcomes.specs.Refusals.{number_of, refused_for}
use Rattle.outcomes.specs.Outcomes.{outcome_code, refusal_number, refusal_line, refused_run}
use Rattle.sheet_format.specs.Limits.{max_sheet_bytes, table_numbers, max_budget, max_proofs, max_text_bytes, numbers_per_unit}
use Rattle.sheet_format.specs.Buffers.{demanded, zeroed}
use Rattle.sheet_format.specs.Sheets.{refusal, Read, sheet, refused, read_sheet, turn_back_if}
use Rattle.engine_spec.specs.EngineRun.{Answer, Result, answered, turned_back, enumeration_of, answer_to, fit, run_sheet, engine_run, engine_run_by}
use Rattle.engine_spec.specs.EngineRun.{is_early}
use Rattle.engine_spec.specs.EngineRun.{table_after, work_after, answer_after}
use Rattle.engine_spec.specs.Promises.{handed_back, RunContract}
use Rattle.engine_spec.specs.Handed.{asked, handed}
use Rattle.engine.specs.Answering.{ask_refusal, run_refusal, Answering}
use Rattle.engine_spec.proofs.Answered.{Passed}
use Rattle.sheet_reader.proofs.sheet_lines.Refusals.{refused_late, refused_few}

-- Refusals 3 and 13, by their tests.
abbrev first_of_asked : Bool → Bool → Bool → Bool → Option Reason
first_of_asked c d p q = cond c (Some Budget) (cond d (Some Budget) (cond p (Some Proofs) (cond q (Some Proofs) None)))

-- The first refusal by sizes, by all tests.
abbrev first : Bool → Bool → Bool → Bool → Bool → Bool → Bool → Option Reason
first a b c d p q e =
    cond a (Some SheetTooLong)
    (cond b (Some TableTooShort) (elim (first_of_asked c d p q) [ Some reason ↦ Some reason | None ↦ cond e (Some WorkTooShort) None ]))

-- Where a test of refusals 1, 2, 3, 13 and 5 holds, the run is refused for its reason, which is one of those that change no buffer.
shut : (a b c d p q e : Bool) (r : Result) (reason : Reason) → Some reason ≡ first a b c d p q e
    → (turn_back_if turned_back a 1 (turn_back_if turned_back b 2 (turn_back_if turned_back (c || d) 3 (turn_back_if turned_back (p || q) 13
    (turn_back_if turned_back e 5 r)))) ≡ turned_back (refusal (number_of reason) 0)) × (leb (number_of reason) 5 || eqb (number_of reason) 13 ≡ true)
unfolding turn_back_if
shut true b c d p q e r reason z = let i : reason ≡ SheetTooLong = cc in rw i (refl, refl)
shut false true c d p q e r reason z = let i : reason ≡ TableTooShort = cc in rw i (refl, refl)
shut false false true d p q e r reason z = let i : reason ≡ Budget = cc in rw i (refl, refl)
shut false false false true p q e r reason z = let i : reason ≡ Budget = cc in rw i (refl, refl)
shut false false false false true q e r reason z = let i : reason ≡ Proofs = cc in rw i (refl, refl)
shut false false false false false true e r reason z = let i : reason ≡ Proofs = cc in rw i (refl, refl)
shut false false false false false false true r reason z = let i : reason ≡ WorkTooShort = cc in rw i (refl, refl)
shut false false false false false false false r reason z = cc

-- Where none arises, the tests of refusals 1, 2, 3, 13 and 5 all fail.
none_shut : (a b c d p q e : Bool) → first a b c d p q e ≡ None
    → (a ≡ false) × (b ≡ false) × (c ≡ false) × (d ≡ false) × (p ≡ false) × (q ≡ false) × (e ≡ false)
none_shut true b c d p q e z = cc
none_shut false true c d p q e z = cc
none_shut false false true d p q e z = cc
none_shut false false false true p q e z = cc
none_shut false false false false true q e z = cc
none_shut false false false false false true e z = cc
none_shut false false false false false false true z = cc
none_shut false false false false false false false z = (refl, refl, refl, refl, refl, refl, refl)

-- Where no refusal by sizes arises, the size checks are passed.
pub early_passed : (bytes : List ℕ) (ask : Request) (t w : ℕ) → run_refusal (length bytes) ask t w ≡ None → Passed bytes (asked ask) t w
unfolding run_refusal ask_refusal asked
early_passed bytes ask t w z =
    let o = none_shut (ltb max_sheet_bytes (length bytes)) (ltb t table_numbers) (eqb ask.budget 0) (ltb max_budget ask.budget)
    (eqb ask.proofs 0) (ltb max_proofs ask.proofs) (ltb w (demanded ask.budget)) z in
    let b = eqb-false ask.budget 0 o.2 in
    let p = eqb-false ask.proofs 0 o.4 in
    record {
      sheet_fits = ltb-false _ _ o.0;
      table_fits = ltb-false _ _ o.1;
      least = omega arith;
      most = ltb-false _ _ o.3;
      least_proofs = omega arith;
      most_proofs = ltb-false _ _ o.5;
      work_fits = ltb-false _ _ o.6;
    }

passed_runs : (bytes : List ℕ) (ask : Request) (t w a : ℕ) → Passed bytes (asked ask) t w
    → engine_run bytes (asked ask) t w a ≡ run_sheet (asked ask) a (read_sheet bytes)
unfolding engine_run engine_run_by turn_back_if
passed_runs bytes ask t w a p =
    let z = p.least in
    let y = p.least_proofs in
    rw (
      le-ltb max_sheet_bytes (length bytes) p.sheet_fits,
      le-ltb t table_numbers p.table_fits,
      ne_eqb (asked ask).budget 0 (λ q. omega arith),
      le-ltb max_budget (asked ask).budget p.most,
      ne_eqb (asked ask).proofs 0 (λ q. omega arith),
      le-ltb max_proofs (asked ask).proofs p.most_proofs,
      le-ltb w (demanded (asked ask).budget) p.work_fits,
    )

-- Past refusal 5 every result is late: it is a refusal of the sheet, refusal 12 or an answer.
late : (bytes : List ℕ) (ask : Request) (a : ℕ) → is_early (run_sheet (asked ask) a (read_sheet bytes)) ≡ false
unfolding run_sheet fit is_early
late bytes ask a = reads (read_sheet bytes) refl
  where
    fits : (b : Bool) (x : Answer) → is_early (cond b (turned_back (refusal 12 0)) (answered x)) ≡ false
    fits true x = refl
    fits false x = refl

    reads : (x : Read) → read_sheet bytes ≡ x → is_early (run_sheet (asked ask) a x) ≡ false
    reads (refused r) q =
        let few = refused_few bytes r q in
        rw (lt-leb r.number 5 (refused_late bytes r q), ne_eqb r.number 13 (λ e. omega arith))
    reads (sheet s) q =
        let x = answer_to s (asked ask).budget (enumeration_of s (asked ask)) in
        fits (ltb max_text_bytes (length x.text) || ltb a (length x.text)) x

-- Turned back by sizes.
pub run_refused : (bytes : List ℕ) (ask : Request) (table work answer : List ℕ) (reason : Reason) (f : Refusal) (r : Run)
    → Some reason ≡ run_refusal (length bytes) ask (length table) (length work) → f ≡ refused_for reason 0 → r ≡ refused_run f.number f.line
    → RunContract bytes (asked ask) table work answer table work answer (handed r)
unfolding run_refusal ask_refusal asked engine_run engine_run_by handed handed_back outcome_code refusal_number refusal_line table_after work_after
    answer_after is_early
run_refused bytes ask table work answer reason f r q i e =
    let g = shut (ltb max_sheet_bytes (length bytes)) (ltb (length table) table_numbers) (eqb ask.budget 0) (ltb max_budget ask.budget)
    (eqb ask.proofs 0) (ltb max_proofs ask.proofs) (ltb (length work) (demanded ask.budget))
    (run_sheet (asked ask) (length answer) (read_sheet bytes)) reason q in
    let d : r ≡ refused_run (number_of reason) 0 = e ∙ ap (λ (x : Refusal). refused_run x.number x.line) i in
    record {
      value = rw (d, g.0);
      table_end = rw (g.0, g.1);
      work_end = rw (g.0, g.1);
      answer_end = rw g.0;
    }

-- Past them: the parts lent end as zeros.
pub run_passed : (bytes : List ℕ) (ask : Request) (table work answer answer' t w : List ℕ) (m : ℕ) (r : Run)
    → run_refusal (length bytes) ask (length table) (length work) ≡ None → m ≡ ask.budget
    → Answering bytes ask answer answer' r → t ≡ replicate (length (take 8192 table)) 0
    → w ≡ replicate (length (take (numbers_per_unit * m) work)) 0
    → RunContract bytes (asked ask) table work answer (t ++ drop 8192 table) (w ++ drop (numbers_per_unit * m) work) answer' (handed r)
unfolding table_after work_after zeroed demanded asked
run_passed bytes ask table work answer answer' t w m r q em i et ew =
    let p = early_passed bytes ask (length table) (length work) q in
    let g = passed_runs bytes ask (length table) (length work) (length answer) p in
    let l = late bytes ask (length answer) in
    record {
      value = rw g i.value;
      table_end = rw (g, l, et, length-take-le 8192 table p.table_fits);
      work_end = rw (g, l, ew, em, length-take-le (numbers_per_unit * ask.budget) work p.work_fits);
      answer_end = rw g i.answer_end;
    }
