-- Request W-207 of the run, kept: both orders have the same derivations, so that T5 under one and T7 under the other leave one outcome.
use Prim.Native.Nat.{ℕ, ◌≤◌}
use Prim.Native.Char.{code}
use mathlib.Core.Path.{◌≡◌, refl, sym, ◌∙◌, ap, subst}
use mathlib.Core.Bool.{Bool, true, false}
use mathlib.Core.List.{List, ◌∷◌, ◌++◌}
use native.Mathlib.Omega.{arith}
use lib.Dec.{ltb}
use lib.ListN.{length}
use borrow.Author.Tests.{ltb-true, ltb-false, le-ltb, ne_eqb}
use Rattle.formulas.specs.Rules.{oldest, latest}
use Rattle.sequents.specs.Symbols.{Symbol}
use Rattle.sequents.specs.Sequents.{Environment}
use Rattle.sequents.specs.Derivations.{InstanceDerivation}
use Rattle.sequents.proofs.Promises.{any_order}
use Rattle.search.specs.Search.{Verdict, proved, no_proof, ComesTo}
use Rattle.search.specs.Answers.{final_environment}
use Rattle.search.proofs.Promises.{units}
use Rattle.search.proofs.Orders.{proved_derivable}
use Rattle.sheet_format.specs.Limits.{max_sheet_bytes, table_numbers, max_budget, max_proofs}
use Rattle.sheet_format.specs.Buffers.{demanded}
use Rattle.sheet_format.specs.Bytes.{lines_of}
use Rattle.sheet_format.specs.Sheets.{Sheet, rules_of, Refusal, turn_back_if, sheet, refused, read_sheet}
use Rattle.sheet_format.specs.FormerOrder.{in_order, with_order_line}
use Rattle.sheet_format.specs.OrderLines.{order_line_refusal}
use Rattle.sheet_format.proofs.Promises.{reads_former_order, other_order_lines_refused}
use Rattle.sheet_format.proofs.OrderLine.{two_sheets, line_longer}
use Rattle.engine_spec.specs.EngineRun.{Request, Result, turned_back, run_sheet, engine_run_by, engine_run, table_after, work_after}
use Rattle.engine_spec.specs.EngineRun.{answer_after}
use Rattle.engine_spec.specs.Promises.{HandedBack, handed_back, told_outcome, reported_verdict, CallerTold}
use Rattle.engine_spec.specs.Orders.{OneOutcome, former_run, RunsInFormerOrder, AnswersInFormerOrder, OtherOrderLinesTurnedBack}
use Rattle.engine_spec.proofs.Answered.{Passed}
use Rattle.engine_spec.proofs.Callers.{told_outcome_lem}
use Rattle.engine_spec.proofs.Promises.{callers_told}

-- Who is told proved holds a derivation: that of the first proof in the text.
derivable : (bytes : List ℕ) (ask : Request) (answer answer' : List ℕ) (r : HandedBack) → CallerTold bytes ask answer answer' r
    → (s : Sheet) → read_sheet bytes ≡ sheet s → told_outcome r ≡ 0 → (e : Environment Symbol) × InstanceDerivation (rules_of s) s.goal e
unfolding reported_verdict
derivable bytes ask answer answer' r c s read p =
    let q = c.comes_to s read (omega arith) in
    go q.verdict q.units q.comes_to q.outcome
  where
    go : (v : Verdict) (n : ℕ) → ComesTo (rules_of s) s.goal n v → told_outcome r ≡ reported_verdict v
        → (e : Environment Symbol) × InstanceDerivation (rules_of s) s.goal e
    go (proved store path) n k o = (
      final_environment store,
      proved_derivable (rules_of s) s.goal n n store path
          (((units (rules_of s) s.goal).tells n n (proved store path)).1 (k, omega arith)),
    )
    go no_proof n k o = absurd (omega arith)

-- The same goal has the same derivations in both orders.
other_order : (s z : Sheet) → s.order ≡ oldest → z ≡ in_order latest s → (e : Environment Symbol)
    → (InstanceDerivation (rules_of s) s.goal e → InstanceDerivation (rules_of z) z.goal e)
    × (InstanceDerivation (rules_of z) z.goal e → InstanceDerivation (rules_of s) s.goal e)
unfolding in_order
other_order s z o q e = (
  λ d. subst (λ (x : Sheet). InstanceDerivation (rules_of x) x.goal e) (sym q) (any_order s.order latest s.clauses s.goal e d),
  λ d. any_order latest s.order s.clauses s.goal e (subst (λ (x : Sheet). InstanceDerivation (rules_of x) x.goal e) q d),
)

-- A number up to 1 is 0 or 1.
apart : (m n : ℕ) → m ≤ 1 → n ≤ 1 → (m ≡ 0 → n ≡ 1 → ⊥) → (m ≡ 1 → n ≡ 0 → ⊥) → m ≡ n
apart m n a b f g = go (ltb m 1) refl (ltb n 1) refl
  where
    go : (x : Bool) → ltb m 1 ≡ x → (y : Bool) → ltb n 1 ≡ y → m ≡ n
    go true p true q = let k = ltb-true m 1 p in let l = ltb-true n 1 q in omega arith
    go true p false q = let k = ltb-true m 1 p in let l = ltb-false n 1 q in absurd (f (omega arith) (omega arith))
    go false p true q = let k = ltb-false m 1 p in let l = ltb-true n 1 q in absurd (g (omega arith) (omega arith))
    go false p false q = let k = ltb-false m 1 p in let l = ltb-false n 1 q in omega arith

pub one_outcome : OneOutcome
one_outcome bytes ask table work answer table' work' answer' r ask₂ table₂ work₂ answer₂ table₂' work₂' answer₂' r₂ c c₂ l l₂ =
    let a = callers_told bytes ask table work answer table' work' answer' r c in
    let b = callers_told (with_order_line bytes) ask₂ table₂ work₂ answer₂ table₂' work₂' answer₂' r₂ c₂ in
    let s = a.is_sheet (told_outcome_lem bytes ask table work answer table' work' answer' r c (omega arith)) in
    let z = b.is_sheet (told_outcome_lem (with_order_line bytes) ask₂ table₂ work₂ answer₂ table₂' work₂' answer₂' r₂ c₂ (omega arith)) in
    let two = two_sheets bytes s.0 z.0 s.1 z.1 in
    apart (told_outcome r) (told_outcome r₂) l l₂
    (λ p q. let d = derivable bytes ask answer answer' r a s.0 s.1 p in
    b.never_no z.0 z.1 q d.0 ((other_order s.0 z.0 two.0 two.1 d.0).0 d.1))
    (λ p q. let d = derivable (with_order_line bytes) ask₂ answer₂ answer₂' r₂ b z.0 z.1 q in
    a.never_no s.0 s.1 p d.0 ((other_order s.0 z.0 two.0 two.1 d.0).1 d.1))

-- With the line in front the run is the former one.
pub runs_in_former_order : RunsInFormerOrder
unfolding engine_run engine_run_by former_run
runs_in_former_order bytes h ask t w a =
    let k = line_longer bytes in
    rw (le-ltb max_sheet_bytes (length (with_order_line bytes)) h, le-ltb max_sheet_bytes (length bytes) (omega arith), reads_former_order bytes)

-- So are what is handed back and the lent buffers.
pub answers_in_former_order : AnswersInFormerOrder
answers_in_former_order bytes h ask table work answer table' work' answer' r c =
    let e = runs_in_former_order bytes h ask (length table) (length work) (length answer) in (
      c.value ∙ ap handed_back e,
      c.table_end ∙ ap (λ (x : Result). table_after x table) e,
      c.work_end ∙ ap (λ (x : Result). work_after x ask.budget work) e,
      c.answer_end ∙ ap (λ (x : Result). answer_after x answer) e,
    )

-- Past refusals 1 to 5 and 13, a refusal of the reader is the run's.
reader_refuses : (bytes : List ℕ) (ask : Request) (t w a : ℕ) (f : Refusal) → Passed bytes ask t w → read_sheet bytes ≡ refused f
    → engine_run bytes ask t w a ≡ turned_back f
unfolding engine_run engine_run_by turn_back_if run_sheet
reader_refuses bytes ask t w a f p e =
    rw (
      le-ltb max_sheet_bytes (length bytes) p.sheet_fits,
      le-ltb t table_numbers p.table_fits,
      ne_eqb ask.budget 0 (λ q. let k = p.least in omega arith),
      le-ltb max_budget ask.budget p.most,
      ne_eqb ask.proofs 0 (λ q. let k = p.least_proofs in omega arith),
      le-ltb max_proofs ask.proofs p.most_proofs,
      le-ltb w (demanded ask.budget) p.work_fits,
      e,
    )

-- An O line elsewhere, or with another word, is handed back as such a refusal.
pub other_order_lines_turned_back : OtherOrderLinesTurnedBack
unfolding answer_after
other_order_lines_turned_back before after o ask table work answer table' work' answer' r c short room least most one few spare =
    let e = reader_refuses (before ++ (code "O" ∷ after)) ask (length table) (length work) (length answer)
    (order_line_refusal (length (lines_of before).whole) (read_sheet before))
    (record {
      sheet_fits = short;
      table_fits = room;
      least = least;
      most = most;
      least_proofs = one;
      most_proofs = few;
      work_fits = spare;
    }) (other_order_lines_refused before after o) in (
      c.value ∙ ap handed_back e,
      c.table_end ∙ ap (λ (x : Result). table_after x table) e,
      c.work_end ∙ ap (λ (x : Result). work_after x ask.budget work) e,
      c.answer_end ∙ ap (λ (x : Result). answer_after x answer) e,
    )
