-- Request W-202: with number 1 the run is as before, and its answer stands first with any number.
use Prim.Native.Nat.{ℕ, zero, suc, ◌≤◌}
use mathlib.Core.Path.{◌≡◌, refl, sym, ◌∙◌, ap, ap₂}
use mathlib.Core.Bool.{Bool, true, false, ◌||◌, cond}
use mathlib.Core.List.{List, [], ◌++◌, append-nil}
use native.Mathlib.Omega.{arith}
use lib.Dec.{leb, ltb}
use lib.ListN.{length}
use borrow.Author.Tests.{ne_eqb}
use Rattle.search.specs.Search.{proved, no_proof, SearchOutcome, ends, spent, search}
use Rattle.enumeration.specs.Enumeration.{Proof, End, exhausted, units_spent, Enumeration, enumerate}
use Rattle.enumeration.specs.Smaller.{one_proof}
use Rattle.enumeration.proofs.Promises as Enumerations
use Rattle.sheet_format.specs.Limits.{table_numbers, max_text_bytes}
use Rattle.sheet_format.specs.Buffers.{demanded, zeroed}
use Rattle.sheet_format.specs.Sheets.{Sheet, rules_of, refusal, Read, sheet, refused, read_sheet, turn_back_if}
use Rattle.answer_texts.specs.Promises.{search_text}
use Rattle.answer_texts.specs.Enumerations.{found_text, found_texts, last_line, enumeration_text}
use Rattle.answer_texts.proofs.EnumerationPromises.{all_texts_extend}
use Rattle.engine_spec.specs.EngineRun.{Request, reported_proved, Answer, Result, answered, enumeration_of, last_outcome, last_units}
use Rattle.engine_spec.specs.EngineRun.{last_proof_units, answer_to, fit, run_sheet, engine_run_by, engine_run, table_after, work_after}
use Rattle.engine_spec.specs.EngineRun.{turned_back, is_early, answer_after}
use Rattle.engine_spec.specs.Promises.{outcome_number, handed_back}
use Rattle.engine_spec.specs.OneProof.{once_with, former_answer, first_run_sheet, first_run, RunsOnce, AnswersOnce, FirstStands}
use Rattle.engine_spec.specs.OneProof.{first_early, first_table_after, first_work_after, FirstHanded}
use Rattle.engine_spec.proofs.Answered.{answered_answers}
use Rattle.engine_spec.proofs.RefusalNumbers.{ReadLow, read_low}
use Rattle.engine_spec.proofs.Callers.{proved_number, the_answer}

-- The outcome of a search, as an enumeration of one proof, has the answer of document 01.
one_answer_lem : (s : Sheet) (budget : ℕ) (o : SearchOutcome) → answer_to s budget (one_proof o) ≡ former_answer s budget o
unfolding answer_to one_proof former_answer last_outcome last_units last_proof_units enumeration_text found_texts found_text last_line
one_answer_lem s budget (ends (proved store path) n) = rw (append-nil (search_text s store path n ++ []), append-nil (search_text s store path n))
one_answer_lem s budget (ends no_proof n) = refl
one_answer_lem s budget spent = refl

once_answer : (s : Sheet) (budget : ℕ)
    → answer_to s budget (enumeration_of s (once_with budget)) ≡ former_answer s budget (search budget (rules_of s) s.goal)
unfolding enumeration_of
once_answer s budget =
    ap (answer_to s budget) (Enumerations.one_proof (rules_of s) s.goal budget) ∙ one_answer_lem s budget (search budget (rules_of s) s.goal)

once_sheet : (budget a : ℕ) (r : Read) → run_sheet (once_with budget) a r ≡ first_run_sheet budget a r
unfolding run_sheet first_run_sheet
once_sheet budget a (refused r) = refl
once_sheet budget a (sheet s) = ap (fit a) (once_answer s budget)

-- The number 1 is never refused.
pub runs_once : RunsOnce
unfolding engine_run engine_run_by first_run turn_back_if
runs_once bytes budget t w a = rw (once_sheet budget a (read_sheet bytes))

-- Its refusals have numbers up to 12, so that none is 13.
unfoldable Low : Result → Type 0
Low (answered a) = Unit {0}
Low (turned_back f) = f.number ≤ 12

low_gate : (b : Bool) (n : ℕ) (r : Result) → n ≤ 12 → Low r → Low (turn_back_if turned_back b n r)
unfolding turn_back_if Low
low_gate true n r l h = l
low_gate false n r l h = h

low_sheet : (budget a : ℕ) (r : Read) → ReadLow r → Low (first_run_sheet budget a r)
unfolding first_run_sheet fit Low ReadLow
low_sheet budget a (refused f) h = omega arith
low_sheet budget a (sheet s) h = fits (ltb max_text_bytes (length x.text) || ltb a (length x.text))
  where
    x : Answer
    x = former_answer s budget (search budget (rules_of s) s.goal)

    fits : (b : Bool) → Low (cond b (turned_back (refusal 12 0)) (answered x))
    fits true = omega arith
    fits false = tt

low_run : (bytes : List ℕ) (budget t w a : ℕ) → Low (first_run bytes budget t w a)
unfolding first_run
low_run bytes budget t w a =
    low_gate _ 1 _ (omega arith)
    (low_gate _ 2 _ (omega arith)
    (low_gate _ 3 _ (omega arith) (low_gate _ 5 _ (omega arith) (low_sheet budget a (read_sheet bytes) (read_low bytes)))))

same_early : (r : Result) → Low r → is_early r ≡ first_early r
unfolding is_early first_early Low
same_early (answered a) h = refl
same_early (turned_back f) h = rw (ne_eqb f.number 13 (λ e. omega arith)) (or_false (leb f.number 5))
  where
    or_false : (b : Bool) → b || false ≡ b
    or_false true = refl
    or_false false = refl

pub answers_once : AnswersOnce
unfolding table_after work_after first_table_after first_work_after
answers_once bytes budget table work answer table' work' answer' r c =
    let e = runs_once bytes budget (length table) (length work) (length answer) in
    let former = first_run bytes budget (length table) (length work) (length answer) in
    let k = same_early former (low_run bytes budget (length table) (length work) (length answer)) in (
      c.value ∙ ap handed_back e,
      c.table_end ∙ ap (λ (x : Result). table_after x table) e ∙ ap (λ (b : Bool). cond b table (zeroed table_numbers table)) k,
      c.work_end ∙ ap (λ (x : Result). work_after x budget work) e ∙ ap (λ (b : Bool). cond b work (zeroed (demanded budget) work)) k,
      c.answer_end ∙ ap (λ (x : Result). answer_after x answer) e,
    )

-- What the answer for one proof is to the answer for any number.
unfoldable Stands : Answer → Answer → Type 0
Stands x y = (x.outcome ≡ reported_proved → (rest : List ℕ) × (y.text ≡ x.text ++ rest)) × ((x.outcome ≡ reported_proved → ⊥) → y ≡ x)

-- An enumeration that ends without a proof has the answer of the search that ends so.
none_found : (s : Sheet) (budget : ℕ) (r : Enumeration) (e : End) → r.found ≡ [] → r.end ≡ e
    → answer_to s budget r ≡ answer_to s budget (record { found = []; end = e })
none_found s budget r e f q = ap₂ (λ (ps : List Proof) (z : End). answer_to s budget (record { found = ps; end = z })) f q

first_stands_lem : (s : Sheet) (wanted budget : ℕ)
    → Stands (former_answer s budget (search budget (rules_of s) s.goal))
    (answer_to s budget (enumerate (suc wanted) budget (rules_of s) s.goal))
unfolding Stands former_answer answer_to last_outcome last_units enumeration_text found_texts last_line
first_stands_lem s wanted budget = go (search budget (rules_of s) s.goal) refl
  where
    walk : Enumeration
    walk = enumerate (suc wanted) budget (rules_of s) s.goal

    go : (o : SearchOutcome) → search budget (rules_of s) s.goal ≡ o → Stands (former_answer s budget o) (answer_to s budget walk)
    go (ends (proved store path) n) e = ((λ h. (all_texts_extend s).first wanted budget n store path e), (λ h. absurd (h refl)))
    go (ends no_proof n) e =
        let q = ((Enumerations.all_first (rules_of s) s.goal wanted budget).denies n).0 e in
        ((λ h. absurd (let z : ◌≡◌ {A = ℕ} 0 1 = cc in omega arith)), (λ h. none_found s budget walk (exhausted n) q.0 q.1))
    go spent e =
        let q = (Enumerations.all_first (rules_of s) s.goal wanted budget).spends.0 e in
        ((λ h. absurd (let z : ◌≡◌ {A = ℕ} 0 1 = cc in omega arith)), (λ h. none_found s budget walk units_spent q.0 q.1))

pub first_stands : FirstStands
unfolding Stands enumeration_of
first_stands bytes budget t w a x e proofs t' w' a' y f =
    let p = answered_answers bytes (once_with budget) t w a x e in
    let q = answered_answers bytes (record { budget = budget; proofs = proofs }) t' w' a' y f in
    let same : q.s ≡ p.s = (let u = p.read in let v = q.read in cc) in
    go proofs q.passed.least_proofs p.s (p.is ∙ once_answer p.s budget)
    (q.is ∙ ap (λ (s : Sheet). answer_to s budget (enumerate proofs budget (rules_of s) s.goal)) same)
  where
    go : (number : ℕ) → 1 ≤ number → (s : Sheet) → x ≡ former_answer s budget (search budget (rules_of s) s.goal)
        → y ≡ answer_to s budget (enumerate number budget (rules_of s) s.goal) → Stands x y
    go zero l s u v = absurd (omega arith)
    go (suc wanted) l s u v = rw (u, v) (first_stands_lem s wanted budget)

pub first_handed : FirstHanded
unfolding outcome_number
first_handed bytes budget table work answer table' work' answer' r proofs table₂ work₂ answer₂ table₂' work₂' answer₂' r₂ c d h h₂ =
    let ask : Request = record { budget = budget; proofs = proofs } in
    let q = the_answer bytes (once_with budget) table work answer table' work' answer' r c h in
    let q₂ = the_answer bytes ask table₂ work₂ answer₂ table₂' work₂' answer₂' r₂ d h₂ in
    let f = first_stands bytes budget (length table) (length work) (length answer) q.0 q.1 proofs
    (length table₂) (length work₂) (length answer₂) q₂.0 q₂.1 in (
      (λ z. rw (q.2.text, q₂.2.text) (f.0 (proved_number _ (sym q.2.outcome ∙ z)))),
      λ z.
          let e = f.1 (λ o. let n : r.outcome ≡ 0 = q.2.outcome ∙ ap outcome_number o in omega arith) in (
            q₂.2.value ∙ ap (λ (y : Answer). handed_back (answered y)) e ∙ sym q.2.value,
            q₂.2.text ∙ ap (λ (y : Answer). y.text) e ∙ sym q.2.text,
          ),
    )
