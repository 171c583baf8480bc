-- T5 and T8 for callers: from T1, what they are told and what lies in their answer buffer.
use Prim.Native.Nat.{ℕ, ◌≤◌}
use mathlib.Core.Path.{◌≡◌, refl, sym, ◌∙◌, ap, subst}
use mathlib.Core.Bool.{Bool, true, false, cond}
use mathlib.Core.List.{List}
use mathlib.Core.Logic.{◌⊎◌, inl, inr}
use native.Mathlib.Omega.{arith}
use lib.Dec.{eqb}
use lib.ListN.{length, take}
use Rattle.search.specs.Search.{Verdict, proved, no_proof}
use Rattle.enumeration.specs.Enumeration.{End, enough, exhausted, units_spent, Enumeration}
use Rattle.enumeration.proofs.Promises.{all_paths, all_counts, all_going_on, no_other}
use Rattle.sheet_format.specs.Sheets.{Sheet, rules_of, Refusal, sheet, read_sheet}
use Rattle.sheet_format.proofs.Good.{good}
use Rattle.answer_texts.specs.Spelled.{SpellsAsDeclared}
use Rattle.answer_texts.specs.Promises.{DerivesText}
use Rattle.engine_spec.specs.EngineRun.{Request, Reported, reported_proved, reported_no, reported_spent, Answer, Result, answered}
use Rattle.engine_spec.specs.EngineRun.{turned_back}
use Rattle.engine_spec.specs.EngineRun.{enumeration_of, last_outcome, last_units, answer_to, engine_run, answer_after}
use Rattle.engine_spec.specs.Promises.{HandedBack, outcome_number, handed_back, RunContract, ProofsIn, RunSound, AllDemand2}
use Rattle.engine_spec.specs.Promises.{AllDemand3, told_by, verdict_outcome, told_outcome, reported_verdict, WalkTold}
use Rattle.engine_spec.specs.Promises.{with_budget, CallerTold, CallersTold, ToldAgain, Retry, ToldMore}
use Rattle.engine_spec.proofs.Answered.{answered_answers}
use Rattle.engine_spec.proofs.Buffers.{take_front}

-- An outcome is determined by its number.
pub proved_number : (t : Reported) → outcome_number t ≡ 0 → t ≡ reported_proved
unfolding outcome_number
proved_number reported_proved e = refl
proved_number reported_no e = absurd (omega arith)
proved_number reported_spent e = absurd (omega arith)

no_number_lem : (t : Reported) → outcome_number t ≡ 1 → t ≡ reported_no
unfolding outcome_number
no_number_lem reported_proved e = absurd (omega arith)
no_number_lem reported_no e = refl
no_number_lem reported_spent e = absurd (omega arith)

spent_number : (t : Reported) → outcome_number t ≡ 2 → t ≡ reported_spent
unfolding outcome_number
spent_number reported_proved e = absurd (omega arith)
spent_number reported_no e = absurd (omega arith)
spent_number reported_spent e = refl

not_spent : (t : Reported) → outcome_number t ≤ 1 → t ≡ reported_spent → ⊥
unfolding outcome_number
not_spent t h e = let z : outcome_number t ≡ 2 = rw e in omega arith

-- The number of the outcome told for a verdict is that of the verdict.
verdict_number_lem : (v : Verdict) → outcome_number (verdict_outcome v) ≡ reported_verdict v
unfolding verdict_outcome outcome_number reported_verdict
verdict_number_lem (proved st ls) = refl
verdict_number_lem no_proof = refl

-- The number of an end's outcome tells the end.
number_enough : (e : End) → outcome_number (last_outcome e) ≡ 0 → e ≡ enough
unfolding last_outcome outcome_number
number_enough enough h = refl
number_enough (exhausted n) h = absurd (omega arith)
number_enough units_spent h = absurd (omega arith)

number_exhausted : (budget : ℕ) (r : Enumeration) (e : End) → r.end ≡ e → outcome_number (last_outcome e) ≡ 1
    → r.end ≡ exhausted (last_units budget r.found r.end)
unfolding last_outcome last_units outcome_number
number_exhausted budget r enough q h = absurd (omega arith)
number_exhausted budget r (exhausted n) q h = rw (q) refl
number_exhausted budget r units_spent q h = absurd (omega arith)

-- A result that is handed back, with what is then in the answer buffer.
pub record Holds (answer answer' : List ℕ) (r : HandedBack) (x : Answer) : Type 0 where
  pub outcome : r.outcome ≡ outcome_number x.outcome
  pub units : r.units ≡ x.units
  pub proofs : r.proofs ≡ x.proofs
  pub value : r ≡ handed_back (answered x)
  pub text : take r.length answer' ≡ x.text

holds : (answer answer' : List ℕ) (r : HandedBack) (x : Answer) → r ≡ handed_back (answered x) → answer' ≡ answer_after (answered x) answer
    → Holds answer answer' r x
unfolding handed_back answer_after
holds answer answer' r x v a = record {
  outcome = ap (λ (b : HandedBack). b.outcome) v;
  units = ap (λ (b : HandedBack). b.units) v;
  proofs = ap (λ (b : HandedBack). b.proofs) v;
  value = v;
  text = rw (v, a) (take_front x.text _);
}

-- The proofs of the answer are those handed back.
holds_proofs : (P : List ℕ → Type 0) (answer answer' : List ℕ) (r : HandedBack) (x : Answer) → Holds answer answer' r x
    → ProofsIn P x.proofs x.text → ProofsIn P r.proofs (take r.length answer')
holds_proofs P answer answer' r x h p =
    subst (λ (n : ℕ). ProofsIn P n (take r.length answer')) (sym h.proofs)
    (subst (λ (t : List ℕ). ProofsIn P x.proofs t) (sym h.text) p)

-- What counts as told, in the numbers handed back.
told_number : (answer answer' : List ℕ) (r : HandedBack) (x : Answer) → Holds answer answer' r x
    → told_outcome r ≡ outcome_number (told_by x)
unfolding told_outcome told_by outcome_number
told_number answer answer' r x h = rw (h.proofs, h.outcome) (go (eqb x.proofs 0))
  where
    go : (b : Bool) → cond b (outcome_number x.outcome) 0 ≡ outcome_number (cond b x.outcome reported_proved)
    go true = refl
    go false = refl

-- A refusal tells no outcome.
refusal_number_lem : (r : HandedBack) (f : Refusal) → r ≡ handed_back (turned_back f) → (r.outcome ≡ 3) × (r.length ≡ 0)
    × (r.number ≡ f.number) × (told_outcome r ≡ 3)
unfolding handed_back told_outcome
refusal_number_lem r f v = (
  ap (λ (b : HandedBack). b.outcome) v,
  ap (λ (b : HandedBack). b.length) v,
  ap (λ (b : HandedBack). b.number) v,
  ap told_outcome v,
)

module _ (bytes : List ℕ) (ask : Request) (table work answer table' work' answer' : List ℕ) (r : HandedBack)
    (c : RunContract bytes ask table work answer table' work' answer' r) where
  abbrev result : Result
  result = engine_run bytes ask (length table) (length work) (length answer)

  -- Either an outcome is told, and the run has an answer, or none is.
  answer_or : ((x : Answer) × (result ≡ answered x) × Holds answer answer' r x) ⊎ ((r.outcome ≡ 3) × (r.length ≡ 0) × (told_outcome r ≡ 3))
  answer_or = go result refl
    where
      go : (q : Result) → result ≡ q
          → ((x : Answer) × (result ≡ answered x) × Holds answer answer' r x) ⊎ ((r.outcome ≡ 3) × (r.length ≡ 0) × (told_outcome r ≡ 3))
      go (answered x) e =
          inl (x, e, holds answer answer' r x (c.value ∙ ap handed_back e) (c.answer_end ∙ ap (λ (y : Result). answer_after y answer) e))
      go (turned_back f) e = inr (let n = refusal_number_lem r f (c.value ∙ ap handed_back e) in (n.0, n.1, n.3))

  pub the_answer : r.outcome ≤ 2 → (x : Answer) × (result ≡ answered x) × Holds answer answer' r x
  the_answer h = go answer_or
    where
      go : ((x : Answer) × (result ≡ answered x) × Holds answer answer' r x) ⊎ ((r.outcome ≡ 3) × (r.length ≡ 0) × (told_outcome r ≡ 3))
          → (x : Answer) × (result ≡ answered x) × Holds answer answer' r x
      go (inl q) = q
      go (inr n) = absurd (let k = n.0 in omega arith)

  told_answer : told_outcome r ≤ 2 → (x : Answer) × (result ≡ answered x) × Holds answer answer' r x
  told_answer h = go answer_or
    where
      go : ((x : Answer) × (result ≡ answered x) × Holds answer answer' r x) ⊎ ((r.outcome ≡ 3) × (r.length ≡ 0) × (told_outcome r ≡ 3))
          → (x : Answer) × (result ≡ answered x) × Holds answer answer' r x
      go (inl q) = q
      go (inr n) = absurd (let k = n.2 in omega arith)

  -- Where an outcome counts as told, one is handed back.
  pub told_outcome_lem : told_outcome r ≤ 2 → r.outcome ≤ 2
  unfolding outcome_number
  told_outcome_lem h = let q = told_answer h in rw q.2.outcome (low q.0.outcome)
    where
      low : (t : Reported) → outcome_number t ≤ 2
      low reported_proved = omega arith
      low reported_no = omega arith
      low reported_spent = omega arith

  text_fits_lem : r.length ≤ length answer
  unfolding handed_back
  text_fits_lem = go answer_or
    where
      go : ((x : Answer) × (result ≡ answered x) × Holds answer answer' r x) ⊎ ((r.outcome ≡ 3) × (r.length ≡ 0) × (told_outcome r ≡ 3))
          → r.length ≤ length answer
      go (inl (x, e, h)) =
          let v : r.length ≡ length x.text = ap (λ (b : HandedBack). b.length) h.value in
          rw v (answered_answers bytes ask (length table) (length work) (length answer) x e).buffer_fits
      go (inr n) = let k = n.1 in omega arith

  same_sheet : (x y : Sheet) → read_sheet bytes ≡ sheet x → read_sheet bytes ≡ sheet y → x ≡ y
  same_sheet x y e f = cc

  -- What holds of each proof of an answer holds of each proof in what then lies in the answer buffer.
  pub proofs_handed : (P : Sheet → List ℕ → Type 0) → ((x : Answer) → result ≡ answered x
      → (s : Sheet) × (read_sheet bytes ≡ sheet s) × ProofsIn (P s) x.proofs x.text) → (s : Sheet) → read_sheet bytes ≡ sheet s
      → r.outcome ≤ 2 → ProofsIn (P s) r.proofs (take r.length answer')
  proofs_handed P f s read h =
      let q = the_answer h in
      let p = f q.0 q.1 in
      let e : p.0 ≡ s = same_sheet p.0 s p.1 read in
      holds_proofs (P s) answer answer' r q.0 q.2 (subst (λ (y : Sheet). ProofsIn (P y) q.0.proofs q.0.text) e p.2)

  -- The walk that goes on after each proof is told.
  walk_told : (s : Sheet) → read_sheet bytes ≡ sheet s → r.outcome ≤ 2 → WalkTold s ask r (take r.length answer') (enumeration_of s ask)
  unfolding answer_to enumeration_of
  walk_told s read h =
      let q = the_answer h in
      let p = answered_answers bytes ask (length table) (length work) (length answer) q.0 q.1 in
      let is = p.is ∙ ap (λ (y : Sheet). answer_to y ask.budget (enumeration_of y ask)) (same_sheet p.s s p.read read) in
      let walk = enumeration_of s ask in
      let o : r.outcome ≡ outcome_number (last_outcome walk.end) = q.2.outcome ∙ ap (λ (y : Answer). outcome_number y.outcome) is in
      let k : r.proofs ≡ length walk.found = q.2.proofs ∙ ap (λ (y : Answer). y.proofs) is in
      let u : r.units ≡ last_units ask.budget walk.found walk.end = q.2.units ∙ ap (λ (y : Answer). y.units) is in
      let n = all_counts (rules_of s) s.goal ask.proofs ask.budget in
      let g = good bytes s read in
      let ended : r.outcome ≡ 1 → walk.end ≡ exhausted r.units =
      λ z. number_exhausted ask.budget walk walk.end refl (sym o ∙ z) ∙ ap exhausted (sym u) in
      record {
        written = q.2.text ∙ ap (λ (y : Answer). y.text) is;
        outcome = o;
        units = u;
        proofs = k;
        reached = (
          (λ z. k ∙ n.reached.0 (number_enough walk.end (sym o ∙ z))),
          (λ z.
              o ∙ ap (λ (e : End). outcome_number (last_outcome e)) (n.reached.1 (sym k ∙ z))
              ∙ (unfold last_outcome outcome_number in refl)),
        );
        most = rw k n.most;
        climb = n.climb;
        within = n.units;
        paths = all_paths (rules_of s) s.goal ask.proofs ask.budget;
        ended = ended;
        no_other = λ z σ d.
            no_other (rules_of s) s.goal σ g.clauses_closed g.goal_free d ask.proofs ask.budget r.units (ended z);
      }

  caller_told : RunSound → AllDemand2 → AllDemand3 → CallerTold bytes ask answer answer' r
  unfolding outcome_number
  caller_told sound steps demand = record {
    is_sheet = λ h.
        let q = the_answer h in
        let p = answered_answers bytes ask (length table) (length work) (length answer) q.0 q.1 in
        (p.s, p.read);
    spells = proofs_handed SpellsAsDeclared (sound bytes ask (length table) (length work) (length answer));
    never_no = λ s read h e d.
        let q = told_answer (omega arith) in
        (demand bytes s read).never_no e d ask (length table) (length work) (length answer) q.0 q.1
        (no_number_lem _ (sym (told_number answer answer' r q.0 q.2) ∙ h));
    comes_to = λ s read h.
        let q = told_answer (omega arith) in
        let o = told_number answer answer' r q.0 q.2 in
        let p = (demand bytes s read).comes_to ask (length table) (length work) (length answer) q.0 q.1
        (not_spent _ (subst (λ (k : ℕ). k ≤ 1) o h)) in
        record {
          verdict = p.verdict;
          units = p.units;
          comes_to = p.comes_to;
          outcome = o ∙ ap outcome_number p.outcome ∙ verdict_number_lem p.verdict;
          rest = p.rest;
          begins = q.2.text ∙ p.text;
          alone = λ z. let a = p.alone (sym q.2.proofs ∙ z) in (q.2.units ∙ a.0, a.1);
        };
    spent = λ s read h.
        let q = told_answer (omega arith) in
        let p = (steps bytes s read).spent ask (length table) (length work) (length answer) q.0 q.1
        (spent_number _ (sym (told_number answer answer' r q.0 q.2) ∙ h)) in
        (q.2.units ∙ p.0, q.2.text ∙ p.1, p.2);
    follows = λ s read h.
        let q = the_answer h in
        holds_proofs (λ text. (n : ℕ) × DerivesText s n text) answer answer' r q.0 q.2
        ((steps bytes s read).follows ask (length table) (length work) (length answer) q.0 q.1);
    walked = λ s read h n l. all_going_on (rules_of s) s.goal n;
    spends = λ s read h.
        let q = the_answer h in
        let o = told_number answer answer' r q.0 q.2 in
        let p = (demand bytes s read).spends ask (length table) (length work) (length answer) q.0 q.1 in
        ((λ e. p.0 (spent_number _ (sym o ∙ e))), (λ k. o ∙ ap outcome_number (p.1 k)));
    ways = walk_told;
    fits = text_fits_lem;
  }

pub callers_told_lem : RunSound → AllDemand2 → AllDemand3 → CallersTold
callers_told_lem sound steps demand bytes ask table work answer table' work' answer' r c =
    caller_told bytes ask table work answer table' work' answer' r c sound steps demand

pub told_again_lem : AllDemand3 → ToldAgain
told_again_lem demand bytes ask table work answer table' work' answer' r larger table₂ work₂ answer₂ table₂' work₂' answer₂' r₂ c d h l m =
    let q = the_answer bytes ask table work answer table' work' answer' r c (omega arith) in
    let x = q.0 in
    let p = answered_answers bytes ask (length table) (length work) (length answer) x q.1 in
    go x q.2
    ((demand bytes p.s p.read).same ask (length table) (length work) (length answer) x q.1
    (not_spent _ (subst (λ (k : ℕ). k ≤ 1) q.2.outcome h)) larger (length table₂) (length work₂) (length answer₂) l m)
  where
    R : Result
    R = engine_run bytes (with_budget ask larger) (length table₂) (length work₂) (length answer₂)

    go : (x : Answer) → Holds answer answer' r x → (R ≡ answered x)
        ⊎ ((f : Refusal) × (R ≡ turned_back f) × ((f.number ≡ 2) ⊎ ((f.number ≡ 5) ⊎ (f.number ≡ 12))))
        → ((r₂ ≡ r) × (take r₂.length answer₂' ≡ take r.length answer')) ⊎ ((r₂.number ≡ 2) ⊎ ((r₂.number ≡ 5) ⊎ (r₂.number ≡ 12)))
    go x k (inl e) =
        let z = holds answer₂ answer₂' r₂ x (d.value ∙ ap handed_back e) (d.answer_end ∙ ap (λ (y : Result). answer_after y answer₂) e) in
        inl (z.value ∙ sym k.value, z.text ∙ sym k.text)
    go x k (inr (f, e, n)) =
        inr (subst (λ (i : ℕ). (i ≡ 2) ⊎ ((i ≡ 5) ⊎ (i ≡ 12))) (sym (refusal_number_lem r₂ f (d.value ∙ ap handed_back e)).2) n)

pub told_retry : AllDemand3 → Retry
told_retry demand bytes ask table work answer table' work' answer' r larger table₂ work₂ answer₂ table₂' work₂' answer₂' r₂ c d
    h l m ht hw ha =
    let q = the_answer bytes ask table work answer table' work' answer' r c (omega arith) in
    let x = q.0 in
    let k = q.2 in
    let p = answered_answers bytes ask (length table) (length work) (length answer) x q.1 in
    let n : r.length ≡ length x.text = (unfold handed_back in ap (λ (b : HandedBack). b.length) k.value) in
    let e = (demand bytes p.s p.read).retry ask (length table) (length work) (length answer) x q.1
    (not_spent _ (subst (λ (i : ℕ). i ≤ 1) k.outcome h)) larger (length table₂) (length work₂) (length answer₂) l m ht hw
    (rw (← n) ha) in
    let z = holds answer₂ answer₂' r₂ x (d.value ∙ ap handed_back e) (d.answer_end ∙ ap (λ (y : Result). answer_after y answer₂) e) in
    (z.value ∙ sym k.value, z.text ∙ sym k.text)

pub told_more_lem : AllDemand3 → ToldMore
told_more_lem demand bytes ask table work answer table' work' answer' r ask₂ table₂ work₂ answer₂ table₂' work₂' answer₂' r₂ c d h h₂ l m =
    let q = the_answer bytes ask table work answer table' work' answer' r c h in
    let q₂ = the_answer bytes ask₂ table₂ work₂ answer₂ table₂' work₂' answer₂' r₂ d h₂ in
    let p = answered_answers bytes ask (length table) (length work) (length answer) q.0 q.1 in
    let demands = demand bytes p.s p.read in
    let f = demands.more ask (length table) (length work) (length answer) q.0 q.1
    ask₂ (length table₂) (length work₂) (length answer₂) q₂.0 q₂.1 l m in (
      rw (q.2.proofs, q.2.text, q₂.2.proofs, q₂.2.text) f,
      λ z.
          let e = demands.settled ask (length table) (length work) (length answer) q.0 q.1 (no_number_lem _ (sym q.2.outcome ∙ z))
          ask₂ (length table₂) (length work₂) (length answer₂) q₂.0 q₂.1 l m in (
            q₂.2.value ∙ ap (λ (y : Answer). handed_back (answered y)) e ∙ sym q.2.value,
            q₂.2.text ∙ ap (λ (y : Answer). y.text) e ∙ sym q.2.text,
          ),
    )
