-- T4 and T8: demands 2 and 3 of the run, from T2, T4 and T7; and what a larger number leaves of an answer (request W-202).
use Prim.Native.Nat.{ℕ, suc, ◌≤◌}
use mathlib.Core.Path.{◌≡◌, refl, sym, ◌∙◌, ap, subst}
use mathlib.Core.List.{List, [], ◌∷◌, ◌++◌}
use mathlib.Core.Option.{none}
use mathlib.Core.Logic.{◌⊎◌}
use native.Mathlib.Omega.{arith}
use lib.ListN.{length}
use borrow.Author.Tests.{ne_eqb}
use Rattle.terms.specs.Lists.{All}
use Rattle.terms.proofs.Lists.{all_weaken}
use Rattle.sequents.specs.Promises.{Closed}
use Rattle.search.specs.Search.{after, proved, no_proof, verdict_of, ends, spent, search}
use Rattle.search.specs.Promises.{SheetNames}
use Rattle.search.proofs.Promises.{units, completeness}
use Rattle.enumeration.specs.Enumeration.{Proof, End, enough, exhausted, units_spent, Enumeration}
use Rattle.enumeration.proofs.Promises.{all_larger}
use Rattle.sheet_format.specs.Limits.{table_numbers, max_budget}
use Rattle.sheet_format.specs.Buffers.{demanded}
use Rattle.sheet_format.specs.Sheets.{Sheet, rules_of, Refusal, sheet, read_sheet}
use Rattle.answer_texts.specs.Spelling.{no_text, spent_text}
use Rattle.answer_texts.specs.Enumerations.{found_text, found_texts, last_line, enumeration_text}
use Rattle.answer_texts.specs.Promises.{DerivesText}
use Rattle.answer_texts.proofs.EnumerationPromises.{each_text_follows}
use Rattle.engine_spec.specs.EngineRun.{Request, reported_proved, reported_no, reported_spent, Answer, answered, turned_back}
use Rattle.engine_spec.specs.EngineRun.{enumeration_of, last_outcome, last_units, answer_to, engine_run}
use Rattle.engine_spec.specs.Promises.{told_by, verdict_outcome, verdict_text, ProofsIn, Demand2, ToldFirst, with_budget, SameFirst}
use Rattle.engine_spec.specs.Promises.{Demand3}
use Rattle.engine_spec.proofs.Answered.{answered_answers, passes, passes_all}
use Rattle.engine_spec.proofs.Enumerated.{first_outcome, never_enough, first_told, larger_same, proofs_in, same_first}

-- The outcomes proved, no and spent differ.
proved_not_no : reported_proved ≡ reported_no → ⊥
proved_not_no e = let z : ◌≡◌ {A = ℕ} 0 1 = cc in omega arith

proved_not_spent : reported_proved ≡ reported_spent → ⊥
proved_not_spent e = let z : ◌≡◌ {A = ℕ} 0 1 = cc in omega arith

spent_not_no : reported_spent ≡ reported_no → ⊥
spent_not_no e = let z : ◌≡◌ {A = ℕ} 0 1 = cc in omega arith

-- The last outcome tells the end.
ends_spent : (e : End) → last_outcome e ≡ reported_spent → e ≡ units_spent
unfolding last_outcome
ends_spent enough h = absurd (proved_not_spent h)
ends_spent (exhausted n) h = absurd (spent_not_no (sym h))
ends_spent units_spent h = refl

spent_ends : (e : End) → e ≡ units_spent → last_outcome e ≡ reported_spent
unfolding last_outcome
spent_ends e h = ap last_outcome h

pub ends_no : (e : End) → last_outcome e ≡ reported_no → (n : ℕ) × (e ≡ exhausted n)
unfolding last_outcome
ends_no enough h = absurd (proved_not_no h)
ends_no (exhausted n) h = (n, refl)
ends_no units_spent h = absurd (spent_not_no h)

-- The answer to proofs and an end, by its parts.
abbrev answer_of : Sheet → ℕ → List Proof → End → Answer
answer_of s budget ps e = answer_to s budget (record { found = ps; end = e })

-- The text of an answer begins with that of its first proof.
first_text : (s : Sheet) (budget : ℕ) (p : Proof) (ps : List Proof) (e : End)
    → (answer_of s budget (p ∷ ps) e).text ≡ found_text s p ++ (found_texts s ps ++ last_line budget e)
unfolding answer_to enumeration_text found_texts
first_text s budget p ps e = assoc (found_text s p) (found_texts s ps) (last_line budget e)
  where
    assoc : (x y z : List ℕ) → (x ++ y) ++ z ≡ x ++ (y ++ z)
    assoc [] y z = refl
    assoc (a ∷ x) y z = ap (a ∷◌) (assoc x y z)

-- A proof in the text counts as told proved.
tells_proved : (s : Sheet) (budget : ℕ) (p : Proof) (ps : List Proof) (e : End) → told_by (answer_of s budget (p ∷ ps) e) ≡ reported_proved
unfolding told_by answer_to
tells_proved s budget p ps e = rw (ne_eqb (suc (length ps)) 0 (λ q. omega arith))

append_none : (x : List ℕ) → x ≡ x ++ []
append_none [] = refl
append_none (a ∷ x) = ap (a ∷◌) (append_none x)

module _ (bytes : List ℕ) (s : Sheet) (read : read_sheet bytes ≡ sheet s) (closed : All Closed s.clauses)
    (names : SheetNames s.goal) where
  -- The sheet that a run answers for is the one that the bytes are.
  same_sheet : (r : Sheet) → read_sheet bytes ≡ sheet r → r ≡ s
  same_sheet r e = cc

  pub answer_is : (ask : Request) (t w a : ℕ) (x : Answer) → engine_run bytes ask t w a ≡ answered x
      → x ≡ answer_to s ask.budget (enumeration_of s ask)
  answer_is ask t w a x e =
      let r = answered_answers bytes ask t w a x e in
      r.is ∙ ap (λ (q : Sheet). answer_to q ask.budget (enumeration_of q ask)) (same_sheet r.s r.read)

  -- At least one proof was asked for.
  asked_one : (ask : Request) (t w a : ℕ) (x : Answer) → engine_run bytes ask t w a ≡ answered x → 1 ≤ ask.proofs
  asked_one ask t w a x e = (answered_answers bytes ask t w a x e).passed.least_proofs

  -- What an answer tells is what the search comes to: as many units, and its text first.
  told_first : (budget : ℕ) (ps : List Proof) (e : End) → search budget (rules_of s) s.goal ≡ first_outcome ps e
      → (ps ≡ [] → e ≡ enough → ⊥) → (told_by (answer_of s budget ps e) ≡ reported_spent → ⊥) → ToldFirst s (answer_of s budget ps e)
  unfolding first_outcome told_by answer_to enumeration_text found_texts found_text last_line last_outcome last_units verdict_outcome verdict_text
  told_first budget [] enough q m h = absurd (m refl refl)
  told_first budget [] (exhausted n) q m h = record {
    verdict = no_proof;
    units = n;
    comes_to = (((units (rules_of s) s.goal).tells budget n no_proof).0 q).0;
    outcome = refl;
    rest = [];
    text = append_none (no_text n);
    alone = λ z. (refl, refl);
  }
  told_first budget [] units_spent q m h = absurd (h refl)
  told_first budget (p ∷ ps) e q m h = record {
    verdict = proved p.store p.path;
    units = p.units;
    comes_to = (((units (rules_of s) s.goal).tells budget p.units (proved p.store p.path)).0 q).0;
    outcome = tells_proved s budget p ps e;
    rest = found_texts s ps ++ last_line budget e;
    text = first_text s budget p ps e;
    alone = λ z. absurd (omega arith);
  }

  -- Told no, the search ended with no proof.
  told_no : (budget : ℕ) (ps : List Proof) (e : End) → search budget (rules_of s) s.goal ≡ first_outcome ps e
      → told_by (answer_of s budget ps e) ≡ reported_no → (n : ℕ) × (search budget (rules_of s) s.goal ≡ ends no_proof n)
  unfolding first_outcome told_by answer_to last_outcome
  told_no budget [] enough q h = absurd (proved_not_no h)
  told_no budget [] (exhausted n) q h = (n, q)
  told_no budget [] units_spent q h = absurd (spent_not_no h)
  told_no budget (p ∷ ps) e q h = absurd (proved_not_no (sym (tells_proved s budget p ps e) ∙ h))

  -- Told spent, the search is spent; its line stands alone.
  told_spent : (budget : ℕ) (ps : List Proof) (e : End) → search budget (rules_of s) s.goal ≡ first_outcome ps e
      → told_by (answer_of s budget ps e) ≡ reported_spent
      → (search budget (rules_of s) s.goal ≡ spent) × ((answer_of s budget ps e).units ≡ budget)
      × ((answer_of s budget ps e).text ≡ spent_text budget)
  unfolding first_outcome told_by answer_to enumeration_text found_texts last_line last_outcome last_units
  told_spent budget [] enough q h = absurd (proved_not_spent h)
  told_spent budget [] (exhausted n) q h = absurd (spent_not_no (sym h))
  told_spent budget [] units_spent q h = (q, refl, refl)
  told_spent budget (p ∷ ps) e q h = absurd (proved_not_spent (sym (tells_proved s budget p ps e) ∙ h))

  spent_told : (budget : ℕ) (ps : List Proof) (e : End) → search budget (rules_of s) s.goal ≡ first_outcome ps e
      → (ps ≡ [] → e ≡ enough → ⊥) → search budget (rules_of s) s.goal ≡ spent → told_by (answer_of s budget ps e) ≡ reported_spent
  unfolding first_outcome told_by answer_to last_outcome
  spent_told budget [] enough q m h = absurd (m refl refl)
  spent_told budget [] (exhausted n) q m h =
      absurd (let e : ends no_proof n ≡ spent = sym q ∙ h in let z : ◌≡◌ {A = ℕ} 0 1 = cc in omega arith)
  spent_told budget [] units_spent q m h = refl
  spent_told budget (p ∷ ps) e q m h =
      absurd (let k : ends (proved p.store p.path) p.units ≡ spent = sym q ∙ h in let z : ◌≡◌ {A = ℕ} 0 1 = cc in omega arith)

  -- An answer that does not end with spent is the same for a larger budget.
  answer_budget : (b c : ℕ) (ps : List Proof) (e : End) → (e ≡ units_spent → ⊥) → answer_of s c ps e ≡ answer_of s b ps e
  unfolding answer_to enumeration_text last_line last_units
  answer_budget b c ps enough h = refl
  answer_budget b c ps (exhausted n) h = refl
  answer_budget b c ps units_spent h = absurd (h refl)

  module _ (ask : Request) (t w a : ℕ) (x : Answer) (q : engine_run bytes ask t w a ≡ answered x) where
    abbrev budget : ℕ
    budget = ask.budget

    -- The walk that was asked for.
    abbrev walk : Enumeration
    walk = enumeration_of s ask

    first : search ask.budget (rules_of s) s.goal ≡ first_outcome (enumeration_of s ask).found (enumeration_of s ask).end
    unfolding enumeration_of
    first = first_told (rules_of s) s.goal ask.proofs ask.budget (asked_one ask t w a x q)

    never : (enumeration_of s ask).found ≡ [] → (enumeration_of s ask).end ≡ enough → ⊥
    unfolding enumeration_of
    never = never_enough (rules_of s) s.goal ask.proofs ask.budget (asked_one ask t w a x q)

    is : x ≡ answer_to s ask.budget (enumeration_of s ask)
    is = answer_is ask t w a x q

    -- The end, where the last outcome is not spent.
    not_spent : (x.outcome ≡ reported_spent → ⊥) → (enumeration_of s ask).end ≡ units_spent → ⊥
    unfolding answer_to
    not_spent h z = h (ap (λ (y : Answer). y.outcome) is ∙ spent_ends walk.end z)

    -- A larger budget has the same answer.
    answer_again : (x.outcome ≡ reported_spent → ⊥) → (larger : ℕ) → ask.budget ≤ larger
        → answer_to s larger (enumeration_of s (with_budget ask larger)) ≡ x
    unfolding enumeration_of
    answer_again h larger l =
        ap (answer_to s larger) (larger_same (rules_of s) s.goal ask.proofs budget larger l (not_spent h))
        ∙ answer_budget budget larger walk.found walk.end (not_spent h) ∙ sym is

    same_answer : (x.outcome ≡ reported_spent → ⊥) → (larger t' w' a' : ℕ) → ask.budget ≤ larger → larger ≤ max_budget
        → (engine_run bytes (with_budget ask larger) t' w' a' ≡ answered x)
        ⊎ ((r : Refusal) × (engine_run bytes (with_budget ask larger) t' w' a' ≡ turned_back r)
        × ((r.number ≡ 2) ⊎ ((r.number ≡ 5) ⊎ (r.number ≡ 12))))
    same_answer h larger t' w' a' l m =
        let r = answered_answers bytes ask t w a x q in
        subst (λ (y : Answer). (engine_run bytes (with_budget ask larger) t' w' a' ≡ answered y)
        ⊎ ((r : Refusal) × (engine_run bytes (with_budget ask larger) t' w' a' ≡ turned_back r)
        × ((r.number ≡ 2) ⊎ ((r.number ≡ 5) ⊎ (r.number ≡ 12)))))
        (answer_again h larger l)
        (passes bytes (with_budget ask larger) t' w' a' s r.passed.sheet_fits (let k = r.passed.least in omega arith) m
        r.passed.least_proofs r.passed.most_proofs read)

    -- With the buffers for it, it is told.
    told_retry : (x.outcome ≡ reported_spent → ⊥) → (larger t' w' a' : ℕ) → ask.budget ≤ larger → larger ≤ max_budget
        → table_numbers ≤ t' → demanded larger ≤ w' → length x.text ≤ a'
        → engine_run bytes (with_budget ask larger) t' w' a' ≡ answered x
    told_retry h larger t' w' a' l m ht hw ha =
        let r = answered_answers bytes ask t w a x q in
        let e = answer_again h larger l in
        let long : length (answer_to s larger (enumeration_of s (with_budget ask larger))).text ≡ length x.text =
        ap (λ (y : Answer). length y.text) e in
        passes_all bytes (with_budget ask larger) t' w' a' s
        (record {
          sheet_fits = r.passed.sheet_fits;
          table_fits = ht;
          least = let k = r.passed.least in omega arith;
          most = m;
          least_proofs = r.passed.least_proofs;
          most_proofs = r.passed.most_proofs;
          work_fits = hw;
        }) read
        (rw long r.text_fits) (rw long ha) ∙ ap answered e

    -- Each proof in the text is that of a derivation sequence of CS-1992-17.
    proofs_follow : ProofsIn (λ text. (n : ℕ) × DerivesText s n text) x.proofs x.text
    unfolding answer_to enumeration_text enumeration_of
    proofs_follow =
        subst (λ (y : Answer). ProofsIn (λ text. (n : ℕ) × DerivesText s n text) y.proofs y.text) (sym is)
        (proofs_in s (λ text. (n : ℕ) × DerivesText s n text) walk.found (last_line budget walk.end)
        (all_weaken (λ p. DerivesText s p.units (found_text s p)) (λ p. (n : ℕ) × DerivesText s n (found_text s p)) (λ p d. (p.units, d))
        walk.found (each_text_follows s ask.proofs ask.budget)))

    -- A run told as spent has done the budget's acts, and another is due.
    spent_due : told_by x ≡ reported_spent
        → (x.units ≡ ask.budget) × (x.text ≡ spent_text ask.budget) × (verdict_of (after (rules_of s) s.goal ask.budget) ≡ none)
    spent_due h =
        let z = told_spent budget walk.found walk.end first (ap told_by (sym is) ∙ h) in (
          ap (λ (y : Answer). y.units) is ∙ z.1,
          ap (λ (y : Answer). y.text) is ∙ z.2,
          ((units (rules_of s) s.goal).due budget).0 z.0 budget (omega arith),
        )

    -- The proofs that were told stand first under a larger number and budget.
    told_more_lem : (ask' : Request) (t' w' a' : ℕ) (y : Answer) → engine_run bytes ask' t' w' a' ≡ answered y
        → ask.budget ≤ ask'.budget → ask.proofs ≤ ask'.proofs → SameFirst x.proofs x.text y.proofs y.text
    unfolding answer_to enumeration_text enumeration_of
    told_more_lem ask' t' w' a' y q' l m =
        let g = (all_larger (rules_of s) s.goal).extends ask.proofs ask'.proofs ask.budget ask'.budget m l in
        let walk' = enumeration_of s ask' in
        let f = same_first s walk.found g.0 (last_line budget walk.end) (last_line ask'.budget walk'.end) in
        subst (λ (z : Answer). SameFirst x.proofs x.text z.proofs z.text) (sym (answer_is ask' t' w' a' y q'))
        (subst (λ (z : Answer). SameFirst z.proofs z.text (length walk'.found)
        (found_texts s walk'.found ++ last_line ask'.budget walk'.end)) (sym is)
        (subst (λ (ps : List Proof). SameFirst (length walk.found) (found_texts s walk.found ++ last_line budget walk.end)
        (length ps) (found_texts s ps ++ last_line ask'.budget walk'.end)) (sym g.1) f))

    -- After no all stays.
    told_settled : x.outcome ≡ reported_no → (ask' : Request) (t' w' a' : ℕ) (y : Answer) → engine_run bytes ask' t' w' a' ≡ answered y
        → ask.budget ≤ ask'.budget → ask.proofs ≤ ask'.proofs → y ≡ x
    unfolding answer_to enumeration_of
    told_settled h ask' t' w' a' y q' l m =
        let n = ends_no walk.end (sym (ap (λ (z : Answer). z.outcome) is) ∙ h) in
        let e = (all_larger (rules_of s) s.goal).settled ask.proofs ask'.proofs ask.budget ask'.budget n.0 m l n.1 in
        answer_is ask' t' w' a' y q' ∙ ap (answer_to s ask'.budget) e
        ∙ answer_budget budget ask'.budget walk.found walk.end
        (λ z. spent_not_no (sym (spent_ends walk.end z) ∙ sym (ap (λ (z : Answer). z.outcome) is) ∙ h)) ∙ sym is

  pub demand3 : Demand3 bytes s
  demand3 = record {
    never_no = λ e d ask t w a x q h.
        let r = told_no ask.budget (enumeration_of s ask).found (enumeration_of s ask).end (first ask t w a x q)
        (ap told_by (sym (is ask t w a x q)) ∙ h) in
        completeness (rules_of s) s.goal e closed names d ask.budget r.0 r.1;
    comes_to = λ ask t w a x q h.
        subst (ToldFirst s) (sym (is ask t w a x q))
        (told_first ask.budget (enumeration_of s ask).found (enumeration_of s ask).end (first ask t w a x q) (never ask t w a x q)
        (λ k. h (ap told_by (is ask t w a x q) ∙ k)));
    same = λ ask t w a x q h larger t' w' a' l m. same_answer ask t w a x q h larger t' w' a' l m;
    retry = λ ask t w a x q h larger t' w' a' l m ht hw ha. told_retry ask t w a x q h larger t' w' a' l m ht hw ha;
    more = λ ask t w a x q ask' t' w' a' y q' l m. told_more_lem ask t w a x q ask' t' w' a' y q' l m;
    settled = λ ask t w a x q h ask' t' w' a' y q' l m. told_settled ask t w a x q h ask' t' w' a' y q' l m;
    spends = λ ask t w a x q. (
      (λ h. ((units (rules_of s) s.goal).spends ask.budget).0
          (told_spent ask.budget (enumeration_of s ask).found (enumeration_of s ask).end (first ask t w a x q)
          (ap told_by (sym (is ask t w a x q)) ∙ h)).0),
      (λ h. ap told_by (is ask t w a x q) ∙ spent_told ask.budget (enumeration_of s ask).found (enumeration_of s ask).end
          (first ask t w a x q) (never ask t w a x q) (((units (rules_of s) s.goal).spends ask.budget).1 h)),
    );
  }

  pub demand2 : Demand2 bytes s
  demand2 = record {
    follows = λ ask t w a x q. proofs_follow ask t w a x q;
    spent = λ ask t w a x q h. spent_due ask t w a x q h;
  }
