-- The texts of the proofs that an enumeration finds: each is that of a proof, and they extend the text of the search.
use Prim.Native.Nat.{ℕ, suc, ◌≤◌}
use mathlib.Core.Path.{◌≡◌, refl, sym, ◌∙◌, ap}
use mathlib.Core.List.{List, [], ◌∷◌, ◌++◌, append_assoc, append-nil}
use native.Mathlib.Omega.{arith}
use Rattle.terms.specs.Lists.{All}
use Rattle.terms.proofs.Lists.{all_weaken}
use Rattle.search.specs.Search.{proved, no_proof, SearchOutcome, ends, spent, search}
use Rattle.search.proofs.Formed.{Arities, FormedGoal, FormedClause}
use Rattle.search.proofs.ProcedureSearch.{all_both}
use Rattle.enumeration.specs.Enumeration.{Proof, proof_of, Enumeration, enumerate}
use Rattle.enumeration.specs.Smaller.{one_proof}
use Rattle.enumeration.specs.Promises.{Climbs, EachProof}
use Rattle.enumeration.proofs.Shown.{proofs_shown}
use Rattle.enumeration.proofs.Promises.{all_first, one_proof as one_proof_lem, all_counts, all_larger, all_sound}
use Rattle.sheet_format.specs.Limits.{max_budget}
use Rattle.sheet_format.specs.Sheets.{Sheet, rules_of}
use Rattle.sheet_format.proofs.Good.{good}
use Rattle.sheet_format.proofs.Numberless.{numberless_sheet}
use Rattle.answer_texts.specs.Promises.{search_text}
use Rattle.answer_texts.specs.Enumerations.{found_text, found_texts, last_line, enumeration_text, outcome_text}
use Rattle.answer_texts.specs.EnumerationPromises.{proofs_of, EachTextSound, EachTextBefore, EachTextFollows, AllTextsExtend}
use Rattle.answer_texts.proofs.SoundWritable.{declared}
use Rattle.answer_texts.proofs.FormerTexts.{symbolic, sheet_symbolic}
use Rattle.answer_texts.proofs.TextSound.{Shows, sheet_formed, text_sound_lem, text_before, text_follows_lem}

-- What the proof shows is over the symbols that ok allows.
abbrev pub FoundShows : Sheet → Arities → Proof → Type 0
FoundShows s ok p = Shows s p.units p.store p.path ok

-- Proofs with rising units have each at least one unit.
climbs_least : (u : ℕ) (ps : List Proof) → Climbs u ps → All (λ p. 1 ≤ p.units) ps
unfolding Climbs
climbs_least u [] h = tt
climbs_least u (p ∷ ps) h = ((let l = h.0 in omega arith), climbs_least p.units ps h.1)

-- What each proof found for the goal of a sheet is.
pub record Found (s : Sheet) (p : Proof) : Type 0 where
  pub least : 1 ≤ p.units
  pub most : p.units ≤ max_budget
  pub each : EachProof (rules_of s) s.goal p

pub all_found : (s : Sheet) (wanted budget : ℕ) → budget ≤ max_budget → All (Found s) (proofs_of s wanted budget)
all_found s wanted budget few =
    let c = all_counts (rules_of s) s.goal wanted budget in
    let ps = proofs_of s wanted budget in
    all_weaken (λ p. (1 ≤ p.units) × ((p.units ≤ budget) × EachProof (rules_of s) s.goal p)) (Found s)
    (λ p h. record { least = h.0; most = (let l = h.1.0 in omega arith); each = h.1.1 }) ps
    (all_both (λ p. 1 ≤ p.units) (λ p. (p.units ≤ budget) × EachProof (rules_of s) s.goal p) ps (climbs_least 0 ps c.climb)
    (all_both (λ p. p.units ≤ budget) (EachProof (rules_of s) s.goal) ps c.units (all_sound (rules_of s) s.goal wanted budget)))

-- A property of each proof found, from what it is and what it shows.
pub each_found : (s : Sheet) (ok : Arities) → All (λ c. FormedClause c ok) s.clauses × FormedGoal s.goal ok
    → (wanted budget : ℕ) → budget ≤ max_budget → All (λ p. Found s p × FoundShows s ok p) (proofs_of s wanted budget)
each_found s ok formed wanted budget few =
    all_both (Found s) (FoundShows s ok) (proofs_of s wanted budget) (all_found s wanted budget few)
    (proofs_shown ok (rules_of s) s.goal formed.0 formed.1 wanted budget)

pub each_sound : EachTextSound
unfolding found_text
each_sound bytes s read wanted budget few =
    let ok = declared s.symbols in
    all_weaken (λ p. Found s p × FoundShows s ok p) _
    (λ p h short. text_sound_lem s p.units p.store p.path h.0.least h.0.most h.0.each.sound h.1 short)
    (proofs_of s wanted budget) (each_found s ok (sheet_formed s (good bytes s read)) wanted budget few)

pub each_before : EachTextBefore
unfolding found_text
each_before bytes s read without wanted budget few =
    let ok = declared s.symbols in
    let well = good bytes s read in
    let ps = proofs_of s wanted budget in
    let symbols = sheet_symbolic s well (numberless_sheet bytes s read without) in
    all_weaken (λ p. (Found s p × FoundShows s ok p) × FoundShows s symbolic p) _
    (λ p h short. text_before s p.units p.store p.path h.0.0.least h.0.0.most h.0.0.each.sound h.0.1 h.1
    short) ps
    (all_both (λ p. Found s p × FoundShows s ok p) (FoundShows s symbolic) ps (each_found s ok (sheet_formed s well) wanted budget few)
    (proofs_shown symbolic (rules_of s) s.goal symbols.0 symbols.1 wanted budget))

pub each_follows : EachTextFollows
unfolding found_text
each_follows s wanted budget =
    all_weaken (EachProof (rules_of s) s.goal) _
    (λ p h. text_follows_lem s p.units p.store p.path h.follows h.answer) (proofs_of s wanted budget)
    (all_sound (rules_of s) s.goal wanted budget)

-- The texts of two lists of proofs are those of the first, then those of the second.
texts_append : (s : Sheet) (x y : List Proof) → found_texts s (x ++ y) ≡ found_texts s x ++ found_texts s y
unfolding found_texts
texts_append s [] y = refl
texts_append s (p ∷ x) y =
    ap (found_text s p ++◌) (texts_append s x y) ∙ sym (append_assoc (found_text s p) (found_texts s x) (found_texts s y))

-- The text of one proof is that of the outcome.
one_text : (s : Sheet) (budget : ℕ) (o : SearchOutcome) → enumeration_text s budget (one_proof o) ≡ outcome_text s budget o
unfolding enumeration_text found_texts last_line one_proof outcome_text found_text
one_text s budget (ends (proved store path) n) =
    append-nil (search_text s store path n ++ []) ∙ append-nil (search_text s store path n)
one_text s budget (ends no_proof n) = refl
one_text s budget spent = refl

-- The text begins with that of the first proof.
first_text : (s : Sheet) (budget : ℕ) (r : Enumeration) (p : Proof) (ps : List Proof) → r.found ≡ p ∷ ps
    → (rest : List ℕ) × (enumeration_text s budget r ≡ found_text s p ++ rest)
unfolding enumeration_text found_texts
first_text s budget r p ps e = (
  found_texts s ps ++ last_line budget r.end,
  ap (λ (x : List Proof). found_texts s x ++ last_line budget r.end) e
      ∙ append_assoc (found_text s p) (found_texts s ps) (last_line budget r.end),
)

pub texts_extend : AllTextsExtend
unfolding found_text
texts_extend s = record {
  one = λ budget.
      ap (enumeration_text s budget) (one_proof_lem (rules_of s) s.goal budget)
      ∙ one_text s budget (search budget (rules_of s) s.goal);
  first = λ wanted budget n store path e.
      let r = ((all_first (rules_of s) s.goal wanted budget).proves n store path).0 e in
      first_text s budget (enumerate (suc wanted) budget (rules_of s) s.goal) (proof_of n store path) r.0 r.1;
  more = λ w v b c l m.
      let r = (all_larger (rules_of s) s.goal).extends w v b c l m in
      (found_texts s r.0, ap (found_texts s) r.1 ∙ texts_append s (proofs_of s w b) r.0);
}
