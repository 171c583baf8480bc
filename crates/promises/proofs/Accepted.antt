-- T5: the checker accepts what the engine wrote, each proof by itself.
use Prim.Native.Nat.{ℕ, ◌≤◌, ◌<◌}
use mathlib.Core.Path.{◌≡◌, refl, sym, ◌∙◌, ap, subst}
use mathlib.Core.Bool.{Bool, true, false}
use mathlib.Core.List.{List, [], ◌∷◌, ◌++◌, append-nil}
use mathlib.Core.Logic.{◌⊎◌, inl, inr}
use native.Mathlib.Omega.{arith}
use lib.Dec.{ltb}
use lib.ListN.{length, take, length-append}
use borrow.Author.Tests.{ltb-true, le-ltb}
use Rattle.terms.specs.Lists.{All}
use Rattle.terms.proofs.Lists.{all_weaken}
use Rattle.enumeration.specs.Enumeration.{Proof, End, enough, exhausted, units_spent}
use Rattle.sheet_format.specs.Limits.{max_sheet_bytes, table_numbers, max_text_bytes}
use Rattle.sheet_format.specs.Buffers.{demanded}
use Rattle.sheet_format.specs.Sheets.{Sheet, sheet, read_sheet, Refusal, refusal, turn_back_if}
use Rattle.answer_texts.proofs.Capitals.{declared_spells}
use Rattle.answer_texts.specs.Judgements.{valid}
use Rattle.answer_texts.specs.Spelled.{SpellsAsDeclared}
use Rattle.answer_texts.specs.Enumerations.{found_text, found_texts, last_line, enumeration_text}
use Rattle.answer_texts.specs.EnumerationPromises.{EachTextSound}
use Rattle.answer_texts.proofs.EnumerationPromises.{each_text_sound}
use Rattle.text_judging.specs.Judging.{judge}
use Rattle.text_judging.specs.Promises.{CheckerExact}
use Rattle.text_judging.proofs.Promises.{checker_exact}
use Rattle.engine_spec.specs.EngineRun.{Request, reported_proved, Answer, Result, answered, turned_back as refused_run}
use Rattle.engine_spec.specs.EngineRun.{enumeration_of, last_outcome, answer_to, engine_run, answer_after}
use Rattle.engine_spec.specs.Promises.{HandedBack, handed_back, RunContract, join_texts, ProofsIn, RunSound, CallersTold}
use Rattle.engine_spec.proofs.Answered.{answered_answers}
use Rattle.engine_spec.proofs.Buffers.{take_front}
use Rattle.engine_spec.proofs.Callers.{proved_number, proofs_handed}
use Rattle.engine_spec.proofs.Promises.{run_sound, callers_told}
use Rattle.checker_spec.specs.CheckText.{Checked, judged, check_refused, count_lf, check_sheet, check_text}
use Rattle.checker_spec.specs.Promises.{HandedBack as CheckedBack, handed_back as checkedBack}
use Rattle.promises.specs.Accepted.{Accepted, AcceptsWritten, Checks, RunChecks, RunChecksWhole}

-- The checker accepts a text within the limit that spells a derivation, or turns back a buffer that is too short.
accepts_text : CheckerExact → (bytes : List ℕ) (s : Sheet) → read_sheet bytes ≡ sheet s → length bytes ≤ max_sheet_bytes → (text : List ℕ)
    → length text ≤ max_text_bytes → SpellsAsDeclared s text → Accepted bytes text
unfolding check_text turn_back_if check_sheet
accepts_text exact bytes s read small text short spells t w =
    let j : judge s text ≡ valid = (exact bytes s read text).accepts.1 (declared_spells s text spells) in
    rw (le-ltb max_sheet_bytes (length bytes) small, le-ltb max_text_bytes (length text) short, read, j)
    (table (ltb t table_numbers) refl)
  where
    Ends : Checked → Type 0
    Ends c = (c ≡ judged valid)
        ⊎ ((r : Refusal) × (c ≡ check_refused r)
        × (((r.number ≡ 2) × (t < table_numbers)) ⊎ ((r.number ≡ 5) × (w < demanded (count_lf text)))))

    work : (b : Bool) → ltb w (demanded (count_lf text)) ≡ b → Ends (turn_back_if check_refused b 5 (judged valid))
    work true q = inr (refusal 5 0, refl, inr (refl, ltb-true _ _ q))
    work false q = inl refl

    table : (b : Bool) → ltb t table_numbers ≡ b
        → Ends (turn_back_if check_refused b 2 (turn_back_if check_refused (ltb w (demanded (count_lf text))) 5 (judged valid)))
    table true q = inr (refusal 2 0, refl, inl (refl, ltb-true _ _ q))
    table false q = work (ltb w (demanded (count_lf text))) refl

-- What holds of each proof within a limit that the whole text keeps.
each_short : (P Q : List ℕ → Type 0) (n : ℕ) → ((t : List ℕ) → length t ≤ n → P t → Q t) → (ts : List (List ℕ)) (line : List ℕ)
    → length (join_texts ts line) ≤ n → All P ts → All Q ts
unfolding join_texts
each_short P Q n f [] line l h = tt
each_short P Q n f (t ∷ ts) line l h =
    let a = length-append t (join_texts ts line) in
    (f t (omega arith) h.0, each_short P Q n f ts line (omega arith) h.1)

proofs_short : (P Q : List ℕ → Type 0) (n : ℕ) → ((t : List ℕ) → length t ≤ n → P t → Q t) → (number : ℕ) (text : List ℕ)
    → length text ≤ n → ProofsIn P number text → ProofsIn Q number text
proofs_short P Q n f number text l p = record {
  proofs = p.proofs;
  counted = p.counted;
  each = each_short P Q n f p.proofs p.line (subst (λ (t : List ℕ). length t ≤ n) p.joined l) p.each;
  line = p.line;
  joined = p.joined;
}

-- The checker accepts each proof that the engine wrote.
accepts_written_lem : CheckerExact → RunSound → AcceptsWritten
accepts_written_lem exact sound bytes ask t w a x e =
    let r = answered_answers bytes ask t w a x e in
    let q = sound bytes ask t w a x e in
    proofs_short (SpellsAsDeclared q.0) (Accepted bytes) max_text_bytes
    (λ text short spells. accepts_text exact bytes q.0 q.1 r.passed.sheet_fits text short spells)
    x.proofs x.text r.text_fits q.2

-- T5 holds.
pub accepts_written : AcceptsWritten
accepts_written = accepts_written_lem checker_exact run_sound

-- What the checker accepts, `check` says valid to.
accepted_checks : (bytes text : List ℕ) → Accepted bytes text → Checks bytes text
unfolding checkedBack
accepted_checks bytes text accepts table work table' work' v d = go (accepts (length table) (length work))
  where
    number : (f : Refusal) → check_text bytes text (length table) (length work) ≡ check_refused f → v.number ≡ f.number
    number f e = ap (λ (b : CheckedBack). b.number) (d.value ∙ ap checkedBack e)

    go : (check_text bytes text (length table) (length work) ≡ judged valid)
        ⊎ ((f : Refusal) × (check_text bytes text (length table) (length work) ≡ check_refused f)
        × (((f.number ≡ 2) × (length table < table_numbers)) ⊎ ((f.number ≡ 5) × (length work < demanded (count_lf text)))))
        → (v.verdict ≡ 0)
        ⊎ (((v.number ≡ 2) × (length table < table_numbers)) ⊎ ((v.number ≡ 5) × (length work < demanded (count_lf text))))
    go (inl e) = inl (ap (λ (b : CheckedBack). b.verdict) (d.value ∙ ap checkedBack e))
    go (inr (f, e, inl (n, l))) = inr (inl (number f e ∙ n, l))
    go (inr (f, e, inr (n, l))) = inr (inr (number f e ∙ n, l))

-- T5 holds of `run` and `check`.
run_checks_lem : CallersTold → AcceptsWritten → RunChecks
run_checks_lem told accepts bytes ask table work answer table' work' answer' r c h =
    let s = (told bytes ask table work answer table' work' answer' r c).is_sheet h in
    proofs_handed bytes ask table work answer table' work' answer' r c (λ y. Checks bytes)
    (λ x e. (
      s.0,
      s.1,
      proofs_short (Accepted bytes) (Checks bytes) (length x.text)
          (λ text l k. accepted_checks bytes text k) x.proofs x.text (omega arith)
          (accepts bytes ask (length table) (length work) (length answer) x e),
    )) s.0 s.1 h

pub run_checks : RunChecks
run_checks = run_checks_lem callers_told accepts_written

-- Where proved is told with one proof, the text is that of the proof found.
whole_text : (s : Sheet) (budget : ℕ) (ps : List Proof) (e : End) → length ps ≡ 1 → last_outcome e ≡ reported_proved
    → (P : List ℕ → Type 0) → All (λ p. P (found_text s p)) ps → P (found_texts s ps ++ last_line budget e)
unfolding found_texts last_line last_outcome
whole_text s budget [] e k o P h = absurd (omega arith)
whole_text s budget (p ∷ []) enough k o P h = subst P (sym (append-nil (found_text s p ++ []) ∙ append-nil (found_text s p))) h.0
whole_text s budget (p ∷ []) (exhausted n) k o P h = absurd (let z : ◌≡◌ {A = ℕ} 0 1 = cc in omega arith)
whole_text s budget (p ∷ []) units_spent k o P h = absurd (let z : ◌≡◌ {A = ℕ} 0 1 = cc in omega arith)
whole_text s budget (p ∷ q ∷ ps) e k o P h = absurd (omega arith)

-- So the checker accepts it.
accepts_whole : CheckerExact → EachTextSound → (bytes : List ℕ) (ask : Request) (t w a : ℕ) (x : Answer)
    → engine_run bytes ask t w a ≡ answered x → x.outcome ≡ reported_proved → x.proofs ≡ 1 → Accepted bytes x.text
unfolding answer_to enumeration_of enumeration_text
accepts_whole exact sound bytes ask t w a x e h one =
    let r = answered_answers bytes ask t w a x e in
    let s = r.s in
    let walk = enumeration_of s ask in
    let o : last_outcome walk.end ≡ reported_proved = sym (ap (λ (y : Answer). y.outcome) r.is) ∙ h in
    let k : length walk.found ≡ 1 = sym (ap (λ (y : Answer). y.proofs) r.is) ∙ one in
    let written : x.text ≡ found_texts s walk.found ++ last_line ask.budget walk.end = ap (λ (y : Answer). y.text) r.is in
    subst Within (sym written)
    (whole_text s ask.budget walk.found walk.end k o Within
    (all_weaken (λ p. length (found_text s p) ≤ max_text_bytes → SpellsAsDeclared s (found_text s p)) (λ p. Within (found_text s p))
    (λ p f short. accepts_text exact bytes s r.read r.passed.sheet_fits (found_text s p) short (f short)) walk.found
    (sound bytes s r.read ask.proofs ask.budget r.passed.most))) r.text_fits
  where
    Within : List ℕ → Type 0
    Within text = length text ≤ max_text_bytes → Accepted bytes text

-- Where proved is handed back, the text of the answer lies in the buffer.
record Proves (bytes : List ℕ) (ask : Request) (t w a : ℕ) (answer' : List ℕ) (r : HandedBack) : Type 0 where
  x : Answer
  is : engine_run bytes ask t w a ≡ answered x
  outcome : x.outcome ≡ reported_proved
  proofs : r.proofs ≡ x.proofs
  text : take r.length answer' ≡ x.text

proves : (bytes : List ℕ) (ask : Request) (table work answer table' work' answer' : List ℕ) (r : HandedBack)
    → RunContract bytes ask table work answer table' work' answer' r → r.outcome ≡ 0
    → Proves bytes ask (length table) (length work) (length answer) answer' r
unfolding handed_back answer_after
proves bytes ask table work answer table' work' answer' r c h =
    go (engine_run bytes ask (length table) (length work) (length answer)) refl
  where
    go : (q : Result) → engine_run bytes ask (length table) (length work) (length answer) ≡ q
        → Proves bytes ask (length table) (length work) (length answer) answer' r
    go (refused_run f) e = absurd (let z : r.outcome ≡ 3 = ap (λ (b : HandedBack). b.outcome) (c.value ∙ ap handed_back e) in omega arith)
    go (answered x) e =
        let v : r ≡ handed_back (answered x) = c.value ∙ ap handed_back e in
        let b : answer' ≡ answer_after (answered x) answer = c.answer_end ∙ ap (λ (y : Result). answer_after y answer) e in
        record {
          x = x;
          is = e;
          outcome = proved_number x.outcome (sym (ap (λ (y : HandedBack). y.outcome) v) ∙ h);
          proofs = ap (λ (y : HandedBack). y.proofs) v;
          text = rw (v, b) (take_front x.text _);
        }

-- The whole text of one proof is accepted.
run_checks_whole_lem : CheckerExact → EachTextSound → RunChecksWhole
run_checks_whole_lem exact sound bytes ask table work answer table' work' answer' r c h one =
    let p = proves bytes ask table work answer table' work' answer' r c h in
    subst (Checks bytes) (sym p.text)
    (accepted_checks bytes p.x.text
    (accepts_whole exact sound bytes ask (length table) (length work) (length answer) p.x p.is p.outcome (sym p.proofs ∙ one)))

pub run_checks_whole : RunChecksWhole
run_checks_whole = run_checks_whole_lem checker_exact each_text_sound
