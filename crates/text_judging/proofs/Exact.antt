-- Over a sheet with good names, closed clauses and free names below 8, the judgement is exact: valid for the texts of derivations of
-- instances, and otherwise the first line that breaks. Here the case of letters counts.
use Prim.Native.Nat.{ℕ, zero, suc, ◌+◌, ◌≤◌, ◌<◌}
use mathlib.Core.Path.{◌≡◌, refl, sym, ◌∙◌, ap, subst}
use mathlib.Core.Bool.{true}
use mathlib.Core.List.{List, [], ◌∷◌, ◌++◌, map, append-nil}
use native.Mathlib.Omega.{arith}
use lib.ListN.{length, take, drop, take-append-drop}
use lib.Seq.{length-take-le}
use Rattle.terms.specs.Lists.{All}
use Rattle.formulas.specs.Formulas.{free_g, free_variables}
use Rattle.sequents.specs.Derivations.{lines}
use Rattle.sequents.specs.Promises.{Closed}
use Rattle.sheet_format.specs.Limits.{variable_names}
use Rattle.sheet_format.specs.Bytes.{SplitLines, lines_of, lf}
use Rattle.sheet_format.specs.Sheets.{Sheet}
use Rattle.sheet_format.proofs.Bytes.{Without}
use Rattle.sheet_format.proofs.Names.{Names}
use Rattle.answer_texts.specs.TextLines.{answer_lines}
use Rattle.answer_texts.specs.Numbering.{numbering_of, shown, numbered}
use Rattle.answer_texts.specs.Spelling.{spell, proof_text}
use Rattle.answer_texts.specs.Spelled.{opening, sequents, Proceeds, Writable, SpellsAsDeclared, unlines, first_lines}
use Rattle.text_judging.specs.Judging.{Progress, judge_end, judge_from, judge_exactly}
use Rattle.answer_texts.specs.Judgements.{Judgement, valid, invalid}
use Rattle.answer_texts.proofs.Splitting.{lines_of_split}
use Rattle.text_judging.proofs.Reading.{line_bytes, spell_unlines, lines_of_spell}
use Rattle.text_judging.proofs.SmallLines.{all_take}
use Rattle.text_judging.proofs.Numbering.{shows_numbered, numbered_shows}
use Rattle.text_judging.proofs.Stages.{InstanceLines, proceeds_instance, instance_proceeds}
use Rattle.text_judging.proofs.Judge.{start, BeginsExactly, BreaksExactly, Passed, passed_append, passed_judges, judges_valid, judges_invalid, judges_stop}
use Rattle.text_judging.proofs.Judge.{passed_beginning, beginning_passed}

-- Where l stands after the first n elements, the first n + 1 elements end with l.
next_taken : {A : Type 0} (n : ℕ) (ls : List A) (l : A) (ms : List A) → drop n ls ≡ l ∷ ms → (suc n ≤ length ls)
    × (take (suc n) ls ≡ take n ls ++ (l ∷ []))
next_taken zero [] l ms h = absurd (let z : ◌≡◌ {A = ℕ} 0 1 = cc in omega arith)
next_taken zero (a ∷ ls) l ms h = (omega arith, ap (◌∷ []) (let q : a ≡ l = cc in q))
next_taken (suc n) [] l ms h = absurd (let z : ◌≡◌ {A = ℕ} 0 1 = cc in omega arith)
next_taken (suc n) (a ∷ ls) l ms h = let r = next_taken n ls l ms h in (omega (arith, r.0), ap (a ∷◌) r.1)

module _ (s : Sheet) (names : Names s.symbols) (closed : All Closed s.clauses) (small : (v : ℕ) → free_g s.goal v ≡ true
    → v < variable_names) where
  -- A valid text spells a derivation.
  pub valid_spells : (text : List ℕ) → judge_exactly s text ≡ valid → SpellsAsDeclared s text
  unfolding judge_exactly proof_text
  valid_spells text h =
      let r = judges_valid s names (lines_of text).whole (lines_of text).rest 1 start h in
      let xs = r.1.text_lines in
      let i = proceeds_instance s closed small xs (subst (Proceeds s xs opening) r.2 r.1.proceeds) in
      let e = sym (shows_numbered xs r.0.seen r.1.shows) ∙ ap numbered i.text_lines in
      record {
        units = i.units;
        least = i.least;
        most = i.most;
        environment = i.environment;
        proof = i.proof;
        writable = subst (All (Writable s.symbols)) e r.1.writable;
        spelled =
            sym (lines_of_split text).joined ∙ ap (unlines (lines_of text).whole ++◌) r.3 ∙ append-nil (unlines (lines_of text).whole)
            ∙ ap unlines (sym r.1.spelled) ∙ sym (spell_unlines s.symbols xs) ∙ ap (spell s.symbols) e;
      }

  -- A text that spells a derivation is valid.
  pub spells_valid : (text : List ℕ) → SpellsAsDeclared s text → judge_exactly s text ≡ valid
  unfolding judge_exactly judge_from judge_end proof_text numbered
  spells_valid text h =
      let xs = answer_lines h.units (free_variables s.goal) h.environment (lines h.proof.derivation) in
      let u = numbered_shows xs in
      let ls = map (line_bytes s.symbols) (numbered xs) in
      let q : Progress = record { stage = sequents []; seen = u.0 } in
      let i : InstanceLines s xs = record {
        units = h.units;
        least = h.least;
        most = h.most;
        environment = h.environment;
        proof = h.proof;
        text_lines = refl;
      } in
      let p : Passed s ls start q = record {
        text_lines = numbered xs;
        spelled = refl;
        writable = h.writable;
        proceeds = instance_proceeds s closed small (numbering_of (shown xs)) xs i;
        shows = u.1;
      } in
      ap (λ (l : SplitLines). judge_from s l.whole l.rest 1 start) (ap lines_of h.spelled
      ∙ lines_of_spell s.symbols (numbered xs) names h.writable)
      ∙ ap (λ (l : List (List ℕ)). judge_from s l [] 1 start) (sym (append-nil ls)) ∙ passed_judges s names ls [] [] 1 start q p

  -- After first lines that are a beginning, the judgement goes on with the other lines.
  first_judged : (text : List ℕ) (n : ℕ) → n ≤ length (lines_of text).whole → BeginsExactly s (first_lines n text)
      → (q : Progress) × Passed s (take n (lines_of text).whole) start q
      × (judge_exactly s text ≡ judge_from s (drop n (lines_of text).whole) (lines_of text).rest (suc n) q)
  unfolding judge_exactly first_lines
  first_judged text n l b =
      let ls = (lines_of text).whole in
      let r = beginning_passed s names (take n ls) (all_take (Without lf) n ls (lines_of_split text).whole) b in (
        r.0,
        r.1,
        ap (λ (ms : List (List ℕ)). judge_from s ms (lines_of text).rest 1 start) (sym (take-append-drop n ls))
            ∙ passed_judges s names (take n ls) (drop n ls) (lines_of text).rest 1 start r.0 r.1
            ∙ ap (λ (k : ℕ). judge_from s (drop n ls) (lines_of text).rest k r.0)
            (let d = length-take-le n ls l in let e : length (take n ls) + 1 ≡ suc n = omega arith in e),
      )

  -- The line that is named breaks, and the text spells no derivation.
  pub named_breaks : (text : List ℕ) (n : ℕ) → judge_exactly s text ≡ invalid (suc n) → BreaksExactly s text n × (SpellsAsDeclared s text → ⊥)
  unfolding judge_exactly first_lines
  named_breaks text n h =
      let ls = (lines_of text).whole in
      let r = judges_invalid s names ls (lines_of text).rest 1 (suc n) start h in
      let e : r.number ≡ n = omega (arith, r.named) in (
        record {
          there = omega (arith, r.there);
          before = passed_beginning s names (take n ls) r.after (subst (λ (k : ℕ). Passed s (take k ls) start r.after) e r.passed);
          breaks = λ l b.
              let q = first_judged text (suc n) l b in
              let t = judges_invalid s names (drop (suc n) ls) (lines_of text).rest (suc (suc n)) (suc n) q.0 (sym q.2 ∙ h) in
              omega (arith, t.named);
        },
        λ d. let v = spells_valid text d in let z : ◌≡◌ {A = ℕ} 0 1 = cc in omega arith,
      )

  -- A line that breaks is named, if the text spells no derivation.
  pub breaks_named : (text : List ℕ) (n : ℕ) → BreaksExactly s text n × (SpellsAsDeclared s text → ⊥) → judge_exactly s text ≡ invalid (suc n)
  unfolding first_lines
  breaks_named text n h =
      r.2 ∙ judges_stop s names (drop n ls) (lines_of text).rest (suc n) r.0 next (λ v. h.1 (valid_spells text (r.2 ∙ v)))
    where
      ls : List (List ℕ)
      ls = (lines_of text).whole

      r : (q : Progress) × Passed s (take n ls) start q × (judge_exactly s text ≡ judge_from s (drop n ls) (lines_of text).rest (suc n) q)
      r = first_judged text n h.0.there h.0.before

      -- No next line passes.
      next : (l : List ℕ) (ms : List (List ℕ)) (q : Progress) → drop n ls ≡ l ∷ ms → Passed s (l ∷ []) r.0 q → ⊥
      next l ms q e p =
          let d = next_taken n ls l ms e in
          let passed = passed_append s (take n ls) (l ∷ []) start r.0 q r.1 p in
          h.0.breaks d.0 (passed_beginning s names (take (suc n) ls) q
          (subst (λ (ks : List (List ℕ)). Passed s ks start q) (sym d.1) passed))

  -- A text that spells no derivation has a line that breaks.
  pub spells_or_breaks : (text : List ℕ) → (SpellsAsDeclared s text → ⊥) → (n : ℕ) × BreaksExactly s text n × (judge_exactly s text ≡ invalid (suc n))
  unfolding judge_exactly
  spells_or_breaks text h = go (judge_exactly s text) refl
    where
      go : (j : Judgement) → judge_exactly s text ≡ j → (n : ℕ) × BreaksExactly s text n × (judge_exactly s text ≡ invalid (suc n))
      go valid e = absurd (h (valid_spells text e))
      go (invalid k) e =
          let r = judges_invalid s names (lines_of text).whole (lines_of text).rest 1 k start e in
          let q : k ≡ suc r.number = omega (arith, r.named) in
          (r.number, (named_breaks text r.number (e ∙ ap invalid q)).0, e ∙ ap invalid q)
