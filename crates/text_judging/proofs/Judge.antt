-- The judgement of whole lines: it goes on exactly as long as the lines are a beginning of a text.
use Prim.Native.Nat.{ℕ, suc, ◌+◌, ◌≤◌}
use mathlib.Core.Path.{◌≡◌, refl, sym, ◌∙◌, ap, ap₂, subst}
use mathlib.Core.List.{List, [], ◌∷◌, ◌++◌, map, append_assoc}
use mathlib.Core.Option.{Option, none, some}
use native.Mathlib.Omega.{arith}
use lib.ListN.{length, take}
use Rattle.terms.specs.Lists.{All}
use Rattle.terms.proofs.Lists.{all_append, map_append, length_map}
use Rattle.sequents.specs.Symbols.{Symbol}
use Rattle.sheet_format.specs.Bytes.{lf, fields}
use Rattle.sheet_format.specs.Sheets.{Sheet}
use Rattle.sheet_format.proofs.Bytes.{Without}
use Rattle.sheet_format.proofs.Names.{Names}
use Rattle.answer_texts.specs.TextLines.{TextLine, terms_of}
use Rattle.answer_texts.specs.Numbering.{symbols_of, shown}
use Rattle.answer_texts.specs.Spelling.{join}
use Rattle.answer_texts.specs.Spelled.{Stage, opening, bindings, sequents, Proceeds, Writable, BeginsBy, BreaksBy, unlines}
use Rattle.text_judging.specs.Reading.{read_line}
use Rattle.text_judging.specs.Judging.{Seen, show_symbols, allow, Progress, progress, judge_read, judge_line}
use Rattle.answer_texts.specs.Judgements.{Judgement, valid, invalid}
use Rattle.text_judging.specs.Judging.{judge_end, judge_from}
use Rattle.answer_texts.proofs.Splitting.{join_fields}
use Rattle.text_judging.proofs.Reading.{read_spell, spell_read, line_bytes, fields_spell, spell_unlines, spell_lines}
use Rattle.text_judging.proofs.Infer.{nothing}
use Rattle.text_judging.proofs.Showings.{unseen, shows_append, shows_split}
use Rattle.text_judging.proofs.Numbering.{shows_numbered, numbered_shows}
use Rattle.text_judging.proofs.Stages.{allow_sound, allow_complete}

-- Before the first line.
abbrev pub start : Progress
start = record { stage = opening; seen = unseen }

-- lines one after the other

-- If a line passes and other lines proceed after it, they proceed together.
proceeds_cons : (s : Sheet) (x : TextLine) (xs : List TextLine) (a b c : Stage) → allow s x a ≡ some b → Proceeds s xs b c
    → Proceeds s (x ∷ xs) a c
unfolding Proceeds
proceeds_cons s x xs a b c h k = allow_sound s x a b (λ d. Proceeds s xs d c) h k

-- If lines proceed, the first passes and the others proceed after it.
proceeds_parts : (s : Sheet) (x : TextLine) (xs : List TextLine) (a c : Stage) → Proceeds s (x ∷ xs) a c → (b : Stage)
    × (allow s x a ≡ some b) × Proceeds s xs b c
unfolding Proceeds
proceeds_parts s x xs a c h = allow_complete s x a (λ d. Proceeds s xs d c) h

-- Lines that proceed, followed by lines that proceed after them, proceed together.
proceeds_append : (s : Sheet) (xs ys : List TextLine) (a b c : Stage) → Proceeds s xs a b → Proceeds s ys b c → Proceeds s (xs ++ ys) a c
unfolding Proceeds
proceeds_append s [] ys a b c h k = subst (λ (d : Stage). Proceeds s ys d c) (sym h) k
proceeds_append s (x ∷ xs) ys a b c h k =
    let r = proceeds_parts s x xs a b h in
    proceeds_cons s x (xs ++ ys) a r.0 c r.1 (proceeds_append s xs ys r.0 b c r.2 k)

-- The symbols of two lists of lines are those of the first, then those of the second.
shown_append : (xs ys : List TextLine) → shown (xs ++ ys) ≡ shown xs ++ shown ys
unfolding shown
shown_append [] ys = refl
shown_append (x ∷ xs) ys =
    ap (symbols_of (terms_of x) ++◌) (shown_append xs ys) ∙ sym (append_assoc (symbols_of (terms_of x)) (shown xs) (shown ys))

-- Where there is a progress, there are both its stage and what it has seen.
progress_parts : (o : Option Stage) (u : Option Seen) (q : Progress) → progress o u ≡ some q → (o ≡ some q.stage) × (u ≡ some q.seen)
unfolding progress
progress_parts none u q h = nothing q h
progress_parts (some a) none q h = nothing q h
progress_parts (some a) (some u) q h =
    let e : record { stage = a; seen = u } ≡ q = cc in (ap (λ (p : Progress). some p.stage) e, ap (λ (p : Progress). some p.seen) e)

-- The bytes are a beginning, and a line breaks, where the case of letters counts.
abbrev pub BeginsExactly : Sheet → List ℕ → Type 0
BeginsExactly s bytes = BeginsBy (λ a b. a ≡ b) s bytes

abbrev pub BreaksExactly : Sheet → List ℕ → ℕ → Type 0
BreaksExactly s text n = BreaksBy (λ a b. a ≡ b) s text n

-- Text lines that the bytes ls spell lead from one progress to another.
pub record Passed (s : Sheet) (ls : List (List ℕ)) (p q : Progress) : Type 0 where
  pub text_lines : List TextLine
  pub spelled : map (line_bytes s.symbols) text_lines ≡ ls
  pub writable : All (Writable s.symbols) text_lines
  pub proceeds : Proceeds s text_lines p.stage q.stage
  pub shows : show_symbols (shown text_lines) p.seen ≡ some q.seen

-- The empty list of lines passes and leaves the progress as it was.
passed_nil : (s : Sheet) (p : Progress) → Passed s [] p p
unfolding Proceeds shown show_symbols
passed_nil s p = record { text_lines = []; spelled = refl; writable = tt; proceeds = refl; shows = refl }

-- Lines that pass, followed by lines that pass after them, pass together.
pub passed_append : (s : Sheet) (ls ms : List (List ℕ)) (p q r : Progress) → Passed s ls p q → Passed s ms q r → Passed s (ls ++ ms) p r
passed_append s ls ms p q r h k = record {
  text_lines = h.text_lines ++ k.text_lines;
  spelled = map_append (line_bytes s.symbols) h.text_lines k.text_lines ∙ ap₂ ◌++◌ h.spelled k.spelled;
  writable = all_append (Writable s.symbols) h.text_lines k.text_lines h.writable k.writable;
  proceeds = proceeds_append s h.text_lines k.text_lines p.stage q.stage r.stage h.proceeds k.proceeds;
  shows = ap (λ (l : List Symbol). show_symbols l p.seen) (shown_append h.text_lines k.text_lines)
      ∙ shows_append (shown h.text_lines) (shown k.text_lines) p.seen q.seen h.shows ∙ k.shows;
}

-- The judgement named a line: number lines before it pass.
pub record Stopped (s : Sheet) (ls : List (List ℕ)) (k m : ℕ) (p : Progress) : Type 0 where
  pub number : ℕ
  pub there : number ≤ length ls
  pub named : m ≡ k + number
  pub after : Progress
  pub passed : Passed s (take number ls) p after

-- at the end

-- If the end is judged valid, no sequent is left and no byte.
end_valid : (a : Stage) (rest : List ℕ) (k : ℕ) → judge_end a rest k ≡ valid → (a ≡ sequents []) × (rest ≡ [])
unfolding judge_end
end_valid opening rest k h = absurd (let z : ◌≡◌ {A = ℕ} 0 1 = cc in omega arith)
end_valid (bindings vs e) rest k h = absurd (let z : ◌≡◌ {A = ℕ} 0 1 = cc in omega arith)
end_valid (sequents (g ∷ gs)) rest k h = absurd (let z : ◌≡◌ {A = ℕ} 0 1 = cc in omega arith)
end_valid (sequents []) [] k h = (refl, refl)
end_valid (sequents []) (c ∷ cs) k h = absurd (let z : ◌≡◌ {A = ℕ} 0 1 = cc in omega arith)

-- If the end is judged invalid at line m, then m is the line past the last.
end_invalid : (a : Stage) (rest : List ℕ) (k m : ℕ) → judge_end a rest k ≡ invalid m → k ≡ m
unfolding judge_end
end_invalid opening rest k m h = cc
end_invalid (bindings vs e) rest k m h = cc
end_invalid (sequents (g ∷ gs)) rest k m h = cc
end_invalid (sequents []) [] k m h = cc
end_invalid (sequents []) (c ∷ cs) k m h = cc

-- If the end is not judged valid, the line past the last is named.
end_stop : (a : Stage) (rest : List ℕ) (k : ℕ) → (judge_end a rest k ≡ valid → ⊥) → judge_end a rest k ≡ invalid k
unfolding judge_end
end_stop opening rest k v = refl
end_stop (bindings vs e) rest k v = refl
end_stop (sequents (g ∷ gs)) rest k v = refl
end_stop (sequents []) [] k v = absurd (v refl)
end_stop (sequents []) (c ∷ cs) k v = refl

module _ (s : Sheet) (names : Names s.symbols) where
  -- one line

  -- A line that the judgement accepts passes.
  passed_line : (l : List ℕ) (p q : Progress) → judge_line s l p ≡ some q → Passed s (l ∷ []) p q
  unfolding judge_line judge_read Proceeds shown show_symbols
  passed_line l p q h = go (read_line s.symbols (fields l)) refl h
    where
      go : (o : Option TextLine) → read_line s.symbols (fields l) ≡ o → judge_read s o p ≡ some q → Passed s (l ∷ []) p q
      go none e k = nothing q k
      go (some x) e k =
          let r = spell_read s.symbols (fields l) x e in
          let d = progress_parts (allow s x p.stage) (show_symbols (symbols_of (terms_of x)) p.seen) q k in
          record {
            text_lines = x ∷ [];
            spelled = ap (◌∷ []) (ap join r.0 ∙ join_fields l);
            writable = (r.1, tt);
            proceeds = proceeds_cons s x [] p.stage q.stage q.stage d.0 refl;
            shows = shows_append (symbols_of (terms_of x)) [] p.seen q.seen d.1;
          }

  -- The judgement accepts a written line that is right and in order.
  judge_line_lem : (x : TextLine) (p : Progress) (a : Stage) (u : Seen) → Writable s.symbols x → allow s x p.stage ≡ some a
      → show_symbols (symbols_of (terms_of x)) p.seen ≡ some u
      → judge_line s (line_bytes s.symbols x) p ≡ some (record { stage = a; seen = u })
  unfolding judge_line judge_read progress
  judge_line_lem x p a u w h k =
      ap (λ (o : Option TextLine). judge_read s o p) (ap (read_line s.symbols) (fields_spell s.symbols x names w)
      ∙ read_spell s.symbols x names w) ∙ ap₂ progress h k

  -- the lines

  -- After text lines that pass, the judgement goes on with the lines after them.
  judges_on : (xs : List TextLine) (more : List (List ℕ)) (rest : List ℕ) (k n : ℕ) (p q : Progress) → All (Writable s.symbols) xs
      → Proceeds s xs p.stage q.stage
      → show_symbols (shown xs) p.seen ≡ some q.seen → n ≡ length xs + k
      → judge_from s (map (line_bytes s.symbols) xs ++ more) rest k p ≡ judge_from s more rest n q
  unfolding judge_from Proceeds shown show_symbols
  judges_on [] more rest k n p q w h z e =
      let y : p.seen ≡ q.seen = cc in
      ap₂ (judge_from s more rest) (let d : k ≡ n = omega arith in d) (ap₂ (λ (a : Stage) (u : Seen). record { stage = a; seen = u }) h y)
  judges_on (x ∷ xs) more rest k n p q w h z e =
      let a = proceeds_parts s x xs p.stage q.stage h in
      let u = shows_split (symbols_of (terms_of x)) (shown xs) p.seen q.seen z in
      let r : Progress = record { stage = a.0; seen = u.0 } in
      ap (λ (o : Option Progress). elim o as (λ o. Judgement) [
        | none ↦ invalid k
        | some t ↦
            judge_from s (map (line_bytes s.symbols) xs ++ more) rest (suc k) t
      ])
      (judge_line_lem x p a.0 u.0 w.0 a.1 u.1)
      ∙ judges_on xs more rest (suc k) n r q w.1 a.2 u.2 (omega arith)

  -- After lines of bytes that pass, the judgement goes on with the lines after them.
  pub passed_judges : (ls more : List (List ℕ)) (rest : List ℕ) (k : ℕ) (p q : Progress) → Passed s ls p q
      → judge_from s (ls ++ more) rest k p ≡ judge_from s more rest (length ls + k) q
  passed_judges ls more rest k p q h =
      ap (λ (l : List (List ℕ)). judge_from s (l ++ more) rest k p) (sym h.spelled)
      ∙ judges_on h.text_lines more rest k (length ls + k) p q h.writable h.proceeds h.shows
      (ap (◌+ k) (ap length (sym h.spelled) ∙ length_map (line_bytes s.symbols) h.text_lines))

  -- If the judgement is valid, all lines pass, no sequent is left and no byte follows.
  pub judges_valid : (ls : List (List ℕ)) (rest : List ℕ) (k : ℕ) (p : Progress) → judge_from s ls rest k p ≡ valid
      → (q : Progress) × Passed s ls p q × (q.stage ≡ sequents []) × (rest ≡ [])
  unfolding judge_from
  judges_valid [] rest k p h = let r = end_valid p.stage rest k h in (p, passed_nil s p, r.0, r.1)
  judges_valid (l ∷ ls) rest k p h = go (judge_line s l p) refl h (judges_valid ls rest (suc k))
    where
      go : (o : Option Progress) → judge_line s l p ≡ o
          → elim o as (λ o. Judgement) [ none ↦ invalid k | some t ↦ judge_from s ls rest (suc k) t ] ≡ valid
          → ((t : Progress) → judge_from s ls rest (suc k) t ≡ valid → (q : Progress) × Passed s ls t q × (q.stage ≡ sequents [])
          × (rest ≡ []))
          → (q : Progress) × Passed s (l ∷ ls) p q × (q.stage ≡ sequents []) × (rest ≡ [])
      go none e d f = absurd (let z : ◌≡◌ {A = ℕ} 0 1 = cc in omega arith)
      go (some t) e d f = let r = f t d in (r.0, passed_append s (l ∷ []) ls p t r.0 (passed_line l p t e) r.1, r.2, r.3)

  -- If the judgement names a line, the lines before it pass.
  pub judges_invalid : (ls : List (List ℕ)) (rest : List ℕ) (k m : ℕ) (p : Progress) → judge_from s ls rest k p ≡ invalid m
      → Stopped s ls k m p
  unfolding judge_from
  judges_invalid [] rest k m p h =
      record {
        number = 0;
        there = omega arith;
        named = let e = end_invalid p.stage rest k m h in omega arith;
        after = p;
        passed = passed_nil s p;
      }
  judges_invalid (l ∷ ls) rest k m p h = go (judge_line s l p) refl h (judges_invalid ls rest (suc k) m)
    where
      go : (o : Option Progress) → judge_line s l p ≡ o
          → elim o as (λ o. Judgement) [ none ↦ invalid k | some t ↦ judge_from s ls rest (suc k) t ] ≡ invalid m
          → ((t : Progress) → judge_from s ls rest (suc k) t ≡ invalid m → Stopped s ls (suc k) m t) → Stopped s (l ∷ ls) k m p
      go none e d f =
          record { number = 0; there = omega arith; named = let z : k ≡ m = cc in omega arith; after = p; passed = passed_nil s p }
      go (some t) e d f =
          let r = f t d in
          record {
            number = suc r.number;
            there = let z = r.there in omega arith;
            named = let z = r.named in omega arith;
            after = r.after;
            passed = passed_append s (l ∷ []) (take r.number ls) p t r.after (passed_line l p t e) r.passed;
          }

  -- Where no next line passes and the judgement is not valid, the next line is named.
  pub judges_stop : (ls : List (List ℕ)) (rest : List ℕ) (k : ℕ) (p : Progress)
      → ((l : List ℕ) (ms : List (List ℕ)) (q : Progress) → ls ≡ l ∷ ms → Passed s (l ∷ []) p q → ⊥)
      → (judge_from s ls rest k p ≡ valid → ⊥) → judge_from s ls rest k p ≡ invalid k
  unfolding judge_from
  judges_stop [] rest k p f v = end_stop p.stage rest k v
  judges_stop (l ∷ ls) rest k p f v = go (judge_line s l p) refl
    where
      go : (o : Option Progress) → judge_line s l p ≡ o
          → elim o as (λ o. Judgement) [ none ↦ invalid k | some t ↦ judge_from s ls rest (suc k) t ] ≡ invalid k
      go none e = refl
      go (some q) e = absurd (f l ls q refl (passed_line l p q e))

  -- beginnings

  -- Lines that pass from the start are a beginning.
  pub passed_beginning : (ls : List (List ℕ)) (q : Progress) → Passed s ls start q → BeginsExactly s (unlines ls)
  passed_beginning ls q h = record {
    text_lines = h.text_lines;
    stage = q.stage;
    writable = h.writable;
    in_order = shows_numbered h.text_lines q.seen h.shows;
    spelled = ap unlines (sym h.spelled) ∙ sym (spell_unlines s.symbols h.text_lines);
    proceeds = h.proceeds;
  }

  -- The lines of a beginning pass from the start.
  pub beginning_passed : (ls : List (List ℕ)) → All (Without lf) ls → BeginsExactly s (unlines ls) → (q : Progress) × Passed s ls start q
  beginning_passed ls e b =
      let r = numbered_shows b.text_lines in (
        record { stage = b.stage; seen = r.0 },
        record {
          text_lines = b.text_lines;
          spelled = sym (spell_lines s.symbols ls b.text_lines names e b.writable b.spelled);
          writable = b.writable;
          proceeds = b.proceeds;
          shows = ap (λ (xs : List TextLine). show_symbols (shown xs) unseen) (sym b.in_order) ∙ r.1;
        },
      )
