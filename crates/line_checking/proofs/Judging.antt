-- One line of a text: it is judged in place as it is judged, and what is held after it is the progress.
use Prim.Native.Nat.{ℕ, suc, ◌+◌, ◌-◌, ◌≤◌}
use native.Mathlib.Omega.{arith}
use mathlib.Core.Path.{◌≡◌, refl, sym, ap, ◌∙◌, subst}
use mathlib.Core.Bool.{Bool, true, false, cond}
use mathlib.Core.List.{List, [], ◌∷◌, ◌++◌, append-nil}
use mathlib.Core.Option.{Option, none, some}
use mathlib.Core.Logic.{inl, inr}
use lib.Dec.{eqb}
use lib.ListN.{length, take, drop, length-append, take-append-drop}
use lib.Seq.{length-take-le, drop-append_seam}
use borrow.Author.Tests.{ne_eqb}
use Rattle.sequents.specs.Symbols.{Symbol}
use Rattle.sheet_format.specs.Bytes.{lf, fields, folded, folded_name}
use Rattle.sheet_format.specs.Sheets.{Sheet}
use Rattle.node_table.specs.Decoding.{decode_sheet}
use Rattle.answer_texts.specs.TextLines.{TextLine, terms_of}
use Rattle.answer_texts.specs.Numbering.{symbols_of}
use Rattle.answer_texts.specs.Spelling.{join}
use Rattle.answer_texts.specs.Spelled.{Writable, Stage, opening, bindings, sequents}
use Rattle.text_judging.specs.Reading.{read_line}
use Rattle.text_judging.specs.Judging.{Seen, show_symbols, allow, Progress, progress, judge_read, judge_line as judgeBytes}
use Rattle.answer_texts.proofs.Splitting.{join_fields}
use Rattle.text_judging.proofs.Reading.{line_bytes, read_spell, spell_read, fields_spell}
use Rattle.text_judging.proofs.Showings.{shows_append, unseen}
use Rattle.scanning.specs.Numbering.{SymbolCounts}
use Rattle.std.specs.Prelude.{Some, None}
use Rattle.scanning.specs.Numbering.{check_numbering}
use Rattle.scanning.proofs.Positions.{drop_length, drop_past}
use Rattle.scanning.proofs.Records.{Room, Kept}
use Rattle.scanning.proofs.SymbolsInText.{starts_in, starts_append, plain_starts}
use Rattle.scanning.proofs.Numbering.{ShowsAs, check_numbering_lem}
use Rattle.terms.proofs.Lists.{map_append}
use Rattle.text_judging.proofs.SmallLines.{small_twice}
use Rattle.scanning.proofs.Folding.{starts_folded}
use Rattle.line_checking.specs.declared.Registers.{Registers}
use Rattle.line_checking.specs.Sequents.{Made, made, with_stage, broken, with_counts, broken_stage}
use Rattle.line_checking.specs.Judging.{stage_line, count_line, order_line, judge_line}
use Rattle.line_checking.proofs.Lines.{line_starts}
use Rattle.line_checking.proofs.Representation.{Setting, declared, sheet_of, Filled, names_of_lem, Holds}
use Rattle.line_checking.proofs.Results.{Right, Wrong, Result}
use Rattle.line_checking.proofs.FoldedLines.{LineAt, same_size}
use Rattle.line_checking.proofs.Stages.{stage_result}

-- After q lines, the next one starting at i.
pub record State (c : Setting) (q i : ℕ) (w : List ℕ) (r : Registers) (p : Progress) : Type 0 where
  pub holds : Holds c q w r p.stage
  pub made_count : r.made ≡ length p.seen.of_made
  pub leftover_count : r.leftover ≡ length p.seen.of_leftover
  pub seen : show_symbols (starts_in i c.text 0) unseen ≡ some p.seen
  pub inside : i ≤ length c.text

-- A line that breaks stops; one that does not goes on.
abbrev pub Judges : Setting → ℕ → ℕ → Made → Option Progress → Type 0
Judges c q i a none = a.registers.stage ≡ broken_stage
Judges c q i a (some p) = (a.registers.stage ≡ broken_stage → ⊥) × State c q i a.memory a.registers p

-- Other counts do not change the stage that is held.
counts_hold : (c : Setting) (k : ℕ) (w : List ℕ) (r : Registers) (m l : ℕ) (a : Stage) → Holds c k w r a → Holds c k w (with_counts r m l) a
unfolding Holds with_counts
counts_hold c k w r m l opening h = h
counts_hold c k w r m l (bindings [] e) h = h
counts_hold c k w r m l (bindings (v ∷ vs) e) h =
    record { stage = h.stage; variable = h.variable; small = h.small; later = h.later; older = h.older; frame = h.frame }
counts_hold c k w r m l (sequents []) h = h
counts_hold c k w r m l (sequents (g ∷ gs)) h = h

module _ (c : Setting) (filled : Filled c) (q : ℕ) (w : List ℕ) (room : Room q w) (r : Registers) (p : Progress) (l rest : List ℕ) (i e : ℕ)
    (here : LineAt c.text i l rest) (end : e ≡ i + length l) (state : State c q i w r p) where
  -- This is the sheet.
  abbrev s : Sheet
  s = sheet_of c

  -- This says what comes of the line.
  abbrev After : Made → Option Progress → Type 0
  After m o = Judges c (suc q) (e + 1) m o

  -- numbering is checked where the line is right so far

  -- The numbering is not checked where the line broke.
  order_stops : (m : Made) → m.registers.stage ≡ broken_stage → order_line c.text m i e ≡ m
  unfolding order_line
  order_stops m h = ap (λ (z : ℕ). cond (eqb z 4) m (count_line c.text m i e)) h

  -- The numbering is checked where the line did not break.
  order_goes : (m : Made) → (m.registers.stage ≡ broken_stage → ⊥) → order_line c.text m i e ≡ count_line c.text m i e
  unfolding order_line
  order_goes m h = ap (λ (b : Bool). cond b m (count_line c.text m i e)) (ne_eqb m.registers.stage broken_stage h)

  -- Checking the numbering writes nothing.
  order_memory : (m : Made) → (order_line c.text m i e).memory ≡ m.memory
  unfolding order_line count_line broken
  order_memory m =
      go (eqb m.registers.stage broken_stage) (check_numbering (e - i) c.text i m.registers.made m.registers.leftover)
    where
      go : (b : Bool) (o : SymbolCounts)
          → (cond b m (elim o as (λ z. Made) [
            | Some (x, y) ↦ made m.memory (with_counts m.registers x y)
            | None ↦
                broken m.memory m.registers
          ])).memory ≡ m.memory
      go true o = refl
      go false (Some (x, y)) = refl
      go false None = refl

  -- The judgement stops at a line that is wrong at its stage.
  wrong : (m : Made) → Wrong c l p.stage m → After (order_line c.text m i e) (judgeBytes s l p)
  unfolding judgeBytes judge_read progress sheet_of decode_sheet
  wrong m h = subst (λ (z : Made). After z (judgeBytes s l p)) (sym (order_stops m h.stops)) (go (read_line (declared c) (fields l)) refl)
    where
      go : (o : Option TextLine) → read_line (declared c) (fields l) ≡ o → After m (judge_read s o p)
      go none z = h.stops
      go (some x) z =
          let y = spell_read (declared c) (fields l) x z in
          rw (h.unfit x (sym (ap join y.0 ∙ join_fields l)) y.1) h.stops

  -- A line that is right at its stage is judged by its symbols.
  right_judged : (x : TextLine) (b : Stage) → l ≡ line_bytes (declared c) x → Writable (declared c) x → allow s x p.stage ≡ some b
      → judgeBytes s l p ≡ progress (some b) (show_symbols (symbols_of (terms_of x)) p.seen)
  unfolding judgeBytes judge_read sheet_of decode_sheet
  right_judged x b h y k =
      ap (λ (o : Option TextLine). judge_read s o p)
      (ap (λ (z : List ℕ). read_line (declared c) (fields z)) h
      ∙ ap (read_line (declared c)) (fields_spell (declared c) x (names_of_lem c filled) y) ∙ read_spell (declared c) x (names_of_lem c filled) y)
      ∙ ap (λ (o : Option Stage). progress o (show_symbols (symbols_of (terms_of x)) p.seen)) k

  -- The symbols up to the next line are those before this line, then those of this line.
  next_starts : starts_in (e + 1) c.text 0 ≡ starts_in i c.text 0 ++ starts_in (length l) c.text i
  next_starts =
      let a : e + 1 ≡ i + (length l + 1) = omega arith in
      let b : 0 + i ≡ i = omega arith in
      ap (λ (n : ℕ). starts_in n c.text 0) a ∙ starts_append i (length l + 1) c.text 0
      ∙ ap (λ (n : ℕ). starts_in i c.text 0 ++ starts_in (length l + 1) c.text n) b
      ∙ ap (starts_in i c.text 0 ++◌) (starts_append (length l) 1 c.text i
      ∙ ap (starts_in (length l) c.text i ++◌)
      (plain_starts (lf ∷ []) here.after c.text (i + length l) ended ((refl, refl), tt))
      ∙ append-nil (starts_in (length l) c.text i))
    where
      ended : drop (i + length l) c.text ≡ lf ∷ here.after
      ended =
          ap (λ (n : ℕ). drop (i + n) c.text) (same_size c.text i l rest here)
          ∙ drop_past c.text i here.raw (lf ∷ here.after) here.stands

  -- A line that is right at its stage is judged by its numbering.
  right : (m : Made) → Right c q l p.stage r m → After (order_line c.text m i e) (judgeBytes s l p)
  unfolding count_line progress broken with_stage with_counts
  right m h =
      subst (λ (z : Made). After z (judgeBytes s l p)) (sym (order_goes m h.goes_on))
      (subst (After (count_line c.text m i e)) (sym (right_judged h.line h.after h.spelled h.writable h.allowed)) counted)
    where
      marks : starts_in (length l) c.text i ≡ symbols_of (terms_of h.line)
      marks =
          sym (starts_folded c.text (length l) i) ∙ ap (λ (x : List ℕ). starts_in (length l) x i) (sym same)
          ∙ starts_folded text (length l) i ∙ ap (λ (z : List ℕ). starts_in (length z) text i) h.spelled
          ∙ line_starts (declared c) (names_of_lem c filled) text h.line here.after i (stands ∙ ap (◌++ (lf ∷ here.after)) h.spelled)
          h.writable
        where
          -- The text with this line's names folded.
          text : List ℕ
          text = take i c.text ++ (l ++ (lf ∷ here.after))

          stands : drop i text ≡ l ++ (lf ∷ here.after)
          stands =
              ap (λ (n : ℕ). drop n text) (sym (length-take-le i c.text state.inside))
              ∙ drop-append_seam (take i c.text) (l ++ (lf ∷ here.after))

          same : folded_name text ≡ folded_name c.text
          same =
              map_append folded (take i c.text) (l ++ (lf ∷ here.after))
              ∙ ap (folded_name (take i c.text) ++◌) (map_append folded l (lf ∷ here.after)
              ∙ ap (◌++ folded_name (lf ∷ here.after)) (ap folded_name here.line_is ∙ small_twice 0 here.raw)
              ∙ sym (map_append folded here.raw (lf ∷ here.after)) ∙ ap folded_name (sym here.stands))
              ∙ sym (map_append folded (take i c.text) (drop i c.text)) ∙ ap folded_name (take-append-drop i c.text)

      shown : ShowsAs (check_numbering (e - i) c.text i m.registers.made m.registers.leftover)
          (show_symbols (symbols_of (terms_of h.line)) p.seen)
      shown =
          let a : e - i ≡ length l = omega arith in
          let b = drop_length c.text i (here.raw ++ (lf ∷ here.after)) here.stands in
          let d = length-append here.raw (lf ∷ here.after) in
          let g = same_size c.text i l rest here in
          let f = state.inside in
          rw (a, h.same_made_lem ∙ state.made_count, h.same_leftover_lem ∙ state.leftover_count, ← marks)
          (check_numbering_lem (length l) c.text i p.seen (omega arith) state.seen)

      counted : After (count_line c.text m i e) (progress (some h.after) (show_symbols (symbols_of (terms_of h.line)) p.seen))
      counted =
          go (check_numbering (e - i) c.text i m.registers.made m.registers.leftover)
          (show_symbols (symbols_of (terms_of h.line)) p.seen) refl shown
        where
          go : (o : SymbolCounts) (u : Option Seen) → show_symbols (symbols_of (terms_of h.line)) p.seen ≡ u → ShowsAs o u
              → After (elim o as (λ z. Made) [
                | Some (x, y) ↦ made m.memory (with_counts m.registers x y)
                | None ↦
                    broken m.memory m.registers
              ]) (progress (some h.after) u)
          go None none z k = refl
          go None (some u) z k = absurd k
          go (Some (x, y)) none z k = absurd k
          go (Some (x, y)) (some u) z k = (
            h.goes_on,
            record {
              holds = counts_hold c (suc q) m.memory m.registers x y h.after h.holds;
              made_count = k.0;
              leftover_count = k.1;
              seen = ap (λ (n : List Symbol). show_symbols n unseen) next_starts
                  ∙ shows_append (starts_in i c.text 0) (starts_in (length l) c.text i) unseen p.seen state.seen
                  ∙ ap (λ (n : List Symbol). show_symbols n p.seen) marks ∙ z;
              inside =
                  let b = drop_length c.text i (here.raw ++ (lf ∷ here.after)) here.stands in let d =
                  length-append here.raw (lf ∷ here.after) in let g = same_size c.text i l rest here in let f =
                  state.inside in omega arith;
            },
          )

  -- What comes of the line.
  pub line_judged : After (judge_line c.bytes c.table c.symbols c.clauses c.goal c.text w r q i e) (judgeBytes s l p)
  unfolding judge_line
  line_judged = go (stage_result c filled q w room r l rest i e here end p.stage state.holds).0
    where
      m : Made
      m = stage_line c.bytes c.table c.symbols c.clauses c.goal c.text w r q i e

      go : Result c q l p.stage r m → After (order_line c.text m i e) (judgeBytes s l p)
      go (inl h) = right m h
      go (inr h) = wrong m h

  -- It writes record q only.
  pub line_kept : Kept q w (judge_line c.bytes c.table c.symbols c.clauses c.goal c.text w r q i e).memory
  unfolding judge_line
  line_kept =
      subst (Kept q w) (sym (order_memory (stage_line c.bytes c.table c.symbols c.clauses c.goal c.text w r q i e)))
      (stage_result c filled q w room r l rest i e here end p.stage state.holds).1
