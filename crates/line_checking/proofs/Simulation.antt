-- The checker's work on flat memory gives exactly the judgement of the text.
use Prim.Native.Nat.{ℕ, zero, suc, ◌+◌, ◌-◌, ◌*◌, ◌<◌, ◌≤◌}
use native.Mathlib.Omega.{arith}
use native.Mathlib.Numerals.{add-one}
use mathlib.Core.Path.{◌≡◌, refl, sym, ap, ◌∙◌, subst, ap₂}
use mathlib.Core.Bool.{Bool, cond}
use mathlib.Core.List.{List, [], ◌∷◌, ◌++◌, append_assoc, map}
use mathlib.Core.Option.{Option, none, some}
use lib.Dec.{eqb}
use lib.ListN.{length, drop, length-append}
use lib.Seq.{drop-drop}
use borrow.Author.Tests.{eq-eqb, ne_eqb, lt-ltb, le-ltb}
use Rattle.terms.specs.Lists.{All}
use Rattle.sheet_format.specs.Bytes.{lf, SplitLines, lines_of, folded_name}
use Rattle.sheet_format.specs.Sheets.{Sheet}
use Rattle.sheet_format.proofs.Bytes.{Without}
use Rattle.sheet_format.proofs.Good.{Good, good}
use Rattle.sheet_format.specs.Limits.{numbers_per_unit}
use Rattle.answer_texts.specs.Spelled.{Stage, opening, bindings, sequents, unlines}
use Rattle.text_judging.specs.Judging.{show_symbols, Progress, judge_line as judgeBytes, judge_end}
use Rattle.answer_texts.specs.Judgements.{Judgement, invalid}
use Rattle.text_judging.specs.Judging.{judge_from as judgeLines, judge_exactly, judge}
use Rattle.text_judging.proofs.SmallLines.{small_line, lines_small}
use Rattle.answer_texts.specs.Capitals.{small_sheet}
use Rattle.answer_texts.proofs.Splitting.{lines_of_split}
use Rattle.text_judging.proofs.Showings.{unseen}
use Rattle.scanning.specs.Ranges.{text_line_end}
use Rattle.scanning.proofs.Positions.{drop_length, drop_next, drop_past}
use Rattle.scanning.proofs.Ranges.{line_end_lem, line_open}
use Rattle.scanning.proofs.Records.{Kept}
use Rattle.scanning.proofs.SymbolsInText.{starts_in}
use Rattle.node_table.specs.Decoding.{decode_sheet}
use Rattle.line_checking.specs.declared.Registers.{Registers}
use Rattle.line_checking.specs.Sequents.{Made, start, broken_stage, done_stage}
use Rattle.std.specs.Prelude.{Some, None}
use Rattle.line_checking.specs.Judging.{judge_line, Judged, judged, end_verdict, judge_from, judge_text}
use Rattle.line_checking.specs.Simulation.{judgement_of, line_feeds, Simulates}
use Rattle.line_checking.proofs.Representation.{Setting, sheet_of, Filled, Holds}
use Rattle.line_checking.proofs.FoldedLines.{LineAt, small_length}
use Rattle.line_checking.proofs.FoldedSheets.{decode_small, good_small}
use Rattle.line_checking.proofs.Judging.{State, Judges as JudgesLine, line_judged, line_kept}

-- numbers that stay

-- What is the same from a position on is the same from a later position on.
same_further : (n m : ℕ) (w w' : List ℕ) → n ≤ m → drop n w' ≡ drop n w → drop m w' ≡ drop m w
same_further n m w w' l h =
    let e : n + (m - n) ≡ m = omega arith in
    ap (λ (k : ℕ). drop k w') (sym e) ∙ sym (drop-drop (m - n) n w') ∙ ap (drop (m - n)) h ∙ drop-drop (m - n) n w
    ∙ ap (λ (k : ℕ). drop k w) e

-- What comes of the lines from line q on, in a buffer with n records.
record Goes (c : Setting) (n : ℕ) (w : List ℕ) (a : Judged) (j : Judgement) : Type 0 where
  verdict : judgement_of a.verdict ≡ j
  same_length : length a.memory ≡ length w
  same_rest : drop (numbers_per_unit * n) a.memory ≡ drop (numbers_per_unit * n) w

-- the end

module _ (c : Setting) (q i : ℕ) (w : List ℕ) (r : Registers) where
  -- If bytes are left after the last LF, the text is not valid.
  ends_open : (b : ℕ) (bs : List ℕ) (a : Stage) → judge_end a (b ∷ bs) (suc q) ≡ invalid (suc q)
  unfolding judge_end
  ends_open b bs opening = refl
  ends_open b bs (bindings vs e) = refl
  ends_open b bs (sequents []) = refl
  ends_open b bs (sequents (g ∷ gs)) = refl

  -- If no byte is left, the text is valid exactly if no line is due.
  ends_here : (a : Stage) → Holds c q w r a → judgement_of (cond (eqb r.stage done_stage) None (Some (suc q))) ≡ judge_end a [] (suc q)
  unfolding judge_end judgement_of Holds
  ends_here opening h = ap (λ (z : ℕ). judgement_of (cond (eqb z 3) None (Some (suc q)))) h
  ends_here (bindings [] e) h = absurd h
  ends_here (bindings (v ∷ vs) e) h = ap (λ (z : ℕ). judgement_of (cond (eqb z 3) None (Some (suc q)))) h.stage
  ends_here (sequents []) h = ap (λ (z : ℕ). judgement_of (cond (eqb z 3) None (Some (suc q)))) h
  ends_here (sequents (g ∷ gs)) h = ap (λ (z : ℕ). judgement_of (cond (eqb z 3) None (Some (suc q)))) h.0

  -- The verdict at the end is that of `judge_end`, whether or not bytes are left.
  ends : (rest : List ℕ) (a : Stage) → i + length rest ≡ length c.text → Holds c q w r a
      → judgement_of (end_verdict c.text r q i) ≡ judge_end a rest (suc q)
  unfolding end_verdict judgement_of
  ends [] a h k =
      let z : i ≡ length c.text = omega arith in
      rw (eq-eqb i (length c.text) z, add-one q) (ends_here a k)
  ends (b ∷ bs) a h k = rw (ne_eqb i (length c.text) (λ z. omega arith), add-one q) (sym (ends_open b bs a))

-- the lines

module _ (c : Setting) (filled : Filled c) where
  -- This is the machine on this setting.
  abbrev run : ℕ → List ℕ → Registers → ℕ → ℕ → Judged
  run n w r q i = judge_from n c.bytes c.table c.symbols c.clauses c.goal c.text w r q i

  -- From line q on, the machine's verdict is the judgement of the lines.
  lines_judged : (ls : List (List ℕ)) (rest : List ℕ) (n q i : ℕ) (w : List ℕ) (r : Registers) (p : Progress) → length ls < n
      → drop i c.text ≡ unlines ls ++ rest → All (Without lf) ls
      → Without lf rest → numbers_per_unit * (q + length ls) ≤ length w → State c q i w r p
      → Goes c (q + length ls) w (run n w r q i) (judgeLines (sheet_of c) (map small_line ls) (small_line rest) (suc q) p)
  unfolding judge_from judgeLines unlines judgement_of
  lines_judged ls rest zero q i w r p l d a b room s = absurd (omega arith)
  lines_judged [] rest (suc n) q i w r p l d a b room s =
      let e = line_open rest c.text i d b in
      let k = drop_length c.text i rest d in
      let f = s.inside in
      let z : i + length rest ≡ length c.text = omega arith in
      rw (le-ltb (text_line_end c.text i) (length c.text) (omega arith))
      (record { verdict = ends c q i w r (small_line rest) p.stage (ap (i +◌) (small_length 0 rest) ∙ z) s.holds; same_length = refl; same_rest = refl })
  lines_judged (x ∷ ls) rest (suc n) q i w r p l d a b room s =
      let y = line_end_lem x (unlines ls ++ rest) c.text i here a.0 in
      let k = drop_length c.text i (x ++ (lf ∷ (unlines ls ++ rest))) here in
      let f = length-append x (lf ∷ (unlines ls ++ rest)) in
      rw (lt-ltb e (length c.text) (omega arith))
      (step m (line_kept c filled q w (omega arith) r p (small_line x) (folded_name (unlines ls ++ rest)) i e at_line end s)
      (judgeBytes (sheet_of c) (small_line x) p)
      (line_judged c filled q w (omega arith) r p (small_line x) (folded_name (unlines ls ++ rest)) i e at_line end s)
      (λ w' r' p' o h. lines_judged ls rest n (suc q) (e + 1) w' r' p' (omega arith) (after y) a.1 b o h))
    where
      e : ℕ
      e = text_line_end c.text i

      m : Made
      m = judge_line c.bytes c.table c.symbols c.clauses c.goal c.text w r q i e

      here : drop i c.text ≡ x ++ (lf ∷ (unlines ls ++ rest))
      here = d ∙ append_assoc x (lf ∷ unlines ls) rest

      -- The line with its names folded.
      at_line : LineAt c.text i (small_line x) (folded_name (unlines ls ++ rest))
      at_line =
          record { raw = x; after = unlines ls ++ rest; stands = here; whole = a.0; line_is = refl; rest_is = refl }

      end : e ≡ i + length (small_line x)
      end = line_end_lem x (unlines ls ++ rest) c.text i here a.0 ∙ ap (i +◌) (sym (small_length 0 x))

      after : e ≡ i + length x → drop (e + 1) c.text ≡ unlines ls ++ rest
      after y =
          ap (λ (z : ℕ). drop (z + 1) c.text) y
          ∙ drop_next c.text (i + length x) lf (unlines ls ++ rest) (drop_past c.text i x (lf ∷ (unlines ls ++ rest)) here)

      Later : Type 0
      Later =
          (w' : List ℕ) (r' : Registers) (p' : Progress) → numbers_per_unit * (suc q + length ls) ≤ length w'
          → State c (suc q) (e + 1) w' r' p'
          → Goes c (suc q + length ls) w' (run n w' r' (suc q) (e + 1)) (judgeLines (sheet_of c) (map small_line ls) (small_line rest) (suc (suc q)) p')

      -- After the line, whatever it left, the machine's verdict is the judgement.
      step : (m : Made) → Kept q w m.memory → (o : Option Progress) → JudgesLine c (suc q) (e + 1) m o → Later
          → Goes c (q + suc (length ls)) w
          (cond (eqb m.registers.stage broken_stage) (judged m.memory (Some (q + 1))) (run n m.memory m.registers (q + 1) (e + 1)))
          (elim o as (λ z. Judgement) [ none ↦ invalid (suc q) | some p' ↦ judgeLines (sheet_of c) (map small_line ls) (small_line rest) (suc (suc q)) p' ])
      step m kept none h ih =
          subst (λ (z : Judged). Goes c (q + suc (length ls)) w z (invalid (suc q)))
          (sym (ap (λ (z : ℕ). cond (eqb z 4) (judged m.memory (Some (q + 1))) (run n m.memory m.registers (q + 1) (e + 1))) h))
          (record {
            verdict = ap (λ (z : ℕ). judgement_of (Some z)) (add-one q);
            same_length = kept.size;
            same_rest =
                same_further (numbers_per_unit * suc q) (numbers_per_unit * (q + suc (length ls))) w m.memory (omega arith) kept.after;
          })
      step m kept (some p') h ih =
          let u = kept.size in
          let v : suc q + length ls ≡ q + suc (length ls) = omega arith in
          let z = ih m.memory m.registers p' (omega arith) h.1 in
          subst (λ (k : Judged). Goes c (q + suc (length ls)) w k (judgeLines (sheet_of c) (map small_line ls) (small_line rest) (suc (suc q)) p'))
          (sym (ap (λ (k : Bool). cond k (judged m.memory (Some (q + 1))) (run n m.memory m.registers (q + 1) (e + 1)))
          (ne_eqb m.registers.stage broken_stage h.0)
          ∙ ap (λ (k : ℕ). run n m.memory m.registers k (e + 1)) (add-one q)))
          (record {
            verdict = z.verdict;
            same_length = z.same_length ∙ kept.size;
            same_rest =
                subst (λ (k : ℕ). drop (numbers_per_unit * k) (run n m.memory m.registers (suc q) (e + 1)).memory ≡ drop
                (numbers_per_unit * k) m.memory) v z.same_rest
                ∙ same_further (numbers_per_unit * suc q) (numbers_per_unit * (q + suc (length ls))) w m.memory (omega arith) kept.after;
          })

-- Before the first line the state is the opening stage with no symbol seen.
opened : (c : Setting) (w : List ℕ) → State c 0 0 w start (record { stage = opening; seen = unseen })
unfolding Holds start show_symbols starts_in
opened c w = record { holds = refl; made_count = refl; leftover_count = refl; seen = refl; inside = omega arith }

-- A text has at least one byte for each line.
unlines_length : (ls : List (List ℕ)) → length ls ≤ length (unlines ls)
unfolding unlines
unlines_length [] = omega arith
unlines_length (l ∷ ls) = let h = unlines_length ls in let k = length-append l (lf ∷ unlines ls) in omega arith

-- The theorem.
pub simulates : Simulates
unfolding judge judge_exactly judge_text line_feeds sheet_of
simulates bytes s h t symbols nodes clauses goal made stand decoded x w room =
    let split = lines_of_split x in
    let a = unlines_length l.whole in
    let b = ap length split.joined in
    let d = length-append (unlines l.whole) l.rest in
    let z : 0 + length l.whole ≡ length l.whole = omega arith in
    let g = lines_judged c filled l.whole l.rest (length x + 1) 0 0 w start p (omega arith) (sym split.joined) split.whole
    split.rest (omega arith) first in
    record {
      verdict = g.verdict ∙ ap₂ (λ (y : Sheet) (o : SplitLines). judgeLines y o.whole o.rest 1 p) small (sym (lines_small x));
      same_length = g.same_length;
      same_rest =
          subst (λ (k : ℕ). drop (numbers_per_unit * k) (judge_text bytes t symbols clauses goal x w).memory ≡ drop (numbers_per_unit * k) w)
          z g.same_rest;
    }
  where
    c : Setting
    c = record { bytes = bytes; table = t; symbols = symbols; nodes = nodes; clauses = clauses; goal = goal; text = x }

    l : SplitLines
    l = lines_of x

    p : Progress
    p = record { stage = opening; seen = unseen }

    -- The sheet of this setting has folded names.
    small : decode_sheet (folded_name bytes) t symbols clauses goal ≡ small_sheet s
    small = decode_small bytes t symbols clauses goal ∙ ap small_sheet decoded

    filled : Filled c
    filled = record { well_made = made; good = subst Good (sym small) (good_small s (good bytes s h)); names = stand }

    first : State c 0 0 w start p
    first = opened c w
