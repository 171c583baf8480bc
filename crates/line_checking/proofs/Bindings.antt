-- The R line and B lines.
use Prim.Native.Nat.{ℕ, zero, suc, ◌+◌, ◌-◌, ◌<◌, ◌≤◌}
use native.Mathlib.Omega.{arith}
use native.Mathlib.Numerals.{add-one}
use mathlib.Core.Path.{◌≡◌, refl, sym, ap, ◌∙◌, subst}
use mathlib.Core.Bool.{Bool, true, false, ◌&&◌, cond, true≢false}
use mathlib.Core.List.{List, [], ◌∷◌, ◌++◌, append-nil, append_cancel_left}
use mathlib.Core.Option.{none, some}
use lib.Dec.{eqb, leb, ltb}
use lib.ListN.{length, get_or, drop, length-append}
use mathlib.Core.Logic.{◌⊎◌, inl, inr}
use borrow.Author.Tests.{le-leb, lt-leb, eqb-true, eqb-false, eq-eqb, ne_eqb, ltb-true, lt-ltb}
use Rattle.formulas.specs.Formulas.{variable_names, Goal, free_g, free_from, free_variables}
use Rattle.formulas.proofs.Free.{and_parts}
use Rattle.terms.specs.Lists.{update}
use Rattle.sequents.specs.Symbols.{Symbol, Ground, level}
use Rattle.sequents.specs.Sequents.{Environment}
use Rattle.sequents.specs.Derivations.{sheet_program, instance_of}
use Rattle.node_table.specs.Layout.{mask_of}
use Rattle.node_table.specs.Decoding.{goal_at, decode_sheet}
use Rattle.sheet_format.specs.Limits.{max_number, max_budget}
use Rattle.sheet_format.specs.Bytes.{ascii, decimal, lf, is_digit, is_letter, is_small, is_capital, folded_name}
use Rattle.answer_texts.specs.TextLines.{TextLine, result_line, binding_line, derivation_line}
use Rattle.sheet_format.specs.Nodes.{Declaration}
use Rattle.sheet_format.proofs.Names.{Names}
use Rattle.answer_texts.specs.Spelling.{spell_term}
use Rattle.answer_texts.specs.Spelled.{WritableTerm, Writable, Stage, opening, bindings, bound_stage, blank}
use Rattle.text_judging.specs.Judging.{allow}
use Rattle.text_judging.proofs.Reading.{line_bytes}
use Rattle.answer_texts.proofs.FirstShowings.{and_both}
use Rattle.scanning.specs.Ranges.{Number}
use Rattle.std.proofs.lemmas.Option.{some_pair_parts}
use Rattle.std.specs.Prelude.{Some, None}
use Rattle.scanning.specs.Scanning.{Scan}
use Rattle.scanning.specs.Ranges.{scan_number}
use Rattle.scanning.specs.Frames.{bind_frame}
use Rattle.scanning.proofs.Positions.{byte_is, drop_next, drop_past}
use Rattle.scanning.proofs.Ranges.{begins, read_decimal}
use Rattle.scanning.proofs.TermsInText.{SpelledAt, spelling_injective}
use Rattle.answer_texts.specs.Capitals.{small_from}
use Rattle.text_judging.proofs.SmallLines.{small_line}
use Rattle.scanning.proofs.Folding.{number_folded}
use Rattle.scanning.proofs.Records.{Room}
use Rattle.scanning.proofs.Frames.{frame_bind}
use Rattle.scanning.proofs.InstanceSpelling.{Frame, frame_fewer}
use Rattle.line_checking.specs.declared.Registers.{Registers}
use Rattle.line_checking.specs.Sequents.{Made, made, broken, with_binding, with_sequent, free_from as nextFree, bound_from, bound}
use Rattle.line_checking.specs.Sequents.{broken_stage}
use Rattle.line_checking.specs.Bindings.{begins_with, check_result_with, check_units, check_result, bind_with, bind_term, binds_variable}
use Rattle.line_checking.specs.Bindings.{bind_line}
use Rattle.line_checking.proofs.Lines.{bytes_result, bytes_binding, decimal_one, is_word, word_byte}
use Rattle.line_checking.proofs.Representation.{Setting, folds, declared, sheet_of, joined_all, Filled, names_of_lem, HypothesesAt}
use Rattle.line_checking.proofs.Representation.{SequentsAt, BindingAt}
use Rattle.line_checking.proofs.Representation.{Holds}
use Rattle.line_checking.proofs.Results.{Result, is_wrong, either_side, begins_with_lem, word_there, no_more, ReadsNumber}
use Rattle.line_checking.proofs.Results.{number_there}
use Rattle.line_checking.proofs.FoldedLines.{LineAt, is_exact, begins_exactly, part_there, word_folded, word_missing}
use Rattle.line_checking.proofs.Terms.{scan_at, TermCase, is_term, no_term, term_case}

-- registers after B lines

-- The stage after B lines is not the broken stage.
pub bound_stage_lem : (t : List ℕ) (goal : ℕ) (r : Registers) (v f : ℕ) → (bound t goal r v f).stage ≡ broken_stage → ⊥
unfolding bound bound_from with_binding with_sequent
bound_stage_lem t goal r v f =
    either_side (λ (s : Registers). s.stage ≡ broken_stage → ⊥) (ltb (nextFree (8 - v) (mask_of t goal) v) 8) _ _ (λ h e. omega arith)
    (λ h e. omega arith)

-- The count of made constants stays after B lines.
pub bound_made : (t : List ℕ) (goal : ℕ) (r : Registers) (v f : ℕ) → (bound t goal r v f).made ≡ r.made
unfolding bound bound_from with_binding with_sequent
bound_made t goal r v f =
    either_side (λ (s : Registers). s.made ≡ r.made) (ltb (nextFree (8 - v) (mask_of t goal) v) 8) _ _ (λ h. refl) (λ h. refl)

-- The count of leftover variables stays after B lines.
pub bound_leftover : (t : List ℕ) (goal : ℕ) (r : Registers) (v f : ℕ) → (bound t goal r v f).leftover ≡ r.leftover
unfolding bound bound_from with_binding with_sequent
bound_leftover t goal r v f =
    either_side (λ (s : Registers). s.leftover ≡ r.leftover) (ltb (nextFree (8 - v) (mask_of t goal) v) 8) _ _ (λ h. refl) (λ h. refl)

module _ (c : Setting) (filled : Filled c) where
  -- This is the goal of the sheet.
  abbrev G : Goal
  G = goal_at c.table c.goal

  -- Names of the goal's free variables below v.
  abbrev Before : ℕ → ℕ → Bool
  Before v u = free_g G u && ltb u v

  -- The goal is due where all its free variables have their terms.
  goal_due_lem : (k : ℕ) (w : List ℕ) (r : Registers) (f : ℕ) (e : Environment Symbol) → f < k → Frame (declared c) (folds c) w f e (Before 8)
      → Holds c k w (with_sequent r c.goal f 0 0 0) (bound_stage (sheet_of c) [] e)
  unfolding Holds bound_stage with_sequent SequentsAt HypothesesAt sheet_of decode_sheet instance_of sheet_program joined_all
  goal_due_lem k w r f e l h = (
    refl,
    record {
      node = filled.well_made.goal_there;
      is = filled.well_made.goal_is;
      goal = refl;
      formed = filled.good.goal_formed;
      older = l;
      frame = λ v m g. h v m (and_both (free_g G v) (ltb v 8) g (lt-ltb v 8 m));
      program = record { hypotheses = []; environment = e; is = refl; at = refl };
      level = refl;
    },
    refl,
  )

  -- Of n variables from v on, B lines are due for those that stand free in the goal.
  bound_from_lem : (n v : ℕ) (k : ℕ) (w : List ℕ) (r : Registers) (f : ℕ) (e : Environment Symbol) → v + n ≡ 8 → f < k
      → Frame (declared c) (folds c) w f e (Before v)
      → Holds c k w (bound_from c.goal r (nextFree n (mask_of c.table c.goal) v) f) (bound_stage (sheet_of c) (free_from n v G) e)
  unfolding bound_from nextFree free_from bound_stage Holds with_binding
  bound_from_lem zero v k w r f e s l h =
      let q : v ≡ 8 = omega arith in
      rw q (goal_due_lem k w r f e l (subst (λ (z : ℕ). Frame (declared c) (folds c) w f e (Before z)) q h))
  bound_from_lem (suc n) v k w r f e s l h =
      let m = (filled.well_made.goal_node c.goal filled.well_made.goal_there filled.well_made.goal_is).free v (omega arith) in
      rw m (go (free_g G v) refl (bound_from_lem n (suc v) k w r f e (omega arith) l))
    where
      R : ℕ → Stage → Type 0
      R u a = Holds c k w (bound_from c.goal r u f) a

      go : (z : Bool) → free_g G v ≡ z
          → (Frame (declared c) (folds c) w f e (Before (suc v))
          → R (nextFree n (mask_of c.table c.goal) (suc v)) (bound_stage (sheet_of c) (free_from n (suc v) G) e))
          → R (cond z v (nextFree n (mask_of c.table c.goal) (v + 1)))
          (bound_stage (sheet_of c) (elim z as (λ b. List ℕ) [ true ↦ v ∷ free_from n (suc v) G | false ↦ free_from n (suc v) G ]) e)
      go true p ih =
          rw (lt-ltb v 8 (omega arith)) (record {
            stage = refl;
            variable = refl;
            small = omega arith;
            later = λ j q. ap (λ (i : ℕ). free_from i (suc v) G) (let y : n ≡ j = omega arith in y);
            older = l;
            frame = h;
          })
      go false p ih =
          rw (add-one v) (ih (frame_fewer (declared c) (folds c) w f e (Before v) (Before (suc v)) fewer h))
        where
          fewer : (u : ℕ) → Before (suc v) u ≡ true → Before v u ≡ true
          fewer u g =
              let a = and_parts (free_g G u) (ltb u (suc v)) g in
              and_both (free_g G u) (ltb u v) a.0 (lt-ltb u v (smaller (eqb u v) refl (ltb-true u (suc v) a.1) a.0))
            where
              smaller : (z : Bool) → eqb u v ≡ z → u < suc v → free_g G u ≡ true → u < v
              smaller true y i j = absurd (true≢false (sym j ∙ ap (free_g G) (eqb-true u v y) ∙ p))
              smaller false y i j = let d = eqb-false u v y in omega arith

  -- The stage after B lines for the variables below v.
  pub bound_holds : (n v : ℕ) (k : ℕ) (w : List ℕ) (r : Registers) (f : ℕ) (e : Environment Symbol) → v + n ≡ 8 → f < k
      → Frame (declared c) (folds c) w f e (Before v)
      → Holds c k w (bound c.table c.goal r v f) (bound_stage (sheet_of c) (free_from n v G) e)
  unfolding bound
  bound_holds n v k w r f e s l h =
      let q : 8 - v ≡ n = omega arith in
      rw q (bound_from_lem n v k w r f e s l h)

  -- the R line

  -- At the opening stage only an R line can be right.
  only_result : (l : List ℕ) → ((n : ℕ) → l ≡ ascii "R\tproved\t" ++ decimal n → n ≤ max_number
      → allow (sheet_of c) (result_line n) opening ≡ none)
      → (line : TextLine) → l ≡ line_bytes (declared c) line → Writable (declared c) line → allow (sheet_of c) line opening ≡ none
  unfolding allow Writable
  only_result l h (result_line n) e w = h n (e ∙ bytes_result (declared c) n) w
  only_result l h (binding_line v t) e w = refl
  only_result l h (derivation_line d) e w = refl

  -- `result_line` finds whether the first line is right or wrong.
  pub open_result : (q : ℕ) (w l rest : List ℕ) (i e : ℕ) (r : Registers) → LineAt c.text i l rest → e ≡ i + length l
      → Result c q l opening r (check_result c.table c.goal c.text w r i e)
  unfolding check_result check_units check_result_with allow ascii is_word word_byte is_exact small_from is_letter is_small is_capital is_digit Holds bound_stage bound bound_from with_binding
      with_sequent free_variables Writable sheet_of decode_sheet
  open_result q w l rest i e r d k =
      either_side R (begins_with word c.text i) (check_units c.table c.goal c.text (i + 9) w r e) (broken w r)
      (λ b. let s = word_folded c.text i l rest d word refl (λ m. refl) b in units s.0 s.1 s.2)
      (λ b. is_wrong c q l opening w r r (only_result l (λ n p u. absurd (word_missing c.text i l rest d word (decimal n) refl refl b p))))
    where
      word : List ℕ
      word = ascii "R\tproved\t"

      R : Made → Type 0
      R = Result c q l opening r

      -- An R line with the number n is read as that number up to its end.
      reading : (n : ℕ) → l ≡ word ++ decimal n → n ≤ max_number → scan_number c.text (i + 9) ≡ Some (n, e)
      reading n p u =
          let y : drop (i + 9) (folds c) ≡ decimal n ++ (lf ∷ rest) =
          part_there c.text i l rest d word (decimal n) refl (λ m. refl) p in
          let z : i + 9 + length (decimal n) ≡ e = (let a = ap length p ∙ length-append word (decimal n) in omega arith) in
          sym (number_folded c.text (i + 9)) ∙ read_decimal (folds c) (i + 9) n (lf ∷ rest) y u refl ∙ ap (λ (j : ℕ). Some (n, j)) z

      -- A line whose number does not end with the line, or is out of range, is wrong.
      wrong : (n j : ℕ) → scan_number c.text (i + 9) ≡ Some (n, j) → (eqb j e ≡ false) ⊎ ((leb 1 n && leb n max_budget) ≡ false)
          → R (broken w r)
      wrong n j h f = is_wrong c q l opening w r r (only_result l (λ k p u. unfit k (sym h ∙ reading k p u) f))
        where
          unfit : (k : ℕ) → ◌≡◌ {A = Number} (Some (n, j)) (Some (k, e)) → (eqb j e ≡ false) ⊎ ((leb 1 n && leb n max_budget) ≡ false)
              → allow (sheet_of c) (result_line k) opening ≡ none
          unfit k y (inl z) = absurd (eqb-false j e z (some_pair_parts n k j e y).1)
          unfit k y (inr z) =
              ap (λ (b : Bool). cond b (some (bound_stage (sheet_of c) (free_variables (sheet_of c).goal) blank)) none)
              (ap (λ (o : ℕ). leb 1 o && leb o max_budget) (sym (some_pair_parts n k j e y).0) ∙ z)

      right : (m : List ℕ) (n : ℕ) → l ≡ word ++ m → m ≡ decimal n → n ≤ max_number → leb 1 n ≡ true → leb n max_budget ≡ true
          → R (made w (bound c.table c.goal r 0 0))
      right m n p o u a b = inl (record {
        line = result_line n;
        spelled = p ∙ ap (word ++◌) o ∙ sym (bytes_result (declared c) n);
        writable = u;
        after = bound_stage (sheet_of c) (free_variables (sheet_of c).goal) blank;
        allowed =
            ap (λ (z : Bool). cond z (some (bound_stage (sheet_of c) (free_variables (sheet_of c).goal) blank)) none)
            (and_both (leb 1 n) (leb n max_budget) a b);
        holds = bound_holds 8 0 (suc q) w r 0 blank (omega arith) (omega arith) (λ v y g. absurd (nobody v g));
        goes_on = bound_stage_lem c.table c.goal r 0 0;
        same_made_lem = bound_made c.table c.goal r 0 0;
        same_leftover_lem = bound_leftover c.table c.goal r 0 0;
      })
        where
          nobody : (v : ℕ) → Before 0 v ≡ true → ⊥
          nobody v g = let y = ltb-true v 0 (and_parts (free_g G v) (ltb v 0) g).1 in omega arith

      -- The number is all that is left of the line.
      whole : (m : List ℕ) (n j : ℕ) → ReadsNumber (folds c) (i + 9) m rest n j → l ≡ word ++ m → j ≡ e → m ≡ decimal n
      whole m n j s p f =
          let a = s.end in
          let b = ap length p ∙ length-append word m in
          let o = ap length s.spelled in
          s.spelled ∙ ap (decimal n ++◌) (no_more (decimal n) s.more (i + 9) e (omega arith) (omega arith)) ∙ append-nil (decimal n)

      units : (m : List ℕ) → l ≡ word ++ m → drop (i + 9) (folds c) ≡ m ++ (lf ∷ rest)
          → R (check_units c.table c.goal c.text (i + 9) w r e)
      units m p y = go (scan_number c.text (i + 9)) refl
        where
          go : (o : Number) → scan_number c.text (i + 9) ≡ o
              → R (elim o as (λ z. Made) [ Some (n, j) ↦ check_result_with c.table c.goal w r n j e | None ↦ broken w r ])
          go None h =
              is_wrong c q l opening w r r
              (only_result l (λ n o u. absurd (let z : None ≡ Some (n, e) = sym h
              ∙ reading n o u in let v : ◌≡◌ {A = ℕ} 0 1 = cc in omega arith)))
          go (Some (n, j)) h =
              let s = number_there (folds c) (i + 9) m rest n j y (number_folded c.text (i + 9) ∙ h) in
              either_side R (eqb j e) _ (broken w r)
              (λ a. either_side R (leb 1 n) _ (broken w r)
              (λ b. either_side R (leb n max_budget) _ (broken w r)
              (λ f. right m n p (whole m n j s p (eqb-true j e a)) s.small b f)
              (λ f. wrong n j h (inr (rw (b, f)))))
              (λ b. wrong n j h (inr (rw b))))
              (λ a. wrong n j h (inl a))

-- a B line's beginning

-- If `binds_variable` is true, the line begins with `B`, the variable and tabs.
pub binds_there : (x : List ℕ) (i v : ℕ) (l r : List ℕ) → drop i x ≡ l ++ (lf ∷ r) → binds_variable x i v ≡ true
    → (m : List ℕ) × (l ≡ ascii "B\t" ++ ((48 + v) ∷ 9 ∷ m)) × (drop (i + 4) x ≡ m ++ (lf ∷ r))
unfolding binds_variable ascii is_word word_byte is_exact small_from is_letter is_small is_capital
binds_there x i v l r d h = go (begins_with (ascii "B\t") x i) refl h
  where
    R : Type 0
    R = (m : List ℕ) × (l ≡ ascii "B\t" ++ ((48 + v) ∷ 9 ∷ m)) × (drop (i + 4) x ≡ m ++ (lf ∷ r))

    tab : (m : List ℕ) → l ≡ ascii "B\t" ++ ((48 + v) ∷ m) → drop (i + 3) x ≡ m ++ (lf ∷ r) → eqb (get_or x (i + 3) 0) 9 ≡ true → R
    tab [] p y q = absurd (true≢false (sym q ∙ ap (λ (z : ℕ). eqb z 9) (byte_is x (i + 3) lf r y)))
    tab (a ∷ m) p y q =
        let z : a ≡ 9 = sym (byte_is x (i + 3) a (m ++ (lf ∷ r)) y) ∙ eqb-true (get_or x (i + 3) 0) 9 q in
        let j : i + 3 + 1 ≡ i + 4 = omega arith in (
          m,
          p ∙ ap (λ (u : ℕ). ascii "B\t" ++ ((48 + v) ∷ u ∷ m)) z,
          ap (λ (u : ℕ). drop u x) (sym j)
              ∙ drop_next x (i + 3) a (m ++ (lf ∷ r)) y,
        )

    digit : (m : List ℕ) → l ≡ ascii "B\t" ++ m → drop (i + 2) x ≡ m ++ (lf ∷ r)
        → cond (eqb (get_or x (i + 2) 0) (48 + v)) (eqb (get_or x (i + 3) 0) 9) false ≡ true → R
    digit [] p y q =
        absurd (true≢false (sym q ∙ ap (λ (z : ℕ). cond (eqb z (48 + v)) (eqb (get_or x (i + 3) 0) 9) false) (byte_is x (i + 2) lf r y)
        ∙ rw (ne_eqb lf (48 + v) (λ z. omega arith))))
    digit (a ∷ m) p y q = test (eqb (get_or x (i + 2) 0) (48 + v)) refl q
      where
        test : (b : Bool) → eqb (get_or x (i + 2) 0) (48 + v) ≡ b → cond b (eqb (get_or x (i + 3) 0) 9) false ≡ true → R
        test false u z = absurd (true≢false (sym z))
        test true u z =
            let n : a ≡ 48 + v = sym (byte_is x (i + 2) a (m ++ (lf ∷ r)) y) ∙ eqb-true (get_or x (i + 2) 0) (48 + v) u in
            let j : i + 2 + 1 ≡ i + 3 = omega arith in
            tab m (p ∙ ap (λ (k : ℕ). ascii "B\t" ++ (k ∷ m)) n) (ap (λ (k : ℕ). drop k x) (sym j)
            ∙ drop_next x (i + 2) a (m ++ (lf ∷ r)) y) z

    go : (b : Bool) → begins_with (ascii "B\t") x i ≡ b
        → cond b (cond (eqb (get_or x (i + 2) 0) (48 + v)) (eqb (get_or x (i + 3) 0) 9) false) false ≡ true → R
    go false p q = absurd (true≢false (sym q))
    go true p q = let s = word_there (ascii "B\t") x i l r refl d p in digit s.0 s.1 s.2 q

-- If `binds_variable` is false, the line does not begin with `B`, the variable and tabs.
pub binds_absent : (x : List ℕ) (i v : ℕ) (l r m : List ℕ) → drop i x ≡ l ++ (lf ∷ r) → binds_variable x i v ≡ false
    → l ≡ ascii "B\t" ++ ((48 + v) ∷ 9 ∷ m) → ⊥
unfolding binds_variable ascii is_word word_byte is_exact small_from is_letter is_small is_capital begins
binds_absent x i v l r m d h p =
    let a : drop i x ≡ 66 ∷ 9 ∷ (48 + v) ∷ 9 ∷ (m ++ (lf ∷ r)) = d ∙ ap (◌++ (lf ∷ r)) p in
    let b : drop (i + 2) x ≡ (48 + v) ∷ 9 ∷ (m ++ (lf ∷ r)) = drop_past x i (ascii "B\t") ((48 + v) ∷ 9 ∷ (m ++ (lf ∷ r))) a in
    let j : i + 2 + 1 ≡ i + 3 = omega arith in
    let e : drop (i + 3) x ≡ 9 ∷ (m ++ (lf ∷ r)) = ap (λ (k : ℕ). drop k x) (sym j)
    ∙ drop_next x (i + 2) (48 + v) (9 ∷ (m ++ (lf ∷ r))) b in
    let f : begins_with (ascii "B\t") x i ≡ true = begins_with_lem (ascii "B\t") x i refl ∙ ap (begins (ascii "B\t")) a in
    true≢false
    (sym (rw (
      f,
      byte_is x (i + 2) (48 + v) (9 ∷ (m ++ (lf ∷ r))) b,
      eq-eqb (48 + v) (48 + v) refl,
      byte_is x (i + 3) 9 (m ++ (lf ∷ r)) e,
    )) ∙ h)

-- The beginning of a B line stays, and what stands after it is folded.
binds_small : (v : ℕ) → v < variable_names → (m : List ℕ) → small_line (66 ∷ 9 ∷ (48 + v) ∷ 9 ∷ m) ≡ 66 ∷ 9 ∷ (48 + v) ∷ 9 ∷ small_from 2 m
unfolding small_from
binds_small v h m = rw (ne_eqb (48 + v) 10 (λ e. omega arith), ne_eqb (48 + v) 9 (λ e. omega arith))

-- The beginning of a B line has no letters after its first tab.
binds_exact : (v : ℕ) → v < variable_names → is_exact 0 (66 ∷ 9 ∷ (48 + v) ∷ 9 ∷ []) ≡ true
unfolding is_exact
binds_exact v h = rw (ne_eqb (48 + v) 9 (λ e. omega arith))

-- So the same of a line with its names folded.
binds_folded : (x : List ℕ) (i v : ℕ) (l r : List ℕ) → LineAt x i l r → v < variable_names → binds_variable x i v ≡ true
    → (m : List ℕ) × (l ≡ ascii "B\t" ++ ((48 + v) ∷ 9 ∷ m)) × (drop (i + 4) (folded_name x) ≡ m ++ (lf ∷ r))
unfolding ascii
binds_folded x i v l r here h b =
    let s = binds_there x i v here.raw here.after here.stands b in
    let p : l ≡ 66 ∷ 9 ∷ (48 + v) ∷ 9 ∷ small_from 2 s.0 = here.line_is ∙ ap small_line s.1 ∙ binds_small v h s.0 in
    (small_from 2 s.0, p, part_there x i l r here (66 ∷ 9 ∷ (48 + v) ∷ 9 ∷ []) (small_from 2 s.0) (binds_exact v h) (binds_small v h) p)

binds_missing : (x : List ℕ) (i v : ℕ) (l r m : List ℕ) → LineAt x i l r → v < variable_names → binds_variable x i v ≡ false
    → l ≡ ascii "B\t" ++ ((48 + v) ∷ 9 ∷ m) → ⊥
unfolding ascii
binds_missing x i v l r m here h b p =
    let s = begins_exactly 0 (66 ∷ 9 ∷ (48 + v) ∷ 9 ∷ []) here.raw m here.whole (binds_exact v h) (sym here.line_is ∙ p) in
    binds_absent x i v here.raw here.after s.0 here.stands b s.1

module _ (c : Setting) (filled : Filled c) (q : ℕ) (w : List ℕ) (room : Room q w) (r : Registers) (v : ℕ) (vs : List ℕ)
    (f : Environment Symbol) (at : BindingAt c q w r v vs f)
    (l rest : List ℕ) (i e : ℕ) (here : LineAt c.text i l rest) (end : e ≡ i + length l) where
  -- The declared symbols are those of the table.
  abbrev ds : List Declaration
  ds = declared c

  -- This is the stage with B lines due for v and vs.
  abbrev a : Stage
  a = bindings (v ∷ vs) f

  -- The declared symbols have proper names.
  names : Names ds
  names = names_of_lem c filled

  -- Only a B line for the variable that is due can be right.
  only_binding : ((t : Ground) → l ≡ ascii "B\t" ++ ((48 + v) ∷ 9 ∷ spell_term t ds) → WritableTerm t ds
      → allow (sheet_of c) (binding_line v t) a ≡ none)
      → (line : TextLine) → l ≡ line_bytes ds line → Writable ds line → allow (sheet_of c) line a ≡ none
  unfolding allow Writable
  only_binding h (result_line n) p y = refl
  only_binding h (derivation_line d) p y = refl
  only_binding h (binding_line u t) p y = go (eqb u v) refl
    where
      go : (b : Bool) → eqb u v ≡ b → cond (b && leb (level t) 0) (some (bound_stage (sheet_of c) vs (update f v t))) none ≡ none
      go false z = refl
      go true z =
          let k = eqb-true u v z in
          sym (ap (λ (b : Bool). cond (b && leb (level t) 0) (some (bound_stage (sheet_of c) vs (update f v t))) none) (eq-eqb v v refl))
          ∙ h t (p ∙ bytes_binding ds u t ∙ ap (λ (s : List ℕ). ascii "B\t" ++ (s ++ (9 ∷ spell_term t ds))) (ap decimal k
          ∙ decimal_one v at.small)) y.1

  -- A line whose term has level 0 is right.
  fits : (t : Ground) (m : List ℕ) → l ≡ ascii "B\t" ++ ((48 + v) ∷ 9 ∷ m) → m ≡ spell_term t ds → SpelledAt ds (folds c) (i + 4) e t
      → level t ≡ 0
      → Result c q l a r (made (bind_frame w q r.frame r.node (i + 4) e) (bound c.table c.goal r (r.node + 1) q))
  unfolding allow Writable
  fits t m p y s k =
      subst (λ (u : ℕ). Result c q l a r (made (bind_frame w q r.frame u (i + 4) e) (bound c.table c.goal r (u + 1) q)))
      (sym at.variable)
      (rw (add-one v) (inl (record {
        line = binding_line v t;
        spelled = p ∙ ap (λ (u : List ℕ). ascii "B\t" ++ ((48 + v) ∷ 9 ∷ u)) y
            ∙ ap (λ (u : List ℕ). ascii "B\t" ++ (u ++ (9 ∷ spell_term t ds))) (sym (decimal_one v at.small))
            ∙ sym (bytes_binding ds v t);
        writable = (let u = at.small in omega arith, s.writable);
        after = bound_stage (sheet_of c) vs (update f v t);
        allowed =
            ap (λ (b : Bool). cond b (some (bound_stage (sheet_of c) vs (update f v t))) none)
            (and_both (eqb v v) (leb (level t) 0) (eq-eqb v v refl) (le-leb (level t) 0 (omega arith)));
        holds =
            subst (λ (us : List ℕ). Holds c (suc q) w' (bound c.table c.goal r (suc v) q) (bound_stage (sheet_of c) us (update f v t)))
            (sym (at.later (7 - v) (let u = at.small in omega arith)))
            (bound_holds c filled (7 - v) (suc v) (suc q) w' r q (update f v t) (let u = at.small in omega arith) (omega arith)
            (frame_bind ds (folds c) q r.frame v (i + 4) e t w f (Before c filled v) (Before c filled (suc v)) room
            (λ u. let o = at.older in omega arith) at.small s fewer at.frame));
        goes_on = bound_stage_lem c.table c.goal r (suc v) q;
        same_made_lem = bound_made c.table c.goal r (suc v) q;
        same_leftover_lem = bound_leftover c.table c.goal r (suc v) q;
      })))
    where
      w' : List ℕ
      w' = bind_frame w q r.frame v (i + 4) e

      fewer : (z : ℕ) → (z ≡ v → ⊥) → Before c filled (suc v) z ≡ true → Before c filled v z ≡ true
      fewer z d g =
          let b = and_parts (free_g (G c filled) z) (ltb z (suc v)) g in
          let u = ltb-true z (suc v) b.1 in
          and_both (free_g (G c filled) z) (ltb z v) b.0 (lt-ltb z v (let o : (z ≡ v → ⊥) = d in omega arith))

  -- `bind_term` finds whether the line is right or wrong by its term m, the rest of the line.
  bind_term_lem : (m : List ℕ) → l ≡ ascii "B\t" ++ ((48 + v) ∷ 9 ∷ m) → drop (i + 4) (folds c) ≡ m ++ (lf ∷ rest)
      → Result c q l a r (bind_term c.bytes c.table c.symbols c.goal c.text w r q (i + 4) e)
  unfolding bind_term bind_with allow ascii
  bind_term_lem m p y = go (term_case c filled (i + 4) e m rest y (let z = ap length p in let o = end in omega arith))
    where
      R : Made → Type 0
      R = Result c q l a r

      rests : (t : Ground) → l ≡ ascii "B\t" ++ ((48 + v) ∷ 9 ∷ spell_term t ds) → m ≡ spell_term t ds
      rests t o = append_cancel_left (ascii "B\t" ++ ((48 + v) ∷ 9 ∷ [])) m (spell_term t ds) (sym p ∙ o)

      scan : (z : Scan) → ((j k : ℕ) → z ≡ Some (j, k) → eqb j e ≡ false) → R (broken w r)
          → R (elim z as (λ b. Made) [ Some (j, k) ↦ bind_with c.table c.goal w r q (i + 4) j k e | None ↦ broken w r ])
      scan None h b = b
      scan (Some (j, k)) h b = rw (h j k refl) b

      go : TermCase c (i + 4) e m → R (bind_term c.bytes c.table c.symbols c.goal c.text w r q (i + 4) e)
      go (no_term n h) = scan (scan_at c (i + 4)) h (is_wrong c q l a w r r (only_binding (λ t o u. absurd (n t (rests t o) u))))
      go (is_term t o h s) =
          rw (bind_term, h) (rw (eq-eqb e e refl)
          (either_side R (eqb (level t) 0) _ (broken w r) (λ b. fits t m p o s (eqb-true (level t) 0 b))
          (λ b. is_wrong c q l a w r r
          (only_binding (λ u k x. too_high u (spelling_injective t u ds names s.writable x (sym o ∙ rests u k)) b)))))
        where
          too_high : (u : Ground) → t ≡ u → eqb (level t) 0 ≡ false → allow (sheet_of c) (binding_line v u) a ≡ none
          too_high u k b =
              let n = eqb-false (level t) 0 b in
              let z = lt-leb (level t) 0 (omega arith) in
              rw (← k, z) (none_and (eqb v v))
            where
              none_and : (b : Bool) → cond (b && false) (some (bound_stage (sheet_of c) vs (update f v t))) none ≡ none
              none_and true = refl
              none_and false = refl

  -- `bind_line` finds whether the line is right or wrong.
  pub bind_result : Result c q l a r (bind_line c.bytes c.table c.symbols c.goal c.text w r q i e)
  unfolding bind_line
  bind_result =
      either_side (Result c q l a r) (binds_variable c.text i r.node)
      (bind_term c.bytes c.table c.symbols c.goal c.text w r q (i + 4) e) (broken w r)
      (λ b. let s = binds_folded c.text i v l rest here at.small (ap (binds_variable c.text i) (sym at.variable) ∙ b) in
      bind_term_lem s.0 s.1 s.2)
      (λ b. is_wrong c q l a w r r
      (only_binding
      (λ t p y. absurd (binds_missing c.text i v l rest (spell_term t ds) here at.small (ap (binds_variable c.text i) (sym at.variable)
      ∙ b) p))))
