-- One law for each way through a turn of the loop or through a call; the hypotheses are the facts on the code's path.
use Prim.Native.Nat.{ℕ, zero, suc, ◌+◌, ◌-◌, ◌≤◌, ◌<◌}
use native.Mathlib.Omega.{arith}
use mathlib.Core.Path.{◌≡◌, refl, sym, ap, ◌∙◌, subst}
use mathlib.Core.Bool.{Bool, true, false, cond}
use mathlib.Core.List.{List}
use lib.Dec.{eqb, ltb}
use lib.ListN.{length, get_or, replicate, length-replicate, get_or-replicate, get_or-eq_default}
use borrow.Author.Tests.{eqb-true, ltb-true, ltb-false, lt-ltb, le-ltb, eq-eqb, ne_eqb}
use Rattle.scanning.specs.Numbering.{SymbolCounts}
use Rattle.std.specs.Prelude.{Option, Some, None}
use Rattle.scanning.specs.Ranges.{find_byte, text_line_end}
use Rattle.scanning.specs.Numbering.{is_symbol, check_numbering}
use Rattle.numbering_check.specs.LevelCache.{CacheValid, ValidAfter}
use Rattle.numbering_check.proofs.LevelCache.{none_valid, start_valid}
use Rattle.line_checking.specs.declared.Registers.{Registers}
use Rattle.line_checking.specs.Sequents.{Made, made, start, broken, with_stage, with_counts, broken_stage, done_stage, result_stage, binding_stage}
use Rattle.line_checking.specs.Sequents.{sequent_stage}
use Rattle.line_checking.specs.Bindings.{check_result, bind_line}
use Rattle.line_checking.specs.Judging.{sequent_line, stage_line, count_line, order_line, judge_line, Judged, judged, end_verdict, judge_from}
use Rattle.line_checking.specs.Judging.{judge_text}
use Rattle.scanning.proofs.Ranges.{byte_least}
use Rattle.line_checking.proofs.Counts.{stage_same}
use Rattle.text_checker.specs.Levels.{ValidUnlessBroken}

-- the stage

module _ (b t : List ℕ) (symbols clauses goal : ℕ) (x w : List ℕ) (r : Registers) (q i e : ℕ) (m : Made) where
  -- What is done at a stage.
  abbrev at_stage : ℕ → Made
  at_stage s =
      cond (eqb s result_stage) (check_result t goal x w r i e)
      (cond (eqb s binding_stage) (bind_line b t symbols goal x w r q i e)
      (cond (eqb s sequent_stage) (sequent_line b t symbols clauses x w r q i e) (broken w r)))

  pub open_due : r.stage ≡ result_stage → m ≡ check_result t goal x w r i e → m ≡ stage_line b t symbols clauses goal x w r q i e
  unfolding stage_line
  open_due h em = em ∙ sym (ap at_stage h)

  pub bind_due : r.stage ≡ binding_stage → m ≡ bind_line b t symbols goal x w r q i e → m ≡ stage_line b t symbols clauses goal x w r q i e
  unfolding stage_line
  bind_due h em = em ∙ sym (ap at_stage h)

  pub sequent_due : r.stage ≡ sequent_stage → m ≡ sequent_line b t symbols clauses x w r q i e
      → m ≡ stage_line b t symbols clauses goal x w r q i e
  unfolding stage_line
  sequent_due h em = em ∙ sym (ap at_stage h)

  pub none_due : (r.stage ≡ result_stage → ⊥) → (r.stage ≡ binding_stage → ⊥) → (r.stage ≡ sequent_stage → ⊥) → m ≡ broken w r
      → m ≡ stage_line b t symbols clauses goal x w r q i e
  unfolding stage_line
  none_due n₀ n₁ n₂ em = rw (ne_eqb _ _ n₀, ne_eqb _ _ n₁, ne_eqb _ _ n₂) em

-- the numbering

module _ (x w : List ℕ) (r : Registers) (i e : ℕ) where
  module _ (o : SymbolCounts) (eo : o ≡ check_numbering (e - i) x i r.made r.leftover) where
    pub counted : (m l : ℕ) (s : Registers) → o ≡ Some (m, l) → s ≡ with_counts r m l → made w s ≡ count_line x (made w r) i e
    unfolding count_line
    counted m l s h es = rw (es, count_line, ← eo, h)

    pub misnumbered : (a : Made) → o ≡ None → a ≡ broken w r → a ≡ count_line x (made w r) i e
    unfolding count_line
    misnumbered a h ea = rw (count_line, ← eo, h) ea

  -- What is kept stays right, unless the line is wrong.
  module _ (v : List ℕ) (s : Registers) where
    pub counted_valid : (o : SymbolCounts) (m l : ℕ) → ValidAfter x v e o → o ≡ Some (m, l) → s ≡ with_counts r m l → ValidUnlessBroken x v e s
    unfolding with_counts
    counted_valid o m l valid h es =
        λ b. subst (λ (z : Registers). CacheValid x v e z.made z.leftover) (sym es) (subst (ValidAfter x v e) h valid)

    pub broken_valid : made w s ≡ broken w r → ValidUnlessBroken x v e s
    unfolding broken with_stage
    broken_valid ea = λ b. absurd (b (ap (λ (z : Made). z.registers.stage) ea))

  pub order_broken : r.stage ≡ broken_stage → made w r ≡ order_line x (made w r) i e
  unfolding order_line
  order_broken h = rw (eq-eqb _ _ h)

  pub order_counted : (a : Made) → (r.stage ≡ broken_stage → ⊥) → a ≡ count_line x (made w r) i e → a ≡ order_line x (made w r) i e
  unfolding order_line
  order_counted a h ea = rw (ne_eqb _ _ h) ea

pub line_judged : (b t : List ℕ) (symbols clauses goal : ℕ) (x w w' : List ℕ) (r s : Registers) (q i e : ℕ) (m : Made)
    → made w' s ≡ stage_line b t symbols clauses goal x w r q i e → m ≡ order_line x (made w' s) i e
    → m ≡ judge_line b t symbols clauses goal x w r q i e
unfolding judge_line
line_judged b t symbols clauses goal x w w' r s q i e m es em = rw (em, es)

-- The rules of the stages leave what has shown as it is.
pub staged_valid : (b t : List ℕ) (symbols clauses goal : ℕ) (x w w' v : List ℕ) (r s : Registers) (q i e : ℕ)
    → made w' s ≡ stage_line b t symbols clauses goal x w r q i e → CacheValid x v i r.made r.leftover
    → CacheValid x v i s.made s.leftover
staged_valid b t symbols clauses goal x w w' v r s q i e es valid =
    let same = stage_same r b t symbols clauses goal x w q i e in
    let m : s.made ≡ r.made = ap (λ (z : Made). z.registers.made) es ∙ same.same_made_lem in
    let l : s.leftover ≡ r.leftover = ap (λ (z : Made). z.registers.leftover) es ∙ same.same_leftover_lem in
    rw (m, l) valid

-- the end

module _ (x : List ℕ) (r : Registers) (q i : ℕ) where
  pub end_valid : i ≡ length x → r.stage ≡ done_stage → None ≡ end_verdict x r q i
  unfolding end_verdict
  end_valid h k = rw (eq-eqb _ _ h, eq-eqb _ _ k)

  pub end_due : i ≡ length x → (r.stage ≡ done_stage → ⊥) → Some (q + 1) ≡ end_verdict x r q i
  unfolding end_verdict
  end_due h k = rw (eq-eqb _ _ h, ne_eqb _ _ k)

  pub end_bytes : (i ≡ length x → ⊥) → Some (q + 1) ≡ end_verdict x r q i
  unfolding end_verdict
  end_bytes h = rw (ne_eqb _ _ h)

-- the loop

-- A line does not end before it starts.
pub end_after : (x : List ℕ) (i e : ℕ) → e ≡ text_line_end x i → i ≤ e
unfolding text_line_end
end_after x i e h = omega (arith, h, byte_least (length x - i) x 10 i)

-- A line that ends before the text does ends at an LF.
byte_found : (n : ℕ) (x : List ℕ) (c i : ℕ) → find_byte n x c i < i + n → get_or x (find_byte n x c i) 0 ≡ c
unfolding find_byte
byte_found zero x c i h = absurd (omega arith)
byte_found (suc n) x c i h = go (eqb (get_or x i 0) c) refl (byte_found n x c (i + 1)) h
  where
    go : (z : Bool) → eqb (get_or x i 0) c ≡ z → (find_byte n x c (i + 1) < i + 1 + n → get_or x (find_byte n x c (i + 1)) 0 ≡ c)
        → cond z i (find_byte n x c (i + 1)) < i + suc n → get_or x (cond z i (find_byte n x c (i + 1))) 0 ≡ c
    go true e ih l = eqb-true (get_or x i 0) c e
    go false e ih l = ih (omega arith)

-- There no symbol begins.
pub next_valid : (x v : List ℕ) (i e m l : ℕ) → e ≡ text_line_end x i → i ≤ length x → e < length x → CacheValid x v e m l
    → CacheValid x v (e + 1) m l
unfolding text_line_end is_symbol
next_valid x v i e m l h k q valid = none_valid x v e m l valid (rw ended)
  where
    ended : get_or x e 0 ≡ 10
    ended = rw h (byte_found (length x - i) x 10 i (omega (arith, h)))

-- The verdict v of the whole text is that of the lines from line q on, with turns enough for the bytes left.
pub record Rest (v : Judged) (b t : List ℕ) (symbols clauses goal : ℕ) (x w : List ℕ) (r : Registers) (q i : ℕ) : Type 0 where
  pub turns : ℕ
  pub enough : length x < i + turns
  pub same : v ≡ judge_from turns b t symbols clauses goal x w r q i

pub text_start : (b t : List ℕ) (symbols clauses goal : ℕ) (x w : List ℕ) (r : Registers) → r ≡ start
    → Rest (judge_text b t symbols clauses goal x w) b t symbols clauses goal x w r 0 0
unfolding judge_text
text_start b t symbols clauses goal x w r h = record { turns = length x + 1; enough = omega arith; same = rw h }

-- Before the first line nothing is kept.
zero_entry : (n a : ℕ) → get_or {A = ℕ} (replicate n 0) a 0 ≡ 0
zero_entry n a = go (ltb a n) refl
  where
    zeros : List ℕ
    zeros = replicate n 0

    go : (b : Bool) → ltb a n ≡ b → get_or zeros a 0 ≡ 0
    go true e = get_or-replicate {A = ℕ} n a 0 0 (ltb-true a n e)
    go false e =
        let l = ltb-false a n e in
        let h : length zeros ≤ a = omega (arith, length-replicate {A = ℕ} n 0) in
        get_or-eq_default zeros 0 h

pub text_valid : (n : ℕ) (x : List ℕ) (r : Registers) → r ≡ start → CacheValid x (replicate n 0) 0 r.made r.leftover
unfolding start
text_valid n x r h = rw h (start_valid x (replicate n 0) (zero_entry n))

-- Turns are left while lines are.
module _ (v : Judged) (b t : List ℕ) (symbols clauses goal : ℕ) (x w : List ℕ) (r : Registers) (q i e : ℕ) (hi : i ≤ length x)
    (he : e ≡ text_line_end x i) where
  pub text_ends : (u : Option ℕ) → Rest v b t symbols clauses goal x w r q i → length x ≤ e → u ≡ end_verdict x r q i → v ≡ judged w u
  unfolding judge_from
  text_ends u a l eu = go a.turns a.enough a.same
    where
      go : (n : ℕ) → length x < i + n → v ≡ judge_from n b t symbols clauses goal x w r q i → v ≡ judged w u
      go zero h ev = absurd (omega arith)
      go (suc n) h ev = ev ∙ simp (judge_from, ← he, le-ltb _ _ l, ← eu)

  module _ (w' : List ℕ) (s : Registers) (es : made w' s ≡ judge_line b t symbols clauses goal x w r q i e) (l : e < length x) where
    pub text_breaks : Rest v b t symbols clauses goal x w r q i → s.stage ≡ broken_stage → v ≡ judged w' (Some (q + 1))
    unfolding judge_from
    text_breaks a k = go a.turns a.enough a.same
      where
        go : (n : ℕ) → length x < i + n → v ≡ judge_from n b t symbols clauses goal x w r q i → v ≡ judged w' (Some (q + 1))
        go zero h ev = absurd (omega arith)
        go (suc n) h ev = ev ∙ simp (judge_from, ← he, lt-ltb _ _ l, ← es, eq-eqb _ _ k)

    pub text_on : Rest v b t symbols clauses goal x w r q i → (s.stage ≡ broken_stage → ⊥)
        → Rest v b t symbols clauses goal x w' s (q + 1) (e + 1)
    unfolding judge_from
    text_on a k = go a.turns a.enough a.same
      where
        go : (n : ℕ) → length x < i + n → v ≡ judge_from n b t symbols clauses goal x w r q i
            → Rest v b t symbols clauses goal x w' s (q + 1) (e + 1)
        go zero h ev = absurd (omega arith)
        go (suc n) h ev =
            record {
              turns = n;
              enough = omega (arith, h, end_after x i e he);
              same = ev ∙ simp (judge_from, ← he, lt-ltb _ _ l, ← es, ne_eqb _ _ k);
            }
