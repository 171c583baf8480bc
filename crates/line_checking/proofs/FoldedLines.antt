-- Request W-201, a line in place: its words are tested as they stand, and what stands after its second tab is folded. So a line says what
-- the line with folded names says.
use Prim.Native.Nat.{ℕ, zero, suc, ◌+◌}
use native.Mathlib.Omega.{arith}
use mathlib.Core.Path.{◌≡◌, refl, sym, ap, ap₂, ◌∙◌, subst}
use mathlib.Core.Bool.{Bool, true, false, not, ◌&&◌, ◌||◌, cond, true≢false}
use mathlib.Core.List.{List, [], ◌∷◌, ◌++◌, append_assoc, append-nil, append_cancel_left}
use lib.Dec.{eqb, leb, ltb}
use lib.ListN.{length, drop, length-append}
use borrow.Author.Tests.{eqb-true, ltb-true, leb-true, le-leb}
use Rattle.terms.proofs.Lists.{map_append, length_map}
use Rattle.formulas.proofs.Free.{and_parts}
use Rattle.sheet_format.specs.Bytes.{tab, lf, is_small, is_capital, is_letter, folded, folded_name}
use Rattle.sheet_format.proofs.Bytes.{Without}
use Rattle.sheet_format.proofs.Capitals.{letter_folded, test_folded, folded_other}
use Rattle.answer_texts.specs.Capitals.{small_from}
use Rattle.text_judging.proofs.SmallLines.{small_line, small_twice}
use Rattle.scanning.proofs.Positions.{drop_past}
use Rattle.line_checking.specs.Bindings.{begins_with, is_line}
use Rattle.line_checking.proofs.Lines.{is_word}
use Rattle.line_checking.proofs.Results.{word_there, word_absent, line_there, line_absent}

-- folded lists

-- What stands at a position of a folded list is what stands there, folded.
pub drop_folded : (i : ℕ) (x : List ℕ) → drop i (folded_name x) ≡ folded_name (drop i x)
drop_folded zero x = refl
drop_folded (suc i) [] = refl
drop_folded (suc i) (c ∷ cs) = drop_folded i cs

-- Folding keeps the length.
pub small_length : (k : ℕ) (l : List ℕ) → length (small_from k l) ≡ length l
small_length k l = sym (length_map folded (small_from k l)) ∙ ap length (small_twice k l) ∙ length_map folded l

-- After the second tab of a line all letters are folded.
pub third_folded : (k : ℕ) (m : List ℕ) → Without lf m → small_from (suc (suc k)) m ≡ folded_name m
unfolding small_from is_capital
third_folded k [] h = refl
third_folded k (c ∷ cs) h = go (eqb c tab) refl (λ j. third_folded j cs h.1)
  where
    go : (b : Bool) → eqb c tab ≡ b → ((j : ℕ) → small_from (suc (suc j)) cs ≡ folded_name cs)
        → small_from (suc (suc k)) (c ∷ cs) ≡ folded_name (c ∷ cs)
    go true e ih =
        let z : c ≡ 9 = eqb-true c tab e in
        let s : folded c ≡ c = ap folded z ∙ folded_other 9 refl ∙ sym z in
        rw (h.0, small_from) (rw e (ap₂ ◌∷◌ (sym s) (ih (suc k))))
    go false e ih = rw (h.0, small_from) (rw (e, le-leb 2 (suc (suc k)) (omega arith)) (ap (folded c ∷◌) (ih k)))

-- a line in the text

-- The line at position i of x, its names folded, is l; the bytes after it, folded, are rest.
pub record LineAt (x : List ℕ) (i : ℕ) (l rest : List ℕ) : Type 0 where
  pub raw : List ℕ
  pub after : List ℕ
  pub stands : drop i x ≡ raw ++ (lf ∷ after)
  pub whole : Without lf raw
  pub line_is : l ≡ small_line raw
  pub rest_is : rest ≡ folded_name after

-- The bytes of a word that do not change by folding: those before the second tab, and later ones that are no letters.
unfoldable pub is_exact : ℕ → List ℕ → Bool
is_exact k [] = true
is_exact k (c ∷ cs) = cond (eqb c tab) (is_exact (suc k) cs) ((ltb k 2 || not (is_letter c)) && is_exact k cs)

-- A byte that folds to no letter is that byte.
unfolded : (c d : ℕ) → folded d ≡ c → is_letter c ≡ false → d ≡ c
unfolding is_letter
unfolded c d e h = go (is_capital d) refl
  where
    go : (b : Bool) → is_capital d ≡ b → d ≡ c
    go true q = absurd (true≢false (sym (or_true (is_small d) (is_capital d) q) ∙ sym (letter_folded d) ∙ ap is_letter e ∙ h))
      where
        or_true : (a b : Bool) → b ≡ true → (a || b) ≡ true
        or_true true b k = refl
        or_true false b k = k
    go false q = sym (folded_other d q) ∙ e

-- A line whose folded bytes begin with such a word begins with it.
pub begins_exactly : (k : ℕ) (a l m : List ℕ) → Without lf l → is_exact k a ≡ true → small_from k l ≡ a ++ m
    → (n : List ℕ) × (l ≡ a ++ n)
unfolding small_from is_exact is_letter is_small is_capital
begins_exactly k [] l m h x e = (l, refl)
begins_exactly k (c ∷ cs) [] m h x e = absurd (let z : ◌≡◌ {A = ℕ} 0 1 = cc in omega arith)
begins_exactly k (c ∷ cs) (d ∷ ds) m h x e = at (eqb d tab) refl (λ j. begins_exactly j cs ds m h.1)
  where
    R : Type 0
    R = (n : List ℕ) × (d ∷ ds ≡ c ∷ (cs ++ n))

    Later : Type 0
    Later = (j : ℕ) → is_exact j cs ≡ true → small_from j ds ≡ cs ++ m → (n : List ℕ) × (ds ≡ cs ++ n)

    with_byte_lem : d ≡ c → (n : List ℕ) × (ds ≡ cs ++ n) → R
    with_byte_lem p r = (r.0, ap₂ ◌∷◌ p r.1)

    other : (z : Bool) → leb 2 k ≡ z → eqb d tab ≡ false → cond z (folded d) d ∷ small_from k ds ≡ c ∷ (cs ++ m) → Later → R
    other z q t f ih =
        let p : cond z (folded d) d ≡ c = cc in
        let r : small_from k ds ≡ cs ++ m = cc in
        let n : eqb c tab ≡ false = ap (λ (y : ℕ). eqb y tab) (sym p) ∙ no_tab z in
        let g = and_parts (ltb k 2 || not (is_letter c)) (is_exact k cs) (sym (ap (λ (b : Bool). cond b (is_exact (suc k) cs)
        ((ltb k 2 || not (is_letter c)) && is_exact k cs)) n) ∙ x) in
        with_byte_lem (same z q p g.0) (ih k g.1 r)
      where
        no_tab : (y : Bool) → eqb (cond y (folded d) d) tab ≡ false
        no_tab true = test_folded tab d refl ∙ t
        no_tab false = t

        same : (y : Bool) → leb 2 k ≡ y → cond y (folded d) d ≡ c → (ltb k 2 || not (is_letter c)) ≡ true → d ≡ c
        same false u p g = p
        same true u p g = unfolded c d p (no_letter (ltb k 2) refl (is_letter c) refl g)
          where
            no_letter : (a : Bool) → ltb k 2 ≡ a → (b : Bool) → is_letter c ≡ b → (a || not b) ≡ true → is_letter c ≡ false
            no_letter true v b w s = let o = ltb-true k 2 v in let y = leb-true 2 k u in absurd (omega arith)
            no_letter false v true w s = absurd (true≢false (sym s))
            no_letter false v false w s = w

    at : (b : Bool) → eqb d tab ≡ b → Later → R
    at true t ih =
        let f : d ∷ small_from (suc k) ds ≡ c ∷ (cs ++ m) = sym (rw (h.0, small_from) (rw t refl)) ∙ e in
        let p : d ≡ c = cc in
        let r : small_from (suc k) ds ≡ cs ++ m = cc in
        let g : is_exact (suc k) cs ≡ true = sym (ap (λ (b : Bool). cond b (is_exact (suc k) cs)
        ((ltb k 2 || not (is_letter c)) && is_exact k cs)) (ap (λ (y : ℕ). eqb y tab) (sym p) ∙ t)) ∙ x in
        with_byte_lem p (ih (suc k) g r)
    at false t ih = other (leb 2 k) refl t (sym (rw (h.0, small_from) (rw t refl)) ∙ e) ih

-- words of a line

-- What holds of all bytes of two parts holds of those of the second.
last_without : (a m : List ℕ) → Without lf (a ++ m) → Without lf m
last_without [] m h = h
last_without (c ∷ cs) m h = last_without cs m h.1

module _ (x : List ℕ) (i : ℕ) (l rest : List ℕ) (here : LineAt x i l rest) where
  -- The line is as long.
  pub same_size : length l ≡ length here.raw
  same_size = ap length here.line_is ∙ small_length 0 here.raw

  -- What stands after a part of the line, folded.
  pub after_part : (a m : List ℕ) → here.raw ≡ a ++ m → drop (i + length a) (folded_name x) ≡ folded_name m ++ (lf ∷ rest)
  unfolding folded is_capital
  after_part a m p =
      drop_folded (i + length a) x
      ∙ ap folded_name (drop_past x i a (m ++ (lf ∷ here.after)) (here.stands ∙ ap (◌++ (lf ∷ here.after)) p
      ∙ append_assoc a m (lf ∷ here.after)))
      ∙ map_append folded m (lf ∷ here.after) ∙ ap (λ (r : List ℕ). folded_name m ++ (lf ∷ r)) (sym here.rest_is)

  -- After a word that ends with the second tab stands what the line has after it.
  pub part_there : (a m : List ℕ) → is_exact 0 a ≡ true → ((n : List ℕ) → small_line (a ++ n) ≡ a ++ small_from 2 n) → l ≡ a ++ m
      → drop (i + length a) (folded_name x) ≡ m ++ (lf ∷ rest)
  part_there a m h split p =
      let s = begins_exactly 0 a here.raw m here.whole h (sym here.line_is ∙ p) in
      let w = last_without a s.0 (subst (Without lf) s.1 here.whole) in
      let e : folded_name s.0 ≡ m = append_cancel_left a (folded_name s.0) m
      (sym (here.line_is ∙ ap small_line s.1 ∙ split s.0 ∙ ap (a ++◌) (third_folded 0 s.0 w)) ∙ p) in
      after_part a s.0 s.1 ∙ ap (◌++ (lf ∷ rest)) e

  -- If `begins_with` is true, the line has the word, which ends with the second tab, and after it the rest of the line.
  pub word_folded : (a : List ℕ) → is_word a ≡ true → ((m : List ℕ) → small_line (a ++ m) ≡ a ++ small_from 2 m) → begins_with a x i ≡ true
      → (m : List ℕ) × (l ≡ a ++ m) × (drop (i + length a) (folded_name x) ≡ m ++ (lf ∷ rest))
  word_folded a h split b =
      let s = word_there a x i here.raw here.after h here.stands b in
      let w = last_without a s.0 (subst (Without lf) s.1 here.whole) in (
        folded_name s.0,
        here.line_is ∙ ap small_line s.1 ∙ split s.0 ∙ ap (a ++◌) (third_folded 0 s.0 w),
        after_part a s.0 s.1,
      )

  -- If `begins_with` is false, the line does not begin with the word.
  pub word_missing : (a m : List ℕ) → is_word a ≡ true → is_exact 0 a ≡ true → begins_with a x i ≡ false → l ≡ a ++ m → ⊥
  word_missing a m h k b p =
      let s = begins_exactly 0 a here.raw m here.whole k (sym here.line_is ∙ p) in
      word_absent a x i here.raw here.after s.0 h here.stands b s.1

  -- If `is_line` is true, the line is the word.
  pub line_folded : (a : List ℕ) (e : ℕ) → is_word a ≡ true → small_line a ≡ a → e ≡ i + length l → is_line a x i e ≡ true → l ≡ a
  line_folded a e h k end b =
      here.line_is
      ∙ ap small_line (line_there a x i e here.raw here.after h here.stands (end ∙ ap (i +◌) same_size) b) ∙ k

  -- If `is_line` is false, the line is not the word.
  pub line_missing : (a : List ℕ) (e : ℕ) → is_word a ≡ true → is_exact 0 a ≡ true → e ≡ i + length l → is_line a x i e ≡ false → l ≡ a → ⊥
  line_missing a e h k end b p =
      let s = begins_exactly 0 a here.raw [] here.whole k (sym here.line_is ∙ p ∙ sym (append-nil a)) in
      let z : length s.0 ≡ 0 = (let u = ap length s.1 ∙ length-append a s.0 in let v = ap length p in let o = same_size in omega arith) in
      line_absent a x i e here.raw here.after h here.stands (end ∙ ap (i +◌) same_size) b (s.1 ∙ nothing s.0 z)
    where
      nothing : (n : List ℕ) → length n ≡ 0 → a ++ n ≡ a
      nothing [] z = append-nil a
      nothing (c ∷ n) z = absurd (omega arith)
