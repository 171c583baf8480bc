-- What a line does: it is right and the stage after it is held, or it is wrong and no line that could be written so is right.
use Prim.Native.Nat.{ℕ, suc, ◌+◌, ◌-◌, ◌≤◌}
use native.Mathlib.Omega.{arith}
use mathlib.Core.Path.{◌≡◌, refl, sym, ap, ◌∙◌, subst}
use mathlib.Core.Bool.{Bool, true, false, cond, true≢false}
use mathlib.Core.List.{List, [], ◌∷◌, ◌++◌, append_assoc, append-nil}
use mathlib.Core.Option.{Option, none, some}
use mathlib.Core.Logic.{◌⊎◌, inr}
use lib.Dec.{eqb}
use lib.ListN.{length, drop, length-append}
use borrow.Author.Tests.{eqb-true, eq-eqb}
use Rattle.sheet_format.specs.Limits.{max_number}
use Rattle.sheet_format.specs.Bytes.{lf, is_digit, number, decimal}
use Rattle.sheet_format.proofs.Numbers.{number_some, decimal_without}
use Rattle.sheet_format.proofs.Options.{OnSome}
use Rattle.answer_texts.specs.TextLines.{TextLine}
use Rattle.answer_texts.specs.Spelled.{Writable, Stage}
use Rattle.text_judging.specs.Judging.{allow}
use Rattle.text_judging.specs.Reading.{span}
use Rattle.text_judging.proofs.Spans.{span_split}
use Rattle.text_judging.proofs.Reading.{line_bytes}
use Rattle.std.proofs.lemmas.Option.{some_pair_parts}
use Rattle.std.specs.Prelude.{Some}
use Rattle.scanning.specs.Ranges.{scan_number}
use Rattle.scanning.proofs.Positions.{drop_past}
use Rattle.scanning.proofs.Ranges.{begins, begins_rest, rest_begins, range_begins, number_to, read_number}
use Rattle.scanning.proofs.TermsInText.{split_lf}
use Rattle.line_checking.specs.declared.Registers.{Registers}
use Rattle.line_checking.specs.Sequents.{Made, with_stage, broken, broken_stage}
use Rattle.line_checking.specs.Bindings.{begins_with, is_line}
use Rattle.line_checking.proofs.Lines.{is_word, word_solid, word_without}
use Rattle.line_checking.proofs.Representation.{Setting, declared, sheet_of, Holds}

module _ (c : Setting) where
  -- Line q is l; before it the registers were r, at the stage a; it leaves m.
  pub record Right (q : ℕ) (l : List ℕ) (a : Stage) (r : Registers) (m : Made) : Type 0 where
    pub line : TextLine
    pub spelled : l ≡ line_bytes (declared c) line
    pub writable : Writable (declared c) line
    pub after : Stage
    pub allowed : allow (sheet_of c) line a ≡ some after
    pub holds : Holds c (suc q) m.memory m.registers after
    pub goes_on : m.registers.stage ≡ broken_stage → ⊥
    pub same_made_lem : m.registers.made ≡ r.made
    pub same_leftover_lem : m.registers.leftover ≡ r.leftover

  -- It breaks.
  pub record Wrong (l : List ℕ) (a : Stage) (m : Made) : Type 0 where
    pub stops : m.registers.stage ≡ broken_stage
    pub unfit : (line : TextLine) → l ≡ line_bytes (declared c) line → Writable (declared c) line → allow (sheet_of c) line a ≡ none

  -- One of the two.
  abbrev pub Result : ℕ → List ℕ → Stage → Registers → Made → Type 0
  Result q l a r m = Right q l a r m ⊎ Wrong l a m

  -- A line is wrong where no line that is so written is allowed.
  pub is_wrong : (q : ℕ) (l : List ℕ) (a : Stage) (w : List ℕ) (r s : Registers)
      → ((line : TextLine) → l ≡ line_bytes (declared c) line → Writable (declared c) line → allow (sheet_of c) line a ≡ none)
      → Result q l a r (broken w s)
  unfolding broken with_stage
  is_wrong q l a w r s h = inr (record { stops = refl; unfit = h })

-- What holds on both sides of a test holds of the value chosen.
pub either_side : {A : Type 0} (P : A → Type 0) (b : Bool) (x y : A) → (b ≡ true → P x) → (b ≡ false → P y) → P (cond b x y)
either_side P true x y h k = h refl
either_side P false x y h k = k refl

-- words at the beginning of a line

-- `begins_with` tests whether the text from i on begins with the word.
pub begins_with_lem : (a x : List ℕ) (i : ℕ) → is_word a ≡ true → begins_with a x i ≡ begins a (drop i x)
unfolding begins_with
begins_with_lem a x i h = range_begins a [] a 0 x i (sym (append-nil a)) (word_solid a h)

-- If `begins_with` is true, the word is there, with the rest of the line.
pub word_there : (a x : List ℕ) (i : ℕ) (l r : List ℕ) → is_word a ≡ true → drop i x ≡ l ++ (lf ∷ r) → begins_with a x i ≡ true
    → (m : List ℕ) × (l ≡ a ++ m) × (drop (i + length a) x ≡ m ++ (lf ∷ r))
word_there a x i l r h d b =
    let p = begins_rest a (drop i x) (sym (begins_with_lem a x i h) ∙ b) in
    let s = split_lf l r a p.0 (sym d ∙ p.1) (word_without a h) in
    (s.0, s.1, drop_past x i a p.0 p.1 ∙ s.2)

-- If `begins_with` is false, the line does not begin with the word.
pub word_absent : (a x : List ℕ) (i : ℕ) (l r m : List ℕ) → is_word a ≡ true → drop i x ≡ l ++ (lf ∷ r) → begins_with a x i ≡ false
    → l ≡ a ++ m → ⊥
word_absent a x i l r m h d b e =
    true≢false (sym (rest_begins a (m ++ (lf ∷ r)))
    ∙ ap (begins a) (sym (d ∙ ap (◌++ (lf ∷ r)) e ∙ append_assoc a m (lf ∷ r))) ∙ sym (begins_with_lem a x i h) ∙ b)

-- If `is_line` is true, the line is the word.
pub line_there : (a x : List ℕ) (i e : ℕ) (l r : List ℕ) → is_word a ≡ true → drop i x ≡ l ++ (lf ∷ r) → e ≡ i + length l
    → is_line a x i e ≡ true → l ≡ a
unfolding is_line
line_there a x i e l r h d k b = go (eqb (e - i) (length a)) refl b
  where
    go : (z : Bool) → eqb (e - i) (length a) ≡ z → cond z (begins_with a x i) false ≡ true → l ≡ a
    go false p q = absurd (true≢false (sym q))
    go true p q =
        let s = word_there a x i l r h d q in
        let n : length s.0 ≡ 0 = (let y = eqb-true (e - i) (length a) p in let z = ap length s.1
        ∙ length-append a s.0 in omega arith) in
        s.1 ∙ empty s.0 n
      where
        empty : (m : List ℕ) → length m ≡ 0 → a ++ m ≡ a
        empty [] y = append-nil a
        empty (u ∷ m) y = absurd (omega arith)

-- If `is_line` is false, the line is not the word.
pub line_absent : (a x : List ℕ) (i e : ℕ) (l r : List ℕ) → is_word a ≡ true → drop i x ≡ l ++ (lf ∷ r) → e ≡ i + length l
    → is_line a x i e ≡ false → l ≡ a → ⊥
unfolding is_line
line_absent a x i e l r h d k b p =
    let n : e - i ≡ length a = (let z = ap length p in omega arith) in
    let t : begins_with a x i ≡ true = begins_with_lem a x i h ∙ ap (begins a) (d ∙ ap (◌++ (lf ∷ r)) p) ∙ rest_begins a (lf ∷ r) in
    true≢false (sym (rw (n, eq-eqb (length a) (length a) refl) t) ∙ b)

-- Nothing is left where a part ends with the line.
pub no_more : (a m : List ℕ) (i e : ℕ) → e ≡ i + length (a ++ m) → e ≡ i + length a → m ≡ []
no_more a [] i e h k = refl
no_more a (u ∷ m) i e h k = let l = length-append a (u ∷ m) in absurd (omega arith)

-- A number at position i of a line, of which l is left there.
pub record ReadsNumber (x : List ℕ) (i : ℕ) (l r : List ℕ) (n e : ℕ) : Type 0 where
  pub more : List ℕ
  pub spelled : l ≡ decimal n ++ more
  pub small : n ≤ max_number
  pub end : e ≡ i + length (decimal n)
  pub rest : drop e x ≡ more ++ (lf ∷ r)

-- What is read as a number is a number spelled there.
pub number_there : (x : List ℕ) (i : ℕ) (l r : List ℕ) (n e : ℕ) → drop i x ≡ l ++ (lf ∷ r) → scan_number x i ≡ Some (n, e)
    → ReadsNumber x i l r n e
unfolding is_digit
number_there x i l r n e d h = go (number a) refl (number_some a) (sym (read_number x i) ∙ h)
  where
    a : List ℕ
    a = (span is_digit (drop i x)).taken

    go : (o : Option ℕ) → number a ≡ o → OnSome (λ k. (a ≡ decimal k) × (k ≤ max_number)) o → number_to (i + length a) o ≡ Some (n, e)
        → ReadsNumber x i l r n e
    go none p q y = absurd (let z : ◌≡◌ {A = ℕ} 0 1 = cc in omega arith)
    go (some k) p q y =
        let parts = some_pair_parts k n (i + length a) e y in
        let u = parts.0 in
        let v = parts.1 in
        let b : a ≡ decimal n = q.0 ∙ ap decimal u in
        let s = split_lf l r (decimal n) (span is_digit (drop i x)).rest (sym d ∙ span_split is_digit (drop i x)
        ∙ ap (◌++ (span is_digit (drop i x)).rest) b)
        (decimal_without n lf refl) in
        record {
          more = s.0;
          spelled = s.1;
          small = subst (λ (z : ℕ). z ≤ max_number) u q.1;
          end = sym v ∙ ap (λ (z : List ℕ). i + length z) b;
          rest = ap (λ (z : ℕ). drop z x) (sym v) ∙ drop_past x i a (span is_digit (drop i x)).rest (span_split is_digit (drop i x)) ∙ s.2;
        }
