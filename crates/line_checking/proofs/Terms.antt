-- A term that is the rest of a line: the scan finds one exactly if there is one.
use Prim.Native.Nat.{ℕ, ◌+◌}
use native.Mathlib.Omega.{arith}
use mathlib.Core.Path.{◌≡◌, refl, sym, ap, ◌∙◌, subst}
use mathlib.Core.Bool.{Bool, true, false}
use mathlib.Core.List.{List, ◌∷◌, ◌++◌, append-nil}
use lib.Dec.{eqb}
use lib.ListN.{length, drop, length-append}
use borrow.Author.Tests.{eqb-true, eqb-false}
use Rattle.terms.proofs.Lists.{length_map}
use Rattle.sequents.specs.Symbols.{Ground, level}
use Rattle.sheet_format.specs.Bytes.{lf, is_name_byte, is_letter, is_small, is_capital, is_digit, folded, folded_name}
use Rattle.answer_texts.specs.Spelling.{spell_term}
use Rattle.answer_texts.specs.Spelled.{WritableTerm}
use Rattle.text_judging.proofs.Spans.{Stops}
use Rattle.scanning.specs.Scanning.{Scan}
use Rattle.std.proofs.lemmas.Option.{some_pair_parts}
use Rattle.std.specs.Prelude.{Some, None}
use Rattle.scanning.specs.Scanning.{scan_term}
use Rattle.scanning.proofs.Positions.{drop_past, drop_length}
use Rattle.scanning.proofs.TermsInText.{SpelledAt, ScansTerm, scanned_line, spelled_scan}
use Rattle.scanning.proofs.Folding.{folded_both, term_folded}
use Rattle.line_checking.proofs.Representation.{Setting, folds, declared, Filled, names_of_lem, names_stand}
use Rattle.line_checking.proofs.Results.{no_more}

-- The scan of the text of a setting.
abbrev pub scan_at : Setting → ℕ → Scan
scan_at c i = scan_term (length c.text) c.bytes c.table c.symbols c.text i

-- The rest m of a line, from i to e, is a term, or none.
pub data TermCase (c : Setting) (i e : ℕ) (m : List ℕ) : Type 0 where
  is_term : (t : Ground) → m ≡ spell_term t (declared c) → scan_at c i ≡ Some (e, level t) → SpelledAt (declared c) (folds c) i e t
      → TermCase c i e m
  no_term : ((t : Ground) → m ≡ spell_term t (declared c) → WritableTerm t (declared c) → ⊥)
      → ((j k : ℕ) → scan_at c i ≡ Some (j, k) → eqb j e ≡ false) → TermCase c i e m

module _ (c : Setting) (filled : Filled c) where
  -- A spelled term before a byte that is none of a name stands in the text.
  pub spelled_at : (i : ℕ) (t : Ground) (b : ℕ) (r : List ℕ) → drop i (folds c) ≡ spell_term t (declared c) ++ (b ∷ r)
      → WritableTerm t (declared c) → is_name_byte b ≡ false
      → SpelledAt (declared c) (folds c) i (i + length (spell_term t (declared c))) t
  spelled_at i t b r h w n =
      let e = drop_past (folds c) i (spell_term t (declared c)) (b ∷ r) h in
      record {
        spelled = h ∙ ap (spell_term t (declared c) ++◌) (sym e);
        end = refl;
        writable = w;
        stops = subst (Stops is_name_byte) (sym e) n;
      }

  -- A spelled term before a byte that is none of a name is scanned.
  pub scan_there : (i : ℕ) (t : Ground) (b : ℕ) (r : List ℕ) → drop i (folds c) ≡ spell_term t (declared c) ++ (b ∷ r)
      → WritableTerm t (declared c) → is_name_byte b ≡ false
      → scan_at c i ≡ Some (i + length (spell_term t (declared c)), level t)
  scan_there i t b r h w n =
      let l = drop_length (folds c) i (spell_term t (declared c) ++ (b ∷ r)) h in
      let f = length_map folded c.text in
      let k = length-append (spell_term t (declared c)) (b ∷ r) in
      sym (term_folded c.bytes c.table c.text c.symbols (length c.text) i)
      ∙ spelled_scan (folded_name c.bytes) c.table c.symbols (names_of_lem c filled) (names_stand c filled) (folds c) (folded_both c.bytes c.text) (length c.text) i t b
      r h w (omega arith) n

  -- What a scan finds in a line is a term.
  pub scanned_there : (i : ℕ) (l r : List ℕ) (e k : ℕ) → drop i (folds c) ≡ l ++ (lf ∷ r) → scan_at c i ≡ Some (e, k)
      → ScansTerm (declared c) (folds c) i l r e k
  scanned_there i l r e k h q =
      scanned_line (folded_name c.bytes) c.table c.symbols (names_of_lem c filled) (names_stand c filled) (folds c) (folded_both c.bytes c.text) (length c.text) i l r
      e k h (term_folded c.bytes c.table c.text c.symbols (length c.text) i ∙ q)

  -- The rest of a line is found to be a term or none.
  pub term_case : (i e : ℕ) (m rest : List ℕ) → drop i (folds c) ≡ m ++ (lf ∷ rest) → e ≡ i + length m → TermCase c i e m
  unfolding is_name_byte is_letter is_small is_capital is_digit
  term_case i e m rest d k = go (scan_at c i) refl
    where
      -- A term that is the rest of the line is found.
      finds : (t : Ground) → m ≡ spell_term t (declared c) → WritableTerm t (declared c) → scan_at c i ≡ Some (e, level t)
      finds t p w =
          let z : i + length (spell_term t (declared c)) ≡ e = (let a = ap length p in omega arith) in
          scan_there i t lf rest (d ∙ ap (◌++ (lf ∷ rest)) p) w refl ∙ ap (λ (j : ℕ). Some (j, level t)) z

      found : (j v : ℕ) → scan_at c i ≡ Some (j, v) → j ≡ e → TermCase c i e m
      found j v h y =
          let s = scanned_there i m rest j v d h in
          let u = s.term in
          let n = s.end in
          let p : m ≡ spell_term u (declared c) =
          s.spelled
          ∙ ap (spell_term u (declared c) ++◌)
          (no_more (spell_term u (declared c)) s.more i e (let a = ap length s.spelled in omega arith) (omega arith))
          ∙ append-nil (spell_term u (declared c)) in
          let z : i + length (spell_term u (declared c)) ≡ e = omega arith in
          is_term u p (finds u p s.writable)
          (subst (λ (a : ℕ). SpelledAt (declared c) (folds c) i a u) z
          (spelled_at i u lf rest (d ∙ ap (◌++ (lf ∷ rest)) p) s.writable refl))

      go : (a : Scan) → scan_at c i ≡ a → TermCase c i e m
      go None h =
          no_term (λ t p w. absurd (let z : None ≡ Some (e, level t) = sym h
          ∙ finds t p w in let v : ◌≡◌ {A = ℕ} 0 1 = cc in omega arith))
          (λ j k y. absurd (let z : None ≡ Some (j, k) = sym h ∙ y in let v : ◌≡◌ {A = ℕ} 0 1 = cc in omega arith))
      go (Some (j, k)) h = ends (eqb j e) refl
        where
          ends : (z : Bool) → eqb j e ≡ z → TermCase c i e m
          ends true y = found j k h (eqb-true j e y)
          ends false y =
              no_term (λ t p w. eqb-false j e y (some_pair_parts j e k (level t) (sym h ∙ finds t p w)).0)
              (λ a b u. ap (λ (o : ℕ). eqb o e) (some_pair_parts a j b k (sym u ∙ h)).0 ∙ y)
