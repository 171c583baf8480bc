-- The judgement is exact up to the case of letters in names: it is the exact judgement of the folded text over the sheet with folded names.
use Prim.Native.Nat.{ℕ, suc, ◌≤◌, ◌<◌}
use mathlib.Core.Path.{◌≡◌, refl, sym, ◌∙◌, ap, subst}
use mathlib.Core.Bool.{true}
use mathlib.Core.List.{List, [], ◌∷◌, ◌++◌}
use Rattle.terms.specs.Lists.{All}
use Rattle.formulas.specs.Formulas.{Goal, free_g, free_variables}
use Rattle.sequents.specs.Symbols.{Symbol}
use Rattle.sequents.specs.Sequents.{Environment}
use Rattle.sequents.specs.Derivations.{lines}
use Rattle.sequents.specs.Promises.{Closed}
use Rattle.sequents.proofs.Lines.{infers_weaken}
use Rattle.sheet_format.specs.Limits.{variable_names}
use Rattle.sheet_format.specs.Sheets.{Sheet, rules_of}
use Rattle.sheet_format.proofs.Names.{Names}
use Rattle.answer_texts.specs.TextLines.{TextLine, result_line, binding_line, derivation_line, answer_lines}
use Rattle.answer_texts.specs.Numbering.{numbered}
use Rattle.answer_texts.specs.Spelling.{proof_text}
use Rattle.answer_texts.specs.Capitals.{SameText, small_text, small_sheet}
use Rattle.answer_texts.specs.Spelled.{Stage, opening, bindings, sequents, bound_stage, blank, Allowed, Proceeds, SpellsAsDeclared}
use Rattle.answer_texts.specs.Spelled.{SpellsDerivation, BeginsBy, BreaksAfter, first_lines}
use Rattle.text_judging.specs.Judging.{judge}
use Rattle.text_judging.specs.Promises.{Exact}
use Rattle.text_judging.proofs.Judge.{BeginsExactly, BreaksExactly}
use Rattle.text_judging.proofs.SmallLines.{count_small, first_small}
use Rattle.text_judging.proofs.Capitals.{small_names_lem, spell_small, to_small, from_small}
use Rattle.text_judging.proofs.Exact.{valid_spells, spells_valid, named_breaks, breaks_named, spells_or_breaks}

-- stages

-- Stages depend on the clauses, their order and the goal alone, so lines proceed alike over two sheets that share them.
module _ (s z : Sheet) (clauses : rules_of s ≡ rules_of z) (goal : s.goal ≡ z.goal) where
  bound_alike : (vs : List ℕ) (e : Environment Symbol) → bound_stage s vs e ≡ bound_stage z vs e
  unfolding bound_stage
  bound_alike [] e = rw (clauses, goal) refl
  bound_alike (v ∷ vs) e = refl

  allowed_alike : (x : TextLine) (a : Stage) (K L : Stage → Type 0) → ((b : Stage) → K b → L b) → Allowed s x a K → Allowed z x a L
  unfolding Allowed
  allowed_alike (result_line n) opening K L f h =
      (h.0, h.1, subst L (bound_alike (free_variables s.goal) blank ∙ ap (λ (g : Goal). bound_stage z (free_variables g) blank) goal) (f _ h.2))
  allowed_alike (result_line n) (bindings vs e) K L f h = h
  allowed_alike (result_line n) (sequents gs) K L f h = h
  allowed_alike (binding_line v t) opening K L f h = h
  allowed_alike (binding_line v t) (bindings [] e) K L f h = h
  allowed_alike (binding_line v t) (bindings (w ∷ ws) e) K L f h = (h.0, h.1, subst L (bound_alike _ _) (f _ h.2))
  allowed_alike (binding_line v t) (sequents gs) K L f h = h
  allowed_alike (derivation_line x) opening K L f h = h
  allowed_alike (derivation_line x) (bindings vs e) K L f h = h
  allowed_alike (derivation_line x) (sequents []) K L f h = h
  allowed_alike (derivation_line x) (sequents (g ∷ gs)) K L f h =
      infers_weaken x g.goal g.environment g.program g.level (λ new. K (sequents (new ++ gs))) (λ new. L (sequents (new ++ gs)))
      (λ new. f (sequents (new ++ gs))) h

  proceeds_alike : (xs : List TextLine) (a b : Stage) → Proceeds s xs a b → Proceeds z xs a b
  unfolding Proceeds
  proceeds_alike [] a b h = h
  proceeds_alike (x ∷ xs) a b h =
      allowed_alike x a (λ c. Proceeds s xs c b) (λ c. Proceeds z xs c b) (λ c. proceeds_alike xs c b) h

module _ (s : Sheet) (names : Names s.symbols) where
  -- A text spells a derivation up to case exactly if, folded, it spells it with folded names.
  spells_small : (text : List ℕ) → SpellsDerivation s text → SpellsAsDeclared (small_sheet s) (small_text text)
  unfolding small_sheet proof_text
  spells_small text h =
      let xs = numbered (answer_lines h.units (free_variables s.goal) h.environment (lines h.proof.derivation)) in
      record {
        units = h.units;
        least = h.least;
        most = h.most;
        environment = h.environment;
        proof = h.proof;
        writable = to_small s.symbols xs h.writable;
        spelled = h.spelled ∙ spell_small s.symbols xs names h.writable;
      }

  small_spells : (text : List ℕ) → SpellsAsDeclared (small_sheet s) (small_text text) → SpellsDerivation s text
  unfolding small_sheet proof_text
  small_spells text h =
      let xs = numbered (answer_lines h.units (free_variables s.goal) h.environment (lines h.proof.derivation)) in
      let w = from_small s.symbols xs h.writable in
      record {
        units = h.units;
        least = h.least;
        most = h.most;
        environment = h.environment;
        proof = h.proof;
        writable = w;
        spelled = h.spelled ∙ sym (spell_small s.symbols xs names w);
      }

  -- The same of a beginning.
  begins_small : (b : List ℕ) → BeginsBy SameText s b → BeginsExactly (small_sheet s) (small_text b)
  unfolding small_sheet
  begins_small b h =
      record {
        text_lines = h.text_lines;
        stage = h.stage;
        writable = to_small s.symbols h.text_lines h.writable;
        in_order = h.in_order;
        spelled = h.spelled ∙ spell_small s.symbols h.text_lines names h.writable;
        proceeds = proceeds_alike s (small_sheet s) refl refl h.text_lines opening h.stage h.proceeds;
      }

  small_begins : (b : List ℕ) → BeginsExactly (small_sheet s) (small_text b) → BeginsBy SameText s b
  unfolding small_sheet
  small_begins b h =
      let w = from_small s.symbols h.text_lines h.writable in
      record {
        text_lines = h.text_lines;
        stage = h.stage;
        writable = w;
        in_order = h.in_order;
        spelled = h.spelled ∙ sym (spell_small s.symbols h.text_lines names w);
        proceeds = proceeds_alike (small_sheet s) s refl refl h.text_lines opening h.stage h.proceeds;
      }

  -- The same of the line that breaks.
  breaks_small : (text : List ℕ) (n : ℕ) → BreaksAfter s text n → BreaksExactly (small_sheet s) (small_text text) n
  breaks_small text n h =
      record {
        there = subst (λ (k : ℕ). n ≤ k) (sym (count_small text)) h.there;
        before = subst (BeginsExactly (small_sheet s)) (sym (first_small n text)) (begins_small (first_lines n text) h.before);
        breaks = λ l b. h.breaks (subst (λ (k : ℕ). suc n ≤ k) (count_small text) l)
            (small_begins (first_lines (suc n) text) (subst (BeginsExactly (small_sheet s)) (first_small (suc n) text) b));
      }

  small_breaks : (text : List ℕ) (n : ℕ) → BreaksExactly (small_sheet s) (small_text text) n → BreaksAfter s text n
  small_breaks text n h =
      record {
        there = subst (λ (k : ℕ). n ≤ k) (count_small text) h.there;
        before = small_begins (first_lines n text) (subst (BeginsExactly (small_sheet s)) (first_small n text) h.before);
        breaks = λ l b. h.breaks (subst (λ (k : ℕ). suc n ≤ k) (sym (count_small text)) l)
            (subst (BeginsExactly (small_sheet s)) (sym (first_small (suc n) text)) (begins_small (first_lines (suc n) text) b));
      }

module _ (s : Sheet) (names : Names s.symbols) (closed : All Closed s.clauses) (small : (v : ℕ) → free_g s.goal v ≡ true
    → v < variable_names) where
  -- These are the names that are told apart.
  folded_names : Names (small_sheet s).symbols
  unfolding small_sheet
  folded_names = small_names_lem s.symbols names

  folded_closed : All Closed (small_sheet s).clauses
  unfolding small_sheet
  folded_closed = closed

  folded_free : (v : ℕ) → free_g (small_sheet s).goal v ≡ true → v < variable_names
  unfolding small_sheet
  folded_free = small

  -- The judgement of a text is exact.
  pub exact : (text : List ℕ) → Exact s text
  unfolding judge
  exact text =
      let s' = small_sheet s in
      let t = small_text text in record {
        accepts = (
          λ h. small_spells s names text (valid_spells s' folded_names folded_closed folded_free t h),
          λ h. spells_valid s' folded_names folded_closed folded_free t (spells_small s names text h),
        );
        breaks = λ n. (
          λ h. let r = named_breaks s' folded_names folded_closed folded_free t n h in
              (small_breaks s names text n r.0, λ d. r.1 (spells_small s names text d)),
          λ h. breaks_named s' folded_names folded_closed folded_free t n
              (breaks_small s names text n h.0, λ d. h.1 (small_spells s names text d)),
        );
        broken = λ h.
            let r = spells_or_breaks s' folded_names folded_closed folded_free t (λ d. h (small_spells s names text d)) in
            (r.0, small_breaks s names text r.0 r.1, r.2);
      }
