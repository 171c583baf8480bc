-- The D lines of a text tell its path: the word and the place of each are read back from its bytes, and no two paths have them all alike.
use Prim.Native.Nat.{ℕ, ◌≤◌}
use mathlib.Core.Path.{◌≡◌, refl, sym, ◌∙◌, ap, ap₂}
use mathlib.Core.Bool.{true, cond}
use mathlib.Core.List.{List, [], ◌∷◌, ◌++◌, map, reverse, reverse_aux, reverse-reverse}
use mathlib.Core.Option
use mathlib.Core.Option.{Option, none, some}
use native.Mathlib.Omega.{arith}
use Rattle.terms.specs.Lists.{All}
use Rattle.terms.specs.Terms.{leaf}
use Rattle.terms.proofs.Lists.{all_append, all_map}
use Rattle.formulas.specs.Formulas.{free_variables}
use Rattle.sequents.specs.Symbols.{Symbol}
use Rattle.sequents.specs.Sequents.{Environment, Dtrue, Dand, Dleft, Dright, Dassume, Line, plain, Dsome, Dall, Dclause, put_line}
use Rattle.sequents.specs.Renamings.{Renaming, renamed}
use Rattle.unification.specs.Store.{Leaf, var}
use Rattle.search.specs.Answers.{final, final_environment, final_lines}
use Rattle.search.proofs.Formed.{FormedTerm, SheetName, FormedLine, formed_substitute, formed_put_line}
use Rattle.search.proofs.FormedStores.{SymbolUpTo}
use Rattle.search.proofs.Bounds.{ShownUpTo}
use Rattle.enumeration.specs.Enumeration.{Proof}
use Rattle.enumeration.specs.Scripts.{bare}
use Rattle.enumeration.specs.Promises.{Different}
use Rattle.enumeration.proofs.Scripts.{bare_lines}
use Rattle.enumeration.proofs.Promises.{all_paths}
use Rattle.sheet_format.specs.Limits.{max_number}
use Rattle.sheet_format.specs.Bytes.{ascii, fields, number, same_bytes, SplitLines}
use Rattle.sheet_format.specs.Nodes.{Declaration}
use Rattle.sheet_format.specs.Sheets.{Sheet, rules_of}
use Rattle.sheet_format.proofs.Bytes.{Graphic}
use Rattle.sheet_format.proofs.Numbers.{number_decimal}
use Rattle.sheet_format.proofs.Names.{Names}
use Rattle.sheet_format.proofs.Good.{good}
use Rattle.answer_texts.specs.TextLines.{TextLine, binding_line, derivation_line, answer_lines, rename_text_line}
use Rattle.answer_texts.specs.Numbering.{shown, numbering_of, numbered}
use Rattle.answer_texts.specs.Spelling.{join, spell_word, line_fields, text_fields, proof_text}
use Rattle.answer_texts.specs.Promises.{search_text}
use Rattle.answer_texts.specs.Enumerations.{found_text, is_derivation, derivations_among, derivation_lines_of}
use Rattle.answer_texts.specs.EnumerationPromises.{proofs_of, DifferentTexts, TextTellsPath}
use Rattle.answer_texts.proofs.SoundWritable.{declared, names_free}
use Rattle.answer_texts.proofs.TextSound.{sheet_formed}
use Rattle.answer_texts.proofs.SpelledLines.{line_graphic, binding_graphic, result_graphic, line_bytes, graphic_fields, graphic_lines}
use Rattle.answer_texts.proofs.EnumerationTexts.{FoundShows, Found, each_found}

-- What the fields of a D line tell of it without its terms: its word, and the place of a clause.
unfoldable place_of : List (List ℕ) → Option (Line Leaf)
place_of [] = none
place_of (k ∷ fs) = Option.map (λ n. Dclause n []) (number k)

unfoldable bare_of : List (List ℕ) → Option (Line Leaf)
bare_of [] = none
bare_of (w ∷ fs) =
    cond (same_bytes w (ascii "true")) (some (plain Dtrue))
    (cond (same_bytes w (ascii "and")) (some (plain Dand))
    (cond (same_bytes w (ascii "left")) (some (plain Dleft))
    (cond (same_bytes w (ascii "right")) (some (plain Dright))
    (cond (same_bytes w (ascii "assume")) (some (plain Dassume))
    (cond (same_bytes w (ascii "some")) (some (Dsome (leaf (var 0))))
    (cond (same_bytes w (ascii "all")) (some (Dall (leaf (var 0)))) (place_of fs)))))))

-- A D line whose terms are over declared names, whatever their symbols, and whose place is small.
abbrev Fine : List Declaration → Line Symbol → Type 0
Fine ds x = FormedLine (declared ds) (λ s. Unit {0}) (λ k. k ≤ max_number) x

-- The fields tell the line without its terms.
bare_read : (ds : List Declaration) (x : Line Symbol) → Fine ds x → bare_of (line_fields ds x) ≡ some (bare x)
unfolding bare_of place_of line_fields bare FormedLine ascii same_bytes spell_word
bare_read ds (plain Dtrue) h = refl
bare_read ds (plain Dand) h = refl
bare_read ds (plain Dleft) h = refl
bare_read ds (plain Dright) h = refl
bare_read ds (plain Dassume) h = refl
bare_read ds (Dsome t) h = refl
bare_read ds (Dall t) h = refl
bare_read ds (Dclause k ts) h = ap (Option.map (λ n. Dclause n [])) (number_decimal k h.0)

module _ (ds : List Declaration) (names : Names ds) where
  -- Equal bytes have equal fields, so that they tell the same.
  bytes_bare : (x y : Line Symbol) → Fine ds x → Fine ds y → line_bytes ds (derivation_line x) ≡ line_bytes ds (derivation_line y)
      → bare x ≡ bare y
  unfolding text_fields
  bytes_bare x y h k e =
      let graphic : (z : Line Symbol) → Fine ds z → All Graphic (text_fields ds (derivation_line z)) =
      λ z l. line_graphic ds names (λ s. Unit {0}) (λ k. k ≤ max_number) z l in
      let all : text_fields ds (derivation_line x) ≡ text_fields ds (derivation_line y) =
      sym (graphic_fields ds (derivation_line x) (graphic x h)) ∙ ap fields e ∙ graphic_fields ds (derivation_line y) (graphic y k) in
      let same : line_fields ds x ≡ line_fields ds y = cc in
      let told : some (bare x) ≡ some (bare y) = sym (bare_read ds x h) ∙ ap bare_of same ∙ bare_read ds y k in
      cc

  all_bare : (ls ks : List (Line Symbol)) → All (Fine ds) ls → All (Fine ds) ks
      → map (λ x. line_bytes ds (derivation_line x)) ls ≡ map (λ x. line_bytes ds (derivation_line x)) ks → map bare ls ≡ map bare ks
  all_bare [] [] h k e = refl
  all_bare [] (y ∷ ks) h k e = absurd (let z : ◌≡◌ {A = ℕ} 0 1 = cc in omega arith)
  all_bare (x ∷ ls) [] h k e = absurd (let z : ◌≡◌ {A = ℕ} 0 1 = cc in omega arith)
  all_bare (x ∷ ls) (y ∷ ks) h k e = ap₂ ◌∷◌ (bytes_bare x y h.0 k.0 (cc)) (all_bare ls ks h.1 k.1 (cc))

  -- A line whose first field is `D` is a D line,
  starts_derivation : (fs : List (List ℕ)) → is_derivation (join (ascii "D" ∷ fs)) ≡ true
  unfolding is_derivation join ascii
  starts_derivation [] = refl
  starts_derivation (f ∷ fs) = refl

  -- so that these are kept,
  derivations_kept : (r : Renaming) (ls : List (Line Symbol))
      → derivations_among (map (line_bytes ds) (map (rename_text_line r) (map derivation_line ls)))
      ≡ map (λ x. line_bytes ds (derivation_line x)) (map (put_line (renamed r)) ls)
  unfolding derivations_among text_fields rename_text_line
  derivations_kept r [] = refl
  derivations_kept r (x ∷ ls) =
      rw (starts_derivation (line_fields ds (put_line (renamed r) x)))
      (ap (line_bytes ds (derivation_line (put_line (renamed r) x)) ∷◌) (derivations_kept r ls))

  -- and the B lines before them are not.
  bindings_dropped : (r : Renaming) (e : Environment Symbol) (vs : List ℕ) (ls : List (Line Symbol))
      → derivations_among (map (line_bytes ds) (map (rename_text_line r) (map (λ v. binding_line v (e v)) vs ++ map derivation_line ls)))
      ≡ map (λ x. line_bytes ds (derivation_line x)) (map (put_line (renamed r)) ls)
  unfolding derivations_among text_fields rename_text_line is_derivation join ascii
  bindings_dropped r e [] ls = derivations_kept r ls
  bindings_dropped r e (v ∷ vs) ls = bindings_dropped r e vs ls

  -- So of the lines of an answer the D lines are left.
  answer_derivations : (r : Renaming) (u : ℕ) (vs : List ℕ) (e : Environment Symbol) (ls : List (Line Symbol))
      → derivations_among (map (line_bytes ds) (map (rename_text_line r) (answer_lines u vs e ls)))
      ≡ map (λ x. line_bytes ds (derivation_line x)) (map (put_line (renamed r)) ls)
  unfolding derivations_among text_fields rename_text_line is_derivation join ascii answer_lines
  answer_derivations r u vs e ls = bindings_dropped r e vs ls

  -- With other numbers for its symbols a term is over declared names as before.
  renamed_formed : (r : Renaming) (n : ℕ) (a : Symbol) → SymbolUpTo n a → FormedTerm (renamed r a) (declared ds) (λ s. Unit {0})
  unfolding FormedTerm
  renamed_formed r n a h = tt

  renamed_fine : (r : Renaming) (n : ℕ) → n ≤ max_number → (x : Line Symbol)
      → FormedLine (declared ds) (SymbolUpTo n) (λ k. k ≤ n) x → Fine ds (put_line (renamed r) x)
  unfolding FormedLine
  renamed_fine r n small x h =
      small_place (put_line (renamed r) x)
      (formed_put_line x (renamed r) (declared ds) (SymbolUpTo n) (λ s. Unit {0}) (λ k. k ≤ n) (renamed_formed r n) h)
    where
      small_place : (y : Line Symbol) → FormedLine (declared ds) (λ s. Unit {0}) (λ k. k ≤ n) y → Fine ds y
      small_place (plain w) h = h
      small_place (Dsome t) h = h
      small_place (Dall t) h = h
      small_place (Dclause k ts) h = ((let l = h.0 in omega arith), h.1)

  -- So all fields of an answer are graphic.
  answer_graphic : (r : Renaming) (n u : ℕ) (vs : List ℕ) (e : Environment Symbol) (ls : List (Line Symbol)) → All SheetName vs
      → ShownUpTo (declared ds) n e ls → All (λ x. All Graphic (text_fields ds x)) (map (rename_text_line r) (answer_lines u vs e ls))
  unfolding answer_lines rename_text_line
  answer_graphic r n u vs e ls h k =
      all_map (rename_text_line r) Clean (λ x. All Graphic (text_fields ds x)) (λ x i. i) (answer_lines u vs e ls) (
        result_graphic ds u,
        all_append Clean (map (λ v. binding_line v (e v)) vs) (map derivation_line ls)
            (all_map (λ v. binding_line v (e v)) SheetName Clean binding vs h)
            (all_map derivation_line (FormedLine (declared ds) (SymbolUpTo n) (λ i. i ≤ n)) Clean derived ls k.lines),
      )
    where
      Clean : TextLine → Type 0
      Clean x = All Graphic (text_fields ds (rename_text_line r x))

      binding : (v : ℕ) → SheetName v → Clean (binding_line v (e v))
      binding v l =
          binding_graphic ds names (λ s. Unit {0}) v _
          (formed_substitute (e v) (renamed r) (declared ds) (SymbolUpTo n) (λ s. Unit {0}) (renamed_formed r n) (k.environment v l))

      derived : (x : Line Symbol) → FormedLine (declared ds) (SymbolUpTo n) (λ i. i ≤ n) x → Clean (derivation_line x)
      derived x i =
          line_graphic ds names (λ s. Unit {0}) (λ i. i ≤ n) _
          (formed_put_line x (renamed r) (declared ds) (SymbolUpTo n) (λ s. Unit {0}) (λ i. i ≤ n) (renamed_formed r n) i)

-- The lines as they stand in the text of a proof, with the numbers of first showing.
abbrev shown_lines : Sheet → Proof → List (Line Symbol)
shown_lines s p =
    let xs = answer_lines p.units (free_variables s.goal) (final_environment p.store) (final_lines p.store p.path) in
    map (put_line (renamed (numbering_of (shown xs)))) (final_lines p.store p.path)

-- Their bytes are the D lines of the text.
text_derivations : (s : Sheet) → Names s.symbols → (p : Proof) → FoundShows s (declared s.symbols) p
    → derivation_lines_of (found_text s p) ≡ map (λ x. line_bytes s.symbols (derivation_line x)) (shown_lines s p)
unfolding derivation_lines_of found_text search_text proof_text numbered
text_derivations s names p shows =
    let ds = s.symbols in
    let vs = free_variables s.goal in
    let e = final_environment p.store in
    let ls = final_lines p.store p.path in
    let r = numbering_of (shown (answer_lines p.units vs e ls)) in
    ap (λ (l : SplitLines). derivations_among l.whole)
    (graphic_lines ds (map (rename_text_line r) (answer_lines p.units vs e ls))
    (answer_graphic ds names r p.units p.units vs e ls (names_free s.goal) shows))
    ∙ answer_derivations ds names r p.units vs e ls

-- Without their terms they are those of the path.
map_reverse : {A B : Type 0} (f : A → B) (l r : List A) → map f (reverse_aux l r) ≡ reverse_aux (map f l) (map f r)
map_reverse f [] r = refl
map_reverse f (a ∷ l) r = map_reverse f l (a ∷ r)

shown_bare : (s : Sheet) (p : Proof) → map bare (shown_lines s p) ≡ reverse (map bare p.path)
unfolding final_lines
shown_bare s p =
    bare_lines _ (final_lines p.store p.path) ∙ bare_lines (final p.store) (reverse p.path) ∙ map_reverse bare p.path []

-- Texts with the same D lines are of paths with the same lines, terms aside.
same_path : (s : Sheet) → Names s.symbols → (p q : Proof) → Found s p × FoundShows s (declared s.symbols) p
    → Found s q × FoundShows s (declared s.symbols) q → derivation_lines_of (found_text s p) ≡ derivation_lines_of (found_text s q)
    → map bare p.path ≡ map bare q.path
same_path s names p q h k e =
    let ds = s.symbols in
    let fine : (o : Proof) → Found s o × FoundShows s (declared ds) o → All (Fine ds) (shown_lines s o) =
    λ o i. all_map (put_line (renamed _)) (FormedLine (declared ds) (SymbolUpTo o.units) (λ j. j ≤ o.units)) (Fine ds)
    (renamed_fine ds names _ o.units (let l = i.0.most in omega arith)) (final_lines o.store o.path) i.1.lines in
    let bytes = sym (text_derivations s names p h.1) ∙ e ∙ text_derivations s names q k.1 in
    let reversed =
    sym (shown_bare s p) ∙ all_bare ds names (shown_lines s p) (shown_lines s q) (fine p h) (fine q k) bytes ∙ shown_bare s q in
    sym (reverse-reverse (map bare p.path)) ∙ ap reverse reversed ∙ reverse-reverse (map bare q.path)

-- Paths that differ have texts that do.
different_texts : (s : Sheet) → Names s.symbols → (ps : List Proof)
    → All (λ p. Found s p × FoundShows s (declared s.symbols) p) ps → Different ps → DifferentTexts s ps
unfolding Different DifferentTexts
different_texts s names [] h d = tt
different_texts s names (p ∷ ps) h d = (others ps h.1 d.0, different_texts s names ps h.1 d.1)
  where
    others : (qs : List Proof) → All (λ q. Found s q × FoundShows s (declared s.symbols) q) qs
        → All (λ q. map bare p.path ≡ map bare q.path → ⊥) qs
        → All (λ q. derivation_lines_of (found_text s p) ≡ derivation_lines_of (found_text s q) → ⊥) qs
    others [] k x = tt
    others (q ∷ qs) k x = ((λ e. x.0 (same_path s names p q h.0 k.0 e)), others qs k.1 x.1)

pub text_path : TextTellsPath
text_path bytes s read wanted budget few =
    let well = good bytes s read in
    different_texts s well.names (proofs_of s wanted budget)
    (each_found s (declared s.symbols) (sheet_formed s well) wanted budget few)
    (all_paths (rules_of s) s.goal wanted budget).differ
