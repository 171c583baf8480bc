-- Request W-201: the text of lines, with the letters of its names folded, is their text with folded names. Folded names are names that are
-- told apart, and what can be written with them is what can be written.
use Prim.Native.Nat.{ℕ, zero, suc}
use mathlib.Core.Path.{◌≡◌, refl, sym, ◌∙◌, ap, ap₂}
use mathlib.Core.Bool.{true, false}
use mathlib.Core.List.{List, [], ◌∷◌, ◌++◌, append_assoc, map}
use mathlib.Core.Option
use mathlib.Core.Option.{Option, none, some}
use lib.Dec.{leb}
use lib.ListN.{get_elem?}
use borrow.Author.Tests.{ne_eqb, le-leb}
use native.Mathlib.Omega.{arith}
use Rattle.terms.specs.Lists.{All}
use Rattle.terms.specs.Terms.{Functor, sheet_symbol, numeral, leaf, app, Terms, nil, cons, count}
use Rattle.terms.proofs.Lists.{all_map, all_weaken, map_append}
use Rattle.sequents.specs.Symbols.{Symbol, made, leftover, Ground}
use Rattle.sequents.specs.Sequents.{plain, Dsome, Dall, Dclause}
use Rattle.sheet_format.specs.Bytes.{ascii, tab, lf, is_capital, is_name, decimal, folded, folded_name}
use Rattle.sheet_format.specs.Nodes.{Declaration}
use Rattle.sheet_format.proofs.Bytes.{Graphic}
use Rattle.sheet_format.proofs.Capitals.{folded_name_twice, decimal_folded, is_name_folded}
use Rattle.sheet_format.proofs.Names.{Names}
use Rattle.answer_texts.specs.TextLines.{TextLine, result_line, binding_line, derivation_line}
use Rattle.answer_texts.specs.Spelling.{name_in, name_of, spell_functor, spell_symbol, spell_term, spell_arguments, spell_more, join, text_line, spell_word}
use Rattle.answer_texts.specs.Spelling.{spell_terms, line_fields, text_fields, spell}
use Rattle.answer_texts.specs.Capitals.{small_from, small_text, small_declaration, small_names}
use Rattle.answer_texts.specs.Spelled.{has_arity, WritableFunctor, WritableTerm, WritableTerms, WritableLine, Writable}
use Rattle.text_judging.proofs.Reading.{text_fields_graphic}

-- names

-- What stands at a position of a mapped list is what stands there, mapped.
pub at_map : {A B : Type 0} (f : A → B) (l : List A) (i : ℕ) → get_elem? (map f l) i ≡ Option.map f (get_elem? l i)
at_map f [] i = refl
at_map f (a ∷ l) zero = refl
at_map f (a ∷ l) (suc i) = at_map f l i

-- Folded names are names that are told apart.
pub small_names_lem : (ds : List Declaration) → Names ds → Names (small_names ds)
unfolding small_declaration
small_names_lem ds ns =
    record {
      named = all_map small_declaration (λ d. is_name d.name ≡ true) (λ d. is_name d.name ≡ true)
          (λ d h. is_name_folded d.name ∙ h) ds ns.named;
      distinct = λ i j d e p q r. apart i j d e (get_elem? ds i) refl (get_elem? ds j) refl (sym (at_map small_declaration ds i) ∙ p)
          (sym (at_map small_declaration ds j) ∙ q) r;
    }
  where
    apart : (i j : ℕ) (d e : Declaration) (o : Option Declaration) → get_elem? ds i ≡ o → (u : Option Declaration) → get_elem? ds j ≡ u
        → Option.map small_declaration (get_elem? ds i) ≡ some d → Option.map small_declaration (get_elem? ds j) ≡ some e
        → folded_name d.name ≡ folded_name e.name → i ≡ j
    apart i j d e none p u q h k r = absurd (let z : ◌≡◌ {A = ℕ} 0 1 = cc in omega arith)
    apart i j d e (some a) p none q h k r = absurd (let z : ◌≡◌ {A = ℕ} 0 1 = cc in omega arith)
    apart i j d e (some a) p (some b) q h k r =
        let x : small_declaration a ≡ d = cc in
        let y : small_declaration b ≡ e = cc in
        ns.distinct i j a b p q
        (sym (folded_name_twice a.name) ∙ ap (λ (m : Declaration). folded_name m.name) x ∙ r
        ∙ ap (λ (m : Declaration). folded_name m.name) (sym y) ∙ folded_name_twice b.name)

-- The name of a symbol, folded, is its folded name.
name_small : (ds : List Declaration) (g : ℕ) → folded_name (name_of ds g) ≡ name_of (small_names ds) g
unfolding name_of name_in small_declaration
name_small ds g = go (get_elem? ds g) ∙ ap name_in (sym (at_map small_declaration ds g))
  where
    go : (o : Option Declaration) → folded_name (name_in o) ≡ name_in (Option.map small_declaration o)
    go none = refl
    go (some d) = refl

-- A functor, folded, is spelled with folded names; the digits of a number stay.
functor_small : (ds : List Declaration) (g : Functor) → folded_name (spell_functor ds g) ≡ spell_functor (small_names ds) g
unfolding spell_functor
functor_small ds (sheet_symbol g) = name_small ds g
functor_small ds (numeral n) = decimal_folded n

-- terms

-- A number and a level stay.
marked_small : (n k : ℕ) → folded_name (decimal n ++ (64 ∷ decimal k)) ≡ decimal n ++ (64 ∷ decimal k)
unfolding folded is_capital
marked_small n k =
    map_append folded (decimal n) (64 ∷ decimal k) ∙ ap₂ (λ (a b : List ℕ). a ++ (64 ∷ b)) (decimal_folded n) (decimal_folded k)

-- Made constants and leftover variables stay.
symbol_small : (s : Symbol) → folded_name (spell_symbol s) ≡ spell_symbol s
unfolding spell_symbol folded is_capital
symbol_small (made n k) = ap (33 ∷◌) (marked_small n k)
symbol_small (leftover n k) = ap (95 ∷◌) (marked_small n k)

mutual
  unfolding spell_term folded is_capital

  -- A term, folded, is spelled with folded names.
  pub term_small : (t : Ground) (ds : List Declaration) → folded_name (spell_term t ds) ≡ spell_term t (small_names ds)
  term_small (leaf s) ds = symbol_small s
  term_small (app g ts) ds =
      map_append folded (spell_functor ds g) (spell_arguments ts ds) ∙ ap₂ ◌++◌ (functor_small ds g) (arguments_small ts ds)

  arguments_small : (ts : Terms Symbol) (ds : List Declaration) → folded_name (spell_arguments ts ds) ≡ spell_arguments ts (small_names ds)
  arguments_small nil ds = refl
  arguments_small (cons t ts) ds =
      ap (40 ∷◌) (map_append folded (spell_term t ds) (spell_more ts ds) ∙ ap₂ ◌++◌ (term_small t ds) (more_small ts ds))

  more_small : (ts : Terms Symbol) (ds : List Declaration) → folded_name (spell_more ts ds) ≡ spell_more ts (small_names ds)
  more_small nil ds = refl
  more_small (cons t ts) ds =
      ap (44 ∷◌) (map_append folded (spell_term t ds) (spell_more ts ds) ∙ ap₂ ◌++◌ (term_small t ds) (more_small ts ds))

-- So are several.
terms_small : (ts : List Ground) (ds : List Declaration) → map folded_name (spell_terms ds ts) ≡ spell_terms (small_names ds) ts
unfolding spell_terms
terms_small [] ds = refl
terms_small (t ∷ ts) ds = ap₂ ◌∷◌ (term_small t ds) (terms_small ts ds)

-- fields

-- One of the first two fields stays.
field_kept : (k : ℕ) (b r : List ℕ) → leb 2 k ≡ false → Graphic b → small_from k (b ++ r) ≡ b ++ small_from k r
unfolding small_from
field_kept k [] r e h = refl
field_kept k (c ∷ cs) r e h =
    rw (ne_eqb c 10 (λ q. (let l = h.0 in omega arith)), small_from)
    (rw (ne_eqb c 9 (λ q. (let l = h.0 in omega arith))) (rw e (ap (c ∷◌) (field_kept k cs r e h.1))))

-- A later field is folded.
field_small : (k : ℕ) (b r : List ℕ) → leb 2 k ≡ true → Graphic b → small_from k (b ++ r) ≡ folded_name b ++ small_from k r
unfolding small_from
field_small k [] r e h = refl
field_small k (c ∷ cs) r e h =
    rw (ne_eqb c 10 (λ q. (let l = h.0 in omega arith)), small_from)
    (rw (ne_eqb c 9 (λ q. (let l = h.0 in omega arith))) (rw e (ap (folded c ∷◌) (field_small k cs r e h.1))))

-- All later fields are folded, to the end of the line.
fields_small : (k : ℕ) (fs : List (List ℕ)) (r : List ℕ) → All Graphic fs
    → small_from (suc (suc k)) (join fs ++ (lf ∷ r)) ≡ join (map folded_name fs) ++ (lf ∷ small_from 0 r)
unfolding join small_from
fields_small k [] r h = refl
fields_small k (f ∷ []) r h = field_small (suc (suc k)) f (lf ∷ r) (le-leb 2 (suc (suc k)) (omega arith)) h.0
fields_small k (f ∷ g ∷ fs) r h =
    ap (small_from (suc (suc k))) (append_assoc f (tab ∷ join (g ∷ fs)) (lf ∷ r))
    ∙ field_small (suc (suc k)) f (tab ∷ (join (g ∷ fs) ++ (lf ∷ r))) (le-leb 2 (suc (suc k)) (omega arith)) h.0
    ∙ ap (λ (x : List ℕ). folded_name f ++ (tab ∷ x)) (fields_small (suc k) (g ∷ fs) r h.1)
    ∙ sym (append_assoc (folded_name f) (tab ∷ join (map folded_name (g ∷ fs))) (lf ∷ small_from 0 r))

-- A whole line of at least two fields has the fields from the third on folded.
line_small : (a b : List ℕ) (fs : List (List ℕ)) (r : List ℕ) → All Graphic (a ∷ b ∷ fs)
    → small_from 0 (text_line (a ∷ b ∷ fs) ++ r) ≡ text_line (a ∷ b ∷ map folded_name fs) ++ small_from 0 r
unfolding text_line join small_from
line_small a b [] r h =
    ap (small_from 0) (append_assoc (a ++ (tab ∷ b)) (lf ∷ []) r ∙ append_assoc a (tab ∷ b) (lf ∷ r))
    ∙ field_kept 0 a (tab ∷ (b ++ (lf ∷ r))) refl h.0
    ∙ ap (λ (x : List ℕ). a ++ (tab ∷ x)) (field_kept 1 b (lf ∷ r) refl h.1.0)
    ∙ sym (append_assoc (a ++ (tab ∷ b)) (lf ∷ []) (small_from 0 r) ∙ append_assoc a (tab ∷ b) (lf ∷ small_from 0 r))
line_small a b (f ∷ fs) r h =
    ap (small_from 0) (opened b (join (f ∷ fs)) r)
    ∙ field_kept 0 a (tab ∷ (b ++ (tab ∷ (join (f ∷ fs) ++ (lf ∷ r))))) refl h.0
    ∙ ap (λ (x : List ℕ). a ++ (tab ∷ x)) (field_kept 1 b (tab ∷ (join (f ∷ fs) ++ (lf ∷ r))) refl h.1.0
    ∙ ap (λ (x : List ℕ). b ++ (tab ∷ x)) (fields_small 0 (f ∷ fs) r h.1.1))
    ∙ sym (opened b (join (map folded_name (f ∷ fs))) (small_from 0 r))
  where
    opened : (c j q : List ℕ) → ((a ++ (tab ∷ (c ++ (tab ∷ j)))) ++ (lf ∷ [])) ++ q ≡ a ++ (tab ∷ (c ++ (tab ∷ (j ++ (lf ∷ q)))))
    opened c j q =
        append_assoc (a ++ (tab ∷ (c ++ (tab ∷ j)))) (lf ∷ []) q ∙ append_assoc a (tab ∷ (c ++ (tab ∷ j))) (lf ∷ q)
        ∙ ap (λ (x : List ℕ). a ++ (tab ∷ x)) (append_assoc c (tab ∷ j) (lf ∷ q))

-- lines

-- A line, folded, is the line with folded names.
spelled_small : (ds : List Declaration) (x : TextLine) (r : List ℕ) → Names ds → Writable ds x
    → small_from 0 (text_line (text_fields ds x) ++ r) ≡ text_line (text_fields (small_names ds) x) ++ small_from 0 r
unfolding text_fields line_fields
spelled_small ds x r ns w = go x (text_fields_graphic ds x ns w)
  where
    rest : (a b : List ℕ) (fs gs : List (List ℕ)) → map folded_name fs ≡ gs → All Graphic (a ∷ b ∷ fs)
        → small_from 0 (text_line (a ∷ b ∷ fs) ++ r) ≡ text_line (a ∷ b ∷ gs) ++ small_from 0 r
    rest a b fs gs e h = line_small a b fs r h ∙ ap (λ (ys : List (List ℕ)). text_line (a ∷ b ∷ ys) ++ small_from 0 r) e

    one : (t : Ground) → map folded_name (spell_term t ds ∷ []) ≡ spell_term t (small_names ds) ∷ []
    one t = ap (λ (b : List ℕ). b ∷ []) (term_small t ds)

    go : (y : TextLine) → All Graphic (text_fields ds y)
        → small_from 0 (text_line (text_fields ds y) ++ r) ≡ text_line (text_fields (small_names ds) y) ++ small_from 0 r
    go (result_line n) h = rest (ascii "R") (ascii "proved") (decimal n ∷ []) _ (ap (λ (b : List ℕ). b ∷ []) (decimal_folded n)) h
    go (binding_line v t) h = rest (ascii "B") (decimal v) (spell_term t ds ∷ []) _ (one t) h
    go (derivation_line (plain u)) h = rest (ascii "D") (spell_word u) [] [] refl h
    go (derivation_line (Dsome t)) h = rest (ascii "D") (ascii "some") (spell_term t ds ∷ []) _ (one t) h
    go (derivation_line (Dall t)) h = rest (ascii "D") (ascii "all") (spell_term t ds ∷ []) _ (one t) h
    go (derivation_line (Dclause k ts)) h =
        rest (ascii "D") (ascii "clause") (decimal k ∷ spell_terms ds ts) _ (ap₂ ◌∷◌ (decimal_folded k) (terms_small ts ds)) h

-- The text of lines, folded, is their text with folded names.
pub spell_small : (ds : List Declaration) (xs : List TextLine) → Names ds → All (Writable ds) xs
    → small_text (spell ds xs) ≡ spell (small_names ds) xs
unfolding small_text spell small_from
spell_small ds [] ns w = refl
spell_small ds (x ∷ xs) ns w =
    spelled_small ds x (spell ds xs) ns w.0 ∙ ap (text_line (text_fields (small_names ds) x) ++◌) (spell_small ds xs ns w.1)

-- what can be written

-- Folding names keeps kinds and arities.
pub arity_small : (ds : List Declaration) (n g : ℕ) → has_arity n (get_elem? (small_names ds) g) ≡ has_arity n (get_elem? ds g)
unfolding has_arity small_declaration
arity_small ds n g = ap (has_arity n) (at_map small_declaration ds g) ∙ go (get_elem? ds g)
  where
    go : (o : Option Declaration) → has_arity n (Option.map small_declaration o) ≡ has_arity n o
    go none = refl
    go (some d) = refl

-- What can be written depends on kinds and arities alone.
module _ (ds es : List Declaration) (same : (n g : ℕ) → has_arity n (get_elem? es g) ≡ has_arity n (get_elem? ds g)) where
  functor_alike : (g : Functor) (n : ℕ) → WritableFunctor ds g n → WritableFunctor es g n
  unfolding WritableFunctor
  functor_alike (sheet_symbol g) n h = same n g ∙ h
  functor_alike (numeral m) n h = h

  mutual
    unfolding WritableTerm

    term_alike : (t : Ground) → WritableTerm t ds → WritableTerm t es
    term_alike (leaf s) h = h
    term_alike (app g ts) h = (functor_alike g (count ts) h.0, terms_alike ts h.1)

    terms_alike : (ts : Terms Symbol) → WritableTerms ts ds → WritableTerms ts es
    terms_alike nil h = tt
    terms_alike (cons t ts) h = (term_alike t h.0, terms_alike ts h.1)

  line_alike : (x : TextLine) → Writable ds x → Writable es x
  unfolding Writable WritableLine
  line_alike (result_line n) h = h
  line_alike (binding_line v t) h = (h.0, term_alike t h.1)
  line_alike (derivation_line (plain w)) h = tt
  line_alike (derivation_line (Dsome t)) h = term_alike t h
  line_alike (derivation_line (Dall t)) h = term_alike t h
  line_alike (derivation_line (Dclause k ts)) h = (h.0, all_weaken (λ t. WritableTerm t ds) (λ t. WritableTerm t es) term_alike ts h.1)

  lines_alike : (xs : List TextLine) → All (Writable ds) xs → All (Writable es) xs
  lines_alike xs h = all_weaken (Writable ds) (Writable es) line_alike xs h

-- So the same lines can be written with folded names.
pub to_small : (ds : List Declaration) (xs : List TextLine) → All (Writable ds) xs → All (Writable (small_names ds)) xs
to_small ds = lines_alike ds (small_names ds) (arity_small ds)

pub from_small : (ds : List Declaration) (xs : List TextLine) → All (Writable (small_names ds)) xs → All (Writable ds) xs
from_small ds = lines_alike (small_names ds) ds (λ n g. sym (arity_small ds n g))
