-- The bytes of lines that are spelled: over declared names no field has a tab or an LF, so that a text is split into its lines, and these
-- into their fields, again.
use Prim.Native.Nat.{ℕ, ◌<◌}
use Prim.Native.Char.{code}
use mathlib.Core.Path.{◌≡◌, refl, ◌∙◌, ap}
use mathlib.Core.List.{List, [], ◌∷◌, ◌++◌, map, append_assoc, cons≢nil}
use native.Mathlib.Omega.{arith}
use Rattle.terms.specs.Lists.{All}
use Rattle.terms.specs.Terms.{Functor, sheet_symbol, numeral, leaf, app, Terms, nil, cons, count}
use Rattle.terms.proofs.Lists.{all_append, all_map, all_weaken}
use Rattle.sequents.specs.Symbols.{Symbol, made, leftover, Ground}
use Rattle.sequents.specs.Sequents.{Dtrue, Dand, Dleft, Dright, Dassume, Line, plain, Dsome, Dall, Dclause}
use Rattle.search.proofs.Formed.{FormedTerm, FormedTerms, FormedLine}
use Rattle.sheet_format.specs.Bytes.{ascii, tab, lf, lines_of, fields, decimal}
use Rattle.sheet_format.specs.Nodes.{Declaration}
use Rattle.sheet_format.proofs.Bytes.{Without, Graphic, graphic_without, name_is_graphic, lines}
use Rattle.sheet_format.proofs.Numbers.{decimal_graphic}
use Rattle.sheet_format.proofs.Names.{Names}
use Rattle.sheet_format.proofs.Formed.{Takes}
use Rattle.answer_texts.specs.TextLines.{TextLine, result_line, binding_line, derivation_line}
use Rattle.answer_texts.specs.Spelling.{name_of, spell_functor, spell_symbol, spell_term, spell_arguments, spell_more, join, text_line}
use Rattle.answer_texts.specs.Spelling.{spell_word, spell_terms, line_fields, text_fields, spell}
use Rattle.answer_texts.specs.Spelled.{unlines}
use Rattle.answer_texts.proofs.Declared.{marked, name_of_lem}
use Rattle.answer_texts.proofs.Splitting.{lines_of_whole, fields_join, join_without}
use Rattle.answer_texts.proofs.SoundWritable.{declared}

-- The bytes of a symbol after its first byte are graphic.
marked_graphic : (n k : ℕ) → Graphic (marked n k)
marked_graphic n k = all_append (λ d. 32 < d) (decimal n) (code "@" ∷ decimal k) (decimal_graphic n) (omega arith, decimal_graphic k)

-- The bytes of a symbol are graphic.
symbol_graphic : (s : Symbol) → Graphic (spell_symbol s)
unfolding spell_symbol
symbol_graphic (made n k) = (omega arith, marked_graphic n k)
symbol_graphic (leftover n k) = (omega arith, marked_graphic n k)

-- Over declared names, whatever the symbols are.
module _ (ds : List Declaration) (names : Names ds) (P : Symbol → Type 0) where
  -- What stands before arguments is graphic.
  functor_graphic : (f : Functor) (n : ℕ) → Takes ds f n → Graphic (spell_functor ds f)
  unfolding Takes spell_functor
  functor_graphic (sheet_symbol f) n h = name_is_graphic (name_of ds f) (name_of_lem ds f n names h)
  functor_graphic (numeral m) n h = decimal_graphic m

  -- The bytes of a term are graphic.
  mutual
    unfolding spell_term FormedTerm

    pub term_graphic : (t : Ground) → FormedTerm t (declared ds) P → Graphic (spell_term t ds)
    term_graphic (leaf s) h = symbol_graphic s
    term_graphic (app f ts) h =
        all_append (λ d. 32 < d) (spell_functor ds f) (spell_arguments ts ds) (functor_graphic f (count ts) h.0)
        (arguments_graphic ts h.1)

    arguments_graphic : (ts : Terms Symbol) → FormedTerms ts (declared ds) P → Graphic (spell_arguments ts ds)
    arguments_graphic nil h = tt
    arguments_graphic (cons t ts) h =
        (omega arith, all_append (λ d. 32 < d) (spell_term t ds) (spell_more ts ds) (term_graphic t h.0) (more_graphic ts h.1))

    more_graphic : (ts : Terms Symbol) → FormedTerms ts (declared ds) P → Graphic (spell_more ts ds)
    more_graphic nil h = (omega arith, tt)
    more_graphic (cons t ts) h =
        (omega arith, all_append (λ d. 32 < d) (spell_term t ds) (spell_more ts ds) (term_graphic t h.0) (more_graphic ts h.1))

  -- The fields of a D line are graphic.
  pub line_graphic : (Q : ℕ → Type 0) (x : Line Symbol) → FormedLine (declared ds) P Q x
      → All Graphic (text_fields ds (derivation_line x))
  unfolding text_fields line_fields FormedLine spell_terms ascii spell_word
  line_graphic Q (plain Dtrue) h = omega arith
  line_graphic Q (plain Dand) h = omega arith
  line_graphic Q (plain Dleft) h = omega arith
  line_graphic Q (plain Dright) h = omega arith
  line_graphic Q (plain Dassume) h = omega arith
  line_graphic Q (Dsome t) h = (omega arith, (omega arith, (term_graphic t h, tt)))
  line_graphic Q (Dall t) h = (omega arith, (omega arith, (term_graphic t h, tt)))
  line_graphic Q (Dclause k ts) h = (
    omega arith,
    (omega arith, (decimal_graphic k, all_map (λ t. spell_term t ds) (λ t. FormedTerm t (declared ds) P) Graphic term_graphic ts h.1)),
  )

  -- The fields of a B line are graphic.
  pub binding_graphic : (v : ℕ) (t : Ground) → FormedTerm t (declared ds) P → All Graphic (text_fields ds (binding_line v t))
  unfolding text_fields ascii
  binding_graphic v t h = (omega arith, (decimal_graphic v, (term_graphic t h, tt)))

-- The fields of an R line are graphic.
pub result_graphic : (ds : List Declaration) (n : ℕ) → All Graphic (text_fields ds (result_line n))
unfolding text_fields ascii
result_graphic ds n = (omega arith, (omega arith, (decimal_graphic n, tt)))

-- There is a field.
pub text_fields_nonempty : (ds : List Declaration) (x : TextLine) → text_fields ds x ≡ [] → ⊥
unfolding text_fields
text_fields_nonempty ds (result_line n) e = cons≢nil e
text_fields_nonempty ds (binding_line v t) e = cons≢nil e
text_fields_nonempty ds (derivation_line x) e = cons≢nil e

-- The bytes of a line without its LF.
abbrev pub line_bytes : List Declaration → TextLine → List ℕ
line_bytes ds x = join (text_fields ds x)

-- A text is its lines, each with its LF.
pub spell_unlines : (ds : List Declaration) (xs : List TextLine) → spell ds xs ≡ unlines (map (line_bytes ds) xs)
unfolding spell unlines text_line
spell_unlines ds [] = refl
spell_unlines ds (x ∷ xs) =
    append_assoc (line_bytes ds x) (lf ∷ []) (spell ds xs) ∙ ap (λ (b : List ℕ). line_bytes ds x ++ (lf ∷ b)) (spell_unlines ds xs)

-- A line whose fields are graphic is split into them again,
pub graphic_fields : (ds : List Declaration) (x : TextLine) → All Graphic (text_fields ds x) → fields (line_bytes ds x) ≡ text_fields ds x
graphic_fields ds x h =
    fields_join (text_fields ds x) (text_fields_nonempty ds x)
    (all_weaken Graphic (Without tab) (graphic_without tab (omega arith)) (text_fields ds x) h)

-- and has no LF.
pub graphic_line : (ds : List Declaration) (x : TextLine) → All Graphic (text_fields ds x) → Without lf (line_bytes ds x)
graphic_line ds x h =
    join_without (text_fields ds x) (all_weaken Graphic (Without lf) (graphic_without lf (omega arith)) (text_fields ds x) h)

-- So a text of such lines is split into them again, with nothing after the last LF.
pub graphic_lines : (ds : List Declaration) (xs : List TextLine) → All (λ x. All Graphic (text_fields ds x)) xs
    → lines_of (spell ds xs) ≡ lines (map (line_bytes ds) xs) []
graphic_lines ds xs h =
    ap lines_of (spell_unlines ds xs)
    ∙ lines_of_whole (map (line_bytes ds) xs)
    (all_map (line_bytes ds) (λ x. All Graphic (text_fields ds x)) (Without lf) (λ x k. graphic_line ds x k) xs h)
