-- Lines of a text: `read_line` reads back the fields that `text_fields` writes, and only those; so for whole lines and for texts.
use Prim.Native.Nat.{ℕ, ◌≤◌}
use mathlib.Core.Path.{◌≡◌, refl, sym, ◌∙◌, ap, ap₂, subst}
use mathlib.Core.Bool.{cond}
use mathlib.Core.List.{List, [], ◌∷◌, map}
use mathlib.Core.Option
use mathlib.Core.Option.{Option, none, some}
use Rattle.terms.specs.Lists.{All}
use Rattle.terms.proofs.Lists.{all_weaken, all_map}
use Rattle.sequents.specs.Symbols.{Ground}
use Rattle.sequents.specs.Sequents.{Word, Dtrue, Dand, Dleft, Dright, Dassume, plain, Dsome, Dall, Dclause}
use Rattle.sheet_format.specs.Limits.{max_number}
use Rattle.sheet_format.specs.Bytes.{ascii, lf, lines_of, fields, number, decimal, same_bytes}
use Rattle.sheet_format.specs.Nodes.{Declaration}
use Rattle.sheet_format.proofs.Options.{OnSome, cond_some, map_some, some_is}
use Rattle.sheet_format.proofs.Bytes.{same_equal, Without, Graphic, lines}
use Rattle.sheet_format.proofs.Numbers.{number_decimal, number_some}
use Rattle.sheet_format.proofs.Names.{Names}
use Rattle.answer_texts.specs.TextLines.{TextLine, result_line, binding_line, derivation_line}
use Rattle.answer_texts.specs.Spelling.{spell_term, spell_word, spell_terms, line_fields, text_fields, spell}
use Rattle.answer_texts.specs.Spelled.{SmallSymbol, WritableTerm, WritableLine, Writable, unlines}
use Rattle.text_judging.specs.Reading.{term_field, cons_field, term_fields, plain_line, term_line, use_line, clause_fields, by_word}
use Rattle.text_judging.specs.Reading.{derivation_fields, result_fields, binding_of, binding_fields, read_line}
use Rattle.answer_texts.proofs.Splitting.{unlines_injective}
use Rattle.answer_texts.proofs.SoundWritable.{formed_term, formed_line}
pub use Rattle.answer_texts.proofs.SpelledLines.{line_bytes, spell_unlines}
use Rattle.answer_texts.proofs.SpelledLines.{line_graphic, binding_graphic, result_graphic, graphic_fields, graphic_line, graphic_lines}
use Rattle.text_judging.proofs.ReadTerms.{read_field, term_field_some}

-- fields of a line that is written

-- Terms are read back from the fields that spell them.
read_terms : (ts : List Ground) (ds : List Declaration) → Names ds → All (λ t. WritableTerm t ds) ts
    → term_fields ds (spell_terms ds ts) ≡ some ts
unfolding term_fields spell_terms cons_field
read_terms [] ds ns w = refl
read_terms (t ∷ ts) ds ns w = ap₂ cons_field (read_field t ds ns w.0) (read_terms ts ds ns w.1)

-- The fields of a line are read back as that line.
pub read_spell : (ds : List Declaration) (x : TextLine) → Names ds → Writable ds x → read_line ds (text_fields ds x) ≡ some x
unfolding read_line text_fields line_fields Writable WritableLine result_fields binding_fields binding_of term_line derivation_fields by_word
    plain_line clause_fields use_line ascii same_bytes spell_word
read_spell ds (result_line n) ns w = ap (Option.map result_line) (number_decimal n w)
read_spell ds (binding_line v t) ns w = rw (number_decimal v w.0) (ap (Option.map (binding_line v)) (read_field t ds ns w.1))
read_spell ds (derivation_line (plain Dtrue)) ns w = refl
read_spell ds (derivation_line (plain Dand)) ns w = refl
read_spell ds (derivation_line (plain Dleft)) ns w = refl
read_spell ds (derivation_line (plain Dright)) ns w = refl
read_spell ds (derivation_line (plain Dassume)) ns w = refl
read_spell ds (derivation_line (Dsome t)) ns w = ap (Option.map (λ u. derivation_line (Dsome u))) (read_field t ds ns w)
read_spell ds (derivation_line (Dall t)) ns w = ap (Option.map (λ u. derivation_line (Dall u))) (read_field t ds ns w)
read_spell ds (derivation_line (Dclause k ts)) ns w = ap₂ use_line (number_decimal k w.0) (read_terms ts ds ns w.1)

-- fields of a line that is read

-- The fields are those of the line, which can be written.
abbrev pub Spells : List Declaration → List (List ℕ) → TextLine → Type 0
Spells ds fs x = (text_fields ds x ≡ fs) × Writable ds x

-- Terms that are read from a field and from further fields are spelled by all these fields.
cons_field_some : (ds : List Declaration) (b : List ℕ) (fs : List (List ℕ)) (o : Option Ground) (p : Option (List Ground))
    → OnSome (λ t. (spell_term t ds ≡ b) × WritableTerm t ds) o → OnSome (λ ts. (spell_terms ds ts ≡ fs) × All (λ t. WritableTerm t ds) ts) p
    → OnSome (λ ts. (spell_terms ds ts ≡ b ∷ fs) × All (λ t. WritableTerm t ds) ts) (cons_field o p)
unfolding cons_field spell_terms
cons_field_some ds b fs none p h k = tt
cons_field_some ds b fs (some t) none h k = tt
cons_field_some ds b fs (some t) (some ts) h k = (ap₂ ◌∷◌ h.0 k.0, (h.1, k.1))

-- Terms that are read from fields are spelled by the fields and can be written.
term_fields_some : (ds : List Declaration) (fs : List (List ℕ))
    → OnSome (λ ts. (spell_terms ds ts ≡ fs) × All (λ t. WritableTerm t ds) ts) (term_fields ds fs)
unfolding term_fields spell_terms
term_fields_some ds [] = (refl, tt)
term_fields_some ds (f ∷ fs) = cons_field_some ds f fs (term_field ds f) (term_fields ds fs) (term_field_some ds f) (term_fields_some ds fs)

-- What holds of each line whose one term the fields spell holds of the line that `term_line` reads.
term_line_some : (P : TextLine → Type 0) (l : Ground → TextLine) (ds : List Declaration) (fs : List (List ℕ))
    → ((t : Ground) → spell_term t ds ∷ [] ≡ fs → WritableTerm t ds → P (l t)) → OnSome P (term_line l ds fs)
unfolding term_line
term_line_some P l ds [] h = tt
term_line_some P l ds (f ∷ []) h =
    map_some (λ t. (spell_term t ds ≡ f) × WritableTerm t ds) P l (λ t k. h t (ap (◌∷ []) k.0) k.1) (term_field ds f)
    (term_field_some ds f)
term_line_some P l ds (f ∷ g ∷ fs) h = tt

-- A line that is read as a word alone is spelled so.
plain_line_some : (ds : List Declaration) (w : Word) (fs : List (List ℕ))
    → OnSome (Spells ds (ascii "D" ∷ spell_word w ∷ fs)) (plain_line w fs)
unfolding plain_line text_fields line_fields Writable WritableLine
plain_line_some ds w [] = (refl, tt)
plain_line_some ds w (f ∷ fs) = tt

use_line_some : (ds : List Declaration) (b : List ℕ) (fs : List (List ℕ)) (o : Option ℕ) (p : Option (List Ground))
    → OnSome (λ k. (b ≡ decimal k) × (k ≤ max_number)) o
    → OnSome (λ ts. (spell_terms ds ts ≡ fs) × All (λ t. WritableTerm t ds) ts) p
    → OnSome (Spells ds (ascii "D" ∷ ascii "clause" ∷ b ∷ fs)) (use_line o p)
unfolding use_line text_fields line_fields Writable WritableLine
use_line_some ds b fs none p h k = tt
use_line_some ds b fs (some n) none h k = tt
use_line_some ds b fs (some n) (some ts) h k =
    (ap₂ (λ (x : List ℕ) (y : List (List ℕ)). ascii "D" ∷ ascii "clause" ∷ x ∷ y) (sym h.0) k.0, (h.1, k.1))

-- A line that is read as a place and terms is spelled so.
clause_fields_some : (ds : List Declaration) (fs : List (List ℕ)) → OnSome (Spells ds (ascii "D" ∷ ascii "clause" ∷ fs)) (clause_fields ds fs)
unfolding clause_fields
clause_fields_some ds [] = tt
clause_fields_some ds (k ∷ fs) = use_line_some ds k fs (number k) (term_fields ds fs) (number_some k) (term_fields_some ds fs)

-- A field that is the word v is read as v says, and another field as the words after v say.
word_some : (P : List ℕ → TextLine → Type 0) (w v : List ℕ) (x y : Option TextLine) → OnSome (P v) x → OnSome (P w) y
    → OnSome (P w) (cond (same_bytes w v) x y)
word_some P w v x y h k =
    cond_some (P w) (same_bytes w v) x y (λ e. subst (λ (u : List ℕ). OnSome (P u) x) (sym (same_equal w v e)) h) (λ e. k)

-- A D line that is read by its word is spelled so, whichever word it is.
by_word_some : (ds : List Declaration) (w : List ℕ) (fs : List (List ℕ)) → OnSome (Spells ds (ascii "D" ∷ w ∷ fs)) (by_word ds w fs)
unfolding by_word spell_word text_fields line_fields Writable WritableLine
by_word_some ds w fs =
    word_some P w (ascii "true") _ _ (plain_line_some ds Dtrue fs)
    (word_some P w (ascii "and") _ _ (plain_line_some ds Dand fs)
    (word_some P w (ascii "left") _ _ (plain_line_some ds Dleft fs)
    (word_some P w (ascii "right") _ _ (plain_line_some ds Dright fs)
    (word_some P w (ascii "assume") _ _ (plain_line_some ds Dassume fs)
    (word_some P w (ascii "some") _ _
    (term_line_some (P (ascii "some")) (λ t. derivation_line (Dsome t)) ds fs
    (λ t e k. (ap (λ (r : List (List ℕ)). ascii "D" ∷ ascii "some" ∷ r) e, k)))
    (word_some P w (ascii "all") _ _
    (term_line_some (P (ascii "all")) (λ t. derivation_line (Dall t)) ds fs
    (λ t e k. (ap (λ (r : List (List ℕ)). ascii "D" ∷ ascii "all" ∷ r) e, k)))
    (word_some P w (ascii "clause") _ _ (clause_fields_some ds fs) tt)))))))
  where
    P : List ℕ → TextLine → Type 0
    P u x = Spells ds (ascii "D" ∷ u ∷ fs) x

-- A D line that is read is spelled so.
derivation_fields_some : (ds : List Declaration) (fs : List (List ℕ)) → OnSome (Spells ds (ascii "D" ∷ fs)) (derivation_fields ds fs)
unfolding derivation_fields
derivation_fields_some ds [] = tt
derivation_fields_some ds (w ∷ fs) = by_word_some ds w fs

-- An R line that is read is spelled so.
result_fields_some : (ds : List Declaration) (fs : List (List ℕ)) → OnSome (Spells ds (ascii "R" ∷ fs)) (result_fields fs)
unfolding result_fields text_fields Writable
result_fields_some ds [] = tt
result_fields_some ds (o ∷ []) = tt
result_fields_some ds (o ∷ n ∷ []) =
    word_some (λ u. Spells ds (ascii "R" ∷ u ∷ n ∷ [])) o (ascii "proved") (Option.map result_line (number n)) none
    (map_some (λ k. (n ≡ decimal k) × (k ≤ max_number)) (Spells ds (ascii "R" ∷ ascii "proved" ∷ n ∷ [])) result_line
    (λ k h. (ap (λ (x : List ℕ). ascii "R" ∷ ascii "proved" ∷ x ∷ []) (sym h.0), h.1)) (number n) (number_some n)) tt
result_fields_some ds (o ∷ n ∷ f ∷ fs) = tt

-- A B line that is read as a variable and its term is spelled so.
with_variable_some : (ds : List Declaration) (b : List ℕ) (fs : List (List ℕ)) (o : Option ℕ)
    → OnSome (λ v. (b ≡ decimal v) × (v ≤ max_number)) o
    → OnSome (Spells ds (ascii "B" ∷ b ∷ fs)) (binding_of o ds fs)
unfolding binding_of text_fields Writable
with_variable_some ds b fs none h = tt
with_variable_some ds b fs (some v) h =
    term_line_some (Spells ds (ascii "B" ∷ b ∷ fs)) (binding_line v) ds fs
    (λ t e k. (ap₂ (λ (x : List ℕ) (y : List (List ℕ)). ascii "B" ∷ x ∷ y) (sym h.0) e, (h.1, k)))

-- A B line that is read is spelled so.
binding_fields_some : (ds : List Declaration) (fs : List (List ℕ)) → OnSome (Spells ds (ascii "B" ∷ fs)) (binding_fields ds fs)
unfolding binding_fields
binding_fields_some ds [] = tt
binding_fields_some ds (v ∷ fs) = with_variable_some ds v fs (number v) (number_some v)

-- What is read, whichever line it is.
pub read_line_some : (ds : List Declaration) (fs : List (List ℕ)) → OnSome (Spells ds fs) (read_line ds fs)
unfolding read_line
read_line_some ds [] = tt
read_line_some ds (f ∷ fs) =
    word_some P f (ascii "R") _ _ (result_fields_some ds fs)
    (word_some P f (ascii "B") _ _ (binding_fields_some ds fs)
    (word_some P f (ascii "D") _ _ (derivation_fields_some ds fs) tt))
  where
    P : List ℕ → TextLine → Type 0
    P u x = Spells ds (u ∷ fs) x

-- A line that is read has these fields, and can be written.
pub spell_read : (ds : List Declaration) (fs : List (List ℕ)) (x : TextLine) → read_line ds fs ≡ some x → (text_fields ds x ≡ fs)
    × Writable ds x
spell_read ds fs x e = some_is (Spells ds fs) (read_line ds fs) x (read_line_some ds fs) e

-- bytes of lines

-- The fields are graphic,
pub text_fields_graphic : (ds : List Declaration) (x : TextLine) → Names ds → Writable ds x → All Graphic (text_fields ds x)
unfolding Writable
text_fields_graphic ds (result_line n) ns w = result_graphic ds n
text_fields_graphic ds (binding_line v t) ns w = binding_graphic ds ns SmallSymbol v t (formed_term t ds w.1)
text_fields_graphic ds (derivation_line x) ns w = line_graphic ds ns SmallSymbol (λ k. k ≤ max_number) x (formed_line x ds w)

-- so that the bytes of a line have no LF,
pub line_bytes_without : (ds : List Declaration) (x : TextLine) → Names ds → Writable ds x → Without lf (line_bytes ds x)
line_bytes_without ds x ns w = graphic_line ds x (text_fields_graphic ds x ns w)

-- and are split into the fields again.
pub fields_spell : (ds : List Declaration) (x : TextLine) → Names ds → Writable ds x → fields (line_bytes ds x) ≡ text_fields ds x
fields_spell ds x ns w = graphic_fields ds x (text_fields_graphic ds x ns w)

-- texts

-- None of the lines of a text has an LF.
pub all_bytes_without : (ds : List Declaration) (xs : List TextLine) → Names ds → All (Writable ds) xs
    → All (Without lf) (map (line_bytes ds) xs)
all_bytes_without ds xs ns w = all_map (line_bytes ds) (Writable ds) (Without lf) (λ x h. line_bytes_without ds x ns h) xs w

-- It is split into these lines again, with nothing after the last LF.
pub lines_of_spell : (ds : List Declaration) (xs : List TextLine) → Names ds → All (Writable ds) xs
    → lines_of (spell ds xs) ≡ lines (map (line_bytes ds) xs) []
lines_of_spell ds xs ns w =
    graphic_lines ds xs (all_weaken (Writable ds) (λ x. All Graphic (text_fields ds x)) (λ x. text_fields_graphic ds x ns) xs w)

-- Whole lines that together are a text are its lines.
pub spell_lines : (ds : List Declaration) (ls : List (List ℕ)) (xs : List TextLine) → Names ds → All (Without lf) ls
    → All (Writable ds) xs → unlines ls ≡ spell ds xs
    → ls ≡ map (line_bytes ds) xs
spell_lines ds ls xs ns h w e = unlines_injective ls (map (line_bytes ds) xs) h (all_bytes_without ds xs ns w) (e ∙ spell_unlines ds xs)
