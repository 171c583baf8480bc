-- Numbering by first showing, of lines: lines pass the test exactly if they are numbered already, and what `numbered` makes passes.
use mathlib.Core.Path.{◌≡◌, refl, sym, ◌∙◌, ap, ap₂}
use mathlib.Core.List.{List, [], ◌∷◌, ◌++◌, map}
use mathlib.Core.Option.{some}
use Rattle.terms.specs.Lists.{All}
use Rattle.terms.specs.Terms.{leaf, app, Terms, nil, cons, substitute, substitutes}
use Rattle.terms.proofs.Lists.{map_append}
use Rattle.sequents.specs.Symbols.{Symbol, Ground}
use Rattle.sequents.specs.Sequents.{Line, plain, Dsome, Dall, Dclause, put_line}
use Rattle.sequents.specs.Renamings.{Renaming, rename, renamed, rename_line}
use Rattle.answer_texts.specs.TextLines.{TextLine, result_line, binding_line, derivation_line, line_terms, terms_of, rename_text_line}
use Rattle.answer_texts.specs.Numbering.{symbols_in, symbols_in_all, symbols_of, shown, numbering_of, numbered}
use Rattle.text_judging.specs.Judging.{Seen, show_symbols}
use Rattle.text_judging.proofs.Showings.{unseen, shows_fixed, renamed_shows}

-- What holds of two lists joined holds of each.
all_split : {A : Type 0} (P : A → Type 0) (x y : List A) → All P (x ++ y) → All P x × All P y
all_split P [] y h = (tt, h)
all_split P (a ∷ x) y h = let r = all_split P x y h.1 in ((h.0, r.0), r.1)

-- The symbols of a renamed term are its symbols, renamed.
mutual
  unfolding symbols_in substitute

  symbols_in_rename : (t : Ground) (r : Renaming) → symbols_in (substitute t (renamed r)) ≡ map (rename r) (symbols_in t)
  symbols_in_rename (leaf s) r = refl
  symbols_in_rename (app f ts) r = symbols_in_all_rename ts r

  symbols_in_all_rename : (ts : Terms Symbol) (r : Renaming) → symbols_in_all (substitutes ts (renamed r)) ≡ map (rename r) (symbols_in_all ts)
  symbols_in_all_rename nil r = refl
  symbols_in_all_rename (cons t ts) r =
      ap₂ ◌++◌ (symbols_in_rename t r) (symbols_in_all_rename ts r) ∙ sym (map_append (rename r) (symbols_in t) (symbols_in_all ts))

-- The symbols of a renamed list of terms are its symbols, renamed.
symbols_of_rename : (ts : List Ground) (r : Renaming) → symbols_of (map (λ t. substitute t (renamed r)) ts) ≡ map (rename r) (symbols_of ts)
unfolding symbols_of
symbols_of_rename [] r = refl
symbols_of_rename (t ∷ ts) r =
    ap₂ ◌++◌ (symbols_in_rename t r) (symbols_of_rename ts r) ∙ sym (map_append (rename r) (symbols_in t) (symbols_of ts))

-- The terms of a renamed D line are its terms, renamed.
line_terms_rename : (x : Line Symbol) (r : Renaming) → line_terms (rename_line r x) ≡ map (λ t. substitute t (renamed r)) (line_terms x)
unfolding line_terms put_line
line_terms_rename (plain w) r = refl
line_terms_rename (Dsome t) r = refl
line_terms_rename (Dall t) r = refl
line_terms_rename (Dclause k ts) r = refl

-- The terms of a renamed text line are its terms, renamed.
terms_of_rename : (x : TextLine) (r : Renaming) → terms_of (rename_text_line r x) ≡ map (λ t. substitute t (renamed r)) (terms_of x)
unfolding terms_of rename_text_line
terms_of_rename (result_line n) r = refl
terms_of_rename (binding_line v t) r = refl
terms_of_rename (derivation_line x) r = line_terms_rename x r

-- The symbols of renamed lines are their symbols, renamed.
shown_rename : (xs : List TextLine) (r : Renaming) → shown (map (rename_text_line r) xs) ≡ map (rename r) (shown xs)
unfolding shown
shown_rename [] r = refl
shown_rename (x ∷ xs) r =
    ap₂ ◌++◌ (ap symbols_of (terms_of_rename x r) ∙ symbols_of_rename (terms_of x) r) (shown_rename xs r)
    ∙ sym (map_append (rename r) (symbols_of (terms_of x)) (shown xs))

-- The renaming does not change the symbol.
abbrev Fixed : Renaming → Symbol → Type 0
Fixed r s = rename r s ≡ s

-- A renaming that does not change the symbols of a term does not change the term.
mutual
  unfolding symbols_in substitute

  term_fixed : (t : Ground) (r : Renaming) → All (Fixed r) (symbols_in t) → substitute t (renamed r) ≡ t
  term_fixed (leaf s) r h = ap leaf h.0
  term_fixed (app f ts) r h = ap (app f) (terms_fixed ts r h)

  terms_fixed : (ts : Terms Symbol) (r : Renaming) → All (Fixed r) (symbols_in_all ts) → substitutes ts (renamed r) ≡ ts
  terms_fixed nil r h = refl
  terms_fixed (cons t ts) r h =
      let p = all_split (Fixed r) (symbols_in t) (symbols_in_all ts) h in ap₂ cons (term_fixed t r p.0) (terms_fixed ts r p.1)

-- A renaming that does not change the symbols of a list of terms does not change the list.
list_fixed : (ts : List Ground) (r : Renaming) → All (Fixed r) (symbols_of ts) → map (λ t. substitute t (renamed r)) ts ≡ ts
unfolding symbols_of
list_fixed [] r h = refl
list_fixed (t ∷ ts) r h =
    let p = all_split (Fixed r) (symbols_in t) (symbols_of ts) h in ap₂ ◌∷◌ (term_fixed t r p.0) (list_fixed ts r p.1)

-- A renaming that does not change the symbols of a D line does not change the line.
line_fixed : (x : Line Symbol) (r : Renaming) → All (Fixed r) (symbols_of (line_terms x)) → rename_line r x ≡ x
unfolding line_terms put_line symbols_of
line_fixed (plain w) r h = refl
line_fixed (Dsome t) r h = ap Dsome (term_fixed t r (all_split (Fixed r) (symbols_in t) [] h).0)
line_fixed (Dall t) r h = ap Dall (term_fixed t r (all_split (Fixed r) (symbols_in t) [] h).0)
line_fixed (Dclause k ts) r h = ap (Dclause k) (list_fixed ts r h)

-- A renaming that does not change the symbols of a text line does not change the line.
text_line_fixed : (x : TextLine) (r : Renaming) → All (Fixed r) (symbols_of (terms_of x)) → rename_text_line r x ≡ x
unfolding terms_of rename_text_line symbols_of
text_line_fixed (result_line n) r h = refl
text_line_fixed (binding_line v t) r h = ap (binding_line v) (term_fixed t r (all_split (Fixed r) (symbols_in t) [] h).0)
text_line_fixed (derivation_line x) r h = ap derivation_line (line_fixed x r h)

-- A renaming that does not change the symbols of lines does not change the lines.
lines_fixed : (xs : List TextLine) (r : Renaming) → All (Fixed r) (shown xs) → map (rename_text_line r) xs ≡ xs
unfolding shown
lines_fixed [] r h = refl
lines_fixed (x ∷ xs) r h =
    let p = all_split (Fixed r) (symbols_of (terms_of x)) (shown xs) h in ap₂ ◌∷◌ (text_line_fixed x r p.0) (lines_fixed xs r p.1)

-- Lines whose symbols pass the test are numbered already.
pub shows_numbered : (xs : List TextLine) (u : Seen) → show_symbols (shown xs) unseen ≡ some u → numbered xs ≡ xs
unfolding numbered
shows_numbered xs u h = lines_fixed xs (numbering_of (shown xs)) (shows_fixed (shown xs) u h)

-- The symbols of lines that were numbered pass the test.
pub numbered_shows : (xs : List TextLine) → (u : Seen) × (show_symbols (shown (numbered xs)) unseen ≡ some u)
unfolding numbered
numbered_shows xs =
    let r = renamed_shows (shown xs) in
    (r.0, ap (λ (l : List Symbol). show_symbols l unseen) (shown_rename xs (numbering_of (shown xs))) ∙ r.1)
