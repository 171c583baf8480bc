-- A text before its symbols are numbered: bytes, and symbols as the search names them. The writer goes from token to token.
use Prim.Native.Nat.{ℕ, ◌<◌}
use Prim.Native.Char.{code}
use mathlib.Core.Path.{◌≡◌, refl, sym, ap, ap₂, ◌∙◌}
use mathlib.Core.Bool.{cond}
use mathlib.Core.List.{List, [], ◌∷◌, ◌++◌, map, append_assoc, append-nil}
use lib.Dec.{ltb}
use borrow.Author.Tests.{lt-ltb}
use Rattle.terms.specs.Terms.{leaf, app, Terms, nil, cons, substitute, substitutes}
use Rattle.sequents.specs.Symbols.{Symbol, made, leftover, Ground}
use Rattle.sequents.specs.Sequents.{Line, plain, Dsome, Dall, Dclause, put_line, put_terms}
use Rattle.sequents.specs.Renamings.{Renaming, rename, renamed}
use Rattle.sheet_format.specs.Bytes.{ascii, tab, lf, decimal}
use Rattle.sheet_format.specs.Nodes.{Declaration}
use Rattle.answer_texts.specs.TextLines.{TextLine, result_line, binding_line, derivation_line, line_terms, terms_of, rename_text_line}
use Rattle.answer_texts.specs.Numbering.{symbols_in, symbols_in_all, symbols_of, shown}
use Rattle.answer_texts.specs.Spelling.{spell_functor, spell_symbol, spell_term, spell_arguments, spell_more, spell_terms, spell_word, join, text_line}
use Rattle.answer_texts.specs.Spelling.{line_fields, text_fields, spell}
use Rattle.printing.specs.Output.{write_bytes}
use Rattle.printing.specs.Numbering.{Printer, wrote, with_position, write_variable, write_constant}
use Rattle.printing.specs.WriteTerms.{emit_to}
use Rattle.printing.specs.WriteLines.{bytes_to}
use Rattle.printing.proofs.PrinterStates.{emitted, bytes_next, printer_over}

-- A byte, or a symbol to be numbered.
pub data Token : Type 0 where
  byte : ℕ → Token
  sign : Symbol → Token

-- A symbol is shown.
unfoldable pub show_symbol : ℕ → ℕ → Printer → Symbol → Printer
show_symbol turns limit g (made c k) = write_constant turns limit g c
show_symbol turns limit g (leftover x k) = write_variable limit g x

-- One token; past the limit no symbol is shown.
unfoldable pub step : ℕ → ℕ → Printer → Token → Printer
step turns limit g (byte b) = emit_to limit g b
step turns limit g (sign s) = cond (ltb limit g.cursor.at) g (show_symbol turns limit g s)

-- Tokens, one after the other.
unfoldable pub steps : ℕ → ℕ → List Token → Printer → Printer
steps turns limit [] g = g
steps turns limit (k ∷ ks) g = steps turns limit ks (step turns limit g k)

-- One list, then another.
pub steps_append : (turns limit : ℕ) (x y : List Token) (g : Printer)
    → steps turns limit (x ++ y) g ≡ steps turns limit y (steps turns limit x g)
unfolding steps
steps_append turns limit [] y g = refl
steps_append turns limit (k ∷ x) y g = steps_append turns limit x y (step turns limit g k)

-- Past the limit nothing changes.
step_over : (turns limit : ℕ) (k : Token) (g : Printer) → limit < g.cursor.at → step turns limit g k ≡ g
unfolding step
step_over turns limit (byte b) g h = emitted limit g b ∙ printer_over limit g (b ∷ []) h
step_over turns limit (sign s) g h = rw (lt-ltb limit g.cursor.at h)

-- Past the limit no tokens change anything.
pub steps_over : (turns limit : ℕ) (ks : List Token) (g : Printer) → limit < g.cursor.at → steps turns limit ks g ≡ g
unfolding steps
steps_over turns limit [] g h = refl
steps_over turns limit (k ∷ ks) g h = ap (steps turns limit ks) (step_over turns limit k g h) ∙ steps_over turns limit ks g h

-- Bytes are tokens.
pub steps_bytes : (turns limit : ℕ) (bs : List ℕ) (g : Printer) → steps turns limit (map byte bs) g ≡ bytes_to limit g bs
unfolding steps step bytes_to wrote with_position write_bytes
steps_bytes turns limit [] g = refl
steps_bytes turns limit (b ∷ bs) g = steps_bytes turns limit bs (emit_to limit g b) ∙ sym (bytes_next limit g b bs)

-- `term_tokens` gives the tokens of a term (as `spell_term`).
unfoldable mutual
  pub term_tokens : Ground → List Declaration → List Token
  term_tokens (leaf s) ds = sign s ∷ []
  term_tokens (app f ts) ds = map byte (spell_functor ds f) ++ argument_tokens ts ds

  -- `argument_tokens` gives the tokens of a term's arguments, in brackets.
  pub argument_tokens : Terms Symbol → List Declaration → List Token
  argument_tokens nil ds = []
  argument_tokens (cons t ts) ds = byte (code "(") ∷ (term_tokens t ds ++ more_tokens ts ds)

  -- `more_tokens` gives the tokens of the arguments after the first.
  pub more_tokens : Terms Symbol → List Declaration → List Token
  more_tokens nil ds = byte (code ")") ∷ []
  more_tokens (cons t ts) ds = byte (code ",") ∷ (term_tokens t ds ++ more_tokens ts ds)

-- `prefix_tokens` gives the tokens of the terms of a prefix.
unfoldable pub prefix_tokens : List Declaration → List Ground → List Token
prefix_tokens ds [] = []
prefix_tokens ds (t ∷ ts) = byte tab ∷ (term_tokens t ds ++ prefix_tokens ds ts)

-- `line_tokens` gives the tokens of a D line.
unfoldable pub line_tokens : List Declaration → Line Symbol → List Token
line_tokens ds (plain w) = map byte (text_line (ascii "D" ∷ spell_word w ∷ []))
line_tokens ds (Dsome t) = map byte (ascii "D\tsome\t") ++ (term_tokens t ds ++ (byte lf ∷ []))
line_tokens ds (Dall t) = map byte (ascii "D\tall\t") ++ (term_tokens t ds ++ (byte lf ∷ []))
line_tokens ds (Dclause k ts) = map byte (ascii "D\tclause\t" ++ decimal k) ++ (prefix_tokens ds ts ++ (byte lf ∷ []))

-- `text_tokens` gives the tokens of a line of the text.
unfoldable pub text_tokens : List Declaration → TextLine → List Token
text_tokens ds (result_line n) = map byte (ascii "R\tproved\t" ++ (decimal n ++ (lf ∷ [])))
text_tokens ds (binding_line v t) = map byte (ascii "B\t" ++ (decimal v ++ (tab ∷ []))) ++ (term_tokens t ds ++ (byte lf ∷ []))
text_tokens ds (derivation_line x) = line_tokens ds x

-- `tokens` gives the tokens of lines.
unfoldable pub tokens : List Declaration → List TextLine → List Token
tokens ds [] = []
tokens ds (x ∷ xs) = text_tokens ds x ++ tokens ds xs

-- The tokens of lines and then others are the tokens of both, joined.
pub tokens_append : (ds : List Declaration) (x y : List TextLine) → tokens ds (x ++ y) ≡ tokens ds x ++ tokens ds y
unfolding tokens
tokens_append ds [] y = refl
tokens_append ds (a ∷ x) y =
    ap (text_tokens ds a ++◌) (tokens_append ds x y) ∙ sym (append_assoc (text_tokens ds a) (tokens ds x) (tokens ds y))

-- `signs` gives the symbols among tokens.
unfoldable pub signs : List Token → List Symbol
signs [] = []
signs (byte b ∷ ks) = signs ks
signs (sign s ∷ ks) = s ∷ signs ks

-- The symbols among two joined lists of tokens are those of both.
pub signs_append : (x y : List Token) → signs (x ++ y) ≡ signs x ++ signs y
unfolding signs
signs_append [] y = refl
signs_append (byte b ∷ x) y = signs_append x y
signs_append (sign s ∷ x) y = ap (s ∷◌) (signs_append x y)

-- Bytes before other tokens add no symbols.
pub signs_bytes : (bs : List ℕ) (ks : List Token) → signs (map byte bs ++ ks) ≡ signs ks
unfolding signs
signs_bytes [] ks = refl
signs_bytes (b ∷ bs) ks = signs_bytes bs ks

-- The symbols among the tokens are those that show.
mutual
  unfolding term_tokens symbols_in signs

  -- The symbols among the tokens of a term are those that show in it.
  pub term_signs : (t : Ground) (ds : List Declaration) → signs (term_tokens t ds) ≡ symbols_in t
  term_signs (leaf s) ds = refl
  term_signs (app f ts) ds = signs_bytes (spell_functor ds f) (argument_tokens ts ds) ∙ argument_signs ts ds

  -- The symbols among the tokens of arguments are those that show in them.
  argument_signs : (ts : Terms Symbol) (ds : List Declaration) → signs (argument_tokens ts ds) ≡ symbols_in_all ts
  argument_signs nil ds = refl
  argument_signs (cons t ts) ds = signs_append (term_tokens t ds) (more_tokens ts ds) ∙ ap₂ ◌++◌ (term_signs t ds) (more_signs ts ds)

  -- The symbols among the tokens of the arguments after the first are those that show in them.
  more_signs : (ts : Terms Symbol) (ds : List Declaration) → signs (more_tokens ts ds) ≡ symbols_in_all ts
  more_signs nil ds = refl
  more_signs (cons t ts) ds = signs_append (term_tokens t ds) (more_tokens ts ds) ∙ ap₂ ◌++◌ (term_signs t ds) (more_signs ts ds)

-- The symbols among the tokens of a prefix are those that show in its terms.
prefix_signs : (ts : List Ground) (ds : List Declaration) → signs (prefix_tokens ds ts) ≡ symbols_of ts
unfolding prefix_tokens symbols_of signs
prefix_signs [] ds = refl
prefix_signs (t ∷ ts) ds = signs_append (term_tokens t ds) (prefix_tokens ds ts) ∙ ap₂ ◌++◌ (term_signs t ds) (prefix_signs ts ds)

-- Bytes before a term and a closing LF add no symbols to those of the term.
closed_signs : (bs : List ℕ) (t : Ground) (ds : List Declaration)
    → signs (map byte bs ++ (term_tokens t ds ++ (byte lf ∷ []))) ≡ symbols_in t ++ []
unfolding signs
closed_signs bs t ds =
    signs_bytes bs (term_tokens t ds ++ (byte lf ∷ [])) ∙ signs_append (term_tokens t ds) (byte lf ∷ []) ∙ ap (◌++ []) (term_signs t ds)

-- Bytes alone have no symbols.
pub none_signs : (bs : List ℕ) → signs (map byte bs) ≡ []
unfolding signs
none_signs [] = refl
none_signs (b ∷ bs) = none_signs bs

-- The symbols among the tokens of a line are those that show in its terms.
text_signs : (ds : List Declaration) (x : TextLine) → signs (text_tokens ds x) ≡ symbols_of (terms_of x)
unfolding text_tokens line_tokens terms_of line_terms symbols_of signs
text_signs ds (result_line n) = none_signs (ascii "R\tproved\t" ++ (decimal n ++ (lf ∷ [])))
text_signs ds (binding_line v t) = closed_signs (ascii "B\t" ++ (decimal v ++ (tab ∷ []))) t ds
text_signs ds (derivation_line (plain w)) = none_signs (text_line (ascii "D" ∷ spell_word w ∷ []))
text_signs ds (derivation_line (Dsome t)) = closed_signs (ascii "D\tsome\t") t ds
text_signs ds (derivation_line (Dall t)) = closed_signs (ascii "D\tall\t") t ds
text_signs ds (derivation_line (Dclause k ts)) =
    signs_bytes (ascii "D\tclause\t" ++ decimal k) (prefix_tokens ds ts ++ (byte lf ∷ [])) ∙ signs_append (prefix_tokens ds ts) (byte lf ∷ [])
    ∙ append-nil (signs (prefix_tokens ds ts)) ∙ prefix_signs ts ds

-- The symbols among the tokens of lines are those that the lines show.
pub tokens_signs : (ds : List Declaration) (xs : List TextLine) → signs (tokens ds xs) ≡ shown xs
unfolding tokens shown signs
tokens_signs ds [] = refl
tokens_signs ds (x ∷ xs) = signs_append (text_tokens ds x) (tokens ds xs) ∙ ap₂ ◌++◌ (text_signs ds x) (tokens_signs ds xs)

-- `spelled` gives the bytes of tokens, their symbols renamed.
unfoldable pub spelled : Renaming → List Token → List ℕ
spelled r [] = []
spelled r (byte b ∷ ks) = b ∷ spelled r ks
spelled r (sign s ∷ ks) = spell_symbol (rename r s) ++ spelled r ks

-- The bytes of two joined lists of tokens are those of both, joined.
spelled_append : (r : Renaming) (x y : List Token) → spelled r (x ++ y) ≡ spelled r x ++ spelled r y
unfolding spelled
spelled_append r [] y = refl
spelled_append r (byte b ∷ x) y = ap (b ∷◌) (spelled_append r x y)
spelled_append r (sign s ∷ x) y =
    ap (spell_symbol (rename r s) ++◌) (spelled_append r x y) ∙ sym (append_assoc (spell_symbol (rename r s)) (spelled r x) (spelled r y))

-- Bytes before other tokens are spelled as they are.
spelled_bytes : (r : Renaming) (bs : List ℕ) (ks : List Token) → spelled r (map byte bs ++ ks) ≡ bs ++ spelled r ks
unfolding spelled
spelled_bytes r [] ks = refl
spelled_bytes r (b ∷ bs) ks = ap (b ∷◌) (spelled_bytes r bs ks)

-- The bytes of tokens are the text of the renamed lines.
mutual
  unfolding term_tokens spell_term spelled substitute

  -- The bytes of a term's tokens spell the renamed term.
  term_spelled : (t : Ground) (ds : List Declaration) (r : Renaming) → spelled r (term_tokens t ds) ≡ spell_term (substitute t (renamed r)) ds
  term_spelled (leaf s) ds r = append-nil (spell_symbol (rename r s))
  term_spelled (app f ts) ds r = spelled_bytes r (spell_functor ds f) (argument_tokens ts ds) ∙ ap (spell_functor ds f ++◌) (argument_spelled ts ds r)

  -- The bytes of the tokens of arguments spell the renamed arguments.
  argument_spelled : (ts : Terms Symbol) (ds : List Declaration) (r : Renaming)
      → spelled r (argument_tokens ts ds) ≡ spell_arguments (substitutes ts (renamed r)) ds
  argument_spelled nil ds r = refl
  argument_spelled (cons t ts) ds r =
      ap (code "(" ∷◌) (spelled_append r (term_tokens t ds) (more_tokens ts ds) ∙ ap₂ ◌++◌ (term_spelled t ds r) (more_spelled ts ds r))

  -- The bytes of the tokens of the arguments after the first spell these arguments, renamed.
  more_spelled : (ts : Terms Symbol) (ds : List Declaration) (r : Renaming)
      → spelled r (more_tokens ts ds) ≡ spell_more (substitutes ts (renamed r)) ds
  more_spelled nil ds r = refl
  more_spelled (cons t ts) ds r =
      ap (code "," ∷◌) (spelled_append r (term_tokens t ds) (more_tokens ts ds) ∙ ap₂ ◌++◌ (term_spelled t ds r) (more_spelled ts ds r))

-- The fields after a first one.
unfoldable fields_after : List (List ℕ) → List ℕ
fields_after [] = []
fields_after (f ∷ fs) = tab ∷ (f ++ fields_after fs)

-- Joining puts the other fields behind the first.
join_cons : (f : List ℕ) (fs : List (List ℕ)) → join (f ∷ fs) ≡ f ++ fields_after fs
unfolding join fields_after
join_cons f [] = sym (append-nil f)
join_cons f (g ∷ fs) = ap (λ (l : List ℕ). f ++ (tab ∷ l)) (join_cons g fs)

-- The bytes of the tokens of a prefix spell its renamed terms as fields.
prefix_spelled : (ts : List Ground) (ds : List Declaration) (r : Renaming)
    → spelled r (prefix_tokens ds ts) ≡ fields_after (spell_terms ds (put_terms (renamed r) ts))
unfolding prefix_tokens spelled fields_after spell_terms
prefix_spelled [] ds r = refl
prefix_spelled (t ∷ ts) ds r =
    ap (tab ∷◌) (spelled_append r (term_tokens t ds) (prefix_tokens ds ts) ∙ ap₂ ◌++◌ (term_spelled t ds r) (prefix_spelled ts ds r))

-- The bytes of a term's tokens with bytes around them spell the renamed term between these.
closed_spelled : (bs : List ℕ) (t : Ground) (ds : List Declaration) (r : Renaming)
    → spelled r (map byte bs ++ (term_tokens t ds ++ (byte lf ∷ []))) ≡ bs ++ (spell_term (substitute t (renamed r)) ds ++ (lf ∷ []))
unfolding spelled
closed_spelled bs t ds r =
    spelled_bytes r bs (term_tokens t ds ++ (byte lf ∷ []))
    ∙ ap (bs ++◌) (spelled_append r (term_tokens t ds) (byte lf ∷ []) ∙ ap (◌++ (lf ∷ [])) (term_spelled t ds r))

-- Bytes alone are spelled as they are.
only_spelled : (bs : List ℕ) (r : Renaming) → spelled r (map byte bs) ≡ bs
unfolding spelled
only_spelled [] r = refl
only_spelled (b ∷ bs) r = ap (b ∷◌) (only_spelled bs r)

-- Lists joined around a tab are equal, however they are bracketed.
tabbed : (x y z : List ℕ) → (x ++ (tab ∷ [])) ++ (y ++ z) ≡ (x ++ (tab ∷ y)) ++ z
tabbed x y z = append_assoc x (tab ∷ []) (y ++ z) ∙ sym (append_assoc x (tab ∷ y) z)

-- The bytes of a line's tokens spell the renamed line.
text_spelled : (ds : List Declaration) (x : TextLine) (r : Renaming)
    → spelled r (text_tokens ds x) ≡ text_line (text_fields ds (rename_text_line r x))
unfolding text_tokens line_tokens text_line text_fields line_fields rename_text_line put_line join ascii spell_word spelled
text_spelled ds (result_line n) r = only_spelled (ascii "R\tproved\t" ++ (decimal n ++ (lf ∷ []))) r
text_spelled ds (binding_line v t) r =
    closed_spelled (ascii "B\t" ++ (decimal v ++ (tab ∷ []))) t ds r
    ∙ ap (ascii "B\t" ++◌) (tabbed (decimal v) (spell_term (substitute t (renamed r)) ds) (lf ∷ []))
text_spelled ds (derivation_line (plain w)) r = only_spelled (text_line (ascii "D" ∷ spell_word w ∷ [])) r
text_spelled ds (derivation_line (Dsome t)) r = closed_spelled (ascii "D\tsome\t") t ds r
text_spelled ds (derivation_line (Dall t)) r = closed_spelled (ascii "D\tall\t") t ds r
text_spelled ds (derivation_line (Dclause k ts)) r =
    spelled_bytes r (ascii "D\tclause\t" ++ decimal k) (prefix_tokens ds ts ++ (byte lf ∷ []))
    ∙ ap (ascii "D\tclause\t" ++◌)
    (ap (decimal k ++◌) (spelled_append r (prefix_tokens ds ts) (byte lf ∷ []) ∙ ap (◌++ (lf ∷ [])) (prefix_spelled ts ds r))
    ∙ sym (append_assoc (decimal k) (fields_after (spell_terms ds (put_terms (renamed r) ts))) (lf ∷ []))
    ∙ ap (◌++ (lf ∷ [])) (sym (join_cons (decimal k) (spell_terms ds (put_terms (renamed r) ts)))))

-- The bytes of the tokens of lines spell the renamed lines.
pub tokens_spelled : (ds : List Declaration) (xs : List TextLine) (r : Renaming)
    → spelled r (tokens ds xs) ≡ spell ds (map (rename_text_line r) xs)
unfolding tokens spell spelled
tokens_spelled ds [] r = refl
tokens_spelled ds (x ∷ xs) r = spelled_append r (text_tokens ds x) (tokens ds xs) ∙ ap₂ ◌++◌ (text_spelled ds x r) (tokens_spelled ds xs r)
