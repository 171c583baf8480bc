-- The bytes of each line of an answer text, and the symbols that begin in them.
use Prim.Native.Nat.{ℕ, ◌+◌, ◌<◌}
use native.Mathlib.Omega.{arith}
use mathlib.Core.Path.{◌≡◌, refl, sym, ap, ◌∙◌}
use mathlib.Core.Bool.{Bool, true, false, not, ◌&&◌}
use mathlib.Core.List.{List, [], ◌∷◌, ◌++◌, append_assoc, append-nil}
use lib.Dec.{eqb, ltb}
use lib.ListN.{length, drop}
use borrow.Author.Tests.{lt-ltb, ltb-true, not-true}
use Rattle.terms.specs.Lists.{All}
use Rattle.terms.proofs.Lists.{all_append}
use Rattle.formulas.proofs.Free.{and_parts}
use Rattle.sequents.specs.Symbols.{Ground}
use Rattle.sequents.specs.Sequents.{Dtrue, Dand, Dleft, Dright, Dassume, plain, Dsome, Dall, Dclause}
use Rattle.sheet_format.specs.Bytes.{ascii, decimal, digits, lf, is_digit, is_small, is_capital, is_letter, is_name_byte}
use Rattle.sheet_format.specs.Nodes.{Declaration}
use Rattle.sheet_format.proofs.Bytes.{Without}
use Rattle.sheet_format.proofs.Names.{Names}
use Rattle.sheet_format.specs.Limits.{variable_names}
use Rattle.answer_texts.specs.TextLines.{TextLine, result_line, binding_line, derivation_line, line_terms, terms_of}
use Rattle.answer_texts.specs.Numbering.{symbols_in, symbols_of}
use Rattle.answer_texts.specs.Spelling.{spell_term, join, spell_word, spell_terms, line_fields, text_fields}
use Rattle.answer_texts.specs.Spelled.{WritableTerm, WritableLine, Writable}
use Rattle.text_judging.proofs.Spans.{Stops}
use Rattle.text_judging.proofs.Reading.{line_bytes}
use Rattle.scanning.proofs.Positions.{drop_next, drop_past}
use Rattle.scanning.proofs.Ranges.{Solid}
use Rattle.scanning.proofs.SymbolsInText.{starts_in, starts_parts, Plain, plain_starts, decimal_plain, starts_byte, outside_after}
use Rattle.scanning.proofs.SymbolsInText.{term_starts}

-- bytes

-- Terms, each after a tab.
unfoldable pub tabbed : List Ground → List Declaration → List ℕ
tabbed [] ds = []
tabbed (t ∷ ts) ds = 9 ∷ (spell_term t ds ++ tabbed ts ds)

-- A field and terms joined as fields are the field, then each term after a tab.
join_tabbed : (f : List ℕ) (ts : List Ground) (ds : List Declaration) → join (f ∷ spell_terms ds ts) ≡ f ++ tabbed ts ds
unfolding join spell_terms tabbed
join_tabbed f [] ds = sym (append-nil f)
join_tabbed f (t ∷ ts) ds = ap (λ (r : List ℕ). f ++ (9 ∷ r)) (join_tabbed (spell_term t ds) ts ds)

module _ (ds : List Declaration) where
  -- These are the bytes of an R line.
  pub bytes_result : (n : ℕ) → line_bytes ds (result_line n) ≡ ascii "R\tproved\t" ++ decimal n
  unfolding text_fields join ascii
  bytes_result n = refl

  -- These are the bytes of a B line.
  pub bytes_binding : (v : ℕ) (t : Ground) → line_bytes ds (binding_line v t) ≡ ascii "B\t" ++ (decimal v ++ (9 ∷ spell_term t ds))
  unfolding text_fields join ascii
  bytes_binding v t = refl

  -- These are the bytes of a `D some` line.
  pub bytes_some : (t : Ground) → line_bytes ds (derivation_line (Dsome t)) ≡ ascii "D\tsome\t" ++ spell_term t ds
  unfolding text_fields line_fields join ascii
  bytes_some t = refl

  -- These are the bytes of a `D all` line.
  pub bytes_all : (t : Ground) → line_bytes ds (derivation_line (Dall t)) ≡ ascii "D\tall\t" ++ spell_term t ds
  unfolding text_fields line_fields join ascii
  bytes_all t = refl

  -- These are the bytes of a `D clause` line.
  pub bytes_clause : (k : ℕ) (ts : List Ground)
      → line_bytes ds (derivation_line (Dclause k ts)) ≡ ascii "D\tclause\t" ++ (decimal k ++ tabbed ts ds)
  unfolding text_fields line_fields join ascii
  bytes_clause k ts = ap (λ (r : List ℕ). ascii "D\tclause\t" ++ r) (join_tabbed (decimal k) ts ds)

-- The number of a variable is one digit.
pub decimal_one : (v : ℕ) → v < variable_names → decimal v ≡ (48 + v) ∷ []
unfolding decimal digits
decimal_one v h = rw (digits, lt-ltb v 10 (omega arith))

-- words

-- A byte that is none past the end, and no LF.
unfoldable pub word_byte : ℕ → Bool
word_byte c = ltb 0 c && not (eqb c 10)

-- All bytes pass `word_byte`.
unfoldable pub is_word : List ℕ → Bool
is_word [] = true
is_word (c ∷ cs) = word_byte c && is_word cs

-- A byte that passes `word_byte` is not 0 and no LF.
word_byte_lem : (c : ℕ) → word_byte c ≡ true → (0 < c) × (eqb c 10 ≡ false)
unfolding word_byte
word_byte_lem c h = let r = and_parts (ltb 0 c) (not (eqb c 10)) h in (ltb-true 0 c r.0, not-true (eqb c 10) r.1)

-- No symbol begins in it.
unfoldable quiet_byte : ℕ → Bool
quiet_byte c = not (eqb c 33) && not (eqb c 95)

-- No symbol begins in any of the bytes.
unfoldable is_quiet : List ℕ → Bool
is_quiet [] = true
is_quiet (c ∷ cs) = quiet_byte c && is_quiet cs

-- Bytes that pass `is_quiet` begin no symbol.
word_plain : (a : List ℕ) → is_quiet a ≡ true → All Plain a
unfolding is_quiet quiet_byte
word_plain [] h = tt
word_plain (c ∷ cs) h =
    let p = and_parts (quiet_byte c) (is_quiet cs) h in
    let q = and_parts (not (eqb c 33)) (not (eqb c 95)) p.0 in
    ((not-true (eqb c 33) q.0, not-true (eqb c 95) q.1), word_plain cs p.1)

-- No byte of a word is 0.
pub word_solid : (a : List ℕ) → is_word a ≡ true → Solid a
unfolding is_word
word_solid [] h = tt
word_solid (c ∷ cs) h = let p = and_parts (word_byte c) (is_word cs) h in ((word_byte_lem c p.0).0, word_solid cs p.1)

-- No byte of a word is LF.
pub word_without : (a : List ℕ) → is_word a ≡ true → Without lf a
unfolding is_word
word_without [] h = tt
word_without (c ∷ cs) h = let p = and_parts (word_byte c) (is_word cs) h in ((word_byte_lem c p.0).1, word_without cs p.1)

-- symbols

-- A tab or the end of the line is no byte of a name.
pub tabbed_stops : (ts : List Ground) (ds : List Declaration) (r : List ℕ) → Stops is_name_byte (tabbed ts ds ++ (lf ∷ r))
unfolding tabbed is_name_byte is_letter is_small is_capital is_digit
tabbed_stops [] ds r = refl
tabbed_stops (t ∷ ts) ds r = refl

module _ (ds : List Declaration) (names : Names ds) (x : List ℕ) where
  -- After bytes that begin no symbol, the last of which is none of a name, the symbols are those of the term.
  after_starts : (a : List ℕ) (c : ℕ) (t : Ground) (r : List ℕ) (i : ℕ) → drop i x ≡ (a ++ (c ∷ spell_term t ds)) ++ r → All Plain a
      → Plain c → is_name_byte c ≡ false
      → WritableTerm t ds → Stops is_name_byte r → starts_in (length (a ++ (c ∷ spell_term t ds))) x i ≡ symbols_in t
  after_starts a c t r i h p q n w s =
      let m = c ∷ spell_term t ds in
      let e = h ∙ append_assoc a m r in
      let d = drop_past x i a (m ++ r) e in
      starts_parts a m x i [] (symbols_in t) (plain_starts a (m ++ r) x i e p)
      (starts_byte c (spell_term t ds) r x (i + length a) (symbols_in t) d q
      (term_starts ds names x t r (i + length a + 1) (drop_next x (i + length a) c (spell_term t ds ++ r) d) w s
      (outside_after x (i + length a) c (spell_term t ds ++ r) d n)))

  -- The symbols in terms after tabs are those of the terms.
  tabbed_starts : (ts : List Ground) (r : List ℕ) (i : ℕ) → drop i x ≡ tabbed ts ds ++ (lf ∷ r) → All (λ t. WritableTerm t ds) ts
      → starts_in (length (tabbed ts ds)) x i ≡ symbols_of ts
  unfolding tabbed symbols_of starts_in is_name_byte is_letter is_small is_capital is_digit
  tabbed_starts [] r i h w = refl
  tabbed_starts (t ∷ ts) r i h w =
      let a = spell_term t ds in
      let m = tabbed ts ds in
      let d : drop (i + 1) x ≡ a ++ (m ++ (lf ∷ r)) = drop_next x i 9 ((a ++ m) ++ (lf ∷ r)) h ∙ append_assoc a m (lf ∷ r) in
      starts_byte 9 (a ++ m) (lf ∷ r) x i (symbols_in t ++ symbols_of ts) h (refl, refl)
      (starts_parts a m x (i + 1) (symbols_in t) (symbols_of ts)
      (term_starts ds names x t (m ++ (lf ∷ r)) (i + 1) d w.0 (tabbed_stops ts ds r) (outside_after x i 9 ((a ++ m) ++ (lf ∷ r)) h refl))
      (tabbed_starts ts r (i + 1 + length a) (drop_past x (i + 1) a (m ++ (lf ∷ r)) d) w.1))

  -- The symbols that begin in a line are those of its terms.
  pub line_starts : (l : TextLine) (r : List ℕ) (i : ℕ) → drop i x ≡ line_bytes ds l ++ (lf ∷ r) → Writable ds l
      → starts_in (length (line_bytes ds l)) x i ≡ symbols_of (terms_of l)
  unfolding Writable WritableLine terms_of line_terms symbols_of text_fields line_fields join ascii spell_word is_name_byte is_letter is_small is_capital is_digit is_quiet
      quiet_byte
  line_starts (result_line n) r i h w =
      plain_starts (ascii "R\tproved\t" ++ decimal n) (lf ∷ r) x i h
      (all_append Plain (ascii "R\tproved\t") (decimal n) (word_plain (ascii "R\tproved\t") refl) (decimal_plain n))
  line_starts (binding_line v t) r i h w =
      let e = append_assoc (ascii "B\t") (decimal v) (9 ∷ spell_term t ds) in
      ap (λ (a : List ℕ). starts_in (length a) x i) (sym e)
      ∙ after_starts (ascii "B\t" ++ decimal v) 9 t (lf ∷ r) i (h ∙ ap (◌++ (lf ∷ r)) (sym e))
      (all_append Plain (ascii "B\t") (decimal v) (word_plain (ascii "B\t") refl) (decimal_plain v)) (refl, refl) refl w.1 refl
      ∙ sym (append-nil (symbols_in t))
  line_starts (derivation_line (plain Dtrue)) r i h w = plain_starts (ascii "D\ttrue") (lf ∷ r) x i h (word_plain (ascii "D\ttrue") refl)
  line_starts (derivation_line (plain Dand)) r i h w = plain_starts (ascii "D\tand") (lf ∷ r) x i h (word_plain (ascii "D\tand") refl)
  line_starts (derivation_line (plain Dleft)) r i h w = plain_starts (ascii "D\tleft") (lf ∷ r) x i h (word_plain (ascii "D\tleft") refl)
  line_starts (derivation_line (plain Dright)) r i h w = plain_starts (ascii "D\tright") (lf ∷ r) x i h (word_plain (ascii "D\tright") refl)
  line_starts (derivation_line (plain Dassume)) r i h w =
      plain_starts (ascii "D\tassume") (lf ∷ r) x i h (word_plain (ascii "D\tassume") refl)
  line_starts (derivation_line (Dsome t)) r i h w =
      after_starts (ascii "D\tsome") 9 t (lf ∷ r) i h (word_plain (ascii "D\tsome") refl) (refl, refl) refl w refl
      ∙ sym (append-nil (symbols_in t))
  line_starts (derivation_line (Dall t)) r i h w =
      after_starts (ascii "D\tall") 9 t (lf ∷ r) i h (word_plain (ascii "D\tall") refl) (refl, refl) refl w refl
      ∙ sym (append-nil (symbols_in t))
  line_starts (derivation_line (Dclause k ts)) r i h w =
      let a = ascii "D\tclause\t" ++ decimal k in
      let m = tabbed ts ds in
      let q = bytes_clause ds k ts ∙ sym (append_assoc (ascii "D\tclause\t") (decimal k) m) in
      let e = h ∙ ap (◌++ (lf ∷ r)) q ∙ append_assoc a m (lf ∷ r) in
      ap (λ (c : List ℕ). starts_in (length c) x i) q
      ∙ starts_parts a m x i [] (symbols_of ts)
      (plain_starts a (m ++ (lf ∷ r)) x i e
      (all_append Plain (ascii "D\tclause\t") (decimal k) (word_plain (ascii "D\tclause\t") refl) (decimal_plain k)))
      (tabbed_starts ts r (i + length a) (drop_past x i a (m ++ (lf ∷ r)) e) w.1)
