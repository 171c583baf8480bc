-- The writers of lines go through the tokens of the lines, piece by piece.
use Prim.Native.Nat.{ℕ, zero, suc, ◌+◌, ◌/◌, ◌%◌, ◌≤◌, ◌<◌}
use native.Mathlib.Omega.{arith}
use mathlib.Core.Path.{◌≡◌, refl, sym, ap, ◌∙◌, subst}
use mathlib.Core.Bool.{Bool, true, false}
use mathlib.Core.List.{List, [], ◌∷◌, ◌++◌, map, append_assoc}
use lib.Dec.{eqb}
use borrow.Author.Tests.{lt-ltb}
use Rattle.terms.specs.Lists.{All}
use Rattle.terms.specs.Terms.{Term, leaf, substitute, Leaves}
use Rattle.terms.proofs.Lists.{all_append, map_append}
use Rattle.formulas.specs.Formulas.{Goal, free_g, free_from}
use Rattle.sequents.specs.Symbols.{Ground}
use Rattle.sequents.specs.Sequents.{put_line, put_terms}
use Rattle.unification.specs.Store.{Leaf, var, con, Store}
use Rattle.unification.specs.Promises.{Below}
use Rattle.search.specs.Search.{start_environment}
use Rattle.search.specs.Answers.{final, final_environment}
use Rattle.sheet_format.specs.Bytes.{ascii, tab, lf, decimal}
use Rattle.sheet_format.specs.Nodes.{Declaration}
use Rattle.sheet_format.specs.Limits.{variable_names}
use Rattle.node_table.specs.Layout.{bit_of}
use Rattle.node_table.specs.Decoding.{declarations_from}
use Rattle.answer_texts.specs.TextLines.{binding_line}
use Rattle.answer_texts.specs.Spelling.{spell_word, join, text_line}
use Rattle.machine.specs.Fields as fields
use Rattle.machine.specs.Words.{variable_word, constant_word, term_of}
use Rattle.machine.specs.Reading.{variables_from, line_at}
use Rattle.printing.specs.Numbering.{Printer, wrote}
use Rattle.printing.specs.WriteTerms.{emit_to, write_term, term_to}
use Rattle.printing.specs.WriteLines.{bytes_to, number_to, result_to, plain_bytes, term_line, bindings_to, prefix_to, clause_to, line_to}
use Rattle.printing.specs.Written.{variable, constant, TermWord, of_leaf, LineMade}
use Rattle.machine.proofs.Words.{increment_small}
use Rattle.printing.proofs.PrinterStates.{emitted, number_then}
use Rattle.printing.proofs.Tokens.{Token, byte, steps, steps_bytes, term_tokens, prefix_tokens, line_tokens, text_tokens}
use Rattle.printing.proofs.Tokens.{tokens, signs, signs_append, none_signs}
use Rattle.printing.proofs.LeftAlone.{Alike}
use Rattle.printing.proofs.Steps.{Right}
use Rattle.printing.proofs.Reaching.{Reaches, reaches_kept, reaches_then, reaches_steps}
use Rattle.printing.proofs.Words.{variable_tag_lem, variable_name, constant_tag_lem, constant_name}
use Rattle.printing.proofs.Values.{value, variable_term, constant_term}
use Rattle.printing.proofs.TermSteps.{Basis, word_right, term_steps}
use Rattle.memory.specs.Records.{field}

module _ (sheet t : List ℕ) (symbols nodes : ℕ) (w : List ℕ) (acts : ℕ) (s : Store) (b : Basis t symbols nodes w acts s) (limit : ℕ)
    (low : limit ≤ 65535) where
  abbrev ds : List Declaration
  ds = declarations_from sheet t symbols 0

  -- A printer that comes from another by some tokens, whose symbols are as the memory has them.
  pub record Reached (ks : List Token) (g g' : Printer) : Type 0 where
    pub reaches : Reaches w acts limit ks g g'
    pub right : All (Right w s.next acts) (signs ks)

  -- The memory stays alike from one printer to the other.
  pub reach_alike : (ks : List Token) (g g' : Printer) → Reached ks g g' → Alike 62 w g.memory → Alike 63 g.memory g'.memory
  reach_alike ks g g' r a = r.reaches.alike a

  -- The memory of the printer stays alike to w.
  pub reach_kept : (ks : List Token) (g g' : Printer) → Reached ks g g' → Alike 62 w g.memory → Alike 62 w g'.memory
  reach_kept ks g g' r a = reaches_kept w acts limit ks g g' r.reaches a

  -- What makes the steps of its tokens comes by them.
  reach_steps : (ks : List Token) (g g' : Printer) → g' ≡ steps acts limit ks g → All (Right w s.next acts) (signs ks) → Reached ks g g'
  reach_steps ks g g' e right =
      record { reaches = reaches_steps w acts s.next b.room b.variables limit ks g g' right e; right = right }

  -- A printer comes from itself by no tokens.
  pub reach_none : (g : Printer) → Reached [] g g
  unfolding steps signs
  reach_none g = reach_steps [] g g refl tt

  -- One piece and then another come by the tokens of both.
  pub reach_then : (x y : List Token) (f g h : Printer) → Reached x f g → Reached y g h → Reached (x ++ y) f h
  reach_then x y f g h p q = record {
    reaches = reaches_then w acts limit x y f g h low p.reaches q.reaches;
    right =
        subst (All (Right w s.next acts)) (sym (signs_append x y))
        (all_append (Right w s.next acts) (signs x) (signs y) p.right q.right);
  }

  -- A printer that comes by some tokens comes by equal tokens.
  pub reach_as : (x y : List Token) (f g : Printer) → x ≡ y → Reached x f g → Reached y f g
  reach_as x y f g e r = subst (λ (ks : List Token). Reached ks f g) e r

  -- Writing bytes goes through these bytes as tokens.
  pub reach_bytes : (bs : List ℕ) (g : Printer) → Reached (map byte bs) g (bytes_to limit g bs)
  reach_bytes bs g =
      reach_steps (map byte bs) g (bytes_to limit g bs) (sym (steps_bytes acts limit bs g))
      (subst (All (Right w s.next acts)) (sym (none_signs bs)) tt)

  -- Writing one byte goes through it as a token.
  pub reach_byte : (c : ℕ) (g : Printer) → Reached (byte c ∷ []) g (emit_to limit g c)
  reach_byte c g = subst (Reached (byte c ∷ []) g) (sym (emitted limit g c)) (reach_bytes (c ∷ []) g)

  -- Writing a number goes through its digits as tokens.
  pub reach_number : (n : ℕ) (g : Printer) → Reached (map byte (decimal n)) g (number_to limit g n)
  reach_number n g = subst (Reached (map byte (decimal n)) g) (sym (number_then limit g n)) (reach_bytes (decimal n) g)

  -- Writing the word of a term goes through the tokens of its final value.
  reach_word : (a : ℕ) (u : Term Leaf) (g : Printer) → TermWord t w nodes acts a → Leaves u (Below s.next) → term_of t w a ≡ u
      → Alike 62 w g.memory
      → Reached (term_tokens (value s u) ds) g (term_to sheet t acts limit g a)
  unfolding term_to
  reach_word a u g h l e k =
      let i : Leaves (term_of t w a) (Below s.next) = subst (λ (v : Term Leaf). Leaves v (Below s.next)) (sym e) l in
      reach_as (term_tokens (value s (term_of t w a)) ds) (term_tokens (value s u) ds) g _
      (ap (λ (v : Term Leaf). term_tokens (value s v) ds) e) (record {
        reaches =
            subst (λ (rank : ℕ). Reaches w acts limit (term_tokens (value s (term_of t w a)) ds) g (write_term rank sheet t acts limit g a))
            (sym (increment_small limit (omega arith)))
            (term_steps sheet t symbols nodes w acts s b (suc limit) limit low g a (h, i) k (omega arith));
        right = word_right sheet t symbols nodes w acts s b a (h, i);
      })

  -- Writing the word of a variable goes through the tokens of its final value.
  pub reach_variable : (x : ℕ) (g : Printer) → x < s.next → Alike 62 w g.memory
      → Reached (term_tokens (final s (var x)) ds) g (term_to sheet t acts limit g (variable_word x))
  unfolding substitute Leaves Below
  reach_variable x g l k =
      let m = b.variables in
      let f = b.few in
      let e = variable_name x (omega arith) in
      reach_word (variable_word x) (leaf (var x)) g (of_leaf (variable (variable_tag_lem x (omega arith)))) l
      (variable_term t nodes b.table b.size w acts b.few s (variable_word x) (variable_tag_lem x (omega arith))
      ∙ ap (λ (y : ℕ). leaf (var y)) e) k

  -- Writing the word of a constant goes through the tokens of its final value.
  pub reach_constant : (c : ℕ) (g : Printer) → c < acts → Alike 62 w g.memory
      → Reached (term_tokens (final s (con c (field w c fields.constant_level))) ds) g (term_to sheet t acts limit g (constant_word c))
  unfolding substitute Leaves Below
  reach_constant c g l k =
      let f = b.few in
      let e = constant_name c (omega arith) in
      reach_word (constant_word c) (leaf (con c (field w c fields.constant_level))) g
      (of_leaf (constant (constant_tag_lem c (omega arith)) (subst (λ (y : ℕ). y < acts) (sym e) l))) tt
      (constant_term t nodes b.table b.size w acts b.few s (constant_word c) (constant_tag_lem c (omega arith))
      ∙ ap (λ (y : ℕ). leaf (con y (field w y fields.constant_level))) e) k

  -- Writing a term between bytes and LF goes through the tokens of all three.
  reach_line : (bs : List ℕ) (a : ℕ) (v : Ground) (g : Printer)
      → ((h : Printer) → Alike 62 w h.memory → Reached (term_tokens v ds) h (term_to sheet t acts limit h a)) → Alike 62 w g.memory
      → Reached (map byte bs ++ (term_tokens v ds ++ (byte lf ∷ []))) g (term_line sheet t acts limit g bs a)
  unfolding term_line bytes_to wrote
  reach_line bs a v g f k =
      let h = bytes_to limit g bs in
      let i = term_to sheet t acts limit h a in
      reach_then (map byte bs) (term_tokens v ds ++ (byte lf ∷ [])) g h _ (reach_bytes bs g)
      (reach_then (term_tokens v ds) (byte lf ∷ []) h i _ (f h k) (reach_byte lf i))

  -- "`R`, outcome, units"
  pub reach_result : (bs : List ℕ) (n : ℕ) (g : Printer) → Reached (map byte (bs ++ (decimal n ++ (lf ∷ [])))) g (result_to limit g bs n)
  unfolding result_to
  reach_result bs n g =
      let h = bytes_to limit g bs in
      let i = number_to limit h n in
      reach_as (map byte bs ++ (map byte (decimal n) ++ (byte lf ∷ []))) (map byte (bs ++ (decimal n ++ (lf ∷ [])))) g _
      (ap (map byte bs ++◌) (sym (map_append byte (decimal n) (lf ∷ []))) ∙ sym (map_append byte bs (decimal n ++ (lf ∷ []))))
      (reach_then (map byte bs) (map byte (decimal n) ++ (byte lf ∷ [])) g h _ (reach_bytes bs g)
      (reach_then (map byte (decimal n)) (byte lf ∷ []) h i _ (reach_number n h) (reach_byte lf i)))

  -- "`B v term`"
  start_value : (v : ℕ) → v < variable_names → final s (var v) ≡ final_environment s v
  unfolding final_environment start_environment substitute
  start_value v h = rw (lt-ltb v 8 h)

  -- Writing the line of one free variable goes through the tokens of that line.
  reach_binding : (v : ℕ) (g : Printer) → v < variable_names → 8 ≤ s.next → Alike 62 w g.memory
      → Reached (text_tokens ds (binding_line v (final_environment s v))) g
      (term_line sheet t acts limit (number_to limit (bytes_to limit g (ascii "B\t")) v) (ascii "\t") (variable_word v))
  unfolding text_tokens number_to bytes_to wrote ascii
  reach_binding v g l n k =
      let h = bytes_to limit g (ascii "B\t") in
      let i = number_to limit h v in
      let e = start_value v l in
      let line = reach_line (ascii "\t") (variable_word v) (final_environment s v) i
      (λ h k. subst (λ (u : Ground). Reached (term_tokens u ds) h (term_to sheet t acts limit h (variable_word v))) e
      (reach_variable v h (omega arith) k)) k
      in
      reach_as (map byte
      (ascii "B\t") ++ (map byte (decimal v) ++ (map byte (ascii "\t") ++ (term_tokens (final_environment s v) ds ++ (byte lf ∷ []))))) _ g _
      (ap (λ (l : List Token). byte 66 ∷ byte 9 ∷ l)
      (sym (ap (◌++ (term_tokens (final_environment s v) ds ++ (byte lf ∷ []))) (map_append byte (decimal v) (tab ∷ []))
      ∙ append_assoc (map byte (decimal v)) (byte tab ∷ []) (term_tokens (final_environment s v) ds ++ (byte lf ∷ [])))))
      (reach_then (map byte (ascii "B\t")) _ g h _ (reach_bytes (ascii "B\t") g)
      (reach_then (map byte (decimal v)) _ h i _ (reach_number v h) line))

  -- Writing the lines of all free variables goes through the tokens of those lines.
  pub reach_bindings : (goal : Goal) (n mask v : ℕ) (g : Printer) → n + v ≤ 8 → 8 ≤ s.next
      → ((j : ℕ) → j < n → eqb (bit_of mask j) 1 ≡ free_g goal (v + j)) → Alike 62 w g.memory
      → Reached (tokens ds (map (λ v. binding_line v (final_environment s v)) (free_from n v goal))) g
      (bindings_to sheet t acts limit n mask v g)
  unfolding bindings_to free_from tokens bit_of
  reach_bindings goal zero mask v g l n f k = reach_none g
  reach_bindings goal (suc m) mask v g l n f k =
      let e : eqb (mask % 2) 1 ≡ free_g goal v = f 0 (omega arith) ∙ ap (free_g goal) (let z : v + 0 ≡ v = omega arith in z) in
      rw (bindings_to, e)
      (go (free_g goal v) (λ h k. reach_bindings goal m (mask / 2) (suc v) h (omega arith) n
      (λ j i. f (suc j) (omega arith) ∙ ap (free_g goal) (let z : v + suc j ≡ suc v + j = omega arith in z)) k))
    where
      line : Printer
      line = term_line sheet t acts limit (number_to limit (bytes_to limit g (ascii "B\t")) v) (ascii "\t") (variable_word v)

      go : (c : Bool)
          → ((h : Printer) → Alike 62 w h.memory
          → Reached (tokens ds (map (λ v. binding_line v (final_environment s v)) (free_from m (suc v) goal))) h
          (bindings_to sheet t acts limit m (mask / 2) (suc v) h))
          → Reached
          (tokens ds (map (λ v. binding_line v (final_environment s v))
          (elim c [ true ↦ v ∷ free_from m (suc v) goal | false ↦ free_from m (suc v) goal ]))) g
          (elim c [
            | true ↦ bindings_to sheet t acts limit m (mask / 2) (suc v) line
            | false ↦
                bindings_to sheet t acts limit m (mask / 2) (suc v) g
          ])
      go true rest =
          let r = reach_binding v g (omega arith) n k in
          reach_then (text_tokens ds (binding_line v (final_environment s v)))
          (tokens ds (map (λ v. binding_line v (final_environment s v)) (free_from m (suc v) goal))) g line _ r
          (rest line (reach_kept (text_tokens ds (binding_line v (final_environment s v))) g line r k))
      go false rest = rest g k

  -- The terms of a prefix.
  reach_prefix : (n x : ℕ) (g : Printer) → n + x ≤ s.next → Alike 62 w g.memory
      → Reached (prefix_tokens ds (put_terms (final s) (variables_from n x))) g (prefix_to sheet t acts limit n g x)
  unfolding prefix_to prefix_tokens variables_from substitute emit_to wrote
  reach_prefix zero x g l k = reach_none g
  reach_prefix (suc n) x g l k =
      let h = emit_to limit g tab in
      let i = term_to sheet t acts limit h (variable_word x) in
      let v = term_tokens (final s (var x)) ds in
      let r = reach_variable x h (omega arith) k in
      reach_then (byte tab ∷ []) (v ++ prefix_tokens ds (put_terms (final s) (variables_from n (suc x)))) g h _ (reach_byte tab g)
      (reach_then v (prefix_tokens ds (put_terms (final s) (variables_from n (suc x)))) h i _ r
      (reach_prefix n (suc x) i (omega arith) (reach_kept v h i r k)))

  -- "`D clause place term...`"
  reach_clause : (p n x : ℕ) (g : Printer) → n + x ≤ s.next → Alike 62 w g.memory
      → Reached
      (map byte (ascii "D\tclause\t" ++ decimal p) ++ (prefix_tokens ds (put_terms (final s) (variables_from n x)) ++ (byte lf ∷ []))) g
      (emit_to limit (prefix_to sheet t acts limit n (number_to limit (bytes_to limit g (ascii "D\tclause\t")) p) x) lf)
  unfolding bytes_to number_to wrote
  reach_clause p n x g l k =
      let h = bytes_to limit g (ascii "D\tclause\t") in
      let i = number_to limit h p in
      let v = prefix_tokens ds (put_terms (final s) (variables_from n x)) in
      reach_as (map byte (ascii "D\tclause\t") ++ (map byte (decimal p) ++ (v ++ (byte lf ∷ [])))) _ g _
      (sym (append_assoc (map byte (ascii "D\tclause\t")) (map byte (decimal p)) (v ++ (byte lf ∷ [])))
      ∙ ap (◌++ (v ++ (byte lf ∷ []))) (sym (map_append byte (ascii "D\tclause\t") (decimal p))))
      (reach_then (map byte (ascii "D\tclause\t")) (map byte (decimal p) ++ (v ++ (byte lf ∷ []))) g h _
      (reach_bytes (ascii "D\tclause\t") g)
      (reach_then (map byte (decimal p)) (v ++ (byte lf ∷ [])) h i _ (reach_number p h)
      (reach_then v (byte lf ∷ []) i (prefix_to sheet t acts limit n i x) _ (reach_prefix n x i l k)
      (reach_byte lf (prefix_to sheet t acts limit n i x)))))

  -- The line in record q.
  pub reach_line_at : (q k : ℕ) (g : Printer) → q < acts → LineMade w s.next q k → Alike 62 w g.memory
      → Reached (line_tokens ds (put_line (final s) (line_at w q k))) g (line_to sheet t acts limit g q k)
  unfolding line_to clause_to line_at line_tokens put_line plain_bytes ascii text_line join spell_word substitute
  reach_line_at q zero g h l k = reach_bytes (plain_bytes 0) g
  reach_line_at q (suc zero) g h l k = reach_bytes (plain_bytes 1) g
  reach_line_at q (suc (suc zero)) g h l k = reach_bytes (plain_bytes 2) g
  reach_line_at q (suc (suc (suc zero))) g h l k = reach_bytes (plain_bytes 3) g
  reach_line_at q (suc (suc (suc (suc zero)))) g h l k = reach_bytes (plain_bytes 4) g
  reach_line_at q (suc (suc (suc (suc (suc zero))))) g h l k =
      rw (k.fields q 43 (omega arith) (omega arith))
      (reach_line (ascii "D\tsome\t") (variable_word (field w q fields.variables)) (final s (var (field w q fields.variables))) g
      (λ h k. reach_variable (field w q fields.variables) h (l.some refl) k) k)
  reach_line_at q (suc (suc (suc (suc (suc (suc zero)))))) g h l k =
      reach_line (ascii "D\tall\t") (constant_word q) (final s (con q (field w q fields.constant_level))) g (λ i k. reach_constant q i h k) k
  reach_line_at q (suc (suc (suc (suc (suc (suc (suc zero))))))) g h l k =
      rw (
        k.fields q 41 (omega arith) (omega arith),
        k.fields q 42 (omega arith) (omega arith),
        k.fields q 43 (omega arith) (omega arith),
      )
      (reach_clause (field w q fields.use_place) (field w q fields.use_count) (field w q fields.variables) g (l.clause refl) k)
  reach_line_at q (suc (suc (suc (suc (suc (suc (suc (suc j)))))))) g h l k = absurd (let e = l.kind in omega arith)
