-- The writer of a term reaches what the tokens of the final value do: by induction on the rank, which is met only past the limit.
use Prim.Native.Nat.{ℕ, zero, suc, ◌+◌, ◌-◌, ◌*◌, ◌≤◌, ◌<◌}
use Prim.Native.Char.{code}
use native.Mathlib.Omega.{arith}
use mathlib.Core.Path.{◌≡◌, refl, sym, ap, ◌∙◌, subst}
use mathlib.Core.Bool.{Bool, true, false, cond}
use mathlib.Core.List.{List, [], ◌∷◌, ◌++◌, map, append_assoc}
use mathlib.Core.Logic.{◌⊎◌}
use mathlib.Core.Option.{some}
use lib.Dec.{eqb, ltb}
use lib.ListN.{length, take, drop, get_elem?}
use borrow.Author.Tests.{ne_eqb, ltb-true, ltb-false, le-ltb}
use Rattle.terms.specs.Lists.{All}
use Rattle.terms.specs.Terms.{sheet_symbol, numeral, Term, leaf, app, Terms, nil, cons, substitute, substitutes, Leaves}
use Rattle.sequents.specs.Symbols.{Symbol, Ground}
use Rattle.unification.specs.Store.{Leaf, Store, look, bound_to}
use Rattle.unification.specs.Promises.{Below, Unbound, Formed}
use Rattle.search.specs.Answers.{final}
use Rattle.sheet_format.specs.Nodes.{Declaration}
use Rattle.sheet_format.specs.Limits.{max_symbols, max_budget, max_nodes, numbers_per_unit}
use Rattle.node_table.specs.Layout.{label_of, child_of, child_count, name_start, name_length}
use Rattle.node_table.specs.Decoding.{functor_of, term_at, children_by, arguments_at, declaration_at, declarations_from}
use Rattle.node_table.specs.WellMade.{Declared, Named}
use Rattle.node_table.proofs.Decoding.{Nodes}
use Rattle.answer_texts.specs.Spelling.{name_in, name_of, spell_functor}
use Rattle.machine.specs.Records.{cell_of, level_of}
use Rattle.machine.specs.Words.{node_of, frame_of, word_of, environment_at, term_of}
use Rattle.printing.specs.Bindings.{deref}
use Rattle.machine.specs.Reading.{variable_of}
use Rattle.printing.specs.Output.{emit, write_number}
use Rattle.printing.specs.Numbering.{with_position, Printer, wrote}
use Rattle.printing.specs.WriteTerms.{emit_to, write_name, write_functor, separator, arguments_by, bracketed_by, application_by, word_by, write_term}
use Rattle.printing.specs.WriteLines.{bytes_to}
use Rattle.printing.specs.Written.{variable, constant, Closure, TermWord, of_leaf, of_closure}
use Rattle.printing.proofs.Bytes.{number_bytes, emit_over, emit_within}
use Rattle.printing.proofs.PrinterStates.{name_then}
use Rattle.printing.proofs.Tokens.{Token, byte, show_symbol, step, steps, steps_over, steps_bytes, term_tokens, argument_tokens}
use Rattle.printing.proofs.Tokens.{more_tokens, signs, none_signs, term_signs}
use Rattle.printing.proofs.LeftAlone.{Alike, word_alike, deref_alike}
use Rattle.printing.proofs.Steps.{Right}
use Rattle.printing.proofs.Reaching.{Reaches, reaches_kept, reaches_rank, reaches_then, reaches_closed, reaches_steps}
use Rattle.printing.proofs.Values.{leaves_show, value, argument_word_lem, sought, variable_value, constant_value, closure_value}
use Rattle.printing.proofs.Values.{value_right}

-- What the writer relies on: the table, and the memory w after a proved search with the store s.
pub record Basis (t : List ℕ) (symbols nodes : ℕ) (w : List ℕ) (acts : ℕ) (s : Store) : Type 0 where
  pub table : Nodes t nodes
  pub size : nodes ≤ max_nodes
  pub named : Named t nodes symbols
  pub few : acts ≤ max_budget
  pub room : numbers_per_unit * acts ≤ length w
  pub variables : s.next ≤ 9 * acts
  pub formed : Formed s
  pub fits : length s.bindings ≤ acts
  pub holds : (x : ℕ) → x < s.next → variable_of t w x ≡ bound_to s.bindings x
  pub levels : (x : ℕ) → x < s.next → level_of w x ≡ s.level x
  pub free : (x : ℕ) → x < s.next → Unbound s.bindings x → cell_of w x ≡ 0
  pub words : (x : ℕ) → x < s.next → (cell_of w x ≡ 0) ⊎ TermWord t w nodes acts (cell_of w x)

-- The name of a declared symbol is the part of the sheet that the table says.
declared : (sheet t : List ℕ) (c i f : ℕ) → f < c → get_elem? (declarations_from sheet t c i) f ≡ some (declaration_at sheet t (i + f))
unfolding declarations_from
declared sheet t zero i f h = absurd (omega arith)
declared sheet t (suc c) i zero h = ap (λ (j : ℕ). some (declaration_at sheet t j)) (let e : i ≡ i + 0 = omega arith in e)
declared sheet t (suc c) i (suc f) h =
    declared sheet t c (suc i) f (omega arith)
    ∙ ap (λ (j : ℕ). some (declaration_at sheet t j)) (let e : suc i + f ≡ i + suc f = omega arith in e)

-- The name of a declared symbol is the part of the sheet that its table entry names.
pub name_declared : (sheet t : List ℕ) (symbols f : ℕ) → f < symbols
    → name_of (declarations_from sheet t symbols 0) f ≡ take (name_length t f) (drop (name_start t f) sheet)
unfolding name_of name_in declaration_at
name_declared sheet t symbols f h =
    ap name_in (declared sheet t symbols 0 f h)
    ∙ ap (λ (j : ℕ). take (name_length t j) (drop (name_start t j) sheet)) (let e : 0 + f ≡ f = omega arith in e)

-- A label that is a symbol is one that is declared, and what is written for a label spells its functor.
functor_then : (sheet t : List ℕ) (symbols limit : ℕ) (g : Printer) (l : ℕ) → Declared symbols l
    → write_functor sheet t limit g l ≡ bytes_to limit g (spell_functor (declarations_from sheet t symbols 0) (functor_of l))
unfolding write_functor spell_functor functor_of bytes_to
functor_then sheet t symbols limit g l d = go (ltb l max_symbols) refl
  where
    go : (c : Bool) → ltb l max_symbols ≡ c
        → elim c as (λ c. Printer)
        [ true ↦ write_name sheet t limit g l | false ↦ wrote g (write_number g.buffer limit g.cursor.at (l - max_symbols)) ]
        ≡ bytes_to limit g (spell_functor (declarations_from sheet t symbols 0) (cond c (sheet_symbol l) (numeral (l - max_symbols))))
    go true e =
        name_then sheet t limit g l ∙ ap (bytes_to limit g) (sym (name_declared sheet t symbols l (d (ltb-true l max_symbols e))))
    go false e = ap (wrote g) (number_bytes (l - max_symbols) g.buffer limit g.cursor.at)

-- After one byte, or past the limit, one rank less suffices.
emit_rank : (limit rank : ℕ) (g : Printer) (b : ℕ) → limit ≤ 65535 → limit < g.cursor.at + suc rank
    → limit < (emit_to limit g b).cursor.at + rank
unfolding emit_to wrote with_position
emit_rank limit rank g b l h = go (ltb limit g.cursor.at) refl
  where
    go : (c : Bool) → ltb limit g.cursor.at ≡ c → limit < (emit g.buffer limit g.cursor.at b).at + rank
    go true e = let q = ltb-true limit g.cursor.at e in rw (emit_over g.buffer limit g.cursor.at b q) (omega arith)
    go false e = let q = ltb-false limit g.cursor.at e in rw (emit_within g.buffer limit g.cursor.at b l q) (omega arith)

-- The tokens of the arguments after the first, without the closing bracket.
unfoldable separated_tokens : Terms Symbol → List Declaration → List Token
separated_tokens nil ds = []
separated_tokens (cons t ts) ds = byte (code ",") ∷ (term_tokens t ds ++ separated_tokens ts ds)

-- The closing bracket comes after them.
more_closed : (ts : Terms Symbol) (ds : List Declaration) → separated_tokens ts ds ++ (byte (code ")") ∷ []) ≡ more_tokens ts ds
unfolding separated_tokens more_tokens
more_closed nil ds = refl
more_closed (cons t ts) ds =
    ap (byte (code ",") ∷◌)
    (append_assoc (term_tokens t ds) (separated_tokens ts ds) (byte (code ")") ∷ []) ∙ ap (term_tokens t ds ++◌) (more_closed ts ds))

module _ (sheet t : List ℕ) (symbols nodes : ℕ) (w : List ℕ) (acts : ℕ) (s : Store) (b : Basis t symbols nodes w acts s) where
  -- A word that reads as a term of variables that were made.
  abbrev Word : ℕ → Type 0
  Word a = TermWord t w nodes acts a × Leaves (term_of t w a) (Below s.next)

  -- The symbols of the sheet.
  abbrev pub declarations : List Declaration
  declarations = declarations_from sheet t symbols 0

  -- The symbols of a word's value are as the memory has them.
  pub word_right : (a : ℕ) → Word a → All (Right w s.next acts) (signs (term_tokens (value s (term_of t w a)) declarations))
  word_right a g =
      subst (All (Right w s.next acts)) (sym (term_signs (value s (term_of t w a)) declarations))
      (leaves_show (value s (term_of t w a)) (Right w s.next acts)
      (value_right t nodes b.table b.size w acts b.few s b.formed b.fits b.holds b.levels b.free b.words a g))

  -- What is to be shown of the writer at a rank.
  abbrev Writes : ℕ → Type 0
  Writes rank = (limit : ℕ) → limit ≤ 65535 → (g : Printer) (a : ℕ) → Word a → Alike 62 w g.memory → limit < g.cursor.at + rank
      → Reaches w acts limit (term_tokens (value s (term_of t w a)) declarations) g (write_term rank sheet t acts limit g a)

  -- What makes the steps of its tokens reaches what they do.
  exactly : (limit : ℕ) (ks : List Token) (g g' : Printer) → All (Right w s.next acts) (signs ks) → g' ≡ steps acts limit ks g
      → Reaches w acts limit ks g g'
  exactly limit ks g g' right e = reaches_steps w acts s.next b.room b.variables limit ks g g' right e

  module _ (rank : ℕ) (ih : Writes rank) (x : ℕ) (c : Closure t w nodes acts x) (below : Leaves (term_of t w x) (Below s.next)) where
    -- `environment` has what the names of a closure stand for.
    abbrev environment : ℕ → Term Leaf
    environment = environment_at w (frame_of x)

    -- `child j` is the value of the closure's argument j.
    abbrev child : ℕ → Ground
    child j = substitute (substitute (term_at t (child_of t (node_of x) j)) environment) (final s)

    -- `children n j` has the values of n arguments from the j-th on.
    abbrev children : ℕ → ℕ → Terms Symbol
    children n j = substitutes (substitutes (children_by (term_at t) t (node_of x) n j) environment) (final s)

    -- The printer after argument j, which is written after d.
    abbrev item : ℕ → ℕ → Printer → ℕ → Printer
    item limit j g d =
        write_term rank sheet t acts limit (emit_to limit g d) (word_of t (emit_to limit g d).memory (child_of t (node_of x) j) (frame_of x))

    -- One argument, with what stands before it.
    item_steps : (limit : ℕ) → limit ≤ 65535 → (j : ℕ) → j < child_count t (node_of x) → (g : Printer) (d : ℕ) → Alike 62 w g.memory
        → limit < g.cursor.at + suc rank
        → Reaches w acts limit (byte d ∷ term_tokens (child j) declarations) g (item limit j g d)
    unfolding emit_to wrote steps step signs
    item_steps limit low j h g d a r =
        let q = ((b.table.term (node_of x) c.there c.term).application c.application).terms j h in
        let k = q.0 in
        let l = c.there in
        let f = emit_to limit g d in
        let e = word_alike 62 t w g.memory (child_of t (node_of x) j) (frame_of x) (omega arith)
        (λ z. (b.table.term (child_of t (node_of x) j) (omega arith) q.1).variable z) a in
        let p = argument_word_lem t nodes b.table b.size w acts b.few s x c below j h in
        let y = word_of t w (child_of t (node_of x) j) (frame_of x) in
        let written = ih limit low f y p.0 a (emit_rank limit rank g d low r) in
        reaches_then w acts limit (byte d ∷ []) (term_tokens (child j) declarations) g f _ low (exactly limit (byte d ∷ []) g f tt refl)
        (subst (λ (v : ℕ). Reaches w acts limit (term_tokens (child j) declarations) f (write_term rank sheet t acts limit f v)) (sym e)
        (subst (λ (u : Term Leaf). Reaches w acts limit (term_tokens (value s u) declarations) f (write_term rank sheet t acts limit f y))
        p.1 written))

    -- The arguments after the first.
    more_steps : (limit : ℕ) → limit ≤ 65535 → (n j : ℕ) → 1 ≤ j → j + n ≡ child_count t (node_of x) → (g : Printer)
        → Alike 62 w g.memory → limit < g.cursor.at + suc rank
        → Reaches w acts limit (separated_tokens (children n j) declarations) g
        (arguments_by (write_term rank sheet t acts limit) t limit n (node_of x) (frame_of x) j g)
    unfolding arguments_by children_by separated_tokens substitute steps separator signs
    more_steps limit low zero j h e g a r = exactly limit [] g g tt refl
    more_steps limit low (suc n) j h e g a r =
        let f = item limit j g (code ",") in
        let ks = byte (code ",") ∷ term_tokens (child j) declarations in
        let p = item_steps limit low j (omega arith) g (code ",") a r in
        rw (ne_eqb j 0 (λ q. omega arith))
        (reaches_then w acts limit ks (separated_tokens (children n (suc j)) declarations) g f _ low p
        (more_steps limit low n (suc j) (omega arith) (omega arith) f (reaches_kept w acts limit ks g f p a)
        (reaches_rank w acts limit ks g f (suc rank) low p r)))

    -- All of them, without the closing bracket.
    arguments_steps : (limit : ℕ) → limit ≤ 65535 → (n : ℕ) → suc n ≡ child_count t (node_of x) → (g : Printer) → Alike 62 w g.memory
        → limit < g.cursor.at + suc rank
        → Reaches w acts limit
        ((byte (code "(") ∷ term_tokens (child 0) declarations) ++ separated_tokens (children n 1) declarations) g
        (arguments_by (write_term rank sheet t acts limit) t limit (suc n) (node_of x) (frame_of x) 0 g)
    unfolding arguments_by separator
    arguments_steps limit low n e g a r =
        let f = item limit 0 g (code "(") in
        let ks = byte (code "(") ∷ term_tokens (child 0) declarations in
        let p = item_steps limit low 0 (omega arith) g (code "(") a r in
        reaches_then w acts limit ks (separated_tokens (children n 1) declarations) g f _ low p
        (more_steps limit low n 1 (omega arith) (omega arith) f (reaches_kept w acts limit ks g f p a)
        (reaches_rank w acts limit ks g f (suc rank) low p r))

    -- All of them, in brackets, if there are any.
    all_steps_lem : (limit : ℕ) → limit ≤ 65535 → (n : ℕ) → n ≡ child_count t (node_of x) → (g : Printer) → Alike 62 w g.memory
        → limit < g.cursor.at + suc rank
        → Reaches w acts limit (argument_tokens (children n 0) declarations) g
        (elim (eqb n 0) [ true ↦ g | false ↦ bracketed_by (write_term rank sheet t acts) t limit n (node_of x) (frame_of x) g ])
    unfolding bracketed_by children_by argument_tokens substitute steps signs
    all_steps_lem limit low zero e g a r = exactly limit [] g g tt refl
    all_steps_lem limit low (suc n) e g a r =
        let v = term_tokens (child 0) declarations in
        let u = separated_tokens (children n 1) declarations in
        let p = arguments_steps (limit - 1) (omega arith) n e g a (omega arith) in
        rw (ne_eqb (suc n) 0 (λ q. omega arith))
        (subst (λ (ks : List Token).
        Reaches w acts limit ks g (bracketed_by (write_term rank sheet t acts) t limit (suc n) (node_of x) (frame_of x) g))
        (ap (byte (code "(") ∷◌) (append_assoc v u (byte (code ")") ∷ []) ∙ ap (v ++◌) (more_closed (children n 1) declarations)))
        (reaches_closed w acts limit ((byte (code "(") ∷ v) ++ u) (code ")") g _ low p))

    -- The name, then the arguments.
    application_steps : (limit : ℕ) → limit ≤ 65535 → (g : Printer) → Alike 62 w g.memory → limit < g.cursor.at + suc rank
        → Reaches w acts limit
        (term_tokens (app (functor_of (label_of t (node_of x))) (substitutes (substitutes (arguments_at t (node_of x)) environment) (final s)))
        declarations) g (application_by (write_term rank sheet t acts) sheet t limit g (node_of x) (frame_of x))
    unfolding application_by term_tokens arguments_at
    application_steps limit low g a r =
        let f = label_of t (node_of x) in
        let name = spell_functor declarations (functor_of f) in
        let h = write_functor sheet t limit g f in
        let e : h ≡ steps acts limit (map byte name) g =
        functor_then sheet t symbols limit g f
        (let kind = c.application in (b.named (node_of x) c.there (omega arith) (omega arith)).declared)
        ∙ sym (steps_bytes acts limit name g)
        in
        let p = exactly limit (map byte name) g h (subst (All (Right w s.next acts)) (sym (none_signs name)) tt) e in
        reaches_then w acts limit (map byte name) (argument_tokens (children (child_count t (node_of x)) 0) declarations) g h _ low p
        (all_steps_lem limit low (child_count t (node_of x)) refl h (reaches_kept w acts limit (map byte name) g h p a)
        (reaches_rank w acts limit (map byte name) g h (suc rank) low p r))

  -- Within the limit, showing a symbol goes through the token of it.
  symbol_steps : (limit : ℕ) (g : Printer) (y : Symbol) (v : Ground) → v ≡ leaf y → g.cursor.at ≤ limit
      → show_symbol acts limit g y ≡ steps acts limit (term_tokens v declarations) g
  unfolding term_tokens steps step
  symbol_steps limit g y v e l = rw (e, le-ltb limit g.cursor.at l)

  -- The word looked through.
  word_steps : (rank : ℕ) → Writes rank → (limit : ℕ) → limit ≤ 65535 → (g : Printer) (a : ℕ) → Word a → Alike 62 w g.memory
      → g.cursor.at ≤ limit → limit < g.cursor.at + suc rank
      → Reaches w acts limit (term_tokens (value s (term_of t w a)) declarations) g
      (word_by (write_term rank sheet t acts) sheet t acts limit g (deref acts w a))
  unfolding word_by show_symbol
  word_steps rank ih limit low g a h k l r = go found.0.0
    where
      found : Word (deref acts w a) × (term_of t w (deref acts w a) ≡ look s.bindings (term_of t w a))
      found = sought t nodes b.table b.size w acts b.few s b.formed b.fits b.holds b.levels b.free b.words a h

      ks : List Token
      ks = term_tokens (value s (term_of t w a)) declarations

      go : TermWord t w nodes acts (deref acts w a)
          → Reaches w acts limit ks g (word_by (write_term rank sheet t acts) sheet t acts limit g (deref acts w a))
      go (of_leaf (variable e)) =
          rw (word_by, e)
          (exactly limit ks g _ (word_right a h) (symbol_steps limit g _ _ (variable_value t nodes b.table b.size w acts b.few s
          b.formed b.fits b.holds b.levels b.free b.words a h e) l))
      go (of_leaf (constant e i)) =
          rw (word_by, e, e)
          (exactly limit ks g _ (word_right a h) (symbol_steps limit g _ _ (constant_value t nodes b.table b.size w acts b.few s
          b.formed b.fits b.holds b.levels b.free b.words a h e) l))
      go (of_closure c) =
          rw (word_by, c.tag, c.tag)
          (subst (λ (v : Ground). Reaches w acts limit (term_tokens v declarations) g
          (application_by (write_term rank sheet t acts) sheet t limit g (node_of (deref acts w a)) (frame_of (deref acts w a))))
          (sym (closure_value t nodes b.table b.size w acts b.few s b.formed b.fits b.holds b.levels b.free
          b.words a h c))
          (application_steps rank ih (deref acts w a) c found.0.1 limit low g k r))

  -- The writer of terms.
  pub term_steps : (rank : ℕ) → Writes rank
  unfolding write_term
  term_steps zero limit low g a h k r =
      let ks = term_tokens (value s (term_of t w a)) declarations in
      exactly limit ks g g (word_right a h) (sym (steps_over acts limit ks g (omega arith)))
  term_steps (suc rank) limit low g a h k r = go (ltb limit g.cursor.at) refl (term_steps rank)
    where
      ks : List Token
      ks = term_tokens (value s (term_of t w a)) declarations

      go : (c : Bool) → ltb limit g.cursor.at ≡ c → Writes rank
          → Reaches w acts limit ks g
          (elim c as (λ c. Printer)
          [ true ↦ g | false ↦ word_by (write_term rank sheet t acts) sheet t acts limit g (deref acts g.memory a) ])
      go true e ih = exactly limit ks g g (word_right a h) (sym (steps_over acts limit ks g (ltb-true limit g.cursor.at e)))
      go false e ih =
          subst (λ (v : ℕ). Reaches w acts limit ks g (word_by (write_term rank sheet t acts) sheet t acts limit g v))
          (sym (deref_alike 62 acts w g.memory a k))
          (word_steps rank ih limit low g a h k (ltb-false limit g.cursor.at e) r)
