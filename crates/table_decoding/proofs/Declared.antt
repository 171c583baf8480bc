-- F and P: the name is found exactly if it is declared, and the symbol is added.
use Prim.Native.Nat.{ℕ, zero, suc, ◌+◌, ◌*◌, ◌/◌, ◌%◌, ◌<◌, ◌≤◌}
use native.Mathlib.Numerals.{add-one}
use native.Mathlib.Omega.{arith}
use mathlib.Core.Path.{◌≡◌, refl, sym, ap, ap₂, ◌∙◌, subst}
use mathlib.Core.Bool.{Bool, true, false, not, ◌&&◌, ◌||◌, cond}
use mathlib.Core.List.{List, [], ◌∷◌, ◌++◌}
use lib.Dec.{ltb, leb, eqb}
use lib.ListN.{length, take, drop, get_or, length-drop}
use lib.Seq.{drop-cons, length-take-le}
use borrow.Author.Tests.{eqb-true, eqb-false, eq-eqb, ne_eqb, le-ltb, lt-ltb, leb-true, leb-false}
use Rattle.std.specs.Prelude.{Ok, Err}
use Rattle.outcomes.specs.declared.refusals.Reason.TheVariants.{TooMany, Unknown}
use Rattle.terms.proofs.Tests.{eqb_comm, cond_and}
use Rattle.sheet_format.specs.Limits.{max_name}
use Rattle.sheet_format.specs.Bytes.{same_bytes, folded, same_name}
use Rattle.sheet_format.specs.Nodes.{Declaration}
use Rattle.sheet_format.specs.Sheets.{next, stop, is_declared}
use Rattle.sheet_format.specs.Sheets.{take_declaration as sheetTakeDeclaration}
use Rattle.node_table.specs.Layout.{name_start, name_word, name_length, clause_node}
use Rattle.node_table.specs.Fingerprints.{word_at, NameStands}
use Rattle.node_table.specs.Decoding.{declaration_at, declarations_from}
use Rattle.node_table.specs.WellMade.{IsClause}
use Rattle.node_table.proofs.Same.{Same, same_kind}
use Rattle.node_table.proofs.Words.{word_of, word_list, word_length, same_name_word, name_same}
use Rattle.node_table.proofs.Nodes.{is_term_back, is_goal_back, is_clause_back, is_clause_same, labelled_same, term_same, goal_same, clause_same}
use Rattle.table_builder.specs.declared.node_info.Counts.{Counts}
use Rattle.table_builder.specs.Nodes.{made, counts}
use Rattle.table_builder.specs.Symbols.{same_at, name_is, find_from, find_name, symbol_word, symbol_written, insert_declaration}
use Rattle.table_decoding.specs.Decoding.{table_of, Decodes, Agrees, TableIs, Follows}
use Rattle.table_decoding.proofs.Writing.{Rest, rest_symbol, same_but_symbol, clause_kept_symbol, written_start, written_name}
use Rattle.table_decoding.proofs.Writing.{written_function, written_arity}
use Rattle.table_decoding.proofs.Sequences.{from_length, from_more, declarations_list}
use Rattle.table_decoding.proofs.Adding.{table_agree, nodes_of_stands, symbols_same, nodes_same, clauses_same, below_more}

-- names

-- The code finds the name at `at` on the sheet exactly if the bytes there are a name equal to it.
same_is : (bytes : List ℕ) (at : ℕ) (name : List ℕ) → at + length name ≤ length bytes
    → same_at bytes at name ≡ same_name name (take (length name) (drop at bytes))
unfolding same_at same_bytes same_name
same_is bytes at [] h = refl
same_is bytes at (b ∷ l) h =
    let k : at < length bytes = omega arith in
    cond_and (eqb (folded (get_or bytes at 0)) (folded b)) (same_at bytes (at + 1) l)
    ∙ ap₂ ◌&&◌ (eqb_comm (folded (get_or bytes at 0)) (folded b))
    (ap (λ (x : ℕ). same_at bytes x l) (add-one at) ∙ same_is bytes (suc at) l (omega arith))
    ∙ ap (λ (x : List ℕ). same_name (b ∷ l) (take (suc (length l)) x)) (sym (drop-cons bytes at 0 k))

-- A name of n bytes that stands on the sheet at `at`, whose word is given.
pub record NameAt (bytes : List ℕ) (at n word : ℕ) (name : List ℕ) : Type 0 where
  pub within : at + n ≤ length bytes
  pub short : n ≤ max_name
  pub part : name ≡ take n (drop at bytes)
  pub word_is : word ≡ word_at bytes at n

-- The code finds that symbol i has the name exactly if the symbol's bytes are a name equal to it: a name equal to it has its word.
module _ (bytes t : List ℕ) (i at n word : ℕ) (name : List ℕ) (stands : NameAt bytes at n word name)
    (st : NameStands bytes t i) where
  abbrev own : List ℕ
  own = take (name_length t i) (drop (name_start t i) bytes)

  name_long : length name ≡ n
  name_long =
      let d = length-drop at bytes in
      let l = stands.within in
      ap length stands.part ∙ length-take-le n (drop at bytes) (omega arith)

  -- Symbols of one word have names of one length.
  same_long : name_word t i ≡ word → name_length t i ≡ length name
  unfolding name_length
  same_long e =
      let s = stands.short in
      ap (◌% 32) (e ∙ stands.word_is) ∙ word_length bytes at n (omega arith) ∙ sym name_long

  same_words : same_name name own ≡ true → name_word t i ≡ word
  same_words e =
      st.word ∙ word_list bytes (name_start t i) (name_length t i) st.within ∙ sym (same_name_word name own e) ∙ ap word_of stands.part
      ∙ sym (word_list bytes at n stands.within) ∙ sym stands.word_is

  name_is_lem : name_is bytes t i word name ≡ same_name name own
  unfolding name_is
  name_is_lem = go (eqb (name_word t i) word) refl
    where
      other : (b : Bool) → (name_word t i ≡ word → ⊥) → same_name name own ≡ b → false ≡ b
      other true d e = absurd (d (same_words e))
      other false d e = refl

      go : (b : Bool) → eqb (name_word t i) word ≡ b → cond b (same_at bytes (name_start t i) name) false ≡ same_name name own
      go true e =
          let h = st.within in
          let q = same_long (eqb-true (name_word t i) word e) in
          same_is bytes (name_start t i) name (omega arith) ∙ ap (λ (x : ℕ). same_name name (take x (drop (name_start t i) bytes))) (sym q)
      go false e = other (same_name name own) (eqb-false (name_word t i) word e) refl

cond_or : (x y : Bool) → cond x true y ≡ (x || y)
cond_or true y = refl
cond_or false y = refl

-- A name is found among the symbols exactly if it is declared.
found : (bytes t : List ℕ) (c i at n word : ℕ) (name : List ℕ) → NameAt bytes at n word name
    → ((j : ℕ) → i ≤ j → j < i + c → NameStands bytes t j)
    → find_from c bytes t i word name ≡ is_declared same_name name (declarations_from bytes t c i)
unfolding find_from is_declared declarations_from declaration_at
found bytes t zero i at n word name s h = refl
found bytes t (suc c) i at n word name s h =
    cond_or (name_is bytes t i word name) (find_from c bytes t (i + 1) word name)
    ∙ ap₂ ◌||◌ (name_is_lem bytes t i at n word name s (h i (omega arith) (omega arith)))
    (ap (λ (x : ℕ). find_from c bytes t x word name) (add-one i)
    ∙ found bytes t c (suc i) at n word name s (λ j k l. h j (omega arith) (omega arith)))

-- the symbol

word_function : (function : Bool) (arity : ℕ) → eqb (symbol_word function arity % 2) 1 ≡ function
unfolding symbol_word
word_function true arity = eq-eqb ((2 * arity + 1) % 2) 1 (omega arith)
word_function false arity = ne_eqb (2 * arity % 2) 1 (λ e. omega arith)

word_arity : (function : Bool) (arity : ℕ) → symbol_word function arity / 2 ≡ arity
unfolding symbol_word
word_arity true arity = omega arith
word_arity false arity = omega arith

module _ (bytes t : List ℕ) (k : Counts) (st : Decodes bytes t k) (function : Bool) (start len arity : ℕ)
    (fits : start + len ≤ length bytes) (short : len ≤ max_name) where
  abbrev i : ℕ
  i = k.symbols

  -- The word of the name.
  abbrev word : ℕ
  word = word_at bytes start len

  abbrev u : List ℕ
  u = symbol_written t k.symbols start (word_at bytes start len) (symbol_word function arity)

  abbrev k' : Counts
  k' = counts (k.symbols + 1) k.nodes k.clauses

  abbrev declared : Declaration
  declared = record { function = function; name = take len (drop start bytes); arity = arity }

  module _ (l : k.symbols < 256) where
    same_table : Same t u i k.nodes
    same_table = same_but_symbol t i start word (symbol_word function arity) l k.nodes

    new_start : name_start u i ≡ start
    new_start = written_start t i start word (symbol_word function arity) l st.long

    new_word : name_word u i ≡ word
    new_word = written_name t i start word (symbol_word function arity) l st.long

    new_length : name_length u i ≡ len
    unfolding name_length
    new_length = ap (◌% 32) new_word ∙ word_length bytes start len (omega arith)

    new_stands : NameStands bytes u i
    new_stands =
        let a = new_start in
        let b = new_length in
        record { within = omega arith; word = rw (new_start, new_length) new_word }

    new_declaration : declaration_at bytes u i ≡ declared
    unfolding declaration_at
    new_declaration =
        rw (
          new_start,
          new_length,
          written_function t i start word (symbol_word function arity) l st.long,
          written_arity t i start word (symbol_word function arity) l st.long,
          word_function function arity,
          word_arity function arity,
        )

    stands_symbol : Decodes bytes u k'
    unfolding Rest
    stands_symbol =
        let m = nodes_of_stands bytes t k st in
        let rest = rest_symbol t i start word (symbol_word function arity) l in
        let long = rest.0 in
        let old = st.long in
        record {
          long = omega arith;
          few_symbols = omega arith;
          few_nodes = st.few_nodes;
          few_clauses = st.few_clauses;
          names = below_more (NameStands bytes u) i (λ j p. name_same t u i k.nodes same_table bytes j p (st.names j p)) new_stands;
          named = λ n p q r.
              let e = same_kind t u i k.nodes same_table n p in
              labelled_same t u i k.nodes same_table k'.symbols n (omega arith) p (st.named n p (omega arith) (omega arith));
          term = λ n p q. term_same t u i k.nodes same_table m st.named n p (is_term_back t u i k.nodes same_table n p q);
          goal = λ n p q. goal_same t u i k.nodes same_table m st.named n p (is_goal_back t u i k.nodes same_table n p q);
          clause = λ n p q. clause_same t u i k.nodes same_table m st.named n p (is_clause_back t u i k.nodes same_table n p q);
          clauses = λ j p.
              let c = st.clauses j p in
              subst (λ (x : ℕ). (x < k.nodes) × IsClause u x) (sym (clause_kept_symbol t i start word (symbol_word function arity) l j))
              (c.0, is_clause_same t u i k.nodes same_table (clause_node t j) c.0 c.1);
        }

    table_symbol : table_of bytes u k' ≡ record {
      symbols = (table_of bytes t k).symbols ++ (declared ∷ []);
      nodes = (table_of bytes t k).nodes;
      clauses = (table_of bytes t k).clauses;
    }
    unfolding table_of
    table_symbol =
        let m = nodes_of_stands bytes t k st in
        table_agree _ _ _ _ _ _
        (ap (λ (c : ℕ). declarations_from bytes u c 0) (add-one i) ∙ declarations_list bytes u (suc i) 0
        ∙ from_more (declaration_at bytes u) i 0
        ∙ ap₂ (λ (x : List Declaration) (d : Declaration). x ++ (d ∷ [])) (sym (declarations_list bytes u i 0)
        ∙ symbols_same bytes t u i k.nodes same_table)
        (let e : 0 + i ≡ i = omega arith in ap (declaration_at bytes u) e ∙ new_declaration))
        (nodes_same bytes t u i k.nodes same_table m)
        (clauses_same bytes t u i k.nodes same_table m k.clauses st.clauses
        (λ j p. clause_kept_symbol t i start word (symbol_word function arity) l j))

  symbols_length : length (table_of bytes t k).symbols ≡ k.symbols
  unfolding table_of
  symbols_length = ap length (declarations_list bytes t k.symbols 0) ∙ from_length (declaration_at bytes t) k.symbols 0

  is_found : find_name bytes t k.symbols (word_at bytes start len) (take len (drop start bytes)) ≡ is_declared same_name (take len (drop start bytes))
      (table_of bytes t k).symbols
  unfolding find_name table_of
  is_found =
      found bytes t k.symbols 0 start len word (take len (drop start bytes))
      (record { within = fits; short = short; part = refl; word_is = refl })
      (λ j p q. st.names j (omega arith))

  pub declaration_follows : Follows (TableIs bytes) t (insert_declaration bytes t k function start len arity)
      (sheetTakeDeclaration same_name (table_of bytes t k) declared)
  unfolding insert_declaration sheetTakeDeclaration Agrees Rest
  declaration_follows = rw (symbols_length, ← is_found) (room (leb 256 i) refl)
    where
      name : (x : Bool) → i < 256
          → Follows (TableIs bytes) t (cond x (made t (Err Unknown)) (made u (Ok k')))
          (cond x (stop 8)
          (next (record {
            symbols = (table_of bytes t k).symbols ++ (declared ∷ []);
            nodes = (table_of bytes t k).nodes;
            clauses = (table_of bytes t k).clauses;
          })))
      name true l = record { agrees = refl; long = refl; rest = refl; order = refl }
      name false l =
          let rest = rest_symbol t i start word (symbol_word function arity) l in
          record { agrees = (ap next (sym (table_symbol l)), stands_symbol l); long = rest.0; rest = rest.1; order = rest.2 }

      room : (x : Bool) → leb 256 i ≡ x
          → Follows (TableIs bytes) t
          (cond x (made t (Err TooMany)) (cond (find_name bytes t i (word_at bytes start len) (take len (drop start bytes))) (made t (Err Unknown)) (made u (Ok k'))))
          (cond (not (ltb i 256)) (stop 7)
          (cond (find_name bytes t i (word_at bytes start len) (take len (drop start bytes))) (stop 8)
          (next (record {
            symbols = (table_of bytes t k).symbols ++ (declared ∷ []);
            nodes = (table_of bytes t k).nodes;
            clauses = (table_of bytes t k).clauses;
          }))))
      room true e = let p = leb-true 256 i e in rw (le-ltb i 256 p) (record { agrees = refl; long = refl; rest = refl; order = refl })
      room false e = let p = leb-false 256 i e in rw (lt-ltb i 256 p) (name (find_name bytes t i (word_at bytes start len) (take len (drop start bytes))) p)
