-- Terms: `read_term` reads back what `spell_term` writes, and only that.
use Prim.Native.Nat.{ℕ, zero, suc, ◌≤◌}
use Prim.Native.Char.{code}
use mathlib.Core.Path.{◌≡◌, refl, sym, ◌∙◌, ap, ap₂, subst}
use mathlib.Core.Bool.{Bool, true, false}
use mathlib.Core.List.{List, [], ◌∷◌, ◌++◌, append_assoc, append-nil}
use mathlib.Core.Option.{Option, none, some}
use lib.Dec.{eqb}
use lib.ListN.{length, length-append}
use borrow.Author.Tests.{eqb-true}
use native.Mathlib.Omega.{arith}
use Rattle.terms.specs.Terms.{Functor, leaf, app, Terms, nil, cons, count}
use Rattle.sequents.specs.Symbols.{Symbol, made, leftover, Ground}
use Rattle.sheet_format.specs.Limits.{max_number}
use Rattle.sheet_format.specs.Bytes.{is_digit, is_small, is_capital, is_letter, is_name_byte}
use Rattle.sheet_format.specs.Nodes.{Declaration}
use Rattle.sheet_format.proofs.Options.{OnSome, some_weaken}
use Rattle.sheet_format.proofs.Bytes.{Graphic}
use Rattle.sheet_format.proofs.Names.{Names}
use Rattle.answer_texts.specs.Spelling.{spell_functor, spell_symbol, spell_term, spell_arguments, spell_more}
use Rattle.answer_texts.specs.Spelled.{WritableFunctor, SmallSymbol, WritableTerm, WritableTerms}
use Rattle.text_judging.specs.Reading.{Span, span, Parsed, parsed, read_symbol, after, cons_parsed, read_more, read_arguments, Head}
use Rattle.text_judging.specs.Reading.{find_head, apply_to, read_application, read_term, whole_term, term_field}
use Rattle.text_judging.proofs.Spans.{Stops, stops_digit, span_append, span_split, after_some}
use Rattle.answer_texts.proofs.Declared.{marked}
use Rattle.answer_texts.proofs.SoundWritable.{formed_term}
use Rattle.answer_texts.proofs.SpelledLines as Spelled
use Rattle.text_judging.proofs.Symbols.{read_symbol_lem, ReadsSymbol, read_symbol_some}
use Rattle.text_judging.proofs.Functors.{Starts, functor_starts, find_head_lem, find_head_some, starts_length}

-- one step

-- Bytes that begin with neither `!` nor `_` are read as a name or a number, then arguments.
read_term_name : (f : ℕ) (ds : List Declaration) (c : ℕ) (cs : List ℕ) → eqb c (code "!") ≡ false → eqb c (code "_") ≡ false
    → read_term (suc f) ds (c ∷ cs) ≡ read_application (read_term f ds) (find_head ds (span is_name_byte (c ∷ cs)).taken)
    (span is_name_byte (c ∷ cs)).rest
unfolding read_term
read_term_name f ds c cs h k = rw (h, read_term) (rw k)

-- spelled terms are read

-- A name or a number is read to its end, then its arguments are read.
read_name : (ds : List Declaration) (b r : List ℕ) (f : ℕ) → Starts b → Stops is_name_byte r
    → read_term (suc f) ds (b ++ r) ≡ read_application (read_term f ds) (find_head ds b) r
read_name ds [] r f h s = absurd h
read_name ds (c ∷ cs) r f h s =
    read_term_name f ds c (cs ++ r) h.0 h.1
    ∙ ap (λ (x : Span). read_application (read_term f ds) (find_head ds x.taken) x.rest)
    (span_append is_name_byte (c ∷ cs) r h.2 s)

-- The spelling of a symbol is read back as a leaf.
read_leaf : (s : Symbol) (ds : List Declaration) (f : ℕ) (r : List ℕ) → SmallSymbol s → length (spell_symbol s) ≤ f → Stops is_name_byte r
    → read_term f ds (spell_symbol s ++ r) ≡ parsed (leaf s) r
unfolding SmallSymbol spell_symbol read_term
read_leaf (made n k) ds zero r w l h = absurd (omega arith)
read_leaf (made n k) ds (suc f) r w l h = read_symbol_lem made n k r w.0 w.1 (stops_digit r h)
read_leaf (leftover n k) ds zero r w l h = absurd (omega arith)
read_leaf (leftover n k) ds (suc f) r w l h = read_symbol_lem leftover n k r w.0 w.1 (stops_digit r h)

-- An application is read back, if its arguments a are read as ts.
read_application_lem : (ds : List Declaration) (g : Functor) (ts : Terms Symbol) (a : List ℕ) (f : ℕ) (r : List ℕ) → Names ds
    → WritableFunctor ds g (count ts)
    → Stops is_name_byte (a ++ r) → read_arguments (read_term f ds) (count ts) (a ++ r) ≡ parsed ts r
    → read_term (suc f) ds ((spell_functor ds g ++ a) ++ r) ≡ parsed (app g ts) r
unfolding read_application apply_to
read_application_lem ds g ts a f r ns d s h =
    ap (read_term (suc f) ds) (append_assoc (spell_functor ds g) a r)
    ∙ read_name ds (spell_functor ds g) (a ++ r) f (functor_starts ds g (count ts) ns d) s
    ∙ ap (λ (o : Option Head). read_application (read_term f ds) o (a ++ r)) (find_head_lem ds g (count ts) ns d) ∙ ap (apply_to g) h

-- The spelling of arguments does not begin with a byte of a name, if what follows it does not.
stops_arguments : (ts : Terms Symbol) (ds : List Declaration) (r : List ℕ) → Stops is_name_byte r
    → Stops is_name_byte (spell_arguments ts ds ++ r)
unfolding spell_arguments is_name_byte is_letter is_small is_capital is_digit
stops_arguments nil ds r h = h
stops_arguments (cons t ts) ds r h = refl

-- What stands after an argument does not begin with a byte of a name.
stops_more : (ts : Terms Symbol) (ds : List Declaration) (r : List ℕ) → Stops is_name_byte (spell_more ts ds ++ r)
unfolding spell_more is_name_byte is_letter is_small is_capital is_digit
stops_more nil ds r = refl
stops_more (cons t ts) ds r = refl

-- The fuel may be the length of what is spelled, for that is longer than each part.
mutual
  unfolding spell_term WritableTerm read_arguments read_more after cons_parsed count

  pub read_term_lem : (t : Ground) (ds : List Declaration) (f : ℕ) (r : List ℕ) → Names ds → WritableTerm t ds → length (spell_term t ds) ≤ f
      → Stops is_name_byte r
      → read_term f ds (spell_term t ds ++ r) ≡ parsed t r
  read_term_lem (leaf s) ds f r ns w l h = read_leaf s ds f r w l h
  read_term_lem (app g ts) ds zero r ns w l h =
      let a = starts_length (spell_functor ds g) (functor_starts ds g (count ts) ns w.0) in
      let b = length-append (spell_functor ds g) (spell_arguments ts ds) in
      absurd (omega arith)
  read_term_lem (app g ts) ds (suc f) r ns w l h =
      let a = starts_length (spell_functor ds g) (functor_starts ds g (count ts) ns w.0) in
      let b = length-append (spell_functor ds g) (spell_arguments ts ds) in
      read_application_lem ds g ts (spell_arguments ts ds) f r ns w.0 (stops_arguments ts ds r h)
      (read_arguments_lem ts ds f r ns w.1 (omega arith))

  pub read_arguments_lem : (ts : Terms Symbol) (ds : List Declaration) (f : ℕ) (r : List ℕ) → Names ds → WritableTerms ts ds
      → length (spell_arguments ts ds) ≤ f
      → read_arguments (read_term f ds) (count ts) (spell_arguments ts ds ++ r) ≡ parsed ts r
  read_arguments_lem nil ds f r ns w l = refl
  read_arguments_lem (cons t ts) ds f r ns w l =
      let b = length-append (spell_term t ds) (spell_more ts ds) in
      rw (append_assoc (spell_term t ds) (spell_more ts ds) r)
      (rw (read_term_lem t ds f (spell_more ts ds ++ r) ns w.0 (omega arith) (stops_more ts ds r), after)
      (ap (cons_parsed t) (read_more_lem ts ds f r ns w.1 (omega arith))))

  pub read_more_lem : (ts : Terms Symbol) (ds : List Declaration) (f : ℕ) (r : List ℕ) → Names ds → WritableTerms ts ds
      → length (spell_more ts ds) ≤ f
      → read_more (read_term f ds) (count ts) (spell_more ts ds ++ r) ≡ parsed ts r
  read_more_lem nil ds f r ns w l = refl
  read_more_lem (cons t ts) ds f r ns w l =
      let b = length-append (spell_term t ds) (spell_more ts ds) in
      rw (append_assoc (spell_term t ds) (spell_more ts ds) r)
      (rw (read_term_lem t ds f (spell_more ts ds ++ r) ns w.0 (omega arith) (stops_more ts ds r), after)
      (ap (cons_parsed t) (read_more_lem ts ds f r ns w.1 (omega arith))))

-- what is read is so spelled

-- A term that is read is spelled so and can be written.
pub record ReadsTerm (ds : List Declaration) (b : List ℕ) (p : Parsed Ground) : Type 0 where
  pub spelled : b ≡ spell_term p.value ds ++ p.rest
  pub writable : WritableTerm p.value ds

-- The n terms that are read are spelled so, by `spell_more` or `spell_arguments`, and can be written.
record ReadsTerms (spelling : Terms Symbol → List Declaration → List ℕ) (ds : List Declaration) (n : ℕ) (b : List ℕ)
    (p : Parsed (Terms Symbol)) : Type 0 where
  spelled : b ≡ spelling p.value ds ++ p.rest
  counted : count p.value ≡ n
  writable : WritableTerms p.value ds

-- Both spellings of a term and more put a byte c, then the term, then the others.
abbrev BeginsWith : (Terms Symbol → List Declaration → List ℕ) → ℕ → List Declaration → Type 0
BeginsWith spelling c ds = (t : Ground) (ts : Terms Symbol) → spelling (cons t ts) ds ≡ c ∷ (spell_term t ds ++ spell_more ts ds)

-- A term that is read and n more after it are n + 1 terms that are spelled so.
cons_parsed_some : (spelling : Terms Symbol → List Declaration → List ℕ) (c : ℕ) (ds : List Declaration) (n : ℕ) (b : List ℕ)
    (p : Parsed Ground) (o : Option (Parsed (Terms Symbol)))
    → BeginsWith spelling c ds → ReadsTerm ds b p → OnSome (ReadsTerms spell_more ds n p.rest) o
    → OnSome (ReadsTerms spelling ds (suc n) (c ∷ b)) (cons_parsed p.value o)
unfolding cons_parsed count WritableTerm
cons_parsed_some spelling c ds n b p none e h k = tt
cons_parsed_some spelling c ds n b p (some q) e h k =
    record {
      spelled =
          ap (c ∷◌) (h.spelled ∙ ap (spell_term p.value ds ++◌) k.spelled
          ∙ sym (append_assoc (spell_term p.value ds) (spell_more q.value ds) q.rest))
          ∙ ap (◌++ q.rest) (sym (e p.value q.value));
      counted = ap suc k.counted;
      writable = (h.writable, k.writable);
    }

-- A term that r reads and n more that `read_more` reads are n + 1 terms that are spelled so.
next_some : (spelling : Terms Symbol → List Declaration → List ℕ) (c : ℕ) (ds : List Declaration) (r : List ℕ → Option (Parsed Ground))
    (n : ℕ) → BeginsWith spelling c ds
    → ((b : List ℕ) → OnSome (ReadsTerm ds b) (r b)) → ((b : List ℕ) → OnSome (ReadsTerms spell_more ds n b) (read_more r n b)) → (b : List ℕ)
    → OnSome (ReadsTerms spelling ds (suc n) (c ∷ b)) (elim (r b) [ none ↦ none | some p ↦ cons_parsed p.value (read_more r n p.rest) ])
next_some spelling c ds r n e h k b = go (r b) (h b)
  where
    go : (o : Option (Parsed Ground)) → OnSome (ReadsTerm ds b) o
        → OnSome (ReadsTerms spelling ds (suc n) (c ∷ b)) (elim o [ none ↦ none | some p ↦ cons_parsed p.value (read_more r n p.rest) ])
    go none q = tt
    go (some p) q = cons_parsed_some spelling c ds n b p (read_more r n p.rest) e q (k p.rest)

-- The n more terms that `read_more` reads are spelled each after a comma, with the bracket at the end.
read_more_some : (ds : List Declaration) (r : List ℕ → Option (Parsed Ground)) → ((b : List ℕ) → OnSome (ReadsTerm ds b) (r b))
    → (n : ℕ) (b : List ℕ)
    → OnSome (ReadsTerms spell_more ds n b) (read_more r n b)
unfolding read_more spell_term count WritableTerm
read_more_some ds r h zero b =
    after_some (ReadsTerms spell_more ds zero) (code ")") (λ d. parsed nil d)
    (λ d. record { spelled = refl; counted = refl; writable = tt }) b
read_more_some ds r h (suc n) b =
    after_some (ReadsTerms spell_more ds (suc n)) (code ",")
    (λ d. elim (r d) [ none ↦ none | some p ↦ cons_parsed p.value (read_more r n p.rest) ])
    (next_some spell_more (code ",") ds r n (λ t ts. refl) h (read_more_some ds r h n)) b

-- The n terms that `read_arguments` reads are spelled in brackets.
read_arguments_some : (ds : List Declaration) (r : List ℕ → Option (Parsed Ground)) → ((b : List ℕ) → OnSome (ReadsTerm ds b) (r b))
    → (n : ℕ) (b : List ℕ)
    → OnSome (ReadsTerms spell_arguments ds n b) (read_arguments r n b)
unfolding read_arguments spell_term count WritableTerm
read_arguments_some ds r h zero b = record { spelled = refl; counted = refl; writable = tt }
read_arguments_some ds r h (suc n) b =
    after_some (ReadsTerms spell_arguments ds (suc n)) (code "(")
    (λ d. elim (r d) [ none ↦ none | some p ↦ cons_parsed p.value (read_more r n p.rest) ])
    (next_some spell_arguments (code "(") ds r n (λ t ts. refl) h (read_more_some ds r h n)) b

-- An application that is read as the name or the number m and arguments is spelled so.
apply_to_some : (ds : List Declaration) (m b : List ℕ) (f : Head) (o : Option (Parsed (Terms Symbol))) → spell_functor ds f.functor ≡ m
    → WritableFunctor ds f.functor f.arity
    → OnSome (ReadsTerms spell_arguments ds f.arity b) o → OnSome (ReadsTerm ds (m ++ b)) (apply_to f.functor o)
unfolding apply_to spell_term WritableTerm
apply_to_some ds m b f none e d h = tt
apply_to_some ds m b f (some p) e d h =
    record {
      spelled = ap₂ ◌++◌ (sym e) h.spelled ∙ sym (append_assoc (spell_functor ds f.functor) (spell_arguments p.value ds) p.rest);
      writable = (subst (WritableFunctor ds f.functor) (sym h.counted) d, h.writable);
    }

-- An application that is read as a name or a number that was looked up and arguments is spelled so.
read_application_some : (ds : List Declaration) (r : List ℕ → Option (Parsed Ground)) → ((b : List ℕ) → OnSome (ReadsTerm ds b) (r b))
    → (m b : List ℕ) (o : Option Head)
    → OnSome (λ f. (spell_functor ds f.functor ≡ m) × WritableFunctor ds f.functor f.arity) o
    → OnSome (ReadsTerm ds (m ++ b)) (read_application r o b)
unfolding read_application
read_application_some ds r h m b none k = tt
read_application_some ds r h m b (some f) k =
    apply_to_some ds m b f (read_arguments r f.arity b) k.0 k.1 (read_arguments_some ds r h f.arity b)

-- A symbol that is read after its first byte c is spelled so.
leaf_some : (ds : List Declaration) (s : ℕ → ℕ → Symbol) (c : ℕ) (b : List ℕ)
    → ((n k : ℕ) → spell_term (leaf (s n k)) ds ≡ c ∷ marked n k)
    → ((n k : ℕ) → n ≤ max_number → k ≤ max_number → WritableTerm (leaf (s n k)) ds)
    → OnSome (ReadsTerm ds (c ∷ b)) (read_symbol s b)
leaf_some ds s c b e w = some_weaken (ReadsSymbol s b) (ReadsTerm ds (c ∷ b)) read (read_symbol s b) (read_symbol_some s b)
  where
    read : (p : Parsed Ground) → ReadsSymbol s b p → ReadsTerm ds (c ∷ b) p
    read p h =
        record {
          spelled =
              ap (c ∷◌) h.spelled ∙ ap (◌++ p.rest) (sym (ap (λ (t : Ground). spell_term t ds) h.symbol ∙ e h.number h.level));
          writable =
              subst (λ (t : Ground). WritableTerm t ds) (sym h.symbol) (w h.number h.level h.small_number h.small_level);
        }

-- Whatever the fuel.
pub read_term_some : (f : ℕ) (ds : List Declaration) (b : List ℕ) → OnSome (ReadsTerm ds b) (read_term f ds b)
unfolding read_term spell_term spell_symbol WritableTerm SmallSymbol
read_term_some zero ds b = tt
read_term_some (suc f) ds [] = tt
read_term_some (suc f) ds (c ∷ cs) = go (eqb c (code "!")) refl (eqb c (code "_")) refl (read_term_some f ds)
  where
    n : Span
    n = span is_name_byte (c ∷ cs)

    go : (a : Bool) → eqb c (code "!") ≡ a → (u : Bool) → eqb c (code "_") ≡ u → ((b : List ℕ) → OnSome (ReadsTerm ds b) (read_term f ds b))
        → OnSome (ReadsTerm ds (c ∷ cs)) (read_term (suc f) ds (c ∷ cs))
    go true p u q h = rw (eqb-true c (code "!") p) (leaf_some ds made (code "!") cs (λ m k. refl) (λ m k x y. (x, y)))
    go false p true q h = rw (eqb-true c (code "_") q) (leaf_some ds leftover (code "_") cs (λ m k. refl) (λ m k x y. (x, y)))
    go false p false q h =
        subst (OnSome (ReadsTerm ds (c ∷ cs))) (sym (read_term_name f ds c cs p q))
        (subst (λ (b : List ℕ). OnSome (ReadsTerm ds b) (read_application (read_term f ds) (find_head ds n.taken) n.rest))
        (sym (span_split is_name_byte (c ∷ cs)))
        (read_application_some ds (read_term f ds) h n.taken n.rest (find_head ds n.taken) (find_head_some ds n.taken)))

-- fields that are terms

-- A term is read back from the field that spells it.
pub read_field : (t : Ground) (ds : List Declaration) → Names ds → WritableTerm t ds → term_field ds (spell_term t ds) ≡ some t
unfolding term_field whole_term
read_field t ds ns w =
    ap whole_term (ap (read_term (length (spell_term t ds)) ds) (sym (append-nil (spell_term t ds)))
    ∙ read_term_lem t ds (length (spell_term t ds)) [] ns w (omega arith) tt)

-- A term that is read from a field is spelled by the field and can be written.
pub term_field_some : (ds : List Declaration) (b : List ℕ) → OnSome (λ t. (spell_term t ds ≡ b) × WritableTerm t ds) (term_field ds b)
unfolding term_field whole_term
term_field_some ds b = go (read_term (length b) ds b) (read_term_some (length b) ds b)
  where
    whole : (t : Ground) (r : List ℕ) → ReadsTerm ds b (record { value = t; rest = r })
        → OnSome (λ u. (spell_term u ds ≡ b) × WritableTerm u ds) (whole_term (parsed t r))
    whole t [] h = (sym (h.spelled ∙ append-nil (spell_term t ds)), h.writable)
    whole t (c ∷ cs) h = tt

    go : (o : Option (Parsed Ground)) → OnSome (ReadsTerm ds b) o → OnSome (λ u. (spell_term u ds ≡ b) × WritableTerm u ds) (whole_term o)
    go none h = tt
    go (some p) h = whole p.value p.rest h

-- The bytes of a term that can be written are graphic.
pub term_graphic : (t : Ground) (ds : List Declaration) → Names ds → WritableTerm t ds → Graphic (spell_term t ds)
term_graphic t ds ns w = Spelled.term_graphic ds ns SmallSymbol t (formed_term t ds w)
