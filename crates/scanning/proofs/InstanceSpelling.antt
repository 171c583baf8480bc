-- Matching a text with the spelling of an instance: the instance stands at a position exactly if its spelling is a beginning of
-- what stands there.
use Prim.Native.Nat.{ℕ, zero, suc, ◌+◌, ◌-◌, ◌<◌, ◌≤◌}
use native.Mathlib.Omega.{arith}
use native.Mathlib.Numerals.{add-one}
use mathlib.Core.Path.{◌≡◌, refl, sym, ap, ap₂, ◌∙◌, subst}
use mathlib.Core.Bool.{Bool, true, false, ◌&&◌, ◌||◌, cond, true≢false}
use mathlib.Core.List.{List, [], ◌∷◌, ◌++◌, append-nil}
use mathlib.Core.Logic.{◌⊎◌, inl, inr}
use mathlib.Core.Option.{Option, none, some}
use lib.Dec.{eqb, leb, ltb}
use lib.ListN.{length, get_or, take, drop, length-append, length-drop, take-append-drop, get_elem?}
use borrow.Author.Tests.{eqb-true, eqb-false, eq-eqb, ne_eqb, leb-false}
use Rattle.terms.specs.Terms.{Functor, sheet_symbol, numeral, Term, leaf, app, Terms, nil, cons, substitute, substitutes, count}
use Rattle.formulas.specs.Formulas.{variable_names, free_t, free_ts}
use Rattle.formulas.proofs.Free.{or_left, or_right}
use Rattle.sequents.specs.Symbols.{Symbol, Ground}
use Rattle.sequents.specs.Sequents.{Environment}
use Rattle.sheet_format.specs.Limits.{max_symbols, max_nodes, max_number}
use Rattle.sheet_format.specs.Bytes.{is_digit, number, decimal, folded_name}
use Rattle.sheet_format.specs.Nodes.{Declaration}
use Rattle.sheet_format.proofs.Bytes.{name_kinds}
use Rattle.sheet_format.proofs.Names.{Names}
use Rattle.sheet_format.proofs.Numbers.{number_some}
use Rattle.sheet_format.proofs.Options.{OnSome}
use Rattle.sheet_format.proofs.Formed.{Declares, Takes, FormedTerm, FormedTerms}
use Rattle.node_table.specs.Layout.{kind_of, child_count, label_of, child_of, name_start, name_length, variable_kind, application_kind}
use Rattle.node_table.specs.Decoding.{functor_of, children_by, term_at, arguments_at, declaration_at, declarations_from}
use Rattle.node_table.specs.WellMade.{IsTerm, label_arity, Arguments}
use Rattle.node_table.proofs.Decoding.{Nodes, term_variable, term_application}
use Rattle.answer_texts.specs.Spelling.{name_of, spell_functor, spell_term, spell_arguments, spell_more}
use Rattle.answer_texts.specs.Spelled.{WritableFunctor, WritableTerm, WritableTerms}
use Rattle.answer_texts.proofs.Declared.{name_at, name_of_lem, takes_writable}
use Rattle.text_judging.specs.Reading.{Span, span}
use Rattle.text_judging.proofs.Spans.{Stops, span_split}
use Rattle.scanning.specs.Ranges.{Number}
use Rattle.std.specs.Prelude.{Some, None}
use Rattle.scanning.specs.Instances.{Reach}
use Rattle.scanning.specs.Scanning.{name_size}
use Rattle.scanning.specs.Frames.{slot_start, slot_end}
use Rattle.scanning.specs.Instances.{match_range, match_name, match_number, match_functor, match_slot, argument_count, argument_of}
use Rattle.scanning.specs.Instances.{match_more, match_arguments, match_application, match_instance}
use Rattle.scanning.proofs.Positions.{byte_is, byte_none, drop_next, drop_past}
use Rattle.scanning.proofs.Ranges.{begins, begins_rest, rest_begins, Solid, range_begins, Folded, folded_range, number_to}
use Rattle.scanning.proofs.Ranges.{read_number, read_decimal}
use Rattle.scanning.proofs.Names.{size_length, name_solid, span_stops}
use Rattle.scanning.proofs.TermsInText.{SpelledAt, spelling_solid}
use Rattle.terms.proofs.Tests.{eqb_comm}

-- reaching the end of bytes

-- Where the bytes a end that stand in x at position i.
unfoldable pub reach : List ℕ → List ℕ → ℕ → Reach
reach a x i = cond (begins a (drop i x)) (Some (i + length a)) None

-- An empty list of bytes ends where it begins.
reach_nil : (x : List ℕ) (i : ℕ) → Some i ≡ reach [] x i
unfolding reach begins
reach_nil x i = let e : i ≡ i + 0 = omega arith in ap Some e

-- Going on with g where a position was reached.
abbrev onward : (ℕ → Reach) → Reach → Reach
onward g (Some j) = g j
onward g None = None

-- What was reached agrees with p: it is p, or nothing where p ends before a digit, since a number that goes on is another number.
abbrev pub Matches : List ℕ → Reach → Reach → Type 0
Matches x o (Some e) = (o ≡ Some e) ⊎ ((o ≡ None) × (is_digit (get_or x e 0) ≡ true))
Matches x o None = o ≡ None

-- What is p agrees with p.
matches_same : (x : List ℕ) (o p : Reach) → o ≡ p → Matches x o p
matches_same x o (Some e) h = inl h
matches_same x o None h = h

-- After equal bytes, the bytes that follow decide.
begins_append : (a c r : List ℕ) → begins (a ++ c) (a ++ r) ≡ begins c r
unfolding begins
begins_append [] c r = refl
begins_append (d ∷ a) c r = rw (eq-eqb d d refl) (begins_append a c r)

-- Bytes that do not begin a list do not begin it with more after them.
begins_part : (a c y : List ℕ) → begins a y ≡ false → begins (a ++ c) y ≡ false
unfolding begins
begins_part [] c y h = absurd (true≢false h)
begins_part (d ∷ a) c [] h = refl
begins_part (d ∷ a) c (e ∷ y) h = go (eqb d e) (begins_part a c y) h
  where
    go : (p : Bool) → (begins a y ≡ false → begins (a ++ c) y ≡ false) → (p && begins a y) ≡ false → (p && begins (a ++ c) y) ≡ false
    go true ih k = ih k
    go false ih k = refl

-- Reaching the end of one part and then of another is reaching the end of both.
reach_append : (a c x : List ℕ) (i : ℕ) → onward (reach c x) (reach a x i) ≡ reach (a ++ c) x i
unfolding reach
reach_append a c x i = go (begins a (drop i x)) refl
  where
    go : (z : Bool) → begins a (drop i x) ≡ z
        → onward (reach c x) (cond z (Some (i + length a)) None) ≡ cond (begins (a ++ c) (drop i x)) (Some (i + length (a ++ c))) None
    go false h = rw (begins_part a c (drop i x) h)
    go true h =
        let r = begins_rest a (drop i x) h in
        let l : i + length a + length c ≡ i + length (a ++ c) = (let q = length-append a c in omega arith) in
        ap₂ (λ (z : Bool) (j : ℕ). cond z (Some j) None)
        (ap (begins c) (drop_past x i a r.0 r.1) ∙ sym (begins_append a c r.0) ∙ ap (begins (a ++ c)) (sym r.1)) l

-- Reaching the end of a byte and then others is a test of the byte first.
reach_byte : (c : ℕ) (a x : List ℕ) (i : ℕ) → 0 < c → cond (eqb (get_or x i 0) c) (reach a x (i + 1)) None ≡ reach (c ∷ a) x i
unfolding reach begins
reach_byte c a x i z = go (drop i x) refl
  where
    go : (y : List ℕ) → drop i x ≡ y
        → cond (eqb (get_or x i 0) c) (cond (begins a (drop (i + 1) x)) (Some (i + 1 + length a)) None) None ≡ cond (begins (c ∷ a) y)
        (Some (i + suc (length a))) None
    go [] h = rw (byte_none x i h, ne_eqb 0 c (λ q. omega arith))
    go (d ∷ ds) h =
        let l : i + 1 + length a ≡ i + suc (length a) = omega arith in
        rw (byte_is x i d ds h, drop_next x i d ds h, l, eqb_comm d c) (both (eqb c d))
      where
        both : (p : Bool) → cond p (cond (begins a ds) (Some (i + suc (length a))) None) None ≡ cond (p && begins a ds)
            (Some (i + suc (length a))) None
        both true = refl
        both false = refl

-- names and terms of the text

-- A beginning of a list is no longer than the list.
begins_short : (a y : List ℕ) → begins a y ≡ true → length a ≤ length y
begins_short a y h = let r = begins_rest a y h in let e = ap length r.1 ∙ length-append a r.0 in omega arith

-- Matching bytes that stand somewhere else reaches the end of these bytes.
match_range_lem : (l r a : List ℕ) (s : ℕ) (x : List ℕ) (i : ℕ) → drop s a ≡ l ++ r → Solid l → folded_name a ≡ a → folded_name x ≡ x
    → match_range (length l) a s x i ≡ reach l x i
unfolding match_range reach
match_range_lem l r a s x i h z p₀ q₀ =
    rw (folded_range (length l) a s x i p₀ q₀ ∙ range_begins l r a s x i h z) (go (begins l (drop i x)) refl (leb (length l) (length x - i)) refl)
  where
    go : (p : Bool) → begins l (drop i x) ≡ p → (q : Bool) → leb (length l) (length x - i) ≡ q
        → cond q (cond p (Some (i + length l)) None) None ≡ cond p (Some (i + length l)) None
    go p k true m = refl
    go false k false m = refl
    go true k false m =
        let u = begins_short l (drop i x) k in
        let v = length-drop i x in
        absurd (let o = leb-false (length l) (length x - i) m in omega arith)

-- Matching a number reaches the end of its digits, unless a digit follows them.
match_number_lem : (n : ℕ) (x : List ℕ) (i : ℕ) → n ≤ max_number → Matches x (match_number n x i) (reach (decimal n) x i)
unfolding match_number reach
match_number_lem n x i l = go (begins (decimal n) (drop i x)) refl
  where
    Found : Number → Reach
    Found o = elim o [ Some (m, e) ↦ cond (eqb m n) (Some e) None | None ↦ None ]

    d : Span
    d = span is_digit (drop i x)

    -- Where the digits at position i are not those of n, no match is found.
    differs : (d.taken ≡ decimal n → ⊥) → match_number n x i ≡ None
    differs h = ap Found (read_number x i) ∙ other (number d.taken) (number_some d.taken)
      where
        other : (o : Option ℕ) → OnSome (λ m. (d.taken ≡ decimal m) × (m ≤ max_number)) o
            → Found (number_to (i + length d.taken) o) ≡ None
        other none k = refl
        other (some m) k = rw (ne_eqb m n (λ e. h (k.0 ∙ ap decimal e)))

    stands : (r : List ℕ) → drop i x ≡ decimal n ++ r → drop (i + length (decimal n)) x ≡ r
        → Matches x (match_number n x i) (Some (i + length (decimal n)))
    stands [] h k = inl (ap Found (read_decimal x i n [] h l tt) ∙ rw (eq-eqb n n refl))
    stands (c ∷ cs) h k = digit (is_digit c) refl
      where
        digit : (z : Bool) → is_digit c ≡ z → Matches x (match_number n x i) (Some (i + length (decimal n)))
        digit false q = inl (ap Found (read_decimal x i n (c ∷ cs) h l q) ∙ rw (eq-eqb n n refl))
        digit true q = inr (
          differs (λ e. true≢false (sym q ∙ subst (Stops is_digit) (sym (drop_past x i d.taken d.rest (span_split is_digit (drop i x)))
              ∙ ap (λ (a : List ℕ). drop (i + length a) x) e ∙ k) (span_stops is_digit (drop i x)))),
          ap is_digit (byte_is x (i + length (decimal n)) c cs k) ∙ q,
        )

    go : (z : Bool) → begins (decimal n) (drop i x) ≡ z → Matches x (match_number n x i) (cond z (Some (i + length (decimal n))) None)
    go true h =
        let r = begins_rest (decimal n) (drop i x) h in stands r.0 r.1 (drop_past x i (decimal n) r.0 r.1)
    go false h =
        differs (λ e. true≢false (sym (rest_begins (decimal n) d.rest) ∙ ap (λ (a : List ℕ). begins (decimal n) (a ++ d.rest)) (sym e)
        ∙ ap (begins (decimal n)) (sym (span_split is_digit (drop i x))) ∙ h))

-- A declared symbol is the one in the table.
declared_is : (b t : List ℕ) (c k i : ℕ) (d : Declaration) → get_elem? (declarations_from b t c k) i ≡ some d → declaration_at b t (k + i) ≡ d
unfolding declarations_from
declared_is b t zero k i d h = absurd (let z : ◌≡◌ {A = ℕ} 0 1 = cc in omega arith)
declared_is b t (suc c) k zero d h =
    let e : k + 0 ≡ k = omega arith in
    let q : declaration_at b t k ≡ d = cc in
    ap (declaration_at b t) e ∙ q
declared_is b t (suc c) k (suc i) d h =
    let e : k + suc i ≡ suc k + i = omega arith in
    ap (declaration_at b t) e ∙ declared_is b t c (suc k) i d h

module _ (b t : List ℕ) (symbols : ℕ) (names : Names (declarations_from b t symbols 0)) (x : List ℕ) (small : Folded b x) where
  -- The declared symbols are those of the table.
  abbrev ds : List Declaration
  ds = declarations_from b t symbols 0

  -- The name of a declared symbol is as the sheet has it.
  name_bytes_lem : (k n : ℕ) → Declares ds true k n → name_of ds k ≡ take (name_length t k) (drop (name_start t k) b)
  unfolding declaration_at
  name_bytes_lem k n d =
      let e : 0 + k ≡ k = omega arith in
      name_at ds k d.declaration d.at
      ∙ ap (λ (a : Declaration). a.name) (sym (ap (declaration_at b t) (sym e) ∙ declared_is b t symbols 0 k d.declaration d.at))

  -- Matching a name reaches the end of the name.
  match_name_lem : (k n i : ℕ) → Declares ds true k n → match_name b t k x i ≡ reach (name_of ds k) x i
  unfolding match_name
  match_name_lem k n i d =
      let a = name_of ds k in
      let e = name_bytes_lem k n d in
      let l : name_size b t k ≡ length a = sym (ap length e ∙ size_length b t k) in
      let m = name_length t k in
      let y = drop (name_start t k) b in
      rw l
      (match_range_lem a (drop m y) b (name_start t k) x i (sym (take-append-drop m y) ∙ ap (◌++ drop m y) (sym e))
      (name_solid a (name_kinds a (name_of_lem ds k n names d))) small.bytes small.text)

  -- Matching a term of the text reaches the end of its spelling.
  match_slot_lem : (w : List ℕ) (g v i : ℕ) (u : Ground) → SpelledAt ds x (slot_start w g v) (slot_end w g v) u
      → match_slot x w g v i ≡ reach (spell_term u ds) x i
  unfolding match_slot
  match_slot_lem w g v i u p =
      let l : slot_end w g v - slot_start w g v ≡ length (spell_term u ds) = (let q = p.end in omega arith) in
      rw l (match_range_lem (spell_term u ds) (drop (slot_end w g v) x) x (slot_start w g v) x i p.spelled
      (spelling_solid u ds names p.writable) small.text small.text)

-- frames

-- Frame r has the terms of the environment, for the names that pass the test.
abbrev pub Frame : List Declaration → List ℕ → List ℕ → ℕ → Environment Symbol → (ℕ → Bool) → Type 0
Frame ds x w r e free = (v : ℕ) → v < variable_names → free v ≡ true → SpelledAt ds x (slot_start w r v) (slot_end w r v) (e v)

-- A frame for some names is a frame for fewer names.
pub frame_fewer : (ds : List Declaration) (x w : List ℕ) (r : ℕ) (e : Environment Symbol) (p q : ℕ → Bool)
    → ((v : ℕ) → q v ≡ true → p v ≡ true)
    → Frame ds x w r e p → Frame ds x w r e q
frame_fewer ds x w r e p q h f v l k = f v l (h v k)

-- Substitution keeps the number of terms.
substitutes_count : (ps : Terms ℕ) (e : Environment Symbol) → count (substitutes ps e) ≡ count ps
unfolding substitutes count
substitutes_count nil e = refl
substitutes_count (cons p ps) e = ap suc (substitutes_count ps e)

-- Instances can be written.
mutual
  unfolding WritableTerm substitute FormedTerm free_t

  pub instance_writable : (p : Term ℕ) (ds : List Declaration) (e : Environment Symbol) → FormedTerm p ds
      → ((v : ℕ) → v < variable_names → free_t p v ≡ true → WritableTerm (e v) ds)
      → WritableTerm (substitute p e) ds
  instance_writable (leaf v) ds e h f = f v h (eq-eqb v v refl)
  instance_writable (app g ps) ds e h f = (
    subst (WritableFunctor ds g) (sym (substitutes_count ps e)) (takes_writable ds g (count ps) h.0),
    instances_writable ps ds e h.1 f,
  )

  pub instances_writable : (ps : Terms ℕ) (ds : List Declaration) (e : Environment Symbol) → FormedTerms ps ds
      → ((v : ℕ) → v < variable_names → free_ts ps v ≡ true → WritableTerm (e v) ds) → WritableTerms (substitutes ps e) ds
  instances_writable nil ds e h f = tt
  instances_writable (cons p ps) ds e h f = (
    instance_writable p ds e h.0 (λ v l k. f v l (or_left (free_t p v) (free_ts ps v) k)),
    instances_writable ps ds e h.1 (λ v l k. f v l (or_right (free_t p v) (free_ts ps v) k)),
  )

-- children

-- A child of formed children is formed.
pub formed_child : (t : List ℕ) (ds : List Declaration) (m c j k : ℕ) → FormedTerms (children_by (term_at t) t m c j) ds → j ≤ k → k < j + c
    → FormedTerm (term_at t (child_of t m k)) ds
unfolding children_by FormedTerm
formed_child t ds m zero j k h l u = absurd (omega arith)
formed_child t ds m (suc c) j k h l u = go (eqb j k) refl (λ d. formed_child t ds m c (suc j) k h.1 d (omega arith))
  where
    go : (z : Bool) → eqb j k ≡ z → (suc j ≤ k → FormedTerm (term_at t (child_of t m k)) ds) → FormedTerm (term_at t (child_of t m k)) ds
    go true e ih = subst (λ (n : ℕ). FormedTerm (term_at t (child_of t m n)) ds) (eqb-true j k e) h.0
    go false e ih = let d = eqb-false j k e in ih (omega arith)

-- What stands free in a child stands free in the children.
pub free_child : (t : List ℕ) (m c j k v : ℕ) → j ≤ k → k < j + c → free_t (term_at t (child_of t m k)) v ≡ true
    → free_ts (children_by (term_at t) t m c j) v ≡ true
unfolding children_by free_t
free_child t m zero j k v l u f = absurd (omega arith)
free_child t m (suc c) j k v l u f = go (eqb j k) refl (λ d. free_child t m c (suc j) k v d (omega arith) f)
  where
    a : Bool
    a = free_t (term_at t (child_of t m j)) v

    r : Bool
    r = free_ts (children_by (term_at t) t m c (suc j)) v

    go : (z : Bool) → eqb j k ≡ z → (suc j ≤ k → r ≡ true) → (a || r) ≡ true
    go true e ih = or_left a r (subst (λ (n : ℕ). free_t (term_at t (child_of t m n)) v ≡ true) (sym (eqb-true j k e)) f)
    go false e ih = let d = eqb-false j k e in or_right a r (ih (omega arith))

-- The remainders of a node's arguments do nothing.
pub argument_count_lem : (t : List ℕ) (m : ℕ) → Arguments t m → argument_count t m ≡ child_count t m
unfolding argument_count
argument_count_lem t m h = let k = h.few in omega arith

argument_of_lem : (t : List ℕ) (m nodes j : ℕ) → Arguments t m → m < nodes → nodes ≤ max_nodes → j < child_count t m
    → argument_of t m j ≡ child_of t m j
unfolding argument_of
argument_of_lem t m nodes j h l few k = omega (arith, (h.terms j k).0)

-- The spelling of terms, the first after the byte c, and the closing bracket.
unfoldable after_mark : ℕ → Terms Symbol → List Declaration → List ℕ
after_mark c nil ds = 41 ∷ []
after_mark c (cons u us) ds = c ∷ (spell_term u ds ++ spell_more us ds)

-- The arguments after the first are spelled after a comma.
more_sigil : (us : Terms Symbol) (ds : List Declaration) → spell_more us ds ≡ after_mark 44 us ds
unfolding spell_more after_mark
more_sigil nil ds = refl
more_sigil (cons u us) ds = refl

-- Going on in equal ways reaches the same end.
onward_same : (F G : ℕ → Reach) → ((e : ℕ) → F e ≡ G e) → (o : Reach)
    → elim o as (λ z. Reach) [ Some e ↦ F e | None ↦ None ] ≡ onward G o
onward_same F G h (Some e) = h e
onward_same F G h None = refl

-- So does going on from what agrees, in ways that lead nowhere from a digit.
onward_matches : (x : List ℕ) (F G : ℕ → Reach) → ((e : ℕ) → F e ≡ G e) → ((e : ℕ) → is_digit (get_or x e 0) ≡ true → F e ≡ None)
    → (o p : Reach) → Matches x o p
    → elim o as (λ z. Reach) [ Some e ↦ F e | None ↦ None ] ≡ onward G p
onward_matches x F G h d o (Some e) (inl q) = ap (λ (o : Reach). elim o as (λ z. Reach) [ Some e ↦ F e | None ↦ None ]) q ∙ h e
onward_matches x F G h d o (Some e) (inr q) =
    ap (λ (o : Reach). elim o as (λ z. Reach) [ Some e ↦ F e | None ↦ None ]) q.0 ∙ sym (d e q.1) ∙ h e
onward_matches x F G h d o None q = ap (λ (o : Reach). elim o as (λ z. Reach) [ Some e ↦ F e | None ↦ None ]) q

-- Going on to where one is changes nothing.
onward_to : (o : Reach) → onward Some o ≡ o
onward_to (Some e) = refl
onward_to None = refl

-- A digit is not a byte that is none.
not_digit : (c k : ℕ) → is_digit c ≡ true → is_digit k ≡ false → eqb c k ≡ false
not_digit c k h n = ne_eqb c k (λ e. true≢false (sym h ∙ ap is_digit e ∙ n))

-- No digit stands between two children or after the last one.
more_digit : (r : ℕ → ℕ → Reach) (c : ℕ) (t : List ℕ) (m j : ℕ) (x : List ℕ) (i : ℕ) → is_digit (get_or x i 0) ≡ true
    → match_more r c t m j x 44 i ≡ None
unfolding match_more is_digit
more_digit r zero t m j x i h = rw (not_digit (get_or x i 0) 41 h refl)
more_digit r (suc c) t m j x i h = rw (not_digit (get_or x i 0) 44 h refl)

module _ (t : List ℕ) (ds : List Declaration) (x : List ℕ) (e : Environment Symbol) (m : ℕ) (r : ℕ → ℕ → Reach) where
  -- Child k is gone along with by r.
  abbrev Goes : ℕ → Type 0
  Goes k = (i : ℕ) → Matches x (r (argument_of t m k) i) (reach (spell_term (substitute (term_at t (child_of t m k)) e) ds) x i)

  -- Matching children after the byte k reaches the end of their spelling.
  match_more_lem : (c j k i : ℕ) → 0 < k → ((n : ℕ) → j ≤ n → n < j + c → Goes n)
      → match_more r c t m j x k i ≡ reach (after_mark k (substitutes (children_by (term_at t) t m c j) e) ds) x i
  unfolding match_more after_mark substitutes children_by
  match_more_lem zero j k i z h =
      ap (λ (o : Reach). cond (eqb (get_or x i 0) 41) o None) (reach_nil x (i + 1)) ∙ reach_byte 41 [] x i (omega arith)
  match_more_lem (suc c) j k i z h =
      let a = spell_term (substitute (term_at t (child_of t m j)) e) ds in
      let us = substitutes (children_by (term_at t) t m c (suc j)) e in
      ap (λ (o : Reach). cond (eqb (get_or x i 0) k) o None)
      (onward_matches x (match_more r c t m (j + 1) x 44) (reach (spell_more us ds) x)
      (λ q. ap (λ (n : ℕ). match_more r c t m n x 44 q) (add-one j)
      ∙ match_more_lem c (suc j) 44 q (omega arith) (λ n l u. h n (omega arith) (omega arith))
      ∙ ap (λ (y : List ℕ). reach y x q) (sym (more_sigil us ds))) (more_digit r c t m (j + 1) x) (r (argument_of t m j) (i + 1))
      (reach a x (i + 1)) (h j (omega arith) (omega arith) (i + 1))
      ∙ reach_append a (spell_more us ds) x (i + 1))
      ∙ reach_byte k (a ++ spell_more us ds) x i z

  -- Matching all children, in brackets, reaches the end of their spelling.
  match_arguments_lem : (i : ℕ) → argument_count t m ≡ child_count t m → ((n : ℕ) → n < child_count t m → Goes n)
      → match_arguments r t m x i ≡ reach (spell_arguments (substitutes (arguments_at t m) e) ds) x i
  unfolding match_arguments arguments_at spell_arguments substitutes children_by after_mark
  match_arguments_lem i few h = rw few (go (child_count t m) refl)
    where
      go : (c : ℕ) → child_count t m ≡ c
          → cond (eqb c 0) (Some i) (match_more r c t m 0 x 40 i) ≡ reach (spell_arguments (substitutes (children_by (term_at t) t m c 0) e) ds)
          x i
      go zero q = reach_nil x i
      go (suc c) q = rw (ne_eqb (suc c) 0 (λ z. omega arith)) (match_more_lem (suc c) 0 40 i (omega arith) (λ n l u. h n (omega arith)))

-- instances

module _ (b t : List ℕ) (symbols : ℕ) (names : Names (declarations_from b t symbols 0)) (x : List ℕ) (small : Folded b x)
    (nodes : ℕ) (table : Nodes t nodes) (few : nodes ≤ max_nodes) (w : List ℕ) (g : ℕ) (e : Environment Symbol) where
  -- The declared symbols are those of the table.
  abbrev declared : List Declaration
  declared = declarations_from b t symbols 0

  -- `Stands f m i` says that matching the instance of node m at position i agrees with its spelling.
  abbrev Stands : ℕ → ℕ → ℕ → Type 0
  Stands f m i = Matches x (match_instance f b t x w g m i) (reach (spell_term (substitute (term_at t m) e) declared) x i)

  -- `Instance f m` says so of every position.
  abbrev Instance : ℕ → ℕ → Type 0
  Instance f m =
      m < f → m < nodes → IsTerm t m → FormedTerm (term_at t m) declared → Frame declared x w g e (free_t (term_at t m)) → (i : ℕ)
      → Stands f m i

  -- The instance of a variable stands where its spelling does.
  match_variable : (f m : ℕ) → kind_of t m ≡ variable_kind → Instance (suc f) m
  unfolding match_instance FormedTerm substitute free_t
  match_variable f m z l u is formed frame i =
      let tree = term_variable t nodes table m u is z in
      let v = label_of t m in
      let p = subst (λ (y : Term ℕ). FormedTerm y declared) tree formed in
      let s = frame v p (subst (λ (y : Term ℕ). free_t y v ≡ true) (sym tree) (eq-eqb v v refl)) in
      matches_same x (match_instance (suc f) b t x w g m i) (reach (spell_term (substitute (term_at t m) e) declared) x i)
      (rw (match_instance, z) (match_slot_lem b t symbols names x small w g v i (e v) s
      ∙ ap (λ (y : Term ℕ). reach (spell_term (substitute y e) declared) x i) (sym tree)))

  module _ (f m : ℕ) (z : kind_of t m ≡ application_kind) (u : m < nodes) (is : IsTerm t m) (formed : FormedTerm (term_at t m) declared)
      (frame : Frame declared x w g e (free_t (term_at t m))) (i : ℕ) where
    -- A child is matched with one rank less.
    abbrev r : ℕ → ℕ → Reach
    r = match_instance f b t x w g

    -- The term is an application of g if that is what its label stands for.
    tree : (g : Functor) → functor_of (label_of t m) ≡ g → term_at t m ≡ app g (arguments_at t m)
    tree g q = term_application t nodes table m u is z ∙ ap (λ (a : Functor). app a (arguments_at t m)) q

    -- The functor and the arguments are formed.
    parts : (g : Functor) → functor_of (label_of t m) ≡ g
        → Takes declared g (count (arguments_at t m)) × FormedTerms (arguments_at t m) declared
    unfolding FormedTerm
    parts g q = subst (λ (y : Term ℕ). FormedTerm y declared) (tree g q) formed

    -- The instance of a number stands where its digits do.
    match_numeral : ltb (label_of t m) max_symbols ≡ false → Stands (suc f) m i
    unfolding match_instance match_application match_functor match_arguments argument_count substitute spell_term spell_functor arguments_at
        children_by functor_of label_arity Takes
    match_numeral q =
        let n = label_of t m - max_symbols in
        let named : functor_of (label_of t m) ≡ numeral n = rw q refl in
        let few : child_count t m ≡ 0 = ((table.term m u is).application z).many ∙ rw q refl in
        let ends : (j : ℕ) → match_arguments r t m x j ≡ Some j = λ j. rw few refl in
        let found : match_functor b t (label_of t m) x i ≡ match_number n x i = rw q refl in
        let matched : match_instance (suc f) b t x w g m i ≡ match_number n x i = rw (match_instance, z) (rw (match_application, found)
        (onward_same (match_arguments r t m x) Some ends (match_number n x i) ∙ onward_to (match_number n x i))) in
        let spelled : spell_term (substitute (term_at t m) e) declared ≡ decimal n =
        ap (λ (y : Term ℕ). spell_term (substitute y e) declared) (tree (numeral n) named)
        ∙ ap (λ (c : ℕ). decimal n ++ spell_arguments (substitutes (children_by (term_at t) t m c 0) e) declared) few
        ∙ append-nil (decimal n) in
        rw (matched, spelled) (match_number_lem n x i (parts (numeral n) named).0.1)

    -- Where a child stands.
    child_stands : FormedTerms (arguments_at t m) declared → m < suc f → ((k : ℕ) → Instance f k) → (n : ℕ) → n < child_count t m → (o : ℕ)
        → Matches x (r (argument_of t m n) o) (reach (spell_term (substitute (term_at t (child_of t m n)) e) declared) x o)
    unfolding arguments_at free_t
    child_stands p l ih n h o =
        let a = (table.term m u is).application z in
        let v = a.terms n h in
        let fewer : (y : ℕ) → free_t (term_at t (child_of t m n)) y ≡ true → free_t (term_at t m) y ≡ true =
        λ y k. subst (λ (c : Term ℕ). free_t c y ≡ true) (sym (term_application t nodes table m u is z))
        (free_child t m (child_count t m) 0 n y (omega arith) (omega arith) k) in
        subst (λ (c : ℕ). Matches x (r c o) (reach (spell_term (substitute (term_at t (child_of t m n)) e) declared) x o))
        (sym (argument_of_lem t m nodes n a u few h))
        (ih (child_of t m n) (omega (arith, v.0)) (omega (arith, v.0)) v.1
        (formed_child t declared m (child_count t m) 0 n p (omega arith) (omega arith))
        (frame_fewer declared x w g e (free_t (term_at t m)) (free_t (term_at t (child_of t m n))) fewer frame) o)

    -- The instance of an application of a symbol stands where its spelling does.
    match_symbol : ltb (label_of t m) max_symbols ≡ true → m < suc f → ((k : ℕ) → Instance f k) → Stands (suc f) m i
    unfolding match_instance match_application match_functor substitute spell_term spell_functor arguments_at functor_of Takes
    match_symbol q l ih =
        let a = (table.term m u is).application z in
        let k = label_of t m in
        let named : functor_of k ≡ sheet_symbol k = rw q refl in
        let shape = tree (sheet_symbol k) named in
        let p = parts (sheet_symbol k) named in
        let found : match_functor b t k x i ≡ reach (name_of declared k) x i =
        rw q (match_name_lem b t symbols names x small k (count (arguments_at t m)) i p.0) in
        let us = spell_arguments (substitutes (arguments_at t m) e) declared in
        matches_same x (match_instance (suc f) b t x w g m i) (reach (spell_term (substitute (term_at t m) e) declared) x i)
        (rw (match_instance, z) (rw (match_application, found) (onward_same (match_arguments r t m x) (reach us x)
        (λ j. match_arguments_lem t declared x e m r j (argument_count_lem t m a) (child_stands p.1 l ih)) (reach (name_of declared k) x i)
        ∙ reach_append (name_of declared k) us x i ∙ ap (λ (y : Term ℕ). reach (spell_term (substitute y e) declared) x i) (sym shape))))

  -- The instance of a node stands where its spelling does.
  pub match_instance_lem : (f m : ℕ) → Instance f m
  match_instance_lem zero m l u is formed frame i = absurd (omega arith)
  match_instance_lem (suc f) m l u is formed frame i =
      go (eqb (kind_of t m) variable_kind) refl (ltb (label_of t m) max_symbols) refl (match_instance_lem f)
    where
      applies : eqb (kind_of t m) variable_kind ≡ false → kind_of t m ≡ application_kind
      applies p =
          let n = eqb-false (kind_of t m) 0 p in
          let k = (table.term m u is).kind in
          omega arith

      go : (a : Bool) → eqb (kind_of t m) variable_kind ≡ a → (c : Bool) → ltb (label_of t m) max_symbols ≡ c → ((k : ℕ) → Instance f k)
          → Stands (suc f) m i
      go true p c q ih = match_variable f m (eqb-true (kind_of t m) 0 p) l u is formed frame i
      go false p true q ih = match_symbol f m (applies p) u is formed frame i q l ih
      go false p false q ih = match_numeral f m (applies p) u is formed frame i q
