-- Scanning in place reads what `read_term` reads: the same end, and the level of the term.
use Prim.Native.Nat.{ℕ, zero, suc, ◌+◌, ◌<◌, ◌≤◌, max}
use native.Mathlib.Omega.{arith}
use mathlib.Core.Path.{◌≡◌, refl, sym, ap, ap₂, ◌∙◌, subst}
use mathlib.Core.Bool.{Bool, true, false, cond, true≢false}
use mathlib.Core.List.{List, [], ◌∷◌}
use mathlib.Core.Option.{Option, none, some}
use lib.Dec.{eqb, ltb}
use lib.ListN.{length, get_or, drop}
use borrow.Author.Tests.{ne_eqb, ltb-true, ltb-false}
use Rattle.terms.specs.Terms.{Functor, sheet_symbol, Terms, nil, level_by, levels_by}
use Rattle.terms.proofs.Lists.{all_weaken}
use Rattle.sequents.specs.Symbols.{Symbol, made, leftover, symbol_level, Ground, level}
use Rattle.sheet_format.specs.Limits.{max_number}
use Rattle.sheet_format.specs.Bytes.{is_digit, is_small, is_capital, is_letter, is_name_byte, is_name, number, decimal}
use Rattle.sheet_format.specs.Nodes.{Declaration}
use Rattle.node_table.specs.Layout.{is_function_bit, arity_of}
use Rattle.node_table.specs.Decoding.{declarations_from}
use Rattle.node_table.specs.Fingerprints.{NamesStand}
use Rattle.text_judging.specs.Reading.{Span, span, Parsed, parsed, with_level, read_level, read_symbol, after, cons_parsed, read_more}
use Rattle.text_judging.specs.Reading.{read_arguments, Found, find_name, head_of, find_head, apply_to, read_application, read_term}
use Rattle.sheet_format.proofs.Bytes.{Every, digit_bounds, letter_bounds, digit_name, name_nonempty, name_letter}
use Rattle.sheet_format.proofs.Numbers.{decimal_digits, number_some}
use Rattle.sheet_format.proofs.Names.{Names}
use Rattle.sheet_format.proofs.Formed.{Declares}
use Rattle.sheet_format.proofs.Options.{OnSome}
use Rattle.answer_texts.specs.Spelling.{name_of}
use Rattle.text_judging.proofs.Spans.{Stops, stops_digit, span_append, span_split}
use Rattle.answer_texts.proofs.Declared.{name_of_lem}
use Rattle.text_judging.proofs.Symbols.{find_name_some}
use Rattle.scanning.specs.Ranges.{Number}
use Rattle.std.specs.Prelude.{Some, None}
use Rattle.scanning.specs.Scanning.{Scan}
use Rattle.scanning.specs.Scanning.{name_end, symbol_named, scan_level, scan_at, scan_symbol, higher, scan_more, scan_arguments}
use Rattle.scanning.specs.Scanning.{scan_numeral, scan_application, scan_term}
use Rattle.scanning.proofs.Positions.{byte_is, byte_none, drop_next, drop_past}
use Rattle.scanning.proofs.Ranges.{number_to, read_number, Folded, span_yes, span_no}
use Rattle.scanning.proofs.Names.{name_end_lem, found_at, find_symbol, name_solid, span_every, span_stops}

-- A scan of x agrees with what was read: it ends where the rest begins, and has the term's level.
abbrev pub Scans : List ℕ → Scan → Option (Parsed Ground) → Type 0
Scans x None none = Unit {0}
Scans x None (some p) = ⊥
Scans x (Some (e, k)) none = ⊥
Scans x (Some (e, k)) (some p) = (drop e x ≡ p.rest) × (k ≡ level p.value)

-- symbols

module _ (x : List ℕ) (s : ℕ → ℕ → Symbol) (levels : (n k : ℕ) → symbol_level (s n k) ≡ k) where
  -- Scanning the level of a symbol agrees with reading it.
  scan_level_lem : (i n : ℕ)
      → Scans x (scan_level x i) (with_level s (some n) (number (span is_digit (drop i x)).taken) (span is_digit (drop i x)).rest)
  unfolding scan_level with_level level level_by
  scan_level_lem i n = rw (scan_level, read_number x i) (go (number (span is_digit (drop i x)).taken))
    where
      d : Span
      d = span is_digit (drop i x)

      go : (o : Option ℕ)
          → Scans x (elim (number_to (i + length d.taken) o) as (λ z. Scan) [ Some (k, e) ↦ Some (e, k) | None ↦ None ])
          (with_level s (some n) o d.rest)
      go none = tt
      go (some k) = (drop_past x i d.taken d.rest (span_split is_digit (drop i x)), sym (levels n k))

  -- Scanning `@` and the level agrees with reading them.
  scan_at_lem : (i n : ℕ) → Scans x (scan_at x i) (read_level s (some n) (drop i x))
  unfolding scan_at read_level
  scan_at_lem i n = go (drop i x) refl
    where
      go : (l : List ℕ) → drop i x ≡ l → Scans x (cond (eqb (get_or x i 0) 64) (scan_level x (i + 1)) None) (read_level s (some n) l)
      go [] h = rw (byte_none x i h) tt
      go (c ∷ cs) h = rw (byte_is x i c cs h) (mark (eqb c 64))
        where
          mark : (b : Bool) → Scans x (cond b (scan_level x (i + 1)) None)
              (cond b (with_level s (some n) (number (span is_digit cs).taken) (span is_digit cs).rest) none)
          mark true =
              subst (λ (l : List ℕ). Scans x (scan_level x (i + 1))
              (with_level s (some n) (number (span is_digit l).taken) (span is_digit l).rest))
              (drop_next x i c cs h) (scan_level_lem (i + 1) n)
          mark false = tt

  -- Where there is no number there is no symbol.
  no_number_lem : (l : List ℕ) → read_level s none l ≡ none
  unfolding read_level with_level
  no_number_lem [] = refl
  no_number_lem (c ∷ cs) = go (eqb c 64)
    where
      go : (b : Bool) → cond b (with_level s none (number (span is_digit cs).taken) (span is_digit cs).rest) none ≡ none
      go true = refl
      go false = refl

  -- A symbol after its first byte.
  pub scan_symbol_lem : (i : ℕ) → Scans x (scan_symbol x i) (read_symbol s (drop i x))
  unfolding scan_symbol read_symbol
  scan_symbol_lem i = rw (scan_symbol, read_number x i) (go (number (span is_digit (drop i x)).taken))
    where
      d : Span
      d = span is_digit (drop i x)

      go : (o : Option ℕ)
          → Scans x (elim (number_to (i + length d.taken) o) as (λ z. Scan) [ Some (n, e) ↦ scan_at x e | None ↦ None ])
          (read_level s o d.rest)
      go none = subst (Scans x None) (sym (no_number_lem d.rest)) tt
      go (some n) =
          subst (λ (l : List ℕ). Scans x (scan_at x (i + length d.taken)) (read_level s (some n) l))
          (drop_past x i d.taken d.rest (span_split is_digit (drop i x))) (scan_at_lem (i + length d.taken) n)

-- arguments

-- A scan of arguments, k being the highest level before them.
abbrev pub ScansAll : List ℕ → ℕ → Scan → Option (Parsed (Terms Symbol)) → Type 0
ScansAll x k None none = Unit {0}
ScansAll x k None (some p) = ⊥
ScansAll x k (Some (e, j)) none = ⊥
ScansAll x k (Some (e, j)) (some p) = (drop e x ≡ p.rest) × (j ≡ max k (levels_by p.value symbol_level))

-- Reads n arguments, the first after the byte c, and the closing bracket.
unfoldable arguments_after : (List ℕ → Option (Parsed Ground)) → ℕ → ℕ → List ℕ → Option (Parsed (Terms Symbol))
arguments_after R zero c l = after 41 (λ ds. parsed nil ds) l
arguments_after R (suc n) c l = after c (λ ds. elim (R ds) [ none ↦ none | some p ↦ cons_parsed p.value (read_more R n p.rest) ]) l

-- More arguments are arguments of which the first comes after a comma.
more_after : (R : List ℕ → Option (Parsed Ground)) (n : ℕ) (l : List ℕ) → read_more R n l ≡ arguments_after R n 44 l
unfolding read_more arguments_after
more_after R zero l = refl
more_after R (suc n) l = refl

-- The higher of two levels is their maximum.
higher_max : (k j : ℕ) → higher k j ≡ max k j
unfolding higher
higher_max k j = go (ltb k j) refl
  where
    go : (b : Bool) → ltb k j ≡ b → cond b j k ≡ max k j
    go true e = let l = ltb-true k j e in omega arith
    go false e = let l = ltb-false k j e in omega arith

-- If scanning the later arguments agrees with reading them, it does with one argument in front.
scan_cons : (x : List ℕ) (k j : ℕ) (p : Parsed Ground) (s : Scan) (o : Option (Parsed (Terms Symbol))) → j ≡ level p.value
    → ScansAll x (higher k j) s o
    → ScansAll x k s (cons_parsed p.value o)
unfolding cons_parsed level_by level
scan_cons x k j p None none h q = tt
scan_cons x k j p None (some a) h q = absurd q
scan_cons x k j p (Some (e, i)) none h q = absurd q
scan_cons x k j p (Some (e, i)) (some a) h q =
    let m = higher_max k j in
    let r = q.1 in
    (q.0, omega arith)

module _ (x : List ℕ) (r : ℕ → Scan) (R : List ℕ → Option (Parsed Ground)) (reads : (i : ℕ) → Scans x (r i) (R (drop i x))) where
  -- Scanning n arguments, the first after the byte c, agrees with reading them.
  scan_after : (n c i k : ℕ) → 0 < c → ScansAll x k (scan_more r n x c i k) (arguments_after R n c (drop i x))
  unfolding scan_more arguments_after after level_by
  scan_after zero c i k z = go (drop i x) refl
    where
      go : (l : List ℕ) → drop i x ≡ l
          → ScansAll x k (cond (eqb (get_or x i 0) 41) (Some (i + 1, k)) None) (after 41 (λ ds. parsed nil ds) l)
      go [] h = rw (byte_none x i h) tt
      go (d ∷ ds) h = rw (byte_is x i d ds h) (closing (eqb d 41) refl)
        where
          closing : (b : Bool) → eqb d 41 ≡ b
              → ScansAll x k (cond b (Some (i + 1, k)) None) (after 41 (λ ds. parsed nil ds) (d ∷ ds))
          closing true e = rw (after, e) (drop_next x i d ds h, omega arith)
          closing false e = rw (after, e) tt
  scan_after (suc n) c i k z = go (drop i x) refl (scan_after n)
    where
      Rest : Type 0
      Rest = (c i k : ℕ) → 0 < c → ScansAll x k (scan_more r n x c i k) (arguments_after R n c (drop i x))

      term : (s : Scan) (o : Option (Parsed Ground)) → Scans x s o → Rest
          → ScansAll x k (elim s as (λ z. Scan) [ Some (e, j) ↦ scan_more r n x 44 e (higher k j) | None ↦ None ])
          (elim o as (λ z. Option (Parsed (Terms Symbol))) [ none ↦ none | some p ↦ cons_parsed p.value (read_more R n p.rest) ])
      term None none h ih = tt
      term None (some p) h ih = absurd h
      term (Some (e, j)) none h ih = absurd h
      term (Some (e, j)) (some p) h ih =
          scan_cons x k j p (scan_more r n x 44 e (higher k j)) (read_more R n p.rest) h.1
          (subst (ScansAll x (higher k j) (scan_more r n x 44 e (higher k j))) (ap (arguments_after R n 44) h.0
          ∙ sym (more_after R n p.rest)) (ih 44 e (higher k j) (omega arith)))

      go : (l : List ℕ) → drop i x ≡ l → Rest
          → ScansAll x k
          (cond (eqb (get_or x i 0) c)
          (elim (r (i + 1)) as (λ z. Scan) [ Some (e, j) ↦ scan_more r n x 44 e (higher k j) | None ↦ None ]) None)
          (arguments_after R (suc n) c l)
      go [] h ih = rw (byte_none x i h, ne_eqb 0 c (λ q. omega arith)) tt
      go (d ∷ ds) h ih = rw (byte_is x i d ds h) (first (eqb d c) refl ih)
        where
          first : (b : Bool) → eqb d c ≡ b → Rest
              → ScansAll x k
              (cond b (elim (r (i + 1)) as (λ z. Scan) [ Some (e, j) ↦ scan_more r n x 44 e (higher k j) | None ↦ None ])
              None)
              (arguments_after R (suc n) c (d ∷ ds))
          first true e ih =
              rw (arguments_after, after, e)
              (term (r (i + 1)) (R ds) (subst (λ (l : List ℕ). Scans x (r (i + 1)) (R l)) (drop_next x i d ds h) (reads (i + 1))) ih)
          first false e ih = rw (arguments_after, after, e) tt

  -- Scanning n arguments in brackets agrees with reading them.
  pub scan_arguments_lem : (n i : ℕ) → ScansAll x 0 (scan_arguments r n x i) (read_arguments R n (drop i x))
  unfolding scan_arguments read_arguments arguments_after level_by
  scan_arguments_lem zero i = (refl, omega arith)
  scan_arguments_lem (suc n) i = rw (ne_eqb (suc n) 0 (λ q. omega arith)) (scan_after (suc n) 40 i 0 (omega arith))

  -- If scanning the arguments of a symbol agrees with reading them, so does scanning its application.
  scan_applied : (f : Functor) (s : Scan) (o : Option (Parsed (Terms Symbol))) → ScansAll x 0 s o → Scans x s (apply_to f o)
  unfolding apply_to level level_by
  scan_applied f None none h = tt
  scan_applied f None (some p) h = absurd h
  scan_applied f (Some (e, k)) none h = absurd h
  scan_applied f (Some (e, k)) (some p) h = (h.0, let q = h.1 in omega arith)

  -- Scanning the application of symbol k agrees with reading it, also where k is no function symbol.
  pub scan_application_lem : (t : List ℕ) (symbols k i : ℕ)
      → Scans x (scan_application r t symbols k x i) (read_application R (head_of none (found_at t symbols k)) (drop i x))
  unfolding scan_application read_application head_of
  scan_application_lem t symbols k i = go (ltb k symbols) (eqb (is_function_bit t k) 1)
    where
      go : (a b : Bool)
          → Scans x (cond a (cond b (scan_arguments r (arity_of t k) x i) None) None)
          (read_application R (head_of none (cond a (cond b (some (record { symbol = k; arity = arity_of t k })) none) none)) (drop i x))
      go true true =
          scan_applied (sheet_symbol k) (scan_arguments r (arity_of t k) x i) (read_arguments R (arity_of t k) (drop i x))
          (scan_arguments_lem (arity_of t k) i)
      go true false = tt
      go false b = tt

-- numbers

-- Bytes that are not all digits are no number.
no_number_in : (a : List ℕ) → (Every is_digit a → ⊥) → number a ≡ none
no_number_in a h = go (number a) (number_some a)
  where
    go : (o : Option ℕ) → OnSome (λ n. (a ≡ decimal n) × (n ≤ max_number)) o → o ≡ none
    go none k = refl
    go (some n) k = absurd (h (subst (Every is_digit) (sym k.0) (decimal_digits n)))

-- Bytes of a name that do not begin with a digit are no number.
name_number : (l : List ℕ) → Stops is_digit l → number (span is_name_byte l).taken ≡ none
unfolding span number
name_number [] h = refl
name_number (c ∷ cs) h = go (is_name_byte c) refl
  where
    go : (z : Bool) → is_name_byte c ≡ z → number (span is_name_byte (c ∷ cs)).taken ≡ none
    go true e =
        ap (λ (s : Span). number s.taken) (span_yes is_name_byte c cs e)
        ∙ no_number_in (c ∷ (span is_name_byte cs).taken) (λ k. true≢false (sym k.0 ∙ h))
    go false e = ap (λ (s : Span). number s.taken) (span_no is_name_byte c cs e)

-- What is no name is the name of no symbol.
no_name : (ds : List Declaration) → Names ds → (a : List ℕ) → (is_name a ≡ true → ⊥) → find_name 0 ds a ≡ none
no_name ds ns a h = go (find_name 0 ds a) (find_name_some ds a)
  where
    go : (o : Option Found) → OnSome (λ f. (name_of ds f.symbol ≡ a) × Declares ds true f.symbol f.arity) o → o ≡ none
    go none k = refl
    go (some f) k = absurd (h (subst (λ (n : List ℕ). is_name n ≡ true) k.0 (name_of_lem ds f.symbol f.arity ns k.1)))

-- Bytes that begin with a digit are no name.
digit_no_name : (c : ℕ) (cs : List ℕ) → is_digit c ≡ true → is_name (c ∷ cs) ≡ true → ⊥
digit_no_name c cs d h =
    let p = digit_bounds c d in
    let q = letter_bounds c (name_letter c cs h) in
    omega arith

module _ (x : List ℕ) (i : ℕ) where
  -- The bytes of a name at position i, and the digits.
  abbrev named : Span
  named = span is_name_byte (drop i x)

  abbrev digits : Span
  digits = span is_digit (drop i x)

  -- The byte after the digits.
  abbrev next : ℕ
  next = get_or x (i + length digits.taken) 0

  -- After the digits stands the rest.
  after_digits : drop (i + length digits.taken) x ≡ digits.rest
  after_digits = drop_past x i digits.taken digits.rest (span_split is_digit (drop i x))

  -- If no byte of a name follows the digits, they are all bytes of the name.
  only_digits : is_name_byte next ≡ false → named ≡ digits
  only_digits h =
      ap (span is_name_byte) (span_split is_digit (drop i x))
      ∙ span_append is_name_byte digits.taken digits.rest
      (all_weaken (λ c. is_digit c ≡ true) (λ c. is_name_byte c ≡ true) digit_name digits.taken (span_every is_digit (drop i x)))
      (go digits.rest after_digits)
    where
      go : (r : List ℕ) → drop (i + length digits.taken) x ≡ r → Stops is_name_byte r
      go [] e = tt
      go (c ∷ cs) e = ap is_name_byte (sym (byte_is x (i + length digits.taken) c cs e)) ∙ h

  -- If one follows them, the bytes of the name are no number.
  more_than_digits : is_name_byte next ≡ true → number named.taken ≡ none
  unfolding is_name_byte is_letter is_small is_capital is_digit
  more_than_digits h = no_number_in named.taken (λ k. go digits.rest after_digits (stops k))
    where
      stops : Every is_digit named.taken → Stops is_name_byte digits.rest
      stops k =
          let e : digits ≡ named = ap (span is_digit) (span_split is_name_byte (drop i x))
          ∙ span_append is_digit named.taken named.rest k (stops_digit named.rest (span_stops is_name_byte (drop i x))) in
          subst (λ (s : Span). Stops is_name_byte s.rest) (sym e) (span_stops is_name_byte (drop i x))

      go : (r : List ℕ) → drop (i + length digits.taken) x ≡ r → Stops is_name_byte r → ⊥
      go [] e s = true≢false (sym h ∙ ap is_name_byte (byte_none x (i + length digits.taken) e))
      go (c ∷ cs) e s = true≢false (sym h ∙ ap is_name_byte (byte_is x (i + length digits.taken) c cs e) ∙ s)

  -- Scanning a number agrees with reading a term that begins with a digit.
  scan_numeral_lem : (R : List ℕ → Option (Parsed Ground)) (ds : List Declaration) → Names ds → (c : ℕ) (cs : List ℕ) → drop i x ≡ c ∷ cs
      → is_digit c ≡ true → Scans x (scan_numeral x i) (read_application R (find_head ds named.taken) named.rest)
  unfolding scan_numeral read_application find_head head_of read_arguments apply_to level level_by
  scan_numeral_lem R ds ns c cs h z = rw (scan_numeral, read_number x i) (go (is_name_byte next) refl)
    where
      Scanning : Number → Scan
      Scanning o = elim o [ Some (n, e) ↦ cond (is_name_byte (get_or x e 0)) None (Some (e, 0)) | None ↦ None ]

      -- No symbol has the name.
      unknown : find_name 0 ds named.taken ≡ none
      unknown =
          no_name ds ns named.taken
          (subst (λ (a : List ℕ). is_name a ≡ true → ⊥)
          (sym (ap (λ (l : List ℕ). (span is_name_byte l).taken) h ∙ ap (λ (s : Span). s.taken) (span_yes is_name_byte c cs (digit_name c z))))
          (digit_no_name c (span is_name_byte cs).taken z))

      longer : (o : Option ℕ) → is_name_byte next ≡ true → Scanning (number_to (i + length digits.taken) o) ≡ None
      longer none e = refl
      longer (some m) e = rw e

      whole : (o : Option ℕ) → is_name_byte next ≡ false → find_name 0 ds digits.taken ≡ none
          → Scans x (Scanning (number_to (i + length digits.taken) o))
          (read_application R (head_of o (find_name 0 ds digits.taken)) digits.rest)
      whole none e u = rw u tt
      whole (some m) e u = rw e (after_digits, refl)

      go : (t : Bool) → is_name_byte next ≡ t
          → Scans x (Scanning (number_to (i + length digits.taken) (number digits.taken)))
          (read_application R (find_head ds named.taken) named.rest)
      go true e = rw (longer (number digits.taken) e, more_than_digits e, unknown) tt
      go false e =
          subst (λ (s : Span). Scans x (Scanning (number_to (i + length digits.taken) (number digits.taken)))
          (read_application R (find_head ds s.taken) s.rest)) (sym (only_digits e))
          (whole (number digits.taken) e (ap (λ (s : Span). find_name 0 ds s.taken) (sym (only_digits e)) ∙ unknown))

-- terms

module _ (b t : List ℕ) (symbols : ℕ) (names : Names (declarations_from b t symbols 0)) (stand : NamesStand b t symbols) (x : List ℕ)
    (small : Folded b x) where
  -- Scanning a name and its arguments agrees with reading them, if scanning the arguments' terms does and no digit begins the name.
  scan_named : (f i : ℕ) → Stops is_digit (drop i x)
      → ((j : ℕ) → Scans x (scan_term f b t symbols x j) (read_term f (declarations_from b t symbols 0) (drop j x)))
      → Scans x (scan_application (scan_term f b t symbols x) t symbols (symbol_named symbols b t x i (name_end x i)) x (name_end x i))
      (read_application (read_term f (declarations_from b t symbols 0))
      (find_head (declarations_from b t symbols 0) (span is_name_byte (drop i x)).taken)
      (span is_name_byte (drop i x)).rest)
  unfolding find_head
  scan_named f i stops reads =
      let n = span is_name_byte (drop i x) in
      let e = span_split is_name_byte (drop i x) in
      let j = symbol_named symbols b t x i (name_end x i) in
      subst (Scans x (scan_application (scan_term f b t symbols x) t symbols j x (name_end x i)))
      (ap₂ (read_application (read_term f (declarations_from b t symbols 0)))
      (ap (head_of none) (sym (find_symbol b t x n.taken n.rest i (name_end x i) e
      (name_solid n.taken (span_every is_name_byte (drop i x))) (name_end_lem x i) small symbols stand))
      ∙ ap (λ (o : Option ℕ). head_of o (find_name 0 (declarations_from b t symbols 0) n.taken)) (sym (name_number (drop i x) stops)))
      (ap (λ (k : ℕ). drop k x) (name_end_lem x i) ∙ drop_past x i n.taken n.rest e))
      (scan_application_lem x (scan_term f b t symbols x) (read_term f (declarations_from b t symbols 0)) reads t symbols j (name_end x i))

  -- Scanning with the rank f is reading with the fuel f.
  pub scan_term_lem : (f i : ℕ) → Scans x (scan_term f b t symbols x i) (read_term f (declarations_from b t symbols 0) (drop i x))
  unfolding scan_term read_term symbol_level span read_application find_head head_of number is_digit
  scan_term_lem zero i = tt
  scan_term_lem (suc f) i = go (drop i x) refl (λ s. scan_named f i s (scan_term_lem f))
    where
      A : Scan
      A = scan_application (scan_term f b t symbols x) t symbols (symbol_named symbols b t x i (name_end x i)) x (name_end x i)

      ds : List Declaration
      ds = declarations_from b t symbols 0

      Applies : Scan → List ℕ → Type 0
      Applies s l = Scans x s (read_application (read_term f ds) (find_head ds (span is_name_byte l).taken) (span is_name_byte l).rest)

      mark : (c : ℕ) (cs : List ℕ) → drop i x ≡ c ∷ cs → (s : Scan) → Applies s (c ∷ cs) → (m n : Bool) → eqb c 33 ≡ m → eqb c 95 ≡ n
          → Scans x (cond m (scan_symbol x (i + 1)) (cond n (scan_symbol x (i + 1)) s)) (read_term (suc f) ds (c ∷ cs))
      mark c cs h s q true n e d =
          rw (read_term, e) (subst (λ (l : List ℕ). Scans x (scan_symbol x (i + 1)) (read_symbol made l)) (drop_next x i c cs h)
          (scan_symbol_lem x made (λ n k. refl) (i + 1)))
      mark c cs h s q false true e d =
          rw (read_term, e, d) (subst (λ (l : List ℕ). Scans x (scan_symbol x (i + 1)) (read_symbol leftover l)) (drop_next x i c cs h)
          (scan_symbol_lem x leftover (λ n k. refl) (i + 1)))
      mark c cs h s q false false e d = rw (read_term, e, d) q

      functor : (c : ℕ) (cs : List ℕ) → drop i x ≡ c ∷ cs → (Stops is_digit (drop i x) → Applies A (drop i x)) → (z : Bool) → is_digit c ≡ z
          → Applies (cond z (scan_numeral x i) A) (c ∷ cs)
      functor c cs h q true e = subst (Applies (scan_numeral x i)) h (scan_numeral_lem x i (read_term f ds) ds names c cs h e)
      functor c cs h q false e = subst (Applies A) h (q (subst (Stops is_digit) (sym h) e))

      go : (l : List ℕ) → drop i x ≡ l → (Stops is_digit (drop i x) → Applies A (drop i x))
          → Scans x
          (cond (eqb (get_or x i 0) 33) (scan_symbol x (i + 1))
          (cond (eqb (get_or x i 0) 95) (scan_symbol x (i + 1)) (cond (is_digit (get_or x i 0)) (scan_numeral x i) A)))
          (read_term (suc f) ds l)
      go [] h q =
          rw (byte_none x i h) (subst (λ (o : Option Found). Scans x A (read_application (read_term f ds) (head_of none o) []))
          (no_name ds names [] name_nonempty) (subst (Applies A) h (q (subst (Stops is_digit) (sym h) tt))))
      go (c ∷ cs) h q =
          rw (byte_is x i c cs h) (mark c cs h (cond (is_digit c) (scan_numeral x i) A) (functor c cs h q (is_digit c) refl)
          (eqb c 33) (eqb c 95) refl refl)
