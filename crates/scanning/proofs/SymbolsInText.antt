-- The symbols that begin in a part of a text, in order; in the spelling of a term they are the term's symbols.
use Prim.Native.Nat.{ℕ, zero, suc, ◌+◌, ◌-◌, ◌≤◌}
use native.Mathlib.Omega.{arith}
use native.Mathlib.Numerals.{add-one}
use mathlib.Core.Path.{◌≡◌, refl, sym, ap, ap₂, ◌∙◌, subst}
use mathlib.Core.Bool.{Bool, true, false, not, cond, true≢false}
use mathlib.Core.List.{List, [], ◌∷◌, ◌++◌, append_assoc}
use lib.Dec.{eqb}
use lib.ListN.{length, get_or, drop, length-append}
use borrow.Author.Tests.{eqb-true, ne_eqb}
use Rattle.terms.specs.Lists.{All}
use Rattle.terms.specs.Terms.{leaf, app, Terms, nil, cons, count}
use Rattle.terms.proofs.Lists.{all_append, all_weaken}
use Rattle.sequents.specs.Symbols.{Symbol, made, leftover, Ground}
use Rattle.sheet_format.specs.Limits.{max_number}
use Rattle.sheet_format.specs.Bytes.{is_digit, is_small, is_capital, is_letter, is_name_byte, decimal}
use Rattle.sheet_format.specs.Nodes.{Declaration}
use Rattle.sheet_format.proofs.Bytes.{Every, digit_bounds}
use Rattle.sheet_format.proofs.Numbers.{decimal_digits}
use Rattle.sheet_format.proofs.Names.{Names}
use Rattle.answer_texts.specs.Numbering.{symbols_in, symbols_in_all}
use Rattle.answer_texts.specs.Spelling.{spell_functor, spell_symbol, spell_term, spell_arguments, spell_more}
use Rattle.answer_texts.specs.Spelled.{SmallSymbol, WritableTerm, WritableTerms}
use Rattle.text_judging.proofs.Spans.{Stops, stops_digit}
use Rattle.text_judging.proofs.Functors.{Starts, functor_starts}
use Rattle.answer_texts.proofs.Declared.{marked}
use Rattle.scanning.specs.Numbering.{outside_name, is_symbol, number_at, level_at}
use Rattle.scanning.proofs.Positions.{byte_is, drop_next, drop_past}
use Rattle.scanning.proofs.Ranges.{read_decimal}

-- The symbol that begins at position i.
unfoldable pub symbol_at : List ℕ → ℕ → Symbol
symbol_at x i = cond (eqb (get_or x i 0) 33) (made (number_at x (i + 1)) (level_at x i)) (leftover (number_at x (i + 1)) (level_at x i))

-- The symbols that begin at n positions from i on.
unfoldable pub starts_in : ℕ → List ℕ → ℕ → List Symbol
starts_in zero x i = []
starts_in (suc n) x i = cond (is_symbol x i) (symbol_at x i ∷ starts_in n x (suc i)) (starts_in n x (suc i))

-- The symbols at n + m positions are those at the first n, then those at the next m.
pub starts_append : (n m : ℕ) (x : List ℕ) (i : ℕ) → starts_in (n + m) x i ≡ starts_in n x i ++ starts_in m x (i + n)
unfolding starts_in
starts_append zero m x i =
    let a : 0 + m ≡ m = omega arith in
    let b : i + 0 ≡ i = omega arith in
    rw (a, b)
starts_append (suc n) m x i =
    let a : suc n + m ≡ suc (n + m) = omega arith in
    let b : i + suc n ≡ suc i + n = omega arith in
    rw (a, b) (go (is_symbol x i) (starts_append n m x (suc i)))
  where
    go : (z : Bool) → starts_in (n + m) x (suc i) ≡ starts_in n x (suc i) ++ starts_in m x (suc i + n)
        → cond z (symbol_at x i ∷ starts_in (n + m) x (suc i)) (starts_in (n + m) x (suc i)) ≡ cond z (symbol_at x i ∷ starts_in n x (suc i))
        (starts_in n x (suc i)) ++ starts_in m x (suc i + n)
    go true h = ap (symbol_at x i ∷◌) h
    go false h = h

-- The symbols in two parts put together are those of the first, then those of the second.
pub starts_parts : (a c : List ℕ) (x : List ℕ) (i : ℕ) (k l : List Symbol) → starts_in (length a) x i ≡ k
    → starts_in (length c) x (i + length a) ≡ l
    → starts_in (length (a ++ c)) x i ≡ k ++ l
starts_parts a c x i k l h g = ap (λ (n : ℕ). starts_in n x i) (length-append a c) ∙ starts_append (length a) (length c) x i ∙ ap₂ ◌++◌ h g

-- parts without symbols

-- A byte that begins no symbol wherever it stands.
abbrev pub Plain : ℕ → Type 0
Plain c = (eqb c 33 ≡ false) × (eqb c 95 ≡ false)

-- Where no symbol begins, the symbols are those from the next position on.
none_at : (n : ℕ) (x : List ℕ) (i : ℕ) → is_symbol x i ≡ false → starts_in (suc n) x i ≡ starts_in n x (suc i)
unfolding starts_in
none_at n x i h = rw h

-- No symbol begins at a plain byte.
plain_none : (x : List ℕ) (i c : ℕ) → get_or x i 0 ≡ c → Plain c → is_symbol x i ≡ false
unfolding is_symbol
plain_none x i c e h = rw (e, h.0, h.1)

-- At the next position stands what follows the first byte.
drop_suc : (x : List ℕ) (i c : ℕ) (cs : List ℕ) → drop i x ≡ c ∷ cs → drop (suc i) x ≡ cs
drop_suc x i c cs h = subst (λ (k : ℕ). drop k x ≡ cs) (add-one i) (drop_next x i c cs h)

-- No symbol begins in a part of plain bytes.
pub plain_starts : (a r x : List ℕ) (i : ℕ) → drop i x ≡ a ++ r → All Plain a → starts_in (length a) x i ≡ []
unfolding starts_in
plain_starts [] r x i h p = refl
plain_starts (c ∷ cs) r x i h p =
    none_at (length cs) x i (plain_none x i c (byte_is x i c (cs ++ r) h) p.0)
    ∙ plain_starts cs r x (suc i) (drop_suc x i c (cs ++ r) h) p.1

-- No symbol begins at a name byte that follows a name byte.
name_none : (x : List ℕ) (i c : ℕ) → get_or x (suc i) 0 ≡ c → is_name_byte c ≡ true → is_name_byte (get_or x i 0) ≡ true
    → is_symbol x (suc i) ≡ false
unfolding is_symbol outside_name is_name_byte is_letter is_small is_capital is_digit
name_none x i c e n p = rw e (go (eqb c 33) refl (eqb c 95))
  where
    s : suc i - 1 ≡ i
    s = omega arith

    z : eqb (suc i) 0 ≡ false
    z = ne_eqb (suc i) 0 (λ q. omega arith)

    go : (a : Bool) → eqb c 33 ≡ a → (u : Bool)
        → cond a true (cond u (cond (eqb (suc i) 0) false (not (is_name_byte (get_or x (suc i - 1) 0)))) false) ≡ false
    go true q u = absurd (true≢false (sym n ∙ ap is_name_byte (eqb-true c 33 q)))
    go false q true = rw (z, s, p)
    go false q false = refl

-- No symbol begins in name bytes that follow a name byte.
inside_starts : (a r x : List ℕ) (i : ℕ) → drop (suc i) x ≡ a ++ r → Every is_name_byte a → is_name_byte (get_or x i 0) ≡ true
    → starts_in (length a) x (suc i) ≡ []
unfolding starts_in
inside_starts [] r x i h n p = refl
inside_starts (c ∷ cs) r x i h n p =
    let b = byte_is x (suc i) c (cs ++ r) h in
    none_at (length cs) x (suc i) (name_none x i c b n.0 p)
    ∙ inside_starts cs r x (suc i) (drop_suc x (suc i) c (cs ++ r) h) n.1 (ap is_name_byte b ∙ n.0)

-- No symbol begins in a name or a number.
functor_none : (a r x : List ℕ) (i : ℕ) → drop i x ≡ a ++ r → Starts a → starts_in (length a) x i ≡ []
functor_none [] r x i h n = absurd n
functor_none (c ∷ cs) r x i h n =
    let b = byte_is x i c (cs ++ r) h in
    let k = n.2 in
    none_at (length cs) x i (plain_none x i c b (n.0, n.1))
    ∙ inside_starts cs r x i (drop_suc x i c (cs ++ r) h) k.1 (ap is_name_byte b ∙ k.0)

-- A digit is a plain byte.
digit_plain : (c : ℕ) → is_digit c ≡ true → Plain c
digit_plain c h = let r = digit_bounds c h in (ne_eqb c 33 (λ q. omega arith), ne_eqb c 95 (λ q. omega arith))

-- All bytes of a number are plain.
pub decimal_plain : (n : ℕ) → All Plain (decimal n)
decimal_plain n = all_weaken (λ c. is_digit c ≡ true) Plain digit_plain (decimal n) (decimal_digits n)

-- All bytes of a symbol's number and level are plain.
marked_plain : (n k : ℕ) → All Plain (marked n k)
marked_plain n k = all_append Plain (decimal n) (64 ∷ decimal k) (decimal_plain n) ((refl, refl), decimal_plain k)

-- symbols

-- The number and the level of a symbol that begins at position i are read.
marked_number : (x : List ℕ) (i n k : ℕ) (r : List ℕ) → drop (i + 1) x ≡ marked n k ++ r → n ≤ max_number → k ≤ max_number → Stops is_digit r
    → (number_at x (i + 1) ≡ n) × (level_at x i ≡ k)
unfolding number_at level_at is_digit
marked_number x i n k r h l m s =
    let a = append_assoc (decimal n) (64 ∷ decimal k) r in
    let e = read_decimal x (i + 1) n (64 ∷ (decimal k ++ r)) (h ∙ a) l refl in
    let d = drop_next x (i + 1 + length (decimal n)) 64 (decimal k ++ r)
    (drop_past x (i + 1) (decimal n) (64 ∷ (decimal k ++ r)) (h ∙ a)) in
    let f = read_decimal x (i + 1 + length (decimal n) + 1) k r d m s in
    (rw (number_at, e), rw (level_at, e) (rw (number_at, f)))

-- The position after a byte that is no name byte is outside a name.
pub outside_after : (x : List ℕ) (i c : ℕ) (cs : List ℕ) → drop i x ≡ c ∷ cs → is_name_byte c ≡ false → outside_name x (i + 1) ≡ true
unfolding outside_name
outside_after x i c cs h n =
    let a : i + 1 - 1 ≡ i = omega arith in
    rw (ne_eqb (i + 1) 0 (λ q. omega arith), a, byte_is x i c cs h, n)

-- If a symbol begins at position i and none after it, it is the only one.
one_sigil : (n : ℕ) (x : List ℕ) (i : ℕ) (s : Symbol) → is_symbol x i ≡ true → symbol_at x i ≡ s → starts_in n x (suc i) ≡ []
    → starts_in (suc n) x i ≡ s ∷ []
unfolding starts_in
one_sigil n x i s h e k = rw h (ap₂ ◌∷◌ e k)

-- The only symbol in a symbol's spelling at position i is that symbol.
symbol_starts : (s : Symbol) (r x : List ℕ) (i : ℕ) → drop i x ≡ spell_symbol s ++ r → SmallSymbol s → Stops is_digit r
    → outside_name x i ≡ true → starts_in (length (spell_symbol s)) x i ≡ s ∷ []
unfolding spell_symbol SmallSymbol is_symbol symbol_at
symbol_starts (made n k) r x i h w s o =
    let b = byte_is x i 33 (marked n k ++ r) h in
    let m = marked_number x i n k r (drop_next x i 33 (marked n k ++ r) h) w.0 w.1 s in
    one_sigil (length (marked n k)) x i (made n k) (rw b) (rw (b, m.0, m.1))
    (plain_starts (marked n k) r x (suc i) (drop_suc x i 33 (marked n k ++ r) h) (marked_plain n k))
symbol_starts (leftover n k) r x i h w s o =
    let b = byte_is x i 95 (marked n k ++ r) h in
    let m = marked_number x i n k r (drop_next x i 95 (marked n k ++ r) h) w.0 w.1 s in
    one_sigil (length (marked n k)) x i (leftover n k) (rw (b, o)) (rw (b, m.0, m.1))
    (plain_starts (marked n k) r x (suc i) (drop_suc x i 95 (marked n k ++ r) h) (marked_plain n k))

-- terms

-- After an argument no name goes on.
stops_more : (ts : Terms Symbol) (ds : List Declaration) (r : List ℕ) → Stops is_name_byte (spell_more ts ds ++ r)
unfolding spell_more is_name_byte is_letter is_small is_capital is_digit
stops_more nil ds r = refl
stops_more (cons t ts) ds r = refl

-- A plain byte before a part adds no symbol.
pub starts_byte : (c : ℕ) (a r x : List ℕ) (i : ℕ) (l : List Symbol) → drop i x ≡ c ∷ (a ++ r) → Plain c
    → starts_in (length a) x (i + 1) ≡ l → starts_in (suc (length a)) x i ≡ l
starts_byte c a r x i l h p k =
    none_at (length a) x i (plain_none x i c (byte_is x i c (a ++ r) h) p) ∙ ap (starts_in (length a) x) (sym (add-one i)) ∙ k

module _ (ds : List Declaration) (names : Names ds) (x : List ℕ) where
  -- The symbols of a term that stands at position i, where no name goes on.
  abbrev TermStarts : Ground → Type 0
  TermStarts t =
      (r : List ℕ) (i : ℕ) → drop i x ≡ spell_term t ds ++ r → WritableTerm t ds → Stops is_name_byte r → outside_name x i ≡ true
      → starts_in (length (spell_term t ds)) x i ≡ symbols_in t

  -- The symbols of a plain byte c, a term and what follows are the term's, then those of what follows.
  next_starts : (c : ℕ) (t : Ground) (m : List ℕ) (l : List Symbol) (r : List ℕ) (i : ℕ) → drop i x ≡ (c ∷ (spell_term t ds ++ m)) ++ r
      → Plain c → is_name_byte c ≡ false
      → WritableTerm t ds → Stops is_name_byte (m ++ r) → TermStarts t → ((j : ℕ) → drop j x ≡ m ++ r → starts_in (length m) x j ≡ l)
      → starts_in (suc (length (spell_term t ds ++ m))) x i ≡ symbols_in t ++ l
  next_starts c t m l r i h p n w s f g =
      let a = spell_term t ds in
      let d : drop (i + 1) x ≡ a ++ (m ++ r) = drop_next x i c ((a ++ m) ++ r) h ∙ append_assoc a m r in
      starts_byte c (a ++ m) r x i (symbols_in t ++ l) h p
      (starts_parts a m x (i + 1) (symbols_in t) l (f (m ++ r) (i + 1) d w s (outside_after x i c ((a ++ m) ++ r) h n))
      (g (i + 1 + length a) (drop_past x (i + 1) a (m ++ r) d)))

  mutual
    unfolding spell_term WritableTerm symbols_in starts_in is_name_byte is_letter is_small is_capital is_digit

    pub term_starts : (t : Ground) → TermStarts t
    term_starts (leaf s) r i h w p o = symbol_starts s r x i h w (stops_digit r p) o
    term_starts (app f ts) r i h w p o =
        let n = spell_functor ds f in
        let a = spell_arguments ts ds in
        let e = h ∙ append_assoc n a r in
        starts_parts n a x i [] (symbols_in_all ts)
        (functor_none n (a ++ r) x i e (functor_starts ds f (count ts) names w.0))
        (arguments_starts ts r (i + length n) (drop_past x i n (a ++ r) e) w.1)

    arguments_starts : (ts : Terms Symbol) (r : List ℕ) (i : ℕ) → drop i x ≡ spell_arguments ts ds ++ r → WritableTerms ts ds
        → starts_in (length (spell_arguments ts ds)) x i ≡ symbols_in_all ts
    arguments_starts nil r i h w = refl
    arguments_starts (cons t ts) r i h w =
        next_starts 40 t (spell_more ts ds) (symbols_in_all ts) r i h (refl, refl) refl w.0 (stops_more ts ds r)
        (λ q j k u v z. term_starts t q j k u v z) (λ j k. more_starts ts r j k w.1)

    more_starts : (ts : Terms Symbol) (r : List ℕ) (i : ℕ) → drop i x ≡ spell_more ts ds ++ r → WritableTerms ts ds
        → starts_in (length (spell_more ts ds)) x i ≡ symbols_in_all ts
    more_starts nil r i h w = plain_starts (41 ∷ []) r x i h ((refl, refl), tt)
    more_starts (cons t ts) r i h w =
        next_starts 44 t (spell_more ts ds) (symbols_in_all ts) r i h (refl, refl) refl w.0 (stops_more ts ds r)
        (λ q j k u v z. term_starts t q j k u v z) (λ j k. more_starts ts r j k w.1)
