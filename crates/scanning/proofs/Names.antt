-- Names in place: where they end, and the symbol that has one.
use Prim.Native.Nat.{ℕ, zero, suc, ◌+◌, ◌-◌, ◌*◌, ◌%◌, ◌<◌, min}
use native.Mathlib.Omega.{arith}
use native.Mathlib.Numerals.{add-one}
use mathlib.Core.Path.{◌≡◌, refl, sym, ap, ◌∙◌, subst}
use mathlib.Core.Bool.{Bool, true, false, cond, true≢false}
use mathlib.Core.List.{List, [], ◌∷◌, ◌++◌}
use mathlib.Core.Option.{Option, none, some}
use lib.Dec.{eqb, ltb}
use lib.ListN.{length, take, drop, get_or, length-take, length-drop}
use borrow.Author.Tests.{eqb-true, eqb-false, lt-ltb, le-ltb}
use Rattle.terms.proofs.Lists.{all_weaken}
use Rattle.sheet_format.specs.Bytes.{is_name_byte, same_bytes, folded}
use Rattle.sheet_format.proofs.Bytes.{Every, name_graphic}
use Rattle.node_table.specs.Layout.{name_start, name_word, name_length, is_function_bit, arity_of}
use Rattle.node_table.specs.Fingerprints.{with_byte, fingerprint_from, word_at, NameStands, NamesStand}
use Rattle.node_table.specs.Decoding.{declaration_at, declarations_from}
use Rattle.node_table.proofs.Words.{with_folded}
use Rattle.text_judging.specs.Reading.{Span, span, Found, find_name}
use Rattle.text_judging.proofs.Spans.{Stops}
use Rattle.scanning.specs.Ranges.{same_folded}
use Rattle.scanning.specs.Scanning.{name_from, name_end, name_size, is_named, symbol_from, symbol_named}
use Rattle.scanning.proofs.Positions.{byte_is, drop_next, drop_length}
use Rattle.scanning.proofs.Ranges.{begins_same, unequal_lengths, Solid, range_begins, Folded, folded_range, span_yes, span_no}

-- the end of a name

-- With n bytes left, a name ends after its name bytes.
name_from_lem : (l x : List ℕ) (n i : ℕ) → drop i x ≡ l → n ≡ length l → name_from n x i ≡ i + length (span is_name_byte l).taken
unfolding name_from span
name_from_lem [] x zero i h k = omega arith
name_from_lem [] x (suc n) i h k = absurd (omega arith)
name_from_lem (c ∷ cs) x zero i h k = absurd (omega arith)
name_from_lem (c ∷ cs) x (suc n) i h k =
    ap (λ (b : ℕ). cond (is_name_byte b) (name_from n x (i + 1)) i) (byte_is x i c cs h)
    ∙ go (is_name_byte c) refl (name_from_lem cs x n (i + 1) (drop_next x i c cs h) (omega arith))
  where
    R : Span → ℕ
    R s = i + length s.taken

    go : (b : Bool) → is_name_byte c ≡ b → name_from n x (i + 1) ≡ i + 1 + length (span is_name_byte cs).taken
        → cond b (name_from n x (i + 1)) i ≡ R (span is_name_byte (c ∷ cs))
    go true e ih =
        let d = (span is_name_byte cs).taken in
        let q : i + 1 + length d ≡ i + suc (length d) = omega arith in
        ih ∙ q ∙ ap R (sym (span_yes is_name_byte c cs e))
    go false e ih = let q : i ≡ i + 0 = omega arith in q ∙ ap R (sym (span_no is_name_byte c cs e))

-- Of all bytes that are left, a name ends after its name bytes.
pub name_end_lem : (x : List ℕ) (i : ℕ) → name_end x i ≡ i + length (span is_name_byte (drop i x)).taken
unfolding name_end
name_end_lem x i = name_from_lem (drop i x) x (length x - i) i refl (drop_length x i (drop i x) refl)

-- the symbol of a name

-- What the sheet has of a name is as long as `name_size` says.
pub size_length : (b t : List ℕ) (k : ℕ) → length (take (name_length t k) (drop (name_start t k) b)) ≡ name_size b t k
unfolding name_size
size_length b t k = length-take (name_length t k) (drop (name_start t k) b) ∙ ap (min (name_length t k)) (length-drop (name_start t k) b)

-- The symbol that is found, if it is below the limit and a function symbol.
abbrev pub found_at : List ℕ → ℕ → ℕ → Option Found
found_at t limit j = cond (ltb j limit) (cond (eqb (is_function_bit t j) 1) (some (record { symbol = j; arity = arity_of t j })) none) none

-- Ranges that are the same but for the case of letters have the same fingerprint.
folded_fingerprint : (n : ℕ) (a : List ℕ) (i : ℕ) (b : List ℕ) (j h : ℕ) → same_folded n a i b j ≡ true
    → fingerprint_from n a i h ≡ fingerprint_from n b j h
unfolding same_folded fingerprint_from
folded_fingerprint zero a i b j h s = refl
folded_fingerprint (suc n) a i b j h s = go (eqb (folded (get_or a i 0)) (folded (get_or b j 0))) refl s (folded_fingerprint n a (i + 1) b (j + 1))
  where
    go : (z : Bool) → eqb (folded (get_or a i 0)) (folded (get_or b j 0)) ≡ z → cond z (same_folded n a (i + 1) b (j + 1)) false ≡ true
        → ((g : ℕ) → same_folded n a (i + 1) b (j + 1) ≡ true → fingerprint_from n a (i + 1) g ≡ fingerprint_from n b (j + 1) g)
        → fingerprint_from n a (i + 1) (with_byte h (get_or a i 0)) ≡ fingerprint_from n b (j + 1) (with_byte h (get_or b j 0))
    go true e k ih =
        ih (with_byte h (get_or a i 0)) k
        ∙ ap (fingerprint_from n b (j + 1)) (sym (with_folded h (get_or a i 0))
        ∙ ap (with_byte h) (eqb-true (folded (get_or a i 0)) (folded (get_or b j 0)) e) ∙ with_folded h (get_or b j 0))
    go false e k ih = absurd (true≢false (sym k))

-- So a symbol whose name is spelled in the text from i to e has its word, and the words need not be compared.
module _ (b t x : List ℕ) (k i e : ℕ) (stands : NameStands b t k) where
  abbrev spelled : Bool
  spelled = cond (eqb (e - i) (name_size b t k)) (same_folded (e - i) x i b (name_start t k)) false

  spelled_word : spelled ≡ true → name_word t k ≡ word_at x i (e - i)
  unfolding name_size word_at
  spelled_word h = go (eqb (e - i) (name_size b t k)) refl h
    where
      go : (z : Bool) → eqb (e - i) (name_size b t k) ≡ z → cond z (same_folded (e - i) x i b (name_start t k)) false ≡ true
          → name_word t k ≡ word_at x i (e - i)
      go true q s =
          let w = stands.within in
          let l : e - i ≡ min (name_length t k) (length b - name_start t k) = eqb-true (e - i) (name_size b t k) q in
          let n : e - i ≡ name_length t k = omega arith in
          stands.word ∙ ap (word_at b (name_start t k)) (sym n)
          ∙ ap (λ (f : ℕ). (e - i) % 32 + 32 * f) (sym (folded_fingerprint (e - i) x i b (name_start t k) 0 s))
      go false q s = absurd (true≢false (sym s))

  named_spelled : is_named b t k (word_at x i (e - i)) x i e ≡ spelled
  unfolding is_named
  named_spelled = go (eqb (name_word t k) (word_at x i (e - i))) spelled refl spelled_word
    where
      go : (z s : Bool) → eqb (name_word t k) (word_at x i (e - i)) ≡ z → (s ≡ true → name_word t k ≡ word_at x i (e - i)) → cond z s false ≡ s
      go true s q h = refl
      go false true q h = absurd (eqb-false (name_word t k) (word_at x i (e - i)) q (h refl))
      go false false q h = refl

module _ (b t x n r : List ℕ) (i e : ℕ) (at : drop i x ≡ n ++ r) (solid : Solid n) (end : e ≡ i + length n)
    (small : Folded b x) where
  -- The word of the name n.
  abbrev word : ℕ
  word = word_at x i (e - i)

  -- The test tells whether symbol k has the name n, which stands at position i.
  pub named_same : (k : ℕ) → NameStands b t k → is_named b t k (word_at x i (e - i)) x i e ≡ same_bytes n (declaration_at b t k).name
  unfolding declaration_at
  named_same k stands =
      let l : e - i ≡ length n = omega arith in
      named_spelled b t x k i e stands ∙ rw l (go (eqb (length n) (name_size b t k)) refl)
    where
      m : List ℕ
      m = take (name_length t k) (drop (name_start t k) b)

      go : (z : Bool) → eqb (length n) (name_size b t k) ≡ z → cond z (same_folded (length n) x i b (name_start t k)) false ≡ same_bytes n m
      go true q =
          folded_range (length n) x i b (name_start t k) small.text small.bytes ∙ range_begins n r x i b (name_start t k) at solid
          ∙ sym (begins_same n (drop (name_start t k) b) (name_length t k) (eqb-true (length n) (name_size b t k) q ∙ sym (size_length b t k)))
      go false q = sym (unequal_lengths n m (λ p. eqb-false (length n) (name_size b t k) q (p ∙ size_length b t k)))

  -- Searching c symbols from k on finds the symbol with the name n.
  symbol_from_lem : (c k : ℕ) → NamesStand b t (k + c) → find_name k (declarations_from b t c k) n ≡ found_at t (k + c) (symbol_from c b t k word x i e)
  unfolding find_name declarations_from symbol_from declaration_at
  symbol_from_lem zero k h = let q : k + 0 ≡ k = omega arith in rw (q, le-ltb k k (omega arith))
  symbol_from_lem (suc c) k h =
      go (same_bytes n (declaration_at b t k).name) refl (symbol_from_lem c (suc k) (λ j l. h j (omega arith))) (named_same k (h k (omega arith)))
    where
      go : (z : Bool) → same_bytes n (declaration_at b t k).name ≡ z
          → find_name (suc k) (declarations_from b t c (suc k)) n ≡ found_at t (suc k + c) (symbol_from c b t (suc k) word x i e)
          → is_named b t k word x i e ≡ same_bytes n (declaration_at b t k).name
          → find_name k (declaration_at b t k ∷ declarations_from b t c (suc k)) n ≡ found_at t (k + suc c)
          (cond (is_named b t k word x i e) k (symbol_from c b t (k + 1) word x i e))
      go true q ih s = rw (find_name, q, s, q) (rw (lt-ltb k (k + suc c) (omega arith)))
      go false q ih s =
          let l : suc k + c ≡ k + suc c = omega arith in
          rw (find_name, q, s, q, add-one k) (ih ∙ ap (λ (j : ℕ). found_at t j (symbol_from c b t (suc k) word x i e)) l)

  -- Searching from the first symbol on finds the symbol with the name n.
  pub find_symbol : (symbols : ℕ) → NamesStand b t symbols
      → find_name 0 (declarations_from b t symbols 0) n ≡ found_at t symbols (symbol_named symbols b t x i e)
  unfolding symbol_named
  find_symbol symbols h =
      let l : 0 + symbols ≡ symbols = omega arith in
      symbol_from_lem symbols 0 (λ j p. h j (omega arith)) ∙ ap (λ (j : ℕ). found_at t j (symbol_from symbols b t 0 word x i e)) l

-- A name has no byte 0.
pub name_solid : (n : List ℕ) → Every is_name_byte n → Solid n
name_solid n h = all_weaken (λ c. is_name_byte c ≡ true) (λ c. 0 < c) (λ c k. let g = name_graphic c k in omega arith) n h

-- What a span takes is of its kind.
pub span_every : (k : ℕ → Bool) (l : List ℕ) → Every k (span k l).taken
unfolding span
span_every k [] = tt
span_every k (c ∷ cs) = go (k c) refl (span_every k cs)
  where
    go : (b : Bool) → k c ≡ b → Every k (span k cs).taken → Every k (span k (c ∷ cs)).taken
    go true e h = subst (λ (s : Span). Every k s.taken) (sym (span_yes k c cs e)) (e, h)
    go false e h = subst (λ (s : Span). Every k s.taken) (sym (span_no k c cs e)) tt

-- What follows it does not begin with a byte of the kind.
pub span_stops : (k : ℕ → Bool) (l : List ℕ) → Stops k (span k l).rest
unfolding span
span_stops k [] = tt
span_stops k (c ∷ cs) = go (k c) refl (span_stops k cs)
  where
    go : (b : Bool) → k c ≡ b → Stops k (span k cs).rest → Stops k (span k (c ∷ cs)).rest
    go true e h = subst (λ (s : Span). Stops k s.rest) (sym (span_yes k c cs e)) h
    go false e h = subst (λ (s : Span). Stops k s.rest) (sym (span_no k c cs e)) e
