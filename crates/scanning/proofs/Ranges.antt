-- Bytes read in place: ranges that are the same, the end of a line, numbers.
use Prim.Native.Nat.{ℕ, zero, suc, ◌+◌, ◌-◌, ◌*◌, ◌<◌, ◌≤◌}
use native.Mathlib.Omega.{arith}
use mathlib.Core.Path.{◌≡◌, refl, sym, ap, ap₂, ◌∙◌}
use mathlib.Core.Bool.{Bool, true, false, ◌&&◌, cond, true≢false}
use mathlib.Core.List.{List, [], ◌∷◌, ◌++◌}
use mathlib.Core.Option.{Option, none, some}
use lib.Dec.{eqb, leb}
use lib.ListN.{length, get_or, take, drop, length-append}
use borrow.Author.Tests.{eqb-true, eq-eqb, ne_eqb, leb-true, leb-false, le-leb, lt-leb}
use Rattle.terms.specs.Lists.{All}
use Rattle.terms.proofs.Tests.{cond_and}
use Rattle.formulas.proofs.Free.{and_parts}
use Rattle.sheet_format.specs.Limits.{max_number}
use Rattle.sheet_format.specs.Bytes.{is_digit, digits_from, at_most, number, decimal, same_bytes, lf, folded_name}
use Rattle.sheet_format.proofs.Bytes.{Without, digit_bounds, same_equal}
use Rattle.sheet_format.proofs.Numbers.{decimal_digits, number_decimal}
use Rattle.sheet_format.proofs.Options.{OnSome, some_weaken}
use Rattle.text_judging.specs.Reading.{Span, span}
use Rattle.text_judging.proofs.Spans.{Stops, span_append}
use Rattle.node_table.proofs.Words.{byte_folded}
use Rattle.scanning.specs.Ranges.{Number}
use Rattle.std.specs.Prelude.{Some, None}
use Rattle.scanning.specs.Ranges.{same_range, same_folded, find_byte, text_line_end, number_from, number_zero, scan_number}
use Rattle.scanning.proofs.Positions.{byte_is, byte_none, drop_next, drop_length}

-- beginnings

-- The list a is a beginning of b.
unfoldable pub begins : List ℕ → List ℕ → Bool
begins [] b = true
begins (c ∷ cs) [] = false
begins (c ∷ cs) (d ∷ ds) = eqb c d && begins cs ds

-- A beginning of b is followed by some rest in b.
pub begins_rest : (a b : List ℕ) → begins a b ≡ true → (r : List ℕ) × (b ≡ a ++ r)
unfolding begins
begins_rest [] b h = (b, refl)
begins_rest (c ∷ cs) [] h = absurd (true≢false (sym h))
begins_rest (c ∷ cs) (d ∷ ds) h =
    let p = and_parts (eqb c d) (begins cs ds) h in
    let r = begins_rest cs ds p.1 in
    (r.0, ap₂ ◌∷◌ (sym (eqb-true c d p.0)) r.1)

-- A list is a beginning of itself followed by anything.
pub rest_begins : (a r : List ℕ) → begins a (a ++ r) ≡ true
unfolding begins
rest_begins [] r = refl
rest_begins (c ∷ cs) r = rw (eq-eqb c c refl) (rest_begins cs r)

-- A list has the same bytes as the first bytes of b, of equal number, exactly if it is a beginning of b.
pub begins_same : (a b : List ℕ) (n : ℕ) → length a ≡ length (take n b) → same_bytes a (take n b) ≡ begins a b
unfolding begins same_bytes
begins_same [] b zero h = refl
begins_same [] [] (suc n) h = refl
begins_same [] (d ∷ ds) (suc n) h = absurd (omega arith)
begins_same (c ∷ cs) b zero h = absurd (omega arith)
begins_same (c ∷ cs) [] (suc n) h = absurd (omega arith)
begins_same (c ∷ cs) (d ∷ ds) (suc n) h = ap (λ (z : Bool). eqb c d && z) (begins_same cs ds n (omega arith))

-- Lists of different lengths do not have the same bytes.
pub unequal_lengths : (a b : List ℕ) → (length a ≡ length b → ⊥) → same_bytes a b ≡ false
unequal_lengths a b h = go (same_bytes a b) refl
  where
    go : (z : Bool) → same_bytes a b ≡ z → z ≡ false
    go true e = absurd (h (ap length (same_equal a b e)))
    go false e = refl

-- equal ranges

-- No byte is 0.
abbrev pub Solid : List ℕ → Type 0
Solid a = All (λ c. 0 < c) a

-- Comparing the bytes l of a in place with those at position j of x tests whether l begins what stands there.
pub range_begins : (l r a : List ℕ) (i : ℕ) (x : List ℕ) (j : ℕ) → drop i a ≡ l ++ r → Solid l
    → same_range (length l) a i x j ≡ begins l (drop j x)
unfolding same_range begins
range_begins [] r a i x j h s = refl
range_begins (c ∷ cs) r a i x j h s = go (drop j x) refl (range_begins cs r a (i + 1) x (j + 1) (drop_next a i c (cs ++ r) h) s.1)
  where
    go : (y : List ℕ) → drop j x ≡ y → same_range (length cs) a (i + 1) x (j + 1) ≡ begins cs (drop (j + 1) x)
        → cond (eqb (get_or a i 0) (get_or x j 0)) (same_range (length cs) a (i + 1) x (j + 1)) false ≡ begins (c ∷ cs) y
    go [] e ih = rw (byte_is a i c (cs ++ r) h, byte_none x j e, ne_eqb c 0 (λ q. let p = s.0 in omega arith))
    go (d ∷ ds) e ih =
        rw (byte_is a i c (cs ++ r) h, byte_is x j d ds e)
        (ap (λ (z : Bool). cond (eqb c d) z false) (ih ∙ ap (begins cs) (drop_next x j d ds e)) ∙ cond_and (eqb c d) (begins cs ds))

-- folded ranges

-- The bytes of the sheet and of the text are folded already.
pub record Folded (b x : List ℕ) : Type 0 where
  pub bytes : folded_name b ≡ b
  pub text : folded_name x ≡ x

-- Comparing two ranges folded is comparing the ranges of the folded lists.
pub range_folded : (n : ℕ) (a : List ℕ) (i : ℕ) (b : List ℕ) (j : ℕ)
    → same_folded n a i b j ≡ same_range n (folded_name a) i (folded_name b) j
unfolding same_folded same_range
range_folded zero a i b j = refl
range_folded (suc n) a i b j = rw (byte_folded a i, byte_folded b j, range_folded n a (i + 1) b (j + 1))

-- So it is comparing the ranges where both lists are folded already.
pub folded_range : (n : ℕ) (a : List ℕ) (i : ℕ) (b : List ℕ) (j : ℕ) → folded_name a ≡ a → folded_name b ≡ b
    → same_folded n a i b j ≡ same_range n a i b j
folded_range n a i b j p q = range_folded n a i b j ∙ ap₂ (λ (x y : List ℕ). same_range n x i y j) p q

-- the end of a line

-- A byte is not found before the search starts.
pub byte_least : (n : ℕ) (x : List ℕ) (c i : ℕ) → i ≤ find_byte n x c i
unfolding find_byte
byte_least zero x c i = omega arith
byte_least (suc n) x c i = go (eqb (get_or x i 0) c) (byte_least n x c (i + 1))
  where
    go : (z : Bool) → i + 1 ≤ find_byte n x c (i + 1) → i ≤ cond z i (find_byte n x c (i + 1))
    go true h = omega arith
    go false h = omega arith

-- The first LF is found.
find_lf : (l r x : List ℕ) (n i : ℕ) → drop i x ≡ l ++ (lf ∷ r) → Without lf l → length l < n → find_byte n x 10 i ≡ i + length l
unfolding find_byte
find_lf l r x zero i h s k = absurd (omega arith)
find_lf [] r x (suc n) i h s k =
    let e : i ≡ i + 0 = omega arith in
    rw (byte_is x i lf r h) e
find_lf (c ∷ cs) r x (suc n) i h s k =
    rw (byte_is x i c (cs ++ (lf ∷ r)) h, s.0)
    (find_lf cs r x n (i + 1) (drop_next x i c (cs ++ (lf ∷ r)) h) s.1 (omega arith)
    ∙ let e : i + 1 + length cs ≡ i + suc (length cs) = omega arith in e)

-- Without an LF, `find_byte` ends where the text does.
find_none : (l x : List ℕ) (n i : ℕ) → drop i x ≡ l → Without lf l → n ≡ length l → find_byte n x 10 i ≡ i + length l
unfolding find_byte
find_none [] x zero i h s k = omega arith
find_none [] x (suc n) i h s k = absurd (omega arith)
find_none (c ∷ cs) x zero i h s k = absurd (omega arith)
find_none (c ∷ cs) x (suc n) i h s k =
    rw (byte_is x i c cs h, s.0) (find_none cs x n (i + 1) (drop_next x i c cs h) s.1 (omega arith)
    ∙ let e : i + 1 + length cs ≡ i + suc (length cs) = omega arith in e)

-- A line ends at its LF.
pub line_end_lem : (l r x : List ℕ) (i : ℕ) → drop i x ≡ l ++ (lf ∷ r) → Without lf l → text_line_end x i ≡ i + length l
unfolding text_line_end
line_end_lem l r x i h s =
    find_lf l r x (length x - i) i h s (let e = drop_length x i (l ++ (lf ∷ r)) h in let q = length-append l (lf ∷ r) in omega arith)

-- A line without an LF ends with the text.
pub line_open : (l x : List ℕ) (i : ℕ) → drop i x ≡ l → Without lf l → text_line_end x i ≡ i + length l
unfolding text_line_end
line_open l x i h s = find_none l x (length x - i) i h s (drop_length x i l h)

-- numbers

-- A number that ends at e.
abbrev pub number_to : ℕ → Option ℕ → Number
number_to e none = None
number_to e (some n) = Some (n, e)

-- More digits do not make a number smaller.
digits_grow : (l : List ℕ) (v : ℕ) → OnSome (λ n. v ≤ n) (digits_from v l)
unfolding digits_from
digits_grow [] v = omega arith
digits_grow (c ∷ cs) v = go (is_digit c) refl (digits_grow cs (10 * v + (c - 48)))
  where
    go : (b : Bool) → is_digit c ≡ b → OnSome (λ n. 10 * v + (c - 48) ≤ n) (digits_from (10 * v + (c - 48)) cs)
        → OnSome (λ n. v ≤ n) (digits_from v (c ∷ cs))
    go true e ih =
        rw (digits_from, e) (some_weaken (λ n. 10 * v + (c - 48) ≤ n) (λ n. v ≤ n) (λ n k. omega arith)
        (digits_from (10 * v + (c - 48)) cs) ih)
    go false e ih = rw (digits_from, e) tt

-- A number above the bound gives none.
too_high : (m : ℕ) (o : Option ℕ) → OnSome (λ n. m < n) o → at_most m o ≡ none
unfolding at_most
too_high m none h = refl
too_high m (some n) h = rw (lt-leb n m h)

-- A number within the bound passes unchanged.
not_high : (m n : ℕ) → n ≤ m → at_most m (some n) ≡ some n
unfolding at_most
not_high m n h = rw (le-leb n m h)

-- A span takes a first byte that is of the kind.
pub span_yes : (k : ℕ → Bool) (c : ℕ) (cs : List ℕ) → k c ≡ true
    → span k (c ∷ cs) ≡ record { taken = c ∷ (span k cs).taken; rest = (span k cs).rest }
unfolding span
span_yes k c cs e = rw (span, e)

-- A span that begins with a byte not of the kind takes nothing.
pub span_no : (k : ℕ → Bool) (c : ℕ) (cs : List ℕ) → k c ≡ false → span k (c ∷ cs) ≡ record { taken = []; rest = c ∷ cs }
unfolding span
span_no k c cs e = rw (span, e)

-- Digits from position i on, after the value v, are read as the number that they continue, up to 65,535.
number_from_lem : (l x : List ℕ) (n i v : ℕ) → drop i x ≡ l → n ≡ length l → v ≤ 65535
    → number_from n x i v ≡ number_to (i + length (span is_digit l).taken) (at_most 65535 (digits_from v (span is_digit l).taken))
unfolding number_from span digits_from
number_from_lem [] x zero i v h k m = let e : i ≡ i + 0 = omega arith in rw (not_high 65535 v m) (ap (λ (j : ℕ). Some (v, j)) e)
number_from_lem [] x (suc n) i v h k m = absurd (omega arith)
number_from_lem (c ∷ cs) x zero i v h k m = absurd (omega arith)
number_from_lem (c ∷ cs) x (suc n) i v h k m =
    ap (λ (b : ℕ). cond (is_digit b) (cond (leb (10 * v + (b - 48)) 65535) (number_from n x (i + 1) (10 * v + (b - 48))) None)
    (Some (v, i))) (byte_is x i c cs h)
    ∙ go (is_digit c) refl (leb (10 * v + (c - 48)) 65535) refl
    (λ q. number_from_lem cs x n (i + 1) (10 * v + (c - 48)) (drop_next x i c cs h) (omega arith) q)
  where
    R : List ℕ → Number
    R s = number_to (i + length s) (at_most 65535 (digits_from v s))

    go : (a : Bool) → is_digit c ≡ a → (b : Bool) → leb (10 * v + (c - 48)) 65535 ≡ b
        → (10 * v + (c - 48) ≤ 65535
        → number_from n x (i + 1) (10 * v + (c - 48))
        ≡ number_to (i + 1 + length (span is_digit cs).taken) (at_most 65535 (digits_from (10 * v + (c - 48)) (span is_digit cs).taken)))
        → cond a (cond b (number_from n x (i + 1) (10 * v + (c - 48))) None) (Some (v, i)) ≡ R (span is_digit (c ∷ cs)).taken
    go false p b q ih =
        let e : i ≡ i + 0 = omega arith in
        ap (λ (j : ℕ). Some (v, j)) e ∙ ap (number_to (i + 0)) (sym (not_high 65535 v m)) ∙ ap (λ (s : Span). R s.taken) (sym (span_no is_digit c cs p))
    go true p false q ih =
        let d = (span is_digit cs).taken in
        let f : digits_from v (c ∷ d) ≡ digits_from (10 * v + (c - 48)) d = rw (digits_from, p) in
        let z = leb-false (10 * v + (c - 48)) 65535 q in
        ap (number_to (i + suc (length d))) (sym (ap (at_most 65535) f ∙ too_high 65535 (digits_from (10 * v + (c - 48)) d)
        (some_weaken (λ n. 10 * v + (c - 48) ≤ n) (λ n. 65535 < n) (λ n k. omega arith) (digits_from (10 * v + (c - 48)) d)
        (digits_grow d (10 * v + (c - 48))))))
        ∙ ap (λ (s : Span). R s.taken) (sym (span_yes is_digit c cs p))
    go true p true q ih =
        let d = (span is_digit cs).taken in
        let f : digits_from v (c ∷ d) ≡ digits_from (10 * v + (c - 48)) d = rw (digits_from, p) in
        let e : i + 1 + length d ≡ i + suc (length d) = omega arith in
        ih (leb-true (10 * v + (c - 48)) 65535 q)
        ∙ ap₂ (λ (j : ℕ) (o : Option ℕ). number_to j (at_most 65535 o)) e (sym f)
        ∙ ap (λ (s : Span). R s.taken) (sym (span_yes is_digit c cs p))

-- A number whose first digit is not 0 is read on from the value of that digit, up to 65,535.
number_nonzero : (c : ℕ) (d : List ℕ) → is_digit c ≡ true → eqb c 48 ≡ false → number (c ∷ d) ≡ at_most 65535 (digits_from (c - 48) d)
unfolding number digits_from
number_nonzero c [] p q =
    let r = digit_bounds c p in
    let e : 10 * 0 + (c - 48) ≡ c - 48 = omega arith in
    rw (digits_from, p) (rw e (sym (not_high 65535 (c - 48) (omega arith))))
number_nonzero c (d ∷ ds) p q =
    let e : 10 * 0 + (c - 48) ≡ c - 48 = omega arith in
    let f : digits_from 0 (c ∷ d ∷ ds) ≡ digits_from (10 * 0 + (c - 48)) (d ∷ ds) = rw (digits_from, p) in
    rw (number, q) (ap (at_most 65535) (f ∙ ap (λ (v : ℕ). digits_from v (d ∷ ds)) e))

-- After a first digit 0, `number_zero` reads what `number` reads of the 0 and the digits after it.
number_zero_lem : (cs x : List ℕ) (i : ℕ) → drop i x ≡ cs
    → number_zero x i ≡ number_to (i + length (span is_digit cs).taken) (number (48 ∷ (span is_digit cs).taken))
unfolding number_zero number digits_from span is_digit
number_zero_lem [] x i h = let e : i ≡ i + 0 = omega arith in rw (byte_none x i h) (ap (λ (j : ℕ). Some (0, j)) e)
number_zero_lem (c ∷ cs) x i h = ap (λ (b : ℕ). cond (is_digit b) None (Some (0, i))) (byte_is x i c cs h) ∙ go (is_digit c) refl
  where
    R : List ℕ → Number
    R s = number_to (i + length s) (number (48 ∷ s))

    go : (b : Bool) → is_digit c ≡ b → cond b None (Some (0, i)) ≡ R (span is_digit (c ∷ cs)).taken
    go true p = ap (λ (s : Span). R s.taken) (sym (span_yes is_digit c cs p))
    go false p =
        let e : i ≡ i + 0 = omega arith in
        ap (λ (j : ℕ). Some (0, j)) e ∙ ap (λ (s : Span). R s.taken) (sym (span_no is_digit c cs p))

-- The number at position i is that of the digits that stand there.
pub read_number : (x : List ℕ) (i : ℕ)
    → scan_number x i ≡ number_to (i + length (span is_digit (drop i x)).taken) (number (span is_digit (drop i x)).taken)
unfolding scan_number number span is_digit
read_number x i = go (drop i x) refl
  where
    R : List ℕ → Number
    R s = number_to (i + length s) (number s)

    digit : (c : ℕ) (cs : List ℕ) → drop i x ≡ c ∷ cs → is_digit c ≡ true → (b : Bool) → eqb c 48 ≡ b
        → cond b (number_zero x (i + 1)) (number_from (length x - (i + 1)) x (i + 1) (c - 48)) ≡ R (c ∷ (span is_digit cs).taken)
    digit c cs h p true q =
        let d = (span is_digit cs).taken in
        let e : i + 1 + length d ≡ i + suc (length d) = omega arith in
        number_zero_lem cs x (i + 1) (drop_next x i c cs h)
        ∙ ap₂ (λ (j k : ℕ). number_to j (number (k ∷ d))) e (sym (eqb-true c 48 q))
    digit c cs h p false q =
        let d = (span is_digit cs).taken in
        let r = digit_bounds c p in
        let e : i + 1 + length d ≡ i + suc (length d) = omega arith in
        number_from_lem cs x (length x - (i + 1)) (i + 1) (c - 48) (drop_next x i c cs h) (drop_length x (i + 1) cs (drop_next x i c cs h))
        (omega arith)
        ∙ ap₂ number_to e (sym (number_nonzero c d p q))

    cases : (c : ℕ) (cs : List ℕ) → drop i x ≡ c ∷ cs → (b : Bool) → is_digit c ≡ b
        → cond b (cond (eqb c 48) (number_zero x (i + 1)) (number_from (length x - (i + 1)) x (i + 1) (c - 48))) None ≡ R
        (span is_digit (c ∷ cs)).taken
    cases c cs h true p = digit c cs h p (eqb c 48) refl ∙ ap (λ (s : Span). R s.taken) (sym (span_yes is_digit c cs p))
    cases c cs h false p = ap (λ (s : Span). R s.taken) (sym (span_no is_digit c cs p))

    go : (l : List ℕ) → drop i x ≡ l → scan_number x i ≡ R (span is_digit (drop i x)).taken
    go [] h = rw (byte_none x i h, h)
    go (c ∷ cs) h =
        ap (λ (b : ℕ). cond (is_digit b) (cond (eqb b 48) (number_zero x (i + 1)) (number_from (length x - (i + 1)) x (i + 1) (b - 48)))
        None) (byte_is x i c cs h)
        ∙ cases c cs h (is_digit c) refl ∙ ap (λ (l : List ℕ). R (span is_digit l).taken) (sym h)

-- A number that stands at position i, with no digit after it, is read.
pub read_decimal : (x : List ℕ) (i n : ℕ) (r : List ℕ) → drop i x ≡ decimal n ++ r → n ≤ max_number → Stops is_digit r
    → scan_number x i ≡ Some (n, i + length (decimal n))
read_decimal x i n r h l s =
    let e : span is_digit (drop i x) ≡ record { taken = decimal n; rest = r } = ap (span is_digit) h
    ∙ span_append is_digit (decimal n) r (decimal_digits n) s in
    read_number x i ∙ ap (λ (d : Span). number_to (i + length d.taken) (number d.taken)) e
    ∙ ap (number_to (i + length (decimal n))) (number_decimal n l)
