-- Laws of numbers in base ten: `number` reads back what `decimal` writes, and only that.
use Prim.Native.Nat.{ℕ, zero, suc, ◌+◌, ◌-◌, ◌*◌, ◌/◌, ◌%◌, ◌≤◌, ◌<◌}
use mathlib.Core.Path.{◌≡◌, refl, sym, ◌∙◌, ap, ap₂}
use mathlib.Core.Bool.{Bool, true, false}
use mathlib.Core.List.{List, [], ◌∷◌}
use mathlib.Core.Option.{Option, none, some}
use lib.Dec.{eqb, leb, ltb}
use borrow.Author.Tests.{eqb-false, ne_eqb, le-leb, leb-true, lt-ltb, le-ltb, ltb-true, ltb-false}
use native.Mathlib.Omega.{arith}
use Rattle.terms.specs.Lists.{All}
use Rattle.terms.proofs.Lists.{all_weaken}
use Rattle.sheet_format.specs.Limits.{max_number}
use Rattle.sheet_format.specs.Bytes.{is_digit, digits_from, at_most, number, digits, decimal, is_name}
use Rattle.sheet_format.proofs.Options.{OnSome, cond_some, some_is}
use Rattle.sheet_format.proofs.Bytes.{Without, Every, every_without, Graphic, digit_bounds, letter_bounds, name_nonempty, name_letter}

-- The byte 48 + n is a digit for n below 10.
pub digit_of : (n : ℕ) → n < 10 → is_digit (48 + n) ≡ true
unfolding is_digit
digit_of n h = rw (le-leb 48 (48 + n) (omega arith), le-leb (48 + n) 57 (omega arith))

-- writing

-- A number below 10 is written as one digit.
digits_last : (f n : ℕ) (ds : List ℕ) → n < 10 → digits (suc f) n ds ≡ (48 + n) ∷ ds
unfolding digits
digits_last f n ds h = rw (lt-ltb n 10 h, digits)

-- A number from 10 on is written as its last digit, with the digits of n / 10 before it.
digits_more : (f n : ℕ) (ds : List ℕ) → 10 ≤ n → digits (suc f) n ds ≡ digits f (n / 10) ((48 + n % 10) ∷ ds)
unfolding digits
digits_more f n ds h = rw (le-ltb n 10 h, digits)

-- Any fuel above the number gives the same digits.
digits_fuel : (f g n : ℕ) (ds : List ℕ) → n < f → n < g → digits f n ds ≡ digits g n ds
digits_fuel zero g n ds h k = absurd (omega arith)
digits_fuel (suc f) zero n ds h k = absurd (omega arith)
digits_fuel (suc f) (suc g) n ds h k = go (ltb n 10) refl (digits_fuel f g (n / 10) ((48 + n % 10) ∷ ds))
  where
    go : (b : Bool) → ltb n 10 ≡ b
        → (n / 10 < f → n / 10 < g → digits f (n / 10) ((48 + n % 10) ∷ ds) ≡ digits g (n / 10) ((48 + n % 10) ∷ ds))
        → digits (suc f) n ds ≡ digits (suc g) n ds
    go true e ih = let l = ltb-true n 10 e in digits_last f n ds l ∙ sym (digits_last g n ds l)
    go false e ih = let l = ltb-false n 10 e in digits_more f n ds l ∙ ih (omega arith) (omega arith) ∙ sym (digits_more g n ds l)

-- A property of every digit and of the bytes after them holds of all bytes written.
digits_all : (P : ℕ → Type 0) → ((n : ℕ) → n < 10 → P (48 + n)) → (f n : ℕ) (ds : List ℕ) → All P ds → All P (digits f n ds)
unfolding digits
digits_all P p zero n ds h = h
digits_all P p (suc f) n ds h = go (ltb n 10) refl (digits_all P p f (n / 10) ((48 + n % 10) ∷ ds) (p (n % 10) (omega arith), h))
  where
    go : (b : Bool) → ltb n 10 ≡ b → All P (digits f (n / 10) ((48 + n % 10) ∷ ds)) → All P (digits (suc f) n ds)
    go true e ih = rw (digits_last f n ds (ltb-true n 10 e)) (p n (ltb-true n 10 e), h)
    go false e ih = rw (digits_more f n ds (ltb-false n 10 e)) ih

-- All bytes of a number are digits.
pub decimal_digits : (n : ℕ) → Every is_digit (decimal n)
unfolding decimal
decimal_digits n = digits_all (λ c. is_digit c ≡ true) digit_of (suc n) n [] tt

-- All bytes of a number are graphic.
pub decimal_graphic : (n : ℕ) → Graphic (decimal n)
decimal_graphic n =
    all_weaken (λ c. is_digit c ≡ true) (λ c. 32 < c) (λ c h. let r = digit_bounds c h in omega arith) (decimal n) (decimal_digits n)

-- A number has no byte that is no digit.
pub decimal_without : (n c : ℕ) → is_digit c ≡ false → Without c (decimal n)
decimal_without n c h = every_without is_digit c h (decimal n) (decimal_digits n)

-- The digits of a number are not empty, and unless it is 0 no zero comes first.
digits_first : (f n : ℕ) (ds : List ℕ) → n < f → (c : ℕ) × (cs : List ℕ) × (digits f n ds ≡ c ∷ cs) × (1 ≤ n → eqb c 48 ≡ false)
digits_first zero n ds h = absurd (omega arith)
digits_first (suc f) n ds h = go (ltb n 10) refl (digits_first f (n / 10) ((48 + n % 10) ∷ ds))
  where
    go : (b : Bool) → ltb n 10 ≡ b
        → (n / 10 < f → (c : ℕ) × (cs : List ℕ) × (digits f (n / 10) ((48 + n % 10) ∷ ds) ≡ c ∷ cs) × (1 ≤ n / 10 → eqb c 48 ≡ false))
        → (c : ℕ) × (cs : List ℕ) × (digits (suc f) n ds ≡ c ∷ cs) × (1 ≤ n → eqb c 48 ≡ false)
    go true e ih = (48 + n, ds, digits_last f n ds (ltb-true n 10 e), λ l. ne_eqb (48 + n) 48 (λ q. omega arith))
    go false e ih =
        let l = ltb-false n 10 e in
        let r = ih (omega arith) in
        (r.0, r.1, digits_more f n ds l ∙ r.2, λ k. r.3 (omega arith))

-- A number in base ten is not empty, and unless it is 0 no zero comes first.
pub decimal_first : (n : ℕ) → (c : ℕ) × (cs : List ℕ) × (decimal n ≡ c ∷ cs) × (1 ≤ n → eqb c 48 ≡ false)
unfolding decimal
decimal_first n = digits_first (suc n) n [] (omega arith)

-- reading

-- A digit is read by adding it to ten times the value so far.
digits_from_digit : (m c : ℕ) (cs : List ℕ) → is_digit c ≡ true → digits_from m (c ∷ cs) ≡ digits_from (10 * m + (c - 48)) cs
unfolding digits_from
digits_from_digit m c cs h = rw (h, digits_from)

-- The digits of n are read as n.
digits_from_digits : (f n : ℕ) (ds : List ℕ) → n < f → digits_from 0 (digits f n ds) ≡ digits_from n ds
digits_from_digits zero n ds h = absurd (omega arith)
digits_from_digits (suc f) n ds h = go (ltb n 10) refl (digits_from_digits f (n / 10) ((48 + n % 10) ∷ ds))
  where
    go : (b : Bool) → ltb n 10 ≡ b
        → (n / 10 < f → digits_from 0 (digits f (n / 10) ((48 + n % 10) ∷ ds)) ≡ digits_from (n / 10) ((48 + n % 10) ∷ ds))
        → digits_from 0 (digits (suc f) n ds) ≡ digits_from n ds
    go true e ih =
        let l = ltb-true n 10 e in
        ap (digits_from 0) (digits_last f n ds l) ∙ digits_from_digit 0 (48 + n) ds (digit_of n l)
        ∙ ap (λ (k : ℕ). digits_from k ds) (omega arith)
    go false e ih =
        let l = ltb-false n 10 e in
        ap (digits_from 0) (digits_more f n ds l) ∙ ih (omega arith)
        ∙ digits_from_digit (n / 10) (48 + n % 10) ds (digit_of (n % 10) (omega arith))
        ∙ ap (λ (k : ℕ). digits_from k ds) (omega arith)

-- Bytes that do not begin with a zero are read digit by digit, up to the bound.
number_first : (c : ℕ) (cs : List ℕ) → eqb c 48 ≡ false → number (c ∷ cs) ≡ at_most max_number (digits_from 0 (c ∷ cs))
unfolding number at_most digits_from
number_first c [] h = go (is_digit c) refl
  where
    go : (b : Bool) → is_digit c ≡ b → digits_from 0 (c ∷ []) ≡ at_most max_number (digits_from 0 (c ∷ []))
    go true e = let r = digit_bounds c e in rw (e, digits_from) (rw (le-leb (10 * 0 + (c - 48)) max_number (omega arith)))
    go false e = rw (e, digits_from)
number_first c (d ∷ cs) h = rw (h, number)

-- A number within the bound is read back from its digits.
pub number_decimal : (n : ℕ) → n ≤ max_number → number (decimal n) ≡ some n
unfolding decimal number digits_from at_most digits is_digit
number_decimal zero h = refl
number_decimal (suc n) h =
    let r = decimal_first (suc n) in
    ap number r.2 ∙ number_first r.0 r.1 (r.3 (omega arith)) ∙ ap (λ (b : List ℕ). at_most max_number (digits_from 0 b)) (sym r.2)
    ∙ ap (at_most max_number) (digits_from_digits (suc (suc n)) (suc n) [] (omega arith)) ∙ rw (le-leb (suc n) max_number h)

-- What is read after m, which is not 0, completes the digits of m.
digits_from_is : (cs : List ℕ) (m : ℕ) → 1 ≤ m → OnSome (λ n. digits (suc m) m cs ≡ decimal n) (digits_from m cs)
unfolding digits_from decimal
digits_from_is [] m h = refl
digits_from_is (c ∷ cs) m h = go (is_digit c) refl (digits_from_is cs (10 * m + (c - 48)))
  where
    go : (b : Bool) → is_digit c ≡ b
        → (1 ≤ 10 * m + (c - 48) → OnSome (λ n. digits (suc (10 * m + (c - 48))) (10 * m + (c - 48)) cs ≡ decimal n)
        (digits_from (10 * m + (c - 48)) cs))
        → OnSome (λ n. digits (suc m) m (c ∷ cs) ≡ decimal n) (digits_from m (c ∷ cs))
    go true e ih =
        let r = digit_bounds c e in
        let k = 10 * m + (c - 48) in
        let tens : k / 10 ≡ m = omega arith in
        let ones : 48 + k % 10 ≡ c = omega arith in
        let same : digits (suc k) k cs ≡ digits (suc m) m (c ∷ cs) =
        digits_more k k cs (omega arith) ∙ ap₂ (λ (i j : ℕ). digits k i (j ∷ cs)) tens ones
        ∙ digits_fuel k (suc m) m (c ∷ cs) (omega arith) (omega arith) in
        rw (digits_from_digit m c cs e) (rw (← same) (ih (omega arith)))
    go false e ih = rw (e, digits_from) tt

-- What passes the bound has the property and is within it.
at_most_some : (P : ℕ → Type 0) (m : ℕ) (o : Option ℕ) → OnSome P o → OnSome (λ n. P n × (n ≤ m)) (at_most m o)
unfolding at_most
at_most_some P m none h = tt
at_most_some P m (some n) h = cond_some (λ k. P k × (k ≤ m)) (leb n m) (some n) none (λ e. (h, leb-true n m e)) (λ e. tt)

-- Bytes that are read as a number are the ones that it is written as.
pub number_some : (b : List ℕ) → OnSome (λ n. (b ≡ decimal n) × (n ≤ max_number)) (number b)
unfolding number digits_from decimal at_most
number_some [] = tt
number_some (c ∷ []) = go (is_digit c) refl
  where
    go : (b : Bool) → is_digit c ≡ b → OnSome (λ n. (c ∷ [] ≡ decimal n) × (n ≤ max_number)) (digits_from 0 (c ∷ []))
    go true e =
        let r = digit_bounds c e in
        let k = 10 * 0 + (c - 48) in
        let same : c ≡ 48 + k = omega arith in
        rw (e, digits_from) (ap (λ (d : ℕ). d ∷ []) same ∙ sym (digits_last k k [] (omega arith)), omega arith)
    go false e = rw (e, digits_from) tt
number_some (c ∷ d ∷ cs) = go (eqb c 48) refl (is_digit c) refl
  where
    go : (b : Bool) → eqb c 48 ≡ b → (a : Bool) → is_digit c ≡ a
        → OnSome (λ n. (c ∷ d ∷ cs ≡ decimal n) × (n ≤ max_number)) (number (c ∷ d ∷ cs))
    go true e a q = rw (e, number) tt
    go false e false q = rw (e, number) (rw (q, digits_from) tt)
    go false e true q =
        let r = digit_bounds c q in
        let u = eqb-false c 48 e in
        let k = 10 * 0 + (c - 48) in
        let same : c ≡ 48 + k = omega arith in
        let first : c ∷ d ∷ cs ≡ digits (suc k) k (d ∷ cs) = ap (λ (x : ℕ). x ∷ d ∷ cs) same
        ∙ sym (digits_last k k (d ∷ cs) (omega arith)) in
        rw (e, number) (at_most_some (λ n. c ∷ d ∷ cs ≡ decimal n) max_number (digits_from 0 (c ∷ d ∷ cs))
        (rw (digits_from_digit 0 c (d ∷ cs) q) (rw first (digits_from_is (d ∷ cs) k (omega arith)))))

-- Bytes that are read as n are what n is written as, and n is within the bound.
pub decimal_number : (b : List ℕ) (n : ℕ) → number b ≡ some n → (b ≡ decimal n) × (n ≤ max_number)
decimal_number b n e = some_is (λ k. (b ≡ decimal k) × (k ≤ max_number)) (number b) n (number_some b) e

-- A name is no number: its first byte is a letter.
pub number_name : (b : List ℕ) → is_name b ≡ true → number b ≡ none
unfolding number digits_from at_most
number_name [] h = absurd (name_nonempty h)
number_name (c ∷ cs) h = go cs (is_digit c) refl (letter_bounds c (name_letter c cs h))
  where
    go : (ds : List ℕ) (b : Bool) → is_digit c ≡ b → (65 ≤ c) × (c ≤ 122) × (c ≡ 95 → ⊥) → number (c ∷ ds) ≡ none
    go ds true e l = let r = digit_bounds c e in absurd (omega arith)
    go [] false e l = rw (e, digits_from)
    go (d ∷ ds) false e l = rw (ne_eqb c 48 (λ q. omega arith), number) (rw (e, digits_from))
