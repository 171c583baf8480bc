-- Bytes appended one after the other, and the length of a number. The hypotheses are the facts on the code's path.
use Prim.Native.Nat.{ℕ, zero, suc, ◌+◌, ◌-◌, ◌*◌, ◌/◌, ◌%◌, ◌≤◌, ◌<◌}
use native.Mathlib.Numerals.{add-one, sub-one}
use native.Mathlib.Omega.{arith}
use mathlib.Core.Path.{◌≡◌, refl, sym, ap, ◌∙◌}
use mathlib.Core.Bool.{Bool, true, false}
use mathlib.Core.List.{List, [], ◌∷◌, ◌++◌, append_assoc, append-nil}
use lib.Dec.{ltb}
use lib.ListN.{length, set, take, length-append}
use lib.Seq.{length-take-le, take-suc-set}
use borrow.Rule.Slice.PartMut.{put_mid}
use Rattle.std.proofs.lemmas.Slice.{take-put_mid}
use borrow.Author.Tests.{lt-ltb, le-ltb, ltb-false}
use Rattle.sheet_format.specs.Bytes.{ascii, digits, decimal}
use Rattle.answer_texts.specs.Spelling.{text_line, join}
use Rattle.line_writer.specs.Appending.{Appends, Fits}
use Rattle.line_writer.specs.RefusalLine.{refusal_line, refusal_line_bytes}

-- Nothing, one byte, and bytes after bytes.
pub nothing_appended : (out : List ℕ) (at : ℕ) → Appends out at [] out at
nothing_appended out at = record { count = omega arith; front = sym (append-nil (take at out)) }

pub byte_appended : (out : List ℕ) (at b : ℕ) → at < length out → Appends out at (b ∷ []) (set out at b) (at + 1)
byte_appended out at b h = record { count = refl; front = rw (add-one at) (take-suc-set out at b h) }

pub then_appended : (out out₁ out₂ x y : List ℕ) (at to to₂ : ℕ) → Appends out at x out₁ to → Appends out₁ to y out₂ to₂
    → Appends out at (x ++ y) out₂ to₂
then_appended out out₁ out₂ x y at to to₂ a b =
    record {
      count = let h = length-append x y in let p = a.count in let q = b.count in omega arith;
      front = b.front ∙ ap (λ (l : List ℕ). l ++ y) a.front ∙ append_assoc (take at out) x y;
    }

-- Bytes that are copied into a part of the buffer follow what stands before the part.
pub part_appended : (out bytes part : List ℕ) (at k : ℕ) → part ≡ bytes → at + length bytes ≤ length out
    → Appends out at bytes (put_mid at k out part) (at + length bytes)
part_appended out bytes part at k e h =
    record {
      count = refl;
      front = take-put_mid at k out part (at + length bytes) (ap (λ (l : List ℕ). at + length l) (sym e)) (omega arith)
          ∙ ap (λ (l : List ℕ). take at out ++ l) e;
    }

-- The digits of a number, and then ds.
digits_append : (f n : ℕ) (ds : List ℕ) → digits f n ds ≡ digits f n [] ++ ds
unfolding digits
digits_append zero n ds = refl
digits_append (suc f) n ds = go (ltb n 10) (digits_append f (n / 10) ((48 + n % 10) ∷ ds)) (digits_append f (n / 10) ((48 + n % 10) ∷ []))
  where
    go : (b : Bool) → digits f (n / 10) ((48 + n % 10) ∷ ds) ≡ digits f (n / 10) [] ++ ((48 + n % 10) ∷ ds)
        → digits f (n / 10) ((48 + n % 10) ∷ []) ≡ digits f (n / 10) [] ++ ((48 + n % 10) ∷ [])
        → ◌≡◌ {A = List ℕ} (elim b [ true ↦ (48 + n) ∷ ds | false ↦ digits f (n / 10) ((48 + n % 10) ∷ ds) ])
        (elim b [ true ↦ (48 + n) ∷ [] | false ↦ digits f (n / 10) ((48 + n % 10) ∷ []) ] ++ ds)
    go true p q = refl
    go false p q =
        p ∙ sym (append_assoc (digits f (n / 10) []) ((48 + n % 10) ∷ []) ds) ∙ ap (λ (l : List ℕ). l ++ ds) (sym q)

digits_last : (f n : ℕ) → (f ≡ 0 → ⊥) → n < 10 → digits f n [] ≡ (48 + n) ∷ []
unfolding digits
digits_last zero n p h = absurd (p refl)
digits_last (suc f) n p h = simp (digits, lt-ltb _ _ h)

digits_on : (f n : ℕ) → (f ≡ 0 → ⊥) → 10 ≤ n → digits f n [] ≡ digits (f - 1) (n / 10) [] ++ ((48 + n % 10) ∷ [])
unfolding digits
digits_on zero n p h = absurd (p refl)
digits_on (suc f) n p h = rw (sub-one (suc f), ← digits_append f (n / 10) ((48 + n % 10) ∷ [])) (simp (digits, le-ltb _ _ h))

-- The three ways through `put_digits`, and the room that the two with a digit have.
module _ (out : List ℕ) (at n : ℕ) where
  pub no_digit : (f : ℕ) → f ≡ 0 → Appends out at (digits f n []) out at
  unfolding digits
  no_digit zero e = nothing_appended out at
  no_digit (suc f) e = absurd (omega arith)

  pub last_digit : (f b to : ℕ) (out₁ : List ℕ) → (f ≡ 0 → ⊥) → n < 10 → b ≡ 48 + n → Appends out at (b ∷ []) out₁ to
      → Appends out at (digits f n []) out₁ to
  last_digit f b to out₁ p h e a = rw (digits_last f n p h, ← e) a

  pub more_digits : (f b to to₂ : ℕ) (out₁ out₂ : List ℕ) → (f ≡ 0 → ⊥) → 10 ≤ n → Appends out at (digits (f - 1) (n / 10) []) out₁ to
      → b ≡ 48 + n % 10 → Appends out₁ to (b ∷ []) out₂ to₂ → Appends out at (digits f n []) out₂ to₂
  more_digits f b to to₂ out₁ out₂ p h a e c =
      rw (digits_on f n p h, ← e) (then_appended out out₁ out₂ (digits (f - 1) (n / 10) []) (b ∷ []) at to to₂ a c)

pub last_room : (at n f m : ℕ) → (f ≡ 0 → ⊥) → n < 10 → at + length (digits f n []) ≤ m → at < m
last_room at n f m p h r = let l = ap {B = ℕ} length (digits_last f n p h) in omega arith

pub more_room : (at n f m : ℕ) → (f ≡ 0 → ⊥) → 10 ≤ n → at + length (digits f n []) ≤ m → at + length (digits (f - 1) (n / 10) []) < m
more_room at n f m p h r =
    let l = ap {B = ℕ} length (digits_on f n p h) ∙ length-append (digits (f - 1) (n / 10) []) ((48 + n % 10) ∷ []) in omega arith

-- `put_number` calls `put_digits` with more digits than the number can have.
pub number_appended : (out out₁ : List ℕ) (at k n to : ℕ) → k ≡ n → Appends out at (digits (k + 1) n []) out₁ to
    → Appends out at (decimal n) out₁ to
unfolding decimal
number_appended out out₁ at k n to e a = rw (add-one k, e) at a

pub number_room : (at k n m : ℕ) → k ≡ n → at + length (decimal n) ≤ m → at + length (digits (k + 1) n []) ≤ m
unfolding decimal
number_room at k n m e h = rw (add-one k, e) h

-- A number below a power of ten has at most so many digits.
unfoldable power_of_ten : ℕ → ℕ
power_of_ten zero = 1
power_of_ten (suc k) = 10 * power_of_ten k

some_digit : (n k : ℕ) → n < power_of_ten k → 1 ≤ n → 1 ≤ k
unfolding power_of_ten
some_digit n zero h l = absurd (omega arith)
some_digit n (suc k) h l = omega arith

digits_length : (f n k : ℕ) (ds : List ℕ) → n < power_of_ten k → 1 ≤ k → length (digits f n ds) ≤ k + length ds
unfolding digits power_of_ten
digits_length zero n k ds h l = omega arith
digits_length (suc f) n zero ds h l = absurd (omega arith)
digits_length (suc f) n (suc k) ds h l = go (ltb n 10) refl (digits_length f (n / 10) k ((48 + n % 10) ∷ ds))
  where
    go : (b : Bool) → ltb n 10 ≡ b
        → (n / 10 < power_of_ten k → 1 ≤ k → length (digits f (n / 10) ((48 + n % 10) ∷ ds)) ≤ k + length ((48 + n % 10) ∷ ds))
        → length {A = ℕ} (elim b [ true ↦ (48 + n) ∷ ds | false ↦ digits f (n / 10) ((48 + n % 10) ∷ ds) ]) ≤ suc k + length ds
    go true e ih = omega arith
    go false e ih =
        let g = ltb-false n 10 e in
        let q : n / 10 < power_of_ten k = omega arith in
        let r = ih q (some_digit (n / 10) k q (omega arith)) in omega arith

pub decimal_length : (n : ℕ) → n < 4294967296 → length (decimal n) ≤ 10
unfolding decimal power_of_ten
decimal_length n h = digits_length (suc n) n 10 [] (omega arith) (omega arith)

-- The line of a refusal, written in five pieces.
refusal_pieces : (number line : ℕ)
    → ((((88 ∷ 9 ∷ []) ++ decimal number) ++ (9 ∷ [])) ++ decimal line) ++ (10 ∷ []) ≡ refusal_line number line
unfolding refusal_line text_line join ascii
refusal_pieces number line =
    ap (λ (l : List ℕ). 88 ∷ 9 ∷ (l ++ (10 ∷ []))) (append_assoc (decimal number) (9 ∷ []) (decimal line))

pub refusal_written : (out out₁ out₂ out₃ out₄ out₅ : List ℕ) (number line to₁ to₂ to₃ to₄ to₅ : ℕ) → number < 4294967296
    → line < 4294967296
    → Appends out 0 (88 ∷ 9 ∷ []) out₁ to₁ → Appends out₁ to₁ (decimal number) out₂ to₂ → Appends out₂ to₂ (9 ∷ []) out₃ to₃
    → Appends out₃ to₃ (decimal line) out₄ to₄ → Appends out₄ to₄ (10 ∷ []) out₅ to₅
    → (to₅ ≤ refusal_line_bytes) × (take to₅ out₅ ≡ refusal_line number line)
refusal_written out out₁ out₂ out₃ out₄ out₅ number line to₁ to₂ to₃ to₄ to₅ hn hl a b c d e =
    let ln = decimal_length number hn in
    let ll = decimal_length line hl in
    let three = then_appended _ _ _ _ _ _ _ _ (then_appended _ _ _ _ _ _ _ _ a b) c in
    let p = then_appended _ _ _ _ _ _ _ _ (then_appended _ _ _ _ _ _ _ _ three d) e in
    (omega (arith, a.count, b.count, c.count, d.count, e.count), p.front ∙ refusal_pieces number line)

pub fits : (n : ℕ) (out : List ℕ) → n ≤ length out → Fits n out
fits n out h = (h, sym (length-take-le n out h))
