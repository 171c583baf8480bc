-- One law for each way through a turn of a loop or through a call; the hypotheses are the facts on the code's path.
use Prim.Native.Nat.{ℕ, zero, suc, ◌+◌, ◌-◌, ◌/◌, ◌%◌, ◌≤◌, ◌<◌, min}
use native.Mathlib.Numerals.{add-one, sub-one}
use native.Mathlib.Omega.{arith}
use mathlib.Core.Path.{◌≡◌, ◌∙◌, refl, sym, ap}
use mathlib.Core.List.{List}
use borrow.Author.Tests.{lt-ltb, le-ltb}
use lib.ListN.{length, get_or, set, take, drop, drop_of_length-le, length-drop}
use lib.Seq.{drop-cons, take-length}
use Rattle.std.proofs.lemmas.List.{drop_min, take_min}
use Rattle.machine.specs.Words.{increment}
use Rattle.printing.proofs.Bytes.{copied_bytes}
use Rattle.printing.specs.Output.{Written, written, emit, write_bytes, copy_bytes, write_digits, write_number, write_symbol}

-- Bytes.
pub emit_past : (out : List ℕ) (limit at b : ℕ) → limit < at → written out at ≡ emit out limit at b
unfolding emit
emit_past out limit at b h = simp (emit, lt-ltb _ _ h)

pub emitted : (out out' : List ℕ) (limit at b i r : ℕ) → at ≤ limit → i ≡ at → out' ≡ set out i b → r ≡ increment at
    → written out' r ≡ emit out limit at b
unfolding emit
emitted out out' limit at b i r h ei eo er = rw (er, eo, ei) (simp (emit, le-ltb _ _ h))

module _ (bs out : List ℕ) (limit to i : ℕ) where
  pub bytes_end : length bs ≤ i → write_bytes (drop i bs) out limit to ≡ written out to
  unfolding write_bytes
  bytes_end h = rw (drop_of_length-le bs h)

  pub bytes_on : (out' : List ℕ) (to' : ℕ) → i < length bs → written out' to' ≡ emit out limit to (get_or bs i 0)
      → write_bytes (drop i bs) out limit to ≡ write_bytes (drop (i + 1) bs) out' limit to'
  unfolding write_bytes
  bytes_on out' to' h e = rw (drop-cons bs i 0 h, add-one i) (simp (write_bytes, ← e))

-- The bytes from i on, of which there may be none.
rest_from : (sheet : List ℕ) (i m : ℕ) → m ≡ min i (length sheet) → take (length sheet - m) (drop m sheet) ≡ drop i sheet
rest_from sheet i m em =
    let e : drop m sheet ≡ drop i sheet = ap (λ (k : ℕ). drop k sheet) em ∙ drop_min i sheet in
    ap (λ (k : ℕ). take k (drop m sheet)) (sym (length-drop m sheet)) ∙ take-length (drop m sheet) ∙ e

-- Copying n bytes from i on is writing the part of the sheet that they are.
pub copied : (sheet : List ℕ) (i n m v k : ℕ) (out : List ℕ) (limit at : ℕ) (s : Written) → m ≡ min i (length sheet) → v ≡ n
    → k ≡ min v (length (take (length sheet - m) (drop m sheet)))
    → s ≡ write_bytes (take k (take (length sheet - m) (drop m sheet))) out limit at → s ≡ copy_bytes n sheet i out limit at
copied sheet i n m v k out limit at s em ev ek es =
    let r = rest_from sheet i m em in
    let f : k ≡ min n (length (drop i sheet)) = rw (r, ev) at ek in
    let g : take k (drop i sheet) ≡ take n (drop i sheet) = ap (λ (j : ℕ). take j (drop i sheet)) f ∙ take_min n (drop i sheet) in
    es ∙ ap (λ (l : List ℕ). write_bytes (take k l) out limit at) r ∙ ap (λ (l : List ℕ). write_bytes l out limit at) g
    ∙ sym (copied_bytes n sheet i out limit at)

module _ (out : List ℕ) (limit at n : ℕ) where
  pub digits_none : (f : ℕ) → f ≡ 0 → written out at ≡ write_digits f out limit at n
  unfolding write_digits
  digits_none zero e = refl
  digits_none (suc f) e = absurd (omega arith)

  pub digits_last : (f b : ℕ) (s : Written) → (f ≡ 0 → ⊥) → n < 10 → b ≡ 48 + n → s ≡ emit out limit at b → s ≡ write_digits f out limit at n
  unfolding write_digits
  digits_last zero b s p h eb es = absurd (p refl)
  digits_last (suc f) b s p h eb es = rw (es, eb) (simp (write_digits, lt-ltb _ _ h))

  pub digits_on : (f to b : ℕ) (out' : List ℕ) (s : Written) → (f ≡ 0 → ⊥) → 10 ≤ n
      → written out' to ≡ write_digits (f - 1) out limit at (n / 10) → b ≡ 48 + n % 10 → s ≡ emit out' limit to b
      → s ≡ write_digits f out limit at n
  unfolding write_digits
  digits_on zero to b out' s p h e eb es = absurd (p refl)
  digits_on (suc f) to b out' s p h e eb es =
      let e' : written out' to ≡ write_digits f out limit at (n / 10) = rw (sub-one (suc f)) at e in
      rw (es, eb) (simp (write_digits, le-ltb _ _ h, ← e'))

  pub number_of : (k : ℕ) (s : Written) → k ≡ n → s ≡ write_digits (k + 1) out limit at n → s ≡ write_number out limit at n
  unfolding write_number
  number_of k s ek es = rw (es, ek, add-one n)

module _ (out : List ℕ) (limit at c number level : ℕ) where
  pub symbol_of : (o₁ o₂ o₃ : List ℕ) (a₁ a₂ a₃ : ℕ) (s : Written) → written o₁ a₁ ≡ emit out limit at c
      → written o₂ a₂ ≡ write_number o₁ limit a₁ number → written o₃ a₃ ≡ emit o₂ limit a₂ 64 → s ≡ write_number o₃ limit a₃ level
      → s ≡ write_symbol out limit at c number level
  unfolding write_symbol
  symbol_of o₁ o₂ o₃ a₁ a₂ a₃ s e₁ e₂ e₃ es = rw es (simp (write_symbol, ← e₁, ← e₂, ← e₃))
