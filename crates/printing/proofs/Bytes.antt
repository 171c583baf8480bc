-- Bytes: whatever is written, written piece by piece, is one list of bytes; where it ends, and what the buffer holds then.
use Prim.Native.Nat.{ℕ, zero, suc, ◌+◌, ◌/◌, ◌%◌, ◌≤◌, ◌<◌, min}
use Prim.Native.Char.{code}
use native.Mathlib.Omega.{arith}
use mathlib.Core.Path.{◌≡◌, refl, sym, ap, ◌∙◌}
use mathlib.Core.Bool.{Bool, true, false, cond}
use mathlib.Core.List.{List, [], ◌∷◌, ◌++◌, append_assoc}
use lib.Dec.{ltb}
use lib.ListN.{length, get_or, set, take, drop, length-append, length-set, drop_of_length-le}
use lib.Seq.{drop-cons, set_at}
use borrow.Author.Tests.{lt-ltb, le-ltb, ltb-true, ltb-false}
use Rattle.machine.specs.Words.{increment}
use Rattle.machine.proofs.Words.{increment_small}
use Rattle.sheet_format.specs.Bytes.{digits, decimal}
use Rattle.printing.specs.Output.{Written, written, emit, write_bytes, copy_bytes, write_digits, write_number, write_symbol}

-- One byte, past the limit and within it.
pub emit_over : (out : List ℕ) (limit at b : ℕ) → limit < at → emit out limit at b ≡ written out at
unfolding emit
emit_over out limit at b h = rw (lt-ltb limit at h)

-- Within the limit one byte is written, and the position moves on by one.
pub emit_within : (out : List ℕ) (limit at b : ℕ) → limit ≤ 65535 → at ≤ limit → emit out limit at b ≡ written (set out at b) (suc at)
unfolding emit
emit_within out limit at b l h = rw (le-ltb limit at h, increment_small at (omega arith))

-- Past the limit nothing is written.
pub bytes_over : (s out : List ℕ) (limit at : ℕ) → limit < at → write_bytes s out limit at ≡ written out at
unfolding write_bytes
bytes_over [] out limit at h = refl
bytes_over (b ∷ s) out limit at h = rw (emit_over out limit at b h) (bytes_over s out limit at h)

-- One list, then another.
pub bytes_append : (x y out : List ℕ) (limit at : ℕ)
    → write_bytes (x ++ y) out limit at ≡ write_bytes y (write_bytes x out limit at).buffer limit (write_bytes x out limit at).at
unfolding write_bytes
bytes_append [] y out limit at = refl
bytes_append (b ∷ x) y out limit at = bytes_append x y (emit out limit at b).buffer limit (emit out limit at b).at

-- Writing the digits of a number, and then ds, is writing them as one list of bytes.
digits_bytes : (f n : ℕ) (ds out : List ℕ) (limit at : ℕ)
    → write_bytes (digits f n ds) out limit at ≡ write_bytes ds (write_digits f out limit at n).buffer limit
    (write_digits f out limit at n).at
unfolding digits write_digits write_bytes
digits_bytes zero n ds out limit at = refl
digits_bytes (suc f) n ds out limit at = go (ltb n 10) (digits_bytes f (n / 10) ((48 + n % 10) ∷ ds) out limit at)
  where
    low : Written
    low = write_digits f out limit at (n / 10)

    go : (b : Bool) → write_bytes (digits f (n / 10) ((48 + n % 10) ∷ ds)) out limit at ≡ write_bytes ((48 + n % 10) ∷ ds)
        low.buffer limit low.at
        → let r : Written = elim b [ true ↦ emit out limit at (48 + n) | false ↦ emit low.buffer limit low.at (48 + n % 10) ] in
        write_bytes (elim b [ true ↦ (48 + n) ∷ ds | false ↦ digits f (n / 10) ((48 + n % 10) ∷ ds) ]) out limit at ≡ write_bytes ds
        r.buffer limit r.at
    go true h = refl
    go false h = h

-- Writing a number is writing its decimal digits.
pub number_bytes : (n : ℕ) (out : List ℕ) (limit at : ℕ) → write_number out limit at n ≡ write_bytes (decimal n) out limit at
unfolding write_number decimal write_bytes
number_bytes n out limit at = sym (digits_bytes (suc n) n [] out limit at)

-- Copying a name is writing a part of the sheet.
pub copied_bytes : (n : ℕ) (sheet : List ℕ) (i : ℕ) (out : List ℕ) (limit at : ℕ)
    → copy_bytes n sheet i out limit at ≡ write_bytes (take n (drop i sheet)) out limit at
unfolding copy_bytes write_bytes
copied_bytes zero sheet i out limit at = refl
copied_bytes (suc n) sheet i out limit at = go (ltb i (length sheet)) refl (λ s. copied_bytes n sheet (suc i) s.buffer limit s.at)
  where
    go : (b : Bool) → ltb i (length sheet) ≡ b
        → ((s : Written) → copy_bytes n sheet (suc i) s.buffer limit s.at ≡ write_bytes (take n (drop (suc i) sheet))
        s.buffer limit s.at)
        → elim b as (λ b. Written) [
          | true ↦ copy_bytes n sheet (suc i) (emit out limit at (get_or sheet i 0)).buffer limit (emit out limit at (get_or sheet i 0)).at
          | false ↦ written out at
        ] ≡ write_bytes (take (suc n) (drop i sheet)) out limit at
    go true e h = rw (drop-cons sheet i 0 (ltb-true i (length sheet) e)) (h (emit out limit at (get_or sheet i 0)))
    go false e h = rw (drop_of_length-le sheet {i = i} (ltb-false i (length sheet) e))

-- Writing a symbol is writing its sign, its number and its level.
pub symbol_bytes : (out : List ℕ) (limit at c number level : ℕ)
    → write_symbol out limit at c number level ≡ write_bytes (c ∷ (decimal number ++ (code "@" ∷ decimal level))) out limit at
unfolding write_symbol write_bytes
symbol_bytes out limit at c number level =
    let s = emit out limit at c in
    let n = write_number s.buffer limit s.at number in
    let a = emit n.buffer limit n.at (code "@") in
    number_bytes level a.buffer limit a.at
    ∙ ap (λ (r : Written). write_bytes (code "@" ∷ decimal level) r.buffer limit r.at) (number_bytes number s.buffer limit s.at)
    ∙ sym (bytes_append (decimal number) (code "@" ∷ decimal level) s.buffer limit s.at)

-- Where it ends: at most one past the limit.
pub bytes_end : (s out : List ℕ) (limit at : ℕ) → limit ≤ 65535 → at ≤ suc limit
    → (write_bytes s out limit at).at ≡ min (at + length s) (suc limit)
unfolding write_bytes
bytes_end [] out limit at l h = omega arith
bytes_end (b ∷ s) out limit at l h = go (ltb limit at) refl (bytes_end s (set out at b) limit (suc at) l)
  where
    go : (c : Bool) → ltb limit at ≡ c
        → (suc at ≤ suc limit → (write_bytes s (set out at b) limit (suc at)).at ≡ min (suc at + length s) (suc limit))
        → (write_bytes (b ∷ s) out limit at).at ≡ min (at + suc (length s)) (suc limit)
    go true e f = let q = ltb-true limit at e in rw (bytes_over (b ∷ s) out limit at q) (omega arith)
    go false e f = let q = ltb-false limit at e in rw (write_bytes, emit_within out limit at b l q) (let r = f (omega arith) in omega arith)

-- Positions never fall.
pub bytes_grow : (s out : List ℕ) (limit at : ℕ) → limit ≤ 65535 → at ≤ (write_bytes s out limit at).at
unfolding write_bytes
bytes_grow [] out limit at l = omega arith
bytes_grow (b ∷ s) out limit at l = go (ltb limit at) refl (bytes_grow s (set out at b) limit (suc at) l)
  where
    go : (c : Bool) → ltb limit at ≡ c → suc at ≤ (write_bytes s (set out at b) limit (suc at)).at → at ≤ (write_bytes (b ∷ s) out limit at).at
    go true e f = rw (bytes_over (b ∷ s) out limit at (ltb-true limit at e)) (omega arith)
    go false e f = rw (write_bytes, emit_within out limit at b l (ltb-false limit at e)) (omega arith)

-- One byte leaves the buffer as long as it was.
pub emit_long : (out : List ℕ) (limit at b : ℕ) → length (emit out limit at b).buffer ≡ length out
unfolding emit
emit_long out limit at b = go (ltb limit at)
  where
    go : (c : Bool) → length (cond c (written out at) (written (set out at b) (increment at))).buffer ≡ length out
    go true = refl
    go false = length-set out at b

-- So do any bytes.
pub bytes_long : (s out : List ℕ) (limit at : ℕ) → length (write_bytes s out limit at).buffer ≡ length out
unfolding write_bytes
bytes_long [] out limit at = refl
bytes_long (b ∷ s) out limit at = bytes_long s (emit out limit at b).buffer limit (emit out limit at b).at ∙ emit_long out limit at b

-- A buffer in which the bytes fit holds them.
pub bytes_fit : (s before rest : List ℕ) (limit at : ℕ) → limit ≤ 65535 → at ≡ length before → at + length s ≤ limit
    → length s ≤ length rest
    → write_bytes s (before ++ rest) limit at ≡ written (before ++ (s ++ drop (length s) rest)) (at + length s)
unfolding write_bytes
bytes_fit [] before rest limit at l e h k = ap (written (before ++ rest)) (let z : at ≡ at + 0 = omega arith in z)
bytes_fit (b ∷ s) before [] limit at l e h k = absurd (omega arith)
bytes_fit (b ∷ s) before (c ∷ rest) limit at l e h k =
    let a = length-append before (b ∷ []) in
    let r = bytes_fit s (before ++ (b ∷ [])) rest limit (suc at) l (omega arith) (omega arith) (omega arith) in
    rw (emit_within (before ++ (c ∷ rest)) limit at b l (omega arith), set_at before c rest b at (sym e))
    ((rw (append_assoc before (b ∷ []) rest, append_assoc before (b ∷ []) (s ++ drop (length s) rest)) at r)
    ∙ ap (written (before ++ (b ∷ (s ++ drop (length s) rest)))) (let z : suc at + length s ≡ at + suc (length s) = omega arith in z))
