-- Bytes into the answer buffer. A position stops one past the limit, and past the limit nothing is written: so one pass over an
-- empty buffer counts, and a second one writes.
use Rattle.std.specs.Prelude.{ℕ, zero, suc, ◌+◌, ◌/◌, ◌%◌, true, false, cond, List, [], ◌∷◌, ltb, length, get_or, set}
use Prim.Native.Char.{code}
use Rattle.machine.specs.Words.{increment}

-- The buffer, and the next position.
pub record Written : Type 0 where
  pub buffer : List ℕ
  pub at : ℕ

-- A buffer and a position make a record.
abbrev pub written : List ℕ → ℕ → Written
written out at = record { buffer = out; at = at }

-- One byte.
unfoldable pub emit : List ℕ → ℕ → ℕ → ℕ → Written
emit out limit at b = cond (ltb limit at) (written out at) (written (set out at b) (increment at))

-- Some bytes.
unfoldable pub write_bytes : List ℕ → List ℕ → ℕ → ℕ → Written
write_bytes [] out limit at = written out at
write_bytes (b ∷ bs) out limit at =
    let s = emit out limit at b in
    write_bytes bs s.buffer limit s.at

-- Writes n bytes of the sheet from i on, as far as there are so many.
unfoldable pub copy_bytes : ℕ → List ℕ → ℕ → List ℕ → ℕ → ℕ → Written
copy_bytes zero sheet i out limit at = written out at
copy_bytes (suc n) sheet i out limit at =
    elim (ltb i (length sheet)) [
      | true ↦
          let s = emit out limit at (get_or sheet i 0) in
          copy_bytes n sheet (suc i) s.buffer limit s.at
      | false ↦ written out at
    ]

-- A number in base ten, of at most f digits.
unfoldable pub write_digits : ℕ → List ℕ → ℕ → ℕ → ℕ → Written
write_digits zero out limit at n = written out at
write_digits (suc f) out limit at n =
    elim (ltb n 10) [
      | true ↦ emit out limit at (code "0" + n)
      | false ↦
          let s = write_digits f out limit at (n / 10) in
          emit s.buffer limit s.at (code "0" + n % 10)
    ]

-- A number in base ten.
unfoldable pub write_number : List ℕ → ℕ → ℕ → ℕ → Written
write_number out limit at n = write_digits (suc n) out limit at n

-- "a leftover variable as `_number@level`, a made constant as `!number@level`": c is the first byte.
unfoldable pub write_symbol : List ℕ → ℕ → ℕ → ℕ → ℕ → ℕ → Written
write_symbol out limit at c number level =
    let s = emit out limit at c in
    let n = write_number s.buffer limit s.at number in
    let a = emit n.buffer limit n.at (code "@") in
    write_number a.buffer limit a.at level
