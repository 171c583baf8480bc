-- Parts of lent buffers: long enough, and zero at the end.
use Prim.Native.Nat.{ℕ, ◌≤◌}
use native.Mathlib.Omega.{arith}
use mathlib.Core.Path.{◌≡◌, ◌∙◌}
use mathlib.Core.List.{List, ◌++◌, append-nil}
use lib.ListN.{length, take, drop, replicate, drop_of_length-le}
use lib.Seq.{length-take-le}

-- A part that is set to zero over its whole length.
pub zeros_all : (l₀ l l' : List ℕ) → length l ≡ length l₀ → l' ≡ replicate (length l) 0 ++ drop (length l) l → l' ≡ replicate (length l₀) 0
zeros_all l₀ l l' h e =
    let z : length l ≤ length l = omega arith in
    e ∙ rw (drop_of_length-le l z, append-nil, h)

-- A part that is lent whole.
pub part_fits : (n : ℕ) (l : List ℕ) → n ≤ length l → n ≤ length (take n l)
part_fits n l h = rw (length-take-le n l h) (omega arith)
