-- Bytes written after others.
use Rattle.std.specs.Prelude.{ℕ, ◌+◌, ◌≤◌, ◌≡◌, List, ◌++◌, length, take}

-- The first `at` bytes of a buffer stay, the given bytes follow them, and `to` counts both.
pub record Appends (before : List ℕ) (at : ℕ) (bytes after : List ℕ) (to : ℕ) : Type 0 where
  pub count : to ≡ at + length bytes
  pub front : take to after ≡ take at before ++ bytes

-- So many bytes stand at the front of a buffer. The second part follows from the first; with both, a part of the buffer is lent with no
-- proof.
abbrev pub Fits : ℕ → List ℕ → Type 0
Fits n out = (n ≤ length out) × (n ≡ length (take n out))
