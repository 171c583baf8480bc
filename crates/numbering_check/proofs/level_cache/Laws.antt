-- One law for each way through a call; the hypotheses are the facts on the code's path.
use Prim.Native.Nat.{ℕ, ◌+◌, ◌-◌, ◌<◌, ◌≤◌}
use mathlib.Core.Path.{◌≡◌}
use mathlib.Core.List.{List}
use lib.ListN.{set}
use borrow.Author.Tests.{lt-ltb, le-ltb}
use Rattle.numbering_check.specs.LevelCache.{made_entry, leftover_entry, cache_level}

pub made_kept : (size n l a b : ℕ) → a ≡ n → b ≡ l → a + b < size → n ≡ made_entry size n l
unfolding made_entry
made_kept size n l a b p q h = rw (← p, ← q, lt-ltb (a + b) size h)

pub made_past : (size n l a b : ℕ) → a ≡ n → b ≡ l → size ≤ a + b → size ≡ made_entry size n l
unfolding made_entry
made_past size n l a b p q h = rw (← p, ← q, le-ltb (a + b) size h)

pub leftover_kept : (size n m a b : ℕ) → a ≡ n → b ≡ m → a + b < size → size - (n + 1) ≡ leftover_entry size n m
unfolding leftover_entry
leftover_kept size n m a b p q h = rw (← p, ← q, lt-ltb (a + b) size h)

pub leftover_past : (size n m a b : ℕ) → a ≡ n → b ≡ m → size ≤ a + b → size ≡ leftover_entry size n m
unfolding leftover_entry
leftover_past size n m a b p q h = rw (← p, ← q, le-ltb (a + b) size h)

pub level_fits : (v : List ℕ) (a k : ℕ) → k < 65535 → set v a (k + 1) ≡ cache_level v a k
unfolding cache_level
level_fits v a k h = rw (lt-ltb k 65535 h)

pub level_large : (v : List ℕ) (a k : ℕ) → 65535 ≤ k → v ≡ cache_level v a k
unfolding cache_level
level_large v a k h = rw (le-ltb k 65535 h)
