-- The levels of numbers at their first showings, kept in an array so that a number which shows again is not looked for in the text:
-- those of the made constants from the front of the array on, those of the leftover variables from its back. An entry is one more than a
-- level, or 0 where none is kept.
use Rattle.std.specs.Prelude.{ℕ, ◌+◌, ◌-◌, ◌<◌, ◌≡◌, true, cond, List, eqb, ltb, length, get_or, set}
use Prim.Native.Char.{code}
use Rattle.scanning.specs.Numbering.{SymbolCounts}
use Rattle.std.specs.Prelude.{Some, None}
use Rattle.scanning.specs.Numbering.{number_at, level_at, is_showing, first_level}

-- Where the level of made constant n is kept, of so many entries, l leftover variables having shown: past the end if it could be an
-- entry of theirs.
unfoldable pub made_entry : ℕ → ℕ → ℕ → ℕ
made_entry size n l = cond (ltb (n + l) size) n size

-- Where the level of leftover variable n is kept, m made constants having shown.
unfoldable pub leftover_entry : ℕ → ℕ → ℕ → ℕ
leftover_entry size n m = cond (ltb (n + m) size) (size - (n + 1)) size

-- The first level that is not kept: one more is no number of 16 bits.
abbrev pub not_cached : ℕ
not_cached = 65535

-- Level k is kept in entry a.
unfoldable pub cache_level : List ℕ → ℕ → ℕ → List ℕ
cache_level v a k = cond (ltb k not_cached) (set v a (k + 1)) v

-- The array after the symbol at position i, with entry a, k of its kind having shown: the level of a new number is kept.
unfoldable pub cache_showing : List ℕ → List ℕ → ℕ → ℕ → ℕ → List ℕ
cache_showing x v a i k = cond (eqb (number_at x (i + 1)) k) (cache_level v a (level_at x i)) v

-- The entry e is 0, or one more than level k.
abbrev pub Cached : ℕ → ℕ → Type 0
Cached e k = 0 < e → e ≡ k + 1

-- Every symbol with first byte c that begins before position i has a number below k.
abbrev pub ShownBelow : List ℕ → ℕ → ℕ → ℕ → Type 0
ShownBelow x c k i = (j n : ℕ) → j < i → is_showing x c n j ≡ true → n < k

-- The array v before position i of the text x, m made constants and l leftover variables having shown. The numbers from m and l on
-- have not shown before, so the next symbol with such a number is its first showing.
pub record CacheValid (x v : List ℕ) (i m l : ℕ) : Type 0 where
  pub made_below : ShownBelow x (code "!") m i
  pub leftover_below : ShownBelow x (code "_") l i
  pub made_levels : (n : ℕ) → Cached (get_or v (made_entry (length v) n l) 0) (first_level x (code "!") n)
  pub leftover_levels : (n : ℕ) → Cached (get_or v (leftover_entry (length v) n m) 0) (first_level x (code "_") n)

-- The same with the counts that were found, if the numbering is right.
abbrev pub ValidAfter : List ℕ → List ℕ → ℕ → SymbolCounts → Type 0
ValidAfter x v i (Some (m, l)) = CacheValid x v i m l
ValidAfter x v i None = Unit {0}
