-- The delimiters that are still to come in a term, nearest first: after an argument there is a comma if another argument follows, or
-- else the closing bracket. They are a stack with a bit for each.
use Rattle.std.specs.Prelude.{ℕ, zero, suc, ◌+◌, ◌*◌, ◌/◌, ◌%◌, ◌<◌, ◌≤◌, List, [], ◌∷◌, length, get_or}
use Rattle.term_scanner.specs.declared.delimiters.DelimiterStack.{DelimiterStack}

-- The bit of a closing bracket.
abbrev pub bracket_bit : ℕ
bracket_bit = 0

-- The bit of a comma.
abbrev pub comma_bit : ℕ
comma_bit = 1

-- How many bits a word has.
abbrev pub word_bits : ℕ
word_bits = 64

-- The n lowest bits of v, the lowest first, in front of l.
unfoldable pub bits_before : ℕ → ℕ → List ℕ → List ℕ
bits_before zero v l = l
bits_before (suc n) v l = (v % 2) ∷ bits_before n (v / 2) l

-- The bits of the first u words, the last word first.
unfoldable pub bits_of_words : ℕ → List ℕ → List ℕ
bits_of_words zero w = []
bits_of_words (suc u) w = bits_before word_bits (get_or w u 0) (bits_of_words u w)

-- The delimiters on a stack: those of its top, then those of the whole words.
unfoldable pub delimiters : List ℕ → DelimiterStack → List ℕ
delimiters w s = bits_before s.count s.top (bits_of_words s.words w)

-- A power of 2.
unfoldable pub power_of2 : ℕ → ℕ
power_of2 zero = 1
power_of2 (suc n) = 2 * power_of2 n

-- The top is a number of so many bits, and the whole words are in the lent memory.
pub record Fits (w : List ℕ) (s : DelimiterStack) : Type 0 where
  pub counted : s.count ≤ word_bits
  pub bounded : s.top < power_of2 s.count
  pub within : s.words ≤ length w

-- How many delimiters there is room for.
unfoldable pub capacity : List ℕ → ℕ
capacity w = word_bits * length w + word_bits

-- The delimiter b on top of l, then commas on top of it, n delimiters in all.
unfoldable pub pushed : ℕ → ℕ → List ℕ → List ℕ
pushed zero b l = l
pushed (suc n) b l = pushed n comma_bit (b ∷ l)
