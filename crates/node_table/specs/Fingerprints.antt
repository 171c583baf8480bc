-- The word of a name: its length and a fingerprint of its bytes in one number, which the table keeps for each symbol. Names that are the same
-- whatever the case of their letters (request W-201) have the same word; two others nearly always have two, so that most comparisons of names
-- are one of numbers.
use Rattle.std.specs.Prelude.{ℕ, zero, suc, ◌+◌, ◌*◌, ◌%◌, ◌≤◌, ◌<◌, ◌≡◌, List, length, get_or}
use Rattle.node_table.specs.Layout.{name_start, name_word, name_length, fingerprint_unit}

-- Fingerprints have 27 bits, so that a word has 32.
abbrev pub fingerprint_limit : ℕ
fingerprint_limit = 134217728

-- The fingerprint of bytes with the fingerprint h and one byte more. A capital and its small letter are 32 apart.
unfoldable pub with_byte : ℕ → ℕ → ℕ
with_byte h b = (31 * h + b % 32) % fingerprint_limit

-- That of bytes with the fingerprint h and of the n bytes of s from i on.
unfoldable pub fingerprint_from : ℕ → List ℕ → ℕ → ℕ → ℕ
fingerprint_from zero s i h = h
fingerprint_from (suc n) s i h = fingerprint_from n s (i + 1) (with_byte h (get_or s i 0))

-- The word of the name of n bytes that stands in s at i. No name is longer than 16 bytes.
unfoldable pub word_at : List ℕ → ℕ → ℕ → ℕ
word_at s i n = n % fingerprint_unit + fingerprint_unit * fingerprint_from n s i 0

-- The name of symbol i lies within the sheet's bytes, and the table has its word.
pub record NameStands (bytes t : List ℕ) (i : ℕ) : Type 0 where
  pub within : name_start t i + name_length t i ≤ length bytes
  pub word : name_word t i ≡ word_at bytes (name_start t i) (name_length t i)

-- So it is of all symbols.
abbrev pub NamesStand : List ℕ → List ℕ → ℕ → Type 0
NamesStand bytes t symbols = (i : ℕ) → i < symbols → NameStands bytes t i
