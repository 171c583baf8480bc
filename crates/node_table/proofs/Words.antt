-- Laws of words: one for each way through a turn of the loop over bytes, and that bytes which are the same but for the case of letters have
-- the same word.
use Prim.Native.Nat.{ℕ, zero, suc, ◌+◌, ◌-◌, ◌*◌, ◌%◌, ◌≤◌, ◌<◌}
use native.Mathlib.Omega.{arith}
use mathlib.Core.Path.{◌≡◌, refl, sym, ap, ◌∙◌}
use mathlib.Core.Bool.{Bool, true, false, cond, ◌&&◌}
use mathlib.Core.List.{List, [], ◌∷◌}
use lib.Dec.{leb}
use lib.ListN.{length, take, drop, get_or, length-drop}
use lib.Seq.{drop-cons, length-take-le}
use borrow.Author.Tests.{leb-true}
use Rattle.terms.proofs.Lists.{length_map}
use Rattle.sheet_format.specs.Bytes.{is_capital, folded, folded_name, same_name}
use Rattle.sheet_format.proofs.Bytes.{same_equal}
use Rattle.node_table.specs.Layout.{name_start, name_length}
use Rattle.node_table.specs.Fingerprints.{with_byte, fingerprint_from, word_at, NameStands}
use Rattle.node_table.proofs.Same.{Same, same_start, same_word_lem, same_length}

-- the loop

pub fingerprint_on : (s : List ℕ) (i e h b g : ℕ) → i < e → b ≡ get_or s i 0 → g ≡ with_byte h b
    → fingerprint_from (e - i) s i h ≡ fingerprint_from (e - (i + 1)) s (i + 1) g
unfolding fingerprint_from
fingerprint_on s i e h b g l p q = let d : e - i ≡ suc (e - (i + 1)) = omega arith in rw d (ap (fingerprint_from (e - (i + 1)) s (i + 1)) (ap (with_byte h) (sym p) ∙ sym q))

pub fingerprint_end : (s : List ℕ) (i e h : ℕ) → e ≤ i → fingerprint_from (e - i) s i h ≡ h
unfolding fingerprint_from
fingerprint_end s i e h l = let d : e - i ≡ 0 = omega arith in rw d

-- names that are the same

-- A byte of a folded list is the folded byte of the list.
pub byte_folded : (s : List ℕ) (i : ℕ) → get_or (folded_name s) i 0 ≡ folded (get_or s i 0)
unfolding folded is_capital
byte_folded [] i = refl
byte_folded (c ∷ cs) zero = refl
byte_folded (c ∷ cs) (suc i) = byte_folded cs i

-- A letter and its capital have the same remainder by 32, so that a fingerprint does not tell them apart.
folded_remainder : (c : ℕ) → folded c % 32 ≡ c % 32
unfolding folded is_capital
folded_remainder c = go (leb 65 c) (leb c 90) refl
  where
    go : (x y : Bool) → leb 65 c ≡ x → cond (x && y) (c - 65 + 97) c % 32 ≡ c % 32
    go true true e = let l = leb-true 65 c e in omega arith
    go true false e = refl
    go false y e = refl

pub with_folded : (h b : ℕ) → with_byte h (folded b) ≡ with_byte h b
unfolding with_byte
with_folded h b = ap (λ (r : ℕ). (31 * h + r) % 134217728) (folded_remainder b)

-- The word of a name as a list of bytes.
unfoldable pub fingerprint_of : ℕ → List ℕ → ℕ
fingerprint_of h [] = h
fingerprint_of h (b ∷ l) = fingerprint_of (with_byte h b) l

unfoldable pub word_of : List ℕ → ℕ
word_of l = length l % 32 + 32 * fingerprint_of 0 l

fingerprint_list : (n : ℕ) (s : List ℕ) (i h : ℕ) → i + n ≤ length s → fingerprint_from n s i h ≡ fingerprint_of h (take n (drop i s))
unfolding fingerprint_from fingerprint_of
fingerprint_list zero s i h l = refl
fingerprint_list (suc n) s i h l =
    let e : i + 1 ≡ suc i = omega arith in
    rw (drop-cons s i 0 (omega arith), e) (fingerprint_list n s (suc i) (with_byte h (get_or s i 0)) (omega arith))

-- The word of the name of n bytes that stands in s at i is that of these bytes.
pub word_list : (s : List ℕ) (i n : ℕ) → i + n ≤ length s → word_at s i n ≡ word_of (take n (drop i s))
unfolding word_at word_of
word_list s i n l =
    rw (fingerprint_list n s i 0 l, length-take-le n (drop i s) (simp length-drop (omega arith)))

fingerprint_folded : (h : ℕ) (l : List ℕ) → fingerprint_of h (folded_name l) ≡ fingerprint_of h l
unfolding fingerprint_of
fingerprint_folded h [] = refl
fingerprint_folded h (b ∷ l) = fingerprint_folded (with_byte h (folded b)) l ∙ ap (λ (g : ℕ). fingerprint_of g l) (with_folded h b)

-- Folding the letters of a name leaves its word.
word_folded : (l : List ℕ) → word_of (folded_name l) ≡ word_of l
unfolding word_of
word_folded l = rw (fingerprint_folded 0 l, length_map folded l)

-- Names that are the same whatever the case of their letters have the same word.
pub same_name_word : (m n : List ℕ) → same_name m n ≡ true → word_of m ≡ word_of n
unfolding same_name
same_name_word m n e = sym (word_folded m) ∙ ap word_of (same_equal (folded_name m) (folded_name n) e) ∙ word_folded n

fingerprint_bytes : (n : ℕ) (s : List ℕ) (i h : ℕ) → fingerprint_from n (folded_name s) i h ≡ fingerprint_from n s i h
unfolding fingerprint_from
fingerprint_bytes zero s i h = refl
fingerprint_bytes (suc n) s i h =
    fingerprint_bytes n s (i + 1) (with_byte h (get_or (folded_name s) i 0))
    ∙ ap (fingerprint_from n s (i + 1)) (ap (with_byte h) (byte_folded s i) ∙ with_folded h (get_or s i 0))

-- Folding all bytes leaves the words of the names that stand in them.
pub bytes_word : (s : List ℕ) (i n : ℕ) → word_at (folded_name s) i n ≡ word_at s i n
unfolding word_at
bytes_word s i n = rw (fingerprint_bytes n s i 0)

-- The word of a name has its length.
pub word_length : (s : List ℕ) (i n : ℕ) → n < 32 → word_at s i n % 32 ≡ n
unfolding word_at
word_length s i n l = omega arith

-- Where the symbols are the same, the name of one stands in both tables.
pub name_same : (t u : List ℕ) (symbols nodes : ℕ) → Same t u symbols nodes → (bytes : List ℕ) (i : ℕ) → i < symbols
    → NameStands bytes t i → NameStands bytes u i
name_same t u symbols nodes s bytes i l e =
    let a = same_start t u symbols nodes s i l in
    let b = same_length t u symbols nodes s i l in
    let w = e.within in
    record { within = omega arith; word = rw (same_word_lem t u symbols nodes s i l, a, b) e.word }

-- The name of a symbol stands in the folded bytes, too.
pub name_folded : (bytes t : List ℕ) (i : ℕ) → NameStands bytes t i → NameStands (folded_name bytes) t i
name_folded bytes t i e =
    let w = e.within in
    let l = length_map folded bytes in
    record { within = omega arith; word = e.word ∙ sym (bytes_word bytes (name_start t i) (name_length t i)) }
