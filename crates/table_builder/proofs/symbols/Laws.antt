-- Laws of specs/Symbols.antt for the code's proofs: writes in a row, and one law for each way through a turn of a loop.
use Prim.Native.Nat.{ℕ, suc, ◌+◌, ◌-◌, ◌*◌, ◌≤◌, ◌<◌}
use native.Mathlib.Numerals.{add-one}
use native.Mathlib.Nat.{add_assoc}
use native.Mathlib.Omega.{arith}
use mathlib.Core.Bool.{Bool, true, false, cond}
use mathlib.Core.Path.{◌≡◌, sym, ap, ◌∙◌}
use mathlib.Core.List.{List, [], ◌∷◌}
use lib.Dec.{eqb}
use lib.ListN.{length, take, drop, get_or, set, drop_of_length-le}
use lib.Seq.{drop-cons, length-take-le}
use mir.Val.{bool_byte}
use borrow.Author.Tests.{lt-leb}
use Rattle.std.specs.Prelude.{Ok, Err}
use Rattle.outcomes.specs.declared.refusals.Reason.TheVariants.{Unknown}
use Rattle.sheet_format.specs.Bytes.{folded}
use Rattle.node_table.specs.Layout.{symbol_at}
use Rattle.node_table.specs.Fingerprints.{word_at}
use Rattle.table_builder.specs.declared.node_info.Counts.{Counts}
use Rattle.table_builder.specs.Nodes.{made, counts}
use Rattle.table_builder.specs.Symbols.{symbol_written, first_of, same_at, name_is, find_from, find_name, symbol_word, insert_declaration}

-- symbols

pub word_is : (function : Bool) (arity n : ℕ) → n ≡ bool_byte function → 2 * arity + n ≡ symbol_word function arity
unfolding symbol_word
word_is true arity n e = ap (λ (x : ℕ). 2 * arity + x) e
word_is false arity n e = let z : n ≡ 0 = e in omega arith

-- writes

pub symbol_puts : (t t₀ t₁ t₂ : List ℕ) (i w start name word : ℕ) → w ≡ i → t₀ ≡ set t (symbol_at w 0) start
    → t₁ ≡ set t₀ (symbol_at w 1) name
    → t₂ ≡ set t₁ (symbol_at w 2) word → t₂ ≡ symbol_written t i start name word
unfolding symbol_written
symbol_puts t t₀ t₁ t₂ i w start name word e e₀ e₁ e₂ = rw (e₂, e₁, e₀, e)

-- names

module _ (s : List ℕ) (at i : ℕ) (name : List ℕ) where
  same_step : i < length name → same_at s (at + i) (drop i name) ≡ cond (eqb (folded (get_or s (at + i) 0)) (folded (get_or name i 0)))
      (same_at s (at + (i + 1)) (drop (i + 1) name)) false
  unfolding same_at
  same_step h = rw (drop-cons name i 0 h, ← add_assoc at i 1, add-one i)

  -- At the same letter, the bytes after it decide.
  pub same_on : (b : ℕ) (same : Bool) → i < length name → b ≡ get_or s (at + i) 0 → same ≡ eqb (folded b) (folded (get_or name i 0))
      → same ≡ true → same_at s (at + i) (drop i name) ≡ same_at s (at + (i + 1)) (drop (i + 1) name)
  same_on b same h e f g = same_step h ∙ rw (← e, ← f, g)

  -- At another letter, the name does not stand there.
  pub same_off : (b : ℕ) (same : Bool) → i < length name → b ≡ get_or s (at + i) 0 → same ≡ eqb (folded b) (folded (get_or name i 0))
      → same ≡ false → same_at s (at + i) (drop i name) ≡ false
  same_off b same h e f g = same_step h ∙ rw (← e, ← f, g)

  pub same_end : length name ≤ i → same_at s (at + i) (drop i name) ≡ true
  unfolding same_at
  same_end h = rw (drop_of_length-le name h)

pub same_none : (s : List ℕ) (at : ℕ) (name : List ℕ) → same_at s at name ≡ same_at s (at + 0) (drop 0 name)
same_none s at name =
    let e : at + 0 ≡ at = omega arith in
    rw e

module _ (s t : List ℕ) (n i word : ℕ) (name : List ℕ) where
  pub find_here : (b : Bool) → i < n → b ≡ name_is s t i word name → b ≡ true → find_from (n - i) s t i word name ≡ true
  unfolding find_from
  find_here b h e f =
      let z : n - i ≡ suc (n - (i + 1)) = omega arith in
      rw z (simp (sym e ∙ f))

  pub find_on : (b : Bool) → i < n → b ≡ name_is s t i word name → b ≡ false
      → find_from (n - i) s t i word name ≡ find_from (n - (i + 1)) s t (i + 1) word name
  unfolding find_from
  find_on b h e f =
      let z : n - i ≡ suc (n - (i + 1)) = omega arith in
      rw z (simp (sym e ∙ f))

  pub find_end : n ≤ i → find_from (n - i) s t i word name ≡ false
  unfolding find_from
  find_end h =
      let z : n - i ≡ 0 = omega arith in
      rw z

pub find_first : (s t : List ℕ) (n word : ℕ) (name : List ℕ) → find_name s t n word name ≡ find_from (n - 0) s t 0 word name
unfolding find_name
find_first s t n word name =
    let e : n - 0 ≡ n = omega arith in
    rw e

-- lines with many steps

-- The first n of four numbers are n numbers.
pub first_length : (n count a b c d : ℕ) → count ≤ 4 → n ≡ count → n ≡ length (first_of n a b c d)
first_length n count a b c d h e = sym (length-take-le n (a ∷ b ∷ c ∷ d ∷ []) (omega arith))

-- A name found among the declared ones, and a name that is new. The name is that part of the sheet, with that word.
module _ (s t : List ℕ) (k : Counts) (function : Bool) (start : ℕ) (name : List ℕ) (arity word : ℕ)
    (part : name ≡ take (length name) (drop start s)) (h : k.symbols < 256) (w : word ≡ word_at s start (start + length name - start))
    (found : Bool) (e : found ≡ find_name s t k.symbols word name) where
  -- The word of the name.
  named : word ≡ word_at s start (length name)
  named = let l : start + length name - start ≡ length name = omega arith in w ∙ ap (word_at s start) l

  pub declaration_found : found ≡ true → made {A = Counts} t (Err Unknown) ≡ insert_declaration s t k function start (length name) arity
  unfolding insert_declaration
  declaration_found f = rw (lt-leb 256 k.symbols h, ← part, ← named, ← e, f)

  pub declaration_taken : (t' : List ℕ) (a b : ℕ) → found ≡ false → b ≡ symbol_word function arity → a ≡ start
      → t' ≡ symbol_written t k.symbols a word b
      → made t' (Ok (counts (k.symbols + 1) k.nodes k.clauses)) ≡ insert_declaration s t k function start (length name) arity
  unfolding insert_declaration
  declaration_taken t' a b f x y z = rw (lt-leb 256 k.symbols h, ← part, ← named, ← e, f, z, x, y)
