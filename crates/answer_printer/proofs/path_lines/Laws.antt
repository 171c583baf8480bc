-- One law for each way through a turn of a loop or through a call; the hypotheses are the facts on the code's path.
use Prim.Native.Nat.{ℕ, zero, suc, ◌+◌, ◌-◌, ◌/◌, ◌%◌, ◌≤◌, ◌<◌}
use native.Mathlib.Omega.{arith}
use mathlib.Core.Path.{◌≡◌, refl}
use mathlib.Core.Bool.{false}
use mathlib.Core.List.{List}
use lib.Dec.{eqb}
use borrow.Author.Tests.{lt-ltb, le-ltb, eq-eqb, ne_eqb}
use Rattle.sheet_format.specs.Bytes.{ascii, lf}
use Rattle.machine.specs.Fields as fields
use Rattle.machine.specs.Words.{variable_word, constant_word}
use Rattle.printing.specs.declared.Cursor.{Cursor}
use Rattle.printing.specs.Numbering.{Printer, printer}
use Rattle.printing.specs.WriteLines.{bytes_to, plain_bytes, term_line, clause_to, line_to, lines_to}
use Rattle.printing.specs.PathLinks.{next_line_field}
use Rattle.memory.specs.Records.{field}
use Rattle.printing.specs.WriteTerms.{emit_to, term_to}

module _ (limit : ℕ) (g s : Printer) (k : ℕ) where
  -- The line of a kind that is known.
  pub plain_kind : (j : ℕ) → k ≡ j → s ≡ bytes_to limit g (plain_bytes j) → s ≡ bytes_to limit g (plain_bytes k)
  plain_kind j e es = rw (es, e)

  pub plain_assume : 4 ≤ k → s ≡ bytes_to limit g (ascii "D\tassume\n") → s ≡ bytes_to limit g (plain_bytes k)
  unfolding plain_bytes
  plain_assume h es =
      let n : (j : ℕ) → j < 4 → eqb k j ≡ false = λ j l. ne_eqb _ _ (λ e. omega arith) in
      rw es (simp (plain_bytes, n 0 (omega arith), n 1 (omega arith), n 2 (omega arith), n 3 (omega arith)))

module _ (sheet t : List ℕ) (turns limit : ℕ) where
  module _ (w out : List ℕ) (p : Cursor) (u : ℕ) (s : Printer) where
    pub line_plain : (k : ℕ) → k < 5 → s ≡ bytes_to limit (printer w out p) (plain_bytes k)
        → s ≡ line_to sheet t turns limit (printer w out p) u k
    unfolding line_to
    line_plain k h es = rw es (simp (line_to, lt-ltb _ _ h))

    pub line_some : (k f a : ℕ) (g : Printer) → k ≡ 5 → f ≡ field w u fields.variables → a ≡ variable_word f
        → g ≡ bytes_to limit (printer w out p) (ascii "D\tsome\t") → s ≡ emit_to limit (term_to sheet t turns limit g a) lf
        → s ≡ line_to sheet t turns limit (printer w out p) u k
    unfolding line_to term_line
    line_some k f a g e ef ea eg es = rw (es, eg, ea, ef, e)

    pub line_all : (k a : ℕ) (g : Printer) → k ≡ 6 → a ≡ constant_word u
        → g ≡ bytes_to limit (printer w out p) (ascii "D\tall\t") → s ≡ emit_to limit (term_to sheet t turns limit g a) lf
        → s ≡ line_to sheet t turns limit (printer w out p) u k
    unfolding line_to term_line
    line_all k a g e ea eg es = rw (es, eg, ea, e)

    pub line_clause : (k : ℕ) → 7 ≤ k → s ≡ clause_to sheet t turns limit (printer w out p) u
        → s ≡ line_to sheet t turns limit (printer w out p) u k
    unfolding line_to
    line_clause k h es =
        let n₅ : eqb k 5 ≡ false = ne_eqb _ _ (λ e. omega arith) in
        let n₆ : eqb k 6 ≡ false = ne_eqb _ _ (λ e. omega arith) in
        rw es (simp (line_to, le-ltb k 5 (omega arith), n₅, n₆))

  pub lines_end : (g : Printer) (e n i : ℕ) → n ≤ i → lines_to sheet t turns limit (n - i) g e ≡ g
  unfolding lines_to
  lines_end g e n i h =
      let z : n - i ≡ 0 = omega arith in
      rw z

  pub lines_last : (g : Printer) (e n : ℕ) → e / 8 ≡ 0 → lines_to sheet t turns limit n g e ≡ g
  unfolding lines_to
  lines_last g e zero z = refl
  lines_last g e (suc n) z = simp (lines_to, eq-eqb _ _ z)

  pub lines_on : (w out : List ℕ) (p : Cursor) (e n i u l : ℕ) (s : Printer) → i < n → (e / 8 ≡ 0 → ⊥) → u ≡ e / 8 - 1
      → l ≡ field w u next_line_field → s ≡ line_to sheet t turns limit (printer w out p) u (e % 8)
      → lines_to sheet t turns limit (n - i) (printer w out p) e ≡ lines_to sheet t turns limit (n - (i + 1)) s l
  unfolding lines_to
  lines_on w out p e n i u l s h z eu el es =
      let k : n - i ≡ suc (n - (i + 1)) = omega arith in
      rw (k, es, el, eu) (simp (lines_to, ne_eqb _ _ z))
