-- One law for each way through a turn of a loop or through a call; the hypotheses are the facts on the code's path.
use Prim.Native.Nat.{ℕ, suc, ◌+◌, ◌-◌, ◌*◌, ◌≤◌, ◌<◌}
use native.Mathlib.Numerals.{add-one}
use native.Mathlib.Omega.{arith}
use mathlib.Core.Path.{◌≡◌}
use mathlib.Core.List.{List}
use Rattle.sheet_format.specs.Bytes.{ascii}
use Rattle.machine.specs.Fields as fields
use Rattle.machine.specs.Words.{truncate, variable_word}
use Rattle.printing.specs.declared.Cursor.{Cursor}
use Rattle.printing.specs.Numbering.{Printer, printer}
use Rattle.printing.specs.WriteLines.{bytes_to, number_to, prefix_to, clause_to}
use Rattle.printing.specs.WriteTerms.{emit_to, term_to}
use Rattle.memory.specs.Records.{field}

module _ (sheet t : List ℕ) (turns limit : ℕ) where
  module _ (g : Printer) (x : ℕ) where
    pub prefix_all : (n k : ℕ) → k ≡ n → prefix_to sheet t turns limit n g x ≡ prefix_to sheet t turns limit (x + k - x) g x
    prefix_all n k e =
        let z : x + k - x ≡ n = omega arith in
        rw z

    pub prefix_end : (n : ℕ) → n ≤ x → prefix_to sheet t turns limit (n - x) g x ≡ g
    unfolding prefix_to
    prefix_end n h =
        let z : n - x ≡ 0 = omega arith in
        rw z

    pub prefix_on : (n a : ℕ) (g₁ s : Printer) → x < n → g₁ ≡ emit_to limit g 9 → a ≡ truncate (4 * x + 1)
        → s ≡ term_to sheet t turns limit g₁ a
        → prefix_to sheet t turns limit (n - x) g x ≡ prefix_to sheet t turns limit (n - (x + 1)) s (x + 1)
    unfolding prefix_to variable_word
    prefix_on n a g₁ s h e₁ ea es =
        let k : n - x ≡ suc (n - (x + 1)) = omega arith in
        rw (k, add-one x, es, ea, e₁)

  module _ (w out : List ℕ) (p : Cursor) (u : ℕ) (s : Printer) where
    pub clause_written : (k c f x : ℕ) (g₁ g₂ g₃ : Printer) → k ≡ field w u fields.use_place → c ≡ field w u fields.use_count
        → f ≡ field w u fields.variables → x ≡ f → g₁ ≡ bytes_to limit (printer w out p) (ascii "D\tclause\t") → g₂ ≡ number_to limit g₁ k
        → g₃ ≡ prefix_to sheet t turns limit c g₂ x → s ≡ emit_to limit g₃ 10 → s ≡ clause_to sheet t turns limit (printer w out p) u
    unfolding clause_to
    clause_written k c f x g₁ g₂ g₃ ek ec ef ex e₁ e₂ e₃ es = rw (es, e₃, e₂, e₁, ex, ef, ec, ek)
