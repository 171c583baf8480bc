-- One law for each way through a turn of a loop or through a call; the hypotheses are the facts on the code's path.
use Prim.Native.Nat.{ℕ}
use native.Mathlib.Omega.{arith}
use mathlib.Core.Path.{◌≡◌, refl}
use mathlib.Core.List.{List, [], ◌∷◌}
use lib.ListN.{length}
use Rattle.sheet_format.specs.Bytes.{lf}
use Rattle.printing.specs.declared.Cursor.{Cursor}
use Rattle.printing.specs.Output.{written, write_bytes, write_number}
use Rattle.printing.specs.Numbering.{with_position, Printer, printer, wrote}
use Rattle.printing.specs.WriteLines.{bytes_to, number_to, result_to}
use Rattle.printing.specs.WriteTerms.{emit_to, term_to}

-- Lines.
module _ (out out' : List ℕ) (limit to : ℕ) (p q : Cursor) where
  pub bytes_written : (bs : List ℕ) → written out' to ≡ write_bytes bs out limit p.at → q ≡ with_position p to → (m : List ℕ)
      → printer m out' q ≡ bytes_to limit (printer m out p) bs
  unfolding bytes_to wrote
  bytes_written bs e eq m = rw eq (simp (bytes_to, wrote, ← e))

  pub number_written : (n : ℕ) → written out' to ≡ write_number out limit p.at n → q ≡ with_position p to → (m : List ℕ)
      → printer m out' q ≡ number_to limit (printer m out p) n
  unfolding number_to wrote
  number_written n e eq m = rw eq (simp (number_to, wrote, ← e))

module _ (limit : ℕ) (g s : Printer) where
  pub result_written : (bs : List ℕ) (units : ℕ) (g₁ g₂ : Printer) → g₁ ≡ bytes_to limit g bs → g₂ ≡ number_to limit g₁ units
      → s ≡ emit_to limit g₂ 10 → s ≡ result_to limit g bs units
  unfolding result_to
  result_written bs units g₁ g₂ e₁ e₂ es = rw (es, e₂, e₁)

module _ (sheet t : List ℕ) (turns limit : ℕ) where
  pub line_ended : (g g₁ s : Printer) (a : ℕ) → g₁ ≡ term_to sheet t turns limit g a → s ≡ emit_to limit g₁ lf
      → s ≡ emit_to limit (term_to sheet t turns limit g a) lf
  line_ended g g₁ s a e₁ es = rw (es, e₁)

pub no_bytes : (l : List ℕ) → length l ≡ 0 → l ≡ []
no_bytes [] e = refl
no_bytes (b ∷ l) e = absurd (omega arith)
