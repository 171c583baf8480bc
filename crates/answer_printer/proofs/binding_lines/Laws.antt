-- One law for each way through a turn of a loop or through a call; the hypotheses are the facts on the code's path.
use Prim.Native.Nat.{ℕ, suc, ◌+◌, ◌-◌, ◌/◌, ◌%◌, ◌≤◌, ◌<◌}
use native.Mathlib.Numerals.{add-one}
use native.Mathlib.Omega.{arith}
use mathlib.Core.Path.{◌≡◌, refl}
use mathlib.Core.Bool.{Bool, true, false, cond}
use mathlib.Core.List.{List}
use borrow.Author.Tests.{eq-eqb, ne_eqb}
use lib.Dec.{eqb}
use Rattle.sheet_format.specs.Bytes.{ascii, lf}
use Rattle.machine.specs.Words.{variable_word}
use Rattle.printing.specs.Numbering.{Printer}
use Rattle.printing.specs.WriteTerms.{emit_to, term_to}
use Rattle.printing.specs.WriteLines.{bytes_to, number_to, term_line, bindings_to}

pub binding_none : (g x : Printer) (bits : ℕ) → (bits % 2 ≡ 1 → ⊥) → g ≡ cond (eqb (bits % 2) 1) x g
binding_none g x bits e = simp (ne_eqb _ _ e)

-- Applying f in each case is applying f to the chosen value.
then_either : (f : Printer → Printer) (x y : Printer) (b : Bool) → elim b [ true ↦ f x | false ↦ f y ] ≡ f (cond b x y)
then_either f x y true = refl
then_either f x y false = refl

module _ (sheet t : List ℕ) (turns limit : ℕ) where
  -- This writes the line of a free variable.
  abbrev pub binding_line : Printer → ℕ → Printer
  binding_line g v = term_line sheet t turns limit (number_to limit (bytes_to limit g (ascii "B\t")) v) (ascii "\t") (variable_word v)

  module _ (g : Printer) (bits v : ℕ) where
    pub binding_some : (s g₁ g₂ g₃ : Printer) (a : ℕ) → bits % 2 ≡ 1 → g₁ ≡ bytes_to limit g (ascii "B\t") → g₂ ≡ number_to limit g₁ v
        → g₃ ≡ bytes_to limit g₂ (ascii "\t") → a ≡ variable_word v → s ≡ emit_to limit (term_to sheet t turns limit g₃ a) lf
        → s ≡ cond (eqb (bits % 2) 1) (binding_line g v) g
    unfolding term_line
    binding_some s g₁ g₂ g₃ a e e₁ e₂ e₃ ea es = rw (es, ea, e₃, e₂, e₁) (simp (term_line, eq-eqb _ _ e))

    pub bindings_end : (n : ℕ) → n ≤ v → bindings_to sheet t turns limit (n - v) bits v g ≡ g
    unfolding bindings_to
    bindings_end n h =
        let z : n - v ≡ 0 = omega arith in
        rw z

    pub bindings_on : (n : ℕ) (s : Printer) → v < n → s ≡ cond (eqb (bits % 2) 1) (binding_line g v) g
        → bindings_to sheet t turns limit (n - v) bits v g ≡ bindings_to sheet t turns limit (n - (v + 1)) (bits / 2) (v + 1) s
    unfolding bindings_to
    bindings_on n s h e =
        let k : n - v ≡ suc (n - (v + 1)) = omega arith in
        rw (k, add-one v, e)
        (then_either (bindings_to sheet t turns limit (n - suc v) (bits / 2) (suc v)) (binding_line g v) g (eqb (bits % 2) 1))
