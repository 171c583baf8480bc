-- One law for each way through a turn of a loop or through a call; the hypotheses are the facts on the code's path.
use Prim.Native.Nat.{ℕ, ◌≤◌, ◌<◌}
use mathlib.Core.Path.{◌≡◌}
use mathlib.Core.List.{List, [], ◌++◌}
use borrow.Author.Tests.{lt-ltb, le-ltb}
use lib.ListN.{length}
use Rattle.printing.specs.Output.{Written, written, emit, write_bytes, write_number}
use Rattle.std.specs.Prelude.{None}
use Rattle.printing.specs.Writer.{fitted, fitting, text_limit, append_result, write_short}
use Rattle.answer_printer.proofs.line_parts.Laws.{no_bytes}

-- The R line.
pub result_written : (bs : List ℕ) (units : ℕ) (own o₁ o₂ : List ℕ) (limit at a₁ a₂ : ℕ) (s : Written)
    → written o₁ a₁ ≡ write_bytes bs own limit at → written o₂ a₂ ≡ write_number o₁ limit a₁ units → s ≡ emit o₂ limit a₂ 10
    → s ≡ append_result bs units own limit at
unfolding append_result
result_written bs units own o₁ o₂ limit at a₁ a₂ s e₁ e₂ es = rw es (simp (append_result, ← e₁, ← e₂))

-- The short texts.

module _ (bs : List ℕ) (units : ℕ) (out : List ℕ) (limit n : ℕ) (o : List ℕ) (el : limit ≡ text_limit out)
    (e₁ : written o n ≡ append_result bs units [] limit 0) (eo : length o ≡ 0) where
  short_counted : written o n ≡ append_result bs units [] (text_limit out) 0
  short_counted = rw el at e₁

  pub short_unfit : limit < n → fitted (o ++ out) None ≡ write_short bs units out
  unfolding write_short
  short_unfit h =
      let h' : text_limit out < n = rw el at h in
      rw (no_bytes o eo) (simp (write_short, ← short_counted, lt-ltb _ _ h'))

  pub short_fits : (s : Written) → n ≤ limit → s ≡ append_result bs units (o ++ out) limit 0 → fitting s ≡ write_short bs units out
  unfolding write_short
  short_fits s h es =
      let h' : n ≤ text_limit out = rw el at h in
      let f : s ≡ append_result bs units out (text_limit out) 0 = rw (no_bytes o eo, el) at es in
      rw f (simp (write_short, ← short_counted, le-ltb _ _ h'))
