-- Bytes of a text that are passed because they are not looked for.
use Rattle.std.specs.Prelude.{ℕ, zero, suc, ◌+◌, ◌-◌, ◌≤◌, ◌≡◌, Bool, false, ◌||◌, List, eqb, get_or}

-- One of the n bytes from position i on is c or d.
unfoldable pub has_either : ℕ → List ℕ → ℕ → ℕ → ℕ → Bool
has_either zero x c d i = false
has_either (suc n) x c d i = (eqb (get_or x i 0) c || eqb (get_or x i 0) d) || has_either n x c d (i + 1)

-- From position i on, up to e, neither c nor d stands before position r.
pub record Passes (x : List ℕ) (c d i e r : ℕ) : Type 0 where
  pub forward : i ≤ r
  pub before : r - i ≤ e - i
  pub neither : has_either (r - i) x c d i ≡ false
