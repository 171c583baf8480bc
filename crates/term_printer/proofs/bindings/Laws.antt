-- Turns of the loop that follows bindings, which counts them up.
use Rattle.std.proofs.Common.{ℕ, ◌+◌, ◌-◌, ◌≤◌, ◌<◌, ◌≡◌, ◌∙◌, ap, List, arith}
use Rattle.machine.specs.Records.{cell_of}
use Rattle.machine.specs.Words.{tag_of, name_of}
use Rattle.printing.specs.Bindings.{deref}
use Rattle.printing.proofs.Bindings.{deref_end, deref_on}

-- No turn is left.
pub deref_last : (n i : ℕ) (w : List ℕ) (a : ℕ) → n ≤ i → deref (n - i) w a ≡ a
deref_last n i w a h = deref_end (n - i) w a (omega arith)

-- The binding of the variable is followed.
pub deref_next : (n i : ℕ) (w : List ℕ) (a t x b z : ℕ) → i < n → t ≡ tag_of a → t ≡ 1 → x ≡ name_of a → b ≡ cell_of w x → z ≡ tag_of b
    → (z ≡ 0 → ⊥) → deref (n - i) w a ≡ deref (n - (i + 1)) w b
deref_next n i w a t x b z h et e ex eb ez f =
    let s : n - i - 1 ≡ n - (i + 1) = omega arith in
    deref_on (n - i) w a t x b z (omega arith) et e ex eb ez f ∙ ap (λ (k : ℕ). deref k w b) s
