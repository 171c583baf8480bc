-- What a request's numbers ask for.
use Prim.Native.Nat.{ℕ, ◌≤◌, ◌<◌}
use native.Mathlib.Omega.{arith}
use mathlib.Core.Path.{◌≡◌, refl, ap}
use mathlib.Core.List.{List, [], ◌∷◌}
use lib.ListN.{length, get_or}
use Rattle.engine_spec.specs.Handed.{asked}
use Rattle.rules.specs.RulesAsk.{requested}

-- No number of proofs is given.
pub request_short : (l : List ℕ) (budget : ℕ) → budget ≡ get_or l 0 0 → length l ≤ 1 → asked (record { budget = budget; proofs = 1 }) ≡ requested l
unfolding asked requested
request_short [] budget e h = ap (λ (b : ℕ). record { budget = b; proofs = 1 }) e
request_short (a ∷ []) budget e h = ap (λ (b : ℕ). record { budget = b; proofs = 1 }) e
request_short (a ∷ b ∷ l) budget e h = absurd (omega arith)

-- Both are given.
pub request_whole : (l : List ℕ) (budget proofs : ℕ) → budget ≡ get_or l 0 0 → 1 < length l → proofs ≡ get_or l 1 0
    → asked (record { budget = budget; proofs = proofs }) ≡ requested l
unfolding asked requested
request_whole [] budget proofs e h d = absurd (omega arith)
request_whole (a ∷ []) budget proofs e h d = absurd (omega arith)
request_whole (a ∷ b ∷ l) budget proofs e h d = rw (e, d) refl
