-- Before request W-206 looking through bindings took no unit. Matching by that count, and how the new count differs from it: by one
-- unit for each binding looked through, and in nothing else.
use Rattle.std.specs.Prelude.{ℕ, zero, suc, ◌+◌, ◌≡◌, List, [], ◌∷◌}
use Rattle.terms.specs.Lists.{All}
use Rattle.unification.specs.Store.{Store, look}
use Rattle.unification.specs.Matching.{Pair, Matching, pairs, check, fail, visit, compare_terms, match_steps}
use Rattle.unification.specs.Promises.{BelowPair, Formed}
use Rattle.unification.specs.Bindings.{LooksThrough}

-- One act by the former count: "both looked through their bindings", however many they are.
unfoldable pub former_step : Matching → Matching
former_step (pairs s []) = pairs s []
former_step (pairs s (p ∷ ps)) = compare_terms s (look s.bindings p.goal) (look s.bindings p.clause) ps
former_step (check s y t n ns ps) = visit s y t (look s.bindings n) ns ps
former_step fail = fail

-- Does n acts by the former count.
unfoldable pub former_steps : ℕ → Matching → Matching
former_steps zero m = m
former_steps (suc n) m = former_step (former_steps n m)

-- The act that is due by the former count looks through k bindings.
unfoldable pub ActLooksThrough : Matching → ℕ → Type 0
ActLooksThrough (pairs s []) k = k ≡ 0
ActLooksThrough (pairs s (p ∷ ps)) k =
    (i : ℕ) × (j : ℕ) × LooksThrough s.bindings p.goal i (look s.bindings p.goal)
    × LooksThrough s.bindings p.clause j (look s.bindings p.clause) × (i + j ≡ k)
ActLooksThrough (check s y t n ns ps) k = LooksThrough s.bindings n k (look s.bindings n)
ActLooksThrough fail k = k ≡ 0

-- The first n acts by the former count look through k bindings together.
unfoldable pub ActsLookThrough : ℕ → Matching → ℕ → Type 0
ActsLookThrough zero m k = k ≡ 0
ActsLookThrough (suc n) m k = (i : ℕ) × (j : ℕ) × ActsLookThrough n m i × ActLooksThrough (former_steps n m) j × (i + j ≡ k)

-- Where a match stood after n acts, it stands now after n acts and one for each binding that these look through.
abbrev pub OneUnitEach : Type 0
OneUnitEach = (s : Store) (ps : List Pair) → Formed s → All (BelowPair s.next) ps → (n : ℕ)
    → (k : ℕ) × ActsLookThrough n (pairs s ps) k × (former_steps n (pairs s ps) ≡ match_steps (n + k) (pairs s ps))
