-- The new count is the former one and one unit for each binding looked through: what `specs/FormerUnits.antt` says.
use Prim.Native.Nat.{ℕ, zero, suc, ◌+◌}
use mathlib.Core.Path.{◌≡◌, refl, sym, ◌∙◌, ap, subst}
use mathlib.Core.List.{List, [], ◌∷◌}
use native.Mathlib.Omega.{arith}
use Rattle.terms.specs.Lists.{All}
use Rattle.unification.specs.Store.{Store, look}
use Rattle.unification.specs.Matching.{Pair, Matching, pairs, check, fail, match_step, match_steps}
use Rattle.unification.specs.Promises.{BelowPair, Formed}
use Rattle.unification.specs.FormerUnits.{former_step, former_steps, ActLooksThrough, ActsLookThrough, OneUnitEach}
use Rattle.unification.proofs.Bindings.{every_binding, all_looked_through}
use Rattle.unification.proofs.Invariant.{Running, match_steps_running}

-- The acts after others.
steps_add : (a b : ℕ) (m : Matching) → match_steps a (match_steps b m) ≡ match_steps (a + b) m
unfolding match_steps
steps_add zero b m = let e : b ≡ 0 + b = omega arith in ap (λ (c : ℕ). match_steps c m) e
steps_add (suc a) b m =
    let e : suc (a + b) ≡ suc a + b = omega arith in ap match_step (steps_add a b m) ∙ ap (λ (c : ℕ). match_steps c m) e

-- One act by the former count, from a matching under way.
abbrev Former : Matching → Type 0
Former m = (k : ℕ) × ActLooksThrough m k × (former_step m ≡ match_steps (suc k) m)

former_act : (R : ℕ → Type 0) (m : Matching) → Running R m → Former m
unfolding former_step ActLooksThrough match_steps match_step Running
former_act R (pairs s []) r = (0, refl, refl)
former_act R (pairs s (p ∷ ps)) r =
    let f = r.0.formed in
    let g = all_looked_through s f p.goal in
    let c = all_looked_through s f p.clause in
    (g.0 + c.0, (g.0, c.0, g.1, c.1, refl), sym ((every_binding s ps).pair p g.0 c.0 _ _ g.1 c.1))
former_act R (check s y t n ns ps) r =
    let l = all_looked_through s r.0.good.formed n in
    (l.0, l.1, sym ((every_binding s ps).node y t n _ ns l.0 l.1))
former_act R fail r = (0, refl, refl)

pub one_unit_each : OneUnitEach
unfolding former_steps ActsLookThrough Running match_steps
one_unit_each s ps f b zero = (0, refl, refl)
one_unit_each s ps f b (suc n) =
    let m = pairs s ps in
    let R : ℕ → Type 0 = λ c. Unit {0} in
    let h = one_unit_each s ps f b n in
    let k = h.0 in
    let r : Running R (match_steps (n + k) m) = match_steps_running R (n + k) m (record { formed = f; extra = tt }, b) in
    let a : Former (former_steps n m) = subst Former (sym h.2) (former_act R (match_steps (n + k) m) r) in
    let j = a.0 in
    let e : suc j + (n + k) ≡ suc n + (k + j) = omega arith in (
      k + j,
      (k, j, h.1, a.1, refl),
      a.2 ∙ ap (match_steps (suc j)) h.2 ∙ steps_add (suc j) (n + k) m
          ∙ ap (λ (c : ℕ). match_steps c m) e,
    )
