-- Numbers in derivations: what `specs/Numbers.antt` says.
use Prim.Native.Nat.{ℕ, suc}
use mathlib.Core.Path.{◌≡◌, refl, subst}
use mathlib.Core.List.{[], ◌∷◌}
use native.Mathlib.Omega.{arith}
use Rattle.terms.specs.Lists.{update}
use Rattle.terms.specs.Terms.{numeral, leaf, nil, number_term, level_by}
use Rattle.terms.proofs.Terms.{leaf_not_app}
use Rattle.sequents.specs.Symbols.{made, Ground, level}
use Rattle.sequents.specs.Sequents.{sequent, Dsome, Dall}
use Rattle.sequents.specs.Lines.{Infers}
use Rattle.sequents.specs.Numbers.{NumbersStand}

pub numbers_stand : NumbersStand
unfolding Infers level level_by
numbers_stand n = record {
  witness = λ v g e P i K. (
    (λ h. let q : h.0 ≡ number_term n = (let z = h.1 in cc) in subst (λ (t : Ground). K (sequent g (update e v t) P i ∷ [])) q h.3),
    (λ k. (number_term n, refl, omega arith, k)),
  );
  low = λ i. omega arith;
  not_made = λ v g e P i K h.
      let q : leaf (made h.0 (suc i)) ≡ number_term n = (let z = h.1 in cc) in
      leaf_not_app (made h.0 (suc i)) (numeral n) nil q;
}
