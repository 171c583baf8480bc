-- Every state of the walk that goes on after each proof is one of T4's.
use Prim.Native.Nat.{ℕ, zero, suc}
use mathlib.Core.List.{List, [], ◌∷◌}
use Rattle.terms.specs.Lists.{All}
use Rattle.terms.proofs.Lists.{all_append, all_weaken}
use Rattle.formulas.specs.Formulas.{Goal, Clause}
use Rattle.formulas.specs.Rules.{Rules}
use Rattle.search.specs.Configurations.{Configuration, take, try, match, done}
use Rattle.search.specs.Steps.{step}
use Rattle.search.specs.Search.{start, advance}
use Rattle.search.specs.Promises.{WellFormed, FollowsSteps}
use Rattle.search.proofs.Invariant.{Invariant, step_keeps, start_invariant}
use Rattle.search.proofs.ProcedureSearch.{all_both}
use Rattle.search.proofs.ProcedureSteps.{Known, known_follows, known_more, known_formed, step_known, start_known}
use Rattle.enumeration.specs.GoingOn.{pass_proof, state_after}
use Rattle.enumeration.specs.Promises.{AllGoingOn}

-- What holds of all configurations holds of those that are left when a proof is passed.
pass_all : (P : Configuration → Type 0) (ds : List Configuration) → All P ds → All P (pass_proof ds)
unfolding pass_proof
pass_all P [] h = h
pass_all P (take s g b ∷ ds) h = h
pass_all P (try s a m ms k b ∷ ds) h = h
pass_all P (match m b ∷ ds) h = h
pass_all P (done s ls ∷ ds) h = h.1

module _ (cs : Rules Clause) (g : Goal) where
  abbrev Both : ℕ → Configuration → Type 0
  Both u c = Invariant c × Known cs g u c

  act_known : (u : ℕ) (ds : List Configuration) → All (Both u) ds → All (Both (suc u)) (advance u ds)
  unfolding advance
  act_known u [] h = tt
  act_known u (c ∷ ds) h =
      all_append (Both (suc u)) (step u c) ds
      (all_both Invariant (Known cs g (suc u)) (step u c) (step_keeps u c h.0.0) (step_known cs g u c h.0.0 h.0.1))
      (all_weaken (Both u) (Both (suc u)) (λ d k. (k.0, known_more cs g u d k.1)) ds h.1)

  known : (n : ℕ) → All (Both n) (state_after cs g n)
  unfolding state_after
  known zero = all_both Invariant (Known cs g 0) (start cs g) (start_invariant cs g) (start_known cs g)
  known (suc n) = act_known n (pass_proof (state_after cs g n)) (pass_all (Both n) (state_after cs g n) (known n))

pub going_on : AllGoingOn
going_on cs g n =
    let k = known cs g n in (
      all_weaken (Both cs g n) WellFormed (λ c h. known_formed cs g n c h.0 h.1) (state_after cs g n) k,
      all_weaken (Both cs g n) (FollowsSteps cs g) (λ c h. known_follows cs g n c h.1) (state_after cs g n) k,
    )
