-- Going on after an act: with the next goal, with the next pair, or with the verdict.
use Prim.Native.Nat.{ℕ, zero, suc, ◌-◌}
use native.Mathlib.Omega.{arith}
use mathlib.Core.Bool.{cond}
use mathlib.Core.Path.{◌≡◌, refl}
use mathlib.Core.List.{List, [], ◌∷◌, ◌++◌}
use mathlib.Core.Option.{Option}
use mathlib.Core.Logic.{inl}
use lib.Dec.{eqb}
use borrow.Author.Tests.{eq-eqb, ne_eqb}
use Rattle.sequents.specs.Sequents.{Sequent}
use Rattle.unification.specs.Store.{Leaf, Store}
use Rattle.unification.specs.Matching.{Pair, pairs, comparing}
use Rattle.search.specs.Configurations.{Branch, Configuration}
use Rattle.search.specs.Steps.{settle}
use Rattle.search.specs.Steps as level1
use Rattle.machine.specs.declared.Registers.{Registers}
use Rattle.machine.specs.Records.{made, proved_mode}
use Rattle.machine.specs.RegisterUpdates.{with_mode, with_goals, with_goal, with_pairs}
use Rattle.machine.specs.Goals.{due_goal, proceed}
use Rattle.machine.specs.Matching.{due_pairs}
use Rattle.machine.proofs.Tables.{Table}
use Rattle.machine.proofs.WaitingArguments.{PairsAt, Pushed}
use Rattle.machine.proofs.Branches.{GoalsAt, BranchAt}
use Rattle.machine.proofs.Configurations.{store_of, CompareAt, ConfigurationAt}
use Rattle.machine.proofs.ChoicePoints.{SharedAt, ResultAt}

module _ (T : Table) where
  -- The next goal, or the end: level 1's `proceed`.
  pub proceed_result : (n : ℕ) (w : List ℕ) (r : Registers) (s : Store) (b : Branch) (ds : List Configuration)
      → BranchAt T n s.next w r.goals r.path r.line b
      → SharedAt T n w r.next r.trail r.choice s ds
      → ResultAt T n (made w (proceed w r)) (level1.proceed s b.goals b.path ++ ds)
  unfolding proceed due_goal with_goal with_goals with_mode level1.proceed GoalsAt ResultAt ConfigurationAt store_of
  proceed_result n w r s b ds h c = go b.goals r.goals refl h.waiting
    where
      go : (gs : List (Sequent Leaf)) (q : ℕ) → r.goals ≡ q → GoalsAt T n gs w q
          → ResultAt T n (made w (cond (eqb r.goals 0) (with_mode r proved_mode) (due_goal w r (r.goals - 1))))
          (level1.proceed s gs b.path ++ ds)
      go [] zero e i = rw (eq-eqb r.goals 0 e) (record { front = (refl, h.taken, e); shared = c })
      go [] (suc q) e i = absurd i
      go (g ∷ gs) zero e i = absurd i
      go (g ∷ gs) (suc q) e i =
          let z : r.goals - 1 ≡ q = omega arith in
          rw (ne_eqb r.goals 0 (λ x. omega arith), z)
          (record { front = (refl, i.1, record { waiting = i.2; taken = h.taken }); shared = c })

  -- The next pair, or the next goal: level 1's `settle`.
  pub pairs_result : (n : ℕ) (w : List ℕ) (r : Registers) (s : Store) (b : Branch) (ds : List Configuration) (ps : List Pair) (a : ℕ)
      → PairsAt T n s.next ps w a
      → BranchAt T n s.next w r.goals r.path r.line b → SharedAt T n w r.next r.trail r.choice s ds
      → ResultAt T n (made w (due_pairs w r a)) (settle (pairs s ps) b ++ ds)
  unfolding due_pairs with_pairs settle PairsAt ResultAt ConfigurationAt CompareAt store_of
  pairs_result n w r s b ds [] a p h c = rw (eq-eqb a 0 p) (proceed_result n w r s b ds h c)
  pairs_result n w r s b ds (q ∷ ps) a p h c =
      rw (ne_eqb a 0 (λ x. let e = p.2 in omega arith))
      (record { front = record { mode = refl; stood = q; waits = p; sides = inl (refl, refl); branch = h }; shared = c })

  -- After the arguments of two applications are pushed, their pairs are due.
  pub pushed_result : (n : ℕ) (w : List ℕ) (r : Registers) (s : Store) (b : Branch) (ds : List Configuration) (o : Option (List Pair))
      (a : ℕ) → Pushed T n s.next w o a
      → BranchAt T n s.next w r.goals r.path r.line b → SharedAt T n w r.next r.trail r.choice s ds
      → ResultAt T n (made w (due_pairs w r a)) (settle (comparing s o) b ++ ds)
  unfolding comparing
  pushed_result n w r s b ds o a p h c = rw p.is (pairs_result n w r s b ds p.list a p.there h c)
