-- What each proof found shows: well-formed terms, levels and places not above its units. The text of the proof needs it.
use Prim.Native.Nat.{ℕ, zero, suc, ◌≤◌}
use mathlib.Core.List.{List, [], ◌∷◌}
use native.Mathlib.Omega.{arith}
use Rattle.terms.specs.Lists.{All}
use Rattle.formulas.specs.Formulas.{Goal, Clause}
use Rattle.formulas.specs.Rules.{Rules}
use Rattle.search.specs.Configurations.{Configuration, done}
use Rattle.search.specs.Steps.{step}
use Rattle.search.specs.Search.{start}
use Rattle.search.specs.Answers.{final_environment, final_lines}
use Rattle.search.proofs.Formed.{Arities, FormedGoal, FormedClause}
use Rattle.search.proofs.Bounds.{ConfigurationUpTo, step_formed, start_formed, room, ShownUpTo, bounds_end}
use Rattle.enumeration.specs.Enumeration.{Proof, enumerate}
use Rattle.enumeration.specs.Scripts.{Script, root}
use Rattle.enumeration.specs.Promises.{Paired}
use Rattle.enumeration.proofs.Paths.{leads_keep}
use Rattle.enumeration.proofs.Found.{Arrives}
use Rattle.enumeration.proofs.Each.{acts_keep}
use Rattle.enumeration.proofs.PathsFound.{found_at_start}

module _ (ok : Arities) (cs : Rules Clause) (g : Goal) (clauses : All (λ c. FormedClause c ok) cs.clauses) (goal : FormedGoal g ok) where
  -- Every bound from u on holds.
  abbrev Bounded : ℕ → Configuration → Type 0
  Bounded u c = (n : ℕ) → u ≤ n → ConfigurationUpTo ok n c

  -- A step leaves room for what it makes.
  step_bounded : (u : ℕ) (c : Configuration) → Bounded u c → (n : ℕ) → suc u ≤ n → All (ConfigurationUpTo ok n) (step u c)
  step_bounded u c h zero l = absurd (omega arith)
  step_bounded u c h (suc n) l = step_formed ok (suc n) u c (h (suc n) (omega arith)) (room ok n c (h n (omega arith)))

  -- What holds of all configurations at every bound holds of each at every bound.
  each_bound : (l : List Configuration) (u : ℕ) → ((n : ℕ) → u ≤ n → All (ConfigurationUpTo ok n) l) → All (Bounded u) l
  each_bound [] u h = tt
  each_bound (c ∷ l) u h = ((λ n k. (h n k).0), each_bound l u (λ n k. (h n k).1))

  -- So it is where a proof is found,
  shown : (is : Script) (w : Proof) → Arrives cs g is w
      → ShownUpTo ok w.units (final_environment w.store) (final_lines w.store w.path)
  unfolding root start
  shown is w a =
      let d = done w.store w.path in
      let b : Bounded w.units d =
      leads_keep Bounded (λ u c h. acts_keep (Bounded (suc u)) u c (each_bound (step u c) (suc u) (step_bounded u c h)))
      (λ u v c l h n k. h n (omega arith)) a.0 is 0 w.units (root cs g) d a.2 a.1
      (λ n l. (start_formed ok n cs g clauses goal).0) in
      bounds_end ok w.units w.store w.path (b w.units (omega arith))

  -- and so for all proofs,
  shown_all : (x : List Script) (ws : List Proof) → Paired (Arrives cs g) x ws
      → All (λ w. ShownUpTo ok w.units (final_environment w.store) (final_lines w.store w.path)) ws
  unfolding Paired
  shown_all [] [] h = tt
  shown_all [] (w ∷ ws) h = absurd h
  shown_all (is ∷ x) [] h = tt
  shown_all (is ∷ x) (w ∷ ws) h = (shown is w h.0, shown_all x ws h.1)

  -- in particular for those found from the start.
  pub proofs_shown : (wanted budget : ℕ)
      → All (λ w. ShownUpTo ok w.units (final_environment w.store) (final_lines w.store w.path))
      (enumerate wanted budget cs g).found
  proofs_shown wanted budget =
      let t = found_at_start cs g wanted budget in shown_all t.scripts (enumerate wanted budget cs g).found t.arrive
