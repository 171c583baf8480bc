-- One law for each way through a turn of the loop, and for the longer calls; the hypotheses are the facts on the code's path.
use Prim.Native.Nat.{ℕ, zero, suc, ◌-◌, ◌≤◌, ◌<◌}
use native.Mathlib.Numerals.{sub-one}
use native.Mathlib.Omega.{arith}
use mathlib.Core.Path.{◌≡◌, refl, ◌∙◌}
use mathlib.Core.List.{List}
use borrow.Author.Tests.{lt-ltb, le-ltb}
use Rattle.machine.specs.declared.Registers.{Registers}
use Rattle.machine.specs.Records.{made}
use Rattle.machine.specs.RegisterUpdates.{with_acts}
use Rattle.machine.specs.Words.{increment}
use Rattle.machine.specs.Machine.{due_act, act, run_acts}
use Rattle.machine_memory.specs.Settling.{failed_mode, settled}
use Rattle.machine_memory.proofs.Settling.{settled_kept, settled_counted}

module _ (t : List ℕ) (c : ℕ) (w : List ℕ) (r : Registers) where
  -- A verdict.
  pub run_done : (n : ℕ) → 3 < r.mode → run_acts n t c w r ≡ made w r
  unfolding run_acts
  run_done zero h = refl
  run_done (suc n) h =
      let k : 4 ≤ r.mode = omega arith in
      simp (run_acts, le-ltb _ _ k)

  -- No unit is left.
  pub run_spent : (n : ℕ) → n ≡ 0 → run_acts n t c w r ≡ made w r
  unfolding run_acts
  run_spent zero e = refl
  run_spent (suc n) e = absurd (omega arith)

  -- One act. What it comes to may have to be settled.
  pub run_act : (n : ℕ) (w' : List ℕ) (r' : Registers) → (n ≡ 0 → ⊥) → r.mode ≤ 3 → settled w' r' ≡ act t c w r
      → run_acts n t c w r ≡ run_acts (n - 1) t c (settled w' r').memory (settled w' r').registers
  unfolding run_acts
  run_act zero w' r' z h e = absurd (z refl)
  run_act (suc n) w' r' z h e =
      let k : r.mode < 4 = omega arith in
      rw (sub-one (suc n)) (simp (run_acts, lt-ltb _ _ k, ← e))

  pub run_goal : (n : ℕ) (w' : List ℕ) (r' : Registers) → (n ≡ 0 → ⊥) → r.mode ≤ 1 → settled w' r' ≡ act t c w r
      → run_acts n t c w r ≡ run_acts (n - 1) t c (settled w' r').memory (settled w' r').registers
  run_goal n w' r' z h e = run_act n w' r' z (omega arith) e

  -- One act that has not failed.
  pub run_on : (n : ℕ) (w' : List ℕ) (r' : Registers) → (n ≡ 0 → ⊥) → r.mode ≤ 3 → (r'.mode ≡ failed_mode → ⊥)
      → settled w' r' ≡ act t c w r → run_acts n t c w r ≡ run_acts (n - 1) t c w' r'
  run_on n w' r' z h k e = run_act n w' r' z h e ∙ rw (← settled_kept w' r' k)

-- Nothing is to be settled at the start.
pub run_begins : (n : ℕ) (t : List ℕ) (c : ℕ) (w : List ℕ) (r : Registers) → r.mode ≤ 3
    → run_acts n t c w r ≡ run_acts n t c (settled w r).memory (settled w r).registers
run_begins n t c w r h = rw (← settled_kept w r (λ e. omega (arith, h, e)))

-- The ways through a turn.
pub ruleset turns = (run_done, run_spent, run_act, run_goal, run_on, run_begins)

-- An act, counted.
pub act_counted : (t : List ℕ) (c : ℕ) (w w' : List ℕ) (r s z : Registers) (u : ℕ) → u ≡ increment r.acts
    → settled w' s ≡ due_act t c w r → z ≡ with_acts s u → settled w' z ≡ act t c w r
unfolding act
act_counted t c w w' r s z u eu es ez = rw ez (settled_counted w' s u ∙ rw (es, eu))

-- The modes, by what is asked before an act.
module _ (m : ℕ) where
  pub is_try : m ≤ 1 → (m ≡ 0 → ⊥) → m ≡ 1
  is_try h z = omega arith

  pub not_take : 1 < m → m ≡ 0 → ⊥
  not_take h e = omega arith

  pub not_try : 1 < m → m ≡ 1 → ⊥
  not_try h e = omega arith
