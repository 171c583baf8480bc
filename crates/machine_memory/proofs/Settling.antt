-- Settling: acts that have not failed, which their mode says, are left as they are. Where a contract of the code asks that nothing has
-- failed, these laws say so of what the definitions of the crate machine give (`pairs_mode`, `passed_mode`).
use Prim.Native.Nat.{ℕ, ◌-◌, ◌<◌}
use native.Mathlib.Omega.{arith}
use mathlib.Core.Path.{◌≡◌, refl, sym, ap, ◌∙◌}
use mathlib.Core.Bool.{Bool, true, false, cond}
use mathlib.Core.List.{List}
use lib.Dec.{eqb}
use borrow.Author.Tests.{ne_eqb}
use Rattle.clause_members.specs.declared.Found.{Found}
use Rattle.machine.specs.declared.Registers.{Registers}
use Rattle.machine.specs.Records.{Made, made, no_mode, proved_mode}
use Rattle.machine.specs.RegisterUpdates.{with_acts, with_mode, with_next, with_trail, with_choice, with_goals, with_path, with_goal, with_member}
use Rattle.machine.specs.RegisterUpdates.{with_pairs, with_sides, with_check, with_due, with_nodes}
use Rattle.machine.specs.Words.{increment}
use Rattle.machine.specs.Trail.{effect}
use Rattle.machine.specs.ChoicePoints.{resume_goal, resume_member, resume_branch, resume, backtrack, failed}
use Rattle.machine.specs.Goals.{due_goal, proceed, take_true, take_and, take_or, take_implies, take_exists, take_forall}
use Rattle.machine.specs.Matching.{due_pairs, bind_value, pass_node}
use Rattle.machine.specs.Backchaining.{try_member}
use Rattle.machine_memory.specs.Settling.{failed_mode, settled}

-- Nothing has failed.
pub settled_kept : (w : List ℕ) (r : Registers) → (r.mode ≡ failed_mode → ⊥) → made w r ≡ settled w r
unfolding settled
settled_kept w r z = rw (ne_eqb _ _ z)

pub settled_as : (w : List ℕ) (s : Registers) (m : Made) → m.registers.mode < failed_mode → made w s ≡ m → settled w s ≡ m
settled_as w s m h e =
    let same : s.mode ≡ m.registers.mode = ap (λ (x : Made). x.registers.mode) e in
    sym (settled_kept w s (λ z. omega (arith, h, z, same))) ∙ e

-- The number of acts plays no part in it.
pub settled_counted : (w : List ℕ) (s : Registers) (u : ℕ)
    → settled w (with_acts s u) ≡ made (settled w s).memory (with_acts (settled w s).registers u)
unfolding settled failed backtrack resume resume_branch resume_goal resume_member with_acts with_mode with_next with_trail with_choice with_goals with_path with_goal with_member
settled_counted w s u = go (eqb s.mode failed_mode) (eqb s.choice 0)
  where
    settling : Registers → Bool → Bool → Made
    settling r a b = cond a (cond b (made w (with_mode r no_mode)) (backtrack w r (r.choice - 1))) (made w r)

    go : (a b : Bool) → settling (with_acts s u) a b ≡ made (settling s a b).memory (with_acts (settling s a b).registers u)
    go false b = refl
    go true false = refl
    go true true = refl

-- The modes of what goes on.
pub proceed_mode : (w : List ℕ) (r : Registers) → (proceed w r).mode < failed_mode
unfolding proceed due_goal with_mode with_goal with_goals
proceed_mode w r = go (eqb r.goals 0)
  where
    go : (b : Bool) → (cond b (with_mode r proved_mode) (due_goal w r (r.goals - 1))).mode < failed_mode
    go true = omega arith
    go false = omega arith

pub pairs_mode : (w : List ℕ) (r : Registers) (a : ℕ) → (due_pairs w r a).mode < failed_mode
unfolding due_pairs with_pairs
pairs_mode w r a = go (eqb a 0)
  where
    go : (b : Bool) → (cond b (proceed w r) (with_pairs r a)).mode < failed_mode
    go true = proceed_mode w r
    go false = omega arith

pub passed_mode : (w : List ℕ) (r : Registers) (z k e : ℕ) → r.mode < failed_mode → (pass_node w r z k e).registers.mode < failed_mode
unfolding pass_node bind_value with_nodes with_trail
passed_mode w r z k e h = go (eqb e 0)
  where
    go : (b : Bool)
        → (cond b (bind_value w r z k) (made (effect w r.acts z k 0 0 r.trail) (with_nodes (with_trail r (increment r.acts)) e))
        ).registers.mode
        < failed_mode
    go true = pairs_mode _ _ _
    go false = h

-- Registers alone.
module _ (w : List ℕ) (r s : Registers) where
  pub settled_pairs : (a : ℕ) → s ≡ due_pairs w r a → settled w s ≡ made w s
  settled_pairs a e = settled_as w s (made w s) (rw e (pairs_mode w r a)) refl

  pub settled_check : (a x v : ℕ) → s ≡ with_check r a x v → settled w s ≡ made w s
  unfolding with_check
  settled_check a x v e = settled_as w s (made w s) (rw e (omega arith)) refl

  pub settled_sides : (x y : ℕ) → r.mode < failed_mode → s ≡ with_sides r x y → settled w s ≡ made w s
  unfolding with_sides
  settled_sides x y h e = settled_as w s (made w s) (rw e h) refl

  pub settled_due : (x : ℕ) → r.mode < failed_mode → s ≡ with_due r x → settled w s ≡ made w s
  unfolding with_due
  settled_due x h e = settled_as w s (made w s) (rw e h) refl

-- Memory and registers.
module _ (w w' : List ℕ) (r s : Registers) where
  pub settled_true : made w' s ≡ take_true w r → settled w' s ≡ take_true w r
  unfolding take_true
  settled_true = settled_as w' s _ (proceed_mode _ _)

  pub settled_and : (t : List ℕ) → made w' s ≡ take_and t w r → settled w' s ≡ take_and t w r
  unfolding take_and with_goal
  settled_and t = settled_as w' s _ (omega arith)

  pub settled_or : (t : List ℕ) → made w' s ≡ take_or t w r → settled w' s ≡ take_or t w r
  unfolding take_or with_goal
  settled_or t = settled_as w' s _ (omega arith)

  pub settled_implies : (t : List ℕ) → made w' s ≡ take_implies t w r → settled w' s ≡ take_implies t w r
  unfolding take_implies with_goal
  settled_implies t = settled_as w' s _ (omega arith)

  pub settled_exists : (t : List ℕ) → made w' s ≡ take_exists t w r → settled w' s ≡ take_exists t w r
  unfolding take_exists with_goal
  settled_exists t = settled_as w' s _ (omega arith)

  pub settled_forall : (t : List ℕ) → made w' s ≡ take_forall t w r → settled w' s ≡ take_forall t w r
  unfolding take_forall with_goal
  settled_forall t = settled_as w' s _ (omega arith)

  pub settled_passed : (z k e : ℕ) → r.mode < failed_mode → made w' s ≡ pass_node w r z k e → settled w' s ≡ pass_node w r z k e
  settled_passed z k e h = settled_as w' s _ (passed_mode w r z k e h)

  pub settled_tried : (t : List ℕ) (c : ℕ) (m : Found) (n : Registers) → made w' s ≡ try_member t c w r m n
      → settled w' s ≡ try_member t c w r m n
  unfolding try_member
  settled_tried t c m n = settled_as w' s _ (pairs_mode _ _ _)
