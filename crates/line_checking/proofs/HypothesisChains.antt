-- Along a chain of hypotheses: what its jumps lead to, and the jump of a hypothesis that makes it longer by one.
use Prim.Native.Nat.{ℕ, zero, suc, ◌+◌, ◌-◌, ◌≤◌}
use native.Mathlib.Omega.{arith}
use mathlib.Core.Path.{◌≡◌, refl, sym, ap, ◌∙◌, subst}
use mathlib.Core.Bool.{Bool, true, false, cond}
use mathlib.Core.List.{List, [], ◌∷◌}
use lib.ListN.{length, take, drop, length-append, length-drop}
use lib.Seq.{take-add}
use borrow.Author.Tests.{ne_eqb}
use Rattle.sequents.specs.Symbols.{Symbol}
use Rattle.sequents.specs.Sequents.{Hypothesis, entries_of}
use Rattle.sequents.proofs.Sequents.{entries_append}
use Rattle.scanning.specs.Fields as fields
use Rattle.line_checking.specs.declared.Links.{Links}
use Rattle.line_checking.specs.HypothesisChains.{saturate, hypothesis_field, next_of, jump_of, passed_of, even_jumps, far_links, near_links, links_after}
use Rattle.line_checking.proofs.Representation.{Setting, climb, JumpAt, HypothesesAt}
use Rattle.memory.specs.Records.{field}

-- The field of a record, by its pointer.
pub hypothesis_field_lem : (w : List ℕ) (r f : ℕ) → hypothesis_field w (suc r) f ≡ field w r f
unfolding hypothesis_field
hypothesis_field_lem w r f = let z : suc r - 1 ≡ r = omega arith in rw (ne_eqb (suc r) 0 (λ q. omega arith), z)

-- Some steps and then some more are their sum.
climb_climb : (a b : ℕ) (w : List ℕ) (h : ℕ) → climb b w (climb a w h) ≡ climb (a + b) w h
unfolding climb
climb_climb zero b w h = let z : b ≡ 0 + b = omega arith in ap (λ (k : ℕ). climb k w h) z
climb_climb (suc a) b w h =
    let z : suc (a + b) ≡ suc a + b = omega arith in
    climb_climb a b w (next_of w h) ∙ ap (λ (k : ℕ). climb k w h) z

module _ (c : Setting) (w : List ℕ) where
  -- Every pointer to hypotheses has a jump; that of none leads nowhere.
  pub jump_at : (k h : ℕ) (l : List (Hypothesis Symbol)) → HypothesesAt c k w h l → JumpAt w h l
  unfolding HypothesesAt hypothesis_field climb saturate entries_of
  jump_at k h [] p =
      subst (λ (z : ℕ). JumpAt w z []) (sym p)
      (record { steps = 0; least = λ q. absurd (omega arith); most = omega arith; there = refl; passed = omega arith })
  jump_at k h (a ∷ l) p = p.5

  -- Steps along the chain lead to the hypotheses that are left.
  pub climb_at : (s k h : ℕ) (l : List (Hypothesis Symbol)) → s ≤ length l → HypothesesAt c k w h l
      → (j : ℕ) × (j ≤ k) × HypothesesAt c j w (climb s w h) (drop s l)
  unfolding HypothesesAt climb
  climb_at zero k h l u p = (k, omega arith, p)
  climb_at (suc s) k h [] u p = absurd (omega arith)
  climb_at (suc s) k h (a ∷ l) u p =
      let r = p.0 in
      let b = p.2.below in
      let e : next_of w h ≡ field w r fields.hypothesis_next =
      ap (λ (z : ℕ). next_of w z) p.1 ∙ hypothesis_field_lem w r fields.hypothesis_next in
      let i = climb_at s r (field w r fields.hypothesis_next) l (omega arith) p.3 in
      let m = i.1 in
      (i.0, omega arith, subst (λ (z : ℕ). HypothesesAt c i.0 w (climb s w z) (drop s l)) (sym e) i.2)

  -- The links L of a hypothesis with m members that is made after those from h on, l: its jump goes some steps along l, and passes their
  -- members and its own.
  pub record Linked (h m : ℕ) (l : List (Hypothesis Symbol)) (L : Links) : Type 0 where
    pub steps : ℕ
    pub most : steps ≤ length l
    pub there : L.jump ≡ climb steps w h
    pub passed : L.passed ≡ saturate (m + length (entries_of (take steps l)))

  pub linked : (k h m : ℕ) (l : List (Hypothesis Symbol)) → HypothesesAt c k w h l → Linked h m l (links_after w h m)
  unfolding links_after far_links near_links climb saturate entries_of
  linked k h m l p = go (even_jumps w h)
    where
      a : JumpAt w h l
      a = jump_at k h l p

      on : (j : ℕ) × (j ≤ k) × HypothesesAt c j w (climb a.steps w h) (drop a.steps l)
      on = climb_at a.steps k h l a.most p

      b : JumpAt w (climb a.steps w h) (drop a.steps l)
      b = jump_at on.0 (climb a.steps w h) (drop a.steps l) on.2

      -- The members that both jumps pass.
      both : length (entries_of (take (a.steps + b.steps) l)) ≡ length (entries_of (take a.steps l))
          + length (entries_of (take b.steps (drop a.steps l)))
      both =
          ap (λ (z : List (Hypothesis Symbol)). length (entries_of z)) (take-add a.steps b.steps l)
          ∙ ap length (entries_append (take a.steps l) (take b.steps (drop a.steps l)))
          ∙ length-append (entries_of (take a.steps l)) (entries_of (take b.steps (drop a.steps l)))

      go : (z : Bool) → Linked h m l (cond z (far_links w h m) (near_links w h m))
      go true =
          let first = a.most in
          let second = b.most in
          let left = length-drop a.steps l in
          let passed = a.passed in
          let passed₂ = ap (λ (z : ℕ). passed_of w z) a.there ∙ b.passed in
          let sum = both in
          record {
            steps = a.steps + b.steps;
            most = omega arith;
            there = ap (λ (z : ℕ). jump_of w z) a.there ∙ b.there ∙ climb_climb a.steps b.steps w h;
            passed = omega arith;
          }
      go false = record { steps = 0; most = omega arith; there = refl; passed = omega arith }

  -- A hypothesis with these links is the latest of a longer chain.
  pub jump_made : (q h m : ℕ) (a : Hypothesis Symbol) (l : List (Hypothesis Symbol)) (L : Links) → Linked h m l L → next_of w (suc q) ≡ h
      → jump_of w (suc q) ≡ L.jump → passed_of w (suc q) ≡ L.passed → length (entries_of (a ∷ [])) ≡ m → JumpAt w (suc q) (a ∷ l)
  unfolding climb
  jump_made q h m a l L k next jump passed own =
      let most = k.most in
      let both = ap length (entries_append (a ∷ []) (take k.steps l))
      ∙ length-append (entries_of (a ∷ [])) (entries_of (take k.steps l)) in
      record {
        steps = suc k.steps;
        least = λ z. omega arith;
        most = omega arith;
        there = jump ∙ k.there ∙ ap (climb k.steps w) (sym next);
        passed = passed ∙ k.passed ∙ ap saturate (ap (◌+ length (entries_of (take k.steps l))) (sym own) ∙ sym both);
      }
