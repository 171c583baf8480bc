-- What keeps a store formed: a level lowered, a variable bound after its range check, fresh variables made.
use Prim.Native.Nat.{ℕ, suc, ◌≤◌, ◌<◌, min}
use mathlib.Core.Path.{◌≡◌, refl, sym, ◌∙◌, subst}
use mathlib.Core.Bool.{Bool, true, false}
use mathlib.Core.List.{List, [], ◌∷◌}
use mathlib.Core.Logic.{◌⊎◌, inl, inr}
use native.Mathlib.Omega.{arith}
use lib.Dec.{eqb, ltb}
use borrow.Author.Tests.{eqb-true, eqb-false, ltb-true, ltb-false}
use Rattle.terms.specs.Lists.{update}
use Rattle.terms.specs.Terms.{Term, Leaves, Appears}
use Rattle.terms.proofs.Lists.{update_same, update_other, all_weaken}
use Rattle.terms.proofs.Terms.{appears_leaves, leaves_weaken}
use Rattle.unification.specs.Store.{Leaf, var, con, Binding, Store, look, lower, bind, fresh_levels, past, fresh, bound_to, solved}
use Rattle.unification.specs.Store.{solution}
use Rattle.unification.specs.Promises.{Below, BelowBinding, Unbound, WellBound, Formed, reading}
use Rattle.unification.proofs.Substitution.{con_not_var, apply_variable}
use Rattle.unification.proofs.Look.{unbound_beyond}
use Rattle.unification.proofs.Solution.{Stays, Enters, bind_appears, unbound_appears}

-- Final values of terms below the next number are below it.
pub reading_below : (s : Store) (t : Term Leaf) (z : ℕ) → Formed s → Leaves t (Below s.next) → Appears (reading s t) (var z)
    → z < s.next
unfolding Below
reading_below s t z f b h =
    let r = apply_variable t (solution s) z h in
    (f.ordered r.0 z (appears_leaves t (Below s.next) (var r.0) b r.1) r.2).0

-- What appears in the final value of a variable that is unbound, or has not been made, is that variable.
pub solution_unbound : (s : Store) (x : ℕ) (a : Leaf) → Formed s → Unbound s.bindings x → Appears (solution s x) a → a ≡ var x
unfolding solution
solution_unbound s x a f u h = unbound_appears s.bindings x a f.bound u h

pub solution_beyond : (s : Store) (x : ℕ) (a : Leaf) → Formed s → s.next ≤ x → Appears (solution s x) a → a ≡ var x
solution_beyond s x a f l h = solution_unbound s x a f (unbound_beyond s.bindings s.next x l f.below) h

-- Levels lowered

-- The level lowered, and the others.
pub lower_same : (s : Store) (z k : ℕ) → (lower s z k).level z ≡ min (s.level z) k
unfolding lower
lower_same s z k = update_same s.level z (min (s.level z) k)

pub lower_other : (s : Store) (z k x : ℕ) → (x ≡ z → ⊥) → (lower s z k).level x ≡ s.level x
unfolding lower
lower_other s z k x d = update_other s.level z (min (s.level z) k) x d

-- No level is raised.
pub lower_le : (s : Store) (z k x : ℕ) → (lower s z k).level x ≤ s.level x
lower_le s z k x = go (eqb x z) refl
  where
    go : (b : Bool) → eqb x z ≡ b → (lower s z k).level x ≤ s.level x
    go true e = rw (eqb-true x z e) (let h = lower_same s z k in omega arith)
    go false e = let h = lower_other s z k x (eqb-false x z e) in omega arith

-- A store stays formed when an unbound variable is lowered.
pub lower_formed : (s : Store) (z k : ℕ) → Unbound s.bindings z → Formed s → Formed (lower s z k)
unfolding lower solution
lower_formed s z k u f =
    record {
      bound = f.bound;
      below = f.below;
      proper = λ x c j l h. proper x c j l h (eqb x z) refl;
      ordered = λ x w l h. ordered x w l h (eqb x z) refl;
    }
  where
    itself : (x : ℕ) (a : Leaf) → eqb x z ≡ true → Appears (solution s x) a → a ≡ var x
    itself x a e h = solution_unbound s x a f (subst (λ (y : ℕ). Unbound s.bindings y) (sym (eqb-true x z e)) u) h

    proper : (x c j : ℕ) → x < s.next → Appears (solution s x) (con c j) → (b : Bool) → eqb x z ≡ b → j ≤ (lower s z k).level x
    proper x c j l h true e = absurd (con_not_var c j x (itself x (con c j) e h))
    proper x c j l h false e = let p = lower_other s z k x (eqb-false x z e) in let q = f.proper x c j l h in omega arith

    ordered : (x w : ℕ) → x < s.next → Appears (solution s x) (var w) → (b : Bool) → eqb x z ≡ b → (w < s.next)
        × ((lower s z k).level w ≤ (lower s z k).level x)
    ordered x w l h true e = let q : w ≡ x = (let p = itself x (var w) e h in cc) in rw q (omega arith)
    ordered x w l h false e =
        let p = lower_other s z k x (eqb-false x z e) in
        let q = f.ordered x w l h in
        (q.0, (let r = lower_le s z k w in let o = q.1 in omega arith))

-- Bindings

-- What a range check for y lets pass.
unfoldable pub Allowed : Store → ℕ → Leaf → Type 0
Allowed s y (var z) = (z ≡ y → ⊥) × (s.level z ≤ s.level y)
Allowed s y (con c k) = k ≤ s.level y

-- A range check that has let everything pass: the binding keeps the store formed.
pub bind_formed : (s : Store) (y : ℕ) (t : Term Leaf) → Unbound s.bindings y → look s.bindings t ≡ t → y < s.next
    → Leaves t (Below s.next)
    → ((a : Leaf) → Appears (reading s t) a → Allowed s y a) → Formed s → Formed (bind s y t)
unfolding bind solution WellBound Allowed
bind_formed s y t u e l b allowed f = record {
  bound = (u, e, (λ h. (allowed (var y) h).0 refl), f.bound);
  below = ((l, b), f.below);
  proper = λ x c k m h. proper x c k m (bind_appears new bs x (con c k) h);
  ordered = λ x z m h. ordered x z m (bind_appears new bs x (var z) h);
}
  where
    bs : List Binding
    bs = s.bindings

    new : Binding
    new = record { name = y; value = t }

    proper : (x c k : ℕ) → x < s.next → Stays new bs x (con c k) ⊎ Enters new bs x (con c k) → k ≤ s.level x
    proper x c k m (inl h) = f.proper x c k m h.0
    proper x c k m (inr h) = let p = (f.ordered x y m h.0).1 in let q = allowed (con c k) h.1 in omega arith

    ordered : (x z : ℕ) → x < s.next → Stays new bs x (var z) ⊎ Enters new bs x (var z) → (z < s.next) × (s.level z ≤ s.level x)
    ordered x z m (inl h) = f.ordered x z m h.0
    ordered x z m (inr h) =
        (reading_below s t z f b h.1, (let p = (f.ordered x y m h.0).1 in let q = (allowed (var z) h.1).1 in omega arith))

-- Fresh variables

-- What is below n is below m, if m is not less.
pub below_more : (t : Term Leaf) (n m : ℕ) → n ≤ m → Leaves t (Below n) → Leaves t (Below m)
unfolding Below
below_more t n m l h = leaves_weaken t (Below n) (Below m) go h
  where
    go : (a : Leaf) → Below n a → Below m a
    go (var x) b = omega arith
    go (con c k) b = tt

-- The number after the fresh variables is no smaller.
pub past_le : (vs : List ℕ) (n : ℕ) → n ≤ past vs n
unfolding past
past_le [] n = omega arith
past_le (v ∷ vs) n = let h = past_le vs (suc n) in omega arith

-- A fresh variable changes no older level.
pub fresh_levels_older : (vs : List ℕ) (n i : ℕ) (l : ℕ → ℕ) (x : ℕ) → x < n → fresh_levels vs n i l x ≡ l x
unfolding fresh_levels
fresh_levels_older [] n i l x h = refl
fresh_levels_older (v ∷ vs) n i l x h =
    fresh_levels_older vs (suc n) i (update l n i) x (omega arith) ∙ update_other l n i x (λ q. omega arith)

-- A store stays formed.
pub fresh_formed : (vs : List ℕ) (i : ℕ) (s : Store) → Formed s → Formed (fresh vs i s)
unfolding fresh solution
fresh_formed vs i s f = record {
  bound = f.bound;
  below = all_weaken (BelowBinding s.next) (BelowBinding (past vs s.next)) more s.bindings f.below;
  proper = λ x c k l h. proper x c k h (ltb x s.next) refl;
  ordered = λ x z l h. ordered x z l h (ltb x s.next) refl;
}
  where
    more : (b : Binding) → BelowBinding s.next b → BelowBinding (past vs s.next) b
    more b h = let p = past_le vs s.next in let q = h.0 in (omega arith, below_more b.value s.next (past vs s.next) p h.1)

    levels : ℕ → ℕ
    levels = fresh_levels vs s.next i s.level

    proper : (x c k : ℕ) → Appears (solution s x) (con c k) → (b : Bool) → ltb x s.next ≡ b → k ≤ levels x
    proper x c k h true e = let l = ltb-true x s.next e in rw (fresh_levels_older vs s.next i s.level x l) (f.proper x c k l h)
    proper x c k h false e = absurd (con_not_var c k x (solution_beyond s x (con c k) f (ltb-false x s.next e) h))

    ordered : (x z : ℕ) → x < past vs s.next → Appears (solution s x) (var z) → (b : Bool) → ltb x s.next ≡ b
        → (z < past vs s.next) × (levels z ≤ levels x)
    ordered x z m h true e =
        let l = ltb-true x s.next e in
        let o = f.ordered x z l h in
        let p = past_le vs s.next in
        let q = o.0 in
        (omega arith, rw (fresh_levels_older vs s.next i s.level x l, fresh_levels_older vs s.next i s.level z o.0) o.1)
    ordered x z m h false e =
        let q : z ≡ x = (let p = solution_beyond s x (var z) f (ltb-false x s.next e) h in cc) in rw q (m, omega arith)

-- A store without bindings.
pub empty_formed : (l : ℕ → ℕ) (n : ℕ) → Formed (record { bindings = []; level = l; next = n })
unfolding WellBound solution bound_to solved Appears
empty_formed l n = record {
  bound = tt;
  below = tt;
  proper = λ x c k m h. absurd (con_not_var c k x h);
  ordered = λ x z m h. (let q : z ≡ x = cc in rw q (m, omega arith));
}
