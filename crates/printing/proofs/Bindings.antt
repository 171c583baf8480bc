-- Following bindings: one law for each way through a turn, in the form of the facts on the code's path, and the induction over the
-- turns for any reading of words as terms.
use Prim.Native.Nat.{ℕ, zero, suc, ◌-◌, ◌≤◌, ◌<◌}
use native.Mathlib.Numerals.{sub-one}
use native.Mathlib.Omega.{arith}
use mathlib.Core.Path.{◌≡◌, refl}
use mathlib.Core.List.{List}
use borrow.Author.Tests.{eq-eqb, ne_eqb}
use Rattle.terms.specs.Terms.{Term}
use Rattle.unification.specs.Store.{Leaf, Binding, look}
use Rattle.machine.specs.Records.{cell_of}
use Rattle.machine.specs.Words.{tag_of, name_of}
use Rattle.printing.specs.Bindings.{deref}
use Rattle.unification.proofs.Looking.{hops}

-- No turn is left.
pub deref_end : (n : ℕ) (w : List ℕ) (a : ℕ) → n ≤ 0 → deref n w a ≡ a
unfolding deref
deref_end zero w a p = refl
deref_end (suc n) w a p = absurd (omega arith)

-- The word is no variable.
pub deref_other : (n : ℕ) (w : List ℕ) (a t : ℕ) → t ≡ tag_of a → (t ≡ 1 → ⊥) → deref n w a ≡ a
unfolding deref
deref_other zero w a t et e = refl
deref_other (suc n) w a t et e = simp (deref, ← et, ne_eqb _ _ e)

-- The variable is unbound.
pub deref_free : (n : ℕ) (w : List ℕ) (a t x b z : ℕ) → t ≡ tag_of a → t ≡ 1 → x ≡ name_of a → b ≡ cell_of w x → z ≡ tag_of b → z ≡ 0
    → deref n w a ≡ a
unfolding deref
deref_free zero w a t x b z et e ex eb ez f = refl
deref_free (suc n) w a t x b z et e ex eb ez f = simp (deref, ← et, ← ex, ← eb, ← ez, eq-eqb _ _ e, eq-eqb _ _ f)

-- The binding of the variable is followed.
pub deref_on : (n : ℕ) (w : List ℕ) (a t x b z : ℕ) → 0 < n → t ≡ tag_of a → t ≡ 1 → x ≡ name_of a → b ≡ cell_of w x → z ≡ tag_of b
    → (z ≡ 0 → ⊥) → deref n w a ≡ deref (n - 1) w b
unfolding deref
deref_on zero w a t x b z p et e ex eb ez f = absurd (omega arith)
deref_on (suc n) w a t x b z p et e ex eb ez f = rw (sub-one (suc n)) (simp (deref, ← et, ← ex, ← eb, ← ez, eq-eqb _ _ e, ne_eqb _ _ f))

-- P a t: the word a is read as the term t.
module _ (w : List ℕ) (bs : List Binding) (P : ℕ → Term Leaf → Type 0) where
  -- Where a word stays, so does its term; where a binding is followed, level 1 follows one.
  pub data Turn (a : ℕ) (t : Term Leaf) : Type 0 where
    stays : ((n : ℕ) → deref n w a ≡ a) → look bs t ≡ t → Turn a t
    follows : (u : Term Leaf) → tag_of a ≡ 1 → (tag_of (cell_of w (name_of a)) ≡ 0 → ⊥) → look bs t ≡ look bs u → hops bs t ≡ suc (hops bs u)
        → P (cell_of w (name_of a)) u → Turn a t

  -- The word that is come to is that of level 1's `look`.
  pub deref_look : ((a : ℕ) (t : Term Leaf) → P a t → Turn a t) → (n a : ℕ) (t : Term Leaf) → P a t → hops bs t ≤ n
      → P (deref n w a) (look bs t)
  deref_look turn zero a t p h = go (turn a t p)
    where
      go : Turn a t → P (deref zero w a) (look bs t)
      go (stays e s) = rw (e zero, s) p
      go (follows u e f s k q) = absurd (omega arith)
  deref_look turn (suc n) a t p h = go (turn a t p) (deref_look turn n)
    where
      go : Turn a t → ((b : ℕ) (u : Term Leaf) → P b u → hops bs u ≤ n → P (deref n w b) (look bs u)) → P (deref (suc n) w a) (look bs t)
      go (stays e s) ih = rw (e (suc n), s) p
      go (follows u e f s k q) ih =
          let c = cell_of w (name_of a) in
          let one = deref_on (suc n) w a (tag_of a) (name_of a) c (tag_of c) (omega arith) refl e refl refl refl f in
          rw (one, s, sub-one (suc n)) (ih c u q (omega arith))
