-- What acts keep holds after any number of acts, and at the end: the one induction over searches, for every invariant.
use Prim.Native.Nat.{ℕ, zero, suc, ◌≤◌}
use mathlib.Core.Path.{◌≡◌, refl, subst}
use mathlib.Core.List.{List, [], ◌∷◌}
use mathlib.Core.Option.{some}
use native.Mathlib.Omega.{arith}
use Rattle.terms.specs.Lists.{All}
use Rattle.terms.proofs.Lists.{all_append, all_weaken}
use Rattle.formulas.specs.Formulas.{Goal, Clause}
use Rattle.formulas.specs.Rules.{Rules}
use Rattle.sequents.specs.Sequents.{Line}
use Rattle.unification.specs.Store.{Leaf, Store}
use Rattle.search.specs.Configurations.{Configuration, take, try, match, done}
use Rattle.search.specs.Steps.{step}
use Rattle.search.specs.Search.{start, advance, after, Verdict, proved, no_proof, verdict_of, ComesTo, ends, search}
use Rattle.search.proofs.Units.{all_units}

-- A property of states, with the number of acts done: true at the start and kept by an act, it is true after any number of acts.
pub after_state : (cs : Rules Clause) (g : Goal) (S : ℕ → List Configuration → Type 0) → S 0 (start cs g)
    → ((u : ℕ) (ds : List Configuration) → S u ds → S (suc u) (advance u ds)) → (n : ℕ) → S n (after cs g n)
unfolding after
after_state cs g S first acts zero = first
after_state cs g S first acts (suc n) = acts n (after cs g n) (after_state cs g S first acts n)

-- So is, of every configuration, a property that a step carries on to what it gives, and that stays while it waits.
pub after_all : (cs : Rules Clause) (g : Goal) (P : ℕ → Configuration → Type 0) → All (P 0) (start cs g)
    → ((u : ℕ) (c : Configuration) → P u c → All (P (suc u)) (step u c))
    → ((u : ℕ) (c : Configuration) → P u c → P (suc u) c) → (n : ℕ) → All (P n) (after cs g n)
unfolding advance
after_all cs g P first acts waits n = after_state cs g (λ u. All (P u)) first act n
  where
    act : (u : ℕ) (ds : List Configuration) → All (P u) ds → All (P (suc u)) (advance u ds)
    act u [] h = tt
    act u (c ∷ ds) h = all_append (P (suc u)) (step u c) ds (acts u c h.0) (all_weaken (P u) (P (suc u)) (waits u) ds h.1)

-- The state at which the verdict is given.
abbrev pub Stands : Verdict → List Configuration → Type 0
Stands (proved s ls) ds = (alternatives : List Configuration) × (ds ≡ done s ls ∷ alternatives)
Stands no_proof ds = ds ≡ []

-- A state with a verdict stands at it.
stands_at : (ds : List Configuration) (v : Verdict) → verdict_of ds ≡ some v → Stands v ds
unfolding verdict_of
stands_at [] v h = let q : no_proof ≡ v = cc in subst (λ (w : Verdict). Stands w []) q refl
stands_at (take s g b ∷ ds) v h = absurd (let z : ◌≡◌ {A = ℕ} 0 1 = cc in omega arith)
stands_at (try s a m ms k b ∷ ds) v h = absurd (let z : ◌≡◌ {A = ℕ} 0 1 = cc in omega arith)
stands_at (match m b ∷ ds) v h = absurd (let z : ◌≡◌ {A = ℕ} 0 1 = cc in omega arith)
stands_at (done s ls ∷ ds) v h = let q : proved s ls ≡ v = cc in subst (λ (w : Verdict). Stands w (done s ls ∷ ds)) q (ds, refl)

-- A search that comes to a verdict after n acts stands there after them.
pub comes_stands : (cs : Rules Clause) (g : Goal) (n : ℕ) (v : Verdict) → ComesTo cs g n v → Stands v (after cs g n)
unfolding ComesTo
comes_stands cs g n v h = stands_at (after cs g n) v h.0

-- The first act is always due.
pub comes_least : (cs : Rules Clause) (g : Goal) (n : ℕ) (v : Verdict) → ComesTo cs g n v → 1 ≤ n
unfolding ComesTo after start verdict_of
comes_least cs g zero v h = absurd (let e = h.0 in let z : ◌≡◌ {A = ℕ} 0 1 = cc in omega arith)
comes_least cs g (suc n) v h = omega arith

-- After its units, a proved search has its final configuration in front.
pub proved_stands : (cs : Rules Clause) (g : Goal) (budget n : ℕ) (s : Store) (path : List (Line Leaf))
    → search budget cs g ≡ ends (proved s path) n → Stands (proved s path) (after cs g n)
proved_stands cs g budget n s path e = comes_stands cs g n (proved s path) (((all_units cs g).tells budget n (proved s path)).0 e).0

-- What holds at the start and is kept by every step holds of the final configuration of a proved search.
pub proved_all : (cs : Rules Clause) (g : Goal) (P : Configuration → Type 0) → All P (start cs g)
    → ((u : ℕ) (c : Configuration) → P c → All P (step u c))
    → (budget n : ℕ) (s : Store) (path : List (Line Leaf)) → search budget cs g ≡ ends (proved s path) n → P (done s path)
proved_all cs g P first acts budget n s path e =
    (subst (All P) (proved_stands cs g budget n s path e).1 (after_all cs g (λ u. P) first acts (λ u c h. h) n)).0

-- A search does not come to no if a property that every act keeps is false of the empty state.
pub never_no_lem : (cs : Rules Clause) (g : Goal) (S : List Configuration → Type 0) → S (start cs g)
    → ((u : ℕ) (ds : List Configuration) → S ds → S (advance u ds)) → (S [] → ⊥)
    → (budget n : ℕ) → search budget cs g ≡ ends no_proof n → ⊥
never_no_lem cs g S first acts empty budget n e =
    empty (subst S (comes_stands cs g n no_proof (((all_units cs g).tells budget n no_proof).0 e).0) (after_state cs g (λ u. S) first acts n))
