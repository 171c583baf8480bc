-- The fresh variables of a prefix are new variables of definition 6: distinct, not in 𝒱, labelled with I.
use Prim.Native.Nat.{ℕ, suc, ◌≤◌, ◌<◌}
use mathlib.Core.Path.{◌≡◌, refl, ap}
use mathlib.Core.Bool.{cond}
use mathlib.Core.List.{List, [], ◌∷◌, map}
use native.Mathlib.Omega.{arith}
use lib.Dec.{eqb}
use lib.ListN.{length}
use Rattle.terms.specs.Lists.{All, Mem, update}
use Rattle.terms.specs.Terms.{leaf}
use Rattle.terms.proofs.Lists.{all_weaken, all_mem}
use Rattle.unification.specs.Store.{var, Store, fresh_levels, past, fresh, fresh_variables, solution}
use Rattle.unification.specs.Labelled.{Labelling}
use Rattle.unification.specs.Promises.{Formed, Labels}
use Rattle.unification.proofs.Look.{unbound_beyond}
use Rattle.unification.proofs.Solution.{bound_to_unbound}
use Rattle.unification.proofs.Stores.{past_le}
use Rattle.search.specs.Procedure.{relabel, Distinct}

-- The numbers of the fresh variables.
unfoldable pub numbers : List ℕ → ℕ → List ℕ
numbers [] n = []
numbers (v ∷ vs) n = n ∷ numbers vs (suc n)

-- One for each name.
pub numbers_length : (vs : List ℕ) (n : ℕ) → length (numbers vs n) ≡ length vs
unfolding numbers
numbers_length [] n = refl
numbers_length (v ∷ vs) n = ap suc (numbers_length vs (suc n))

-- The variables that the search makes have these numbers.
pub numbers_variables : (vs : List ℕ) (n : ℕ) → fresh_variables vs n ≡ map (λ w. leaf (var w)) (numbers vs n)
unfolding numbers fresh_variables
numbers_variables [] n = refl
numbers_variables (v ∷ vs) n = ap (leaf (var n) ∷◌) (numbers_variables vs (suc n))

-- They lie from n on.
numbers_from : (vs : List ℕ) (n : ℕ) → All (λ w. n ≤ w) (numbers vs n)
unfolding numbers
numbers_from [] n = tt
numbers_from (v ∷ vs) n =
    (omega arith, all_weaken (λ w. suc n ≤ w) (λ w. n ≤ w) (λ w h. omega arith) (numbers vs (suc n)) (numbers_from vs (suc n)))

-- They lie below the number after them.
pub numbers_below : (vs : List ℕ) (n : ℕ) → All (λ w. w < past vs n) (numbers vs n)
unfolding numbers past
numbers_below [] n = tt
numbers_below (v ∷ vs) n = (past_le vs (suc n), numbers_below vs (suc n))

-- A number from n on is new among variables below n.
pub not_below : (n : ℕ) (X : List ℕ) → All (λ x. x < n) X → (w : ℕ) → n ≤ w → Mem w X → ⊥
not_below n X h w l m = let q = all_mem (λ x. x < n) X w h m in omega arith

-- The numbers of the fresh variables are new among variables below n.
pub numbers_new : (vs : List ℕ) (n : ℕ) (X : List ℕ) → All (λ x. x < n) X → All (λ w. Mem w X → ⊥) (numbers vs n)
numbers_new vs n X h = all_weaken (λ w. n ≤ w) (λ w. Mem w X → ⊥) (not_below n X h) (numbers vs n) (numbers_from vs n)

-- The numbers of the fresh variables are distinct.
pub numbers_distinct : (vs : List ℕ) (n : ℕ) → Distinct (numbers vs n)
unfolding numbers Distinct
numbers_distinct [] n = tt
numbers_distinct (v ∷ vs) n = (not_from, numbers_distinct vs (suc n))
  where
    not_from : Mem n (numbers vs (suc n)) → ⊥
    not_from m = let q = all_mem (λ w. suc n ≤ w) (numbers vs (suc n)) n (numbers_from vs (suc n)) m in omega arith

-- Their levels are the labels that definition 6 gives them, other levels stay.
relabel_fresh : (vs : List ℕ) (n i : ℕ) (L l : ℕ → ℕ) (x : ℕ) → L x ≡ l x → relabel (numbers vs n) i L x ≡ fresh_levels vs n i l x
unfolding numbers relabel fresh_levels update
relabel_fresh [] n i L l x e = e
relabel_fresh (v ∷ vs) n i L l x e = relabel_fresh vs (suc n) i (update L n i) (update l n i) x (ap (cond (eqb x n) i) e)

-- So the labels stay those of the store.
pub fresh_labels : (vs : List ℕ) (i : ℕ) (s : Store) (L : Labelling) → Labels L s
    → Labels (relabel (numbers vs s.next) i L) (fresh vs i s)
unfolding fresh
fresh_labels vs i s L h x u = relabel_fresh vs s.next i L s.level x (h x u)

-- They are unbound.
pub solution_new : (s : Store) → Formed s → (x : ℕ) → s.next ≤ x → solution s x ≡ leaf (var x)
unfolding solution
solution_new s f x l = bound_to_unbound s.bindings x f.bound (unbound_beyond s.bindings s.next x l f.below)
