-- "Every successful path of the walk": a path of the search as the choices made at its acts. At each act a path says which of the
-- configurations that the act gives it goes on with. So it is a list of numbers, a script, and speaks of no other path, of no order and
-- of no budget.
use Rattle.std.specs.Prelude.{ℕ, zero, suc, ◌<◌, ◌≡◌, List, [], ◌∷◌, ◌⊎◌}
use Rattle.terms.specs.Lists.{All}
use Rattle.terms.specs.Terms.{leaf}
use Rattle.formulas.specs.Formulas.{Goal, Clause}
use Rattle.formulas.specs.Rules.{Rules}
use Rattle.sequents.specs.Sequents.{Line, plain, Dsome, Dall, Dclause}
use Rattle.unification.specs.Store.{Leaf, var, Store}
use Rattle.search.specs.Configurations.{branch, Configuration, take, try, match, done}
use Rattle.search.specs.Steps.{step}
use Rattle.search.specs.Search.{start_store, start_goal}

abbrev pub Script : Type 0
Script = List ℕ

-- What an act gives to choose from, u acts having been done. Where the list of goals is empty no act is due.
unfoldable pub acts : ℕ → Configuration → List Configuration
acts u (take s g b) = step u (take s g b)
acts u (try s a m ms k b) = step u (try s a m ms k b)
acts u (match m b) = step u (match m b)
acts u (done s ls) = []

-- The element a stands at place i, the first place being 0.
unfoldable pub Stands : {A : Type 0} → List A → ℕ → A → Type 0
Stands [] i a = ⊥
Stands (b ∷ l) zero a = b ≡ a
Stands (b ∷ l) (suc i) a = Stands l i a

-- The script leads from c to d, its acts being numbered from u on.
unfoldable pub LeadsTo : Script → ℕ → Configuration → Configuration → Type 0
LeadsTo [] u c d = c ≡ d
LeadsTo (i ∷ is) u c d = (e : Configuration) × Stands (acts u c) i e × LeadsTo is (suc u) e d

-- The start has one configuration.
unfoldable pub root : Rules Clause → Goal → Configuration
root cs g = take start_store (start_goal cs g) (branch [] [])

-- It succeeds if it ends where the list of goals is empty: with this store and these D lines. Its own acts alone are counted.
unfoldable pub SucceedsWith : Rules Clause → Goal → Script → Store → List (Line Leaf) → Type 0
SucceedsWith cs g is s ls = LeadsTo is 0 (root cs g) (done s ls)

abbrev pub Succeeds : Rules Clause → Goal → Script → Type 0
Succeeds cs g is = (s : Store) × ((ls : List (Line Leaf)) × SucceedsWith cs g is s ls)

-- Walk order: where two paths part, the one that goes on with the earlier configuration is before the other.
unfoldable pub Before : Script → Script → Type 0
Before [] js = ⊥
Before (i ∷ is) [] = ⊥
Before (i ∷ is) (j ∷ js) = (i < j) ⊎ ((i ≡ j) × Before is js)

-- Each is before all that follow it; so none stands twice.
unfoldable pub Ascending : List Script → Type 0
Ascending [] = Unit {0}
Ascending (p ∷ ps) = All (Before p) ps × Ascending ps

-- A D line without its terms: its word, and the place of a clause.
unfoldable pub bare : {A : Type 0} → Line A → Line Leaf
bare (plain w) = plain w
bare (Dsome t) = Dsome (leaf (var 0))
bare (Dall t) = Dall (leaf (var 0))
bare (Dclause k ts) = Dclause k []
