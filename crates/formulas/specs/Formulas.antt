-- Document 01, "The sheet": goals and clauses over named variables (0 to 7), and where a variable stands free.
-- Nothing is ever substituted into a formula: it is paired with an environment, which says what its free names stand for.
use Rattle.std.specs.Prelude.{ℕ, zero, suc, Bool, true, false, not, ◌&&◌, ◌||◌, List, [], ◌∷◌, eqb}
use Rattle.std.proofs.Math.Option.{Option, none, some}
use Rattle.terms.specs.Terms.{Term, leaf, app, Terms, nil, cons}

-- Goals G ::= A | true | G ∧ G | G ∨ G | D ⊃ G | ∃v G | ∀v G and clauses D ::= A | G ⊃ A | D ∧ D | ∀v D.
-- A predicate is named by the number of its symbol.
mutual
  pub data Goal : Type 0 where
    atom : ℕ → Terms ℕ → Goal
    truth : Goal
    and or : Goal → Goal → Goal
    implies : Clause → Goal → Goal
    exists forall : ℕ → Goal → Goal

  pub data Clause : Type 0 where
    fact : ℕ → Terms ℕ → Clause
    rule : Goal → ℕ → Terms ℕ → Clause
    both : Clause → Clause → Clause
    each : ℕ → Clause → Clause

-- "The innermost E or U binds a variable": v stands free.
unfoldable mutual
  pub free_t : Term ℕ → ℕ → Bool
  free_t (leaf w) v = eqb w v
  free_t (app f ts) v = free_ts ts v

  pub free_ts : Terms ℕ → ℕ → Bool
  free_ts nil v = false
  free_ts (cons t ts) v = free_t t v || free_ts ts v

unfoldable mutual
  pub free_g : Goal → ℕ → Bool
  free_g (atom p ts) v = free_ts ts v
  free_g truth v = false
  free_g (and a b) v = free_g a v || free_g b v
  free_g (or a b) v = free_g a v || free_g b v
  free_g (implies c g) v = free_c c v || free_g g v
  free_g (exists w g) v = not (eqb w v) && free_g g v
  free_g (forall w g) v = not (eqb w v) && free_g g v

  pub free_c : Clause → ℕ → Bool
  free_c (fact p ts) v = free_ts ts v
  free_c (rule g p ts) v = free_g g v || free_ts ts v
  free_c (both a b) v = free_c a v || free_c b v
  free_c (each w c) v = not (eqb w v) && free_c c v

-- The name v stands free in the body of a member, if it has one.
unfoldable pub free_b : Option Goal → ℕ → Bool
free_b none v = false
free_b (some g) v = free_g g v

-- "variable v, 0 to 7": the names of a sheet.
abbrev pub variable_names : ℕ
variable_names = 8

-- "Free variables of the goal are the ones reported": of n names from v on, ascending.
unfoldable pub free_from : ℕ → ℕ → Goal → List ℕ
free_from zero v g = []
free_from (suc n) v g = elim (free_g g v) [ true ↦ v ∷ free_from n (suc v) g | false ↦ free_from n (suc v) g ]

unfoldable pub free_variables : Goal → List ℕ
free_variables g = free_from variable_names 0 g
