-- Laws of `specs/Answers.antt`: the final values of a search are a solution of its final store.
use Prim.Native.Nat.{ℕ, ◌≤◌, ◌<◌}
use mathlib.Core.Path.{◌≡◌, refl, ap, fun_ext}
use mathlib.Core.Bool.{Bool, true, false, cond}
use native.Mathlib.Omega.{arith}
use lib.Dec.{ltb}
use borrow.Author.Tests.{ltb-true}
use Rattle.terms.specs.Terms.{sheet_symbol, leaf, app, nil, substitute, level_by}
use Rattle.sequents.specs.Symbols.{leftover, symbol_level, level}
use Rattle.unification.specs.Store.{Leaf, var, con, Store, at, solution}
use Rattle.unification.specs.Promises.{Formed}
use Rattle.unification.proofs.Valuation.{value}
use Rattle.unification.proofs.General.{general, general_solves}
use Rattle.search.specs.Search.{start_environment}
use Rattle.search.specs.Answers.{symbol_under, final, final_environment}
use Rattle.search.proofs.Values.{symbols, Valuation, valued, Solution}

-- An unbound variable is a leftover variable of its final level.
unfoldable pub leftovers : Store → Valuation
leftovers s x = leaf (leftover x (s.level x))

-- The final values are the general solution with leftover variables for the unbound ones.
abbrev pub final_values : Store → Valuation
final_values s = general symbols s.bindings (leftovers s)

-- The valuation `final_values` gives each leaf its final value.
pub final_valued : (s : Store) → valued (final_values s) ≡ final s
unfolding value final general symbols symbol_under leftovers at solution substitute
final_valued s = fun_ext go
  where
    symbol : (a : Leaf) → value symbols (leftovers s) a ≡ symbol_under s.level a
    symbol (var x) = refl
    symbol (con c k) = refl

    go : (a : Leaf) → valued (final_values s) a ≡ final s a
    go (var x) = ap (substitute (solution s x)) (fun_ext symbol)
    go (con c k) = refl

-- The valuation `final_values` solves the store.
pub final_solves : (s : Store) → Formed s → Solution (final_values s) s
unfolding leftovers symbols level_by symbol_level
final_solves s f = general_solves symbols s (leftovers s) f (λ z l u. omega arith)

-- What the names of the goal stand for has level 0, if the first variables do: the other names stand for a constant of the sheet.
pub final_level0 : (s : Store) → ((x : ℕ) → x < 8 → level (final s (var x)) ≤ 0) → (v : ℕ) → level (final_environment s v) ≤ 0
unfolding final_environment start_environment substitute level level_by
final_level0 s h v = go (ltb v 8) refl
  where
    go : (b : Bool) → ltb v 8 ≡ b → level (substitute (cond b (leaf (var v)) (app (sheet_symbol 0) nil)) (final s)) ≤ 0
    go true e = h v (ltb-true v 8 e)
    go false e = omega arith
