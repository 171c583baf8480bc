-- What a proved search reports (document 01, "The answer text"): terms "with final bindings and levels", lines "in the order
-- taken on the successful path".
use Rattle.std.specs.Prelude.{ℕ, List, map, reverse}
use Rattle.terms.specs.Terms.{Term, leaf, substitute}
use Rattle.sequents.specs.Symbols.{Symbol, made, leftover}
use Rattle.sequents.specs.Sequents.{Environment, Line, put_line, put_environment}
use Rattle.unification.specs.Store.{Leaf, var, con, Store, at, solution}
use Rattle.unification.specs.Labelled.{Labelling}
use Rattle.search.specs.Search.{start_environment}

-- An unbound variable is a leftover variable of its final level; a made constant is itself.
unfoldable pub symbol_under : Labelling → Leaf → Term Symbol
symbol_under L (var x) = leaf (leftover x (L x))
symbol_under L (con c k) = leaf (made c k)

-- The final value of a leaf: the bindings applied, then the symbols.
unfoldable pub final : Store → Leaf → Term Symbol
final s l = substitute (at (solution s) l) (symbol_under s.level)

-- What the names of the goal stand for at the end, and the D lines in the order taken.
unfoldable pub final_environment : Store → Environment Symbol
final_environment s = put_environment (final s) start_environment

unfoldable pub final_lines : Store → List (Line Leaf) → List (Line Symbol)
final_lines s path = map (put_line (final s)) (reverse path)
