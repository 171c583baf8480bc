-- Made constants are named by the act that makes them, so that a path in the walk and the same path by itself name them differently:
-- other numbers for them, in what a proof leaves.
use Rattle.std.specs.Prelude.{ℕ, zero, suc, List, map}
use Rattle.terms.specs.Terms.{Term, leaf, substitute}
use Rattle.sequents.specs.Sequents.{Line, put_line}
use Rattle.unification.specs.Store.{Leaf, var, con, Binding, Store}

-- The new number of a made constant; one of level 0 (there is none in a search) keeps its own.
unfoldable pub renumber : (ℕ → ℕ) → ℕ → ℕ → ℕ
renumber κ c zero = c
renumber κ c (suc k) = κ c

unfoldable pub renumbered : (ℕ → ℕ) → Leaf → Term Leaf
renumbered κ (var x) = leaf (var x)
renumbered κ (con c k) = leaf (con (renumber κ c k) k)

unfoldable pub re_binding : (ℕ → ℕ) → Binding → Binding
re_binding κ b = record { name = b.name; value = substitute b.value (renumbered κ) }

unfoldable pub re_store : (ℕ → ℕ) → Store → Store
re_store κ s = record { bindings = map (re_binding κ) s.bindings; level = s.level; next = s.next }

unfoldable pub re_path : (ℕ → ℕ) → List (Line Leaf) → List (Line Leaf)
re_path κ ls = map (put_line (renumbered κ)) ls
