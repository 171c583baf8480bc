-- The store of a search: bindings, and a level for each logic variable (document 01, "The walk").
use Rattle.std.specs.Prelude.{ℕ, suc, min, ◌<◌, Bool, true, false, cond, List, [], ◌∷◌, ◌++◌, map, eqb}
use Rattle.std.proofs.Math.Option.{Option, none, some}
use Rattle.terms.specs.Lists.{update}
use Rattle.terms.specs.Terms.{Term, leaf, app, substitute}

-- The leaves of the search's terms: a logic variable, by its number, or a made constant, by its number and its level.
pub data Leaf : Type 0 where
  var : ℕ → Leaf
  con : ℕ → ℕ → Leaf

pub record Binding : Type 0 where
  pub name : ℕ
  pub value : Term Leaf

-- The bindings, newest first; the level of each variable; the number that the next fresh variable gets.
pub record Store : Type 0 where
  pub bindings : List Binding
  pub level : ℕ → ℕ
  pub next : ℕ

-- What a variable is bound to, if it is bound.
unfoldable pub binding : List Binding → ℕ → Option (Term Leaf)
binding [] x = none
binding (b ∷ bs) x = cond (eqb x b.name) (some b.value) (binding bs x)

-- One binding followed: what the term is bound to, if it is a variable that is bound. Request W-206 counts each of these.
unfoldable pub follow : List Binding → Term Leaf → Option (Term Leaf)
follow bs (leaf (var x)) = binding bs x
follow bs (leaf (con c k)) = none
follow bs (app f ts) = none

-- "looked through their bindings": the term to which following bindings comes. A variable is bound to the other side as looked
-- through, so one pass, oldest binding first, comes to the end of every chain.
unfoldable pub look1 : Term Leaf → Binding → Term Leaf
look1 (leaf (var x)) b = cond (eqb x b.name) b.value (leaf (var x))
look1 (leaf (con c k)) b = leaf (con c k)
look1 (app f ts) b = app f ts

unfoldable pub look : List Binding → Term Leaf → Term Leaf
look [] t = t
look (b ∷ bs) t = look1 (look bs t) b

-- "lowers a variable above k to k"
unfoldable pub lower : Store → ℕ → ℕ → Store
lower s z k = record { bindings = s.bindings; level = update s.level z (min (s.level z) k); next = s.next }

unfoldable pub bind : Store → ℕ → Term Leaf → Store
bind s y t = record { bindings = record { name = y; value = t } ∷ s.bindings; level = s.level; next = s.next }

-- The levels with the level i for the fresh variables of some names, from number n on; and the number after them.
unfoldable pub fresh_levels : List ℕ → ℕ → ℕ → (ℕ → ℕ) → ℕ → ℕ
fresh_levels [] n i l = l
fresh_levels (v ∷ vs) n i l = fresh_levels vs (suc n) i (update l n i)

unfoldable pub past : List ℕ → ℕ → ℕ
past [] n = n
past (v ∷ vs) n = past vs (suc n)

-- "fresh variables of level I": the store gets one for each of the names.
unfoldable pub fresh : List ℕ → ℕ → Store → Store
fresh vs i s = record { bindings = s.bindings; level = fresh_levels vs s.next i s.level; next = past vs s.next }

unfoldable pub fresh_variables : List ℕ → ℕ → List (Term Leaf)
fresh_variables [] n = []
fresh_variables (v ∷ vs) n = leaf (var n) ∷ fresh_variables vs (suc n)

-- The bindings as one substitution: a list of variables with their terms, in which no bound variable is left. Each binding is
-- put to use in the earlier ones, and the earlier ones in it.
unfoldable pub bound_to : List Binding → ℕ → Term Leaf
bound_to [] x = leaf (var x)
bound_to (b ∷ bs) x = cond (eqb x b.name) b.value (bound_to bs x)

unfoldable pub at : (ℕ → Term Leaf) → Leaf → Term Leaf
at θ (var x) = θ x
at θ (con c k) = leaf (con c k)

abbrev pub apply : Term Leaf → (ℕ → Term Leaf) → Term Leaf
apply t θ = substitute t (at θ)

unfoldable pub only_at : ℕ → Term Leaf → ℕ → Term Leaf
only_at y t = update (λ x. leaf (var x)) y t

unfoldable pub solve1 : Binding → Binding → Binding
solve1 b c = record { name = c.name; value = apply c.value (only_at b.name b.value) }

unfoldable pub solved : List Binding → List Binding
solved [] = []
solved (b ∷ bs) =
    let earlier : List Binding = solved bs in
    let new : Binding = record { name = b.name; value = apply b.value (bound_to earlier) } in
    map (solve1 new) earlier ++ (new ∷ [])

-- S(x), the final value of a variable.
unfoldable pub solution : Store → ℕ → Term Leaf
solution s x = bound_to (solved s.bindings) x
