-- Clauses in trying order, with the order in force (request W-207). The order stands with the clauses, so that the search, the places
-- of D lines and the checker follow one definition.
use Rattle.std.specs.Prelude.{List, [], ◌∷◌, ◌++◌, map}

-- "The default trying order becomes the sheet's clauses in order, then the assumptions, oldest first. A sheet that relied on the
-- former order says so with a first line `O latest`": the assumptions, latest first, then the sheet's clauses in order.
pub data Order : Type 0 where
  oldest latest : Order

-- Clauses, of whatever kind, in trying order.
pub record Rules (A : Type 0) : Type 0 where
  pub order : Order
  pub clauses : List A

abbrev pub rules : {A : Type 0} → Order → List A → Rules A
rules o l = record { order = o; clauses = l }

-- One more assumption, the latest: it is tried last by default, and first with `O latest`.
unfoldable pub joined : {A : Type 0} → Order → A → List A → List A
joined oldest a l = l ++ (a ∷ [])
joined latest a l = a ∷ l

abbrev pub assume : {A : Type 0} → A → Rules A → Rules A
assume a R = rules R.order (joined R.order a R.clauses)

-- Something else in the place of each clause.
abbrev pub map_rules : {A B : Type 0} → (A → B) → Rules A → Rules B
map_rules f R = rules R.order (map f R.clauses)
