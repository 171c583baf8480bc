-- Document 01, "A clause's members" (document 003, definition 2, elab): a clause as a list of facts and rules, each with
-- the names that its quantifiers bind. A "member" is an elaborated clause.
use Rattle.std.specs.Prelude.{ℕ, Bool, true, false, not, ◌&&◌, ◌||◌, cond, List, [], ◌∷◌, ◌++◌, map}
use Rattle.std.proofs.Math.Option.{Option, none, some}
use Rattle.terms.specs.Lists.{elem}
use Rattle.terms.specs.Terms.{Terms}
use Rattle.formulas.specs.Formulas.{Goal, Clause, fact, rule, both, each, free_ts, free_b}

-- ∀ prefix (body ⊃ predicate(arguments)). "Prefixes are read outermost first."
pub record Member : Type 0 where
  pub prefix : List ℕ
  pub predicate : ℕ
  pub arguments : Terms ℕ
  pub body : Option Goal

-- The name v stands free in the member, below the quantifiers that it has already.
unfoldable pub stands_free : ℕ → Member → Bool
stands_free v m = not (elem v m.prefix) && (free_ts m.arguments v || free_b m.body v)

-- "U adds its variable to the prefix of each member in which it stands free."
unfoldable pub quantify : ℕ → Member → Member
quantify v m = cond (stands_free v m)
    (record { prefix = v ∷ m.prefix; predicate = m.predicate; arguments = m.arguments; body = m.body }) m

-- "an atom or > is one member; & gives the left's, then the right's"
unfoldable pub members : Clause → List Member
members (fact p ts) = record { prefix = []; predicate = p; arguments = ts; body = none } ∷ []
members (rule g p ts) = record { prefix = []; predicate = p; arguments = ts; body = some g } ∷ []
members (both a b) = members a ++ members b
members (each v c) = map (quantify v) (members c)
