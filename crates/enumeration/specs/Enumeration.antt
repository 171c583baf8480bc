-- Request W-202: "The caller gives a number from 1 to 64, and the walk goes on after each proof as if it had failed. The text holds the
-- proofs in walk order, each with its R line and the units so far, then an R line with no or spent if fewer were found."
use Rattle.std.specs.Prelude.{ℕ, zero, suc, List, [], ◌∷◌}
use Rattle.std.proofs.Math.Option.{none, some}
use Rattle.formulas.specs.Formulas.{Goal, Clause}
use Rattle.formulas.specs.Rules.{Rules}
use Rattle.sequents.specs.Sequents.{Line}
use Rattle.unification.specs.Store.{Leaf, Store}
use Rattle.search.specs.Configurations.{Configuration}
use Rattle.search.specs.Search.{start, advance, Verdict, proved, no_proof, verdict_of}

-- A proof that was found: the units of the whole walk so far, the final store, and the D lines, latest first.
pub record Proof : Type 0 where
  pub units : ℕ
  pub store : Store
  pub path : List (Line Leaf)

abbrev pub proof_of : ℕ → Store → List (Line Leaf) → Proof
proof_of u s ls = record { units = u; store = s; path = ls }

-- How the walk ended: the number is reached; no alternative is left, after so many units; an act is due and no unit is left.
pub data End : Type 0 where
  enough : End
  exhausted : ℕ → End
  units_spent : End

pub record Enumeration : Type 0 where
  pub found : List Proof
  pub end : End

-- The walk up to its next verdict. A proof comes with the units left and with the open alternatives.
pub data Next : Type 0 where
  finds : ℕ → Proof → List Configuration → Next
  none_left : ℕ → Next
  runs_out : Next

-- The open alternatives, latest first.
unfoldable pub alternatives : List Configuration → List Configuration
alternatives [] = []
alternatives (c ∷ cs) = cs

-- The units left, the acts done so far, the state, and its verdict.
unfoldable pub reaches : ℕ → ℕ → List Configuration → Verdict → Next
reaches left u ds (proved s ls) = finds left (proof_of u s ls) (alternatives ds)
reaches left u ds no_proof = none_left u

-- The units left, the acts done so far, and the state.
unfoldable pub next_proof : ℕ → ℕ → List Configuration → Next
next_proof zero u ds = elim (verdict_of ds) [ some v ↦ reaches zero u ds v | none ↦ runs_out ]
next_proof (suc left) u ds = elim (verdict_of ds) [ some v ↦ reaches (suc left) u ds v | none ↦ next_proof left (suc u) (advance u ds) ]

-- "as if it had failed": it goes on with the open alternatives, and takes no unit for that.
unfoldable pub go_on : (ℕ → ℕ → List Configuration → Enumeration) → Next → Enumeration
go_on rest (finds left p ds) =
    let r = rest left p.units ds in
    record { found = p ∷ r.found; end = r.end }
go_on rest (none_left u) = record { found = []; end = exhausted u }
go_on rest runs_out = record { found = []; end = units_spent }

-- The number of proofs wanted, the units left, the acts done so far, and the state.
unfoldable pub enumerate_from : ℕ → ℕ → ℕ → List Configuration → Enumeration
enumerate_from zero left u ds = record { found = []; end = enough }
enumerate_from (suc wanted) left u ds = go_on (λ left' u' ds'. enumerate_from wanted left' u' ds') (next_proof left u ds)

unfoldable pub enumerate : ℕ → ℕ → Rules Clause → Goal → Enumeration
enumerate wanted budget cs g = enumerate_from wanted budget 0 (start cs g)
