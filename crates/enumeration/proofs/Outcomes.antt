-- The search of document 01 is the walk up to its first verdict.
use Prim.Native.Nat.{ℕ, zero, suc}
use mathlib.Core.Path.{◌≡◌, refl}
use mathlib.Core.List.{List}
use mathlib.Core.Option.{Option, none, some}
use Rattle.search.specs.Configurations.{Configuration}
use Rattle.search.specs.Search.{advance, Verdict, proved, no_proof, verdict_of, SearchOutcome, ends, spent, search_from}
use Rattle.enumeration.specs.Enumeration.{Next, finds, none_left, runs_out, reaches, next_proof}

-- What the search tells where the walk comes to its next verdict.
unfoldable pub outcome_of : Next → SearchOutcome
outcome_of (finds left p ds) = ends (proved p.store p.path) p.units
outcome_of (none_left u) = ends no_proof u
outcome_of runs_out = spent

reaches_outcome : (left u : ℕ) (ds : List Configuration) (v : Verdict) → outcome_of (reaches left u ds v) ≡ ends v u
unfolding reaches outcome_of
reaches_outcome left u ds (proved s ls) = refl
reaches_outcome left u ds no_proof = refl

pub next_outcome : (left u : ℕ) (ds : List Configuration) → outcome_of (next_proof left u ds) ≡ search_from left u ds
unfolding next_proof search_from outcome_of
next_outcome zero u ds = go (verdict_of ds)
  where
    go : (o : Option Verdict) → outcome_of (elim o [ some v ↦ reaches zero u ds v | none ↦ runs_out ])
        ≡ (elim o [ some v ↦ ends v u | none ↦ spent ])
    go (some v) = reaches_outcome zero u ds v
    go none = refl
next_outcome (suc left) u ds = go (verdict_of ds) (next_outcome left (suc u) (advance u ds))
  where
    go : (o : Option Verdict) → outcome_of (next_proof left (suc u) (advance u ds)) ≡ search_from left (suc u) (advance u ds)
        → outcome_of (elim o [ some v ↦ reaches (suc left) u ds v | none ↦ next_proof left (suc u) (advance u ds) ])
        ≡ (elim o [ some v ↦ ends v u | none ↦ search_from left (suc u) (advance u ds) ])
    go (some v) h = reaches_outcome (suc left) u ds v
    go none h = h
