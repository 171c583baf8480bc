-- Units and numbers: how many are found, with how many units.
use Prim.Native.Nat.{ℕ, zero, suc, ◌+◌, ◌≤◌}
use mathlib.Core.Path.{◌≡◌, refl}
use mathlib.Core.List.{List}
use mathlib.Core.Logic.{◌↔◌}
use mathlib.Core.Option.{Option, none, some}
use native.Mathlib.Omega.{arith}
use lib.ListN.{length}
use Rattle.terms.specs.Lists.{All}
use Rattle.search.specs.Configurations.{Configuration}
use Rattle.search.specs.Search.{start, advance, Verdict, proved, no_proof, verdict_of}
use Rattle.enumeration.specs.Enumeration.{enough, exhausted, Enumeration, Next, finds, none_left, runs_out, reaches, next_proof, go_on}
use Rattle.enumeration.specs.Enumeration.{enumerate_from, enumerate}
use Rattle.enumeration.specs.Promises.{AllCounts}
use Rattle.enumeration.proofs.Climbing.{climbing}

-- The next verdict comes after at least u acts, and units so far and units left are the budget b.
unfoldable pub Between : ℕ → ℕ → Next → Type 0
Between u b (finds f w ds) = (u ≤ w.units) × (w.units + f ≡ b)
Between u b (none_left n) = (u ≤ n) × (n ≤ b)
Between u b runs_out = Unit {0}

-- What comes after one act more comes after at least u acts.
between_more : (u b : ℕ) (x : Next) → Between (suc u) b x → Between u b x
unfolding Between
between_more u b (finds f w ds) h = (let z = h.0 in omega arith, h.1)
between_more u b (none_left n) h = (let z = h.0 in omega arith, h.1)
between_more u b runs_out h = tt

-- An act takes one of the units left.
pub next_between : (left u b : ℕ) (ds : List Configuration) → u + left ≡ b → Between u b (next_proof left u ds)
unfolding next_proof reaches Between
next_between zero u b ds e = go (verdict_of ds)
  where
    go : (o : Option Verdict) → Between u b (elim o [ some v ↦ reaches zero u ds v | none ↦ runs_out ])
    go (some (proved s ls)) = (omega arith, e)
    go (some no_proof) = (omega arith, omega arith)
    go none = tt
next_between (suc left) u b ds e = go (verdict_of ds) (next_between left (suc u) b (advance u ds) (omega arith))
  where
    go : (o : Option Verdict) → Between (suc u) b (next_proof left (suc u) (advance u ds))
        → Between u b (elim o [ some v ↦ reaches (suc left) u ds v | none ↦ next_proof left (suc u) (advance u ds) ])
    go (some (proved s ls)) ih = (omega arith, e)
    go (some no_proof) ih = (omega arith, omega arith)
    go none ih = between_more u b (next_proof left (suc u) (advance u ds)) ih

-- What is promised of an enumeration with a number and a budget.
pub record Counted (wanted budget : ℕ) (r : Enumeration) : Type 0 where
  pub most : length r.found ≤ wanted
  pub reached : (r.end ≡ enough) ↔ (length r.found ≡ wanted)
  pub units : All (λ w. w.units ≤ budget) r.found
  pub last : (n : ℕ) → r.end ≡ exhausted n → n ≤ budget

-- One proof more keeps it so, with one more wanted.
counted_next : (wanted b u : ℕ) (rest : ℕ → ℕ → List Configuration → Enumeration)
    → ((f v : ℕ) (ds : List Configuration) → v + f ≡ b → Counted wanted b (rest f v ds))
    → (x : Next) → Between u b x → Counted (suc wanted) b (go_on rest x)
unfolding go_on Between
counted_next wanted b u rest h (finds f w ds) k =
    let c = h f w.units ds k.1 in
    record {
      most = (let z = c.most in omega arith);
      reached = ((λ e. let z = c.reached.0 e in omega arith), (λ e. c.reached.1 (omega arith)));
      units = ((let z = k.1 in omega arith), c.units);
      last = c.last;
    }
counted_next wanted b u rest h (none_left n) k = record {
  most = omega arith;
  reached = ((λ e. absurd (let z : ◌≡◌ {A = ℕ} 0 1 = cc in omega arith)), (λ e. absurd (omega arith)));
  units = tt;
  last = λ m e. let q : n ≡ m = cc in let z = k.1 in omega arith;
}
counted_next wanted b u rest h runs_out k = record {
  most = omega arith;
  reached = ((λ e. absurd (let z : ◌≡◌ {A = ℕ} 0 1 = cc in omega arith)), (λ e. absurd (omega arith)));
  units = tt;
  last = λ m e. absurd (let z : ◌≡◌ {A = ℕ} 0 1 = cc in omega arith);
}

-- So it is for every number, as long as units so far and units left are the budget.
enumerate_counted : (wanted f u b : ℕ) (ds : List Configuration) → u + f ≡ b → Counted wanted b (enumerate_from wanted f u ds)
unfolding enumerate_from
enumerate_counted zero f u b ds e = record {
  most = omega arith;
  reached = ((λ q. refl), (λ q. refl));
  units = tt;
  last = λ m q. absurd (let z : ◌≡◌ {A = ℕ} 0 1 = cc in omega arith);
}
enumerate_counted (suc wanted) f u b ds e =
    counted_next wanted b u (λ h v cs. enumerate_from wanted h v cs) (λ h v cs q. enumerate_counted wanted h v b cs q) (next_proof f u ds)
    (next_between f u b ds e)

-- At the start all units are left.
pub counts : AllCounts
unfolding enumerate
counts cs g wanted budget =
    let c = enumerate_counted wanted budget 0 budget (start cs g) (omega arith) in
    record { most = c.most; reached = c.reached; units = c.units; climb = climbing cs g wanted budget; last = c.last }
