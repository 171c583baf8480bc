-- The states of the walk that goes on after each proof are those of the enumeration.
use Prim.Native.Nat.{ℕ, zero, suc, ◌+◌}
use mathlib.Core.Path.{◌≡◌, refl, sym, ◌∙◌, ap, subst}
use mathlib.Core.List.{List, [], ◌∷◌}
use mathlib.Core.Option.{Option, none, some}
use native.Mathlib.Omega.{arith}
use Rattle.terms.specs.Lists.{All}
use Rattle.formulas.specs.Formulas.{Goal, Clause}
use Rattle.formulas.specs.Rules.{Rules}
use Rattle.sequents.specs.Sequents.{Line}
use Rattle.unification.specs.Store.{Leaf, Store}
use Rattle.search.specs.Configurations.{Configuration, take, try, match, done}
use Rattle.search.specs.Search.{start, advance, Verdict, proved, no_proof, verdict_of}
use Rattle.enumeration.specs.Enumeration.{Next, finds, none_left, runs_out}
use Rattle.enumeration.specs.Enumeration.{alternatives, reaches, next_proof, go_on, enumerate_from, enumerate}
use Rattle.enumeration.specs.GoingOn.{pass_proof, state_after}
use Rattle.enumeration.specs.Promises.{StatesFound, AllStates}
use Rattle.enumeration.proofs.Scripts.{Finished}
use Rattle.enumeration.proofs.Climbing.{Unfinished, AtLeast, not_proved, next_more}

-- A state that is a proof is that proof with its alternatives,
proved_front : (ds : List Configuration) (s : Store) (ls : List (Line Leaf)) → verdict_of ds ≡ some (proved s ls)
    → ds ≡ done s ls ∷ alternatives ds
unfolding verdict_of alternatives
proved_front [] s ls e = absurd (let z : ◌≡◌ {A = ℕ} 0 1 = cc in omega arith)
proved_front (take t g b ∷ ds) s ls e = absurd (let z : ◌≡◌ {A = ℕ} 0 1 = cc in omega arith)
proved_front (try t a m ms k b ∷ ds) s ls e = absurd (let z : ◌≡◌ {A = ℕ} 0 1 = cc in omega arith)
proved_front (match m b ∷ ds) s ls e = absurd (let z : ◌≡◌ {A = ℕ} 0 1 = cc in omega arith)
proved_front (done t ks ∷ ds) s ls e = let p : t ≡ s = cc in let q : ks ≡ ls = cc in rw (p, q)

-- one with no proof is empty,
no_proof_empty : (ds : List Configuration) → verdict_of ds ≡ some no_proof → ds ≡ []
unfolding verdict_of
no_proof_empty [] e = refl
no_proof_empty (take t g b ∷ ds) e = absurd (let z : ◌≡◌ {A = ℕ} 0 1 = cc in omega arith)
no_proof_empty (try t a m ms k b ∷ ds) e = absurd (let z : ◌≡◌ {A = ℕ} 0 1 = cc in omega arith)
no_proof_empty (match m b ∷ ds) e = absurd (let z : ◌≡◌ {A = ℕ} 0 1 = cc in omega arith)
no_proof_empty (done t ks ∷ ds) e = absurd (let z : ◌≡◌ {A = ℕ} 0 1 = cc in omega arith)

-- and in one with an act due there is no proof to pass.
due_pass : (ds : List Configuration) → verdict_of ds ≡ none → pass_proof ds ≡ ds
unfolding verdict_of pass_proof
due_pass [] e = refl
due_pass (take t g b ∷ ds) e = refl
due_pass (try t a m ms k b ∷ ds) e = refl
due_pass (match m b ∷ ds) e = refl
due_pass (done t ks ∷ ds) e = absurd (let z : ◌≡◌ {A = ℕ} 0 1 = cc in omega arith)

-- Nor is there one where no configuration is a proof.
waits_pass : (ds : List Configuration) → All Unfinished ds → pass_proof ds ≡ ds
unfolding pass_proof Finished
waits_pass [] h = refl
waits_pass (take t g b ∷ ds) h = refl
waits_pass (try t a m ms k b ∷ ds) h = refl
waits_pass (match m b ∷ ds) h = refl
waits_pass (done t ks ∷ ds) h = absurd (h.0 tt)

module _ (cs : Rules Clause) (g : Goal) (budget : ℕ) where
  -- After u acts the state is ds, or ds is what is left when a proof is passed.
  record At (u : ℕ) (ds : List Configuration) : Type 0 where
    onward : pass_proof (state_after cs g u) ≡ pass_proof ds
    front : (s : Store) (ls : List (Line Leaf)) → verdict_of ds ≡ some (proved s ls) → state_after cs g u ≡ ds

  -- An act leads to the next state.
  at_next : (u : ℕ) (ds : List Configuration) → At u ds → verdict_of ds ≡ none → At (suc u) (advance u ds)
  unfolding state_after
  at_next u ds h e =
      let q : state_after cs g (suc u) ≡ advance u ds = ap (advance u) (h.onward ∙ due_pass ds e) in
      record { onward = ap pass_proof q; front = λ s ls k. q }

  -- What the next verdict says of the states.
  unfoldable Reached : Next → Type 0
  Reached (finds left p es) = (left + p.units ≡ budget) × (state_after cs g p.units ≡ done p.store p.path ∷ es)
  Reached (none_left n) = pass_proof (state_after cs g n) ≡ []
  Reached runs_out = verdict_of (pass_proof (state_after cs g budget)) ≡ none

  reaches_state : (left u : ℕ) (ds : List Configuration) (v : Verdict) → left + u ≡ budget → At u ds → verdict_of ds ≡ some v
      → Reached (reaches left u ds v)
  unfolding reaches Reached pass_proof
  reaches_state left u ds (proved s ls) l h e = (l, h.front s ls e ∙ proved_front ds s ls e)
  reaches_state left u ds no_proof l h e = h.onward ∙ ap pass_proof (no_proof_empty ds e)

  next_state : (left u : ℕ) (ds : List Configuration) → left + u ≡ budget → At u ds → Reached (next_proof left u ds)
  unfolding next_proof Reached
  next_state zero u ds l h = go (verdict_of ds) refl
    where
      go : (o : Option Verdict) → verdict_of ds ≡ o → Reached (elim o [ some v ↦ reaches zero u ds v | none ↦ runs_out ])
      go (some v) e = reaches_state zero u ds v l h e
      go none e =
          let b : u ≡ budget = omega (arith, l) in
          subst (λ (n : ℕ). verdict_of (pass_proof (state_after cs g n)) ≡ none) b (ap verdict_of (h.onward ∙ due_pass ds e) ∙ e)
  next_state (suc left) u ds l h = go (verdict_of ds) refl (λ k. next_state left (suc u) (advance u ds) (omega arith) k)
    where
      go : (o : Option Verdict) → verdict_of ds ≡ o → (At (suc u) (advance u ds) → Reached (next_proof left (suc u) (advance u ds)))
          → Reached (elim o [ some v ↦ reaches (suc left) u ds v | none ↦ next_proof left (suc u) (advance u ds) ])
      go (some v) e ih = reaches_state (suc left) u ds v l h e
      go none e ih = ih (at_next u ds h e)

  -- The open alternatives, none of which is a proof, are the state after the proof is passed.
  at_waits : (u : ℕ) (ds : List Configuration) → pass_proof (state_after cs g u) ≡ ds → All Unfinished ds → At u ds
  at_waits u ds e h = record { onward = e ∙ sym (waits_pass ds h); front = λ s ls k. absurd (not_proved ds s ls h k) }

  states_from : (wanted left u : ℕ) (ds : List Configuration) → left + u ≡ budget → pass_proof (state_after cs g u) ≡ ds → All Unfinished ds
      → StatesFound cs g budget (enumerate_from wanted left u ds)
  unfolding enumerate_from go_on AtLeast Reached pass_proof
  states_from zero left u ds l e h = record {
    proofs = tt;
    last = λ n q. absurd (let z : ◌≡◌ {A = ℕ} 0 1 = cc in omega arith);
    spends = λ q. absurd (let z : ◌≡◌ {A = ℕ} 0 1 = cc in omega arith);
  }
  states_from (suc wanted) left u ds l e h =
      go (λ f v es. states_from wanted f v es) (next_proof left u ds) (next_more left u ds h) (next_state left u ds l (at_waits u ds e h))
    where
      go : ((f v : ℕ) (es : List Configuration) → f + v ≡ budget → pass_proof (state_after cs g v) ≡ es → All Unfinished es
          → StatesFound cs g budget (enumerate_from wanted f v es)) → (x : Next) → AtLeast (suc u) x → Reached x
          → StatesFound cs g budget (go_on (λ f v es. enumerate_from wanted f v es) x)
      go ih (finds f p es) a k =
          let r = ih f p.units es k.0 (ap pass_proof k.1) a.1 in
          record { proofs = ((es, k.1), r.proofs); last = r.last; spends = r.spends }
      go ih (none_left m) a k = record {
        proofs = tt;
        last = λ n q. (let z : m ≡ n = cc in subst (λ (i : ℕ). pass_proof (state_after cs g i) ≡ []) z k);
        spends = λ q. absurd (let z : ◌≡◌ {A = ℕ} 0 1 = cc in omega arith);
      }
      go ih runs_out a k = record {
        proofs = tt;
        last = λ n q. absurd (let z : ◌≡◌ {A = ℕ} 0 1 = cc in omega arith);
        spends = λ q. k;
      }

-- So it is from the start, where an act is due.
pub all_states_lem : AllStates
unfolding enumerate start state_after pass_proof Finished
all_states_lem cs g wanted budget = states_from cs g budget wanted budget 0 (start cs g) (omega arith) refl ((λ h. h), tt)
