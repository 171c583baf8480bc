-- The first proof is what the search finds.
use Prim.Native.Nat.{ℕ}
use mathlib.Core.Path.{◌≡◌, refl, sym, ◌∙◌, ap, ap₂, subst}
use mathlib.Core.List.{List, [], ◌∷◌}
use mathlib.Core.Logic.{◌↔◌}
use native.Mathlib.Omega.{arith}
use Rattle.formulas.specs.Formulas.{Goal, Clause}
use Rattle.formulas.specs.Rules.{Rules}
use Rattle.sequents.specs.Sequents.{Line}
use Rattle.unification.specs.Store.{Leaf, Store}
use Rattle.search.specs.Configurations.{Configuration}
use Rattle.search.specs.Search.{start, proved, no_proof, SearchOutcome, ends, spent, search}
use Rattle.enumeration.specs.Enumeration.{Proof, proof_of, exhausted, units_spent, Enumeration, Next, finds, none_left, runs_out}
use Rattle.enumeration.specs.Enumeration.{next_proof, go_on, enumerate_from, enumerate}
use Rattle.enumeration.specs.Smaller.{one_proof}
use Rattle.enumeration.specs.Promises.{AllFirst, OneProof}
use Rattle.enumeration.proofs.Outcomes.{outcome_of, next_outcome}

-- So it is from the start.
search_told : (cs : Rules Clause) (g : Goal) (budget : ℕ) → search budget cs g ≡ outcome_of (next_proof budget 0 (start cs g))
unfolding search
search_told cs g budget = sym (next_outcome budget 0 (start cs g))

-- Proofs with equal parts are equal.
same_proof : (u v : ℕ) (s t : Store) (ls ks : List (Line Leaf)) → u ≡ v → s ≡ t → ls ≡ ks → proof_of u s ls ≡ proof_of v t ks
same_proof u v s t ls ks p q r = ap₂ (λ (x : ℕ) (y : Store). proof_of x y ls) p q ∙ ap (proof_of v t) r

module _ (rest : ℕ → ℕ → List Configuration → Enumeration) where
  told_proves : (x : Next) (n : ℕ) (s : Store) (path : List (Line Leaf))
      → (outcome_of x ≡ ends (proved s path) n) ↔ ((more : List Proof) × ((go_on rest x).found ≡ proof_of n s path ∷ more))
  unfolding outcome_of go_on
  told_proves (finds f w ds) n s path = (
    (λ e. (
      (rest f w.units ds).found,
      ap (◌∷ (rest f w.units ds).found)
          (same_proof w.units n w.store s w.path path (cc) (cc) (cc)),
    )),
    (λ h. let e = h.1 in let q : w ≡ proof_of n s path = cc in ap (λ (v : Proof). ends (proved v.store v.path) v.units) q),
  )
  told_proves (none_left u) n s path = (
    (λ e. absurd (let z : ◌≡◌ {A = ℕ} 0 1 = cc in omega arith)),
    (λ h. absurd (let e = h.1 in let z : ◌≡◌ {A = ℕ} 0 1 = cc in omega arith)),
  )
  told_proves runs_out n s path = (
    (λ e. absurd (let z : ◌≡◌ {A = ℕ} 0 1 = cc in omega arith)),
    (λ h. absurd (let e = h.1 in let z : ◌≡◌ {A = ℕ} 0 1 = cc in omega arith)),
  )

  -- It tells no exactly if nothing is found and no alternative is left.
  told_denies : (x : Next) (n : ℕ) → (outcome_of x ≡ ends no_proof n) ↔ (((go_on rest x).found ≡ []) × ((go_on rest x).end ≡ exhausted n))
  unfolding outcome_of go_on
  told_denies (finds f w ds) n = (
    (λ e. absurd (let z : ◌≡◌ {A = ℕ} 0 1 = cc in omega arith)),
    (λ h. absurd (let e = h.0 in let z : ◌≡◌ {A = ℕ} 0 1 = cc in omega arith)),
  )
  told_denies (none_left u) n =
      ((λ e. (refl, (let q : u ≡ n = cc in ap exhausted q))), (λ h. let e = h.1 in let q : u ≡ n = cc in ap (ends no_proof) q))
  told_denies runs_out n = (
    (λ e. absurd (let z : ◌≡◌ {A = ℕ} 0 1 = cc in omega arith)),
    (λ h. absurd (let e = h.1 in let z : ◌≡◌ {A = ℕ} 0 1 = cc in omega arith)),
  )

  -- It tells spent exactly if nothing is found and the units are spent.
  told_spends : (x : Next) → (outcome_of x ≡ spent) ↔ (((go_on rest x).found ≡ []) × ((go_on rest x).end ≡ units_spent))
  unfolding outcome_of go_on
  told_spends (finds f w ds) = (
    (λ e. absurd (let z : ◌≡◌ {A = ℕ} 0 1 = cc in omega arith)),
    (λ h. absurd (let e = h.0 in let z : ◌≡◌ {A = ℕ} 0 1 = cc in omega arith)),
  )
  told_spends (none_left u) = (
    (λ e. absurd (let z : ◌≡◌ {A = ℕ} 0 1 = cc in omega arith)),
    (λ h. absurd (let e = h.1 in let z : ◌≡◌ {A = ℕ} 0 1 = cc in omega arith)),
  )
  told_spends runs_out = ((λ e. (refl, refl)), (λ h. refl))

-- So it is of the search and the enumeration, whatever is done after the first proof.
pub first_proof : AllFirst
unfolding enumerate enumerate_from
first_proof cs g wanted budget =
    let x = next_proof budget 0 (start cs g) in
    let rest : ℕ → ℕ → List Configuration → Enumeration = λ e v ds. enumerate_from wanted e v ds in
    let q : outcome_of x ≡ search budget cs g = sym (search_told cs g budget) in
    record {
      proves =
          λ n s path. subst (λ (o : SearchOutcome). (o ≡ ends (proved s path) n)
          ↔ ((more : List Proof) × ((go_on rest x).found ≡ proof_of n s path ∷ more))) q (told_proves rest x n s path);
      denies =
          λ n. subst (λ (o : SearchOutcome). (o ≡ ends no_proof n) ↔ (((go_on rest x).found ≡ []) × ((go_on rest x).end ≡ exhausted n))) q
          (told_denies rest x n);
      spends =
          subst (λ (o : SearchOutcome). (o ≡ spent) ↔ (((go_on rest x).found ≡ []) × ((go_on rest x).end ≡ units_spent))) q (told_spends rest x);
    }

-- With number 1 nothing is done after the first proof.
one : (x : Next) → go_on (λ e v ds. enumerate_from 0 e v ds) x ≡ one_proof (outcome_of x)
unfolding go_on enumerate_from one_proof outcome_of
one (finds f w ds) = refl
one (none_left u) = refl
one runs_out = refl

-- So it is the search.
pub one_proof_lem : OneProof
unfolding enumerate enumerate_from
one_proof_lem cs g budget = one (next_proof budget 0 (start cs g)) ∙ ap one_proof (sym (search_told cs g budget))
