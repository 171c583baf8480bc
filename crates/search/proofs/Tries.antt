-- Every try of a search ends as T3 says: by its branch with a most general unifier bound, or, where there is none, by the members left.
use Prim.Native.Nat.{ℕ, zero, suc, ◌+◌, ◌≤◌, ◌<◌}
use mathlib.Core.Path.{◌≡◌, refl, sym, ◌∙◌, ap, subst}
use mathlib.Core.List.{List, [], ◌∷◌, ◌++◌, append_assoc}
use mathlib.Core.Logic.{◌⊎◌, inl, inr}
use native.Mathlib.Omega.{arith}
use Rattle.terms.specs.Lists.{All}
use Rattle.formulas.specs.Formulas.{Goal, Clause}
use Rattle.formulas.specs.Rules.{Rules}
use Rattle.sequents.specs.Sequents.{Entry}
use Rattle.unification.specs.Store.{Leaf, Store}
use Rattle.unification.specs.Matching.{Matching, pairs, check, fail, match_step, match_steps, Ended}
use Rattle.unification.specs.Labelled.{Labelling}
use Rattle.unification.specs.Promises.{Labels, Matches}
use Rattle.search.specs.Configurations.{Branch, Atom, Configuration, try, match}
use Rattle.search.specs.Steps.{proceed, settle, try_from, tried_store, tried_branch, step}
use Rattle.search.specs.Search.{advance, after}
use Rattle.search.specs.Promises.{tried_atoms, Trying, WellFormed, Matched, NotMatched, AllTries}
use Rattle.search.proofs.ProcedureTried.{try_step}
use Rattle.search.proofs.ProcedureSearch.{all_steps}

module _ (cs : Rules Clause) (g : Goal) (n : ℕ) (s : Store) (a : Atom) (m : Entry Leaf) (ms : List (Entry Leaf)) (k : ℕ) (b : Branch)
    (ds : List Configuration) (due : after cs g n ≡ try s a m ms k b ∷ ds) where
  -- The match of the two atoms after j steps.
  abbrev Steps : ℕ → Matching
  Steps j = match_steps j (pairs (tried_store s a m) (tried_atoms s a m))

  abbrev Rest : List Configuration
  Rest = try_from s a ms (suc k) b ++ ds

  -- The search stands at the match after the try and j acts of matching.
  abbrev At : ℕ → Type 0
  At j = after cs g (suc n + j) ≡ settle (Steps (suc j)) (tried_branch s a m k b) ++ Rest

  at_start : At 0
  unfolding after advance
  at_start =
      let q : suc n + 0 ≡ suc n = omega arith in
      ap (after cs g) q ∙ ap (advance n) due
      ∙ ap (◌++ ds) (try_step n s a m ms k b)
      ∙ append_assoc (settle (Steps 1) (tried_branch s a m k b)) (try_from s a ms (suc k) b) ds

  -- While the match has not ended, an act of the search is a step of it.
  settle_next : (u : ℕ) (x : Matching) → (Ended x → ⊥)
      → advance u (settle x (tried_branch s a m k b) ++ Rest) ≡ settle (match_step x) (tried_branch s a m k b) ++ Rest
  unfolding settle advance step Ended
  settle_next u (pairs st []) h = absurd (h tt)
  settle_next u (pairs st (p ∷ ps)) h = refl
  settle_next u (check st y t v vs ps) h = refl
  settle_next u fail h = absurd (h tt)

  at_next : (j : ℕ) → (Ended (Steps (suc j)) → ⊥) → At j → At (suc j)
  unfolding after match_steps
  at_next j h e =
      let q : suc n + suc j ≡ suc (suc n + j) = omega arith in
      ap (after cs g) q ∙ ap (advance (suc n + j)) e ∙ settle_next (suc n + j) (Steps (suc j)) h

  -- A match that has ended has succeeded or failed.
  module _ (L : Labelling) (M : Matches (tried_store s a m) (tried_atoms s a m) L) where
    abbrev Result : ℕ → Type 0
    Result j = Matched s a m k b L Rest (after cs g (suc n + j)) ⊎ NotMatched s a m L Rest (after cs g (suc n + j))

    result : (j : ℕ) (x : Matching) → Steps (suc j) ≡ x → Ended x → At j → Result j
    unfolding Ended settle
    result j (pairs s' []) e h at =
        inl (s', at ∙ ap (λ (y : Matching). settle y (tried_branch s a m k b) ++ Rest) e, M.solved (suc j) s' e)
    result j (pairs st (p ∷ ps)) e h at = absurd h
    result j (check st y t v vs ps) e h at = absurd h
    result j fail e h at =
        inr (at ∙ ap (λ (y : Matching). settle y (tried_branch s a m k b) ++ Rest) e, M.failed (suc j) e)

    ended_dec : (x : Matching) → Dec (Ended x)
    unfolding Ended
    ended_dec (pairs st []) = yes tt
    ended_dec (pairs st (p ∷ ps)) = no (λ h. h)
    ended_dec (check st y t v vs ps) = no (λ h. h)
    ended_dec fail = yes tt

    -- The first step after which the match has ended, at most f steps on.
    first : (f j : ℕ) → At j → Ended (Steps (suc (j + f))) → (i : ℕ) × Result i
    first zero j at h =
        let q : suc (j + 0) ≡ suc j = omega arith in
        (j, result j (Steps (suc j)) refl (subst (λ (i : ℕ). Ended (Steps i)) q h) at)
    first (suc f) j at h =
        let q : suc (j + suc f) ≡ suc (suc j + f) = omega arith in
        go (ended_dec (Steps (suc j))) (λ d. first f (suc j) (at_next j d at) (subst (λ (i : ℕ). Ended (Steps i)) q h))
      where
        go : Dec (Ended (Steps (suc j))) → ((Ended (Steps (suc j)) → ⊥) → (i : ℕ) × Result i) → (i : ℕ) × Result i
        go (yes d) ih = (j, result j (Steps (suc j)) refl d at)
        go (no d) ih = ih d

    pub tried : (i : ℕ) × Result i
    tried =
        let z = M.ends in
        first z.0 0 at_start (subst Ended (sym (z.2 (suc (0 + z.0)) (omega arith))) z.1)

-- A configuration that is reached is well-formed: the first.
front_formed : (cs : Rules Clause) (g : Goal) (n : ℕ) (c : Configuration) (ds : List Configuration) → after cs g n ≡ c ∷ ds → WellFormed c
front_formed cs g n c ds e = (subst (All WellFormed) e ((all_steps cs g).formed n)).0

pub all_tries : AllTries
unfolding WellFormed
all_tries cs g n s a m ms k b ds due L labels =
    let t : Trying s a m k = front_formed cs g n (try s a m ms k b) ds due in
    tried cs g n s a m ms k b ds due L (t.matches L labels)
