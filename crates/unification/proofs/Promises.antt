-- Promise T3.
use Prim.Native.Nat.{ℕ}
use mathlib.Core.Path.{◌≡◌, refl, sym, subst}
use mathlib.Core.List.{List, [], ◌∷◌}
use mathlib.Core.Logic.{inl}
use native.Mathlib.Omega.{arith}
use Rattle.terms.specs.Lists.{All}
use Rattle.unification.specs.Store.{Store, solution}
use Rattle.unification.specs.Matching.{Pair, Matching, pairs, check, fail, match_steps, Ended}
use Rattle.unification.specs.Labelled.{Substitution, Labelling, Induced, Composed, Unifier, MoreGeneral}
use Rattle.unification.specs.Promises.{BelowPair, Unbound, Formed, read_pairs, Labels, Solved, Succeeds, Unification}
use Rattle.unification.proofs.Valuation.{search_terms, Solves, Equal}
use Rattle.unification.proofs.General.{general}
use Rattle.unification.proofs.Sound.{SolvesMatching, match_steps_sound}
use Rattle.unification.proofs.Invariant.{Running, match_steps_running}
use Rattle.unification.proofs.Complete.{Parts, Keeps, match_steps_complete}
use Rattle.unification.proofs.Termination.{matching_ends, ended_stays}
use Rattle.unification.proofs.Track.{Later, Origin, Tracked, match_steps_tracked}
use Rattle.unification.proofs.Labelled.{absorbed_proper}
use Rattle.unification.proofs.Unify.{final_solves, unifier_equal, unifier_solves, found, found_labels, mgu, reading_composed}
use Rattle.unification.proofs.Unify.{found_unifies, found_proper, found_absorbed, found_induced, found_labels_lem}

module _ (s : Store) (ps : List Pair) (L : Labelling) (f : Formed s) (b : All (BelowPair s.next) ps) (a : Labels L s) where
  -- No variable is made.
  Number : ℕ → Type 0
  Number n = n ≡ s.next

  -- The matching begins as one under way.
  begins : Running Number (pairs s ps)
  unfolding Running Number
  begins = (record { formed = f; extra = refl }, b)

  -- A unifier's solution is kept by every act.
  kept : (φ : Substitution) → Unifier L (read_pairs s ps) φ → (n : ℕ)
      → Keeps search_terms (general search_terms s.bindings φ.to) (match_steps n (pairs s ps))
  unfolding SolvesMatching Parts
  kept φ u n =
      match_steps_complete search_terms (general search_terms s.bindings φ.to) Number n (pairs s ps) begins
      ((unifier_solves s L φ f a u.proper, unifier_equal s φ.to ps u.unifies), tt)

  -- A match that fails has no unifier.
  failed : (n : ℕ) → match_steps n (pairs s ps) ≡ fail → (φ : Substitution) → Unifier L (read_pairs s ps) φ → ⊥
  unfolding SolvesMatching
  failed n e φ u = (subst (Keeps search_terms (general search_terms s.bindings φ.to)) e (kept φ u n)).0

  -- The store s' is the one after a match that succeeded.
  module _ (n : ℕ) (s' : Store) (e : match_steps n (pairs s ps) ≡ pairs s' []) where
    after : Running Number (pairs s' [])
    after = subst (Running Number) e (match_steps_running Number n (pairs s ps) begins)

    formed : Formed s'
    unfolding Running
    formed = after.0.formed

    number : s'.next ≡ s.next
    unfolding Running Number
    number = after.0.extra

    tracked : Later s s' × ((x : ℕ) → Unbound s'.bindings x → Origin s s' x)
    unfolding Tracked
    tracked =
        subst (Tracked s) e
        (match_steps_tracked Number s n (pairs s ps) begins (record { unbound = λ x u. u; levels = λ x. omega arith }, λ x u. inl refl))

    -- The final values solve the matching that has ended, so the one that began.
    before : Solves search_terms (solution s') s × All (Equal search_terms (solution s')) ps
    unfolding SolvesMatching
    before =
        match_steps_sound search_terms (solution s') n (pairs s ps)
        (subst (SolvesMatching search_terms (solution s')) (sym e) (final_solves s' formed, tt))

    found_mgu : Substitution
    found_mgu = mgu s s' f formed tracked.0 number

    induced : Induced L found_mgu (found_labels L s')
    unfolding found_mgu
    induced = found_induced s s' f formed tracked.0 number L a tracked.1

    unifier : Unifier L (read_pairs s ps) found_mgu
    unfolding found_mgu mgu
    unifier = record {
      proper = found_proper s s' f formed tracked.0 number L a;
      unifies = found_unifies s s' f formed tracked.0 number before.0.equations ps before.1;
    }

    absorbed : (φ : Substitution) → Unifier L (read_pairs s ps) φ → Composed φ.to φ.to (found s s')
    unfolding SolvesMatching
    absorbed φ u =
        found_absorbed s s' f formed tracked.0 number φ.to
        (subst (Keeps search_terms (general search_terms s.bindings φ.to)) e (kept φ u n)).0.0.equations

    general_unifier : (φ : Substitution) → Unifier L (read_pairs s ps) φ → MoreGeneral L found_mgu φ
    unfolding found_mgu mgu
    general_unifier φ u = record {
      proper₁ = unifier.proper;
      proper₂ = u.proper;
      through =
          (found_labels L s', induced, φ, absorbed_proper L (found_labels L s') found_mgu φ induced u.proper (absorbed φ u), absorbed φ u);
    }

    solved : Solved L s ps s'
    unfolding found_mgu mgu
    solved = record {
      mgu = found_mgu;
      general = record { unifier = unifier; general = general_unifier };
      composed = reading_composed s s' f formed tracked.0 number before.0.equations;
      labelling = found_labels L s';
      induced = induced;
      labels = found_labels_lem s s' f formed tracked.0 number L;
      formed = formed;
      next = number;
    }

  -- Matching ends.
  ends : (n : ℕ) × Ended (match_steps n (pairs s ps))
  ends = matching_ends Number (pairs s ps) begins

  -- If there is a unifier, the end is not failure.
  succeeds : (φ : Substitution) → Unifier L (read_pairs s ps) φ → Succeeds s ps
  unfolding Ended
  succeeds φ u = go ends.0 (match_steps ends.0 (pairs s ps)) refl ends.1
    where
      go : (n : ℕ) (m : Matching) → match_steps n (pairs s ps) ≡ m → Ended m → Succeeds s ps
      go n (pairs s' []) e h = (n, s', e)
      go n (pairs s' (p ∷ qs)) e h = absurd h
      go n (check s' y t k ks qs) e h = absurd h
      go n fail e h = absurd (failed n e φ u)

-- Promise T3 holds.
pub unification : Unification
unification s ps L f b a = record {
  ends = (let r = ends s ps L f b a in (r.0, r.1, ended_stays r.0 (pairs s ps) r.1));
  only_if = λ r. (let g = solved s ps L f b a r.0 r.1 r.2 in (g.mgu, g.general.unifier));
  if = succeeds s ps L f b a;
  solved = solved s ps L f b a;
  failed = failed s ps L f b a;
}
