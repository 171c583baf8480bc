-- What a match has found when it has succeeded, in document 003's words.
use Prim.Native.Nat.{ℕ, ◌≤◌}
use mathlib.Core.Path.{◌≡◌, refl, sym, ◌∙◌, ap, subst, fun_ext}
use mathlib.Core.Bool.{Bool, true, false, cond}
use mathlib.Core.List.{List, [], ◌∷◌}
use mathlib.Core.Logic.{◌⊎◌, inl, inr}
use native.Mathlib.Omega.{arith}
use lib.Dec.{ltb}
use borrow.Author.Tests.{ltb-true, ltb-false}
use Rattle.terms.specs.Lists.{All}
use Rattle.terms.specs.Terms.{Term, leaf, substitute, level_by, Appears}
use Rattle.terms.proofs.Terms.{level_leaves, leaves_appear}
use Rattle.unification.specs.Store.{Leaf, var, con, Store, at, apply, solution}
use Rattle.unification.specs.Matching.{Pair}
use Rattle.unification.specs.Labelled.{Substitution, Labelling, Proper, Induced, Composed, Unified}
use Rattle.unification.specs.Promises.{Unbound, Formed, reading, read_pairs, Labels}
use Rattle.unification.proofs.Substitution.{con_not_var, apply_apply, apply_agree}
use Rattle.unification.proofs.Look.{unbound_beyond, is_unbound, is_unbound_true, unbound_is_unbound}
use Rattle.unification.proofs.Solution.{bound_to_unbound, appears_unbound}
use Rattle.unification.proofs.Valuation.{value, leaf_level, search_terms, value_at, Equation, Solves, Equal}
use Rattle.unification.proofs.General.{final_equations, general, general_value, general_unbound, general_solves, general_itself}
use Rattle.unification.proofs.Stores.{solution_beyond}
use Rattle.unification.proofs.Track.{Later, Origin}

-- Substitutions as valuations

-- A bound on the made constants of a term is a bound on its level.
constants_level : (t : Term Leaf) (n : ℕ) → ((c k : ℕ) → Appears t (con c k) → k ≤ n) → level_by t leaf_level ≤ n
unfolding leaf_level
constants_level t n h = level_leaves t leaf_level n (leaves_appear t (λ a. leaf_level a ≤ n) go)
  where
    go : (a : Leaf) → Appears t a → leaf_level a ≤ n
    go (var x) i = omega arith
    go (con c k) i = h c k i

-- The final values of a formed store solve it.
pub final_solves : (s : Store) → Formed s → Solves search_terms (solution s) s
unfolding solution search_terms
final_solves s f =
    record {
      equations = final_equations s.bindings f.bound;
      levels = λ x l. constants_level (solution s x) (s.level x) (λ c k h. f.proper x c k l h);
    }

-- A unifier of the pairs, bindings put to use, gives a solution of the store and the pairs.
module _ (s : Store) (φ : ℕ → Term Leaf) where
  -- The value of a term in it.
  general_apply : (t : Term Leaf) → substitute t (value search_terms (general search_terms s.bindings φ)) ≡ apply (reading s t) φ
  unfolding solution
  general_apply t = general_value search_terms s.bindings φ t ∙ ap (substitute (reading s t)) (value_at φ)

  -- It makes the pairs equal.
  pub unifier_equal : (ps : List Pair) → All (Unified φ) (read_pairs s ps) → All (Equal search_terms (general search_terms s.bindings φ)) ps
  unifier_equal [] h = tt
  unifier_equal (p ∷ ps) h = (general_apply p.goal ∙ h.0 ∙ sym (general_apply p.clause), unifier_equal ps h.1)

-- It solves the store, if the unifier is proper.
pub unifier_solves : (s : Store) (L : Labelling) (φ : Substitution) → Formed s → Labels L s → Proper L φ
    → Solves search_terms (general search_terms s.bindings φ.to) s
unfolding search_terms
unifier_solves s L φ f a p =
    general_solves search_terms s φ.to f (λ z l u. constants_level (φ.to z) (s.level z) (λ c k h. low z c k u (p z c k h)))
  where
    low : (z c k : ℕ) → Unbound s.bindings z → k ≤ L z → k ≤ s.level z
    low z c k u h = let q = a z u in omega arith

-- The unifier found: the new final values at the variables that were unbound.
unfoldable pub found : Store → Store → ℕ → Term Leaf
found s s' x = cond (is_unbound s.bindings x) (solution s' x) (leaf (var x))

-- The levels, at the variables that are now unbound.
unfoldable pub found_labels : Labelling → Store → Labelling
found_labels L s' x = cond (is_unbound s'.bindings x) (s'.level x) (L x)

-- The store s before the match, s' after it.
module _ (s s' : Store) (f : Formed s) (f' : Formed s') (l : Later s s') (number : s'.next ≡ s.next) where
  -- What it gives at the variables that were unbound.
  found_unbound : (x : ℕ) → Unbound s.bindings x → found s s' x ≡ solution s' x
  unfolding found
  found_unbound x u = rw (unbound_is_unbound s.bindings x u)

  -- A property of all values found, by cases.
  found_cases : (P : ℕ → Term Leaf → Type 0) → ((x : ℕ) → Unbound s.bindings x → P x (solution s' x)) → ((x : ℕ) → P x (leaf (var x)))
      → (x : ℕ) → P x (found s s' x)
  unfolding found
  found_cases P h k x = go (is_unbound s.bindings x) refl
    where
      go : (b : Bool) → is_unbound s.bindings x ≡ b → P x (cond b (solution s' x) (leaf (var x)))
      go true e = h x (is_unbound_true s.bindings x e)
      go false e = k x

  -- A variable that has not been made is its own final value.
  found_beyond : (x : ℕ) → s.next ≤ x → solution s' x ≡ leaf (var x)
  unfolding solution
  found_beyond x h = bound_to_unbound s'.bindings x f'.bound (unbound_beyond s'.bindings s'.next x (omega arith) f'.below)

  -- It is the identity there.
  pub found_finite : (x : ℕ) → s.next ≤ x → found s s' x ≡ leaf (var x)
  found_finite = found_cases (λ x t. s.next ≤ x → t ≡ leaf (var x)) (λ x u h. found_beyond x h) (λ x h. refl)

  -- The unifier found, as a substitution.
  unfoldable pub mgu : Substitution
  mgu = record { to = found s s'; beyond = s.next; finite = found_finite }

  -- S' = found ∘ S, if S' solves the bindings of s.
  final_composed : All (Equation search_terms (solution s')) s.bindings → (x : ℕ) → solution s' x ≡ apply (solution s x) (found s s')
  unfolding solution general
  final_composed h x =
      sym (general_itself search_terms s.bindings (solution s') x h) ∙ ap (substitute (solution s x)) (value_at (solution s'))
      ∙ apply_agree (solution s x) (solution s') (found s s')
      (λ z i. sym (found_unbound z (appears_unbound s.bindings x z f.bound i)))

  -- The same of terms: S'(t) = found(S(t)).
  pub reading_composed : All (Equation search_terms (solution s')) s.bindings → (t : Term Leaf)
      → reading s' t ≡ apply (reading s t) (found s s')
  reading_composed h t = ap (apply t) (fun_ext (final_composed h)) ∙ sym (apply_apply t (solution s) (found s s'))

  -- It unifies the pairs, if S' makes them equal.
  pub found_unifies : All (Equation search_terms (solution s')) s.bindings → (ps : List Pair) → All (Equal search_terms (solution s')) ps
      → All (Unified (found s s')) (read_pairs s ps)
  found_unifies h [] k = tt
  found_unifies h (p ∷ ps) k =
      let same : reading s' p.goal ≡ reading s' p.clause = rw (← value_at (solution s')) k.0 in
      (sym (reading_composed h p.goal) ∙ same ∙ reading_composed h p.clause, found_unifies h ps k.1)

  -- It is proper.
  pub found_proper : (L : Labelling) → Labels L s → Proper L mgu
  unfolding mgu Appears
  found_proper L a x c k h =
      found_cases (λ x t. Appears t (con c k) → k ≤ L x) (λ x u i. low x u i (ltb x s.next) refl)
      (λ x i. absurd (con_not_var c k x i)) x h
    where
      low : (x : ℕ) → Unbound s.bindings x → Appears (solution s' x) (con c k) → (b : Bool) → ltb x s.next ≡ b → k ≤ L x
      low x u i true e =
          let p = ltb-true x s.next e in
          let q = f'.proper x c k (omega arith) i in
          let r = l.levels x in
          let t = a x u in
          omega arith
      low x u i false e = let p = ltb-false x s.next e in absurd (con_not_var c k x (solution_beyond s' x (con c k) f' (omega arith) i))

  -- The substitution φ is φ ∘ found, if the solution that φ gives of s solves the bindings of s'.
  pub found_absorbed : (φ : ℕ → Term Leaf) → All (Equation search_terms (general search_terms s.bindings φ)) s'.bindings
      → Composed φ φ (found s s')
  unfolding substitute at solution general
  found_absorbed φ h = found_cases (λ x t. φ x ≡ apply t φ) at_unbound (λ x. refl)
    where
      ρ : ℕ → Term Leaf
      ρ = general search_terms s.bindings φ

      same : (x : ℕ) → Unbound s.bindings x → ρ x ≡ φ x
      same x u = general_unbound search_terms s.bindings φ x f.bound u

      at_unbound : (x : ℕ) → Unbound s.bindings x → φ x ≡ apply (solution s' x) φ
      at_unbound x u =
          sym (same x u) ∙ sym (general_itself search_terms s'.bindings ρ x h) ∙ ap (substitute (solution s' x)) (value_at ρ)
          ∙ apply_agree (solution s' x) ρ φ (λ z i. same z (l.unbound z (appears_unbound s'.bindings x z f'.bound i)))

  -- The levels

  -- A variable in the final value of y is now no higher than y was.
  level_other : (x y : ℕ) → Appears (solution s' y) (var x) → s'.level x ≤ s.level y
  level_other x y h = go (ltb y s.next) refl
    where
      go : (b : Bool) → ltb y s.next ≡ b → s'.level x ≤ s.level y
      go true e = let p = ltb-true y s.next e in let q = (f'.ordered y x (omega arith) h).1 in let r = l.levels y in omega arith
      go false e =
          let p = ltb-false y s.next e in
          let q : x ≡ y = (let i = solution_beyond s' y (var x) f' (omega arith) h in cc) in
          rw q (l.levels y)

  -- The levels are the labelling that it induces.
  pub found_induced : (L : Labelling) → Labels L s → ((x : ℕ) → Unbound s'.bindings x → Origin s s' x) → Induced L mgu (found_labels L s')
  unfolding found_labels mgu Appears solution
  found_induced L a o =
      record {
        own = λ x. own x (is_unbound s'.bindings x) refl;
        other = other;
        attained = λ x. attained x (is_unbound s'.bindings x) refl;
      }
    where
      own : (x : ℕ) (b : Bool) → is_unbound s'.bindings x ≡ b → cond b (s'.level x) (L x) ≤ L x
      own x true e = let p = l.levels x in let q = a x (l.unbound x (is_unbound_true s'.bindings x e)) in omega arith
      own x false e = omega arith

      other : (x y : ℕ) → Appears (found s s' y) (var x) → found_labels L s' x ≤ L y
      other x y h = found_cases (λ y t. Appears t (var x) → found_labels L s' x ≤ L y)
          (λ y u i. rw (unbound_is_unbound s'.bindings x (appears_unbound s'.bindings y x f'.bound i))
          (let p = level_other x y i in let q = a y u in omega arith))
          (λ y i. (let q : x ≡ y = cc in subst (λ (z : ℕ). found_labels L s' x ≤ L z) q (own x (is_unbound s'.bindings x) refl))) y h

      from : (x : ℕ) → Unbound s'.bindings x → Origin s s' x → (s'.level x ≡ L x)
          ⊎ ((y : ℕ) × Appears (found s s' y) (var x) × (s'.level x ≡ L y))
      from x u (inl e) = inl (e ∙ sym (a x (l.unbound x u)))
      from x u (inr q) =
          inr (q.0, subst (λ (t : Term Leaf). Appears t (var x)) (sym (found_unbound q.0 q.1)) q.2, q.3 ∙ sym (a q.0 q.1))

      attained : (x : ℕ) (b : Bool) → is_unbound s'.bindings x ≡ b → (cond b (s'.level x) (L x) ≡ L x)
          ⊎ ((y : ℕ) × Appears (found s s' y) (var x) × (cond b (s'.level x) (L x) ≡ L y))
      attained x true e = from x (is_unbound_true s'.bindings x e) (o x (is_unbound_true s'.bindings x e))
      attained x false e = inl refl

  -- They are those of the store at the unbound variables.
  pub found_labels_lem : (L : Labelling) → Labels (found_labels L s') s'
  unfolding found_labels
  found_labels_lem L x u = rw (unbound_is_unbound s'.bindings x u)
