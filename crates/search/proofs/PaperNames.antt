-- A name stands free in the formula of a goal where it does in the goal, and the formula depends on no other name.
use Prim.Native.Nat.{ℕ}
use mathlib.Core.Path.{◌≡◌, refl, sym, ◌∙◌, ap, ap₂}
use mathlib.Core.Bool.{Bool, true, false, not, ◌&&◌, ◌||◌, cond}
use mathlib.Core.Option.{Option, none, some, map}
use mathlib.Core.Logic.{inl, inr}
use lib.Dec.{eqb}
use borrow.Author.Tests.{eqb-true, eq-eqb}
use Rattle.terms.specs.Lists.{update}
use Rattle.terms.specs.Terms.{Term, leaf, app, Terms, nil, cons, substitute, substitutes}
use Rattle.terms.proofs.Lists.{update_agree}
use Rattle.formulas.specs.Formulas.{Goal, atom, truth, and, or, implies, exists, forall, Clause, fact, rule, both, each, free_t, free_ts}
use Rattle.formulas.specs.Formulas.{free_g, free_c, free_b}
use Rattle.formulas.proofs.Free.{or_left, or_right, substitutes_free}
use Rattle.unification.specs.Store.{Leaf}
use Rattle.search.specs.Paper.{name, Names, G, g_atom, g_and, g_or, g_implies, g_exists, g_forall, d_atom, d_implies, d_and, d_forall}
use Rattle.search.specs.Paper.{bound, embed, formula_g, formula_d, is_name_leaf, in_t, in_ts, in_g, in_d, in_b}
use Rattle.search.proofs.PaperReplace.{OwnOrTerm, Tidy}

-- The formula of a body, if there is one.
abbrev pub formula_b : Option Goal → Names → Option G
formula_b o ρ = map (λ g. formula_g g ρ) o

-- Where a name stands free

-- The name v stands for itself, and is in nothing that another name stands for.
abbrev pub Own : Names → ℕ → Type 0
Own ρ v = (u : ℕ) → in_t (ρ u) v ≡ eqb u v

-- It stays so under a quantifier.
pub own_bound : (ρ : Names) (v w : ℕ) → Own ρ v → Own (bound ρ w) v
unfolding update in_t is_name_leaf
own_bound ρ v w h u = go (eqb u w) refl
  where
    go : (b : Bool) → eqb u w ≡ b → in_t (cond b (leaf (name w)) (ρ u)) v ≡ eqb u v
    go true e = ap (λ x. eqb x v) (sym (eqb-true u w e))
    go false e = h u

-- A term of the search has no names.
mutual
  unfolding in_t is_name_leaf substitute embed

  embed_in : (t : Term Leaf) (v : ℕ) → in_t (substitute t embed) v ≡ false
  embed_in (leaf l) v = refl
  embed_in (app f ts) v = embeds_in ts v

  embeds_in : (ts : Terms Leaf) (v : ℕ) → in_ts (substitutes ts embed) v ≡ false
  embeds_in nil v = refl
  embeds_in (cons t ts) v = ap₂ ◌||◌ (embed_in t v) (embeds_in ts v)

-- So is the name of a quantifier, under it.
pub own_new : (ρ : Names) (v : ℕ) → Tidy ρ → Own (bound ρ v) v
unfolding update in_t is_name_leaf
own_new ρ v h u = go (eqb u v) refl (h u)
  where
    go : (b : Bool) → eqb u v ≡ b → OwnOrTerm ρ u → in_t (cond b (leaf (name v)) (ρ u)) v ≡ eqb u v
    go true e k = eq-eqb v v refl ∙ sym e
    go false e (inl q) = rw q
    go false e (inr q) = rw q.1 (embed_in q.0 v ∙ sym e)

-- In terms.
mutual
  unfolding in_t free_t substitute

  in_t_free : (t : Term ℕ) (ρ : Names) (v : ℕ) → Own ρ v → in_t (substitute t ρ) v ≡ free_t t v
  in_t_free (leaf u) ρ v h = h u
  in_t_free (app f ts) ρ v h = in_ts_free ts ρ v h

  pub in_ts_free : (ts : Terms ℕ) (ρ : Names) (v : ℕ) → Own ρ v → in_ts (substitutes ts ρ) v ≡ free_ts ts v
  in_ts_free nil ρ v h = refl
  in_ts_free (cons t ts) ρ v h = ap₂ ◌||◌ (in_t_free t ρ v h) (in_ts_free ts ρ v h)

-- In goals and clauses.
mutual
  unfolding in_g free_g formula_g

  in_g_free : (g : Goal) (ρ : Names) (v : ℕ) → Own ρ v → in_g (formula_g g ρ) v ≡ free_g g v
  in_g_free (atom p ts) ρ v h = in_ts_free ts ρ v h
  in_g_free truth ρ v h = refl
  in_g_free (and a b) ρ v h = ap₂ ◌||◌ (in_g_free a ρ v h) (in_g_free b ρ v h)
  in_g_free (or a b) ρ v h = ap₂ ◌||◌ (in_g_free a ρ v h) (in_g_free b ρ v h)
  in_g_free (implies d g) ρ v h = ap₂ ◌||◌ (in_d_free d ρ v h) (in_g_free g ρ v h)
  in_g_free (exists w g) ρ v h = ap (not (eqb w v) &&◌) (in_g_free g (bound ρ w) v (own_bound ρ v w h))
  in_g_free (forall w g) ρ v h = ap (not (eqb w v) &&◌) (in_g_free g (bound ρ w) v (own_bound ρ v w h))

  in_d_free : (d : Clause) (ρ : Names) (v : ℕ) → Own ρ v → in_d (formula_d d ρ) v ≡ free_c d v
  in_d_free (fact p ts) ρ v h = in_ts_free ts ρ v h
  in_d_free (rule g p ts) ρ v h = ap₂ ◌||◌ (in_g_free g ρ v h) (in_ts_free ts ρ v h)
  in_d_free (both a b) ρ v h = ap₂ ◌||◌ (in_d_free a ρ v h) (in_d_free b ρ v h)
  in_d_free (each w d) ρ v h = ap (not (eqb w v) &&◌) (in_d_free d (bound ρ w) v (own_bound ρ v w h))

-- Of bodies the same.
pub in_b_free : (o : Option Goal) (ρ : Names) (v : ℕ) → Own ρ v → in_b (formula_b o ρ) v ≡ free_b o v
unfolding in_b free_b
in_b_free none ρ v h = refl
in_b_free (some g) ρ v h = in_g_free g ρ v h

-- What a formula depends on

-- The mappings ρ and π agree on the names that pass the test.
abbrev pub AgreeOn : (ℕ → Bool) → Names → Names → Type 0
AgreeOn f ρ π = (u : ℕ) → f u ≡ true → ρ u ≡ π u

-- Mappings that agree on the names of two formulas agree on those of the left one.
pub agree_left : (f h : ℕ → Bool) {ρ π : Names} → AgreeOn (λ u. f u || h u) ρ π → AgreeOn f ρ π
agree_left f h a u k = a u (or_left (f u) (h u) k)

-- Mappings that agree on the names of two formulas agree on those of the right one.
pub agree_right : (f h : ℕ → Bool) {ρ π : Names} → AgreeOn (λ u. f u || h u) ρ π → AgreeOn h ρ π
agree_right f h a u k = a u (or_right (f u) (h u) k)

-- Under a quantifier they agree on its name too.
agree_bound : (f : ℕ → Bool) (ρ π : Names) (w : ℕ) → AgreeOn (λ u. not (eqb w u) && f u) ρ π → AgreeOn f (bound ρ w) (bound π w)
agree_bound f ρ π w h u k = update_agree ρ π w (leaf (name w)) u (λ e. h u (rw e k))

-- Where they agree on the names that stand free, the formulas are the same.
mutual
  unfolding formula_g free_g

  formula_g_agree : (g : Goal) (ρ π : Names) → AgreeOn (free_g g) ρ π → formula_g g ρ ≡ formula_g g π
  formula_g_agree (atom p ts) ρ π h = ap (g_atom p) (substitutes_free ts ρ π h)
  formula_g_agree truth ρ π h = refl
  formula_g_agree (and a b) ρ π h =
      ap₂ g_and (formula_g_agree a ρ π (agree_left (free_g a) (free_g b) h)) (formula_g_agree b ρ π (agree_right (free_g a) (free_g b) h))
  formula_g_agree (or a b) ρ π h =
      ap₂ g_or (formula_g_agree a ρ π (agree_left (free_g a) (free_g b) h)) (formula_g_agree b ρ π (agree_right (free_g a) (free_g b) h))
  formula_g_agree (implies d g) ρ π h =
      ap₂ g_implies (formula_d_agree d ρ π (agree_left (free_c d) (free_g g) h)) (formula_g_agree g ρ π (agree_right (free_c d) (free_g g) h))
  formula_g_agree (exists w g) ρ π h = ap (g_exists w) (formula_g_agree g (bound ρ w) (bound π w) (agree_bound (free_g g) ρ π w h))
  formula_g_agree (forall w g) ρ π h = ap (g_forall w) (formula_g_agree g (bound ρ w) (bound π w) (agree_bound (free_g g) ρ π w h))

  formula_d_agree : (d : Clause) (ρ π : Names) → AgreeOn (free_c d) ρ π → formula_d d ρ ≡ formula_d d π
  formula_d_agree (fact p ts) ρ π h = ap (d_atom p) (substitutes_free ts ρ π h)
  formula_d_agree (rule g p ts) ρ π h =
      ap₂ (λ k us. d_implies k p us) (formula_g_agree g ρ π (agree_left (free_g g) (free_ts ts) h))
      (substitutes_free ts ρ π (agree_right (free_g g) (free_ts ts) h))
  formula_d_agree (both a b) ρ π h =
      ap₂ d_and (formula_d_agree a ρ π (agree_left (free_c a) (free_c b) h)) (formula_d_agree b ρ π (agree_right (free_c a) (free_c b) h))
  formula_d_agree (each w d) ρ π h = ap (d_forall w) (formula_d_agree d (bound ρ w) (bound π w) (agree_bound (free_c d) ρ π w h))

-- Of bodies the same.
pub formula_b_agree : (o : Option Goal) (ρ π : Names) → AgreeOn (free_b o) ρ π → formula_b o ρ ≡ formula_b o π
unfolding free_b
formula_b_agree none ρ π h = refl
formula_b_agree (some g) ρ π h = ap some (formula_g_agree g ρ π h)
