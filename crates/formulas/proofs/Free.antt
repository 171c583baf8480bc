-- Laws of free variables: terms depend on the names that stand free in them, and what stands free in a member of a clause,
-- below its prefix, stands free in the clause.
use Prim.Native.Nat.{ℕ}
use mathlib.Core.Path.{◌≡◌, refl, sym, ◌∙◌, ap}
use mathlib.Core.Bool.{Bool, true, false, not, ◌&&◌, ◌||◌, cond, or_comm, or-false, true≢false}
use mathlib.Core.List.{◌∷◌}
use mathlib.Core.Logic.{inl, inr}
use lib.Dec.{eqb}
use borrow.Author.Tests.{eqb-true, eq-eqb}
use Rattle.terms.specs.Lists.{All, elem}
use Rattle.terms.specs.Terms.{Term, leaf, app, Terms, nil, cons, substitutes, Appears, AppearsIn}
use Rattle.terms.proofs.Lists.{all_append, all_map, all_weaken}
use Rattle.terms.proofs.Terms.{substitutes_agree}
use Rattle.formulas.specs.Formulas.{Clause, fact, rule, both, each, free_t, free_ts, free_g, free_c, free_b}
use Rattle.formulas.specs.Members.{Member, members, quantify, stands_free}

-- tests

-- A true left side makes a disjunction true.
pub or_left : (a b : Bool) → a ≡ true → (a || b) ≡ true
or_left true b h = refl
or_left false b h = absurd (true≢false (sym h))

-- A true right side makes a disjunction true.
pub or_right : (a b : Bool) → b ≡ true → (a || b) ≡ true
or_right true b h = refl
or_right false b h = h

-- A conjunction that is true has two true sides.
pub and_parts : (a b : Bool) → (a && b) ≡ true → (a ≡ true) × (b ≡ true)
and_parts true b h = (refl, h)
and_parts false b h = absurd (true≢false (sym h))

-- terms

-- A leaf that appears in a term stands free in it.
mutual
  unfolding Appears free_t

  pub appears_free : (t : Term ℕ) (v : ℕ) → Appears t v → free_t t v ≡ true
  appears_free (leaf w) v h = eq-eqb w v (sym h)
  appears_free (app f ts) v h = appears_in_free ts v h

  pub appears_in_free : (ts : Terms ℕ) (v : ℕ) → AppearsIn ts v → free_ts ts v ≡ true
  appears_in_free nil v h = absurd h
  appears_in_free (cons t ts) v (inl h) = or_left (free_t t v) (free_ts ts v) (appears_free t v h)
  appears_in_free (cons t ts) v (inr h) = or_right (free_t t v) (free_ts ts v) (appears_in_free ts v h)

-- Terms under environments that agree on the names that stand free in them are equal.
pub substitutes_free : {A : Type 0} (ts : Terms ℕ) (e f : ℕ → Term A) → ((v : ℕ) → free_ts ts v ≡ true → e v ≡ f v)
    → substitutes ts e ≡ substitutes ts f
substitutes_free ts e f h = substitutes_agree ts e f (λ v k. h v (appears_in_free ts v k))

-- members

-- Of the names that stand free in the member, all stand free in the clause.
abbrev pub Within : Clause → Member → Type 0
Within c m = (v : ℕ) → stands_free v m ≡ true → free_c c v ≡ true

-- A quantifier binds its name in each member, whether or not it joins the prefix.
pub quantify_within : (w : ℕ) (c : Clause) (m : Member) → Within c m → Within (each w c) (quantify w m)
unfolding quantify free_c stands_free elem
quantify_within w c m h v = go (stands_free w m) refl
  where
    -- The name w joins the prefix.
    joins : (b : Bool)
        → (not (elim b [ true ↦ true | false ↦ elem v m.prefix ]) && (free_ts m.arguments v || free_b m.body v)) ≡ true
        → (not b && free_c c v) ≡ true
    joins true k = k
    joins false k = h v k

    -- The name w does not stand free.
    absent : stands_free w m ≡ false → stands_free v m ≡ true → (b : Bool) → eqb w v ≡ b → (not b && free_c c v) ≡ true
    absent n k true e = absurd (true≢false (sym k ∙ ap (λ (x : ℕ). stands_free x m) (sym (eqb-true w v e)) ∙ n))
    absent n k false e = h v k

    go : (b : Bool) → stands_free w m ≡ b
        → stands_free v (cond b (record { prefix = w ∷ m.prefix; predicate = m.predicate; arguments = m.arguments; body = m.body }) m)
        ≡ true
        → (not (eqb w v) && free_c c v) ≡ true
    go true e k = joins (eqb w v) k
    go false e k = absent e k (eqb w v) refl

-- The names that stand free in a member of a clause stand free in the clause.
pub members_within : (c : Clause) → All (Within c) (members c)
unfolding members free_c stands_free free_b elem
members_within (fact p ts) = (λ v h. sym (or-false (free_ts ts v)) ∙ h, tt)
members_within (rule g p ts) = (λ v h. or_comm (free_g g v) (free_ts ts v) ∙ h, tt)
members_within (both a b) =
    all_append (Within (both a b)) (members a) (members b)
    (all_weaken (Within a) (Within (both a b)) (λ m h v k. or_left (free_c a v) (free_c b v) (h v k)) (members a) (members_within a))
    (all_weaken (Within b) (Within (both a b)) (λ m h v k. or_right (free_c a v) (free_c b v) (h v k)) (members b) (members_within b))
members_within (each w c) = all_map (quantify w) (Within c) (Within (each w c)) (quantify_within w c) (members c) (members_within c)
