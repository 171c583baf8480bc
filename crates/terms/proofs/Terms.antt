-- Laws of substitution, sizes and levels.
use Prim.Native.Nat.{ℕ, ◌≤◌, max}
use mathlib.Core.Path.{◌≡◌, refl, sym, ap, ap₂, subst}
use mathlib.Core.Bool.{true, true≢false}
use mathlib.Core.Logic.{inl, inr}
use borrow.Author.Tests.{eqb-true, eq-eqb}
use native.Mathlib.Omega.{arith}
use Rattle.terms.specs.Terms.{Functor, sheet_symbol, numeral, same_functor, Term, leaf, app, Terms, nil, cons, substitute, substitutes, size, level_by, levels_by, Leaves, LeavesAll}
use Rattle.terms.specs.Terms.{Appears, AppearsIn}

-- Two substitutions, one after the other, are one substitution.
mutual
  unfolding substitute

  pub substitute_substitute : {A B C : Type 0} (t : Term A) (θ : A → Term B) (φ : B → Term C)
      → substitute (substitute t θ) φ ≡ substitute t (λ a. substitute (θ a) φ)
  substitute_substitute (leaf a) θ φ = refl
  substitute_substitute (app f ts) θ φ = ap (app f) (substitutes_substitutes ts θ φ)

  pub substitutes_substitutes : {A B C : Type 0} (ts : Terms A) (θ : A → Term B) (φ : B → Term C)
      → substitutes (substitutes ts θ) φ ≡ substitutes ts (λ a. substitute (θ a) φ)
  substitutes_substitutes nil θ φ = refl
  substitutes_substitutes (cons t ts) θ φ = ap₂ cons (substitute_substitute t θ φ) (substitutes_substitutes ts θ φ)

-- A substitution depends only on the leaves that appear.
mutual
  unfolding substitute Appears

  pub substitute_agree : {A B : Type 0} (t : Term A) (θ φ : A → Term B) → ((a : A) → Appears t a → θ a ≡ φ a)
      → substitute t θ ≡ substitute t φ
  substitute_agree (leaf a) θ φ h = h a refl
  substitute_agree (app f ts) θ φ h = ap (app f) (substitutes_agree ts θ φ h)

  pub substitutes_agree : {A B : Type 0} (ts : Terms A) (θ φ : A → Term B) → ((a : A) → AppearsIn ts a → θ a ≡ φ a)
      → substitutes ts θ ≡ substitutes ts φ
  substitutes_agree nil θ φ h = refl
  substitutes_agree (cons t ts) θ φ h =
      ap₂ cons (substitute_agree t θ φ (λ a k. h a (inl k))) (substitutes_agree ts θ φ (λ a k. h a (inr k)))

-- Substitutions that agree where a property of all leaves holds give the same term.
mutual
  unfolding substitute Leaves

  pub substitute_where : {A B : Type 0} (t : Term A) (P : A → Type 0) (θ φ : A → Term B) → Leaves t P → ((a : A) → P a → θ a ≡ φ a)
      → substitute t θ ≡ substitute t φ
  substitute_where (leaf a) P θ φ l h = h a l
  substitute_where (app f ts) P θ φ l h = ap (app f) (substitutes_where ts P θ φ l h)

  pub substitutes_where : {A B : Type 0} (ts : Terms A) (P : A → Type 0) (θ φ : A → Term B) → LeavesAll ts P → ((a : A) → P a → θ a ≡ φ a)
      → substitutes ts θ ≡ substitutes ts φ
  substitutes_where nil P θ φ l h = refl
  substitutes_where (cons t ts) P θ φ l h = ap₂ cons (substitute_where t P θ φ l.0 h) (substitutes_where ts P θ φ l.1 h)

-- Substituting each leaf for itself changes nothing.
mutual
  unfolding substitute

  pub substitute_leaf : {A : Type 0} (t : Term A) → substitute t leaf ≡ t
  substitute_leaf (leaf a) = refl
  substitute_leaf (app f ts) = ap (app f) (substitutes_leaf ts)

  pub substitutes_leaf : {A : Type 0} (ts : Terms A) → substitutes ts leaf ≡ ts
  substitutes_leaf nil = refl
  substitutes_leaf (cons t ts) = ap₂ cons (substitute_leaf t) (substitutes_leaf ts)

-- A property of all leaves implies a weaker one.
mutual
  unfolding Leaves

  pub leaves_weaken : {A : Type 0} (t : Term A) (P Q : A → Type 0) → ((a : A) → P a → Q a) → Leaves t P → Leaves t Q
  leaves_weaken (leaf a) P Q h l = h a l
  leaves_weaken (app f ts) P Q h l = leaves_all_weaken ts P Q h l

  pub leaves_all_weaken : {A : Type 0} (ts : Terms A) (P Q : A → Type 0) → ((a : A) → P a → Q a) → LeavesAll ts P → LeavesAll ts Q
  leaves_all_weaken nil P Q h l = tt
  leaves_all_weaken (cons t ts) P Q h l = (leaves_weaken t P Q h l.0, leaves_all_weaken ts P Q h l.1)

mutual
  unfolding Leaves substitute

  pub leaves_substitute : {A B : Type 0} (t : Term A) (θ : A → Term B) (P : A → Type 0) (Q : B → Type 0)
      → ((a : A) → P a → Leaves (θ a) Q) → Leaves t P → Leaves (substitute t θ) Q
  leaves_substitute (leaf a) θ P Q h l = h a l
  leaves_substitute (app f ts) θ P Q h l = leaves_all_substitutes ts θ P Q h l

  pub leaves_all_substitutes : {A B : Type 0} (ts : Terms A) (θ : A → Term B) (P : A → Type 0) (Q : B → Type 0)
      → ((a : A) → P a → Leaves (θ a) Q) → LeavesAll ts P → LeavesAll (substitutes ts θ) Q
  leaves_all_substitutes nil θ P Q h l = tt
  leaves_all_substitutes (cons t ts) θ P Q h l = (leaves_substitute t θ P Q h l.0, leaves_all_substitutes ts θ P Q h l.1)

mutual
  unfolding Leaves

  pub leaves_any : {A : Type 0} (t : Term A) (P : A → Type 0) → ((a : A) → P a) → Leaves t P
  leaves_any (leaf a) P h = h a
  leaves_any (app f ts) P h = leaves_all_any ts P h

  pub leaves_all_any : {A : Type 0} (ts : Terms A) (P : A → Type 0) → ((a : A) → P a) → LeavesAll ts P
  leaves_all_any nil P h = tt
  leaves_all_any (cons t ts) P h = (leaves_any t P h, leaves_all_any ts P h)

-- A property holds of all leaves exactly if it holds of the leaves that appear.
mutual
  unfolding Leaves Appears

  pub leaves_appear : {A : Type 0} (t : Term A) (P : A → Type 0) → ((a : A) → Appears t a → P a) → Leaves t P
  leaves_appear (leaf a) P h = h a refl
  leaves_appear (app f ts) P h = leaves_all_appear ts P h

  pub leaves_all_appear : {A : Type 0} (ts : Terms A) (P : A → Type 0) → ((a : A) → AppearsIn ts a → P a) → LeavesAll ts P
  leaves_all_appear nil P h = tt
  leaves_all_appear (cons t ts) P h = (leaves_appear t P (λ a k. h a (inl k)), leaves_all_appear ts P (λ a k. h a (inr k)))

mutual
  unfolding Leaves Appears

  pub appears_leaves : {A : Type 0} (t : Term A) (P : A → Type 0) (a : A) → Leaves t P → Appears t a → P a
  appears_leaves (leaf b) P a l k = subst P (sym k) l
  appears_leaves (app f ts) P a l k = appears_in_leaves ts P a l k

  pub appears_in_leaves : {A : Type 0} (ts : Terms A) (P : A → Type 0) (a : A) → LeavesAll ts P → AppearsIn ts a → P a
  appears_in_leaves nil P a l k = absurd k
  appears_in_leaves (cons t ts) P a l (inl k) = appears_leaves t P a l.0 k
  appears_in_leaves (cons t ts) P a l (inr k) = appears_in_leaves ts P a l.1 k

-- A leaf of a substituted term comes from a leaf of the term.
mutual
  unfolding Appears substitute

  pub appears_substitute : {A B : Type 0} (t : Term A) (θ : A → Term B) (b : B) → Appears (substitute t θ) b → (a : A) × Appears t a
      × Appears (θ a) b
  appears_substitute (leaf a) θ b h = (a, refl, h)
  appears_substitute (app f ts) θ b h = appears_in_substitutes ts θ b h

  pub appears_in_substitutes : {A B : Type 0} (ts : Terms A) (θ : A → Term B) (b : B) → AppearsIn (substitutes ts θ) b → (a : A)
      × AppearsIn ts a × Appears (θ a) b
  appears_in_substitutes nil θ b h = absurd h
  appears_in_substitutes (cons t ts) θ b (inl h) = let r = appears_substitute t θ b h in (r.0, inl r.1, r.2)
  appears_in_substitutes (cons t ts) θ b (inr h) = let r = appears_in_substitutes ts θ b h in (r.0, inr r.1, r.2)

mutual
  unfolding Appears substitute

  pub substitute_appears : {A B : Type 0} (t : Term A) (θ : A → Term B) (a : A) (b : B) → Appears t a → Appears (θ a) b
      → Appears (substitute t θ) b
  substitute_appears (leaf c) θ a b h k = subst (λ x. Appears (θ x) b) h k
  substitute_appears (app f ts) θ a b h k = substitutes_appears ts θ a b h k

  pub substitutes_appears : {A B : Type 0} (ts : Terms A) (θ : A → Term B) (a : A) (b : B) → AppearsIn ts a → Appears (θ a) b
      → AppearsIn (substitutes ts θ) b
  substitutes_appears nil θ a b h k = absurd h
  substitutes_appears (cons t ts) θ a b (inl h) k = inl (substitute_appears t θ a b h k)
  substitutes_appears (cons t ts) θ a b (inr h) k = inr (substitutes_appears ts θ a b h k)

-- The size of a term is at least 1.
pub size_pos : {A : Type 0} (t : Term A) → 1 ≤ size t
unfolding size
size_pos (leaf a) = omega arith
size_pos (app f ts) = omega arith

-- A bound on the level of every leaf is a bound on the term's level, and the other way round.
mutual
  unfolding level_by Leaves

  pub level_leaves : {A : Type 0} (t : Term A) (l : A → ℕ) (k : ℕ) → Leaves t (λ a. l a ≤ k) → level_by t l ≤ k
  level_leaves (leaf a) l k h = h
  level_leaves (app f ts) l k h = levels_leaves ts l k h

  pub levels_leaves : {A : Type 0} (ts : Terms A) (l : A → ℕ) (k : ℕ) → LeavesAll ts (λ a. l a ≤ k) → levels_by ts l ≤ k
  levels_leaves nil l k h = omega arith
  levels_leaves (cons t ts) l k h = let a = level_leaves t l k h.0 in let b = levels_leaves ts l k h.1 in omega arith

mutual
  unfolding level_by Leaves

  pub leaves_level : {A : Type 0} (t : Term A) (l : A → ℕ) (k : ℕ) → level_by t l ≤ k → Leaves t (λ a. l a ≤ k)
  leaves_level (leaf a) l k h = h
  leaves_level (app f ts) l k h = leaves_levels ts l k h

  pub leaves_levels : {A : Type 0} (ts : Terms A) (l : A → ℕ) (k : ℕ) → levels_by ts l ≤ k → LeavesAll ts (λ a. l a ≤ k)
  leaves_levels nil l k h = tt
  leaves_levels (cons t ts) l k h = (leaves_level t l k (omega arith), leaves_levels ts l k (omega arith))

-- A map of leaves that keeps their level keeps the term's level.
mutual
  unfolding level_by substitute

  pub level_rename : {A B : Type 0} (t : Term A) (r : A → B) (l : A → ℕ) (k : B → ℕ) → ((a : A) → k (r a) ≡ l a)
      → level_by (substitute t (λ a. leaf (r a))) k ≡ level_by t l
  level_rename (leaf a) r l k h = h a
  level_rename (app f ts) r l k h = levels_rename ts r l k h

  pub levels_rename : {A B : Type 0} (ts : Terms A) (r : A → B) (l : A → ℕ) (k : B → ℕ) → ((a : A) → k (r a) ≡ l a)
      → levels_by (substitutes ts (λ a. leaf (r a))) k ≡ levels_by ts l
  levels_rename nil r l k h = refl
  levels_rename (cons t ts) r l k h = ap₂ max (level_rename t r l k h) (levels_rename ts r l k h)

-- A bound on the levels of the terms put in is a bound on the level of the substituted term.
pub level_substitute : {A B : Type 0} (t : Term A) (θ : A → Term B) (l : B → ℕ) (k : ℕ) → ((a : A) → Appears t a → level_by (θ a) l ≤ k)
    → level_by (substitute t θ) l ≤ k
level_substitute t θ l k h =
    level_leaves (substitute t θ) l k
    (leaves_substitute t θ (λ a. level_by (θ a) l ≤ k) (λ b. l b ≤ k) (λ a p. leaves_level (θ a) l k p)
    (leaves_appear t (λ a. level_by (θ a) l ≤ k) h))

-- Different constructors give different terms.
pub leaf_not_app : {A : Type 0} (a : A) (f : Functor) (ts : Terms A) → leaf a ≡ app f ts → ⊥
leaf_not_app a f ts e = true≢false (cc)

pub nil_not_cons : {A : Type 0} (t : Term A) (ts : Terms A) → nil ≡ cons t ts → ⊥
nil_not_cons t ts e = true≢false (cc)

-- functors

-- The test tells equal functors: equal numbers, the same symbol, and never one of each.
pub functor_same : (f g : Functor) → same_functor f g ≡ true → f ≡ g
unfolding same_functor
functor_same (sheet_symbol f) (sheet_symbol g) h = ap sheet_symbol (eqb-true f g h)
functor_same (sheet_symbol f) (numeral m) h = absurd (true≢false (sym h))
functor_same (numeral n) (sheet_symbol g) h = absurd (true≢false (sym h))
functor_same (numeral n) (numeral m) h = ap numeral (eqb-true n m h)

-- and back
functor_refl : (f : Functor) → same_functor f f ≡ true
unfolding same_functor
functor_refl (sheet_symbol f) = eq-eqb f f refl
functor_refl (numeral n) = eq-eqb n n refl

pub same_functor_lem : (f g : Functor) → f ≡ g → same_functor f g ≡ true
same_functor_lem f g e = subst (λ (x : Functor). same_functor f x ≡ true) e (functor_refl f)
