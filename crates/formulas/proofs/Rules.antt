-- Laws of `specs/Rules.antt`: what is assumed under either order.
use Prim.Native.Nat.{ℕ}
use mathlib.Core.Path.{◌≡◌, refl, sym, ap, subst}
use mathlib.Core.List.{List, [], ◌∷◌, ◌++◌, map}
use mathlib.Core.Logic.{◌⊎◌, inl, inr}
use Rattle.terms.specs.Lists.{All, Mem, here, there}
use Rattle.terms.proofs.Lists.{all_append, mem_nil, map_append}
use Rattle.formulas.specs.Rules.{Order, oldest, latest, Rules, rules, joined, assume, map_rules}

-- The clauses 0 and 1 of a sheet, then the assumptions 2 and 3: the default order, and that of `O latest`.
oldest_first_lem : joined {A = ℕ} oldest 3 (joined oldest 2 (0 ∷ 1 ∷ [])) ≡ 0 ∷ 1 ∷ 2 ∷ 3 ∷ []
unfolding joined
oldest_first_lem = refl

latest_first : joined {A = ℕ} latest 3 (joined latest 2 (0 ∷ 1 ∷ [])) ≡ 3 ∷ 2 ∷ 0 ∷ 1 ∷ []
unfolding joined
latest_first = refl

-- Assuming goes through what is put in the place of each clause.
pub joined_map : {A B : Type 0} (f : A → B) (o : Order) (a : A) (l : List A) → map f (joined o a l) ≡ joined o (f a) (map f l)
unfolding joined
joined_map f oldest a l = map_append f l (a ∷ [])
joined_map f latest a l = refl

pub assume_map : {A B : Type 0} (f : A → B) (a : A) (R : Rules A) → map_rules f (assume a R) ≡ assume (f a) (map_rules f R)
assume_map f a R = ap (rules R.order) (joined_map f R.order a R.clauses)

-- What holds of the assumption and of all other clauses holds of all.
pub joined_all_lem : {A : Type 0} (P : A → Type 0) (o : Order) (a : A) (l : List A) → P a → All P l → All P (joined o a l)
unfolding joined
joined_all_lem P oldest a l h k = all_append P l (a ∷ []) k (h, tt)
joined_all_lem P latest a l h k = (h, k)

-- What is in a list is in the list with another before or after it,
pub mem_left : {A : Type 0} {a : A} {l : List A} → Mem a l → (k : List A) → Mem a (l ++ k)
mem_left here k = here
mem_left (there h) k = there (mem_left h k)

pub mem_right : {A : Type 0} {a : A} (l k : List A) → Mem a k → Mem a (l ++ k)
mem_right [] k h = h
mem_right (b ∷ l) k h = there (mem_right l k h)

-- and in nothing else: first the front,
first_cases : {A : Type 0} {a b : A} {l : List A} → Mem b (a ∷ l) → (b ≡ a) ⊎ Mem b l
first_cases here = inl refl
first_cases (there h) = inr h

-- then two lists,
pub mem_cases : {A : Type 0} {a : A} (l k : List A) → Mem a (l ++ k) → (C : Type 0) → (Mem a l → C) → (Mem a k → C) → C
mem_cases [] k h C f g = g h
mem_cases {a = a} (b ∷ l) k h C f g = go (first_cases h) (λ m. mem_cases l k m C (λ z. f (there z)) g)
  where
    go : (a ≡ b) ⊎ Mem a (l ++ k) → (Mem a (l ++ k) → C) → C
    go (inl e) r = f (subst (λ d. Mem d (b ∷ l)) (sym e) here)
    go (inr m) r = r m

-- then the end.
last_cases : {A : Type 0} {b : A} (a : A) (l : List A) → Mem b (l ++ (a ∷ [])) → (b ≡ a) ⊎ Mem b l
last_cases {b = b} a l h = mem_cases l (a ∷ []) h ((b ≡ a) ⊎ Mem b l) inr (λ k. only (first_cases k))
  where
    only : (b ≡ a) ⊎ Mem b [] → (b ≡ a) ⊎ Mem b l
    only (inl e) = inl e
    only (inr k) = absurd (mem_nil k)

-- The assumption is among the clauses, and so are the others,
pub joined_here : {A : Type 0} (o : Order) (a : A) (l : List A) → Mem a (joined o a l)
unfolding joined
joined_here oldest a l = mem_right l (a ∷ []) here
joined_here latest a l = here

pub joined_there : {A : Type 0} {b : A} (o : Order) (a : A) (l : List A) → Mem b l → Mem b (joined o a l)
unfolding joined
joined_there oldest a l h = mem_left h (a ∷ [])
joined_there latest a l h = there h

-- and nothing else is.
pub joined_cases : {A : Type 0} {b : A} (o : Order) (a : A) (l : List A) → Mem b (joined o a l) → (b ≡ a) ⊎ Mem b l
unfolding joined
joined_cases oldest a l h = last_cases a l h
joined_cases latest a l h = first_cases h

-- So clauses that are all among others are so with one more assumption, whatever the two orders are.
pub joined_among : {A : Type 0} (o p : Order) (a : A) (l k : List A) → ((b : A) → Mem b l → Mem b k) → (b : A) → Mem b (joined o a l)
    → Mem b (joined p a k)
joined_among o p a l k f b h = go (joined_cases o a l h)
  where
    go : (b ≡ a) ⊎ Mem b l → Mem b (joined p a k)
    go (inl e) = subst (λ c. Mem c (joined p a k)) (sym e) (joined_here p a k)
    go (inr m) = joined_there p a k (f b m)
