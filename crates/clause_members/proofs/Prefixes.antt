-- Prefixes as digits to base 8: each name stands once and is below 8, so that there are at most eight.
use Prim.Native.Nat.{ℕ, zero, suc, ◌+◌, ◌*◌, ◌/◌, ◌%◌, ◌<◌, ◌≤◌}
use native.Mathlib.Omega.{arith}
use mathlib.Core.Path.{◌≡◌, refl, sym, ap, ◌∙◌, subst}
use mathlib.Core.Bool.{Bool, true, false, cond, true≢false}
use mathlib.Core.List.{List, [], ◌∷◌, ◌++◌}
use lib.Dec.{eqb}
use lib.ListN.{length}
use borrow.Author.Tests.{eqb-true, eqb-false, ne_eqb}
use Rattle.terms.specs.Lists.{All, elem}
use Rattle.node_table.specs.Chains.{name_before, one_more}
use Rattle.clause_members.specs.declared.Found.{Found}
use Rattle.clause_members.specs.Members.{found, push_name}

-- No number stands twice.
abbrev pub Distinct : List ℕ → Type 0
Distinct [] = Unit {0}
Distinct (v ∷ l) = (elem v l ≡ false) × Distinct l

-- The list without n.
unfoldable pub remove : ℕ → List ℕ → List ℕ
remove n [] = []
remove n (v ∷ l) = cond (eqb v n) (remove n l) (v ∷ remove n l)

-- What a longer list does not have, neither its head is nor its tail has.
elem_tail : (v u : ℕ) (l : List ℕ) → elem v (u ∷ l) ≡ false → (eqb u v ≡ false) × (elem v l ≡ false)
unfolding elem
elem_tail v u l h = go (eqb u v) refl h
  where
    go : (b : Bool) → eqb u v ≡ b → elim b as (λ z. Bool) [ true ↦ true | false ↦ elem v l ] ≡ false
        → (eqb u v ≡ false) × (elem v l ≡ false)
    go true p q = absurd (true≢false q)
    go false p q = (p, q)

-- What neither the head is nor the tail has, the list does not have.
elem_cons : (v u : ℕ) (l : List ℕ) → eqb u v ≡ false → elem v l ≡ false → elem v (u ∷ l) ≡ false
unfolding elem
elem_cons v u l h k = rw (elem, h) k

-- Removing brings nothing in.
remove_elem : (n v : ℕ) (l : List ℕ) → elem v l ≡ false → elem v (remove n l) ≡ false
unfolding remove elem
remove_elem n v [] h = refl
remove_elem n v (u ∷ l) h = go (eqb u n) (remove_elem n v l (elem_tail v u l h).1)
  where
    go : (b : Bool) → elem v (remove n l) ≡ false → elem v (cond b (remove n l) (u ∷ remove n l)) ≡ false
    go true p = p
    go false p = elem_cons v u (remove n l) (elem_tail v u l h).0 p

-- Removing leaves distinct numbers distinct.
remove_distinct : (n : ℕ) (l : List ℕ) → Distinct l → Distinct (remove n l)
unfolding remove
remove_distinct n [] h = tt
remove_distinct n (u ∷ l) h = go (eqb u n) (remove_distinct n l h.1)
  where
    go : (b : Bool) → Distinct (remove n l) → Distinct (cond b (remove n l) (u ∷ remove n l))
    go true p = p
    go false p = (remove_elem n u l h.0, p)

-- Removing n leaves numbers below n where they were below its successor.
remove_below : (n : ℕ) (l : List ℕ) → All (λ v. v < suc n) l → All (λ v. v < n) (remove n l)
unfolding remove
remove_below n [] h = tt
remove_below n (u ∷ l) h = go (eqb u n) refl (remove_below n l h.1)
  where
    go : (b : Bool) → eqb u n ≡ b → All (λ v. v < n) (remove n l) → All (λ v. v < n) (cond b (remove n l) (u ∷ remove n l))
    go true e p = p
    go false e p = (let d = eqb-false u n e in let k = h.0 in omega arith, p)

-- Removing n changes nothing where n is absent.
remove_absent : (n : ℕ) (l : List ℕ) → elem n l ≡ false → remove n l ≡ l
unfolding remove elem
remove_absent n [] h = refl
remove_absent n (u ∷ l) h = let k = elem_tail n u l h in rw k.0 (ap (u ∷◌) (remove_absent n l k.1))

-- Removing takes at most one of distinct numbers away.
remove_length : (n : ℕ) (l : List ℕ) → Distinct l → length l ≤ suc (length (remove n l))
unfolding remove
remove_length n [] h = omega arith
remove_length n (u ∷ l) h = go (eqb u n) refl (remove_length n l h.1)
  where
    go : (b : Bool) → eqb u n ≡ b → length l ≤ suc (length (remove n l))
        → suc (length l) ≤ suc (length (cond b (remove n l) (u ∷ remove n l)))
    go true e p = let k = ap length (remove_absent n l (subst (λ (v : ℕ). elem v l ≡ false) (eqb-true u n e) h.0)) in omega arith
    go false e p = omega arith

-- So distinct numbers below n are at most n.
pub distinct_few : (n : ℕ) (l : List ℕ) → All (λ v. v < n) l → Distinct l → length l ≤ n
distinct_few zero [] b d = omega arith
distinct_few zero (v ∷ l) b d = absurd (let k = b.0 in omega arith)
distinct_few (suc n) l b d =
    let p = remove_length n l d in
    let q = distinct_few n (remove n l) (remove_below n l b) (remove_distinct n l d) in
    omega arith

-- What a list of numbers with a property does not have lacks the property.
pub absent : (p : ℕ → Bool) (v : ℕ) (l : List ℕ) → p v ≡ true → All (λ u. p u ≡ false) l → elem v l ≡ false
unfolding elem
absent p v [] h a = refl
absent p v (u ∷ l) h a = elem_cons v u l (ne_eqb u v other) (absent p v l h a.1)
  where
    other : u ≡ v → ⊥
    other e = true≢false (sym h ∙ ap p (sym e) ∙ a.0)

-- Two lists of distinct numbers that have none in common.
elem_append : (v : ℕ) (a b : List ℕ) → elem v a ≡ false → elem v b ≡ false → elem v (a ++ b) ≡ false
elem_append v [] b h k = k
elem_append v (u ∷ a) b h k = let e = elem_tail v u a h in elem_cons v u (a ++ b) e.0 (elem_append v a b e.1 k)

pub distinct_append : (a b : List ℕ) → Distinct a → Distinct b → All (λ v. elem v b ≡ false) a → Distinct (a ++ b)
distinct_append [] b h k d = k
distinct_append (v ∷ a) b h k d = (elem_append v a b h.0 d.0, distinct_append a b h.1 k d.1)

-- The numbers of a list that pass a test.
unfoldable pub keep : (ℕ → Bool) → List ℕ → List ℕ
keep p [] = []
keep p (v ∷ l) = cond (p v) (v ∷ keep p l) (keep p l)

-- They have what all numbers of the list have that pass the test.
pub keep_all : (p : ℕ → Bool) (P R : ℕ → Type 0) → ((v : ℕ) → P v → p v ≡ true → R v) → (l : List ℕ) → All P l → All R (keep p l)
unfolding keep
keep_all p P R f [] h = tt
keep_all p P R f (v ∷ l) h = go (p v) refl (keep_all p P R f l h.1)
  where
    go : (b : Bool) → p v ≡ b → All R (keep p l) → All R (cond b (v ∷ keep p l) (keep p l))
    go true e r = (f v h.0 e, r)
    go false e r = r

keep_elem : (p : ℕ → Bool) (v : ℕ) (l : List ℕ) → elem v l ≡ false → elem v (keep p l) ≡ false
unfolding keep elem
keep_elem p v [] h = refl
keep_elem p v (u ∷ l) h = go (p u) (keep_elem p v l (elem_tail v u l h).1)
  where
    go : (b : Bool) → elem v (keep p l) ≡ false → elem v (cond b (u ∷ keep p l) (keep p l)) ≡ false
    go true e = elem_cons v u (keep p l) (elem_tail v u l h).0 e
    go false e = e

pub keep_distinct : (p : ℕ → Bool) (l : List ℕ) → Distinct l → Distinct (keep p l)
unfolding keep
keep_distinct p [] h = tt
keep_distinct p (v ∷ l) h = go (p v) (keep_distinct p l h.1)
  where
    go : (b : Bool) → Distinct (keep p l) → Distinct (cond b (v ∷ keep p l) (keep p l))
    go true d = (keep_elem p v l h.0, d)
    go false d = d

-- The names that n digits stand for, lowest first.
unfoldable pub names_of : ℕ → ℕ → List ℕ
names_of zero a = []
names_of (suc n) a = a % 8 ∷ names_of n (a / 8)

-- There are n names.
pub names_length : (n a : ℕ) → length (names_of n a) ≡ n
unfolding names_of
names_length zero a = refl
names_length (suc n) a = ap suc (names_length n (a / 8))

-- Each name is below 8.
pub names_below : (n a : ℕ) → All (λ v. v < 8) (names_of n a)
unfolding names_of
names_below zero a = tt
names_below (suc n) a = (omega arith, names_below n (a / 8))

-- 8 to the power n.
unfoldable pub power : ℕ → ℕ
power zero = 1
power (suc n) = 8 * power n

-- The power grows with n.
power_mono : (n k : ℕ) → n ≤ k → power n ≤ power k
unfolding power
power_mono zero zero h = omega arith
power_mono zero (suc k) h = let p = power_mono zero k (omega arith) in omega arith
power_mono (suc n) zero h = absurd (omega arith)
power_mono (suc n) (suc k) h = let p = power_mono n k (omega arith) in omega arith

-- Eight digits fit 24 bits.
power_small : (n : ℕ) → n ≤ 8 → power n ≤ 16777216
unfolding power
power_small n h = power_mono n 8 h

-- Digits that stand for different names, with nothing above them.
pub record Prefix (m : Found) : Type 0 where
  pub distinct : Distinct (names_of m.count m.names)
  pub fits : m.names < power m.count

-- There are at most eight.
pub prefix_few : (m : Found) → Prefix m → m.count ≤ 8
prefix_few m p =
    let k = names_length m.count m.names in
    let few = distinct_few 8 (names_of m.count m.names) (names_below m.count m.names) p.distinct in
    omega arith

-- A leaf has no prefix.
pub prefix_none : (leaf : ℕ) → Prefix (found leaf 0 0)
unfolding names_of power
prefix_none leaf = record { distinct = tt; fits = omega arith }

-- The digits of m stand for the names l, and nothing is above them.
pub record Digits (m : Found) (l : List ℕ) : Type 0 where
  pub is : names_of m.count m.names ≡ l
  pub fits : m.names < power m.count

-- A leaf has none.
pub digits_none : (leaf : ℕ) → Digits (found leaf 0 0) []
unfolding names_of power
digits_none leaf = record { is = refl; fits = omega arith }

-- One name more stands in front, and nothing is cut off.
pub digits_push : (v : ℕ) (m : Found) (l : List ℕ) → v < 8 → length l < 8 → Digits m l → Digits (push_name v m) (v ∷ l)
unfolding push_name name_before one_more names_of power
digits_push v m l small few d =
    let k = names_length m.count m.names in
    let j = ap length d.is in
    let y = power_small m.count (omega arith) in
    let f = d.fits in
    let a : m.names % 16777216 ≡ m.names = omega arith in
    let b : m.count % 8 + 1 ≡ suc m.count = omega arith in
    let e : v % 8 ≡ v = omega arith in
    let x : (v + 8 * m.names) % 8 ≡ v = omega arith in
    let z : (v + 8 * m.names) / 8 ≡ m.names = omega arith in
    record { is = rw (a, b, e, x, z) (ap (v ∷◌) d.is); fits = rw (a, b, e) (omega arith) }
