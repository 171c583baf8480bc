-- The numbers that the code computes for a new node, against the options of the definitions.
use Prim.Native.Nat.{ℕ, ◌+◌, ◌<◌, ◌≤◌}
use native.Mathlib.Omega.{arith}
use mathlib.Core.Path.{◌≡◌, refl, sym, ap}
use mathlib.Core.Bool.{Bool, true, false, cond}
use mathlib.Core.Option.{none, some, map}
use lib.Dec.{leb, eqb}
use borrow.Author.Tests.{eqb-true, eqb-false, le-leb, lt-leb, leb-true}
use Rattle.terms.specs.Terms.{Terms}
use Rattle.formulas.specs.Formulas.{Goal, atom, implies, Clause, rule, both}
use Rattle.sheet_format.specs.Nodes.{member_count, both_clauses, ruled, map2}
use Rattle.table_builder.specs.Nodes.{sum_members}

-- If the bit made of two is 1, both bits are 1.
pub both_one : (x y : ℕ) → cond (eqb x 1) y 0 ≡ 1 → (x ≡ 1) × (y ≡ 1)
both_one x y h = go (eqb x 1) refl h
  where
    go : (b : Bool) → eqb x 1 ≡ b → cond b y 0 ≡ 1 → (x ≡ 1) × (y ≡ 1)
    go true e k = (eqb-true x 1 e, k)
    go false e k = absurd (omega arith)

pub both_le : (b : Bool) (y : ℕ) → y ≤ 1 → cond b y 0 ≤ 1
both_le true y h = h
both_le false y h = omega arith

pub supposed_one : (m y : ℕ) → cond (eqb m 0) 0 y ≡ 1 → (1 ≤ m) × (y ≡ 1)
supposed_one m y h = go (eqb m 0) refl h
  where
    go : (b : Bool) → eqb m 0 ≡ b → cond b 0 y ≡ 1 → (1 ≤ m) × (y ≡ 1)
    go true e k = absurd (omega arith)
    go false e k = let d = eqb-false m 0 e in (omega arith, k)

pub supposed_le : (b : Bool) (y : ℕ) → y ≤ 1 → cond b 0 y ≤ 1
supposed_le true y h = omega arith
supposed_le false y h = h

-- a sum of members

pub record Summed (m n : ℕ) : Type 0 where
  pub left : 1 ≤ m
  pub right : 1 ≤ n
  pub few : m + n ≤ 64
  pub sum : sum_members m n ≡ m + n

pub summed : (m n : ℕ) → 1 ≤ sum_members m n → Summed m n
unfolding sum_members
summed m n h = go (eqb m 0) refl (eqb n 0) refl (leb (m + n) 64) refl h
  where
    go : (a : Bool) → eqb m 0 ≡ a → (b : Bool) → eqb n 0 ≡ b → (c : Bool) → leb (m + n) 64 ≡ c
        → 1 ≤ cond a 0 (cond b 0 (cond c (m + n) 0)) → Summed m n
    go true p b q c r k = absurd (omega arith)
    go false p true q c r k = absurd (omega arith)
    go false p false q false r k = absurd (omega arith)
    go false p false q true r k =
        let x = eqb-false m 0 p in
        let y = eqb-false n 0 q in
        record { left = omega arith; right = omega arith; few = leb-true (m + n) 64 r; sum = rw (p, q, r) }

pub sum_below : (m n : ℕ) → sum_members m n < 128
unfolding sum_members
sum_below m n = go (eqb m 0) (eqb n 0) (leb (m + n) 64) refl
  where
    go : (a b c : Bool) → leb (m + n) 64 ≡ c → cond a 0 (cond b 0 (cond c (m + n) 0)) < 128
    go true b c r = omega arith
    go false true c r = omega arith
    go false false false r = omega arith
    go false false true r = let h = leb-true (m + n) 64 r in omega arith

-- goals and clauses

-- The goal read from two nodes is the one that `goals2` makes of both.
pub goals2_read : (f : Goal → Goal → Goal) (x y z : ℕ) (g h w : Goal) → z ≡ cond (eqb x 1) y 0 → (x ≡ 1 → y ≡ 1 → w ≡ f g h)
    → cond (eqb z 1) (some w) none ≡ map2 f (cond (eqb x 1) (some g) none) (cond (eqb y 1) (some h) none)
unfolding map2
goals2_read f x y z g h w e k = rw e (go (eqb x 1) refl (eqb y 1) refl)
  where
    go : (a : Bool) → eqb x 1 ≡ a → (b : Bool) → eqb y 1 ≡ b
        → cond (eqb (cond a y 0) 1) (some w) none ≡ map2 f (cond a (some g) none) (cond b (some h) none)
    go true p true q = rw q (ap some (k (eqb-true x 1 p) (eqb-true y 1 q)))
    go true p false q = rw q
    go false p b q = refl

-- The goal read from a clause and a goal is the one that `supposed` makes of them.
pub supposed_read : (m y z : ℕ) (c : Clause) (g w : Goal) → z ≡ cond (eqb m 0) 0 y → (1 ≤ m → y ≡ 1 → w ≡ implies c g)
    → cond (eqb z 1) (some w) none ≡ map2 implies (cond (leb 1 m) (some c) none) (cond (eqb y 1) (some g) none)
unfolding map2
supposed_read m y z c g w e k = rw e (go (eqb m 0) refl (eqb y 1) refl)
  where
    go : (a : Bool) → eqb m 0 ≡ a → (b : Bool) → eqb y 1 ≡ b
        → cond (eqb (cond a 0 y) 1) (some w) none ≡ map2 implies (cond (leb 1 m) (some c) none) (cond b (some g) none)
    go true p b q = let d = eqb-true m 0 p in rw (lt-leb 1 m (omega arith))
    go false p true q = let d = eqb-false m 0 p in let l : 1 ≤ m = omega arith in rw (q, le-leb 1 m l) (ap some (k l (eqb-true y 1 q)))
    go false p false q = let d = eqb-false m 0 p in let l : 1 ≤ m = omega arith in rw (q, le-leb 1 m l)

-- The clause read from two clauses is the one that `both_clauses` makes, of at most 64 members.
pub both_read : (m n z : ℕ) (c d w : Clause) → z ≡ sum_members m n → (1 ≤ m → member_count c ≡ m) → (1 ≤ n → member_count d ≡ n)
    → (1 ≤ m → 1 ≤ n → w ≡ both c d)
    → cond (leb 1 z) (some w) none ≡ both_clauses (cond (leb 1 m) (some c) none) (cond (leb 1 n) (some d) none)
unfolding both_clauses sum_members
both_read m n z c d w e p q k = rw e (go (eqb m 0) refl (eqb n 0) refl (leb (m + n) 64) refl)
  where
    go : (x : Bool) → eqb m 0 ≡ x → (y : Bool) → eqb n 0 ≡ y → (v : Bool) → leb (m + n) 64 ≡ v
        → cond (leb 1 (cond x 0 (cond y 0 (cond v (m + n) 0)))) (some w) none ≡ both_clauses (cond (leb 1 m) (some c) none)
        (cond (leb 1 n) (some d) none)
    go true a y b v r = let i = eqb-true m 0 a in rw (lt-leb 1 m (omega arith))
    go false a true b v r =
        let i = eqb-false m 0 a in
        let j = eqb-true n 0 b in
        rw (le-leb 1 m (omega arith), lt-leb 1 n (omega arith))
    go false a false b true r =
        let i = eqb-false m 0 a in
        let j = eqb-false n 0 b in
        let x : 1 ≤ m = omega arith in
        let y : 1 ≤ n = omega arith in
        rw (le-leb 1 (m + n) (omega arith), le-leb 1 m x, le-leb 1 n y, p x, q y, r) (ap some (k x y))
    go false a false b false r =
        let i = eqb-false m 0 a in
        let j = eqb-false n 0 b in
        let x : 1 ≤ m = omega arith in
        let y : 1 ≤ n = omega arith in
        rw (le-leb 1 m x, le-leb 1 n y, p x, q y, r)

-- The clause read from a goal and an atom, which is of kind 2, is the one that `ruled` makes of them.
pub ruled_read : (j x y z : ℕ) (g h : Goal) (w : Clause) (p : ℕ) (ts : Terms ℕ) → y ≤ 1 → z ≡ cond (eqb j 2) (cond (eqb x 1) y 0) 0
    → (j ≡ 2 → y ≡ 1 → h ≡ atom p ts) → ((j ≡ 2 → ⊥) → y ≡ 1 → ruled (some g) (some h) ≡ none) → (j ≡ 2 → x ≡ 1 → y ≡ 1 → w ≡ rule g p ts)
    → cond (leb 1 z) (some w) none ≡ ruled (cond (eqb x 1) (some g) none) (cond (eqb y 1) (some h) none)
unfolding ruled
ruled_read j x y z g h w p ts s e k l m = rw e (go (eqb j 2) refl (eqb x 1) refl (eqb y 1) refl)
  where
    go : (a : Bool) → eqb j 2 ≡ a → (b : Bool) → eqb x 1 ≡ b → (c : Bool) → eqb y 1 ≡ c
        → cond (leb 1 (cond a (cond b y 0) 0)) (some w) none ≡ ruled (cond b (some g) none) (cond c (some h) none)
    go true u true v true o =
        let i = eqb-true j 2 u in
        let n = eqb-true y 1 o in
        rw (le-leb 1 y (omega arith), k i n) (ap some (m i (eqb-true x 1 v) n))
    go true u true v false o = let d = eqb-false y 1 o in rw (lt-leb 1 y (omega arith))
    go true u false v c o = refl
    go false u true v true o = sym (l (eqb-false j 2 u) (eqb-true y 1 o))
    go false u true v false o = refl
    go false u false v c o = refl

-- The goal read from one goal, or the clause from one clause, is the mapped one.
pub map_read : (f : Goal → Goal) (x z : ℕ) (g w : Goal) → z ≡ x → (x ≡ 1 → w ≡ f g)
    → cond (eqb z 1) (some w) none ≡ map f (cond (eqb x 1) (some g) none)
map_read f x z g w e k = rw e (go (eqb x 1) refl)
  where
    go : (a : Bool) → eqb x 1 ≡ a → cond a (some w) none ≡ map f (cond a (some g) none)
    go true p = ap some (k (eqb-true x 1 p))
    go false p = refl

pub map_clause : (f : Clause → Clause) (x z : ℕ) (c w : Clause) → z ≡ x → (1 ≤ x → w ≡ f c)
    → cond (leb 1 z) (some w) none ≡ map f (cond (leb 1 x) (some c) none)
map_clause f x z c w e k = rw e (go (leb 1 x) refl)
  where
    go : (a : Bool) → leb 1 x ≡ a → cond a (some w) none ≡ map f (cond a (some c) none)
    go true p = ap some (k (leb-true 1 x p))
    go false p = refl
