-- Along a chain of assumptions (W-207): jumps find what walking along the parents finds, and what stands in the chain's list.
use Prim.Native.Nat.{ℕ, zero, suc, ◌+◌, ◌-◌, ◌≤◌, ◌<◌}
use native.Mathlib.Omega.{arith}
use mathlib.Core.Bool.{Bool, true, false, cond}
use mathlib.Core.Path.{◌≡◌, refl, sym, ◌∙◌, ap, subst}
use mathlib.Core.List.{List, [], ◌∷◌, ◌++◌}
use lib.Dec.{leb, ltb}
use lib.ListN.{length, get_or, length-append, get_or-append, get_or-eq_default}
use borrow.Author.Tests.{leb-true, leb-false, ltb-true, ltb-false, lt-ltb, le-ltb}
use Rattle.machine.specs.Fields as fields
use Rattle.machine.specs.AssumptionChains.{assumption_field, parent_of, depth_of, jump_of, step_towards, find_ancestor, oldest_of, later_of}
use Rattle.machine.specs.LinkedChains.{climb, oldest_first, Linked, Finds}

-- Climbing

-- The depth of a chain is the number of its records.
pub linked_deep : (n : ℕ) (w : List ℕ) (p : ℕ) → Linked n w p → depth_of w p ≡ n
unfolding Linked assumption_field
linked_deep zero w p h = subst (λ (q : ℕ). assumption_field w q fields.assumption_depth ≡ 0) (sym h) refl
linked_deep (suc n) w p h = h.0.deep

-- It is no more than the chain's pointer.
pub linked_small : (n : ℕ) (w : List ℕ) (p : ℕ) → Linked n w p → n ≤ p
unfolding Linked
linked_small zero w p h = omega arith
linked_small (suc n) w p h = let i = linked_small n w (parent_of w p) h.1 in let e = h.0.earlier in omega arith

-- Some steps and then some more are their sum.
pub climb_climb : (a b : ℕ) (w : List ℕ) (p : ℕ) → climb b w (climb a w p) ≡ climb (a + b) w p
unfolding climb
climb_climb zero b w p = let z : b ≡ 0 + b = omega arith in ap (λ (k : ℕ). climb k w p) z
climb_climb (suc a) b w p =
    let z : suc (a + b) ≡ suc a + b = omega arith in
    climb_climb a b w (parent_of w p) ∙ ap (λ (k : ℕ). climb k w p) z

-- What follows on a chain is a chain.
pub climb_linked : (k n : ℕ) (w : List ℕ) (p : ℕ) → k ≤ n → Linked n w p → Linked (n - k) w (climb k w p)
unfolding Linked climb
climb_linked zero n w p h l = let z : n ≡ n - 0 = omega arith in subst (λ (m : ℕ). Linked m w p) z l
climb_linked (suc k) zero w p h l = absurd (omega arith)
climb_linked (suc k) (suc n) w p h l =
    let z : n - k ≡ suc n - suc k = omega arith in
    subst (λ (m : ℕ). Linked m w (climb k w (parent_of w p))) z (climb_linked k n w (parent_of w p) (omega arith) l.1)

-- It was made before.
pub climb_small : (k n : ℕ) (w : List ℕ) (p : ℕ) → k ≤ n → Linked n w p → climb k w p ≤ p
unfolding Linked climb
climb_small zero n w p h l = omega arith
climb_small (suc k) zero w p h l = absurd (omega arith)
climb_small (suc k) (suc n) w p h l =
    let i = climb_small k n w (parent_of w p) (omega arith) l.1 in let e = l.0.earlier in omega arith

-- A jump goes some steps along the parents.
pub jump_climb : (n : ℕ) (w : List ℕ) (p : ℕ) → Linked n w p → (s : ℕ) × (s ≤ n) × (jump_of w p ≡ climb s w p)
unfolding Linked climb assumption_field
jump_climb zero w p h = (0, omega arith, subst (λ (q : ℕ). assumption_field w q fields.assumption_jump ≡ q) (sym h) refl)
jump_climb (suc n) w p h = let f = h.0.few in (suc h.0.steps, omega arith, h.0.jumps)

-- Finding

-- A step towards depth d goes some steps along the parents, and not past that depth.
record Steps (n : ℕ) (w : List ℕ) (p d q : ℕ) : Type 0 where
  steps : ℕ
  least : 1 ≤ steps
  most : steps ≤ n
  near : d ≤ n - steps
  there : q ≡ climb steps w p

step_climb : (n : ℕ) (w : List ℕ) (p d : ℕ) → Linked (suc n) w p → d ≤ n → Steps (suc n) w p d (step_towards w p d)
unfolding step_towards Linked climb
step_climb n w p d l h = go (ltb (depth_of w (jump_of w p)) d) refl
  where
    s : ℕ
    s = l.0.steps

    after : depth_of w (jump_of w p) ≡ n - s
    after =
        ap (λ (q : ℕ). depth_of w q) l.0.jumps
        ∙ linked_deep (n - s) w (climb s w (parent_of w p)) (climb_linked s n w (parent_of w p) l.0.few l.1)

    go : (b : Bool) → ltb (depth_of w (jump_of w p)) d ≡ b → Steps (suc n) w p d (cond b (parent_of w p) (jump_of w p))
    go true e = record { steps = 1; least = omega arith; most = omega arith; near = omega arith; there = refl }
    go false e =
        let far = ltb-false (depth_of w (jump_of w p)) d e in
        let few = l.0.few in
        let a = after in
        record { steps = suc s; least = omega arith; most = omega arith; near = omega arith; there = l.0.jumps }

-- Jumps find what walking along the parents finds.
pub find_climb : (f n : ℕ) (w : List ℕ) (p d : ℕ) → Linked n w p → n ≤ f → d ≤ n → find_ancestor f w p d ≡ climb (n - d) w p
unfolding find_ancestor climb
find_climb zero n w p d l h k = let z : 0 ≡ n - d = omega arith in ap (λ (m : ℕ). climb m w p) z
find_climb (suc f) n w p d l h k = go (leb (depth_of w p) d) refl (λ m q i a b. find_climb f m w q d i a b)
  where
    deep : depth_of w p ≡ n
    deep = linked_deep n w p l

    on : (m : ℕ) → Linked m w p → m ≤ suc f → d < m
        → ((i q : ℕ) → Linked i w q → i ≤ f → d ≤ i → find_ancestor f w q d ≡ climb (i - d) w q)
        → find_ancestor f w (step_towards w p d) d ≡ climb (m - d) w p
    on zero l h k ih = absurd (omega arith)
    on (suc m) l h k ih =
        let t = step_climb m w p d l (omega arith) in
        let least = t.least in
        let most = t.most in
        let near = t.near in
        let z : t.steps + (suc m - t.steps - d) ≡ suc m - d = omega arith in
        ap (λ (q : ℕ). find_ancestor f w q d) t.there
        ∙ ih (suc m - t.steps) (climb t.steps w p) (climb_linked t.steps (suc m) w p most l) (omega arith) near
        ∙ climb_climb t.steps (suc m - t.steps - d) w p
        ∙ ap (λ (i : ℕ). climb i w p) z

    go : (b : Bool) → leb (depth_of w p) d ≡ b → ((i q : ℕ) → Linked i w q → i ≤ f → d ≤ i → find_ancestor f w q d ≡ climb (i - d) w q)
        → cond b p (find_ancestor f w (step_towards w p d) d) ≡ climb (n - d) w p
    go true e ih =
        let t = leb-true (depth_of w p) d e in
        let x = deep in
        let z : 0 ≡ n - d = omega arith in
        ap (λ (m : ℕ). climb m w p) z
    go false e ih = let t = leb-false (depth_of w p) d e in let x = deep in on n l h (omega arith) ih

-- The oldest is the one that all steps but one come to.
pub oldest_climb : (n : ℕ) (w : List ℕ) (p : ℕ) → Linked (suc n) w p → oldest_of w p ≡ climb n w p
unfolding Linked
oldest_climb n w p l = l.0.oldest

-- No assumption is the oldest of none.
pub oldest_none : (w : List ℕ) → oldest_of w 0 ≡ 0
unfolding assumption_field
oldest_none w = refl

-- Each is made after its parent.
pub later_climb : (k n : ℕ) (w : List ℕ) (p : ℕ) → suc k ≤ n → Linked n w p → later_of w p (climb (suc k) w p) ≡ climb k w p
unfolding later_of
later_climb k n w p h l =
    let d : depth_of w p ≡ n = linked_deep n w p l in
    let b : depth_of w (climb (suc k) w p) ≡ n - suc k = linked_deep (n - suc k) w (climb (suc k) w p) (climb_linked (suc k) n w p h l) in
    let y : n - (depth_of w (climb (suc k) w p) + 1) ≡ k = omega arith in
    ap (λ (t : Bool). cond t (find_ancestor (depth_of w p) w p (depth_of w (climb (suc k) w p) + 1)) 0)
    (lt-ltb (depth_of w (climb (suc k) w p)) (depth_of w p) (omega arith))
    ∙ find_climb (depth_of w p) n w p (depth_of w (climb (suc k) w p) + 1) l (omega arith) (omega arith)
    ∙ ap (λ (m : ℕ). climb m w p) y

-- None is made after the latest.
pub later_none : (w : List ℕ) (p : ℕ) → later_of w p p ≡ 0
unfolding later_of
later_none w p =
    ap (λ (t : Bool). cond t (find_ancestor (depth_of w p) w p (depth_of w p + 1)) 0) (le-ltb (depth_of w p) (depth_of w p) (omega arith))

-- The chain's list

-- It has all of the chain's records.
pub oldest_first_length : (n : ℕ) (w : List ℕ) (p : ℕ) → length (oldest_first n w p) ≡ n
unfolding oldest_first
oldest_first_length zero w p = refl
oldest_first_length (suc n) w p =
    let i = oldest_first_length n w (parent_of w p) in let a = length-append (oldest_first n w (parent_of w p)) (p ∷ []) in omega arith

-- What is appended to a list stands last.
last_at : (l : List ℕ) (a : ℕ) → get_or (l ++ (a ∷ [])) (length l) 0 ≡ a
last_at [] a = refl
last_at (x ∷ l) a = last_at l a

-- Its i-th is the one that the rest of the steps come to.
pub oldest_first_at : (n : ℕ) (w : List ℕ) (p i : ℕ) → i < n → get_or (oldest_first n w p) i 0 ≡ climb (n - suc i) w p
unfolding oldest_first climb
oldest_first_at zero w p i h = absurd (omega arith)
oldest_first_at (suc n) w p i h = go (ltb i n) refl (λ k. oldest_first_at n w (parent_of w p) i k)
  where
    l : List ℕ
    l = oldest_first n w (parent_of w p)

    many : length l ≡ n
    many = oldest_first_length n w (parent_of w p)

    go : (b : Bool) → ltb i n ≡ b → (i < n → get_or (oldest_first n w (parent_of w p)) i 0 ≡ climb (n - suc i) w (parent_of w p))
        → get_or (oldest_first n w (parent_of w p) ++ (p ∷ [])) i 0 ≡ climb (suc n - suc i) w p
    go true e ih =
        let k = ltb-true i n e in
        let m = many in
        let z : suc (n - suc i) ≡ suc n - suc i = omega arith in
        get_or-append l (p ∷ []) 0 i (omega arith) ∙ ih k ∙ ap (λ (j : ℕ). climb j w p) z
    go false e ih =
        let k = ltb-false i n e in
        let m = many in
        let y : i ≡ length l = omega arith in
        let z : 0 ≡ suc n - suc i = omega arith in
        ap (λ (j : ℕ). get_or (oldest_first n w (parent_of w p) ++ (p ∷ [])) j 0) y ∙ last_at l p ∙ ap (λ (j : ℕ). climb j w p) z

-- Its first is the oldest.
first_found : (n : ℕ) (w : List ℕ) (p : ℕ) → Linked n w p → oldest_of w p ≡ get_or (oldest_first n w p) 0 0
unfolding Linked oldest_first
first_found zero w p l = ap (λ (q : ℕ). oldest_of w q) l ∙ oldest_none w
first_found (suc n) w p l =
    let z : suc n - suc 0 ≡ n = omega arith in
    oldest_climb n w p l ∙ sym (oldest_first_at (suc n) w p 0 (omega arith) ∙ ap (λ (k : ℕ). climb k w p) z)

-- After its i-th comes the next, none after the last.
next_found : (n : ℕ) (w : List ℕ) (p i : ℕ) → Linked n w p → i < n
    → later_of w p (get_or (oldest_first n w p) i 0) ≡ get_or (oldest_first n w p) (suc i) 0
unfolding climb
next_found n w p i l h = ap (later_of w p) (oldest_first_at n w p i h) ∙ go (n - suc i) refl
  where
    go : (k : ℕ) → n - suc i ≡ k → later_of w p (climb k w p) ≡ get_or (oldest_first n w p) (suc i) 0
    go zero e = let m = oldest_first_length n w p in later_none w p ∙ sym (get_or-eq_default (oldest_first n w p) 0 (omega arith))
    go (suc k) e =
        let z : n - suc (suc i) ≡ k = omega arith in
        later_climb k n w p (omega arith) l ∙ sym (oldest_first_at n w p (suc i) (omega arith) ∙ ap (λ (j : ℕ). climb j w p) z)

-- All of it is found.
pub finds : (n : ℕ) (w : List ℕ) (p : ℕ) → Linked n w p → Finds n w p
finds n w p l =
    let deep = linked_deep n w p l in
    record {
      ancestors = λ d h. find_climb (depth_of w p) n w p d l (omega arith) h;
      places = λ i h. find_climb (depth_of w p) n w p (suc i) l (omega arith) (omega arith) ∙ sym (oldest_first_at n w p i h);
      first = first_found n w p l;
      next = λ i h. next_found n w p i l h;
    }
