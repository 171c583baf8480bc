-- What acts do to chains of assumptions (W-207): chains of older records stay, and an assumption's record makes its chain longer by one.
use Prim.Native.Nat.{ℕ, zero, suc, ◌+◌, ◌-◌, ◌*◌, ◌≤◌, ◌<◌}
use native.Mathlib.Omega.{arith}
use mathlib.Core.Bool.{Bool, true, false, cond}
use mathlib.Core.Path.{◌≡◌, refl, sym, ◌∙◌, ap, subst}
use mathlib.Core.List.{List, [], ◌∷◌}
use mathlib.Core.Logic.{◌⊎◌, inl}
use lib.Dec.{eqb}
use lib.ListN.{length, get_or}
use borrow.Author.Tests.{eq-eqb, ne_eqb}
use Rattle.sheet_format.specs.Limits.{numbers_per_unit}
use Rattle.machine.specs.Fields as fields
use Rattle.machine.specs.AssumptionChains.{assumption_field, parent_of, depth_of, depth_for, jump_of, jump_for, oldest_of, oldest_for}
use Rattle.machine.specs.AssumptionChains.{put_chain}
use Rattle.machine.specs.LinkedChains.{climb, Linked}
use Rattle.machine.specs.Words.{increment}
use Rattle.machine.proofs.Words.{increment_small}
use Rattle.machine.proofs.MemoryOrder.{Extends, extends_22, Grow, grow_puts}
use Rattle.machine.proofs.AssumptionChains.{linked_deep, linked_small, climb_climb, climb_linked, climb_small}
use Rattle.machine.proofs.AssumptionChains.{jump_climb}
use Rattle.memory.proofs.Records.{puts, puts_at, puts_out, length_puts}
use Rattle.memory.specs.Records.{field}

-- The field of a record, by its pointer.
pub assumption_field_lem : (w : List ℕ) (u f : ℕ) → assumption_field w (suc u) f ≡ field w u f
unfolding assumption_field
assumption_field_lem w u f = let z : suc u - 1 ≡ u = omega arith in rw (ne_eqb (suc u) 0 (λ q. omega arith), z) refl

-- Older chains

module _ (n : ℕ) (w w' : List ℕ) (e : Extends fields.constant_level n w w') where
  -- An act that leaves the records below n leaves the fields of their assumptions.
  pub assumption_field_extends : (p f : ℕ) → p ≤ n → fields.constant_level ≤ f → f < fields.writers
      → assumption_field w' p f ≡ assumption_field w p f
  unfolding assumption_field
  assumption_field_extends zero f h a b = refl
  assumption_field_extends (suc u) f h a b =
      assumption_field_lem w' u f ∙ e.old u f (omega arith) a b ∙ sym (assumption_field_lem w u f)

  -- The parents of their assumptions.
  pub parent_extends : (p : ℕ) → p ≤ n → parent_of w' p ≡ parent_of w p
  parent_extends p h = assumption_field_extends p fields.assumption_next h (omega arith) (omega arith)

  -- The depths.
  pub depth_extends : (p : ℕ) → p ≤ n → depth_of w' p ≡ depth_of w p
  depth_extends p h = assumption_field_extends p fields.assumption_depth h (omega arith) (omega arith)

  -- The jumps.
  pub jump_extends : (p : ℕ) → p ≤ n → jump_of w' p ≡ jump_of w p
  jump_extends p h = assumption_field_extends p fields.assumption_jump h (omega arith) (omega arith)

  -- The oldest of their chains.
  pub oldest_extends : (p : ℕ) → p ≤ n → oldest_of w' p ≡ oldest_of w p
  oldest_extends p h = assumption_field_extends p fields.assumption_oldest h (omega arith) (omega arith)

  -- What walking along the parents comes to.
  pub climb_extends : (k m p : ℕ) → p ≤ n → k ≤ m → Linked m w p → climb k w' p ≡ climb k w p
  unfolding climb Linked
  climb_extends zero m p h i l = refl
  climb_extends (suc k) zero p h i l = absurd (omega arith)
  climb_extends (suc k) (suc m) p h i l =
      let b = l.0.earlier in
      ap (climb k w') (parent_extends p h) ∙ climb_extends k m (parent_of w p) (omega arith) (omega arith) l.1

  -- A chain stays linked.
  pub linked_extends : (m p : ℕ) → p ≤ n → Linked m w p → Linked m w' p
  unfolding Linked
  linked_extends zero p h l = l
  linked_extends (suc m) p h l =
      let b = l.0.earlier in
      let s = l.0.steps in
      let parent = parent_extends p h in (
        record {
          some = l.0.some;
          deep = depth_extends p h ∙ l.0.deep;
          earlier = subst (λ (q : ℕ). q < p) (sym parent) b;
          steps = s;
          few = l.0.few;
          jumps = jump_extends p h ∙ l.0.jumps ∙ sym (climb_extends s m (parent_of w p) (omega arith) l.0.few l.1)
              ∙ ap (climb s w') (sym parent);
          oldest = oldest_extends p h ∙ l.0.oldest ∙ sym (climb_extends m (suc m) p h (omega arith) l);
        },
        subst (Linked m w') (sym parent) (linked_extends m (parent_of w p) (omega arith) l.1),
      )

  -- The jump of a record that is linked to it stays.
  pub jump_for_extends : (m p : ℕ) → p ≤ n → Linked m w p → jump_for w' p ≡ jump_for w p
  unfolding jump_for
  jump_for_extends m p h l =
      let a = jump_climb m w p l in
      let on = climb_linked a.0 m w p a.1 l in
      let b = jump_climb (m - a.0) w (climb a.0 w p) on in
      let sa = climb_small a.0 m w p a.1 l in
      let sb = climb_small b.0 (m - a.0) w (climb a.0 w p) b.1 on in
      let i : jump_of w p ≤ n = subst (λ (q : ℕ). q ≤ n) (sym a.2) (omega arith) in
      let j : jump_of w (jump_of w p) ≤ n = subst (λ (q : ℕ). q ≤ n) (sym (ap (λ (q : ℕ). jump_of w q) a.2 ∙ b.2)) (omega arith) in
      rw (
        jump_extends p h,
        jump_extends (jump_of w p) i,
        depth_extends p h,
        depth_extends (jump_of w p) i,
        depth_extends (jump_of w (jump_of w p)) j,
      ) refl

-- An assumption's record

-- Its jump goes some steps along the parents.
jump_for_climb : (n : ℕ) (w : List ℕ) (p : ℕ) → Linked n w p → (s : ℕ) × (s ≤ n) × (jump_for w p ≡ climb s w p)
unfolding jump_for climb
jump_for_climb n w p l = go (eqb (depth_of w p + depth_of w (jump_of w (jump_of w p))) (2 * depth_of w (jump_of w p)))
  where
    go : (b : Bool) → (s : ℕ) × (s ≤ n) × (cond b (jump_of w (jump_of w p)) p ≡ climb s w p)
    go false = (0, omega arith, refl)
    go true =
        let a = jump_climb n w p l in
        let la = a.1 in
        let on = climb_linked a.0 n w p la l in
        let b = jump_climb (n - a.0) w (climb a.0 w p) on in
        let lb = b.1 in
        (a.0 + b.0, omega arith, ap (jump_of w) a.2 ∙ b.2 ∙ climb_climb a.0 b.0 w p)

-- Its oldest is the one that all steps come to.
oldest_for_climb : (n : ℕ) (w : List ℕ) (u p : ℕ) → Linked n w p → u < 4294967295 → parent_of w (suc u) ≡ p
    → oldest_for w u p ≡ climb n w (suc u)
unfolding oldest_for climb Linked
oldest_for_climb zero w u p l small parent = rw (eq-eqb p 0 l) (increment_small u small)
oldest_for_climb (suc n) w u p l small parent =
    let some = l.0.some in
    rw (ne_eqb p 0 (λ q. omega arith)) (l.0.oldest ∙ ap (climb n w) (sym parent))

-- A record u that has a chain's pointer, the depth after the chain's, that jump and that oldest is the latest of a longer chain.
pub link_made : (n : ℕ) (w : List ℕ) (u p : ℕ) → Linked n w p → p ≤ u → u < 4294967295 → parent_of w (suc u) ≡ p
    → depth_of w (suc u) ≡ suc n → jump_of w (suc u) ≡ jump_for w p → oldest_of w (suc u) ≡ oldest_for w u p → Linked (suc n) w (suc u)
unfolding Linked
link_made n w u p l h small parent deep jump first =
    let j = jump_for_climb n w p l in (
      record {
        some = omega arith;
        deep = deep;
        earlier = omega arith;
        steps = j.0;
        few = j.1;
        jumps = jump ∙ j.2 ∙ ap (climb j.0 w) (sym parent);
        oldest = first ∙ oldest_for_climb n w u p l small parent;
      },
      subst (Linked n w) (sym parent) l,
    )

-- What is written.
abbrev links : List ℕ → ℕ → ℕ → List ℕ
links w u p = depth_for w p ∷ jump_for w p ∷ oldest_for w u p ∷ []

-- The three fields are written in a row.
pub put_chain_is : (w : List ℕ) (u p : ℕ) → put_chain w u p ≡ puts (links w u p) w u fields.assumption_depth
unfolding put_chain puts
put_chain_is w u p = refl

-- Writing them keeps the length.
pub length_chain : (w : List ℕ) (u p : ℕ) → length (put_chain w u p) ≡ length w
length_chain w u p =
    ap length (put_chain_is w u p) ∙ length_puts (links w u p) w u fields.assumption_depth

-- Other fields stay.
pub chain_other : (w : List ℕ) (u p v g : ℕ) → g < numbers_per_unit → (g < fields.assumption_depth ⊎ fields.variables < g)
    → field (put_chain w u p) v g ≡ field w v g
chain_other w u p v g h o =
    ap (λ (l : List ℕ). field l v g) (put_chain_is w u p)
    ∙ puts_out (links w u p) w u fields.assumption_depth v g (omega arith) h o

-- Older records and all variables stay.
pub grow_chain : (n k : ℕ) (w : List ℕ) (u p : ℕ) → n ≤ u → Grow n k w (put_chain w u p)
grow_chain n k w u p h =
    subst (Grow n k w) (sym (put_chain_is w u p))
    (grow_puts (links w u p) w n k u fields.assumption_depth h (omega arith) (omega arith))

-- Older chains stay.
pub extends_chain : (n : ℕ) (w : List ℕ) (u p : ℕ) → n ≤ u → Extends fields.constant_level n w (put_chain w u p)
extends_chain n w u p h = extends_22 n w (put_chain w u p) (grow_chain n 0 w u p h).extends

-- A record whose parent is a chain makes it longer by one.
pub linked_chain : (n : ℕ) (w : List ℕ) (u p : ℕ) → Linked n w p → p ≤ u → u < 4294967295 → numbers_per_unit * suc u ≤ length w
    → field w u fields.assumption_next ≡ p → Linked (suc n) (put_chain w u p) (suc u)
unfolding oldest_for
linked_chain n w u p l h few room parent =
    link_made n v u p (linked_extends u w v e n p h l) h few (assumption_field_lem v u fields.assumption_next ∙ other ∙ parent)
    (assumption_field_lem v u fields.assumption_depth ∙ written 0 (omega arith) ∙ increment_small (depth_of w p) small ∙ ap suc deep)
    (assumption_field_lem v u fields.assumption_jump ∙ written 1 (omega arith) ∙ sym (jump_for_extends u w v e n p h l))
    (assumption_field_lem v u fields.assumption_oldest ∙ written 2 (omega arith)
    ∙ ap (λ (q : ℕ). cond (eqb p 0) (increment u) q) (sym (oldest_extends u w v e p h)))
  where
    v : List ℕ
    v = put_chain w u p

    e : Extends fields.constant_level u w (put_chain w u p)
    e = extends_chain u w u p (omega arith)

    deep : depth_of w p ≡ n
    deep = linked_deep n w p l

    small : depth_of w p < 4294967295
    small = let a = deep in let b = linked_small n w p l in omega arith

    other : field (put_chain w u p) u fields.assumption_next ≡ field w u fields.assumption_next
    other = chain_other w u p u fields.assumption_next (omega arith) (inl (omega arith))

    written : (i : ℕ) → i < 3 → field (put_chain w u p) u (fields.assumption_depth + i) ≡ get_or (links w u p) i 0
    written i k =
        ap (λ (l : List ℕ). field l u (fields.assumption_depth + i)) (put_chain_is w u p)
        ∙ puts_at (links w u p) w u fields.assumption_depth i (omega arith) (omega arith) k
