-- Classes of elements: a forest in which each element is related to its parent. The relation may be any that is reflexive and transitive.
use Prim.Native.Nat.{ℕ, zero, suc, ◌≤◌}
use mathlib.Core.Path.{◌≡◌, refl, sym, ap, ◌∙◌, subst}
use mathlib.Core.Bool.{Bool, true, false}
use mathlib.Core.List.{List}
use lib.Dec.{eqb, ltb}
use lib.ListN.{length, get_or, set, length-replicate, get_or-replicate, get_or-eq_default}
use lib.Seq.{get_or-set_same, get_or-set_other, set_out}
use borrow.Author.Tests.{eqb-true, eqb-false, ltb-true, ltb-false}
use Rattle.scanning.specs.Classes.{Rooted, rooted, root_from, root_of, separate}

-- No element has a parent at first.
pub separate_none : (i : ℕ) → get_or separate i 0 ≡ 0
unfolding separate
separate_none i = go (ltb i 4096) refl
  where
    go : (z : Bool) → ltb i 4096 ≡ z → get_or separate i 0 ≡ 0
    go true h = get_or-replicate 4096 i 0 0 (ltb-true i 4096 h)
    go false h = get_or-eq_default separate 0 (subst (λ (n : ℕ). n ≤ i) (sym (length-replicate {A = ℕ} 4096 0)) (ltb-false i 4096 h))

-- An element with no parent represents itself.
root_none : (n : ℕ) (c : List ℕ) (i : ℕ) → get_or c i 0 ≡ 0 → root_from n c i ≡ rooted c i
unfolding root_from
root_none zero c i h = refl
root_none (suc n) c i h = rw h

-- Each element represents itself at first.
pub separate_root : (i : ℕ) → root_of separate i ≡ rooted separate i
unfolding root_of
separate_root i = root_none 1032 separate i (separate_none i)

module _ (R : ℕ → ℕ → Type 0) (same : (i : ℕ) → R i i) (then : (i j k : ℕ) → R i j → R j k → R i k) where
  -- Each element is related to its parent.
  abbrev pub Forest : List ℕ → Type 0
  Forest c = (i : ℕ) → (get_or c i 0 ≡ 0 → ⊥) → R i (get_or c i 0)

  -- Elements without parents make a forest.
  pub separate_forest : Forest separate
  separate_forest i h = absurd (h (separate_none i))

  -- A forest with another parent, to which the element is related, is a forest.
  pub forest_set : (c : List ℕ) (i j : ℕ) → Forest c → R i j → Forest (set c i j)
  forest_set c i j f r k = go (eqb k i) refl (ltb i (length c)) refl
    where
      go : (y : Bool) → eqb k i ≡ y → (z : Bool) → ltb i (length c) ≡ z → (get_or (set c i j) k 0 ≡ 0 → ⊥) → R k (get_or (set c i j) k 0)
      go true p true q n =
          subst (λ (m : ℕ). R m (get_or (set c i j) m 0)) (sym (eqb-true k i p))
          (subst (R i) (sym (get_or-set_same c i j 0 (ltb-true i (length c) q))) r)
      go true p false q n =
          rw (set_out c i j (ltb-false i (length c) q))
          (f k (λ z. n (ap (λ (l : List ℕ). get_or l k 0) (set_out c i j (ltb-false i (length c) q)) ∙ z)))
      go false p z q n =
          let e = get_or-set_other c i k j 0 (eqb-false k i p) in
          subst (R k) (sym e) (f k (λ z. n (e ∙ z)))

  -- What a search for a representative leaves.
  pub record Reaches (i : ℕ) (o : Rooted) : Type 0 where
    pub forest : Forest o.classes
    pub related : R i o.root

  -- An element is related to its representative.
  pub root_from_lem : (n : ℕ) (c : List ℕ) (i : ℕ) → Forest c → Reaches i (root_from n c i)
  unfolding root_from
  root_from_lem zero c i f = record { forest = f; related = same i }
  root_from_lem (suc n) c i f = go (eqb p 0) refl (eqb q 0) refl (root_from_lem n (set c i q) q)
    where
      p : ℕ
      p = get_or c i 0

      q : ℕ
      q = get_or c p 0

      go : (y : Bool) → eqb p 0 ≡ y → (z : Bool) → eqb q 0 ≡ z → (Forest (set c i q) → Reaches q (root_from n (set c i q) q))
          → Reaches i (root_from (suc n) c i)
      go true g z h ih = rw (root_from, g) (record { forest = f; related = same i })
      go false g true h ih = rw (root_from, g, h) (record { forest = f; related = f i (eqb-false p 0 g) })
      go false g false h ih =
          let r : R i q = then i p q (f i (eqb-false p 0 g)) (f p (eqb-false q 0 h)) in
          let o = ih (forest_set c i q f r) in
          rw (root_from, g, h) (record { forest = o.forest; related = then i q (root_from n (set c i q) q).root r o.related })

  -- An element is related to the representative that `root_of` finds.
  pub root_of_lem : (c : List ℕ) (i : ℕ) → Forest c → Reaches i (root_of c i)
  unfolding root_of
  root_of_lem c i f = root_from_lem 1032 c i f
