-- One law for each way through a turn of a loop or through a call; the hypotheses are the facts on the code's path.
use Prim.Native.Nat.{ℕ, suc, ◌+◌, ◌-◌, ◌<◌, ◌≤◌}
use native.Mathlib.Omega.{arith}
use mathlib.Core.Path.{◌≡◌, sym, ◌∙◌}
use mathlib.Core.List.{List}
use borrow.Author.Tests.{lt-ltb, le-ltb, eq-eqb, ne_eqb}
use Rattle.node_table.specs.Layout.{members_of, clause_node, order_number}
use Rattle.scanning.specs.Fields as fields
use Rattle.std.specs.Prelude.{Some, None}
use Rattle.line_checking.specs.HypothesisChains.{step_before}
use Rattle.line_checking.specs.Members.{Place, clause_from, hypothesis_from, oldest_from, place_from}
use Rattle.memory.specs.Records.{field}

-- clauses of the sheet

pub clause_start : (t : List ℕ) (n k : ℕ) → clause_from n t 0 k ≡ clause_from (n - 0) t 0 k
clause_start t n k =
    let z : n - 0 ≡ n = omega arith in
    rw z

module _ (t : List ℕ) (n i k : ℕ) where
  pub clause_none : n ≤ i → clause_from (n - i) t i k ≡ None
  unfolding clause_from
  clause_none h =
      let z : n - i ≡ 0 = omega arith in
      rw z

  module _ (l m : ℕ) (h : i < n) (el : l ≡ clause_node t i) (em : m ≡ members_of t l) where
    pub clause_here : k < m → clause_from (n - i) t i k ≡ Some (l, 0, k)
    unfolding clause_from
    clause_here b =
        let z : n - i ≡ suc (n - (i + 1)) = omega arith in
        rw z (simp (clause_from, ← el, ← em, lt-ltb _ _ b))

    pub clause_on : m ≤ k → clause_from (n - i) t i k ≡ clause_from (n - (i + 1)) t (i + 1) (k - m)
    unfolding clause_from
    clause_on b =
        let z : n - i ≡ suc (n - (i + 1)) = omega arith in
        rw z (simp (clause_from, ← el, ← em, le-ltb _ _ b))

-- hypotheses

module _ (t : List ℕ) (clauses : ℕ) (w : List ℕ) (n i h k : ℕ) where
  pub hypothesis_end : (p : Place) → n ≤ i → p ≡ clause_from clauses t 0 k → hypothesis_from (n - i) t clauses w h k ≡ p
  unfolding hypothesis_from
  hypothesis_end p b e =
      let z : n - i ≡ 0 = omega arith in
      rw z (sym e)

  module _ (b : i < n) where
    -- A turn is left.
    turn : n - i ≡ suc (n - (i + 1))
    turn = omega arith

    pub hypothesis_none : (p : Place) → h ≡ 0 → p ≡ clause_from clauses t 0 k → hypothesis_from (n - i) t clauses w h k ≡ p
    unfolding hypothesis_from
    hypothesis_none p z e = rw turn (simp (hypothesis_from, eq-eqb _ _ z, ← e))

    module _ (l m : ℕ) (z : h ≡ 0 → ⊥) (el : l ≡ field w (h - 1) fields.hypothesis_node) (em : m ≡ members_of t l) where
      pub hypothesis_here : (f : ℕ) → k < m → f ≡ field w (h - 1) fields.hypothesis_frame → hypothesis_from (n - i) t clauses w h k ≡ Some (l, f, k)
      unfolding hypothesis_from
      hypothesis_here f c ef = rw turn (simp (hypothesis_from, ne_eqb _ _ z, ← el, ← em, lt-ltb _ _ c, ← ef))

      -- Past the members of h, to the next one or along the jump.
      module _ (v g : ℕ) (c : m ≤ k) (ev : v ≡ field w (h - 1) fields.hypothesis_passed) where
        pub hypothesis_next_lem : k < v → g ≡ field w (h - 1) fields.hypothesis_next
            → hypothesis_from (n - i) t clauses w h k ≡ hypothesis_from (n - (i + 1)) t clauses w g (k - m)
        unfolding hypothesis_from
        hypothesis_next_lem d eg = rw turn (simp (hypothesis_from, ne_eqb _ _ z, ← el, ← em, le-ltb _ _ c, ← ev, lt-ltb _ _ d, ← eg))

        pub hypothesis_jump_lem : v ≤ k → g ≡ field w (h - 1) fields.hypothesis_jump
            → hypothesis_from (n - i) t clauses w h k ≡ hypothesis_from (n - (i + 1)) t clauses w g (k - v)
        unfolding hypothesis_from
        hypothesis_jump_lem d eg = rw turn (simp (hypothesis_from, ne_eqb _ _ z, ← el, ← em, le-ltb _ _ c, ← ev, le-ltb _ _ d, ← eg))

-- the default order

module _ (t : List ℕ) (clauses : ℕ) (w : List ℕ) (n i h k : ℕ) where
  pub oldest_end : (p : Place) → n ≤ i → p ≡ clause_from clauses t 0 k → oldest_from (n - i) t clauses w h k ≡ p
  unfolding oldest_from
  oldest_end p b e =
      let z : n - i ≡ 0 = omega arith in
      rw z (sym e)

  module _ (b : i < n) where
    -- A turn is left.
    turn_left : n - i ≡ suc (n - (i + 1))
    turn_left = omega arith

    pub oldest_none : (p : Place) → h ≡ 0 → p ≡ clause_from clauses t 0 k → oldest_from (n - i) t clauses w h k ≡ p
    unfolding oldest_from
    oldest_none p z e = rw turn_left (simp (oldest_from, eq-eqb _ _ z, ← e))

    module _ (s : ℕ) (z : h ≡ 0 → ⊥) (es : s ≡ field w (h - 1) fields.hypothesis_start) where
      module _ (l m : ℕ) (c : s ≤ k) (el : l ≡ field w (h - 1) fields.hypothesis_node) (em : m ≡ members_of t l) where
        pub oldest_here : (f : ℕ) → k - s < m → f ≡ field w (h - 1) fields.hypothesis_frame
            → oldest_from (n - i) t clauses w h k ≡ Some (l, f, k - s)
        unfolding oldest_from
        oldest_here f d ef = rw turn_left (simp (oldest_from, ne_eqb _ _ z, ← es, le-ltb _ _ c, ← el, ← em, lt-ltb _ _ d, ← ef))

        pub oldest_past : m ≤ k - s → oldest_from (n - i) t clauses w h k ≡ None
        unfolding oldest_from
        oldest_past d = rw turn_left (simp (oldest_from, ne_eqb _ _ z, ← es, le-ltb _ _ c, ← el, ← em, le-ltb _ _ d))

      pub oldest_on : (g : ℕ) → k < s → g ≡ step_before w h k → oldest_from (n - i) t clauses w h k ≡ oldest_from (n - (i + 1)) t clauses w g k
      unfolding oldest_from
      oldest_on g c eg = rw turn_left (simp (oldest_from, ne_eqb _ _ z, ← es, lt-ltb _ _ c, ← eg))

-- the order in force

module _ (t : List ℕ) (clauses : ℕ) (w : List ℕ) (h k o : ℕ) (p : Place) (eo : o ≡ order_number t) where
  pub place_oldest : o ≡ 0 → p ≡ oldest_from h t clauses w h k → p ≡ place_from t clauses w h k
  unfolding place_from
  place_oldest z e = e ∙ rw (← eo, eq-eqb _ _ z)

  pub place_latest : (o ≡ 0 → ⊥) → p ≡ hypothesis_from h t clauses w h k → p ≡ place_from t clauses w h k
  unfolding place_from
  place_latest z e = e ∙ rw (← eo, ne_eqb _ _ z)
