-- One law for each way through a turn of a loop or through a call; the hypotheses are the facts on the code's path.
use Prim.Native.Nat.{ℕ, suc, ◌+◌, ◌-◌, ◌<◌, ◌≤◌}
use native.Mathlib.Omega.{arith}
use mathlib.Core.Path.{◌≡◌}
use mathlib.Core.List.{List}
use borrow.Author.Tests.{eq-eqb, ne_eqb}
use Rattle.node_table.specs.Layout.{members_of, clause_node}
use Rattle.scanning.specs.Fields as fields
use Rattle.line_checking.specs.HypothesisChains.{saturate}
use Rattle.line_checking.specs.Members.{sheet_members, start_after}
use Rattle.memory.specs.Records.{field}

-- members of the sheet's clauses

pub sheet_start : (t : List ℕ) (n : ℕ) → sheet_members n t 0 ≡ 0 + sheet_members (n - 0) t 0
sheet_start t n =
    let z : n - 0 ≡ n = omega arith in
    rw z (omega arith)

module _ (t : List ℕ) (n i a : ℕ) where
  pub sheet_end : n ≤ i → a + sheet_members (n - i) t i ≡ a
  unfolding sheet_members
  sheet_end h =
      let z : n - i ≡ 0 = omega arith in
      rw z (omega arith)

  pub sheet_on : (l m x : ℕ) → i < n → l ≡ clause_node t i → m ≡ members_of t l → x ≡ m
      → a + sheet_members (n - i) t i ≡ a + x + sheet_members (n - (i + 1)) t (i + 1)
  unfolding sheet_members
  sheet_on l m x h el em ex =
      let z : n - i ≡ suc (n - (i + 1)) = omega arith in
      rw (z, ← el, ← em, ex) (omega arith)

-- the start

module _ (t : List ℕ) (clauses : ℕ) (w : List ℕ) (h r : ℕ) where
  pub start_first : (n : ℕ) → h ≡ 0 → n ≡ sheet_members clauses t 0 → r ≡ saturate n → r ≡ start_after t clauses w h
  unfolding start_after
  start_first n z en er = rw (er, en, eq-eqb _ _ z)

  pub start_next : (s l m a b : ℕ) → (h ≡ 0 → ⊥) → s ≡ field w (h - 1) fields.hypothesis_start → l ≡ field w (h - 1) fields.hypothesis_node
      → m ≡ members_of t l → a ≡ s → b ≡ m → r ≡ saturate (a + b) → r ≡ start_after t clauses w h
  unfolding start_after
  start_next s l m a b z es el em ea eb er = rw (er, ea, eb, es, em, el, ne_eqb _ _ z)
