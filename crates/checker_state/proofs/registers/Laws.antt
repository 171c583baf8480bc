-- One law for each way through a turn of a loop or through a call; the hypotheses are the facts on the code's path.
use Prim.Native.Nat.{ℕ, suc, ◌+◌, ◌-◌, ◌<◌, ◌≤◌, max}
use mathlib.Core.Bool.{Bool, true, false}
use lib.Dec.{ltb}
use native.Mathlib.Omega.{arith}
use mathlib.Core.Path.{◌≡◌, refl, ◌∙◌}
use mathlib.Core.List.{List}
use borrow.Author.Tests.{lt-ltb, le-ltb, eq-eqb, ne_eqb, ltb-true, ltb-false}
use Rattle.sheet_format.specs.Limits.{variable_names}
use Rattle.node_table.specs.Layout.{mask_of, bit_of}
use Rattle.line_checking.specs.declared.Registers.{Registers}
use Rattle.line_checking.specs.Sequents.{made, with_stage, broken, with_binding, with_sequent, free_from, bound_from, bound, broken_stage}

pub line_wrong : (r s : Registers) → s ≡ with_stage r broken_stage → (w : List ℕ) → made w s ≡ broken w r
unfolding broken
line_wrong r s e w = rw e

-- free variables

-- None is left at a, the end.
pub free_none : (m v a y : ℕ) → free_from (8 - v) m v ≡ free_from (8 - a) m a → 8 ≤ a → (v ≤ 8 → a ≤ 8) → y ≡ max v 8
    → y ≡ free_from (8 - v) m v
unfolding free_from
free_none m v a y i h u e = go (ltb v 8) refl
  where
    go : (b : Bool) → ltb v 8 ≡ b → y ≡ free_from (8 - v) m v
    go true p =
        let l = ltb-true v 8 p in
        let q = u (omega arith) in
        let z : 8 - a ≡ 0 = omega arith in
        rw (i, z) (omega arith)
    go false p =
        let l = ltb-false v 8 p in
        let z : 8 - v ≡ 0 = omega arith in
        rw z (omega arith)

pub free_here : (m v y : ℕ) → v < variable_names → y ≡ bit_of m v → y ≡ 1 → free_from (8 - v) m v ≡ v
unfolding free_from
free_here m v y h ey e =
    let z : 8 - v ≡ suc (8 - (v + 1)) = omega arith in
    rw z (simp (free_from, ← ey, eq-eqb _ _ e))

pub free_on : (m v y : ℕ) → v < variable_names → y ≡ bit_of m v → (y ≡ 1 → ⊥) → free_from (8 - v) m v ≡ free_from (8 - (v + 1)) m (v + 1)
unfolding free_from
free_on m v y h ey e =
    let z : 8 - v ≡ suc (8 - (v + 1)) = omega arith in
    rw z (simp (free_from, ← ey, ne_eqb _ _ e))

pub bound_next : (goal : ℕ) (r s : Registers) (v f : ℕ) → v < variable_names → s ≡ with_binding r v f → s ≡ bound_from goal r v f
unfolding bound_from
bound_next goal r s v f h e = e ∙ simp (bound_from, lt-ltb _ _ h)

pub bound_all : (goal : ℕ) (r s : Registers) (v f : ℕ) → 8 ≤ v → s ≡ with_sequent r goal f 0 0 0 → s ≡ bound_from goal r v f
unfolding bound_from
bound_all goal r s v f h e = e ∙ simp (bound_from, le-ltb _ _ h)

pub bound_made : (t : List ℕ) (goal : ℕ) (r s : Registers) (v f m u : ℕ) → m ≡ mask_of t goal → u ≡ free_from (8 - v) m v
    → s ≡ bound_from goal r u f → s ≡ bound t goal r v f
unfolding bound
bound_made t goal r s v f m u em eu e = rw (e, eu, em)
