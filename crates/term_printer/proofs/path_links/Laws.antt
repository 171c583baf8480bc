-- One law for each way through a turn of a loop or through a call; the hypotheses are the facts on the code's path.
use Prim.Native.Nat.{ℕ, zero, suc, ◌+◌, ◌-◌, ◌*◌, ◌≤◌, ◌<◌}
use native.Mathlib.Numerals.{sub-one}
use native.Mathlib.Omega.{arith}
use mathlib.Core.Path.{◌≡◌, refl}
use mathlib.Core.Bool.{cond}
use mathlib.Core.List.{List}
use borrow.Author.Tests.{eq-eqb, ne_eqb}
use lib.Dec.{eqb}
use Rattle.machine.specs.Fields as fields
use Rattle.machine.specs.Records.{cell_of, put_cell}
use Rattle.machine.specs.Words.{truncate, tag_of}
use Rattle.printing.specs.PathLinks.{link_word, linked, link_path, clear_variables, next_line_field}
use Rattle.memory.specs.Records.{field, put_field}

-- Links.
pub link_of : (p k a b r : ℕ) → a ≡ p → b ≡ k → r ≡ truncate (8 * a + b) → r ≡ link_word p k
unfolding link_word
link_of p k a b r ea eb er = rw (er, ea, eb)

module _ (w : List ℕ) (p k e : ℕ) where
  pub link_end : (n i : ℕ) → n ≤ i → link_path (n - i) w p k e ≡ linked w e
  unfolding link_path
  link_end n i h =
      let z : n - i ≡ 0 = omega arith in
      rw z

  pub link_first : (n : ℕ) → p ≡ 0 → link_path n w p k e ≡ linked w e
  unfolding link_path
  link_first zero h = refl
  link_first (suc n) h = simp (link_path, eq-eqb _ _ h)

  pub link_on : (n i u b l a : ℕ) (w' : List ℕ) → i < n → (p ≡ 0 → ⊥) → u ≡ p - 1 → b ≡ field w u fields.path_before
      → l ≡ field w u fields.path_line → w' ≡ put_field w u next_line_field e → a ≡ link_word p k
      → link_path (n - i) w p k e ≡ link_path (n - (i + 1)) w' b l a
  unfolding link_path
  link_on n i u b l a w' h z eu eb el ew ea =
      let s : n - i ≡ suc (n - (i + 1)) = omega arith in
      rw (s, ea, ew, el, eb, eu) (simp (link_path, ne_eqb _ _ z))

-- No numbers.
pub cell_kept : (w : List ℕ) (x b a : ℕ) → b ≡ cell_of w x → a ≡ tag_of b → (a ≡ 0 → ⊥)
    → w ≡ cond (eqb (tag_of (cell_of w x)) 0) (put_cell w x 0) w
cell_kept w x b a eb ea e = simp (← eb, ← ea, ne_eqb _ _ e)

pub cell_cleared : (w w' : List ℕ) (x b a : ℕ) → b ≡ cell_of w x → a ≡ tag_of b → a ≡ 0 → w' ≡ put_cell w x 0
    → w' ≡ cond (eqb (tag_of (cell_of w x)) 0) (put_cell w x 0) w
cell_cleared w w' x b a eb ea e ew = rw ew (simp (← eb, ← ea, eq-eqb _ _ e))

pub variables_end : (n : ℕ) (w : List ℕ) → n ≤ 0 → clear_variables n w ≡ w
unfolding clear_variables
variables_end zero w h = refl
variables_end (suc n) w h = absurd (omega arith)

pub variables_on : (n : ℕ) (w w' : List ℕ) → 0 < n → w' ≡ cond (eqb (tag_of (cell_of w (n - 1))) 0) (put_cell w (n - 1) 0) w
    → clear_variables n w ≡ clear_variables (n - 1) w'
unfolding clear_variables
variables_on zero w w' h e = absurd (omega arith)
variables_on (suc n) w w' h e = rw (e, sub-one (suc n))
