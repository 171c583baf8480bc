-- One law for each way through a call; the hypotheses are the facts on the code's path.
use Prim.Native.Nat.{ℕ, ◌+◌, ◌-◌, ◌*◌, ◌<◌, ◌≤◌}
use mathlib.Core.Path.{◌≡◌}
use mathlib.Core.Bool.{Bool, true, false}
use mathlib.Core.List.{List}
use lib.Dec.{eqb}
use borrow.Author.Tests.{lt-ltb, le-ltb, eq-eqb, ne_eqb}
use Rattle.line_checking.specs.declared.Links.{Links}
use Rattle.line_checking.specs.HypothesisChains.{saturate, hypothesis_field, next_of, start_of, depth_of, jump_of, passed_of, even_jumps}
use Rattle.line_checking.specs.HypothesisChains.{far_links, near_links, links_after, step_before}
use Rattle.memory.specs.Records.{field}

pub field_none : (w : List ℕ) (h f : ℕ) → h ≡ 0 → 0 ≡ hypothesis_field w h f
unfolding hypothesis_field
field_none w h f z = rw (eq-eqb h 0 z)

pub field_some : (w : List ℕ) (h f r : ℕ) → (h ≡ 0 → ⊥) → r ≡ field w (h - 1) f → r ≡ hypothesis_field w h f
unfolding hypothesis_field
field_some w h f r n e = rw (ne_eqb h 0 n) e

module _ (w : List ℕ) (h j : ℕ) (ej : j ≡ jump_of w h) where
  module _ (k s : ℕ) (es : s ≡ start_of w j) where
    pub step_jump : k < s → j ≡ step_before w h k
    unfolding step_before
    step_jump b = rw (← ej, ← es, lt-ltb k s b)

    pub step_next : (r : ℕ) → s ≤ k → r ≡ next_of w h → r ≡ step_before w h k
    unfolding step_before
    step_next r b er = rw (← ej, ← es, le-ltb k s b) er

  pub even_jumps_lem : (a d x e y g z : ℕ) → a ≡ jump_of w j → d ≡ depth_of w h → x ≡ d → e ≡ depth_of w j → y ≡ e → g ≡ depth_of w a → z ≡ g
      → eqb (x + z) (2 * y) ≡ even_jumps w h
  unfolding even_jumps
  even_jumps_lem a d x e y g z ea ed ex ee ey eg ez = rw (← ej, ← ea, ← ed, ← ee, ← eg, ex, ey, ez)

module _ (w : List ℕ) (h m d x c : ℕ) (z : Bool) (ed : d ≡ depth_of w h) (ex : x ≡ d) (ec : c ≡ saturate (x + 1)) (ez : z ≡ even_jumps w h) where
  pub links_far : (j p u q v a n o : ℕ) → z ≡ true → j ≡ jump_of w h → p ≡ passed_of w h → u ≡ p → q ≡ passed_of w j → v ≡ q → a ≡ jump_of w j
      → n ≡ m → o ≡ saturate (n + u + v) → ◌≡◌ {A = Links} (record { depth = c; jump = a; passed = o }) (links_after w h m)
  unfolding links_after far_links
  links_far j p u q v a n o t ej ep eu eq ev ea en eo = rw (← ez, t, ← ej, ← ep, ← eq, ← ea, ← ed, ec, eo, ex, eu, ev, en)

  pub links_near : (n o : ℕ) → z ≡ false → n ≡ m → o ≡ saturate n → ◌≡◌ {A = Links} (record { depth = c; jump = h; passed = o }) (links_after w h m)
  unfolding links_after near_links
  links_near n o t en eo = rw (← ez, t, ← ed, ec, eo, ex, en)
