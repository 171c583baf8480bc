-- One law for each way out of a function; the hypotheses are the facts on the code's path.
use Prim.Native.Nat.{ℕ, ◌+◌, ◌-◌, ◌≤◌, ◌<◌}
use mathlib.Core.Path.{◌≡◌, ◌∙◌, refl}
use mathlib.Core.Bool.{Bool, true, false, cond}
use mathlib.Core.List.{List}
use lib.ListN.{length}
use borrow.Author.Tests.{le-leb, lt-leb, eq-eqb, ne_eqb}
use Rattle.sheet_format.specs.Bytes.{ascii}
use Rattle.sheet_format.specs.Limits.{max_budget}
use Rattle.scanning.specs.Ranges.{Number}
use Rattle.std.specs.Prelude.{Option, Some, None}
use Rattle.scanning.specs.Ranges.{scan_number}
use Rattle.line_checking.specs.declared.Registers.{Registers}
use Rattle.line_checking.specs.Sequents.{Made, made, broken, bound}
use Rattle.line_checking.specs.Bindings.{begins_with, is_line, check_result_with, check_units, check_result}

module _ (a x : List ℕ) (i e n : ℕ) (en : n ≡ e - i) where
  pub line_long : (z : Bool) → n ≡ length a → z ≡ begins_with a x i → z ≡ is_line a x i e
  unfolding is_line
  line_long z h ez = rw (← en, eq-eqb _ _ h) ez

  pub line_other : (n ≡ length a → ⊥) → false ≡ is_line a x i e
  unfolding is_line
  line_other h = rw (← en, ne_eqb _ _ h)

-- What is done with the position after the bytes is what a definition does where the text has them.
pub after_done : (z : Bool) (v : ℕ) (o : Option ℕ) (f : ℕ → Made) (m : Made) → o ≡ cond z (Some v) None
    → elim o as (λ _. Made) [ Some u ↦ f u | None ↦ m ] ≡ cond z (f v) m
after_done z v o f m h = rw h (go z)
  where
    go : (y : Bool) → elim (cond y (Some v) None) as (λ _. Made) [ Some u ↦ f u | None ↦ m ] ≡ cond y (f v) m
    go true = refl
    go false = refl

-- the R line

module _ (t : List ℕ) (goal : ℕ) (w : List ℕ) (r : Registers) (x : List ℕ) (i e : ℕ) (m : Made) (p : Option ℕ)
    (ep : p ≡ cond (begins_with (ascii "R\tproved\t") x i) (Some (i + 9)) None) where
  made_after : m ≡ elim p as (λ _. Made) [ Some u ↦ check_units t goal x u w r e | None ↦ broken w r ] → m ≡ check_result t goal x w r i e
  unfolding check_result
  made_after em = em ∙ after_done _ _ p (λ u. check_units t goal x u w r e) _ ep

  pub opens_not : p ≡ None → m ≡ broken w r → m ≡ check_result t goal x w r i e
  opens_not h em = made_after (rw h em)

  module _ (a : ℕ) (h : p ≡ Some a) (o : Number) (eo : o ≡ scan_number x a) where
    pub units_missing : o ≡ None → m ≡ broken w r → m ≡ check_result t goal x w r i e
    unfolding check_units
    units_missing f em = made_after (rw (h, check_units, ← eo, f) em)

    module _ (n j : ℕ) (f : o ≡ Some (n, j)) where
      units_read : m ≡ check_result_with t goal w r n j e → m ≡ check_result t goal x w r i e
      unfolding check_units
      units_read em = made_after (rw (h, check_units, ← eo, f) em)

      pub open_right : (s : Registers) → m ≡ made w s → j ≡ e → 1 ≤ n → n ≤ max_budget → s ≡ bound t goal r 0 0 → m ≡ check_result t goal x w r i e
      unfolding check_result_with
      open_right s em g k l es = units_read (em ∙ rw es (simp (check_result_with, eq-eqb _ _ g, le-leb _ _ k, le-leb _ _ l)))

      pub open_many : j ≡ e → 1 ≤ n → max_budget < n → m ≡ broken w r → m ≡ check_result t goal x w r i e
      unfolding check_result_with
      open_many g k l em = units_read (rw (check_result_with, eq-eqb _ _ g, le-leb _ _ k, lt-leb _ _ l) em)

      pub open_none : j ≡ e → n < 1 → m ≡ broken w r → m ≡ check_result t goal x w r i e
      unfolding check_result_with
      open_none g k em = units_read (rw (check_result_with, eq-eqb _ _ g, lt-leb _ _ k) em)

      pub open_long : (j ≡ e → ⊥) → m ≡ broken w r → m ≡ check_result t goal x w r i e
      unfolding check_result_with
      open_long g em = units_read (rw (check_result_with, ne_eqb _ _ g) em)
