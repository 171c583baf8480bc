-- Calls on the state of a writing, in the words of its cursor and its bounds.
use Prim.Native.Nat.{ℕ, ◌-◌, ◌+◌, ◌≤◌, ◌<◌}
use native.Mathlib.Omega.{arith}
use mathlib.Core.Path.{◌≡◌, ◌∙◌, sym, ap, subst}
use mathlib.Core.List.{List}
use Rattle.machine.specs.Words.{increment}
use Rattle.machine.proofs.Words.{increment_small}
use Rattle.printing.specs.declared.Cursor.{Cursor}
use Rattle.printing.specs.Numbering.{Printer, printer}
use Rattle.printing.specs.WriteTerms.{emit_to, arguments_by, write_term}
use Rattle.term_printer.specs.State.{with_limit}
use Rattle.term_printer.specs.declared.Bounds.{Bounds}

-- The rank of a whole term is one above the limit.
pub increment_back : (limit rank : ℕ) → limit ≤ 65535 → rank ≡ increment limit → limit ≡ rank - 1
increment_back limit rank h e = let i = increment_small limit (omega arith) in omega arith

-- The same at equal bounds.
module _ (k k' : Bounds) (e : k ≡ k') where
  pub emit_same : (g u : Printer) (b : ℕ) → u ≡ emit_to k.limit g b → u ≡ emit_to k'.limit g b
  emit_same g u b h = subst (λ (i : Bounds). u ≡ emit_to i.limit g b) e h

  pub term_same : (rank : ℕ) (sheet t : List ℕ) (g u : Printer) (a : ℕ) → u ≡ write_term rank sheet t k.turns k.limit g a
      → u ≡ write_term rank sheet t k'.turns k'.limit g a
  term_same rank sheet t g u a h = subst (λ (i : Bounds). u ≡ write_term rank sheet t i.turns i.limit g a) e h

  pub small_same : k.limit ≤ 65535 → k'.limit ≤ 65535
  small_same h = subst (λ (i : Bounds). i.limit ≤ 65535) e h

-- The limit, which is one below the rank, is lowered by one for the arguments, and put back.
module _ (rank : ℕ) (k i : Bounds) (e : i ≡ k) (r : k.limit ≡ rank - 1) (k' : Bounds) where
  pub lowered : (n : ℕ) → n ≡ rank - 1 - 1 → k' ≡ with_limit i n → k' ≡ with_limit k (k.limit - 1)
  lowered n en e' = e' ∙ ap (with_limit i) (en ∙ ap (λ (m : ℕ). m - 1) (sym r)) ∙ ap (λ (j : Bounds). with_limit j (k.limit - 1)) e

-- So it is put back.
pub raised : (rank : ℕ) (k k' i : Bounds) → k.limit ≡ rank - 1 → k' ≡ with_limit k (k.limit - 1) → i ≡ with_limit k' (rank - 1) → i ≡ k
raised rank k k' i r e h = h ∙ ap (λ (j : Bounds). with_limit j (rank - 1)) e ∙ ap (with_limit k) (sym r)

-- What is so at the lowered limit.
module _ (k k' : Bounds) (e : k' ≡ with_limit k (k.limit - 1)) where
  pub rank_lowered : (rank : ℕ) → k.limit ≡ rank - 1 → k'.limit ≡ rank - 1 - 1
  rank_lowered rank r = ap (λ (i : Bounds). i.limit) e ∙ ap (λ (m : ℕ). m - 1) r

  pub small_lowered : k.limit ≤ 65535 → k'.limit ≤ 65535
  small_lowered h = subst (λ (i : Bounds). i.limit ≤ 65535) (sym e) (omega arith)

  -- The measure falls where the position has not fallen and the rank is one less.
  pub less : (at to rank m : ℕ) → k.limit - at + rank ≡ m → (rank ≡ 0 → ⊥) → at ≤ to → k'.limit - to + (rank - 1) < m
  less at to rank m h n l = subst (λ (i : Bounds). i.limit - to + (rank - 1) < m) (sym e) (omega arith)

  -- The arguments at the lowered limit, and then the closing bracket at the limit.
  pub closed : (rank : ℕ) (sheet t : List ℕ) (c n f : ℕ) (w out w' out' : List ℕ) (p q p' q' : Cursor) (i : Bounds) (u x : Printer) → q ≡ p
      → arguments_by (write_term rank sheet t k'.turns k'.limit) t k'.limit c n f 0 (printer w out q) ≡ x → x ≡ printer w' out' p'
      → q' ≡ p' → i ≡ k → u ≡ emit_to i.limit (printer w' out' q') 41
      → u ≡ emit_to k.limit
      (arguments_by (write_term rank sheet t k.turns (k.limit - 1)) t (k.limit - 1) c n f 0 (printer w out p)) 41
  closed rank sheet t c n f w out w' out' p q p' q' i u x eq ex ex' eq' ei h =
      h ∙ ap (λ (j : Bounds). emit_to j.limit (printer w' out' q') 41) ei
      ∙ ap (λ (g : Printer). emit_to k.limit g 41)
      (ap (λ (r : Cursor). printer w' out' r) eq' ∙ sym (ex ∙ ex')
      ∙ ap (λ (j : Bounds). arguments_by (write_term rank sheet t j.turns j.limit) t j.limit c n f 0 (printer w out q)) e
      ∙ ap (λ (r : Cursor). arguments_by (write_term rank sheet t k.turns (k.limit - 1)) t (k.limit - 1) c n f 0 (printer w out r)) eq)
