-- Frames and the environments that they hold: kept by writes to other records, copied, and changed at a name.
use Prim.Native.Nat.{ℕ, ◌+◌, ◌*◌, ◌<◌}
use native.Mathlib.Omega.{arith}
use mathlib.Core.Path.{◌≡◌, refl, sym, ◌∙◌, subst, subst₂}
use mathlib.Core.Bool.{Bool, true, false}
use mathlib.Core.List.{List}
use lib.Dec.{eqb}
use borrow.Author.Tests.{eqb-true, eqb-false}
use Rattle.terms.specs.Lists.{update}
use Rattle.terms.proofs.Lists.{update_same, update_other}
use Rattle.sequents.specs.Symbols.{Symbol, Ground}
use Rattle.sequents.specs.Sequents.{Environment}
use Rattle.sheet_format.specs.Nodes.{Declaration}
use Rattle.sheet_format.specs.Limits.{variable_names}
use Rattle.scanning.specs.Fields as fields
use Rattle.scanning.specs.Frames.{slot_start, slot_end, put_range, copy_ranges, bind_frame}
use Rattle.scanning.proofs.TermsInText.{SpelledAt}
use Rattle.scanning.proofs.InstanceSpelling.{Frame}
use Rattle.scanning.proofs.Records.{Room, Kept, kept_room, copy_kept, copy_at}
use Rattle.memory.specs.Records.{field, put_field}
use Rattle.memory.proofs.Records.{length_put, field_same, field_other}

module _ (ds : List Declaration) (x : List ℕ) where
  -- A term stands between two positions if it stands between positions equal to them.
  moved : (s e i j : ℕ) (u : Ground) → s ≡ i → e ≡ j → SpelledAt ds x s e u → SpelledAt ds x i j u
  moved s e i j u p q h = subst₂ (λ (a b : ℕ). SpelledAt ds x a b u) p q h

  -- A frame of another record stays.
  pub frame_kept : (q r : ℕ) (w w' : List ℕ) (e : Environment Symbol) (p : ℕ → Bool) → Kept q w w' → (r ≡ q → ⊥) → Frame ds x w r e p
      → Frame ds x w' r e p
  unfolding slot_start slot_end
  frame_kept q r w w' e p k d f v l h =
      moved (field w r (2 * v)) (field w r (2 * v + 1)) (field w' r (2 * v)) (field w' r (2 * v + 1)) (e v)
      (sym (k.others r (2 * v) d (omega arith))) (sym (k.others r (2 * v + 1) d (omega arith))) (f v l h)

  -- A frame that is copied has the same environment.
  pub frame_copy : (q r : ℕ) (w : List ℕ) (e : Environment Symbol) (p : ℕ → Bool) → Room q w → (r ≡ q → ⊥) → Frame ds x w r e p
      → Frame ds x (copy_ranges fields.frame_numbers w q r 0) q e p
  unfolding slot_start slot_end
  frame_copy q r w e p room d f v l h =
      moved (field w r (2 * v)) (field w r (2 * v + 1)) (field (copy_ranges fields.frame_numbers w q r 0) q (2 * v))
      (field (copy_ranges fields.frame_numbers w q r 0) q (2 * v + 1)) (e v)
      (sym (copy_at 16 w q r 0 (2 * v) room d (omega arith) (omega arith) (omega arith)))
      (sym (copy_at 16 w q r 0 (2 * v + 1) room d (omega arith) (omega arith) (omega arith))) (f v l h)

  -- A frame with another term for name v has the environment updated at v.
  pub frame_put : (q v s j : ℕ) (u : Ground) (w : List ℕ) (e : Environment Symbol) (p p' : ℕ → Bool) → Room q w → v < variable_names
      → SpelledAt ds x s j u
      → ((z : ℕ) → (z ≡ v → ⊥) → p' z ≡ true → p z ≡ true) → Frame ds x w q e p → Frame ds x (put_range w q v s j) q (update e v u) p'
  unfolding slot_start slot_end put_range
  frame_put q v s j u w e p p' room k h n f z l g = go (eqb z v) refl
    where
      w₁ : List ℕ
      w₁ = put_field w q (2 * v) s

      w₂ : List ℕ
      w₂ = put_field w₁ q (2 * v + 1) j

      go : (b : Bool) → eqb z v ≡ b → SpelledAt ds x (field w₂ q (2 * z)) (field w₂ q (2 * z + 1)) (update e v u z)
      go true i =
          let d = eqb-true z v i in
          subst (λ (y : ℕ). SpelledAt ds x (field w₂ q (2 * y)) (field w₂ q (2 * y + 1)) (update e v u y)) (sym d)
          (subst (SpelledAt ds x (field w₂ q (2 * v)) (field w₂ q (2 * v + 1))) (sym (update_same e v u))
          (moved s j (field w₂ q (2 * v)) (field w₂ q (2 * v + 1)) u
          (sym (field_other w₁ q (2 * v + 1) q (2 * v) j (omega arith) (omega arith) (λ y. omega arith)
          ∙ field_same w q (2 * v) s (omega arith)))
          (sym (let y = length_put w q (2 * v) s in field_same w₁ q (2 * v + 1) j (omega arith))) h))
      go false i =
          let d = eqb-false z v i in
          subst (SpelledAt ds x (field w₂ q (2 * z)) (field w₂ q (2 * z + 1))) (sym (update_other e v u z d))
          (moved (field w q (2 * z)) (field w q (2 * z + 1)) (field w₂ q (2 * z)) (field w₂ q (2 * z + 1)) (e z)
          (sym (field_other w₁ q (2 * v + 1) q (2 * z) j (omega arith) (omega arith) (λ y. omega arith)
          ∙ field_other w q (2 * v) q (2 * z) s (omega arith) (omega arith) (λ y. omega arith)))
          (sym (field_other w₁ q (2 * v + 1) q (2 * z + 1) j (omega arith) (omega arith) (λ y. omega arith)
          ∙ field_other w q (2 * v) q (2 * z + 1) s (omega arith) (omega arith) (λ y. omega arith)))
          (f z l (n z d g)))

  -- A frame that is copied and gets another term for name v has the environment updated at v.
  pub frame_bind : (q r v s j : ℕ) (u : Ground) (w : List ℕ) (e : Environment Symbol) (p p' : ℕ → Bool) → Room q w → (r ≡ q → ⊥)
      → v < variable_names → SpelledAt ds x s j u
      → ((z : ℕ) → (z ≡ v → ⊥) → p' z ≡ true → p z ≡ true) → Frame ds x w r e p → Frame ds x (bind_frame w q r v s j) q (update e v u) p'
  unfolding bind_frame
  frame_bind q r v s j u w e p p' room d k h n f =
      frame_put q v s j u (copy_ranges fields.frame_numbers w q r 0) e p p'
      (kept_room q q w (copy_ranges fields.frame_numbers w q r 0) (copy_kept 16 w q r 0 (omega arith)) room) k h n
      (frame_copy q r w e p room d f)
