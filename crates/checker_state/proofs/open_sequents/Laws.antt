-- One law for each way through a turn of a loop or through a call; the hypotheses are the facts on the code's path.
use Prim.Native.Nat.{ℕ, ◌-◌}
use mathlib.Core.Path.{◌≡◌, ◌∙◌}
use mathlib.Core.List.{List}
use borrow.Author.Tests.{eq-eqb, ne_eqb}
use Rattle.scanning.specs.Fields as fields
use Rattle.line_checking.specs.declared.Registers.{Registers}
use Rattle.line_checking.specs.Sequents.{with_stage, with_sequent, open_sequent, next_sequent, done_stage}
use Rattle.memory.specs.Records.{field}

-- the next sequent

pub sequent_due : (w : List ℕ) (r s : Registers) (q n f h i m : ℕ) → n ≡ field w q fields.sequent_node → f ≡ field w q fields.sequent_frame
    → h ≡ field w q fields.sequent_hypotheses → i ≡ field w q fields.sequent_level → m ≡ field w q fields.sequent_next
    → s ≡ with_sequent r n f h i m → s ≡ open_sequent w r q
unfolding open_sequent
sequent_due w r s q n f h i m en ef eh ei em es = rw (es, en, ef, eh, ei, em)

pub all_done : (w : List ℕ) (r s : Registers) → r.rest ≡ 0 → s ≡ with_stage r done_stage → s ≡ next_sequent w r
unfolding next_sequent
all_done w r s z es = rw (es, eq-eqb _ _ z)

pub next_due : (w : List ℕ) (r s : Registers) → (r.rest ≡ 0 → ⊥) → s ≡ open_sequent w r (r.rest - 1) → s ≡ next_sequent w r
unfolding next_sequent
next_due w r s z es = es ∙ rw (ne_eqb _ _ z)
