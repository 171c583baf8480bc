-- One law for each way through a turn of the loop or through a call; the hypotheses are the facts on the code's path.
use Prim.Native.Nat.{ℕ}
use mathlib.Core.Path.{◌≡◌}
use mathlib.Core.List.{List}
use borrow.Author.Tests.{eq-eqb, ne_eqb}
use Rattle.node_table.specs.Layout.{kind_of}
use Rattle.line_checking.specs.declared.Registers.{Registers}
use Rattle.line_checking.specs.Sequents.{Made}
use Rattle.line_checking.specs.Rules.{true_line, and_line, or_line, assume_line, some_line, all_line}
use Rattle.line_checking.specs.Clauses.{clause_line}
use Rattle.line_checking.specs.Judging.{quantifier_line, connective_line, sequent_line}

-- the goal's kind

module _ (b t : List ℕ) (symbols : ℕ) (x w : List ℕ) (r : Registers) (q i e k : ℕ) (m : Made) (ek : k ≡ kind_of t r.node) where
  pub some_due : k ≡ 7 → m ≡ some_line b t symbols x w r q i e → m ≡ quantifier_line b t symbols x w r q i e
  unfolding quantifier_line
  some_due h em = rw (← ek, eq-eqb _ _ h) em

  pub all_due : (k ≡ 7 → ⊥) → m ≡ all_line t x w r q i e → m ≡ quantifier_line b t symbols x w r q i e
  unfolding quantifier_line
  all_due h em = rw (← ek, ne_eqb _ _ h) em

  module _ (clauses : ℕ) where
    pub and_due : k ≡ 4 → m ≡ and_line t x w r q i e → m ≡ connective_line b t symbols clauses x w r q i e
    unfolding connective_line
    and_due h em = rw (← ek, eq-eqb _ _ h) em

    pub or_due : (k ≡ 4 → ⊥) → k ≡ 5 → m ≡ or_line t x w r i e → m ≡ connective_line b t symbols clauses x w r q i e
    unfolding connective_line
    or_due n₄ h em = rw (← ek, ne_eqb _ _ n₄, eq-eqb _ _ h) em

    pub assume_due : (k ≡ 4 → ⊥) → (k ≡ 5 → ⊥) → k ≡ 6 → m ≡ assume_line t clauses x w r q i e
        → m ≡ connective_line b t symbols clauses x w r q i e
    unfolding connective_line
    assume_due n₄ n₅ h em = rw (← ek, ne_eqb _ _ n₄, ne_eqb _ _ n₅, eq-eqb _ _ h) em

    pub quantifier_due : (k ≡ 4 → ⊥) → (k ≡ 5 → ⊥) → (k ≡ 6 → ⊥) → m ≡ quantifier_line b t symbols x w r q i e
        → m ≡ connective_line b t symbols clauses x w r q i e
    unfolding connective_line
    quantifier_due n₄ n₅ n₆ em = rw (← ek, ne_eqb _ _ n₄, ne_eqb _ _ n₅, ne_eqb _ _ n₆) em

    pub clause_due : k ≡ 2 → m ≡ clause_line b t symbols clauses x w r q i e → m ≡ sequent_line b t symbols clauses x w r q i e
    unfolding sequent_line
    clause_due h em = rw (← ek, eq-eqb _ _ h) em

    pub true_due : (k ≡ 2 → ⊥) → k ≡ 3 → m ≡ true_line x w r i e → m ≡ sequent_line b t symbols clauses x w r q i e
    unfolding sequent_line
    true_due n₂ h em = rw (← ek, ne_eqb _ _ n₂, eq-eqb _ _ h) em

    pub connective_due : (k ≡ 2 → ⊥) → (k ≡ 3 → ⊥) → m ≡ connective_line b t symbols clauses x w r q i e
        → m ≡ sequent_line b t symbols clauses x w r q i e
    unfolding sequent_line
    connective_due n₂ n₃ em = rw (← ek, ne_eqb _ _ n₂, ne_eqb _ _ n₃) em
