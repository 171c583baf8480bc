-- Judging a text line by line: the first line that breaks, or valid.
use Rattle.std.specs.Prelude.{ℕ, zero, suc, ◌+◌, ◌-◌, cond, List, eqb, ltb, length, Option, Some, None}
use Rattle.node_table.specs.Layout.{kind_of, true_kind, atom_kind, implies_kind, or_kind, and_kind, exists_kind}
use Rattle.std.specs.Prelude.{Some, None}
use Rattle.scanning.specs.Ranges.{text_line_end}
use Rattle.scanning.specs.Numbering.{check_numbering}
use Rattle.line_checking.specs.declared.Registers.{Registers}
use Rattle.line_checking.specs.Sequents.{Made, made, start, broken, with_counts, broken_stage, done_stage, sequent_stage, binding_stage}
use Rattle.line_checking.specs.Sequents.{result_stage}
use Rattle.line_checking.specs.Bindings.{check_result, bind_line}
use Rattle.line_checking.specs.Rules.{true_line, and_line, or_line, assume_line, some_line, all_line}
use Rattle.line_checking.specs.Clauses.{clause_line}

-- b the sheet's bytes, t the table with so many symbols and clauses and the node of the goal, x the text; line q goes from i to e.

-- A D line, by the kind of the goal that is due.
unfoldable pub quantifier_line : List ℕ → List ℕ → ℕ → List ℕ → List ℕ → Registers → ℕ → ℕ → ℕ → Made
quantifier_line b t symbols x w r q i e =
    cond (eqb (kind_of t r.node) exists_kind) (some_line b t symbols x w r q i e) (all_line t x w r q i e)

-- This judges a D line for a goal that is neither an atom nor true.
unfoldable pub connective_line : List ℕ → List ℕ → ℕ → ℕ → List ℕ → List ℕ → Registers → ℕ → ℕ → ℕ → Made
connective_line b t symbols clauses x w r q i e =
    cond (eqb (kind_of t r.node) and_kind) (and_line t x w r q i e)
    (cond (eqb (kind_of t r.node) or_kind) (or_line t x w r i e)
    (cond (eqb (kind_of t r.node) implies_kind) (assume_line t clauses x w r q i e)
    (quantifier_line b t symbols x w r q i e)))

-- This judges a D line for any goal.
unfoldable pub sequent_line : List ℕ → List ℕ → ℕ → ℕ → List ℕ → List ℕ → Registers → ℕ → ℕ → ℕ → Made
sequent_line b t symbols clauses x w r q i e =
    cond (eqb (kind_of t r.node) atom_kind) (clause_line b t symbols clauses x w r q i e)
    (cond (eqb (kind_of t r.node) true_kind) (true_line x w r i e) (connective_line b t symbols clauses x w r q i e))

-- A line, by the stage; where no line is due it is a surplus one.
unfoldable pub stage_line : List ℕ → List ℕ → ℕ → ℕ → ℕ → List ℕ → List ℕ → Registers → ℕ → ℕ → ℕ → Made
stage_line b t symbols clauses goal x w r q i e =
    cond (eqb r.stage result_stage) (check_result t goal x w r i e)
    (cond (eqb r.stage binding_stage) (bind_line b t symbols goal x w r q i e)
    (cond (eqb r.stage sequent_stage) (sequent_line b t symbols clauses x w r q i e) (broken w r)))

-- The symbols in the line are numbered by first showing.
unfoldable pub count_line : List ℕ → Made → ℕ → ℕ → Made
count_line x a i e =
    elim (check_numbering (e - i) x i a.registers.made a.registers.leftover) [
      | Some (m, l) ↦ made a.memory (with_counts a.registers m l)
      | None ↦ broken a.memory a.registers
    ]

-- The numbering is checked unless the line has broken already.
unfoldable pub order_line : List ℕ → Made → ℕ → ℕ → Made
order_line x a i e = cond (eqb a.registers.stage broken_stage) a (count_line x a i e)

-- A line is judged at its stage, then by its numbering.
unfoldable pub judge_line : List ℕ → List ℕ → ℕ → ℕ → ℕ → List ℕ → List ℕ → Registers → ℕ → ℕ → ℕ → Made
judge_line b t symbols clauses goal x w r q i e = order_line x (stage_line b t symbols clauses goal x w r q i e) i e

-- The verdict: the number of the line that breaks, counted from 1; none for valid.
pub record Judged : Type 0 where
  pub memory : List ℕ
  pub verdict : Option ℕ

-- A buffer and a verdict make a record.
abbrev pub judged : List ℕ → Option ℕ → Judged
judged w v = record { memory = w; verdict = v }

-- No LF from i on: right if no byte is left and no line is due.
unfoldable pub end_verdict : List ℕ → Registers → ℕ → ℕ → Option ℕ
end_verdict x r q i = cond (eqb i (length x)) (cond (eqb r.stage done_stage) None (Some (q + 1))) (Some (q + 1))

-- At most n lines from line q on, which starts at i.
unfoldable pub judge_from : ℕ → List ℕ → List ℕ → ℕ → ℕ → ℕ → List ℕ → List ℕ → Registers → ℕ → ℕ → Judged
judge_from zero b t symbols clauses goal x w r q i = judged w (Some (q + 1))
judge_from (suc n) b t symbols clauses goal x w r q i =
    let e = text_line_end x i in
    let a = judge_line b t symbols clauses goal x w r q i e in
    cond (ltb e (length x))
    (cond (eqb a.registers.stage broken_stage) (judged a.memory (Some (q + 1)))
    (judge_from n b t symbols clauses goal x a.memory a.registers (q + 1) (e + 1)))
    (judged w (end_verdict x r q i))

-- This judges the whole text.
unfoldable pub judge_text : List ℕ → List ℕ → ℕ → ℕ → ℕ → List ℕ → List ℕ → Judged
judge_text b t symbols clauses goal x w = judge_from (length x + 1) b t symbols clauses goal x w start 0 0
