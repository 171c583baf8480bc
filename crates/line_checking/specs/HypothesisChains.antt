-- The hypotheses of a sequent are a chain of records, linked from the latest to the oldest. So that a place among thousands of them is
-- found in a number of steps that is logarithmic in the chain's length, each record has a jump to an older hypothesis or to the end (skew
-- binary numbers: E. W. Myers, An applicative random-access stack, 1983), the number of hypotheses from it on, by which jumps are made,
-- and the number of members that its jump passes. A pointer is the number of a record plus 1, 0 for none.
use Rattle.std.specs.Prelude.{ℕ, ◌+◌, ◌-◌, ◌*◌, min, Bool, cond, List, eqb, ltb}
use Rattle.sheet_format.specs.Limits.{max_number}
use Rattle.memory.specs.Records.{field, put_field}
use Rattle.scanning.specs.Fields as fields
use Rattle.line_checking.specs.declared.Links.{Links}

-- Members are counted up to 65,535 only, for no line can name a place past it.
unfoldable pub saturate : ℕ → ℕ
saturate n = min n max_number

-- Field f of the hypothesis that pointer h names, 0 for none.
unfoldable pub hypothesis_field : List ℕ → ℕ → ℕ → ℕ
hypothesis_field w h f = cond (eqb h 0) 0 (field w (h - 1) f)

-- The hypothesis made before h.
abbrev pub next_of : List ℕ → ℕ → ℕ
next_of w h = hypothesis_field w h fields.hypothesis_next

-- How many members stand before its own in the default order (request W-207).
abbrev pub start_of : List ℕ → ℕ → ℕ
start_of w h = hypothesis_field w h fields.hypothesis_start

-- How many hypotheses there are from h on.
abbrev pub depth_of : List ℕ → ℕ → ℕ
depth_of w h = hypothesis_field w h fields.hypothesis_depth

-- An older hypothesis, from which a walk may go on, or 0.
abbrev pub jump_of : List ℕ → ℕ → ℕ
jump_of w h = hypothesis_field w h fields.hypothesis_jump

-- How many members the hypotheses from h on have that stand before the jump's target.
abbrev pub passed_of : List ℕ → ℕ → ℕ
passed_of w h = hypothesis_field w h fields.hypothesis_passed

-- The jump of h and the jump after it go equally far.
unfoldable pub even_jumps : List ℕ → ℕ → Bool
even_jumps w h = eqb (depth_of w h + depth_of w (jump_of w (jump_of w h))) (2 * depth_of w (jump_of w h))

-- The links of a hypothesis with m members that is made after h and jumps as far as those two jumps together.
unfoldable pub far_links : List ℕ → ℕ → ℕ → Links
far_links w h m =
    record {
      depth = saturate (depth_of w h + 1);
      jump = jump_of w (jump_of w h);
      passed = saturate (m + passed_of w h + passed_of w (jump_of w h));
    }

-- The links of one that jumps to h.
unfoldable pub near_links : List ℕ → ℕ → ℕ → Links
near_links w h m = record { depth = saturate (depth_of w h + 1); jump = h; passed = saturate m }

-- The links of a hypothesis with m members that is made after h.
unfoldable pub links_after : List ℕ → ℕ → ℕ → Links
links_after w h m = cond (even_jumps w h) (far_links w h m) (near_links w h m)

-- Writes the links of the hypothesis in record q.
unfoldable pub put_links : List ℕ → ℕ → Links → List ℕ
put_links w q l =
    put_field (put_field (put_field w q fields.hypothesis_depth l.depth) q fields.hypothesis_jump l.jump) q fields.hypothesis_passed l.passed

-- One step from the hypothesis h, which starts after k, towards one that does not: along the jump if its target starts after k too.
unfoldable pub step_before : List ℕ → ℕ → ℕ → ℕ
step_before w h k = cond (ltb k (start_of w (jump_of w h))) (jump_of w h) (next_of w h)
