-- The stages of a text, the sequent that is due, and the sequents left, in registers and records.
use Rattle.std.specs.Prelude.{ℕ, zero, suc, ◌+◌, ◌-◌, cond, List, eqb, ltb}
use Rattle.formulas.specs.Formulas.{variable_names}
use Rattle.node_table.specs.Layout.{mask_of, bit_of}
use Rattle.scanning.specs.Fields as fields
use Rattle.line_checking.specs.declared.Registers.{Registers}
use Rattle.memory.specs.Records.{field, put_field}

-- A stage says what is due; at this one the R line is due.
abbrev pub result_stage : ℕ
result_stage = 0

-- At this stage a B line is due.
abbrev pub binding_stage : ℕ
binding_stage = 1

-- At this stage a D line is due.
abbrev pub sequent_stage : ℕ
sequent_stage = 2

-- At this stage no line is due.
abbrev pub done_stage : ℕ
done_stage = 3

-- At this stage a line was wrong.
abbrev pub broken_stage : ℕ
broken_stage = 4

-- What a line leaves: the work buffer and the registers.
pub record Made : Type 0 where
  pub memory : List ℕ
  pub registers : Registers

-- A buffer and registers make a record.
abbrev pub made : List ℕ → Registers → Made
made w r = record { memory = w; registers = r }

-- Before the first line.
unfoldable pub start : Registers
start = record { stage = result_stage; node = 0; frame = 0; hypotheses = 0; level = 0; rest = 0; made = 0; leftover = 0 }

-- The line was wrong, or no line is due.
unfoldable pub with_stage : Registers → ℕ → Registers
with_stage r s =
    record {
      stage = s;
      node = r.node;
      frame = r.frame;
      hypotheses = r.hypotheses;
      level = r.level;
      rest = r.rest;
      made = r.made;
      leftover = r.leftover;
    }

-- The line was wrong.
unfoldable pub broken : List ℕ → Registers → Made
broken w r = made w (with_stage r broken_stage)

-- A B line for variable v is due.
unfoldable pub with_binding : Registers → ℕ → ℕ → Registers
with_binding r v f =
    record { stage = binding_stage; node = v; frame = f; hypotheses = 0; level = 0; rest = 0; made = r.made; leftover = r.leftover }

-- A sequent is due.
unfoldable pub with_sequent : Registers → ℕ → ℕ → ℕ → ℕ → ℕ → Registers
with_sequent r n f h i q =
    record { stage = sequent_stage; node = n; frame = f; hypotheses = h; level = i; rest = q; made = r.made; leftover = r.leftover }

-- So many symbols have shown.
unfoldable pub with_counts : Registers → ℕ → ℕ → Registers
with_counts r m l =
    record {
      stage = r.stage;
      node = r.node;
      frame = r.frame;
      hypotheses = r.hypotheses;
      level = r.level;
      rest = r.rest;
      made = m;
      leftover = l;
    }

-- The first variable from v on, of n variables, that is in the mask; the one after them if none is.
unfoldable pub free_from : ℕ → ℕ → ℕ → ℕ
free_from zero mask v = v
free_from (suc n) mask v = cond (eqb (bit_of mask v) 1) v (free_from n mask (v + 1))

-- "After proved, `B v term` for each free variable, ascending": from v on, those before having their terms in frame f. Where no B line
-- is due, the goal is.
unfoldable pub bound_from : ℕ → Registers → ℕ → ℕ → Registers
bound_from goal r v f = cond (ltb v variable_names) (with_binding r v f) (with_sequent r goal f 0 0 0)

-- The next B line due is for the first variable from v on that stands free in the goal.
unfoldable pub bound : List ℕ → ℕ → Registers → ℕ → ℕ → Registers
bound t goal r v f = bound_from goal r (free_from (variable_names - v) (mask_of t goal) v) f

-- A sequent left, in record q.
unfoldable pub put_sequent : List ℕ → ℕ → ℕ → ℕ → ℕ → ℕ → ℕ → List ℕ
put_sequent w q node frame hypotheses level next =
    put_field (put_field (put_field (put_field (put_field w q fields.sequent_node node) q fields.sequent_frame frame) q fields.sequent_hypotheses
    hypotheses) q fields.sequent_level level) q fields.sequent_next next

-- It is due.
unfoldable pub open_sequent : List ℕ → Registers → ℕ → Registers
open_sequent w r q =
    with_sequent r (field w q fields.sequent_node) (field w q fields.sequent_frame) (field w q fields.sequent_hypotheses)
    (field w q fields.sequent_level) (field w q fields.sequent_next)

-- The next of the sequents left is due, if there is one.
unfoldable pub next_sequent : List ℕ → Registers → Registers
next_sequent w r = cond (eqb r.rest 0) (with_stage r done_stage) (open_sequent w r (r.rest - 1))

-- A hypothesis, in record q, with its start (request W-207).
unfoldable pub put_hypothesis : List ℕ → ℕ → ℕ → ℕ → ℕ → ℕ → List ℕ
put_hypothesis w q node frame next start =
    put_field (put_field (put_field (put_field w q fields.hypothesis_node node) q fields.hypothesis_frame frame) q fields.hypothesis_next next) q
    fields.hypothesis_start start
