-- The fields of a record of the work buffer. Line k of the text writes record k only, and once. A frame is named by its record. Of a
-- hypothesis and of a sequent left the pointer is the number of its record plus 1, 0 for none.
use Rattle.std.specs.Prelude.{ℕ}

-- 0 .. 15: frame: for name v, where the term that it stands for starts (2 * v) and ends (2 * v + 1) in the text.
abbrev pub frame_numbers : ℕ
frame_numbers = 16

-- Sequent left: node, frame, hypotheses, level, next sequent.
abbrev pub sequent_node : ℕ
sequent_node = 16

abbrev pub sequent_frame : ℕ
sequent_frame = 17

abbrev pub sequent_hypotheses : ℕ
sequent_hypotheses = 18

abbrev pub sequent_level : ℕ
sequent_level = 19

abbrev pub sequent_next : ℕ
sequent_next = 20

-- Hypothesis: clause's node, frame, next hypothesis, start: how many members stand before its own in the default order (request W-207).
abbrev pub hypothesis_node : ℕ
hypothesis_node = 21

abbrev pub hypothesis_frame : ℕ
hypothesis_frame = 22

abbrev pub hypothesis_next : ℕ
hypothesis_next = 23

abbrev pub hypothesis_start : ℕ
hypothesis_start = 24

-- The links of a hypothesis: how many hypotheses there are from it on, a jump to an older one, and how many members the jump passes.
abbrev pub hypothesis_depth : ℕ
hypothesis_depth = 25

abbrev pub hypothesis_jump : ℕ
hypothesis_jump = 26

abbrev pub hypothesis_passed : ℕ
hypothesis_passed = 27
