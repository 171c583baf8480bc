-- Frames and fresh variables.
use Rattle.std.specs.Prelude.{ℕ, zero, suc, ◌+◌, ◌/◌, ◌%◌, List}
use Rattle.sheet_format.specs.Limits.{variable_names}
use Rattle.machine.specs.Fields as fields
use Rattle.machine.specs.Records.{put_cell, put_level}
use Rattle.machine.specs.Words.{increment, variable_word, slot_of}
use Rattle.memory.specs.Records.{put_field}

-- The frame f copied to record u: n names from v on.
unfoldable pub copy_frame : ℕ → List ℕ → ℕ → ℕ → ℕ → List ℕ
copy_frame zero w u f v = w
copy_frame (suc n) w u f v = copy_frame n (put_field w u (fields.frame + v) (slot_of w f v)) u f (suc v)

-- Variable x is made, unbound and of level i.
unfoldable pub put_variable : List ℕ → ℕ → ℕ → List ℕ
put_variable w x i = put_level (put_cell w x 0) x i

-- Fresh variables of level i, from x on, for n names, the digits of vs, in the frame in record u.
unfoldable pub put_fresh : ℕ → List ℕ → ℕ → ℕ → ℕ → ℕ → List ℕ
put_fresh zero w u vs x i = w
put_fresh (suc n) w u vs x i =
    put_fresh n (put_field (put_variable w x i) u (fields.frame + vs % variable_names) (variable_word x)) u (vs / variable_names) (increment x) i

-- Variables from x on, n of them, without names: those of the goal.
unfoldable pub put_variables : ℕ → List ℕ → ℕ → List ℕ
put_variables zero w x = w
put_variables (suc n) w x = put_variables n (put_variable w x 0) (suc x)
