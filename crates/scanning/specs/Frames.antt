-- The work buffer: records of 64 numbers (memory/specs/Records), with the fields of Fields.
use Rattle.std.specs.Prelude.{ℕ, zero, suc, ◌+◌, ◌*◌, List}
use Rattle.scanning.specs.Fields as fields
use Rattle.memory.specs.Records.{field, put_field}

-- The position of name v in frame r.
unfoldable pub slot_start : List ℕ → ℕ → ℕ → ℕ
slot_start w r v = field w r (2 * v)

-- Gives the position where the term of name v in frame r ends.
unfoldable pub slot_end : List ℕ → ℕ → ℕ → ℕ
slot_end w r v = field w r (2 * v + 1)

-- Writes the position of another term for name v.
unfoldable pub put_range : List ℕ → ℕ → ℕ → ℕ → ℕ → List ℕ
put_range w r v s e = put_field (put_field w r (2 * v) s) r (2 * v + 1) e

-- Frame q copied to record r: n numbers from field f on.
unfoldable pub copy_ranges : ℕ → List ℕ → ℕ → ℕ → ℕ → List ℕ
copy_ranges zero w r q f = w
copy_ranges (suc n) w r q f = copy_ranges n (put_field w r f (field w q f)) r q (f + 1)

-- The frame of record r: frame q with another term for name v.
unfoldable pub bind_frame : List ℕ → ℕ → ℕ → ℕ → ℕ → ℕ → List ℕ
bind_frame w r q v s e = put_range (copy_ranges fields.frame_numbers w r q 0) r v s e
