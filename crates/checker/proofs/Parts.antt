-- The part of the work buffer that is judged in.
use Prim.Native.Nat.{ℕ, ◌*◌, ◌≤◌}
use mathlib.Core.Path.{◌≡◌}
use mathlib.Core.List.{List}
use lib.ListN.{length, take}
use Rattle.sheet_format.specs.Limits.{numbers_per_unit}
use Rattle.memory.proofs.Parts.{part_fits}
use Rattle.sheet_format.specs.Buffers.{demanded}

-- The part of the work buffer, m being the count of LF.
pub part_demanded : (n m : ℕ) (l : List ℕ) → m ≡ n → numbers_per_unit * m ≤ length l → demanded n ≤ length (take (numbers_per_unit * m) l)
unfolding demanded
part_demanded n m l e h = rw (← e) (part_fits (numbers_per_unit * m) l h)
