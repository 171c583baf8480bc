-- One law for each way through a turn of a loop or through a call; the hypotheses are the facts on the code's path.
use Prim.Native.Nat.{ℕ, suc, ◌+◌, ◌-◌, ◌/◌, ◌%◌, ◌≤◌, ◌<◌}
use native.Mathlib.Numerals.{add-one}
use native.Mathlib.Omega.{arith}
use mathlib.Core.Path.{◌≡◌}
use mathlib.Core.List.{List}
use Rattle.machine.specs.Fields as fields
use Rattle.machine.specs.Words.{increment, variable_word, slot_of}
use Rattle.machine.specs.Frames.{copy_frame, put_variable, put_fresh, put_variables}
use Rattle.memory.specs.Records.{put_field}

-- Frames and fresh variables.
pub copy_end : (n v : ℕ) (w : List ℕ) (u f : ℕ) → n ≤ v → copy_frame (n - v) w u f v ≡ w
unfolding copy_frame
copy_end n v w u f p = let k : n - v ≡ 0 = omega arith in rw k

pub copy_on : (n v : ℕ) (w w' : List ℕ) (u f a : ℕ) → v < n → a ≡ slot_of w f v → w' ≡ put_field w u (fields.frame + v) a
    → copy_frame (n - v) w u f v ≡ copy_frame (n - (v + 1)) w' u f (v + 1)
unfolding copy_frame
copy_on n v w w' u f a p ea ew = let k : n - v ≡ suc (n - (v + 1)) = omega arith in rw (k, add-one v, ew, ea)

pub fresh_end : (n e : ℕ) (w : List ℕ) (u vs x i : ℕ) → n ≤ e → put_fresh (n - e) w u vs x i ≡ w
unfolding put_fresh
fresh_end n e w u vs x i p = let k : n - e ≡ 0 = omega arith in rw k

pub fresh_on : (n e : ℕ) (w w₁ w₂ : List ℕ) (u vs x i a y : ℕ) → e < n → w₁ ≡ put_variable w x i → a ≡ variable_word x
    → w₂ ≡ put_field w₁ u (fields.frame + vs % 8) a → y ≡ increment x
    → put_fresh (n - e) w u vs x i ≡ put_fresh (n - (e + 1)) w₂ u (vs / 8) y i
unfolding put_fresh
fresh_on n e w w₁ w₂ u vs x i a y p e₁ ea e₂ ey =
    let k : n - e ≡ suc (n - (e + 1)) = omega arith in rw (k, e₂, e₁, ea, ey)

pub variables_end : (n x : ℕ) (w : List ℕ) → n ≤ x → put_variables (n - x) w x ≡ w
unfolding put_variables
variables_end n x w p = let k : n - x ≡ 0 = omega arith in rw k

pub variables_on : (n x : ℕ) (w w' : List ℕ) → x < n → w' ≡ put_variable w x 0
    → put_variables (n - x) w x ≡ put_variables (n - (x + 1)) w' (x + 1)
unfolding put_variables
variables_on n x w w' p e = let k : n - x ≡ suc (n - (x + 1)) = omega arith in rw (k, add-one x, e)
