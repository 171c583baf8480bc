-- The fields of a record that an act reads or writes together stand in a row.
use Rattle.std.specs.Prelude.{ℕ, zero, suc, List, [], ◌∷◌}
use Rattle.memory.specs.Records.{field, put_field}

-- The n numbers of record u from field f on.
unfoldable pub row : ℕ → List ℕ → ℕ → ℕ → List ℕ
row zero w u f = []
row (suc n) w u f = field w u f ∷ row n w u (suc f)

-- Numbers written to record u, the first to field f.
unfoldable pub put_row : List ℕ → List ℕ → ℕ → ℕ → List ℕ
put_row [] w u f = w
put_row (a ∷ l) w u f = put_row l (put_field w u f a) u (suc f)
