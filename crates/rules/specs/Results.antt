-- Numbers in a lent list.
use Rattle.std.specs.Prelude.{ℕ, List, ◌++◌, length, take, drop}

-- Numbers over the front of a list, as far as it is long; its further numbers stay.
unfoldable pub put_front : List ℕ → List ℕ → List ℕ
put_front numbers l = take (length l) numbers ++ drop (length numbers) l
