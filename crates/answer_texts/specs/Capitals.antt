-- Request W-201: "in demand 2 a text may spell a name in either case". Names stand in the third field of a line and in those after it, and
-- no other letters stand there. So texts are compared with these letters folded.
use Rattle.std.specs.Prelude.{ℕ, suc, ◌≡◌, cond, List, [], ◌∷◌, map, eqb, leb}
use Rattle.sheet_format.specs.Bytes.{tab, lf, folded, folded_name}
use Rattle.sheet_format.specs.Nodes.{Declaration}
use Rattle.sheet_format.specs.Sheets.{Sheet}

-- The text with the letters after the second tab of each line folded, k tabs of the first line being past.
unfoldable pub small_from : ℕ → List ℕ → List ℕ
small_from k [] = []
small_from k (c ∷ cs) =
    cond (eqb c lf) (c ∷ small_from 0 cs)
    (cond (eqb c tab) (c ∷ small_from (suc k) cs) (cond (leb 2 k) (folded c) c ∷ small_from k cs))

unfoldable pub small_text : List ℕ → List ℕ
small_text text = small_from 0 text

-- The texts differ at most in the case of letters in names.
abbrev pub SameText : List ℕ → List ℕ → Type 0
SameText a b = small_text a ≡ small_text b

-- The sheet with its names folded.
unfoldable pub small_declaration : Declaration → Declaration
small_declaration d = record { function = d.function; name = folded_name d.name; arity = d.arity }

abbrev pub small_names : List Declaration → List Declaration
small_names ds = map small_declaration ds

unfoldable pub small_sheet : Sheet → Sheet
small_sheet s = record { order = s.order; symbols = small_names s.symbols; clauses = s.clauses; goal = s.goal }
