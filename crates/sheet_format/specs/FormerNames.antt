-- Request W-201: "The engine answers sheets with names all in small letters as before." What a sheet was before, by the same
-- reader: the form in force without what this request added.
use Rattle.std.specs.Prelude.{ℕ, ◌≡◌, Bool, false, ◌||◌, cond, List, [], ◌∷◌}
use Rattle.std.proofs.Math.Option.{Option, none, some}
use Rattle.terms.specs.Lists.{All}
use Rattle.sheet_format.specs.Bytes.{lines_of, is_capital, same_bytes}
use Rattle.sheet_format.specs.SheetLines.{SheetLine, declare_line, node_line, clause_line, goal_line, parse_line}
use Rattle.sheet_format.specs.Sheets.{Form}

unfoldable pub has_capital : List ℕ → Bool
has_capital [] = false
has_capital (c ∷ cs) = is_capital c || has_capital cs

-- A declaration of a name with a capital was malformed.
unfoldable pub without_capitals : Option SheetLine → Option SheetLine
without_capitals none = none
without_capitals (some (declare_line k n a)) = cond (has_capital n) none (some (declare_line k n a))
without_capitals (some (node_line l)) = some (node_line l)
without_capitals (some (clause_line n)) = some (clause_line n)
without_capitals (some (goal_line n)) = some (goal_line n)

-- Names were equal if their bytes were.
unfoldable pub former_form : Form
former_form = record { line = λ l. without_capitals (parse_line l); same = same_bytes }

-- "names all in small letters": of every line that declares a name.
abbrev pub DeclaresSmall : List ℕ → Type 0
DeclaresSmall l = (k : Bool) (n : List ℕ) (a : ℕ) → parse_line l ≡ some (declare_line k n a) → has_capital n ≡ false

abbrev pub NamesInSmallLetters : List ℕ → Type 0
NamesInSmallLetters bytes = All DeclaresSmall (lines_of bytes).whole
