-- A sheet with small names is read as before request W-201.
use Prim.Native.Nat.{ℕ}
use mathlib.Core.Path.{◌≡◌, refl, sym, ap₂}
use mathlib.Core.Bool.{Bool, true, false, ◌||◌, true≢false}
use mathlib.Core.List.{List, [], ◌∷◌}
use mathlib.Core.Option.{Option, none, some}
use Rattle.terms.proofs.Lists.{all_weaken}
use Rattle.sheet_format.specs.Bytes.{lines_of, is_capital, same_bytes, folded_name, same_name}
use Rattle.sheet_format.specs.SheetLines.{SheetLine, declare_line, node_line, clause_line, goal_line, parse_line}
use Rattle.sheet_format.specs.Sheets.{read_sheet_by, sheet_form, read_sheet}
use Rattle.sheet_format.specs.FormerNames.{has_capital, without_capitals, former_form, DeclaresSmall}
use Rattle.sheet_format.specs.Promises.{ReadsAsBefore}
use Rattle.sheet_format.proofs.Options.{OnSome}
use Rattle.sheet_format.proofs.Capitals.{folded_other}
use Rattle.sheet_format.proofs.Forms.{Declares, lines_alike}

-- A name without capitals stays.
pub small_stays : (n : List ℕ) → has_capital n ≡ false → folded_name n ≡ n
unfolding has_capital
small_stays [] h = refl
small_stays (c ∷ cs) h = go (is_capital c) refl h (small_stays cs)
  where
    go : (b : Bool) → is_capital c ≡ b → (b || has_capital cs) ≡ false → (has_capital cs ≡ false → folded_name cs ≡ cs)
        → folded_name (c ∷ cs) ≡ c ∷ cs
    go true e k ih = absurd (true≢false k)
    go false e k ih = ap₂ ◌∷◌ (folded_other c e) (ih k)

-- Names without capitals are equal exactly if their bytes are.
same_small : (m n : List ℕ) → has_capital m ≡ false → has_capital n ≡ false → same_bytes m n ≡ same_name m n
unfolding same_name
same_small m n p q = sym (ap₂ same_bytes (small_stays m p) (small_stays n q))

-- A line that declares no name with a capital was the same line.
small_line_lem : (o : Option SheetLine) → ((k : Bool) (n : List ℕ) (a : ℕ) → o ≡ some (declare_line k n a) → has_capital n ≡ false)
    → (without_capitals o ≡ o) × OnSome (Declares (λ n. has_capital n ≡ false)) o
unfolding without_capitals
small_line_lem none h = (refl, tt)
small_line_lem (some (declare_line k n a)) h = let e = h k n a refl in (rw e refl, e)
small_line_lem (some (node_line l)) h = (refl, tt)
small_line_lem (some (clause_line n)) h = (refl, tt)
small_line_lem (some (goal_line n)) h = (refl, tt)

-- A sheet with small names is read as before.
pub reads_as_before : ReadsAsBefore
unfolding read_sheet read_sheet_by former_form sheet_form
reads_as_before bytes h =
    sym (lines_alike same_bytes same_name (λ n. has_capital n ≡ false) same_small (λ l. without_capitals (parse_line l)) parse_line
    (lines_of bytes).whole (lines_of bytes).rest
    (all_weaken DeclaresSmall
    (λ l. (without_capitals (parse_line l) ≡ parse_line l) × OnSome (Declares (λ n. has_capital n ≡ false)) (parse_line l))
    (λ l k. small_line_lem (parse_line l) k) (lines_of bytes).whole h))
