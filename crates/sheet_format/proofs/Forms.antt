-- Two forms that agree on the lines of a sheet, and on the names that it declares, read it alike.
use Prim.Native.Nat.{ℕ, suc}
use mathlib.Core.Path.{◌≡◌, refl, ◌∙◌, ap, ap₂}
use mathlib.Core.Bool.{Bool, true, false, not, ◌||◌, cond}
use mathlib.Core.List.{List, [], ◌∷◌, ◌++◌}
use mathlib.Core.Option.{Option, none, some}
use lib.Dec.{ltb}
use lib.ListN.{length}
use Rattle.terms.specs.Lists.{All}
use Rattle.terms.proofs.Lists.{all_append}
use Rattle.formulas.specs.Rules.{Order, oldest, latest}
use Rattle.sheet_format.specs.Limits.{max_symbols}
use Rattle.sheet_format.specs.Bytes.{same_bytes}
use Rattle.sheet_format.specs.SheetLines.{SheetLine, declare_line, node_line, clause_line, goal_line}
use Rattle.sheet_format.specs.Nodes.{Declaration}
use Rattle.sheet_format.specs.Sheets.{Form, Read, refused, refusal, Table, Taken, next, stop, last, is_declared, take_declaration}
use Rattle.sheet_format.specs.Sheets.{take_line, after_goal, read_from, empty_table, order_line, read_lines}
use Rattle.sheet_format.proofs.Options.{OnSome}
use Rattle.sheet_format.proofs.Reading.{Invariant, After, line_after}

-- The property P holds of all names declared so far.
abbrev Declared : (List ℕ → Type 0) → Table → Type 0
Declared P t = All (λ d. P d.name) t.symbols

-- It holds of the name that a line declares, if it declares one.
abbrev pub Declares : (List ℕ → Type 0) → SheetLine → Type 0
Declares P (declare_line k n a) = P n
Declares P (node_line l) = Unit {0}
Declares P (clause_line n) = Unit {0}
Declares P (goal_line n) = Unit {0}

-- Names of which P holds are compared alike.
module _ (same like : List ℕ → List ℕ → Bool) (P : List ℕ → Type 0) (alike : (m n : List ℕ) → P m → P n → same m n ≡ like m n) where
  -- A name is declared under both comparisons or under neither.
  declared_alike : (n : List ℕ) (ds : List Declaration) → P n → All (λ d. P d.name) ds → is_declared same n ds ≡ is_declared like n ds
  unfolding is_declared
  declared_alike n [] p h = refl
  declared_alike n (d ∷ ds) p h = ap₂ ◌||◌ (alike n d.name p h.0) (declared_alike n ds p h.1)

  -- A line is taken alike.
  line_alike : (t : Table) (o : Option SheetLine) → Declared P t → OnSome (Declares P) o → take_line same t o ≡ take_line like t o
  unfolding take_line take_declaration
  line_alike t none h k = refl
  line_alike t (some (declare_line j n a)) h k =
      let d : Declaration = record { function = j; name = n; arity = a } in
      let t' : Table = record { symbols = t.symbols ++ (d ∷ []); nodes = t.nodes; clauses = t.clauses } in
      ap (λ (b : Bool). cond (not (ltb (length t.symbols) max_symbols)) (stop 7) (cond b (stop 8) (next t')))
      (declared_alike n t.symbols k h)
  line_alike t (some (node_line l)) h k = refl
  line_alike t (some (clause_line n)) h k = refl
  line_alike t (some (goal_line n)) h k = refl

  -- The property of the names declared is kept.
  declared_kept : Invariant like (Declares P) (Declared P)
  declared_kept = record {
    declaration = λ t k n a i h q.
        all_append (λ d. P d.name) t.symbols (record { function = k; name = n; arity = a } ∷ []) i (h, tt);
    node = λ t l n i h e. i;
    clause = λ t j n c i q p e. i;
  }

  -- All lines are read alike, in either order.
  from_alike : (was is : List ℕ → Option SheetLine) (o : Order) (ls : List (List ℕ)) (r : List ℕ) (k : ℕ) (t : Table) → Declared P t
      → All (λ l. (was l ≡ is l) × OnSome (Declares P) (is l)) ls
      → read_from (record { line = was; same = same }) o ls r k t ≡ read_from (record { line = is; same = like }) o ls r k t
  unfolding read_from
  from_alike was is o [] r k t f h = refl
  from_alike was is o (l ∷ ls) r k t f h =
      ap (after (record { line = was; same = same })) (ap (take_line same t) h.0.0 ∙ line_alike t (is l) f h.0.1)
      ∙ later (take_line like t (is l)) (line_after like (Declares P) (Declared P) declared_kept t (is l) f h.0.1)
      (λ u i. from_alike was is o ls r (suc k) u i h.1)
    where
      after : Form → Taken → Read
      after q x = elim x [
        | next u ↦ read_from q o ls r (suc k) u
        | stop n ↦ refused (refusal n k)
        | last a ↦ after_goal ls r (suc k) (record { order = o; symbols = t.symbols; clauses = t.clauses; goal = a })
      ]

      later : (x : Taken) → After like (Declares P) (Declared P) declared_kept t x
          → ((u : Table) → Declared P u
          → read_from (record { line = was; same = same }) o ls r (suc k) u ≡ read_from (record { line = is; same = like }) o ls r (suc k) u)
          → after (record { line = was; same = same }) x ≡ after (record { line = is; same = like }) x
      later (next u) i ih = ih u i
      later (stop n) i ih = refl
      later (last a) i ih = refl

  -- So are the lines of a sheet, whichever order the first gives.
  pub lines_alike : (was is : List ℕ → Option SheetLine) (ls : List (List ℕ)) (r : List ℕ)
      → All (λ l. (was l ≡ is l) × OnSome (Declares P) (is l)) ls
      → read_lines (record { line = was; same = same }) ls r ≡ read_lines (record { line = is; same = like }) ls r
  unfolding read_lines
  lines_alike was is [] r h = from_alike was is oldest [] r 1 empty_table tt h
  lines_alike was is (l ∷ ls) r h = go (same_bytes l order_line)
    where
      read : Form → Bool → Read
      read f b = cond b (read_from f latest ls r 2 empty_table) (read_from f oldest (l ∷ ls) r 1 empty_table)

      go : (b : Bool) → read (record { line = was; same = same }) b ≡ read (record { line = is; same = like }) b
      go true = from_alike was is latest ls r 2 empty_table tt h.1
      go false = from_alike was is oldest (l ∷ ls) r 1 empty_table tt h
