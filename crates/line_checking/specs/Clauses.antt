-- D lines for atoms: "D clause place term...". Line q of the text, which ends at e.
use Rattle.std.specs.Prelude.{ℕ, zero, suc, ◌+◌, ◌-◌, ◌/◌, ◌%◌, cond, List, eqb, leb, length, get_or, Some, None}
use Rattle.sheet_format.specs.Bytes.{ascii, tab}
use Rattle.sheet_format.specs.Limits.{variable_names}
use Rattle.node_table.specs.Layout.{kind_of, child_of, implies_kind}
use Rattle.std.specs.Prelude.{Some, None}
use Rattle.scanning.specs.Scanning.{Scan}
use Rattle.scanning.specs.Fields as fields
use Rattle.scanning.specs.Ranges.{scan_number}
use Rattle.scanning.specs.Scanning.{scan_term}
use Rattle.scanning.specs.Frames.{put_range, copy_ranges}
use Rattle.scanning.specs.BriefComparisons.{same_atoms}
use Rattle.line_checking.specs.declared.Registers.{Registers}
use Rattle.line_checking.specs.Sequents.{Made, made, broken, with_sequent, next_sequent}
use Rattle.line_checking.specs.Members.{Place, place_from}
use Rattle.line_checking.specs.Bindings.{begins_with}
use Rattle.clause_members.specs.declared.Found.{Found}
use Rattle.clause_members.specs.Members.{member, head_of}

-- Reading the terms of a prefix into the frame of record q.
pub record Read : Type 0 where
  pub memory : List ℕ
  pub scan : Scan

-- A buffer and the scan of the last term make a record.
abbrev pub read : List ℕ → Scan → Read
read w s = record { memory = w; scan = s }

-- A term from i on, for the name v: of level at most m, and within the line.
unfoldable pub prefix_term : List ℕ → ℕ → ℕ → ℕ → ℕ → ℕ → ℕ → ℕ → Read
prefix_term w q v i j k m e = cond (leb j e) (cond (leb k m) (read (put_range w q v i j) (Some (j, k))) (read w None)) (read w None)

-- This reads the tab at position i, then the term.
unfoldable pub prefix_at : List ℕ → List ℕ → ℕ → List ℕ → List ℕ → ℕ → ℕ → ℕ → ℕ → ℕ → Read
prefix_at b t symbols x w q v i m e =
    cond (eqb (get_or x i 0) tab)
    (elim (scan_term (length x) b t symbols x (i + 1)) [ Some (j, k) ↦ prefix_term w q v (i + 1) j k m e | None ↦ read w None ])
    (read w None)

-- Terms for n names, the digits of vs, from i on, each after a tab.
unfoldable pub prefix_from : ℕ → List ℕ → List ℕ → ℕ → List ℕ → List ℕ → ℕ → ℕ → ℕ → ℕ → ℕ → Read
prefix_from zero b t symbols x w q vs i m e = read w (Some (i, 0))
prefix_from (suc n) b t symbols x w q vs i m e =
    let a = prefix_at b t symbols x w q (vs % variable_names) i m e in
    elim a.scan [ Some (j, k) ↦ prefix_from n b t symbols x a.memory q (vs / variable_names) j m e | None ↦ a ]

-- "the body, if any, is the new goal": the member at node n, whose names stand for terms in frame q.
unfoldable pub with_body : List ℕ → List ℕ → Registers → ℕ → ℕ → Registers
with_body t w r q n =
    cond (eqb (kind_of t n) implies_kind) (with_sequent r (child_of t n 0) q r.hypotheses r.level r.rest) (next_sequent w r)

-- "an atom equal to the head of a member"
unfoldable pub use_member : List ℕ → List ℕ → List ℕ → List ℕ → Registers → ℕ → ℕ → Made
use_member b t x w r q n = cond (same_atoms b t x w r.frame q r.node (head_of t n)) (made w (with_body t w r q n)) (broken w r)

-- The line ends after the last term, at j.
unfoldable pub use_terms : List ℕ → List ℕ → List ℕ → Registers → ℕ → ℕ → Read → ℕ → Made
use_terms b t x r q n a e =
    elim a.scan [
      | Some (j, k) ↦ cond (eqb j e) (use_member b t x a.memory r q n) (broken a.memory r)
      | None ↦
          broken a.memory r
    ]

-- A member of a clause with frame f; its terms from i on.
unfoldable pub use_found : List ℕ → List ℕ → ℕ → List ℕ → List ℕ → Registers → ℕ → Found → ℕ → ℕ → ℕ → Made
use_found b t symbols x w r q m f i e =
    use_terms b t x r q m.leaf (prefix_from m.count b t symbols x (copy_ranges fields.frame_numbers w q f 0) q m.names i
    r.level e) e

-- This uses the member at the place that was found.
unfoldable pub use_place : List ℕ → List ℕ → ℕ → List ℕ → List ℕ → Registers → ℕ → Place → ℕ → ℕ → Made
use_place b t symbols x w r q p i e = elim p [ Some (n, f, k) ↦ use_found b t symbols x w r q (member t n k) f i e | None ↦ broken w r ]

-- The place counts from 1, in the order in force (request W-207).
unfoldable pub use_place_at : List ℕ → List ℕ → ℕ → ℕ → List ℕ → List ℕ → Registers → ℕ → ℕ → ℕ → ℕ → Made
use_place_at b t symbols clauses x w r q k i e =
    cond (eqb k 0) (broken w r) (use_place b t symbols x w r q (place_from t clauses w r.hypotheses (k - 1)) i e)

-- This reads the place at position i, then the terms.
unfoldable pub clause_fields : List ℕ → List ℕ → ℕ → ℕ → List ℕ → List ℕ → Registers → ℕ → ℕ → ℕ → Made
clause_fields b t symbols clauses x w r q i e =
    elim (scan_number x i) [ Some (k, j) ↦ use_place_at b t symbols clauses x w r q k j e | None ↦ broken w r ]

-- This judges a `D clause` line from position i on.
unfoldable pub clause_line : List ℕ → List ℕ → ℕ → ℕ → List ℕ → List ℕ → Registers → ℕ → ℕ → ℕ → Made
clause_line b t symbols clauses x w r q i e =
    cond (begins_with (ascii "D\tclause\t") x i) (clause_fields b t symbols clauses x w r q (i + 9) e) (broken w r)
