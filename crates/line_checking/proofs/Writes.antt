-- Line q writes record q only.
use Prim.Native.Nat.{ℕ, ◌+◌, ◌-◌, ◌<◌}
use native.Mathlib.Omega.{arith}
use mathlib.Core.Bool.{Bool, true, false, cond}
use mathlib.Core.List.{List, [], ◌∷◌}
use lib.Dec.{eqb, leb}
use lib.ListN.{length}
use Rattle.sheet_format.specs.Limits.{max_budget}
use Rattle.sheet_format.specs.Bytes.{ascii}
use Rattle.node_table.specs.Layout.{members_of, label_of, child_of}
use Rattle.scanning.specs.Ranges.{Number}
use Rattle.std.specs.Prelude.{Some, None}
use Rattle.scanning.specs.Scanning.{Scan}
use Rattle.scanning.specs.Fields as fields
use Rattle.scanning.specs.Ranges.{scan_number}
use Rattle.scanning.specs.Scanning.{scan_symbol, scan_term}
use Rattle.scanning.specs.Frames.{copy_ranges}
use Rattle.scanning.specs.BriefComparisons.{same_atoms}
use Rattle.scanning.proofs.Records.{Kept, kept_self, kept_then, puts_kept, copy_kept, bind_kept}
use Rattle.line_checking.specs.declared.Registers.{Registers}
use Rattle.std.specs.Prelude.{Some, None}
use Rattle.line_checking.specs.Sequents.{Made, broken, put_sequent, put_hypothesis}
use Rattle.line_checking.specs.HypothesisChains.{links_after, put_links}
use Rattle.line_checking.specs.Members.{Place, start_after, place_from}
use Rattle.line_checking.specs.Bindings.{begins_with, is_line, check_result_with, check_units, check_result, bind_with, bind_term}
use Rattle.line_checking.specs.Bindings.{binds_variable, bind_line}
use Rattle.line_checking.specs.Rules.{true_line, and_line, or_line, assume_line, bind_goal, some_with, some_term, some_line, all_with}
use Rattle.line_checking.specs.Rules.{all_constant, all_line}
use Rattle.line_checking.specs.Clauses.{Read, prefix_from, use_member, use_terms, use_found, use_place, use_place_at, clause_fields}
use Rattle.line_checking.specs.Clauses.{clause_line}
use Rattle.line_checking.proofs.PrefixTerms.{prefix_kept}
use Rattle.memory.proofs.Records.{puts}
use Rattle.clause_members.specs.Members.{member, head_of}

module _ (q : ℕ) (w : List ℕ) where
  -- A test writes only record q if both its sides do.
  side : (b : Bool) (x y : Made) → Kept q w x.memory → Kept q w y.memory → Kept q w (cond b x y).memory
  side true x y h k = h
  side false x y h k = k

  -- A line that was wrong writes nothing.
  none_written : (r : Registers) → Kept q w (broken w r).memory
  unfolding broken
  none_written r = kept_self q w

  -- What follows reading a number writes only record q if each case does.
  of_number : (o : Number) (f : ℕ → ℕ → Made) (y : Made) → ((n j : ℕ) → Kept q w (f n j).memory) → Kept q w y.memory
      → Kept q w (elim o as (λ z. Made) [ Some (n, j) ↦ f n j | None ↦ y ]).memory
  of_number (Some (n, j)) f y h k = h n j
  of_number None f y h k = k

  -- What follows reading a term writes only record q if each case does.
  of_scan : (s : Scan) (f : ℕ → ℕ → Made) (y : Made) → ((j k : ℕ) → Kept q w (f j k).memory) → Kept q w y.memory
      → Kept q w (elim s as (λ z. Made) [ Some (j, k) ↦ f j k | None ↦ y ]).memory
  of_scan (Some (j, k)) f y h u = h j k
  of_scan None f y h u = u

  module _ (b t : List ℕ) (symbols : ℕ) (x : List ℕ) (r : Registers) (i e : ℕ) where
    -- The R line writes only record q.
    pub open_kept : (goal : ℕ) → Kept q w (check_result t goal x w r i e).memory
    unfolding check_result check_units check_result_with
    open_kept goal =
        side (begins_with (ascii "R\tproved\t") x i) _ _
        (of_number (scan_number x (i + 9)) (λ n j. check_result_with t goal w r n j e) (broken w r)
        (λ n j. side (eqb j e) _ _ (side (leb 1 n) _ _ (side (leb n max_budget) _ _ (kept_self q w) (none_written r)) (none_written r))
        (none_written r)) (none_written r))
        (none_written r)

    -- A B line writes only record q.
    pub binding_kept : (goal : ℕ) → r.node < 8 → Kept q w (bind_line b t symbols goal x w r q i e).memory
    unfolding bind_line bind_term bind_with
    binding_kept goal l =
        side (binds_variable x i r.node) _ _
        (of_scan (scan_term (length x) b t symbols x (i + 4)) (λ j k. bind_with t goal w r q (i + 4) j k e) (broken w r)
        (λ j k. side (eqb j e) _ _ (side (eqb k 0) _ _ (bind_kept w q r.frame r.node (i + 4) j l) (none_written r))
        (none_written r)) (none_written r))
        (none_written r)

    -- A `D true` line writes only record q.
    pub true_kept : Kept q w (true_line x w r i e).memory
    unfolding true_line
    true_kept = side (is_line (ascii "D\ttrue") x i e) _ _ (kept_self q w) (none_written r)

    -- A `D and` line writes only record q.
    pub and_kept : Kept q w (and_line t x w r q i e).memory
    unfolding and_line put_sequent puts
    and_kept =
        side (is_line (ascii "D\tand") x i e) _ _
        (puts_kept (child_of t r.node 1 ∷ r.frame ∷ r.hypotheses ∷ r.level ∷ r.rest ∷ []) w q fields.sequent_node (omega arith))
        (none_written r)

    -- A `D left` or `D right` line writes only record q.
    pub or_kept : Kept q w (or_line t x w r i e).memory
    unfolding or_line
    or_kept =
        side (is_line (ascii "D\tleft") x i e) _ _ (kept_self q w)
        (side (is_line (ascii "D\tright") x i e) _ _ (kept_self q w) (none_written r))

    -- A `D assume` line writes only record q.
    pub assume_kept : (clauses : ℕ) → Kept q w (assume_line t clauses x w r q i e).memory
    unfolding assume_line put_hypothesis put_links puts
    assume_kept clauses =
        let links = links_after w r.hypotheses (members_of t (child_of t r.node 0)) in
        side (is_line (ascii "D\tassume") x i e) _ _
        (puts_kept (child_of t r.node 0 ∷ r.frame ∷ r.hypotheses ∷ start_after t clauses w r.hypotheses ∷ links.depth ∷ links.jump
        ∷ links.passed ∷ []) w q fields.hypothesis_node (omega arith))
        (none_written r)

    -- Binding the goal's variable writes only record q.
    goal_kept : (s j k : ℕ) → label_of t r.node < 8 → Kept q w (bind_goal t w r q s j k).memory
    unfolding bind_goal
    goal_kept s j k l = bind_kept w q r.frame (label_of t r.node) s j l

    -- A `D some` line writes only record q.
    pub some_kept : label_of t r.node < 8 → Kept q w (some_line b t symbols x w r q i e).memory
    unfolding some_line some_term some_with
    some_kept l =
        side (begins_with (ascii "D\tsome\t") x i) _ _
        (of_scan (scan_term (length x) b t symbols x (i + 7)) (λ j k. some_with t w r q (i + 7) j k e) (broken w r)
        (λ j k. side (eqb j e) _ _ (side (leb k r.level) _ _ (goal_kept (i + 7) j r.level l) (none_written r)) (none_written r))
        (none_written r))
        (none_written r)

    -- A `D all` line writes only record q.
    pub all_kept : label_of t r.node < 8 → Kept q w (all_line t x w r q i e).memory
    unfolding all_line all_constant all_with
    all_kept l =
        side (begins_with (ascii "D\tall\t!") x i) _ _
        (of_scan (scan_symbol x (i + 6 + 1)) (λ j k. all_with t w r q (i + 6) j k e) (broken w r)
        (λ j k. side (eqb j e) _ _ (side (eqb k (r.level + 1)) _ _ (goal_kept (i + 6) j k l) (none_written r)) (none_written r))
        (none_written r))
        (none_written r)

    -- Using a member, with the terms that were read, writes only record q.
    member_kept : (n : ℕ) (a : Read) → Kept q w a.memory → Kept q w (use_terms b t x r q n a e).memory
    unfolding use_terms use_member broken
    member_kept n a h =
        of_scan a.scan (λ j k. cond (eqb j e) (use_member b t x a.memory r q n) (broken a.memory r)) (broken a.memory r)
        (λ j k. side (eqb j e) _ _ (side (same_atoms b t x a.memory r.frame q r.node (head_of t n)) _ _ h h) h) h

    -- Using an entry writes only record q.
    place_kept : (p : Place) (j : ℕ) → Kept q w (use_place b t symbols x w r q p j e).memory
    unfolding use_place use_found
    place_kept (Some (n, f, k)) j =
        let m = member t n k in
        let a = prefix_from m.count b t symbols x (copy_ranges fields.frame_numbers w q f 0) q m.names j r.level e in
        member_kept m.leaf a
        (kept_then q w (copy_ranges fields.frame_numbers w q f 0) a.memory (copy_kept 16 w q f 0 (omega arith))
        (prefix_kept m.count b t symbols x (copy_ranges fields.frame_numbers w q f 0) q m.names j r.level e))
    place_kept None j = none_written r

    -- A `D clause` line writes only record q.
    pub clause_kept : (clauses : ℕ) → Kept q w (clause_line b t symbols clauses x w r q i e).memory
    unfolding clause_line clause_fields use_place_at
    clause_kept clauses =
        side (begins_with (ascii "D\tclause\t") x i) _ _
        (of_number (scan_number x (i + 9)) (λ k j. use_place_at b t symbols clauses x w r q k j e) (broken w r)
        (λ k j. side (eqb k 0) _ _ (none_written r) (place_kept (place_from t clauses w r.hypotheses (k - 1)) j))
        (none_written r))
        (none_written r)
