-- A line leaves the counts of symbols as they were before it, until its numbering is checked.
use Prim.Native.Nat.{ℕ, ◌+◌, ◌-◌}
use mathlib.Core.Path.{◌≡◌, refl}
use mathlib.Core.Bool.{Bool, true, false, cond}
use mathlib.Core.List.{List}
use lib.Dec.{eqb, ltb, leb}
use lib.ListN.{length}
use Rattle.sheet_format.specs.Bytes.{ascii}
use Rattle.sheet_format.specs.Limits.{max_budget}
use Rattle.node_table.specs.Layout.{members_of, mask_of, kind_of, label_of, child_of, true_kind, atom_kind, implies_kind, or_kind, and_kind, exists_kind}
use Rattle.clause_members.specs.Members.{member, head_of}
use Rattle.scanning.specs.Ranges.{Number}
use Rattle.std.specs.Prelude.{Some, None}
use Rattle.scanning.specs.Scanning.{Scan}
use Rattle.scanning.specs.Fields as fields
use Rattle.scanning.specs.Ranges.{scan_number}
use Rattle.scanning.specs.Scanning.{scan_symbol, scan_term}
use Rattle.scanning.specs.Frames.{bind_frame, copy_ranges}
use Rattle.scanning.specs.BriefComparisons.{same_atoms}
use Rattle.line_checking.specs.declared.Registers.{Registers}
use Rattle.std.specs.Prelude.{Some, None}
use Rattle.line_checking.specs.Sequents.{Made, made, broken, with_stage, with_binding, with_sequent, free_from, bound_from, bound, put_sequent}
use Rattle.line_checking.specs.Sequents.{open_sequent, next_sequent, put_hypothesis, result_stage, binding_stage, sequent_stage}
use Rattle.line_checking.specs.HypothesisChains.{links_after, put_links}
use Rattle.line_checking.specs.Members.{Place, start_after, place_from}
use Rattle.line_checking.specs.Bindings.{begins_with, is_line, check_result_with, check_units, check_result, bind_with, bind_term, binds_variable}
use Rattle.line_checking.specs.Bindings.{bind_line}
use Rattle.line_checking.specs.Rules.{with_child, true_line, and_line, or_line, assume_line, bind_goal, some_with, some_term, some_line}
use Rattle.line_checking.specs.Rules.{all_with, all_constant, all_line}
use Rattle.line_checking.specs.Clauses.{Read, prefix_from, with_body, use_member, use_terms, use_found, use_place, use_place_at, clause_fields}
use Rattle.line_checking.specs.Clauses.{clause_line}
use Rattle.line_checking.specs.Judging.{quantifier_line, connective_line, sequent_line, stage_line}

-- What a line leaves has the counts of the registers r.
pub record SameCounts (r : Registers) (m : Made) : Type 0 where
  pub same_made_lem : m.registers.made ≡ r.made
  pub same_leftover_lem : m.registers.leftover ≡ r.leftover

module _ (r : Registers) where
  either : (b : Bool) (x y : Made) → SameCounts r x → SameCounts r y → SameCounts r (cond b x y)
  either true x y p q = p
  either false x y p q = q

  by_scan : (o : Scan) (f : ℕ → ℕ → Made) (m : Made) → ((j k : ℕ) → SameCounts r (f j k)) → SameCounts r m
      → SameCounts r (elim o as (λ z. Made) [ Some (j, k) ↦ f j k | None ↦ m ])
  by_scan (Some (j, k)) f m p q = p j k
  by_scan None f m p q = q

  by_number : (o : Number) (f : ℕ → ℕ → Made) (m : Made) → ((n j : ℕ) → SameCounts r (f n j)) → SameCounts r m
      → SameCounts r (elim o as (λ z. Made) [ Some (n, j) ↦ f n j | None ↦ m ])
  by_number (Some (n, j)) f m p q = p n j
  by_number None f m p q = q

  stops : (w : List ℕ) → SameCounts r (broken w r)
  unfolding broken with_stage
  stops w = record { same_made_lem = refl; same_leftover_lem = refl }

  due : (w : List ℕ) (n f h i q : ℕ) → SameCounts r (made w (with_sequent r n f h i q))
  unfolding with_sequent
  due w n f h i q = record { same_made_lem = refl; same_leftover_lem = refl }

  next : (w w' : List ℕ) → SameCounts r (made w (next_sequent w' r))
  unfolding next_sequent open_sequent with_sequent with_stage
  next w w' = go (eqb r.rest 0)
    where
      go : (b : Bool) → SameCounts r (made w (cond b (with_stage r 3) (open_sequent w' r (r.rest - 1))))
      go true = record { same_made_lem = refl; same_leftover_lem = refl }
      go false = record { same_made_lem = refl; same_leftover_lem = refl }

  -- B lines

  binds : (w t : List ℕ) (goal v f : ℕ) → SameCounts r (made w (bound t goal r v f))
  unfolding bound bound_from with_binding with_sequent
  binds w t goal v f = go (ltb u 8)
    where
      u : ℕ
      u = free_from (8 - v) (mask_of t goal) v

      go : (b : Bool) → SameCounts r (made w (cond b (with_binding r u f) (with_sequent r goal f 0 0 0)))
      go true = record { same_made_lem = refl; same_leftover_lem = refl }
      go false = record { same_made_lem = refl; same_leftover_lem = refl }

  result_same : (t : List ℕ) (goal : ℕ) (x w : List ℕ) (i e : ℕ) → SameCounts r (check_result t goal x w r i e)
  unfolding check_result check_units check_result_with
  result_same t goal x w i e =
      either (begins_with (ascii "R\tproved\t") x i) _ _ (by_number (scan_number x (i + 9)) _ _ (λ n j.
      either (eqb j e) _ _ (either (leb 1 n) _ _ (either (leb n max_budget) _ _ (binds w t goal 0 0) (stops w)) (stops w)) (stops w))
      (stops w)) (stops w)

  bind_same : (b t : List ℕ) (symbols goal : ℕ) (x w : List ℕ) (q i e : ℕ) → SameCounts r (bind_line b t symbols goal x w r q i e)
  unfolding bind_line bind_term bind_with
  bind_same b t symbols goal x w q i e =
      either (binds_variable x i r.node) _ _ (by_scan (scan_term (length x) b t symbols x (i + 4)) _ _ (λ j k.
      either (eqb j e) _ _ (either (eqb k 0) _ _ (binds (bind_frame w q r.frame r.node (i + 4) j) t goal (r.node + 1) q) (stops w))
      (stops w)) (stops w)) (stops w)

  -- D lines

  member_same : (b t x w : List ℕ) (q n : ℕ) → SameCounts r (use_member b t x w r q n)
  unfolding use_member with_body
  member_same b t x w q n =
      either (same_atoms b t x w r.frame q r.node (head_of t n)) _ _ (go (eqb (kind_of t n) implies_kind)) (stops w)
    where
      go : (z : Bool)
          → SameCounts r (made w (cond z (with_sequent r (child_of t n 0) q r.hypotheses r.level r.rest) (next_sequent w r)))
      go true = due w (child_of t n 0) q r.hypotheses r.level r.rest
      go false = next w w

  terms_same : (b t x : List ℕ) (q n : ℕ) (a : Read) (e : ℕ) → SameCounts r (use_terms b t x r q n a e)
  unfolding use_terms
  terms_same b t x q n a e =
      by_scan a.scan _ _ (λ j k. either (eqb j e) _ _ (member_same b t x a.memory q n) (stops a.memory)) (stops a.memory)

  place_same : (b t : List ℕ) (symbols : ℕ) (x w : List ℕ) (q : ℕ) (p : Place) (i e : ℕ) → SameCounts r (use_place b t symbols x w r q p i e)
  unfolding use_place use_found
  place_same b t symbols x w q (Some (n, f, k)) i e =
      terms_same b t x q (member t n k).leaf (prefix_from (member t n k).count b t symbols x (copy_ranges fields.frame_numbers w q f 0) q
      (member t n k).names i r.level e) e
  place_same b t symbols x w q None i e = stops w

  clause_same : (b t : List ℕ) (symbols clauses : ℕ) (x w : List ℕ) (q i e : ℕ) → SameCounts r (clause_line b t symbols clauses x w r q i e)
  unfolding clause_line clause_fields use_place_at
  clause_same b t symbols clauses x w q i e =
      either (begins_with (ascii "D\tclause\t") x i) _ _ (by_number (scan_number x (i + 9)) _ _ (λ k j.
      either (eqb k 0) _ _ (stops w) (place_same b t symbols x w q (place_from t clauses w r.hypotheses (k - 1)) j e)) (stops w)) (stops w)

  goal_same : (t w : List ℕ) (q i j k : ℕ) → SameCounts r (bind_goal t w r q i j k)
  unfolding bind_goal
  goal_same t w q i j k =
      due (bind_frame w q r.frame (label_of t r.node) i j) (child_of t r.node 0) q r.hypotheses k r.rest

  some_same : (b t : List ℕ) (symbols : ℕ) (x w : List ℕ) (q i e : ℕ) → SameCounts r (some_line b t symbols x w r q i e)
  unfolding some_line some_term some_with
  some_same b t symbols x w q i e =
      either (begins_with (ascii "D\tsome\t") x i) _ _ (by_scan (scan_term (length x) b t symbols x (i + 7)) _ _ (λ j k.
      either (eqb j e) _ _ (either (leb k r.level) _ _ (goal_same t w q (i + 7) j r.level) (stops w)) (stops w)) (stops w)) (stops w)

  all_same : (t x w : List ℕ) (q i e : ℕ) → SameCounts r (all_line t x w r q i e)
  unfolding all_line all_constant all_with
  all_same t x w q i e =
      either (begins_with (ascii "D\tall\t!") x i) _ _ (by_scan (scan_symbol x (i + 6 + 1)) _ _ (λ j k.
      either (eqb j e) _ _ (either (eqb k (r.level + 1)) _ _ (goal_same t w q (i + 6) j k) (stops w)) (stops w)) (stops w)) (stops w)

  child_same : (t w : List ℕ) (j : ℕ) → SameCounts r (made w (with_child t r j))
  unfolding with_child
  child_same t w j = due w (child_of t r.node j) r.frame r.hypotheses r.level r.rest

  connective_same : (b t : List ℕ) (symbols clauses : ℕ) (x w : List ℕ) (q i e : ℕ)
      → SameCounts r (connective_line b t symbols clauses x w r q i e)
  unfolding connective_line and_line or_line assume_line quantifier_line
  connective_same b t symbols clauses x w q i e =
      either (eqb (kind_of t r.node) and_kind) _ _ (either (is_line (ascii "D\tand") x i e) _ _ (due
      (put_sequent w q (child_of t r.node 1) r.frame r.hypotheses r.level r.rest) (child_of t r.node 0) r.frame
      r.hypotheses r.level (q + 1)) (stops w))
      (either (eqb (kind_of t r.node) or_kind) _ _ (either (is_line (ascii "D\tleft") x i e) _ _ (child_same t w 0)
      (either (is_line (ascii "D\tright") x i e) _ _ (child_same t w 1) (stops w)))
      (either (eqb (kind_of t r.node) implies_kind) _ _ (either (is_line (ascii "D\tassume") x i e) _ _ (due
      (put_links (put_hypothesis w q (child_of t r.node 0) r.frame r.hypotheses (start_after t clauses w r.hypotheses)) q
      (links_after w r.hypotheses (members_of t (child_of t r.node 0))))
      (child_of t r.node 1) r.frame (q + 1) r.level r.rest) (stops w))
      (either (eqb (kind_of t r.node) exists_kind) _ _ (some_same b t symbols x w q i e) (all_same t x w q i e))))

  pub stage_same : (b t : List ℕ) (symbols clauses goal : ℕ) (x w : List ℕ) (q i e : ℕ)
      → SameCounts r (stage_line b t symbols clauses goal x w r q i e)
  unfolding stage_line sequent_line true_line
  stage_same b t symbols clauses goal x w q i e =
      either (eqb r.stage result_stage) _ _ (result_same t goal x w i e)
      (either (eqb r.stage binding_stage) _ _ (bind_same b t symbols goal x w q i e)
      (either (eqb r.stage sequent_stage) _ _ (either (eqb (kind_of t r.node) atom_kind) _ _ (clause_same b t symbols clauses x w q i e)
      (either (eqb (kind_of t r.node) true_kind) _ _ (either (is_line (ascii "D\ttrue") x i e) _ _ (next w w) (stops w))
      (connective_same b t symbols clauses x w q i e))) (stops w)))
