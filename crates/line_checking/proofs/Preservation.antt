-- What records below k hold stays when a record from k on is written, and is still below a larger k.
use Prim.Native.Nat.{ℕ, zero, suc, ◌<◌, ◌≤◌}
use native.Mathlib.Omega.{arith}
use mathlib.Core.Path.{◌≡◌, refl, sym, ap, ◌∙◌, subst}
use mathlib.Core.List.{List, [], ◌∷◌}
use lib.ListN.{length}
use Rattle.formulas.specs.Formulas.{free_c}
use Rattle.sequents.specs.Symbols.{Symbol}
use Rattle.sequents.specs.Sequents.{Hypothesis, Program, Sequent}
use Rattle.sheet_format.proofs.Formed.{FormedClause}
use Rattle.sheet_format.specs.Limits.{numbers_per_unit}
use Rattle.node_table.specs.Decoding.{clause_at_node}
use Rattle.node_table.specs.WellMade.{IsClause}
use Rattle.scanning.specs.Fields as fields
use Rattle.scanning.proofs.InstanceSpelling.{Frame}
use Rattle.scanning.proofs.Records.{Kept}
use Rattle.scanning.proofs.Frames.{frame_kept}
use Rattle.line_checking.specs.declared.Links.{Links}
use Rattle.line_checking.specs.HypothesisChains.{hypothesis_field, next_of}
use Rattle.line_checking.proofs.Representation.{Setting, folds, declared, climb, JumpAt, HypothesisAt, HypothesesAt, ProgramAt}
use Rattle.line_checking.proofs.Representation.{SequentAt, SequentsAt}
use Rattle.line_checking.proofs.HypothesisChains.{hypothesis_field_lem, Linked}
use Rattle.memory.specs.Records.{field}

module _ (c : Setting) (q : ℕ) (w w' : List ℕ) (kept : Kept q w w') where
  -- A field of a record below q stays the same.
  same : (r f : ℕ) → r < q → f < numbers_per_unit → field w' r f ≡ field w r f
  same r f l h = kept.others r f (λ e. omega arith) h

  -- A hypothesis below record q is kept when record q is written.
  hypothesis_keep : (k r : ℕ) (a : Hypothesis Symbol) → k ≤ q → HypothesisAt c k w r a → HypothesisAt c k w' r a
  hypothesis_keep k r a l h =
      let b = h.below in
      let o = h.older in
      let n = sym (same r 21 (omega arith) (omega arith)) in
      let f = sym (same r 22 (omega arith) (omega arith)) in
      record {
        below = h.below;
        node = subst (λ (z : ℕ). z < c.nodes) n h.node;
        is = subst (λ (z : ℕ). IsClause c.table z) n h.is;
        clause = h.clause ∙ ap (clause_at_node c.table) n;
        formed = subst (λ (z : ℕ). FormedClause (clause_at_node c.table z) (declared c)) n h.formed;
        older = subst (λ (z : ℕ). z < k) f h.older;
        frame =
            subst (λ (z : ℕ). Frame (declared c) (folds c) w' z a.environment
            (free_c (clause_at_node c.table (field w' r fields.hypothesis_node)))) f
            (subst (λ (z : ℕ). Frame (declared c) (folds c) w' (field w r fields.hypothesis_frame) a.environment
            (free_c (clause_at_node c.table z))) n
            (frame_kept (declared c) (folds c) q (field w r fields.hypothesis_frame) w w' a.environment
            (free_c (clause_at_node c.table (field w r fields.hypothesis_node))) kept (λ e. omega arith) h.frame));
      }

  -- The fields of hypotheses below record q stay.
  hypothesis_same : (h f : ℕ) → h ≤ q → f < numbers_per_unit → hypothesis_field w' h f ≡ hypothesis_field w h f
  unfolding hypothesis_field
  hypothesis_same zero f l b = refl
  hypothesis_same (suc r) f l b = hypothesis_field_lem w' r f ∙ same r f (omega arith) b ∙ sym (hypothesis_field_lem w r f)

  -- Steps along hypotheses below record q lead where they led.
  pub climb_keep : (s k h : ℕ) (l : List (Hypothesis Symbol)) → k ≤ q → s ≤ length l → HypothesesAt c k w h l → climb s w' h ≡ climb s w h
  unfolding climb HypothesesAt
  climb_keep zero k h l u i p = refl
  climb_keep (suc s) k h [] u i p = absurd (omega arith)
  climb_keep (suc s) k h (a ∷ l) u i p =
      let r = p.0 in
      let b = p.2.below in
      let e : h ≡ suc r = p.1 in
      let n : next_of w h ≡ field w r fields.hypothesis_next =
      ap (λ (z : ℕ). next_of w z) e ∙ hypothesis_field_lem w r fields.hypothesis_next in
      ap (climb s w') (hypothesis_same h fields.hypothesis_next (omega arith) (omega arith) ∙ n)
      ∙ climb_keep s r (field w r fields.hypothesis_next) l (omega arith) (omega arith) p.3 ∙ ap (climb s w) (sym n)

  -- So do their jumps.
  jump_keep : (k h : ℕ) (l : List (Hypothesis Symbol)) → h ≤ q → k ≤ q → HypothesesAt c k w h l → JumpAt w h l → JumpAt w' h l
  jump_keep k h l i u p j =
      record {
        steps = j.steps;
        least = j.least;
        most = j.most;
        there = hypothesis_same h fields.hypothesis_jump i (omega arith) ∙ j.there ∙ sym (climb_keep j.steps k h l u j.most p);
        passed = hypothesis_same h fields.hypothesis_passed i (omega arith) ∙ j.passed;
      }

  -- So are the links of one that is made after them.
  pub linked_keep : (k h m : ℕ) (l : List (Hypothesis Symbol)) (L : Links) → k ≤ q → HypothesesAt c k w h l → Linked c w h m l L
      → Linked c w' h m l L
  linked_keep k h m l L u p j =
      record {
        steps = j.steps;
        most = j.most;
        there = j.there ∙ sym (climb_keep j.steps k h l u j.most p);
        passed = j.passed;
      }

  -- Hypotheses below record q are kept when record q is written.
  pub hypotheses_keep : (k h : ℕ) (l : List (Hypothesis Symbol)) → k ≤ q → HypothesesAt c k w h l → HypothesesAt c k w' h l
  unfolding HypothesesAt
  hypotheses_keep k h [] u p = p
  hypotheses_keep k h (a ∷ l) u p =
      let r = p.0 in
      let b = p.2.below in (
        r,
        p.1,
        hypothesis_keep k r a u p.2,
        subst (λ (z : ℕ). HypothesesAt c r w' z l) (sym (same r 23 (omega arith) (omega arith)))
            (hypotheses_keep r (field w r fields.hypothesis_next) l (omega arith) p.3),
        same r 24 (omega arith) (omega arith) ∙ p.4,
        let e = p.1 in jump_keep k h (a ∷ l) (omega arith) u p p.5,
      )

  -- A program below record q is kept when record q is written.
  pub program_keep : (k h : ℕ) (P : Program Symbol) → k ≤ q → ProgramAt c k w h P → ProgramAt c k w' h P
  program_keep k h P u p =
      record { hypotheses = p.hypotheses; environment = p.environment; is = p.is; at = hypotheses_keep k h p.hypotheses u p.at }

  -- A sequent below record q is kept when record q is written.
  pub sequent_keep : (k n f h i : ℕ) (g : Sequent Symbol) → k ≤ q → SequentAt c k w n f h i g → SequentAt c k w' n f h i g
  sequent_keep k n f h i g u s =
      let o = s.older in
      record {
        node = s.node;
        is = s.is;
        goal = s.goal;
        formed = s.formed;
        older = s.older;
        frame = frame_kept (declared c) (folds c) q f w w' g.environment _ kept (λ e. omega arith) s.frame;
        program = program_keep k h g.program u s.program;
        level = s.level;
      }

  -- Sequents left below record q are kept when record q is written.
  pub sequents_keep : (k p : ℕ) (gs : List (Sequent Symbol)) → k ≤ q → SequentsAt c k w p gs → SequentsAt c k w' p gs
  unfolding SequentsAt
  sequents_keep k p [] u s = s
  sequents_keep k p (g ∷ gs) u s =
      let r = s.0 in
      let b = s.2 in
      let n = sym (same r 16 (omega arith) (omega arith)) in
      let f = sym (same r 17 (omega arith) (omega arith)) in
      let h = sym (same r 18 (omega arith) (omega arith)) in
      let i = sym (same r 19 (omega arith) (omega arith)) in (
        r,
        s.1,
        s.2,
        rw (← n, ← f, ← h, ← i) (sequent_keep k (field w r fields.sequent_node) (field w r fields.sequent_frame)
            (field w r fields.sequent_hypotheses) (field w r fields.sequent_level) g u s.3),
        subst (λ (z : ℕ). SequentsAt c k w' z gs) (sym (same r 20 (omega arith) (omega arith)))
            (sequents_keep k (field w r fields.sequent_next) gs u s.4),
      )

module _ (c : Setting) (w : List ℕ) where
  -- below a larger k

  -- A hypothesis below k is below every larger number.
  hypothesis_up : (k k' r : ℕ) (a : Hypothesis Symbol) → k ≤ k' → HypothesisAt c k w r a → HypothesisAt c k' w r a
  hypothesis_up k k' r a l h =
      let b = h.below in
      let o = h.older in
      record {
        below = omega arith;
        node = h.node;
        is = h.is;
        clause = h.clause;
        formed = h.formed;
        older = omega arith;
        frame = h.frame;
      }

  -- Hypotheses below k are below every larger number.
  hypotheses_up : (k k' h : ℕ) (l : List (Hypothesis Symbol)) → k ≤ k' → HypothesesAt c k w h l → HypothesesAt c k' w h l
  unfolding HypothesesAt
  hypotheses_up k k' h [] u p = p
  hypotheses_up k k' h (a ∷ l) u p = (p.0, p.1, hypothesis_up k k' p.0 a u p.2, p.3, p.4, p.5)

  -- A program below k is below every larger number.
  pub program_up : (k k' h : ℕ) (P : Program Symbol) → k ≤ k' → ProgramAt c k w h P → ProgramAt c k' w h P
  program_up k k' h P u p =
      record { hypotheses = p.hypotheses; environment = p.environment; is = p.is; at = hypotheses_up k k' h p.hypotheses u p.at }

  -- A sequent below k is below every larger number.
  pub sequent_up : (k k' n f h i : ℕ) (g : Sequent Symbol) → k ≤ k' → SequentAt c k w n f h i g → SequentAt c k' w n f h i g
  sequent_up k k' n f h i g u s =
      let o = s.older in
      record {
        node = s.node;
        is = s.is;
        goal = s.goal;
        formed = s.formed;
        older = omega arith;
        frame = s.frame;
        program = program_up k k' h g.program u s.program;
        level = s.level;
      }

  -- Sequents left below k are below every larger number.
  pub sequents_up : (k k' p : ℕ) (gs : List (Sequent Symbol)) → k ≤ k' → SequentsAt c k w p gs → SequentsAt c k' w p gs
  unfolding SequentsAt
  sequents_up k k' p [] u s = s
  sequents_up k k' p (g ∷ gs) u s =
      let r = s.0 in
      let b = s.2 in (
        r,
        s.1,
        omega arith,
        sequent_up k k' (field w r fields.sequent_node) (field w r fields.sequent_frame)
            (field w r fields.sequent_hypotheses) (field w r fields.sequent_level) g u s.3,
        sequents_up k k' (field w r fields.sequent_next) gs u s.4,
      )

-- after line q

module _ (c : Setting) (q : ℕ) (w w' : List ℕ) (kept : Kept q w w') where
  -- A program is kept after line q.
  pub program_on : (h : ℕ) (P : Program Symbol) → ProgramAt c q w h P → ProgramAt c (suc q) w' h P
  program_on h P p = program_up c w' q (suc q) h P (omega arith) (program_keep c q w w' kept q h P (omega arith) p)

  -- A sequent is kept after line q.
  pub sequent_on : (n f h i : ℕ) (g : Sequent Symbol) → SequentAt c q w n f h i g → SequentAt c (suc q) w' n f h i g
  sequent_on n f h i g s = sequent_up c w' q (suc q) n f h i g (omega arith) (sequent_keep c q w w' kept q n f h i g (omega arith) s)

  -- Sequents left are kept after line q.
  pub sequents_on : (p : ℕ) (gs : List (Sequent Symbol)) → SequentsAt c q w p gs → SequentsAt c (suc q) w' p gs
  sequents_on p gs s = sequents_up c w' q (suc q) p gs (omega arith) (sequents_keep c q w w' kept q p gs (omega arith) s)

-- A list of hypotheses is no longer than its pointer, which is at most k.
pub hypotheses_short : (c : Setting) (w : List ℕ) (k h : ℕ) (l : List (Hypothesis Symbol)) → HypothesesAt c k w h l → (length l ≤ h)
    × (h ≤ k)
unfolding HypothesesAt
hypotheses_short c w k h [] p = (omega arith, omega arith)
hypotheses_short c w k h (a ∷ l) p =
    let s = hypotheses_short c w p.0 (field w p.0 fields.hypothesis_next) l p.3 in
    let e = p.1 in
    let b = p.2.below in
    omega arith
