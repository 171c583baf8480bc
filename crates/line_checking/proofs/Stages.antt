-- A line at any stage.
use Prim.Native.Nat.{ℕ, ◌+◌, ◌<◌}
use mathlib.Core.Path.{◌≡◌, refl, sym, ap, subst}
use mathlib.Core.Bool.{cond}
use mathlib.Core.List.{List, [], ◌∷◌}
use mathlib.Core.Option.{none}
use lib.Dec.{eqb}
use lib.ListN.{length}
use Rattle.sequents.specs.Symbols.{Symbol}
use Rattle.sequents.specs.Sequents.{Sequent}
use Rattle.node_table.specs.Layout.{kind_of}
use Rattle.node_table.specs.WellMade.{GoalNode}
use Rattle.node_table.proofs.Decoding.{nodes_of_lem, GoalKind, atom_kind_lem, true_kind_lem, and_kind_lem, or_kind_lem, implies_kind_lem, exists_kind_lem, forall_kind_lem}
use Rattle.node_table.proofs.Decoding.{goal_kind}
use Rattle.answer_texts.specs.TextLines.{TextLine, result_line, binding_line, derivation_line}
use Rattle.answer_texts.specs.Spelled.{Writable, Stage, opening, bindings, sequents}
use Rattle.text_judging.specs.Judging.{allow}
use Rattle.text_judging.proofs.Reading.{line_bytes}
use Rattle.scanning.proofs.Records.{Room, Kept, kept_self}
use Rattle.line_checking.specs.declared.Registers.{Registers}
use Rattle.line_checking.specs.Sequents.{Made, broken}
use Rattle.line_checking.specs.Bindings.{check_result, bind_line}
use Rattle.line_checking.specs.Judging.{quantifier_line, connective_line, sequent_line, stage_line}
use Rattle.line_checking.proofs.Representation.{Setting, declared, sheet_of, Filled, SequentAt, SequentsAt, Holds}
use Rattle.line_checking.proofs.Results.{Result, is_wrong}
use Rattle.line_checking.proofs.FoldedLines.{LineAt}
use Rattle.line_checking.proofs.Bindings.{open_result, bind_result}
use Rattle.line_checking.proofs.Rules.{true_result, and_result, or_result, assume_result, some_result, all_result}
use Rattle.line_checking.proofs.Clauses.{clause_result}
use Rattle.line_checking.proofs.Writes.{open_kept, binding_kept, true_kept, and_kept, or_kept, assume_kept, some_kept, all_kept}
use Rattle.line_checking.proofs.Writes.{clause_kept}

module _ (c : Setting) (filled : Filled c) (q : ℕ) (w : List ℕ) (room : Room q w) (r : Registers) (l rest : List ℕ) (i e : ℕ)
    (here : LineAt c.text i l rest)
    (end : e ≡ i + length l) where
  -- This is the table.
  abbrev t : List ℕ
  t = c.table

  -- What a line does, and where it writes.
  abbrev pub Done : Stage → Made → Type 0
  Done a m = Result c q l a r m × Kept q w m.memory

  -- A D line is found right or wrong by the kind of the goal, and writes only record q.
  sequent_result : (g : Sequent Symbol) (gs : List (Sequent Symbol)) → SequentAt c q w r.node r.frame r.hypotheses r.level g
      → SequentsAt c q w r.rest gs
      → Done (sequents (g ∷ gs)) (sequent_line c.bytes t c.symbols c.clauses c.text w r q i e)
  unfolding sequent_line connective_line quantifier_line
  sequent_result g gs at others = go (goal_kind (kind_of t r.node) node.least node.most)
    where
      node : GoalNode t r.node
      node = (nodes_of_lem t c.nodes c.clauses c.goal filled.well_made).goal r.node at.node at.is

      go : GoalKind (kind_of t r.node) → Done (sequents (g ∷ gs)) (sequent_line c.bytes t c.symbols c.clauses c.text w r q i e)
      go (atom_kind_lem k) =
          rw (sequent_line, k) (
            clause_result c filled q w room r g gs at others l rest i e here end k,
            clause_kept q w c.bytes t c.symbols c.text r i e c.clauses,
          )
      go (true_kind_lem k) =
          rw (sequent_line, k) (
            true_result c filled q w room r g gs at others l rest i e here end k,
            true_kept q w c.bytes t c.symbols c.text r i e,
          )
      go (and_kind_lem k) =
          rw (sequent_line, k) (
            and_result c filled q w room r g gs at others l rest i e here end k,
            and_kept q w c.bytes t c.symbols c.text r i e,
          )
      go (or_kind_lem k) =
          rw (sequent_line, k) (
            or_result c filled q w room r g gs at others l rest i e here end k,
            or_kept q w c.bytes t c.symbols c.text r i e,
          )
      go (implies_kind_lem k) =
          rw (sequent_line, k) (
            assume_result c filled q w room r g gs at others l rest i e here end k,
            assume_kept q w c.bytes t c.symbols c.text r i e c.clauses,
          )
      go (exists_kind_lem k) =
          rw (sequent_line, k) (
            some_result c filled q w room r g gs at others l rest i e here end k,
            some_kept q w c.bytes t c.symbols c.text r i e (node.exists k).0,
          )
      go (forall_kind_lem k) =
          rw (sequent_line, k) (
            all_result c filled q w room r g gs at others l rest i e here end k,
            all_kept q w c.bytes t c.symbols c.text r i e (node.forall k).0,
          )

  -- The stage decides which line is due.
  due : (s : ℕ) → r.stage ≡ s
      → stage_line c.bytes t c.symbols c.clauses c.goal c.text w r q i e
      ≡ cond (eqb s 0) (check_result t c.goal c.text w r i e)
      (cond (eqb s 1) (bind_line c.bytes t c.symbols c.goal c.text w r q i e)
      (cond (eqb s 2) (sequent_line c.bytes t c.symbols c.clauses c.text w r q i e) (broken w r)))
  unfolding stage_line
  due s h =
      ap (λ (z : ℕ). cond (eqb z 0) (check_result t c.goal c.text w r i e)
      (cond (eqb z 1) (bind_line c.bytes t c.symbols c.goal c.text w r q i e)
      (cond (eqb z 2) (sequent_line c.bytes t c.symbols c.clauses c.text w r q i e) (broken w r)))) h

  -- A line at the stage that is held.
  pub stage_result : (a : Stage) → Holds c q w r a → Done a (stage_line c.bytes t c.symbols c.clauses c.goal c.text w r q i e)
  unfolding Holds allow broken
  stage_result opening h =
      subst (Done opening) (sym (due 0 h)) (
        open_result c filled q w l rest i e r here end,
        open_kept q w c.bytes t c.symbols c.text r i e c.goal,
      )
  stage_result (bindings [] f) h = absurd h
  stage_result (bindings (v ∷ vs) f) h =
      subst (Done (bindings (v ∷ vs) f)) (sym (due 1 h.stage)) (
        bind_result c filled q w room r v vs f h l rest i e here end,
        binding_kept q w c.bytes t c.symbols c.text r i e c.goal (subst (λ (z : ℕ). z < 8) (sym h.variable) h.small),
      )
  stage_result (sequents []) h = subst (Done (sequents [])) (sym (due 3 h)) (is_wrong c q l (sequents []) w r r surplus, kept_self q w)
    where
      surplus : (line : TextLine) → l ≡ line_bytes (declared c) line → Writable (declared c) line
          → allow (sheet_of c) line (sequents []) ≡ none
      surplus (result_line n) p y = refl
      surplus (binding_line v u) p y = refl
      surplus (derivation_line d) p y = refl
  stage_result (sequents (g ∷ gs)) h = subst (Done (sequents (g ∷ gs))) (sym (due 2 h.0)) (sequent_result g gs h.1 h.2)
