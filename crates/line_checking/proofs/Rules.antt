-- D lines for goals that are no atoms.
use Prim.Native.Nat.{ℕ, zero, suc, ◌+◌, ◌<◌}
use native.Mathlib.Omega.{arith}
use native.Mathlib.Numerals.{add-one}
use mathlib.Core.Path.{◌≡◌, refl, sym, ap, ap₂, ◌∙◌, subst}
use mathlib.Core.Bool.{Bool, true, false, not, ◌&&◌, cond}
use mathlib.Core.List.{List, [], ◌∷◌, ◌++◌, map, append_cancel_left}
use mathlib.Core.Option.{none, some}
use lib.Dec.{eqb, leb}
use lib.ListN.{length, drop, length-append}
use borrow.Author.Tests.{eqb-true, eqb-false, eq-eqb, ne_eqb}
use Rattle.terms.specs.Lists.{update}
use Rattle.terms.proofs.Lists.{length_map}
use Rattle.terms.specs.Terms.{leaf, app, count, level_by}
use Rattle.formulas.specs.Formulas.{Goal, truth, and, or, implies, exists, forall, Clause, free_g, free_c}
use Rattle.formulas.specs.Members.{members}
use Rattle.formulas.specs.Rules.{assume}
use Rattle.formulas.proofs.Free.{or_left, or_right}
use Rattle.sequents.specs.Symbols.{Symbol, made, leftover, symbol_level, Ground, level}
use Rattle.sequents.specs.Sequents.{Environment, hypothesis, Program, Sequent, sequent, Dtrue, Dand, Dleft, Dright, Dassume, Line, plain}
use Rattle.sequents.specs.Sequents.{Dsome, Dall, Dclause, entry, entries_of}
use Rattle.sheet_format.specs.Bytes.{ascii, lf, is_letter, is_small, is_capital, folded}
use Rattle.sheet_format.specs.Nodes.{Declaration}
use Rattle.sheet_format.proofs.Formed.{FormedGoal}
use Rattle.sheet_format.specs.Limits.{variable_names}
use Rattle.node_table.specs.Layout.{members_of, kind_of, label_of, child_of, forall_kind, exists_kind, implies_kind, or_kind, and_kind, true_kind}
use Rattle.node_table.specs.Decoding.{goal_at, clause_at_node}
use Rattle.node_table.specs.WellMade.{IsGoal, GoalNode}
use Rattle.node_table.proofs.Decoding.{Nodes, nodes_of_lem, goal_true, goal_and, goal_or_lem, goal_implies, goal_exists, goal_forall}
use Rattle.answer_texts.specs.TextLines.{derivation_line}
use Rattle.answer_texts.specs.Spelling.{spell_functor, spell_symbol, spell_term, spell_arguments, spell_word, text_fields, line_fields, join}
use Rattle.answer_texts.specs.Spelled.{WritableTerm, WritableLine, sequents}
use Rattle.text_judging.specs.Judging.{infer, is_plain, same_word, word_number, infer_some, infer_all, infer_constant}
use Rattle.text_judging.proofs.Functors.{Starts, functor_starts}
use Rattle.text_judging.proofs.Reading.{line_bytes}
use Rattle.answer_texts.proofs.Declared.{marked}
use Rattle.scanning.specs.Fields as fields
use Rattle.scanning.proofs.Positions.{byte_is, within}
use Rattle.scanning.specs.Scanning.{Scan}
use Rattle.std.specs.Prelude.{Some, None}
use Rattle.scanning.specs.Scanning.{scan_symbol, scan_term}
use Rattle.scanning.specs.Frames.{bind_frame}
use Rattle.scanning.proofs.TermsInText.{SpelledAt, spelling_injective}
use Rattle.answer_texts.specs.Capitals.{small_from}
use Rattle.scanning.proofs.Folding.{byte_test}
use Rattle.scanning.proofs.InstanceSpelling.{Frame, frame_fewer}
use Rattle.scanning.proofs.Records.{Room, Kept, kept_self, puts_kept, bind_kept}
use Rattle.scanning.proofs.Frames.{frame_kept, frame_bind}
use Rattle.line_checking.specs.declared.Registers.{Registers}
use Rattle.line_checking.specs.Sequents.{Made, made as left, broken, with_sequent, put_sequent, next_sequent, put_hypothesis}
use Rattle.line_checking.specs.declared.Links.{Links}
use Rattle.line_checking.specs.HypothesisChains.{next_of, jump_of, passed_of, links_after, put_links}
use Rattle.line_checking.specs.Members.{start_after}
use Rattle.line_checking.specs.Bindings.{begins_with, is_line}
use Rattle.line_checking.specs.Rules.{with_child, true_line, and_line, or_line, assume_line, bind_goal, some_with, some_term, some_line}
use Rattle.line_checking.specs.Rules.{all_with, all_constant, all_line}
use Rattle.line_checking.proofs.Lines.{is_word, word_byte, bytes_some, bytes_all}
use Rattle.line_checking.proofs.Representation.{Setting, folds, declared, joined_all, Filled, names_of_lem, HypothesisAt, HypothesesAt}
use Rattle.line_checking.proofs.Representation.{JumpAt, ProgramAt, SequentAt, SequentsAt, Holds}
use Rattle.line_checking.proofs.HypothesisChains.{hypothesis_field_lem, linked, jump_made}
use Rattle.line_checking.proofs.Preservation.{program_on, hypotheses_keep, linked_keep, sequents_on}
use Rattle.line_checking.proofs.Starts.{many, start_is}
use Rattle.line_checking.proofs.Results.{Result, either_side}
use Rattle.line_checking.proofs.FoldedLines.{LineAt, is_exact, part_there, word_folded, word_missing, line_folded, line_missing}
use Rattle.line_checking.proofs.Terms.{scan_at, TermCase, is_term, no_term, term_case}
use Rattle.line_checking.proofs.Derivations.{proceed_holds, proceed_stage, proceed_made, proceed_leftover, inferred, wrong_line}
use Rattle.line_checking.proofs.Derivations.{right_line_lem}
use Rattle.memory.proofs.Records.{puts, puts_at}
use Rattle.memory.specs.Records.{field}

module _ (c : Setting) (filled : Filled c) (q : ℕ) (w : List ℕ) (room : Room q w) (r : Registers) (g : Sequent Symbol)
    (gs : List (Sequent Symbol))
    (at : SequentAt c q w r.node r.frame r.hypotheses r.level g) (others : SequentsAt c q w r.rest gs) (l rest : List ℕ)
    (i e : ℕ)
    (here : LineAt c.text i l rest) (end : e ≡ i + length l) where
  -- This is the table.
  abbrev t : List ℕ
  t = c.table

  -- This is the node of the goal.
  abbrev n : ℕ
  n = r.node

  -- The declared symbols are those of the table.
  abbrev ds : List Declaration
  ds = declared c

  -- This says that the line is right or wrong, with what it leaves.
  abbrev R : Made → Type 0
  R = Result c q l (sequents (g ∷ gs)) r

  -- The nodes of the table are as the reader makes them.
  table : Nodes t c.nodes
  table = nodes_of_lem t c.nodes c.clauses c.goal filled.well_made

  -- The node of the goal is as the reader makes it.
  node : GoalNode t n
  node = table.goal n at.node at.is

  -- A part of the goal makes a sequent after the line.
  part : (w' : List ℕ) (m f h i : ℕ) (d : Environment Symbol) (P : Program Symbol) (lv : ℕ) → m < n → IsGoal t m
      → FormedGoal (goal_at t m) ds → f < suc q
      → Frame ds (folds c) w' f d (free_g (goal_at t m)) → ProgramAt c (suc q) w' h P → lv ≡ i
      → SequentAt c (suc q) w' m f h i (sequent (goal_at t m) d P lv)
  part w' m f h i d P lv a b k o y p z =
      let u = at.node in
      record { node = omega arith; is = b; goal = refl; formed = k; older = o; frame = y; program = p; level = z }

  -- A part of the goal makes a sequent in the frame that there is.
  same_frame : (w' : List ℕ) → Kept q w w' → (m : ℕ) → ((v : ℕ) → free_g (goal_at t m) v ≡ true → free_g (goal_at t n) v ≡ true) → m < n
      → IsGoal t m → FormedGoal (goal_at t m) ds
      → SequentAt c (suc q) w' m r.frame r.hypotheses r.level (sequent (goal_at t m) g.environment g.program g.level)
  same_frame w' kept m f a b k =
      let o = at.older in
      part w' m r.frame r.hypotheses r.level g.environment g.program g.level a b k (omega arith)
      (frame_kept ds (folds c) q r.frame w w' g.environment (free_g (goal_at t m)) kept (λ z. omega arith)
      (frame_fewer ds (folds c) w r.frame g.environment (free_g (goal_at t n)) (free_g (goal_at t m)) f at.frame))
      (program_on c q w w' kept r.hypotheses g.program at.program) at.level

  -- "Y: nothing"
  pub true_result : kind_of t n ≡ true_kind → R (true_line c.text w r i e)
  unfolding true_line infer is_plain same_word word_number infer_some WritableLine text_fields line_fields spell_word join ascii is_word word_byte is_exact small_from is_letter is_small is_capital
  true_result k =
      either_side R (is_line (ascii "D\ttrue") c.text i e) (left w (next_sequent w r)) (broken w r)
      (λ b. right_line_lem c q l g gs truth goal r (left w (next_sequent w r)) (plain Dtrue) []
      (line_folded c.text i l rest here (ascii "D\ttrue") e refl refl end b) tt refl
      (proceed_holds c (suc q) w r gs (sequents_on c q w w (kept_self q w) r.rest gs others)) (proceed_stage w r) (proceed_made w r)
      (proceed_leftover w r))
      (λ b. wrong_line c q l g gs truth goal w r r (unfit b))
    where
      goal : g.goal ≡ truth
      goal = at.goal ∙ goal_true t c.nodes table n at.node k

      unfit : is_line (ascii "D\ttrue") c.text i e ≡ false → (d : Line Symbol) → l ≡ line_bytes ds (derivation_line d) → WritableLine ds d
          → inferred c q l g gs truth goal d ≡ none
      unfit b (plain Dtrue) p y = absurd (line_missing c.text i l rest here (ascii "D\ttrue") e refl refl end b p)
      unfit b (plain Dand) p y = refl
      unfit b (plain Dleft) p y = refl
      unfit b (plain Dright) p y = refl
      unfit b (plain Dassume) p y = refl
      unfit b (Dsome u) p y = refl
      unfit b (Dall u) p y = refl
      unfit b (Dclause j us) p y = refl

  -- "&: left, then right"
  pub and_result : kind_of t n ≡ and_kind → R (and_line t c.text w r q i e)
  unfolding and_line put_sequent puts with_sequent infer is_plain same_word word_number WritableLine text_fields line_fields spell_word join ascii
      is_word word_byte is_exact small_from is_letter is_small is_capital Holds SequentsAt FormedGoal free_g
  and_result k =
      either_side R (is_line (ascii "D\tand") c.text i e) _ (broken w r)
      (λ b. right_line_lem c q l g gs G goal r (left w' regs) (plain Dand) _
      (line_folded c.text i l rest here (ascii "D\tand") e refl refl end b) tt refl holds (λ z. cc) refl refl)
      (λ b. wrong_line c q l g gs G goal w r r (unfit b))
    where
      G : Goal
      G = and (goal_at t (child_of t n 0)) (goal_at t (child_of t n 1))

      tree : goal_at t n ≡ G
      tree = goal_and t c.nodes table n at.node at.is k

      goal : g.goal ≡ G
      goal = at.goal ∙ tree

      values : List ℕ
      values = child_of t n 1 ∷ r.frame ∷ r.hypotheses ∷ r.level ∷ r.rest ∷ []

      w' : List ℕ
      w' = puts values w q fields.sequent_node

      kept : Kept q w w'
      kept = puts_kept values w q fields.sequent_node (omega arith)

      regs : Registers
      regs = with_sequent r (child_of t n 0) r.frame r.hypotheses r.level (q + 1)

      formed : FormedGoal G ds
      formed = subst (λ (y : Goal). FormedGoal y ds) tree at.formed

      A : Goal
      A = goal_at t (child_of t n 0)

      B : Goal
      B = goal_at t (child_of t n 1)

      one : SequentAt c (suc q) w' (child_of t n 0) r.frame r.hypotheses r.level
          (sequent A g.environment g.program g.level)
      one =
          let m = node.and k in
          same_frame w' kept (child_of t n 0)
          (λ v f. subst (λ (y : Goal). free_g y v ≡ true) (sym tree) (or_left (free_g A v) (free_g B v) f)) m.0 m.1 formed.0

      two : SequentAt c (suc q) w' (child_of t n 1) r.frame r.hypotheses r.level
          (sequent B g.environment g.program g.level)
      two =
          let m = node.and k in
          same_frame w' kept (child_of t n 1)
          (λ v f. subst (λ (y : Goal). free_g y v ≡ true) (sym tree) (or_right (free_g A v) (free_g B v) f)) m.2 m.3 formed.1

      holds : Holds c (suc q) w' regs
          (sequents ((sequent A g.environment g.program g.level ∷ sequent B g.environment g.program g.level ∷ []) ++ gs))
      holds =
          let a : field w' q fields.sequent_node ≡ child_of t n 1 =
          puts_at values w q fields.sequent_node 0 (omega arith) (omega arith) (omega arith) in
          let b : field w' q fields.sequent_frame ≡ r.frame =
          puts_at values w q fields.sequent_node 1 (omega arith) (omega arith) (omega arith) in
          let h : field w' q fields.sequent_hypotheses ≡ r.hypotheses =
          puts_at values w q fields.sequent_node 2 (omega arith) (omega arith) (omega arith) in
          let y : field w' q fields.sequent_level ≡ r.level =
          puts_at values w q fields.sequent_node 3 (omega arith) (omega arith) (omega arith) in
          let z : field w' q fields.sequent_next ≡ r.rest =
          puts_at values w q fields.sequent_node 4 (omega arith) (omega arith) (omega arith) in (
            refl,
            one,
            (
              q,
              add-one q,
              omega arith,
              rw (a, b, h, y) two,
              subst (λ (p : ℕ). SequentsAt c (suc q) w' p gs) (sym z)
                  (sequents_on c q w w' kept r.rest gs others),
            ),
          )

      unfit : is_line (ascii "D\tand") c.text i e ≡ false → (d : Line Symbol) → l ≡ line_bytes ds (derivation_line d) → WritableLine ds d
          → inferred c q l g gs G goal d ≡ none
      unfit b (plain Dtrue) p y = refl
      unfit b (plain Dand) p y = absurd (line_missing c.text i l rest here (ascii "D\tand") e refl refl end b p)
      unfit b (plain Dleft) p y = refl
      unfit b (plain Dright) p y = refl
      unfit b (plain Dassume) p y = refl
      unfit b (Dsome u) p y = refl
      unfit b (Dall u) p y = refl
      unfit b (Dclause j us) p y = refl

  -- "| either side"
  pub or_result : kind_of t n ≡ or_kind → R (or_line t c.text w r i e)
  unfolding or_line with_child with_sequent infer is_plain same_word word_number WritableLine text_fields line_fields spell_word join ascii is_word
      word_byte is_exact small_from is_letter is_small is_capital Holds FormedGoal free_g
  or_result k =
      either_side R (is_line (ascii "D\tleft") c.text i e) (left w (with_child t r 0)) _
      (λ b. right_line_lem c q l g gs G goal r (left w (with_child t r 0)) (plain Dleft) _
      (line_folded c.text i l rest here (ascii "D\tleft") e refl refl end b) tt refl
      (refl, one, after) (λ z. cc) refl refl)
      (λ b. either_side R (is_line (ascii "D\tright") c.text i e) (left w (with_child t r 1)) (broken w r)
      (λ a. right_line_lem c q l g gs G goal r (left w (with_child t r 1)) (plain Dright) _
      (line_folded c.text i l rest here (ascii "D\tright") e refl refl end a) tt refl
      (refl, two, after) (λ z. cc) refl refl)
      (λ a. wrong_line c q l g gs G goal w r r (unfit b a)))
    where
      A : Goal
      A = goal_at t (child_of t n 0)

      B : Goal
      B = goal_at t (child_of t n 1)

      G : Goal
      G = or A B

      tree : goal_at t n ≡ G
      tree = goal_or_lem t c.nodes table n at.node at.is k

      goal : g.goal ≡ G
      goal = at.goal ∙ tree

      formed : FormedGoal G ds
      formed = subst (λ (y : Goal). FormedGoal y ds) tree at.formed

      one : SequentAt c (suc q) w (child_of t n 0) r.frame r.hypotheses r.level (sequent A g.environment g.program g.level)
      one =
          let m = node.or k in
          same_frame w (kept_self q w) (child_of t n 0)
          (λ v f. subst (λ (y : Goal). free_g y v ≡ true) (sym tree) (or_left (free_g A v) (free_g B v) f)) m.0 m.1 formed.0

      two : SequentAt c (suc q) w (child_of t n 1) r.frame r.hypotheses r.level (sequent B g.environment g.program g.level)
      two =
          let m = node.or k in
          same_frame w (kept_self q w) (child_of t n 1)
          (λ v f. subst (λ (y : Goal). free_g y v ≡ true) (sym tree) (or_right (free_g A v) (free_g B v) f)) m.2 m.3 formed.1

      after : SequentsAt c (suc q) w r.rest gs
      after = sequents_on c q w w (kept_self q w) r.rest gs others

      unfit : is_line (ascii "D\tleft") c.text i e ≡ false → is_line (ascii "D\tright") c.text i e ≡ false → (d : Line Symbol)
          → l ≡ line_bytes ds (derivation_line d) → WritableLine ds d
          → inferred c q l g gs G goal d ≡ none
      unfit b a (plain Dtrue) p y = refl
      unfit b a (plain Dand) p y = refl
      unfit b a (plain Dleft) p y = absurd (line_missing c.text i l rest here (ascii "D\tleft") e refl refl end b p)
      unfit b a (plain Dright) p y = absurd (line_missing c.text i l rest here (ascii "D\tright") e refl refl end a p)
      unfit b a (plain Dassume) p y = refl
      unfit b a (Dsome u) p y = refl
      unfit b a (Dall u) p y = refl
      unfit b a (Dclause j us) p y = refl

  -- ">: the clause is assumed"
  pub assume_result : kind_of t n ≡ implies_kind → R (assume_line t c.clauses c.text w r q i e)
  unfolding assume_line put_hypothesis put_links puts with_sequent infer is_plain same_word word_number WritableLine text_fields line_fields spell_word join
      ascii is_word word_byte is_exact small_from is_letter is_small is_capital Holds HypothesesAt joined_all FormedGoal free_g entries_of
  assume_result k =
      either_side R (is_line (ascii "D\tassume") c.text i e) _ (broken w r)
      (λ b. right_line_lem c q l g gs G goal r (left w' regs) (plain Dassume) _
      (line_folded c.text i l rest here (ascii "D\tassume") e refl refl end b) tt refl holds (λ z. cc) refl refl)
      (λ b. wrong_line c q l g gs G goal w r r (unfit b))
    where
      C : Clause
      C = clause_at_node t (child_of t n 0)

      B : Goal
      B = goal_at t (child_of t n 1)

      G : Goal
      G = implies C B

      tree : goal_at t n ≡ G
      tree = goal_implies t c.nodes table n at.node at.is k

      goal : g.goal ≡ G
      goal = at.goal ∙ tree

      links : Links
      links = links_after w r.hypotheses (members_of t (child_of t n 0))

      values : List ℕ
      values =
          child_of t n 0 ∷ r.frame ∷ r.hypotheses ∷ start_after t c.clauses w r.hypotheses ∷ links.depth ∷ links.jump
          ∷ links.passed ∷ []

      w' : List ℕ
      w' = puts values w q fields.hypothesis_node

      kept : Kept q w w'
      kept = puts_kept values w q fields.hypothesis_node (omega arith)

      regs : Registers
      regs = with_sequent r (child_of t n 1) r.frame (q + 1) r.level r.rest

      formed : FormedGoal G ds
      formed = subst (λ (y : Goal). FormedGoal y ds) tree at.formed

      -- The frame is kept in the new memory, for fewer names.
      frame : (p : ℕ → Bool) → ((v : ℕ) → p v ≡ true → free_g G v ≡ true) → Frame ds (folds c) w' r.frame g.environment p
      frame p f =
          let o = at.older in
          frame_kept ds (folds c) q r.frame w w' g.environment p kept (λ z. omega arith)
          (frame_fewer ds (folds c) w r.frame g.environment (free_g (goal_at t n)) p
          (λ v b. subst (λ (y : Goal). free_g y v ≡ true) (sym tree) (f v b)) at.frame)

      assumed : HypothesisAt c (suc q) w' q (hypothesis C g.environment)
      assumed =
          let m = node.implies k in
          let u = at.node in
          let o = at.older in
          let a : field w' q fields.hypothesis_node ≡ child_of t n 0 =
          puts_at values w q fields.hypothesis_node 0 (omega arith) (omega arith) (omega arith) in
          let b : field w' q fields.hypothesis_frame ≡ r.frame =
          puts_at values w q fields.hypothesis_node 1 (omega arith) (omega arith) (omega arith) in
          record {
            below = omega arith;
            node = rw a (omega (arith, m.0));
            is = rw a m.1;
            clause = ap (clause_at_node t) (sym a);
            formed = rw a formed.0;
            older = rw b (omega arith);
            frame = rw (a, b) (frame (free_c C) (λ v f. or_left (free_c C v) (free_g B v) f));
          }

      -- Its jump leads along the hypotheses that were made before.
      jump : JumpAt w' (suc q) (hypothesis C g.environment ∷ at.program.hypotheses)
      jump =
          let p = at.program in
          let m = node.implies k in
          let u = at.node in
          let a : jump_of w' (suc q) ≡ links.jump =
          hypothesis_field_lem w' q fields.hypothesis_jump ∙ puts_at values w q fields.hypothesis_node 5 (omega arith) (omega arith) (omega arith) in
          let b : passed_of w' (suc q) ≡ links.passed =
          hypothesis_field_lem w' q fields.hypothesis_passed ∙ puts_at values w q fields.hypothesis_node 6 (omega arith) (omega arith) (omega arith) in
          let z : next_of w' (suc q) ≡ r.hypotheses =
          hypothesis_field_lem w' q fields.hypothesis_next ∙ puts_at values w q fields.hypothesis_node 2 (omega arith) (omega arith) (omega arith) in
          let total = length-append (map (entry g.environment) (members C)) [] in
          let single = many c filled (hypothesis C g.environment) (child_of t n 0) (omega (arith, m.0)) m.1 refl in
          jump_made c w' q r.hypotheses (members_of t (child_of t n 0)) (hypothesis C g.environment) p.hypotheses links
          (linked_keep c q w w' kept q r.hypotheses (members_of t (child_of t n 0)) p.hypotheses links (omega arith) p.at
          (linked c w q r.hypotheses (members_of t (child_of t n 0)) p.hypotheses p.at)) z a b (omega arith)

      program : ProgramAt c (suc q) w' (q + 1) (assume (hypothesis C g.environment) g.program)
      program =
          let p = at.program in
          let z : field w' q fields.hypothesis_next ≡ r.hypotheses =
          puts_at values w q fields.hypothesis_node 2 (omega arith) (omega arith) (omega arith) in
          let s : field w' q fields.hypothesis_start ≡ start_after t c.clauses w r.hypotheses =
          puts_at values w q fields.hypothesis_node 3 (omega arith) (omega arith) (omega arith) in
          record {
            hypotheses = hypothesis C g.environment ∷ p.hypotheses;
            environment = p.environment;
            is = ap (assume (hypothesis C g.environment)) p.is;
            at = (
              q,
              add-one q,
              assumed,
              subst (λ (h : ℕ). HypothesesAt c q w' h p.hypotheses) (sym z)
                  (hypotheses_keep c q w w' kept q r.hypotheses p.hypotheses (omega arith) p.at),
              s ∙ start_is c filled w p.hypotheses q r.hypotheses p.at,
              subst (λ (y : ℕ). JumpAt w' y (hypothesis C g.environment ∷ p.hypotheses)) (sym (add-one q)) jump,
            );
          }

      holds : Holds c (suc q) w' regs
          (sequents ((sequent B g.environment (assume (hypothesis C g.environment) g.program) g.level ∷ []) ++ gs))
      holds =
          let m = node.implies k in
          let o = at.older in (
            refl,
            part w' (child_of t n 1) r.frame (q + 1) r.level g.environment (assume (hypothesis C g.environment) g.program)
                g.level m.2 m.3 formed.1 (omega arith)
                (frame (free_g B) (λ v f. or_right (free_c C v) (free_g B v) f)) program at.level,
            sequents_on c q w w' kept r.rest gs others,
          )

      unfit : is_line (ascii "D\tassume") c.text i e ≡ false → (d : Line Symbol) → l ≡ line_bytes ds (derivation_line d)
          → WritableLine ds d → inferred c q l g gs G goal d ≡ none
      unfit b (plain Dtrue) p y = refl
      unfit b (plain Dand) p y = refl
      unfit b (plain Dleft) p y = refl
      unfit b (plain Dright) p y = refl
      unfit b (plain Dassume) p y = absurd (line_missing c.text i l rest here (ascii "D\tassume") e refl refl end b p)
      unfit b (Dsome u) p y = refl
      unfit b (Dall u) p y = refl
      unfit b (Dclause j us) p y = refl

  -- The body of a quantified goal is due, its variable v standing for a term of the text.
  body : (B : Goal) (v : ℕ) → v ≡ label_of t n → B ≡ goal_at t (child_of t n 0) → v < variable_names → child_of t n 0 < n
      → IsGoal t (child_of t n 0) → FormedGoal B ds
      → ((z : ℕ) → free_g (goal_at t n) z ≡ (not (eqb v z) && free_g B z)) → (s j : ℕ) (u : Ground) → SpelledAt ds (folds c) s j u
      → (lv k : ℕ) → lv ≡ k
      → Holds c (suc q) (bind_goal t w r q s j k).memory (bind_goal t w r q s j k).registers
      (sequents ((sequent B (update g.environment v u) g.program lv ∷ []) ++ gs))
  unfolding bind_goal with_sequent Holds
  body B v a b small m is formed free s j u p lv k h =
      rw (b) (
        refl,
        part w' (child_of t n 0) q r.hypotheses k (update g.environment v u) g.program lv m is
            (subst (λ (y : Goal). FormedGoal y ds) b formed) (omega arith)
            frame (program_on c q w w' kept r.hypotheses g.program at.program) h,
        sequents_on c q w w' kept r.rest gs others,
      )
    where
      w' : List ℕ
      w' = bind_frame w q r.frame (label_of t n) s j

      kept : Kept q w w'
      kept = bind_kept w q r.frame (label_of t n) s j (subst (λ (y : ℕ). y < 8) a small)

      still : (z : ℕ) → (z ≡ v → ⊥) → free_g (goal_at t (child_of t n 0)) z ≡ true → free_g (goal_at t n) z ≡ true
      still z d f =
          let o = ne_eqb v z (λ y. d (sym y)) in
          free z ∙ ap₂ (λ (x y : Bool). not x && y) o (ap (λ (y : Goal). free_g y z) b ∙ f)

      frame : Frame ds (folds c) w' q (update g.environment v u) (free_g (goal_at t (child_of t n 0)))
      frame =
          let o = at.older in
          subst (λ (y : ℕ). Frame ds (folds c) (bind_frame w q r.frame y s j) q (update g.environment v u)
          (free_g (goal_at t (child_of t n 0)))) a
          (frame_bind ds (folds c) q r.frame v s j u w g.environment (free_g (goal_at t n)) (free_g (goal_at t (child_of t n 0))) room
          (λ z. omega arith) small p still at.frame)

  -- "E given any term whose symbols have level at most I"
  pub some_result : kind_of t n ≡ exists_kind → R (some_line c.bytes t c.symbols c.text w r q i e)
  unfolding some_line some_term some_with infer infer_some WritableLine ascii is_word word_byte is_exact small_from is_letter is_small is_capital FormedGoal free_g bind_goal with_sequent
  some_result k =
      either_side R (begins_with word c.text i) (some_term c.bytes t c.symbols c.text w r q (i + 7) e) (broken w r)
      (λ b. let s = word_folded c.text i l rest here word refl (λ m. refl) b in term s.0 s.1 s.2)
      (λ b. wrong_line c q l g gs G goal w r r
      (only (λ u p y. absurd (word_missing c.text i l rest here word (spell_term u ds) refl refl b p))))
    where
      word : List ℕ
      word = ascii "D\tsome\t"

      B : Goal
      B = goal_at t (child_of t n 0)

      v : ℕ
      v = label_of t n

      G : Goal
      G = exists v B

      tree : goal_at t n ≡ G
      tree = goal_exists t c.nodes table n at.node at.is k

      goal : g.goal ≡ G
      goal = at.goal ∙ tree

      formed : FormedGoal G ds
      formed = subst (λ (y : Goal). FormedGoal y ds) tree at.formed

      -- Only a line with a witness can be right.
      only : ((u : Ground) → l ≡ word ++ spell_term u ds → WritableTerm u ds → inferred c q l g gs G goal (Dsome u) ≡ none)
          → (d : Line Symbol) → l ≡ line_bytes ds (derivation_line d) → WritableLine ds d → inferred c q l g gs G goal d ≡ none
      only h (plain x) p y = refl
      only h (Dsome u) p y = h u (p ∙ bytes_some ds u) y
      only h (Dall u) p y = refl
      only h (Dclause j us) p y = refl

      term : (m : List ℕ) → l ≡ word ++ m → drop (i + 7) (folds c) ≡ m ++ (lf ∷ rest)
          → R (some_term c.bytes t c.symbols c.text w r q (i + 7) e)
      term m p y =
          go (term_case c filled (i + 7) e m rest y (let z = ap length p ∙ length-append word m in let o = end in omega arith))
        where
          rests : (u : Ground) → l ≡ word ++ spell_term u ds → m ≡ spell_term u ds
          rests u o = append_cancel_left word m (spell_term u ds) (sym p ∙ o)

          scan : (z : Scan) → ((j k : ℕ) → z ≡ Some (j, k) → eqb j e ≡ false) → R (broken w r)
              → R (elim z as (λ b. Made) [ Some (j, k) ↦ some_with t w r q (i + 7) j k e | None ↦ broken w r ])
          scan None h b = b
          scan (Some (j, k)) h b = rw (h j k refl) b

          high : (u x : Ground) → u ≡ x → leb (level u) r.level ≡ false → inferred c q l g gs G goal (Dsome x) ≡ none
          high u x a b =
              ap (λ (z : Bool). cond z (some (sequent B (update g.environment v x) g.program g.level ∷ [])) none)
              (ap₂ (λ (z : Ground) (o : ℕ). leb (level z) o) (sym a) at.level ∙ b)

          go : TermCase c (i + 7) e m → R (some_term c.bytes t c.symbols c.text w r q (i + 7) e)
          go (no_term a h) = scan (scan_at c (i + 7)) h (wrong_line c q l g gs G goal w r r (only (λ u o z. absurd (a u (rests u o) z))))
          go (is_term u o h s) =
              rw (some_term, h) (rw (eq-eqb e e refl)
              (either_side R (leb (level u) r.level) _ (broken w r)
              (λ b. right_line_lem c q l g gs G goal r (bind_goal t w r q (i + 7) e r.level) (Dsome u)
              (sequent B (update g.environment v u) g.program g.level ∷ [])
              (p ∙ ap (word ++◌) o ∙ sym (bytes_some ds u)) s.writable
              (ap (λ (z : Bool). cond z (some (sequent B (update g.environment v u) g.program g.level ∷ [])) none)
              (ap (leb (level u)) at.level ∙ b))
              (let a = node.exists k in body B v refl refl a.0 a.1 a.2 formed.1 (λ z. ap (λ (y : Goal). free_g y z) tree)
              (i + 7) e u s g.level r.level at.level)
              (λ z. cc) refl refl)
              (λ b. wrong_line c q l g gs G goal w r r
              (only (λ x z y. high u x (spelling_injective u x ds (names_of_lem c filled) s.writable y (sym o ∙ rests x z)) b)))))

  -- "U any made constant of level I + 1"
  pub all_result : kind_of t n ≡ forall_kind → R (all_line t c.text w r q i e)
  unfolding all_line all_constant all_with infer infer_all infer_constant WritableLine WritableTerm ascii is_word word_byte is_exact small_from folded is_letter is_small is_capital FormedGoal free_g
      bind_goal with_sequent spell_term spell_symbol level symbol_level level_by scan_term
  all_result k =
      either_side R (begins_with word c.text i) (all_constant t c.text w r q (i + 6) e) (broken w r)
      (λ b. let s = word_folded c.text i l rest here word refl (λ m. refl) b in
      constant s.0 s.1 (part_there c.text i l rest here (ascii "D\tall\t") (33 ∷ s.0) refl (λ m. refl) s.1))
      (λ b. wrong_line c q l g gs G goal w r r (only (λ a j p y. absurd (word_missing c.text i l rest here word (marked a j) refl refl b p))))
    where
      word : List ℕ
      word = ascii "D\tall\t!"

      B : Goal
      B = goal_at t (child_of t n 0)

      v : ℕ
      v = label_of t n

      G : Goal
      G = forall v B

      tree : goal_at t n ≡ G
      tree = goal_forall t c.nodes table n at.node at.is k

      goal : g.goal ≡ G
      goal = at.goal ∙ tree

      formed : FormedGoal G ds
      formed = subst (λ (y : Goal). FormedGoal y ds) tree at.formed

      -- Only a line with a made constant can be right.
      only : ((a j : ℕ) → l ≡ ascii "D\tall\t" ++ spell_term (leaf (made a j)) ds → WritableTerm (leaf (made a j)) ds
          → inferred c q l g gs G goal (Dall (leaf (made a j))) ≡ none)
          → (d : Line Symbol) → l ≡ line_bytes ds (derivation_line d) → WritableLine ds d → inferred c q l g gs G goal d ≡ none
      only h (plain x) p y = refl
      only h (Dsome u) p y = refl
      only h (Dall (leaf (made a j))) p y = h a j (p ∙ bytes_all ds (leaf (made a j))) y
      only h (Dall (leaf (leftover a j))) p y = refl
      only h (Dall (app f us)) p y = refl
      only h (Dclause j us) p y = refl

      constant : (m : List ℕ) → l ≡ ascii "D\tall\t" ++ (33 ∷ m) → drop (i + 6) (folds c) ≡ (33 ∷ m) ++ (lf ∷ rest)
          → R (all_constant t c.text w r q (i + 6) e)
      constant m p y = go (term_case c filled (i + 6) e (33 ∷ m) rest y (let z = ap length p in let o = end in omega arith))
        where
          rests : (u : Ground) → l ≡ ascii "D\tall\t" ++ spell_term u ds → 33 ∷ m ≡ spell_term u ds
          rests u o = append_cancel_left (ascii "D\tall\t") (33 ∷ m) (spell_term u ds) (sym p ∙ o)

          scan : (z : Scan) → ((j k : ℕ) → z ≡ Some (j, k) → eqb j e ≡ false) → R (broken w r)
              → R (elim z as (λ b. Made) [ Some (j, k) ↦ all_with t w r q (i + 6) j k e | None ↦ broken w r ])
          scan None h b = b
          scan (Some (j, k)) h b = rw (h j k refl) b

          -- After its first byte the term is scanned as a symbol.
          symbol : scan_at c (i + 6) ≡ scan_symbol c.text (i + 6 + 1)
          symbol = first (length c.text) refl
            where
              first : (f : ℕ) → length c.text ≡ f
                  → scan_term f c.bytes t c.symbols c.text (i + 6) ≡ scan_symbol c.text (i + 6 + 1)
              first zero z = let o = within (folds c) (i + 6) 33 (m ++ (lf ∷ rest)) y in let f = length_map folded c.text in absurd (omega arith)
              first (suc f) z =
                  rw (
                    scan_term,
                    sym (byte_test c.text 33 (i + 6) refl)
                        ∙ ap (λ (b : ℕ). eqb b 33) (byte_is (folds c) (i + 6) 33 (m ++ (lf ∷ rest)) y),
                  )

          uneven : (a j b : ℕ) → eqb b (r.level + 1) ≡ false → j ≡ b → inferred c q l g gs G goal (Dall (leaf (made a j))) ≡ none
          uneven a j b h z =
              let o : suc g.level ≡ r.level + 1 = (let x = at.level in omega arith) in
              ap (λ (x : Bool). cond x (some (sequent B (update g.environment v (leaf (made a j))) g.program (suc g.level) ∷ []))
              none) (ap₂ eqb z o ∙ h)

          -- A term that begins with `!` is a made constant, and its level decides whether the line is right.
          fits : (u : Ground) → 33 ∷ m ≡ spell_term u ds → SpelledAt ds (folds c) (i + 6) e u
              → R (cond (eqb (level u) (r.level + 1)) (bind_goal t w r q (i + 6) e (level u)) (broken w r))
          fits (leaf (made a j)) o s =
              either_side R (eqb j (r.level + 1)) (bind_goal t w r q (i + 6) e j) (broken w r)
              (λ b. let z : suc g.level ≡ j = (let x = at.level in let d = eqb-true j (r.level + 1) b in omega arith) in
              right_line_lem c q l g gs G goal r (bind_goal t w r q (i + 6) e j) (Dall (leaf (made a j)))
              (sequent B (update g.environment v (leaf (made a j))) g.program (suc g.level) ∷ [])
              (p ∙ ap (ascii "D\tall\t" ++◌) o ∙ sym (bytes_all ds (leaf (made a j)))) s.writable
              (ap (λ (x : Bool). cond x
              (some (sequent B (update g.environment v (leaf (made a j))) g.program (suc g.level) ∷ [])) none)
              (eq-eqb j (suc g.level) (sym z)))
              (let x = node.forall k in body B v refl refl x.0 x.1 x.2 formed.1 (λ y. ap (λ (d : Goal). free_g d y) tree)
              (i + 6) e (leaf (made a j)) s (suc g.level) j z)
              (λ x. cc) refl refl)
              (λ b. wrong_line c q l g gs G goal w r r
              (only (λ d x z y. uneven d x j b
              (same d x (spelling_injective (leaf (made a j)) (leaf (made d x)) ds (names_of_lem c filled) s.writable y (sym o
              ∙ rests (leaf (made d x)) z))))))
            where
              same : (d x : ℕ) → leaf (made a j) ≡ leaf (made d x) → x ≡ j
              same d x z = ap level (sym z)
          fits (leaf (leftover a j)) o s = absurd (let z : ◌≡◌ {A = ℕ} 33 95 = cc in omega arith)
          fits (app f us) o s =
              absurd (other (spell_functor ds f) (spell_arguments us ds) o
              (functor_starts ds f (count us) (names_of_lem c filled) s.writable.0))
            where
              other : (a b : List ℕ) → 33 ∷ m ≡ a ++ b → Starts a → ⊥
              other [] b z x = x
              other (d ∷ a) b z x = let h = eqb-false d 33 x.0 in let o : 33 ≡ d = cc in h (sym o)

          go : TermCase c (i + 6) e (33 ∷ m) → R (all_constant t c.text w r q (i + 6) e)
          go (no_term a h) =
              scan (scan_symbol c.text (i + 6 + 1)) (λ j d z. h j d (symbol ∙ z))
              (wrong_line c q l g gs G goal w r r (only (λ d j o z. absurd (a (leaf (made d j)) (rests (leaf (made d j)) o) z))))
          go (is_term u o h s) = rw (all_constant, sym symbol ∙ h) (rw (eq-eqb e e refl) (fits u o s))
