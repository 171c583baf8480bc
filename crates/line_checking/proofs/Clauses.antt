-- D lines for atoms.
use Prim.Native.Nat.{ℕ, suc, ◌+◌, ◌-◌, ◌≤◌}
use native.Mathlib.Omega.{arith}
use mathlib.Core.Path.{◌≡◌, refl, sym, ap, ◌∙◌, subst}
use mathlib.Core.Bool.{Bool, true, false, not, ◌&&◌, ◌||◌, cond}
use mathlib.Core.List.{List, ◌∷◌, ◌++◌, append_assoc, append_cancel_left}
use mathlib.Core.Option.{Option, none, some, map}
use mathlib.Core.Logic.{◌⊎◌, inl, inr}
use lib.Dec.{eqb}
use lib.ListN.{length, drop, length-append}
use borrow.Author.Tests.{eqb-true, eqb-false, eq-eqb}
use Rattle.terms.specs.Lists.{All, elem}
use Rattle.terms.specs.Terms.{Terms, substitutes}
use Rattle.formulas.specs.Formulas.{Goal, atom, Clause, free_ts, free_g, free_c, free_b}
use Rattle.formulas.specs.Members.{members, stands_free}
use Rattle.formulas.proofs.Free.{or_left, or_right, and_parts, Within, members_within}
use Rattle.sequents.specs.Symbols.{Symbol, Ground}
use Rattle.sequents.specs.Sequents.{Environment, Entry, entry, entries, Sequent, assign, body_sequent, Line, plain, Dsome, Dall, Dclause}
use Rattle.sheet_format.specs.Limits.{max_number}
use Rattle.sheet_format.specs.Bytes.{ascii, decimal, lf, is_letter, is_small, is_capital, folded_name}
use Rattle.sheet_format.specs.Nodes.{Declaration}
use Rattle.sheet_format.proofs.Names.{Names}
use Rattle.sheet_format.proofs.Indexing.{at_all}
use Rattle.sheet_format.proofs.Formed.{FormedGoal, FormedClause, FormedTerms}
use Rattle.node_table.specs.Layout.{kind_of, label_of, child_of, implies_kind, atom_kind}
use Rattle.node_table.specs.Decoding.{goal_at, clause_at_node, arguments_at}
use Rattle.node_table.proofs.Decoding.{Nodes, nodes_of_lem, goal_atom, clause_fact, clause_rule}
use Rattle.answer_texts.specs.TextLines.{derivation_line}
use Rattle.answer_texts.specs.Spelled.{WritableTerm, WritableLine, sequents}
use Rattle.text_judging.specs.Judging.{same_terms, all_low, infer_entry, entry_at, infer_clause, infer}
use Rattle.text_judging.proofs.Reading.{line_bytes}
use Rattle.text_judging.proofs.Spans.{stops_digit}
use Rattle.answer_texts.proofs.FirstShowings.{and_both}
use Rattle.scanning.specs.Ranges.{Number}
use Rattle.std.proofs.lemmas.Option.{some_pair_parts}
use Rattle.std.specs.Prelude.{Some, None}
use Rattle.scanning.specs.Scanning.{Scan}
use Rattle.scanning.specs.Ranges.{scan_number}
use Rattle.scanning.specs.Frames.{copy_ranges}
use Rattle.scanning.proofs.InstanceSpelling.{Frame, frame_fewer}
use Rattle.scanning.proofs.Instances.{AtomIn}
use Rattle.scanning.proofs.BriefComparisons.{same_atoms_lem}
use Rattle.scanning.proofs.Ranges.{read_decimal}
use Rattle.scanning.proofs.Records.{Room, Kept, kept_then, kept_room, copy_kept}
use Rattle.scanning.proofs.Frames.{frame_kept, frame_copy}
use Rattle.answer_texts.specs.Capitals.{small_from}
use Rattle.scanning.proofs.Folding.{folded_both, number_folded, atoms_folded}
use Rattle.line_checking.specs.declared.Registers.{Registers}
use Rattle.std.specs.Prelude.{Some, None}
use Rattle.line_checking.specs.Sequents.{Made, made, broken, with_sequent, broken_stage}
use Rattle.line_checking.specs.Members.{Place, place_from}
use Rattle.line_checking.specs.Bindings.{begins_with}
use Rattle.line_checking.specs.Clauses.{Read, prefix_from, with_body, use_member, use_terms, use_found, use_place, use_place_at, clause_fields}
use Rattle.line_checking.specs.Clauses.{clause_line}
use Rattle.line_checking.proofs.Lines.{tabbed, tabbed_stops, bytes_clause, is_word, word_byte}
use Rattle.line_checking.proofs.Representation.{Setting, folds, declared, Filled, names_of_lem, SequentAt, SequentsAt, Holds}
use Rattle.line_checking.proofs.Preservation.{program_on, sequents_on}
use Rattle.line_checking.proofs.Results.{Result, either_side, number_there}
use Rattle.line_checking.proofs.FoldedLines.{LineAt, is_exact, part_there, word_folded, word_missing}
use Rattle.line_checking.proofs.Derivations.{proceed_holds, proceed_stage, proceed_made, proceed_leftover, inferred, wrong_line}
use Rattle.line_checking.proofs.Derivations.{right_line_lem}
use Rattle.line_checking.proofs.Programs.{EntryIs, PlaceIs, place_is}
use Rattle.line_checking.proofs.PrefixTerms.{prefix_kept, Fits, PrefixCase, all_read, not_read, prefix_case, tabbed_injective}
use Rattle.clause_members.specs.declared.Found.{Found}
use Rattle.clause_members.specs.Members.{member, head_of}
use Rattle.clause_members.proofs.Members.{body_of, member_of, LeafNode, FoundAt, leaf_head, member_found}
use Rattle.clause_members.proofs.Prefixes.{names_of}
use Rattle.terms.proofs.Tests.{refuted}

module _ (c : Setting) (filled : Filled c) (q : ℕ) (w : List ℕ) (room : Room q w) (r : Registers) (g : Sequent Symbol)
    (gs : List (Sequent Symbol))
    (at : SequentAt c q w r.node r.frame r.hypotheses r.level g) (others : SequentsAt c q w r.rest gs) (l rest : List ℕ)
    (i e : ℕ)
    (here : LineAt c.text i l rest) (end : e ≡ i + length l) (kind : kind_of c.table r.node ≡ atom_kind) where
  -- This is the table.
  abbrev t : List ℕ
  t = c.table

  -- This is the node of the goal.
  abbrev n : ℕ
  n = r.node

  -- The declared symbols are those of the table.
  abbrev ds : List Declaration
  ds = declared c

  -- The symbols of a clause are declared.
  abbrev Sound : Clause → Type 0
  Sound d = FormedClause d ds

  -- This says that the line is right or wrong, with what it leaves.
  abbrev R : Made → Type 0
  R = Result c q l (sequents (g ∷ gs)) r

  -- The declared symbols have proper names.
  names : Names ds
  names = names_of_lem c filled

  -- The nodes of the table are as the reader makes them.
  table : Nodes t c.nodes
  table = nodes_of_lem t c.nodes c.clauses c.goal filled.well_made

  -- The goal is an atom.
  abbrev G : Goal
  G = atom (label_of t n) (arguments_at t n)

  -- The goal in the table is the atom.
  tree : goal_at t n ≡ G
  tree = goal_atom t c.nodes table n at.node kind

  -- The goal of the sequent is the atom.
  goal : g.goal ≡ G
  goal = at.goal ∙ tree

  -- These are the arguments of the atom in the environment of the sequent.
  abbrev us : Terms Symbol
  us = substitutes (arguments_at t n) g.environment

  -- What a line with the place k and the terms ts infers.
  abbrev Uses : Option (Entry Symbol) → List Ground → Option (List (Sequent Symbol))
  Uses o ts = infer_entry o ts (label_of t n) us g.program g.level

  -- Only a line that uses a member can be right.
  only : (w' : List ℕ) → ((k : ℕ) (ts : List Ground) → l ≡ ascii "D\tclause\t" ++ (decimal k ++ tabbed ts ds) → k ≤ max_number
      → All (λ u. WritableTerm u ds) ts → Uses (entry_at k (entries g.program)) ts ≡ none)
      → R (broken w' r)
  unfolding infer infer_clause WritableLine
  only w' h = wrong_line c q l g gs G goal w' r r unfit
    where
      unfit : (d : Line Symbol) → l ≡ line_bytes ds (derivation_line d) → WritableLine ds d → inferred c q l g gs G goal d ≡ none
      unfit (plain x) p y = refl
      unfit (Dsome u) p y = refl
      unfit (Dall u) p y = refl
      unfit (Dclause k ts) p y = h k ts (p ∙ bytes_clause ds k ts) y.0 y.1

  -- The place in a line that uses a member is read.
  reading : (a : ℕ) (ts : List Ground) → l ≡ ascii "D\tclause\t" ++ (decimal a ++ tabbed ts ds) → a ≤ max_number
      → scan_number c.text (i + 9) ≡ Some (a, i + 9 + length (decimal a))
  unfolding ascii is_exact small_from is_letter is_small is_capital
  reading a ts p y =
      let d : drop (i + 9) (folds c) ≡ decimal a ++ (tabbed ts ds ++ (lf ∷ rest)) =
      part_there c.text i l rest here (ascii "D\tclause\t") (decimal a ++ tabbed ts ds) refl (λ m. refl) p
      ∙ append_assoc (decimal a) (tabbed ts ds) (lf ∷ rest) in
      sym (number_folded c.text (i + 9)) ∙ read_decimal (folds c) (i + 9) a (tabbed ts ds ++ (lf ∷ rest)) d y
      (stops_digit (tabbed ts ds ++ (lf ∷ rest)) (tabbed_stops ts ds rest))

  -- The place k is read and ends at j; m is the rest of the line.
  module _ (k j : ℕ) (m : List ℕ) (read_is : scan_number c.text (i + 9) ≡ Some (k, j))
      (spelled : l ≡ ascii "D\tclause\t" ++ (decimal k ++ m)) (small : k ≤ max_number)
      (after : drop j (folds c) ≡ m ++ (lf ∷ rest)) (ends : e ≡ j + length m) where
    -- With the place k read, only the terms decide whether the line is right.
    only_terms : (w' : List ℕ) → ((ts : List Ground) → m ≡ tabbed ts ds → All (λ u. WritableTerm u ds) ts
        → Uses (entry_at k (entries g.program)) ts ≡ none) → R (broken w' r)
    only_terms w' h = only w' (λ a ts p y z. fit a ts p y z)
      where
        fit : (a : ℕ) (ts : List Ground) → l ≡ ascii "D\tclause\t" ++ (decimal a ++ tabbed ts ds) → a ≤ max_number
            → All (λ u. WritableTerm u ds) ts → Uses (entry_at a (entries g.program)) ts ≡ none
        fit a ts p y z =
            let b = sym (some_pair_parts k a j (i + 9 + length (decimal a)) (sym read_is ∙ reading a ts p y)).0 in
            let d = append_cancel_left (ascii "D\tclause\t") (decimal k ++ m) (decimal a ++ tabbed ts ds) (sym spelled ∙ p) in
            ap (λ (v : ℕ). Uses (entry_at v (entries g.program)) ts) b
            ∙ h ts (append_cancel_left (decimal k) m (tabbed ts ds) (d ∙ ap (λ (v : ℕ). decimal v ++ tabbed ts ds) b)) z

    module _ (x : Entry Symbol) (is : entry_at k (entries g.program) ≡ some x) where
      -- The test of a line with the terms ts.
      abbrev Test : List Ground → Bool
      Test ts =
          eqb (length ts) (length x.member.prefix) && all_low g.level ts && eqb (label_of t n) x.member.predicate
          && same_terms us (substitutes x.member.arguments (assign x.member.prefix ts x.environment))

      uses_none : (ts : List Ground) → Test ts ≡ false → Uses (entry_at k (entries g.program)) ts ≡ none
      unfolding infer_entry
      uses_none ts h = ap (λ (o : Option (Entry Symbol)). Uses o ts) is ∙ rw h

    -- An entry was found: it is member o of the clause at node h, in frame f.
    module _ (h f o : ℕ) (E : EntryIs c q w g.program.clauses (k - 1) h f o) (nonzero : eqb k 0 ≡ false) where
      -- This is the member that was found.
      abbrev F : Found
      F = member t h o

      -- These are the names of the member's prefix.
      abbrev vs : List ℕ
      vs = names_of F.count F.names

      -- What was found is the member with the number o of the clause at node h.
      found : FoundAt t c.nodes Sound h o F
      unfolding FormedClause
      found =
          member_found t c.nodes table Sound (λ x y z. z) (λ v x z. z.1) h o filled.well_made.few_nodes E.node E.is
          E.formed E.inside

      -- The node of the member is an atom or an implication.
      leaf : LeafNode t c.nodes Sound F.leaf
      leaf = found.leaf

      -- This is the entry with the member that was found.
      abbrev x : Entry Symbol
      x = entry E.environment (member_of t F)

      -- The entry stands at place k.
      is_entry : entry_at k (entries g.program) ≡ some x
      unfolding entry_at
      is_entry =
          let d = eqb-false k 0 nonzero in
          let y : k ≡ suc (k - 1) = omega arith in
          ap (λ (v : ℕ). entry_at v (entries g.program)) y ∙ E.entry_is ∙ ap (map (entry E.environment)) found.is

      -- This is the memory after the clause's frame was copied.
      abbrev w₁ : List ℕ
      w₁ = copy_ranges 16 w q f 0

      -- This reads the terms of the prefix into the copied frame.
      abbrev read_all : Read
      read_all = prefix_from F.count c.bytes t c.symbols c.text w₁ q F.names j r.level e

      -- This is the memory after the terms were read.
      abbrev w₂ : List ℕ
      w₂ = read_all.memory

      -- Only record q is written.
      kept : Kept q w w₂
      kept =
          kept_then q w w₁ w₂ (copy_kept 16 w q f 0 (omega arith))
          (prefix_kept F.count c.bytes t c.symbols c.text w₁ q F.names j r.level e)

      -- Names that stand free in the member without its prefix, and are not in the prefix, stand free in the clause.
      within_clause : (z : ℕ) → (free_ts (arguments_at t (head_of t F.leaf)) z || free_b (body_of t F.leaf) z) ≡ true → elem z vs ≡ false
          → free_c (clause_at_node t h) z ≡ true
      unfolding stands_free
      within_clause z a b =
          at_all (Within (clause_at_node t h)) (members (clause_at_node t h)) o (member_of t F) (members_within (clause_at_node t h)) found.is z
          (and_both (not (elem z vs)) (free_ts (arguments_at t (head_of t F.leaf)) z || free_b (body_of t F.leaf) z) (ap not b) a)

      -- The head of the member is an atom in frame q.
      head_in : (ts : List Ground) → Frame ds (folds c) w₂ q (assign vs ts E.environment) (free_ts (arguments_at t (head_of t F.leaf)))
          → AtomIn (folded_name c.bytes) t c.symbols names (folds c) (folded_both c.bytes c.text) c.nodes table filled.well_made.few_nodes w₂ (head_of t F.leaf) q
          (assign vs ts E.environment)
      unfolding head_of FormedClause
      head_in ts frame =
          let h = leaf_head t c.nodes table Sound F.leaf leaf in
          record { below = h.0; arguments = h.1; formed = go leaf.kind; frame = frame }
        where
          go : (kind_of t F.leaf ≡ atom_kind) ⊎ (kind_of t F.leaf ≡ implies_kind) → FormedTerms (arguments_at t (head_of t F.leaf)) ds
          go (inl y) = rw y (subst Sound (clause_fact t c.nodes table F.leaf leaf.below y) leaf.formed).1
          go (inr y) = rw y (subst Sound (clause_rule t c.nodes table F.leaf leaf.below leaf.is y) leaf.formed).1.1

      -- The goal is an atom in the frame of the sequent.
      atom_in : AtomIn (folded_name c.bytes) t c.symbols names (folds c) (folded_both c.bytes c.text) c.nodes table filled.well_made.few_nodes w₂ n r.frame
          g.environment
      unfolding FormedGoal free_g
      atom_in =
          let u = at.older in
          record {
            below = at.node;
            arguments = (table.goal n at.node at.is).atom kind;
            formed = (subst (λ (d : Goal). FormedGoal d ds) tree at.formed).1;
            frame =
                frame_kept ds (folds c) q r.frame w w₂ g.environment (free_ts (arguments_at t n)) kept (λ z. omega arith)
                (frame_fewer ds (folds c) w r.frame g.environment (free_g (goal_at t n)) (free_ts (arguments_at t n))
                (λ v a. subst (λ (d : Goal). free_g d v ≡ true) (sym tree) a) at.frame);
          }

      -- The copied frame is the one that the member's clause had.
      frame_first : Frame ds (folds c) w₁ q E.environment (free_c (clause_at_node t h))
      frame_first =
          let u = E.older in frame_copy ds (folds c) q f w E.environment (free_c (clause_at_node t h)) room (λ z. omega arith) E.frame

      -- Frames of the terms ts, from that one.
      abbrev Frames : List Ground → Type 0
      Frames ts =
          (d : Environment Symbol) (p p' : ℕ → Bool) → ((z : ℕ) → p' z ≡ true → elem z vs ≡ false → p z ≡ true)
          → Frame ds (folds c) w₁ q d p
          → Frame ds (folds c) w₂ q (assign vs ts d) p'

      -- After the line the body is due, or the next sequent.
      body_holds : (ts : List Ground) → Frames ts
          → Holds c (suc q) w₂ (with_body t w₂ r q F.leaf)
          (sequents (body_sequent (body_of t F.leaf) (assign vs ts E.environment) g.program g.level ++ gs))
      unfolding with_body body_of body_sequent Holds with_sequent FormedClause free_b
      body_holds ts frames = go leaf.kind
        where
          after_line_lem : SequentsAt c (suc q) w₂ r.rest gs
          after_line_lem = sequents_on c q w w₂ kept r.rest gs others

          go : (kind_of t F.leaf ≡ atom_kind) ⊎ (kind_of t F.leaf ≡ implies_kind)
              → Holds c (suc q) w₂ (with_body t w₂ r q F.leaf)
              (sequents (body_sequent (body_of t F.leaf) (assign vs ts E.environment) g.program g.level ++ gs))
          go (inl y) = rw y (proceed_holds c (suc q) w₂ r gs after_line_lem)
          go (inr y) =
              let d = (table.clause F.leaf leaf.below leaf.is).implies y in
              let u = leaf.below in
              rw y (
                refl,
                record {
                  node = omega (arith, d.0);
                  is = d.1;
                  goal = refl;
                  formed = (subst Sound (clause_rule t c.nodes table F.leaf leaf.below leaf.is y) leaf.formed).0;
                  older = omega arith;
                  frame =
                      frames E.environment (free_c (clause_at_node t h)) (free_g (goal_at t (child_of t F.leaf 0)))
                      (λ z a b. within_clause z (body_free z a) b) frame_first;
                  program = program_on c q w w₂ kept r.hypotheses g.program at.program;
                  level = at.level;
                },
                after_line_lem,
              )
            where
              body_free : (z : ℕ) → free_g (goal_at t (child_of t F.leaf 0)) z ≡ true
                  → (free_ts (arguments_at t (head_of t F.leaf)) z || free_b (body_of t F.leaf) z) ≡ true
              body_free z a = or_right (free_ts (arguments_at t (head_of t F.leaf)) z) (free_b (body_of t F.leaf) z) (rw y a)

      -- The stage after the line is not the broken stage.
      body_stage : (with_body t w₂ r q F.leaf).stage ≡ broken_stage → ⊥
      unfolding with_body with_sequent
      body_stage =
          either_side (λ (s : Registers). s.stage ≡ broken_stage → ⊥) (eqb (kind_of t F.leaf) implies_kind) _ _ (λ a b. omega arith)
          (λ a. proceed_stage w₂ r)

      -- The count of made constants stays after the line.
      body_made : (with_body t w₂ r q F.leaf).made ≡ r.made
      unfolding with_body with_sequent
      body_made =
          either_side (λ (s : Registers). s.made ≡ r.made) (eqb (kind_of t F.leaf) implies_kind) _ _ (λ a. refl) (λ a. proceed_made w₂ r)

      -- The count of leftover variables stays after the line.
      body_leftover : (with_body t w₂ r q F.leaf).leftover ≡ r.leftover
      unfolding with_body with_sequent
      body_leftover =
          either_side (λ (s : Registers). s.leftover ≡ r.leftover) (eqb (kind_of t F.leaf) implies_kind) _ _ (λ a. refl)
          (λ a. proceed_leftover w₂ r)

      -- A line that uses the member with the terms ts is found right or wrong.
      used : (ts : List Ground) → m ≡ tabbed ts ds → Fits c filled q r.level e rest vs ts → Frames ts
          → R (use_member c.bytes t c.text w₂ r q F.leaf)
      unfolding use_member infer_clause infer_entry infer WritableLine
      used ts p fits frames =
          rw (sym (atoms_folded c.bytes t c.text w₂ r.frame q n (head_of t F.leaf))
          ∙ same_atoms_lem (folded_name c.bytes) t c.symbols names (folds c) (folded_both c.bytes c.text) c.nodes table
          filled.well_made.few_nodes w₂ n (head_of t F.leaf)
          r.frame q g.environment env atom_in
          (head_in ts (frames E.environment (free_c (clause_at_node t h)) (free_ts (arguments_at t (head_of t F.leaf)))
          (λ z a b. within_clause z (or_left (free_ts (arguments_at t (head_of t F.leaf)) z) (free_b (body_of t F.leaf) z) a) b)
          frame_first)))
          (either_side R same (made w₂ (with_body t w₂ r q F.leaf)) (broken w₂ r) right wrong)
        where
          env : Environment Symbol
          env = assign vs ts E.environment

          same : Bool
          same = eqb (label_of t n) (label_of t (head_of t F.leaf)) && same_terms us (substitutes (arguments_at t (head_of t F.leaf)) env)

          -- Where the first two parts of the line's test hold, the last two decide.
          regroup : (a b d z : Bool) → (a && b) ≡ true → (a && b && d && z) ≡ (d && z)
          regroup a b d z y = rw y

          low : all_low g.level ts ≡ true
          low = ap (λ (v : ℕ). all_low v ts) at.level ∙ fits.low

          tests : Test x is_entry ts ≡ same
          tests =
              regroup (eqb (length ts) (length vs)) (all_low g.level ts) (eqb (label_of t n) (label_of t (head_of t F.leaf)))
              (same_terms us (substitutes (arguments_at t (head_of t F.leaf)) env))
              (and_both (eqb (length ts) (length vs)) (all_low g.level ts) (eq-eqb (length ts) (length vs) fits.many) low)

          right : same ≡ true → R (made w₂ (with_body t w₂ r q F.leaf))
          right y =
              right_line_lem c q l g gs G goal r (made w₂ (with_body t w₂ r q F.leaf)) (Dclause k ts)
              (body_sequent (body_of t F.leaf) env g.program g.level)
              (spelled ∙ ap (λ (z : List ℕ). ascii "D\tclause\t" ++ (decimal k ++ z)) p ∙ sym (bytes_clause ds k ts))
              (small, fits.writable)
              (ap (λ (z : Option (Entry Symbol)). Uses z ts) is_entry
              ∙ ap (λ (z : Bool). cond z (some (body_sequent (body_of t F.leaf) env g.program g.level)) none) (tests ∙ y))
              (body_holds ts frames) body_stage body_made body_leftover

          wrong : same ≡ false → R (broken w₂ r)
          wrong y = only_terms w₂ (λ us₀ a b.
              uses_none x is_entry us₀ (ap (Test x is_entry) (tabbed_injective ds names us₀ ts b fits.writable (sym a ∙ p)) ∙ tests ∙ y))

      -- The line is found right or wrong by its terms.
      terms_result : R (use_terms c.bytes t c.text r q F.leaf read_all e)
      unfolding use_terms
      terms_result =
          go (prefix_case c filled q r.level e rest F.count F.names j w₁ m
          (kept_room q q w w₁ (copy_kept 16 w q f 0 (omega arith)) room) after ends)
        where
          scan : (s : Scan) → ((a b : ℕ) → s ≡ Some (a, b) → eqb a e ≡ false) → R (broken w₂ r)
              → R (elim s as (λ z. Made) [
                | Some (a, b) ↦ cond (eqb a e) (use_member c.bytes t c.text w₂ r q F.leaf)
                    (broken w₂ r)
                | None ↦ broken w₂ r
              ])
          scan None y z = z
          scan (Some (a, b)) y z = rw (y a b refl) z

          go : PrefixCase c filled q r.level e rest w₁ m vs read_all → R (use_terms c.bytes t c.text r q F.leaf read_all e)
          go (all_read ts p fits a s frames) = rw (use_terms, s) (rw (eq-eqb e e refl) (used ts p fits frames))
          go (not_read none-fits s) =
              scan read_all.scan s
              (only_terms w₂ (λ ts p y. uses_none x is_entry ts (refuted (Test x is_entry ts) (λ z. none-fits ts p (fits ts y z)))))
            where
              fits : (ts : List Ground) → All (λ u. WritableTerm u ds) ts → Test x is_entry ts ≡ true
                  → Fits c filled q r.level e rest vs ts
              fits ts y z =
                  let A = eqb (length ts) (length vs) in
                  let B = all_low g.level ts in
                  let C = eqb (label_of t n) (label_of t (head_of t F.leaf)) in
                  let D = same_terms us (substitutes (arguments_at t (head_of t F.leaf)) (assign vs ts E.environment)) in
                  let a = and_parts (A && B && C) D z in
                  let b = and_parts (A && B) C a.0 in
                  let d = and_parts A B b.0 in
                  record {
                    writable = y;
                    many = eqb-true (length ts) (length vs) d.0;
                    low = ap (λ (v : ℕ). all_low v ts) (sym at.level) ∙ d.1;
                  }

    -- If nothing is at place k, the line is wrong.
    no_entry : entry_at k (entries g.program) ≡ none → R (broken w r)
    unfolding infer_entry
    no_entry h = only_terms w (λ ts p y. ap (λ (o : Option (Entry Symbol)). Uses o ts) h)

    -- The line is found right or wrong by the entry at its place.
    place_result : R (use_place_at c.bytes t c.symbols c.clauses c.text w r q k j e)
    unfolding use_place_at use_place use_found entry_at
    place_result =
        either_side R (eqb k 0) (broken w r) (use_place c.bytes t c.symbols c.text w r q place j e)
        (λ z. no_entry (ap (λ (v : ℕ). entry_at v (entries g.program)) (eqb-true k 0 z)))
        (λ z. let u = at.older in let y = eqb-false k 0 z in
        go z place (place_is c filled q w (omega arith) r.hypotheses (k - 1) g.program (omega arith) at.program))
      where
        place : Place
        place = place_from t c.clauses w r.hypotheses (k - 1)

        go : eqb k 0 ≡ false → (p : Place) → PlaceIs c q w g.program.clauses (k - 1) p
            → R (use_place c.bytes t c.symbols c.text w r q p j e)
        go z (Some (a, f, o)) E = terms_result a f o E z
        go z None E =
            let d = eqb-false k 0 z in
            let y : k ≡ suc (k - 1) = omega arith in
            no_entry (ap (λ (v : ℕ). entry_at v (entries g.program)) y ∙ E)

  -- "an atom equal to the head of a member with such terms for its prefix"
  pub clause_result : R (clause_line c.bytes t c.symbols c.clauses c.text w r q i e)
  unfolding clause_line clause_fields ascii is_word word_byte is_exact small_from is_letter is_small is_capital
  clause_result =
      either_side R (begins_with word c.text i) (clause_fields c.bytes t c.symbols c.clauses c.text w r q (i + 9) e)
      (broken w r)
      (λ b. let s = word_folded c.text i l rest here word refl (λ m. refl) b in fields s.0 s.1 s.2)
      (λ b. only w (λ k ts p y z. absurd (word_missing c.text i l rest here word (decimal k ++ tabbed ts ds) refl refl b p)))
    where
      word : List ℕ
      word = ascii "D\tclause\t"

      fields : (m : List ℕ) → l ≡ word ++ m → drop (i + 9) (folds c) ≡ m ++ (lf ∷ rest)
          → R (clause_fields c.bytes t c.symbols c.clauses c.text w r q (i + 9) e)
      fields m p y = go (scan_number c.text (i + 9)) refl
        where
          go : (o : Number) → scan_number c.text (i + 9) ≡ o
              → R (elim o as (λ z. Made) [
                | Some (k, j) ↦ use_place_at c.bytes t c.symbols c.clauses c.text w r q k j e
                | None ↦
                    broken w r
              ])
          go None h =
              only w (λ k ts o u z. absurd (let x : None ≡ Some (k, i + 9 + length (decimal k)) = sym h
              ∙ reading k ts o u in let v : ◌≡◌ {A = ℕ} 0 1 = cc in omega arith))
          go (Some (k, j)) h =
              let s = number_there (folds c) (i + 9) m rest k j y (number_folded c.text (i + 9) ∙ h) in
              let a = s.end in
              let b = ap length p ∙ length-append word m in
              let d = ap length s.spelled ∙ length-append (decimal k) s.more in
              place_result k j s.more h (p ∙ ap (word ++◌) s.spelled) s.small s.rest (omega arith)
