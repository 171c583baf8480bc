-- The open goals and what the act that is due works on are read back from memory and registers: proofs of `specs/ReadingStates.antt`.
use Prim.Native.Nat.{ℕ, zero, suc, ◌+◌, ◌-◌, ◌*◌, ◌/◌, ◌%◌, ◌≤◌, ◌<◌}
use native.Mathlib.Omega.{arith}
use mathlib.Core.Bool.{Bool, true, false, cond}
use mathlib.Core.Path.{◌≡◌, refl, sym, ap, ap₂, ◌∙◌, subst}
use mathlib.Core.List.{List, [], ◌∷◌, ◌++◌, map, append-nil}
use lib.Dec.{eqb, ltb}
use lib.ListN.{length, drop}
use borrow.Author.Tests.{ltb-true, eq-eqb, ne_eqb}
use Rattle.terms.specs.Terms.{Term}
use Rattle.formulas.specs.Formulas.{Clause}
use Rattle.formulas.specs.Members.{Member, members}
use Rattle.formulas.specs.Rules.{Order, oldest, latest, rules}
use Rattle.sequents.specs.Sequents.{Environment, Program, Hypothesis, hypothesis, Entry, entry, entries_of, Sequent}
use Rattle.unification.specs.Store.{Leaf}
use Rattle.unification.specs.Matching.{Pair}
use Rattle.search.specs.Configurations.{Branch, Atom}
use Rattle.sheet_format.specs.Limits.{max_budget}
use Rattle.node_table.specs.Layout.{child_count}
use Rattle.node_table.specs.Decoding.{clause_at_node, order_of}
use Rattle.machine.specs.declared.Registers.{Registers}
use Rattle.machine.specs.Fields as fields
use Rattle.machine.specs.Records.{made}
use Rattle.machine.specs.Words.{environment_at}
use Rattle.machine.specs.Matching.{position_word, pairs_from, nodes_from, pairs_after, nodes_after}
use Rattle.machine.specs.Backchaining.{clause_of, clause_frame}
use Rattle.machine.specs.AssumptionChains.{parent_of}
use Rattle.machine.specs.LinkedChains.{climb, Linked}
use Rattle.machine.specs.ReadingStates.{sheet_clauses, assumption_at, assumptions_from, assumptions_after, clauses_later}
use Rattle.machine.specs.ReadingStates.{program_from, sequent_at, goals_from, atom_due, members_due, waiting_pairs, pairs_left}
use Rattle.machine.specs.ReadingStates.{pair_due, pairs_next, waiting_nodes, nodes_left, node_due}
use Rattle.machine.proofs.Words.{position_small, position_record, position_argument}
use Rattle.machine.proofs.Tables.{Table, few_arguments}
use Rattle.machine.proofs.Terms.{word_term}
use Rattle.machine.proofs.WaitingArguments.{pairs_from_lem, nodes_from_lem, PairsAt, NodesAt, pairs_before, nodes_before, position_word_lem}
use Rattle.machine.proofs.WaitingArguments.{pairs_after_lem, nodes_after_lem}
use Rattle.machine.proofs.AssumptionChains.{climb_linked, climb_small}
use Rattle.machine.proofs.LinkedChains.{assumption_field_lem}
use Rattle.machine.proofs.Branches.{sheet_from, backwards, assuming, AssumedAt, assumed_none, assumed_more, assumed_le}
use Rattle.machine.proofs.Branches.{ProgramAt, SequentAt}
use Rattle.machine.proofs.Branches.{GoalsAt}
use Rattle.machine.proofs.Configurations.{AtomAt, behind_sheet, behind_assumption, AfterAt, RestAt, PositionAt, DueAt, PairAt}
use Rattle.machine.proofs.MembersLeft.{parent_last, climb_assumed}
use Rattle.machine.proofs.MatchActs.{pair_words, due_word_lem}
use Rattle.memory.specs.Records.{field}

-- Dropping fewer entries than the first clause has.
drop_entries : (f : Member → Entry Leaf) (k : ℕ) (ms : List Member) (es : List (Entry Leaf)) → k ≤ length ms
    → drop k (map f ms ++ es) ≡ map f (drop k ms) ++ es
drop_entries f zero ms es l = refl
drop_entries f (suc k) [] es l = absurd (omega arith)
drop_entries f (suc k) (m ∷ ms) es l = drop_entries f k ms es (omega arith)

-- After an argument there are fewer to read: those of its record, and those of earlier ones.
fewer_left : (f r i k after : ℕ) → r ≤ max_budget → i < 4 → (suc i < k → suc i < 4) → after < 4 * suc r → 4 * suc r ≤ suc f + i
    → 4 * (cond (ltb (suc i) k) (position_word (suc r) (suc i)) after / 4) ≤ f
    + cond (ltb (suc i) k) (position_word (suc r) (suc i)) after % 4
fewer_left f r i k after small l few b h = go (ltb (suc i) k) refl
  where
    go : (c : Bool) → ltb (suc i) k ≡ c
        → 4 * (cond c (position_word (suc r) (suc i)) after / 4) ≤ f + cond c (position_word (suc r) (suc i)) after % 4
    go true q =
        let l = few (ltb-true (suc i) k q) in
        rw (position_small (suc r) (suc i) (omega arith) l, position_record (suc r) (suc i) l, position_argument (suc r) (suc i) l)
        (omega arith)
    go false q = omega arith

module _ (T : Table) where
  -- The table.
  abbrev t : List ℕ
  t = T.numbers

  -- An assumption is read back.
  assumption_read : (w : List ℕ) (r : ℕ) (c : Clause) (e : Environment Leaf)
      → clause_at_node T.numbers (field w r fields.assumption_node) ≡ c → environment_at w (field w r fields.assumption_frame) ≡ e
      → assumption_at T.numbers w (suc r) ≡ hypothesis c e
  unfolding assumption_at
  assumption_read w r c e i j = let z : suc r - 1 ≡ r = omega arith in rw (z, i, j) refl

  -- The sheet's clauses are read back.
  sheet_read : (i : ℕ) → sheet_clauses T.numbers T.clauses i ≡ sheet_from T (T.clauses - i) i
  unfolding sheet_clauses
  sheet_read i = refl

  sheet_all : sheet_clauses T.numbers T.clauses 0 ≡ sheet_from T T.clauses 0
  sheet_all = let z : T.clauses - 0 ≡ T.clauses = omega arith in sheet_read 0 ∙ ap (λ (c : ℕ). sheet_from T c 0) z

  -- A program is read back.
  assumed_read : (f n : ℕ) (w : List ℕ) {h : ℕ} {l : List (Hypothesis Leaf)} → h ≤ f → AssumedAt T n w h l
      → program_from f T.numbers T.clauses w h ≡ assuming T l
  unfolding program_from assuming
  assumed_read zero n w b assumed_none = ap (rules (order_of t)) sheet_all
  assumed_read zero n w b (assumed_more r k a g i j p c) = absurd (omega arith)
  assumed_read (suc f) n w b assumed_none = ap (rules (order_of t)) sheet_all
  assumed_read (suc f) n w b (assumed_more {c = c} {e = e} r k a g i j p d) =
      rw (
        program_from,
        ne_eqb (suc r) 0 (λ q. omega arith),
        assumption_read w r c e i j,
        assumption_field_lem w r fields.assumption_next,
        assumed_read f n w (omega arith) p,
      ) refl

  program_read : (n : ℕ) (w : List ℕ) {h : ℕ} {P : Program Leaf} → ProgramAt T n w h P
      → program_from n T.numbers T.clauses w h ≡ P
  program_read n w p = assumed_read n n w (assumed_le T n w p.at) p.at ∙ sym p.is

  -- An open goal is read back.
  pub sequent_read : (w : List ℕ) (r : Registers) (a f h i : ℕ) (g : Sequent Leaf) → SequentAt T r.acts w a f h i g
      → sequent_at T.numbers T.clauses (made w r) a f h i ≡ g
  unfolding sequent_at
  sequent_read w r a f h i g c =
      rw (c.goal, c.environment, program_read r.acts w c.program, c.level)

  -- The goals that wait are read back.
  pub goals_read : (f : ℕ) (gs : List (Sequent Leaf)) (w : List ℕ) (r : Registers) (p : ℕ) → p ≤ f → GoalsAt T r.acts gs w p
      → goals_from f T.numbers T.clauses (made w r) p ≡ gs
  unfolding GoalsAt goals_from
  goals_read zero [] w r zero l c = refl
  goals_read zero [] w r (suc q) l c = absurd c
  goals_read zero (g ∷ gs) w r zero l c = absurd c
  goals_read zero (g ∷ gs) w r (suc q) l c = absurd (omega arith)
  goals_read (suc f) [] w r zero l c = refl
  goals_read (suc f) [] w r (suc q) l c = absurd c
  goals_read (suc f) (g ∷ gs) w r zero l c = absurd c
  goals_read (suc f) (g ∷ gs) w r (suc q) l c =
      let e : suc q - 1 ≡ q = omega arith in
      let b = c.3 in
      rw (goals_from, ne_eqb (suc q) 0 (λ z. omega arith), e)
      (ap₂ ◌∷◌ (sequent_read w r (field w q fields.goal_node) (field w q fields.goal_frame) (field w q fields.goal_program)
      (field w q fields.goal_level) g c.1) (goals_read f gs w r (field w q fields.goal_next) (omega arith) c.2))

  -- The atom whose members are tried is read back.
  pub atom_read : (x : ℕ) (w : List ℕ) (r : Registers) (a : Atom) → AtomAt T r.acts x w r.node r.frame r.program r.level a
      → atom_due T.numbers T.clauses (made w r) ≡ a
  unfolding atom_due
  atom_read x w r a c =
      rw (
        c.predicate,
        c.arguments,
        program_read r.acts w c.program,
        c.level,
      )

  -- Assumptions are read back, latest first.
  older_read : (f n : ℕ) (w : List ℕ) {h : ℕ} {l : List (Hypothesis Leaf)} → h ≤ f → AssumedAt T n w h l
      → assumptions_from f T.numbers w h ≡ l
  unfolding assumptions_from
  older_read zero n w b assumed_none = refl
  older_read zero n w b (assumed_more r k a g i j p c) = absurd (omega arith)
  older_read (suc f) n w b assumed_none = refl
  older_read (suc f) n w b (assumed_more {c = c} {e = e} r k a g i j p d) =
      rw (
        assumptions_from,
        ne_eqb (suc r) 0 (λ q. omega arith),
        assumption_read w r c e i j,
        assumption_field_lem w r fields.assumption_next,
        older_read f n w (omega arith) p,
      ) refl

  -- Assumptions are read back, oldest first, from the one made after the one that k steps along the parents lead to.
  later_read : (k f n : ℕ) (w : List ℕ) {h : ℕ} {l : List (Hypothesis Leaf)} → k ≤ length l → h ≤ f → Linked (length l) w h
      → AssumedAt T n w h l → assumptions_after f T.numbers w h (climb k w h) ≡ backwards k l
  unfolding assumptions_after climb backwards Linked
  later_read zero zero n w a b s p = refl
  later_read zero (suc f) n w {h = h} a b s p = rw (assumptions_after, eq-eqb h h refl) refl
  later_read (suc k) f n w a b s assumed_none = absurd (omega arith)
  later_read (suc k) zero n w a b s (assumed_more r m c g i j p d) = absurd (omega arith)
  later_read (suc k) (suc f) n w a b s (assumed_more {c = c} {e = e} {l = l} r m x g i j p d) =
      let z = assumption_field_lem w r fields.assumption_next in
      let q : Linked (length l) w (field w r fields.assumption_next) = subst (Linked (length l) w) z s.1 in
      let less = climb_small k (length l) w (field w r fields.assumption_next) (omega arith) q in
      let same : climb (suc k) w (suc r) ≡ climb k w (field w r fields.assumption_next) = ap (climb k w) z in
      rw (
        assumptions_after,
        ne_eqb (suc r) (climb (suc k) w (suc r)) (λ y. omega arith),
        assumption_read w r c e i j,
      )
      (ap (◌++ (hypothesis c e ∷ [])) (ap₂ (assumptions_after f t w) z same ∙ later_read k f n w (omega arith) (omega arith) q p))

  -- Past the oldest assumption there is none.
  chain_end : (n : ℕ) (w : List ℕ) (p : ℕ) → Linked n w p → climb n w p ≡ 0
  unfolding Linked
  chain_end n w p s =
      let z : n - n ≡ 0 = omega arith in
      subst (λ (m : ℕ). Linked m w (climb n w p)) z (climb_linked n n w p (omega arith) s)

  -- The clauses after the one that the registers name are read back.
  clauses_read : (n : ℕ) (w : List ℕ) (r : Registers) (rest : List (Hypothesis Leaf))
      → RestAt T n w r.program r.hypothesis r.clause rest → clauses_later n T.numbers T.clauses w r ≡ rest
  unfolding clauses_later AfterAt behind_sheet behind_assumption
  clauses_read n w r rest c = go (order_of t) r.hypothesis refl c.after
    where
      l : List (Hypothesis Leaf)
      l = c.assumptions

      le : r.program ≤ n
      le = assumed_le T n w c.at

      go : (o : Order) (h : ℕ) → order_of t ≡ o → AfterAt T w r.program h r.clause c.assumptions rest
          → elim o [
            | oldest ↦
                elim (eqb h 0) [
                  | true ↦ sheet_clauses t T.clauses (suc r.clause) ++ assumptions_after n t w r.program 0
                  | false ↦ assumptions_after n t w r.program h
                ]
            | latest ↦
                elim (eqb h 0) [
                  | true ↦ sheet_clauses t T.clauses (suc r.clause)
                  | false ↦ assumptions_from n t w (parent_of w h) ++ sheet_clauses t T.clauses 0
                ]
          ] ≡ rest
      go oldest zero o a =
          ap₂ ◌++◌ (sheet_read (suc r.clause))
          (ap (assumptions_after n t w r.program) (sym (chain_end (length c.assumptions) w r.program c.linked))
          ∙ later_read (length c.assumptions) n n w (omega arith) le c.linked c.at)
          ∙ ap (λ (q : Order). sheet_from T (T.clauses - suc r.clause) (suc r.clause) ++ behind_sheet T q c.assumptions) (sym o)
          ∙ sym a.1
      go oldest (suc q) o a =
          let b = a.1 in
          rw (ne_eqb (suc q) 0 (λ x. omega arith), a.2)
          (later_read a.0 n n w (omega arith) le c.linked c.at
          ∙ ap (λ (q : Order). behind_assumption T q a.0 c.assumptions) (sym o) ∙ sym a.3)
      go latest zero o a =
          sheet_read (suc r.clause) ∙ sym (append-nil (sheet_from T (T.clauses - suc r.clause) (suc r.clause)))
          ∙ ap (λ (q : Order). sheet_from T (T.clauses - suc r.clause) (suc r.clause) ++ behind_sheet T q c.assumptions) (sym o)
          ∙ sym a.1
      go latest (suc q) o a =
          let b = a.1 in
          let z : parent_of w (suc q) ≡ climb (suc a.0) w r.program = ap (λ (x : ℕ). parent_of w x) a.2
          ∙ sym (parent_last a.0 w r.program) in
          let older = climb_assumed (suc a.0) n w (omega arith) c.at in
          rw (ne_eqb (suc q) 0 (λ x. omega arith), z)
          (ap₂ ◌++◌ (older_read n n w (assumed_le T n w older) older) sheet_all
          ∙ ap (λ (q : Order). behind_assumption T q a.0 c.assumptions) (sym o) ∙ sym a.3)

  -- The members left to try are read back.
  pub position_read : (w : List ℕ) (r : Registers) (es : List (Entry Leaf)) → PositionAt T r.acts w r es
      → members_due T.numbers T.clauses (made w r) ≡ es
  unfolding members_due entries_of
  position_read w r es c =
      let l = c.member in
      ap (λ (ds : List (Hypothesis Leaf)). drop r.member (entries_of
      (hypothesis (clause_at_node t (clause_of t w r)) (environment_at w (clause_frame w r)) ∷ ds)))
      (clauses_read r.acts w r c.rest c.others)
      ∙ drop_entries (entry (environment_at w (clause_frame w r))) r.member (members (clause_at_node t (clause_of t w r)))
      (entries_of c.rest) (omega arith)
      ∙ sym c.are

  -- The pairs that wait are read back.
  waiting_pairs_lem : (f n x : ℕ) (ps : List Pair) (w : List ℕ) (a : ℕ) → n ≤ max_budget → 4 * (a / 4) ≤ f + a % 4 → PairsAt T n x ps w a
      → waiting_pairs f T.numbers w a ≡ ps
  unfolding PairsAt waiting_pairs
  waiting_pairs_lem zero n x [] w a small h c = refl
  waiting_pairs_lem zero n x (q ∷ ps) w a small h c =
      let e = c.2 in
      let k = few_arguments T (field w c.0 fields.goal_side_node) c.1 c.4.node c.4.more in
      absurd (omega arith)
  waiting_pairs_lem (suc f) n x [] w a small h c = rw (waiting_pairs, c)
  waiting_pairs_lem (suc f) n x (q ∷ ps) w a small h c =
      let r = c.0 in
      let i = c.1 in
      let e = c.2 in
      let l = c.3 in
      let k = few_arguments T (field w r fields.goal_side_node) i c.4.node c.4.more in
      rw (
        waiting_pairs,
        ne_eqb a 0 (λ z. omega arith),
        word_term T n x w (position_word_lem T n x w a r i fields.goal_side_node q.goal small e c.4),
        word_term T n x w (position_word_lem T n x w a r i fields.clause_side_node q.clause small e c.5),
        pairs_after_lem t w a r i e k,
      )
      (ap₂ ◌∷◌ refl (waiting_pairs_lem f n x ps w (pairs_from t w (suc r) (suc i)) small
      (rw (pairs_from_lem t w r (suc i)) (fewer_left f r i (child_count t (field w r fields.goal_side_node)) (field w r fields.pairs_after)
      (omega arith) k (few_arguments T (field w r fields.goal_side_node) (suc i) c.4.node) c.7 (omega arith))) c.6))

  -- The pairs left to compare are read back.
  pub pairs_read : (x : ℕ) (ps : List Pair) (w : List ℕ) (r : Registers) → r.acts ≤ max_budget → PairsAt T r.acts x ps w r.pairs
      → pairs_left T.numbers (made w r) ≡ ps
  unfolding pairs_left
  pairs_read x ps w r small c =
      waiting_pairs_lem (4 * r.acts) r.acts x ps w r.pairs small
      (let b = pairs_before T r.acts x ps w r.pairs c in omega arith) c

  -- The nodes that wait are read back.
  waiting_nodes_lem : (f n x : ℕ) (ss : List (Term Leaf)) (w : List ℕ) (a : ℕ) → n ≤ max_budget → 4 * (a / 4) ≤ f + a % 4
      → NodesAt T n x ss w a → waiting_nodes f T.numbers w a ≡ ss
  unfolding NodesAt waiting_nodes
  waiting_nodes_lem zero n x [] w a small h c = refl
  waiting_nodes_lem zero n x (s ∷ ss) w a small h c =
      let e = c.2 in
      let k = few_arguments T (field w c.0 fields.waiting_node) c.1 c.4.node c.4.more in
      absurd (omega arith)
  waiting_nodes_lem (suc f) n x [] w a small h c = rw (waiting_nodes, c)
  waiting_nodes_lem (suc f) n x (s ∷ ss) w a small h c =
      let r = c.0 in
      let i = c.1 in
      let e = c.2 in
      let l = c.3 in
      let k = few_arguments T (field w r fields.waiting_node) i c.4.node c.4.more in
      rw (
        waiting_nodes,
        ne_eqb a 0 (λ z. omega arith),
        word_term T n x w (position_word_lem T n x w a r i fields.waiting_node s small e c.4),
        nodes_after_lem t w a r i e k,
      )
      (ap₂ ◌∷◌ refl (waiting_nodes_lem f n x ss w (nodes_from t w (suc r) (suc i)) small
      (rw (nodes_from_lem t w r (suc i)) (fewer_left f r i (child_count t (field w r fields.waiting_node)) (field w r fields.waiting_after)
      (omega arith) k (few_arguments T (field w r fields.waiting_node) (suc i) c.4.node) c.6 (omega arith))) c.5))

  -- The pair that is due and the pairs after it are read back.
  pub due_pair_read : (x : ℕ) (p : Pair) (ps : List Pair) (w : List ℕ) (r : Registers) (b : Branch) → r.acts ≤ max_budget
      → PairAt T r.acts x w r p ps b → pair_due T.numbers (made w r) ∷ pairs_next T.numbers (made w r) ≡ p ∷ ps
  unfolding pair_due pairs_next
  due_pair_read x p ps w r b small h =
      let z = pair_words T w r x p ps b small h in
      rw (
        word_term T r.acts x w z.0,
        word_term T r.acts x w z.1,
        waiting_pairs_lem (4 * r.acts) r.acts x ps w (pairs_after t w r.pairs) small
            (let k = pairs_before T r.acts x ps w (pairs_after t w r.pairs) z.2 in omega arith) z.2,
      ) refl

  -- The node that is due and the nodes left are read back.
  pub due_read : (x : ℕ) (n : Term Leaf) (ns : List (Term Leaf)) (w : List ℕ) (r : Registers) → r.acts ≤ max_budget
      → DueAt T r.acts x w r.node r.nodes n ns
      → (node_due T.numbers (made w r) ≡ n) × (nodes_left T.numbers (made w r) ≡ ns)
  unfolding node_due nodes_left
  due_read x n ns w r small d =
      let z = due_word_lem T w r small x n ns d in
      let b = nodes_before T r.acts x ns w (nodes_after t w r.nodes) z.1 in (
        word_term T r.acts x w z.0,
        waiting_nodes_lem (4 * r.acts) r.acts x ns w (nodes_after t w r.nodes) small (omega arith) z.1,
      )
