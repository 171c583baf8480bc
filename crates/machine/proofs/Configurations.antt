-- A configuration of the search in memory and registers, and that it stays.
use Prim.Native.Nat.{ℕ, zero, suc, ◌+◌, ◌-◌, ◌*◌, ◌≤◌, ◌<◌}
use native.Mathlib.Omega.{arith}
use mathlib.Core.Bool.{cond}
use mathlib.Core.Path.{◌≡◌, refl, sym, ap, ◌∙◌}
use mathlib.Core.List.{List, [], ◌∷◌, ◌++◌, map}
use mathlib.Core.Logic.{◌⊎◌, inl, inr}
use lib.Dec.{eqb}
use lib.ListN.{length, drop}
use borrow.Author.Tests.{ne_eqb}
use Rattle.terms.specs.Terms.{Term, substitutes}
use Rattle.formulas.specs.Members.{members}
use Rattle.formulas.specs.Rules.{Order, oldest, latest}
use Rattle.sequents.specs.Sequents.{Hypothesis, Entry, entry, entries_of}
use Rattle.unification.specs.Store.{Leaf, Store}
use Rattle.unification.specs.Matching.{Pair, pairs, check, fail}
use Rattle.search.specs.Configurations.{Branch, Atom, Configuration, take, try, match, done}
use Rattle.search.specs.Search.{start_store}
use Rattle.node_table.specs.Layout.{label_of, clause_node}
use Rattle.node_table.specs.Decoding.{arguments_at, clause_at_node, order_of}
use Rattle.machine.specs.declared.Registers.{Registers}
use Rattle.machine.specs.Fields as fields
use Rattle.machine.specs.Records.{proved_mode, take_mode, compare_mode, check_mode, try_mode}
use Rattle.machine.specs.Words.{environment_at}
use Rattle.machine.specs.LinkedChains.{climb, Linked}
use Rattle.machine.specs.Backchaining.{clause_of, clause_frame}
use Rattle.machine.proofs.MemoryOrder.{Extends}
use Rattle.machine.proofs.AssumptionChains.{climb_small}
use Rattle.machine.proofs.LinkedChains.{linked_extends, climb_extends}
use Rattle.machine.proofs.Tables.{Table, Applied}
use Rattle.machine.proofs.Terms.{FrameAt, frame_up, frame_extends, environment_extends, FrameIn, framed_extends, framed_up, WordAt}
use Rattle.machine.proofs.Terms.{word_extends, word_up}
use Rattle.machine.proofs.WaitingArguments.{PairsAt, NodesAt, pairs_extends, pairs_up, nodes_extends, nodes_up}
use Rattle.machine.proofs.Branches.{PathAt, path_extends, path_up, ClauseOf, sheet_from, ProgramAt, program_extends, program_up}
use Rattle.machine.proofs.Branches.{AssumedAt, assumed_extends, assumed_up, assumed_le, backwards}
use Rattle.machine.proofs.Branches.{SequentAt, sequent_extends, sequent_up, BranchAt, branch_extends, branch_up}
use Rattle.memory.specs.Records.{field}

-- The store of a configuration.
unfoldable pub store_of : Configuration → Store
store_of (take s g b) = s
store_of (try s a m ms k b) = s
store_of (match (pairs s ps) b) = s
store_of (match (check s y t n ns ps) b) = s
store_of (match fail b) = start_store
store_of (done s ls) = s

module _ (T : Table) where
  -- The atom whose members are tried.
  pub record AtomAt (n x : ℕ) (w : List ℕ) (m f h i : ℕ) (a : Atom) : Type 0 where
    pub node : Applied T m
    pub predicate : label_of T.numbers m ≡ a.predicate
    pub frame : FrameIn n x w f
    pub arguments : substitutes (arguments_at T.numbers m) (environment_at w f) ≡ a.arguments
    pub program : ProgramAt T n w h a.program
    pub level : i ≡ a.level
    pub low : i ≤ n

  -- The clauses that are tried after the sheet's, the assumptions being l, latest first.
  unfoldable pub behind_sheet : Order → List (Hypothesis Leaf) → List (Hypothesis Leaf)
  behind_sheet oldest l = backwards (length l) l
  behind_sheet latest l = []

  -- The clauses that are tried after the assumption after which k others were made.
  unfoldable pub behind_assumption : Order → ℕ → List (Hypothesis Leaf) → List (Hypothesis Leaf)
  behind_assumption oldest k l = backwards k l
  behind_assumption latest k l = drop (suc k) l ++ sheet_from T T.clauses 0

  -- The clauses after the i-th of the sheet, or after the assumption that a pointer names.
  unfoldable pub AfterAt : List ℕ → ℕ → ℕ → ℕ → List (Hypothesis Leaf) → List (Hypothesis Leaf) → Type 0
  AfterAt w p zero i l rest =
      (i < T.clauses) × (rest ≡ sheet_from T (T.clauses - suc i) (suc i) ++ behind_sheet (order_of T.numbers) l)
  AfterAt w p (suc q) i l rest =
      (k : ℕ) × (k < length l) × (suc q ≡ climb k w p) × (rest ≡ behind_assumption (order_of T.numbers) k l)

  -- The clauses after a position in the program p.
  pub record RestAt (n : ℕ) (w : List ℕ) (p h i : ℕ) (rest : List (Hypothesis Leaf)) : Type 0 where
    pub assumptions : List (Hypothesis Leaf)
    pub at : AssumedAt T n w p assumptions
    pub linked : Linked (length assumptions) w p
    pub after : AfterAt w p h i assumptions rest

  -- The members from the one that the registers name.
  pub record PositionAt (n : ℕ) (w : List ℕ) (r : Registers) (es : List (Entry Leaf)) : Type 0 where
    pub clause : ClauseOf T (clause_of T.numbers w r)
    pub frame : FrameAt n w (clause_frame w r)
    pub member : r.member < length (members (clause_at_node T.numbers (clause_of T.numbers w r)))
    pub rest : List (Hypothesis Leaf)
    pub others : RestAt n w r.program r.hypothesis r.clause rest
    pub are : es ≡ map (entry (environment_at w (clause_frame w r)))
        (drop r.member (members (clause_at_node T.numbers (clause_of T.numbers w r)))) ++ entries_of rest

  pub record TryAt (n x : ℕ) (w : List ℕ) (r : Registers) (a : Atom) (es : List (Entry Leaf)) (k : ℕ) (b : Branch) : Type 0 where
    pub mode : r.mode ≡ try_mode
    pub atom : AtomAt n x w r.node r.frame r.program r.level a
    pub position : PositionAt n w r es
    pub place : r.place ≡ k
    pub first : 1 ≤ k
    pub low : k ≤ n
    pub branch : BranchAt T n x w r.goals r.path r.line b

  -- The node that is due in a range check and the nodes left: d is its word, or 0 and it is the argument at position a.
  abbrev pub DueAt : ℕ → ℕ → List ℕ → ℕ → ℕ → Term Leaf → List (Term Leaf) → Type 0
  DueAt n v w d a x ns =
      (WordAt T n v w d x × (((a ≡ 0) × (ns ≡ [])) ⊎ ((y : Term Leaf) × NodesAt T n v (y ∷ ns) w a)))
      ⊎ ((d ≡ 0) × NodesAt T n v (x ∷ ns) w a)

  pub record CheckAt (n v : ℕ) (w : List ℕ) (r : Registers) (y : ℕ) (t x : Term Leaf) (ns : List (Term Leaf)) (ps : List Pair)
      (b : Branch) : Type 0 where
    pub mode : r.mode ≡ check_mode
    pub variable : r.left ≡ 4 * y + 1
    pub value : WordAt T n v w r.right t
    pub nodes : DueAt n v w r.node r.nodes x ns
    pub pairs : PairsAt T n v ps w r.pairs
    pub branch : BranchAt T n v w r.goals r.path r.line b

  -- The sides of the pair p that is due: their words are in the registers, or they are those of the waiting pair q.
  abbrev pub SidesAt : ℕ → ℕ → List ℕ → Registers → Pair → Pair → Type 0
  SidesAt n x w r q p = ((r.left ≡ 0) × (q ≡ p)) ⊎ (WordAt T n x w r.left p.goal × WordAt T n x w r.right p.clause)

  -- A comparison of the pair p, which was the pair `stood` before its bindings were followed.
  pub record PairAt (n x : ℕ) (w : List ℕ) (r : Registers) (p : Pair) (ps : List Pair) (b : Branch) : Type 0 where
    pub mode : r.mode ≡ compare_mode
    pub stood : Pair
    pub waits : PairsAt T n x (stood ∷ ps) w r.pairs
    pub sides : SidesAt n x w r stood p
    pub branch : BranchAt T n x w r.goals r.path r.line b

  -- Pairs left to compare: one at least.
  unfoldable pub CompareAt : ℕ → ℕ → List ℕ → Registers → List Pair → Branch → Type 0
  CompareAt n x w r [] b = ⊥
  CompareAt n x w r (p ∷ ps) b = PairAt n x w r p ps b

  -- A configuration, by the act that is due.
  unfoldable pub ConfigurationAt : ℕ → List ℕ → Registers → Configuration → Type 0
  ConfigurationAt n w r (take s g b) =
      (r.mode ≡ take_mode) × SequentAt T n w r.node r.frame r.program r.level g
      × BranchAt T n s.next w r.goals r.path r.line b
  ConfigurationAt n w r (try s a m ms k b) = TryAt n s.next w r a (m ∷ ms) k b
  ConfigurationAt n w r (match (pairs s ps) b) = CompareAt n s.next w r ps b
  ConfigurationAt n w r (match (check s y t x ns ps) b) = CheckAt n s.next w r y t x ns ps b
  ConfigurationAt n w r (match fail b) = ⊥
  ConfigurationAt n w r (done s ls) = (r.mode ≡ proved_mode) × PathAt n s.next ls w r.path r.line × (r.goals ≡ 0)

  -- They stay.
  pub atom_extends : (n x : ℕ) (w w' : List ℕ) (m f h i : ℕ) (a : Atom) → Extends fields.constant_level n w w' → AtomAt n x w m f h i a
      → AtomAt n x w' m f h i a
  atom_extends n x w w' m f h i a e c = record {
    node = c.node;
    predicate = c.predicate;
    frame = framed_extends n x w w' f e c.frame;
    arguments = ap (substitutes (arguments_at T.numbers m)) (environment_extends n w w' f e c.frame.frame) ∙ c.arguments;
    program = program_extends T n w w' e c.program;
    level = c.level;
    low = c.low;
  }

  -- An atom stays one act later.
  pub atom_up : (n x : ℕ) (w : List ℕ) (m f h i : ℕ) (a : Atom) → AtomAt n x w m f h i a → AtomAt (suc n) x w m f h i a
  atom_up n x w m f h i a c = record {
    node = c.node;
    predicate = c.predicate;
    frame = framed_up n x x w f (omega arith) c.frame;
    arguments = c.arguments;
    program = program_up T n w c.program;
    level = c.level;
    low = let l = c.low in omega arith;
  }

  -- The clauses after a position stay in an extended memory.
  rest_extends : (n : ℕ) (w w' : List ℕ) (p h i : ℕ) (rest : List (Hypothesis Leaf)) → Extends fields.constant_level n w w'
      → RestAt n w p h i rest → RestAt n w' p h i rest
  unfolding AfterAt
  rest_extends n w w' p h i rest e c = record {
    assumptions = c.assumptions;
    at = assumed_extends T n w w' e c.at;
    linked = linked_extends n w w' e (length c.assumptions) p (assumed_le T n w c.at) c.linked;
    after = go h c.after;
  }
    where
      go : (h : ℕ) → AfterAt w p h i c.assumptions rest → AfterAt w' p h i c.assumptions rest
      go zero a = a
      go (suc q) a =
          let k = a.1 in
          let le = assumed_le T n w c.at in
          (a.0, a.1, a.2 ∙ sym (climb_extends n w w' e a.0 (length c.assumptions) p le (omega arith) c.linked), a.3)

  -- The clauses after a position stay one act later.
  rest_up : (n : ℕ) (w : List ℕ) (p h i : ℕ) (rest : List (Hypothesis Leaf)) → RestAt n w p h i rest → RestAt (suc n) w p h i rest
  rest_up n w p h i rest c =
      record { assumptions = c.assumptions; at = assumed_up T n w c.at; linked = c.linked; after = c.after }

  -- A position names a record made before, or none.
  pub rest_le : (n : ℕ) (w : List ℕ) (p q i : ℕ) (rest : List (Hypothesis Leaf)) → RestAt n w p (suc q) i rest → q < n
  unfolding AfterAt
  rest_le n w p q i rest c =
      let k = c.after.1 in
      let z = c.after.2 in
      let le = assumed_le T n w c.at in
      let s = climb_small c.after.0 (length c.assumptions) w p (omega arith) c.linked in
      omega arith

  -- The node and the frame of the clause to try stay in an extended memory.
  pub clause_extends : (n : ℕ) (w w' : List ℕ) (r : Registers) (rest : List (Hypothesis Leaf)) → Extends fields.constant_level n w w'
      → RestAt n w r.program r.hypothesis r.clause rest
      → (clause_of T.numbers w' r ≡ clause_of T.numbers w r) × (clause_frame w' r ≡ clause_frame w r)
  unfolding clause_of clause_frame
  clause_extends n w w' r rest e c = go r.hypothesis c
    where
      go : (h : ℕ) → RestAt n w r.program h r.clause rest
          → (cond (eqb h 0) (clause_node T.numbers r.clause) (field w' (h - 1) fields.assumption_node) ≡ cond (eqb h 0)
          (clause_node T.numbers r.clause) (field w (h - 1) fields.assumption_node))
          × (cond (eqb h 0) 0 (field w' (h - 1) fields.assumption_frame) ≡ cond (eqb h 0) 0 (field w (h - 1) fields.assumption_frame))
      go zero c = (refl, refl)
      go (suc q) c =
          let z : suc q - 1 ≡ q = omega arith in
          let l = rest_le n w r.program q r.clause rest c in
          rw (ne_eqb (suc q) 0 (λ x. omega arith), z) (
            e.old q fields.assumption_node l (omega arith) (omega arith),
            e.old q fields.assumption_frame l (omega arith) (omega arith),
          )

  -- A position stays in an extended memory.
  pub position_extends : (n : ℕ) (w w' : List ℕ) (r : Registers) (es : List (Entry Leaf)) → Extends fields.constant_level n w w'
      → PositionAt n w r es → PositionAt n w' r es
  position_extends n w w' r es e c =
      let z = clause_extends n w w' r c.rest e c.others in
      let z₀ = z.0 in
      let z₁ = z.1 in
      record {
        clause = rw z₀ c.clause;
        frame = rw z₁ (frame_extends n w w' (clause_frame w r) e c.frame);
        member = rw z₀ c.member;
        rest = c.rest;
        others = rest_extends n w w' r.program r.hypothesis r.clause c.rest e c.others;
        are = rw (z₀, z₁, environment_extends n w w' (clause_frame w r) e c.frame) c.are;
      }

  -- A position stays one act later.
  pub position_up : (n : ℕ) (w : List ℕ) (r : Registers) (es : List (Entry Leaf)) → PositionAt n w r es → PositionAt (suc n) w r es
  position_up n w r es c = record {
    clause = c.clause;
    frame = frame_up n w (clause_frame w r) c.frame;
    member = c.member;
    rest = c.rest;
    others = rest_up n w r.program r.hypothesis r.clause c.rest c.others;
    are = c.are;
  }

  -- A position reads four registers only.
  pub position_same : (n : ℕ) (w : List ℕ) (r q : Registers) (es : List (Entry Leaf)) → q.hypothesis ≡ r.hypothesis
      → q.clause ≡ r.clause → q.member ≡ r.member → q.program ≡ r.program → PositionAt n w r es → PositionAt n w q es
  unfolding clause_of clause_frame
  position_same n w r q es e₀ e₁ e₂ e₃ c = record {
    clause = rw (e₀, e₁) c.clause;
    frame = rw e₀ c.frame;
    member = rw (e₀, e₁, e₂) c.member;
    rest = c.rest;
    others = rw (e₀, e₁, e₃) c.others;
    are = rw (e₀, e₁, e₂) c.are;
  }

  -- The nodes of a range check stay in an extended memory.
  due_extends : (n v : ℕ) (w w' : List ℕ) (d a : ℕ) (x : Term Leaf) (ns : List (Term Leaf)) → Extends fields.constant_level n w w'
      → DueAt n v w d a x ns → DueAt n v w' d a x ns
  due_extends n v w w' d a x ns e (inl (c, inl k)) = inl (word_extends T n v w w' e c, inl k)
  due_extends n v w w' d a x ns e (inl (c, inr k)) =
      inl (word_extends T n v w w' e c, inr (k.0, nodes_extends T n v (k.0 ∷ ns) w w' a e k.1))
  due_extends n v w w' d a x ns e (inr c) = inr (c.0, nodes_extends T n v (x ∷ ns) w w' a e c.1)

  -- The nodes of a range check stay one act later.
  due_up : (n v : ℕ) (w : List ℕ) (d a : ℕ) (x : Term Leaf) (ns : List (Term Leaf)) → DueAt n v w d a x ns → DueAt (suc n) v w d a x ns
  due_up n v w d a x ns (inl (c, inl k)) = inl (word_up T n v v w (omega arith) c, inl k)
  due_up n v w d a x ns (inl (c, inr k)) =
      inl (word_up T n v v w (omega arith) c, inr (k.0, nodes_up T n v v (k.0 ∷ ns) w a (omega arith) k.1))
  due_up n v w d a x ns (inr c) = inr (c.0, nodes_up T n v v (x ∷ ns) w a (omega arith) c.1)

  -- The sides of a pair stay in an extended memory.
  sides_extends : (n x : ℕ) (w w' : List ℕ) (r : Registers) (q p : Pair) → Extends fields.constant_level n w w' → SidesAt n x w r q p
      → SidesAt n x w' r q p
  sides_extends n x w w' r q p e (inl c) = inl c
  sides_extends n x w w' r q p e (inr c) = inr (word_extends T n x w w' e c.0, word_extends T n x w w' e c.1)

  -- The sides of a pair stay one act later.
  pub sides_up : (n x : ℕ) (w : List ℕ) (r : Registers) (q p : Pair) → SidesAt n x w r q p → SidesAt (suc n) x w r q p
  sides_up n x w r q p (inl c) = inl c
  sides_up n x w r q p (inr c) = inr (word_up T n x x w (omega arith) c.0, word_up T n x x w (omega arith) c.1)

  -- The whole configuration stays in an extended memory.
  pub configuration_extends : (n : ℕ) (w w' : List ℕ) (r : Registers) (c : Configuration) → Extends fields.constant_level n w w'
      → ConfigurationAt n w r c → ConfigurationAt n w' r c
  unfolding ConfigurationAt CompareAt
  configuration_extends n w w' r (take s g b) e h = (
    h.0,
    sequent_extends T n w w' r.node r.frame r.program r.level g e h.1,
    branch_extends T n s.next w w' r.goals r.path r.line b e h.2,
  )
  configuration_extends n w w' r (try s a m ms k b) e h = record {
    mode = h.mode;
    atom = atom_extends n s.next w w' r.node r.frame r.program r.level a e h.atom;
    position = position_extends n w w' r (m ∷ ms) e h.position;
    place = h.place;
    first = h.first;
    low = h.low;
    branch = branch_extends T n s.next w w' r.goals r.path r.line b e h.branch;
  }
  configuration_extends n w w' r (match (pairs s []) b) e h = h
  configuration_extends n w w' r (match (pairs s (p ∷ ps)) b) e h = record {
    mode = h.mode;
    stood = h.stood;
    waits = pairs_extends T n s.next (h.stood ∷ ps) w w' r.pairs e h.waits;
    sides = sides_extends n s.next w w' r h.stood p e h.sides;
    branch = branch_extends T n s.next w w' r.goals r.path r.line b e h.branch;
  }
  configuration_extends n w w' r (match (check s y t x ns ps) b) e h = record {
    mode = h.mode;
    variable = h.variable;
    value = word_extends T n s.next w w' e h.value;
    nodes = due_extends n s.next w w' r.node r.nodes x ns e h.nodes;
    pairs = pairs_extends T n s.next ps w w' r.pairs e h.pairs;
    branch = branch_extends T n s.next w w' r.goals r.path r.line b e h.branch;
  }
  configuration_extends n w w' r (match fail b) e h = h
  configuration_extends n w w' r (done s ls) e h = (h.0, path_extends n s.next ls w w' r.path r.line e h.1, h.2)

  -- The whole configuration stays one act later.
  pub configuration_up : (n : ℕ) (w : List ℕ) (r : Registers) (c : Configuration) → ConfigurationAt n w r c → ConfigurationAt (suc n) w r c
  unfolding ConfigurationAt CompareAt
  configuration_up n w r (take s g b) h = (
    h.0,
    sequent_up T n w r.node r.frame r.program r.level g h.1,
    branch_up T n s.next w r.goals r.path r.line b h.2,
  )
  configuration_up n w r (try s a m ms k b) h = record {
    mode = h.mode;
    atom = atom_up n s.next w r.node r.frame r.program r.level a h.atom;
    position = position_up n w r (m ∷ ms) h.position;
    place = h.place;
    first = h.first;
    low = let l = h.low in omega arith;
    branch = branch_up T n s.next w r.goals r.path r.line b h.branch;
  }
  configuration_up n w r (match (pairs s []) b) h = h
  configuration_up n w r (match (pairs s (p ∷ ps)) b) h = record {
    mode = h.mode;
    stood = h.stood;
    waits = pairs_up T n s.next s.next (h.stood ∷ ps) w r.pairs (omega arith) h.waits;
    sides = sides_up n s.next w r h.stood p h.sides;
    branch = branch_up T n s.next w r.goals r.path r.line b h.branch;
  }
  configuration_up n w r (match (check s y t x ns ps) b) h = record {
    mode = h.mode;
    variable = h.variable;
    value = word_up T n s.next s.next w (omega arith) h.value;
    nodes = due_up n s.next w r.node r.nodes x ns h.nodes;
    pairs = pairs_up T n s.next s.next ps w r.pairs (omega arith) h.pairs;
    branch = branch_up T n s.next w r.goals r.path r.line b h.branch;
  }
  configuration_up n w r (match fail b) h = h
  configuration_up n w r (done s ls) h = (h.0, path_up n s.next ls w r.path r.line h.1, h.2)
