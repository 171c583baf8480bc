-- Programs, open goals and the path in memory, and that they stay.
use Prim.Native.Nat.{ℕ, zero, suc, ◌+◌, ◌-◌, ◌*◌, ◌≤◌, ◌<◌}
use native.Mathlib.Omega.{arith}
use mathlib.Core.Bool.{Bool, true, false, cond}
use mathlib.Core.Path.{◌≡◌, refl, sym, ap, ap₂, ◌∙◌, fun_ext, subst}
use mathlib.Core.List.{List, [], ◌∷◌, ◌++◌, map}
use mathlib.Core.Logic.{inl}
use lib.Dec.{ltb}
use lib.ListN.{length}
use borrow.Author.Tests.{ltb-true, ne_eqb}
use Rattle.terms.specs.Terms.{sheet_symbol, leaf, app, nil}
use Rattle.formulas.specs.Formulas.{Clause}
use Rattle.formulas.specs.Rules.{rules, assume}
use Rattle.sequents.specs.Sequents.{Environment, Program, Hypothesis, hypothesis, Sequent, Line}
use Rattle.unification.specs.Store.{Leaf, var}
use Rattle.search.specs.Configurations.{Branch}
use Rattle.search.specs.Search.{start_environment}
use Rattle.sheet_format.specs.Limits.{numbers_per_unit}
use Rattle.node_table.specs.Decoding.{goal_at, clause_at_node, clauses_from, order_of}
use Rattle.node_table.specs.WellMade.{IsGoal, IsClause}
use Rattle.machine.specs.Fields as fields
use Rattle.machine.specs.Words.{slot_of, leaf_of, environment_at, variable_word}
use Rattle.machine.specs.AssumptionChains.{put_chain}
use Rattle.machine.specs.LinkedChains.{Linked}
use Rattle.machine.specs.Reading.{line_at, path_from}
use Rattle.machine.proofs.Words.{variable_small}
use Rattle.machine.proofs.MemoryOrder.{Extends, extends_back}
use Rattle.machine.proofs.LinkedChains.{linked_extends, chain_other, extends_chain, linked_chain}
use Rattle.machine.proofs.Tables.{Table}
use Rattle.machine.proofs.Terms.{FrameAt, frame_up, frame_extends, environment_extends, variable_leaf}
use Rattle.memory.specs.Records.{field}
use Rattle.clause_members.specs.declared.Found.{Found}
use Rattle.clause_members.proofs.Members.{LeafNode, FoundAt}

-- Frame 0 is the first environment.
pub first_environment : (w : List ℕ) → environment_at w 0 ≡ start_environment
unfolding environment_at start_environment slot_of
first_environment w = fun_ext (λ v. go v (ltb v 8) refl)
  where
    go : (v : ℕ) (b : Bool) → ltb v 8 ≡ b → cond b (leaf (leaf_of w (variable_word v))) (app (sheet_symbol 0) nil) ≡ cond b (leaf (var v)) (app (sheet_symbol 0) nil)
    go v true q = let l = ltb-true v 8 q in ap leaf (ap (leaf_of w) (variable_small v (omega arith)) ∙ variable_leaf w v)
    go v false q = refl

-- A memory that extends another up to record n does so up to fewer records.
pub extends_less : (lo n m : ℕ) (w w' : List ℕ) → m ≤ n → Extends lo n w w' → Extends lo m w w'
extends_less lo n m w w' l h = record { len = h.len; old = λ u f a b c. h.old u f (omega arith) b c }

-- A line's variables are below x.
pub record LineBelow (x : ℕ) (w : List ℕ) (r k : ℕ) : Type 0 where
  pub kind : k ≤ 7
  pub some : k ≡ 5 → field w r fields.variables < x
  pub clause : k ≡ 7 → field w r fields.use_count + field w r fields.variables ≤ x

-- The path. A line is in an earlier record than the one after it.
unfoldable pub PathAt : ℕ → ℕ → List (Line Leaf) → List ℕ → ℕ → ℕ → Type 0
PathAt n x [] w zero k = Unit {0}
PathAt n x [] w (suc r) k = ⊥
PathAt n x (l ∷ ls) w zero k = ⊥
PathAt n x (l ∷ ls) w (suc r) k =
    (r < n) × (line_at w r k ≡ l) × LineBelow x w r k × PathAt r x ls w (field w r fields.path_before) (field w r fields.path_line)

-- It stays.
line_extends : (n : ℕ) (w w' : List ℕ) (r k : ℕ) → Extends fields.constant_level n w w' → r < n → line_at w' r k ≡ line_at w r k
unfolding line_at
line_extends n w w' r k h l =
    rw (
      h.old r fields.constant_level l (omega arith) (omega arith),
      h.old r fields.use_place l (omega arith) (omega arith),
      h.old r fields.use_count l (omega arith) (omega arith),
      h.old r fields.variables l (omega arith) (omega arith),
    )

-- The path stays in an extended memory.
pub path_extends : (n x : ℕ) (ls : List (Line Leaf)) (w w' : List ℕ) (p k : ℕ) → Extends fields.constant_level n w w' → PathAt n x ls w p k
    → PathAt n x ls w' p k
unfolding PathAt
path_extends n x [] w w' zero k h c = tt
path_extends n x [] w w' (suc r) k h c = c
path_extends n x (y ∷ ls) w w' zero k h c = c
path_extends n x (y ∷ ls) w w' (suc r) k h c =
    let l = c.0 in
    let b = c.2 in
    let e₂ = h.old r fields.use_count l (omega arith) (omega arith) in
    let e₃ = h.old r fields.variables l (omega arith) (omega arith) in (
      l,
      line_extends n w w' r k h l ∙ c.1,
      record { kind = b.kind; some = λ q. rw e₃ (b.some q); clause = λ q. rw (e₂, e₃) (b.clause q) },
      rw (h.old r fields.path_before l (omega arith) (omega arith), h.old r fields.path_line l (omega arith) (omega arith))
          (path_extends r x ls w w' (field w r fields.path_before) (field w r fields.path_line)
          (extends_less fields.constant_level n r w w' (omega arith) h) c.3),
    )

-- A line's variables stay below a greater bound.
line_wider : (x y : ℕ) (w : List ℕ) (r k : ℕ) → x ≤ y → LineBelow x w r k → LineBelow y w r k
line_wider x y w r k l b =
    record { kind = b.kind; some = λ q. let m = b.some q in omega arith; clause = λ q. let m = b.clause q in omega arith }

-- The path's variables stay below a greater bound.
pub path_wider : (n x y : ℕ) (ls : List (Line Leaf)) (w : List ℕ) (p k : ℕ) → x ≤ y → PathAt n x ls w p k → PathAt n y ls w p k
unfolding PathAt
path_wider n x y [] w zero k b c = tt
path_wider n x y [] w (suc r) k b c = c
path_wider n x y (l ∷ ls) w zero k b c = c
path_wider n x y (l ∷ ls) w (suc r) k b c =
    (c.0, c.1, line_wider x y w r k b c.2, path_wider r x y ls w (field w r fields.path_before) (field w r fields.path_line) b c.3)

-- The path stays one act later.
pub path_up : (n x : ℕ) (ls : List (Line Leaf)) (w : List ℕ) (p k : ℕ) → PathAt n x ls w p k → PathAt (suc n) x ls w p k
unfolding PathAt
path_up n x [] w zero k c = tt
path_up n x [] w (suc r) k c = c
path_up n x (y ∷ ls) w zero k c = c
path_up n x (y ∷ ls) w (suc r) k c = (let l = c.0 in omega arith, c.1, c.2, c.3)

-- It is read back.
pub path_read : (f n x : ℕ) (ls : List (Line Leaf)) (w : List ℕ) (p k : ℕ) → n ≤ f → PathAt n x ls w p k → path_from f w p k ≡ ls
unfolding PathAt path_from
path_read zero n x [] w zero k h c = refl
path_read zero n x [] w (suc r) k h c = absurd c
path_read zero n x (y ∷ ls) w zero k h c = absurd c
path_read zero n x (y ∷ ls) w (suc r) k h c = absurd (let l = c.0 in omega arith)
path_read (suc f) n x [] w zero k h c = refl
path_read (suc f) n x [] w (suc r) k h c = absurd c
path_read (suc f) n x (y ∷ ls) w zero k h c = absurd c
path_read (suc f) n x (y ∷ ls) w (suc r) k h c =
    let e : suc r - 1 ≡ r = omega arith in
    let l = c.0 in
    rw (path_from, ne_eqb (suc r) 0 (λ q. omega arith), e)
    (ap₂ ◌∷◌ c.1 (path_read f r x ls w (field w r fields.path_before) (field w r fields.path_line) (omega arith) c.3))

-- The first k of a list, from the k-th back to the first.
unfoldable pub backwards : {A : Type 0} → ℕ → List A → List A
backwards zero l = []
backwards (suc k) [] = []
backwards (suc k) (a ∷ l) = backwards k l ++ (a ∷ [])

-- Nothing more is known of a clause.
abbrev pub Anything : Clause → Type 0
Anything c = Unit {0}

module _ (T : Table) where
  -- A node of a goal, and of a clause.
  abbrev pub GoalOf : ℕ → Type 0
  GoalOf n = (n < T.nodes) × IsGoal T.numbers n

  -- A node of a clause.
  abbrev pub ClauseOf : ℕ → Type 0
  ClauseOf n = (n < T.nodes) × IsClause T.numbers n

  -- A leaf of a clause, and a member of it.
  abbrev pub LeafOf : ℕ → Type 0
  LeafOf n = LeafNode T.numbers T.nodes Anything n

  abbrev pub FoundOf : ℕ → ℕ → Found → Type 0
  FoundOf n k m = FoundAt T.numbers T.nodes Anything n k m

  -- The sheet's clauses from the i-th on, c of them.
  abbrev pub sheet_from : ℕ → ℕ → List (Hypothesis Leaf)
  sheet_from c i = map (λ d. hypothesis d start_environment) (clauses_from T.numbers c i)

  -- The program of the sheet, in the order in force, with the assumptions l, latest first.
  unfoldable pub assuming : List (Hypothesis Leaf) → Program Leaf
  assuming [] = rules (order_of T.numbers) (sheet_from T.clauses 0)
  assuming (h ∷ l) = assume h (assuming l)

  -- Assumptions, latest first, each in an earlier record than the one before it.
  pub data AssumedAt (n : ℕ) (w : List ℕ) : ℕ → List (Hypothesis Leaf) → Type 0 where
    assumed_none : AssumedAt n w zero []
    assumed_more : {c : Clause} {e : Environment Leaf} {l : List (Hypothesis Leaf)} (r : ℕ) → r < n
        → ClauseOf (field w r fields.assumption_node) → FrameAt n w (field w r fields.assumption_frame)
        → clause_at_node T.numbers (field w r fields.assumption_node) ≡ c → environment_at w (field w r fields.assumption_frame) ≡ e
        → AssumedAt n w (field w r fields.assumption_next) l → field w r fields.assumption_next ≤ r
        → AssumedAt n w (suc r) (hypothesis c e ∷ l)

  -- A program: the chain of its assumptions is linked, so that each is found from the oldest end.
  pub record ProgramAt (n : ℕ) (w : List ℕ) (h : ℕ) (P : Program Leaf) : Type 0 where
    pub assumptions : List (Hypothesis Leaf)
    pub at : AssumedAt n w h assumptions
    pub linked : Linked (length assumptions) w h
    pub is : P ≡ assuming assumptions

  -- Assumptions stay in an extended memory.
  pub assumed_extends : (n : ℕ) (w w' : List ℕ) {h : ℕ} {l : List (Hypothesis Leaf)} → Extends fields.constant_level n w w'
      → AssumedAt n w h l → AssumedAt n w' h l
  assumed_extends n w w' e assumed_none = assumed_none
  assumed_extends n w w' e (assumed_more {l = l} r b c f i j p a) =
      let e₁ = e.old r fields.assumption_node b (omega arith) (omega arith) in
      let e₂ = e.old r fields.assumption_frame b (omega arith) (omega arith) in
      let e₃ = e.old r fields.assumption_next b (omega arith) (omega arith) in
      assumed_more r b (rw e₁ c) (rw e₂ (frame_extends n w w' (field w r fields.assumption_frame) e f)) (ap (clause_at_node T.numbers) e₁
      ∙ i)
      (ap (environment_at w') e₂ ∙ environment_extends n w w' (field w r fields.assumption_frame) e f ∙ j)
      (subst (λ (x : ℕ). AssumedAt n w' x l) (sym e₃) (assumed_extends n w w' e p)) (rw e₃ a)

  -- Assumptions stay one act later.
  pub assumed_up : (n : ℕ) (w : List ℕ) {h : ℕ} {l : List (Hypothesis Leaf)} → AssumedAt n w h l → AssumedAt (suc n) w h l
  assumed_up n w assumed_none = assumed_none
  assumed_up n w (assumed_more r b c f i j p a) =
      assumed_more r (omega arith) c (frame_up n w (field w r fields.assumption_frame) f) i j (assumed_up n w p) a

  -- Assumptions were made before.
  pub assumed_le : (n : ℕ) (w : List ℕ) {h : ℕ} {l : List (Hypothesis Leaf)} → AssumedAt n w h l → h ≤ n
  assumed_le n w assumed_none = omega arith
  assumed_le n w (assumed_more r b c f i j p a) = omega arith

  -- A program stays in an extended memory.
  pub program_extends : (n : ℕ) (w w' : List ℕ) {h : ℕ} {P : Program Leaf} → Extends fields.constant_level n w w' → ProgramAt n w h P
      → ProgramAt n w' h P
  program_extends n w w' {h = h} e p = record {
    assumptions = p.assumptions;
    at = assumed_extends n w w' e p.at;
    linked = linked_extends n w w' e (length p.assumptions) h (assumed_le n w p.at) p.linked;
    is = p.is;
  }

  -- A program stays one act later.
  pub program_up : (n : ℕ) (w : List ℕ) {h : ℕ} {P : Program Leaf} → ProgramAt n w h P → ProgramAt (suc n) w h P
  program_up n w p = record { assumptions = p.assumptions; at = assumed_up n w p.at; linked = p.linked; is = p.is }

  -- The pointer of a program names a record made before, or none.
  pub program_le : (n : ℕ) (w : List ℕ) {h : ℕ} {P : Program Leaf} → ProgramAt n w h P → h ≤ n
  program_le n w p = assumed_le n w p.at

  -- The program of the sheet has no assumption.
  pub program_sheet : (n : ℕ) (w : List ℕ) → ProgramAt n w 0 (rules (order_of T.numbers) (sheet_from T.clauses 0))
  unfolding assuming Linked
  program_sheet n w = record { assumptions = []; at = assumed_none; linked = refl; is = refl }

  -- The record of act n, with its place in the chain, makes the program p longer by its clause.
  pub program_assumed : (n : ℕ) (w : List ℕ) (p : ℕ) (P : Program Leaf) (c : Clause) (e : Environment Leaf)
      → ProgramAt (suc n) (put_chain w n p) p P → p ≤ n → n < 4294967295 → numbers_per_unit * suc n ≤ length w
      → field w n fields.assumption_next ≡ p → ClauseOf (field (put_chain w n p) n fields.assumption_node)
      → FrameAt (suc n) (put_chain w n p) (field (put_chain w n p) n fields.assumption_frame)
      → clause_at_node T.numbers (field (put_chain w n p) n fields.assumption_node) ≡ c
      → environment_at (put_chain w n p) (field (put_chain w n p) n fields.assumption_frame) ≡ e
      → ProgramAt (suc n) (put_chain w n p) (suc n) (assume (hypothesis c e) P)
  unfolding assuming
  program_assumed n w p P c e h b s room z i f j k =
      let l = h.assumptions in
      let next : field (put_chain w n p) n fields.assumption_next ≡ p =
      chain_other w n p n fields.assumption_next (omega arith) (inl (omega arith)) ∙ z in
      let before = linked_extends n (put_chain w n p) w (extends_back n w (put_chain w n p) (extends_chain n w n p (omega arith))) (length l)
      p b h.linked in
      record {
        assumptions = hypothesis c e ∷ l;
        at =
            assumed_more n (omega arith) i f j k (subst (λ (x : ℕ). AssumedAt (suc n) (put_chain w n p) x l) (sym next) h.at)
            (rw next b);
        linked = linked_chain (length l) w n p before b s room z;
        is = ap (assume (hypothesis c e)) h.is;
      }

  -- An open goal in four numbers.
  pub record SequentAt (n : ℕ) (w : List ℕ) (a f h i : ℕ) (g : Sequent Leaf) : Type 0 where
    pub node : GoalOf a
    pub goal : goal_at T.numbers a ≡ g.goal
    pub frame : FrameAt n w f
    pub environment : environment_at w f ≡ g.environment
    pub program : ProgramAt n w h g.program
    pub level : i ≡ g.level
    pub low : i ≤ n

  -- An open goal stays in an extended memory.
  pub sequent_extends : (n : ℕ) (w w' : List ℕ) (a f h i : ℕ) (g : Sequent Leaf) → Extends fields.constant_level n w w'
      → SequentAt n w a f h i g → SequentAt n w' a f h i g
  sequent_extends n w w' a f h i g e c = record {
    node = c.node;
    goal = c.goal;
    frame = frame_extends n w w' f e c.frame;
    environment = environment_extends n w w' f e c.frame ∙ c.environment;
    program = program_extends n w w' e c.program;
    level = c.level;
    low = c.low;
  }

  -- An open goal stays one act later.
  pub sequent_up : (n : ℕ) (w : List ℕ) (a f h i : ℕ) (g : Sequent Leaf) → SequentAt n w a f h i g → SequentAt (suc n) w a f h i g
  sequent_up n w a f h i g c = record {
    node = c.node;
    goal = c.goal;
    frame = frame_up n w f c.frame;
    environment = c.environment;
    program = program_up n w c.program;
    level = c.level;
    low = let l = c.low in omega arith;
  }

  -- The goals that wait, each in an earlier record than the one before it.
  unfoldable pub GoalsAt : ℕ → List (Sequent Leaf) → List ℕ → ℕ → Type 0
  GoalsAt n [] w zero = Unit {0}
  GoalsAt n [] w (suc r) = ⊥
  GoalsAt n (g ∷ gs) w zero = ⊥
  GoalsAt n (g ∷ gs) w (suc r) =
      (r < n) × SequentAt n w (field w r fields.goal_node) (field w r fields.goal_frame) (field w r fields.goal_program)
      (field w r fields.goal_level) g × GoalsAt n gs w (field w r fields.goal_next) × (field w r fields.goal_next ≤ r)

  -- The goals that wait stay in an extended memory.
  pub goals_extends : (n : ℕ) (gs : List (Sequent Leaf)) (w w' : List ℕ) (p : ℕ) → Extends fields.constant_level n w w' → GoalsAt n gs w p
      → GoalsAt n gs w' p
  unfolding GoalsAt
  goals_extends n [] w w' zero e c = tt
  goals_extends n [] w w' (suc r) e c = c
  goals_extends n (g ∷ gs) w w' zero e c = c
  goals_extends n (g ∷ gs) w w' (suc r) e c =
      let l = c.0 in
      rw (
        e.old r fields.goal_node l (omega arith) (omega arith),
        e.old r fields.goal_frame l (omega arith) (omega arith),
        e.old r fields.goal_program l (omega arith) (omega arith),
        e.old r fields.goal_level l (omega arith) (omega arith),
        e.old r fields.goal_next l (omega arith) (omega arith),
      ) (
        l,
        sequent_extends n w w' (field w r fields.goal_node) (field w r fields.goal_frame) (field w r fields.goal_program)
            (field w r fields.goal_level) g e c.1,
        goals_extends n gs w w' (field w r fields.goal_next) e c.2,
        c.3,
      )

  -- The goals that wait stay one act later.
  pub goals_up : (n : ℕ) (gs : List (Sequent Leaf)) (w : List ℕ) (p : ℕ) → GoalsAt n gs w p → GoalsAt (suc n) gs w p
  unfolding GoalsAt
  goals_up n [] w zero c = tt
  goals_up n [] w (suc r) c = c
  goals_up n (g ∷ gs) w zero c = c
  goals_up n (g ∷ gs) w (suc r) c = (
    let l = c.0 in omega arith,
    sequent_up n w (field w r fields.goal_node) (field w r fields.goal_frame) (field w r fields.goal_program)
        (field w r fields.goal_level) g c.1,
    goals_up n gs w (field w r fields.goal_next) c.2,
    c.3,
  )

  -- Goals that wait were made before.
  pub goals_le : (n : ℕ) (gs : List (Sequent Leaf)) (w : List ℕ) (p : ℕ) → GoalsAt n gs w p → p ≤ n
  unfolding GoalsAt
  goals_le n [] w zero c = omega arith
  goals_le n [] w (suc r) c = absurd c
  goals_le n (g ∷ gs) w zero c = absurd c
  goals_le n (g ∷ gs) w (suc r) c = let l = c.0 in omega arith

  -- A branch: the goals that wait and the path.
  pub record BranchAt (n x : ℕ) (w : List ℕ) (goals path line : ℕ) (b : Branch) : Type 0 where
    pub waiting : GoalsAt n b.goals w goals
    pub taken : PathAt n x b.path w path line

  -- A branch stays in an extended memory.
  pub branch_extends : (n x : ℕ) (w w' : List ℕ) (q p l : ℕ) (b : Branch) → Extends fields.constant_level n w w' → BranchAt n x w q p l b
      → BranchAt n x w' q p l b
  branch_extends n x w w' q p l b e c =
      record { waiting = goals_extends n b.goals w w' q e c.waiting; taken = path_extends n x b.path w w' p l e c.taken }

  -- A branch stays one act later.
  pub branch_up : (n x : ℕ) (w : List ℕ) (q p l : ℕ) (b : Branch) → BranchAt n x w q p l b → BranchAt (suc n) x w q p l b
  branch_up n x w q p l b c = record { waiting = goals_up n b.goals w q c.waiting; taken = path_up n x b.path w p l c.taken }
