-- Reading the table back: a node below `nodes` that is a term, a goal or a clause has the same tree in every table that is the same
-- there, whatever the fuel above its number; and its tree by its kind.
use Prim.Native.Nat.{ℕ, zero, suc, ◌+◌, ◌<◌, ◌≤◌}
use native.Mathlib.Omega.{arith}
use mathlib.Core.Path.{◌≡◌, refl, sym, ap, ap₂, ◌∙◌}
use mathlib.Core.Bool.{Bool, true, false}
use mathlib.Core.List.{List}
use lib.Dec.{eqb}
use borrow.Author.Tests.{eqb-true, eqb-false}
use Rattle.terms.specs.Terms.{Term, leaf, app, cons}
use Rattle.formulas.specs.Formulas.{Goal, atom, truth, and, or, implies, exists, forall, fact, rule, both, each}
use Rattle.node_table.specs.Layout.{kind_of, child_count, label_of, child_of, forall_kind, implies_kind, and_kind, atom_kind, exists_kind}
use Rattle.node_table.specs.Layout.{or_kind, true_kind, application_kind, variable_kind}
use Rattle.node_table.specs.Decoding.{functor_of, children_by, term_by, term_at, arguments_at, goal_by, clause_by, goal_at, clause_at_node}
use Rattle.node_table.specs.WellMade.{IsTerm, IsGoal, IsClause, Arguments, TermNode, GoalNode, ClauseNode, WellMade}
use Rattle.node_table.proofs.Same.{Same, same_self, same_kind, same_count, same_label, same_child}

-- The nodes below `nodes` are as the reader makes them.
pub record Nodes (t : List ℕ) (nodes : ℕ) : Type 0 where
  pub term : (n : ℕ) → n < nodes → IsTerm t n → TermNode t n
  pub goal : (n : ℕ) → n < nodes → IsGoal t n → GoalNode t n
  pub clause : (n : ℕ) → n < nodes → IsClause t n → ClauseNode t n

pub nodes_of_lem : (t : List ℕ) (nodes clauses goal : ℕ) → WellMade t nodes clauses goal → Nodes t nodes
nodes_of_lem t nodes clauses goal w = record { term = w.term; goal = w.goal_node; clause = w.clause_nodes }

-- The kinds that a goal or a clause may have.
pub data GoalKind (k : ℕ) : Type 0 where
  atom_kind_lem : k ≡ 2 → GoalKind k
  true_kind_lem : k ≡ 3 → GoalKind k
  and_kind_lem : k ≡ 4 → GoalKind k
  or_kind_lem : k ≡ 5 → GoalKind k
  implies_kind_lem : k ≡ 6 → GoalKind k
  exists_kind_lem : k ≡ 7 → GoalKind k
  forall_kind_lem : k ≡ 8 → GoalKind k

pub data ClauseKind (k : ℕ) : Type 0 where
  fact_kind : k ≡ 2 → ClauseKind k
  both_kind : k ≡ 4 → ClauseKind k
  rule_kind : k ≡ 6 → ClauseKind k
  each_kind : k ≡ 8 → ClauseKind k

-- Two numbers are equal, or they are not.
decided : (R : Type 0) (k j : ℕ) → (k ≡ j → R) → ((k ≡ j → ⊥) → R) → R
decided R k j f g = go (eqb k j) refl
  where
    go : (b : Bool) → eqb k j ≡ b → R
    go true e = f (eqb-true k j e)
    go false e = g (eqb-false k j e)

pub goal_kind : (k : ℕ) → 2 ≤ k → k ≤ 8 → GoalKind k
goal_kind k h l =
    decided (GoalKind k) k 2 atom_kind_lem (λ a. decided (GoalKind k) k 3 true_kind_lem (λ b. decided (GoalKind k) k 4 and_kind_lem
    (λ c. decided (GoalKind k) k 5 or_kind_lem (λ d. decided (GoalKind k) k 6 implies_kind_lem (λ e. decided (GoalKind k) k 7 exists_kind_lem
    (λ f. forall_kind_lem (omega arith)))))))

pub clause_kind : (k : ℕ) → ((k ≡ 2 → ⊥) → (k ≡ 4 → ⊥) → (k ≡ 6 → ⊥) → k ≡ 8) → ClauseKind k
clause_kind k h =
    decided (ClauseKind k) k 2 fact_kind
    (λ a. decided (ClauseKind k) k 4 both_kind (λ b. decided (ClauseKind k) k 6 rule_kind (λ c. each_kind (h a b c))))

-- by kind, at any fuel

module _ (f : ℕ) (t : List ℕ) (n : ℕ) where
  pub term_by_variable : kind_of t n ≡ variable_kind → term_by (suc f) t n ≡ leaf (label_of t n)
  unfolding term_by
  term_by_variable e = rw (term_by, e)

  pub term_by_application : kind_of t n ≡ application_kind
      → term_by (suc f) t n ≡ app (functor_of (label_of t n)) (children_by (term_by f t) t n (child_count t n) 0)
  unfolding term_by
  term_by_application e = rw (term_by, e)

  pub goal_by_atom : kind_of t n ≡ atom_kind → goal_by (suc f) t n ≡ atom (label_of t n) (arguments_at t n)
  unfolding goal_by
  goal_by_atom e = rw (goal_by, e)

  pub goal_by_true : kind_of t n ≡ true_kind → goal_by (suc f) t n ≡ truth
  unfolding goal_by
  goal_by_true e = rw (goal_by, e, e, e, e, e, e)

  pub goal_by_and : kind_of t n ≡ and_kind → goal_by (suc f) t n ≡ and (goal_by f t (child_of t n 0)) (goal_by f t (child_of t n 1))
  unfolding goal_by
  goal_by_and e = rw (goal_by, e, e)

  pub goal_by_or : kind_of t n ≡ or_kind → goal_by (suc f) t n ≡ or (goal_by f t (child_of t n 0)) (goal_by f t (child_of t n 1))
  unfolding goal_by
  goal_by_or e = rw (goal_by, e, e, e)

  pub goal_by_implies : kind_of t n ≡ implies_kind → goal_by (suc f) t n ≡ implies (clause_by f t (child_of t n 0)) (goal_by f t (child_of t n 1))
  unfolding goal_by
  goal_by_implies e = rw (goal_by, e, e, e, e)

  pub goal_by_exists : kind_of t n ≡ exists_kind → goal_by (suc f) t n ≡ exists (label_of t n) (goal_by f t (child_of t n 0))
  unfolding goal_by
  goal_by_exists e = rw (goal_by, e, e, e, e, e)

  pub goal_by_forall : kind_of t n ≡ forall_kind → goal_by (suc f) t n ≡ forall (label_of t n) (goal_by f t (child_of t n 0))
  unfolding goal_by
  goal_by_forall e = rw (goal_by, e, e, e, e, e, e)

  pub clause_by_fact : kind_of t n ≡ atom_kind → clause_by (suc f) t n ≡ fact (label_of t n) (arguments_at t n)
  unfolding clause_by
  clause_by_fact e = rw (clause_by, e, e, e)

  pub clause_by_both : kind_of t n ≡ and_kind → clause_by (suc f) t n ≡ both (clause_by f t (child_of t n 0)) (clause_by f t (child_of t n 1))
  unfolding clause_by
  clause_by_both e = rw (clause_by, e)

  pub clause_by_rule : kind_of t n ≡ implies_kind
      → clause_by (suc f) t n ≡ rule (goal_by f t (child_of t n 0)) (label_of t (child_of t n 1)) (arguments_at t (child_of t n 1))
  unfolding clause_by
  clause_by_rule e = rw (clause_by, e, e)

  pub clause_by_each : kind_of t n ≡ forall_kind → clause_by (suc f) t n ≡ each (label_of t n) (clause_by f t (child_of t n 0))
  unfolding clause_by
  clause_by_each e = rw (clause_by, e, e, e)

-- two tables that are the same below `nodes`, and any two fuels

-- Children that are read alike make equal lists.
children_agree : (r s : ℕ → Term ℕ) (t u : List ℕ) (n c j : ℕ) → ((i : ℕ) → j ≤ i → i < j + c → r (child_of u n i) ≡ s (child_of t n i))
    → children_by r u n c j ≡ children_by s t n c j
unfolding children_by
children_agree r s t u n zero j h = refl
children_agree r s t u n (suc c) j h =
    ap₂ cons (h j (omega arith) (omega arith)) (children_agree r s t u n c (suc j) (λ i k l. h i (omega arith) (omega arith)))

module _ (t u : List ℕ) (symbols nodes : ℕ) (same : Same t u symbols nodes) where
  -- A node has the same arguments in both tables, where the children are read alike.
  arguments_agree : (r s : ℕ → Term ℕ) (n : ℕ) → n < nodes → Arguments t n → ((i : ℕ) → i < n → IsTerm t i → r i ≡ s i)
      → children_by r u n (child_count u n) 0 ≡ children_by s t n (child_count t n) 0
  arguments_agree r s n h a k =
      ap (λ (c : ℕ). children_by r u n c 0) (same_count t u symbols nodes same n h)
      ∙ children_agree r s t u n (child_count t n) 0 (λ i l m. go i (omega arith))
    where
      go : (i : ℕ) → i < child_count t n → r (child_of u n i) ≡ s (child_of t n i)
      go i l =
          let few = a.few in
          ap r (same_child t u symbols nodes same n h i (omega arith)) ∙ k (child_of t n i) (a.terms i l).0 (a.terms i l).1

  module _ (made : Nodes t nodes) where
    term_step : (f g n : ℕ) → n < nodes → IsTerm t n → ((i : ℕ) → i < n → IsTerm t i → term_by f u i ≡ term_by g t i)
        → term_by (suc f) u n ≡ term_by (suc g) t n
    term_step f g n h i ih =
        let e = same_kind t u symbols nodes same n h in
        let l = same_label t u symbols nodes same n h in
        let m = made.term n h i in
        let o = m.kind in
        decided (term_by (suc f) u n ≡ term_by (suc g) t n) (kind_of t n) 0
        (λ z. term_by_variable f u n (e ∙ z) ∙ ap leaf l ∙ sym (term_by_variable g t n z))
        (λ z.
        let y : kind_of t n ≡ application_kind = omega arith in
        term_by_application f u n (e ∙ y) ∙ ap₂ app (ap functor_of l) (arguments_agree (term_by f u) (term_by g t) n h (m.application y) ih)
        ∙ sym (term_by_application g t n y))

    pub term_agree : (f g n : ℕ) → n < f → n < g → n < nodes → IsTerm t n → term_by f u n ≡ term_by g t n
    term_agree zero g n j k h i = absurd (omega arith)
    term_agree (suc f) zero n j k h i = absurd (omega arith)
    term_agree (suc f) (suc g) n j k h i = term_step f g n h i (λ m l q. term_agree f g m (omega arith) (omega arith) (omega arith) q)

    pub term_at_same : (n : ℕ) → n < nodes → IsTerm t n → term_at u n ≡ term_at t n
    unfolding term_at
    term_at_same n h i = term_agree (suc n) (suc n) n (omega arith) (omega arith) h i

    pub arguments_at_same : (n : ℕ) → n < nodes → Arguments t n → arguments_at u n ≡ arguments_at t n
    unfolding arguments_at
    arguments_at_same n h a = arguments_agree (term_at u) (term_at t) n h a (λ i l q. term_at_same i (omega arith) q)

    module _ (f g n : ℕ) (h : n < nodes) (ihG : (i : ℕ) → i < n → IsGoal t i → goal_by f u i ≡ goal_by g t i)
        (ihC : (i : ℕ) → i < n → IsClause t i → clause_by f u i ≡ clause_by g t i) where
      -- A child that is a goal, or a clause, is read alike in both tables.
      goal_child : (j : ℕ) → j < 4 → child_of t n j < n → IsGoal t (child_of t n j) → goal_by f u (child_of u n j) ≡ goal_by g t (child_of t n j)
      goal_child j l k i = ap (goal_by f u) (same_child t u symbols nodes same n h j l) ∙ ihG (child_of t n j) k i

      clause_child : (j : ℕ) → j < 4 → child_of t n j < n → IsClause t (child_of t n j)
          → clause_by f u (child_of u n j) ≡ clause_by g t (child_of t n j)
      clause_child j l k i = ap (clause_by f u) (same_child t u symbols nodes same n h j l) ∙ ihC (child_of t n j) k i

      goal_step : IsGoal t n → goal_by (suc f) u n ≡ goal_by (suc g) t n
      goal_step i =
          let m = made.goal n h i in
          go m (same_kind t u symbols nodes same n h) (same_label t u symbols nodes same n h) (goal_kind (kind_of t n) m.least m.most)
        where
          go : GoalNode t n → kind_of u n ≡ kind_of t n → label_of u n ≡ label_of t n → GoalKind (kind_of t n)
              → goal_by (suc f) u n ≡ goal_by (suc g) t n
          go m e l (atom_kind_lem k) = goal_by_atom f u n (e ∙ k) ∙ ap₂ atom l (arguments_at_same n h (m.atom k)) ∙ sym (goal_by_atom g t n k)
          go m e l (true_kind_lem k) = goal_by_true f u n (e ∙ k) ∙ sym (goal_by_true g t n k)
          go m e l (and_kind_lem k) =
              let a = m.and k in
              goal_by_and f u n (e ∙ k) ∙ ap₂ and (goal_child 0 (omega arith) a.0 a.1) (goal_child 1 (omega arith) a.2 a.3)
              ∙ sym (goal_by_and g t n k)
          go m e l (or_kind_lem k) =
              let a = m.or k in
              goal_by_or f u n (e ∙ k) ∙ ap₂ or (goal_child 0 (omega arith) a.0 a.1) (goal_child 1 (omega arith) a.2 a.3)
              ∙ sym (goal_by_or g t n k)
          go m e l (implies_kind_lem k) =
              let a = m.implies k in
              goal_by_implies f u n (e ∙ k) ∙ ap₂ implies (clause_child 0 (omega arith) a.0 a.1)
              (goal_child 1 (omega arith) a.2 a.3) ∙ sym (goal_by_implies g t n k)
          go m e l (exists_kind_lem k) =
              let a = m.exists k in goal_by_exists f u n (e ∙ k) ∙ ap₂ exists l (goal_child 0 (omega arith) a.1 a.2)
              ∙ sym (goal_by_exists g t n k)
          go m e l (forall_kind_lem k) =
              let a = m.forall k in goal_by_forall f u n (e ∙ k) ∙ ap₂ forall l (goal_child 0 (omega arith) a.1 a.2)
              ∙ sym (goal_by_forall g t n k)

      -- The head of a rule is read alike in both tables.
      head_agree : child_of t n 1 < n → Arguments t (child_of t n 1) → (goal goal' : Goal) → goal ≡ goal'
          → rule goal (label_of u (child_of u n 1)) (arguments_at u (child_of u n 1)) ≡ rule goal' (label_of t (child_of t n 1))
          (arguments_at t (child_of t n 1))
      head_agree k a x y q =
          let d = same_child t u symbols nodes same n h 1 (omega arith) in
          let v : label_of u (child_of u n 1) ≡ label_of t (child_of t n 1) = ap (label_of u) d
          ∙ same_label t u symbols nodes same (child_of t n 1) (omega arith) in
          let w : arguments_at u (child_of u n 1) ≡ arguments_at t (child_of t n 1) = ap (arguments_at u) d
          ∙ arguments_at_same (child_of t n 1) (omega arith) a in
          cc

      clause_step : IsClause t n → clause_by (suc f) u n ≡ clause_by (suc g) t n
      clause_step i =
          let m = made.clause n h i in
          go m (same_kind t u symbols nodes same n h) (same_label t u symbols nodes same n h) (clause_kind (kind_of t n) m.kind)
        where
          go : ClauseNode t n → kind_of u n ≡ kind_of t n → label_of u n ≡ label_of t n → ClauseKind (kind_of t n)
              → clause_by (suc f) u n ≡ clause_by (suc g) t n
          go m e l (fact_kind k) = clause_by_fact f u n (e ∙ k) ∙ ap₂ fact l (arguments_at_same n h (m.atom k)) ∙ sym (clause_by_fact g t n k)
          go m e l (both_kind k) =
              let a = m.and k in
              clause_by_both f u n (e ∙ k) ∙ ap₂ both (clause_child 0 (omega arith) a.0 a.1)
              (clause_child 1 (omega arith) a.2 a.3) ∙ sym (clause_by_both g t n k)
          go m e l (rule_kind k) =
              let a = m.implies k in
              clause_by_rule f u n (e ∙ k)
              ∙ head_agree a.2 a.4 (goal_by f u (child_of u n 0)) (goal_by g t (child_of t n 0))
              (goal_child 0 (omega arith) a.0 a.1)
              ∙ sym (clause_by_rule g t n k)
          go m e l (each_kind k) =
              let a = m.each k in clause_by_each f u n (e ∙ k) ∙ ap₂ each l (clause_child 0 (omega arith) a.1 a.2)
              ∙ sym (clause_by_each g t n k)

    mutual
      pub goal_agree : (f g n : ℕ) → n < f → n < g → n < nodes → IsGoal t n → goal_by f u n ≡ goal_by g t n
      goal_agree zero g n j k h i = absurd (omega arith)
      goal_agree (suc f) zero n j k h i = absurd (omega arith)
      goal_agree (suc f) (suc g) n j k h i =
          goal_step f g n h (λ m l q. goal_agree f g m (omega arith) (omega arith) (omega arith) q)
          (λ m l q. clause_agree f g m (omega arith) (omega arith) (omega arith) q) i

      pub clause_agree : (f g n : ℕ) → n < f → n < g → n < nodes → IsClause t n → clause_by f u n ≡ clause_by g t n
      clause_agree zero g n j k h i = absurd (omega arith)
      clause_agree (suc f) zero n j k h i = absurd (omega arith)
      clause_agree (suc f) (suc g) n j k h i =
          clause_step f g n h (λ m l q. goal_agree f g m (omega arith) (omega arith) (omega arith) q)
          (λ m l q. clause_agree f g m (omega arith) (omega arith) (omega arith) q) i

    pub goal_at_same : (n : ℕ) → n < nodes → IsGoal t n → goal_at u n ≡ goal_at t n
    unfolding goal_at
    goal_at_same n h i = goal_agree (suc n) (suc n) n (omega arith) (omega arith) h i

    pub clause_at_same : (n : ℕ) → n < nodes → IsClause t n → clause_at_node u n ≡ clause_at_node t n
    unfolding clause_at_node
    clause_at_same n h i = clause_agree (suc n) (suc n) n (omega arith) (omega arith) h i

-- trees by kind

module _ (t : List ℕ) (nodes : ℕ) (made : Nodes t nodes) (n : ℕ) (h : n < nodes) where
  -- A child has its tree at the fuel that its parent has left.
  term_below : (i : ℕ) → i < n → IsTerm t i → term_by n t i ≡ term_at t i
  unfolding term_at
  term_below i l q = term_agree t t 0 nodes (same_self t 0 nodes) made n (suc i) i l (omega arith) (omega arith) q

  goal_below : (i : ℕ) → i < n → IsGoal t i → goal_by n t i ≡ goal_at t i
  unfolding goal_at
  goal_below i l q = goal_agree t t 0 nodes (same_self t 0 nodes) made n (suc i) i l (omega arith) (omega arith) q

  clause_below : (i : ℕ) → i < n → IsClause t i → clause_by n t i ≡ clause_at_node t i
  unfolding clause_at_node
  clause_below i l q = clause_agree t t 0 nodes (same_self t 0 nodes) made n (suc i) i l (omega arith) (omega arith) q

  pub term_variable : IsTerm t n → kind_of t n ≡ variable_kind → term_at t n ≡ leaf (label_of t n)
  unfolding term_at
  term_variable i e = term_by_variable n t n e

  pub term_application : IsTerm t n → kind_of t n ≡ application_kind → term_at t n ≡ app (functor_of (label_of t n)) (arguments_at t n)
  unfolding term_at arguments_at
  term_application i e =
      term_by_application n t n e
      ∙ ap (app (functor_of (label_of t n))) (arguments_agree t t 0 nodes (same_self t 0 nodes) (term_by n t) (term_at t) n h
      ((made.term n h i).application e) term_below)

  pub goal_atom : kind_of t n ≡ atom_kind → goal_at t n ≡ atom (label_of t n) (arguments_at t n)
  unfolding goal_at
  goal_atom e = goal_by_atom n t n e

  pub goal_true : kind_of t n ≡ true_kind → goal_at t n ≡ truth
  unfolding goal_at
  goal_true e = goal_by_true n t n e

  pub goal_and : IsGoal t n → kind_of t n ≡ and_kind → goal_at t n ≡ and (goal_at t (child_of t n 0)) (goal_at t (child_of t n 1))
  unfolding goal_at
  goal_and i e =
      let a = (made.goal n h i).and e in
      goal_by_and n t n e ∙ ap₂ and (goal_below (child_of t n 0) a.0 a.1) (goal_below (child_of t n 1) a.2 a.3)

  pub goal_or_lem : IsGoal t n → kind_of t n ≡ or_kind → goal_at t n ≡ or (goal_at t (child_of t n 0)) (goal_at t (child_of t n 1))
  unfolding goal_at
  goal_or_lem i e =
      let a = (made.goal n h i).or e in
      goal_by_or n t n e ∙ ap₂ or (goal_below (child_of t n 0) a.0 a.1) (goal_below (child_of t n 1) a.2 a.3)

  pub goal_implies : IsGoal t n → kind_of t n ≡ implies_kind
      → goal_at t n ≡ implies (clause_at_node t (child_of t n 0)) (goal_at t (child_of t n 1))
  unfolding goal_at
  goal_implies i e =
      let a = (made.goal n h i).implies e in
      goal_by_implies n t n e ∙ ap₂ implies (clause_below (child_of t n 0) a.0 a.1) (goal_below (child_of t n 1) a.2 a.3)

  pub goal_exists : IsGoal t n → kind_of t n ≡ exists_kind → goal_at t n ≡ exists (label_of t n) (goal_at t (child_of t n 0))
  unfolding goal_at
  goal_exists i e =
      let a = (made.goal n h i).exists e in goal_by_exists n t n e ∙ ap (exists (label_of t n)) (goal_below (child_of t n 0) a.1 a.2)

  pub goal_forall : IsGoal t n → kind_of t n ≡ forall_kind → goal_at t n ≡ forall (label_of t n) (goal_at t (child_of t n 0))
  unfolding goal_at
  goal_forall i e =
      let a = (made.goal n h i).forall e in goal_by_forall n t n e ∙ ap (forall (label_of t n)) (goal_below (child_of t n 0) a.1 a.2)

  pub clause_fact : kind_of t n ≡ atom_kind → clause_at_node t n ≡ fact (label_of t n) (arguments_at t n)
  unfolding clause_at_node
  clause_fact e = clause_by_fact n t n e

  pub clause_both : IsClause t n → kind_of t n ≡ and_kind
      → clause_at_node t n ≡ both (clause_at_node t (child_of t n 0)) (clause_at_node t (child_of t n 1))
  unfolding clause_at_node
  clause_both i e =
      let a = (made.clause n h i).and e in
      clause_by_both n t n e ∙ ap₂ both (clause_below (child_of t n 0) a.0 a.1) (clause_below (child_of t n 1) a.2 a.3)

  pub clause_rule : IsClause t n → kind_of t n ≡ implies_kind
      → clause_at_node t n ≡ rule (goal_at t (child_of t n 0)) (label_of t (child_of t n 1)) (arguments_at t (child_of t n 1))
  unfolding clause_at_node
  clause_rule i e =
      let a = (made.clause n h i).implies e in
      clause_by_rule n t n e
      ∙ ap (λ (g : Goal). rule g (label_of t (child_of t n 1)) (arguments_at t (child_of t n 1))) (goal_below (child_of t n 0) a.0 a.1)

  pub clause_each : IsClause t n → kind_of t n ≡ forall_kind → clause_at_node t n ≡ each (label_of t n) (clause_at_node t (child_of t n 0))
  unfolding clause_at_node
  clause_each i e =
      let a = (made.clause n h i).each e in clause_by_each n t n e ∙ ap (each (label_of t n)) (clause_below (child_of t n 0) a.1 a.2)
