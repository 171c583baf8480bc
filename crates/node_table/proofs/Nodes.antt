-- What is known of a node stays when the table changes elsewhere: in symbols, nodes and clauses that come after.
use Prim.Native.Nat.{ℕ, ◌+◌, ◌<◌, ◌≤◌}
use native.Mathlib.Omega.{arith}
use mathlib.Core.Path.{◌≡◌, refl, sym, ap, ap₂, ◌∙◌, subst}
use mathlib.Core.Bool.{Bool, true, false, cond}
use mathlib.Core.List.{List}
use lib.Dec.{eqb, ltb}
use lib.ListN.{length}
use borrow.Author.Tests.{ltb-true}
use Rattle.terms.specs.Terms.{Term, size}
use Rattle.formulas.specs.Formulas.{Goal, Clause, free_t, free_g, free_c}
use Rattle.formulas.specs.Members.{members}
use Rattle.sheet_format.specs.Limits.{max_symbols}
use Rattle.node_table.specs.Layout.{kind_of, label_of, child_of, mask_of, bit_of, members_of, arity_of, atom_kind}
use Rattle.node_table.specs.Decoding.{term_at, goal_at, clause_at_node}
use Rattle.node_table.specs.WellMade.{IsTerm, IsGoal, IsClause, label_arity, Arguments, Declared, Labelled, Named, TermNode, GoalNode}
use Rattle.node_table.specs.WellMade.{ChainNode, ClauseNode}
use Rattle.node_table.proofs.Same.{Same, same_kind, same_count, same_label, same_child, same_mask, same_goal, same_members}
use Rattle.node_table.proofs.Same.{same_size, same_arity, same_below, same_names, same_chain, same_names_over, same_count_over}
use Rattle.node_table.proofs.Decoding.{Nodes, term_at_same, goal_at_same, clause_at_same}

module _ (t u : List ℕ) (symbols nodes : ℕ) (s : Same t u symbols nodes) where
  -- A node is a term, a goal or a clause in one table if it is one in the other.
  pub is_term_same : (n : ℕ) → n < nodes → IsTerm t n → IsTerm u n
  is_term_same n h i = let e = same_size t u symbols nodes s n h in omega arith

  pub is_term_back : (n : ℕ) → n < nodes → IsTerm u n → IsTerm t n
  is_term_back n h i = let e = same_size t u symbols nodes s n h in omega arith

  pub is_goal_same : (n : ℕ) → n < nodes → IsGoal t n → IsGoal u n
  is_goal_same n h i = same_goal t u symbols nodes s n h ∙ i

  pub is_goal_back : (n : ℕ) → n < nodes → IsGoal u n → IsGoal t n
  is_goal_back n h i = sym (same_goal t u symbols nodes s n h) ∙ i

  pub is_clause_same : (n : ℕ) → n < nodes → IsClause t n → IsClause u n
  is_clause_same n h i = let e = same_members t u symbols nodes s n h in omega arith

  pub is_clause_back : (n : ℕ) → n < nodes → IsClause u n → IsClause t n
  is_clause_back n h i = let e = same_members t u symbols nodes s n h in omega arith

  module _ (n : ℕ) (h : n < nodes) where
    -- A child that comes before its node and is a term is so in the other table.
    term_child : (j : ℕ) → j < 4 → (child_of t n j < n) × IsTerm t (child_of t n j) → (child_of u n j < n) × IsTerm u (child_of u n j)
    term_child j l p =
        subst (λ (c : ℕ). (c < n) × IsTerm u c) (sym (same_child t u symbols nodes s n h j l))
        (p.0, is_term_same (child_of t n j) (omega arith) p.1)

    goal_child : (j : ℕ) → j < 4 → child_of t n j < n → IsGoal t (child_of t n j) → (child_of u n j < n) × IsGoal u (child_of u n j)
    goal_child j l p q =
        subst (λ (c : ℕ). (c < n) × IsGoal u c) (sym (same_child t u symbols nodes s n h j l))
        (p, is_goal_same (child_of t n j) (omega arith) q)

    clause_child : (j : ℕ) → j < 4 → child_of t n j < n → IsClause t (child_of t n j) → (child_of u n j < n) × IsClause u (child_of u n j)
    clause_child j l p q =
        subst (λ (c : ℕ). (c < n) × IsClause u c) (sym (same_child t u symbols nodes s n h j l))
        (p, is_clause_same (child_of t n j) (omega arith) q)

    -- Declared symbols have their arities in the other table, and numbers take no arguments in either.
    arity_same : (l : ℕ) → Declared symbols l → label_arity u l ≡ label_arity t l
    unfolding label_arity
    arity_same l d = go (ltb l max_symbols) refl
      where
        go : (b : Bool) → ltb l max_symbols ≡ b → cond b (arity_of u l) 0 ≡ cond b (arity_of t l) 0
        go true e = same_arity t u symbols nodes s l (d (ltb-true l max_symbols e))
        go false e = refl

    pub arguments_same : Declared symbols (label_of t n) → Arguments t n → Arguments u n
    arguments_same l a =
        let e = same_label t u symbols nodes s n h in
        let c = same_count t u symbols nodes s n h in
        let few = a.few in
        record {
          many = c ∙ a.many ∙ sym (ap (label_arity u) e ∙ arity_same (label_of t n) l);
          few = omega arith;
          terms = λ j k. term_child j (omega arith) (a.terms j (omega arith));
        }

  -- A label stays what it is, also when symbols are added.
  pub labelled_same : (more n : ℕ) → symbols ≤ more → n < nodes → Labelled t symbols n → Labelled u more n
  labelled_same more n m h a =
      let e = same_kind t u symbols nodes s n h in
      let f = same_label t u symbols nodes s n h in
      let most = a.most in
      record {
        declared = λ l. let d = a.declared (omega arith) in omega arith;
        most = omega arith;
        predicate = λ k. let p = a.predicate (sym e ∙ k) in omega arith;
      }

  module _ (made : Nodes t nodes) (named : Named t nodes symbols) where
    -- An older node has its arguments in the other table.
    older : (n : ℕ) → n < nodes → (k : ℕ) → kind_of t n ≡ k → 1 ≤ k → k ≤ 2 → Arguments t n → Arguments u n
    older n h k e l m a = arguments_same n h (named n h (omega arith) (omega arith)).declared a

    free_same : (n : ℕ) → n < nodes → (f f' : ℕ → Bool) → ((v : ℕ) → v < 8 → eqb (bit_of (mask_of t n) v) 1 ≡ f v) → ((v : ℕ) → f v ≡ f' v)
        → (v : ℕ) → v < 8 → eqb (bit_of (mask_of u n) v) 1 ≡ f' v
    free_same n h f f' p q v l = ap (λ (m : ℕ). eqb (bit_of m v) 1) (same_mask t u symbols nodes s n h) ∙ p v l ∙ q v

    pub term_same : (n : ℕ) → n < nodes → IsTerm t n → TermNode u n
    term_same n h i =
        let m = made.term n h i in
        let e = same_kind t u symbols nodes s n h in
        let l = same_label t u symbols nodes s n h in
        let tree = sym (term_at_same t u symbols nodes s made n h i) in
        let kind = m.kind in
        record {
          kind = omega arith;
          variable = λ k. subst (λ (x : ℕ). x < 8) (sym l) (m.variable (sym e ∙ k));
          application = λ k. older n h 1 (sym e ∙ k) (omega arith) (omega arith) (m.application (sym e ∙ k));
          size = same_size t u symbols nodes s n h ∙ m.size ∙ ap size tree;
          free = free_same n h (free_t (term_at t n)) (free_t (term_at u n)) m.free (λ v. ap (λ (x : Term ℕ). free_t x v) tree);
        }

    pub goal_same : (n : ℕ) → n < nodes → IsGoal t n → GoalNode u n
    goal_same n h i =
        let m = made.goal n h i in
        let e = same_kind t u symbols nodes s n h in
        let l = same_label t u symbols nodes s n h in
        let tree = sym (goal_at_same t u symbols nodes s made n h i) in
        let least = m.least in
        let most = m.most in
        record {
          least = omega arith;
          most = omega arith;
          atom = λ k. older n h 2 (sym e ∙ k) (omega arith) (omega arith) (m.atom (sym e ∙ k));
          and = λ k. let a = m.and (sym e ∙ k) in
              let x = goal_child n h 0 (omega arith) a.0 a.1 in let y = goal_child n h 1 (omega arith) a.2 a.3 in
              (x.0, x.1, y.0, y.1);
          or = λ k. let a = m.or (sym e ∙ k) in
              let x = goal_child n h 0 (omega arith) a.0 a.1 in let y = goal_child n h 1 (omega arith) a.2 a.3 in
              (x.0, x.1, y.0, y.1);
          implies = λ k. let a = m.implies (sym e ∙ k) in
              let x = clause_child n h 0 (omega arith) a.0 a.1 in let y = goal_child n h 1 (omega arith) a.2 a.3 in
              (x.0, x.1, y.0, y.1);
          exists =
              λ k. let a = m.exists (sym e ∙ k) in let x = goal_child n h 0 (omega arith) a.1 a.2 in
              (subst (λ (x : ℕ). x < 8) (sym l) a.0, x.0, x.1);
          forall =
              λ k. let a = m.forall (sym e ∙ k) in let x = goal_child n h 0 (omega arith) a.1 a.2 in
              (subst (λ (x : ℕ). x < 8) (sym l) a.0, x.0, x.1);
          free = free_same n h (free_g (goal_at t n)) (free_g (goal_at u n)) m.free (λ v. ap (λ (x : Goal). free_g x v) tree);
        }

    members_child : (n : ℕ) → n < nodes → (j : ℕ) → j < 4 → child_of t n j < n → members_of u (child_of u n j) ≡ members_of t (child_of t n j)
    members_child n h j l k =
        ap (members_of u) (same_child t u symbols nodes s n h j l) ∙ same_members t u symbols nodes s (child_of t n j) (omega arith)

    -- A U node over a keeps in both tables what the U nodes from it on come to.
    pub chain_same : (n v a : ℕ) → n < nodes → a < n → ChainNode t n v a → ChainNode u n v a
    chain_same n v a h l c =
        record {
          below = same_below t u symbols nodes s n h ∙ c.below ∙ sym (same_below t u symbols nodes s a (omega arith));
          names = same_names t u symbols nodes s n h ∙ c.names ∙ sym (same_names_over t u symbols nodes s a (omega arith) v);
          count = same_chain t u symbols nodes s n h ∙ c.count ∙ sym (same_count_over t u symbols nodes s a (omega arith) v);
        }

    pub clause_same : (n : ℕ) → n < nodes → IsClause t n → ClauseNode u n
    clause_same n h i =
        let m = made.clause n h i in
        let e = same_kind t u symbols nodes s n h in
        let l = same_label t u symbols nodes s n h in
        let c = same_members t u symbols nodes s n h in
        let tree = sym (clause_at_same t u symbols nodes s made n h i) in
        let few = m.few in
        record {
          kind = λ p q r. e ∙ m.kind (λ k. p (e ∙ k)) (λ k. q (e ∙ k)) (λ k. r (e ∙ k));
          atom = λ k. older n h 2 (sym e ∙ k) (omega arith) (omega arith) (m.atom (sym e ∙ k));
          and = λ k. let a = m.and (sym e ∙ k) in
              let x = clause_child n h 0 (omega arith) a.0 a.1 in let y = clause_child n h 1 (omega arith) a.2 a.3 in (
                x.0,
                x.1,
                y.0,
                y.1,
                c ∙ a.4
                    ∙ sym (ap₂ ◌+◌ (members_child n h 0 (omega arith) a.0) (members_child n h 1 (omega arith) a.2)),
              );
          implies = λ k. let a = m.implies (sym e ∙ k) in
              let x = goal_child n h 0 (omega arith) a.0 a.1 in
              let d = same_child t u symbols nodes s n h 1 (omega arith) in
              let b = a.2 in
              let f : kind_of u (child_of t n 1) ≡ atom_kind = same_kind t u symbols nodes s (child_of t n 1) (omega arith) ∙ a.3 in
              let g : Arguments u (child_of t n 1) = older (child_of t n 1) (omega arith) 2 a.3 (omega arith) (omega arith) a.4 in (
                x.0,
                x.1,
                subst (λ (i : ℕ). i < n) (sym d) b,
                subst (λ (i : ℕ). kind_of u i ≡ atom_kind) (sym d) f,
                subst (λ (i : ℕ). Arguments u i) (sym d) g,
              );
          each = λ k. let a = m.each (sym e ∙ k) in
              let x = clause_child n h 0 (omega arith) a.1 a.2 in
              (subst (λ (x : ℕ). x < 8) (sym l) a.0, x.0, x.1, c ∙ a.3 ∙ sym (members_child n h 0 (omega arith) a.1));
          chain = λ k. let a = m.each (sym e ∙ k) in
              let d = same_child t u symbols nodes s n h 0 (omega arith) in
              rw (l, d) (chain_same n (label_of t n) (child_of t n 0) h a.1 (m.chain (sym e ∙ k)));
          few = omega arith;
          members = c ∙ m.members ∙ ap (λ (x : Clause). length (members x)) tree;
          free = free_same n h (free_c (clause_at_node t n)) (free_c (clause_at_node u n)) m.free (λ v. ap (λ (x : Clause). free_c x v) tree);
        }
