-- A node of a known kind is a term, a goal or a clause: only that kind's condition is left to show.
use Prim.Native.Nat.{ℕ, ◌+◌, ◌<◌, ◌≤◌}
use native.Mathlib.Omega.{arith}
use mathlib.Core.Path.{◌≡◌}
use mathlib.Core.List.{List}
use lib.Dec.{eqb}
use lib.ListN.{length}
use Rattle.terms.specs.Terms.{size}
use Rattle.formulas.specs.Formulas.{free_t, free_g, free_c}
use Rattle.formulas.specs.Members.{members}
use Rattle.node_table.specs.Layout.{kind_of, label_of, child_of, mask_of, bit_of, members_of, size_of, forall_kind, implies_kind, atom_kind, and_kind}
use Rattle.node_table.specs.Layout.{exists_kind, or_kind, true_kind, application_kind, variable_kind}
use Rattle.node_table.specs.Decoding.{term_at, goal_at, clause_at_node}
use Rattle.node_table.specs.WellMade.{IsGoal, IsClause, Arguments, TermNode, GoalNode, ChainNode, ClauseNode}

-- A child that comes before, and is a goal, or a clause.
abbrev pub GoalChild : List ℕ → ℕ → ℕ → Type 0
GoalChild u n j = (child_of u n j < n) × IsGoal u (child_of u n j)

abbrev pub ClauseChild : List ℕ → ℕ → ℕ → Type 0
ClauseChild u n j = (child_of u n j < n) × IsClause u (child_of u n j)

module _ (u : List ℕ) (n : ℕ) where
  pub a_variable : kind_of u n ≡ variable_kind → label_of u n < 8 → size_of u n ≡ size (term_at u n)
      → ((v : ℕ) → v < 8 → eqb (bit_of (mask_of u n) v) 1 ≡ free_t (term_at u n) v) → TermNode u n
  a_variable e h s f = record { kind = omega arith; variable = λ d. h; application = λ d. absurd (omega arith); size = s; free = f }

  pub an_application : kind_of u n ≡ application_kind → Arguments u n → size_of u n ≡ size (term_at u n)
      → ((v : ℕ) → v < 8 → eqb (bit_of (mask_of u n) v) 1 ≡ free_t (term_at u n) v) → TermNode u n
  an_application e h s f = record { kind = omega arith; variable = λ d. absurd (omega arith); application = λ d. h; size = s; free = f }

  module _ (f : (v : ℕ) → v < 8 → eqb (bit_of (mask_of u n) v) 1 ≡ free_g (goal_at u n) v) where
    pub a_goal_atom : kind_of u n ≡ atom_kind → Arguments u n → GoalNode u n
    a_goal_atom e h =
        record {
          least = omega arith;
          most = omega arith;
          atom = λ d. h;
          and = λ d. absurd (omega arith);
          or = λ d. absurd (omega arith);
          implies = λ d. absurd (omega arith);
          exists = λ d. absurd (omega arith);
          forall = λ d. absurd (omega arith);
          free = f;
        }

    pub a_goal_true : kind_of u n ≡ true_kind → GoalNode u n
    a_goal_true e =
        record {
          least = omega arith;
          most = omega arith;
          atom = λ d. absurd (omega arith);
          and = λ d. absurd (omega arith);
          or = λ d. absurd (omega arith);
          implies = λ d. absurd (omega arith);
          exists = λ d. absurd (omega arith);
          forall = λ d. absurd (omega arith);
          free = f;
        }

    pub a_goal_and : kind_of u n ≡ and_kind → GoalChild u n 0 → GoalChild u n 1 → GoalNode u n
    a_goal_and e x y =
        record {
          least = omega arith;
          most = omega arith;
          atom = λ d. absurd (omega arith);
          and = λ d. (x.0, x.1, y.0, y.1);
          or = λ d. absurd (omega arith);
          implies = λ d. absurd (omega arith);
          exists = λ d. absurd (omega arith);
          forall = λ d. absurd (omega arith);
          free = f;
        }

    pub a_goal_or : kind_of u n ≡ or_kind → GoalChild u n 0 → GoalChild u n 1 → GoalNode u n
    a_goal_or e x y =
        record {
          least = omega arith;
          most = omega arith;
          atom = λ d. absurd (omega arith);
          and = λ d. absurd (omega arith);
          or = λ d. (x.0, x.1, y.0, y.1);
          implies = λ d. absurd (omega arith);
          exists = λ d. absurd (omega arith);
          forall = λ d. absurd (omega arith);
          free = f;
        }

    pub a_goal_implies : kind_of u n ≡ implies_kind → ClauseChild u n 0 → GoalChild u n 1 → GoalNode u n
    a_goal_implies e x y =
        record {
          least = omega arith;
          most = omega arith;
          atom = λ d. absurd (omega arith);
          and = λ d. absurd (omega arith);
          or = λ d. absurd (omega arith);
          implies = λ d. (x.0, x.1, y.0, y.1);
          exists = λ d. absurd (omega arith);
          forall = λ d. absurd (omega arith);
          free = f;
        }

    pub a_goal_exists : kind_of u n ≡ exists_kind → label_of u n < 8 → GoalChild u n 0 → GoalNode u n
    a_goal_exists e h x =
        record {
          least = omega arith;
          most = omega arith;
          atom = λ d. absurd (omega arith);
          and = λ d. absurd (omega arith);
          or = λ d. absurd (omega arith);
          implies = λ d. absurd (omega arith);
          exists = λ d. (h, x.0, x.1);
          forall = λ d. absurd (omega arith);
          free = f;
        }

    pub a_goal_forall : kind_of u n ≡ forall_kind → label_of u n < 8 → GoalChild u n 0 → GoalNode u n
    a_goal_forall e h x =
        record {
          least = omega arith;
          most = omega arith;
          atom = λ d. absurd (omega arith);
          and = λ d. absurd (omega arith);
          or = λ d. absurd (omega arith);
          implies = λ d. absurd (omega arith);
          exists = λ d. absurd (omega arith);
          forall = λ d. (h, x.0, x.1);
          free = f;
        }

  module _ (l : members_of u n ≤ 64) (m : members_of u n ≡ length (members (clause_at_node u n)))
      (f : (v : ℕ) → v < 8 → eqb (bit_of (mask_of u n) v) 1 ≡ free_c (clause_at_node u n) v) where
    pub a_fact : kind_of u n ≡ atom_kind → Arguments u n → ClauseNode u n
    a_fact e h =
        record {
          kind = λ p q r. absurd (p e);
          atom = λ d. h;
          and = λ d. absurd (omega arith);
          implies = λ d. absurd (omega arith);
          each = λ d. absurd (omega arith);
          chain = λ d. absurd (omega arith);
          few = l;
          members = m;
          free = f;
        }

    pub a_conjunction : kind_of u n ≡ and_kind → ClauseChild u n 0 → ClauseChild u n 1
        → members_of u n ≡ members_of u (child_of u n 0) + members_of u (child_of u n 1) → ClauseNode u n
    a_conjunction e x y s =
        record {
          kind = λ p q r. absurd (q e);
          atom = λ d. absurd (omega arith);
          and = λ d. (x.0, x.1, y.0, y.1, s);
          implies = λ d. absurd (omega arith);
          each = λ d. absurd (omega arith);
          chain = λ d. absurd (omega arith);
          few = l;
          members = m;
          free = f;
        }

    pub a_rule : kind_of u n ≡ implies_kind → GoalChild u n 0 → (child_of u n 1 < n) × (kind_of u (child_of u n 1) ≡ atom_kind)
        × Arguments u (child_of u n 1) → ClauseNode u n
    a_rule e x y =
        record {
          kind = λ p q r. absurd (r e);
          atom = λ d. absurd (omega arith);
          and = λ d. absurd (omega arith);
          implies = λ d. (x.0, x.1, y.0, y.1, y.2);
          each = λ d. absurd (omega arith);
          chain = λ d. absurd (omega arith);
          few = l;
          members = m;
          free = f;
        }

    pub a_quantified : kind_of u n ≡ forall_kind → label_of u n < 8 → ClauseChild u n 0 → members_of u n ≡ members_of u (child_of u n 0)
        → ChainNode u n (label_of u n) (child_of u n 0) → ClauseNode u n
    a_quantified e h x s c =
        record {
          kind = λ p q r. e;
          atom = λ d. absurd (omega arith);
          and = λ d. absurd (omega arith);
          implies = λ d. absurd (omega arith);
          each = λ d. (h, x.0, x.1, s);
          chain = λ d. c;
          few = l;
          members = m;
          free = f;
        }
