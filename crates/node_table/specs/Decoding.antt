-- The table read back as trees. Children have smaller numbers than their node, so a node's own number is fuel enough.
use Rattle.std.specs.Prelude.{ℕ, zero, suc, ◌-◌, true, false, cond, List, [], ◌∷◌, eqb, ltb, take, drop}
use Rattle.terms.specs.Terms.{Functor, sheet_symbol, numeral, Term, leaf, app, Terms, nil, cons}
use Rattle.formulas.specs.Formulas.{Goal, atom, truth, and, or, implies, exists, forall, Clause, fact, rule, both, each}
use Rattle.formulas.specs.Rules.{Order, oldest, latest}
use Rattle.sheet_format.specs.Limits.{max_symbols}
use Rattle.sheet_format.specs.Nodes.{Declaration}
use Rattle.sheet_format.specs.Sheets.{Sheet}
use Rattle.node_table.specs.Layout.{kind_of, child_count, label_of, child_of, is_function_bit, name_start, name_length, arity_of, clause_node}
use Rattle.node_table.specs.Layout.{forall_kind, implies_kind, and_kind, exists_kind, or_kind, atom_kind, variable_kind, order_number}
use Rattle.node_table.specs.Layout.{default_order}

-- The label of an application: a symbol by its number, which is below 256; the number n, a term of request W-204, as 256 + n.
unfoldable pub functor_of : ℕ → Functor
functor_of l = cond (ltb l max_symbols) (sheet_symbol l) (numeral (l - max_symbols))

-- The children from the j-th on, c of them, each read by r.
unfoldable pub children_by : (ℕ → Term ℕ) → List ℕ → ℕ → ℕ → ℕ → Terms ℕ
children_by r t n zero j = nil
children_by r t n (suc c) j = cons (r (child_of t n j)) (children_by r t n c (suc j))

unfoldable pub term_by : ℕ → List ℕ → ℕ → Term ℕ
term_by zero t n = leaf 0
term_by (suc f) t n =
    elim (eqb (kind_of t n) variable_kind) [
      | true ↦ leaf (label_of t n)
      | false ↦
          app (functor_of (label_of t n)) (children_by (term_by f t) t n (child_count t n) 0)
    ]

unfoldable pub term_at : List ℕ → ℕ → Term ℕ
term_at t n = term_by (suc n) t n

-- The arguments of an application or an atom.
unfoldable pub arguments_at : List ℕ → ℕ → Terms ℕ
arguments_at t n = children_by (term_at t) t n (child_count t n) 0

-- Goals and clauses, by kind. A node of no such kind is read as true, or as a fact; no goal and no clause of a sheet is one.
unfoldable mutual
  pub goal_by : ℕ → List ℕ → ℕ → Goal
  goal_by zero t n = truth
  goal_by (suc f) t n =
      elim (eqb (kind_of t n) atom_kind) [
        | true ↦ atom (label_of t n) (arguments_at t n)
        | false ↦
            elim (eqb (kind_of t n) and_kind) [
              | true ↦ and (goal_by f t (child_of t n 0)) (goal_by f t (child_of t n 1))
              | false ↦
                  elim (eqb (kind_of t n) or_kind) [
                    | true ↦ or (goal_by f t (child_of t n 0)) (goal_by f t (child_of t n 1))
                    | false ↦
                        elim (eqb (kind_of t n) implies_kind) [
                          | true ↦ implies (clause_by f t (child_of t n 0)) (goal_by f t (child_of t n 1))
                          | false ↦
                              elim (eqb (kind_of t n) exists_kind) [
                                | true ↦ exists (label_of t n) (goal_by f t (child_of t n 0))
                                | false ↦
                                    elim (eqb (kind_of t n) forall_kind)
                                    [ true ↦ forall (label_of t n) (goal_by f t (child_of t n 0)) | false ↦ truth ]
                              ]
                        ]
                  ]
            ]
      ]

  pub clause_by : ℕ → List ℕ → ℕ → Clause
  clause_by zero t n = fact 0 nil
  clause_by (suc f) t n =
      elim (eqb (kind_of t n) and_kind) [
        | true ↦ both (clause_by f t (child_of t n 0)) (clause_by f t (child_of t n 1))
        | false ↦
            elim (eqb (kind_of t n) implies_kind) [
              | true ↦ rule (goal_by f t (child_of t n 0)) (label_of t (child_of t n 1)) (arguments_at t (child_of t n 1))
              | false ↦
                  elim (eqb (kind_of t n) forall_kind) [
                    | true ↦ each (label_of t n) (clause_by f t (child_of t n 0))
                    | false ↦
                        fact (label_of t n) (arguments_at t n)
                  ]
            ]
      ]

unfoldable pub goal_at : List ℕ → ℕ → Goal
goal_at t n = goal_by (suc n) t n

unfoldable pub clause_at_node : List ℕ → ℕ → Clause
clause_at_node t n = clause_by (suc n) t n

-- A symbol, its name from the sheet's bytes; the symbols and clauses from the i-th on, c of them.
unfoldable pub declaration_at : List ℕ → List ℕ → ℕ → Declaration
declaration_at bytes t i = record {
  function = eqb (is_function_bit t i) 1;
  name = take (name_length t i) (drop (name_start t i) bytes);
  arity = arity_of t i;
}

unfoldable pub declarations_from : List ℕ → List ℕ → ℕ → ℕ → List Declaration
declarations_from bytes t zero i = []
declarations_from bytes t (suc c) i = declaration_at bytes t i ∷ declarations_from bytes t c (suc i)

unfoldable pub clauses_from : List ℕ → ℕ → ℕ → List Clause
clauses_from t zero i = []
clauses_from t (suc c) i = clause_at_node t (clause_node t i) ∷ clauses_from t c (suc i)

-- The order in force (request W-207): the default one for 0, else the former one.
unfoldable pub order_of : List ℕ → Order
order_of t = elim (eqb (order_number t) default_order) [ true ↦ oldest | false ↦ latest ]

-- The sheet: the order, so many symbols, so many clauses, the node of the goal.
unfoldable pub decode_sheet : List ℕ → List ℕ → ℕ → ℕ → ℕ → Sheet
decode_sheet bytes t symbols clauses goal = record {
  order = order_of t;
  symbols = declarations_from bytes t symbols 0;
  clauses = clauses_from t clauses 0;
  goal = goal_at t goal;
}
