-- A well-made table, and the laws of it that the simulation uses.
use Prim.Native.Nat.{ℕ, ◌<◌}
use native.Mathlib.Omega.{arith}
use mathlib.Core.Path.{◌≡◌, sym, ap, ◌∙◌}
use mathlib.Core.List.{List}
use Rattle.terms.specs.Terms.{leaf, app}
use Rattle.node_table.specs.Layout.{kind_of, child_count, label_of, child_of, variable_kind, application_kind}
use Rattle.node_table.specs.Decoding.{functor_of, term_at, arguments_at}
use Rattle.node_table.specs.WellMade.{IsTerm, label_arity, Arguments, WellMade}
use Rattle.node_table.proofs.Decoding.{Nodes, nodes_of_lem, term_variable, term_application}

pub record Table : Type 0 where
  pub numbers : List ℕ
  pub nodes : ℕ
  pub clauses : ℕ
  pub goal : ℕ
  pub made : WellMade numbers nodes clauses goal

module _ (T : Table) where
  -- What the reader's laws speak of.
  pub nodes_are : Nodes T.numbers T.nodes
  nodes_are = nodes_of_lem T.numbers T.nodes T.clauses T.goal T.made

  -- A node of a term; a node with arguments, which is an application or an atom.
  abbrev pub TermOf : ℕ → Type 0
  TermOf n = (n < T.nodes) × IsTerm T.numbers n

  -- A node with arguments.
  abbrev pub Applied : ℕ → Type 0
  Applied n = (n < T.nodes) × Arguments T.numbers n

  -- A node of an application.
  abbrev pub ApplicationOf : ℕ → Type 0
  ApplicationOf n = (n < T.nodes) × IsTerm T.numbers n × (kind_of T.numbers n ≡ application_kind)

  -- The number of a node fits in ten bits.
  pub node_small : (n : ℕ) → n < T.nodes → n < 1024
  node_small n h = let f = T.made.few_nodes in omega arith

  -- The arguments of a node are terms.
  pub argument_term : (n j : ℕ) → Applied n → j < child_count T.numbers n → TermOf (child_of T.numbers n j)
  argument_term n j a h = let b = a.1.terms j h in let l = b.0 in let m = a.0 in (omega arith, b.1)

  -- A node has at most four arguments.
  pub few_arguments : (n j : ℕ) → Applied n → j < child_count T.numbers n → j < 4
  few_arguments n j a h = let f = a.1.few in omega arith

  -- Equal symbols have equally many.
  pub same_count : (n m : ℕ) → Applied n → Applied m → label_of T.numbers n ≡ label_of T.numbers m
      → child_count T.numbers n ≡ child_count T.numbers m
  same_count n m a b e = a.1.many ∙ ap (label_arity T.numbers) e ∙ sym b.1.many

  -- A variable's name is below 8.
  pub name_small : (n : ℕ) → TermOf n → kind_of T.numbers n ≡ variable_kind → label_of T.numbers n < 8
  name_small n h e = (T.made.term n h.0 h.1).variable e

  -- A term that is no variable is an application.
  pub not_variable : (n : ℕ) → TermOf n → (kind_of T.numbers n ≡ variable_kind → ⊥) → kind_of T.numbers n ≡ application_kind
  not_variable n h d = let k = (T.made.term n h.0 h.1).kind in omega arith

  -- An application is a node with arguments.
  pub applied : (n : ℕ) → ApplicationOf n → Applied n
  applied n h = (h.0, (T.made.term n h.0 h.1).application h.2)

  -- The term of a variable's node is its name.
  pub variable_is : (n : ℕ) → TermOf n → kind_of T.numbers n ≡ variable_kind → term_at T.numbers n ≡ leaf (label_of T.numbers n)
  variable_is n h e = term_variable T.numbers T.nodes nodes_are n h.0 h.1 e

  -- The term of an application's node is its symbol with its arguments.
  pub application_is : (n : ℕ) → ApplicationOf n → term_at T.numbers n ≡ app (functor_of (label_of T.numbers n)) (arguments_at T.numbers n)
  application_is n h = term_application T.numbers T.nodes nodes_are n h.0 h.1 h.2
