-- A sheet without N lines has no number in its terms.
use Prim.Native.Nat.{ℕ}
use mathlib.Core.Path.{◌≡◌, refl, ap, subst}
use mathlib.Core.List.{List, [], ◌∷◌}
use mathlib.Core.Option.{Option, none, some}
use Rattle.terms.specs.Lists.{All}
use Rattle.terms.specs.Numberless.{Numberless, NumberlessAll}
use Rattle.terms.proofs.Lists.{all_append, all_weaken}
use Rattle.formulas.specs.Formulas.{Goal, atom, truth, and, or, implies, exists, forall, Clause, fact, rule, both, each}
use Rattle.sheet_format.specs.Bytes.{lines_of, same_name}
use Rattle.sheet_format.specs.SheetLines.{NodeLine, number_line}
use Rattle.sheet_format.specs.SheetLines.{SheetLine, declare_line, node_line, clause_line, goal_line, parse_line}
use Rattle.sheet_format.specs.Nodes.{Declaration, node_of}
use Rattle.sheet_format.specs.Sheets.{Sheet, sheet, Table, sheet_form, read_sheet}
use Rattle.sheet_format.specs.FormerLines.{NoNumberLine, WithoutNumberLines}
use Rattle.sheet_format.proofs.Options.{OnSome, some_is}
use Rattle.sheet_format.proofs.Indexing.{at_all}
use Rattle.sheet_format.proofs.Nodes.{Family, Kept, NodeIn, node_of_in}
use Rattle.sheet_format.proofs.Reading.{Invariant, ReadWith, sheet_reads}

unfoldable mutual
  pub NumberlessGoal : Goal → Type 0
  NumberlessGoal (atom p ts) = NumberlessAll ts
  NumberlessGoal truth = Unit {0}
  NumberlessGoal (and a b) = NumberlessGoal a × NumberlessGoal b
  NumberlessGoal (or a b) = NumberlessGoal a × NumberlessGoal b
  NumberlessGoal (implies c g) = NumberlessClause c × NumberlessGoal g
  NumberlessGoal (exists v g) = NumberlessGoal g
  NumberlessGoal (forall v g) = NumberlessGoal g

  pub NumberlessClause : Clause → Type 0
  NumberlessClause (fact p ts) = NumberlessAll ts
  NumberlessClause (rule g p ts) = NumberlessGoal g × NumberlessAll ts
  NumberlessClause (both a b) = NumberlessClause a × NumberlessClause b
  NumberlessClause (each v c) = NumberlessClause c

abbrev numberless : Family
numberless = record { term = Numberless; terms = NumberlessAll; goal = NumberlessGoal; clause = NumberlessClause }

-- A node line is no N line.
abbrev OtherNode : NodeLine → Type 0
OtherNode l = (n : ℕ) → l ≡ number_line n → ⊥

numberless_kept : (ds : List Declaration) → Kept ds OtherNode numberless
unfolding Numberless NumberlessGoal
numberless_kept ds =
    record {
      variables = λ v h. tt;
      numbers = λ n h. h n refl;
      applications = λ f ts d h. h;
      empty = tt;
      longer = λ t ts h k. (h, k);
      atoms = λ p ts d h. (h, h);
      trivial = tt;
      conjunctions = λ a b h k. (h, k);
      disjunctions = λ a b h k. (h, k);
      implications = λ c g h k. (h, k);
      existentials = λ v n g l h. h;
      universals = λ v n g l h. h;
      rules = λ g p ts h k. (h, k);
      joint = λ c d h k. (h, k);
      quantified = λ v n c l h. h;
    }

-- A line is no N line.
abbrev OtherLine : SheetLine → Type 0
OtherLine (declare_line k n a) = Unit {0}
OtherLine (node_line l) = OtherNode l
OtherLine (clause_line n) = Unit {0}
OtherLine (goal_line n) = Unit {0}

abbrev Made : Table → Type 0
Made t = All (NodeIn numberless) t.nodes × All NumberlessClause t.clauses

made_kept : Invariant same_name OtherLine Made
made_kept = record {
  declaration = λ t k n a i h q. i;
  node = λ t l n i h e. (
    all_append (NodeIn numberless) t.nodes (n ∷ []) i.0 (
      some_is (NodeIn numberless) (node_of t.symbols t.nodes l) n
          (node_of_in t.symbols OtherNode numberless (numberless_kept t.symbols) t.nodes l i.0 h) e,
      tt,
    ),
    i.1,
  );
  clause = λ t j n c i q p e. (
    i.0,
    all_append NumberlessClause t.clauses (c ∷ []) i.1
        (some_is NumberlessClause n.clause c (at_all (NodeIn numberless) t.nodes j n i.0 q).clause p, tt),
  );
}

-- A line that is no N line.
other : (o : Option SheetLine) → ((n : ℕ) → o ≡ some (node_line (number_line n)) → ⊥) → OnSome OtherLine o
other none h = tt
other (some (declare_line k n a)) h = tt
other (some (node_line l)) h = λ n e. h n (ap (λ (x : NodeLine). some (node_line x)) e)
other (some (clause_line n)) h = tt
other (some (goal_line n)) h = tt

pub numberless_sheet : (bytes : List ℕ) (s : Sheet) → read_sheet bytes ≡ sheet s → WithoutNumberLines bytes
    → All NumberlessClause s.clauses × NumberlessGoal s.goal
unfolding read_sheet sheet_form
numberless_sheet bytes s e h =
    let r : ReadWith Made s = sheet_reads sheet_form OtherLine Made made_kept bytes s
    (all_weaken NoNumberLine (λ l. OnSome OtherLine (parse_line l)) (λ l k. other (parse_line l) k) (lines_of bytes).whole h) (tt, tt) e in
    let g = r.goal in (
      subst (All NumberlessClause) r.clauses r.holds.1,
      some_is NumberlessGoal g.node.goal s.goal
          (at_all (NodeIn numberless) r.table.nodes g.place g.node r.holds.0 g.at).goal g.goal,
    )
