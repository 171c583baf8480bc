-- The node that a line makes has every property of terms, goals and clauses that their constructors keep.
use Prim.Native.Nat.{ℕ, suc, ◌+◌}
use mathlib.Core.Path.{◌≡◌, refl, sym, ap, subst}
use mathlib.Core.Bool.{Bool, true, false, cond}
use mathlib.Core.List.{List, [], ◌∷◌}
use mathlib.Core.Option.{Option, none, some}
use lib.Dec.{eqb, leb}
use lib.ListN.{length, get_elem?}
use borrow.Author.Tests.{eqb-true}
use Rattle.terms.specs.Lists.{All}
use Rattle.terms.specs.Terms.{sheet_symbol, Term, leaf, app, Terms, nil, cons, number_term, size, count}
use Rattle.formulas.specs.Formulas.{Goal, atom, truth, and, or, implies, exists, forall, Clause, fact, rule, both, each}
use Rattle.sheet_format.specs.Limits.{max_term_size, max_members}
use Rattle.sheet_format.specs.SheetLines.{NodeLine, variable_line, number_line, apply_line, true_line, and_line, or_line, implies_line, some_line}
use Rattle.sheet_format.specs.SheetLines.{every_line}
use Rattle.sheet_format.specs.Nodes.{Declaration, Node, neither, member_count, map2, term_nodes, sized, term_node, applied, apply_node}
use Rattle.sheet_format.specs.Nodes.{both_clauses, ruled, nodes_at, node_of}
use Rattle.sheet_format.proofs.Options.{OnSome, cond_some, map_some, some_weaken}
use Rattle.sheet_format.proofs.Indexing.{at_some}
use Rattle.sheet_format.proofs.Formed.{Declares}

-- Properties of terms, of lists of terms, of goals and of clauses.
pub record Family : Type 1 where
  pub term : Term ℕ → Type 0
  pub terms : Terms ℕ → Type 0
  pub goal : Goal → Type 0
  pub clause : Clause → Type 0

-- The constructors keep them, over the declarations ds; L is what is known of a line.
pub record Kept (ds : List Declaration) (L : NodeLine → Type 0) (F : Family) : Type 0 where
  pub variables : (v : ℕ) → L (variable_line v) → F.term (leaf v)
  pub numbers : (n : ℕ) → L (number_line n) → F.term (number_term n)
  pub applications : (f : ℕ) (ts : Terms ℕ) → Declares ds true f (count ts) → F.terms ts → F.term (app (sheet_symbol f) ts)
  pub empty : F.terms nil
  pub longer : (t : Term ℕ) (ts : Terms ℕ) → F.term t → F.terms ts → F.terms (cons t ts)
  pub atoms : (p : ℕ) (ts : Terms ℕ) → Declares ds false p (count ts) → F.terms ts → F.goal (atom p ts) × F.clause (fact p ts)
  pub trivial : F.goal truth
  pub conjunctions : (a b : Goal) → F.goal a → F.goal b → F.goal (and a b)
  pub disjunctions : (a b : Goal) → F.goal a → F.goal b → F.goal (or a b)
  pub implications : (c : Clause) (g : Goal) → F.clause c → F.goal g → F.goal (implies c g)
  pub existentials : (v n : ℕ) (g : Goal) → L (some_line v n) → F.goal g → F.goal (exists v g)
  pub universals : (v n : ℕ) (g : Goal) → L (every_line v n) → F.goal g → F.goal (forall v g)
  pub rules : (g : Goal) (p : ℕ) (ts : Terms ℕ) → F.goal g → F.goal (atom p ts) → F.clause (rule g p ts)
  pub joint : (c d : Clause) → F.clause c → F.clause d → F.clause (both c d)
  pub quantified : (v n : ℕ) (c : Clause) → L (every_line v n) → F.clause c → F.clause (each v c)

-- A node, as a term, as a goal and as a clause.
pub record NodeIn (F : Family) (n : Node) : Type 0 where
  pub term : OnSome F.term n.term
  pub goal : OnSome F.goal n.goal
  pub clause : OnSome F.clause n.clause

-- Each property carried over, a node has the family that the properties are carried to.
pub node_weaken : (F G : Family) → ((t : Term ℕ) → F.term t → G.term t) → ((g : Goal) → F.goal g → G.goal g)
    → ((c : Clause) → F.clause c → G.clause c) → (n : Node) → NodeIn F n → NodeIn G n
node_weaken F G t g c n h =
    record {
      term = some_weaken F.term G.term t n.term h.term;
      goal = some_weaken F.goal G.goal g n.goal h.goal;
      clause = some_weaken F.clause G.clause c n.clause h.clause;
    }

module _ (ds : List Declaration) (L : NodeLine → Type 0) (F : Family) (k : Kept ds L F) where
  -- A node that is nothing has the family.
  neither_in : NodeIn F neither
  unfolding neither
  neither_in = record { term = tt; goal = tt; clause = tt }

  -- applications

  -- A list of so many terms.
  abbrev ListIn : ℕ → Terms ℕ → Type 0
  ListIn n ts = (count ts ≡ n) × F.terms ts

  -- One more term makes a list one term longer.
  longer_in : (n : ℕ) (o : Option (Term ℕ)) (p : Option (Terms ℕ)) → OnSome F.term o → OnSome (ListIn n) p
      → OnSome (ListIn (suc n)) (map2 cons o p)
  unfolding map2 count
  longer_in n none p h i = tt
  longer_in n (some t) none h i = tt
  longer_in n (some t) (some ts) h i = (ap suc i.0, k.longer t ts h i.1)

  -- Nodes, as terms, are a list of as many terms.
  terms_in : (ns : List Node) → All (NodeIn F) ns → OnSome (ListIn (length ns)) (term_nodes ns)
  unfolding term_nodes count
  terms_in [] h = (refl, k.empty)
  terms_in (n ∷ ns) h = longer_in (length ns) n.term (term_nodes ns) h.0.term (terms_in ns h.1)

  -- A declared symbol applied to its arity of terms.
  applied_in : (b : Bool) (f n : ℕ) (o : Option (Terms ℕ)) → Declares ds b f n → OnSome (ListIn n) o → NodeIn F (applied b f o)
  unfolding applied term_node sized
  applied_in true f n none d h = neither_in
  applied_in true f n (some ts) d h =
      record {
        term = cond_some F.term (leb (size (app (sheet_symbol f) ts)) max_term_size) (some (app (sheet_symbol f) ts)) none
            (λ e. k.applications f ts (subst (Declares ds true f) (sym h.0) d) h.1) (λ e. tt);
        goal = tt;
        clause = tt;
      }
  applied_in false f n none d h = neither_in
  applied_in false f n (some ts) d h =
      let a = k.atoms f ts (subst (Declares ds false f) (sym h.0) d) h.1 in record { term = tt; goal = a.0; clause = a.1 }

  -- A declared symbol applied to as many nodes as its arity has the family, and else it is nothing.
  apply_in : (d : Declaration) (f : ℕ) (ns : List Node) → get_elem? ds f ≡ some d → All (NodeIn F) ns → NodeIn F (apply_node d f ns)
  unfolding apply_node
  apply_in d f ns h i = go (eqb (length ns) d.arity) refl
    where
      go : (b : Bool) → eqb (length ns) d.arity ≡ b → NodeIn F (cond b (applied d.function f (term_nodes ns)) neither)
      go true e =
          applied_in d.function f (length ns) (term_nodes ns)
          (record { declaration = d; at = h; kind = refl; arity = sym (eqb-true (length ns) d.arity e) }) (terms_in ns i)
      go false e = neither_in

  -- One more node keeps a list of nodes.
  nodes_in_lem : (o : Option Node) (p : Option (List Node)) → OnSome (NodeIn F) o → OnSome (All (NodeIn F)) p
      → OnSome (All (NodeIn F)) (map2 ◌∷◌ o p)
  unfolding map2
  nodes_in_lem none p h i = tt
  nodes_in_lem (some n) none h i = tt
  nodes_in_lem (some n) (some ns) h i = (h, i)

  -- The nodes of given numbers have the family if all nodes have.
  nodes_at_in : (nodes : List Node) (is : List ℕ) → All (NodeIn F) nodes → OnSome (All (NodeIn F)) (nodes_at nodes is)
  unfolding nodes_at
  nodes_at_in nodes [] h = tt
  nodes_at_in nodes (i ∷ is) h = nodes_in_lem (get_elem? nodes i) (nodes_at nodes is) (at_some (NodeIn F) nodes i h) (nodes_at_in nodes is h)

  -- A declared symbol and nodes that are there make a node.
  symbol_in : (f : ℕ) (o : Option Declaration) (p : Option (List Node)) → get_elem? ds f ≡ o → OnSome (All (NodeIn F)) p
      → OnSome (NodeIn F) (map2 (λ d. apply_node d f) o p)
  unfolding map2
  symbol_in f none p e h = tt
  symbol_in f (some d) none e h = tt
  symbol_in f (some d) (some ns) e h = apply_in d f ns e h

  -- connectives

  -- What a function makes of two values.
  both_in : {A B C : Type 0} (P : A → Type 0) (Q : B → Type 0) (R : C → Type 0) (f : A → B → C)
      → ((a : A) (b : B) → P a → Q b → R (f a b)) → (o : Option A) (p : Option B) → OnSome P o → OnSome Q p → OnSome R (map2 f o p)
  unfolding map2
  both_in P Q R f h none p i j = tt
  both_in P Q R f h (some a) none i j = tt
  both_in P Q R f h (some a) (some b) i j = h a b i j

  -- A clause made of two clauses.
  joint_in : (o p : Option Clause) → OnSome F.clause o → OnSome F.clause p → OnSome F.clause (both_clauses o p)
  unfolding both_clauses
  joint_in none p h i = tt
  joint_in (some c) none h i = tt
  joint_in (some c) (some d) h i =
      cond_some F.clause (leb (member_count c + member_count d) max_members) (some (both c d)) none (λ e. k.joint c d h i) (λ e. tt)

  -- A clause in which a goal implies an atom.
  ruled_in : (o p : Option Goal) → OnSome F.goal o → OnSome F.goal p → OnSome F.clause (ruled o p)
  unfolding ruled
  ruled_in none p h i = tt
  ruled_in (some g) none h i = tt
  ruled_in (some g) (some (atom p ts)) h i = k.rules g p ts h i
  ruled_in (some g) (some truth) h i = tt
  ruled_in (some g) (some (and a b)) h i = tt
  ruled_in (some g) (some (or a b)) h i = tt
  ruled_in (some g) (some (implies c a)) h i = tt
  ruled_in (some g) (some (exists v a)) h i = tt
  ruled_in (some g) (some (forall v a)) h i = tt

  -- The node of a line.
  pub node_of_in : (nodes : List Node) (l : NodeLine) → All (NodeIn F) nodes → L l → OnSome (NodeIn F) (node_of ds nodes l)
  unfolding node_of term_node
  node_of_in nodes (variable_line v) h i = record { term = k.variables v i; goal = tt; clause = tt }
  node_of_in nodes (number_line n) h i = record { term = k.numbers n i; goal = tt; clause = tt }
  node_of_in nodes (apply_line f ns) h i = symbol_in f (get_elem? ds f) (nodes_at nodes ns) refl (nodes_at_in nodes ns h)
  node_of_in nodes true_line h i = record { term = tt; goal = k.trivial; clause = tt }
  node_of_in nodes (and_line n m) h i =
      both_in (NodeIn F) (NodeIn F) (NodeIn F) _ (λ a b x y. record {
        term = tt;
        goal = both_in F.goal F.goal F.goal and k.conjunctions a.goal b.goal x.goal y.goal;
        clause = joint_in a.clause b.clause x.clause y.clause;
      })
      (get_elem? nodes n) (get_elem? nodes m) (at_some (NodeIn F) nodes n h) (at_some (NodeIn F) nodes m h)
  node_of_in nodes (or_line n m) h i =
      both_in (NodeIn F) (NodeIn F) (NodeIn F) _ (λ a b x y. record {
        term = tt;
        goal = both_in F.goal F.goal F.goal or k.disjunctions a.goal b.goal x.goal y.goal;
        clause = tt;
      })
      (get_elem? nodes n) (get_elem? nodes m) (at_some (NodeIn F) nodes n h) (at_some (NodeIn F) nodes m h)
  node_of_in nodes (implies_line n m) h i =
      both_in (NodeIn F) (NodeIn F) (NodeIn F) _ (λ a b x y. record {
        term = tt;
        goal = both_in F.clause F.goal F.goal implies k.implications a.clause b.goal x.clause y.goal;
        clause = ruled_in a.goal b.goal x.goal y.goal;
      })
      (get_elem? nodes n) (get_elem? nodes m) (at_some (NodeIn F) nodes n h) (at_some (NodeIn F) nodes m h)
  node_of_in nodes (some_line v n) h i =
      map_some (NodeIn F) (NodeIn F) _ (λ a x. record {
        term = tt;
        goal = map_some F.goal F.goal (exists v) (λ g p. k.existentials v n g i p) a.goal x.goal;
        clause = tt;
      })
      (get_elem? nodes n) (at_some (NodeIn F) nodes n h)
  node_of_in nodes (every_line v n) h i =
      map_some (NodeIn F) (NodeIn F) _ (λ a x. record {
        term = tt;
        goal = map_some F.goal F.goal (forall v) (λ g p. k.universals v n g i p) a.goal x.goal;
        clause = map_some F.clause F.clause (each v) (λ c p. k.quantified v n c i p) a.clause x.clause;
      })
      (get_elem? nodes n) (at_some (NodeIn F) nodes n h)
