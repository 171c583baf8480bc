-- What every sheet that `read_sheet` gives satisfies, from an invariant over its lines.
use Prim.Native.Nat.{ℕ, zero, suc, ◌+◌, ◌≤◌, ◌<◌}
use mathlib.Core.Path.{◌≡◌, refl, sym, ◌∙◌, ap₂, subst}
use mathlib.Core.Bool.{Bool, true, false, ◌||◌, true≢false}
use mathlib.Core.List.{List, [], ◌∷◌, ◌++◌}
use lib.Dec.{eqb}
use lib.ListN.{length, length-append}
use borrow.Author.Tests.{eqb-true, eqb-false}
use native.Mathlib.Omega.{arith}
use Rattle.terms.specs.Lists.{All}
use Rattle.terms.specs.Terms.{count}
use Rattle.terms.proofs.Lists.{all_append, all_weaken, length_map}
use Rattle.formulas.specs.Formulas.{Clause, fact, rule, both, each, free_g, free_c}
use Rattle.formulas.specs.Members.{members, quantify}
use Rattle.formulas.proofs.Free.{or_left, or_right}
use Rattle.sheet_format.specs.Limits.{max_arity, variable_names}
use Rattle.sheet_format.specs.Bytes.{lines_of, is_name, same_name}
use Rattle.sheet_format.specs.SheetLines.{parse_line}
use Rattle.sheet_format.specs.Nodes.{Declaration, member_count, node_of}
use Rattle.sheet_format.specs.Sheets.{Sheet, sheet, Table, is_declared, any_free, sheet_form, read_sheet}
use Rattle.sheet_format.proofs.Options.{OnSome, some_is}
use Rattle.sheet_format.proofs.Indexing.{at_all}
use Rattle.sheet_format.proofs.Names.{Names, names_nil, names_snoc}
use Rattle.sheet_format.proofs.Formed.{Takes, FormedTerm, FormedTerms, FormedGoal, FormedClause, term_more, goal_more, clause_more}
use Rattle.sheet_format.proofs.Formed.{free_goal_lem, free_clause}
use Rattle.sheet_format.proofs.SheetLines.{FormedLine, FormedNodeLine, parse_line_some}
use Rattle.sheet_format.proofs.Nodes.{Family, Kept, NodeIn, node_weaken, node_of_in}
use Rattle.sheet_format.proofs.Reading.{with_symbol, Invariant, ReadWith, sheet_reads}

-- No name stands free.
abbrev pub Closed : Clause → Type 0
Closed c = (v : ℕ) → free_c c v ≡ true → ⊥

pub record Good (s : Sheet) : Type 0 where
  pub names : Names s.symbols
  pub arities : All (λ d. d.arity ≤ max_arity) s.symbols
  pub clauses_formed : All (λ c. FormedClause c s.symbols) s.clauses
  pub clauses_closed : All Closed s.clauses
  pub goal_formed : FormedGoal s.goal s.symbols
  pub goal_free : (v : ℕ) → free_g s.goal v ≡ true → v < variable_names

-- `member_count` counts the members.
pub member_count_members : (c : Clause) → member_count c ≡ length (members c)
unfolding member_count members
member_count_members (fact p ts) = refl
member_count_members (rule g p ts) = refl
member_count_members (both a b) = ap₂ ◌+◌ (member_count_members a) (member_count_members b) ∙ sym (length-append (members a) (members b))
member_count_members (each v c) = member_count_members c ∙ sym (length_map (quantify v) (members c))

-- closed clauses

-- A name that stands free, of the n names from v on, is found.
free_any : (n v : ℕ) (c : Clause) (w : ℕ) → free_c c w ≡ true → v ≤ w → w < v + n → any_free n v c ≡ true
unfolding any_free
free_any zero v c w f l k = absurd (omega arith)
free_any (suc n) v c w f l k = go (eqb v w) refl (λ m. free_any n (suc v) c w f m (omega arith))
  where
    go : (b : Bool) → eqb v w ≡ b → (suc v ≤ w → any_free n (suc v) c ≡ true) → (free_c c v || any_free n (suc v) c) ≡ true
    go true e ih = or_left (free_c c v) (any_free n (suc v) c) (subst (λ (x : ℕ). free_c c x ≡ true) (sym (eqb-true v w e)) f)
    go false e ih = let d = eqb-false v w e in or_right (free_c c v) (any_free n (suc v) c) (ih (omega arith))

-- A well-formed clause with none of the eight names free is closed.
closed : (c : Clause) (ds : List Declaration) → FormedClause c ds → any_free variable_names 0 c ≡ false → Closed c
closed c ds h k v f = let l = free_clause c ds v h f in true≢false (sym (free_any variable_names 0 c v f (omega arith) (omega arith)) ∙ k)

-- terms, goals and clauses

-- Well-formed terms, goals and clauses, over the declarations ds.
abbrev formed : List Declaration → Family
formed ds =
    record {
      term = λ t. FormedTerm t ds;
      terms = λ ts. FormedTerms ts ds;
      goal = λ g. FormedGoal g ds;
      clause = λ c. FormedClause c ds;
    }

-- Their constructors keep them well-formed.
formed_kept : (ds : List Declaration) → Kept ds FormedNodeLine (formed ds)
unfolding FormedTerm FormedGoal Takes count
formed_kept ds =
    record {
      variables = λ v h. h;
      numbers = λ n h. ((refl, h), tt);
      applications = λ f ts d h. (d, h);
      empty = tt;
      longer = λ t ts h k. (h, k);
      atoms = λ p ts d h. ((d, h), (d, h));
      trivial = tt;
      conjunctions = λ a b h k. (h, k);
      disjunctions = λ a b h k. (h, k);
      implications = λ c g h k. (h, k);
      existentials = λ v n g l h. (l, h);
      universals = λ v n g l h. (l, h);
      rules = λ g p ts h k. (h, k);
      joint = λ c d h k. (h, k);
      quantified = λ v n c l h. (l, h);
    }

-- the invariant

-- What the lines so far have made.
record Made (t : Table) : Type 0 where
  names : Names t.symbols
  arities : All (λ d. d.arity ≤ max_arity) t.symbols
  nodes : All (NodeIn (formed t.symbols)) t.nodes
  clauses : All (λ c. FormedClause c t.symbols) t.clauses
  closed_clauses : All Closed t.clauses

-- A declaration keeps it.
declaration_made : (t : Table) (d : Declaration) → Made t → is_name d.name ≡ true → d.arity ≤ max_arity
    → is_declared same_name d.name t.symbols ≡ false → Made (with_symbol t d)
declaration_made t d i h a q = record {
  names = names_snoc t.symbols d i.names h q;
  arities = all_append (λ x. x.arity ≤ max_arity) t.symbols (d ∷ []) i.arities (a, tt);
  nodes =
      all_weaken (NodeIn (formed t.symbols)) (NodeIn (formed (t.symbols ++ (d ∷ []))))
      (node_weaken (formed t.symbols) (formed (t.symbols ++ (d ∷ []))) (λ x k. term_more x t.symbols (d ∷ []) k)
      (λ x k. goal_more x t.symbols (d ∷ []) k) (λ x k. clause_more x t.symbols (d ∷ []) k))
      t.nodes i.nodes;
  clauses =
      all_weaken (λ c. FormedClause c t.symbols) (λ c. FormedClause c (t.symbols ++ (d ∷ [])))
      (λ c k. clause_more c t.symbols (d ∷ []) k) t.clauses i.clauses;
  closed_clauses = i.closed_clauses;
}

-- So do a node and a clause.
made_kept : Invariant same_name FormedLine Made
made_kept = record {
  declaration = λ t k n a i h q. declaration_made t (record { function = k; name = n; arity = a }) i h.0 h.1 q;
  node = λ t l n i h e. record {
    names = i.names;
    arities = i.arities;
    nodes =
        all_append (NodeIn (formed t.symbols)) t.nodes (n ∷ []) i.nodes (
          some_is (NodeIn (formed t.symbols)) (node_of t.symbols t.nodes l) n
              (node_of_in t.symbols FormedNodeLine (formed t.symbols) (formed_kept t.symbols) t.nodes l i.nodes h) e,
          tt,
        );
    clauses = i.clauses;
    closed_clauses = i.closed_clauses;
  };
  clause = λ t j n c i q p e.
      let f = some_is (λ x. FormedClause x t.symbols) n.clause c (at_all (NodeIn (formed t.symbols)) t.nodes j n i.nodes q).clause p in
      record {
        names = i.names;
        arities = i.arities;
        nodes = i.nodes;
        clauses = all_append (λ d. FormedClause d t.symbols) t.clauses (c ∷ []) i.clauses (f, tt);
        closed_clauses = all_append Closed t.clauses (c ∷ []) i.closed_clauses (closed c t.symbols f e, tt);
      };
}

-- the sheet

-- Every sheet that is read is good.
pub good : (bytes : List ℕ) (s : Sheet) → read_sheet bytes ≡ sheet s → Good s
unfolding read_sheet sheet_form
good bytes s e = go (sheet_reads sheet_form FormedLine Made made_kept bytes s (every_line_lem (lines_of bytes).whole)
    (record { names = names_nil; arities = tt; nodes = tt; clauses = tt; closed_clauses = tt }) e)
  where
    every_line_lem : (ls : List (List ℕ)) → All (λ l. OnSome FormedLine (parse_line l)) ls
    every_line_lem [] = tt
    every_line_lem (l ∷ ls) = (parse_line_some l, every_line_lem ls)

    go : ReadWith Made s → Good s
    go r =
        let t = r.table in
        let i = r.holds in
        let g = r.goal in
        let h : FormedGoal s.goal t.symbols = some_is (λ x. FormedGoal x t.symbols) g.node.goal s.goal
        (at_all (NodeIn (formed t.symbols)) t.nodes g.place g.node i.nodes g.at).goal g.goal in
        record {
          names = subst Names r.symbols i.names;
          arities = subst (All (λ d. d.arity ≤ max_arity)) r.symbols i.arities;
          clauses_formed =
              subst (λ (ds : List Declaration). All (λ c. FormedClause c ds) s.clauses) r.symbols
              (subst (All (λ c. FormedClause c t.symbols)) r.clauses i.clauses);
          clauses_closed = subst (All Closed) r.clauses i.closed_clauses;
          goal_formed = subst (FormedGoal s.goal) r.symbols h;
          goal_free = λ v f. free_goal_lem s.goal t.symbols v h f;
        }
