-- A: the node that the code makes of a symbol and its arguments is the one of the definitions.
use Prim.Native.Nat.{ℕ, ◌+◌, ◌*◌, ◌<◌, ◌≤◌}
use native.Mathlib.Omega.{arith}
use mathlib.Core.Path.{◌≡◌, refl, sym, ap, ap₂, ◌∙◌, subst}
use mathlib.Core.Bool.{Bool, true, false, ◌||◌, cond}
use mathlib.Core.List.{List, map}
use mathlib.Core.Option.{none, some}
use lib.Dec.{eqb, leb}
use lib.ListN.{length, get_or}
use borrow.Author.Tests.{eqb-true, le-leb}
use Rattle.terms.specs.Lists.{All}
use Rattle.terms.specs.Terms.{sheet_symbol, Term, app, Terms, size}
use Rattle.terms.proofs.Lists.{all_weaken, length_map}
use Rattle.terms.proofs.Tests.{eqb_comm}
use Rattle.formulas.specs.Formulas.{Goal, atom, Clause, fact, free_t, free_ts, free_g, free_c}
use Rattle.formulas.specs.Members.{members}
use Rattle.sheet_format.specs.Limits.{max_symbols}
use Rattle.sheet_format.specs.Nodes.{Declaration, Node, neither, term_nodes, sized, term_node, applied, apply_node, is_some, is_something}
use Rattle.sheet_format.specs.Sheets.{add_node as sheetAddNode}
use Rattle.node_table.specs.Layout.{child_count, child_of, mask_of, bit_of, pack_info, is_function_bit, arity_of}
use Rattle.node_table.specs.Decoding.{functor_of, children_by, term_by, term_at, arguments_at, goal_at, clause_at_node, declaration_at}
use Rattle.node_table.specs.WellMade.{IsTerm, label_arity, Arguments, Labelled}
use Rattle.node_table.proofs.Same.{same_arity}
use Rattle.node_table.proofs.Decoding.{term_by_application, goal_by_atom, clause_by_fact, term_at_same}
use Rattle.node_table.proofs.Nodes.{is_term_same}
use Rattle.node_table.proofs.Functors.{symbol_functor, symbol_arity}
use Rattle.table_builder.specs.declared.node_info.Counts.{Counts}
use Rattle.table_builder.specs.declared.node_info.NodeRecord.{NodeRecord}
use Rattle.table_builder.specs.Nodes.{node_record, node_written, add_node}
use Rattle.table_builder.specs.Symbols.{all_there, all_terms, sizes_from, masks_from, term_info, applied_info, application_info, applied_kind}
use Rattle.table_builder.specs.Symbols.{first_of}
use Rattle.table_builder.proofs.symbols.Laws.{first_length}
use Rattle.table_decoding.specs.Decoding.{node_read, table_of, Decodes, Agrees, TableIs, Follows}
use Rattle.table_decoding.proofs.Bits.{bit_none}
use Rattle.table_decoding.proofs.Writing.{NodeIs, written}
use Rattle.table_decoding.proofs.Adding.{node_agree, NewNode, nodes_of_stands, same, added}
use Rattle.table_decoding.proofs.NodeKinds.{an_application, a_goal_atom, a_fact}
use Rattle.table_decoding.proofs.Under.{term_under}
use Rattle.table_decoding.proofs.Arguments.{terms_by, terms_agree, children_first, child_first, all_at, Argument, terms_read}
use Rattle.table_decoding.proofs.Arguments.{all_arguments, sizes_are, masks_below, masks_are}

module _ (bytes t : List ℕ) (k : Counts) (st : Decodes bytes t k) (h : k.nodes < 1024) (f count a b c d : ℕ) (lf : f < k.symbols)
    (few : count ≤ 4) where
  abbrev n : ℕ
  n = k.nodes

  abbrev args : List ℕ
  args = first_of count a b c d

  abbrev terms : Terms ℕ
  terms = terms_by (term_at t) args

  -- The label is a symbol.
  is_symbol_lem : f < max_symbols
  is_symbol_lem = let s = st.few_symbols in omega arith

  -- In this module all arguments are there and are terms, as many as the arity.
  module _ (all : All (Argument bytes t k st) args) (agree : arity_of t f ≡ count) (kind mask goal members size : ℕ) (r : NodeRecord)
      (is : NodeIs (node_written t k.nodes r) k.nodes kind count f a b c d mask goal members size) where
    abbrev u : List ℕ
    u = node_written t n r

    -- The new table reads the arguments as the same terms.
    arguments_are : arguments_at u n ≡ terms
    unfolding arguments_at
    arguments_are =
        ap (λ (x : ℕ). children_by (term_at u) u n x 0) is.count
        ∙ children_first u n a b c d is.first is.second is.third is.fourth (term_at u) count few
        ∙ terms_agree (term_at u) (term_at t) args
        (all_weaken (Argument bytes t k st) (λ x. term_at u x ≡ term_at t x)
        (λ x p. term_at_same t u k.symbols n (same bytes t k st h r) (nodes_of_stands bytes t k st) x p.0 p.1) args all)

    under_are : children_by (term_by n u) u n (child_count u n) 0 ≡ terms
    under_are =
        ap (λ (x : ℕ). children_by (term_by n u) u n x 0) is.count
        ∙ children_first u n a b c d is.first is.second is.third is.fourth (term_by n u) count few
        ∙ terms_agree (term_by n u) (term_at t) args
        (all_weaken (Argument bytes t k st) (λ x. term_by n u x ≡ term_at t x) (λ x p. term_under bytes t k st h r x p.0 p.1) args all)

    arguments_there : Arguments u n
    arguments_there =
        let l = is.label in
        let m = is.count in
        record {
          many = m ∙ sym agree ∙ sym (ap (label_arity u) l ∙ symbol_arity f is_symbol_lem u ∙ same_arity t u k.symbols n (same bytes t k st h r) f lf);
          few = omega arith;
          terms = λ j p. at j (omega arith);
        }
      where
        at : (j : ℕ) → j < count → (child_of u n j < n) × IsTerm u (child_of u n j)
        at j p =
            let x = all_at (Argument bytes t k st) args j all (let q = first_length count count a b c d few refl in omega arith) in
            subst (λ (y : ℕ). (y < n) × IsTerm u y)
            (sym (child_first u n a b c d is.first is.second is.third is.fourth j count p few))
            (x.0, is_term_same t u k.symbols n (same bytes t k st h r) (get_or args j 0) x.0 x.1)

    masked : mask ≡ masks_from t 0 args → (v : ℕ) → v < 8 → eqb (bit_of (mask_of u n) v) 1 ≡ free_ts terms v
    masked q v l =
        ap (λ (m : ℕ). eqb (bit_of m v) 1) (is.mask ∙ q) ∙ masks_are bytes t k st 0 args v l all
        ∙ ap (λ (x : ℕ). eqb x 1 || free_ts terms v) (bit_none v)

    named : Labelled u k.symbols n
    named =
        let l = is.label in
        let s = is_symbol_lem in
        record { declared = λ z. omega arith; most = omega arith; predicate = λ z. omega arith }

  abbrev mask : ℕ
  mask = masks_from t 0 args

  mask_is_below : mask < 256
  mask_is_below = masks_below bytes t k st 0 args (omega arith)

  -- F applied

  module _ (all : All (Argument bytes t k st) args) (agree : arity_of t f ≡ count) where
    abbrev total : ℕ
    total = sizes_from t 1 args

    abbrev term_record : NodeRecord
    term_record = node_record (1 + 16 * count) f a b c d (pack_info mask 0 0 total)

    abbrev term_table : List ℕ
    term_table = node_written t n term_record

    term_is : NodeIs term_table n 1 count f a b c d mask 0 0 total
    term_is = written t n 1 count f a b c d mask 0 0 total st.long h (omega arith) mask_is_below (omega arith) (omega arith)

    term_term : term_at term_table n ≡ app (sheet_symbol f) terms
    unfolding term_at
    term_term =
        term_by_application n term_table n term_is.kind
        ∙ ap₂ app (ap functor_of term_is.label ∙ symbol_functor f is_symbol_lem) (under_are all agree 1 mask 0 0 total term_record term_is)

    pub total_is : total ≡ size (app (sheet_symbol f) terms)
    unfolding size
    total_is = let e = sizes_are bytes t k st 1 args all in omega arith

    term_read : node_read term_table n ≡ term_node (some (app (sheet_symbol f) terms))
    unfolding node_read term_node size
    term_read =
        let s = total_is in
        node_agree _ _ _ _ _ _ (rw (term_is.size, le-leb 1 total (omega arith)) (ap some term_term)) (rw term_is.goal)
        (rw term_is.members)

    term_new : NewNode term_table n k.symbols
    unfolding free_t
    term_new =
        record {
          named = λ p q. named all agree 1 mask 0 0 total term_record term_is;
          term = λ i.
              an_application term_table n term_is.kind (arguments_there all agree 1 mask 0 0 total term_record term_is)
              (term_is.size ∙ total_is ∙ ap (λ (x : Term ℕ). size x) (sym term_term))
              (λ v l. masked all agree 1 mask 0 0 total term_record term_is refl v l ∙ ap (λ (x : Term ℕ). free_t x v) (sym term_term));
          goal = λ i. let g = term_is.goal in absurd (omega arith);
          clause = λ i. let m = term_is.members in absurd (omega arith);
        }

    pub term_added : Follows (TableIs bytes) t (add_node t k term_record)
        (sheetAddNode (table_of bytes t k) (some (term_node (some (app (sheet_symbol f) terms)))))
    term_added = added bytes t k st h term_record _ term_read term_new

    -- P applied

    abbrev atom_record : NodeRecord
    atom_record = node_record (2 + 16 * count) f a b c d (pack_info mask 1 1 0)

    abbrev atom_table : List ℕ
    atom_table = node_written t n atom_record

    atom_is : NodeIs atom_table n 2 count f a b c d mask 1 1 0
    atom_is = written t n 2 count f a b c d mask 1 1 0 st.long h (omega arith) mask_is_below (omega arith) (omega arith)

    atom_arguments : arguments_at atom_table n ≡ terms
    atom_arguments = arguments_are all agree 2 mask 1 1 0 atom_record atom_is

    atom_goal : goal_at atom_table n ≡ atom f terms
    unfolding goal_at
    atom_goal = goal_by_atom n atom_table n atom_is.kind ∙ ap₂ atom atom_is.label atom_arguments

    atom_clause : clause_at_node atom_table n ≡ fact f terms
    unfolding clause_at_node
    atom_clause = clause_by_fact n atom_table n atom_is.kind ∙ ap₂ fact atom_is.label atom_arguments

    atom_read : node_read atom_table n ≡ record { term = none; goal = some (atom f terms); clause = some (fact f terms) }
    unfolding node_read
    atom_read =
        node_agree _ _ _ _ _ _ (rw atom_is.size) (rw atom_is.goal (ap some atom_goal)) (rw atom_is.members (ap some atom_clause))

    atom_new : NewNode atom_table n k.symbols
    unfolding free_g free_c members
    atom_new =
        let m = atom_is.members in
        record {
          named = λ p q. named all agree 2 mask 1 1 0 atom_record atom_is;
          term = λ i. let s = atom_is.size in absurd (omega arith);
          goal = λ i.
              a_goal_atom atom_table n (λ v l. masked all agree 2 mask 1 1 0 atom_record atom_is refl v l
              ∙ ap (λ (x : Goal). free_g x v) (sym atom_goal)) atom_is.kind
              (arguments_there all agree 2 mask 1 1 0 atom_record atom_is);
          clause = λ i.
              a_fact atom_table n (omega arith) (m ∙ ap (λ (x : Clause). length (members x)) (sym atom_clause))
              (λ v l. masked all agree 2 mask 1 1 0 atom_record atom_is refl v l ∙ ap (λ (x : Clause). free_c x v) (sym atom_clause))
              atom_is.kind
              (arguments_there all agree 2 mask 1 1 0 atom_record atom_is);
        }

    pub atom_added : Follows (TableIs bytes) t (add_node t k atom_record) (sheetAddNode (table_of bytes t k) (some
        (record { term = none; goal = some (atom f terms); clause = some (fact f terms) })))
    atom_added = added bytes t k st h atom_record _ atom_read atom_new

  -- any application

  -- A node that is nothing is refused as in the definitions.
  nothing : (r : NodeRecord) (node : Node) → r.info ≡ 0 → is_something node ≡ false
      → Follows (TableIs bytes) t (add_node t k r) (sheetAddNode (table_of bytes t k) (some node))
  unfolding add_node sheetAddNode Agrees
  nothing r node e s = rw (e, s) (record { agrees = refl; long = refl; rest = refl; order = refl })

  abbrev declared : Declaration
  declared = declaration_at bytes t f

  abbrev any_record : NodeRecord
  any_record = node_record (applied_kind t f + 16 * count) f a b c d (application_info t f args)

  -- Where the arity agrees and all arguments are terms, the node is added as in the definitions.
  of_terms : All (Argument bytes t k st) args → arity_of t f ≡ count
      → Follows (TableIs bytes) t (add_node t k (node_record (applied_kind t f + 16 * count) f a b c d (applied_info t f args)))
      (sheetAddNode (table_of bytes t k) (some (applied (eqb (is_function_bit t f) 1) f (some terms))))
  unfolding applied_kind applied_info term_info applied sized term_node is_something is_some
  of_terms all agree = go (eqb (is_function_bit t f) 1) refl
    where
      bounded : (x : Bool) → leb (sizes_from t 1 args) 1024 ≡ x
          → Follows (TableIs bytes) t (add_node t k (node_record (1 + 16 * count) f a b c d (cond x (pack_info mask 0 0 (sizes_from t 1 args)) 0)))
          (sheetAddNode (table_of bytes t k) (some (term_node (cond x (some (app (sheet_symbol f) terms)) none))))
      bounded true p = term_added all agree
      bounded false p = nothing (node_record (1 + 16 * count) f a b c d 0) (term_node none) refl refl

      go : (x : Bool) → eqb (is_function_bit t f) 1 ≡ x
          → Follows (TableIs bytes) t
          (add_node t k (node_record (cond x 1 2 + 16 * count) f a b c d
          (cond x (cond (leb (sizes_from t 1 args) 1024) (pack_info mask 0 0 (sizes_from t 1 args)) 0) (pack_info mask 1 1 0))))
          (sheetAddNode (table_of bytes t k) (some (applied x f (some terms))))
      go true p =
          rw (← total_is all agree) (bounded (leb (sizes_from t 1 args) 1024) refl)
      go false p = atom_added all agree

  neither_nothing : is_something neither ≡ false
  unfolding is_something neither is_some
  neither_nothing = refl

  pub application_added : all_there n args ≡ true
      → Follows (TableIs bytes) t (add_node t k any_record) (sheetAddNode (table_of bytes t k) (some (apply_node declared f (map (node_read t) args))))
  unfolding application_info apply_node declaration_at applied
  application_added there =
      rw (length_map (node_read t) args, eqb_comm (length args) (arity_of t f)) (go (eqb (arity_of t f) (length args)) refl)
    where
      none_applied : (x : Bool) → is_something (applied x f none) ≡ false
      none_applied true = neither_nothing
      none_applied false = neither_nothing

      go₂ : arity_of t f ≡ count → (x : Bool) → all_terms t args ≡ x
          → Follows (TableIs bytes) t (add_node t k (node_record (applied_kind t f + 16 * count) f a b c d (cond x (applied_info t f args) 0)))
          (sheetAddNode (table_of bytes t k) (some (applied (eqb (is_function_bit t f) 1) f (cond x (some terms) none))))
      go₂ e true p = of_terms (all_arguments bytes t k st args there p) e
      go₂ e false p =
          nothing (node_record (applied_kind t f + 16 * count) f a b c d 0) (applied (eqb (is_function_bit t f) 1) f none) refl
          (none_applied (eqb (is_function_bit t f) 1))

      go : (x : Bool) → eqb (arity_of t f) (length args) ≡ x
          → Follows (TableIs bytes) t
          (add_node t k (node_record (applied_kind t f + 16 * count) f a b c d (cond x (cond (all_terms t args) (applied_info t f args) 0) 0)))
          (sheetAddNode (table_of bytes t k)
          (some (cond x (applied (eqb (is_function_bit t f) 1) f (term_nodes (map (node_read t) args))) neither)))
      go true p =
          let e = eqb-true (arity_of t f) (length args) p in
          let q = first_length count count a b c d few refl in
          rw (terms_read bytes t k st args) (go₂ (e ∙ sym q) (all_terms t args) refl)
      go false p = nothing (node_record (applied_kind t f + 16 * count) f a b c d 0) neither refl neither_nothing
