-- The walk down a clause's nodes finds the members of the clause that the table has there, in their order.
use Prim.Native.Nat.{ℕ, zero, suc, ◌+◌, ◌-◌, ◌<◌, ◌≤◌}
use native.Mathlib.Omega.{arith}
use mathlib.Core.Path.{◌≡◌, refl, sym, ap, ◌∙◌, subst}
use mathlib.Core.Bool.{Bool, true, false, not, ◌&&◌, ◌||◌, cond, or_comm, or-false}
use mathlib.Core.List.{List, [], ◌∷◌, ◌++◌, map}
use mathlib.Core.Option
use mathlib.Core.Option.{Option, none, some}
use mathlib.Core.Logic.{◌⊎◌, inl, inr}
use lib.Dec.{eqb, ltb}
use lib.ListN.{length, length-append, get_elem?}
use borrow.Author.Tests.{eqb-true, eqb-false, eq-eqb, ne_eqb, ltb-true, ltb-false}
use Rattle.terms.specs.Lists.{All, elem}
use Rattle.terms.proofs.Lists.{all_append, all_weaken, map_map}
use Rattle.formulas.specs.Formulas.{Goal, Clause, both, each, free_ts, free_g, free_c, free_b}
use Rattle.formulas.specs.Members.{Member, stands_free, quantify, members}
use Rattle.formulas.proofs.Free.{and_parts, Within, members_within}
use Rattle.sheet_format.specs.Limits.{max_nodes}
use Rattle.sheet_format.proofs.Indexing.{at_some, at_left, at_right, at_map}
use Rattle.node_table.specs.Layout.{atom_kind, and_kind, implies_kind, forall_kind, kind_of, label_of, child_of, mask_of, bit_of, members_of}
use Rattle.node_table.specs.Chains.{below_of, chain_names, chain_count, is_free, name_before, one_more, names_over, count_over}
use Rattle.node_table.specs.Decoding.{goal_at, clause_at_node, arguments_at}
use Rattle.node_table.specs.WellMade.{IsClause, Arguments, ClauseNode}
use Rattle.node_table.proofs.Decoding.{Nodes, ClauseKind, fact_kind, both_kind, rule_kind, each_kind, clause_kind}
use Rattle.node_table.proofs.Decoding.{clause_fact, clause_both, clause_rule, clause_each}
use Rattle.clause_members.specs.declared.Found.{Found}
use Rattle.clause_members.specs.declared.Side.{Side}
use Rattle.clause_members.specs.Members.{found, side, with_leaf, side_of, chain_at, push_name, pass_chain, find_member, member, head_of}
use Rattle.clause_members.proofs.Prefixes.{Distinct, distinct_few, distinct_append, absent, keep, keep_all, keep_distinct}
use Rattle.clause_members.proofs.Prefixes.{names_of, names_below, Prefix, prefix_none, Digits, digits_none, digits_push}
use Rattle.clause_members.proofs.Quantifiers.{quantify_all, members_idle, row_joined}
use Rattle.clause_members.proofs.Chains.{passed_digits}
use Rattle.clause_members.proofs.Laws.{passed_leaf}

-- The body of the member at a leaf.
unfoldable pub body_of : List ℕ → ℕ → Option Goal
body_of t n = cond (eqb (kind_of t n) implies_kind) (some (goal_at t (child_of t n 0))) none

-- The member of a leaf, with a prefix.
abbrev pub leaf_member : List ℕ → ℕ → List ℕ → Member
leaf_member t n vs =
    record { prefix = vs; predicate = label_of t (head_of t n); arguments = arguments_at t (head_of t n); body = body_of t n }

-- What was found.
abbrev pub member_of : List ℕ → Found → Member
member_of t m = leaf_member t m.leaf (names_of m.count m.names)

-- Q holds of clauses, and of their parts: what a caller knows of the clause, it then knows of the leaf.
module _ (t : List ℕ) (nodes : ℕ) (Q : Clause → Type 0) where
  -- A clause's node that is an atom or an implication.
  pub record LeafNode (n : ℕ) : Type 0 where
    pub below : n < nodes
    pub is : IsClause t n
    pub kind : (kind_of t n ≡ atom_kind) ⊎ (kind_of t n ≡ implies_kind)
    pub formed : Q (clause_at_node t n)

  -- Member k of the clause at node n.
  pub record FoundAt (n k : ℕ) (m : Found) : Type 0 where
    pub is : get_elem? (members (clause_at_node t n)) k ≡ some (member_of t m)
    pub leaf : LeafNode m.leaf
    pub prefix : Prefix m

  -- The node n below the U nodes from c on.
  pub record Under (c n : ℕ) : Type 0 where
    pub below : n ≤ c
    pub is : IsClause t n
    pub kind : kind_of t n ≡ forall_kind → ⊥
    pub formed : Q (clause_at_node t n)
    pub many : members_of t n ≡ members_of t c
    pub free : (v : ℕ) → free_c (clause_at_node t c) v ≡ true → free_c (clause_at_node t n) v ≡ true

  -- The U nodes from c on come to d: the members of the clause at c are those of the clause below, under the names of d.
  pub record ChainIs (c : ℕ) (d : Found) : Type 0 where
    pub under : Under c d.leaf
    pub names : List ℕ
    pub digits : Digits d names
    pub distinct : Distinct names
    pub bound : All (λ v. free_c (clause_at_node t c) v ≡ false) names
    pub free : All (λ v. free_c (clause_at_node t d.leaf) v ≡ true) names
    pub is : members (clause_at_node t c) ≡ map (quantify_all names) (members (clause_at_node t d.leaf))

  -- The walk for member k of the clause at n has come to m: it is now member j of the clause there, under the names of m.
  pub record Reached (n k j : ℕ) (m : Found) : Type 0 where
    pub below : m.leaf < nodes
    pub is : IsClause t m.leaf
    pub formed : Q (clause_at_node t m.leaf)
    pub less : j < members_of t m.leaf
    pub prefix : Prefix m
    pub same : get_elem? (members (clause_at_node t n)) k
        ≡ Option.map (quantify_all (names_of m.count m.names)) (get_elem? (members (clause_at_node t m.leaf)) j)

  -- It has passed the U nodes from x on, and all names of m stand free where it is.
  pub record Passed (n k j x : ℕ) (m : Found) : Type 0 where
    pub reached : Reached n k j m
    pub under : Under x m.leaf
    pub free : All (λ v. free_c (clause_at_node t m.leaf) v ≡ true) (names_of m.count m.names)

module _ (t : List ℕ) (nodes : ℕ) (table : Nodes t nodes) (Q : Clause → Type 0) where
  -- The head of a leaf is an atom, with the arguments of one.
  pub leaf_head : (n : ℕ) → LeafNode t nodes Q n → (head_of t n < nodes) × Arguments t (head_of t n)
  unfolding head_of
  leaf_head n h = go h.kind
    where
      c : ClauseNode t n
      c = table.clause n h.below h.is

      go : (kind_of t n ≡ atom_kind) ⊎ (kind_of t n ≡ implies_kind) → (head_of t n < nodes) × Arguments t (head_of t n)
      go (inl k) = rw k (h.below, c.atom k)
      go (inr k) = let l = h.below in let a = c.implies k in let m = a.2 in rw k (omega arith, a.4)

  -- A leaf has one member.
  leaf_members : (n : ℕ) → LeafNode t nodes Q n → members (clause_at_node t n) ≡ leaf_member t n [] ∷ []
  unfolding members head_of body_of
  leaf_members n h = go h.kind
    where
      go : (kind_of t n ≡ atom_kind) ⊎ (kind_of t n ≡ implies_kind) → members (clause_at_node t n) ≡ leaf_member t n [] ∷ []
      go (inl k) = ap members (clause_fact t nodes table n h.below k) ∙ rw k
      go (inr k) = ap members (clause_rule t nodes table n h.below h.is k) ∙ rw k

  -- The names that stand free in a leaf stand free in its member.
  leaf_free : (n v : ℕ) → LeafNode t nodes Q n
      → free_c (clause_at_node t n) v ≡ (free_ts (arguments_at t (head_of t n)) v || free_b (body_of t n) v)
  unfolding free_c free_b head_of body_of
  leaf_free n v h = go h.kind
    where
      free : Clause → Bool
      free c = free_c c v

      go : (kind_of t n ≡ atom_kind) ⊎ (kind_of t n ≡ implies_kind)
          → free_c (clause_at_node t n) v ≡ (free_ts (arguments_at t (head_of t n)) v || free_b (body_of t n) v)
      go (inl k) = ap free (clause_fact t nodes table n h.below k) ∙ rw k (sym (or-false (free_ts (arguments_at t n) v)))
      go (inr k) =
          ap free (clause_rule t nodes table n h.below h.is k)
          ∙ rw k (or_comm (free_g (goal_at t (child_of t n 0)) v) (free_ts (arguments_at t (child_of t n 1)) v))

  -- So distinct names that all stand free in a leaf are the prefix of its member.
  leaf_prefix : (n : ℕ) (vs : List ℕ) → LeafNode t nodes Q n → Distinct vs → All (λ v. free_c (clause_at_node t n) v ≡ true) vs
      → quantify_all vs (leaf_member t n []) ≡ leaf_member t n vs
  unfolding quantify_all quantify stands_free
  leaf_prefix n [] h d a = refl
  leaf_prefix n (v ∷ vs) h d a =
      ap (quantify v) (leaf_prefix n vs h d.1 a.1) ∙ rw (d.0, sym (leaf_free n v h) ∙ a.0)

  -- A leaf's only member has the number 0.
  leaf_at : (n j : ℕ) → LeafNode t nodes Q n → j < members_of t n → get_elem? (members (clause_at_node t n)) j ≡ some (leaf_member t n [])
  leaf_at n zero h l = ap (λ (ms : List Member). get_elem? ms 0) (leaf_members n h)
  leaf_at n (suc j) h l =
      let e = (table.clause n h.below h.is).members ∙ ap length (leaf_members n h) in
      absurd (omega arith)

  -- U nodes.

  -- A node that is no U node is below itself, with no names.
  chain_none : (n : ℕ) → (kind_of t n ≡ forall_kind → ⊥) → chain_at t n ≡ found n 0 0
  unfolding chain_at below_of chain_names chain_count
  chain_none n k = rw (ne_eqb (kind_of t n) forall_kind k)

  -- A U node adds its name to those below, if it stands free there.
  chain_over : (n : ℕ) → ClauseNode t n → kind_of t n ≡ forall_kind
      → chain_at t n ≡ cond (is_free t (label_of t n) (child_of t n 0)) (push_name (label_of t n) (chain_at t (child_of t n 0)))
      (chain_at t (child_of t n 0))
  unfolding chain_at push_name names_over count_over
  chain_over n c k = let d = c.chain k in rw (d.below, d.names, d.count) (go (is_free t (label_of t n) (child_of t n 0)))
    where
      a : ℕ
      a = child_of t n 0

      go : (b : Bool)
          → found (below_of t a) (cond b (name_before (label_of t n) (chain_names t a)) (chain_names t a))
          (cond b (one_more (chain_count t a)) (chain_count t a))
          ≡ cond b (push_name (label_of t n) (chain_at t a)) (chain_at t a)
      go true = refl
      go false = refl

  module _ (each_part : (v : ℕ) (x : Clause) → Q (each v x) → Q x) where
    -- What the table keeps of the U nodes from c on is right.
    chain_is : (f c : ℕ) → c < f → c < nodes → IsClause t c → Q (clause_at_node t c) → ChainIs t nodes Q c (chain_at t c)
    unfolding quantify_all push_name members free_c is_free
    chain_is zero c a b i w = absurd (omega arith)
    chain_is (suc f) c a b i w = go (clause_kind (kind_of t c) node.kind) (chain_is f)
      where
        node : ClauseNode t c
        node = table.clause c b i

        none_there : (l : List Member) → l ≡ map (quantify_all []) l
        none_there [] = refl
        none_there (m ∷ l) = ap (m ∷◌) (none_there l)

        own : (kind_of t c ≡ forall_kind → ⊥) → ChainIs t nodes Q c (chain_at t c)
        own k =
            subst (ChainIs t nodes Q c) (sym (chain_none c k)) (record {
              under = record { below = omega arith; is = i; kind = k; formed = w; many = refl; free = λ v h. h };
              names = [];
              digits = digits_none c;
              distinct = tt;
              bound = tt;
              free = tt;
              is = none_there (members (clause_at_node t c));
            })

        x : ℕ
        x = child_of t c 0

        v : ℕ
        v = label_of t c

        over : kind_of t c ≡ forall_kind → ChainIs t nodes Q x (chain_at t x) → ChainIs t nodes Q c (chain_at t c)
        over k r =
            subst (ChainIs t nodes Q c)
            (sym (chain_over c node k ∙ ap (λ (z : Bool). cond z (push_name v (chain_at t x)) (chain_at t x))
            ((table.clause x (omega (arith, d.1)) d.2).free v d.0)))
            (pick (free_c (clause_at_node t x) v) refl)
          where
            d : (v < 8) × (x < c) × IsClause t x × (members_of t c ≡ members_of t x)
            d = node.each k

            tree : clause_at_node t c ≡ each v (clause_at_node t x)
            tree = clause_each t nodes table c b i k

            -- What is bound in the clause below, or by this U, is bound in both.
            bound_by_lem : (u : ℕ) → free_c (clause_at_node t x) u ≡ false → free_c (clause_at_node t c) u ≡ false
            bound_by_lem u h = ap (λ (z : Clause). free_c z u) tree ∙ rw h (never (eqb v u))
              where
                never : (z : Bool) → (not z && false) ≡ false
                never true = refl
                never false = refl

            under : Under t nodes Q c (chain_at t x).leaf
            under =
                let u = r.under in
                let l = u.below in
                record {
                  below = omega (arith, d.1);
                  is = u.is;
                  kind = u.kind;
                  formed = u.formed;
                  many = u.many ∙ sym d.3;
                  free = λ z h. u.free z (and_parts (not (eqb v z)) (free_c (clause_at_node t x) z) (sym (ap (λ (y : Clause). free_c y z) tree)
                      ∙ h)).1;
                }

            bound : All (λ u. free_c (clause_at_node t c) u ≡ false) r.names
            bound =
                all_weaken (λ u. free_c (clause_at_node t x) u ≡ false) (λ u. free_c (clause_at_node t c) u ≡ false) bound_by_lem r.names
                r.bound

            small : All (λ u. u < 8) r.names
            small = subst (All (λ u. u < 8)) r.digits.is (names_below (chain_at t x).count (chain_at t x).names)

            pick : (z : Bool) → free_c (clause_at_node t x) v ≡ z → ChainIs t nodes Q c (cond z (push_name v (chain_at t x)) (chain_at t x))
            pick true q =
                let new = absent (free_c (clause_at_node t x)) v r.names q r.bound in
                let few = distinct_few 8 (v ∷ r.names) (d.0, small) (new, r.distinct) in
                record {
                  under = under;
                  names = v ∷ r.names;
                  digits = digits_push v (chain_at t x) r.names d.0 (omega arith) r.digits;
                  distinct = (new, r.distinct);
                  bound = (ap (λ (z : Clause). free_c z v) tree ∙ rw (eq-eqb v v refl), bound);
                  free = (r.under.free v q, r.free);
                  is = ap members tree ∙ ap (map (quantify v)) r.is
                      ∙ map_map (quantify_all r.names) (quantify v) (members (clause_at_node t (chain_at t x).leaf));
                }
            pick false q =
                record {
                  under = under;
                  names = r.names;
                  digits = r.digits;
                  distinct = r.distinct;
                  bound = bound;
                  free = r.free;
                  is = ap members tree ∙ members_idle (clause_at_node t x) v q ∙ r.is;
                }

        go : ClauseKind (kind_of t c)
            → ((n : ℕ) → n < f → n < nodes → IsClause t n → Q (clause_at_node t n) → ChainIs t nodes Q n (chain_at t n))
            → ChainIs t nodes Q c (chain_at t c)
        go (fact_kind e) ih = own (λ k. omega arith)
        go (both_kind e) ih = own (λ k. omega arith)
        go (rule_kind e) ih = own (λ k. omega arith)
        go (each_kind e) ih =
            let d = node.each e in
            let p = each_part v (clause_at_node t x) (subst Q (clause_each t nodes table c b i e) w) in
            over e (ih x (omega (arith, d.1)) (omega (arith, d.1)) d.2 p)

    -- The walk passes them.
    passed : (n k j : ℕ) (m : Found) → Reached t nodes Q n k j m → Passed t nodes Q n k j m.leaf (pass_chain t m)
    unfolding chain_at
    passed n k j m r = subst (Passed t nodes Q n k j x) (ap (λ (y : ℕ). found y s.names s.count) (sym leaf_is)) here
      where
        x : ℕ
        x = m.leaf

        s : Found
        s = pass_chain t m

        c : ChainIs t nodes Q x (chain_at t x)
        c = chain_is (suc x) x (omega arith) r.below r.is r.formed

        y : ℕ
        y = (chain_at t x).leaf

        leaf_is : s.leaf ≡ y
        leaf_is = passed_leaf t m

        vs : List ℕ
        vs = names_of m.count m.names

        p : ℕ → Bool
        p v = eqb (bit_of (mask_of t x) v) 1

        -- The mask says which of the names stand free.
        tests : All (λ v. p v ≡ free_c (clause_at_node t x) v) vs
        tests =
            all_weaken (λ v. v < 8) (λ v. p v ≡ free_c (clause_at_node t x) v)
            (λ v l. (table.clause x r.below r.is).free v l) vs (names_below m.count m.names)

        kept_free : All (λ v. free_c (clause_at_node t x) v ≡ true) (keep p vs)
        kept_free =
            keep_all p (λ v. p v ≡ free_c (clause_at_node t x) v) (λ v. free_c (clause_at_node t x) v ≡ true) (λ v e h. sym e ∙ h) vs tests

        names : List ℕ
        names = keep p vs ++ c.names

        distinct : Distinct names
        distinct =
            distinct_append (keep p vs) c.names (keep_distinct p vs r.prefix.distinct) c.distinct
            (all_weaken (λ v. free_c (clause_at_node t x) v ≡ true) (λ v. elem v c.names ≡ false)
            (λ v h. absent (free_c (clause_at_node t x)) v c.names h c.bound) (keep p vs) kept_free)

        small : All (λ v. v < 8) names
        small =
            all_append (λ v. v < 8) (keep p vs) c.names
            (keep_all p (λ v. v < 8) (λ v. v < 8) (λ v l h. l) vs (names_below m.count m.names))
            (subst (All (λ v. v < 8)) c.digits.is (names_below (chain_at t x).count (chain_at t x).names))

        digits : Digits s names
        digits =
            let few = distinct_few 8 names small distinct in
            let e = length-append (keep p vs) c.names in
            passed_digits t m c.names r.prefix c.digits (omega arith)

        free : All (λ v. free_c (clause_at_node t y) v ≡ true) names
        free =
            all_append (λ v. free_c (clause_at_node t y) v ≡ true) (keep p vs) c.names
            (all_weaken (λ v. free_c (clause_at_node t x) v ≡ true) (λ v. free_c (clause_at_node t y) v ≡ true) c.under.free (keep p vs)
            kept_free)
            c.free

        same : get_elem? (members (clause_at_node t n)) k ≡ Option.map (quantify_all (names_of s.count s.names))
            (get_elem? (members (clause_at_node t y)) j)
        same =
            let ms = members (clause_at_node t x) in
            let ns = members (clause_at_node t y) in
            r.same
            ∙ row_joined (clause_at_node t x) p vs c.names (get_elem? ms j) (get_elem? ns j)
            (at_some (Within (clause_at_node t x)) ms j (members_within (clause_at_node t x)))
            (ap (λ (l : List Member). get_elem? l j) c.is ∙ at_map (quantify_all c.names) ns j) tests
            ∙ ap (λ (l : List ℕ). Option.map (quantify_all l) (get_elem? ns j)) (sym digits.is)

        here : Passed t nodes Q n k j x (found y s.names s.count)
        here =
            let u = c.under in
            let l = u.below in
            let b = r.below in
            let o = r.less in
            let many = u.many in
            record {
              reached = record {
                below = omega arith;
                is = u.is;
                formed = u.formed;
                less = omega arith;
                prefix = record { distinct = subst Distinct (sym digits.is) distinct; fits = digits.fits };
                same = same;
              };
              under = u;
              free = subst (All (λ v. free_c (clause_at_node t y) v ≡ true)) (sym digits.is) free;
            }

    module _ (both-parts : (x y : Clause) → Q (both x y) → Q x × Q y) where
      -- From an & node the walk goes to one side.
      to_side : (n k j : ℕ) (m : Found) → Reached t nodes Q n k j m → kind_of t m.leaf ≡ and_kind
          → ((side_of t m.leaf j).node < m.leaf)
          × Reached t nodes Q n k (side_of t m.leaf j).place (with_leaf m (side_of t m.leaf j).node)
      unfolding side_of with_leaf members
      to_side n k j m r e = go (ltb j (members_of t x)) refl
        where
          x : ℕ
          x = child_of t m.leaf 0

          y : ℕ
          y = child_of t m.leaf 1

          tree : clause_at_node t m.leaf ≡ both (clause_at_node t x) (clause_at_node t y)
          tree = clause_both t nodes table m.leaf r.below r.is e

          d : (x < m.leaf) × IsClause t x × (y < m.leaf) × IsClause t y × (members_of t m.leaf ≡ members_of t x + members_of t y)
          d = (table.clause m.leaf r.below r.is).and e

          q : Q (clause_at_node t x) × Q (clause_at_node t y)
          q = both-parts (clause_at_node t x) (clause_at_node t y) (subst Q tree r.formed)

          ms : List Member
          ms = members (clause_at_node t x)

          ns : List Member
          ns = members (clause_at_node t y)

          over : Option Member → Option Member
          over = Option.map (quantify_all (names_of m.count m.names))

          many : members_of t x ≡ length ms
          many = let b = r.below in (table.clause x (omega (arith, d.0)) d.1).members

          all : get_elem? (members (clause_at_node t m.leaf)) j ≡ get_elem? (ms ++ ns) j
          all = ap (λ (z : Clause). get_elem? (members z) j) tree

          To : Side → Type 0
          To s = (s.node < m.leaf) × Reached t nodes Q n k s.place (with_leaf m s.node)

          prefix : Prefix (found x m.names m.count)
          prefix = record { distinct = r.prefix.distinct; fits = r.prefix.fits }

          go : (z : Bool) → ltb j (members_of t x) ≡ z → To (cond z (side x j) (side y (j - members_of t x)))
          go true h =
              let l = ltb-true j (members_of t x) h in
              let b = r.below in (
                d.0,
                record {
                  below = omega (arith, d.0);
                  is = d.1;
                  formed = q.0;
                  less = l;
                  prefix = prefix;
                  same = r.same ∙ ap over (all ∙ at_left ms ns j (omega (arith, many)));
                },
              )
          go false h =
              let l = ltb-false j (members_of t x) h in
              let b = r.below in
              let o = r.less in
              let sum = d.4 in (
                d.2,
                record {
                  below = omega (arith, d.2);
                  is = d.3;
                  formed = q.1;
                  less = omega arith;
                  prefix = record { distinct = r.prefix.distinct; fits = r.prefix.fits };
                  same = r.same ∙ ap over (all ∙ at_right ms ns j (omega (arith, many)) ∙ ap (λ (i : ℕ). get_elem? ns (j - i)) (sym many));
                },
              )

      -- Where the node below the U nodes is no & node, the walk is done.
      done : (n k j x : ℕ) (m : Found) → Passed t nodes Q n k j x m → (kind_of t m.leaf ≡ and_kind → ⊥) → FoundAt t nodes Q n k m
      done n k j x m p a =
          let r = p.reached in
          let vs = names_of m.count m.names in
          let h = leaf (clause_kind (kind_of t m.leaf) (table.clause m.leaf r.below r.is).kind) in
          record {
            is = r.same ∙ ap (Option.map (quantify_all vs)) (leaf_at m.leaf j h r.less)
                ∙ ap some (leaf_prefix m.leaf vs h r.prefix.distinct p.free);
            leaf = h;
            prefix = r.prefix;
          }
        where
          leaf : ClauseKind (kind_of t m.leaf) → LeafNode t nodes Q m.leaf
          leaf (fact_kind e) =
              record { below = p.reached.below; is = p.reached.is; kind = inl e; formed = p.reached.formed }
          leaf (rule_kind e) =
              record { below = p.reached.below; is = p.reached.is; kind = inr e; formed = p.reached.formed }
          leaf (both_kind e) = absurd (a e)
          leaf (each_kind e) = absurd (p.under.kind e)

      -- The walk finds the member that it is for.
      find_member_lem : (f n k j : ℕ) (m : Found) → Reached t nodes Q n k j m → m.leaf < f → FoundAt t nodes Q n k (find_member f t j m)
      unfolding find_member with_leaf
      find_member_lem zero n k j m r l = absurd (omega arith)
      find_member_lem (suc f) n k j m r l =
          go (eqb (kind_of t m.leaf) and_kind) refl (eqb (kind_of t (pass_chain t m).leaf) and_kind) refl (find_member_lem f n k)
        where
          p : Passed t nodes Q n k j m.leaf (pass_chain t m)
          p = passed n k j m r

          go : (a : Bool) → eqb (kind_of t m.leaf) and_kind ≡ a → (b : Bool) → eqb (kind_of t (pass_chain t m).leaf) and_kind ≡ b
              → ((i : ℕ) (x : Found) → Reached t nodes Q n k i x → x.leaf < f → FoundAt t nodes Q n k (find_member f t i x))
              → FoundAt t nodes Q n k (elim a as (λ z. Found) [
                | true ↦ find_member f t (side_of t m.leaf j).place (with_leaf m (side_of t m.leaf j).node)
                | false ↦ elim b as (λ z. Found) [ true ↦ find_member f t j (pass_chain t m) | false ↦ pass_chain t m ]
              ])
          go true e b h ih =
              let s = to_side n k j m r (eqb-true (kind_of t m.leaf) and_kind e) in
              let o = s.0 in
              ih (side_of t m.leaf j).place (with_leaf m (side_of t m.leaf j).node) s.1 (omega arith)
          go false e true h ih =
              let o = p.under.below in
              let ne : (pass_chain t m).leaf ≡ m.leaf → ⊥ =
              λ q. eqb-false (kind_of t m.leaf) and_kind e (ap (kind_of t) (sym q) ∙ eqb-true (kind_of t (pass_chain t m).leaf) and_kind h)
              in
              ih j (pass_chain t m) p.reached (omega arith)
          go false e false h ih = done n k j m.leaf (pass_chain t m) p (eqb-false (kind_of t (pass_chain t m).leaf) and_kind h)

  module _ (both-parts : (x y : Clause) → Q (both x y) → Q x × Q y) (each_part : (v : ℕ) (x : Clause) → Q (each v x) → Q x) where
    -- As the code has it: the walk is long enough for any table.
    pub member_found : (n k : ℕ) → nodes ≤ max_nodes → n < nodes → IsClause t n → Q (clause_at_node t n) → k < members_of t n
        → FoundAt t nodes Q n k (member t n k)
    unfolding member names_of quantify_all
    member_found n k few b i w l =
        find_member_lem each_part both-parts max_nodes n k k (found n 0 0) (record {
          below = b;
          is = i;
          formed = w;
          less = l;
          prefix = prefix_none n;
          same = go (get_elem? (members (clause_at_node t n)) k);
        }) (omega arith)
      where
        go : (o : Option Member) → o ≡ Option.map (quantify_all []) o
        go none = refl
        go (some m) = refl
