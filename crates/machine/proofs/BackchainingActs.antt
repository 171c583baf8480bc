-- The act of trying a member, and taking an atom, from state to state.
use Prim.Native.Nat.{ℕ, suc, ◌*◌, ◌≤◌, ◌<◌}
use native.Mathlib.Omega.{arith}
use mathlib.Core.Bool.{Bool, true, false, cond}
use mathlib.Core.Path.{◌≡◌, refl, sym, ap, ◌∙◌, subst}
use mathlib.Core.List.{List, [], ◌∷◌, ◌++◌, append_assoc}
use lib.Dec.{eqb}
use lib.ListN.{length}
use borrow.Author.Tests.{eqb-true}
use Rattle.terms.specs.Terms.{substitutes}
use Rattle.sequents.specs.Sequents.{Entry, entry, entries, Sequent}
use Rattle.unification.specs.Store.{Leaf, Store}
use Rattle.unification.specs.Promises.{Formed}
use Rattle.search.specs.Configurations.{Branch, Atom, Configuration, try}
use Rattle.search.specs.Steps as level1
use Rattle.search.proofs.Invariant.{EnvironmentBelow}
use Rattle.sheet_format.specs.Limits.{max_budget, numbers_per_unit}
use Rattle.node_table.specs.Layout.{kind_of, label_of, atom_kind}
use Rattle.node_table.specs.Decoding.{arguments_at}
use Rattle.node_table.proofs.Decoding.{goal_atom}
use Rattle.machine.specs.declared.Registers.{Registers}
use Rattle.machine.specs.RegisterUpdates.{with_member}
use Rattle.machine.specs.Words.{environment_at}
use Rattle.machine.specs.Goals.{try_from, take_atom}
use Rattle.machine.specs.Backchaining.{clause_of, clause_frame, next_member, try_member, try_found, try_next}
use Rattle.machine.proofs.Words.{increment_small}
use Rattle.machine.proofs.Tables.{Table, nodes_are}
use Rattle.machine.proofs.Terms.{FrameIn}
use Rattle.machine.proofs.Branches.{SequentAt, sequent_up, BranchAt, branch_up, LeafOf}
use Rattle.machine.proofs.Configurations.{store_of, atom_up, position_up, ConfigurationAt}
use Rattle.machine.proofs.ChoicePoints.{SharedAt, shared_up, StateAt, ResultAt}
use Rattle.machine.proofs.MembersLeft.{MembersAt, some_left, none_left_lem, program_members, position_first}
use Rattle.machine.proofs.Backchaining.{first_is, try_from_lem, next_is, try_member_lem}
use Rattle.clause_members.specs.declared.Found.{Found}
use Rattle.clause_members.specs.Members.{member, head_of}
use Rattle.clause_members.proofs.Prefixes.{Prefix}
use Rattle.clause_members.proofs.Members.{member_of}

-- Equal lists have equal first elements.
head_is : {A : Type 0} (a b : A) (x y : List A) → a ∷ x ≡ b ∷ y → a ≡ b
head_is a b x y e = cc

-- Equal lists have equal tails.
tail_is : {A : Type 0} (a b : A) (x y : List A) → a ∷ x ≡ b ∷ y → x ≡ y
tail_is a b x y e = cc

module _ (T : Table) (w : List ℕ) (r : Registers) (b : Branch) (ds : List Configuration)
    (room : numbers_per_unit * suc r.acts ≤ length w) (small : r.acts < max_budget) where
  -- The table.
  abbrev t : List ℕ
  t = T.numbers

  -- Members left, an act later.
  members_up : (q : Registers) (es : List (Entry Leaf)) → MembersAt T r.acts w q es → MembersAt T (suc r.acts) w q es
  members_up q es (some_left e p) = some_left e (position_up T r.acts w q es p)
  members_up q es (none_left_lem e z) = none_left_lem e z

  -- The members left are tried.
  others_tried : (s : Store) (a : Atom) (x : Entry Leaf) (xs others : List (Entry Leaf)) (k h i j : ℕ)
      → StateAt T r.acts w r (try s a x xs k b) ds → MembersAt T r.acts w (with_member r h i j (suc r.place)) others
      → ResultAt T (suc r.acts) (try_from T.clauses w (with_member r h i j (suc r.place)))
      (level1.try_from s a others (suc k) b ++ ds)
  unfolding with_member ConfigurationAt store_of
  others_tried s a x xs others k h i j st left =
      let f = st.front in
      let p = f.place in
      let l = f.low in
      try_from_lem T (suc r.acts) w (with_member r h i j (suc r.place)) s a others (suc k) b ds
      (members_up (with_member r h i j (suc r.place)) others left)
      (atom_up T r.acts s.next w r.node r.frame r.program r.level a f.atom) (ap suc p) (omega arith) (omega arith)
      (branch_up T r.acts s.next w r.goals r.path r.line b f.branch)
      (shared_up T r.acts w r.next r.trail r.choice s ds st.shared)

  -- The member m that was found, with the position of the next.
  tried_found : (s : Store) (a : Atom) (x : Entry Leaf) (xs others : List (Entry Leaf)) (k h i j : ℕ) (m : Found) → Formed s
      → StateAt T r.acts w r (try s a x xs k b) ds → FrameIn r.acts s.next w (clause_frame w r)
      → LeafOf T m.leaf → Prefix m → next_member T.numbers T.clauses w r ≡ with_member r h i j (suc r.place)
      → MembersAt T r.acts w (with_member r h i j (suc r.place)) others
      → ResultAt T (suc r.acts) (try_found T.numbers T.clauses w r m)
      ((cond (eqb a.predicate (member_of T.numbers m).predicate)
      (level1.try_member s a (entry (environment_at w (clause_frame w r)) (member_of T.numbers m)) k b) [] ++ level1.try_from s a others
      (suc k) b) ++ ds)
  unfolding try_found ConfigurationAt store_of
  tried_found s a x xs others k h i j m fm st fr lf pk Q left =
      subst (λ (c : Bool). ResultAt T (suc r.acts) (try_found t T.clauses w r m) ((cond c A [] ++ B) ++ ds))
      (ap (λ (p : ℕ). eqb p (label_of t (head_of t m.leaf))) st.front.atom.predicate)
      (go (eqb (label_of t r.node) (label_of t (head_of t m.leaf))) refl)
    where
      A : List Configuration
      A = level1.try_member s a (entry (environment_at w (clause_frame w r)) (member_of T.numbers m)) k b

      B : List Configuration
      B = level1.try_from s a others (suc k) b

      go : (c : Bool) → eqb (label_of t r.node) (label_of t (head_of t m.leaf)) ≡ c
          → ResultAt T (suc r.acts) (cond c (try_member t T.clauses w r m (next_member t T.clauses w r))
          (try_from T.clauses w (next_member t T.clauses w r)))
          ((cond c A [] ++ B) ++ ds)
      go true e =
          let f = st.front in
          subst (λ (z : List Configuration). ResultAt T (suc r.acts)
          (try_member t T.clauses w r m (next_member t T.clauses w r)) z) (sym (append_assoc A B ds))
          (try_member_lem T w r s a k b ds room small f.atom f.place f.first f.low f.branch st.shared fm fr m lf pk
          (eqb-true (label_of t r.node) (label_of t (head_of t m.leaf)) e) h i j others left Q)
      go false e =
          subst (λ (z : Registers). ResultAt T (suc r.acts) (try_from T.clauses w z) (B ++ ds)) (sym Q)
          (others_tried s a x xs others k h i j st left)

  -- One act.
  pub try_act : (s : Store) (a : Atom) (x : Entry Leaf) (xs : List (Entry Leaf)) (k : ℕ) → Formed s
      → EnvironmentBelow s.next x.environment → StateAt T r.acts w r (try s a x xs k b) ds
      → ResultAt T (suc r.acts) (try_next T.numbers T.clauses w r) (level1.step r.acts (try s a x xs k b) ++ ds)
  unfolding try_next level1.step ConfigurationAt store_of
  try_act s a x xs k fm bl st =
      let f = st.front in
      let F = position_first T r.acts w r (x ∷ xs) f.position in
      let N = next_is T w r in
      let p = f.place in
      let l = f.low in
      let m = member t (clause_of t w r) r.member in
      let Q : next_member t T.clauses w r ≡ with_member r N.0 N.1 N.2 (suc r.place) = N.3
      ∙ ap (with_member r N.0 N.1 N.2) (increment_small r.place (omega arith)) in
      let X : x ≡ entry (environment_at w (clause_frame w r)) (member_of T.numbers m) =
      head_is x (entry (environment_at w (clause_frame w r)) (member_of T.numbers m)) xs F.others F.are in
      let Y : xs ≡ F.others = tail_is x (entry (environment_at w (clause_frame w r)) (member_of T.numbers m)) xs F.others F.are in
      let R : Entry Leaf → List (Entry Leaf) → Type 0 =
      λ (y : Entry Leaf) (ys : List (Entry Leaf)).
      ResultAt T (suc r.acts) (try_found t T.clauses w r m)
      ((cond (eqb a.predicate y.member.predicate) (level1.try_member s a y k b) [] ++ level1.try_from s a ys (suc k) b) ++ ds) in
      let base : R (entry (environment_at w (clause_frame w r)) (member_of T.numbers m)) F.others =
      tried_found s a x xs F.others k N.0 N.1 N.2 m fm st
      (record { frame = f.position.frame; below = subst (λ (y : Entry Leaf). EnvironmentBelow s.next y.environment) X bl })
      F.found.leaf F.found.prefix Q (subst (λ (z : Registers). MembersAt T r.acts w z F.others) Q F.left) in
      subst (λ (y : Entry Leaf). R y xs) (sym X)
      (subst (λ (ys : List (Entry Leaf)). R (entry (environment_at w (clause_frame w r)) (member_of T.numbers m)) ys) (sym Y) base)

  -- Taking an atom.
  pub take_atom_lem : (s : Store) (g : Sequent Leaf) → kind_of T.numbers r.node ≡ atom_kind
      → SequentAt T r.acts w r.node r.frame r.program r.level g → EnvironmentBelow s.next g.environment
      → BranchAt T r.acts s.next w r.goals r.path r.line b
      → SharedAt T r.acts w r.next r.trail r.choice s ds
      → ResultAt T (suc r.acts) (take_atom T.numbers T.clauses w r)
      (level1.take_goal r.acts s g.goal g.environment g.program g.level b ++ ds)
  unfolding take_atom level1.take_goal with_member
  take_atom_lem s g k sq bl br sh =
      let u = r.acts in
      let n = sq.node.0 in
      let Q = sequent_up T u w r.node r.frame r.program r.level g sq in
      let F = first_is T w r in
      rw (← sq.goal, goal_atom t T.nodes (nodes_are T) r.node n k, F.2)
      (try_from_lem T (suc u) w (with_member r F.0 F.1 0 1) s
      (record {
        predicate = label_of t r.node;
        arguments = substitutes (arguments_at t r.node) g.environment;
        program = g.program;
        level = g.level;
      }) (entries g.program) 1 b ds
      (subst (λ (z : Registers). MembersAt T (suc u) w z (entries g.program)) F.2 (program_members T (suc u) w r Q.program))
      (record {
        node = (n, (T.made.goal_node r.node n sq.node.1).atom k);
        predicate = refl;
        frame = record { frame = Q.frame; below = subst (EnvironmentBelow s.next) (sym Q.environment) bl };
        arguments = ap (substitutes (arguments_at t r.node)) Q.environment;
        program = Q.program;
        level = Q.level;
        low = Q.low;
      }) refl (omega arith) (omega arith) (branch_up T u s.next w r.goals r.path r.line b br)
      (shared_up T u w r.next r.trail r.choice s ds sh))
