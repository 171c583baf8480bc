-- Trying a member is level 1's `try_member`, with the members left as the alternative.
use Prim.Native.Nat.{ℕ, suc, ◌+◌, ◌*◌, ◌≤◌, ◌<◌}
use native.Mathlib.Omega.{arith}
use mathlib.Core.Bool.{Bool, true, false, cond}
use mathlib.Core.Path.{◌≡◌, refl, sym, ap, ap₂, ◌∙◌, subst}
use mathlib.Core.List.{List, [], ◌∷◌, ◌++◌}
use mathlib.Core.Option.{none, some}
use mathlib.Core.Logic.{◌⊎◌, inl, inr}
use lib.Dec.{eqb, ltb}
use lib.ListN.{length, get_or}
use borrow.Author.Tests.{eqb-true, ne_eqb}
use Rattle.terms.specs.Terms.{leaf, Terms, substitutes}
use Rattle.sequents.specs.Sequents.{Environment, Entry, entry, assign, body_sequent, Dclause}
use Rattle.unification.specs.Store.{Leaf, var, Store, fresh, past, fresh_variables}
use Rattle.unification.specs.Matching.{push_pairs, comparing}
use Rattle.unification.specs.Promises.{Formed}
use Rattle.search.specs.Configurations.{Branch, branch, Atom, Configuration, try}
use Rattle.search.specs.Steps.{settle}
use Rattle.search.specs.Steps as level1
use Rattle.search.proofs.Invariant.{EnvironmentBelow, prefix_below}
use Rattle.node_table.specs.Layout.{order_number, kind_of, label_of, child_of, members_of, implies_kind}
use Rattle.node_table.specs.Decoding.{arguments_at, goal_at}
use Rattle.machine.specs.declared.Registers.{Registers}
use Rattle.machine.specs.Fields as fields
use Rattle.machine.specs.Records.{Made, made, put_goal, put_path, put_use, put_choice, put_chosen, put_position, put_pairs, clause_line}
use Rattle.machine.specs.Records.{try_mode}
use Rattle.machine.specs.RegisterUpdates.{with_mode, with_next, with_trail, with_choice, with_goals, with_path, with_goal, with_member}
use Rattle.machine.specs.Words.{truncate, increment, environment_at}
use Rattle.machine.specs.Frames.{copy_frame, put_fresh}
use Rattle.machine.specs.Reading.{line_at, variables_from}
use Rattle.machine.specs.ChoicePoints.{save_choice}
use Rattle.machine.specs.Goals.{members_left, try_from, after_sheet, from_clause, first_member}
use Rattle.machine.specs.Matching.{pairs_from, due_pairs}
use Rattle.machine.specs.AssumptionChains.{parent_of, oldest_of, later_of}
use Rattle.machine.specs.Backchaining.{clause_of, clause_frame, after_assumption, next_clause, next_member, put_prefix, save_alternative}
use Rattle.machine.specs.Backchaining.{put_body, put_try}
use Rattle.machine.specs.Backchaining.{tried, try_member}
use Rattle.machine.proofs.Words.{truncate_small, increment_small}
use Rattle.machine.proofs.MemoryOrder.{Extends, Grow, extends_22, grow_refl, grow_trans, grow_puts}
use Rattle.machine.proofs.Tables.{Table, nodes_are}
use Rattle.machine.proofs.Terms.{FrameIn, framed_extends, framed_up, environment_extends}
use Rattle.machine.proofs.Stores.{store_up, store_grow}
use Rattle.machine.proofs.WaitingArguments.{PairsAt, Pushed}
use Rattle.machine.proofs.Branches.{path_wider, GoalsAt, goals_extends, goals_up, goals_le, BranchAt, branch_extends}
use Rattle.machine.proofs.Branches.{branch_up, Anything}
use Rattle.machine.proofs.Branches.{LeafOf}
use Rattle.machine.proofs.Configurations.{store_of, AtomAt, atom_extends, atom_up, PositionAt, position_extends, position_up}
use Rattle.machine.proofs.Configurations.{position_same, ConfigurationAt}
use Rattle.machine.proofs.ChoicePoints.{Bounded, AlternativesAt, alternatives_wider, SharedAt, shared_grow, ResultAt, failed_result}
use Rattle.machine.proofs.AfterAct.{pushed_result}
use Rattle.machine.proofs.Comparing.{push_held}
use Rattle.machine.proofs.Frames.{SameFrames, same_trans, same_puts, FrameMade, copy_grow, copy_made, made_same, FreshMade}
use Rattle.machine.proofs.Frames.{fresh_made}
use Rattle.machine.proofs.SavedChoices.{saved, saved_length, resumed, SavedAt, choice_opened}
use Rattle.machine.proofs.GoalActs.{path_pushed}
use Rattle.machine.proofs.MembersLeft.{MembersAt, some_left, none_left_lem, position_first}
use Rattle.memory.proofs.Records.{puts, puts_at, puts_out, length_puts}
use Rattle.memory.specs.Records.{field}
use Rattle.clause_members.specs.declared.Found.{Found}
use Rattle.clause_members.specs.Members.{head_of}
use Rattle.clause_members.proofs.Prefixes.{names_length, Prefix, prefix_few, names_of}
use Rattle.clause_members.proofs.Members.{body_of, member_of, leaf_head}

-- An empty list has no first element.
not_empty : {A : Type 0} (a : A) (l : List A) → ◌≡◌ {A = List A} [] (a ∷ l) → ⊥
not_empty a l e = let z : 0 ≡ suc (length l) = ap length e in omega arith

module _ (T : Table) where
  -- The member that the registers name is due, or the atom fails.
  pub try_from_lem : (n : ℕ) (w : List ℕ) (r : Registers) (s : Store) (a : Atom) (es : List (Entry Leaf)) (k : ℕ) (b : Branch)
      (ds : List Configuration) → MembersAt T n w r es
      → AtomAt T n s.next w r.node r.frame r.program r.level a → r.place ≡ k → 1 ≤ k → k ≤ n
      → BranchAt T n s.next w r.goals r.path r.line b
      → SharedAt T n w r.next r.trail r.choice s ds → ResultAt T n (try_from T.clauses w r) (level1.try_from s a es k b ++ ds)
  unfolding try_from level1.try_from with_mode ResultAt ConfigurationAt store_of
  try_from_lem n w r s a es k b ds (none_left_lem e z) at p l m br sh =
      rw (e, z) (failed_result T n s.next w r ds sh.trail sh.alternatives)
  try_from_lem n w r s a [] k b ds (some_left e p) at pl l m br sh =
      let f = position_first T n w r [] p in absurd (not_empty _ f.others f.are)
  try_from_lem n w r s a (x ∷ xs) k b ds (some_left e p) at pl l m br sh = rw e (record {
    front =
        record {
          mode = refl;
          atom = at;
          position = position_same T n w r (with_mode r try_mode) (x ∷ xs) refl refl refl refl p;
          place = pl;
          first = l;
          low = m;
          branch = br;
        };
    shared = sh;
  })

  -- The next member: only the position changes.
  pub next_is : (w : List ℕ) (r : Registers) → (h : ℕ) × (i : ℕ) × (k : ℕ)
      × (next_member T.numbers T.clauses w r ≡ with_member r h i k (increment r.place))
  unfolding next_member next_clause from_clause after_sheet after_assumption
  next_is w r =
      go (ltb (increment r.member) (members_of T.numbers (clause_of T.numbers w r))) (eqb r.hypothesis 0)
      (ltb (increment r.clause) T.clauses) (eqb (order_number T.numbers) 0)
    where
      q : Registers
      q = with_member r r.hypothesis r.clause (increment r.member) (increment r.place)

      p : ℕ
      p = increment r.place

      go : (b c d o : Bool) → (h : ℕ) × (i : ℕ) × (k : ℕ)
          × (cond b q (cond c (cond d (with_member r 0 (increment r.clause) 0 p)
          (with_member r (cond o (oldest_of w r.program) 0) T.clauses 0 p))
          (cond o (with_member r (later_of w r.program r.hypothesis) T.clauses 0 p)
          (with_member r (parent_of w r.hypothesis) 0 0 p))) ≡ with_member r h i k p)
      go true c d o = (r.hypothesis, r.clause, increment r.member, refl)
      go false true true o = (0, increment r.clause, 0, refl)
      go false true false o = (cond o (oldest_of w r.program) 0, T.clauses, 0, refl)
      go false false d true = (later_of w r.program r.hypothesis, T.clauses, 0, refl)
      go false false d false = (parent_of w r.hypothesis, 0, 0, refl)

  -- The first member: only the position changes.
  pub first_is : (w : List ℕ) (r : Registers) → (h : ℕ) × (i : ℕ) × (first_member T.numbers T.clauses w r ≡ with_member r h i 0 1)
  unfolding first_member from_clause after_sheet
  first_is w r = go (ltb 0 T.clauses) (eqb (order_number T.numbers) 0)
    where
      go : (d o : Bool) → (h : ℕ) × (i : ℕ)
          × (cond o (cond d (with_member r 0 0 0 1) (with_member r (cond o (oldest_of w r.program) 0) T.clauses 0 1))
          (with_member r r.program 0 0 1) ≡ with_member r h i 0 1)
      go true true = (0, 0, refl)
      go false true = (oldest_of w r.program, T.clauses, refl)
      go d false = (r.program, 0, refl)

-- Names and fresh variables.
variables_are : (l : List ℕ) (x : ℕ) → variables_from (length l) x ≡ fresh_variables l x
unfolding variables_from fresh_variables
variables_are [] x = refl
variables_are (v ∷ l) x = ap (leaf (var x) ∷◌) (variables_are l (suc x))

-- The number after them.
past_is : (l : List ℕ) (x : ℕ) → past l x ≡ x + length l
unfolding past
past_is [] x = omega arith
past_is (v ∷ l) x = let e = past_is l (suc x) in omega arith

-- A group of fields that may be written.
unfoldable puts_if : Bool → List ℕ → List ℕ → ℕ → ℕ → List ℕ
puts_if b l w u f = cond b (puts l w u f) w

-- A group of fields that may be written leaves older records.
if_grow : (b : Bool) (l w : List ℕ) (n k u f : ℕ) → n ≤ u → 18 ≤ f → f + length l ≤ 64 → Grow n k w (puts_if b l w u f)
unfolding puts_if
if_grow true l w n k u f h a c = grow_puts l w n k u f h a c
if_grow false l w n k u f h a c = grow_refl n k w

-- A group of fields that may be written leaves frames, if it stands after them.
if_same : (b : Bool) (l w : List ℕ) (u f : ℕ) → 31 ≤ f → f + length l ≤ 64 → SameFrames w (puts_if b l w u f)
unfolding puts_if
if_same true l w u f h k = same_puts l w u f h k
if_same false l w u f h k = λ r g a c. refl

-- A group of fields that may be written leaves the fields outside it.
if_out : (b : Bool) (l w : List ℕ) (u f v g : ℕ) → f + length l ≤ 64 → g < 64 → (g < f ⊎ f + length l ≤ g)
    → field (puts_if b l w u f) v g ≡ field w v g
unfolding puts_if
if_out true l w u f v g h k o = puts_out l w u f v g h k o
if_out false l w u f v g h k o = refl

-- A group of fields that was written is read.
if_at : (b : Bool) (l w : List ℕ) (u f i : ℕ) → b ≡ true → f + length l ≤ 64 → 64 * suc u ≤ length w → i < length l
    → field (puts_if b l w u f) u (f + i) ≡ get_or l i 0
unfolding puts_if
if_at b l w u f i e h k o = rw e (puts_at l w u f i h (omega arith) o)

-- The records of a try: path, choice point (if c), body (if d), pairs. l₂ begins with the number of variables x, as the path's group ends.
module _ (w : List ℕ) (u p l k n x : ℕ) (c : Bool) (l₂ : List ℕ) (d : Bool) (l₃ l₄ : List ℕ) (room : 64 * suc u ≤ length w)
    (n₂ : length l₂ ≡ 14) (h₂ : get_or l₂ 0 0 ≡ x) (n₃ : length l₃ ≡ 5) (n₄ : length l₄ ≡ 5) where
  -- The path's group.
  abbrev l₁ : List ℕ
  l₁ = p ∷ l ∷ k ∷ n ∷ x ∷ []

  -- `a₁` is the memory after the path.
  abbrev a₁ : List ℕ
  a₁ = puts (p ∷ l ∷ k ∷ n ∷ x ∷ []) w u 39

  -- `a₂` is the memory after the choice point.
  abbrev a₂ : List ℕ
  a₂ = puts_if c l₂ (puts (p ∷ l ∷ k ∷ n ∷ x ∷ []) w u 39) u 43

  -- `a₃` is the memory after the body.
  abbrev a₃ : List ℕ
  a₃ = puts_if d l₃ (puts_if c l₂ (puts (p ∷ l ∷ k ∷ n ∷ x ∷ []) w u 39) u 43) u 31

  -- `a₄` is the memory after the pairs.
  abbrev a₄ : List ℕ
  a₄ = puts l₄ (puts_if d l₃ (puts_if c l₂ (puts (p ∷ l ∷ k ∷ n ∷ x ∷ []) w u 39) u 43) u 31) u 57

  -- The records of a try leave older records.
  try_grow : (j : ℕ) → Grow u j w a₄
  try_grow j =
      grow_trans u j w a₁ a₄ (grow_puts l₁ w u j u 39 (omega arith) (omega arith) (omega arith))
      (grow_trans u j a₁ a₂ a₄ (if_grow c l₂ a₁ u j u 43 (omega arith) (omega arith) (omega arith))
      (grow_trans u j a₂ a₃ a₄ (if_grow d l₃ a₂ u j u 31 (omega arith) (omega arith) (omega arith))
      (grow_puts l₄ a₃ u j u 57 (omega arith) (omega arith) (omega arith))))

  -- The records of a try leave frames.
  try_same : SameFrames w a₄
  try_same =
      same_trans w a₁ a₄ (same_puts l₁ w u 39 (omega arith) (omega arith))
      (same_trans a₁ a₂ a₄ (if_same c l₂ a₁ u 43 (omega arith) (omega arith))
      (same_trans a₂ a₃ a₄ (if_same d l₃ a₂ u 31 (omega arith) (omega arith)) (same_puts l₄ a₃ u 57 (omega arith) (omega arith))))

  -- The memory after the path has its old length.
  len₁ : length a₁ ≡ length w
  len₁ = length_puts l₁ w u 39

  -- The memory after the choice point has its old length.
  len₂ : length a₂ ≡ length w
  len₂ = (if_grow c l₂ a₁ u 0 u 43 (omega arith) (omega arith) (omega arith)).extends.len ∙ len₁

  -- The memory after the body has its old length.
  len₃ : length a₃ ≡ length w
  len₃ = (if_grow d l₃ a₂ u 0 u 31 (omega arith) (omega arith) (omega arith)).extends.len ∙ len₂

  -- The fields of the path, except the last, are read.
  path_at : (i : ℕ) → i < 4 → field a₄ u (39 + i) ≡ get_or (p ∷ l ∷ k ∷ n ∷ x ∷ []) i 0
  path_at i h =
      puts_out l₄ a₃ u 57 u (39 + i) (omega arith) (omega arith) (inl (omega arith))
      ∙ if_out d l₃ a₂ u 31 u (39 + i) (omega arith) (omega arith) (inr (omega arith))
      ∙ if_out c l₂ a₁ u 43 u (39 + i) (omega arith) (omega arith) (inl (omega arith))
      ∙ puts_at l₁ w u 39 i (omega arith) (omega arith) (omega arith)

  -- The fields of the choice point are read, if there is one.
  choice_at : c ≡ true → (i : ℕ) → i < 14 → field a₄ u (43 + i) ≡ get_or l₂ i 0
  choice_at e i h =
      let m = len₁ in
      puts_out l₄ a₃ u 57 u (43 + i) (omega arith) (omega arith) (inl (omega arith))
      ∙ if_out d l₃ a₂ u 31 u (43 + i) (omega arith) (omega arith) (inr (omega arith))
      ∙ if_at c l₂ a₁ u 43 i e (omega arith) (omega arith) (omega arith)

  -- Without a choice point, field 43 holds the number of variables.
  next_left : c ≡ false → field a₄ u fields.variables ≡ x
  unfolding puts_if
  next_left e =
      puts_out l₄ a₃ u 57 u 43 (omega arith) (omega arith) (inl (omega arith))
      ∙ if_out d l₃ a₂ u 31 u 43 (omega arith) (omega arith) (inr (omega arith))
      ∙ ap (λ (b : Bool). field (puts_if b l₂ a₁ u 43) u fields.variables) e ∙ puts_at l₁ w u 39 4 (omega arith) (omega arith) (omega arith)

  -- With or without a choice point, field 43 holds the number of variables.
  next_at : field a₄ u fields.variables ≡ x
  next_at = go c refl
    where
      go : (b : Bool) → c ≡ b → field a₄ u fields.variables ≡ x
      go true e = choice_at e 0 (omega arith) ∙ h₂
      go false e = next_left e

  -- The fields of the body are read, if there is one.
  body_at : d ≡ true → (i : ℕ) → i < 5 → field a₄ u (31 + i) ≡ get_or l₃ i 0
  body_at e i h =
      let m = len₂ in puts_out l₄ a₃ u 57 u (31 + i) (omega arith) (omega arith) (inl (omega arith))
      ∙ if_at d l₃ a₂ u 31 i e (omega arith) (omega arith) (omega arith)

  -- The fields of the pairs are read.
  pairs_at : (i : ℕ) → i < 5 → field a₄ u (57 + i) ≡ get_or l₄ i 0
  pairs_at i h = let m = len₃ in puts_at l₄ a₃ u 57 i (omega arith) (omega arith) (omega arith)

-- A try whose predicates agree: h, i and j are the position of the next member.
module _ (T : Table) (w : List ℕ) (r : Registers) (s : Store) (a : Atom) (k : ℕ) (b : Branch) (ds : List Configuration)
    (room : 64 * suc r.acts ≤ length w) (small : r.acts < 50000)
    (atom : AtomAt T r.acts s.next w r.node r.frame r.program r.level a) (place : r.place ≡ k) (first : 1 ≤ k)
    (low : k ≤ r.acts)
    (branch₀ : BranchAt T r.acts s.next w r.goals r.path r.line b)
    (shared : SharedAt T r.acts w r.next r.trail r.choice s ds) (formed : Formed s)
    (frame₀ : FrameIn r.acts s.next w (clause_frame w r)) (m : Found) (leaf₀ : LeafOf T m.leaf) (packed : Prefix m)
    (same : label_of T.numbers r.node ≡ label_of T.numbers (head_of T.numbers m.leaf))
    (h i j : ℕ) (others : List (Entry Leaf)) (left : MembersAt T r.acts w (with_member r h i j (suc r.place)) others) where
  -- The act's number.
  abbrev u : ℕ
  u = r.acts

  -- The table.
  abbrev t : List ℕ
  t = T.numbers

  -- The registers at the next member.
  abbrev q : Registers
  q = with_member r h i j (suc r.place)

  -- The member's prefix.
  abbrev prefix : List ℕ
  prefix = names_of m.count m.names

  -- What its names stand for.
  abbrev env : Environment Leaf
  env =
      assign (names_of m.count m.names) (fresh_variables (names_of m.count m.names) s.next) (environment_at w (clause_frame w r))

  -- The saved members left are the latest alternative, before those that were open already.
  choice_open : (w' : List ℕ) (x : Entry Leaf) (xs : List (Entry Leaf)) → Extends 22 r.acts w w'
      → SavedAt w' r.acts (with_member r h i j (suc r.place)) → PositionAt T r.acts w (with_member r h i j (suc r.place)) (x ∷ xs)
      → SharedAt T (suc r.acts) w' r.next r.trail r.choice s ds
      → AlternativesAt T (suc r.acts) s.next w' (suc r.acts) r.trail (try s a x xs (suc k) b ∷ ds)
  unfolding with_member resumed with_mode with_next with_trail with_choice with_goals with_path with_goal ConfigurationAt store_of
  choice_open w' x xs e f p sh =
      choice_opened T (suc u) w' u s.next q (try s a x xs (suc k) b) ds (omega arith) f (λ r₀. record {
        mode = rw (ne_eqb (suc r.place) 0 (λ z. omega arith));
        atom =
            atom_up T u s.next w' r.node r.frame r.program r.level a
            (atom_extends T u s.next w w' r.node r.frame r.program r.level a e atom);
        position =
            position_same T (suc u) w' q (resumed r₀ q) (x ∷ xs) refl refl refl refl
            (position_up T u w' q (x ∷ xs) (position_extends T u w w' q (x ∷ xs) e p));
        place = ap suc place;
        first = omega arith;
        low = omega arith;
        branch =
            branch_up T u s.next w' r.goals r.path r.line b
            (branch_extends T u s.next w w' r.goals r.path r.line b e branch₀);
      }) sh.next (omega arith) sh.bounded sh.store sh.alternatives

  -- The members left, if there are any, come before the alternatives that were open already.
  others_open : (w' : List ℕ) → Extends 22 r.acts w w'
      → (members_left T.clauses (with_member r h i j (suc r.place)) ≡ true → SavedAt w' r.acts (with_member r h i j (suc r.place)))
      → SharedAt T (suc r.acts) w' r.next r.trail r.choice s ds
      → AlternativesAt T (suc r.acts) s.next w'
      (cond (members_left T.clauses (with_member r h i j (suc r.place))) (suc r.acts) r.choice) r.trail
      (level1.try_from s a others (suc k) b ++ ds)
  unfolding level1.try_from
  others_open w' e f sh = go others left
    where
      go : (es : List (Entry Leaf)) → MembersAt T r.acts w q es
          → AlternativesAt T (suc r.acts) s.next w' (cond (members_left T.clauses q) (suc r.acts) r.choice) r.trail
          (level1.try_from s a es (suc k) b ++ ds)
      go es (none_left_lem z y) = rw (z, y) sh.alternatives
      go [] (some_left z p) = let x = position_first T u w q [] p in absurd (not_empty _ x.others x.are)
      go (x ∷ xs) (some_left z p) = rw z (choice_open w' x xs e (f z) p sh)

  -- The member's body, if it has one, comes before the goals that waited already.
  body_waits : (w' : List ℕ) → Extends 22 r.acts w w' → FrameMade w' r.acts env
      → (eqb (kind_of T.numbers m.leaf) implies_kind ≡ true → (i : ℕ) → i < 5
      → field w' r.acts (31 + i) ≡ get_or (child_of T.numbers m.leaf 0 ∷ suc r.acts ∷ r.program ∷ r.level ∷ r.goals ∷ []) i 0)
      → GoalsAt T (suc r.acts) (body_sequent (body_of T.numbers m.leaf) env a.program a.level ++ b.goals) w'
      (cond (eqb (kind_of T.numbers m.leaf) implies_kind) (suc r.acts) r.goals)
  unfolding body_of body_sequent GoalsAt
  body_waits w' e M f = go (eqb (kind_of t m.leaf) implies_kind) refl f
    where
      before : GoalsAt T (suc r.acts) b.goals w' r.goals
      before = goals_up T u b.goals w' r.goals (goals_extends T u b.goals w w' r.goals e branch₀.waiting)

      go : (d : Bool) → eqb (kind_of t m.leaf) implies_kind ≡ d
          → (d ≡ true → (i : ℕ) → i < 5
          → field w' r.acts (31 + i) ≡ get_or (child_of t m.leaf 0 ∷ suc r.acts ∷ r.program ∷ r.level ∷ r.goals ∷ []) i 0)
          → GoalsAt T (suc r.acts) (body_sequent (cond d (some (goal_at t (child_of t m.leaf 0))) none) env a.program
          a.level ++ b.goals) w' (cond d (suc r.acts) r.goals)
      go true z f =
          let k = eqb-true (kind_of t m.leaf) 6 z in
          let x = (T.made.clause_nodes m.leaf leaf₀.below leaf₀.is).implies k in
          let l = x.0 in
          let n = leaf₀.below in
          let A = atom_up T u s.next w' r.node r.frame r.program r.level a
          (atom_extends T u s.next w w' r.node r.frame r.program r.level a e atom) in
          rw (f refl 0 (omega arith), f refl 1 (omega arith), f refl 2 (omega arith), f refl 3 (omega arith), f refl 4 (omega arith)) (
            omega arith,
            record {
              node = (omega arith, x.1);
              goal = refl;
              frame = M.frame;
              environment = M.environment;
              program = A.program;
              level = A.level;
              low = A.low;
            },
            before,
            goals_le T u b.goals w r.goals branch₀.waiting,
          )
      go false z f = before

  -- With the variables of the member's prefix the store stays bounded, and they fit the records so far.
  more_bounded : Bounded (suc r.acts) (fresh (names_of m.count m.names) a.level s) × (s.next + m.count ≤ 9 * suc r.acts)
      × (past (names_of m.count m.names) s.next ≡ s.next + m.count)
  unfolding fresh
  more_bounded =
      let p = past_is prefix s.next in
      let l = names_length m.count m.names in
      let c = prefix_few m packed in
      let n = shared.bounded.later (omega arith) in
      let x = shared.bounded.bindings in
      let e : past prefix s.next ≡ s.next + m.count = omega arith in (
        record {
          bindings = omega arith;
          least = let y = shared.bounded.least in omega arith;
          variables = omega arith;
          later = λ z. omega arith;
        },
        omega arith,
        e,
      )

  -- The first field of a choice point.
  first_saved : get_or (saved (with_member r h i j (suc r.place))) 0 0 ≡ r.next
  unfolding saved with_member
  first_saved = refl

  -- The result, over memories given by equations.
  try_held : (w₁ w₂ w' : List ℕ) → w₁ ≡ copy_frame 8 w r.acts (clause_frame w r) 0
      → w₂ ≡ put_fresh m.count w₁ r.acts m.names s.next a.level
      → w' ≡ puts (r.node ∷ r.frame ∷ head_of T.numbers m.leaf ∷ suc r.acts ∷ 0 ∷ [])
      (puts_if (eqb (kind_of T.numbers m.leaf) implies_kind)
      (child_of T.numbers m.leaf 0 ∷ suc r.acts ∷ r.program ∷ r.level ∷ r.goals ∷ [])
      (puts_if (members_left T.clauses (with_member r h i j (suc r.place))) (saved (with_member r h i j (suc r.place)))
      (puts (r.path ∷ r.line ∷ r.place ∷ m.count ∷ s.next ∷ []) w₂ r.acts 39) r.acts 43) r.acts 31) r.acts 57
      → ResultAt T (suc r.acts)
      (made w' (due_pairs w'
      (with_goals (with_choice (with_next (with_path r (suc r.acts) clause_line) (s.next + m.count))
      (cond (members_left T.clauses (with_member r h i j (suc r.place))) (suc r.acts) r.choice))
      (cond (eqb (kind_of T.numbers m.leaf) implies_kind) (suc r.acts) r.goals)) (pairs_from T.numbers w' (suc r.acts) 0)))
      (settle (comparing (fresh (names_of m.count m.names) a.level s)
      (push_pairs a.arguments (substitutes (arguments_at T.numbers (head_of T.numbers m.leaf)) env) []))
      (branch (body_sequent (body_of T.numbers m.leaf) env a.program a.level ++ b.goals)
      (Dclause k (fresh_variables (names_of m.count m.names) s.next) ∷ b.path))
      ++ (level1.try_from s a others (suc k) b ++ ds))
  unfolding with_goals with_choice with_next with_path line_at PairsAt fresh
  try_held w₁ w₂ w' z₁ z₂ z =
      let x = s.next in
      let d = eqb (kind_of t m.leaf) implies_kind in
      let c = members_left T.clauses q in
      let hd = head_of t m.leaf in
      let l₂ = saved q in
      let l₃ : List ℕ = child_of t m.leaf 0 ∷ suc u ∷ r.program ∷ r.level ∷ r.goals ∷ [] in
      let l₄ : List ℕ = r.node ∷ r.frame ∷ hd ∷ suc u ∷ 0 ∷ [] in
      let nb = more_bounded in
      let n₂ = saved_length q in
      let h₂ : get_or l₂ 0 0 ≡ x = first_saved ∙ shared.next in
      let gr₁ : (n : ℕ) → Grow u n w w₁ = λ n. rw z₁ (copy_grow u (clause_frame w r) 8 w 0 n (omega arith)) in
      let e₁ = (gr₁ 0).extends.len in
      let M₁ : FrameMade w₁ u (environment_at w (clause_frame w r)) = rw z₁ (copy_made w u (clause_frame w r) room frame₀.frame) in
      let F : FreshMade T w₁ w₂ u s (fresh prefix a.level s) env =
      rw z₂ (fresh_made m.count T w₁ u m.names a.level s (environment_at w (clause_frame w r)) formed (omega arith) small nb.1
      (store_grow T u x w w₁ s (gr₁ x) (omega arith) shared.store) M₁) in
      let e₂ = F.grow.extends.len in
      let room₂ : 64 * suc u ≤ length w₂ = omega arith in
      let gr₃ : (n : ℕ) → Grow u n w₂ w' =
      λ n. rw z (try_grow w₂ u r.path r.line r.place m.count x c l₂ d l₃ l₄ room₂ n₂ h₂ refl refl n) in
      let gr : Grow u x w w' = grow_trans u x w w₁ w' (gr₁ x) (grow_trans u x w₁ w₂ w' F.grow (gr₃ x)) in
      let e = extends_22 u w w' gr.extends in
      let fr : SameFrames w₂ w' = rw z (try_same w₂ u r.path r.line r.place m.count x c l₂ d l₃ l₄ room₂ n₂ h₂ refl refl) in
      let M : FrameMade w' u env = made_same w₂ w' u env fr F.frame in
      let pa : (n : ℕ) → n < 4 → field w' u (39 + n) ≡ get_or (r.path ∷ r.line ∷ r.place ∷ m.count ∷ x ∷ []) n 0 =
      λ n b. rw z (path_at w₂ u r.path r.line r.place m.count x c l₂ d l₃ l₄ room₂ n₂ h₂ refl refl n b) in
      let na : field w' u fields.variables ≡ x =
      rw z (next_at w₂ u r.path r.line r.place m.count x c l₂ d l₃ l₄ room₂ n₂ h₂ refl refl) in
      let ca : c ≡ true → SavedAt w' u q =
      λ y n b. rw z (choice_at w₂ u r.path r.line r.place m.count x c l₂ d l₃ l₄ room₂ n₂ h₂ refl refl y n b) in
      let ba : d ≡ true → (n : ℕ) → n < 5 → field w' u (31 + n) ≡ get_or l₃ n 0 =
      λ y n b. rw z (body_at w₂ u r.path r.line r.place m.count x c l₂ d l₃ l₄ room₂ n₂ h₂ refl refl y n b) in
      let qa : (n : ℕ) → n < 5 → field w' u (57 + n) ≡ get_or l₄ n 0 =
      λ n b. rw z (pairs_at w₂ u r.path r.line r.place m.count x c l₂ d l₃ l₄ room₂ n₂ h₂ refl refl n b) in
      let s₂ = fresh prefix a.level s in
      let wider : x ≤ s₂.next = (let y = nb.2 in omega arith) in
      let P = push_held T (suc u) s₂.next w' [] u r.node r.frame hd (suc u) 0 (environment_at w r.frame) env (omega arith)
      (omega arith) atom.node (leaf_head T.numbers T.nodes (nodes_are T) Anything m.leaf leaf₀)
      (framed_up u x s₂.next w' r.frame wider (framed_extends u x w w' r.frame e atom.frame))
      (record {
        frame = M.frame;
        below = subst (EnvironmentBelow s₂.next) (sym M.environment)
            (prefix_below prefix x (environment_at w (clause_frame w r)) frame₀.below);
      })
      (environment_extends u w w' r.frame e atom.frame.frame) M.environment same
      (qa 0 (omega arith)) (qa 1 (omega arith)) (qa 2 (omega arith)) (qa 3 (omega arith)) (qa 4 (omega arith)) refl (omega arith) in
      let sh = shared_grow T u w w' r.next r.trail r.choice s ds gr shared in
      let ln : line_at w' u 7 ≡ Dclause k (fresh_variables prefix x) =
      ap₂ Dclause (pa 2 (omega arith) ∙ place) (ap₂ variables_from (pa 3 (omega arith) ∙ sym (names_length m.count m.names)) na
      ∙ variables_are prefix x) in
      pushed_result T (suc u) w'
      (with_goals (with_choice (with_next (with_path r (suc u) clause_line) (x + m.count)) (cond c (suc u) r.choice))
      (cond d (suc u) r.goals)) s₂
      (branch (body_sequent (body_of T.numbers m.leaf) env a.program a.level ++ b.goals)
      (Dclause k (fresh_variables prefix x) ∷ b.path)) (level1.try_from s a others (suc k) b ++ ds) _
      (pairs_from t w' (suc u) 0)
      (subst (λ (ts : Terms Leaf). Pushed T (suc u) s₂.next w' (push_pairs ts (substitutes (arguments_at t hd) env) [])
      (pairs_from t w' (suc u) 0)) atom.arguments P)
      (record {
        waiting = body_waits w' e M ba;
        taken =
            path_pushed u s₂.next w w' r.path r.line 7 (Dclause k (fresh_variables prefix x)) b.path e (pa 0 (omega arith))
            (pa 1 (omega arith)) ln
            (record {
              kind = omega arith;
              some = λ y. absurd (omega arith);
              clause = λ y. rw (pa 3 (omega arith), na) (let p = nb.2 in omega arith);
            })
            (path_wider u x s₂.next b.path w r.path r.line wider branch₀.taken);
      })
      (record {
        store = store_up T u w' s₂ (store_grow T u s₂.next w₂ w' s₂ (gr₃ s₂.next) (omega arith) F.store);
        bounded = nb.0;
        next = sym nb.2;
        trail = sh.trail;
        alternatives = alternatives_wider T (suc u) s₂.next wider (others_open w' e ca sh);
      })

  -- What the machine makes of it, over the numbers that are the same by the invariant.
  unfoldable try_outcome : List ℕ → ℕ → ℕ → ℕ → Registers → Made
  try_outcome w₂ x n v q' =
      let w' =
      puts (r.node ∷ r.frame ∷ head_of T.numbers m.leaf ∷ v ∷ 0 ∷ [])
      (puts_if (eqb (kind_of T.numbers m.leaf) implies_kind)
      (child_of T.numbers m.leaf 0 ∷ v ∷ r.program ∷ r.level ∷ r.goals ∷ [])
      (puts_if (members_left T.clauses q') (saved q') (puts (r.path ∷ r.line ∷ r.place ∷ m.count ∷ x ∷ []) w₂ r.acts 39)
      r.acts 43) r.acts 31) r.acts 57 in
      made w' (due_pairs w'
      (with_goals (with_choice (with_next (with_path r v clause_line) n) (cond (members_left T.clauses q') v r.choice))
      (cond (eqb (kind_of T.numbers m.leaf) implies_kind) v r.goals)) (pairs_from T.numbers w' v 0))

  -- It is what the machine does.
  outcome_is : try_member T.numbers T.clauses w r m (next_member T.numbers T.clauses w r)
      ≡ try_outcome (put_prefix w r m) r.next (truncate (r.next + m.count))
      (increment r.acts) (next_member T.numbers T.clauses w r)
  unfolding try_outcome try_member put_try save_alternative put_body tried put_use put_path put_goal put_pairs puts puts_if save_choice put_choice
      put_chosen put_position saved
  outcome_is = refl

  -- The whole try.
  pub try_member_lem : next_member T.numbers T.clauses w r ≡ with_member r h i j (suc r.place)
      → ResultAt T (suc r.acts) (try_member T.numbers T.clauses w r m (next_member T.numbers T.clauses w r))
      (level1.try_member s a (entry (environment_at w (clause_frame w r)) (member_of T.numbers m)) k
      b ++ (level1.try_from s a others (suc k) b ++ ds))
  unfolding try_outcome level1.try_member put_prefix
  try_member_lem e =
      let w₁ = copy_frame 8 w u (clause_frame w r) 0 in
      let w₂ = put_fresh m.count w₁ u m.names s.next a.level in
      let L = level1.try_member s a (entry (environment_at w (clause_frame w r)) (member_of T.numbers m)) k
      b ++ (level1.try_from s a others (suc k) b ++ ds) in
      let nb = more_bounded.1 in
      let p₂ : put_prefix w r m ≡ w₂ = ap₂ (λ (x y : ℕ). put_fresh m.count w₁ u m.names x y) shared.next atom.level in
      let pn : truncate (r.next + m.count) ≡ s.next + m.count = ap (λ (x : ℕ). truncate (x + m.count)) shared.next
      ∙ truncate_small (s.next + m.count) (omega arith) in
      subst (λ (z : Made). ResultAt T (suc u) z L) (sym outcome_is)
      (subst (λ (z : List ℕ). ResultAt T (suc u) (try_outcome z r.next (truncate (r.next + m.count)) (increment u)
      (next_member t T.clauses w r))
      L) (sym p₂)
      (subst (λ (z : ℕ). ResultAt T (suc u) (try_outcome w₂ z (truncate (r.next + m.count)) (increment u)
      (next_member t T.clauses w r)) L)
      (sym shared.next)
      (subst (λ (z : ℕ). ResultAt T (suc u) (try_outcome w₂ s.next z (increment u) (next_member t T.clauses w r)) L) (sym pn)
      (subst (λ (z : ℕ). ResultAt T (suc u) (try_outcome w₂ s.next (s.next + m.count) z (next_member t T.clauses w r)) L)
      (sym (increment_small u (omega arith)))
      (subst (λ (z : Registers). ResultAt T (suc u) (try_outcome w₂ s.next (s.next + m.count) (suc u) z) L) (sym e)
      (try_held w₁ w₂ _ refl refl refl))))))
