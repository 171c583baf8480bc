-- The members left to try, from a position in the program.
use Prim.Native.Nat.{ℕ, zero, suc, ◌-◌, ◌≤◌, ◌<◌}
use native.Mathlib.Omega.{arith}
use mathlib.Core.Bool.{Bool, true, false, cond}
use mathlib.Core.Path.{◌≡◌, refl, sym, ap, ◌∙◌, subst}
use mathlib.Core.List.{List, [], ◌∷◌, ◌++◌, map, append-nil, append_assoc}
use lib.Dec.{eqb, ltb}
use lib.ListN.{length, drop, drop_of_length-le}
use borrow.Author.Tests.{ltb-true, ltb-false, lt-ltb, le-ltb, ne_eqb}
use Rattle.formulas.specs.Formulas.{Clause}
use Rattle.formulas.specs.Members.{Member, members}
use Rattle.formulas.specs.Rules.{Order, oldest, latest, rules, joined, assume}
use Rattle.sequents.specs.Sequents.{Environment, Program, Hypothesis, Entry, entry, entries_of, entries}
use Rattle.unification.specs.Store.{Leaf}
use Rattle.search.specs.Search.{start_environment}
use Rattle.node_table.specs.Layout.{clause_node, members_of, order_number}
use Rattle.node_table.specs.Decoding.{clause_at_node, clauses_from, order_of}
use Rattle.machine.specs.declared.Registers.{Registers}
use Rattle.machine.specs.Fields as fields
use Rattle.machine.specs.RegisterUpdates.{with_member}
use Rattle.machine.specs.Words.{increment, environment_at}
use Rattle.machine.specs.AssumptionChains.{parent_of, oldest_of, later_of}
use Rattle.machine.specs.LinkedChains.{climb, Linked}
use Rattle.machine.specs.Goals.{members_left, after_sheet, from_clause, first_member}
use Rattle.machine.specs.Backchaining.{clause_of, clause_frame, after_assumption, next_clause, next_member}
use Rattle.machine.proofs.Words.{increment_small}
use Rattle.machine.proofs.Tables.{Table, nodes_are}
use Rattle.machine.proofs.Terms.{FrameAt}
use Rattle.machine.proofs.AssumptionChains.{climb_linked, oldest_climb, oldest_none, later_climb, later_none}
use Rattle.machine.proofs.LinkedChains.{assumption_field_lem}
use Rattle.machine.proofs.Branches.{first_environment, ClauseOf, sheet_from, assuming, AssumedAt, assumed_none, assumed_more}
use Rattle.machine.proofs.Branches.{ProgramAt, Anything, FoundOf, backwards}
use Rattle.machine.proofs.Configurations.{behind_sheet, behind_assumption, AfterAt, RestAt, PositionAt}
use Rattle.memory.specs.Records.{field}
use Rattle.sheet_format.proofs.Indexing.{at_drop}
use Rattle.clause_members.specs.Members.{member}
use Rattle.clause_members.proofs.Members.{member_of, member_found}

-- The order in force, by its number in the table.
default_order_lem : (t : List ℕ) → eqb (order_number t) 0 ≡ true → order_of t ≡ oldest
unfolding order_of
default_order_lem t e = rw (order_of, e) refl

former_order_lem : (t : List ℕ) → eqb (order_number t) 0 ≡ false → order_of t ≡ latest
unfolding order_of
former_order_lem t e = rw (order_of, e) refl

-- A list from its k-th element on.
drop_some : {A : Type 0} (k : ℕ) (l : List A) → k < length l → (a : A) × (m : List A) × (drop k l ≡ a ∷ m)
drop_some k [] h = absurd (omega arith)
drop_some zero (a ∷ l) h = (a, l, refl)
drop_some (suc k) (a ∷ l) h = drop_some k l (omega arith)

-- Its tail is the list from the next element on.
drop_more : {A : Type 0} (k : ℕ) (l : List A) (a : A) (m : List A) → drop k l ≡ a ∷ m → drop (suc k) l ≡ m
drop_more zero [] a m e = absurd (let z : ◌≡◌ {A = ℕ} 0 1 = cc in omega arith)
drop_more zero (b ∷ l) a m e = cc
drop_more (suc k) [] a m e = absurd (let z : ◌≡◌ {A = ℕ} 0 1 = cc in omega arith)
drop_more (suc k) (b ∷ l) a m e = drop_more k l a m e

-- The k-th element is the first of those from there back.
backwards_first : {A : Type 0} (k : ℕ) (l : List A) (a : A) (m : List A) → drop k l ≡ a ∷ m → backwards (suc k) l ≡ a ∷ backwards k l
unfolding backwards
backwards_first zero [] a m e = absurd (let z : ◌≡◌ {A = ℕ} 0 1 = cc in omega arith)
backwards_first zero (b ∷ l) a m e = ap (◌∷ []) (cc)
backwards_first (suc k) [] a m e = absurd (let z : ◌≡◌ {A = ℕ} 0 1 = cc in omega arith)
backwards_first (suc k) (b ∷ l) a m e = ap (◌++ (b ∷ [])) (backwards_first k l a m e)

-- One step more along the parents.
pub parent_last : (k : ℕ) (w : List ℕ) (p : ℕ) → climb (suc k) w p ≡ parent_of w (climb k w p)
unfolding climb
parent_last zero w p = refl
parent_last (suc k) w p = parent_last k w (parent_of w p)

-- Along the parents the older assumptions are met.
pub climb_assumed : {T : Table} (k n : ℕ) (w : List ℕ) {p : ℕ} {l : List (Hypothesis Leaf)} → k ≤ length l → AssumedAt T n w p l
    → AssumedAt T n w (climb k w p) (drop k l)
unfolding climb
climb_assumed zero n w h a = a
climb_assumed (suc k) n w h assumed_none = absurd (omega arith)
climb_assumed {T = T} (suc k) n w h (assumed_more {l = l} r b c f i j p a) =
    subst (λ (q : ℕ). AssumedAt T n w (climb k w q) (drop k l)) (sym (assumption_field_lem w r fields.assumption_next))
    (climb_assumed k n w (omega arith) p)

module _ (T : Table) where
  -- The table.
  abbrev t : List ℕ
  t = T.numbers

  -- The members es, from the one that the registers name: it is there, or there is none.
  pub data MembersAt (n : ℕ) (w : List ℕ) (r : Registers) (es : List (Entry Leaf)) : Type 0 where
    some_left : members_left T.clauses r ≡ true → PositionAt T n w r es → MembersAt n w r es
    none_left_lem : members_left T.clauses r ≡ false → es ≡ [] → MembersAt n w r es

  -- A clause has 1 to 64 members.
  clause_count : (c : ℕ) → ClauseOf T c → (members_of T.numbers c ≡ length (members (clause_at_node T.numbers c)))
      × (1 ≤ members_of T.numbers c) × (members_of T.numbers c ≤ 64)
  clause_count c h = let k = T.made.clause_nodes c h.0 h.1 in (k.members, h.1, k.few)

  -- The first member of a clause.
  position_start : (n : ℕ) (w : List ℕ) (q : Registers) (c f : ℕ) (e : Environment Leaf) (rest : List (Hypothesis Leaf))
      → clause_of T.numbers w q ≡ c → clause_frame w q ≡ f → q.member ≡ 0 → ClauseOf T c → FrameAt n w f
      → environment_at w f ≡ e → RestAt T n w q.program q.hypothesis q.clause rest
      → PositionAt T n w q (map (entry e) (members (clause_at_node T.numbers c)) ++ entries_of rest)
  position_start n w q c f e rest z₁ z₂ z₃ h hf z₄ o =
      let m = clause_count c h in
      let m₀ = m.0 in
      let m₁ = m.1 in
      record { clause = rw z₁ h; frame = rw z₂ hf; member = rw (z₁, z₃) (omega arith); rest = rest; others = o; are = rw (z₁, z₂, z₃, z₄) }

  -- The assumptions l of the program that the registers name.
  module _ (n : ℕ) (w : List ℕ) (r : Registers) (l : List (Hypothesis Leaf)) (at : AssumedAt T n w r.program l)
      (linked : Linked (length l) w r.program) where
    -- At the i-th clause of the sheet.
    at_clause : (i p : ℕ) → i < T.clauses
        → MembersAt n w (with_member r 0 i 0 p)
        (entries_of (sheet_from T (suc (T.clauses - suc i)) i ++ behind_sheet T (order_of T.numbers) l))
    unfolding with_member members_left clauses_from entries_of clause_of clause_frame AfterAt FrameAt
    at_clause i p b =
        some_left (lt-ltb i T.clauses b)
        (position_start n w (with_member r 0 i 0 p) (clause_node t i) 0 start_environment
        (sheet_from T (T.clauses - suc i) (suc i) ++ behind_sheet T (order_of t) l) refl refl refl (T.made.clause i b) tt
        (first_environment w) (record { assumptions = l; at = at; linked = linked; after = (b, refl) }))

    -- At the assumption after which k others were made.
    at_assumption : (i p k : ℕ) (a : Hypothesis Leaf) (m : List (Hypothesis Leaf)) → k < length l → drop k l ≡ a ∷ m
        → MembersAt n w (with_member r (climb k w r.program) i 0 p) (entries_of (a ∷ behind_assumption T (order_of T.numbers) k l))
    unfolding with_member members_left entries_of clause_of clause_frame AfterAt
    at_assumption i p k a m b d =
        go refl (subst (AssumedAt T n w (climb k w r.program)) d (climb_assumed k n w (omega arith) at))
      where
        go : {q : ℕ} {a : Hypothesis Leaf} {m : List (Hypothesis Leaf)} → climb k w r.program ≡ q → AssumedAt T n w q (a ∷ m)
            → MembersAt n w (with_member r q i 0 p) (entries_of (a ∷ behind_assumption T (order_of T.numbers) k l))
        go z (assumed_more {c = c} {e = e} u s x f y v o h) =
            let y₀ : suc u - 1 ≡ u = omega arith in
            let d₀ = ne_eqb (suc u) 0 (λ x. omega arith) in
            some_left (rw d₀)
            (subst (λ (x : Clause). PositionAt T n w (with_member r (suc u) i 0 p)
            (map (entry e) (members x) ++ entries_of (behind_assumption T (order_of t) k l))) y
            (position_start n w (with_member r (suc u) i 0 p) (field w u fields.assumption_node) (field w u fields.assumption_frame) e
            (behind_assumption T (order_of t) k l) (rw (d₀, y₀)) (rw (d₀, y₀)) refl x f v
            (record { assumptions = l; at = at; linked = linked; after = (k, b, sym z, refl) })))

    -- Past the last clause no member is left.
    none_at : (p : ℕ) → members_left T.clauses (with_member r 0 T.clauses 0 p) ≡ false
    unfolding members_left with_member
    none_at p = le-ltb T.clauses T.clauses (omega arith)

    -- In the default order, at the assumption after which k others were made: it and these others are left.
    oldest_at : (p k : ℕ) → order_of T.numbers ≡ oldest → k < length l
        → MembersAt n w (with_member r (climb k w r.program) T.clauses 0 p) (entries_of (backwards (suc k) l))
    unfolding behind_assumption
    oldest_at p k o b =
        let d = drop_some k l b in
        subst (λ (es : List (Hypothesis Leaf)). MembersAt n w (with_member r (climb k w r.program) T.clauses 0 p) (entries_of es))
        (ap (λ (q : Order). d.0 ∷ behind_assumption T q k l) o ∙ sym (backwards_first k l d.0 d.1 d.2))
        (at_assumption T.clauses p k d.0 d.1 b d.2)

    -- In the default order, at the oldest assumption: all are left.
    oldest_members : (p : ℕ) → order_of T.numbers ≡ oldest
        → MembersAt n w (with_member r (oldest_of w r.program) T.clauses 0 p) (entries_of (backwards (length l) l))
    unfolding backwards entries_of Linked
    oldest_members p o = go (length l) refl
      where
        R : ℕ → ℕ → Type 0
        R q k = MembersAt n w (with_member r q T.clauses 0 p) (entries_of (backwards k l))

        go : (k : ℕ) → length l ≡ k → R (oldest_of w r.program) k
        go zero z =
            let e : r.program ≡ 0 = subst (λ (k : ℕ). Linked k w r.program) z linked in
            subst (λ (q : ℕ). R q 0) (sym (ap (λ (q : ℕ). oldest_of w q) e ∙ oldest_none w)) (none_left_lem (none_at p) refl)
        go (suc k) z =
            subst (λ (q : ℕ). R q (suc k)) (sym (oldest_climb k w r.program (subst (λ (m : ℕ). Linked m w r.program) z linked)))
            (oldest_at p k o (omega arith))

    -- In the default order, at the assumption made after one after which k others were made: these others are left.
    later_members : (p k : ℕ) → order_of T.numbers ≡ oldest → k < length l
        → MembersAt n w (with_member r (later_of w r.program (climb k w r.program)) T.clauses 0 p) (entries_of (backwards k l))
    unfolding backwards entries_of climb
    later_members p zero o b =
        subst (λ (q : ℕ). MembersAt n w (with_member r q T.clauses 0 p) []) (sym (later_none w r.program)) (none_left_lem (none_at p) refl)
    later_members p (suc k) o b =
        subst (λ (q : ℕ). MembersAt n w (with_member r q T.clauses 0 p) (entries_of (backwards (suc k) l)))
        (sym (later_climb k (length l) w r.program (omega arith) linked)) (oldest_at p k o (omega arith))

    -- After the sheet's clauses.
    after_sheet_lem : (p : ℕ) → MembersAt n w (after_sheet T.numbers T.clauses w r p) (entries_of (behind_sheet T (order_of T.numbers) l))
    unfolding after_sheet behind_sheet entries_of
    after_sheet_lem p = go (eqb (order_number t) 0) refl
      where
        go : (b : Bool) → eqb (order_number t) 0 ≡ b
            → MembersAt n w (with_member r (cond b (oldest_of w r.program) 0) T.clauses 0 p) (entries_of (behind_sheet T (order_of t) l))
        go true e =
            let o = default_order_lem t e in
            subst (λ (q : Order). MembersAt n w (with_member r (oldest_of w r.program) T.clauses 0 p) (entries_of (behind_sheet T q l)))
            (sym o) (oldest_members p o)
        go false e =
            subst (λ (q : Order). MembersAt n w (with_member r 0 T.clauses 0 p) (entries_of (behind_sheet T q l)))
            (sym (former_order_lem t e)) (none_left_lem (none_at p) refl)

    -- From the i-th clause of the sheet on.
    clause_members : (i p : ℕ)
        → MembersAt n w (from_clause T.numbers T.clauses w r i p)
        (entries_of (sheet_from T (T.clauses - i) i ++ behind_sheet T (order_of T.numbers) l))
    unfolding from_clause clauses_from
    clause_members i p = go (ltb i T.clauses) refl
      where
        go : (b : Bool) → ltb i T.clauses ≡ b
            → MembersAt n w (cond b (with_member r 0 i 0 p) (after_sheet t T.clauses w r p))
            (entries_of (sheet_from T (T.clauses - i) i ++ behind_sheet T (order_of t) l))
        go true e =
            let b = ltb-true i T.clauses e in
            let z : T.clauses - i ≡ suc (T.clauses - suc i) = omega arith in
            rw z (at_clause i p b)
        go false e = let b = ltb-false i T.clauses e in let z : T.clauses - i ≡ 0 = omega arith in rw z (after_sheet_lem p)

    -- With `O latest` no member is left behind the sheet's clauses.
    sheet_members_lem : (p : ℕ) → order_of T.numbers ≡ latest → MembersAt n w (with_member r 0 0 0 p) (entries_of (sheet_from T T.clauses 0))
    unfolding behind_sheet with_member members_left clauses_from entries_of
    sheet_members_lem p o = go (ltb 0 T.clauses) refl
      where
        go : (b : Bool) → ltb 0 T.clauses ≡ b → MembersAt n w (with_member r 0 0 0 p) (entries_of (sheet_from T T.clauses 0))
        go true e =
            let b = ltb-true 0 T.clauses e in
            let z : suc (T.clauses - 1) ≡ T.clauses = omega arith in
            subst (λ (es : List (Hypothesis Leaf)). MembersAt n w (with_member r 0 0 0 p) (entries_of es))
            (ap (λ (q : Order). sheet_from T (suc (T.clauses - 1)) 0 ++ behind_sheet T q l) o
            ∙ append-nil (sheet_from T (suc (T.clauses - 1)) 0)
            ∙ ap (λ (c : ℕ). sheet_from T c 0) z) (at_clause 0 p b)
        go false e =
            let b = ltb-false 0 T.clauses e in
            let z : T.clauses ≡ 0 = omega arith in
            none_left_lem e (ap (λ (c : ℕ). entries_of (sheet_from T c 0)) z)

    -- With `O latest`, k steps from the latest assumption on.
    assumption_members : (p k : ℕ) → order_of T.numbers ≡ latest → k ≤ length l
        → MembersAt n w (with_member r (climb k w r.program) 0 0 p) (entries_of (drop k l ++ sheet_from T T.clauses 0))
    unfolding behind_assumption Linked
    assumption_members p k o b = go (ltb k (length l)) refl
      where
        go : (c : Bool) → ltb k (length l) ≡ c
            → MembersAt n w (with_member r (climb k w r.program) 0 0 p) (entries_of (drop k l ++ sheet_from T T.clauses 0))
        go true e =
            let d = drop_some k l (ltb-true k (length l) e) in
            subst (λ (es : List (Hypothesis Leaf)). MembersAt n w (with_member r (climb k w r.program) 0 0 p) (entries_of es))
            (ap (λ (q : Order). d.0 ∷ behind_assumption T q k l) o
            ∙ ap (λ (m : List (Hypothesis Leaf)). d.0 ∷ (m ++ sheet_from T T.clauses 0)) (drop_more k l d.0 d.1 d.2)
            ∙ ap (◌++ sheet_from T T.clauses 0) (sym d.2))
            (at_assumption 0 p k d.0 d.1 (ltb-true k (length l) e) d.2)
        go false e =
            let z : length l - k ≡ 0 = let c = ltb-false k (length l) e in omega arith in
            let last : climb k w r.program ≡ 0 =
            subst (λ (m : ℕ). Linked m w (climb k w r.program)) z (climb_linked k (length l) w r.program b linked) in
            let none : drop k l ≡ [] = drop_of_length-le l {i = k} (let c = ltb-false k (length l) e in omega arith) in
            rw (last, none) (sheet_members_lem p o)

  -- A program in the default order.
  assuming_oldest : (l : List (Hypothesis Leaf)) → order_of T.numbers ≡ oldest
      → assuming T l ≡ rules oldest (sheet_from T T.clauses 0 ++ backwards (length l) l)
  unfolding assuming backwards joined
  assuming_oldest [] o =
      ap (λ (q : Order). rules q (sheet_from T T.clauses 0)) o ∙ ap (rules oldest) (sym (append-nil (sheet_from T T.clauses 0)))
  assuming_oldest (h ∷ l) o =
      ap (assume h) (assuming_oldest l o)
      ∙ ap (rules oldest) (append_assoc (sheet_from T T.clauses 0) (backwards (length l) l) (h ∷ []))

  -- A program with `O latest`.
  assuming_latest : (l : List (Hypothesis Leaf)) → order_of T.numbers ≡ latest
      → assuming T l ≡ rules latest (l ++ sheet_from T T.clauses 0)
  unfolding assuming joined
  assuming_latest [] o = ap (λ (q : Order). rules q (sheet_from T T.clauses 0)) o
  assuming_latest (h ∷ l) o = ap (assume h) (assuming_latest l o)

  -- A program from its first clause on.
  pub program_members : (n : ℕ) (w : List ℕ) (r : Registers) {P : Program Leaf} → ProgramAt T n w r.program P
      → MembersAt n w (first_member T.numbers T.clauses w r) (entries P)
  unfolding first_member climb behind_sheet
  program_members n w r {P = P} h = go (eqb (order_number t) 0) refl
    where
      l : List (Hypothesis Leaf)
      l = h.assumptions

      go : (b : Bool) → eqb (order_number t) 0 ≡ b
          → MembersAt n w (cond b (from_clause t T.clauses w r 0 1) (with_member r r.program 0 0 1)) (entries P)
      go true e =
          let o = default_order_lem t e in
          let z : T.clauses - 0 ≡ T.clauses = omega arith in
          subst (λ (es : List (Hypothesis Leaf)). MembersAt n w (from_clause t T.clauses w r 0 1) (entries_of es))
          (ap (λ (c : ℕ). sheet_from T c 0 ++ behind_sheet T (order_of t) l) z
          ∙ ap (λ (q : Order). sheet_from T T.clauses 0 ++ behind_sheet T q l) o
          ∙ ap (λ (Q : Program Leaf). Q.clauses) (sym (h.is ∙ assuming_oldest l o)))
          (clause_members n w r l h.at h.linked 0 1)
      go false e =
          let o = former_order_lem t e in
          subst (λ (es : List (Hypothesis Leaf)). MembersAt n w (with_member r r.program 0 0 1) (entries_of es))
          (ap (λ (Q : Program Leaf). Q.clauses) (sym (h.is ∙ assuming_latest l o)))
          (assumption_members n w r l h.at h.linked 1 0 o (omega arith))

  -- The member that the position names, and the members after it.
  pub record FirstAt (n : ℕ) (w : List ℕ) (r : Registers) (es : List (Entry Leaf)) : Type 0 where
    pub found : FoundOf T (clause_of T.numbers w r) r.member (member T.numbers (clause_of T.numbers w r) r.member)
    pub others : List (Entry Leaf)
    pub are : es ≡ entry (environment_at w (clause_frame w r))
        (member_of T.numbers (member T.numbers (clause_of T.numbers w r) r.member)) ∷ others
    pub left : MembersAt n w (next_member T.numbers T.clauses w r) others

  -- At the clause after this one, the members of the later clauses are left.
  next_clause_lem : (n : ℕ) (w : List ℕ) (r : Registers) (rest : List (Hypothesis Leaf))
      → RestAt T n w r.program r.hypothesis r.clause rest
      → MembersAt n w (next_clause T.numbers T.clauses w r) (entries_of rest)
  unfolding next_clause after_assumption AfterAt behind_assumption climb
  next_clause_lem n w r rest c = go r.hypothesis c.after
    where
      l : List (Hypothesis Leaf)
      l = c.assumptions

      place : ℕ
      place = increment r.place

      -- After the assumption that q names, after which k others were made.
      later : (q k : ℕ) → k < length c.assumptions → q ≡ climb k w r.program
          → rest ≡ behind_assumption T (order_of T.numbers) k c.assumptions → (b : Bool) → eqb (order_number t) 0 ≡ b
          → MembersAt n w (cond b (with_member r (later_of w r.program q) T.clauses 0 (increment r.place))
          (with_member r (parent_of w q) 0 0 (increment r.place))) (entries_of rest)
      later q k b z e true o =
          rw (z, e, default_order_lem t o)
          (later_members n w r c.assumptions c.at c.linked (increment r.place) k (default_order_lem t o) b)
      later q k b z e false o =
          rw (z, e, former_order_lem t o)
          (subst (λ (x : ℕ). MembersAt n w (with_member r x 0 0 (increment r.place))
          (entries_of (drop (suc k) c.assumptions ++ sheet_from T T.clauses 0)))
          (parent_last k w r.program)
          (assumption_members n w r c.assumptions c.at c.linked (increment r.place) (suc k) (former_order_lem t o) (omega arith)))

      go : (h : ℕ) → AfterAt T w r.program h r.clause c.assumptions rest
          → MembersAt n w (cond (eqb h 0) (from_clause t T.clauses w r (increment r.clause) (increment r.place))
          (cond (eqb (order_number t) 0) (with_member r (later_of w r.program h) T.clauses 0 (increment r.place))
          (with_member r (parent_of w h) 0 0 (increment r.place)))) (entries_of rest)
      go zero a =
          let b = a.0 in
          let f = T.made.few_clauses in
          rw (a.1, increment_small r.clause (omega arith))
          (clause_members n w r c.assumptions c.at c.linked (suc r.clause) (increment r.place))
      go (suc q) a =
          rw (ne_eqb (suc q) 0 (λ x. omega arith))
          (later (suc q) a.0 a.1 a.2 a.3 (eqb (order_number t) 0) refl)

  -- At a later member of this clause, the members from there on are left.
  same_clause : (n : ℕ) (w : List ℕ) (r : Registers) (es : List (Entry Leaf)) (k p : ℕ) (c : PositionAt T n w r es)
      → k < length (members (clause_at_node T.numbers (clause_of T.numbers w r)))
      → MembersAt n w (with_member r r.hypothesis r.clause k p)
      (map (entry (environment_at w (clause_frame w r))) (drop k (members (clause_at_node T.numbers (clause_of T.numbers w r))))
      ++ entries_of c.rest)
  unfolding with_member members_left clause_of clause_frame AfterAt
  same_clause n w r es k p c l =
      some_left (here r.hypothesis c.others.after)
      (record { clause = c.clause; frame = c.frame; member = l; rest = c.rest; others = c.others; are = refl })
    where
      here : (h : ℕ) → AfterAt T w r.program h r.clause c.others.assumptions c.rest
          → cond (eqb h 0) (ltb r.clause T.clauses) true ≡ true
      here zero o = lt-ltb r.clause T.clauses o.0
      here (suc q) o = rw (ne_eqb (suc q) 0 (λ x. omega arith))

  -- At the next member, in this clause or the next, the members after this one are left.
  next_member_lem : (n : ℕ) (w : List ℕ) (r : Registers) (es : List (Entry Leaf)) (c : PositionAt T n w r es)
      → MembersAt n w (next_member T.numbers T.clauses w r)
      (map (entry (environment_at w (clause_frame w r)))
      (drop (suc r.member) (members (clause_at_node T.numbers (clause_of T.numbers w r)))) ++ entries_of c.rest)
  unfolding next_member
  next_member_lem n w r es c =
      let m = clause_count (clause_of t w r) c.clause in
      let m₀ = m.0 in
      let m₂ = m.2 in
      let l = c.member in
      rw (increment_small r.member (omega arith)) (go (ltb (suc r.member) (members_of t (clause_of t w r))) refl m₀)
    where
      ms : List Member
      ms = members (clause_at_node t (clause_of t w r))

      go : (b : Bool) → ltb (suc r.member) (members_of t (clause_of t w r)) ≡ b → members_of t (clause_of t w r) ≡ length ms
          → MembersAt n w (cond b (with_member r r.hypothesis r.clause (suc r.member) (increment r.place))
          (next_clause t T.clauses w r))
          (map (entry (environment_at w (clause_frame w r))) (drop (suc r.member) ms) ++ entries_of c.rest)
      go true q z =
          let l = ltb-true (suc r.member) (members_of t (clause_of t w r)) q in
          same_clause n w r es (suc r.member) (increment r.place) c (omega arith)
      go false q z =
          let l = ltb-false (suc r.member) (members_of t (clause_of t w r)) q in
          let d : drop (suc r.member) ms ≡ [] = drop_of_length-le ms {i = suc r.member} (omega arith) in
          rw d (next_clause_lem n w r c.rest c.others)

  -- The first of the members left is found by the machine.
  pub position_first : (n : ℕ) (w : List ℕ) (r : Registers) (es : List (Entry Leaf)) → PositionAt T n w r es → FirstAt n w r es
  position_first n w r es p =
      let c = clause_of t w r in
      let k = r.member in
      let e = environment_at w (clause_frame w r) in
      let b = p.member in
      let m = (clause_count c p.clause).0 in
      let F =
      member_found t T.nodes (nodes_are T) Anything (λ x y h. (tt, tt)) (λ v x h. tt) c k T.made.few_nodes p.clause.0
      p.clause.1 tt (omega arith) in
      let d = at_drop (members (clause_at_node t c)) k (member_of t (member t c k)) F.is in
      record {
        found = F;
        others = map (entry e) (drop (suc k) (members (clause_at_node t c))) ++ entries_of p.rest;
        are = p.are ∙ ap (λ (l : List Member). map (entry e) l ++ entries_of p.rest) d;
        left = next_member_lem n w r es p;
      }
