-- Counting members in the order in force finds the entry of a program.
use Prim.Native.Nat.{ℕ, zero, suc, ◌+◌, ◌-◌, ◌<◌, ◌≤◌}
use native.Mathlib.Omega.{arith}
use native.Mathlib.Numerals.{add-one}
use mathlib.Core.Path.{◌≡◌, refl, sym, ap, ◌∙◌, subst}
use mathlib.Core.Bool.{Bool, true, false, cond}
use mathlib.Core.List.{List, [], ◌∷◌, ◌++◌, map, append-nil, append_assoc}
use mathlib.Core.Option
use mathlib.Core.Option.{none}
use lib.Dec.{eqb, ltb}
use lib.ListN.{length, take, drop, get_elem?, length-append, length-drop}
use borrow.Author.Tests.{ltb-true, ltb-false, ne_eqb}
use Rattle.terms.specs.Lists.{All}
use Rattle.formulas.specs.Formulas.{Clause, free_c}
use Rattle.formulas.specs.Members.{members}
use Rattle.formulas.specs.Rules.{Order, oldest, latest, joined}
use Rattle.sequents.specs.Symbols.{Symbol}
use Rattle.sequents.specs.Sequents.{Environment, Hypothesis, hypothesis, Program, Entry, entry, entries_of}
use Rattle.sheet_format.specs.Limits.{max_number}
use Rattle.sheet_format.proofs.Formed.{FormedClause}
use Rattle.sheet_format.proofs.Good.{Closed}
use Rattle.sequents.proofs.Sequents.{entries_append}
use Rattle.node_table.specs.Layout.{members_of, clause_node, order_number}
use Rattle.node_table.specs.Decoding.{clause_at_node, clauses_from, order_of, decode_sheet}
use Rattle.node_table.specs.WellMade.{IsClause}
use Rattle.scanning.specs.Fields as fields
use Rattle.scanning.proofs.InstanceSpelling.{Frame}
use Rattle.std.specs.Prelude.{Some, None}
use Rattle.line_checking.specs.HypothesisChains.{saturate, hypothesis_field, next_of, start_of, jump_of, passed_of, step_before}
use Rattle.line_checking.specs.Members.{Place, clause_from, hypothesis_from, oldest_from, place_from}
use Rattle.line_checking.proofs.Representation.{Setting, folds, declared, sheet_of, sheet_clauses, joined_all, Filled, HypothesesAt}
use Rattle.line_checking.proofs.Representation.{climb, JumpAt, ProgramAt}
use Rattle.line_checking.proofs.HypothesisChains.{hypothesis_field_lem, climb_at}
use Rattle.line_checking.proofs.Preservation.{hypotheses_short}
use Rattle.line_checking.proofs.Starts.{many, before_is}
use Rattle.memory.specs.Records.{field}
use Rattle.sheet_format.proofs.Indexing.{at_left, at_right, at_map}

-- Past the end of a list there is no element.
at_none : {A : Type 0} (l : List A) (k : ℕ) → length l ≤ k → get_elem? l k ≡ none
at_none [] k h = refl
at_none (a ∷ l) zero h = absurd (omega arith)
at_none (a ∷ l) (suc k) h = at_none l k (omega arith)

module _ (c : Setting) (q : ℕ) (w : List ℕ) where
  -- Member j of the clause at node n, in frame f, is entry k of the program.
  pub record EntryIs (P : List (Hypothesis Symbol)) (k n f j : ℕ) : Type 0 where
    pub node : n < c.nodes
    pub is : IsClause c.table n
    pub formed : FormedClause (clause_at_node c.table n) (declared c)
    pub inside : j < members_of c.table n
    pub older : f < q
    pub environment : Environment Symbol
    pub frame : Frame (declared c) (folds c) w f environment (free_c (clause_at_node c.table n))
    pub entry_is : get_elem? (entries_of P) k ≡ Option.map (entry environment) (get_elem? (members (clause_at_node c.table n)) j)

  -- What is found at place k.
  abbrev pub PlaceIs : List (Hypothesis Symbol) → ℕ → Place → Type 0
  PlaceIs P k (Some (n, f, j)) = EntryIs P k n f j
  PlaceIs P k None = get_elem? (entries_of P) k ≡ none

module _ (c : Setting) (filled : Filled c) (q : ℕ) (w : List ℕ) (some-line : 0 < q) where
  -- A member of the first hypothesis is the entry of the program with its number.
  in_first : (a : Hypothesis Symbol) (P : List (Hypothesis Symbol)) (n f k : ℕ) → n < c.nodes → IsClause c.table n
      → a.clause ≡ clause_at_node c.table n
      → FormedClause (clause_at_node c.table n) (declared c) → f < q
      → Frame (declared c) (folds c) w f a.environment (free_c (clause_at_node c.table n)) → k < members_of c.table n
      → EntryIs c q w (a ∷ P) k n f k
  unfolding entries_of
  in_first a P n f k l i e o y g u =
      let m = many c filled a n l i e in
      record {
        node = l;
        is = i;
        formed = o;
        inside = u;
        older = y;
        environment = a.environment;
        frame = g;
        entry_is =
            at_left (map (entry a.environment) (members a.clause)) (entries_of P) k (omega arith)
            ∙ at_map (entry a.environment) (members a.clause) k
            ∙ ap (λ (z : Clause). Option.map (entry a.environment) (get_elem? (members z) k)) e;
      }

  -- A place is found as well in other clauses with the same entry.
  place_same : (P Q : List (Hypothesis Symbol)) (k j : ℕ) (p : Place) → get_elem? (entries_of P) k ≡ get_elem? (entries_of Q) j
      → PlaceIs c q w Q j p → PlaceIs c q w P k p
  place_same P Q k j (Some (m, f, o)) s z = record {
    node = z.node;
    is = z.is;
    formed = z.formed;
    inside = z.inside;
    older = z.older;
    environment = z.environment;
    frame = z.frame;
    entry_is = s ∙ z.entry_is;
  }
  place_same P Q k j None s z = s ∙ z

  -- An entry past those of the first hypothesis is found among the others.
  in_others : (a : Hypothesis Symbol) (P : List (Hypothesis Symbol)) (n k : ℕ) (p : Place) → n < c.nodes → IsClause c.table n
      → a.clause ≡ clause_at_node c.table n → members_of c.table n ≤ k
      → PlaceIs c q w P (k - members_of c.table n) p → PlaceIs c q w (a ∷ P) k p
  unfolding entries_of
  in_others a P n k p l i e u h =
      let m = many c filled a n l i e in
      place_same (a ∷ P) P k (k - members_of c.table n) p
      (at_right (map (entry a.environment) (members a.clause)) (entries_of P) k (omega arith)
      ∙ ap (λ (j : ℕ). get_elem? (entries_of P) (k - j)) m) h

  -- `clause_from` finds the entry in the sheet's clauses from the i-th on.
  clause_from_lem : (n i k : ℕ) (e : Environment Symbol) → i + n ≤ c.clauses
      → All (λ d. FormedClause d (declared c)) (clauses_from c.table n i) → All Closed (clauses_from c.table n i)
      → PlaceIs c q w (map (λ d. hypothesis d e) (clauses_from c.table n i)) k (clause_from n c.table i k)
  unfolding clause_from clauses_from entries_of
  clause_from_lem zero i k e l h z = refl
  clause_from_lem (suc n) i k e l h z =
      let a = filled.well_made.clause i (omega arith) in
      rw (add-one i) (go (ltb k (members_of c.table (clause_node c.table i))) refl a.0 a.1
      (λ j. clause_from_lem n (suc i) j e (omega arith) h.1 z.1))
    where
      m : ℕ
      m = clause_node c.table i

      a : Hypothesis Symbol
      a = hypothesis (clause_at_node c.table m) e

      P : List (Hypothesis Symbol)
      P = map (λ d. hypothesis d e) (clauses_from c.table n (suc i))

      go : (b : Bool) → ltb k (members_of c.table m) ≡ b → m < c.nodes → IsClause c.table m
          → ((j : ℕ) → PlaceIs c q w P j (clause_from n c.table (suc i) j))
          → PlaceIs c q w (a ∷ P) k (cond b (Some (m, 0, k)) (clause_from n c.table (suc i) (k - members_of c.table m)))
      go true p u y ih = in_first a P m 0 k u y refl h.0 some-line (λ v o f. absurd (z.0 v f)) (ltb-true k (members_of c.table m) p)
      go false p u y ih =
          in_others a P m k (clause_from n c.table (suc i) (k - members_of c.table m)) u y refl
          (ltb-false k (members_of c.table m) p) (ih (k - members_of c.table m))

  -- `clause_from` finds the entry in all of the sheet's clauses.
  sheet_from_lem : (k : ℕ) (e : Environment Symbol) → PlaceIs c q w (sheet_clauses c e) k (clause_from c.clauses c.table 0 k)
  unfolding sheet_of decode_sheet
  sheet_from_lem k e = clause_from_lem c.clauses 0 k e (omega arith) filled.good.clauses_formed filled.good.clauses_closed

  -- A step of the walk in the default order (request W-207), from the hypothesis in record r.
  oldest_step : (n h r k : ℕ) → h ≡ suc r
      → oldest_from (suc n) c.table c.clauses w h k ≡ cond (ltb k (field w r fields.hypothesis_start))
      (oldest_from n c.table c.clauses w (step_before w h k) k)
      (cond (ltb (k - field w r fields.hypothesis_start) (members_of c.table (field w r fields.hypothesis_node)))
      (Some (field w r fields.hypothesis_node, field w r fields.hypothesis_frame, k - field w r fields.hypothesis_start)) None)
  unfolding oldest_from
  oldest_step n h r k e =
      let z : h - 1 ≡ r = omega arith in
      rw (ne_eqb h 0 (λ y. omega arith), z)

  -- With `O latest` the entries are those of the first hypotheses, then those of the others and of the sheet's clauses.
  latest_parts : (s : ℕ) (l P : List (Hypothesis Symbol)) → s ≤ length l
      → entries_of (joined_all latest l P) ≡ entries_of (take s l) ++ entries_of (joined_all latest (drop s l) P)
  unfolding joined_all joined entries_of
  latest_parts zero l P u = refl
  latest_parts (suc s) [] P u = absurd (omega arith)
  latest_parts (suc s) (a ∷ l) P u =
      let M = map (entry a.environment) (members a.clause) in
      ap (M ++◌) (latest_parts s l P (omega arith)) ∙ sym (append_assoc M (entries_of (take s l)) (entries_of (joined_all latest (drop s l) P)))

  -- `hypothesis_from` finds the entry in the hypotheses, the latest first, then the sheet's clauses.
  hypothesis_from_lem : (n : ℕ) (l : List (Hypothesis Symbol)) (j h k : ℕ) (e : Environment Symbol) → k < max_number → j ≤ q → length l ≤ n
      → HypothesesAt c j w h l
      → PlaceIs c q w (joined_all latest l (sheet_clauses c e)) k (hypothesis_from n c.table c.clauses w h k)
  unfolding hypothesis_from HypothesesAt joined_all joined saturate
  hypothesis_from_lem zero [] j h k e small u o p = sheet_from_lem k e
  hypothesis_from_lem (suc n) [] j h k e small u o p = rw p (sheet_from_lem k e)
  hypothesis_from_lem zero (a ∷ l) j h k e small u o p = absurd (omega arith)
  hypothesis_from_lem (suc n) (a ∷ l) j h k e small u o p =
      let z : suc p.0 - 1 ≡ p.0 = omega arith in
      rw (p.1, ne_eqb (suc p.0) 0 (λ y. omega arith), z)
      (go (ltb k (members_of c.table (field w p.0 fields.hypothesis_node))) refl
      (ltb k (field w p.0 fields.hypothesis_passed)) refl
      (λ l' j' h' k' s' u' o' p'. hypothesis_from_lem n l' j' h' k' e s' u' o' p'))
    where
      r : ℕ
      r = p.0

      m : ℕ
      m = field w p.0 fields.hypothesis_node

      v : ℕ
      v = field w p.0 fields.hypothesis_passed

      S : List (Hypothesis Symbol)
      S = sheet_clauses c e

      J : JumpAt w h (a ∷ l)
      J = p.5

      -- What the jump leads to.
      on : (i : ℕ) × (i ≤ j) × HypothesesAt c i w (climb J.steps w h) (drop J.steps (a ∷ l))
      on = climb_at c w J.steps j h (a ∷ l) J.most p

      jumps : field w r fields.hypothesis_jump ≡ climb J.steps w h
      jumps = sym (hypothesis_field_lem w r fields.hypothesis_jump) ∙ ap (λ (y : ℕ). jump_of w y) (sym p.1) ∙ J.there

      passes : v ≡ saturate (length (entries_of (take J.steps (a ∷ l))))
      passes = sym (hypothesis_field_lem w r fields.hypothesis_passed) ∙ ap (λ (y : ℕ). passed_of w y) (sym p.1) ∙ J.passed

      Found : Type 0
      Found =
          (l' : List (Hypothesis Symbol)) (j' h' k' : ℕ) → k' < max_number → j' ≤ q → length l' ≤ n → HypothesesAt c j' w h' l'
          → PlaceIs c q w (joined_all latest l' S) k' (hypothesis_from n c.table c.clauses w h' k')

      go : (b : Bool) → ltb k (members_of c.table m) ≡ b → (d : Bool) → ltb k v ≡ d → Found
          → PlaceIs c q w (a ∷ joined_all latest l S) k
          (cond b (Some (m, field w r fields.hypothesis_frame, k))
          (cond d (hypothesis_from n c.table c.clauses w (field w r fields.hypothesis_next) (k - members_of c.table m))
          (hypothesis_from n c.table c.clauses w (field w r fields.hypothesis_jump) (k - v))))
      go true y d x ih =
          let s = p.2 in
          let b = s.below in
          let f = s.older in
          in_first a (joined_all latest l S) m (field w r fields.hypothesis_frame) k s.node s.is s.clause s.formed (omega arith)
          s.frame (ltb-true k (members_of c.table m) y)
      go false y true x ih =
          let s = p.2 in
          let b = s.below in
          in_others a (joined_all latest l S) m k
          (hypothesis_from n c.table c.clauses w (field w r fields.hypothesis_next) (k - members_of c.table m)) s.node s.is
          s.clause (ltb-false k (members_of c.table m) y)
          (ih l r (field w r fields.hypothesis_next) (k - members_of c.table m) (omega arith) (omega arith) (omega arith) p.3)
      go false y false x ih =
          let far = ltb-false k v x in
          let e₁ = passes in
          let least = J.least (omega arith) in
          let short = length-drop J.steps (a ∷ l) in
          let below = on.1 in
          let X = entries_of (take J.steps (a ∷ l)) in
          let exact : v ≡ length X = omega arith in
          let Q = joined_all latest (drop J.steps (a ∷ l)) S in
          rw jumps (place_same (a ∷ joined_all latest l S) Q k (k - v)
          (hypothesis_from n c.table c.clauses w (climb J.steps w h) (k - v))
          (ap (λ (y : List (Entry Symbol)). get_elem? y k) (latest_parts J.steps (a ∷ l) S J.most)
          ∙ at_right X (entries_of Q) k (omega arith) ∙ ap (λ (y : ℕ). get_elem? (entries_of Q) (k - y)) (sym exact))
          (ih (drop J.steps (a ∷ l)) on.0 (climb J.steps w h) (k - v) (omega arith) (omega arith) (omega arith) on.2))

  -- In the default order the members of older hypotheses come first: with later ones after them they stand at the same places.
  older_first : (s : ℕ) (l P : List (Hypothesis Symbol)) (k : ℕ) → s ≤ length l → k < length (entries_of (joined_all oldest (drop s l) P))
      → (get_elem? (entries_of (joined_all oldest l P)) k ≡ get_elem? (entries_of (joined_all oldest (drop s l) P)) k)
      × (k < length (entries_of (joined_all oldest l P)))
  unfolding joined_all joined
  older_first zero l P k u h = (refl, h)
  older_first (suc s) [] P k u h = absurd (omega arith)
  older_first (suc s) (a ∷ l) P k u h =
      let i = older_first s l P k (omega arith) h in
      let Q = joined_all oldest l P in
      let parts = entries_append Q (a ∷ []) in
      let many = ap length parts ∙ length-append (entries_of Q) (entries_of (a ∷ [])) in
      let b = i.1 in (
        ap (λ (y : List (Entry Symbol)). get_elem? y k) parts ∙ at_left (entries_of Q) (entries_of (a ∷ [])) k b ∙ i.0,
        omega arith,
      )

  -- A place before the start of a hypothesis is among the members of those before it.
  before_start : (l : List (Hypothesis Symbol)) (j h k : ℕ) (e : Environment Symbol) → HypothesesAt c j w h l → k < start_of w h
      → k < length (entries_of (joined_all oldest l (sheet_clauses c e)))
  unfolding HypothesesAt hypothesis_field saturate
  before_start [] j h k e p b = let z = ap (λ (y : ℕ). start_of w y) p in absurd (omega arith)
  before_start (a ∷ l) j h k e p b =
      let s : start_of w h ≡ field w p.0 fields.hypothesis_start =
      ap (λ (y : ℕ). start_of w y) p.1 ∙ hypothesis_field_lem w p.0 fields.hypothesis_start in
      let d = p.4 in
      let i = before_is c filled (a ∷ l) e in
      let m = ap length (entries_append (a ∷ []) l) ∙ length-append (entries_of (a ∷ [])) (entries_of l) in
      omega arith

  -- `oldest_from` finds the entry in the sheet's clauses, then the hypotheses, oldest first (request W-207).
  oldest_from_lem : (n : ℕ) (l : List (Hypothesis Symbol)) (j h k : ℕ) (e : Environment Symbol) → k < max_number → j ≤ q → length l ≤ n
      → HypothesesAt c j w h l
      → PlaceIs c q w (joined_all oldest l (sheet_clauses c e)) k (oldest_from n c.table c.clauses w h k)
  unfolding oldest_from step_before HypothesesAt joined_all joined entries_of saturate
  oldest_from_lem zero [] j h k e small u o p = sheet_from_lem k e
  oldest_from_lem (suc n) [] j h k e small u o p = rw p (sheet_from_lem k e)
  oldest_from_lem zero (a ∷ l) j h k e small u o p = absurd (omega arith)
  oldest_from_lem (suc n) (a ∷ l) j h k e small u o p =
      rw here (go (ltb k s) (ltb (k - s) (members_of c.table m)) (ltb k (start_of w (jump_of w h))) refl refl refl
      (λ l' j' h' u' o' p'. oldest_from_lem n l' j' h' k e small u' o' p'))
    where
      r : ℕ
      r = p.0

      m : ℕ
      m = field w p.0 fields.hypothesis_node

      s : ℕ
      s = field w p.0 fields.hypothesis_start

      S : List (Hypothesis Symbol)
      S = sheet_clauses c e

      P : List (Hypothesis Symbol)
      P = joined_all oldest l S

      M : List (Entry Symbol)
      M = map (entry a.environment) (members a.clause)

      J : JumpAt w h (a ∷ l)
      J = p.5

      -- What the jump leads to.
      on : (i : ℕ) × (i ≤ j) × HypothesesAt c i w (climb J.steps w h) (drop J.steps (a ∷ l))
      on = climb_at c w J.steps j h (a ∷ l) J.most p

      next : next_of w h ≡ field w r fields.hypothesis_next
      next = ap (λ (y : ℕ). next_of w y) p.1 ∙ hypothesis_field_lem w r fields.hypothesis_next

      Step : Bool → ℕ
      Step z = cond z (jump_of w h) (next_of w h)

      -- The walk from the latest hypothesis.
      here : oldest_from (suc n) c.table c.clauses w h k ≡ cond (ltb k s)
          (oldest_from n c.table c.clauses w (Step (ltb k (start_of w (jump_of w h)))) k)
          (cond (ltb (k - s) (members_of c.table m)) (Some (m, field w r fields.hypothesis_frame, k - s)) None)
      here = oldest_step n h r k p.1

      -- The members of the hypothesis are the last ones.
      last : get_elem? (entries_of (P ++ (a ∷ []))) k ≡ get_elem? (entries_of P ++ M) k
      last = ap (λ (y : List (Entry Symbol)). get_elem? y k) (entries_append P (a ∷ []) ∙ ap (entries_of P ++◌) (append-nil M))

      -- A start at k or before is the number of members before the hypothesis.
      start : s ≤ k → s ≡ length (entries_of P)
      start y = let d = p.4 in let i = before_is c filled l e in omega arith

      Found : Type 0
      Found =
          (l' : List (Hypothesis Symbol)) (j' h' : ℕ) → j' ≤ q → length l' ≤ n → HypothesesAt c j' w h' l'
          → PlaceIs c q w (joined_all oldest l' S) k (oldest_from n c.table c.clauses w h' k)

      go : (x y z : Bool) → ltb k s ≡ x → ltb (k - s) (members_of c.table m) ≡ y → ltb k (start_of w (jump_of w h)) ≡ z → Found
          → PlaceIs c q w (P ++ (a ∷ [])) k
          (cond x (oldest_from n c.table c.clauses w (Step z) k)
          (cond y (Some (m, field w r fields.hypothesis_frame, k - s)) None))
      go true y true t₁ t₂ t₃ ih =
          let Q = joined_all oldest (drop J.steps (a ∷ l)) S in
          let b = subst (λ (y : ℕ). k < start_of w y) J.there (ltb-true k (start_of w (jump_of w h)) t₃) in
          let within = before_start (drop J.steps (a ∷ l)) on.0 (climb J.steps w h) k e on.2 b in
          let least = J.least (omega arith) in
          let short = length-drop J.steps (a ∷ l) in
          let below = on.1 in
          rw J.there (place_same (P ++ (a ∷ [])) Q k k (oldest_from n c.table c.clauses w (climb J.steps w h) k)
          (older_first J.steps (a ∷ l) S k J.most within).0
          (ih (drop J.steps (a ∷ l)) on.0 (climb J.steps w h) (omega arith) (omega arith) on.2))
      go true y false t₁ t₂ t₃ ih =
          let g = ltb-true k s t₁ in
          let d = p.4 in
          let i = before_is c filled l e in
          let b = p.2.below in
          rw next (place_same (P ++ (a ∷ [])) P k k (oldest_from n c.table c.clauses w (field w r fields.hypothesis_next) k)
          (last ∙ at_left (entries_of P) M k (omega arith))
          (ih l r (field w r fields.hypothesis_next) (omega arith) (omega arith) p.3))
      go false true z t₁ t₂ t₃ ih =
          let g = start (ltb-false k s t₁) in
          let f = ltb-false k s t₁ in
          let v = p.2.older in
          let b = p.2.below in
          record {
            node = p.2.node;
            is = p.2.is;
            formed = p.2.formed;
            inside = ltb-true (k - s) (members_of c.table m) t₂;
            older = omega arith;
            environment = a.environment;
            frame = p.2.frame;
            entry_is =
                last ∙ at_right (entries_of P) M k (omega arith) ∙ ap (λ (y : ℕ). get_elem? M (k - y)) (sym g)
                ∙ at_map (entry a.environment) (members a.clause) (k - s)
                ∙ ap (λ (z : Clause). Option.map (entry a.environment) (get_elem? (members z) (k - s))) p.2.clause;
          }
      go false false z t₁ t₂ t₃ ih =
          let g = start (ltb-false k s t₁) in
          let f = ltb-false k s t₁ in
          let h = ltb-false (k - s) (members_of c.table m) t₂ in
          let o = many c filled a m p.2.node p.2.is p.2.clause in
          last ∙ at_right (entries_of P) M k (omega arith) ∙ ap (λ (y : ℕ). get_elem? M (k - y)) (sym g) ∙ at_none M (k - s) (omega arith)

  -- The place that is found in the order in force is the entry of the program.
  pub place_is : (h k : ℕ) (P : Program Symbol) → k < max_number → ProgramAt c q w h P
      → PlaceIs c q w P.clauses k (place_from c.table c.clauses w h k)
  unfolding place_from order_of
  place_is h k P small p =
      subst (λ (y : Program Symbol). PlaceIs c q w y.clauses k (place_from c.table c.clauses w h k)) (sym p.is)
      (go (eqb (order_number c.table) 0))
    where
      short : length p.hypotheses ≤ h
      short = (hypotheses_short c w q h p.hypotheses p.at).0

      go : (b : Bool)
          → PlaceIs c q w
          (joined_all (elim b as (λ z. Order) [ true ↦ oldest | false ↦ latest ]) p.hypotheses (sheet_clauses c p.environment)) k
          (cond b (oldest_from h c.table c.clauses w h k) (hypothesis_from h c.table c.clauses w h k))
      go true = oldest_from_lem h p.hypotheses q h k p.environment small (omega arith) short p.at
      go false = hypothesis_from_lem h p.hypotheses q h k p.environment small (omega arith) short p.at
