-- The open alternatives: choice points in memory, each read after undoing the trail down to its mark. Backtracking to one is by
-- definition going on with the rest.
use Prim.Native.Nat.{ℕ, zero, suc, ◌+◌, ◌-◌, ◌*◌, ◌≤◌, ◌<◌}
use native.Mathlib.Omega.{arith}
use mathlib.Core.Bool.{cond}
use mathlib.Core.Path.{◌≡◌, refl, sym, ◌∙◌, subst}
use mathlib.Core.List.{List, [], ◌∷◌}
use lib.Dec.{eqb}
use lib.ListN.{length}
use borrow.Author.Tests.{eq-eqb, ne_eqb}
use Rattle.terms.specs.Lists.{All}
use Rattle.terms.proofs.Lists.{all_weaken}
use Rattle.unification.specs.Store.{Store}
use Rattle.search.specs.Configurations.{Configuration}
use Rattle.machine.specs.declared.Registers.{Registers}
use Rattle.machine.specs.Fields as fields
use Rattle.machine.specs.Records.{Made, made, no_mode}
use Rattle.machine.specs.RegisterUpdates.{with_mode, with_next, with_trail, with_choice, with_goals, with_path, with_goal, with_member}
use Rattle.machine.specs.Trail.{undo_entry}
use Rattle.machine.specs.ChoicePoints.{resume_goal, resume_member, resume_branch, resume, backtrack, failed}
use Rattle.machine.proofs.MemoryOrder.{Extends, Grow, extends_22, grow_less}
use Rattle.machine.proofs.Trail.{undo_all, extends_undo_all, grow_undo_all, Chain, chain_extends, chain_le, undo_chain}
use Rattle.machine.proofs.Tables.{Table}
use Rattle.machine.proofs.Stores.{StoreAt, store_grow, store_up}
use Rattle.machine.proofs.Configurations.{store_of, ConfigurationAt, configuration_extends, configuration_up}
use Rattle.memory.specs.Records.{field}

-- What n acts can have made: each binds at most one variable; the first makes at most one, every other at most eight; eight were there.
pub record Bounded (n : ℕ) (s : Store) : Type 0 where
  pub bindings : length s.bindings ≤ n
  pub least : 8 ≤ s.next
  pub variables : s.next ≤ 8 * n + 8
  pub later : 1 ≤ n → s.next ≤ 8 * n + 1

-- One variable more would fit the records so far, and the bound of the next act.
pub bounded_next : (n : ℕ) (s : Store) → Bounded n s → (suc s.next ≤ 9 * suc n) × (suc s.next ≤ 8 * suc n + 1)
bounded_next zero s b = let y = b.variables in (omega arith, omega arith)
bounded_next (suc n) s b = let y = b.later (omega arith) in (omega arith, omega arith)

-- An act later.
pub bounded_up : (n : ℕ) (s : Store) → Bounded n s → Bounded (suc n) s
bounded_up n s b =
    let x = b.bindings in
    let y = b.variables in
    record { bindings = omega arith; least = b.least; variables = omega arith; later = λ h. let z = (bounded_next n s b).1 in omega arith }

-- Resuming reads the fields of one record.
resume_extends : (n : ℕ) (w w' : List ℕ) (r : Registers) (q : ℕ) → Extends fields.constant_level n w w' → q < n
    → resume w' r q ≡ resume w r q
unfolding resume resume_member resume_goal resume_branch
resume_extends n w w' r q h l = rw (
  h.old q fields.variables l (omega arith) (omega arith),
  h.old q fields.choice_trail l (omega arith) (omega arith),
  h.old q fields.choice_before l (omega arith) (omega arith),
  h.old q fields.choice_goals l (omega arith) (omega arith),
  h.old q fields.choice_path l (omega arith) (omega arith),
  h.old q fields.choice_line l (omega arith) (omega arith),
  h.old q fields.choice_node l (omega arith) (omega arith),
  h.old q fields.choice_frame l (omega arith) (omega arith),
  h.old q fields.choice_program l (omega arith) (omega arith),
  h.old q fields.choice_level l (omega arith) (omega arith),
  h.old q fields.choice_hypothesis l (omega arith) (omega arith),
  h.old q fields.choice_clause l (omega arith) (omega arith),
  h.old q fields.choice_member l (omega arith) (omega arith),
  h.old q fields.choice_place l (omega arith) (omega arith),
)

module _ (T : Table) where
  -- The choice point in record q: whatever the registers are, resuming it gives the configuration. k bounds its variables.
  pub record ChoiceAt (n : ℕ) (w : List ℕ) (q : ℕ) (c : Configuration) (k : ℕ) : Type 0 where
    pub low : q < n
    pub resumes : (r : Registers) → ConfigurationAt T n w (resume w r q) c
    pub variables : field w q fields.variables ≡ (store_of c).next
    pub fewer : (store_of c).next ≤ k
    pub bounded : Bounded n (store_of c)

  -- From the latest choice point (a pointer) and the trail's head.
  pub data AlternativesAt (n : ℕ) : ℕ → List ℕ → ℕ → ℕ → List Configuration → Type 0 where
    alternatives_none : {k : ℕ} {w : List ℕ} {h : ℕ} → AlternativesAt n k w zero h []
    alternatives_more : {k : ℕ} {w : List ℕ} {h : ℕ} {c : Configuration} {ds : List Configuration} (q : ℕ) (rs : List ℕ)
        → ChoiceAt n w q c k → All (λ r. r < n) rs → Chain rs w h (field w q fields.choice_trail)
        → StoreAt T n (undo_all rs w) (store_of c)
        → AlternativesAt n (store_of c).next (undo_all rs w) (field w q fields.choice_before) (field w q fields.choice_trail) ds
        → AlternativesAt n k w (suc q) h (c ∷ ds)

  -- A choice point stays in an extended memory.
  choice_extends : (n : ℕ) (w w' : List ℕ) (q : ℕ) (c : Configuration) (k : ℕ) → Extends fields.constant_level n w w' → ChoiceAt n w q c k
      → ChoiceAt n w' q c k
  choice_extends n w w' q c k e h = record {
    low = h.low;
    resumes =
        λ r. subst (λ (x : Registers). ConfigurationAt T n w' x c) (sym (resume_extends n w w' r q e h.low))
        (configuration_extends T n w w' (resume w r q) c e (h.resumes r));
    variables = e.old q fields.variables h.low (omega arith) (omega arith) ∙ h.variables;
    fewer = h.fewer;
    bounded = h.bounded;
  }

  -- A choice point stays one act later.
  choice_up : (n : ℕ) (w : List ℕ) (q : ℕ) (c : Configuration) (k : ℕ) → ChoiceAt n w q c k → ChoiceAt (suc n) w q c k
  choice_up n w q c k h = record {
    low = let l = h.low in omega arith;
    resumes = λ r. configuration_up T n w (resume w r q) c (h.resumes r);
    variables = h.variables;
    fewer = h.fewer;
    bounded = bounded_up n (store_of c) h.bounded;
  }

  -- The entries of a trail, an act later.
  pub all_up : (n : ℕ) (rs : List ℕ) → All (λ r. r < n) rs → All (λ r. r < suc n) rs
  all_up n rs h = all_weaken (λ r. r < n) (λ r. r < suc n) (λ r l. omega arith) rs h

  -- The alternatives stay when memory grows.
  pub alternatives_grow : (n : ℕ) {k : ℕ} {w : List ℕ} {cp h : ℕ} {ds : List Configuration} (w' : List ℕ) → Grow n k w w'
      → AlternativesAt n k w cp h ds → AlternativesAt n k w' cp h ds
  alternatives_grow n w' g alternatives_none = alternatives_none
  alternatives_grow n w' g (alternatives_more {k = k} {w = w} {h = h} {c = c} {ds = ds} q rs a l e s d) =
      let g' = grow_undo_all n k rs w w' l g in
      let b = a.low in
      let e₄ = g.extends.old q fields.choice_trail b (omega arith) (omega arith) in
      let e₅ = g.extends.old q fields.choice_before b (omega arith) (omega arith) in
      alternatives_more {k = k} {w = w'} {h = h} {c = c} {ds = ds} q rs (choice_extends n w w' q c k (extends_22 n w w' g.extends) a) l
      (rw e₄ (chain_extends n rs w w' h (field w q fields.choice_trail) l g.extends e))
      (store_grow T n k (undo_all rs w) (undo_all rs w') (store_of c) g' a.fewer s)
      (rw (e₄, e₅) (alternatives_grow n (undo_all rs w') (grow_less n (store_of c).next k (undo_all rs w) (undo_all rs w') a.fewer g') d))

  -- The alternatives stay one act later.
  pub alternatives_up : (n : ℕ) {k : ℕ} {w : List ℕ} {cp h : ℕ} {ds : List Configuration} → AlternativesAt n k w cp h ds
      → AlternativesAt (suc n) k w cp h ds
  alternatives_up n alternatives_none = alternatives_none
  alternatives_up n (alternatives_more {k = k} {w = w} {c = c} q rs a l e s d) =
      alternatives_more q rs (choice_up n w q c k a) (all_up n rs l) e (store_up T n (undo_all rs w) (store_of c) s) (alternatives_up n d)

  -- The alternatives stay when more variables are made.
  pub alternatives_wider : (n : ℕ) {j : ℕ} {w : List ℕ} {cp h : ℕ} {ds : List Configuration} (k : ℕ) → j ≤ k
      → AlternativesAt n j w cp h ds → AlternativesAt n k w cp h ds
  alternatives_wider n k b alternatives_none = alternatives_none
  alternatives_wider n k b (alternatives_more {w = w} {h = h} {c = c} {ds = ds} q rs a l e s d) =
      alternatives_more {k = k} {w = w} {h = h} {c = c} {ds = ds} q rs
      (record {
        low = a.low;
        resumes = a.resumes;
        variables = a.variables;
        fewer = let m = a.fewer in omega arith;
        bounded = a.bounded;
      }) l e s d

  -- The alternatives stay when an act notes an entry that can be undone: the latest one's part of the trail is longer.
  pub alternatives_noted : (n : ℕ) {k : ℕ} {w : List ℕ} {cp h : ℕ} {ds : List Configuration} (w' : List ℕ)
      → Extends fields.entry_lowered n w w' → Grow n k w (undo_entry w' n) → field w' n fields.entry_before ≡ h → h ≤ n
      → AlternativesAt n k w cp h ds → AlternativesAt (suc n) k w' cp (suc n) ds
  unfolding Chain undo_all
  alternatives_noted n w' e g f b alternatives_none = alternatives_none
  alternatives_noted n w' e g f b (alternatives_more {k = k} {w = w} {h = h} {c = c} {ds = ds} q rs a l i s d) =
      let g' = grow_undo_all n k rs w (undo_entry w' n) l g in
      let lo = a.low in
      let e₄ = e.old q fields.choice_trail lo (omega arith) (omega arith) in
      let e₅ = e.old q fields.choice_before lo (omega arith) (omega arith) in
      let m = chain_le rs w h (field w q fields.choice_trail) i in
      alternatives_more {k = k} {w = w'} {h = suc n} {c = c} {ds = ds} q (n ∷ rs)
      (choice_up n w' q c k (choice_extends n w w' q c k (extends_22 n w w' e) a)) (omega arith, all_up n rs l)
      (rw (e₄, f) (refl, omega arith, b, chain_extends n rs w w' h (field w q fields.choice_trail) l e i))
      (store_up T n (undo_all rs (undo_entry w' n)) (store_of c)
      (store_grow T n k (undo_all rs w) (undo_all rs (undo_entry w' n)) (store_of c) g' a.fewer s))
      (rw (e₄, e₅)
      (alternatives_up n (alternatives_grow n (undo_all rs (undo_entry w' n))
      (grow_less n (store_of c).next k (undo_all rs w) (undo_all rs (undo_entry w' n)) a.fewer g') d)))

  -- What every act carries on: the store, the number of variables x, the trail's head h, the alternatives from cp on.
  pub record SharedAt (n : ℕ) (w : List ℕ) (x h cp : ℕ) (s : Store) (ds : List Configuration) : Type 0 where
    pub store : StoreAt T n w s
    pub bounded : Bounded n s
    pub next : x ≡ s.next
    pub trail : h ≤ n
    pub alternatives : AlternativesAt n s.next w cp h ds

  -- What every act carries on stays when records are added.
  pub shared_same : (n : ℕ) (w w' : List ℕ) (x h cp : ℕ) (s : Store) (ds : List Configuration) → Grow n s.next w w'
      → SharedAt n w x h cp s ds → SharedAt n w' x h cp s ds
  shared_same n w w' x h cp s ds g c = record {
    store = store_grow T n s.next w w' s g (omega arith) c.store;
    bounded = c.bounded;
    next = c.next;
    trail = c.trail;
    alternatives = alternatives_grow n w' g c.alternatives;
  }

  -- What every act carries on stays one act later.
  pub shared_up : (n : ℕ) (w : List ℕ) (x h cp : ℕ) (s : Store) (ds : List Configuration) → SharedAt n w x h cp s ds
      → SharedAt (suc n) w x h cp s ds
  shared_up n w x h cp s ds c = record {
    store = store_up T n w s c.store;
    bounded = bounded_up n s c.bounded;
    next = c.next;
    trail = let l = c.trail in omega arith;
    alternatives = alternatives_up n c.alternatives;
  }

  -- An act that only makes records keeps what every act carries on.
  pub shared_grow : (n : ℕ) (w w' : List ℕ) (x h cp : ℕ) (s : Store) (ds : List Configuration) → Grow n s.next w w'
      → SharedAt n w x h cp s ds → SharedAt (suc n) w' x h cp s ds
  shared_grow n w w' x h cp s ds g c = shared_up n w' x h cp s ds (shared_same n w w' x h cp s ds g c)

  -- The state of a search after n acts: the configuration acted upon, then the alternatives.
  pub record StateAt (n : ℕ) (w : List ℕ) (r : Registers) (c : Configuration) (ds : List Configuration) : Type 0 where
    pub front : ConfigurationAt T n w r c
    pub shared : SharedAt n w r.next r.trail r.choice (store_of c) ds

  -- What an act leaves: no alternative, or a state.
  unfoldable pub ResultAt : ℕ → Made → List Configuration → Type 0
  ResultAt n m [] = m.registers.mode ≡ no_mode
  ResultAt n m (c ∷ ds) = StateAt n m.memory m.registers c ds

  -- Failure: the latest alternative is acted upon.
  pub failed_result : (n k : ℕ) (w : List ℕ) (r : Registers) (ds : List Configuration) → r.trail ≤ n
      → AlternativesAt n k w r.choice r.trail ds → ResultAt n (failed w r) ds
  unfolding failed ResultAt with_mode backtrack resume resume_member resume_goal resume_branch with_next with_trail with_choice with_goals with_path
      with_goal with_member
  failed_result n k w r ds b a = go r.choice r.trail ds refl refl a
    where
      up_to : (q : ℕ) (rs : List ℕ) (h : ℕ) (c : Configuration) (ds : List Configuration) → r.trail ≡ h → ChoiceAt n w q c k
          → All (λ x. x < n) rs → Chain rs w h (field w q fields.choice_trail)
          → StoreAt T n (undo_all rs w) (store_of c)
          → AlternativesAt n (store_of c).next (undo_all rs w) (field w q fields.choice_before) (field w q fields.choice_trail) ds
          → StateAt n (backtrack w r q).memory (backtrack w r q).registers c ds
      up_to q rs h c ds e p l i s d =
          let z = undo_chain rs n r.trail w r.trail (field w q fields.choice_trail) l (omega arith) (rw e i) in
          let m = chain_le rs w h (field w q fields.choice_trail) i in
          subst (λ (x : List ℕ). StateAt n x (resume w r q) c ds) (sym z) (record {
            front =
                configuration_extends T n w (undo_all rs w) (resume w r q) c (extends_22 n w (undo_all rs w) (extends_undo_all n rs w))
                (p.resumes r);
            shared = record { store = s; bounded = p.bounded; next = p.variables; trail = omega arith; alternatives = d };
          })

      go : (cp h : ℕ) (ds : List Configuration) → r.choice ≡ cp → r.trail ≡ h → AlternativesAt n k w cp h ds
          → ResultAt n (cond (eqb r.choice 0) (made w (with_mode r no_mode)) (backtrack w r (r.choice - 1))) ds
      go cp h ds e f alternatives_none = rw (eq-eqb r.choice 0 e)
      go cp h ds e f (alternatives_more {c = c} {ds = ds'} q rs p l i s d) =
          let z : r.choice - 1 ≡ q = omega arith in
          rw (ne_eqb r.choice 0 (λ x. omega arith), z) (up_to q rs h c ds' f p l i s d)
