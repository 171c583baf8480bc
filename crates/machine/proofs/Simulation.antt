-- The machine follows the search, act for act: proofs of `specs/Simulation.antt`.
use Prim.Native.Nat.{ℕ, zero, suc, ◌+◌, ◌*◌, ◌≤◌, ◌<◌}
use native.Mathlib.Omega.{arith}
use mathlib.Core.Bool.{Bool, true, false}
use mathlib.Core.Path.{◌≡◌, refl, sym, ap, ◌∙◌, subst}
use mathlib.Core.List.{List, [], ◌∷◌, ◌++◌}
use lib.Dec.{ltb}
use lib.ListN.{length}
use borrow.Author.Tests.{ltb-true, ltb-false, lt-ltb, le-ltb}
use Rattle.terms.specs.Lists.{All}
use Rattle.terms.proofs.Lists.{all_append}
use Rattle.formulas.specs.Formulas.{Goal, Clause}
use Rattle.unification.specs.Matching.{Matching, pairs, check, fail}
use Rattle.search.specs.Configurations.{Branch, Configuration, take, try, match, done}
use Rattle.search.specs.Steps.{step}
use Rattle.search.specs.Search.{start, advance, after, verdict_of, search}
use Rattle.search.proofs.Invariant.{Invariant, step_keeps, start_invariant, after_invariant}
use Rattle.enumeration.specs.Enumeration.{Proof, proof_of, Next, finds, none_left, runs_out, alternatives, reaches, next_proof}
use Rattle.enumeration.proofs.Outcomes.{outcome_of, next_outcome}
use Rattle.sheet_format.specs.Limits.{max_budget, numbers_per_unit}
use Rattle.formulas.specs.Rules.{Rules, rules}
use Rattle.node_table.specs.Decoding.{clauses_from, goal_at, order_of}
use Rattle.machine.specs.declared.Registers.{Registers}
use Rattle.machine.specs.Records.{Made, made, no_mode, proved_mode}
use Rattle.machine.specs.RegisterUpdates.{with_acts}
use Rattle.machine.specs.ChoicePoints.{failed}
use Rattle.machine.specs.Machine.{act, run_acts, start_memory, start_registers, run_machine}
use Rattle.machine.specs.Simulation.{Reports, Simulates, Follows, Resumes}
use Rattle.machine.proofs.Words.{increment_small}
use Rattle.machine.proofs.Tables.{Table}
use Rattle.machine.proofs.Configurations.{store_of, CompareAt, ConfigurationAt}
use Rattle.machine.proofs.MemoryOrder.{Grow}
use Rattle.machine.proofs.ChoicePoints.{StateAt, ResultAt, alternatives_grow, failed_result}
use Rattle.machine.proofs.Lengths.{length_act, length_variables, length_failed, keeps_length}
use Rattle.machine.proofs.Acts.{mode_due, act_result}
use Rattle.machine.proofs.Start.{start_result}
use Rattle.machine.proofs.Standing.{failed_acts, stands_at, stands}

-- Turns of the run.
run_ended : (n : ℕ) (t : List ℕ) (c : ℕ) (w : List ℕ) (r : Registers) → 4 ≤ r.mode → run_acts n t c w r ≡ made w r
unfolding run_acts
run_ended zero t c w r h = refl
run_ended (suc n) t c w r h = rw (run_acts, le-ltb r.mode proved_mode h)

-- An act is due.
run_due : (n : ℕ) (t : List ℕ) (c : ℕ) (w : List ℕ) (r : Registers) → r.mode < 4
    → run_acts (suc n) t c w r ≡ run_acts n t c (act t c w r).memory (act t c w r).registers
unfolding run_acts
run_due n t c w r h = rw (run_acts, lt-ltb r.mode proved_mode h)

-- The start keeps the length.
pub start_length : (w : List ℕ) → length (start_memory w) ≡ length w
unfolding start_memory
start_length w = length_variables 8 w 0

-- Running n acts and then m acts is running n + m acts.
pub resumes : Resumes
unfolding run_acts
resumes t c zero m w r = let e : 0 + m ≡ m = omega arith in ap (λ (k : ℕ). run_acts k t c w r) e
resumes t c (suc n) m w r =
    let e : suc n + m ≡ suc (n + m) = omega arith in ap (λ (k : ℕ). run_acts k t c w r) e
    ∙ go (ltb r.mode proved_mode) refl (λ w' r'. resumes t c n m w' r')
  where
    Rest : Type 0
    Rest =
        (w' : List ℕ) (r' : Registers) → run_acts (n + m) t c w' r' ≡ run_acts m t c (run_acts n t c w' r').memory
        (run_acts n t c w' r').registers

    go : (b : Bool) → ltb r.mode proved_mode ≡ b → Rest
        → run_acts (suc (n + m)) t c w r ≡ run_acts m t c (run_acts (suc n) t c w r).memory (run_acts (suc n) t c w r).registers
    go true q ih =
        let l = ltb-true r.mode proved_mode q in
        run_due (n + m) t c w r l ∙ ih (act t c w r).memory (act t c w r).registers
        ∙ ap (λ (x : Made). run_acts m t c x.memory x.registers) (sym (run_due n t c w r l))
    go false q ih =
        let l = ltb-false r.mode proved_mode q in
        run_ended (suc (n + m)) t c w r l ∙ sym (run_ended m t c w r l)
        ∙ ap (λ (x : Made). run_acts m t c x.memory x.registers) (sym (run_ended (suc n) t c w r l))

module _ (T : Table) where
  -- The table.
  abbrev t : List ℕ
  t = T.numbers

  -- An act adds one to the number of acts.
  act_counts : (w : List ℕ) (r : Registers) → r.acts < max_budget → (act T.numbers T.clauses w r).registers.acts ≡ suc r.acts
  unfolding act with_acts
  act_counts w r h = increment_small r.acts (omega arith)

  -- With u acts done, the act that is due makes one step of the search.
  acted : (u : ℕ) (w : List ℕ) (r : Registers) (c : Configuration) (ds : List Configuration) → r.acts ≡ u
      → numbers_per_unit * suc u ≤ length w → u < max_budget → Invariant c → r.mode < 4 → StateAt T u w r c ds
      → ResultAt T (suc u) (act T.numbers T.clauses w r) (step u c ++ ds)
  acted u w r c ds e l b i d st =
      subst (λ (n : ℕ). ResultAt T (suc n) (act t T.clauses w r) (step n c ++ ds)) e
      (act_result T w r ds (rw e l) (rw e b) c i (λ q. omega arith) (subst (λ (n : ℕ). StateAt T n w r c ds) (sym e) st))

  -- After n acts from the start: the state of the search, and n acts counted while one is due.
  pub record Following (n : ℕ) (m : Made) (ds : List Configuration) : Type 0 where
    pub result : ResultAt T m.registers.acts m ds
    pub counted : m.registers.mode < 4 → m.registers.acts ≡ n
    pub few : m.registers.acts ≤ n

  -- A search that has come to its end stays there.
  ended : (n : ℕ) (w : List ℕ) (r : Registers) (c : Configuration) (ds : List Configuration) → 4 ≤ r.mode → r.acts ≤ n
      → StateAt T r.acts w r c ds → Following (suc n) (made w r) (step n c ++ ds)
  unfolding ConfigurationAt CompareAt step ResultAt
  ended n w r (take s g b) ds d few st = absurd (let e = st.front.0 in omega arith)
  ended n w r (try s a m ms k b) ds d few st = absurd (let e = st.front.mode in omega arith)
  ended n w r (match (pairs s []) b) ds d few st = absurd st.front
  ended n w r (match (pairs s (p ∷ ps)) b) ds d few st = absurd (let e = st.front.mode in omega arith)
  ended n w r (match (check s y v x ns ps) b) ds d few st = absurd (let e = st.front.mode in omega arith)
  ended n w r (match fail b) ds d few st = absurd st.front
  ended n w r (done s ls) ds d few st = record { result = st; counted = λ q. absurd (omega arith); few = omega arith }

  -- One act more follows one step more of the search.
  follow : (n : ℕ) (w : List ℕ) (r : Registers) (ds : List Configuration) → numbers_per_unit * suc n ≤ length w → n < max_budget
      → All Invariant ds → Following n (made w r) ds
      → Following (suc n) (run_acts 1 T.numbers T.clauses w r) (advance n ds)
  unfolding advance ResultAt run_acts act
  follow n w r [] l b i f =
      let e = f.result in
      subst (λ (m : Made). Following (suc n) m []) (sym (run_ended 1 t T.clauses w r (omega arith)))
      (record { result = e; counted = λ q. absurd (omega arith); few = let k = f.few in omega arith })
  follow n w r (c ∷ ds) l b i f = go (ltb r.mode proved_mode) refl
    where
      go : (x : Bool) → ltb r.mode proved_mode ≡ x → Following (suc n) (run_acts 1 t T.clauses w r) (step n c ++ ds)
      go true q =
          let d = ltb-true r.mode proved_mode q in
          let e = f.counted d in
          let k = act_counts w r (omega arith) in
          let R = acted n w r c ds e l b i.0 d (subst (λ (j : ℕ). StateAt T j w r c ds) e f.result) in
          subst (λ (m : Made). Following (suc n) m (step n c ++ ds)) (sym (run_due 0 t T.clauses w r d))
          (record {
            result = subst (λ (j : ℕ). ResultAt T j (act t T.clauses w r) (step n c ++ ds)) (sym (k ∙ ap suc e)) R;
            counted = λ z. k ∙ ap suc e;
            few = omega arith;
          })
      go false q =
          let d = ltb-false r.mode proved_mode q in
          subst (λ (m : Made). Following (suc n) m (step n c ++ ds)) (sym (run_ended 1 t T.clauses w r d))
          (ended n w r c ds d f.few f.result)

  -- The sheet that the table holds.
  abbrev clauses : Rules Clause
  clauses = rules (order_of T.numbers) (clauses_from T.numbers T.clauses 0)

  -- Its goal.
  abbrev goal : Goal
  goal = goal_at T.numbers T.goal

  -- After n acts from the start the machine follows the search.
  pub following : (n : ℕ) (w : List ℕ) → n ≤ max_budget → numbers_per_unit ≤ length w → numbers_per_unit * n ≤ length w
      → Following n (run_machine n T.numbers T.clauses T.goal w)
      (after (rules (order_of T.numbers) (clauses_from T.numbers T.clauses 0)) (goal_at T.numbers T.goal) n)
  unfolding run_machine run_acts after start_registers
  following zero w b k l = record { result = start_result T w k; counted = λ q. refl; few = omega arith }
  following (suc n) w b k l =
      let m = run_machine n t T.clauses T.goal w in
      let e : n + 1 ≡ suc n = omega arith in
      let len = keeps_length n t T.clauses (start_memory w) (start_registers T.goal) ∙ start_length w in
      let z : run_acts (suc n) t T.clauses (start_memory w) (start_registers T.goal) ≡ run_acts 1 t T.clauses m.memory
      m.registers =
      ap (λ (j : ℕ). run_acts j t T.clauses (start_memory w) (start_registers T.goal)) (sym e)
      ∙ resumes t T.clauses n 1 (start_memory w) (start_registers T.goal) in
      subst (λ (x : Made). Following (suc n) x (advance n (after clauses goal n))) (sym z)
      (follow n m.memory m.registers (after clauses goal n) (omega arith) (omega arith) (after_invariant clauses goal n)
      (following n w (omega arith) k (omega arith)))

  -- The machine stands at a proof, `left` of all units being left, after one act at least: the whole state, with the open alternatives.
  pub record FoundAt (m : Made) (all left : ℕ) (p : Proof) (ds : List Configuration) : Type 0 where
    pub first : 1 ≤ p.units
    pub state : StateAt T p.units m.memory m.registers (done p.store p.path) ds
    pub acts : m.registers.acts ≡ p.units
    pub units : p.units + left ≡ all
    pub invariant : All Invariant (done p.store p.path ∷ ds)

  -- What the machine tells where the walk comes to its next verdict.
  unfoldable pub ToldNext : Made → ℕ → Next → Type 0
  ToldNext m all (finds left p ds) = FoundAt m all left p ds
  ToldNext m all (none_left n) = (m.registers.mode ≡ no_mode) × (m.registers.acts ≡ n)
  ToldNext m all runs_out = m.registers.mode < 4

  -- That is what was stated of the first verdict.
  pub next_tells : (m : Made) (all : ℕ) (n : Next) → ToldNext m all n → Reports T.numbers m (outcome_of n)
  unfolding ToldNext Reports outcome_of ConfigurationAt store_of
  next_tells m all (finds left p ds) h =
      let e = h.acts in
      let st = subst (λ (k : ℕ). StateAt T k m.memory m.registers (done p.store p.path) ds) (sym e) h.state in
      (stands_at T m.memory m.registers p.store ds p.path 4 st.front.0 st.shared st.front.1, e)
  next_tells m all (none_left n) h = h
  next_tells m all runs_out h = h

  -- A match under way is not the end.
  match_due : {u : ℕ} {w : List ℕ} {r : Registers} {ds : List Configuration} (m : Matching) (b : Branch) → StateAt T u w r (match m b) ds
      → r.mode ≡ proved_mode → ⊥
  unfolding ConfigurationAt CompareAt
  match_due (pairs s []) b h q = h.front
  match_due (pairs s (p ∷ ps)) b h q = let d = h.front.mode in omega arith
  match_due (check s y v x ns ps) b h q = let d = h.front.mode in omega arith
  match_due fail b h q = h.front

  -- If an act is due, the run tells what it tells after that act.
  go_on_lem : (f u all : ℕ) (w : List ℕ) (r : Registers) (c : Configuration) (ds : List Configuration) → r.acts ≡ u → u + suc f ≡ all
      → all ≤ max_budget → numbers_per_unit * all ≤ length w → All Invariant (c ∷ ds) → StateAt T u w r c ds → r.mode < 4
      → ((w' : List ℕ) (r' : Registers) (ds' : List Configuration) → 1 ≤ suc u → r'.acts ≡ suc u → suc u + f ≡ all → all ≤ max_budget
      → numbers_per_unit * all ≤ length w' → All Invariant ds' → ResultAt T (suc u) (made w' r') ds'
      → ToldNext (run_acts f T.numbers T.clauses w' r') all (next_proof f (suc u) ds'))
      → ToldNext (run_acts (suc f) T.numbers T.clauses w r) all (next_proof f (suc u) (step u c ++ ds))
  go_on_lem f u all w r c ds e z b l i h d ih =
      let m = act t T.clauses w r in
      let n = length_act t T.clauses w r in
      let k = act_counts w r (omega arith) in
      subst (λ (x : Made). ToldNext x all (next_proof f (suc u) (step u c ++ ds))) (sym (run_due f t T.clauses w r d))
      (ih m.memory m.registers (step u c ++ ds) (omega arith) (k ∙ ap suc e) (omega arith) b (omega arith)
      (all_append Invariant (step u c) ds (step_keeps u c i.0) i.1) (acted u w r c ds e (omega arith) (omega arith) i.0 d h))

  -- What is told within f acts more, u having been done.
  pub tells : (f u all : ℕ) (w : List ℕ) (r : Registers) (ds : List Configuration) → 1 ≤ u → r.acts ≡ u → u + f ≡ all → all ≤ max_budget
      → numbers_per_unit * all ≤ length w → All Invariant ds → ResultAt T u (made w r) ds
      → ToldNext (run_acts f T.numbers T.clauses w r) all (next_proof f u ds)
  unfolding run_acts next_proof reaches alternatives verdict_of advance ToldNext ResultAt ConfigurationAt CompareAt store_of
  tells zero u all w r [] j e z b l i h = (h, e)
  tells zero u all w r (take s g x ∷ ds) j e z b l i h = let d = h.front.0 in omega arith
  tells zero u all w r (try s a m ms k x ∷ ds) j e z b l i h = let d = h.front.mode in omega arith
  tells zero u all w r (match m x ∷ ds) j e z b l i h = mode_due T u w r (match m x) h.front (λ q. match_due m x h q)
  tells zero u all w r (done s ls ∷ ds) j e z b l i h = record { first = j; state = h; acts = e; units = z; invariant = i }
  tells (suc f) u all w r [] j e z b l i h =
      subst (λ (m : Made). (m.registers.mode ≡ no_mode) × (m.registers.acts ≡ u))
      (sym (run_ended (suc f) t T.clauses w r (omega arith))) (h, e)
  tells (suc f) u all w r (take s g x ∷ ds) j e z b l i h =
      go_on_lem f u all w r (take s g x) ds e z b l i h (let d = h.front.0 in omega arith)
      (λ w' r' ds' o a y c d q k. tells f (suc u) all w' r' ds' o a y c d q k)
  tells (suc f) u all w r (try s a m ms k x ∷ ds) j e z b l i h =
      go_on_lem f u all w r (try s a m ms k x) ds e z b l i h (let d = h.front.mode in omega arith)
      (λ w' r' ds' o a y c d q k. tells f (suc u) all w' r' ds' o a y c d q k)
  tells (suc f) u all w r (match m x ∷ ds) j e z b l i h =
      go_on_lem f u all w r (match m x) ds e z b l i h (mode_due T u w r (match m x) h.front (λ q. match_due m x h q))
      (λ w' r' ds' o a y c d q k. tells f (suc u) all w' r' ds' o a y c d q k)
  tells (suc f) u all w r (done s ls ∷ ds) j e z b l i h =
      subst (λ (m : Made). FoundAt m all (suc f) (proof_of u s ls) ds)
      (sym (run_ended (suc f) t T.clauses w r (let d = h.front.0 in omega arith)))
      (record { first = j; state = h; acts = e; units = z; invariant = i })

  -- From the start, the machine tells the first verdict of the walk.
  pub told : (budget : ℕ) → budget ≤ max_budget → (w : List ℕ) → numbers_per_unit * budget ≤ length w
      → ToldNext (run_machine budget T.numbers T.clauses T.goal w) budget
      (next_proof budget 0 (start (rules (order_of T.numbers) (clauses_from T.numbers T.clauses 0)) (goal_at T.numbers T.goal)))
  unfolding run_machine run_acts ToldNext start verdict_of advance next_proof start_registers ResultAt
  told zero b w l = omega arith
  told (suc f) b w l =
      let n = start_length w in
      let q = start_result T w (omega arith) in
      go_on_lem f 0 (suc f) (start_memory w) (start_registers T.goal) _ _ refl (omega arith) b (omega arith) (start_invariant clauses goal) q
      (omega arith) (λ w' r' ds' o a y c d j k. tells f 1 (suc f) w' r' ds' o a y c d j k)

  -- It goes on after a proof, "as if it had failed", in a memory that has what the search reads.
  pub goes_on : (m : Made) (all left : ℕ) (p : Proof) (ds : List Configuration) (w : List ℕ) → all ≤ max_budget
      → numbers_per_unit * all ≤ length w → FoundAt m all left p ds → Grow p.units p.store.next m.memory w
      → ToldNext (run_acts left T.numbers T.clauses (failed w m.registers).memory (failed w m.registers).registers) all
      (next_proof left p.units ds)
  unfolding store_of
  goes_on m all left p ds w b l h g =
      let r = m.registers in
      let n = length_failed w r in
      tells left p.units all (failed w r).memory (failed w r).registers ds h.first (failed_acts w r ∙ h.acts) h.units b (omega arith)
      h.invariant.1
      (failed_result T p.units p.store.next w r ds h.state.shared.trail
      (alternatives_grow T p.units w g h.state.shared.alternatives))

-- The statements.
pub simulates : Simulates
unfolding search
simulates t nodes clauses goal made budget b w l =
    let T : Table = record { numbers = t; nodes = nodes; clauses = clauses; goal = goal; made = made } in
    let cs = rules (order_of t) (clauses_from t clauses 0) in
    subst (Reports t (run_machine budget t clauses goal w)) (next_outcome budget 0 (start cs (goal_at t goal)))
    (next_tells T (run_machine budget t clauses goal w) budget (next_proof budget 0 (start cs (goal_at t goal))) (told T budget b w l))

-- After each number of acts.
pub follows : Follows
follows t nodes clauses goal made n b w k l =
    let T : Table = record { numbers = t; nodes = nodes; clauses = clauses; goal = goal; made = made } in
    let m = run_machine n t clauses goal w in
    let f = following T n w b k l in
    let few = f.few in
    stands T (after (rules (order_of t) (clauses_from t clauses 0)) (goal_at t goal) n) m.memory m.registers (omega arith) f.result
