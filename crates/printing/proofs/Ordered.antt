-- After a proved search the machine's memory is orderly: from the invariant of the simulation.
use Prim.Native.Nat.{ℕ, zero, suc, ◌+◌, ◌-◌, ◌*◌, ◌≤◌, ◌<◌}
use native.Mathlib.Omega.{arith}
use mathlib.Core.Path.{◌≡◌, refl, sym, ap, ◌∙◌, subst}
use mathlib.Core.List.{List, [], ◌∷◌}
use mathlib.Core.Logic.{◌⊎◌, inl, inr}
use mathlib.Core.Option.{Option, none, some}
use lib.ListN.{length}
use Rattle.terms.specs.Terms.{Term}
use Rattle.sequents.specs.Sequents.{Line}
use Rattle.unification.specs.Store.{binding, Leaf, Store}
use Rattle.unification.specs.Promises.{Formed}
use Rattle.search.specs.Configurations.{Configuration, done}
use Rattle.search.specs.Search.{proved, ends, search}
use Rattle.sheet_format.specs.Limits.{max_budget, max_nodes, numbers_per_unit}
use Rattle.formulas.specs.Rules.{rules}
use Rattle.node_table.specs.Decoding.{clauses_from, goal_at, order_of}
use Rattle.node_table.specs.WellMade.{WellMade}
use Rattle.machine.specs.Fields as fields
use Rattle.machine.specs.Records.{cell_of, Made, proved_mode}
use Rattle.machine.specs.Words.{tag_of, name_of, node_of, frame_of, slot_of}
use Rattle.machine.specs.Machine.{run_machine}
use Rattle.machine.specs.Simulation.{StandsAt, Reports}
use Rattle.machine.proofs.Words.{tag_is, name_is_lem, node_is, frame_is}
use Rattle.machine.proofs.Tables.{Table, node_small}
use Rattle.machine.proofs.Terms.{LeafAt, variable_at, constant_at, frame_le, slot_leaf, WordAt, word_variable, word_constant, word_closure}
use Rattle.unification.proofs.Follow.{unbound_binding}
use Rattle.machine.proofs.Stores.{CellAt}
use Rattle.machine.proofs.Branches.{PathAt}
use Rattle.machine.proofs.Configurations.{store_of, ConfigurationAt}
use Rattle.machine.proofs.ChoicePoints.{Bounded, StateAt}
use Rattle.enumeration.specs.Enumeration.{Proof, finds}
use Rattle.enumeration.proofs.Outcomes.{outcome_of}
use Rattle.machine.proofs.Simulation.{FoundAt, ToldNext, next_tells, simulates}
use Rattle.machine.proofs.Proved.{ProvedAt, found_proved, proved_at}
use Rattle.printing.specs.Written.{LeafWord, variable, constant, TermWord, of_leaf, of_closure, PathMade, Orderly, WritesAnswer}
use Rattle.printing.proofs.Passes.{writes_proof}
use Rattle.memory.specs.Records.{field}

-- Words of the simulation are the writer's.
leaf_is : (n a : ℕ) → LeafAt n a → LeafWord n a
leaf_is n a (variable_at x e) = variable (ap tag_of e ∙ tag_is x 1 (omega arith))
leaf_is n a (constant_at c e h) =
    constant (ap tag_of e ∙ tag_is c 2 (omega arith)) (subst (λ (d : ℕ). d < n) (sym (ap name_of e ∙ name_is_lem c 2 (omega arith))) h)

-- Words of terms of the simulation are the writer's.
word_is : (T : Table) (n x : ℕ) (w : List ℕ) {a : ℕ} {u : Term Leaf} → WordAt T n x w a u → TermWord T.numbers w T.nodes n a
word_is T n x w (word_variable {y = y} e) = of_leaf (variable (ap tag_of e ∙ tag_is y 1 (omega arith)))
word_is T n x w (word_constant {c = c} e h k) =
    of_leaf (constant (ap tag_of e ∙ tag_is c 2 (omega arith)) (subst (λ (d : ℕ). d < n) (sym (ap name_of e ∙ name_is_lem c 2 (omega arith))) h))
word_is T n x w (word_closure {a = a} m f e b h l k) =
    let p : node_of a ≡ m = ap node_of e ∙ node_is m f (node_small T m b.0) in
    let q : frame_of a ≡ f = ap frame_of e ∙ frame_is m f (node_small T m b.0) in
    of_closure (record {
      tag = ap tag_of e ∙ tag_is (max_nodes * f + m) 3 (omega arith);
      there = rw p b.0;
      term = rw p b.1;
      application = rw p b.2;
      frame = rw q (frame_le n w f h.frame);
      slots = λ v i. rw q (leaf_is n (slot_of w f v) (slot_leaf n w f v i h.frame));
    })

-- The path's pointers fall, and its lines are the writer's.
path_pointer : (n x : ℕ) (ls : List (Line Leaf)) (w : List ℕ) (p k : ℕ) → PathAt n x ls w p k → p ≤ n
unfolding PathAt
path_pointer n x [] w zero k c = omega arith
path_pointer n x [] w (suc r) k c = absurd c
path_pointer n x (l ∷ ls) w zero k c = absurd c
path_pointer n x (l ∷ ls) w (suc r) k c = let h = c.0 in omega arith

-- The path of the simulation is the writer's, line by line.
path_made : (f n x : ℕ) (ls : List (Line Leaf)) (w : List ℕ) (p k : ℕ) → n ≤ f → PathAt n x ls w p k → PathMade f w x p k
unfolding PathAt PathMade
path_made zero n x [] w zero k h c = refl
path_made zero n x [] w (suc r) k h c = absurd c
path_made zero n x (l ∷ ls) w zero k h c = absurd c
path_made zero n x (l ∷ ls) w (suc r) k h c = absurd (let i = c.0 in omega arith)
path_made (suc f) n x [] w zero k h c = inl refl
path_made (suc f) n x [] w (suc r) k h c = absurd c
path_made (suc f) n x (l ∷ ls) w zero k h c = absurd c
path_made (suc f) n x (l ∷ ls) w (suc r) k h c =
    let e : suc r - 1 ≡ r = omega arith in
    let i = c.0 in
    let q = path_pointer r x ls w (field w r fields.path_before) (field w r fields.path_line) c.3 in
    let b = c.2 in
    inr (
      omega arith,
      rw e (record { kind = b.kind; some = b.some; clause = b.clause }),
      rw e (omega arith),
      rw e (path_made f r x ls w (field w r fields.path_before) (field w r fields.path_line) (omega arith) c.3),
    )

-- A state at which a proof is found.
module _ (T : Table) where
  orderly_at : (m : Made) (s : Store) (ls : List (Line Leaf)) (ds : List Configuration)
      → StateAt T m.registers.acts m.memory m.registers (done s ls) ds → Formed s
      → m.registers.acts ≤ max_budget → 1 ≤ m.registers.acts → numbers_per_unit * m.registers.acts ≤ length m.memory
      → Orderly T.numbers T.nodes m s
  unfolding ConfigurationAt store_of CellAt
  orderly_at m s ls ds st formed few least room = record {
    few = few;
    room = room;
    goals = bounded.least;
    variables = let v = bounded.later least in omega arith;
    formed = formed;
    bindings = bounded.bindings;
    unbound =
        λ x l u. subst (CellAt T acts s.next w (cell_of w x)) (unbound_binding s.bindings x formed.bound u)
        (st.shared.store.cells x l);
    words = λ x l. word x (binding s.bindings x) (st.shared.store.cells x l);
    pointer = path_pointer acts s.next ls w m.registers.path m.registers.line st.front.1;
    path = path_made acts acts s.next ls w m.registers.path m.registers.line (omega arith) st.front.1;
  }
    where
      acts : ℕ
      acts = m.registers.acts

      w : List ℕ
      w = m.memory

      bounded : Bounded m.registers.acts s
      bounded = st.shared.bounded

      word : (x : ℕ) (o : Option (Term Leaf)) → CellAt T m.registers.acts s.next m.memory (cell_of m.memory x) o
          → (cell_of m.memory x ≡ 0) ⊎ TermWord T.numbers m.memory T.nodes m.registers.acts (cell_of m.memory x)
      word x none c = inl c
      word x (some u) c = inr (word_is T acts s.next w c)

-- So is every state at which the machine stands at a proof.
proved_at_orderly : (T : Table) (m : Made) (s : Store) (path : List (Line Leaf)) (n : ℕ) → ProvedAt T m s path n
    → Orderly T.numbers T.nodes m s
proved_at_orderly T m s path n p =
    let a = p.acts in
    let f = p.few in
    let l = p.first in
    let r = p.room in
    orderly_at T m s path p.alternatives
    (subst (λ (k : ℕ). StateAt T k m.memory m.registers (done s path) p.alternatives) (sym a) p.state) p.formed
    (omega arith) (omega arith) (omega arith)

-- Where the machine stands at a proof, also at one after others (request W-202), its memory is orderly.
pub found_orderly : (T : Table) (m : Made) (all left : ℕ) (p : Proof) (ds : List Configuration) → all ≤ max_budget
    → numbers_per_unit * all ≤ length m.memory → FoundAt T m all left p ds
    → StandsAt T.numbers m proved_mode p.store p.path × Orderly T.numbers T.nodes m p.store
unfolding Reports outcome_of ToldNext
found_orderly T m all left p ds b l h = (
  (next_tells T m all (finds left p ds) h).0,
  proved_at_orderly T m p.store p.path p.units (found_proved T m all left p ds b l h),
)

-- A run that ends with a proof leaves an orderly memory.
pub proved_orderly : (t : List ℕ) (nodes clauses goal : ℕ) → WellMade t nodes clauses goal → (budget : ℕ) → budget ≤ max_budget
    → (w : List ℕ) → numbers_per_unit * budget ≤ length w
    → (s : Store) (path : List (Line Leaf)) (n : ℕ)
    → search budget (rules (order_of t) (clauses_from t clauses 0)) (goal_at t goal) ≡ ends (proved s path) n
    → StandsAt t (run_machine budget t clauses goal w) proved_mode s path × Orderly t nodes (run_machine budget t clauses goal w) s
unfolding Reports
proved_orderly t nodes clauses goal table budget few w room s path n e =
    let T : Table = record { numbers = t; nodes = nodes; clauses = clauses; goal = goal; made = table } in
    let m = run_machine budget t clauses goal w in
    let p = proved_at T budget few w room s path n e in
    ((subst (Reports t m) e (simulates t nodes clauses goal table budget few w room)).0, proved_at_orderly T m s path n p)

-- After a run that ends with a proof its answer text is written.
pub writes_answer : WritesAnswer
writes_answer sheet t symbols nodes clauses goal table named budget few w room s path n e out =
    let r = proved_orderly t nodes clauses goal table budget few w room s path n e in
    writes_proof sheet t symbols nodes clauses goal table named (run_machine budget t clauses goal w) s path r.0 r.1 n out
