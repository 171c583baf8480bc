-- T5: for every solution of its store, the lines of a configuration lead from the start to the goals that are left. So at the
-- end, where none is left, they derive the instance that the final values give.
use Prim.Native.Nat.{ℕ, suc, ◌≤◌}
use mathlib.Core.Path.{◌≡◌, refl, sym, ◌∙◌, ap, subst, subst₂}
use mathlib.Core.Bool.{Bool, true, false, cond}
use mathlib.Core.List.{List, [], ◌∷◌, ◌++◌, map, reverse, reverse-cons}
use mathlib.Core.Logic.{inl, inr}
use lib.Dec.{eqb}
use borrow.Author.Tests.{eqb-true}
use Rattle.terms.specs.Lists.{All, here, there, place}
use Rattle.terms.specs.Terms.{leaf, Terms, substitute, substitutes}
use Rattle.terms.proofs.Lists.{all_append, map_append}
use Rattle.terms.proofs.Terms.{substitutes_substitutes}
use Rattle.formulas.specs.Formulas.{Goal, atom, truth, and, or, implies, exists, forall, Clause}
use Rattle.formulas.specs.Rules.{Rules}
use Rattle.sequents.specs.Symbols.{Symbol, Ground, level}
use Rattle.sequents.specs.Sequents.{Environment, Program, Entry, entries, Sequent, sequent, assign, Dtrue, Dand, Dleft, Dright, Dassume}
use Rattle.sequents.specs.Sequents.{Line, plain, Dsome, Dall, Dclause, put_terms, put_environment, put_program, put_sequent, put_line}
use Rattle.sequents.specs.Lines.{Uses, Infers, Leads, Derives}
use Rattle.sequents.proofs.Sequents.{put_entry, entries_put, assign_put, instance_put}
use Rattle.sequents.proofs.Lines.{leads_append}
use Rattle.unification.specs.Store.{Leaf, var, con, Store, fresh, fresh_variables}
use Rattle.unification.specs.Matching.{Matching, pairs, check, fail, match_step}
use Rattle.unification.proofs.Valuation.{value}
use Rattle.unification.proofs.Sound.{SolvesMatching, comparing_sound, match_step_sound}
use Rattle.search.specs.Configurations.{Branch, Atom, Configuration, take, try, match, done}
use Rattle.search.specs.Steps.{proceed, settle, try_from, try_member, take_goal, step}
use Rattle.search.specs.Search.{start_environment, start_store, start_goal, start, proved, ends, search}
use Rattle.search.specs.Answers.{final, final_environment, final_lines}
use Rattle.search.specs.Promises.{Sound}
use Rattle.search.proofs.After.{proved_all}
use Rattle.search.proofs.Invariant.{Invariant, start_invariant, step_keeps}
use Rattle.search.proofs.Answers.{final_values, final_valued, final_solves, final_level0}
use Rattle.search.proofs.Values.{symbols, Valuation, valued, Solution, goals_at, body_goals, assume_goals, update_goals}
use Rattle.search.proofs.Values.{fresh_variables_length, fresh_solution}

-- The lines with their values, in the order taken.
abbrev pub lines_at : Valuation → List (Line Leaf) → List (Line Symbol)
lines_at σ path = map (put_line (valued σ)) (reverse path)

-- The latest line is the last in the order taken.
lines_at_cons : (σ : Valuation) (x : Line Leaf) (path : List (Line Leaf))
    → lines_at σ (x ∷ path) ≡ lines_at σ path ++ (put_line (valued σ) x ∷ [])
lines_at_cons σ x path = ap (map (put_line (valued σ))) (reverse-cons x path) ∙ map_append (put_line (valued σ)) (reverse path) (x ∷ [])

-- From the store s₀ and the sequent g₀ of the start.
module _ (s₀ : Store) (g₀ : Sequent Leaf) where
  -- The lines lead from the start to the goals gs, with the values of σ, which solves the first store too.
  pub record Reaches (σ : Valuation) (path : List (Line Symbol)) (gs : List (Sequent Symbol)) : Type 0 where
    pub first : Solution σ s₀
    pub leads : Leads path (put_sequent (valued σ) g₀ ∷ []) gs

  -- One more line, a step for the first goal, leads to what the step leaves.
  reaches_on : (σ : Valuation) (path : List (Line Leaf)) (g : Sequent Symbol) (gs rest : List (Sequent Symbol)) (x : Line Leaf)
      → Reaches σ (lines_at σ path) (g ∷ gs)
      → Infers (put_line (valued σ) x) g.goal g.environment g.program g.level (λ new. new ++ gs ≡ rest)
      → Reaches σ (lines_at σ (x ∷ path)) rest
  unfolding Leads
  reaches_on σ path g gs rest x r h = record {
    first = r.first;
    leads = subst (λ (ls : List (Line Symbol)). Leads ls (put_sequent (valued σ) g₀ ∷ []) rest) (sym (lines_at_cons σ x path))
        (leads_append (lines_at σ path) (put_line (valued σ) x ∷ []) (put_sequent (valued σ) g₀ ∷ []) (g ∷ gs) rest r.leads h);
  }

  -- Every solution of the store reaches the goals by the lines so far.
  abbrev pub SoundAt : Store → List (Sequent Leaf) → List (Line Leaf) → Type 0
  SoundAt s gs path = (σ : Valuation) → Solution σ s → Reaches σ (lines_at σ path) (goals_at σ gs)

  -- Every solution of a match under way reaches the goals by the lines so far.
  abbrev pub SoundMatch : Matching → Branch → Type 0
  SoundMatch m b = (σ : Valuation) → SolvesMatching symbols σ m → Reaches σ (lines_at σ b.path) (goals_at σ b.goals)

  -- For an atom tried with the members ms, each solution, with a line using one of them, reaches what the line leaves.
  abbrev pub SoundTry : Store → Atom → List (Entry Leaf) → ℕ → Branch → Type 0
  SoundTry s a ms k b = (σ : Valuation) → Solution σ s → (x : Line Leaf) (rest : List (Sequent Symbol))
      → Uses (put_line (valued σ) x) (map (put_entry (valued σ)) ms) k a.predicate (substitutes a.arguments (valued σ))
      (put_program (valued σ) a.program) a.level
      (λ new. new ++ goals_at σ b.goals ≡ rest)
      → Reaches σ (lines_at σ (x ∷ b.path)) rest

  -- The soundness invariant is stated for each kind of configuration.
  abbrev pub SoundConfiguration : Configuration → Type 0
  SoundConfiguration (take s g b) = SoundAt s (g ∷ b.goals) b.path
  SoundConfiguration (try s a m ms k b) = SoundTry s a (m ∷ ms) k b
  SoundConfiguration (match m b) = SoundMatch m b
  SoundConfiguration (done s path) = SoundAt s [] path

  -- Going on with the goals keeps the soundness invariant.
  proceed_sound : (s : Store) (gs : List (Sequent Leaf)) (path : List (Line Leaf)) → SoundAt s gs path
      → All SoundConfiguration (proceed s gs path)
  unfolding proceed
  proceed_sound s [] path h = (h, tt)
  proceed_sound s (g ∷ gs) path h = (h, tt)

  -- What follows an act of matching keeps the soundness invariant.
  settle_sound : (m : Matching) (b : Branch) → SoundMatch m b → All SoundConfiguration (settle m b)
  unfolding settle SolvesMatching
  settle_sound (pairs s []) b h = proceed_sound s b.goals b.path (λ σ v. h σ (v, tt))
  settle_sound (pairs s (p ∷ ps)) b h = (h, tt)
  settle_sound (check s y t n ns ps) b h = (h, tt)
  settle_sound fail b h = tt

  -- Going on to the members left keeps the soundness invariant.
  try_from_sound : (s : Store) (a : Atom) (ms : List (Entry Leaf)) (k : ℕ) (b : Branch) → SoundTry s a ms k b
      → All SoundConfiguration (try_from s a ms k b)
  unfolding try_from
  try_from_sound s a [] k b h = tt
  try_from_sound s a (m ∷ ms) k b h = (h, tt)

  -- Trying a member keeps the soundness invariant, its fresh variables having their values.
  try_member_sound : (s : Store) (a : Atom) (m : Entry Leaf) (ms : List (Entry Leaf)) (k : ℕ) (b : Branch)
      → a.predicate ≡ m.member.predicate → SoundTry s a (m ∷ ms) k b
      → All SoundConfiguration (try_member s a m k b)
  unfolding try_member put_line place
  try_member_sound s a m ms k b q h = settle_sound _ _ (λ σ v.
      let θ = valued σ in
      let vs = m.member.prefix in
      let xs = fresh_variables vs s.next in
      let e = assign vs xs m.environment in
      let r = comparing_sound symbols σ (fresh vs a.level s) a.arguments (substitutes m.member.arguments e) [] v in
      let z = fresh_solution vs a.level s σ r.0 in
      let values : put_environment θ e ≡ assign vs (put_terms θ xs) (put_environment θ m.environment) =
      assign_put θ vs xs m.environment in
      h σ z.0 (Dclause k xs) _ (record {
        used = put_entry θ m;
        at = here;
        terms = put_terms θ xs;
        line = refl;
        instantiates = record { many = fresh_variables_length vs s.next σ; low = z.1 };
        predicate = q;
        arguments = r.1 ∙ substitutes_substitutes m.member.arguments e θ ∙ ap (substitutes m.member.arguments) values;
        premises = body_goals σ m.member.body e _ a.program a.level b.goals values;
      }))

  -- Taking a goal keeps the soundness invariant, since the line that it adds is a step for the goal.
  take_goal_sound : (u : ℕ) (s : Store) (g : Goal) (e : Environment Leaf) (P : Program Leaf) (i : ℕ) (b : Branch)
      → SoundAt s (sequent g e P i ∷ b.goals) b.path
      → All SoundConfiguration (take_goal u s g e P i b)
  unfolding take_goal Infers put_line value substitute symbols fresh_variables
  take_goal_sound u s (atom p ts) e P i b h = try_from_sound s _ (entries P) 1 b (λ σ v x rest k.
      reaches_on σ b.path _ (goals_at σ b.goals) rest x (h σ v)
      (subst₂ (λ (l : List (Entry Symbol)) (us : Terms Symbol). Uses (put_line (valued σ) x) l 1 p us (put_program (valued σ) P) i
      (λ new. new ++ goals_at σ b.goals ≡ rest))
      (sym (entries_put (valued σ) P.clauses)) (substitutes_substitutes ts e (valued σ)) k))
  take_goal_sound u s truth e P i b h =
      proceed_sound s b.goals (plain Dtrue ∷ b.path) (λ σ v. reaches_on σ b.path _ _ _ (plain Dtrue) (h σ v) (refl, refl))
  take_goal_sound u s (and g k) e P i b h = ((λ σ v. reaches_on σ b.path _ _ _ (plain Dand) (h σ v) (refl, refl)), tt)
  take_goal_sound u s (or g k) e P i b h = (
    (λ σ v. reaches_on σ b.path _ _ _ (plain Dleft) (h σ v) (inl (refl, refl))),
    ((λ σ v. reaches_on σ b.path _ _ _ (plain Dright) (h σ v) (inr (refl, refl))), tt),
  )
  take_goal_sound u s (implies c g) e P i b h =
      ((λ σ v. reaches_on σ b.path _ _ _ (plain Dassume) (h σ v) (refl, assume_goals σ g c e P i b.goals)), tt)
  take_goal_sound u s (exists v g) e P i b h = (
    (λ σ w.
        let q = fresh_solution (v ∷ []) i s σ w in
        reaches_on σ b.path _ _ _ (Dsome (leaf (var s.next))) (h σ q.0)
        (σ s.next, refl, q.1.0, update_goals σ g e v (leaf (var s.next)) P i b.goals)),
    tt,
  )
  take_goal_sound u s (forall v g) e P i b h = (
    (λ σ w. reaches_on σ b.path _ _ _ (Dall (leaf (con u (suc i)))) (h σ w)
        (u, refl, update_goals σ g e v (leaf (con u (suc i))) P (suc i) b.goals)),
    tt,
  )

  -- Every act keeps the soundness invariant.
  pub step_sound : (u : ℕ) (c : Configuration) → SoundConfiguration c → All SoundConfiguration (step u c)
  unfolding step place
  step_sound u (take s g b) h = take_goal_sound u s g.goal g.environment g.program g.level b h
  step_sound u (try s a m ms k b) h =
      all_append SoundConfiguration (cond (eqb a.predicate m.member.predicate) (try_member s a m k b) []) (try_from s a ms (suc k) b)
      (tried (eqb a.predicate m.member.predicate) refl)
      (try_from_sound s a ms (suc k) b (λ σ v x rest z. h σ v x rest (record {
        used = z.used;
        at = there z.at;
        terms = z.terms;
        line = z.line;
        instantiates = z.instantiates;
        predicate = z.predicate;
        arguments = z.arguments;
        premises = z.premises;
      })))
    where
      tried : (same : Bool) → eqb a.predicate m.member.predicate ≡ same → All SoundConfiguration (cond same (try_member s a m k b) [])
      tried true q = try_member_sound s a m ms k b (eqb-true a.predicate m.member.predicate q) h
      tried false q = tt
  step_sound u (match m b) h = settle_sound (match_step m) b (λ σ v. h σ (match_step_sound symbols σ m v))
  step_sound u (done s path) h = (h, tt)

-- The soundness invariant holds at the start, which needs no line.
pub start_sound : (cs : Rules Clause) (g : Goal) → All (SoundConfiguration start_store (start_goal cs g)) (start cs g)
unfolding start Leads
start_sound cs g = ((λ σ v. record { first = v; leads = refl }), tt)

-- At the end no goal is left and the final values are a solution.
pub sound_end : (cs : Rules Clause) (g : Goal) (s : Store) (path : List (Line Leaf)) → Invariant (done s path)
    → SoundConfiguration start_store (start_goal cs g) (done s path) → Sound cs g s path
unfolding Invariant start_store start_goal final_lines final_environment level symbols value
sound_end cs g s path formed h =
    let r : Reaches start_store (start_goal cs g) (final_values s) (lines_at (final_values s) path) [] =
    h (final_values s) (final_solves s formed) in
    record {
      level0 = final_level0 s (λ x l. subst (λ (θ : Leaf → Ground). level (θ (var x)) ≤ 0) (final_valued s) (r.first.levels x l));
      derives = subst (λ (q : Sequent Symbol). Derives (final_lines s path) (q ∷ [])) (instance_put (final s) cs g start_environment)
          (subst (λ (θ : Leaf → Ground). Derives (map (put_line θ) (reverse path)) (put_sequent θ (start_goal cs g) ∷ [])) (final_valued s)
          r.leads);
    }

-- So T5 holds of a proved search.
pub sound : (cs : Rules Clause) (g : Goal) (budget n : ℕ) (s : Store) (path : List (Line Leaf))
    → search budget cs g ≡ ends (proved s path) n → Sound cs g s path
sound cs g budget n s path e =
    sound_end cs g s path (proved_all cs g Invariant (start_invariant cs g) step_keeps budget n s path e)
    (proved_all cs g (SoundConfiguration start_store (start_goal cs g)) (start_sound cs g) (step_sound start_store (start_goal cs g))
    budget n s path e)
