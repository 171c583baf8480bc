-- T7: some configuration of the state, current or waiting, is solvable: a valuation solves its store, and its goals have
-- derivations with those values. Every act keeps it so, and the empty state has none.
use Prim.Native.Nat.{ℕ, suc, ◌≤◌}
use mathlib.Core.Path.{◌≡◌, refl, sym, ◌∙◌, ap, ap₂, subst, subst₂}
use mathlib.Core.Bool.{Bool, true, false, cond}
use mathlib.Core.List.{List, [], ◌∷◌, ◌++◌, map}
use mathlib.Core.Option.{Option, none, some}
use mathlib.Core.Logic.{◌⊎◌, inl, inr}
use native.Mathlib.Omega.{arith}
use lib.Dec.{eqb, ltb}
use borrow.Author.Tests.{eq-eqb, lt-ltb}
use Rattle.terms.specs.Lists.{All, Mem, here, there, update}
use Rattle.terms.specs.Terms.{sheet_symbol, leaf, app, nil, Terms, substitute, substitutes, level_by}
use Rattle.terms.proofs.Lists.{all_append, all_weaken, update_all, Any, any_left, any_right, mem_nil}
use Rattle.terms.proofs.Terms.{substitutes_substitutes}
use Rattle.formulas.specs.Formulas.{Goal, atom, truth, and, or, implies, exists, forall, Clause, free_g}
use Rattle.formulas.specs.Rules.{Rules, assume}
use Rattle.formulas.proofs.Rules.{joined_all_lem}
use Rattle.sequents.specs.Symbols.{Symbol, made, symbol_level, Ground, level}
use Rattle.sequents.specs.Sequents.{Environment, Program, hypothesis, Entry, entries, Sequent, sequent, assign, body_sequent, Line}
use Rattle.sequents.specs.Sequents.{put_environment, put_program, put_sequent}
use Rattle.sequents.specs.Derivations.{Instantiates, Derivation, d_true, d_and, d_left, d_right, d_assume, d_some, d_all, d_clause}
use Rattle.sequents.specs.Derivations.{BodyDerivation, b_some, Derivable, instance_of, InstanceDerivation}
use Rattle.sequents.specs.Promises.{AgreeOn, Closed}
use Rattle.sequents.proofs.Sequents.{put_entry, entries_put, assume_put, update_put, assign_put, assign_all, entries_all}
use Rattle.sequents.proofs.Sequents.{instance_put, sheet_all}
use Rattle.sequents.proofs.Constants.{LowEnvironment, LowProgram, another_constant}
use Rattle.sequents.proofs.Locality.{local}
use Rattle.unification.specs.Store.{Leaf, var, con, Store, fresh, fresh_variables}
use Rattle.unification.specs.Matching.{Matching, pairs, check, fail, push_pairs, comparing, match_step}
use Rattle.unification.proofs.Valuation.{value}
use Rattle.unification.proofs.Sound.{SolvesMatching}
use Rattle.unification.proofs.Invariant.{Good}
use Rattle.unification.proofs.Complete.{Keeps, comparing_complete, match_step_complete}
use Rattle.search.specs.Configurations.{Branch, Atom, Configuration, take, try, match, done}
use Rattle.search.specs.Steps.{proceed, settle, try_from, try_member, take_goal, step}
use Rattle.search.specs.Search.{start_environment, start_store, start_goal, start, advance, no_proof, ends, search}
use Rattle.search.specs.Promises.{SheetNames}
use Rattle.search.proofs.After.{never_no_lem}
use Rattle.search.proofs.Invariant.{GoalsBelow, TryBelow, Invariant, start_invariant, step_keeps}
use Rattle.search.proofs.Values.{symbols, Valuation, valued, Solution, goals_at, body_goals, Agree, terms_agree, environment_agree}
use Rattle.search.proofs.Values.{program_agree, goals_agree, extend}

-- The sequent has a derivation, and nothing in it has a level above its own.
pub record Holds (g : Sequent Symbol) : Type 0 where
  pub environment : LowEnvironment g.level g.environment
  pub program : LowProgram g.level g.program
  pub derivable : Derivable g

-- The member resolves the atom p(us): an instance of its head is the atom, and its body has a derivation.
pub record Resolves (m : Entry Symbol) (P : Program Symbol) (p : ℕ) (us : Terms Symbol) (i : ℕ) : Type 0 where
  pub terms : List Ground
  pub instantiates : Instantiates m.member.prefix terms i
  pub predicate : p ≡ m.member.predicate
  pub arguments : us ≡ substitutes m.member.arguments (assign m.member.prefix terms m.environment)
  pub body : BodyDerivation P m.member.body (assign m.member.prefix terms m.environment) i

-- One of the members does.
pub record Resolvable (ms : List (Entry Symbol)) (P : Program Symbol) (p : ℕ) (us : Terms Symbol) (i : ℕ) : Type 0 where
  pub member : Entry Symbol
  pub among : Mem member ms
  pub resolves : Resolves member P p us i

-- The valuation σ solves the store, and the goals hold with its values.
pub record Solved (s : Store) (gs : List (Sequent Leaf)) (σ : Valuation) : Type 0 where
  pub solves : Solution σ s
  pub goals : All Holds (goals_at σ gs)

-- Of an atom that is tried with the members ms, one of these resolves it, and nothing in its program is above its level.
pub record SolvedTry (s : Store) (a : Atom) (ms : List (Entry Leaf)) (gs : List (Sequent Leaf)) (σ : Valuation) : Type 0 where
  pub solved : Solved s gs σ
  pub program : LowProgram a.level (put_program (valued σ) a.program)
  pub members : All (λ m. LowEnvironment a.level m.environment) (map (put_entry (valued σ)) ms)
  pub resolvable : Resolvable (map (put_entry (valued σ)) ms) (put_program (valued σ) a.program) a.predicate
      (substitutes a.arguments (valued σ)) a.level

-- Of a match under way, σ solves it.
pub record SolvedMatch (m : Matching) (gs : List (Sequent Leaf)) (σ : Valuation) : Type 0 where
  pub keeps : Keeps symbols σ m
  pub goals : All Holds (goals_at σ gs)

-- Some valuation does.
abbrev pub Solvable : Configuration → Type 0
Solvable (take s g b) = (σ : Valuation) × Solved s (g ∷ b.goals) σ
Solvable (try s a m ms k b) = (σ : Valuation) × SolvedTry s a (m ∷ ms) b.goals σ
Solvable (match m b) = (σ : Valuation) × SolvedMatch m b.goals σ
Solvable (done s path) = Unit {0}

-- A sequent that holds also holds with an equal environment and an equal program.
holds_same : (g : Goal) (e f : Environment Symbol) (P Q : Program Symbol) (i : ℕ) → e ≡ f → P ≡ Q → Holds (sequent g e P i)
    → Holds (sequent g f Q i)
holds_same g e f P Q i p q h = subst₂ (λ (d : Environment Symbol) (R : Program Symbol). Holds (sequent g d R i)) p q h

-- Goals that hold with the values of σ hold with those of a valuation that agrees with σ on their variables.
goals_hold : (gs : List (Sequent Leaf)) (n : ℕ) (σ τ : Valuation) → GoalsBelow gs n → Agree n σ τ → All Holds (goals_at σ gs)
    → All Holds (goals_at τ gs)
goals_hold gs n σ τ b h k = subst (All Holds) (goals_agree gs n σ τ b h) k

-- A program that is low for a level is low for the next level.
pub low_up : (i : ℕ) (P : Program Symbol) → LowProgram i P → LowProgram (suc i) P
low_up i P h =
    all_weaken (λ x. LowEnvironment i x.environment) (λ x. LowEnvironment (suc i) x.environment)
    (λ x k v. let l = k v in omega arith) P.clauses h

-- The sequent of a body that has a derivation holds.
body_holds : (o : Option Goal) (e : Environment Symbol) (P : Program Symbol) (i : ℕ) → LowEnvironment i e → LowProgram i P
    → BodyDerivation P o e i → All Holds (body_sequent o e P i)
unfolding body_sequent
body_holds none e P i le lP d = tt
body_holds (some g) e P i le lP (b_some d) = (record { environment = le; program = lP; derivable = d }, tt)

-- Going on with goals that are solved gives a solvable configuration.
proceed_complete : (s : Store) (gs : List (Sequent Leaf)) (path : List (Line Leaf)) (σ : Valuation) → Solved s gs σ
    → Any Solvable (proceed s gs path)
unfolding proceed
proceed_complete s [] path σ h = inl tt
proceed_complete s (g ∷ gs) path σ h = inl (σ, h)

-- What follows an act of matching is solvable if the match is solved.
settle_complete : (m : Matching) (b : Branch) (σ : Valuation) → SolvedMatch m b.goals σ → Any Solvable (settle m b)
unfolding settle SolvesMatching
settle_complete (pairs s []) b σ h = proceed_complete s b.goals b.path σ (record { solves = h.keeps.0.0; goals = h.goals })
settle_complete (pairs s (p ∷ ps)) b σ h = inl (σ, h)
settle_complete (check s y t n ns ps) b σ h = inl (σ, h)
settle_complete fail b σ h = absurd h.keeps.0

-- Going on to the members left gives a solvable configuration if one of them resolves the atom.
try_from_complete : (s : Store) (a : Atom) (ms : List (Entry Leaf)) (k : ℕ) (b : Branch) (σ : Valuation) → SolvedTry s a ms b.goals σ
    → Any Solvable (try_from s a ms k b)
unfolding try_from
try_from_complete s a [] k b σ h = absurd (mem_nil h.resolvable.among)
try_from_complete s a (m ∷ ms) k b σ h = inl (σ, h)

-- Trying a member that resolves the atom gives something solvable: the fresh variables get the terms for its prefix.
try_member_complete : (s : Store) (a : Atom) (m : Entry Leaf) (ms : List (Entry Leaf)) (k : ℕ) (b : Branch) (σ : Valuation)
    → Good (TryBelow a (m ∷ ms) b.goals) s → SolvedTry s a (m ∷ ms) b.goals σ
    → Resolves (put_entry (valued σ) m) (put_program (valued σ) a.program) a.predicate (substitutes a.arguments (valued σ))
    a.level → Any Solvable (try_member s a m k b)
unfolding try_member
try_member_complete s a m ms k b σ o h x =
    let vs = m.member.prefix in
    let e = assign vs (fresh_variables vs s.next) m.environment in
    let below = o.extra in
    let r = extend vs x.terms a.level s σ o.formed h.solved.solves x.instantiates.many x.instantiates.low in
    let τ = r.valuation in
    let f : Environment Symbol = assign vs x.terms (put_environment (valued σ) m.environment) in
    let values : put_environment (valued τ) e ≡ f =
    assign_put (valued τ) vs (fresh_variables vs s.next) m.environment
    ∙ ap₂ (assign vs) r.terms (sym (environment_agree m.environment s.next σ τ below.members.0 r.agree)) in
    let program : put_program (valued σ) a.program ≡ put_program (valued τ) a.program =
    program_agree a.program s.next σ τ below.program r.agree in
    let arguments : substitutes a.arguments (valued τ) ≡ substitutes (substitutes m.member.arguments e) (valued τ) =
    sym (terms_agree a.arguments s.next σ τ below.arguments r.agree) ∙ x.arguments
    ∙ ap (substitutes m.member.arguments) (sym values)
    ∙ sym (substitutes_substitutes m.member.arguments e (valued τ)) in
    let body : All Holds (body_sequent m.member.body f (put_program (valued τ) a.program) a.level) =
    subst (λ (P : Program Symbol). All Holds (body_sequent m.member.body f P a.level)) program
    (body_holds m.member.body f (put_program (valued σ) a.program) a.level
    (assign_all (λ t. level t ≤ a.level) vs x.terms (put_environment (valued σ) m.environment) h.members.0
    x.instantiates.low) h.program x.body) in
    settle_complete (comparing (fresh vs a.level s) (push_pairs a.arguments (substitutes m.member.arguments e) [])) _ τ (record {
      keeps =
          comparing_complete symbols τ (fresh vs a.level s) a.arguments (substitutes m.member.arguments e) []
          r.solves arguments tt;
      goals = subst (All Holds) (body_goals τ m.member.body e f a.program a.level b.goals values)
          (all_append Holds (body_sequent m.member.body f (put_program (valued τ) a.program) a.level) (goals_at τ b.goals) body
          (goals_hold b.goals s.next σ τ below.goals r.agree h.solved.goals));
    })

-- Goals with one more in front are solved if that one has a derivation with nothing above its level.
take_solved : (s : Store) (g : Sequent Leaf) (gs : List (Sequent Leaf)) (σ : Valuation) → Solution σ s
    → LowEnvironment g.level (put_environment (valued σ) g.environment) → LowProgram g.level (put_program (valued σ) g.program)
    → Derivable (put_sequent (valued σ) g)
    → All Holds (goals_at σ gs) → Solved s (g ∷ gs) σ
take_solved s g gs σ v le lP d h = record { solves = v; goals = (record { environment = le; program = lP; derivable = d }, h) }

-- Taking a goal that has a derivation gives something solvable, by its last step; a witness is the fresh variable's value.
take_goal_complete : (u : ℕ) (s : Store) (g : Goal) (e : Environment Leaf) (P : Program Leaf) (i : ℕ) (b : Branch) (σ : Valuation)
    → Good (GoalsBelow (sequent g e P i ∷ b.goals)) s → Solution σ s → LowEnvironment i (put_environment (valued σ) e)
    → LowProgram i (put_program (valued σ) P)
    → Derivation (put_program (valued σ) P) g (put_environment (valued σ) e) i → All Holds (goals_at σ b.goals)
    → Any Solvable (take_goal u s g e P i b)
unfolding take_goal value substitute symbols fresh_variables level level_by symbol_level
take_goal_complete u s (atom p ts) e P i b σ o v le lP (d_clause m h us l q k x) gs =
    let θ = valued σ in
    try_from_complete s _ (entries P) 1 b σ (record {
      solved = record { solves = v; goals = gs };
      program = lP;
      members = subst (All (λ m. LowEnvironment i m.environment)) (entries_put θ P.clauses)
          (entries_all (LowEnvironment i) (put_program θ P).clauses lP);
      resolvable = record {
        member = m;
        among = subst (Mem m) (entries_put θ P.clauses) h;
        resolves = record { terms = us; instantiates = l; predicate = q; arguments = substitutes_substitutes ts e θ ∙ k; body = x };
      };
    })
take_goal_complete u s truth e P i b σ o v le lP d_true gs = proceed_complete s b.goals _ σ (record { solves = v; goals = gs })
take_goal_complete u s (and g h) e P i b σ o v le lP (d_and x y) gs =
    inl (σ, take_solved s _ _ σ v le lP x (record { environment = le; program = lP; derivable = y }, gs))
take_goal_complete u s (or g h) e P i b σ o v le lP (d_left x) gs = inl (σ, take_solved s _ _ σ v le lP x gs)
take_goal_complete u s (or g h) e P i b σ o v le lP (d_right x) gs = inr (inl (σ, take_solved s _ _ σ v le lP x gs))
take_goal_complete u s (implies c g) e P i b σ o v le lP (d_assume x) gs =
    let f = put_environment (valued σ) e in
    let Q = put_program (valued σ) P in
    let low : LowProgram i (assume (hypothesis c f) Q) =
    joined_all_lem (λ h. LowEnvironment i h.environment) Q.order (hypothesis c f) Q.clauses le lP in
    let holds =
    holds_same g f f _ _ i refl (sym (assume_put (valued σ) c e P)) (record { environment = le; program = low; derivable = x }) in
    inl (σ, record { solves = v; goals = (holds, gs) })
take_goal_complete u s (exists v g) e P i b σ o w le lP (d_some t l x) gs =
    let below = o.extra in
    let r = extend (v ∷ []) (t ∷ []) i s σ o.formed w refl (l, tt) in
    let τ = r.valuation in
    let q = r.terms in
    let witness : τ s.next ≡ t = cc in
    let environment : update (put_environment (valued σ) e) v t ≡ put_environment (valued τ) (update e v (leaf (var s.next))) =
    ap₂ (λ (f : Environment Symbol) (a : Ground). update f v a) (environment_agree e s.next σ τ below.0.0 r.agree) (sym witness)
    ∙ sym (update_put (valued τ) e v (leaf (var s.next))) in
    inl (
      τ,
      record {
        solves = r.solves;
        goals = (
          holds_same g _ _ _ _ i environment (program_agree P s.next σ τ below.0.1 r.agree)
              (record { environment = update_all (λ a. level a ≤ i) (put_environment (valued σ) e) v t le l; program = lP; derivable = x }),
          goals_hold b.goals s.next σ τ below.1 r.agree gs,
        );
      },
    )
take_goal_complete u s (forall v g) e P i b σ o w le lP (d_all n x) gs =
    let c = leaf (made u (suc i)) in
    inl (
      σ,
      record {
        solves = w;
        goals = (
          holds_same g _ _ _ _ (suc i) (sym (update_put (valued σ) e v (leaf (con u (suc i))))) refl (record {
            environment =
                update_all (λ a. level a ≤ suc i) (put_environment (valued σ) e) v c (λ y. let l = le y in omega arith) (omega arith);
            program = low_up i (put_program (valued σ) P) lP;
            derivable = another_constant (put_program (valued σ) P) g (put_environment (valued σ) e) v i n u lP le x;
          }),
          gs,
        );
      },
    )

-- The first of some members resolves the atom, or one of the others does.
resolves_cases : {m n : Entry Symbol} {l : List (Entry Symbol)} {P : Program Symbol} {p : ℕ} {us : Terms Symbol} {i : ℕ} → Mem m (n ∷ l)
    → Resolves m P p us i
    → Resolves n P p us i ⊎ Resolvable l P p us i
resolves_cases here x = inl x
resolves_cases (there {a = m} h) x = inr (record { member = m; among = h; resolves = x })

-- Every act on a solvable configuration gives a solvable one.
pub step_complete : (u : ℕ) (c : Configuration) → Invariant c → Solvable c → Any Solvable (step u c)
unfolding step Invariant
step_complete u (take s g b) o h =
    let x = h.1.goals.0 in
    take_goal_complete u s g.goal g.environment g.program g.level b h.0 o h.1.solves x.environment x.program
    x.derivable h.1.goals.1
step_complete u (try s a m ms k b) o h = go (resolves_cases h.1.resolvable.among h.1.resolvable.resolves)
  where
    σ : Valuation
    σ = h.0

    this : List Configuration
    this = cond (eqb a.predicate m.member.predicate) (try_member s a m k b) []

    go : Resolves (put_entry (valued σ) m) (put_program (valued σ) a.program) a.predicate (substitutes a.arguments (valued σ))
        a.level
        ⊎ Resolvable (map (put_entry (valued σ)) ms) (put_program (valued σ) a.program) a.predicate
        (substitutes a.arguments (valued σ)) a.level
        → Any Solvable (this ++ try_from s a ms (suc k) b)
    go (inl x) = any_left Solvable this (try_from s a ms (suc k) b)
        (subst (λ (same : Bool). Any Solvable (cond same (try_member s a m k b) []))
        (sym (eq-eqb a.predicate m.member.predicate x.predicate))
        (try_member_complete s a m ms k b σ o h.1 x))
    go (inr x) = any_right Solvable this (try_from s a ms (suc k) b)
        (try_from_complete s a ms (suc k) b σ
        (record { solved = h.1.solved; program = h.1.program; members = h.1.members.1; resolvable = x }))
step_complete u (match m b) o h =
    settle_complete (match_step m) b h.0
    (record { keeps = match_step_complete symbols h.0 (GoalsBelow b.goals) m o h.1.keeps; goals = h.1.goals })
step_complete u (done s path) o h = inl tt

-- The state has a configuration that is solvable.
abbrev pub Alive : List Configuration → Type 0
Alive ds = All Invariant ds × Any Solvable ds

-- An act keeps some configuration of the state solvable, be it the one acted upon or another.
advance_complete : (u : ℕ) (ds : List Configuration) → Alive ds → Alive (advance u ds)
unfolding advance
advance_complete u [] h = h
advance_complete u (c ∷ ds) h = (all_append Invariant (step u c) ds (step_keeps u c h.0.0) h.0.1, go h.1)
  where
    go : Solvable c ⊎ Any Solvable ds → Any Solvable (step u c ++ ds)
    go (inl x) = any_left Solvable (step u c) ds (step_complete u c h.0.0 x)
    go (inr x) = any_right Solvable (step u c) ds x

-- The terms for the goal's free variables, and a constant for the other names, of which nothing is known.
unfoldable pub start_values : Goal → Environment Symbol → Valuation
start_values g e v = cond (free_g g v) (e v) (app (sheet_symbol 0) nil)

-- All values at the start have level 0.
pub start_values_low : (g : Goal) (e : Environment Symbol) → ((v : ℕ) → free_g g v ≡ true → level (e v) ≤ 0) → (v : ℕ)
    → level (start_values g e v) ≤ 0
unfolding start_values level level_by
start_values_low g e h v = go (free_g g v) refl
  where
    go : (b : Bool) → free_g g v ≡ b → level (cond b (e v) (app (sheet_symbol 0) nil)) ≤ 0
    go true q = h v q
    go false q = omega arith

-- With values of level 0, the names of the start stand for terms of level 0.
pub start_environment_low : (σ : Valuation) → ((v : ℕ) → level (σ v) ≤ 0) → LowEnvironment 0 (put_environment (valued σ) start_environment)
unfolding start_environment substitute value level level_by
start_environment_low σ h v = go (ltb v 8)
  where
    go : (b : Bool) → level (substitute (cond b (leaf (var v)) (app (sheet_symbol 0) nil)) (valued σ)) ≤ 0
    go true = h v
    go false = omega arith

-- The start environment with `start_values` agrees with e on the names that stand free in the goal.
pub start_values_agree : (g : Goal) (e : Environment Symbol) → SheetNames g
    → AgreeOn g e (put_environment (valued (start_values g e)) start_environment)
unfolding start_values start_environment substitute value
start_values_agree g e n v h = rw (lt-ltb v 8 (n v h), h) refl

-- The start is solvable if an instance of the goal has a derivation.
start_complete : (cs : Rules Clause) (g : Goal) (e : Environment Symbol) → All Closed cs.clauses → SheetNames g
    → InstanceDerivation cs g e → Alive (start cs g)
unfolding start start_goal start_store instance_of level symbols
start_complete cs g e c n d =
    let σ = start_values g e in
    let f = put_environment (valued σ) start_environment in
    let low = start_values_low g e d.level0 in
    let low_start : LowEnvironment 0 f = start_environment_low σ low in
    let holds : Holds (instance_of cs g f) = record {
      environment = low_start;
      program = sheet_all (LowEnvironment 0) cs f low_start;
      derivable = ((local cs g c).tree e f (start_values_agree g e n) d.derivation).0;
    } in (
      start_invariant cs g,
      inl (
        σ,
        record {
          solves = record { equations = tt; levels = λ x l. low x };
          goals = (subst Holds (sym (instance_put (valued σ) cs g start_environment)) holds, tt);
        },
      ),
    )

-- No search comes to no if an instance of the goal has a derivation.
pub complete : (cs : Rules Clause) (g : Goal) (e : Environment Symbol) → All Closed cs.clauses → SheetNames g → InstanceDerivation cs g e
    → (budget n : ℕ) → search budget cs g ≡ ends no_proof n → ⊥
complete cs g e c n d = never_no_lem cs g Alive (start_complete cs g e c n d) advance_complete (λ h. h.1)
