-- Each derivation of an instance has the lines, without their terms, of a path that succeeds: the lines say at each choice how to
-- go on, and every match on the way comes to its end.
use Prim.Native.Nat.{ℕ, zero, suc, ◌≤◌}
use mathlib.Core.Path.{◌≡◌, refl, sym, ◌∙◌, ap, ap₂, subst, subst₂}
use mathlib.Core.Bool.{Bool, true, cond}
use mathlib.Core.List.{List, [], ◌∷◌, ◌++◌, map, reverse_aux}
use mathlib.Core.Option.{Option, none, some}
use mathlib.Core.Logic.{◌⊎◌, inl, inr}
use native.Mathlib.Omega.{arith}
use lib.Dec.{eqb}
use lib.ListN.{length}
use borrow.Author.Tests.{eq-eqb}
use Rattle.terms.specs.Lists.{All, Mem, here, there, place, update}
use Rattle.terms.specs.Terms.{leaf, Terms, substitute, substitutes, level_by}
use Rattle.terms.proofs.Lists.{all_append, update_all, map_append, Any, any_left, any_right, mem_nil}
use Rattle.terms.proofs.Terms.{substitutes_substitutes}
use Rattle.formulas.specs.Formulas.{Goal, atom, truth, and, or, implies, exists, forall, Clause}
use Rattle.formulas.specs.Rules.{Rules, assume}
use Rattle.formulas.proofs.Rules.{joined_all_lem}
use Rattle.sequents.specs.Symbols.{Symbol, made, symbol_level, Ground, level}
use Rattle.sequents.specs.Sequents.{Environment, Program, hypothesis, Entry, entries, Sequent, sequent, assign, body_sequent, Dtrue, Dand}
use Rattle.sequents.specs.Sequents.{Dleft, Dright, Dassume, Line, plain, Dsome, Dall, Dclause, put_environment, put_program, put_sequent}
use Rattle.sequents.specs.Derivations.{Instantiates, lines, instance_of, InstanceDerivation}
use Rattle.sequents.specs.Lines.{Uses, Infers, Leads, Derives}
use Rattle.sequents.specs.Renamings.{renamed}
use Rattle.sequents.specs.Promises.{Closed}
use Rattle.sequents.proofs.Sequents.{put_entry, entries_put, update_put, assign_put, assign_all, entries_all, instance_put, sheet_all}
use Rattle.sequents.proofs.Constants.{LowEnvironment, LowProgram, exchange, exchange_at, exchange_environment, exchange_program}
use Rattle.sequents.proofs.Lines.{leads_append, tree_leads, Forest, lines_forest}
use Rattle.sequents.proofs.Renamings.{renames}
use Rattle.sequents.proofs.Locality.{local}
use Rattle.unification.specs.Store.{Leaf, var, con, Store, fresh, fresh_variables}
use Rattle.unification.specs.Matching.{Matching, pairs, check, fail, push_pairs, comparing, match_step, match_steps, Ended}
use Rattle.unification.proofs.Valuation.{value}
use Rattle.unification.proofs.Sound.{SolvesMatching}
use Rattle.unification.proofs.Invariant.{Good}
use Rattle.unification.proofs.Complete.{Keeps, comparing_complete, match_step_complete}
use Rattle.unification.proofs.Termination.{steps_after, matching_ends}
use Rattle.search.specs.Configurations.{Branch, branch, Atom, Configuration, take, try, match, done}
use Rattle.search.specs.Steps.{tried_store, tried_environment, tried_branch, proceed, settle, try_from, try_member, take_goal, step}
use Rattle.search.specs.Search.{start_environment, start_store, start_goal, start}
use Rattle.search.specs.Promises.{SheetNames}
use Rattle.search.proofs.Invariant.{GoalsBelow, TryBelow, Invariant, start_invariant, step_keeps}
use Rattle.search.proofs.Values.{symbols, Valuation, valued, Solution, goals_at, body_goals, assume_goals, terms_agree, environment_agree}
use Rattle.search.proofs.Values.{program_agree, goals_agree, extend}
use Rattle.search.proofs.Complete.{low_up, start_values, start_values_low, start_environment_low, start_values_agree}
use Rattle.enumeration.specs.Scripts.{Script, acts, Stands, LeadsTo, bare, root}
use Rattle.enumeration.proofs.Scripts.{bare_lines}

-- A path from c ends with these lines, without their terms.
abbrev pub EndsWith : List (Line Leaf) → ℕ → Configuration → Type 0
EndsWith bs u c = (is : Script) × ((s : Store) × ((path : List (Line Leaf)) × (LeadsTo is u c (done s path) × (map bare path ≡ bs))))

-- A property of some element of a list holds at some place.
any_stands : (P : Configuration → Type 0) (l : List Configuration) → Any P l → (i : ℕ) × ((e : Configuration) × (Stands l i e × P e))
unfolding Stands
any_stands P [] h = absurd h
any_stands P (c ∷ l) (inl h) = (0, (c, (refl, h)))
any_stands P (c ∷ l) (inr h) = let r = any_stands P l h in (suc r.0, (r.1.0, (r.1.1.0, r.1.1.1)))

-- An act, and then a path from one of the configurations that it gives, is a path.
act_ends : (bs : List (Line Leaf)) (u : ℕ) (c : Configuration) → Any (EndsWith bs (suc u)) (acts u c) → EndsWith bs u c
unfolding LeadsTo
act_ends bs u c h =
    let r = any_stands (EndsWith bs (suc u)) (acts u c) h in
    let z = r.1.1.1 in
    (r.0 ∷ z.0, (z.1.0, (z.1.1.0, ((r.1.0, r.1.1.0, z.1.1.1.0), z.1.1.1.1))))

-- Nothing in the sequent has a level above its own.
abbrev Low : Sequent Symbol → Type 0
Low g = LowEnvironment g.level g.environment × LowProgram g.level g.program

-- The lines, put after those of the path, are bs.
abbrev Written : List (Line Leaf) → List (Line Leaf) → List (Line Symbol) → Type 0
Written bs path ls = reverse_aux (map bare ls) (map bare path) ≡ bs

-- The valuation σ solves the store, and the lines derive the goals with its values.
record SolvedBy (bs : List (Line Leaf)) (n : ℕ) (s : Store) (gs : List (Sequent Leaf)) (path : List (Line Leaf)) : Type 0 where
  σ : Valuation
  ls : List (Line Symbol)
  few : length ls ≤ n
  solves : Solution σ s
  low : All Low (goals_at σ gs)
  derives : Derives ls (goals_at σ gs)
  written : Written bs path ls

-- Of an atom that is tried with the members ms, the next line uses one of these.
record TriedBy (bs : List (Line Leaf)) (n : ℕ) (s : Store) (a : Atom) (ms : List (Entry Leaf)) (k : ℕ) (gs : List (Sequent Leaf))
    (path : List (Line Leaf)) : Type 0 where
  σ : Valuation
  line : Line Symbol
  ls : List (Line Symbol)
  few : length ls ≤ n
  solves : Solution σ s
  low : All Low (goals_at σ gs)
  program : LowProgram a.level (put_program (valued σ) a.program)
  members : All (λ m. LowEnvironment a.level m.environment) (map (put_entry (valued σ)) ms)
  uses : Uses line (map (put_entry (valued σ)) ms) k a.predicate (substitutes a.arguments (valued σ))
      (put_program (valued σ) a.program) a.level
      (λ new. Leads ls (new ++ goals_at σ gs) [])
  written : Written bs path (line ∷ ls)

-- Of a match under way, σ solves it.
record MatchedBy (bs : List (Line Leaf)) (n : ℕ) (m : Matching) (gs : List (Sequent Leaf)) (path : List (Line Leaf)) : Type 0 where
  σ : Valuation
  ls : List (Line Symbol)
  few : length ls ≤ n
  keeps : Keeps symbols σ m
  low : All Low (goals_at σ gs)
  derives : Derives ls (goals_at σ gs)
  written : Written bs path ls

-- The lines left lead from the configuration to the end: stated for each kind of configuration.
abbrev Leading : List (Line Leaf) → ℕ → Configuration → Type 0
Leading bs n (take s g b) = SolvedBy bs n s (g ∷ b.goals) b.path
Leading bs n (try s a m ms k b) = TriedBy bs n s a (m ∷ ms) k b.goals b.path
Leading bs n (match m b) = MatchedBy bs n m b.goals b.path
Leading bs n (done s path) = map bare path ≡ bs

-- Going on with the goals keeps what is to be written.
proceed_leads : (bs : List (Line Leaf)) (n : ℕ) (s : Store) (gs : List (Sequent Leaf)) (path : List (Line Leaf)) → SolvedBy bs n s gs path
    → Any (Leading bs n) (proceed s gs path)
unfolding proceed Leads
proceed_leads bs n s [] path h = inl (none_left_lem h.ls h.derives h.written)
  where
    none_left_lem : (ls : List (Line Symbol)) → Derives ls [] → Written bs path ls → map bare path ≡ bs
    none_left_lem [] d w = w
    none_left_lem (x ∷ ls) d w = absurd d
proceed_leads bs n s (g ∷ gs) path h = inl h

-- Going on to the members left keeps it, one of them being used.
try_from_leads : (bs : List (Line Leaf)) (n : ℕ) (s : Store) (a : Atom) (ms : List (Entry Leaf)) (k : ℕ) (b : Branch)
    → TriedBy bs n s a ms k b.goals b.path
    → Any (Leading bs n) (try_from s a ms k b)
unfolding try_from
try_from_leads bs n s a [] k b h = absurd (mem_nil h.uses.at)
try_from_leads bs n s a (m ∷ ms) k b h = inl h

-- The line uses this member, whose place is k.
record UsesThis (x : Line Symbol) (m : Entry Symbol) (k p : ℕ) (us : Terms Symbol) (P : Program Symbol) (i : ℕ)
    (K : List (Sequent Symbol) → Type 0) : Type 0 where
  terms : List Ground
  line : x ≡ Dclause k terms
  instantiates : Instantiates m.member.prefix terms i
  predicate : p ≡ m.member.predicate
  arguments : us ≡ substitutes m.member.arguments (assign m.member.prefix terms m.environment)
  premises : K (body_sequent m.member.body (assign m.member.prefix terms m.environment) P i)

-- A line uses the first of the members, or one of the others, whose places count on.
uses_cases : {x : Line Symbol} {m : Entry Symbol} {l : List (Entry Symbol)} {k p : ℕ} {us : Terms Symbol} {P : Program Symbol} {i : ℕ}
    {K : List (Sequent Symbol) → Type 0}
    → Uses x (m ∷ l) k p us P i K → UsesThis x m k p us P i K ⊎ Uses x l (suc k) p us P i K
unfolding place
uses_cases {x = x} {m = m} {l = l} {k = k} {p = p} {us = us} {P = P} {i = i} {K = K} u =
    go u.used m l u.at u.line u.instantiates u.predicate u.arguments u.premises
  where
    go : (e m : Entry Symbol) (l : List (Entry Symbol)) (h : Mem e (m ∷ l)) → x ≡ Dclause (place k h) u.terms
        → Instantiates e.member.prefix u.terms i → p ≡ e.member.predicate
        → us ≡ substitutes e.member.arguments (assign e.member.prefix u.terms e.environment)
        → K (body_sequent e.member.body (assign e.member.prefix u.terms e.environment) P i)
        → UsesThis x m k p us P i K ⊎ Uses x l (suc k) p us P i K
    go e m l here a b c d f = inl (record { terms = u.terms; line = a; instantiates = b; predicate = c; arguments = d; premises = f })
    go e m l (there h) a b c d f =
        inr (record { used = e; at = h; terms = u.terms; line = a; instantiates = b; predicate = c; arguments = d; premises = f })

-- With one line more written, one line less is to be written.
written_next : (bs : List (Line Leaf)) (path : List (Line Leaf)) (x : Line Symbol) (y : Line Leaf) (ls : List (Line Symbol))
    → bare x ≡ bare y → Written bs path (x ∷ ls)
    → Written bs (y ∷ path) ls
written_next bs path x y ls e w = ap (λ (z : Line Leaf). reverse_aux (map bare ls) (z ∷ map bare path)) (sym e) ∙ w

-- A body has nothing above its level.
body_low : (o : Option Goal) (e : Environment Symbol) (P : Program Symbol) (i : ℕ) → LowEnvironment i e → LowProgram i P
    → All Low (body_sequent o e P i)
unfolding body_sequent
body_low none e P i le lP = tt
body_low (some g) e P i le lP = ((le, lP), tt)

-- What a try compares.
abbrev compared : Store → Atom → Entry Leaf → Matching
compared s a m =
    comparing (tried_store s a m) (push_pairs a.arguments (substitutes m.member.arguments (tried_environment s m)) [])

-- The member of a try that the line uses is matched: its terms for the prefix are the values of the fresh variables.
try_member_leads : (bs : List (Line Leaf)) (n : ℕ) (s : Store) (a : Atom) (m : Entry Leaf) (ms : List (Entry Leaf)) (k : ℕ) (b : Branch)
    → Good (TryBelow a (m ∷ ms) b.goals) s → (h : TriedBy bs n s a (m ∷ ms) k b.goals b.path)
    → UsesThis h.line (put_entry (valued h.σ) m) k a.predicate (substitutes a.arguments (valued h.σ))
    (put_program (valued h.σ) a.program) a.level
    (λ new. Leads h.ls (new ++ goals_at h.σ b.goals) [])
    → MatchedBy bs n (compared s a m) (tried_branch s a m k b).goals (tried_branch s a m k b).path
unfolding bare
try_member_leads bs n s a m ms k b o h x =
    let σ = h.σ in
    let vs = m.member.prefix in
    let e = assign vs (fresh_variables vs s.next) m.environment in
    let below = o.extra in
    let r = extend vs x.terms a.level s σ o.formed h.solves x.instantiates.many x.instantiates.low in
    let τ = r.valuation in
    let f : Environment Symbol = assign vs x.terms (put_environment (valued σ) m.environment) in
    let values : put_environment (valued τ) e ≡ f =
    assign_put (valued τ) vs (fresh_variables vs s.next) m.environment
    ∙ ap₂ (assign vs) r.terms (sym (environment_agree m.environment s.next σ τ below.members.0 r.agree)) in
    let program : put_program (valued σ) a.program ≡ put_program (valued τ) a.program =
    program_agree a.program s.next σ τ below.program r.agree in
    let arguments : substitutes a.arguments (valued τ) ≡ substitutes (substitutes m.member.arguments e) (valued τ) =
    sym (terms_agree a.arguments s.next σ τ below.arguments r.agree) ∙ x.arguments
    ∙ ap (substitutes m.member.arguments) (sym values)
    ∙ sym (substitutes_substitutes m.member.arguments e (valued τ)) in
    let goals : goals_at σ b.goals ≡ goals_at τ b.goals = goals_agree b.goals s.next σ τ below.goals r.agree in
    let same : body_sequent m.member.body f (put_program (valued σ) a.program) a.level ++ goals_at σ b.goals
    ≡ goals_at τ (body_sequent m.member.body e a.program a.level ++ b.goals) =
    ap₂ (λ (P : Program Symbol) (gs : List (Sequent Symbol)). body_sequent m.member.body f P a.level ++ gs) program goals
    ∙ body_goals τ m.member.body e f a.program a.level b.goals values in
    let lows : All Low (body_sequent m.member.body f (put_program (valued σ) a.program) a.level) =
    body_low m.member.body f (put_program (valued σ) a.program) a.level
    (assign_all (λ t. level t ≤ a.level) vs x.terms (put_environment (valued σ) m.environment) h.members.0
    x.instantiates.low) h.program in
    record {
      σ = τ;
      ls = h.ls;
      few = h.few;
      keeps =
          comparing_complete symbols τ (fresh vs a.level s) a.arguments (substitutes m.member.arguments e) []
          r.solves arguments tt;
      low =
          subst (All Low) same
          (all_append Low (body_sequent m.member.body f (put_program (valued σ) a.program) a.level) (goals_at σ b.goals) lows
          h.low);
      derives = subst (λ (gs : List (Sequent Symbol)). Leads h.ls gs []) same x.premises;
      written = written_next bs b.path h.line (Dclause k (fresh_variables vs s.next)) h.ls (ap bare x.line) h.written;
    }

-- The lines of derivations, one after the other, derive their sequents.
forest_derives : (gs : List (Sequent Symbol)) (ls : List (Line Symbol)) → Forest gs ls → Derives ls gs
unfolding Leads
forest_derives [] ls f = subst (λ (ks : List (Line Symbol)). Derives ks []) (sym f) refl
forest_derives (g ∷ gs) ls f =
    subst (λ (ks : List (Line Symbol)). Derives ks (g ∷ gs)) (sym f.2)
    (leads_append (lines f.0) f.1 (g ∷ gs) gs [] (tree_leads f.0 gs) (forest_derives gs f.1 f.3))

record Other (ls : List (Line Symbol)) (gs : List (Sequent Symbol)) : Type 0 where
  ks : List (Line Symbol)
  same : map bare ks ≡ map bare ls
  derives : Derives ks gs

-- Lines that derive a universal goal with the constant n, then others, become lines with the constant m, the same without their terms.
-- The constant is exchanged in the first derivation only: the waiting goals may have that level too.
other_constant : (P : Program Symbol) (g : Goal) (e : Environment Symbol) (v i n m : ℕ) (gs : List (Sequent Symbol))
    (ls : List (Line Symbol)) → LowProgram i P → LowEnvironment i e
    → Derives ls (sequent g (update e v (leaf (made n (suc i)))) P (suc i) ∷ gs)
    → Other ls (sequent g (update e v (leaf (made m (suc i)))) P (suc i) ∷ gs)
unfolding substitute
other_constant P g e v i n m gs ls lP le h =
    let f = lines_forest ls (sequent g (update e v (leaf (made n (suc i)))) P (suc i) ∷ gs) h in
    let r = exchange (suc i) n m in
    let d = (renames r).tree P g (update e v (leaf (made n (suc i)))) (suc i) f.0 in
    let environment : put_environment (renamed r) (update e v (leaf (made n (suc i)))) ≡ update e v (leaf (made m (suc i))) =
    update_put (renamed r) e v (leaf (made n (suc i)))
    ∙ ap₂ (λ (q : Environment Symbol) (t : Ground). update q v t) (exchange_environment i n m e le) (exchange_at (suc i) n m) in
    let first : Leads (lines d.0) (sequent g (update e v (leaf (made m (suc i)))) P (suc i) ∷ gs) gs =
    subst₂ (λ (Q : Program Symbol) (q : Environment Symbol). Leads (lines d.0) (sequent g q Q (suc i) ∷ gs) gs)
    (exchange_program i n m P lP) environment (tree_leads d.0 gs) in
    record {
      ks = lines d.0 ++ f.1;
      same =
          map_append bare (lines d.0) f.1
          ∙ ap (λ (x : List (Line Leaf)). x ++ map bare f.1) (ap (map bare) d.1 ∙ bare_lines (renamed r) (lines f.0))
          ∙ sym (map_append bare (lines f.0) f.1) ∙ ap (map bare) (sym f.2);
      derives =
          leads_append (lines d.0) f.1 (sequent g (update e v (leaf (made m (suc i)))) P (suc i) ∷ gs) gs [] first
          (forest_derives gs f.1 f.3);
    }

-- Lines that are the same without their terms are as many.
same_many : (ls ks : List (Line Symbol)) → map bare ks ≡ map bare ls → length ks ≡ length ls
same_many [] [] e = refl
same_many [] (y ∷ ks) e = absurd (let z : ◌≡◌ {A = ℕ} 0 1 = cc in omega arith)
same_many (x ∷ ls) [] e = absurd (let z : ◌≡◌ {A = ℕ} 0 1 = cc in omega arith)
same_many (x ∷ ls) (y ∷ ks) e = let z = same_many ls ks (cc) in omega arith

-- Taking a goal keeps it: the line says how to go on, a witness being the value of the fresh variable.
take_goal_leads : (bs : List (Line Leaf)) (n u : ℕ) (s : Store) (g : Goal) (e : Environment Leaf) (P : Program Leaf) (i : ℕ) (b : Branch)
    (σ : Valuation) (x : Line Symbol) (ls : List (Line Symbol))
    → Good (GoalsBelow (sequent g e P i ∷ b.goals)) s → length ls ≤ n → Solution σ s → LowEnvironment i (put_environment (valued σ) e)
    → LowProgram i (put_program (valued σ) P)
    → All Low (goals_at σ b.goals)
    → Infers x g (put_environment (valued σ) e) (put_program (valued σ) P) i (λ new. Leads ls (new ++ goals_at σ b.goals) [])
    → Written bs b.path (x ∷ ls) → Any (Leading bs n) (take_goal u s g e P i b)
unfolding take_goal Infers value substitute symbols fresh_variables level level_by symbol_level bare
take_goal_leads bs n u s (atom p ts) e P i b σ x ls o few v le lP low h w =
    let θ = valued σ in
    try_from_leads bs n s (record { predicate = p; arguments = substitutes ts e; program = P; level = i }) (entries P) 1 b (record {
      σ = σ;
      line = x;
      ls = ls;
      few = few;
      solves = v;
      low = low;
      program = lP;
      members =
          subst (All (λ m. LowEnvironment i m.environment)) (entries_put θ P.clauses)
          (entries_all (LowEnvironment i) (put_program θ P).clauses lP);
      uses =
          subst₂ (λ (l : List (Entry Symbol)) (us : Terms Symbol). Uses x l 1 p us (put_program θ P) i
          (λ new. Leads ls (new ++ goals_at σ b.goals) []))
          (entries_put θ P.clauses) (sym (substitutes_substitutes ts e θ)) h;
      written = w;
    })
take_goal_leads bs n u s truth e P i b σ x ls o few v le lP low h w = proceed_leads bs n s b.goals (plain Dtrue ∷ b.path) (record {
  σ = σ;
  ls = ls;
  few = few;
  solves = v;
  low = low;
  derives = h.1;
  written = written_next bs b.path x (plain Dtrue) ls (ap bare h.0) w;
})
take_goal_leads bs n u s (and g k) e P i b σ x ls o few v le lP low h w = inl (record {
  σ = σ;
  ls = ls;
  few = few;
  solves = v;
  low = ((le, lP), ((le, lP), low));
  derives = h.1;
  written = written_next bs b.path x (plain Dand) ls (ap bare h.0) w;
})
take_goal_leads bs n u s (or g k) e P i b σ x ls o few v le lP low (inl h) w = inl (record {
  σ = σ;
  ls = ls;
  few = few;
  solves = v;
  low = ((le, lP), low);
  derives = h.1;
  written = written_next bs b.path x (plain Dleft) ls (ap bare h.0) w;
})
take_goal_leads bs n u s (or g k) e P i b σ x ls o few v le lP low (inr h) w = inr (inl (record {
  σ = σ;
  ls = ls;
  few = few;
  solves = v;
  low = ((le, lP), low);
  derives = h.1;
  written = written_next bs b.path x (plain Dright) ls (ap bare h.0) w;
}))
take_goal_leads bs n u s (implies c g) e P i b σ x ls o few v le lP low h w =
    let f = put_environment (valued σ) e in
    let Q = put_program (valued σ) P in
    let assumed : LowProgram i (assume (hypothesis c f) Q) =
    joined_all_lem (λ k. LowEnvironment i k.environment) Q.order (hypothesis c f) Q.clauses le lP in
    let same : sequent g f (assume (hypothesis c f) Q) i ∷ goals_at σ b.goals
    ≡ goals_at σ (sequent g e (assume (hypothesis c e) P) i ∷ b.goals) =
    assume_goals σ g c e P i b.goals in
    inl (record {
      σ = σ;
      ls = ls;
      few = few;
      solves = v;
      low = subst (All Low) same ((le, assumed), low);
      derives = subst (λ (gs : List (Sequent Symbol)). Leads ls gs []) same h.1;
      written = written_next bs b.path x (plain Dassume) ls (ap bare h.0) w;
    })
take_goal_leads bs n u s (exists v g) e P i b σ x ls o few w le lP low h q =
    let t = h.0 in
    let below = o.extra in
    let r = extend (v ∷ []) (t ∷ []) i s σ o.formed w refl (h.2, tt) in
    let τ = r.valuation in
    let z = r.terms in
    let witness : τ s.next ≡ t = cc in
    let environment : update (put_environment (valued σ) e) v t ≡ put_environment (valued τ) (update e v (leaf (var s.next))) =
    ap₂ (λ (f : Environment Symbol) (a : Ground). update f v a) (environment_agree e s.next σ τ below.0.0 r.agree) (sym witness)
    ∙ sym (update_put (valued τ) e v (leaf (var s.next))) in
    let same : sequent g (update (put_environment (valued σ) e) v t) (put_program (valued σ) P) i ∷ goals_at σ b.goals
    ≡ goals_at τ (sequent g (update e v (leaf (var s.next))) P i ∷ b.goals) =
    ap₂ ◌∷◌ (ap₂ (λ (f : Environment Symbol) (Q : Program Symbol). sequent g f Q i) environment
    (program_agree P s.next σ τ below.0.1 r.agree))
    (goals_agree b.goals s.next σ τ below.1 r.agree) in
    inl (record {
      σ = τ;
      ls = ls;
      few = few;
      solves = r.solves;
      low = subst (All Low) same ((update_all (λ a. level a ≤ i) (put_environment (valued σ) e) v t le h.2, lP), low);
      derives = subst (λ (gs : List (Sequent Symbol)). Leads ls gs []) same h.3;
      written = written_next bs b.path x (Dsome (leaf (var s.next))) ls (ap bare h.1) q;
    })
take_goal_leads bs n u s (forall v g) e P i b σ x ls o few w le lP low h q =
    let c = leaf (made u (suc i)) in
    let r = other_constant (put_program (valued σ) P) g (put_environment (valued σ) e) v i h.0 u (goals_at σ b.goals) ls lP le h.2 in
    let same : sequent g (update (put_environment (valued σ) e) v c) (put_program (valued σ) P) (suc i) ∷ goals_at σ b.goals
    ≡ goals_at σ (sequent g (update e v (leaf (con u (suc i)))) P (suc i) ∷ b.goals) =
    ap (λ (f : Environment Symbol). sequent g f (put_program (valued σ) P) (suc i) ∷ goals_at σ b.goals)
    (sym (update_put (valued σ) e v (leaf (con u (suc i))))) in
    inl (record {
      σ = σ;
      ls = r.ks;
      few = (let z = same_many ls r.ks r.same in omega arith);
      solves = w;
      low = subst (All Low) same (
        (
          update_all (λ a. level a ≤ suc i) (put_environment (valued σ) e) v c (λ y. let l = le y in omega arith) (omega arith),
          low_up i
              (put_program (valued σ) P) lP,
        ),
        low,
      );
      derives = subst (λ (gs : List (Sequent Symbol)). Leads r.ks gs []) same r.derives;
      written = ap (λ (z : List (Line Leaf)). reverse_aux z (bare {A = Leaf} (Dall (leaf (con u (suc i)))) ∷ map bare b.path)) r.same
          ∙ written_next bs b.path x (Dall (leaf (con u (suc i)))) ls (ap bare h.1) q;
    })

-- Taking the front goal uses the first line,
take_leads : (bs : List (Line Leaf)) (n u : ℕ) (s : Store) (g : Sequent Leaf) (b : Branch) → Good (GoalsBelow (g ∷ b.goals)) s
    → SolvedBy bs (suc n) s (g ∷ b.goals) b.path
    → Any (Leading bs n) (acts u (take s g b))
unfolding acts step Leads
take_leads bs n u s g b o h = go h.ls h.few h.derives h.written
  where
    go : (ls : List (Line Symbol)) → length ls ≤ suc n → Derives ls (goals_at h.σ (g ∷ b.goals)) → Written bs b.path ls
        → Any (Leading bs n) (take_goal u s g.goal g.environment g.program g.level b)
    go [] l d w = absurd (let z : ◌≡◌ {A = ℕ} 0 1 = cc in omega arith)
    go (x ∷ ls) l d w =
        take_goal_leads bs n u s g.goal g.environment g.program g.level b h.σ x ls o (omega arith) h.solves h.low.0.0
        h.low.0.1 h.low.1 d w

-- and a try uses it, or leaves it to the next.
try_leads : (bs : List (Line Leaf)) (n : ℕ) (s : Store) (a : Atom) (m : Entry Leaf) (ms : List (Entry Leaf)) (k : ℕ) (b : Branch)
    → Good (TryBelow a (m ∷ ms) b.goals) s
    → TriedBy bs n s a (m ∷ ms) k b.goals b.path
    → ((a.predicate ≡ m.member.predicate) × MatchedBy bs n (compared s a m) (tried_branch s a m k b).goals (tried_branch s a m k b).path)
    ⊎ TriedBy bs n s a ms (suc k) b.goals b.path
try_leads bs n s a m ms k b o h = go (uses_cases h.uses)
  where
    go : UsesThis h.line (put_entry (valued h.σ) m) k a.predicate (substitutes a.arguments (valued h.σ))
        (put_program (valued h.σ) a.program) a.level
        (λ new. Leads h.ls (new ++ goals_at h.σ b.goals) [])
        ⊎ Uses h.line (map (put_entry (valued h.σ)) ms) (suc k) a.predicate (substitutes a.arguments (valued h.σ))
        (put_program (valued h.σ) a.program) a.level
        (λ new. Leads h.ls (new ++ goals_at h.σ b.goals) [])
        → ((a.predicate ≡ m.member.predicate)
        × MatchedBy bs n (compared s a m) (tried_branch s a m k b).goals (tried_branch s a m k b).path)
        ⊎ TriedBy bs n s a ms (suc k) b.goals b.path
    go (inl x) = inl (x.predicate, try_member_leads bs n s a m ms k b o h x)
    go (inr x) = inr (record {
      σ = h.σ;
      line = h.line;
      ls = h.ls;
      few = h.few;
      solves = h.solves;
      low = h.low;
      program = h.program;
      members = h.members.1;
      uses = x;
      written = h.written;
    })

-- A property of all elements of two lists holds of those of the first,
all_left : {A : Type 0} (P : A → Type 0) (x y : List A) → All P (x ++ y) → All P x
all_left P [] y h = tt
all_left P (a ∷ x) y h = (h.0, all_left P x y h.1)

-- and of those of the second.
all_right : {A : Type 0} (P : A → Type 0) (x y : List A) → All P (x ++ y) → All P y
all_right P [] y h = h
all_right P (a ∷ x) y h = all_right P x y h.1

-- Paths to the end, those that begin with taking a goal being given.
module _ (bs : List (Line Leaf)) (n : ℕ)
    (taken : (u : ℕ) (s : Store) (g : Sequent Leaf) (b : Branch) → Invariant (take s g b) → SolvedBy bs n s (g ∷ b.goals) b.path
    → EndsWith bs u (take s g b)) where
  proceed_ends : (u : ℕ) (s : Store) (gs : List (Sequent Leaf)) (path : List (Line Leaf)) → All Invariant (proceed s gs path)
      → SolvedBy bs n s gs path → Any (EndsWith bs u) (proceed s gs path)
  unfolding proceed Leads LeadsTo
  proceed_ends u s [] path o h = inl ([], (s, (path, (refl, none_left_lem h.ls h.derives h.written))))
    where
      none_left_lem : (ls : List (Line Symbol)) → Derives ls [] → Written bs path ls → map bare path ≡ bs
      none_left_lem [] d w = w
      none_left_lem (x ∷ ls) d w = absurd d
  proceed_ends u s (g ∷ gs) path o h = inl (taken u s g (branch gs path) o.0 h)

  -- So there is one after an act of matching, if there is one from the match that goes on.
  settle_ends : (u : ℕ) (m : Matching) (b : Branch)
      → (Invariant (match m b) → MatchedBy bs n m b.goals b.path → EndsWith bs u (match m b)) → All Invariant (settle m b)
      → MatchedBy bs n m b.goals b.path → Any (EndsWith bs u) (settle m b)
  unfolding settle SolvesMatching
  settle_ends u (pairs s []) b ih o h =
      proceed_ends u s b.goals b.path o
      (record { σ = h.σ; ls = h.ls; few = h.few; solves = h.keeps.0.0; low = h.low; derives = h.derives; written = h.written })
  settle_ends u (pairs s (p ∷ ps)) b ih o h = inl (ih o.0 h)
  settle_ends u (check s y t m ms ps) b ih o h = inl (ih o.0 h)
  settle_ends u fail b ih o h = absurd h.keeps.0

  -- An act of matching keeps the valuation that solves the match.
  matched_next : (m : Matching) (b : Branch) → Invariant (match m b) → MatchedBy bs n m b.goals b.path
      → MatchedBy bs n (match_step m) b.goals b.path
  unfolding Invariant
  matched_next m b o h = record {
    σ = h.σ;
    ls = h.ls;
    few = h.few;
    keeps = match_step_complete symbols h.σ (GoalsBelow b.goals) m o h.keeps;
    low = h.low;
    derives = h.derives;
    written = h.written;
  }

  -- A path from what an act of matching gives is a path from the match.
  match_act : (u : ℕ) (m : Matching) (b : Branch) → Invariant (match m b) → MatchedBy bs n m b.goals b.path
      → (Invariant (match (match_step m) b) → MatchedBy bs n (match_step m) b.goals b.path
      → EndsWith bs (suc u) (match (match_step m) b)) → EndsWith bs u (match m b)
  unfolding acts step
  match_act u m b o h ih =
      act_ends bs u (match m b) (settle_ends (suc u) (match_step m) b ih (step_keeps u (match m b) o) (matched_next m b o h))

  -- A match that ends after k acts leads to the end,
  match_ends : (k u : ℕ) (m : Matching) (b : Branch) → Ended (match_steps k m) → Invariant (match m b)
      → MatchedBy bs n m b.goals b.path → EndsWith bs u (match m b)
  unfolding match_steps Ended match_step acts step settle SolvesMatching
  match_ends zero u (pairs s []) b e o h =
      act_ends bs u (match (pairs s []) b) (proceed_ends (suc u) s b.goals b.path (step_keeps u (match (pairs s []) b) o)
      (record { σ = h.σ; ls = h.ls; few = h.few; solves = h.keeps.0.0; low = h.low; derives = h.derives; written = h.written }))
  match_ends zero u (pairs s (p ∷ ps)) b e o h = absurd e
  match_ends zero u (check s y t m ms ps) b e o h = absurd e
  match_ends zero u fail b e o h = absurd h.keeps.0
  match_ends (suc k) u m b e o h =
      match_act u m b o h (λ i j. match_ends k (suc u) (match_step m) b (subst Ended (sym (steps_after k m)) e) i j)

  -- and every match ends.
  match_any : (u : ℕ) (m : Matching) (b : Branch) → Invariant (match m b) → MatchedBy bs n m b.goals b.path
      → EndsWith bs u (match m b)
  unfolding Invariant
  match_any u m b o h = let z = matching_ends (GoalsBelow b.goals) m o in match_ends z.0 u m b z.1 o h

  -- A try leads to the end by its member or by the members left.
  try_act : (ms : List (Entry Leaf)) (u : ℕ) (s : Store) (a : Atom) (m : Entry Leaf) (k : ℕ) (b : Branch) → Invariant (try s a m ms k b)
      → TriedBy bs n s a (m ∷ ms) k b.goals b.path
      → (All Invariant (try_from s a ms (suc k) b) → TriedBy bs n s a ms (suc k) b.goals b.path
      → Any (EndsWith bs (suc u)) (try_from s a ms (suc k) b)) → EndsWith bs u (try s a m ms k b)
  unfolding acts step Invariant try_member
  try_act ms u s a m k b o h next =
      act_ends bs u (try s a m ms k b) (go (step_keeps u (try s a m ms k b) o) (try_leads bs n s a m ms k b o h))
    where
      this : List Configuration
      this = cond (eqb a.predicate m.member.predicate) (try_member s a m k b) []

      go : All Invariant (this ++ try_from s a ms (suc k) b)
          → ((a.predicate ≡ m.member.predicate)
          × MatchedBy bs n (compared s a m) (tried_branch s a m k b).goals (tried_branch s a m k b).path)
          ⊎ TriedBy bs n s a ms (suc k) b.goals b.path
          → Any (EndsWith bs (suc u)) (this ++ try_from s a ms (suc k) b)
      go q (inl x) =
          let yes : eqb a.predicate m.member.predicate ≡ true = eq-eqb a.predicate m.member.predicate x.0 in
          let good : All Invariant (try_member s a m k b) =
          subst (λ (t : Bool). All Invariant (cond t (try_member s a m k b) [])) yes
          (all_left Invariant this (try_from s a ms (suc k) b) q) in
          any_left (EndsWith bs (suc u)) this (try_from s a ms (suc k) b)
          (subst (λ (t : Bool). Any (EndsWith bs (suc u)) (cond t (try_member s a m k b) [])) (sym yes)
          (settle_ends (suc u) (compared s a m) (tried_branch s a m k b)
          (λ i j. match_any (suc u) (compared s a m) (tried_branch s a m k b) i j) good x.1))
      go q (inr x) =
          any_right (EndsWith bs (suc u)) this (try_from s a ms (suc k) b) (next (all_right Invariant this (try_from s a ms (suc k) b) q) x)

  -- So it does by induction over the members left.
  try_ends : (ms : List (Entry Leaf)) (u : ℕ) (s : Store) (a : Atom) (m : Entry Leaf) (k : ℕ) (b : Branch) → Invariant (try s a m ms k b)
      → TriedBy bs n s a (m ∷ ms) k b.goals b.path
      → EndsWith bs u (try s a m ms k b)
  unfolding try_from
  try_ends [] u s a m k b o h = try_act [] u s a m k b o h (λ i j. absurd (mem_nil j.uses.at))
  try_ends (m' ∷ ms) u s a m k b o h = try_act (m' ∷ ms) u s a m k b o h (λ i j. inl (try_ends ms (suc u) s a m' (suc k) b i.0 j))

  -- So there is a path from each configuration from which the lines lead on.
  any_ends : (u : ℕ) (l : List Configuration) → All Invariant l → Any (Leading bs n) l → Any (EndsWith bs u) l
  unfolding LeadsTo
  any_ends u [] o h = absurd h
  any_ends u (take s g b ∷ l) o (inl h) = inl (taken u s g b o.0 h)
  any_ends u (try s a m ms k b ∷ l) o (inl h) = inl (try_ends ms u s a m k b o.0 h)
  any_ends u (match m b ∷ l) o (inl h) = inl (match_any u m b o.0 h)
  any_ends u (done s path ∷ l) o (inl h) = inl ([], (s, (path, (refl, h))))
  any_ends u (c ∷ l) o (inr h) = inr (any_ends u l o.1 h)

-- So there is a path that begins with taking a goal, by induction over the number of lines.
take_ends : (bs : List (Line Leaf)) (n u : ℕ) (s : Store) (g : Sequent Leaf) (b : Branch) → Invariant (take s g b)
    → SolvedBy bs n s (g ∷ b.goals) b.path → EndsWith bs u (take s g b)
unfolding Leads acts Invariant
take_ends bs zero u s g b o h = go h.ls h.few h.derives
  where
    go : (ls : List (Line Symbol)) → length ls ≤ 0 → Derives ls (goals_at h.σ (g ∷ b.goals)) → EndsWith bs u (take s g b)
    go [] l d = absurd (let z : ◌≡◌ {A = ℕ} 0 1 = cc in omega arith)
    go (x ∷ ls) l d = absurd (omega arith)
take_ends bs (suc n) u s g b o h =
    act_ends bs u (take s g b)
    (any_ends bs n (λ v t q c i j. take_ends bs n v t q c i j) (suc u) (acts u (take s g b)) (step_keeps u (take s g b) o)
    (take_leads bs n u s g b (good o) h))
  where
    good : Invariant (take s g b) → Good (GoalsBelow (g ∷ b.goals)) s
    good x = x

-- The start is such a goal, with the terms of the instance.
pub derivation_path : (cs : Rules Clause) (g : Goal) (e : Environment Symbol) → All Closed cs.clauses → SheetNames g
    → (d : InstanceDerivation cs g e)
    → EndsWith (reverse_aux (map bare (lines d.derivation)) []) 0 (root cs g)
unfolding root start start_goal start_store instance_of level symbols
derivation_path cs g e c m d =
    let σ = start_values g e in
    let f = put_environment (valued σ) start_environment in
    let low = start_values_low g e d.level0 in
    let low_start : LowEnvironment 0 f = start_environment_low σ low in
    let t = (local cs g c).tree e f (start_values_agree g e m) d.derivation in
    let derived : Derives (lines t.0) (instance_of cs g f ∷ []) = tree_leads t.0 [] in
    let same : instance_of cs g f ≡ put_sequent (valued σ) (start_goal cs g) = sym (instance_put (valued σ) cs g start_environment) in
    take_ends (reverse_aux (map bare (lines d.derivation)) []) (length (lines t.0)) 0 start_store (start_goal cs g) (branch [] [])
    (start_invariant cs g).0 (record {
      σ = σ;
      ls = lines t.0;
      few = omega arith;
      solves = record { equations = tt; levels = λ x l. low x };
      low = subst (λ (q : Sequent Symbol). All Low (q ∷ [])) same ((low_start, sheet_all (LowEnvironment 0) cs f low_start), tt);
      derives = subst (λ (q : Sequent Symbol). Derives (lines t.0) (q ∷ [])) same derived;
      written = ap (λ (ls : List (Line Symbol)). reverse_aux (map bare ls) []) t.1;
    })
