-- Definition 6 (vi), (vii): the state derived when the head of a member matches an atom.
use Prim.Native.Nat.{ℕ, suc, ◌<◌}
use mathlib.Core.Path.{◌≡◌, refl, sym, ◌∙◌, ap, ap₂, subst}
use mathlib.Core.List.{List, [], ◌++◌, map}
use native.Mathlib.Omega.{arith}
use Rattle.terms.specs.Lists.{All}
use Rattle.terms.specs.Terms.{Term, leaf, Terms, substitute, substitutes}
use Rattle.terms.proofs.Lists.{all_append, all_weaken, map_append}
use Rattle.terms.proofs.Terms.{substitutes_substitutes}
use Rattle.formulas.specs.Formulas.{Goal, Clause}
use Rattle.formulas.specs.Rules.{Rules}
use Rattle.sequents.specs.Sequents.{put_environment, Entry, entries, Sequent, body_sequent, Dclause}
use Rattle.sequents.proofs.Sequents.{put_entry}
use Rattle.unification.specs.Store.{Leaf, var, Store, past, fresh, fresh_variables, at, solution}
use Rattle.unification.specs.Matching.{pairs}
use Rattle.unification.specs.Labelled.{Labelling}
use Rattle.unification.specs.Promises.{Solved}
use Rattle.unification.proofs.Stores.{past_le}
use Rattle.search.specs.Configurations.{Branch, branch, Atom}
use Rattle.search.specs.Steps.{tried_store, tried_environment}
use Rattle.search.specs.Promises.{tried_atoms, atom_sequent}
use Rattle.search.specs.Paper.{replace_names, embed, apply_g, Elaborated, elabs}
use Rattle.search.specs.Procedure.{PaperSequent, apply_sequent, State, relabel, paper_body, By, paper_of}
use Rattle.search.proofs.PaperApply.{embeds_apply, formulas_at, sequents_composed}
use Rattle.search.proofs.PaperElab.{formula_m, formula_e, elabs_apply}
use Rattle.search.proofs.ProcedureFresh.{numbers, numbers_length, numbers_variables, numbers_below, numbers_new, numbers_distinct}
use Rattle.search.proofs.ProcedureFresh.{fresh_labels, solution_new}
use Rattle.search.proofs.ProcedureRenaming.{fresh_environment, fresh_renaming, Older, fresh_apply, renaming_head, renaming_body}
use Rattle.search.proofs.ProcedurePlaces.{StandsAt, stands_map}
use Rattle.search.proofs.ProcedureReached.{Reached, Takes, reached_by}
use Rattle.search.proofs.ProcedureTried.{Resolving}

-- T3 gives the most general unifier and the labelling of the next state.
pub resolved : {cs : Rules Clause} {g : Goal} {u : ℕ} {s' : Store} {b : Branch}
    → Resolving cs g u (pairs s' []) b → Reached cs g u s' (map paper_of b.goals) b.path
unfolding By apply_g fresh solution formula_m substitute at
resolved {cs} {g} {u} {s'} {b} r =
    subst (λ b. Reached cs g u s' (map paper_of b.goals) b.path) (sym r.way.branch) (reached_by r.reached (record {
      state = S₂;
      takes = takes;
      goals = refl;
      composed = λ x. solved.composed (leaf (var x));
      labels = solved.labels;
      constants = r.reached.constants;
      variables = subst (λ n. All (λ x. x < n) (ws ++ S₁.variables)) (sym solved.next) low;
    }))
  where
    s : Store
    s = r.way.store

    a : Atom
    a = r.way.atom

    m : Entry Leaf
    m = r.way.member

    k : ℕ
    k = r.way.k

    before : Branch
    before = r.way.before

    S : ℕ → Term Leaf
    S = solution s

    n : ℕ
    n = s.next

    vs : List ℕ
    vs = m.member.prefix

    -- The fresh variables have the numbers ws and are unbound.
    ws : List ℕ
    ws = numbers vs n

    unbound : Older S n
    unbound = solution_new s r.way.trying.formed

    -- The state before is S₁, and L is its labelling with the labels of the fresh variables.
    S₁ : State
    S₁ = r.reached.follows.state

    L : Labelling
    L = relabel ws a.level S₁.labels

    solved : Solved L (tried_store s a m) (tried_atoms s a m) s'
    solved = (r.way.trying.matches L (fresh_labels vs a.level s S₁.labels r.reached.follows.labels)).solved
        (suc r.way.acts) s' r.way.comes

    -- The state after is S₂, with the member's body in front of the goals that waited.
    body : List (Sequent Leaf)
    body = body_sequent m.member.body (tried_environment s m) a.program a.level

    S₂ : State
    S₂ = record {
      goals = map (apply_sequent (solution s')) (map paper_of (body ++ before.goals));
      constants = S₁.constants;
      variables = ws ++ S₁.variables;
      labels = solved.labelling;
      substitution = solved.mgu;
    }

    low : All (λ x. x < past vs n) (ws ++ S₁.variables)
    low =
        all_append (λ x. x < past vs n) ws S₁.variables (numbers_below vs n)
        (all_weaken (λ x. x < n) (λ x. x < past vs n) (λ x l. let p = past_le vs n in omega arith) S₁.variables r.reached.variables)

    -- The member of elab(𝒫) stands at its place k.
    member : Elaborated
    member = formula_e (put_entry (at S) m)

    stands : StandsAt 1 (elabs (formulas_at S a.program).clauses) k member
    stands =
        subst (λ l. StandsAt 1 l k member) (sym (elabs_apply a.program S))
        (stands_map (λ e. formula_e (put_entry (at S) e)) 1 (entries a.program) k m (r.way.trying.within, r.way.trying.stands))

    -- The member's head is renamed by the fresh variables.
    arguments : Terms Leaf
    arguments = substitutes m.member.arguments (tried_environment s m)

    applied : substitutes arguments (at S) ≡ substitutes m.member.arguments
        (fresh_environment vs n (put_environment (at S) m.environment))
    applied =
        substitutes_substitutes m.member.arguments (tried_environment s m) (at S)
        ∙ ap (substitutes m.member.arguments) (fresh_apply S vs n m.environment unbound)

    head : substitutes member.arguments (replace_names (fresh_renaming vs n)) ≡ substitutes (substitutes arguments (at S)) embed
    head =
        renaming_head m.member.arguments vs n (put_environment (at S) m.environment) ∙ ap (λ ts. substitutes ts embed) (sym applied)

    -- The member's body, renamed, stands in front of the other goals.
    rest : List PaperSequent
    rest = map (apply_sequent S) (map paper_of before.goals)

    split : map (apply_sequent S) (map paper_of (body ++ before.goals)) ≡ map (apply_sequent S) (map paper_of body) ++ rest
    split =
        ap (map (apply_sequent S)) (map_append paper_of body before.goals)
        ∙ map_append (apply_sequent S) (map paper_of body) (map paper_of before.goals)

    goals : map (apply_sequent solved.mgu.to)
        (paper_body member.body (fresh_renaming vs n) (formulas_at S a.program) a.level ++ rest) ≡ S₂.goals
    goals =
        ap (λ l. map (apply_sequent solved.mgu.to) (l ++ rest))
        (renaming_body m.member.body vs n m.environment a.program a.level S unbound)
        ∙ ap (map (apply_sequent solved.mgu.to)) (sym split)
        ∙ sequents_composed S solved.mgu.to (solution s') solved.composed (body ++ before.goals)

    takes : Takes s (atom_sequent a) (map paper_of before.goals) (Dclause k (fresh_variables vs n)) S₁ S₂
    takes = record {
      clause = member;
      within = stands.0;
      ws = ws;
      many = numbers_length vs n;
      new = numbers_new vs n S₁.variables r.reached.variables;
      distinct = numbers_distinct vs n;
      line = ap₂ Dclause (sym stands.1) (numbers_variables vs n);
      left = substitutes a.arguments (at S);
      right = substitutes arguments (at S);
      is_left = embeds_apply a.arguments S;
      is_right = head;
      σ = solved.mgu;
      general = solved.general;
      goals = sym goals;
      constants = refl;
      variables = refl;
      substitution = refl;
      labels = solved.induced;
    }
