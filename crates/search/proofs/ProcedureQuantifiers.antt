-- Definition 6 (iii) and (v): a quantified goal is taken, with a new variable or a new constant.
use Prim.Native.Nat.{ℕ, suc, ◌<◌}
use mathlib.Core.Path.{refl, sym, ap}
use mathlib.Core.List.{List, [], ◌∷◌, map}
use native.Mathlib.Omega.{arith}
use Rattle.terms.specs.Lists.{update}
use Rattle.terms.specs.Terms.{leaf, substitute}
use Rattle.terms.proofs.Lists.{all_weaken, all_mem}
use Rattle.formulas.specs.Formulas.{Goal, exists, forall, Clause}
use Rattle.formulas.specs.Rules.{Rules}
use Rattle.sequents.specs.Sequents.{Environment, Program, sequent, Line, Dsome, Dall}
use Rattle.unification.specs.Store.{Leaf, var, con, Store, past, fresh, at, solution}
use Rattle.unification.specs.Promises.{Formed}
use Rattle.search.specs.Paper.{G, free, bound, replace, embed, apply_g, formula_g, names}
use Rattle.search.specs.Procedure.{PaperSequent, paper_sequent, apply_sequent, State, identity, relabel, By, paper_of}
use Rattle.search.proofs.PaperApply.{formulas_at, apply_identity}
use Rattle.search.proofs.PaperReplace.{replace_apply}
use Rattle.search.proofs.ProcedureFresh.{numbers, not_below, fresh_labels, solution_new}
use Rattle.search.proofs.ProcedureReached.{Reached, constants_more, reached_by}

-- The goals gs with k in front, at level j, bindings applied.
abbrev infront : Store → Program Leaf → List PaperSequent → G → ℕ → List PaperSequent
infront s P gs k j = paper_sequent k (formulas_at (solution s) P) j ∷ map (apply_sequent (solution s)) gs

module _ {cs : Rules Clause} {g₀ : Goal} {u : ℕ} {s : Store} {gs : List PaperSequent} {path : List (Line Leaf)}
    (v : ℕ) (g : Goal) (e : Environment Leaf) (P : Program Leaf) (i : ℕ) where
  -- (iii): the variable is the store's next one.
  pub exists_reached : Formed s → Reached cs g₀ u s (paper_of (sequent (exists v g) e P i) ∷ gs) path
      → Reached cs g₀ (suc u) (fresh (v ∷ []) i s) (paper_of (sequent g (update e v (leaf (var s.next))) P i) ∷ gs)
      (Dsome (leaf (var s.next)) ∷ path)
  unfolding paper_of formula_g apply_g By identity fresh past relabel numbers solution substitute at embed
  exists_reached f r = reached_by r (record {
    state = record {
      goals = infront s P gs (replace (apply_g (formula_g g (bound (names e) v)) (solution s)) v (leaf (free (var n)))) i;
      constants = S₁.constants;
      variables = n ∷ S₁.variables;
      labels = update S₁.labels n i;
      substitution = identity;
    };
    takes = (n, refl, not_below n S₁.variables r.variables n (omega arith), refl);
    goals = ap (λ k. infront s P gs k i) (replace_apply g e v (leaf (var n)) (solution s) (solution_new s f n (omega arith)));
    composed = λ y. sym (apply_identity (solution s y));
    labels = fresh_labels (v ∷ []) i s S₁.labels r.follows.labels;
    constants = constants_more u S₁.constants r.constants;
    variables = (omega arith, all_weaken (λ x. x < n) (λ x. x < suc n) (λ x l. omega arith) S₁.variables r.variables);
  })
    where
      n : ℕ
      n = s.next

      S₁ : State
      S₁ = r.follows.state

  -- (v): the constant has the number of the act.
  pub forall_reached : Reached cs g₀ u s (paper_of (sequent (forall v g) e P i) ∷ gs) path
      → Reached cs g₀ (suc u) s (paper_of (sequent g (update e v (leaf (con u (suc i)))) P (suc i)) ∷ gs)
      (Dall (leaf (con u (suc i))) ∷ path)
  unfolding paper_of formula_g apply_g By identity substitute at embed
  forall_reached r = reached_by r (record {
    state = record {
      goals = infront s P gs (replace (apply_g (formula_g g (bound (names e) v)) (solution s)) v (leaf (free (con u (suc i))))) (suc i);
      constants = (u, suc i) ∷ S₁.constants;
      variables = S₁.variables;
      labels = S₁.labels;
      substitution = identity;
    };
    takes = (u, refl, (λ m. let q : u < u = all_mem (λ c. c.0 < u) S₁.constants (u, suc i) r.constants m in omega arith), refl);
    goals = ap (λ k. infront s P gs k (suc i)) (replace_apply g e v (leaf (con u (suc i))) (solution s) refl);
    composed = λ y. sym (apply_identity (solution s y));
    labels = r.follows.labels;
    constants = (omega arith, constants_more u S₁.constants r.constants);
    variables = r.variables;
  })
    where
      S₁ : State
      S₁ = r.follows.state
