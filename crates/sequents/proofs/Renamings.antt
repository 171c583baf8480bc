-- Derivations, as lines and as trees, are stable under changes of symbols that keep kind and level.
use Prim.Native.Nat.{ℕ, suc, ◌≤◌}
use mathlib.Core.Path.{◌≡◌, refl, sym, ◌∙◌, ap, subst}
use mathlib.Core.List.{List, [], ◌∷◌, ◌++◌, map}
use mathlib.Core.Logic.{inl, inr}
use Rattle.terms.specs.Terms.{Term, leaf, substitute, substitutes}
use Rattle.terms.proofs.Lists.{all_map, length_map, mem_map, place_map, map_append}
use Rattle.terms.proofs.Terms.{level_rename}
use Rattle.formulas.specs.Formulas.{Goal, atom, truth, and, or, implies, exists, forall}
use Rattle.sequents.specs.Symbols.{Symbol, made, leftover, symbol_level, Ground, level}
use Rattle.sequents.specs.Sequents.{Environment, Program, Entry, Sequent, sequent, assign, body_sequent, Line, Dclause, put_terms}
use Rattle.sequents.specs.Sequents.{put_environment, put_program, put_line}
use Rattle.sequents.specs.Derivations.{Instantiates, lines}
use Rattle.sequents.specs.Lines.{Uses, Infers, Leads}
use Rattle.sequents.specs.Renamings.{Renaming, rename, renamed, rename_sequent, rename_line}
use Rattle.sequents.specs.Promises.{Renames}
use Rattle.sequents.proofs.Sequents.{put_entry, entries_put, assume_put, update_put, assign_put, body_put, arguments_put}
use Rattle.sequents.proofs.Lines.{trees_are_lines}

-- Renaming keeps the level of a symbol.
rename_symbol_level : (r : Renaming) (s : Symbol) → symbol_level (rename r s) ≡ symbol_level s
unfolding rename symbol_level
rename_symbol_level r (made n k) = refl
rename_symbol_level r (leftover n k) = refl

-- Renaming keeps a bound on the level of a term.
pub rename_level : (r : Renaming) (i : ℕ) (t : Ground) → level t ≤ i → level (substitute t (renamed r)) ≤ i
unfolding level
rename_level r i t h = rw (level_rename t (rename r) symbol_level symbol_level (rename_symbol_level r)) h

-- Renamed terms for a prefix are terms for it.
rename_instantiates : (r : Renaming) (vs : List ℕ) (ts : List Ground) (i : ℕ) → Instantiates vs ts i
    → Instantiates vs (put_terms (renamed r) ts) i
rename_instantiates r vs ts i h = record {
  many = length_map (λ t. substitute t (renamed r)) ts ∙ h.many;
  low = all_map (λ t. substitute t (renamed r)) (λ t. level t ≤ i) (λ t. level t ≤ i) (rename_level r i) ts h.low;
}

-- A line that is a step stays one when renamed.
pub infers_rename : (r : Renaming) (x : Line Symbol) (g : Goal) (e : Environment Symbol) (P : Program Symbol) (i : ℕ)
    (K L : List (Sequent Symbol) → Type 0)
    → ((new : List (Sequent Symbol)) → K new → L (map (rename_sequent r) new)) → Infers x g e P i K
    → Infers (rename_line r x) g (put_environment (renamed r) e) (put_program (renamed r) P) i L
unfolding Infers put_line rename substitute
infers_rename r x (atom p us) e P i K L f u =
    let θ : Symbol → Term Symbol = renamed r in
    let m = u.used in
    let vs = m.member.prefix in
    let environment = assign_put θ vs u.terms m.environment in
    subst (λ (l : List (Entry Symbol)). Uses (rename_line r x) l 1 p (substitutes us (put_environment θ e)) (put_program θ P) i L)
    (sym (entries_put θ P.clauses)) (record {
      used = put_entry θ m;
      at = mem_map (put_entry θ) u.at;
      terms = put_terms θ u.terms;
      line = ap (rename_line r) u.line ∙ ap (λ (k : ℕ). Dclause k (put_terms θ u.terms)) (sym (place_map (put_entry θ) 1 u.at));
      instantiates = rename_instantiates r vs u.terms i u.instantiates;
      predicate = u.predicate;
      arguments =
          arguments_put θ us m.member.arguments e (assign vs u.terms m.environment) u.arguments
          ∙ ap (substitutes m.member.arguments) environment;
      premises = subst (λ (h : Environment Symbol). L (body_sequent m.member.body h (put_program θ P) i)) environment
          (subst L (body_put θ m.member.body (assign vs u.terms m.environment) P i) (f _ u.premises));
    })
infers_rename r x truth e P i K L f u = (ap (rename_line r) u.0, f [] u.1)
infers_rename r x (and a b) e P i K L f u = (ap (rename_line r) u.0, f _ u.1)
infers_rename r x (or a b) e P i K L f (inl u) = inl (ap (rename_line r) u.0, f _ u.1)
infers_rename r x (or a b) e P i K L f (inr u) = inr (ap (rename_line r) u.0, f _ u.1)
infers_rename r x (implies c g) e P i K L f u = (
  ap (rename_line r) u.0,
  subst (λ (Q : Program Symbol). L (sequent g (put_environment (renamed r) e) Q i ∷ [])) (assume_put (renamed r) c e P) (f _ u.1),
)
infers_rename r x (exists v g) e P i K L f u = (
  substitute u.0 (renamed r),
  ap (rename_line r) u.1,
  rename_level r i u.0 u.2,
  subst (λ (h : Environment Symbol). L (sequent g h (put_program (renamed r) P) i ∷ [])) (update_put (renamed r) e v u.0) (f _ u.3),
)
infers_rename r x (forall v g) e P i K L f u = (
  r.of_made u.0 (suc i),
  ap (rename_line r) u.1,
  subst (λ (h : Environment Symbol). L (sequent g h (put_program (renamed r) P) (suc i) ∷ []))
      (update_put (renamed r) e v (leaf (made u.0 (suc i)))) (f _ u.2),
)

-- Lines that lead from sequents to others lead, renamed, from the renamed sequents to the renamed others.
pub leads_rename : (r : Renaming) (ls : List (Line Symbol)) (gs rest : List (Sequent Symbol)) → Leads ls gs rest
    → Leads (map (rename_line r) ls) (map (rename_sequent r) gs) (map (rename_sequent r) rest)
unfolding Leads
leads_rename r [] gs rest h = ap (map (rename_sequent r)) h
leads_rename r (x ∷ ls) [] rest h = absurd h
leads_rename r (x ∷ ls) (g ∷ gs) rest h =
    infers_rename r x g.goal g.environment g.program g.level (λ new. Leads ls (new ++ gs) rest)
    (λ new. Leads (map (rename_line r) ls) (new ++ map (rename_sequent r) gs) (map (rename_sequent r) rest))
    (λ new k. subst (λ (hs : List (Sequent Symbol)). Leads (map (rename_line r) ls) hs (map (rename_sequent r) rest))
    (map_append (rename_sequent r) new gs)
    (leads_rename r ls (new ++ gs) rest k)) h

-- Every renaming carries derivations, as trees and as lines, to derivations.
pub renames : (r : Renaming) → Renames r
renames r = record {
  tree = λ P g e i d. (trees_are_lines (rename_sequent r (sequent g e P i))).lines_tree (map (rename_line r) (lines d))
      (leads_rename r (lines d) (sequent g e P i ∷ []) [] ((trees_are_lines (sequent g e P i)).tree_lines d));
  leads = leads_rename r;
}
