-- Document 003, section 5: definitions 6, 7 and 8. Sets are lists: 𝒢 in document 01's order, 𝒫 in the order in force, 𝒞 the
-- made constants (function symbols have label 0 and are never new), 𝒱 the variables.
use Rattle.std.specs.Prelude.{ℕ, suc, ◌≡◌, refl, Bool, true, false, List, [], ◌∷◌, ◌++◌, map, ◌⊎◌, length}
use Rattle.std.proofs.Math.Option.{Option, none, some}
use Rattle.terms.specs.Lists.{All, Mem, place, update}
use Rattle.terms.specs.Terms.{sheet_symbol, Term, leaf, app, Terms, substitute, substitutes}
use Rattle.formulas.specs.Formulas.{Goal, Clause, free_variables}
use Rattle.formulas.specs.Rules.{Rules, assume, map_rules}
use Rattle.sequents.specs.Symbols.{Symbol}
use Rattle.sequents.specs.Sequents.{Environment, Hypothesis, Program, Sequent, Word, Dtrue, Dand, Dleft, Dright, Dassume, Line, plain}
use Rattle.sequents.specs.Sequents.{Dsome, Dall, Dclause}
use Rattle.sequents.specs.Derivations.{sheet_program}
use Rattle.unification.specs.Store.{Leaf, var, con, at, apply}
use Rattle.unification.specs.Labelled.{Substitution, Labelling, Induced, MostGeneral}
use Rattle.search.specs.Paper.{PaperLeaf, name, free, Names, replace_names, embed, G, g_atom, g_true, g_and, g_or, g_implies, g_exists}
use Rattle.search.specs.Paper.{g_forall, D, put_g, replace, apply_g, apply_d, formula_g, formula_d, names, Elaborated, elabs}
use Rattle.search.specs.Search.{start_environment}
use Rattle.search.specs.Answers.{symbol_under}

-- A sequent of the paper is ⟨G, 𝒫, I⟩.
pub record PaperSequent : Type 0 where
  pub goal : G
  pub program : Rules D
  pub level : ℕ

abbrev pub paper_sequent : G → Rules D → ℕ → PaperSequent
paper_sequent g P i = record { goal = g; program = P; level = i }

-- Applies σ to ⟨G, 𝒫, I⟩.
abbrev pub apply_sequent : (ℕ → Term Leaf) → PaperSequent → PaperSequent
apply_sequent σ q = paper_sequent (apply_g q.goal σ) (map_rules (λ d. apply_d d σ) q.program) q.level

-- A state is ⟨𝒢, 𝒞, 𝒱, ℒ, θ⟩.
pub record State : Type 0 where
  pub goals : List PaperSequent
  pub constants : List (ℕ × ℕ)
  pub variables : List ℕ
  pub labels : Labelling
  pub substitution : Substitution

-- The substitution ∅ maps each variable to itself.
unfoldable pub identity : Substitution
identity = record { to = λ x. leaf (var x); beyond = 0; finite = λ x h. refl }

-- 𝒢 changes, all else stays, and θ is ∅.
abbrev pub only_goals : State → List PaperSequent → State
only_goals S gs = record { goals = gs; constants = S.constants; variables = S.variables; labels = S.labels; substitution = identity }

-- The renaming substitution {⟨x₁, w₁⟩, …} on names.
unfoldable pub renaming : List ℕ → List ℕ → Names → Names
renaming [] ws ρ = ρ
renaming (v ∷ vs) [] ρ = ρ
renaming (v ∷ vs) (w ∷ ws) ρ = renaming vs ws (update ρ v (leaf (free (var w))))

-- "like L except that it maps each wᵢ to I"
unfoldable pub relabel : List ℕ → ℕ → Labelling → Labelling
relabel [] i L = L
relabel (w ∷ ws) i L = relabel ws i (update L w i)

unfoldable pub Distinct : List ℕ → Type 0
Distinct [] = Unit {0}
Distinct (w ∷ ws) = (Mem w ws → ⊥) × Distinct ws

unfoldable pub paper_body : Option G → Names → Rules D → ℕ → List PaperSequent
paper_body none ρ P i = []
paper_body (some g) ρ P i = paper_sequent (put_g g ρ) P i ∷ []

-- (vi) and (vii): a member of elab(𝒫), the line naming its place and the new variables. Outside a quantifier terms have no
-- names: they are terms of the search (left, right).
pub record Resolved (x : Line Leaf) (p : ℕ) (ts : Terms PaperLeaf) (P : Rules D) (i : ℕ) (before after : List PaperSequent)
    (S₁ S₂ : State) : Type 0 where
  pub clause : Elaborated
  pub within : Mem clause (elabs P.clauses)
  pub ws : List ℕ
  pub many : length ws ≡ length clause.prefix
  pub new : All (λ w. Mem w S₁.variables → ⊥) ws
  pub distinct : Distinct ws
  pub line : x ≡ Dclause (place 1 within) (map (λ w. leaf (var w)) ws)
  pub left : Terms Leaf
  pub right : Terms Leaf
  pub is_left : ts ≡ substitutes left embed
  pub is_right : substitutes clause.arguments (replace_names (renaming clause.prefix ws (λ v. leaf (name v)))) ≡ substitutes right
      embed
  pub σ : Substitution
  pub general : MostGeneral (relabel ws i S₁.labels) (record { goal = app (sheet_symbol p) left; clause = app (sheet_symbol clause.predicate) right } ∷ []) σ
  pub goals : S₂.goals ≡ map (apply_sequent σ.to)
      (before ++ (paper_body clause.body (renaming clause.prefix ws (λ v. leaf (name v))) P i ++ after))
  pub constants : S₂.constants ≡ S₁.constants
  pub variables : S₂.variables ≡ ws ++ S₁.variables
  pub substitution : S₂.substitution ≡ σ
  pub labels : Induced (relabel ws i S₁.labels) σ S₂.labels

-- Definition 6, the sequent taken being ⟨G, P, i⟩ between before and after, and the D line naming the case.
unfoldable pub By : Line Leaf → G → Rules D → ℕ → List PaperSequent → List PaperSequent → State → State → Type 0
-- The case of true is added by document 01.
By x g_true P i before after S₁ S₂ = (x ≡ plain Dtrue) × (S₂ ≡ only_goals S₁ (before ++ after))
-- Case (i) is that of a conjunction.
By x (g_and a b) P i before after S₁ S₂ = (x ≡ plain Dand) × (S₂ ≡ only_goals S₁ (before ++ paper_sequent a P i ∷ paper_sequent b P i ∷ after))
-- Case (ii) is that of a disjunction.
By x (g_or a b) P i before after S₁ S₂ = ((x ≡ plain Dleft) × (S₂ ≡ only_goals S₁ (before ++ paper_sequent a P i ∷ after)))
    ⊎ ((x ≡ plain Dright) × (S₂ ≡ only_goals S₁ (before ++ paper_sequent b P i ∷ after)))
-- Case (iii) is that of an existential goal.
By x (g_exists v g) P i before after S₁ S₂ = (w : ℕ) × (x ≡ Dsome (leaf (var w))) × (Mem w S₁.variables → ⊥) × (S₂ ≡ record {
  goals = before ++ paper_sequent (replace g v (leaf (free (var w)))) P i ∷ after;
  constants = S₁.constants;
  variables = w ∷ S₁.variables;
  labels = update S₁.labels w i;
  substitution = identity;
})
-- Case (iv) is that of an implication.
By x (g_implies d g) P i before after S₁ S₂ = (x ≡ plain Dassume) × (S₂ ≡ only_goals S₁ (before ++ paper_sequent g (assume d P) i ∷ after))
-- Case (v) is that of a universal goal.
By x (g_forall v g) P i before after S₁ S₂ =
    (c : ℕ) × (x ≡ Dall (leaf (con c (suc i)))) × (Mem (c, suc i) S₁.constants → ⊥) × (S₂ ≡ record {
      goals = before ++ paper_sequent (replace g v (leaf (free (con c (suc i))))) P (suc i) ∷ after;
      constants = (c, suc i) ∷ S₁.constants;
      variables = S₁.variables;
      labels = S₁.labels;
      substitution = identity;
    })
-- Cases (vi) and (vii) are those of an atom.
By x (g_atom p ts) P i before after S₁ S₂ = Resolved x p ts P i before after S₁ S₂

-- S₂ is derived from S₁ by definition 6, whichever sequent is taken.
pub record Derived (x : Line Leaf) (S₁ S₂ : State) : Type 0 where
  pub before : List PaperSequent
  pub taken : PaperSequent
  pub after : List PaperSequent
  pub split : S₁.goals ≡ before ++ taken ∷ after
  pub by : By x taken.goal taken.program taken.level before after S₁ S₂

-- Document 01: "Always the front goal is taken, and what replaces it stands in front".
pub record DerivedInFront (x : Line Leaf) (S₁ S₂ : State) : Type 0 where
  pub derived : Derived x S₁ S₂
  pub front : derived.before ≡ []

-- Definition 7: a derivation sequence, its lines latest first: from S₀ to S by the states between.
pub data DerivationSequence (S₀ : State) : List (Line Leaf) → State → Type 0 where
  start : DerivationSequence S₀ [] S₀
  then : {ls : List (Line Leaf)} {S₁ S₂ : State} (x : Line Leaf) → DerivationSequence S₀ ls S₁ → DerivedInFront x S₁ S₂
      → DerivationSequence S₀ (x ∷ ls) S₂

-- The composition of the sequence's substitutions is θₙ ∘ … ∘ θ₁.
unfoldable pub composition : {S₀ : State} {ls : List (Line Leaf)} {S : State} → DerivationSequence S₀ ls S → ℕ → Term Leaf
composition {S₀ = S₀} start x = S₀.substitution.to x
composition (then {S₂ = S₂} l d h) x = apply (composition d x) S₂.substitution.to

-- Definition 8: the answer substitution, on all leaves and with final labels: an unbound variable is a leftover variable.
unfoldable pub answer_of : {S₀ : State} {ls : List (Line Leaf)} {S : State} → DerivationSequence S₀ ls S → Leaf → Term Symbol
answer_of {S = S} d l = substitute (at (composition d) l) (symbol_under S.labels)

-- Definition 8: the first state for a goal relative to a program; 𝒱₁ is the goal's free variables.
unfoldable pub formulas_of : Program Leaf → Rules D
formulas_of P = map_rules (λ h. formula_d h.clause (names h.environment)) P

unfoldable pub paper_of : Sequent Leaf → PaperSequent
paper_of g = paper_sequent (formula_g g.goal (names g.environment)) (formulas_of g.program) g.level

unfoldable pub initial : Rules Clause → Goal → State
initial cs g = record {
  goals = paper_sequent (formula_g g (names start_environment)) (formulas_of (sheet_program cs start_environment)) 0 ∷ [];
  constants = [];
  variables = free_variables g;
  labels = λ x. 0;
  substitution = identity;
}
