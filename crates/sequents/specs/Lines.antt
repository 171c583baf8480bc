-- Derivations as lines: what a D line does to the first of a list of sequents. Equivalent to the trees (proofs/Lines.antt).
use Rattle.std.specs.Prelude.{ℕ, suc, ◌≤◌, ◌≡◌, List, [], ◌∷◌, ◌++◌, ◌⊎◌}
use Rattle.terms.specs.Lists.{Mem, place, update}
use Rattle.terms.specs.Terms.{leaf, Terms, substitutes}
use Rattle.formulas.specs.Formulas.{Goal, atom, truth, and, or, implies, exists, forall}
use Rattle.formulas.specs.Members.{Member}
use Rattle.formulas.specs.Rules.{assume}
use Rattle.sequents.specs.Symbols.{Symbol, made, Ground, level}
use Rattle.sequents.specs.Sequents.{Environment, Program, hypothesis, Entry, entries, Sequent, sequent, assign, body_sequent, Word}
use Rattle.sequents.specs.Sequents.{Dtrue, Dand, Dleft, Dright, Dassume, Line, plain, Dsome, Dall, Dclause}
use Rattle.sequents.specs.Derivations.{Instantiates}

-- The line uses one of the members l, whose places count from k, on the atom; K holds of the sequents that are left to derive.
pub record Uses (x : Line Symbol) (l : List (Entry Symbol)) (k p : ℕ) (us : Terms Symbol) (P : Program Symbol) (i : ℕ)
    (K : List (Sequent Symbol) → Type 0) : Type 0 where
  pub used : Entry Symbol
  pub at : Mem used l
  pub terms : List Ground
  pub line : x ≡ Dclause (place k at) terms
  pub instantiates : Instantiates used.member.prefix terms i
  pub predicate : p ≡ used.member.predicate
  pub arguments : us ≡ substitutes used.member.arguments (assign used.member.prefix terms used.environment)
  pub premises : K (body_sequent used.member.body (assign used.member.prefix terms used.environment) P i)

-- The line is a step for the sequent P ⟶ g at level i; K holds of what it leaves to derive.
unfoldable pub Infers : Line Symbol → Goal → Environment Symbol → Program Symbol → ℕ → (List (Sequent Symbol) → Type 0) → Type 0
Infers x (atom p us) e P i K = Uses x (entries P) 1 p (substitutes us e) P i K
Infers x truth e P i K = (x ≡ plain Dtrue) × K []
Infers x (and a b) e P i K = (x ≡ plain Dand) × K (sequent a e P i ∷ sequent b e P i ∷ [])
Infers x (or a b) e P i K = ((x ≡ plain Dleft) × K (sequent a e P i ∷ [])) ⊎ ((x ≡ plain Dright) × K (sequent b e P i ∷ []))
Infers x (implies c g) e P i K = (x ≡ plain Dassume) × K (sequent g e (assume (hypothesis c e) P) i ∷ [])
Infers x (exists v g) e P i K = (t : Ground) × (x ≡ Dsome t) × (level t ≤ i) × K (sequent g (update e v t) P i ∷ [])
Infers x (forall v g) e P i K =
    (n : ℕ) × (x ≡ Dall (leaf (made n (suc i)))) × K (sequent g (update e v (leaf (made n (suc i)))) P (suc i) ∷ [])

-- The lines lead from the sequents gs, always the first being taken, to the sequents rest that are left to derive.
unfoldable pub Leads : List (Line Symbol) → List (Sequent Symbol) → List (Sequent Symbol) → Type 0
Leads [] gs rest = gs ≡ rest
Leads (x ∷ ls) [] rest = ⊥
Leads (x ∷ ls) (g ∷ gs) rest = Infers x g.goal g.environment g.program g.level (λ new. Leads ls (new ++ gs) rest)

-- The lines derive the sequents.
abbrev pub Derives : List (Line Symbol) → List (Sequent Symbol) → Type 0
Derives ls gs = Leads ls gs []
