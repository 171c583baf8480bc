-- Document 01, "Derivations": "The rules read as the walk's, with E given any term whose symbols have level at most I, U any
-- made constant of level I + 1, | either side, and an atom equal to the head of a member with such terms for its prefix, the
-- instance of its body derivable at level I." No constant has to be new: the levels see to it.
use Rattle.std.specs.Prelude.{ℕ, suc, ◌≤◌, ◌≡◌, true, List, [], ◌∷◌, ◌++◌, map, length}
use Rattle.std.proofs.Math.Option.{Option, none, some}
use Rattle.terms.specs.Lists.{All, Mem, place, update}
use Rattle.terms.specs.Terms.{Term, leaf, Terms, substitutes}
use Rattle.formulas.specs.Formulas.{Goal, atom, truth, and, or, implies, exists, forall, Clause, free_g}
use Rattle.formulas.specs.Members.{Member}
use Rattle.formulas.specs.Rules.{Rules, assume, map_rules}
use Rattle.sequents.specs.Symbols.{Symbol, made, Ground, level}
use Rattle.sequents.specs.Sequents.{Environment, Program, hypothesis, Entry, entries, Sequent, sequent, assign, Word, Dtrue, Dand}
use Rattle.sequents.specs.Sequents.{Dleft, Dright, Dassume, Line, plain, Dsome, Dall, Dclause}

-- Terms for a prefix: one for each name, none above the level.
pub record Instantiates (vs : List ℕ) (ts : List Ground) (i : ℕ) : Type 0 where
  pub many : length ts ≡ length vs
  pub low : All (λ t. level t ≤ i) ts

-- P ⟶ g at level i, the free names of g standing for what e says.
mutual
  pub data Derivation : Program Symbol → Goal → Environment Symbol → ℕ → Type 0 where
    d_true : {P : Program Symbol} {e : Environment Symbol} {i : ℕ} → Derivation P truth e i
    d_and : {P : Program Symbol} {a b : Goal} {e : Environment Symbol} {i : ℕ} → Derivation P a e i → Derivation P b e i
        → Derivation P (and a b) e i
    d_left : {P : Program Symbol} {a b : Goal} {e : Environment Symbol} {i : ℕ} → Derivation P a e i → Derivation P (or a b) e i
    d_right : {P : Program Symbol} {a b : Goal} {e : Environment Symbol} {i : ℕ} → Derivation P b e i → Derivation P (or a b) e i
    d_assume : {P : Program Symbol} {c : Clause} {g : Goal} {e : Environment Symbol} {i : ℕ}
        → Derivation (assume (hypothesis c e) P) g e i → Derivation P (implies c g) e i
    d_some : {P : Program Symbol} {v : ℕ} {g : Goal} {e : Environment Symbol} {i : ℕ} (t : Ground) → level t ≤ i
        → Derivation P g (update e v t) i
        → Derivation P (exists v g) e i
    d_all : {P : Program Symbol} {v : ℕ} {g : Goal} {e : Environment Symbol} {i : ℕ} (n : ℕ)
        → Derivation P g (update e v (leaf (made n (suc i)))) (suc i)
        → Derivation P (forall v g) e i
    d_clause : {P : Program Symbol} {p : ℕ} {us : Terms ℕ} {e : Environment Symbol} {i : ℕ} (m : Entry Symbol) (h : Mem m (entries P))
        (ts : List Ground)
        → Instantiates m.member.prefix ts i → p ≡ m.member.predicate
        → substitutes us e ≡ substitutes m.member.arguments (assign m.member.prefix ts m.environment)
        → BodyDerivation P m.member.body (assign m.member.prefix ts m.environment) i → Derivation P (atom p us) e i

  -- A derivation of a body is one of its goal, or nothing if there is no body.
  pub data BodyDerivation : Program Symbol → Option Goal → Environment Symbol → ℕ → Type 0 where
    b_none : {P : Program Symbol} {e : Environment Symbol} {i : ℕ} → BodyDerivation P none e i
    b_some : {P : Program Symbol} {g : Goal} {e : Environment Symbol} {i : ℕ} → Derivation P g e i → BodyDerivation P (some g) e i

abbrev pub Derivable : Sequent Symbol → Type 0
Derivable g = Derivation g.program g.goal g.environment g.level

-- Document 01, "The answer text": the D lines, one for each sequent, in the order taken. "the place counts from 1 among the
-- members at that atom in trying order"
unfoldable mutual
  pub lines : {P : Program Symbol} {g : Goal} {e : Environment Symbol} {i : ℕ} → Derivation P g e i → List (Line Symbol)
  lines d_true = plain Dtrue ∷ []
  lines (d_and x y) = plain Dand ∷ (lines x ++ lines y)
  lines (d_left x) = plain Dleft ∷ lines x
  lines (d_right x) = plain Dright ∷ lines x
  lines (d_assume x) = plain Dassume ∷ lines x
  lines (d_some t l x) = Dsome t ∷ lines x
  lines (d_all {i = i} n x) = Dall (leaf (made n (suc i))) ∷ lines x
  lines (d_clause m h ts l p q x) = Dclause (place 1 h) ts ∷ body_lines x

  pub body_lines : {P : Program Symbol} {o : Option Goal} {e : Environment Symbol} {i : ℕ} → BodyDerivation P o e i → List (Line Symbol)
  body_lines b_none = []
  body_lines (b_some x) = lines x

-- "An instance of the goal has terms of level 0 for its free variables; its derivation starts from the sheet's clauses at
-- level 0." The sheet's clauses have no free variable, so that it does not matter what their names stand for.
unfoldable pub sheet_program : {A : Type 0} → Rules Clause → Environment A → Program A
sheet_program cs e = map_rules (λ c. hypothesis c e) cs

unfoldable pub instance_of : {A : Type 0} → Rules Clause → Goal → Environment A → Sequent A
instance_of cs g e = sequent g e (sheet_program cs e) 0

-- Only the goal's free variables are asked for: what e says of another name is nobody's concern.
pub record InstanceDerivation (cs : Rules Clause) (g : Goal) (e : Environment Symbol) : Type 0 where
  pub level0 : (v : ℕ) → free_g g v ≡ true → level (e v) ≤ 0
  pub derivation : Derivable (instance_of cs g e)
