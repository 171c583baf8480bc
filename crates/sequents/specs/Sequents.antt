-- Document 01, "The walk" and "Derivations": goals with their environments, programs, sequents, D lines. All over the
-- leaves of their terms: the search has them with logic variables, a derivation without.
use Rattle.std.specs.Prelude.{ℕ, List, [], ◌∷◌, ◌++◌, map}
use Rattle.std.proofs.Math.Option.{Option, none, some}
use Rattle.terms.specs.Lists.{update}
use Rattle.terms.specs.Terms.{Term, substitute}
use Rattle.formulas.specs.Formulas.{Goal, Clause}
use Rattle.formulas.specs.Members.{Member, members}
use Rattle.formulas.specs.Rules.{Rules, map_rules}

-- What the names of a formula stand for.
abbrev pub Environment : Type 0 → Type 0
Environment A = ℕ → Term A

-- A clause of a program, with what its free names stand for.
pub record Hypothesis (A : Type 0) : Type 0 where
  pub clause : Clause
  pub environment : Environment A

-- The sheet's clauses and the assumptions in trying order.
abbrev pub Program : Type 0 → Type 0
Program A = Rules (Hypothesis A)

abbrev pub hypothesis : {A : Type 0} → Clause → Environment A → Hypothesis A
hypothesis c e = record { clause = c; environment = e }

-- A member of a program's clause, with the environment of that clause.
pub record Entry (A : Type 0) : Type 0 where
  pub member : Member
  pub environment : Environment A

abbrev pub entry : {A : Type 0} → Environment A → Member → Entry A
entry e m = record { member = m; environment = e }

-- "members are tried in turn": those of one clause left to right, whatever the order of clauses.
unfoldable pub entries_of : {A : Type 0} → List (Hypothesis A) → List (Entry A)
entries_of [] = []
entries_of (h ∷ P) = map (entry h.environment) (members h.clause) ++ entries_of P

abbrev pub entries : {A : Type 0} → Program A → List (Entry A)
entries P = entries_of P.clauses

-- "A sequent has a program, a goal and a level I." In the search it is an open goal, which "carries its program and its level I".
pub record Sequent (A : Type 0) : Type 0 where
  pub goal : Goal
  pub environment : Environment A
  pub program : Program A
  pub level : ℕ

abbrev pub sequent : {A : Type 0} → Goal → Environment A → Program A → ℕ → Sequent A
sequent g e P i = record { goal = g; environment = e; program = P; level = i }

-- The names of a prefix, outermost first, stand for the terms.
unfoldable pub assign : {A : Type 0} → List ℕ → List (Term A) → Environment A → Environment A
assign [] ts e = e
assign (v ∷ vs) [] e = e
assign (v ∷ vs) (t ∷ ts) e = assign vs ts (update e v t)

-- "the body, if any, is the new goal"
unfoldable pub body_sequent : {A : Type 0} → Option Goal → Environment A → Program A → ℕ → List (Sequent A)
body_sequent none e P i = []
body_sequent (some g) e P i = sequent g e P i ∷ []

-- The D lines of an answer text: five words that stand alone, a witness, a constant, the use of a member.
pub data Word : Type 0 where
  Dtrue Dand Dleft Dright Dassume : Word

pub data Line (A : Type 0) : Type 0 where
  plain : Word → Line A
  Dsome : Term A → Line A
  Dall : Term A → Line A
  Dclause : ℕ → List (Term A) → Line A

-- Another term for each leaf, in all that holds terms.
abbrev pub put_terms : {A B : Type 0} → (A → Term B) → List (Term A) → List (Term B)
put_terms θ ts = map (λ t. substitute t θ) ts

abbrev pub put_environment : {A B : Type 0} → (A → Term B) → Environment A → Environment B
put_environment θ e = λ v. substitute (e v) θ

abbrev pub put_hypothesis : {A B : Type 0} → (A → Term B) → Hypothesis A → Hypothesis B
put_hypothesis θ h = record { clause = h.clause; environment = put_environment θ h.environment }

abbrev pub put_program : {A B : Type 0} → (A → Term B) → Program A → Program B
put_program θ P = map_rules (put_hypothesis θ) P

abbrev pub put_sequent : {A B : Type 0} → (A → Term B) → Sequent A → Sequent B
put_sequent θ g = sequent g.goal (put_environment θ g.environment) (put_program θ g.program) g.level

unfoldable pub put_line : {A B : Type 0} → (A → Term B) → Line A → Line B
put_line θ (plain w) = plain w
put_line θ (Dsome t) = Dsome (substitute t θ)
put_line θ (Dall t) = Dall (substitute t θ)
put_line θ (Dclause k ts) = Dclause k (put_terms θ ts)
