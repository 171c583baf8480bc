-- Laws of `specs/Sequents.antt` and of instances: to put other terms for the leaves before or after (-put), and what holds of all
-- environments (-all).
use Prim.Native.Nat.{ℕ}
use mathlib.Core.Path.{◌≡◌, refl, sym, ◌∙◌, ap, ap₂}
use mathlib.Core.List.{List, [], ◌∷◌, ◌++◌, map, append_assoc}
use mathlib.Core.Option.{Option, none, some}
use Rattle.terms.specs.Lists.{All, update}
use Rattle.terms.specs.Terms.{Term, Terms, substitute, substitutes}
use Rattle.terms.proofs.Lists.{map_append, map_map, update_map, update_all, all_append}
use Rattle.terms.proofs.Terms.{substitutes_substitutes}
use Rattle.formulas.specs.Formulas.{Goal, Clause}
use Rattle.formulas.specs.Members.{Member, members}
use Rattle.formulas.specs.Rules.{Rules, rules, assume}
use Rattle.formulas.proofs.Rules.{assume_map}
use Rattle.sequents.specs.Sequents.{Environment, Program, Hypothesis, hypothesis, Entry, entry, entries_of, sequent, assign}
use Rattle.sequents.specs.Sequents.{body_sequent, put_terms}
use Rattle.sequents.specs.Sequents.{put_environment, put_hypothesis, put_program, put_sequent}
use Rattle.sequents.specs.Derivations.{sheet_program, instance_of}

-- Another term for each leaf, in a member of a program.
abbrev pub put_entry : {A B : Type 0} → (A → Term B) → Entry A → Entry B
put_entry θ m = record { member = m.member; environment = put_environment θ m.environment }

-- The members of two lists of clauses are those of the first, then those of the second.
pub entries_append : {A : Type 0} (P Q : List (Hypothesis A)) → entries_of (P ++ Q) ≡ entries_of P ++ entries_of Q
unfolding entries_of
entries_append [] Q = refl
entries_append (h ∷ P) Q =
    ap (map (entry h.environment) (members h.clause) ++◌) (entries_append P Q)
    ∙ sym (append_assoc (map (entry h.environment) (members h.clause)) (entries_of P) (entries_of Q))

-- Substituting into the clauses of a program is substituting into its members.
pub entries_put : {A B : Type 0} (θ : A → Term B) (P : List (Hypothesis A))
    → entries_of (map (put_hypothesis θ) P) ≡ map (put_entry θ) (entries_of P)
unfolding entries_of
entries_put θ [] = refl
entries_put θ (h ∷ P) =
    ap₂ ◌++◌ (sym (map_map (entry h.environment) (put_entry θ) (members h.clause))) (entries_put θ P)
    ∙ sym (map_append (put_entry θ) (map (entry h.environment) (members h.clause)) (entries_of P))

-- Substitution goes through the assumption of a clause.
pub assume_put : {A B : Type 0} (θ : A → Term B) (c : Clause) (e : Environment A) (P : Program A)
    → put_program θ (assume (hypothesis c e) P) ≡ assume (hypothesis c (put_environment θ e)) (put_program θ P)
assume_put θ c e P = assume_map (put_hypothesis θ) (hypothesis c e) P

-- Substitution goes through the assignment of a term to a quantifier's name.
pub update_put : {A B : Type 0} (θ : A → Term B) (e : Environment A) (v : ℕ) (t : Term A)
    → put_environment θ (update e v t) ≡ update (put_environment θ e) v (substitute t θ)
update_put θ e v t = update_map (λ u. substitute u θ) e v t

-- Substitution goes through the assignment of terms to the names of a prefix.
pub assign_put : {A B : Type 0} (θ : A → Term B) (vs : List ℕ) (ts : List (Term A)) (e : Environment A)
    → put_environment θ (assign vs ts e) ≡ assign vs (put_terms θ ts) (put_environment θ e)
unfolding assign
assign_put θ [] ts e = refl
assign_put θ (v ∷ vs) [] e = refl
assign_put θ (v ∷ vs) (t ∷ ts) e = assign_put θ vs ts (update e v t) ∙ ap (assign vs (put_terms θ ts)) (update_put θ e v t)

-- Substituting into the sequent of a body is substituting into its environment and program.
pub body_put : {A B : Type 0} (θ : A → Term B) (o : Option Goal) (e : Environment A) (P : Program A) (i : ℕ)
    → map (put_sequent θ) (body_sequent o e P i) ≡ body_sequent o (put_environment θ e) (put_program θ P) i
unfolding body_sequent
body_put θ none e P i = refl
body_put θ (some g) e P i = refl

-- Equal arguments of an atom and of a member stay equal under substitution.
pub arguments_put : {A B : Type 0} (θ : A → Term B) (us ws : Terms ℕ) (e f : Environment A) → substitutes us e ≡ substitutes ws f
    → substitutes us (put_environment θ e) ≡ substitutes ws (put_environment θ f)
arguments_put θ us ws e f h = sym (substitutes_substitutes us e θ) ∙ ap (λ ts. substitutes ts θ) h ∙ substitutes_substitutes ws f θ

-- A property of all terms of an environment and of the terms for a prefix holds after the assignment.
pub assign_all : {A : Type 0} (Q : Term A → Type 0) (vs : List ℕ) (ts : List (Term A)) (e : Environment A) → ((v : ℕ) → Q (e v))
    → All Q ts → (v : ℕ) → Q (assign vs ts e v)
unfolding assign
assign_all Q [] ts e h k = h
assign_all Q (v ∷ vs) [] e h k = h
assign_all Q (v ∷ vs) (t ∷ ts) e h k = assign_all Q vs ts (update e v t) (update_all Q e v t h k.0) k.1

-- A property of the environments of clauses holds of those of their members.
pub entries_all : {A : Type 0} (Q : Environment A → Type 0) (P : List (Hypothesis A)) → All (λ h. Q h.environment) P
    → All (λ m. Q m.environment) (entries_of P)
unfolding entries_of
entries_all Q [] k = tt
entries_all Q (h ∷ P) k =
    all_append (λ m. Q m.environment) (map (entry h.environment) (members h.clause)) (entries_of P) (each (members h.clause))
    (entries_all Q P k.1)
  where
    each : (ms : List Member) → All (λ m. Q m.environment) (map (entry h.environment) ms)
    each [] = tt
    each (m ∷ ms) = (k.0, each ms)

-- Substituting into an instance of a goal is substituting into its environment.
pub instance_put : {A B : Type 0} (θ : A → Term B) (cs : Rules Clause) (g : Goal) (e : Environment A)
    → put_sequent θ (instance_of cs g e) ≡ instance_of cs g (put_environment θ e)
unfolding instance_of sheet_program
instance_put θ cs g e =
    ap (λ P. sequent g (put_environment θ e) (rules cs.order P) 0) (map_map (λ c. hypothesis c e) (put_hypothesis θ) cs.clauses)

-- A property of an environment holds of the environments of a sheet's clauses under it.
pub sheet_all : {A : Type 0} (Q : Environment A → Type 0) (cs : Rules Clause) (e : Environment A) → Q e
    → All (λ h. Q h.environment) (sheet_program cs e).clauses
unfolding sheet_program
sheet_all Q cs e h = each cs.clauses
  where
    each : (l : List Clause) → All (λ x. Q x.environment) (map (λ c. hypothesis c e) l)
    each [] = tt
    each (c ∷ l) = (h, each l)
