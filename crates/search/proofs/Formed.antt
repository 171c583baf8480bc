-- Well-formed terms, goals and clauses: each symbol has as many arguments as `ok` allows, P holds of each leaf; the names of a
-- sheet are below 8.
use Prim.Native.Nat.{ℕ, suc, ◌<◌}
use mathlib.Core.Path.{◌≡◌, refl, sym, ap, subst}
use mathlib.Core.Bool.{Bool, true, false, cond}
use mathlib.Core.List.{List, [], ◌∷◌}
use mathlib.Core.Option.{Option, none, some}
use lib.Dec.{eqb}
use Rattle.terms.specs.Lists.{All, update}
use Rattle.terms.specs.Terms.{Functor, Term, leaf, app, Terms, nil, cons, substitute, substitutes, count}
use Rattle.terms.proofs.Lists.{all_append, all_map}
use Rattle.formulas.specs.Formulas.{Goal, atom, truth, and, or, implies, exists, forall, Clause, fact, rule, both, each}
use Rattle.formulas.specs.Members.{Member, stands_free, quantify, members}
use Rattle.sequents.specs.Sequents.{Environment, assign, Line, plain, Dsome, Dall, Dclause, put_line}

-- Which symbol may have how many arguments.
abbrev pub Arities : Type 1
Arities = Functor → ℕ → Type 0

-- Terms over any leaves.
unfoldable mutual
  pub FormedTerm : {A : Type 0} → Term A → Arities → (A → Type 0) → Type 0
  FormedTerm (leaf a) ok P = P a
  FormedTerm (app f ts) ok P = ok f (count ts) × FormedTerms ts ok P

  pub FormedTerms : {A : Type 0} → Terms A → Arities → (A → Type 0) → Type 0
  FormedTerms nil ok P = Unit {0}
  FormedTerms (cons t ts) ok P = FormedTerm t ok P × FormedTerms ts ok P

-- A name of a sheet.
abbrev pub SheetName : ℕ → Type 0
SheetName v = v < 8

-- All terms in a goal or a clause.
unfoldable mutual
  pub FormedGoal : Goal → Arities → Type 0
  FormedGoal (atom p ts) ok = FormedTerms ts ok SheetName
  FormedGoal truth ok = Unit {0}
  FormedGoal (and a b) ok = FormedGoal a ok × FormedGoal b ok
  FormedGoal (or a b) ok = FormedGoal a ok × FormedGoal b ok
  FormedGoal (implies c g) ok = FormedClause c ok × FormedGoal g ok
  FormedGoal (exists v g) ok = FormedGoal g ok
  FormedGoal (forall v g) ok = FormedGoal g ok

  pub FormedClause : Clause → Arities → Type 0
  FormedClause (fact p ts) ok = FormedTerms ts ok SheetName
  FormedClause (rule g p ts) ok = FormedGoal g ok × FormedTerms ts ok SheetName
  FormedClause (both a b) ok = FormedClause a ok × FormedClause b ok
  FormedClause (each v c) ok = FormedClause c ok

-- A body is well-formed if its goal is, or if there is none.
unfoldable pub FormedBody : Arities → Option Goal → Type 0
FormedBody ok none = Unit {0}
FormedBody ok (some g) = FormedGoal g ok

-- A member, as to its arguments and its body.
abbrev pub FormedMember : Arities → Member → Type 0
FormedMember ok m = FormedTerms m.arguments ok SheetName × FormedBody ok m.body

-- What the names of a sheet stand for.
abbrev pub FormedEnvironment : {A : Type 0} → Arities → (A → Type 0) → Environment A → Type 0
FormedEnvironment ok P e = (v : ℕ) → SheetName v → FormedTerm (e v) ok P

-- A D line, its place among those that Q allows.
unfoldable pub FormedLine : {A : Type 0} → Arities → (A → Type 0) → (ℕ → Type 0) → Line A → Type 0
FormedLine ok P Q (plain w) = Unit {0}
FormedLine ok P Q (Dsome t) = FormedTerm t ok P
FormedLine ok P Q (Dall t) = FormedTerm t ok P
FormedLine ok P Q (Dclause k ts) = Q k × All (λ t. FormedTerm t ok P) ts

-- substitution

-- Substitution keeps the number of arguments.
pub count_substitutes : {A B : Type 0} (ts : Terms A) (θ : A → Term B) → count (substitutes ts θ) ≡ count ts
unfolding count substitute
count_substitutes nil θ = refl
count_substitutes (cons t ts) θ = ap suc (count_substitutes ts θ)

-- Substituting a well-formed term for each leaf keeps terms well-formed.
mutual
  unfolding FormedTerm substitute

  pub formed_substitute : {A B : Type 0} (t : Term A) (θ : A → Term B) (ok : Arities) (P : A → Type 0) (Q : B → Type 0)
      → ((a : A) → P a → FormedTerm (θ a) ok Q)
      → FormedTerm t ok P → FormedTerm (substitute t θ) ok Q
  formed_substitute (leaf a) θ ok P Q k h = k a h
  formed_substitute (app f ts) θ ok P Q k h = (subst (ok f) (sym (count_substitutes ts θ)) h.0, formed_substitutes ts θ ok P Q k h.1)

  pub formed_substitutes : {A B : Type 0} (ts : Terms A) (θ : A → Term B) (ok : Arities) (P : A → Type 0) (Q : B → Type 0)
      → ((a : A) → P a → FormedTerm (θ a) ok Q)
      → FormedTerms ts ok P → FormedTerms (substitutes ts θ) ok Q
  formed_substitutes nil θ ok P Q k h = tt
  formed_substitutes (cons t ts) θ ok P Q k h = (formed_substitute t θ ok P Q k h.0, formed_substitutes ts θ ok P Q k h.1)

-- Substituting a well-formed term for each leaf keeps a line well-formed.
pub formed_put_line : {A B : Type 0} (x : Line A) (θ : A → Term B) (ok : Arities) (P : A → Type 0) (Q : B → Type 0) (R : ℕ → Type 0)
    → ((a : A) → P a → FormedTerm (θ a) ok Q)
    → FormedLine ok P R x → FormedLine ok Q R (put_line θ x)
unfolding FormedLine put_line
formed_put_line (plain w) θ ok P Q R k h = tt
formed_put_line (Dsome t) θ ok P Q R k h = formed_substitute t θ ok P Q k h
formed_put_line (Dall t) θ ok P Q R k h = formed_substitute t θ ok P Q k h
formed_put_line (Dclause j ts) θ ok P Q R k h =
    (h.0, all_map (λ t. substitute t θ) (λ t. FormedTerm t ok P) (λ t. FormedTerm t ok Q) (λ t. formed_substitute t θ ok P Q k) ts h.1)

-- environments

-- A well-formed term for a quantifier's name keeps an environment well-formed.
pub formed_update : {A : Type 0} (ok : Arities) (P : A → Type 0) (e : Environment A) (v : ℕ) (t : Term A) → FormedEnvironment ok P e
    → FormedTerm t ok P
    → FormedEnvironment ok P (update e v t)
unfolding update
formed_update ok P e v t h k w l = go (eqb w v)
  where
    go : (b : Bool) → FormedTerm (cond b t (e w)) ok P
    go true = k
    go false = h w l

-- Well-formed terms for the names of a prefix keep an environment well-formed.
pub formed_assign : {A : Type 0} (ok : Arities) (P : A → Type 0) (vs : List ℕ) (ts : List (Term A)) (e : Environment A)
    → FormedEnvironment ok P e
    → All (λ t. FormedTerm t ok P) ts → FormedEnvironment ok P (assign vs ts e)
unfolding assign
formed_assign ok P [] ts e h k = h
formed_assign ok P (v ∷ vs) [] e h k = h
formed_assign ok P (v ∷ vs) (t ∷ ts) e h k = formed_assign ok P vs ts (update e v t) (formed_update ok P e v t h k.0) k.1

-- members

-- One more name in the prefix changes no term, so the member stays well-formed.
quantify_formed : (ok : Arities) (v : ℕ) (m : Member) → FormedMember ok m → FormedMember ok (quantify v m)
unfolding quantify
quantify_formed ok v m h = go (stands_free v m)
  where
    go : (b : Bool)
        → FormedMember ok (cond b (record { prefix = v ∷ m.prefix; predicate = m.predicate; arguments = m.arguments; body = m.body }) m)
    go true = h
    go false = h

-- The members of a well-formed clause are well-formed.
pub members_formed : (ok : Arities) (c : Clause) → FormedClause c ok → All (FormedMember ok) (members c)
unfolding FormedClause FormedBody members
members_formed ok (fact p ts) h = ((h, tt), tt)
members_formed ok (rule g p ts) h = ((h.1, h.0), tt)
members_formed ok (both a b) h =
    all_append (FormedMember ok) (members a) (members b) (members_formed ok a h.0) (members_formed ok b h.1)
members_formed ok (each v c) h =
    all_map (quantify v) (FormedMember ok) (FormedMember ok) (quantify_formed ok v) (members c) (members_formed ok c h)
