-- Well-formed terms, goals and clauses over declared symbols: each symbol is declared, of its kind, and has its arity of terms; numbers
-- as terms are at most 65,535;
-- the names of variables are below 8. Formedness is kept when declarations are added; a name that stands free is below 8.
use Prim.Native.Nat.{ℕ, ◌<◌, ◌≤◌}
use mathlib.Core.Path.{◌≡◌, refl, sym, subst}
use mathlib.Core.Bool.{Bool, true, false, not, ◌||◌, true≢false}
use mathlib.Core.List.{List, ◌++◌}
use mathlib.Core.Option.{some}
use mathlib.Core.Logic.{◌⊎◌, inl, inr}
use lib.Dec.{eqb}
use lib.ListN.{get_elem?}
use borrow.Author.Tests.{eqb-true}
use Rattle.terms.specs.Terms.{Functor, sheet_symbol, numeral, Term, leaf, app, Terms, nil, cons, count}
use Rattle.formulas.specs.Formulas.{Goal, atom, truth, and, or, implies, exists, forall, Clause, fact, rule, both, each, free_t, free_ts}
use Rattle.formulas.specs.Formulas.{free_g, free_c}
use Rattle.formulas.proofs.Free.{and_parts}
use Rattle.sheet_format.specs.Limits.{variable_names, max_number}
use Rattle.sheet_format.specs.Nodes.{Declaration}
use Rattle.sheet_format.proofs.Indexing.{at_append}

-- Symbol f is declared as a function symbol (k is true) or as a predicate, with arity n.
pub record Declares (ds : List Declaration) (k : Bool) (f n : ℕ) : Type 0 where
  pub declaration : Declaration
  pub at : get_elem? ds f ≡ some declaration
  pub kind : declaration.function ≡ k
  pub arity : declaration.arity ≡ n

-- What may stand before n arguments: a function symbol of arity n; a number up to 65,535, before none.
unfoldable pub Takes : List Declaration → Functor → ℕ → Type 0
Takes ds (sheet_symbol f) n = Declares ds true f n
Takes ds (numeral m) n = (n ≡ 0) × (m ≤ max_number)

unfoldable mutual
  pub FormedTerm : Term ℕ → List Declaration → Type 0
  FormedTerm (leaf v) ds = v < variable_names
  FormedTerm (app f ts) ds = Takes ds f (count ts) × FormedTerms ts ds

  pub FormedTerms : Terms ℕ → List Declaration → Type 0
  FormedTerms nil ds = Unit {0}
  FormedTerms (cons t ts) ds = FormedTerm t ds × FormedTerms ts ds

-- An atom.
abbrev pub FormedAtom : ℕ → Terms ℕ → List Declaration → Type 0
FormedAtom p ts ds = Declares ds false p (count ts) × FormedTerms ts ds

unfoldable mutual
  pub FormedGoal : Goal → List Declaration → Type 0
  FormedGoal (atom p ts) ds = FormedAtom p ts ds
  FormedGoal truth ds = Unit {0}
  FormedGoal (and a b) ds = FormedGoal a ds × FormedGoal b ds
  FormedGoal (or a b) ds = FormedGoal a ds × FormedGoal b ds
  FormedGoal (implies c g) ds = FormedClause c ds × FormedGoal g ds
  FormedGoal (exists v g) ds = (v < variable_names) × FormedGoal g ds
  FormedGoal (forall v g) ds = (v < variable_names) × FormedGoal g ds

  pub FormedClause : Clause → List Declaration → Type 0
  FormedClause (fact p ts) ds = FormedAtom p ts ds
  FormedClause (rule g p ts) ds = FormedGoal g ds × FormedAtom p ts ds
  FormedClause (both a b) ds = FormedClause a ds × FormedClause b ds
  FormedClause (each v c) ds = (v < variable_names) × FormedClause c ds

-- more declarations

-- A symbol stays declared when declarations are added.
pub declares_more : (ds es : List Declaration) (k : Bool) (f n : ℕ) → Declares ds k f n → Declares (ds ++ es) k f n
declares_more ds es k f n h =
    record { declaration = h.declaration; at = at_append ds es f h.declaration h.at; kind = h.kind; arity = h.arity }

-- Every symbol that is declared stays so, with its kind and its arity.
abbrev pub Keeps : List Declaration → List Declaration → Type 0
Keeps ds es = (k : Bool) (f n : ℕ) → Declares ds k f n → Declares es k f n

module _ (ds es : List Declaration) (keeps : Keeps ds es) where
  -- A functor keeps the number of its arguments.
  functor_keeps : (f : Functor) (n : ℕ) → Takes ds f n → Takes es f n
  unfolding Takes
  functor_keeps (sheet_symbol f) n h = keeps true f n h
  functor_keeps (numeral m) n h = h

  -- A term stays well-formed.
  mutual
    unfolding FormedTerm

    pub term_keeps : (t : Term ℕ) → FormedTerm t ds → FormedTerm t es
    term_keeps (leaf v) h = h
    term_keeps (app f ts) h = (functor_keeps f (count ts) h.0, terms_keep ts h.1)

    pub terms_keep : (ts : Terms ℕ) → FormedTerms ts ds → FormedTerms ts es
    terms_keep nil h = tt
    terms_keep (cons t ts) h = (term_keeps t h.0, terms_keep ts h.1)

  -- An atom stays well-formed.
  pub atom_keeps : (p : ℕ) (ts : Terms ℕ) → FormedAtom p ts ds → FormedAtom p ts es
  atom_keeps p ts h = (keeps false p (count ts) h.0, terms_keep ts h.1)

  -- Goals and clauses stay well-formed.
  mutual
    unfolding FormedGoal

    pub goal_keeps : (g : Goal) → FormedGoal g ds → FormedGoal g es
    goal_keeps (atom p ts) h = atom_keeps p ts h
    goal_keeps truth h = tt
    goal_keeps (and a b) h = (goal_keeps a h.0, goal_keeps b h.1)
    goal_keeps (or a b) h = (goal_keeps a h.0, goal_keeps b h.1)
    goal_keeps (implies c g) h = (clause_keeps c h.0, goal_keeps g h.1)
    goal_keeps (exists v g) h = (h.0, goal_keeps g h.1)
    goal_keeps (forall v g) h = (h.0, goal_keeps g h.1)

    pub clause_keeps : (c : Clause) → FormedClause c ds → FormedClause c es
    clause_keeps (fact p ts) h = atom_keeps p ts h
    clause_keeps (rule g p ts) h = (goal_keeps g h.0, atom_keeps p ts h.1)
    clause_keeps (both a b) h = (clause_keeps a h.0, clause_keeps b h.1)
    clause_keeps (each v c) h = (h.0, clause_keeps c h.1)

-- So they stay well-formed when declarations are added.
pub term_more : (t : Term ℕ) (ds es : List Declaration) → FormedTerm t ds → FormedTerm t (ds ++ es)
term_more t ds es = term_keeps ds (ds ++ es) (declares_more ds es) t

pub goal_more : (g : Goal) (ds es : List Declaration) → FormedGoal g ds → FormedGoal g (ds ++ es)
goal_more g ds es = goal_keeps ds (ds ++ es) (declares_more ds es) g

pub clause_more : (c : Clause) (ds es : List Declaration) → FormedClause c ds → FormedClause c (ds ++ es)
clause_more c ds es = clause_keeps ds (ds ++ es) (declares_more ds es) c

-- free names

-- If one of two tests holds, the first or the second does.
either : (a b : Bool) → (a || b) ≡ true → (a ≡ true) ⊎ (b ≡ true)
either true b h = inl refl
either false b h = inr h

-- A name that stands free in a well-formed term is below 8.
mutual
  unfolding FormedTerm free_t

  pub free_term : (t : Term ℕ) (ds : List Declaration) (v : ℕ) → FormedTerm t ds → free_t t v ≡ true → v < variable_names
  free_term (leaf w) ds v h f = subst (λ (x : ℕ). x < variable_names) (eqb-true w v f) h
  free_term (app g ts) ds v h f = free_terms ts ds v h.1 f

  pub free_terms : (ts : Terms ℕ) (ds : List Declaration) (v : ℕ) → FormedTerms ts ds → free_ts ts v ≡ true → v < variable_names
  free_terms nil ds v h f = absurd (true≢false (sym f))
  free_terms (cons t ts) ds v h f =
      elim (either (free_t t v) (free_ts ts v) f) [ inl k ↦ free_term t ds v h.0 k | inr k ↦ free_terms ts ds v h.1 k ]

-- A name that stands free in a well-formed goal or clause is below 8.
mutual
  unfolding FormedGoal free_g

  pub free_goal_lem : (g : Goal) (ds : List Declaration) (v : ℕ) → FormedGoal g ds → free_g g v ≡ true → v < variable_names
  free_goal_lem (atom p ts) ds v h f = free_terms ts ds v h.1 f
  free_goal_lem truth ds v h f = absurd (true≢false (sym f))
  free_goal_lem (and a b) ds v h f =
      elim (either (free_g a v) (free_g b v) f) [ inl k ↦ free_goal_lem a ds v h.0 k | inr k ↦ free_goal_lem b ds v h.1 k ]
  free_goal_lem (or a b) ds v h f =
      elim (either (free_g a v) (free_g b v) f) [ inl k ↦ free_goal_lem a ds v h.0 k | inr k ↦ free_goal_lem b ds v h.1 k ]
  free_goal_lem (implies c g) ds v h f =
      elim (either (free_c c v) (free_g g v) f) [ inl k ↦ free_clause c ds v h.0 k | inr k ↦ free_goal_lem g ds v h.1 k ]
  free_goal_lem (exists w g) ds v h f = free_goal_lem g ds v h.1 (and_parts (not (eqb w v)) (free_g g v) f).1
  free_goal_lem (forall w g) ds v h f = free_goal_lem g ds v h.1 (and_parts (not (eqb w v)) (free_g g v) f).1

  pub free_clause : (c : Clause) (ds : List Declaration) (v : ℕ) → FormedClause c ds → free_c c v ≡ true → v < variable_names
  free_clause (fact p ts) ds v h f = free_terms ts ds v h.1 f
  free_clause (rule g p ts) ds v h f =
      elim (either (free_g g v) (free_ts ts v) f) [ inl k ↦ free_goal_lem g ds v h.0 k | inr k ↦ free_terms ts ds v h.1.1 k ]
  free_clause (both a b) ds v h f =
      elim (either (free_c a v) (free_c b v) f) [ inl k ↦ free_clause a ds v h.0 k | inr k ↦ free_clause b ds v h.1 k ]
  free_clause (each w c) ds v h f = free_clause c ds v h.1 (and_parts (not (eqb w v)) (free_c c v) f).1
