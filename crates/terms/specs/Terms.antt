-- First-order terms over any type A of leaves. A term on a sheet has numbers for leaves (its variables), a term of the
-- search has logic variables and made constants, a term of a derivation has made constants and leftover variables.
-- A constant of the sheet is an application with no arguments. Nothing here says that symbols have an arity.
use Rattle.std.specs.Prelude.{ℕ, zero, suc, ◌+◌, max, ◌≡◌, Bool, true, false, ◌⊎◌, eqb}

-- What stands before the arguments: a symbol that the sheet declares, by its place; or a number (W-204), which has no arguments.
pub data Functor : Type 0 where
  sheet_symbol : ℕ → Functor
  numeral : ℕ → Functor
  deriving Discrete as Functor-discrete

-- "Two of them match if they are equal, and one never matches an application."
unfoldable pub same_functor : Functor → Functor → Bool
same_functor (sheet_symbol f) (sheet_symbol g) = eqb f g
same_functor (sheet_symbol f) (numeral m) = false
same_functor (numeral n) (sheet_symbol g) = false
same_functor (numeral n) (numeral m) = eqb n m

mutual
  pub data Term (A : Type 0) : Type 0 where
    leaf : A → Term A
    app : Functor → Terms A → Term A
    deriving Discrete as Term-discrete

  pub data Terms (A : Type 0) : Type 0 where
    nil : Terms A
    cons : Term A → Terms A → Terms A
    deriving Discrete as Terms-discrete

-- A number as a term.
abbrev pub number_term : {A : Type 0} → ℕ → Term A
number_term n = app (numeral n) nil

-- Substitution: every leaf is replaced by its term.
unfoldable mutual
  pub substitute : {A B : Type 0} → Term A → (A → Term B) → Term B
  substitute (leaf a) θ = θ a
  substitute (app f ts) θ = app f (substitutes ts θ)

  pub substitutes : {A B : Type 0} → Terms A → (A → Term B) → Terms B
  substitutes nil θ = nil
  substitutes (cons t ts) θ = cons (substitute t θ) (substitutes ts θ)

-- The number of leaves and symbols, counted as often as they stand.
unfoldable mutual
  pub size : {A : Type 0} → Term A → ℕ
  size (leaf a) = 1
  size (app f ts) = suc (sizes ts)

  pub sizes : {A : Type 0} → Terms A → ℕ
  sizes nil = 0
  sizes (cons t ts) = size t + sizes ts

-- The highest level of a leaf, 0 if there is none: function symbols have level 0.
unfoldable mutual
  pub level_by : {A : Type 0} → Term A → (A → ℕ) → ℕ
  level_by (leaf a) l = l a
  level_by (app f ts) l = levels_by ts l

  pub levels_by : {A : Type 0} → Terms A → (A → ℕ) → ℕ
  levels_by nil l = 0
  levels_by (cons t ts) l = max (level_by t l) (levels_by ts l)

-- P holds of every leaf.
unfoldable mutual
  pub Leaves : {A : Type 0} → Term A → (A → Type 0) → Type 0
  Leaves (leaf a) P = P a
  Leaves (app f ts) P = LeavesAll ts P

  pub LeavesAll : {A : Type 0} → Terms A → (A → Type 0) → Type 0
  LeavesAll nil P = Unit {0}
  LeavesAll (cons t ts) P = Leaves t P × LeavesAll ts P

-- The leaf appears in the term.
unfoldable mutual
  pub Appears : {A : Type 0} → Term A → A → Type 0
  Appears (leaf b) a = a ≡ b
  Appears (app f ts) a = AppearsIn ts a

  pub AppearsIn : {A : Type 0} → Terms A → A → Type 0
  AppearsIn nil a = ⊥
  AppearsIn (cons t ts) a = Appears t a ⊎ AppearsIn ts a

-- How many terms.
unfoldable pub count : {A : Type 0} → Terms A → ℕ
count nil = 0
count (cons t ts) = suc (count ts)
