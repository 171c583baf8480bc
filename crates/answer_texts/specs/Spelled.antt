-- Demand 2: a text "spells, as document 01 writes them, a derivation of an instance of that goal"; and document 01: "the first line
-- that breaks a rule or form given here".
use Rattle.std.specs.Prelude.{ℕ, suc, ◌≤◌, ◌≡◌, Bool, true, false, ◌&&◌, List, [], ◌∷◌, ◌++◌, eqb, length, take}
use Rattle.std.proofs.Math.Option.{Option, none, some}
use Rattle.std.proofs.Math.ListN.{get_elem?}
use Rattle.terms.specs.Lists.{All, update}
use Rattle.terms.specs.Terms.{Functor, sheet_symbol, numeral, leaf, app, Terms, nil, cons, count}
use Rattle.formulas.specs.Formulas.{free_variables}
use Rattle.sequents.specs.Symbols.{Symbol, made, leftover, Ground, level}
use Rattle.sequents.specs.Sequents.{Environment, Sequent, Line, plain, Dsome, Dall, Dclause}
use Rattle.sequents.specs.Derivations.{lines, instance_of, InstanceDerivation}
use Rattle.sequents.specs.Lines.{Infers}
use Rattle.sheet_format.specs.Limits.{max_number, max_budget}
use Rattle.sheet_format.specs.Bytes.{lines_of, lf}
use Rattle.sheet_format.specs.Nodes.{Declaration}
use Rattle.sheet_format.specs.Sheets.{Sheet, rules_of}
use Rattle.answer_texts.specs.TextLines.{TextLine, result_line, binding_line, derivation_line, answer_lines}
use Rattle.answer_texts.specs.Numbering.{numbered}
use Rattle.answer_texts.specs.Spelling.{spell, proof_text}
use Rattle.answer_texts.specs.Capitals.{SameText}

-- What can be written: terms over the function symbols that the sheet declares, each applied to its arity of terms; numbers as
-- terms, applied to none (request W-204: "Any n may stand in a derivation and its text, whether or not the sheet has it"); "Numbers
-- are ... up to 65,535", which is for places, for numbers and for levels.
unfoldable pub has_arity : ℕ → Option Declaration → Bool
has_arity n none = false
has_arity n (some d) = d.function && eqb d.arity n

unfoldable pub WritableFunctor : List Declaration → Functor → ℕ → Type 0
WritableFunctor ds (sheet_symbol f) n = has_arity n (get_elem? ds f) ≡ true
WritableFunctor ds (numeral m) n = (n ≡ 0) × (m ≤ max_number)

unfoldable pub SmallSymbol : Symbol → Type 0
SmallSymbol (made n k) = (n ≤ max_number) × (k ≤ max_number)
SmallSymbol (leftover n k) = (n ≤ max_number) × (k ≤ max_number)

unfoldable mutual
  pub WritableTerm : Ground → List Declaration → Type 0
  WritableTerm (leaf s) ds = SmallSymbol s
  WritableTerm (app f ts) ds = WritableFunctor ds f (count ts) × WritableTerms ts ds

  pub WritableTerms : Terms Symbol → List Declaration → Type 0
  WritableTerms nil ds = Unit {0}
  WritableTerms (cons t ts) ds = WritableTerm t ds × WritableTerms ts ds

unfoldable pub WritableLine : List Declaration → Line Symbol → Type 0
WritableLine ds (plain w) = Unit {0}
WritableLine ds (Dsome t) = WritableTerm t ds
WritableLine ds (Dall t) = WritableTerm t ds
WritableLine ds (Dclause k ts) = (k ≤ max_number) × All (λ t. WritableTerm t ds) ts

unfoldable pub Writable : List Declaration → TextLine → Type 0
Writable ds (result_line n) = n ≤ max_number
Writable ds (binding_line v t) = (v ≤ max_number) × WritableTerm t ds
Writable ds (derivation_line x) = WritableLine ds x

-- The text of a derivation of an instance: any derivation, with numbering by first showing and "units from 1 to 50,000". Texts are the same
-- by the relation that is the first parameter.
pub record SpellsBy (same : List ℕ → List ℕ → Type 0) (s : Sheet) (text : List ℕ) : Type 0 where
  pub units : ℕ
  pub least : 1 ≤ units
  pub most : units ≤ max_budget
  pub environment : Environment Symbol
  pub proof : InstanceDerivation (rules_of s) s.goal environment
  pub writable : All (Writable s.symbols)
      (numbered (answer_lines units (free_variables s.goal) environment (lines proof.derivation)))
  pub spelled : same text (proof_text s.symbols (answer_lines units (free_variables s.goal) environment (lines proof.derivation)))

-- With the names as declared, byte for byte.
abbrev pub SpellsAsDeclared : Sheet → List ℕ → Type 0
SpellsAsDeclared s text = SpellsBy (λ a b. a ≡ b) s text

-- Request W-201: "a text may spell a name in either case".
abbrev pub SpellsDerivation : Sheet → List ℕ → Type 0
SpellsDerivation s text = SpellsBy SameText s text

-- How far a text has come: before its R line; with B lines due for the variables, those before having their terms; with
-- sequents left to derive.
pub data Stage : Type 0 where
  opening : Stage
  bindings : List ℕ → Environment Symbol → Stage
  sequents : List (Sequent Symbol) → Stage

-- Where no B line is due, the instance is to be derived.
unfoldable pub bound_stage : Sheet → List ℕ → Environment Symbol → Stage
bound_stage s [] e = sequents (instance_of (rules_of s) s.goal e ∷ [])
bound_stage s (v ∷ vs) e = bindings (v ∷ vs) e

-- Before the B lines; no name that stands free keeps this value.
unfoldable pub blank : Environment Symbol
blank v = app (sheet_symbol 0) nil

-- The line is right at this stage; K holds of the stage after it.
unfoldable pub Allowed : Sheet → TextLine → Stage → (Stage → Type 0) → Type 0
Allowed s (result_line n) opening K = (1 ≤ n) × (n ≤ max_budget) × K (bound_stage s (free_variables s.goal) blank)
Allowed s (result_line n) (bindings vs e) K = ⊥
Allowed s (result_line n) (sequents gs) K = ⊥
Allowed s (binding_line v t) opening K = ⊥
Allowed s (binding_line v t) (bindings [] e) K = ⊥
Allowed s (binding_line v t) (bindings (w ∷ ws) e) K = (v ≡ w) × (level t ≤ 0) × K (bound_stage s ws (update e w t))
Allowed s (binding_line v t) (sequents gs) K = ⊥
Allowed s (derivation_line x) opening K = ⊥
Allowed s (derivation_line x) (bindings vs e) K = ⊥
Allowed s (derivation_line x) (sequents []) K = ⊥
Allowed s (derivation_line x) (sequents (g ∷ gs)) K =
    Infers x g.goal g.environment g.program g.level (λ new. K (sequents (new ++ gs)))

-- The lines are right one after the other, and come from one stage to another.
unfoldable pub Proceeds : Sheet → List TextLine → Stage → Stage → Type 0
Proceeds s [] a b = a ≡ b
Proceeds s (x ∷ xs) a b = Allowed s x a (λ c. Proceeds s xs c b)

-- The bytes are whole lines with which a text can begin: each is right after the ones before it.
pub record BeginsBy (same : List ℕ → List ℕ → Type 0) (s : Sheet) (bytes : List ℕ) : Type 0 where
  pub text_lines : List TextLine
  pub stage : Stage
  pub writable : All (Writable s.symbols) text_lines
  pub in_order : numbered text_lines ≡ text_lines
  pub spelled : same bytes (spell s.symbols text_lines)
  pub proceeds : Proceeds s text_lines opening stage

-- The first n lines of a text, each with its LF.
unfoldable pub unlines : List (List ℕ) → List ℕ
unlines [] = []
unlines (l ∷ ls) = l ++ (lf ∷ unlines ls)

unfoldable pub first_lines : ℕ → List ℕ → List ℕ
first_lines n text = unlines (take n (lines_of text).whole)

-- Line n + 1 breaks: the n lines before it are a beginning, and with it they are none. Past the last whole line it is the line
-- without LF, or the one that is missing.
pub record BreaksBy (same : List ℕ → List ℕ → Type 0) (s : Sheet) (text : List ℕ) (n : ℕ) : Type 0 where
  pub there : n ≤ length (lines_of text).whole
  pub before : BeginsBy same s (first_lines n text)
  pub breaks : suc n ≤ length (lines_of text).whole → BeginsBy same s (first_lines (suc n) text) → ⊥

-- A line with a name in another case does not break by it.
abbrev pub BreaksAfter : Sheet → List ℕ → ℕ → Type 0
BreaksAfter s text n = BreaksBy SameText s text n
