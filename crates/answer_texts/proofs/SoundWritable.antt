-- What a proved search shows of a sheet that is well-formed can be written: its terms are well-formed, its numbers small.
use Prim.Native.Nat.{ℕ, zero, suc, ◌+◌, ◌≤◌}
use mathlib.Core.Bool.{Bool, true, false}
use mathlib.Core.List.{List, ◌∷◌, map}
use native.Mathlib.Omega.{arith}
use Rattle.terms.specs.Lists.{All}
use Rattle.terms.specs.Terms.{Term, leaf, app, Terms, nil, cons, count}
use Rattle.terms.proofs.Lists.{all_append, all_map, all_weaken}
use Rattle.formulas.specs.Formulas.{Goal, atom, truth, and, or, implies, exists, forall, Clause, fact, rule, both, each, free_g, free_from}
use Rattle.formulas.specs.Formulas.{free_variables}
use Rattle.sequents.specs.Symbols.{Symbol, made, leftover, symbol_level, Ground}
use Rattle.sequents.specs.Sequents.{Environment, Line, plain, Dsome, Dall, Dclause}
use Rattle.sequents.specs.Renamings.{Renaming, rename, renamed}
use Rattle.search.proofs.Formed.{Arities, FormedTerm, FormedTerms, SheetName, FormedGoal, FormedClause, FormedLine, formed_substitute}
use Rattle.search.proofs.Formed.{formed_put_line}
use Rattle.search.proofs.FormedStores.{SymbolUpTo}
use Rattle.search.proofs.Bounds.{ShownUpTo}
use Rattle.sheet_format.specs.Limits.{max_number}
use Rattle.sheet_format.specs.Nodes.{Declaration}
use Rattle.sheet_format.proofs.Formed.{Takes, FormedTerm as SheetTerm, FormedTerms as SheetTerms, FormedGoal as SheetGoal}
use Rattle.sheet_format.proofs.Formed.{FormedClause as SheetClause}
use Rattle.answer_texts.specs.TextLines.{TextLine, binding_line, derivation_line, answer_lines, rename_text_line}
use Rattle.answer_texts.specs.Spelled.{SmallSymbol, WritableTerm, WritableTerms, WritableLine, Writable}
use Rattle.answer_texts.proofs.Declared.{takes_writable, writable_takes}
use Rattle.answer_texts.proofs.SoundNumbers.{NumbersUpTo}

-- What the sheet lets stand before arguments, with their number.
abbrev pub declared : List Declaration → Arities
declared ds f n = Takes ds f n

-- what is well-formed on a sheet is so in the search

-- Well-formed terms with small symbols can be written.
mutual
  unfolding FormedTerm SheetTerm

  sheet_term : (t : Term ℕ) (ds : List Declaration) → SheetTerm t ds → FormedTerm t (declared ds) SheetName
  sheet_term (leaf v) ds h = h
  sheet_term (app f ts) ds h = (h.0, sheet_terms ts ds h.1)

  sheet_terms : (ts : Terms ℕ) (ds : List Declaration) → SheetTerms ts ds → FormedTerms ts (declared ds) SheetName
  sheet_terms nil ds h = tt
  sheet_terms (cons t ts) ds h = (sheet_term t ds h.0, sheet_terms ts ds h.1)

-- Goals and clauses that are well-formed on a sheet are well-formed in the search.
mutual
  unfolding FormedGoal SheetGoal

  pub sheet_goal : (g : Goal) (ds : List Declaration) → SheetGoal g ds → FormedGoal g (declared ds)
  sheet_goal (atom p ts) ds h = sheet_terms ts ds h.1
  sheet_goal truth ds h = tt
  sheet_goal (and a b) ds h = (sheet_goal a ds h.0, sheet_goal b ds h.1)
  sheet_goal (or a b) ds h = (sheet_goal a ds h.0, sheet_goal b ds h.1)
  sheet_goal (implies c g) ds h = (sheet_clause c ds h.0, sheet_goal g ds h.1)
  sheet_goal (exists v g) ds h = sheet_goal g ds h.1
  sheet_goal (forall v g) ds h = sheet_goal g ds h.1

  pub sheet_clause : (c : Clause) (ds : List Declaration) → SheetClause c ds → FormedClause c (declared ds)
  sheet_clause (fact p ts) ds h = sheet_terms ts ds h.1
  sheet_clause (rule g p ts) ds h = (sheet_goal g ds h.0, sheet_terms ts ds h.1.1)
  sheet_clause (both a b) ds h = (sheet_clause a ds h.0, sheet_clause b ds h.1)
  sheet_clause (each v c) ds h = sheet_clause c ds h.1

-- what is well-formed, with small symbols, can be written

-- Well-formed terms with small symbols can be written.
mutual
  unfolding FormedTerm WritableTerm

  writable_term : (t : Ground) (ds : List Declaration) → FormedTerm t (declared ds) SmallSymbol → WritableTerm t ds
  writable_term (leaf s) ds h = h
  writable_term (app f ts) ds h = (takes_writable ds f (count ts) h.0, writable_terms ts ds h.1)

  writable_terms : (ts : Terms Symbol) (ds : List Declaration) → FormedTerms ts (declared ds) SmallSymbol → WritableTerms ts ds
  writable_terms nil ds h = tt
  writable_terms (cons t ts) ds h = (writable_term t ds h.0, writable_terms ts ds h.1)

-- What can be written is well-formed, with small symbols.
mutual
  unfolding FormedTerm WritableTerm

  pub formed_term : (t : Ground) (ds : List Declaration) → WritableTerm t ds → FormedTerm t (declared ds) SmallSymbol
  formed_term (leaf s) ds h = h
  formed_term (app f ts) ds h = (writable_takes ds f (count ts) h.0, formed_terms ts ds h.1)

  formed_terms : (ts : Terms Symbol) (ds : List Declaration) → WritableTerms ts ds → FormedTerms ts (declared ds) SmallSymbol
  formed_terms nil ds h = tt
  formed_terms (cons t ts) ds h = (formed_term t ds h.0, formed_terms ts ds h.1)

-- So it is for lines.
pub formed_line : (x : Line Symbol) (ds : List Declaration) → WritableLine ds x
    → FormedLine (declared ds) SmallSymbol (λ k. k ≤ max_number) x
unfolding FormedLine WritableLine
formed_line (plain w) ds h = tt
formed_line (Dsome t) ds h = formed_term t ds h
formed_line (Dall t) ds h = formed_term t ds h
formed_line (Dclause k ts) ds h =
    (h.0, all_weaken (λ t. WritableTerm t ds) (λ t. FormedTerm t (declared ds) SmallSymbol) (λ t. formed_term t ds) ts h.1)

-- Well-formed lines with small symbols and places up to n can be written.
writable_line : (x : Line Symbol) (ds : List Declaration) (n : ℕ) → n ≤ max_number → FormedLine (declared ds) SmallSymbol (λ k. k ≤ n) x
    → WritableLine ds x
unfolding FormedLine WritableLine
writable_line (plain w) ds n l h = tt
writable_line (Dsome t) ds n l h = writable_term t ds h
writable_line (Dall t) ds n l h = writable_term t ds h
writable_line (Dclause k ts) ds n l h = (
  (let p = h.0 in omega arith),
  all_weaken (λ t. FormedTerm t (declared ds) SmallSymbol) (λ t. WritableTerm t ds)
      (λ t. writable_term t ds) ts h.1,
)

-- The variables that stand free in a goal, of n names from v on, are names of a sheet.
free_from_names : (n v : ℕ) (g : Goal) → n + v ≤ 8 → All SheetName (free_from n v g)
unfolding free_from
free_from_names zero v g h = tt
free_from_names (suc n) v g h = go (free_g g v) (free_from_names n (suc v) g (omega arith))
  where
    go : (b : Bool) → All SheetName (free_from n (suc v) g)
        → All SheetName (elim b [ true ↦ v ∷ free_from n (suc v) g | false ↦ free_from n (suc v) g ])
    go true k = (omega arith, k)
    go false k = k

-- The free variables of a goal, of all eight names, are names of a sheet.
pub names_free : (g : Goal) → All SheetName (free_variables g)
unfolding free_variables
names_free g = free_from_names 8 0 g (omega arith)

-- the lines of an answer, numbered

module _ (ds : List Declaration) (r : Renaming) (n : ℕ) (small : n ≤ max_number) (numbers : NumbersUpTo r max_number) where
  -- A symbol with its new number is a well-formed term with a small symbol.
  renamed_formed : (a : Symbol) → SymbolUpTo n a → FormedTerm (renamed r a) (declared ds) SmallSymbol
  unfolding symbol_level rename SmallSymbol FormedTerm
  renamed_formed (made m k) h = (numbers.of_made m k, omega arith)
  renamed_formed (leftover m k) h = (numbers.of_leftover m k, omega arith)

  -- Every line of a renamed answer can be written.
  pub answer_writable : (vs : List ℕ) (e : Environment Symbol) (ls : List (Line Symbol)) → All SheetName vs → ShownUpTo (declared ds) n e ls
      → All (Writable ds) (map (rename_text_line r) (answer_lines n vs e ls))
  unfolding answer_lines rename_text_line Writable
  answer_writable vs e ls h k =
      all_map (rename_text_line r) Fits (Writable ds) (λ x i. i) (answer_lines n vs e ls) (
        small,
        all_append Fits (map (λ v. binding_line v (e v)) vs) (map derivation_line ls)
            (all_map (λ v. binding_line v (e v)) SheetName Fits binding vs h)
            (all_map derivation_line (FormedLine (declared ds) (SymbolUpTo n) (λ i. i ≤ n)) Fits derived ls k.lines),
      )
    where
      Fits : TextLine → Type 0
      Fits x = Writable ds (rename_text_line r x)

      binding : (v : ℕ) → SheetName v → Fits (binding_line v (e v))
      binding v l = (
        omega arith,
        writable_term _ ds (formed_substitute (e v) (renamed r) (declared ds) (SymbolUpTo n) SmallSymbol renamed_formed
            (k.environment v l)),
      )

      derived : (x : Line Symbol) → FormedLine (declared ds) (SymbolUpTo n) (λ i. i ≤ n) x → Fits (derivation_line x)
      derived x i =
          writable_line _ ds n small (formed_put_line x (renamed r) (declared ds) (SymbolUpTo n) SmallSymbol (λ i. i ≤ n) renamed_formed i)
