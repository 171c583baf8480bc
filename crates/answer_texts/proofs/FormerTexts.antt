-- Request W-204: a proof over a sheet without numbers in its terms shows none, so that its text is one of those before.
use Prim.Native.Nat.{ℕ, ◌≤◌}
use mathlib.Core.List.{List, [], ◌∷◌, map}
use Rattle.terms.specs.Lists.{All}
use Rattle.terms.specs.Terms.{sheet_symbol, numeral, Term, leaf, app, Terms, nil, cons}
use Rattle.terms.specs.Numberless.{Numberless, NumberlessAll}
use Rattle.terms.proofs.Lists.{all_append, all_map, all_weaken}
use Rattle.formulas.specs.Formulas.{Goal, atom, truth, and, or, implies, exists, forall, Clause, fact, rule, both, each, free_variables}
use Rattle.sequents.specs.Symbols.{Symbol, Ground}
use Rattle.sequents.specs.Sequents.{Environment, Line, plain, Dsome, Dall, Dclause}
use Rattle.unification.specs.Store.{Leaf, Store}
use Rattle.search.specs.Answers.{final_environment, final_lines}
use Rattle.search.proofs.Formed.{Arities, FormedTerm, FormedTerms, SheetName, FormedGoal, FormedClause, FormedLine}
use Rattle.search.proofs.FormedStores.{SymbolUpTo}
use Rattle.search.proofs.Bounds.{ShownUpTo}
use Rattle.sheet_format.specs.Nodes.{Declaration}
use Rattle.sheet_format.specs.Sheets.{Sheet}
use Rattle.sheet_format.proofs.Formed.{FormedTerm as SheetTerm, FormedTerms as SheetTerms, FormedGoal as SheetGoal}
use Rattle.sheet_format.proofs.Formed.{FormedClause as SheetClause}
use Rattle.sheet_format.proofs.Good.{Good}
use Rattle.sheet_format.proofs.Numberless.{NumberlessGoal, NumberlessClause}
use Rattle.answer_texts.specs.TextLines.{TextLine, binding_line, derivation_line, line_terms, terms_of, answer_lines}
use Rattle.answer_texts.proofs.SoundWritable.{names_free}

-- Only symbols stand before arguments, whatever their number.
unfoldable pub symbolic : Arities
symbolic (sheet_symbol f) n = Unit {0}
symbolic (numeral m) n = ⊥

module _ (ds : List Declaration) where
  -- A term of the sheet without numbers.
  mutual
    unfolding FormedTerm SheetTerm Numberless symbolic

    term_symbolic : (t : Term ℕ) → SheetTerm t ds → Numberless t → FormedTerm t symbolic SheetName
    term_symbolic (leaf v) h k = h
    term_symbolic (app (sheet_symbol f) ts) h k = (tt, terms_symbolic ts h.1 k)
    term_symbolic (app (numeral m) ts) h k = absurd k

    terms_symbolic : (ts : Terms ℕ) → SheetTerms ts ds → NumberlessAll ts → FormedTerms ts symbolic SheetName
    terms_symbolic nil h k = tt
    terms_symbolic (cons t ts) h k = (term_symbolic t h.0 k.0, terms_symbolic ts h.1 k.1)

  -- Goals and clauses of the sheet without numbers.
  mutual
    unfolding FormedGoal SheetGoal NumberlessGoal

    goal_symbolic : (g : Goal) → SheetGoal g ds → NumberlessGoal g → FormedGoal g symbolic
    goal_symbolic (atom p ts) h k = terms_symbolic ts h.1 k
    goal_symbolic truth h k = tt
    goal_symbolic (and a b) h k = (goal_symbolic a h.0 k.0, goal_symbolic b h.1 k.1)
    goal_symbolic (or a b) h k = (goal_symbolic a h.0 k.0, goal_symbolic b h.1 k.1)
    goal_symbolic (implies c g) h k = (clause_symbolic c h.0 k.0, goal_symbolic g h.1 k.1)
    goal_symbolic (exists v g) h k = goal_symbolic g h.1 k
    goal_symbolic (forall v g) h k = goal_symbolic g h.1 k

    clause_symbolic : (c : Clause) → SheetClause c ds → NumberlessClause c → FormedClause c symbolic
    clause_symbolic (fact p ts) h k = terms_symbolic ts h.1 k
    clause_symbolic (rule g p ts) h k = (goal_symbolic g h.0 k.0, terms_symbolic ts h.1.1 k.1)
    clause_symbolic (both a b) h k = (clause_symbolic a h.0 k.0, clause_symbolic b h.1 k.1)
    clause_symbolic (each v c) h k = clause_symbolic c h.1 k

  clauses_symbolic : (cs : List Clause) → All (λ c. SheetClause c ds) cs → All NumberlessClause cs → All (λ c. FormedClause c symbolic) cs
  clauses_symbolic [] h k = tt
  clauses_symbolic (c ∷ cs) h k = (clause_symbolic c h.0 k.0, clauses_symbolic cs h.1 k.1)

-- What is shown holds no number.
mutual
  unfolding FormedTerm Numberless symbolic

  shown_numberless : (P : Symbol → Type 0) (t : Ground) → FormedTerm t symbolic P → Numberless t
  shown_numberless P (leaf s) h = tt
  shown_numberless P (app (sheet_symbol f) ts) h = all_numberless P ts h.1
  shown_numberless P (app (numeral m) ts) h = absurd h.0

  all_numberless : (P : Symbol → Type 0) (ts : Terms Symbol) → FormedTerms ts symbolic P → NumberlessAll ts
  all_numberless P nil h = tt
  all_numberless P (cons t ts) h = (shown_numberless P t h.0, all_numberless P ts h.1)

-- Neither do the lines that show it.
abbrev NoNumbers : TextLine → Type 0
NoNumbers x = All Numberless (terms_of x)

line_numberless : (P : Symbol → Type 0) (Q : ℕ → Type 0) (x : Line Symbol) → FormedLine symbolic P Q x → NoNumbers (derivation_line x)
unfolding FormedLine terms_of line_terms
line_numberless P Q (plain w) h = tt
line_numberless P Q (Dsome t) h = (shown_numberless P t h, tt)
line_numberless P Q (Dall t) h = (shown_numberless P t h, tt)
line_numberless P Q (Dclause k ts) h = all_weaken (λ t. FormedTerm t symbolic P) Numberless (shown_numberless P) ts h.1

answer_numberless : (n : ℕ) (vs : List ℕ) (e : Environment Symbol) (ls : List (Line Symbol)) → All SheetName vs → ShownUpTo symbolic n e ls
    → All NoNumbers (answer_lines n vs e ls)
unfolding answer_lines terms_of
answer_numberless n vs e ls h k = (
  tt,
  all_append NoNumbers (map (λ v. binding_line v (e v)) vs) (map derivation_line ls)
      (all_map (λ v. binding_line v (e v)) SheetName NoNumbers
      (λ v l. (shown_numberless (SymbolUpTo n) (e v) (k.environment v l), tt)) vs h)
      (all_map derivation_line (FormedLine symbolic (SymbolUpTo n) (λ i. i ≤ n)) NoNumbers (line_numberless (SymbolUpTo n) (λ i. i ≤ n)) ls
      k.lines),
)

-- A sheet without numbers in its terms is well-formed with symbols alone.
pub sheet_symbolic : (s : Sheet) → Good s → All NumberlessClause s.clauses × NumberlessGoal s.goal
    → All (λ c. FormedClause c symbolic) s.clauses × FormedGoal s.goal symbolic
sheet_symbolic s good h = (
  clauses_symbolic s.symbols s.clauses good.clauses_formed h.0,
  goal_symbolic s.symbols s.goal good.goal_formed h.1,
)

-- The lines of a proof that shows symbols alone hold no number.
pub lines_numberless : (s : Sheet) (n : ℕ) (store : Store) (path : List (Line Leaf))
    → ShownUpTo symbolic n (final_environment store) (final_lines store path)
    → All (λ x. All Numberless (terms_of x)) (answer_lines n (free_variables s.goal) (final_environment store) (final_lines store path))
lines_numberless s n store path shown =
    answer_numberless n (free_variables s.goal) (final_environment store) (final_lines store path) (names_free s.goal) shown
