-- Document 01, the checker: "valid, or not valid with the first line that breaks a rule or form given here, the numbering by first
-- showing and the closing LF included; if lines are missing it is one past the last, if there are too many the first surplus one."
-- A judgement that computes; that it is exact is promise T6.
use Rattle.std.specs.Prelude.{ℕ, zero, suc, Bool, true, false, ◌&&◌, cond, List, [], ◌∷◌, ◌++◌, eqb, leb, ltb, length, get_or}
use Rattle.std.proofs.Math.Option.{Option, none, some, map}
use Rattle.std.proofs.Math.ListN.{get_elem?}
use Rattle.terms.specs.Lists.{update}
use Rattle.terms.specs.Terms.{same_functor, leaf, app, Terms, nil, cons, substitutes}
use Rattle.formulas.specs.Formulas.{Goal, atom, truth, and, or, implies, exists, forall, free_variables}
use Rattle.formulas.specs.Rules.{assume}
use Rattle.sequents.specs.Symbols.{Symbol, made, leftover, Ground, level}
use Rattle.sequents.specs.Sequents.{Environment, Program, hypothesis, Entry, entries, Sequent, sequent, assign, body_sequent, Word, Dtrue}
use Rattle.sequents.specs.Sequents.{Dand, Dleft, Dright, Dassume, Line, plain, Dsome, Dall, Dclause}
use Rattle.sheet_format.specs.Limits.{max_budget}
use Rattle.sheet_format.specs.Bytes.{lines_of, fields}
use Rattle.sheet_format.specs.Sheets.{Sheet}
use Rattle.answer_texts.specs.TextLines.{TextLine, result_line, binding_line, derivation_line, terms_of}
use Rattle.answer_texts.specs.Numbering.{symbols_of, same_symbol}
use Rattle.answer_texts.specs.Spelled.{Stage, opening, bindings, sequents, bound_stage, blank}
use Rattle.answer_texts.specs.Capitals.{small_sheet, small_text}
use Rattle.answer_texts.specs.Judgements.{Judgement, valid, invalid}
use Rattle.text_judging.specs.Reading.{read_line}

-- Equal terms.
unfoldable mutual
  pub same_term : Ground → Ground → Bool
  same_term (leaf a) (leaf b) = same_symbol a b
  same_term (leaf a) (app g us) = false
  same_term (app f ts) (leaf b) = false
  same_term (app f ts) (app g us) = same_functor f g && same_terms ts us

  pub same_terms : Terms Symbol → Terms Symbol → Bool
  same_terms nil nil = true
  same_terms nil (cons u us) = false
  same_terms (cons t ts) nil = false
  same_terms (cons t ts) (cons u us) = same_term t u && same_terms ts us

-- Numbering by first showing: the levels of the symbols shown so far, by number, for each kind. A number that is due is new; one
-- that has shown has the level it had.
pub record Seen : Type 0 where
  pub of_made : List ℕ
  pub of_leftover : List ℕ

unfoldable pub show_number : List ℕ → ℕ → ℕ → Option (List ℕ)
show_number ls n k = cond (eqb n (length ls)) (some (ls ++ (k ∷ []))) (cond (ltb n (length ls) && eqb (get_or ls n 0) k) (some ls) none)

unfoldable pub show_symbol : Seen → Symbol → Option Seen
show_symbol s (made n k) = map (λ ls. record { of_made = ls; of_leftover = s.of_leftover }) (show_number s.of_made n k)
show_symbol s (leftover n k) = map (λ ls. record { of_made = s.of_made; of_leftover = ls }) (show_number s.of_leftover n k)

unfoldable pub show_symbols : List Symbol → Seen → Option Seen
show_symbols [] s = some s
show_symbols (x ∷ xs) s = elim (show_symbol s x) [ none ↦ none | some u ↦ show_symbols xs u ]

-- What a D line does to a sequent.
unfoldable pub word_number : Word → ℕ
word_number Dtrue = 0
word_number Dand = 1
word_number Dleft = 2
word_number Dright = 3
word_number Dassume = 4

unfoldable pub same_word : Word → Word → Bool
same_word v w = eqb (word_number v) (word_number w)

unfoldable pub is_plain : Word → Line Symbol → Bool
is_plain w (plain v) = same_word v w
is_plain w (Dsome t) = false
is_plain w (Dall t) = false
is_plain w (Dclause k ts) = false

unfoldable pub infer_some : Line Symbol → ℕ → (Ground → List (Sequent Symbol)) → Option (List (Sequent Symbol))
infer_some (plain w) i f = none
infer_some (Dsome t) i f = cond (leb (level t) i) (some (f t)) none
infer_some (Dall t) i f = none
infer_some (Dclause k ts) i f = none

unfoldable pub infer_constant : Ground → ℕ → (Ground → List (Sequent Symbol)) → Option (List (Sequent Symbol))
infer_constant (leaf (made n k)) i f = cond (eqb k (suc i)) (some (f (leaf (made n k)))) none
infer_constant (leaf (leftover n k)) i f = none
infer_constant (app g us) i f = none

unfoldable pub infer_all : Line Symbol → ℕ → (Ground → List (Sequent Symbol)) → Option (List (Sequent Symbol))
infer_all (plain w) i f = none
infer_all (Dsome t) i f = none
infer_all (Dall t) i f = infer_constant t i f
infer_all (Dclause k ts) i f = none

unfoldable pub all_low : ℕ → List Ground → Bool
all_low i [] = true
all_low i (t ∷ ts) = leb (level t) i && all_low i ts

unfoldable pub infer_entry : Option (Entry Symbol) → List Ground → ℕ → Terms Symbol → Program Symbol → ℕ → Option (List (Sequent Symbol))
infer_entry none ts p us P i = none
infer_entry (some m) ts p us P i =
    let e = assign m.member.prefix ts m.environment in
    cond (eqb (length ts) (length m.member.prefix) && all_low i ts && eqb p m.member.predicate && same_terms us
    (substitutes m.member.arguments e))
    (some (body_sequent m.member.body e P i)) none

-- The place counts from 1.
unfoldable pub entry_at : ℕ → List (Entry Symbol) → Option (Entry Symbol)
entry_at zero l = none
entry_at (suc k) l = get_elem? l k

unfoldable pub infer_clause : Line Symbol → ℕ → Terms Symbol → Program Symbol → ℕ → Option (List (Sequent Symbol))
infer_clause (plain w) p us P i = none
infer_clause (Dsome t) p us P i = none
infer_clause (Dall t) p us P i = none
infer_clause (Dclause k ts) p us P i = infer_entry (entry_at k (entries P)) ts p us P i

unfoldable pub infer : Line Symbol → Goal → Environment Symbol → Program Symbol → ℕ → Option (List (Sequent Symbol))
infer x (atom p us) e P i = infer_clause x p (substitutes us e) P i
infer x truth e P i = cond (is_plain Dtrue x) (some []) none
infer x (and a b) e P i = cond (is_plain Dand x) (some (sequent a e P i ∷ sequent b e P i ∷ [])) none
infer x (or a b) e P i = cond (is_plain Dleft x) (some (sequent a e P i ∷ [])) (cond (is_plain Dright x) (some (sequent b e P i ∷ [])) none)
infer x (implies c g) e P i = cond (is_plain Dassume x) (some (sequent g e (assume (hypothesis c e) P) i ∷ [])) none
infer x (exists v g) e P i = infer_some x i (λ t. sequent g (update e v t) P i ∷ [])
infer x (forall v g) e P i = infer_all x i (λ t. sequent g (update e v t) P (suc i) ∷ [])

-- The stage after a line, if the line is right.
unfoldable pub allow : Sheet → TextLine → Stage → Option Stage
allow s (result_line n) opening = cond (leb 1 n && leb n max_budget) (some (bound_stage s (free_variables s.goal) blank)) none
allow s (result_line n) (bindings vs e) = none
allow s (result_line n) (sequents gs) = none
allow s (binding_line v t) opening = none
allow s (binding_line v t) (bindings [] e) = none
allow s (binding_line v t) (bindings (w ∷ ws) e) = cond (eqb v w && leb (level t) 0) (some (bound_stage s ws (update e w t))) none
allow s (binding_line v t) (sequents gs) = none
allow s (derivation_line x) opening = none
allow s (derivation_line x) (bindings vs e) = none
allow s (derivation_line x) (sequents []) = none
allow s (derivation_line x) (sequents (g ∷ gs)) =
    map (λ new. sequents (new ++ gs)) (infer x g.goal g.environment g.program g.level)

-- Where a judgement stands after some lines.
pub record Progress : Type 0 where
  pub stage : Stage
  pub seen : Seen

unfoldable pub progress : Option Stage → Option Seen → Option Progress
progress none u = none
progress (some a) none = none
progress (some a) (some u) = some (record { stage = a; seen = u })

unfoldable pub judge_read : Sheet → Option TextLine → Progress → Option Progress
judge_read s none p = none
judge_read s (some x) p = progress (allow s x p.stage) (show_symbols (symbols_of (terms_of x)) p.seen)

unfoldable pub judge_line : Sheet → List ℕ → Progress → Option Progress
judge_line s bytes p = judge_read s (read_line s.symbols (fields bytes)) p

-- No sequent is left, and no byte after the last LF.
unfoldable pub judge_end : Stage → List ℕ → ℕ → Judgement
judge_end opening r k = invalid k
judge_end (bindings vs e) r k = invalid k
judge_end (sequents (g ∷ gs)) r k = invalid k
judge_end (sequents []) [] k = valid
judge_end (sequents []) (c ∷ cs) k = invalid k

unfoldable pub judge_from : Sheet → List (List ℕ) → List ℕ → ℕ → Progress → Judgement
judge_from s [] r k p = judge_end p.stage r k
judge_from s (l ∷ ls) r k p = elim (judge_line s l p) [ none ↦ invalid k | some q ↦ judge_from s ls r (suc k) q ]

-- The judgement where the case of letters counts.
unfoldable pub judge_exactly : Sheet → List ℕ → Judgement
judge_exactly s text =
    let l = lines_of text in
    judge_from s l.whole l.rest 1 (record { stage = opening; seen = record { of_made = []; of_leftover = [] } })

-- Request W-201: names are compared folded.
unfoldable pub judge : Sheet → List ℕ → Judgement
judge s text = judge_exactly (small_sheet s) (small_text text)
