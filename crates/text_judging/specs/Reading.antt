-- Reading a line of an answer text back: the line that its bytes spell, if there is one.
use Rattle.std.specs.Prelude.{ℕ, zero, suc, Bool, true, false, cond, List, [], ◌∷◌, eqb, length}
use Prim.Native.Char.{code}
use Rattle.std.proofs.Math.Option.{Option, none, some, map}
use Rattle.terms.specs.Terms.{Functor, sheet_symbol, numeral, leaf, app, Terms, nil, cons}
use Rattle.sequents.specs.Symbols.{Symbol, made, leftover, Ground}
use Rattle.sequents.specs.Sequents.{Word, Dtrue, Dand, Dleft, Dright, Dassume, plain, Dsome, Dall, Dclause}
use Rattle.sheet_format.specs.Bytes.{ascii, is_digit, is_name_byte, number, same_bytes}
use Rattle.sheet_format.specs.Nodes.{Declaration}
use Rattle.answer_texts.specs.TextLines.{TextLine, result_line, binding_line, derivation_line}

-- The longest beginning of bytes of one kind, and what follows it.
pub record Span : Type 0 where
  pub taken : List ℕ
  pub rest : List ℕ

unfoldable pub span : (ℕ → Bool) → List ℕ → Span
span k [] = record { taken = []; rest = [] }
span k (c ∷ cs) =
    let r = span k cs in
    elim (k c) [ true ↦ record { taken = c ∷ r.taken; rest = r.rest } | false ↦ record { taken = []; rest = c ∷ cs } ]

-- What was read, and the bytes after it.
pub record Parsed (A : Type 0) : Type 0 where
  pub value : A
  pub rest : List ℕ

abbrev pub parsed : {A : Type 0} → A → List ℕ → Option (Parsed A)
parsed a r = some (record { value = a; rest = r })

-- "number@level"
unfoldable pub with_level : (ℕ → ℕ → Symbol) → Option ℕ → Option ℕ → List ℕ → Option (Parsed Ground)
with_level s none k r = none
with_level s (some n) none r = none
with_level s (some n) (some k) r = parsed (leaf (s n k)) r

unfoldable pub read_level : (ℕ → ℕ → Symbol) → Option ℕ → List ℕ → Option (Parsed Ground)
read_level s n [] = none
read_level s n (c ∷ cs) = let k = span is_digit cs in cond (eqb c (code "@")) (with_level s n (number k.taken) k.rest) none

unfoldable pub read_symbol : (ℕ → ℕ → Symbol) → List ℕ → Option (Parsed Ground)
read_symbol s bytes = let n = span is_digit bytes in read_level s (number n.taken) n.rest

-- The byte c, then what r reads.
unfoldable pub after : {A : Type 0} → ℕ → (List ℕ → Option A) → List ℕ → Option A
after c r [] = none
after c r (d ∷ ds) = elim (eqb d c) [ true ↦ r ds | false ↦ none ]

-- `cons_parsed` puts a term in front; `read_more` reads n more, each after a comma, and the closing bracket; r reads a term.
unfoldable pub cons_parsed : Ground → Option (Parsed (Terms Symbol)) → Option (Parsed (Terms Symbol))
cons_parsed t none = none
cons_parsed t (some p) = parsed (cons t p.value) p.rest

unfoldable pub read_more : (List ℕ → Option (Parsed Ground)) → ℕ → List ℕ → Option (Parsed (Terms Symbol))
read_more r zero bytes = after (code ")") (λ ds. parsed nil ds) bytes
read_more r (suc n) bytes =
    after (code ",") (λ ds. elim (r ds) [ none ↦ none | some p ↦ cons_parsed p.value (read_more r n p.rest) ]) bytes

unfoldable pub read_arguments : (List ℕ → Option (Parsed Ground)) → ℕ → List ℕ → Option (Parsed (Terms Symbol))
read_arguments r zero bytes = parsed nil bytes
read_arguments r (suc n) bytes =
    after (code "(") (λ ds. elim (r ds) [ none ↦ none | some p ↦ cons_parsed p.value (read_more r n p.rest) ]) bytes

-- The function symbol of that name, with its number.
pub record Found : Type 0 where
  pub symbol : ℕ
  pub arity : ℕ

unfoldable pub find_name : ℕ → List Declaration → List ℕ → Option Found
find_name k [] n = none
find_name k (d ∷ ds) n = elim (same_bytes n d.name) [
  | true ↦ cond d.function (some (record { symbol = k; arity = d.arity })) none
  | false ↦ find_name (suc k) ds n
]

-- What is written so before arguments, and how many it takes: a number (request W-204) takes none, a function symbol its arity.
pub record Head : Type 0 where
  pub functor : Functor
  pub arity : ℕ

unfoldable pub head_of : Option ℕ → Option Found → Option Head
head_of (some n) f = some (record { functor = numeral n; arity = 0 })
head_of none none = none
head_of none (some f) = some (record { functor = sheet_symbol f.symbol; arity = f.arity })

unfoldable pub find_head : List Declaration → List ℕ → Option Head
find_head ds b = head_of (number b) (find_name 0 ds b)

unfoldable pub apply_to : Functor → Option (Parsed (Terms Symbol)) → Option (Parsed Ground)
apply_to f none = none
apply_to f (some p) = parsed (app f p.value) p.rest

unfoldable pub read_application : (List ℕ → Option (Parsed Ground)) → Option Head → List ℕ → Option (Parsed Ground)
read_application r none bytes = none
read_application r (some h) bytes = apply_to h.functor (read_arguments r h.arity bytes)

-- A term, nested at most as deep as the first argument says.
unfoldable pub read_term : ℕ → List Declaration → List ℕ → Option (Parsed Ground)
read_term zero ds bytes = none
read_term (suc f) ds [] = none
read_term (suc f) ds (c ∷ cs) =
    let n = span is_name_byte (c ∷ cs) in
    elim (eqb c (code "!")) [
      | true ↦ read_symbol made cs
      | false ↦ elim (eqb c (code "_")) [
        | true ↦ read_symbol leftover cs
        | false ↦ read_application (read_term f ds) (find_head ds n.taken) n.rest
      ]
    ]

-- A field that is a term: nothing is left. A field of n bytes nests less than n deep.
unfoldable pub whole_term : Option (Parsed Ground) → Option Ground
whole_term none = none
whole_term (some p) = elim p.rest [ [] ↦ some p.value | c ∷ cs ↦ none ]

unfoldable pub term_field : List Declaration → List ℕ → Option Ground
term_field ds bytes = whole_term (read_term (length bytes) ds bytes)

unfoldable pub cons_field : Option Ground → Option (List Ground) → Option (List Ground)
cons_field none ts = none
cons_field (some t) none = none
cons_field (some t) (some ts) = some (t ∷ ts)

unfoldable pub term_fields : List Declaration → List (List ℕ) → Option (List Ground)
term_fields ds [] = some []
term_fields ds (f ∷ fs) = cons_field (term_field ds f) (term_fields ds fs)

-- D lines, by their word and the fields after it.
unfoldable pub plain_line : Word → List (List ℕ) → Option TextLine
plain_line w [] = some (derivation_line (plain w))
plain_line w (f ∷ fs) = none

unfoldable pub term_line : (Ground → TextLine) → List Declaration → List (List ℕ) → Option TextLine
term_line l ds [] = none
term_line l ds (f ∷ []) = map l (term_field ds f)
term_line l ds (f ∷ g ∷ fs) = none

unfoldable pub use_line : Option ℕ → Option (List Ground) → Option TextLine
use_line none ts = none
use_line (some k) none = none
use_line (some k) (some ts) = some (derivation_line (Dclause k ts))

unfoldable pub clause_fields : List Declaration → List (List ℕ) → Option TextLine
clause_fields ds [] = none
clause_fields ds (k ∷ fs) = use_line (number k) (term_fields ds fs)

unfoldable pub by_word : List Declaration → List ℕ → List (List ℕ) → Option TextLine
by_word ds w fs =
    cond (same_bytes w (ascii "true")) (plain_line Dtrue fs)
    (cond (same_bytes w (ascii "and")) (plain_line Dand fs)
    (cond (same_bytes w (ascii "left")) (plain_line Dleft fs)
    (cond (same_bytes w (ascii "right")) (plain_line Dright fs)
    (cond (same_bytes w (ascii "assume")) (plain_line Dassume fs)
    (cond (same_bytes w (ascii "some")) (term_line (λ t. derivation_line (Dsome t)) ds fs)
    (cond (same_bytes w (ascii "all")) (term_line (λ t. derivation_line (Dall t)) ds fs)
    (cond (same_bytes w (ascii "clause")) (clause_fields ds fs) none)))))))

unfoldable pub derivation_fields : List Declaration → List (List ℕ) → Option TextLine
derivation_fields ds [] = none
derivation_fields ds (w ∷ fs) = by_word ds w fs

-- "R proved units", "B v term"
unfoldable pub result_fields : List (List ℕ) → Option TextLine
result_fields [] = none
result_fields (o ∷ []) = none
result_fields (o ∷ n ∷ []) = cond (same_bytes o (ascii "proved")) (map result_line (number n)) none
result_fields (o ∷ n ∷ f ∷ fs) = none

unfoldable pub binding_of : Option ℕ → List Declaration → List (List ℕ) → Option TextLine
binding_of none ds fs = none
binding_of (some v) ds fs = term_line (binding_line v) ds fs

unfoldable pub binding_fields : List Declaration → List (List ℕ) → Option TextLine
binding_fields ds [] = none
binding_fields ds (v ∷ fs) = binding_of (number v) ds fs

-- The line whose fields these are.
unfoldable pub read_line : List Declaration → List (List ℕ) → Option TextLine
read_line ds [] = none
read_line ds (f ∷ fs) =
    cond (same_bytes f (ascii "R")) (result_fields fs)
    (cond (same_bytes f (ascii "B")) (binding_fields ds fs)
    (cond (same_bytes f (ascii "D")) (derivation_fields ds fs) none))
