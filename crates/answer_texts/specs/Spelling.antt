-- Document 01, "The answer text": how lines and terms are written. "Tabs and LF stand as on the sheet."
use Rattle.std.specs.Prelude.{ℕ, List, [], ◌∷◌, ◌++◌, map}
use Prim.Native.Char.{code}
use Rattle.std.proofs.Math.Option.{Option, none, some}
use Rattle.std.proofs.Math.ListN.{get_elem?}
use Rattle.terms.specs.Terms.{Functor, sheet_symbol, numeral, leaf, app, Terms, nil, cons}
use Rattle.sequents.specs.Symbols.{Symbol, made, leftover, Ground}
use Rattle.sequents.specs.Sequents.{Word, Dtrue, Dand, Dleft, Dright, Dassume, Line, plain, Dsome, Dall, Dclause}
use Rattle.sheet_format.specs.Bytes.{ascii, tab, lf, decimal}
use Rattle.sheet_format.specs.Nodes.{Declaration}
use Rattle.answer_texts.specs.TextLines.{TextLine, result_line, binding_line, derivation_line}
use Rattle.answer_texts.specs.Numbering.{numbered}

-- The name of a symbol; a symbol that is not declared has none.
unfoldable pub name_in : Option Declaration → List ℕ
name_in none = []
name_in (some d) = d.name

unfoldable pub name_of : List Declaration → ℕ → List ℕ
name_of ds f = name_in (get_elem? ds f)

-- A symbol by its name; a number "in base ten" (W-204).
unfoldable pub spell_functor : List Declaration → Functor → List ℕ
spell_functor ds (sheet_symbol f) = name_of ds f
spell_functor ds (numeral n) = decimal n

-- "a leftover variable as `_number@level`, a made constant as `!number@level`"
unfoldable pub spell_symbol : Symbol → List ℕ
spell_symbol (made n k) = code "!" ∷ (decimal n ++ (code "@" ∷ decimal k))
spell_symbol (leftover n k) = code "_" ∷ (decimal n ++ (code "@" ∷ decimal k))

-- "A term is written as its name and, in round brackets, its arguments parted by commas, a constant as the bare name"
unfoldable mutual
  pub spell_term : Ground → List Declaration → List ℕ
  spell_term (leaf s) ds = spell_symbol s
  spell_term (app f ts) ds = spell_functor ds f ++ spell_arguments ts ds

  pub spell_arguments : Terms Symbol → List Declaration → List ℕ
  spell_arguments nil ds = []
  spell_arguments (cons t ts) ds = code "(" ∷ (spell_term t ds ++ spell_more ts ds)

  pub spell_more : Terms Symbol → List Declaration → List ℕ
  spell_more nil ds = code ")" ∷ []
  spell_more (cons t ts) ds = code "," ∷ (spell_term t ds ++ spell_more ts ds)

-- Fields parted by tabs, LF at the end.
unfoldable pub join : List (List ℕ) → List ℕ
join [] = []
join (f ∷ []) = f
join (f ∷ g ∷ fs) = f ++ (tab ∷ join (g ∷ fs))

unfoldable pub text_line : List (List ℕ) → List ℕ
text_line fs = join fs ++ (lf ∷ [])

unfoldable pub spell_word : Word → List ℕ
spell_word Dtrue = ascii "true"
spell_word Dand = ascii "and"
spell_word Dleft = ascii "left"
spell_word Dright = ascii "right"
spell_word Dassume = ascii "assume"

unfoldable pub spell_terms : List Declaration → List Ground → List (List ℕ)
spell_terms ds ts = map (λ t. spell_term t ds) ts

-- "`D true`, `D and`, `D left`, `D right`, `D some term`, `D all constant`, `D assume`, `D clause place term...`"
unfoldable pub line_fields : List Declaration → Line Symbol → List (List ℕ)
line_fields ds (plain w) = spell_word w ∷ []
line_fields ds (Dsome t) = ascii "some" ∷ spell_term t ds ∷ []
line_fields ds (Dall t) = ascii "all" ∷ spell_term t ds ∷ []
line_fields ds (Dclause k ts) = ascii "clause" ∷ decimal k ∷ spell_terms ds ts

unfoldable pub text_fields : List Declaration → TextLine → List (List ℕ)
text_fields ds (result_line n) = ascii "R" ∷ ascii "proved" ∷ decimal n ∷ []
text_fields ds (binding_line v t) = ascii "B" ∷ decimal v ∷ spell_term t ds ∷ []
text_fields ds (derivation_line x) = ascii "D" ∷ line_fields ds x

-- The lines as they stand, one after the other.
unfoldable pub spell : List Declaration → List TextLine → List ℕ
spell ds [] = []
spell ds (x ∷ xs) = text_line (text_fields ds x) ++ spell ds xs

-- The text of a proof, numbered by first showing; the texts of no and of spent, "spent reports the budget".
unfoldable pub proof_text : List Declaration → List TextLine → List ℕ
proof_text ds xs = spell ds (numbered xs)

unfoldable pub no_text : ℕ → List ℕ
no_text units = text_line (ascii "R" ∷ ascii "no" ∷ decimal units ∷ [])

unfoldable pub spent_text : ℕ → List ℕ
spent_text budget = text_line (ascii "R" ∷ ascii "spent" ∷ decimal budget ∷ [])
