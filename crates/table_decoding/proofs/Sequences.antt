-- The lists that a table is read back as: their lengths, what stands at a position, one element more, and when two are equal.
use Prim.Native.Nat.{ℕ, zero, suc, ◌+◌, ◌<◌, ◌≤◌}
use native.Mathlib.Omega.{arith}
use mathlib.Core.Path.{◌≡◌, refl, ap, ap₂, ◌∙◌}
use mathlib.Core.List.{List, [], ◌∷◌, ◌++◌}
use mathlib.Core.Option.{none, some}
use lib.ListN.{length, get_elem?}
use Rattle.formulas.specs.Formulas.{Clause}
use Rattle.sheet_format.specs.Nodes.{Declaration, Node}
use Rattle.node_table.specs.Layout.{clause_node}
use Rattle.node_table.specs.Decoding.{clause_at_node, declaration_at, declarations_from, clauses_from}
use Rattle.table_decoding.specs.Decoding.{node_read, nodes_from}

-- The list has f of each of the c numbers from i on.
unfoldable pub list_from : {A : Type 0} → (ℕ → A) → ℕ → ℕ → List A
list_from f zero i = []
list_from f (suc c) i = f i ∷ list_from f c (suc i)

pub from_length : {A : Type 0} (f : ℕ → A) (c i : ℕ) → length (list_from f c i) ≡ c
unfolding list_from
from_length f zero i = refl
from_length f (suc c) i = ap suc (from_length f c (suc i))

pub from_at : {A : Type 0} (f : ℕ → A) (c i a : ℕ) → a < c → get_elem? (list_from f c i) a ≡ some (f (i + a))
unfolding list_from
from_at f zero i a h = absurd (omega arith)
from_at f (suc c) i zero h = let e : i ≡ i + 0 = omega arith in ap (λ (x : ℕ). some (f x)) e
from_at f (suc c) i (suc a) h =
    let e : suc i + a ≡ i + suc a = omega arith in from_at f c (suc i) a (omega arith) ∙ ap (λ (x : ℕ). some (f x)) e

pub from_none : {A : Type 0} (f : ℕ → A) (c i a : ℕ) → c ≤ a → get_elem? (list_from f c i) a ≡ none
unfolding list_from
from_none f zero i a h = refl
from_none f (suc c) i zero h = absurd (omega arith)
from_none f (suc c) i (suc a) h = from_none f c (suc i) a (omega arith)

pub from_more : {A : Type 0} (f : ℕ → A) (c i : ℕ) → list_from f (suc c) i ≡ list_from f c i ++ (f (i + c) ∷ [])
unfolding list_from
from_more f zero i = let e : i ≡ i + 0 = omega arith in ap (λ (x : ℕ). f x ∷ []) e
from_more f (suc c) i =
    let e : suc i + c ≡ i + suc c = omega arith in
    ap (λ (l : _). f i ∷ l) (from_more f c (suc i) ∙ ap (λ (x : ℕ). list_from f c (suc i) ++ (f x ∷ [])) e)

pub from_agree : {A : Type 0} (f g : ℕ → A) (c i : ℕ) → ((j : ℕ) → i ≤ j → j < i + c → f j ≡ g j) → list_from f c i ≡ list_from g c i
unfolding list_from
from_agree f g zero i h = refl
from_agree f g (suc c) i h = ap₂ ◌∷◌ (h i (omega arith) (omega arith)) (from_agree f g c (suc i) (λ j k l. h j (omega arith) (omega arith)))

-- the three lists

pub declarations_list : (bytes t : List ℕ) (c i : ℕ) → declarations_from bytes t c i ≡ list_from (declaration_at bytes t) c i
unfolding declarations_from list_from
declarations_list bytes t zero i = refl
declarations_list bytes t (suc c) i = ap (λ (l : List Declaration). declaration_at bytes t i ∷ l) (declarations_list bytes t c (suc i))

pub nodes_list : (t : List ℕ) (c i : ℕ) → nodes_from t c i ≡ list_from (node_read t) c i
unfolding nodes_from list_from
nodes_list t zero i = refl
nodes_list t (suc c) i = ap (λ (l : List Node). node_read t i ∷ l) (nodes_list t c (suc i))

pub clauses_list : (t : List ℕ) (c i : ℕ) → clauses_from t c i ≡ list_from (λ j. clause_at_node t (clause_node t j)) c i
unfolding clauses_from list_from
clauses_list t zero i = refl
clauses_list t (suc c) i = ap (λ (l : List Clause). clause_at_node t (clause_node t i) ∷ l) (clauses_list t c (suc i))
