-- Function symbols that the sheet declares, and the bytes of made constants and leftover variables.
use Prim.Native.Nat.{ℕ}
use Prim.Native.Char.{code}
use mathlib.Core.Path.{◌≡◌, refl, sym, ap}
use mathlib.Core.Bool.{true, true≢false}
use mathlib.Core.List.{List, ◌∷◌, ◌++◌}
use mathlib.Core.Option.{Option, none, some}
use lib.Dec.{eqb}
use lib.ListN.{get_elem?}
use borrow.Author.Tests.{eqb-true, eq-eqb}
use Rattle.terms.specs.Terms.{Functor, sheet_symbol, numeral}
use Rattle.formulas.proofs.Free.{and_parts}
use Rattle.sheet_format.specs.Bytes.{decimal, is_name}
use Rattle.sheet_format.specs.Nodes.{Declaration}
use Rattle.sheet_format.proofs.Indexing.{at_all}
use Rattle.sheet_format.proofs.Names.{Names}
use Rattle.sheet_format.proofs.Formed.{Takes, Declares}
use Rattle.answer_texts.specs.Spelling.{name_in, name_of}
use Rattle.answer_texts.specs.Spelled.{WritableFunctor, has_arity}

-- The bytes of a symbol's number and level.
abbrev pub marked : ℕ → ℕ → List ℕ
marked n k = decimal n ++ (code "@" ∷ decimal k)

-- The test that symbol g is a function symbol of arity n, and the fact.
pub has_arity_lem : (ds : List Declaration) (g n : ℕ) → has_arity n (get_elem? ds g) ≡ true → Declares ds true g n
unfolding has_arity
has_arity_lem ds g n h = go (get_elem? ds g) refl h
  where
    go : (o : Option Declaration) → get_elem? ds g ≡ o → has_arity n o ≡ true → Declares ds true g n
    go none e k = absurd (true≢false (sym k))
    go (some d) e k =
        let p = and_parts d.function (eqb d.arity n) k in
        record { declaration = d; at = e; kind = p.0; arity = eqb-true d.arity n p.1 }

-- A function symbol that is declared with arity n passes the test for arity n.
pub arity_has : (ds : List Declaration) (g n : ℕ) → Declares ds true g n → has_arity n (get_elem? ds g) ≡ true
unfolding has_arity
arity_has ds g n h = rw h.at (rw h.kind (eq-eqb h.declaration.arity n h.arity))

-- A declared symbol has its name.
pub name_at : (ds : List Declaration) (g : ℕ) (d : Declaration) → get_elem? ds g ≡ some d → name_of ds g ≡ d.name
unfolding name_of name_in
name_at ds g d h = ap name_in h

-- The name of a declared function symbol is a name.
pub name_of_lem : (ds : List Declaration) (g n : ℕ) → Names ds → Declares ds true g n → is_name (name_of ds g) ≡ true
name_of_lem ds g n ns h =
    rw (name_at ds g h.declaration h.at) (at_all (λ d. is_name d.name ≡ true) ds g h.declaration ns.named h.at)

-- What the sheet lets stand before so many arguments can be written before them.
pub takes_writable : (ds : List Declaration) (g : Functor) (n : ℕ) → Takes ds g n → WritableFunctor ds g n
unfolding Takes WritableFunctor
takes_writable ds (sheet_symbol g) n h = arity_has ds g n h
takes_writable ds (numeral m) n h = h

-- Nothing else can.
pub writable_takes : (ds : List Declaration) (g : Functor) (n : ℕ) → WritableFunctor ds g n → Takes ds g n
unfolding Takes WritableFunctor
writable_takes ds (sheet_symbol g) n h = has_arity_lem ds g n h
writable_takes ds (numeral m) n h = h
