-- Programs and lines of small derivations, computed.
use Prim.Native.Nat.{ℕ, suc}
use mathlib.Core.Path.{◌≡◌, refl}
use mathlib.Core.List.{List, [], ◌∷◌, map}
use Rattle.terms.specs.Lists.{here, there, place, elem, update}
use Rattle.terms.specs.Terms.{sheet_symbol, Terms, leaf, app, nil, cons, substitute}
use Rattle.formulas.specs.Formulas.{Goal, atom, truth, implies, forall, Clause, fact, both, each, free_t, free_g, free_b}
use Rattle.formulas.specs.Members.{members, quantify, stands_free}
use Rattle.formulas.specs.Rules.{Order, oldest, latest, rules, joined, assume}
use Rattle.sequents.specs.Symbols.{Symbol, made}
use Rattle.sequents.specs.Sequents.{Environment, Program, hypothesis, entries_of, entries, assign, Line, plain, Dassume, Dall}
use Rattle.sequents.specs.Sequents.{Dclause}
use Rattle.sequents.specs.Derivations.{Derivation, d_assume, d_all, d_clause, b_none, lines}

abbrev none_bound : Environment Symbol
none_bound v = app (sheet_symbol 0) nil

-- Lists the predicates of a program's members in trying order.
unfoldable trying : Program Symbol → List ℕ
unfolding entries_of members quantify stands_free free_t free_g free_b elem
trying P = map (λ m. m.member.predicate) (entries P)

-- The clauses 1 and 2 of a sheet; then 3 and 4 are assumed as one clause, and after that 5 and 6.
abbrev assuming : Order → Program Symbol
assuming o =
    assume (hypothesis (both (fact 5 nil) (fact 6 nil)) none_bound)
    (assume (hypothesis (both (fact 3 nil) (fact 4 nil)) none_bound)
    (rules o (hypothesis (fact 1 nil) none_bound ∷ hypothesis (fact 2 nil) none_bound ∷ [])))

-- The default order: the sheet's clauses, then the assumptions, oldest first, within a clause left first.
order : trying (assuming oldest) ≡ 1 ∷ 2 ∷ 3 ∷ 4 ∷ 5 ∷ 6 ∷ []
unfolding trying joined
order = refl

-- With `O latest`: the assumptions, latest first, within a clause left first, then the sheet's clauses.
order_latest : trying (assuming latest) ≡ 5 ∷ 6 ∷ 3 ∷ 4 ∷ 1 ∷ 2 ∷ []
unfolding trying joined
order_latest = refl

-- For p implies every x q, with the clause q of the sheet, the member used stands at place 1, before the assumption; with `O latest` it
-- stands at place 2, after it.
goal : Goal
goal = implies (fact 0 nil) (forall 0 (atom 1 nil))

derivation : Derivation (rules oldest (hypothesis (fact 1 nil) none_bound ∷ [])) goal none_bound 0
unfolding goal joined entries_of members quantify stands_free free_t free_g free_b elem assign substitute
derivation = d_assume (d_all 7 (d_clause _ here [] (record { many = refl; low = tt }) refl refl b_none))

places : lines derivation ≡ plain Dassume ∷ Dall (leaf (made 7 1)) ∷ Dclause 1 [] ∷ []
unfolding derivation lines place
places = refl

derivation_latest : Derivation (rules latest (hypothesis (fact 1 nil) none_bound ∷ [])) goal none_bound 0
unfolding goal joined entries_of members quantify stands_free free_t free_g free_b elem assign substitute
derivation_latest = d_assume (d_all 7 (d_clause _ (there here) [] (record { many = refl; low = tt }) refl refl b_none))

places_latest : lines derivation_latest ≡ plain Dassume ∷ Dall (leaf (made 7 1)) ∷ Dclause 2 [] ∷ []
unfolding derivation_latest lines place
places_latest = refl
