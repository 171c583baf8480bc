-- What a smaller number or a smaller budget leaves of an enumeration, and what number 1 makes of a search.
use Rattle.std.specs.Prelude.{ℕ, zero, suc, cond, List, [], ◌∷◌, leb}
use Rattle.search.specs.Search.{proved, no_proof, SearchOutcome, ends, spent}
use Rattle.enumeration.specs.Enumeration.{Proof, proof_of, End, enough, exhausted, units_spent, Enumeration}

-- A smaller number leaves as many of the proofs, and the end if the number is not reached.
unfoldable pub firsts : ℕ → List Proof → End → Enumeration
firsts zero ws e = record { found = []; end = enough }
firsts (suc wanted) [] e = record { found = []; end = e }
firsts (suc wanted) (w ∷ ws) e =
    let r = firsts wanted ws e in
    record { found = w ∷ r.found; end = r.end }

-- A smaller budget leaves an end that has no more units,
unfoldable pub end_within : ℕ → End → End
end_within budget enough = enough
end_within budget (exhausted n) = cond (leb n budget) (exhausted n) units_spent
end_within budget units_spent = units_spent

-- and the proofs with no more units; where anything is left out the units are spent.
unfoldable pub within : ℕ → List Proof → End → Enumeration
within budget [] e = record { found = []; end = end_within budget e }
within budget (w ∷ ws) e =
    let r = within budget ws e in
    cond (leb w.units budget) (record { found = w ∷ r.found; end = r.end }) (record { found = []; end = units_spent })

-- The outcome of a search as an enumeration of one proof.
unfoldable pub one_proof : SearchOutcome → Enumeration
one_proof (ends (proved s ls) n) = record { found = proof_of n s ls ∷ []; end = enough }
one_proof (ends no_proof n) = record { found = []; end = exhausted n }
one_proof spent = record { found = []; end = units_spent }
