-- Request W-202: the outcome and the units of an answer are those of its last R line.
use Prim.Native.Nat.{ℕ, suc}
use mathlib.Core.Path.{◌≡◌, refl, sym, ◌∙◌, ap, subst}
use mathlib.Core.List.{List, [], ◌∷◌, ◌++◌, map, append_assoc, append-nil}
use lib.ListN.{length}
use Rattle.enumeration.specs.Enumeration.{Proof, End, enough, exhausted, units_spent, enumerate}
use Rattle.sheet_format.specs.Sheets.{Sheet, rules_of}
use Rattle.answer_texts.specs.Enumerations.{found_text, found_texts, last_line, enumeration_text}
use Rattle.engine_spec.specs.EngineRun.{Request, Answer, enumeration_of, last_outcome, last_proof_units, last_units, answer_to}
use Rattle.engine_spec.specs.Promises.{join_texts}
use Rattle.engine_spec.specs.LastLine.{EndsWith, LastLines}
use Rattle.engine_spec.proofs.Answered.{answered_answers}
use Rattle.engine_spec.proofs.Enumerated.{never_enough, joined_texts, length_map}

module _ (s : Sheet) where
  -- The last of several proofs, with the texts before it.
  last_proof : (ps : List Proof) (p : Proof) → (before : List (List ℕ)) × (q : Proof) × (suc (length before) ≡ length (p ∷ ps))
      × (last_proof_units (p ∷ ps) ≡ q.units) × (found_texts s (p ∷ ps) ++ [] ≡ join_texts before (found_text s q))
  unfolding last_proof_units found_texts join_texts
  last_proof [] p = ([], p, refl, refl, append-nil (found_text s p ++ []) ∙ append-nil (found_text s p))
  last_proof (q ∷ ps) p =
      let r = last_proof ps q in (
        found_text s p ∷ r.0,
        r.1,
        ap suc r.2,
        r.3,
        append_assoc (found_text s p) (found_texts s (q ∷ ps)) [] ∙ ap (found_text s p ++◌) r.4,
      )

  -- The answer to an enumeration that has a proof where the number is reached.
  ends_with : (budget : ℕ) (ps : List Proof) (e : End) → (ps ≡ [] → e ≡ enough → ⊥)
      → let x = answer_to s budget (record { found = ps; end = e }) in (before : List (List ℕ)) × EndsWith s x before x.outcome
  unfolding answer_to EndsWith last_outcome last_units enumeration_text last_line
  ends_with budget [] enough h = absurd (h refl refl)
  ends_with budget (p ∷ ps) enough h = let r = last_proof ps p in (r.0, (r.1, r.2, r.3, r.4))
  ends_with budget ps (exhausted n) h = (map (found_text s) ps, (length_map s ps, joined_texts s ps _))
  ends_with budget ps units_spent h = (map (found_text s) ps, (length_map s ps, joined_texts s ps _))

pub last_lines : LastLines
unfolding enumeration_of
last_lines bytes ask t w a x f s read =
    let r = answered_answers bytes ask t w a x f in
    let same : r.s ≡ s = (let u = r.read in cc) in
    let walk = enumerate ask.proofs ask.budget (rules_of s) s.goal in
    let is : x ≡ answer_to s ask.budget walk = r.is ∙ ap (λ (y : Sheet). answer_to y ask.budget (enumeration_of y ask)) same in
    subst (λ (y : Answer). (before : List (List ℕ)) × EndsWith s y before y.outcome) (sym is)
    (ends_with s ask.budget walk.found walk.end
    (λ k q. never_enough (rules_of s) s.goal ask.proofs ask.budget r.passed.least_proofs k q))
