-- What an answer tells of the walk that goes on after each proof: the first thing told, what a larger number or budget leaves of it, and
-- its text by parts.
use Prim.Native.Nat.{ℕ, zero, suc, ◌+◌, ◌≤◌}
use native.Mathlib.Omega.{arith}
use mathlib.Core.Path.{◌≡◌, refl, sym, ◌∙◌, ap}
use mathlib.Core.Bool.{Bool, true, false, cond}
use mathlib.Core.List.{List, [], ◌∷◌, ◌++◌, map, append_assoc}
use lib.Dec.{leb}
use lib.ListN.{length, length-append}
use Rattle.terms.specs.Lists.{All}
use Rattle.formulas.specs.Formulas.{Goal, Clause}
use Rattle.formulas.specs.Rules.{Rules}
use Rattle.search.specs.Search.{proved, no_proof, SearchOutcome, ends, spent, search}
use Rattle.enumeration.specs.Enumeration.{Proof, End, enough, exhausted, units_spent, Enumeration, enumerate}
use Rattle.enumeration.specs.Smaller.{end_within, within}
use Rattle.enumeration.proofs.Promises.{all_first, all_counts, all_larger}
use Rattle.sheet_format.specs.Sheets.{Sheet}
use Rattle.answer_texts.specs.Enumerations.{found_text, found_texts}
use Rattle.engine_spec.specs.Promises.{join_texts, ProofsIn, SameFirst}

-- What is told first: the first proof, or what the walk ended with.
unfoldable pub first_outcome : List Proof → End → SearchOutcome
first_outcome [] enough = spent
first_outcome [] (exhausted n) = ends no_proof n
first_outcome [] units_spent = spent
first_outcome (p ∷ ps) e = ends (proved p.store p.path) p.units

module _ (cs : Rules Clause) (g : Goal) where
  -- Where the number is not 0 it is reached by a proof only.
  pub never_enough : (wanted budget : ℕ) → 1 ≤ wanted → (enumerate wanted budget cs g).found ≡ []
      → (enumerate wanted budget cs g).end ≡ enough → ⊥
  never_enough wanted budget l f e =
      let n = (all_counts cs g wanted budget).reached.0 e in
      let z : length (enumerate wanted budget cs g).found ≡ 0 = ap length f in
      omega arith

  -- What is told first is what the search of document 01 tells.
  pub first_told : (wanted budget : ℕ) → 1 ≤ wanted
      → search budget cs g ≡ first_outcome (enumerate wanted budget cs g).found (enumerate wanted budget cs g).end
  unfolding first_outcome
  first_told zero budget l = absurd (omega arith)
  first_told (suc wanted) budget l = go (enumerate (suc wanted) budget cs g).found refl (enumerate (suc wanted) budget cs g).end refl
    where
      go : (ps : List Proof) → (enumerate (suc wanted) budget cs g).found ≡ ps → (e : End) → (enumerate (suc wanted) budget cs g).end ≡ e
          → search budget cs g ≡ first_outcome ps e
      go [] f enough q = absurd (never_enough (suc wanted) budget l f q)
      go [] f (exhausted n) q = ((all_first cs g wanted budget).denies n).1 (f, q)
      go [] f units_spent q = (all_first cs g wanted budget).spends.1 (f, q)
      go (p ∷ ps) f e q = ((all_first cs g wanted budget).proves p.units p.store p.path).1 (ps, f)

-- What a smaller budget leaves is all, unless it ends with spent.
within_all : (b : ℕ) (ps : List Proof) (e : End) → ((within b ps e).end ≡ units_spent → ⊥)
    → within b ps e ≡ record { found = ps; end = e }
unfolding within end_within
within_all b [] enough h = refl
within_all b [] (exhausted n) h = go (leb n b) h
  where
    go : (c : Bool) → (cond c (exhausted n) units_spent ≡ units_spent → ⊥)
        → ◌≡◌ {A = Enumeration} (record { found = []; end = cond c (exhausted n) units_spent }) (record { found = []; end = exhausted n })
    go true k = refl
    go false k = absurd (k refl)
within_all b [] units_spent h = absurd (h refl)
within_all b (p ∷ ps) e h = go (leb p.units b) h (within_all b ps e)
  where
    kept : Enumeration
    kept = record { found = p ∷ (within b ps e).found; end = (within b ps e).end }

    none : Enumeration
    none = record { found = []; end = units_spent }

    go : (c : Bool) → ((cond c kept none).end ≡ units_spent → ⊥)
        → (((within b ps e).end ≡ units_spent → ⊥) → within b ps e ≡ record { found = ps; end = e })
        → cond c kept none ≡ record { found = p ∷ ps; end = e }
    go true k ih = ap (λ (r : Enumeration). record { found = p ∷ r.found; end = r.end }) (ih k)
    go false k ih = absurd (k refl)

-- A larger budget leaves as it is what does not end with spent.
pub larger_same : (cs : Rules Clause) (g : Goal) (wanted b c : ℕ) → b ≤ c → ((enumerate wanted b cs g).end ≡ units_spent → ⊥)
    → enumerate wanted c cs g ≡ enumerate wanted b cs g
larger_same cs g wanted b c l h =
    let e = (all_larger cs g).budgets wanted b c l in
    sym (e ∙ within_all b (enumerate wanted c cs g).found (enumerate wanted c cs g).end
    (λ q. h (ap (λ (r : Enumeration). r.end) e ∙ q)))

module _ (s : Sheet) where
  -- The texts of proofs, one after another.
  pub joined_texts : (ps : List Proof) (line : List ℕ) → found_texts s ps ++ line ≡ join_texts (map (found_text s) ps) line
  unfolding found_texts join_texts
  joined_texts [] line = refl
  joined_texts (p ∷ ps) line = append_assoc (found_text s p) (found_texts s ps) line ∙ ap (found_text s p ++◌) (joined_texts ps line)

  pub length_map : (ps : List Proof) → length (map (found_text s) ps) ≡ length ps
  length_map [] = refl
  length_map (p ∷ ps) = ap suc (length_map ps)

  -- No proof is longer than the whole text.
  parts_short : (ps : List Proof) (line : List ℕ) (n : ℕ) → length (found_texts s ps ++ line) ≤ n
      → All (λ p. length (found_text s p) ≤ n) ps
  unfolding found_texts
  parts_short [] line n h = tt
  parts_short (p ∷ ps) line n h =
      let a = length-append (found_text s p ++ found_texts s ps) line in
      let b = length-append (found_text s p) (found_texts s ps) in
      let c = length-append (found_texts s ps) line in
      (omega arith, parts_short ps line n (omega arith))

  each_map : (P : List ℕ → Type 0) (ps : List Proof) → All (λ p. P (found_text s p)) ps → All P (map (found_text s) ps)
  each_map P [] h = tt
  each_map P (p ∷ ps) h = (h.0, each_map P ps h.1)

  -- What holds of each proof found holds of each proof in the text.
  pub proofs_in : (P : List ℕ → Type 0) (ps : List Proof) (line : List ℕ) → All (λ p. P (found_text s p)) ps
      → ProofsIn P (length ps) (found_texts s ps ++ line)
  proofs_in P ps line h = record {
    proofs = map (found_text s) ps;
    counted = length_map ps;
    each = each_map P ps h;
    line = line;
    joined = joined_texts ps line;
  }

  -- The same where it holds of texts within a limit.
  pub short_proofs_in : (P : List ℕ → Type 0) (ps : List Proof) (line : List ℕ) (n : ℕ) → length (found_texts s ps ++ line) ≤ n
      → All (λ p. length (found_text s p) ≤ n → P (found_text s p)) ps → ProofsIn P (length ps) (found_texts s ps ++ line)
  short_proofs_in P ps line n short h = proofs_in P ps line (go ps h (parts_short ps line n short))
    where
      go : (qs : List Proof) → All (λ p. length (found_text s p) ≤ n → P (found_text s p)) qs
          → All (λ p. length (found_text s p) ≤ n) qs → All (λ p. P (found_text s p)) qs
      go [] k l = tt
      go (q ∷ qs) k l = (k.0 l.0, go qs k.1 l.1)

  map_append : (ps qs : List Proof) → map (found_text s) (ps ++ qs) ≡ map (found_text s) ps ++ map (found_text s) qs
  map_append [] qs = refl
  map_append (p ∷ ps) qs = ap (found_text s p ∷◌) (map_append ps qs)

  -- Proofs that are found first stand first.
  pub same_first : (ps qs : List Proof) (line line' : List ℕ)
      → SameFirst (length ps) (found_texts s ps ++ line) (length (ps ++ qs)) (found_texts s (ps ++ qs) ++ line')
  same_first ps qs line line' = record {
    proofs = map (found_text s) ps;
    others = map (found_text s) qs;
    counted = length_map ps;
    counted' = ap length (sym (map_append ps qs)) ∙ length_map (ps ++ qs);
    line = line;
    line' = line';
    joined = joined_texts ps line;
    joined' = joined_texts (ps ++ qs) line' ∙ ap (λ (ts : List (List ℕ)). join_texts ts line') (map_append ps qs);
  }
