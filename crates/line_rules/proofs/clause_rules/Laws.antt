-- One law for each way through a turn of the loop or through a call; the hypotheses are the facts on the code's path.
use Prim.Native.Nat.{ℕ, ◌+◌, ◌-◌}
use mathlib.Core.Path.{◌≡◌, refl, ◌∙◌}
use mathlib.Core.Bool.{Bool, true, false, cond}
use mathlib.Core.List.{List}
use borrow.Author.Tests.{eq-eqb, ne_eqb}
use Rattle.sheet_format.specs.Bytes.{ascii}
use Rattle.node_table.specs.Layout.{kind_of, child_of}
use Rattle.scanning.specs.Ranges.{Number}
use Rattle.std.specs.Prelude.{Option, Some, None}
use Rattle.scanning.specs.Scanning.{Scan}
use Rattle.scanning.specs.Ranges.{scan_number}
use Rattle.scanning.specs.Frames.{copy_ranges}
use Rattle.scanning.specs.BriefComparisons.{same_atoms}
use Rattle.line_checking.specs.declared.Registers.{Registers}
use Rattle.line_checking.specs.Sequents.{Made, made, broken, with_sequent, next_sequent}
use Rattle.line_checking.specs.Members.{Place, place_from}
use Rattle.line_checking.specs.Bindings.{begins_with}
use Rattle.line_checking.specs.Clauses.{read, prefix_from, with_body, use_member, use_terms, use_found, use_place, use_place_at, clause_fields}
use Rattle.line_checking.specs.Clauses.{clause_line}
use Rattle.clause_members.specs.declared.Found.{Found}
use Rattle.clause_members.specs.Members.{member, head_of}
use lib.Dec.{eqb}
use Rattle.line_rules.proofs.result_lines.Laws.{after_done}

-- the member

module _ (t w : List ℕ) (r : Registers) (q n k : ℕ) (ek : k ≡ kind_of t n) where
  pub body_due : (a : ℕ) (s : Registers) → k ≡ 6 → a ≡ child_of t n 0 → s ≡ with_sequent r a q r.hypotheses r.level r.rest
      → s ≡ with_body t w r q n
  unfolding with_body
  body_due a s h ea es = rw (es, ea, ← ek, eq-eqb _ _ h)

  pub body_none : (s : Registers) → (k ≡ 6 → ⊥) → s ≡ next_sequent w r → s ≡ with_body t w r q n
  unfolding with_body
  body_none s h es = rw (es, ← ek, ne_eqb _ _ h)

module _ (b t x w : List ℕ) (r : Registers) (q n : ℕ) where
  module _ (a : ℕ) (z : Bool) (ea : a ≡ head_of t n) (ez : z ≡ same_atoms b t x w r.frame q r.node a) where
    pub member_same : (s : Registers) → z ≡ true → s ≡ with_body t w r q n → made w s ≡ use_member b t x w r q n
    unfolding use_member
    member_same s h es = rw (es, ← ea, ← ez, h)

    pub member_other : (m : Made) → z ≡ false → m ≡ broken w r → m ≡ use_member b t x w r q n
    unfolding use_member
    member_other m h em = rw (← ea, ← ez, h) em

-- the place, then the terms

module _ (b t : List ℕ) (symbols : ℕ) (x w : List ℕ) (r : Registers) (q i e : ℕ) (m : Made) where
  module _ (clauses : ℕ) where
    module _ (o : Number) (eo : o ≡ scan_number x i) where
      pub place_missing : o ≡ None → m ≡ broken w r → m ≡ clause_fields b t symbols clauses x w r q i e
      unfolding clause_fields
      place_missing h em = rw (clause_fields, ← eo, h) em

      module _ (k j : ℕ) (h : o ≡ Some (k, j)) (p : Place)
          (ep : p ≡ cond (eqb k 0) None (place_from t clauses w r.hypotheses (k - 1))) where
        place_read : m ≡ use_place b t symbols x w r q p j e → m ≡ clause_fields b t symbols clauses x w r q i e
        unfolding clause_fields use_place_at use_place
        place_read em =
            rw (clause_fields, ← eo, h, use_place_at)
            (em ∙ rw ep (go (eqb k 0) (place_from t clauses w r.hypotheses (k - 1))))
          where
            go : (z : Bool) (u : Place)
                → use_place b t symbols x w r q (cond z None u) j e ≡ cond z (broken w r) (use_place b t symbols x w r q u j e)
            go true u = refl
            go false u = refl

        pub place_nowhere : p ≡ None → m ≡ broken w r → m ≡ clause_fields b t symbols clauses x w r q i e
        unfolding use_place
        place_nowhere f em = place_read (rw (use_place, f) em)

        module _ (n f c : ℕ) (ef : p ≡ Some (n, f, c)) (a : Found) (w₁ w₂ : List ℕ) (s : Scan) (ea : a ≡ member t n c)
            (e₁ : w₁ ≡ copy_ranges 16 w q f 0)
            (e₂ : read w₂ s ≡ prefix_from a.count b t symbols x w₁ q a.names j r.level e) where
          terms_read : m ≡ use_terms b t x r q a.leaf (read w₂ s) e → m ≡ clause_fields b t symbols clauses x w r q i e
          unfolding use_place use_found
          terms_read em = place_read (rw (use_place, ef, ← ea, use_found, ← e₁, ← e₂) em)

          pub terms_wrong : s ≡ None → m ≡ broken w₂ r → m ≡ clause_fields b t symbols clauses x w r q i e
          unfolding use_terms
          terms_wrong g em = terms_read (rw (use_terms, g) em)

          pub terms_used : (z l : ℕ) → s ≡ Some (z, l) → z ≡ e → m ≡ use_member b t x w₂ r q a.leaf
              → m ≡ clause_fields b t symbols clauses x w r q i e
          unfolding use_terms
          terms_used z l g d em = terms_read (rw (use_terms, g, eq-eqb _ _ d) em)

          pub terms_more : (z l : ℕ) → s ≡ Some (z, l) → (z ≡ e → ⊥) → m ≡ broken w₂ r
              → m ≡ clause_fields b t symbols clauses x w r q i e
          unfolding use_terms
          terms_more z l g d em = terms_read (rw (use_terms, g, ne_eqb _ _ d) em)

    module _ (p : Option ℕ) (ep : p ≡ cond (begins_with (ascii "D\tclause\t") x i) (Some (i + 9)) None) where
      made_after : m ≡ elim p as (λ _. Made) [ Some u ↦ clause_fields b t symbols clauses x w r q u e | None ↦ broken w r ]
          → m ≡ clause_line b t symbols clauses x w r q i e
      unfolding clause_line
      made_after em = em ∙ after_done _ _ p (λ u. clause_fields b t symbols clauses x w r q u e) _ ep

      pub clause_begun : (a : ℕ) → p ≡ Some a → m ≡ clause_fields b t symbols clauses x w r q a e
          → m ≡ clause_line b t symbols clauses x w r q i e
      clause_begun a h em = made_after (rw h em)

      pub clause_wrong : p ≡ None → m ≡ broken w r → m ≡ clause_line b t symbols clauses x w r q i e
      clause_wrong h em = made_after (rw h em)
