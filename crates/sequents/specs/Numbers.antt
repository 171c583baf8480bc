-- Request W-204: "Any n may stand in a derivation ..., whether or not the sheet has it." A number is of level 0, so that it is a witness of
-- every "some" and a term for every name of a prefix; and it is no made constant, so that it never stands for an "every".
use Rattle.std.specs.Prelude.{ℕ, ◌≤◌, List, [], ◌∷◌, ◌↔◌}
use Rattle.terms.specs.Lists.{update}
use Rattle.terms.specs.Terms.{number_term}
use Rattle.formulas.specs.Formulas.{Goal, exists, forall}
use Rattle.sequents.specs.Symbols.{Symbol, level}
use Rattle.sequents.specs.Sequents.{Environment, Program, Sequent, sequent, Dsome, Dall}
use Rattle.sequents.specs.Lines.{Infers}

pub record NumberStands (n : ℕ) : Type 1 where
  pub witness : (v : ℕ) (g : Goal) (e : Environment Symbol) (P : Program Symbol) (i : ℕ) (K : List (Sequent Symbol) → Type 0)
      → Infers (Dsome (number_term n)) (exists v g) e P i K ↔ K (sequent g (update e v (number_term n)) P i ∷ [])
  pub low : (i : ℕ) → level (number_term n) ≤ i
  pub not_made : (v : ℕ) (g : Goal) (e : Environment Symbol) (P : Program Symbol) (i : ℕ) (K : List (Sequent Symbol) → Type 0)
      → Infers (Dall (number_term n)) (forall v g) e P i K → ⊥

abbrev pub NumbersStand : Type 1
NumbersStand = (n : ℕ) → NumberStands n
