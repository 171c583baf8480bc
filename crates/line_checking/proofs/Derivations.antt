-- D lines: what makes one right or wrong, and the next of the sequents left.
use Prim.Native.Nat.{ℕ, suc, ◌-◌}
use native.Mathlib.Omega.{arith}
use mathlib.Core.Path.{◌≡◌, refl, ap, ◌∙◌}
use mathlib.Core.List.{List, [], ◌∷◌, ◌++◌}
use mathlib.Core.Option.{Option, none, some, map}
use mathlib.Core.Logic.{inl}
use lib.Dec.{eqb}
use borrow.Author.Tests.{ne_eqb}
use Rattle.formulas.specs.Formulas.{Goal}
use Rattle.sequents.specs.Symbols.{Symbol}
use Rattle.sequents.specs.Sequents.{Sequent, Line}
use Rattle.answer_texts.specs.TextLines.{TextLine, result_line, binding_line, derivation_line}
use Rattle.answer_texts.specs.Spelled.{WritableLine, Writable, sequents}
use Rattle.text_judging.specs.Judging.{infer, allow}
use Rattle.text_judging.proofs.Reading.{line_bytes}
use Rattle.line_checking.specs.declared.Registers.{Registers}
use Rattle.line_checking.specs.Sequents.{Made, with_stage, broken, with_sequent, open_sequent, next_sequent, broken_stage}
use Rattle.line_checking.proofs.Representation.{Setting, declared, sheet_of, SequentsAt, Holds}
use Rattle.line_checking.proofs.Results.{Result, is_wrong, either_side}

-- the next sequent

-- After `next_sequent` the registers hold the sequents left.
pub proceed_holds : (c : Setting) (k : ℕ) (w : List ℕ) (r : Registers) (gs : List (Sequent Symbol)) → SequentsAt c k w r.rest gs
    → Holds c k w (next_sequent w r) (sequents gs)
unfolding next_sequent with_stage open_sequent with_sequent Holds SequentsAt
proceed_holds c k w r [] h = rw h
proceed_holds c k w r (g ∷ gs) h =
    let p = h.0 in
    let e = h.1 in
    let z : suc p - 1 ≡ p = omega arith in
    rw (e, ne_eqb (suc p) 0 (λ q. omega arith), z) (refl, h.3, h.4)

-- The stage after `next_sequent` is not the broken stage.
pub proceed_stage : (w : List ℕ) (r : Registers) → (next_sequent w r).stage ≡ broken_stage → ⊥
unfolding next_sequent with_stage open_sequent with_sequent
proceed_stage w r =
    either_side (λ (s : Registers). s.stage ≡ broken_stage → ⊥) (eqb r.rest 0) _ _ (λ h e. omega arith) (λ h e. omega arith)

-- The count of made constants stays after `next_sequent`.
pub proceed_made : (w : List ℕ) (r : Registers) → (next_sequent w r).made ≡ r.made
unfolding next_sequent with_stage open_sequent with_sequent
proceed_made w r = either_side (λ (s : Registers). s.made ≡ r.made) (eqb r.rest 0) _ _ (λ h. refl) (λ h. refl)

-- The count of leftover variables stays after `next_sequent`.
pub proceed_leftover : (w : List ℕ) (r : Registers) → (next_sequent w r).leftover ≡ r.leftover
unfolding next_sequent with_stage open_sequent with_sequent
proceed_leftover w r = either_side (λ (s : Registers). s.leftover ≡ r.leftover) (eqb r.rest 0) _ _ (λ h. refl) (λ h. refl)

-- lines for the sequent g, before the sequents gs

module _ (c : Setting) (q : ℕ) (l : List ℕ) (g : Sequent Symbol) (gs : List (Sequent Symbol)) (G : Goal) (goal : g.goal ≡ G) where
  -- What a D line leaves to derive.
  abbrev pub inferred : Line Symbol → Option (List (Sequent Symbol))
  inferred d = infer d G g.environment g.program g.level

  -- What a D line leaves to derive, before the sequents gs, is what `allow` gives.
  allow_is : (d : Line Symbol) → allow (sheet_of c) (derivation_line d) (sequents (g ∷ gs)) ≡ map (λ new. sequents (new ++ gs))
      (inferred d)
  unfolding allow
  allow_is d = ap (λ (y : Goal). map (λ new. sequents (new ++ gs)) (infer d y g.environment g.program g.level)) goal

  -- A line is wrong where no D line that could be so written is a step.
  pub wrong_line : (w : List ℕ) (r s : Registers)
      → ((d : Line Symbol) → l ≡ line_bytes (declared c) (derivation_line d) → WritableLine (declared c) d → inferred d ≡ none)
      → Result c q l (sequents (g ∷ gs)) r (broken w s)
  unfolding allow Writable
  wrong_line w r s h = is_wrong c q l (sequents (g ∷ gs)) w r s unfit
    where
      unfit : (line : TextLine) → l ≡ line_bytes (declared c) line → Writable (declared c) line
          → allow (sheet_of c) line (sequents (g ∷ gs)) ≡ none
      unfit (result_line n) p y = refl
      unfit (binding_line v t) p y = refl
      unfit (derivation_line d) p y = allow_is d ∙ ap (map (λ new. sequents (new ++ gs))) (h d p y)

  -- A line is right where it is that of a step.
  pub right_line_lem : (r : Registers) (m : Made) (d : Line Symbol) (new : List (Sequent Symbol))
      → l ≡ line_bytes (declared c) (derivation_line d) → WritableLine (declared c) d
      → inferred d ≡ some new → Holds c (suc q) m.memory m.registers (sequents (new ++ gs))
      → (m.registers.stage ≡ broken_stage → ⊥) → m.registers.made ≡ r.made
      → m.registers.leftover ≡ r.leftover → Result c q l (sequents (g ∷ gs)) r m
  unfolding Writable
  right_line_lem r m d new p y k h z a b = inl (record {
    line = derivation_line d;
    spelled = p;
    writable = y;
    after = sequents (new ++ gs);
    allowed = allow_is d ∙ ap (map (λ new. sequents (new ++ gs))) k;
    holds = h;
    goes_on = z;
    same_made_lem = a;
    same_leftover_lem = b;
  })
