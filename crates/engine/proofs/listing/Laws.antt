-- One law for each way through a function; the hypotheses are the facts on the code's path.
use Prim.Native.Nat.{ℕ, zero, suc, ◌-◌, ◌≤◌, ◌<◌}
use native.Mathlib.Omega.{arith}
use mathlib.Core.Path.{◌≡◌, refl, sym, ◌∙◌, ap, ap₂}
use mathlib.Core.Bool.{Bool, true, false, ◌||◌}
use mathlib.Core.List.{List}
use lib.Dec.{eqb, ltb}
use borrow.Author.Tests.{lt-ltb, le-ltb, eq-eqb, ne_eqb}
use Rattle.outcomes.specs.declared.Run.{Run}
use Rattle.sheet_format.specs.Bytes.{ascii}
use Rattle.machine.specs.declared.Registers.{Registers}
use Rattle.machine.specs.Records.{Made, made, proved_mode, no_mode}
use Rattle.machine.specs.ChoicePoints.{failed}
use Rattle.machine.specs.Machine.{run_acts}
use Rattle.printing.specs.PathLinks.{clear_variables}
use Rattle.printing.specs.Output.{written}
use Rattle.std.specs.Prelude.{Option}
use Rattle.printing.specs.Writer.{fitted, text_limit, own_bytes, Answered, answered, append_proof, append_result, copied}
use Rattle.engine.specs.declared.listing.Query.{Query}
use Rattle.engine.specs.declared.listing.Progress.{Progress}
use Rattle.engine.specs.Answering.{reply}
use Rattle.engine.specs.Listing.{go_on, listed, write_proofs, write_last, tell, report_proofs}
use Rattle.engine.proofs.ListedProofs.{write_ended, write_stops, write_goes}

-- Going on: the units left, the numbers cleared, the failure and the acts after it.
pub goes : (t : List ℕ) (q : Query) (w w₁ w₂ w₃ : List ℕ) (r s s₃ : Registers) (u : ℕ) → u ≡ q.budget - r.acts
    → w₁ ≡ clear_variables r.next w → made w₂ s ≡ failed w₁ r → made w₃ s₃ ≡ run_acts u t q.clauses w₂ s
    → made w₃ s₃ ≡ go_on t q (made w r)
unfolding go_on
goes t q w w₁ w₂ w₃ r s s₃ u a b c d =
    d ∙ ap (λ (x : Made). run_acts u t q.clauses x.memory x.registers) (c ∙ ap (λ (v : List ℕ). failed v r) b)
    ∙ ap (λ (n : ℕ). run_acts n t q.clauses (failed (clear_variables r.next w) r).memory
    (failed (clear_variables r.next w) r).registers) a

module _ (sheet t : List ℕ) (q : Query) (limit : ℕ) (w : List ℕ) (r : Registers) (own : List ℕ) (at : ℕ) where
  -- The machine does not stand at a proof.
  pub proofs_ended : (left : ℕ) → 1 ≤ left → (r.mode ≡ proved_mode → ⊥)
      → write_proofs left sheet t q limit (made w r) own at ≡ listed w own (record { registers = r; at = at; left = left })
  proofs_ended zero some h = absurd (omega arith)
  proofs_ended (suc k) some h = write_ended k sheet t q limit (made w r) own at h

  module _ (w' own' : List ℕ) (n : ℕ) (mode : r.mode ≡ proved_mode)
      (a : answered w' own' n ≡ append_proof sheet t q.goal (made w r) r.acts limit own at) where
    -- It does, and writing stops after it.
    stops : (k : ℕ) → eqb k 0 || ltb limit n ≡ true
        → write_proofs (suc k) sheet t q limit (made w r) own at ≡ listed w' own' (record { registers = r; at = n; left = k })
    stops k h =
        write_stops k sheet t q limit (made w r) own at mode
        (ap (λ (x : Answered ℕ). eqb k 0 || ltb limit x.length) (sym a) ∙ h)
        ∙ ap (λ (x : Answered ℕ). listed x.memory x.buffer (record { registers = r; at = x.length; left = k })) (sym a)

    -- It is the last that is wanted.
    pub proofs_last : (left : ℕ) → 1 ≤ left → left - 1 ≡ 0
        → write_proofs left sheet t q limit (made w r) own at ≡ listed w' own' (record { registers = r; at = n; left = left - 1 })
    proofs_last zero some z = absurd (omega arith)
    proofs_last (suc k) some z =
        let e : suc k - 1 ≡ k = omega arith in
        stops k (ap (◌|| ltb limit n) (eq-eqb k 0 (omega arith)))
        ∙ ap (λ (i : ℕ). listed w' own' (record { registers = r; at = n; left = i })) (sym e)

    -- The texts do not fit.
    pub proofs_long : (left : ℕ) → 1 ≤ left → limit < n
        → write_proofs left sheet t q limit (made w r) own at ≡ listed w' own' (record { registers = r; at = n; left = left - 1 })
    proofs_long zero some h = absurd (omega arith)
    proofs_long (suc k) some h =
        let e : suc k - 1 ≡ k = omega arith in
        stops k (ap (eqb k 0 ||◌) (lt-ltb limit n h) ∙ or_true (eqb k 0))
        ∙ ap (λ (i : ℕ). listed w' own' (record { registers = r; at = n; left = i })) (sym e)
      where
        or_true : (b : Bool) → b || true ≡ true
        or_true true = refl
        or_true false = refl

    -- The search goes on.
    pub proofs_more : (left : ℕ) (w'' : List ℕ) (r'' : Registers) → 1 ≤ left → (left - 1 ≡ 0 → ⊥) → n ≤ limit
        → made w'' r'' ≡ go_on t q (made w' r)
        → write_proofs left sheet t q limit (made w r) own at ≡ write_proofs (left - 1) sheet t q limit (made w'' r'') own' n
    proofs_more zero w'' r'' some z h g = absurd (omega arith)
    proofs_more (suc k) w'' r'' some z h g =
        let e : suc k - 1 ≡ k = omega arith in
        write_goes k sheet t q limit (made w r) own at mode
        (ap (λ (x : Answered ℕ). eqb k 0 || ltb limit x.length) (sym a)
        ∙ ap₂ ◌||◌ (ne_eqb k 0 (λ y. z (e ∙ y))) (le-ltb limit n h))
        ∙ ap (λ (x : Answered ℕ). write_proofs k sheet t q limit (go_on t q (made x.memory r)) x.buffer x.length) (sym a)
        ∙ ap (λ (x : Made). write_proofs k sheet t q limit x own' n) (sym g)
        ∙ ap (λ (i : ℕ). write_proofs i sheet t q limit (made w'' r'') own' n) (sym e)

-- The line after the last proof.
module _ (budget : ℕ) (p : Progress) (own : List ℕ) (limit : ℕ) where
  pub last_none : p.left ≡ 0 → written own p.at ≡ write_last budget p own limit
  unfolding write_last
  last_none h = rw (eq-eqb p.left 0 h)

  pub last_no : (own' : List ℕ) (n : ℕ) → (p.left ≡ 0 → ⊥) → p.registers.mode ≡ no_mode
      → written own' n ≡ append_result (ascii "R\tno\t") p.registers.acts own limit p.at → written own' n ≡ write_last budget p own limit
  unfolding write_last
  last_no own' n h m e = rw (ne_eqb p.left 0 h, eq-eqb p.registers.mode no_mode m) e

  pub last_spent : (own' : List ℕ) (n : ℕ) → (p.left ≡ 0 → ⊥) → (p.registers.mode ≡ no_mode → ⊥)
      → written own' n ≡ append_result (ascii "R\tspent\t") budget own limit p.at → written own' n ≡ write_last budget p own limit
  unfolding write_last
  last_spent own' n h m e = rw (ne_eqb p.left 0 h, ne_eqb p.registers.mode no_mode m) e

-- All of it.
pub reports : (sheet t : List ℕ) (q : Query) (w w' : List ℕ) (r : Registers) (limit : ℕ) (own own₁ own₂ out out' : List ℕ) (p : Progress)
    (at : ℕ) (n : Option ℕ) (e : Run) → limit ≡ text_limit out → own ≡ own_bytes
    → listed w' own₁ p ≡ write_proofs q.proofs sheet t q limit (made w r) own 0 → written own₂ at ≡ write_last q.budget p own₁ limit
    → fitted out' n ≡ copied limit own₂ at out → e ≡ tell q p n → reply out' e ≡ report_proofs sheet t q (made w r) out
unfolding report_proofs
reports sheet t q w w' r limit own own₁ own₂ out out' p at n e l o a b c d =
    let x : listed w' own₁ p ≡ write_proofs q.proofs sheet t q (text_limit out) (made w r) own_bytes 0 =
    a ∙ ap₂ (λ (i : ℕ) (v : List ℕ). write_proofs q.proofs sheet t q i (made w r) v 0) l o in
    let y : written own₂ at ≡ write_last q.budget p own₁ (text_limit out) = b ∙ ap (write_last q.budget p own₁) l in
    let z : fitted out' n ≡ copied (text_limit out) own₂ at out = c ∙ ap (λ (i : ℕ). copied i own₂ at out) l in
    rw (← x, ← y, ← z, d)
