-- The texts of the proofs, one after another: what the machine finds as it goes on, and the writer appends, is the enumeration of level 1.
use Prim.Native.Nat.{ℕ, zero, suc, ◌+◌, ◌-◌, ◌*◌, ◌≤◌, ◌<◌}
use native.Mathlib.Omega.{arith}
use mathlib.Core.Path.{◌≡◌, refl, sym, ◌∙◌, ap, ap₂, subst}
use mathlib.Core.Bool.{Bool, true, false, ◌||◌}
use mathlib.Core.List.{List, [], ◌∷◌, ◌++◌}
use lib.Dec.{eqb, ltb}
use lib.ListN.{length, drop, length-append}
use borrow.Author.Tests.{ltb-true, ltb-false, lt-ltb, le-ltb, eq-eqb, ne_eqb}
use Rattle.search.specs.Configurations.{Configuration}
use Rattle.enumeration.specs.Enumeration.{Proof, End, enough, exhausted, units_spent, Enumeration, Next, finds, none_left, runs_out, next_proof}
use Rattle.enumeration.specs.Enumeration as level1
use Rattle.sheet_format.specs.Limits.{max_budget, max_text_bytes, numbers_per_unit}
use Rattle.sheet_format.specs.Sheets.{Sheet}
use Rattle.answer_texts.specs.Promises.{search_text}
use Rattle.answer_texts.specs.Enumerations.{found_text, found_texts}
use Rattle.node_table.specs.Decoding.{decode_sheet}
use Rattle.node_table.specs.WellMade.{WellMade, Named}
use Rattle.machine.specs.Records.{Made, made, proved_mode, no_mode}
use Rattle.machine.specs.ChoicePoints.{failed}
use Rattle.machine.specs.Machine.{run_acts}
use Rattle.machine.proofs.Tables.{Table}
use Rattle.machine.proofs.Configurations.{store_of, ConfigurationAt}
use Rattle.machine.proofs.Lengths.{length_failed, keeps_length}
use Rattle.machine.proofs.Simulation.{FoundAt, ToldNext, goes_on}
use Rattle.printing.specs.PathLinks.{clear_variables}
use Rattle.printing.specs.Writer.{Answered, append_proof}
use Rattle.printing.specs.Written.{Appended, Restored}
use Rattle.printing.proofs.Passes.{appends_proof}
use Rattle.printing.proofs.Ordered.{found_orderly}
use Rattle.printing.proofs.Restored.{restores_after, restored_grows}
use Rattle.engine_spec.specs.EngineRun.{last_proof_units}
use Rattle.engine.specs.declared.listing.Query.{Query}
use Rattle.engine.specs.declared.listing.Progress.{Progress}
use Rattle.engine.specs.Listing.{go_on, Listed, listed_at, write_proofs}

-- How far writing came, by the end of the enumeration.
unfoldable pub EndsAs : End → List Proof → Progress → Type 0
EndsAs enough ps p = (p.left ≡ 0) × (p.registers.acts ≡ last_proof_units ps)
EndsAs (exhausted n) ps p = (1 ≤ p.left) × (p.registers.mode ≡ no_mode) × (p.registers.acts ≡ n)
EndsAs units_spent ps p = (1 ≤ p.left) × (p.registers.mode < 4)

append_assoc : (x y z : List ℕ) → (x ++ y) ++ z ≡ x ++ (y ++ z)
append_assoc [] y z = refl
append_assoc (a ∷ x) y z = ap (a ∷◌) (append_assoc x y z)

append_none : (x : List ℕ) → x ≡ x ++ []
append_none [] = refl
append_none (a ∷ x) = ap (a ∷◌) (append_none x)

or_true : (b : Bool) → b || true ≡ true
or_true true = refl
or_true false = refl

-- A proof before others: where their number was reached, the last is still the last.
ends_before : (e : End) (p : Proof) (ps : List Proof) (x : Progress) (k : ℕ) → x.left + length ps ≡ suc k → EndsAs e ps x → EndsAs e (p ∷ ps) x
unfolding EndsAs last_proof_units
ends_before enough p [] x k n h = absurd (let z = h.0 in omega arith)
ends_before enough p (q ∷ ps) x k n h = h
ends_before (exhausted m) p ps x k n h = h
ends_before units_spent p ps x k n h = h

-- Where the machine does not stand at a proof, writing ends.
pub write_ended : (k : ℕ) (sheet t : List ℕ) (q : Query) (limit : ℕ) (m : Made) (own : List ℕ) (at : ℕ) → (m.registers.mode ≡ proved_mode → ⊥)
    → write_proofs (suc k) sheet t q limit m own at ≡ listed_at m own at (suc k)
unfolding write_proofs
write_ended k sheet t q limit m own at h = rw (write_proofs, ne_eqb m.registers.mode proved_mode h)

-- Where it does, the text is appended; then writing ends,
pub write_stops : (k : ℕ) (sheet t : List ℕ) (q : Query) (limit : ℕ) (m : Made) (own : List ℕ) (at : ℕ) → m.registers.mode ≡ proved_mode
    → eqb k 0 || ltb limit (append_proof sheet t q.goal m m.registers.acts limit own at).length ≡ true
    → let a = append_proof sheet t q.goal m m.registers.acts limit own at in
    write_proofs (suc k) sheet t q limit m own at ≡ listed_at (made a.memory m.registers) a.buffer a.length k
unfolding write_proofs
write_stops k sheet t q limit m own at h s = rw (write_proofs, eq-eqb m.registers.mode proved_mode h, s)

-- or it goes on.
pub write_goes : (k : ℕ) (sheet t : List ℕ) (q : Query) (limit : ℕ) (m : Made) (own : List ℕ) (at : ℕ) → m.registers.mode ≡ proved_mode
    → eqb k 0 || ltb limit (append_proof sheet t q.goal m m.registers.acts limit own at).length ≡ false
    → let a = append_proof sheet t q.goal m m.registers.acts limit own at in
    write_proofs (suc k) sheet t q limit m own at
    ≡ write_proofs k sheet t q limit (go_on t q (made a.memory m.registers)) a.buffer a.length
unfolding write_proofs
write_goes k sheet t q limit m own at h s = rw (write_proofs, eq-eqb m.registers.mode proved_mode h, s)

-- The table stands for a sheet.
module _ (sheet t : List ℕ) (symbols nodes : ℕ) (q : Query) (table : WellMade t nodes q.clauses q.goal) (named : Named t nodes symbols)
    (few : q.budget ≤ max_budget) (limit : ℕ) (low : limit ≤ max_text_bytes) where
  abbrev s : Sheet
  s = decode_sheet sheet t symbols q.clauses q.goal

  abbrev T : Table
  T = record { numbers = t; nodes = nodes; clauses = q.clauses; goal = q.goal; made = table }

  -- What was written of an enumeration, after `front`, of `size` bytes in all: its texts if they fit; if not, the position tells it.
  pub record ListedAs (k size : ℕ) (e : Enumeration) (front : List ℕ) (l : Listed) : Type 0 where
    pub long : length l.buffer ≡ size
    pub past : limit < length front + length (found_texts s e.found) → limit < l.progress.at
    pub bytes : length front + length (found_texts s e.found) ≤ limit
        → (rest : List ℕ) × (l.buffer ≡ (front ++ found_texts s e.found) ++ rest)
    pub position : length front + length (found_texts s e.found) ≤ limit → l.progress.at ≡ length front + length (found_texts s e.found)
    pub left : length front + length (found_texts s e.found) ≤ limit → l.progress.left + length e.found ≡ k
    pub ended : length front + length (found_texts s e.found) ≤ limit → EndsAs e.end e.found l.progress

  -- Nothing is found any more.
  none_listed : (k size : ℕ) (m : Made) (front rest : List ℕ) (e : End) → length (front ++ rest) ≡ size → length front ≤ limit
      → EndsAs e [] (record { registers = m.registers; at = length front; left = suc k })
      → ListedAs (suc k) size (record { found = []; end = e }) front (listed_at m (front ++ rest) (length front) (suc k))
  unfolding found_texts
  none_listed k size m front rest e n h x = record {
    long = n;
    past = λ z. absurd (omega arith);
    bytes = λ z. (rest, sym (append_assoc front [] rest));
    position = λ z. let e : length front ≡ length front + 0 = omega arith in e;
    left = λ z. let e : suc k + 0 ≡ suc k = omega arith in e;
    ended = λ z. x;
  }

  module _ (m : Made) (left : ℕ) (p : Proof) (ds : List Configuration) (room : numbers_per_unit * q.budget ≤ length m.memory)
      (found : FoundAt T m q.budget left p ds) where
    mode_proved : m.registers.mode ≡ proved_mode
    unfolding ConfigurationAt
    mode_proved = found.state.front.0

    -- The text that is appended.
    abbrev appended : List ℕ → ℕ → Answered ℕ
    appended own at = append_proof sheet t q.goal m m.registers.acts limit own at

    append_found : (front rest : List ℕ) → length front ≤ limit → limit ≤ length (front ++ rest)
        → Appended limit front (found_text s p) rest (appended (front ++ rest) (length front)).buffer
        (appended (front ++ rest) (length front)).length
    unfolding found_text
    append_found front rest h r =
        let o = found_orderly T m q.budget left p ds few room found in
        subst (λ (u : ℕ). Appended limit front (search_text s p.store p.path p.units) rest
        (append_proof sheet t q.goal m u limit (front ++ rest) (length front)).buffer
        (append_proof sheet t q.goal m u limit (front ++ rest) (length front)).length) (sym found.acts)
        (appends_proof sheet t symbols nodes q.clauses q.goal table named m p.store p.path o.0 o.1 p.units limit low front
        rest h r)

    -- The search goes on after it, from a memory in which the numbers are cleared.
    goes_on_found : (own : List ℕ) (at : ℕ)
        → ToldNext T (go_on t q (made (appended own at).memory m.registers)) q.budget (next_proof left p.units ds)
        × (numbers_per_unit * q.budget ≤ length (go_on t q (made (appended own at).memory m.registers)).memory)
    unfolding go_on store_of
    goes_on_found own at =
        let o = found_orderly T m q.budget left p ds few room found in
        let r = m.registers in
        let w = (appended own at).memory in
        let z = restores_after sheet t symbols nodes q.clauses q.goal table named m p.store p.path o.0 o.1 r.acts limit low
        own at in
        let c = clear_variables r.next w in
        let y : Restored m.memory c p.store.next =
        subst (λ (n : ℕ). Restored m.memory (clear_variables n w) p.store.next) (sym found.state.shared.next) z in
        let n = y.long in
        let b : left ≡ q.budget - r.acts = (let a = found.acts in let u = found.units in omega arith) in
        let g = goes_on T m q.budget left p ds c few (omega arith) found (restored_grows p.units m.memory c p.store.next y) in
        let f = failed c r in
        let k = keeps_length (q.budget - r.acts) t q.clauses f.memory f.registers in
        let j = length_failed c r in (
          subst (λ (v : ℕ). ToldNext T (run_acts v t q.clauses f.memory f.registers) q.budget (next_proof left p.units ds)) b g,
          omega arith,
        )

  -- The texts of one proof and of those after it.
  length_more : (p : Proof) (ps : List Proof) (front : List ℕ)
      → length front + length (found_texts s (p ∷ ps)) ≡ length (front ++ found_text s p) + length (found_texts s ps)
  unfolding found_texts
  length_more p ps front =
      let a = length-append (found_text s p) (found_texts s ps) in
      let b = length-append front (found_text s p) in
      omega arith

  -- A proof that is written, with what is written after it.
  more_listed : (k size : ℕ) (p : Proof) (e : Enumeration) (front : List ℕ) (l : Listed)
      → ListedAs (suc k) size e (front ++ found_text s p) l
      → ListedAs (suc (suc k)) size (record { found = p ∷ e.found; end = e.end }) front l
  unfolding found_texts
  more_listed k size p e front l h =
      let n = length_more p e.found front in
      record {
        long = h.long;
        past = λ z. h.past (omega arith);
        bytes = λ z. let r = h.bytes (omega arith) in
            (r.0, r.1 ∙ ap (◌++ r.0) (append_assoc front (found_text s p) (found_texts s e.found)));
        position = λ z. let a = h.position (omega arith) in omega arith;
        left = λ z. let a = h.left (omega arith) in omega arith;
        ended = λ z. ends_before e.end p e.found l.progress k (h.left (omega arith)) (h.ended (omega arith));
      }

  -- The last proof that is wanted.
  last_listed : (size : ℕ) (m : Made) (w : List ℕ) (p : Proof) (front rest own : List ℕ) (at : ℕ) → length (front ++ rest) ≡ size
      → m.registers.acts ≡ p.units → Appended limit front (found_text s p) rest own at
      → ListedAs 1 size (record { found = p ∷ []; end = enough }) front (listed_at (made w m.registers) own at 0)
  unfolding found_texts EndsAs last_proof_units
  last_listed size m w p front rest own at n u a =
      let z = append_none (found_text s p) in
      let y = ap length z in
      record {
        long = a.long ∙ n;
        past = λ h. a.past (omega arith);
        bytes = λ h. (
          drop (length (found_text s p)) rest,
          a.bytes (omega arith) ∙ sym (append_assoc front (found_text s p) (drop (length (found_text s p)) rest))
              ∙ ap (λ (x : List ℕ). (front ++ x) ++ drop (length (found_text s p)) rest) z,
        );
        position = λ h. let e = a.position (omega arith) in omega arith;
        left = λ h. refl;
        ended = λ h. (refl, u);
      }

  -- A text that does not fit: what is written after it does not matter.
  long_listed : (k size : ℕ) (m : Made) (w : List ℕ) (p : Proof) (e : Enumeration) (front rest own : List ℕ) (at : ℕ)
      → length (front ++ rest) ≡ size → Appended limit front (found_text s p) rest own at → limit < length front + length (found_text s p)
      → ListedAs (suc k) size (record { found = p ∷ e.found; end = e.end }) front (listed_at (made w m.registers) own at k)
  long_listed k size m w p e front rest own at n a h =
      let b = length-append front (found_text s p) in
      let c = length_more p e.found front in
      record {
        long = a.long ∙ n;
        past = λ z. a.past h;
        bytes = λ z. absurd (omega arith);
        position = λ z. absurd (omega arith);
        left = λ z. absurd (omega arith);
        ended = λ z. absurd (omega arith);
      }

  -- No alternative is left.
  no_listed : (k size : ℕ) (m : Made) (u : ℕ) (front rest : List ℕ) → length (front ++ rest) ≡ size → length front ≤ limit
      → (m.registers.mode ≡ no_mode) × (m.registers.acts ≡ u)
      → ListedAs (suc k) size (record { found = []; end = exhausted u }) front
      (write_proofs (suc k) sheet t q limit m (front ++ rest) (length front))
  unfolding EndsAs
  no_listed k size m u front rest z h told =
      rw (write_ended k sheet t q limit m (front ++ rest) (length front) (λ e. let a = told.0 in omega arith))
      (none_listed k size m front rest (exhausted u) z h (omega arith, told.0, told.1))

  -- No unit is left.
  spent_listed : (k size : ℕ) (m : Made) (front rest : List ℕ) → length (front ++ rest) ≡ size → length front ≤ limit
      → m.registers.mode < 4
      → ListedAs (suc k) size (record { found = []; end = units_spent }) front
      (write_proofs (suc k) sheet t q limit m (front ++ rest) (length front))
  unfolding EndsAs
  spent_listed k size m front rest z h told =
      rw (write_ended k sheet t q limit m (front ++ rest) (length front) (λ e. omega arith))
      (none_listed k size m front rest units_spent z h (omega arith, told))

  -- From each verdict of the machine on, as many as k + 1 proofs being wanted.
  pub write_listed : (k size : ℕ) (m : Made) (n : Next) (front rest : List ℕ) → length (front ++ rest) ≡ size → length front ≤ limit
      → limit ≤ size → numbers_per_unit * q.budget ≤ length m.memory → ToldNext T m q.budget n
      → ListedAs (suc k) size (level1.go_on (λ f u ds. level1.enumerate_from k f u ds) n) front
      (write_proofs (suc k) sheet t q limit m (front ++ rest) (length front))
  unfolding ToldNext level1.go_on level1.enumerate_from
  write_listed zero size m (none_left u) front rest z h l room told = no_listed zero size m u front rest z h told
  write_listed zero size m runs_out front rest z h l room told = spent_listed zero size m front rest z h told
  write_listed zero size m (finds left p ds) front rest z h l room told =
      let a = append_found m left p ds room told front rest h (omega arith) in
      rw (write_stops zero sheet t q limit m (front ++ rest) (length front) (mode_proved m left p ds room told) refl)
      (last_listed size m (appended m left p ds room told (front ++ rest) (length front)).memory p front rest
      (appended m left p ds room told (front ++ rest) (length front)).buffer
      (appended m left p ds room told (front ++ rest) (length front)).length z told.acts a)
  write_listed (suc k) size m (none_left u) front rest z h l room told = no_listed (suc k) size m u front rest z h told
  write_listed (suc k) size m runs_out front rest z h l room told = spent_listed (suc k) size m front rest z h told
  write_listed (suc k) size m (finds left p ds) front rest z h l room told =
      go (ltb limit (length front + length (found_text s p))) refl
      (λ m' n' front' rest' a b c d e. write_listed k size m' n' front' rest' a b c d e)
    where
      a : Appended limit front (found_text s p) rest (appended m left p ds room told (front ++ rest) (length front)).buffer
          (appended m left p ds room told (front ++ rest) (length front)).length
      a = append_found m left p ds room told front rest h (omega arith)

      x : Answered ℕ
      x = appended m left p ds room told (front ++ rest) (length front)

      e : Enumeration
      e = level1.enumerate_from (suc k) left p.units ds

      text : List ℕ
      text = found_text s p

      go : (b : Bool) → ltb limit (length front + length (found_text s p)) ≡ b
          → ((m' : Made) (n' : Next) (front' rest' : List ℕ) → length (front' ++ rest') ≡ size → length front' ≤ limit
          → limit ≤ size → numbers_per_unit * q.budget ≤ length m'.memory → ToldNext T m' q.budget n'
          → ListedAs (suc k) size (level1.go_on (λ f u ds. level1.enumerate_from k f u ds) n') front'
          (write_proofs (suc k) sheet t q limit m' (front' ++ rest') (length front')))
          → ListedAs (suc (suc k)) size (record {
            found = p ∷ (level1.enumerate_from (suc k) left p.units ds).found;
            end =
                (level1.enumerate_from (suc k) left p.units ds).end;
          }) front
          (write_proofs (suc (suc k)) sheet t q limit m (front ++ rest) (length front))
      go true y ih =
          let long = ltb-true limit (length front + length text) y in
          rw (write_stops (suc k) sheet t q limit m (front ++ rest) (length front) (mode_proved m left p ds room told)
          (ap (eqb (suc k) 0 ||◌) (lt-ltb limit x.length (a.past long)) ∙ or_true (eqb (suc k) 0)))
          (long_listed (suc k) size m x.memory p e front rest x.buffer x.length z a long)
      go false y ih =
          let fits = ltb-false limit (length front + length text) y in
          let at = a.position fits in
          let own : x.buffer ≡ (front ++ text) ++ drop (length text) rest =
          a.bytes fits ∙ sym (append_assoc front text (drop (length text) rest)) in
          let j : length (front ++ text) ≡ length front + length text = length-append front text in
          let g = goes_on_found m left p ds room told (front ++ rest) (length front) in
          let n = go_on t q (made x.memory m.registers) in
          rw (write_goes (suc k) sheet t q limit m (front ++ rest) (length front) (mode_proved m left p ds room told)
          (ap₂ ◌||◌ (ne_eqb (suc k) 0 (λ q. omega arith)) (le-ltb limit x.length (omega arith))))
          (more_listed k size p e front _
          (subst (λ (v : ℕ). ListedAs (suc k) size e (front ++ text) (write_proofs (suc k) sheet t q limit n x.buffer v)) (j ∙ sym at)
          (subst (λ (o : List ℕ). ListedAs (suc k) size e (front ++ text) (write_proofs (suc k) sheet t q limit n o (length (front ++ text))))
          (sym own)
          (ih n (next_proof left p.units ds) (front ++ text) (drop (length text) rest) (ap length (sym own) ∙ a.long ∙ z) (omega arith) l
          g.1 g.0))))
