-- T2: the search within a budget tells what the search without one comes to, exactly if its units suffice.
use Prim.Native.Nat.{ℕ, zero, suc, ◌+◌, ◌≤◌, ◌<◌}
use mathlib.Core.Path.{◌≡◌, refl, sym, ◌∙◌, ap, ap₂, subst}
use mathlib.Core.Option.{Option, none, some}
use native.Mathlib.Decide.{dec_le}
use native.Mathlib.Omega.{arith}
use Rattle.formulas.specs.Formulas.{Goal, Clause}
use Rattle.formulas.specs.Rules.{Rules}
use Rattle.search.specs.Search.{start, advance, after, Verdict, verdict_of, ComesTo, SearchOutcome, ends, spent, search_from, search}
use Rattle.search.specs.Promises.{Units}

module _ (cs : Rules Clause) (g : Goal) where
  -- No verdict stood before u acts.
  abbrev Undecided : ℕ → Type 0
  Undecided u = (m : ℕ) → m < u → verdict_of (after cs g m) ≡ none

  -- Nor does one stand after u acts.
  undecided_more : (u : ℕ) → Undecided u → verdict_of (after cs g u) ≡ none → Undecided (suc u)
  undecided_more u h e m l = go (dec_le (suc m) u)
    where
      go : Dec (m < u) → verdict_of (after cs g m) ≡ none
      go (yes k) = h m k
      go (no k) = ap (λ (j : ℕ). verdict_of (after cs g j)) (let q : m ≡ u = omega arith in q) ∙ e

  -- A verdict that is told from the state after u acts, none having stood before, is what the search comes to.
  told_verdict : (f u n : ℕ) (v w : Verdict) → Undecided u → verdict_of (after cs g u) ≡ some w → ends w u ≡ ends v n
      → ComesTo cs g n v × (n ≤ u + f)
  unfolding ComesTo
  told_verdict f u n v w h e k =
      let p : w ≡ v = cc in
      let q : u ≡ n = cc in
      (subst (λ (m : ℕ). (verdict_of (after cs g m) ≡ some v) × Undecided m) q (e ∙ ap some p, h), omega arith)

  told : (f u n : ℕ) (v : Verdict) → Undecided u → search_from f u (after cs g u) ≡ ends v n → ComesTo cs g n v × (n ≤ u + f)
  unfolding search_from after
  told zero u n v h k = go (verdict_of (after cs g u)) refl k
    where
      go : (o : Option Verdict) → verdict_of (after cs g u) ≡ o → (elim o [ some w ↦ ends w u | none ↦ spent ]) ≡ ends v n
          → ComesTo cs g n v × (n ≤ u + zero)
      go (some w) e q = told_verdict zero u n v w h e q
      go none e q = absurd (let z : ◌≡◌ {A = ℕ} 0 1 = cc in omega arith)
  told (suc f) u n v h k = go (verdict_of (after cs g u)) refl (λ i q. told f (suc u) n v i q) k
    where
      go : (o : Option Verdict) → verdict_of (after cs g u) ≡ o
          → (Undecided (suc u) → search_from f (suc u) (advance u (after cs g u)) ≡ ends v n → ComesTo cs g n v × (n ≤ suc u + f))
          → (elim o [ some w ↦ ends w u | none ↦ search_from f (suc u) (advance u (after cs g u)) ]) ≡ ends v n
          → ComesTo cs g n v × (n ≤ u + suc f)
      go (some w) e ih q = told_verdict (suc f) u n v w h e q
      go none e ih q = let r = ih (undecided_more u h e) q in (r.0, let l = r.1 in omega arith)

  -- What the search comes to is told from the state after u acts if the units suffice.
  tells : (f u n : ℕ) (v : Verdict) → ComesTo cs g n v → u ≤ n → n ≤ u + f → search_from f u (after cs g u) ≡ ends v n
  unfolding search_from ComesTo after
  tells zero u n v h l k =
      let q : u ≡ n = omega arith in
      rw (search_from, ap (λ (j : ℕ). verdict_of (after cs g j)) q, h.0, q)
  tells (suc f) u n v h l k = go (dec_le (suc u) n) (λ d. tells f (suc u) n v h d (omega arith))
    where
      go : Dec (u < n) → (u < n → search_from f (suc u) (advance u (after cs g u)) ≡ ends v n)
          → search_from (suc f) u (after cs g u) ≡ ends v n
      go (yes d) ih = rw (search_from, h.1 u d) (ih d)
      go (no d) ih =
          let q : u ≡ n = omega arith in
          rw (search_from, ap (λ (j : ℕ). verdict_of (after cs g j)) q, h.0, q)

  -- A verdict that is told is one that the search comes to, within the budget.
  told_comes : (budget n : ℕ) (v : Verdict) → search budget cs g ≡ ends v n → ComesTo cs g n v × (n ≤ budget)
  unfolding search after
  told_comes budget n v h = let r = told budget 0 n v (λ m l. absurd (omega arith)) h in (r.0, let l = r.1 in omega arith)

  -- A verdict that the search comes to within the budget is told.
  comes_told : (budget n : ℕ) (v : Verdict) → ComesTo cs g n v → n ≤ budget → search budget cs g ≡ ends v n
  unfolding search after
  comes_told budget n v h l = tells budget 0 n v h (omega arith) (omega arith)

  -- If the answer is spent, every verdict that the search comes to needs more units than the budget.
  spent_short : (budget : ℕ) → search budget cs g ≡ spent → (n : ℕ) (v : Verdict) → ComesTo cs g n v → budget < n
  spent_short budget h n v k = go (dec_le n budget)
    where
      go : Dec (n ≤ budget) → budget < n
      go (yes l) = absurd (let e = comes_told budget n v k l in let q : ◌≡◌ {A = ℕ} 0 1 = cc in omega arith)
      go (no l) = omega arith

  -- If every verdict that the search comes to needs more units than the budget, the answer is spent.
  short_spent : (budget : ℕ) → ((n : ℕ) (v : Verdict) → ComesTo cs g n v → budget < n) → search budget cs g ≡ spent
  short_spent budget h = go (search budget cs g) refl
    where
      go : (o : SearchOutcome) → search budget cs g ≡ o → o ≡ spent
      go (ends v n) e = absurd (let r = told_comes budget n v e in let q = h n v r.0 in let l = r.1 in omega arith)
      go spent e = refl

  -- If the answer is spent from the state after u acts, no verdict stands after any number of acts up to the budget.
  spent_undecided : (f u : ℕ) → Undecided u → search_from f u (after cs g u) ≡ spent → Undecided (suc (u + f))
  unfolding search_from after
  spent_undecided zero u h k = go (verdict_of (after cs g u)) refl k
    where
      go : (o : Option Verdict) → verdict_of (after cs g u) ≡ o → (elim o [ some w ↦ ends w u | none ↦ spent ]) ≡ spent
          → Undecided (suc (u + zero))
      go (some w) e q = absurd (let z : ◌≡◌ {A = ℕ} 0 1 = cc in omega arith)
      go none e q = λ m l. undecided_more u h e m (omega arith)
  spent_undecided (suc f) u h k = go (verdict_of (after cs g u)) refl (λ i q. spent_undecided f (suc u) i q) k
    where
      go : (o : Option Verdict) → verdict_of (after cs g u) ≡ o
          → (Undecided (suc u) → search_from f (suc u) (advance u (after cs g u)) ≡ spent → Undecided (suc (suc u + f)))
          → (elim o [ some w ↦ ends w u | none ↦ search_from f (suc u) (advance u (after cs g u)) ]) ≡ spent
          → Undecided (suc (u + suc f))
      go (some w) e ih q = absurd (let z : ◌≡◌ {A = ℕ} 0 1 = cc in omega arith)
      go none e ih q = λ m l. ih (undecided_more u h e) q m (omega arith)

  spent_due : (budget : ℕ) → search budget cs g ≡ spent → (n : ℕ) → n ≤ budget → verdict_of (after cs g n) ≡ none
  unfolding search after
  spent_due budget h n l = spent_undecided budget 0 (λ m k. absurd (omega arith)) h n (omega arith)

  due_spent : (budget : ℕ) → ((n : ℕ) → n ≤ budget → verdict_of (after cs g n) ≡ none) → search budget cs g ≡ spent
  unfolding ComesTo
  due_spent budget h = short_spent budget late
    where
      late : (n : ℕ) (v : Verdict) → ComesTo cs g n v → budget < n
      late n v k = go (dec_le n budget)
        where
          go : Dec (n ≤ budget) → budget < n
          go (yes l) = absurd (let e = h n l in let d = k.0 in let z : ◌≡◌ {A = ℕ} 0 1 = cc in omega arith)
          go (no l) = omega arith

  -- A search comes to one verdict with one number of acts, since a budget that suffices for both tells one outcome.
  comes_once : (n m : ℕ) (v w : Verdict) → ComesTo cs g n v → ComesTo cs g m w → (n ≡ m) × (v ≡ w)
  comes_once n m v w h k =
      let p = comes_told (n + m) n v h (omega arith) in let q = comes_told (n + m) m w k (omega arith) in (cc, cc)

  -- Promise T2 holds for all clauses and every goal.
  pub all_units : Units cs g
  all_units = record {
    tells = λ budget n v. (told_comes budget n v, λ h. comes_told budget n v h.0 h.1);
    spends = λ budget. (spent_short budget, short_spent budget);
    due = λ budget. (spent_due budget, due_spent budget);
    once = comes_once;
  }
