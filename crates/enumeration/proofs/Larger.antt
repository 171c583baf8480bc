-- A smaller number or budget leaves what `specs/Smaller.antt` says, so that a larger one extends it.
use Prim.Native.Nat.{ℕ, zero, suc, ◌+◌, ◌≤◌, ◌<◌}
use mathlib.Core.Path.{◌≡◌, refl, sym, ◌∙◌, ap, ap₂}
use mathlib.Core.Bool.{Bool, true, false, cond}
use mathlib.Core.List.{List, [], ◌∷◌, ◌++◌, append_assoc}
use mathlib.Core.Option.{Option, none, some}
use native.Mathlib.Omega.{arith}
use lib.Dec.{leb}
use borrow.Author.Tests.{le-leb, leb-true}
use Rattle.formulas.specs.Formulas.{Goal, Clause}
use Rattle.formulas.specs.Rules.{Rules}
use Rattle.search.specs.Configurations.{Configuration}
use Rattle.search.specs.Search.{start, advance, Verdict, proved, no_proof, verdict_of}
use Rattle.enumeration.specs.Enumeration.{Proof, End, enough, exhausted, units_spent, Enumeration, Next, finds, none_left, runs_out}
use Rattle.enumeration.specs.Enumeration.{reaches, next_proof, go_on, enumerate_from, enumerate}
use Rattle.enumeration.specs.Smaller.{firsts, end_within, within}
use Rattle.enumeration.specs.Promises.{AllLarger}
use Rattle.enumeration.proofs.Counts.{Between, next_between}

-- An enumeration by its parts.
abbrev told : List Proof → End → Enumeration
told ws e = record { found = ws; end = e }

-- One proof more in front.
abbrev add_proof : Proof → Enumeration → Enumeration
add_proof w r = record { found = w ∷ r.found; end = r.end }

-- A smaller number leaves the first of the proofs.
enumerate_firsts : (w v f u : ℕ) (ds : List Configuration) → w ≤ v
    → enumerate_from w f u ds ≡ firsts w (enumerate_from v f u ds).found (enumerate_from v f u ds).end
unfolding enumerate_from firsts go_on
enumerate_firsts zero v f u ds l = refl
enumerate_firsts (suc w) zero f u ds l = absurd (omega arith)
enumerate_firsts (suc w) (suc v) f u ds l = go (λ e k cs. enumerate_firsts w v e k cs (omega arith)) (next_proof f u ds)
  where
    go : ((e k : ℕ) (cs : List Configuration)
        → enumerate_from w e k cs ≡ firsts w (enumerate_from v e k cs).found (enumerate_from v e k cs).end) → (x : Next)
        → go_on (λ e k cs. enumerate_from w e k cs) x
        ≡ firsts (suc w) (go_on (λ e k cs. enumerate_from v e k cs) x).found (go_on (λ e k cs. enumerate_from v e k cs) x).end
    go ih (finds e y cs) = ap (add_proof y) (ih e y.units cs)
    go ih (none_left n) = refl
    go ih runs_out = refl

-- What the walk comes to with budget b and with the larger budget c.
unfoldable Shorter : ℕ → ℕ → Next → Next → Type 0
Shorter b c (finds f w ds) (finds h v es) = (w ≡ v) × (ds ≡ es) × (w.units + f ≡ b) × (v.units + h ≡ c)
Shorter b c (finds f w ds) (none_left m) = ⊥
Shorter b c (finds f w ds) runs_out = ⊥
Shorter b c (none_left n) (finds h v es) = ⊥
Shorter b c (none_left n) (none_left m) = (n ≡ m) × (m ≤ b)
Shorter b c (none_left n) runs_out = ⊥
Shorter b c runs_out (finds h v es) = b < v.units
Shorter b c runs_out (none_left m) = b < m
Shorter b c runs_out runs_out = Unit {0}

-- What comes after more acts than the smaller budget is left out by it.
shorter_out : (b c u : ℕ) (x : Next) → b < u → Between u c x → Shorter b c runs_out x
unfolding Shorter Between
shorter_out b c u (finds f w ds) l h = let z = h.0 in omega arith
shorter_out b c u (none_left n) l h = let z = h.0 in omega arith
shorter_out b c u runs_out l h = tt

-- Both walks do the same acts as long as both have units.
next_shorter : (left more u b c : ℕ) (ds : List Configuration) → u + left ≡ b → u + more ≡ c → left ≤ more
    → Shorter b c (next_proof left u ds) (next_proof more u ds)
unfolding next_proof reaches Shorter
next_shorter zero zero u b c ds p q l = go (verdict_of ds)
  where
    go : (o : Option Verdict) → Shorter b c (elim o [ some v ↦ reaches zero u ds v | none ↦ runs_out ])
        (elim o [ some v ↦ reaches zero u ds v | none ↦ runs_out ])
    go (some (proved s ls)) = (refl, refl, p, q)
    go (some no_proof) = (refl, omega arith)
    go none = tt
next_shorter zero (suc more) u b c ds p q l = go (verdict_of ds)
  where
    go : (o : Option Verdict) → Shorter b c (elim o [ some v ↦ reaches zero u ds v | none ↦ runs_out ])
        (elim o [ some v ↦ reaches (suc more) u ds v | none ↦ next_proof more (suc u) (advance u ds) ])
    go (some (proved s ls)) = (refl, refl, p, q)
    go (some no_proof) = (refl, omega arith)
    go none =
        shorter_out b c (suc u) (next_proof more (suc u) (advance u ds)) (omega arith)
        (next_between more (suc u) c (advance u ds) (omega arith))
next_shorter (suc left) zero u b c ds p q l = absurd (omega arith)
next_shorter (suc left) (suc more) u b c ds p q l =
    go (verdict_of ds) (next_shorter left more (suc u) b c (advance u ds) (omega arith) (omega arith) (omega arith))
  where
    go : (o : Option Verdict) → Shorter b c (next_proof left (suc u) (advance u ds)) (next_proof more (suc u) (advance u ds))
        → Shorter b c (elim o [ some v ↦ reaches (suc left) u ds v | none ↦ next_proof left (suc u) (advance u ds) ])
        (elim o [ some v ↦ reaches (suc more) u ds v | none ↦ next_proof more (suc u) (advance u ds) ])
    go (some (proved s ls)) ih = (refl, refl, p, q)
    go (some no_proof) ih = (refl, omega arith)
    go none ih = ih

-- The tests of `within` are known where the numbers are.
kept : (n b : ℕ) → n ≤ b → leb n b ≡ true
kept n b l = le-leb n b l

-- A number above the budget is left out.
dropped : (n b : ℕ) → b < n → leb n b ≡ false
dropped n b l = go (leb n b) refl
  where
    go : (x : Bool) → leb n b ≡ x → x ≡ false
    go true e = absurd (let z = leb-true n b e in omega arith)
    go false e = refl

-- One proof more keeps it so.
within_next : (b c : ℕ) (rest : ℕ → ℕ → List Configuration → Enumeration) → b ≤ c
    → ((f h u : ℕ) (ds : List Configuration) → u + f ≡ b → u + h ≡ c → f ≤ h
    → rest f u ds ≡ within b (rest h u ds).found (rest h u ds).end)
    → (x y : Next) → Shorter b c x y → go_on rest x ≡ within b (go_on rest y).found (go_on rest y).end
unfolding Shorter go_on within end_within
within_next b c rest l ih (finds f w ds) (finds h v es) k =
    let below : v.units ≤ b = (let e : w.units ≡ v.units = ap (λ (z : Proof). z.units) k.0 in let z = k.2 in omega arith) in
    let same : w.units ≡ v.units = ap (λ (z : Proof). z.units) k.0 in
    let r = ih f h v.units es (let z = k.2 in omega arith) k.3 (let z = k.2 in let y = k.3 in omega arith) in
    rw (kept v.units b below)
    (ap₂ (λ (z : Proof) (cs : List Configuration). add_proof z (rest f z.units cs)) k.0 k.1 ∙ ap (add_proof v) r)
within_next b c rest l ih (finds f w ds) (none_left m) k = absurd k
within_next b c rest l ih (finds f w ds) runs_out k = absurd k
within_next b c rest l ih (none_left n) (finds h v es) k = absurd k
within_next b c rest l ih (none_left n) (none_left m) k = rw (kept m b k.1) (ap (λ (i : ℕ). told [] (exhausted i)) k.0)
within_next b c rest l ih (none_left n) runs_out k = absurd k
within_next b c rest l ih runs_out (finds h v es) k = rw (dropped v.units b k) refl
within_next b c rest l ih runs_out (none_left m) k = rw (dropped m b k) refl
within_next b c rest l ih runs_out runs_out k = refl

-- So a smaller budget leaves what is within it.
enumerate_within : (w f h u b c : ℕ) (ds : List Configuration) → u + f ≡ b → u + h ≡ c → f ≤ h
    → enumerate_from w f u ds ≡ within b (enumerate_from w h u ds).found (enumerate_from w h u ds).end
unfolding enumerate_from within end_within
enumerate_within zero f h u b c ds p q l = refl
enumerate_within (suc w) f h u b c ds p q l =
    within_next b c (λ e v es. enumerate_from w e v es) (omega arith) (λ e k v es x y z. enumerate_within w e k v b c es x y z)
    (next_proof f u ds) (next_proof h u ds) (next_shorter f h u b c ds p q l)

-- What is left out stands at the end.
firsts_prefix : (w : ℕ) (ws : List Proof) (e : End) → (more : List Proof) × (ws ≡ (firsts w ws e).found ++ more)
unfolding firsts
firsts_prefix zero ws e = (ws, refl)
firsts_prefix (suc w) [] e = ([], refl)
firsts_prefix (suc w) (x ∷ ws) e = let r = firsts_prefix w ws e in (r.0, ap (x ∷◌) r.1)

-- A smaller budget leaves the first of the proofs, too.
within_prefix : (b : ℕ) (ws : List Proof) (e : End) → (more : List Proof) × (ws ≡ (within b ws e).found ++ more)
unfolding within
within_prefix b [] e = ([], refl)
within_prefix b (x ∷ ws) e = go (leb x.units b) (within_prefix b ws e)
  where
    go : (t : Bool) → ((more : List Proof) × (ws ≡ (within b ws e).found ++ more))
        → (more : List Proof) × (x ∷ ws ≡ (cond t (add_proof x (within b ws e)) (told [] units_spent)).found ++ more)
    go true r = (r.0, ap (x ∷◌) r.1)
    go false r = (x ∷ ws, refl)

-- Nothing is left out where it ended with no alternative left.
firsts_settled : (w : ℕ) (ws : List Proof) (e : End) (n : ℕ) → (firsts w ws e).end ≡ exhausted n → told ws e ≡ firsts w ws e
unfolding firsts
firsts_settled zero ws e n h = absurd (let z : ◌≡◌ {A = ℕ} 0 1 = cc in omega arith)
firsts_settled (suc w) [] e n h = refl
firsts_settled (suc w) (x ∷ ws) e n h = ap (add_proof x) (firsts_settled w ws e n h)

-- A smaller budget leaves out nothing there either.
within_settled : (b : ℕ) (ws : List Proof) (e : End) (n : ℕ) → (within b ws e).end ≡ exhausted n → told ws e ≡ within b ws e
unfolding within end_within
within_settled b [] enough n h = refl
within_settled b [] (exhausted m) n h = go (leb m b) h
  where
    go : (t : Bool) → cond t (exhausted m) units_spent ≡ exhausted n → told [] (exhausted m) ≡ told [] (cond t (exhausted m) units_spent)
    go true k = refl
    go false k = absurd (let z : ◌≡◌ {A = ℕ} 0 1 = cc in omega arith)
within_settled b [] units_spent n h = refl
within_settled b (x ∷ ws) e n h = go (leb x.units b) (λ k. within_settled b ws e n k) h
  where
    go : (t : Bool) → ((within b ws e).end ≡ exhausted n → told ws e ≡ within b ws e)
        → (cond t (add_proof x (within b ws e)) (told [] units_spent)).end ≡ exhausted n
        → told (x ∷ ws) e ≡ cond t (add_proof x (within b ws e)) (told [] units_spent)
    go true ih k = ap (add_proof x) (ih k)
    go false ih k = absurd (let z : ◌≡◌ {A = ℕ} 0 1 = cc in omega arith)

module _ (cs : Rules Clause) (g : Goal) where
  number : (w v budget : ℕ) → w ≤ v → enumerate w budget cs g ≡ firsts w (enumerate v budget cs g).found (enumerate v budget cs g).end
  unfolding enumerate
  number w v budget l = enumerate_firsts w v budget 0 (start cs g) l

  -- The same for budgets.
  budgets : (wanted b c : ℕ) → b ≤ c → enumerate wanted b cs g ≡ within b (enumerate wanted c cs g).found (enumerate wanted c cs g).end
  unfolding enumerate
  budgets wanted b c l = enumerate_within wanted b c 0 b c (start cs g) (omega arith) (omega arith) l

  -- So a larger number or budget puts proofs after those found,
  extends : (w v b c : ℕ) → w ≤ v → b ≤ c → (more : List Proof) × ((enumerate v c cs g).found ≡ (enumerate w b cs g).found ++ more)
  extends w v b c l m =
      let r = within_prefix b (enumerate v c cs g).found (enumerate v c cs g).end in
      let s = firsts_prefix w (enumerate v b cs g).found (enumerate v b cs g).end in
      let p : (within b (enumerate v c cs g).found (enumerate v c cs g).end).found ≡ (enumerate v b cs g).found =
      ap (λ (x : Enumeration). x.found) (sym (budgets v b c m)) in
      let q : (firsts w (enumerate v b cs g).found (enumerate v b cs g).end).found ≡ (enumerate w b cs g).found =
      ap (λ (x : Enumeration). x.found) (sym (number w v b l)) in (
        s.0 ++ r.0,
        r.1 ∙ ap (λ (x : List Proof). x ++ r.0) (p ∙ s.1 ∙ ap (λ (x : List Proof). x ++ s.0) q)
            ∙ append_assoc (enumerate w b cs g).found s.0 r.0,
      )

  -- the first stays,
  first : (w v b c : ℕ) → w ≤ v → b ≤ c → (x : Proof) (rest : List Proof) → (enumerate w b cs g).found ≡ x ∷ rest
      → (more : List Proof) × ((enumerate v c cs g).found ≡ x ∷ more)
  first w v b c l m x rest h = let r = extends w v b c l m in (rest ++ r.0, r.1 ∙ ap (λ (y : List Proof). y ++ r.0) h)

  -- and nothing changes where no alternative was left.
  settled : (w v b c n : ℕ) → w ≤ v → b ≤ c → (enumerate w b cs g).end ≡ exhausted n → enumerate v c cs g ≡ enumerate w b cs g
  settled w v b c n l m h =
      let p = number w v b l in
      let q = budgets v b c m in
      let one : enumerate v b cs g ≡ enumerate w b cs g =
      firsts_settled w (enumerate v b cs g).found (enumerate v b cs g).end n (ap (λ (x : Enumeration). x.end) (sym p) ∙ h) ∙ sym p in
      within_settled b (enumerate v c cs g).found (enumerate v c cs g).end n (ap (λ (x : Enumeration). x.end) (sym q ∙ one) ∙ h) ∙ sym q
      ∙ one

-- That is what is promised of larger numbers and budgets.
pub larger : AllLarger
larger cs g = record { number = number cs g; budgets = budgets cs g; extends = extends cs g; first = first cs g; settled = settled cs g }
