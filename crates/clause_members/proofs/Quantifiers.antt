-- Quantifiers over a member, of document 01's definitions: a row of them, and which of them bind nothing.
use Prim.Native.Nat.{ℕ}
use mathlib.Core.Path.{◌≡◌, refl, sym, ap, ◌∙◌}
use mathlib.Core.Bool.{Bool, true, false, not, ◌&&◌, ◌||◌, cond, true≢false}
use mathlib.Core.List.{List, [], ◌∷◌, ◌++◌, map}
use mathlib.Core.Option
use mathlib.Core.Option.{Option, none, some}
use lib.Dec.{eqb}
use Rattle.terms.specs.Lists.{All, elem}
use Rattle.formulas.specs.Formulas.{Clause, free_ts, free_c, free_b}
use Rattle.formulas.specs.Members.{Member, stands_free, quantify, members}
use Rattle.formulas.proofs.Free.{Within, members_within}
use Rattle.sheet_format.proofs.Options.{OnSome}
use Rattle.clause_members.proofs.Prefixes.{keep}

-- Quantifiers in a row, the first one outermost.
unfoldable pub quantify_all : List ℕ → Member → Member
quantify_all [] m = m
quantify_all (v ∷ vs) m = quantify v (quantify_all vs m)

-- Two rows are one.
quantify_append : (a b : List ℕ) (m : Member) → quantify_all a (quantify_all b m) ≡ quantify_all (a ++ b) m
unfolding quantify_all
quantify_append [] b m = refl
quantify_append (v ∷ a) b m = ap (quantify v) (quantify_append a b m)

-- A name that does not stand free is not added,
pub quantify_idle : (v : ℕ) (m : Member) → stands_free v m ≡ false → quantify v m ≡ m
unfolding quantify
quantify_idle v m h = rw h

-- and it does not stand free either where others are.
stays_bound : (v w : ℕ) (m : Member) → stands_free v m ≡ false → stands_free v (quantify w m) ≡ false
unfolding quantify stands_free elem
stays_bound v w m h = go (stands_free w m)
  where
    -- The name w joins the prefix.
    joins : (b : Bool)
        → (not (elim b [ true ↦ true | false ↦ elem v m.prefix ]) && (free_ts m.arguments v || free_b m.body v)) ≡ false
    joins true = refl
    joins false = h

    go : (b : Bool)
        → stands_free v (cond b (record { prefix = w ∷ m.prefix; predicate = m.predicate; arguments = m.arguments; body = m.body }) m)
        ≡ false
    go true = joins (eqb w v)
    go false = h

all_bound : (v : ℕ) (vs : List ℕ) (m : Member) → stands_free v m ≡ false → stands_free v (quantify_all vs m) ≡ false
unfolding quantify_all
all_bound v [] m h = h
all_bound v (w ∷ vs) m h = stays_bound v w (quantify_all vs m) (all_bound v vs m h)

-- So those of the names that do not stand free may be left out.
keep_free : (p : ℕ → Bool) (vs : List ℕ) (m : Member) → All (λ v. p v ≡ false → stands_free v m ≡ false) vs
    → quantify_all vs m ≡ quantify_all (keep p vs) m
unfolding quantify_all keep
keep_free p [] m h = refl
keep_free p (v ∷ vs) m h = go (p v) h.0 (keep_free p vs m h.1)
  where
    go : (b : Bool) → (b ≡ false → stands_free v m ≡ false) → quantify_all vs m ≡ quantify_all (keep p vs) m
        → quantify v (quantify_all vs m) ≡ quantify_all (cond b (v ∷ keep p vs) (keep p vs)) m
    go true k ih = ap (quantify v) ih
    go false k ih = quantify_idle v (quantify_all vs m) (all_bound v vs m (k refl)) ∙ ih

-- A name that does not stand free in the clause does not stand free in its members.
pub within_bound : (c : Clause) (m : Member) (v : ℕ) → Within c m → free_c c v ≡ false → stands_free v m ≡ false
within_bound c m v h k = go (stands_free v m) refl
  where
    go : (b : Bool) → stands_free v m ≡ b → b ≡ false
    go true e = absurd (true≢false (sym (h v e) ∙ k))
    go false e = refl

-- An idle quantifier changes no member.
pub members_idle : (c : Clause) (v : ℕ) → free_c c v ≡ false → map (quantify v) (members c) ≡ members c
members_idle c v h = go (members c) (members_within c)
  where
    go : (l : List Member) → All (Within c) l → map (quantify v) l ≡ l
    go [] w = refl
    go (m ∷ l) w = rw (quantify_idle v m (within_bound c m v w.0 h)) (ap (m ∷◌) (go l w.1))

-- Of the names over a clause, where they are tested by p, those that stand free in it are enough, in front of the names of a row below.
pub row_joined : (c : Clause) (p : ℕ → Bool) (vs us : List ℕ) (o o' : Option Member) → OnSome (Within c) o
    → o ≡ Option.map (quantify_all us) o' → All (λ v. p v ≡ free_c c v) vs
    → Option.map (quantify_all vs) o ≡ Option.map (quantify_all (keep p vs ++ us)) o'
row_joined c p vs us o o' w e t = go o w ∙ ap (Option.map (quantify_all (keep p vs))) e ∙ two o'
  where
    bound : (m : Member) → Within c m → (l : List ℕ) → All (λ v. p v ≡ free_c c v) l → All (λ v. p v ≡ false → stands_free v m ≡ false) l
    bound m h [] a = tt
    bound m h (v ∷ l) a = (λ q. within_bound c m v h (sym a.0 ∙ q), bound m h l a.1)

    go : (x : Option Member) → OnSome (Within c) x → Option.map (quantify_all vs) x ≡ Option.map (quantify_all (keep p vs)) x
    go none h = refl
    go (some m) h = ap some (keep_free p vs m (bound m h vs t))

    two : (x : Option Member) → Option.map (quantify_all (keep p vs)) (Option.map (quantify_all us) x)
        ≡ Option.map (quantify_all (keep p vs ++ us)) x
    two none = refl
    two (some m) = ap some (quantify_append (keep p vs) us m)
