-- Laws of scripts: walk order, places in lists, where a script leads.
use Prim.Native.Nat.{ℕ, zero, suc, ◌+◌, ◌≤◌, ◌<◌}
use mathlib.Core.Path.{◌≡◌, refl, sym, ◌∙◌, ap, ap₂, subst}
use mathlib.Core.List.{List, [], ◌∷◌, ◌++◌, map}
use mathlib.Core.Logic.{◌⊎◌, inl, inr}
use native.Mathlib.Decide.{dec_le}
use native.Mathlib.Omega.{arith}
use lib.ListN.{length}
use Rattle.terms.specs.Lists.{All}
use Rattle.terms.specs.Terms.{Term}
use Rattle.terms.proofs.Lists.{map_map, map_agree}
use Rattle.sequents.specs.Sequents.{Line, plain, Dsome, Dall, Dclause, put_line}
use Rattle.search.specs.Configurations.{Configuration, take, try, match, done}
use Rattle.enumeration.specs.Scripts.{Script, acts, Stands, LeadsTo, Before, bare}

-- No script is before itself,
pub before_never : (p : Script) → Before p p → ⊥
unfolding Before
before_never [] h = h
before_never (i ∷ p) (inl l) = omega arith
before_never (i ∷ p) (inr h) = before_never p h.1

-- and what is before a script is before all that are after it.
pub before_onward : (p q r : Script) → Before p q → Before q r → Before p r
unfolding Before
before_onward [] q r h k = absurd h
before_onward (i ∷ p) [] r h k = absurd h
before_onward (i ∷ p) (j ∷ q) [] h k = absurd k
before_onward (i ∷ p) (j ∷ q) (l ∷ r) (inl a) (inl b) = inl (omega arith)
before_onward (i ∷ p) (j ∷ q) (l ∷ r) (inl a) (inr b) = inl (let z = b.0 in omega arith)
before_onward (i ∷ p) (j ∷ q) (l ∷ r) (inr a) (inl b) = inl (let z = a.0 in omega arith)
before_onward (i ∷ p) (j ∷ q) (l ∷ r) (inr a) (inr b) = inr (a.0 ∙ b.0, before_onward p q r a.1 b.1)

-- So no two scripts are each before the other.
pub before_not : (p q : Script) → Before p q → Before q p → ⊥
before_not p q h k = before_never p (before_onward p q p h k)

-- What goes on from two scripts stands in their order.
pub before_longer : (p q r t : Script) → Before p q → Before (p ++ r) (q ++ t)
unfolding Before
before_longer [] q r t h = absurd h
before_longer (i ∷ p) [] r t h = absurd h
before_longer (i ∷ p) (j ∷ q) r t (inl l) = inl l
before_longer (i ∷ p) (j ∷ q) r t (inr h) = inr (h.0, before_longer p q r t h.1)

-- Two choices after one script stand in their order.
pub before_choices : (p : Script) (i j : ℕ) → i < j → Before (p ++ (i ∷ [])) (p ++ (j ∷ []))
unfolding Before
before_choices [] i j l = inl l
before_choices (k ∷ p) i j l = inr (refl, before_choices p i j l)

-- One element stands at a place.
pub stands_once : {A : Type 0} (l : List A) (i : ℕ) (a b : A) → Stands l i a → Stands l i b → a ≡ b
unfolding Stands
stands_once [] i a b h k = absurd h
stands_once (c ∷ l) zero a b h k = sym h ∙ k
stands_once (c ∷ l) (suc i) a b h k = stands_once l i a b h k

-- Mapping keeps places,
pub stands_map : {A B : Type 0} (f : A → B) (l : List A) (i : ℕ) (a : A) → Stands l i a → Stands (map f l) i (f a)
unfolding Stands
stands_map f [] i a h = h
stands_map f (b ∷ l) zero a h = ap f h
stands_map f (b ∷ l) (suc i) a h = stands_map f l i a h

-- and gives nothing that does not come from the same place.
pub stands_unmap : {A B : Type 0} (f : A → B) (l : List A) (i : ℕ) (b : B) → Stands (map f l) i b → (a : A) × Stands l i a
unfolding Stands
stands_unmap f [] i b h = absurd h
stands_unmap f (a ∷ l) zero b h = (a, refl)
stands_unmap f (a ∷ l) (suc i) b h = stands_unmap f l i b h

-- A property of all holds at every place.
pub stands_all : {A : Type 0} (P : A → Type 0) (l : List A) (i : ℕ) (a : A) → All P l → Stands l i a → P a
unfolding Stands
stands_all P [] i a h k = absurd k
stands_all P (b ∷ l) zero a h k = subst P k h.0
stands_all P (b ∷ l) (suc i) a h k = stands_all P l i a h.1 k

-- A script leads to one configuration.
pub leads_once : (p : Script) (u : ℕ) (c d e : Configuration) → LeadsTo p u c d → LeadsTo p u c e → d ≡ e
unfolding LeadsTo
leads_once [] u c d e h k = sym h ∙ k
leads_once (i ∷ p) u c d e h k =
    leads_once p (suc u) h.0 d e h.2
    (subst (λ (x : Configuration). LeadsTo p (suc u) x e) (stands_once (acts u c) i k.0 h.0 k.1 h.1) k.2)

-- A script leads by way of the configuration to which its first part leads.
pub leads_split : (p r : Script) (u : ℕ) (c d : Configuration) → LeadsTo (p ++ r) u c d
    → (e : Configuration) × LeadsTo p u c e × LeadsTo r (u + length p) e d
unfolding LeadsTo
leads_split [] r u c d h = (c, refl, (let q : u ≡ u + 0 = omega arith in subst (λ (v : ℕ). LeadsTo r v c d) q h))
leads_split (i ∷ p) r u c d h =
    let z = leads_split p r (suc u) h.0 d h.2 in
    let q : suc u + length p ≡ u + length (i ∷ p) = omega arith in
    (z.0, (h.0, h.1, z.1), subst (λ (v : ℕ). LeadsTo r v z.0 d) q z.2)

-- No goal is left.
unfoldable pub Finished : Configuration → Type 0
Finished (take s g b) = ⊥
Finished (try s a m ms k b) = ⊥
Finished (match m b) = ⊥
Finished (done s ls) = Unit {0}

-- Where no goal is left no act is due.
pub finished_stops : (c : Configuration) (u i : ℕ) (e : Configuration) → Finished c → Stands (acts u c) i e → ⊥
unfolding Finished acts Stands
finished_stops (take s g b) u i e h k = h
finished_stops (try s a m ms l b) u i e h k = h
finished_stops (match m b) u i e h k = h
finished_stops (done s ls) u i e h k = k

-- Two scripts that end where no goal is left are the same, or one is before the other.
pub leads_either : (p q : Script) (u : ℕ) (c d e : Configuration) → Finished d → Finished e → LeadsTo p u c d → LeadsTo q u c e
    → (Before p q) ⊎ ((p ≡ q) ⊎ Before q p)
unfolding LeadsTo Before
leads_either [] [] u c d e x y h k = inr (inl refl)
leads_either [] (j ∷ q) u c d e x y h k = absurd (finished_stops c u j k.0 (subst Finished (sym h) x) k.1)
leads_either (i ∷ p) [] u c d e x y h k = absurd (finished_stops c u i h.0 (subst Finished (sym k) y) h.1)
leads_either (i ∷ p) (j ∷ q) u c d e x y h k = go (λ z. leads_either p q (suc u) h.0 d e x y h.2 z) (dec_le i j) (dec_le j i)
  where
    same : i ≡ j → (Before p q) ⊎ ((p ≡ q) ⊎ Before q p) → (Before (i ∷ p) (j ∷ q)) ⊎ ((i ∷ p ≡ j ∷ q) ⊎ Before (j ∷ q) (i ∷ p))
    same s (inl a) = inl (inr (s, a))
    same s (inr (inl a)) = inr (inl (ap₂ (λ (n : ℕ) (r : Script). n ∷ r) s a))
    same s (inr (inr a)) = inr (inr (inr (sym s, a)))

    go : (LeadsTo q (suc u) h.0 e → (Before p q) ⊎ ((p ≡ q) ⊎ Before q p)) → Dec (i ≤ j) → Dec (j ≤ i)
        → (Before (i ∷ p) (j ∷ q)) ⊎ ((i ∷ p ≡ j ∷ q) ⊎ Before (j ∷ q) (i ∷ p))
    go ih (no a) b = inr (inr (inl (omega arith)))
    go ih (yes a) (no b) = inl (inl (omega arith))
    go ih (yes a) (yes b) =
        let s : j ≡ i = omega arith in
        same (sym s) (ih (subst (λ (z : Configuration). LeadsTo q (suc u) z e)
        (stands_once (acts u c) i k.0 h.0 (subst (λ (n : ℕ). Stands (acts u c) n k.0) s k.1) h.1) k.2))

-- Other terms for the leaves change nothing in a line without its terms.
bare_put : {A B : Type 0} (θ : A → Term B) (x : Line A) → bare (put_line θ x) ≡ bare x
unfolding bare put_line
bare_put θ (plain w) = refl
bare_put θ (Dsome t) = refl
bare_put θ (Dall t) = refl
bare_put θ (Dclause k ts) = refl

-- So it is for all lines.
pub bare_lines : {A B : Type 0} (θ : A → Term B) (ls : List (Line A)) → map bare (map (put_line θ) ls) ≡ map bare ls
bare_lines θ ls = map_map (put_line θ) bare ls ∙ map_agree (λ x. bare (put_line θ x)) bare (bare_put θ) ls
