-- Laws of `specs/Lists.antt`.
use Prim.Native.Nat.{ℕ, suc, ◌+◌, ◌<◌}
use mathlib.Core.Path.{◌≡◌, refl, sym, ap, ap₂, fun_ext}
use mathlib.Core.Bool.{Bool, true, false, cond}
use mathlib.Core.List.{List, [], ◌∷◌, ◌++◌, map}
use mathlib.Core.Logic.{◌⊎◌, inl, inr}
use lib.Dec.{eqb}
use lib.ListN.{length}
use borrow.Author.Tests.{eqb-true, eqb-false, eq-eqb, ne_eqb}
use Rattle.terms.specs.Lists.{All, Mem, here, there, place, update}

-- All

pub all_append : {A : Type 0} (P : A → Type 0) (x y : List A) → All P x → All P y → All P (x ++ y)
all_append P [] y h k = k
all_append P (a ∷ x) y h k = (h.0, all_append P x y h.1 k)

pub all_map : {A B : Type 0} (f : A → B) (P : A → Type 0) (Q : B → Type 0) → ((a : A) → P a → Q (f a)) → (l : List A) → All P l
    → All Q (map f l)
all_map f P Q k [] h = tt
all_map f P Q k (a ∷ l) h = (k a h.0, all_map f P Q k l h.1)

pub all_weaken : {A : Type 0} (P Q : A → Type 0) → ((a : A) → P a → Q a) → (l : List A) → All P l → All Q l
all_weaken P Q k [] h = tt
all_weaken P Q k (a ∷ l) h = (k a h.0, all_weaken P Q k l h.1)

pub all_mem : {A : Type 0} (P : A → Type 0) (l : List A) (a : A) → All P l → Mem a l → P a
all_mem P l a h here = h.0
all_mem P l a h (there {l = k} m) = all_mem P k a h.1 m

-- Mem

pub mem_nil : {A : Type 0} {a : A} → Mem a [] → ⊥
mem_nil h = elim h [ ]

unfoldable pub mem_map : {A B : Type 0} (f : A → B) {a : A} {l : List A} → Mem a l → Mem (f a) (map f l)
mem_map f here = here
mem_map f (there h) = there (mem_map f h)

pub place_map : {A B : Type 0} (f : A → B) (k : ℕ) {a : A} {l : List A} (h : Mem a l) → place k (mem_map f h) ≡ place k h
unfolding place mem_map
place_map f k here = refl
place_map f k (there h) = place_map f (suc k) h

-- map

pub map_append : {A B : Type 0} (f : A → B) (x y : List A) → map f (x ++ y) ≡ map f x ++ map f y
map_append f [] y = refl
map_append f (a ∷ x) y = ap (f a ∷◌) (map_append f x y)

pub map_map : {A B C : Type 0} (f : A → B) (g : B → C) (l : List A) → map g (map f l) ≡ map (λ a. g (f a)) l
map_map f g [] = refl
map_map f g (a ∷ l) = ap (g (f a) ∷◌) (map_map f g l)

pub map_agree : {A B : Type 0} (f g : A → B) → ((a : A) → f a ≡ g a) → (l : List A) → map f l ≡ map g l
map_agree f g h [] = refl
map_agree f g h (a ∷ l) = ap₂ ◌∷◌ (h a) (map_agree f g h l)

pub length_map : {A B : Type 0} (f : A → B) (l : List A) → length (map f l) ≡ length l
length_map f [] = refl
length_map f (a ∷ l) = ap suc (length_map f l)

-- update

pub update_same : {A : Type 0} (e : ℕ → A) (v : ℕ) (a : A) → update e v a v ≡ a
unfolding update
update_same e v a = rw (eq-eqb v v refl)

pub update_other : {A : Type 0} (e : ℕ → A) (v : ℕ) (a : A) (w : ℕ) → (w ≡ v → ⊥) → update e v a w ≡ e w
unfolding update
update_other e v a w h = rw (ne_eqb w v h)

-- Mapping an updated mapping is updating the mapped one.
pub update_map : {A B : Type 0} (f : A → B) (e : ℕ → A) (v : ℕ) (a : A) → (λ w. f (update e v a w)) ≡ update (λ w. f (e w)) v (f a)
unfolding update
update_map f e v a = fun_ext (λ w. go w (eqb w v))
  where
    go : (w : ℕ) (b : Bool) → f (cond b a (e w)) ≡ cond b (f a) (f (e w))
    go w true = refl
    go w false = refl

-- A property of every value is kept by an update with a value that has it.
pub update_all : {A : Type 0} (P : A → Type 0) (e : ℕ → A) (v : ℕ) (a : A) → ((w : ℕ) → P (e w)) → P a → (w : ℕ) → P (update e v a w)
unfolding update
update_all P e v a h p w = go (eqb w v)
  where
    go : (b : Bool) → P (cond b a (e w))
    go true = p
    go false = h w

-- Two mappings updated with the same value at v agree at w if they agree there wherever w is not v.
pub update_agree : {A : Type 0} (e f : ℕ → A) (v : ℕ) (a : A) (w : ℕ) → (eqb v w ≡ false → e w ≡ f w) → update e v a w ≡ update f v a w
unfolding update
update_agree e f v a w h = go (eqb w v) refl
  where
    go : (b : Bool) → eqb w v ≡ b → cond b a (e w) ≡ cond b a (f w)
    go true q = refl
    go false q = h (ne_eqb v w (λ p. eqb-false w v q (sym p)))

-- Any

-- P holds of some element.
abbrev pub Any : {A : Type 0} → (A → Type 0) → List A → Type 0
Any P [] = ⊥
Any P (a ∷ l) = P a ⊎ Any P l

-- A property of some element of the first of two lists holds of some element of both together.
pub any_left : {A : Type 0} (P : A → Type 0) (x y : List A) → Any P x → Any P (x ++ y)
any_left P [] y h = absurd h
any_left P (a ∷ x) y (inl h) = inl h
any_left P (a ∷ x) y (inr h) = inr (any_left P x y h)

-- A property of some element of the second of two lists holds of some element of both together.
pub any_right : {A : Type 0} (P : A → Type 0) (x y : List A) → Any P y → Any P (x ++ y)
any_right P [] y h = h
any_right P (a ∷ x) y h = inr (any_right P x y h)
