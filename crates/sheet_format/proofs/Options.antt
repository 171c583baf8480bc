-- A property of the value of an option, where there is one. What a reader gives is reasoned about in this form, with no equations.
use mathlib.Core.Path.{◌≡◌, refl, subst}
use mathlib.Core.Bool.{Bool, true, false, cond}
use mathlib.Core.Option.{Option, none, some, map}

-- P holds of the value, if there is one.
abbrev pub OnSome : {A : Type 0} → (A → Type 0) → Option A → Type 0
OnSome P none = Unit {0}
OnSome P (some a) = P a

-- A property of both results of a test holds of the result picked.
pub cond_some : {A : Type 0} (P : A → Type 0) (b : Bool) (x y : Option A) → (b ≡ true → OnSome P x) → (b ≡ false → OnSome P y)
    → OnSome P (cond b x y)
cond_some P true x y h k = h refl
cond_some P false x y h k = k refl

-- A mapped value has the property to which f carries that of the value.
pub map_some : {A B : Type 0} (P : A → Type 0) (Q : B → Type 0) (f : A → B) → ((a : A) → P a → Q (f a)) → (o : Option A) → OnSome P o
    → OnSome Q (map f o)
map_some P Q f h none k = tt
map_some P Q f h (some a) k = h a k

-- A property of an option's value implies a weaker one.
pub some_weaken : {A : Type 0} (P Q : A → Type 0) → ((a : A) → P a → Q a) → (o : Option A) → OnSome P o → OnSome Q o
some_weaken P Q h none k = tt
some_weaken P Q h (some a) k = h a k

-- A property of an option's value holds of the value that there is.
pub some_is : {A : Type 0} (P : A → Type 0) (o : Option A) (a : A) → OnSome P o → o ≡ some a → P a
some_is P o a h e = subst (OnSome P) e h

-- The trivial property holds of any option's value.
pub any_some : {A : Type 0} (o : Option A) → OnSome (λ a. Unit {0}) o
any_some none = tt
any_some (some a) = tt
