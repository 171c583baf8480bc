-- The bindings as one substitution.
use Prim.Native.Nat.{ℕ}
use mathlib.Core.Path.{◌≡◌, refl, sym, ◌∙◌, ap, subst, fun_ext}
use mathlib.Core.Bool.{Bool, true, false, cond}
use mathlib.Core.List.{List, [], ◌∷◌, ◌++◌, map}
use mathlib.Core.Logic.{◌⊎◌, inl, inr}
use lib.Dec.{eqb}
use borrow.Author.Tests.{eqb-true, eqb-false}
use Rattle.terms.specs.Lists.{All, update}
use Rattle.terms.specs.Terms.{Term, leaf, app, substitute, Appears}
use Rattle.terms.proofs.Lists.{all_weaken}
use Rattle.terms.proofs.Terms.{appears_substitute, leaf_not_app}
use Rattle.unification.specs.Store.{Leaf, var, con, Binding, look1, look, at, apply, only_at, solve1, bound_to, solved}
use Rattle.unification.specs.Promises.{Unbound, WellBound}
use Rattle.unification.proofs.Substitution.{con_not_var, apply_apply, apply_fixed, apply_variable, appears_apply, only_at_same}
use Rattle.unification.proofs.Substitution.{only_at_other}
use Rattle.unification.proofs.Look.{look1_other, unbound_bind}

-- S(x), the final value of a variable.
abbrev pub final : List Binding → ℕ → Term Leaf
final bs = bound_to (solved bs)

-- The newest binding alone, the earlier ones put to use in it.
abbrev pub newest : Binding → List Binding → ℕ → Term Leaf
newest b bs = only_at b.name (apply b.value (final bs))

-- The table of earlier values with b put to use, and b behind it, is the earlier table and then b.
append_bound : (b : Binding) (bs : List Binding) (x : ℕ)
    → bound_to (map (solve1 b) bs ++ (b ∷ [])) x ≡ apply (bound_to bs x) (only_at b.name b.value)
unfolding bound_to solve1 only_at update substitute at
append_bound b [] x = refl
append_bound b (c ∷ bs) x = go (eqb x c.name) (append_bound b bs x)
  where
    go : (q : Bool) → bound_to (map (solve1 b) bs ++ (b ∷ [])) x ≡ apply (bound_to bs x) (only_at b.name b.value)
        → cond q (apply c.value (only_at b.name b.value)) (bound_to (map (solve1 b) bs ++ (b ∷ [])) x) ≡ apply
        (cond q c.value (bound_to bs x)) (only_at b.name b.value)
    go true h = refl
    go false h = h

-- Final values after a binding: the earlier ones with the new binding put to use.
pub final_bind : (b : Binding) (bs : List Binding) (x : ℕ) → final (b ∷ bs) x ≡ apply (final bs x) (newest b bs)
unfolding solved
final_bind b bs x = append_bound (record { name = b.name; value = apply b.value (final bs) }) (solved bs) x

-- The same of terms.
pub apply_bind : (b : Binding) (bs : List Binding) (t : Term Leaf) → apply t (final (b ∷ bs)) ≡ apply (apply t (final bs)) (newest b bs)
apply_bind b bs t = ap (apply t) (fun_ext (final_bind b bs)) ∙ sym (apply_apply t (final bs) (newest b bs))

-- Unbound after a binding: unbound before it, and another variable.
unbound_older : (u : Term Leaf) (b : Binding) (bs : List Binding) (x : ℕ) → look bs b.value ≡ b.value
    → (b.value ≡ leaf (var b.name) → ⊥)
    → look bs (leaf (var x)) ≡ u → look1 u b ≡ leaf (var x) → Unbound bs x × (x ≡ b.name → ⊥)
unfolding look1
unbound_older (leaf (var z)) b bs x l d p q = go (eqb z b.name) refl q
  where
    go : (c : Bool) → eqb z b.name ≡ c → cond c b.value (leaf (var z)) ≡ leaf (var x) → Unbound bs x × (x ≡ b.name → ⊥)
    go true e r = (ap (look bs) (sym r) ∙ l ∙ r, λ y. d (r ∙ ap (λ v. leaf (var v)) y))
    go false e r = (p ∙ r, λ y. eqb-false z b.name e (cc))
unbound_older (leaf (con c k)) b bs x l d p q = absurd (con_not_var c k x (cc))
unbound_older (app f ts) b bs x l d p q = absurd (leaf_not_app (var x) f ts (sym q))

-- Nothing is bound to itself.
not_itself : (b : Binding) (bs : List Binding) → WellBound (b ∷ bs) → final bs b.name ≡ leaf (var b.name)
    → b.value ≡ leaf (var b.name) → ⊥
unfolding WellBound Appears substitute at
not_itself b bs w u e = w.2 (subst (λ t. Appears t (var b.name)) (sym (ap (λ t. apply t (final bs)) e ∙ u)) refl)

-- An unbound variable is its own final value.
pub bound_to_unbound : (bs : List Binding) (x : ℕ) → WellBound bs → Unbound bs x → final bs x ≡ leaf (var x)
unfolding WellBound look bound_to solved substitute at
bound_to_unbound [] x w u = refl
bound_to_unbound (b ∷ bs) x w u =
    let r = unbound_older (look bs (leaf (var x))) b bs x w.1 (not_itself b bs w (bound_to_unbound bs b.name w.3 w.0)) refl u in
    final_bind b bs x ∙ ap (λ t. apply t (newest b bs)) (bound_to_unbound bs x w.3 r.0)
    ∙ only_at_other b.name (apply b.value (final bs)) x r.1

-- Nothing else appears there.
pub unbound_appears : (bs : List Binding) (x : ℕ) (a : Leaf) → WellBound bs → Unbound bs x → Appears (final bs x) a → a ≡ var x
unfolding Appears
unbound_appears bs x a w u h = subst (λ t. Appears t a) (bound_to_unbound bs x w u) h

-- Nothing is bound to itself.
pub value_not_name : (b : Binding) (bs : List Binding) → WellBound (b ∷ bs) → b.value ≡ leaf (var b.name) → ⊥
unfolding WellBound
value_not_name b bs w = not_itself b bs w (bound_to_unbound bs b.name w.3 w.0)

-- Unbound after a binding: unbound before it, and another variable.
pub unbound_before : (b : Binding) (bs : List Binding) (x : ℕ) → WellBound (b ∷ bs) → Unbound (b ∷ bs) x → Unbound bs x × (x ≡ b.name → ⊥)
unfolding WellBound look
unbound_before b bs x w u = unbound_older (look bs (leaf (var x))) b bs x w.1 (value_not_name b bs w) refl u

-- Looking through once comes to the end.
look1_end : (t : Term Leaf) (b : Binding) (bs : List Binding) → WellBound (b ∷ bs) → look bs t ≡ t → look (b ∷ bs) (look1 t b) ≡ look1 t b
unfolding WellBound look look1
look1_end (leaf (var x)) b bs w e = go (eqb x b.name) refl
  where
    go : (c : Bool) → eqb x b.name ≡ c → look1 (look bs (cond c b.value (leaf (var x)))) b ≡ cond c b.value (leaf (var x))
    go true q = rw w.1 (look1_other b.value b (value_not_name b bs w))
    go false q = rw e (rw q)
look1_end (leaf (con c k)) b bs w e = rw e
look1_end (app f ts) b bs w e = rw e

pub look_twice : (bs : List Binding) (t : Term Leaf) → WellBound bs → look bs (look bs t) ≡ look bs t
unfolding WellBound look
look_twice [] t w = refl
look_twice (b ∷ bs) t w = look1_end (look bs t) b bs w (look_twice bs t w.3)

-- What appears in the final value of x after a binding: what appeared before, unless it is the bound variable; or, where the
-- bound variable appeared, what appears in its value.
abbrev pub Stays : Binding → List Binding → ℕ → Leaf → Type 0
Stays b bs x a = Appears (final bs x) a × (a ≡ var b.name → ⊥)

abbrev pub Enters : Binding → List Binding → ℕ → Leaf → Type 0
Enters b bs x a = Appears (final bs x) (var b.name) × Appears (apply b.value (final bs)) a

pub bind_appears : (b : Binding) (bs : List Binding) (x : ℕ) (a : Leaf) → Appears (final (b ∷ bs) x) a → Stays b bs x a ⊎ Enters b bs x a
unfolding Appears at
bind_appears b bs x a h =
    let r = appears_substitute (final bs x) (at (newest b bs)) a (rw (final_bind b bs x) at h) in
    from r.0 r.1 r.2
  where
    value : Term Leaf
    value = apply b.value (final bs)

    from : (c : Leaf) → Appears (final bs x) c → Appears (at (newest b bs) c) a → Stays b bs x a ⊎ Enters b bs x a
    from (con c k) i j = inl (subst (Appears (final bs x)) (sym j) i, λ e. con_not_var c k b.name (sym j ∙ e))
    from (var z) i j = go (eqb z b.name) refl
      where
        go : (q : Bool) → eqb z b.name ≡ q → Stays b bs x a ⊎ Enters b bs x a
        go true e =
            let p = eqb-true z b.name e in
            inr (
              subst (λ (v : ℕ). Appears (final bs x) (var v)) p i,
              subst (λ t. Appears t a) (ap (newest b bs) p
                  ∙ only_at_same b.name value) j,
            )
        go false e =
            let k : a ≡ var z = subst (λ t. Appears t a) (only_at_other b.name value z (eqb-false z b.name e)) j in
            inl (subst (Appears (final bs x)) (sym k) i, λ q. eqb-false z b.name e (cc))

-- Both do appear.
pub stays_appears : (b : Binding) (bs : List Binding) (x z : ℕ) → Appears (final bs x) (var z) → (z ≡ b.name → ⊥)
    → Appears (final (b ∷ bs) x) (var z)
unfolding Appears
stays_appears b bs x z h d =
    rw (final_bind b bs x) (appears_apply (final bs x) (newest b bs) z (var z) h
    (rw (only_at_other b.name (apply b.value (final bs)) z d) refl))

pub enters_appears : (b : Binding) (bs : List Binding) (x : ℕ) (a : Leaf) → Enters b bs x a → Appears (final (b ∷ bs) x) a
enters_appears b bs x a h =
    rw (final_bind b bs x) (appears_apply (final bs x) (newest b bs) b.name a h.0
    (rw (only_at_same b.name (apply b.value (final bs))) h.1))

-- Only unbound variables appear in final values.
pub appears_unbound : (bs : List Binding) (y x : ℕ) → WellBound bs → Appears (final bs y) (var x) → Unbound bs x
unfolding WellBound look
appears_unbound [] y x w h = refl
appears_unbound (b ∷ bs) y x w h = go (bind_appears b bs y (var x) h) (λ z i. appears_unbound bs z x w.3 i)
  where
    go : Stays b bs y (var x) ⊎ Enters b bs y (var x) → ((z : ℕ) → Appears (final bs z) (var x) → Unbound bs x) → Unbound (b ∷ bs) x
    go (inl i) ih = unbound_bind b bs x (ih y i.0) (λ q. i.1 (ap var q))
    go (inr i) ih =
        let r = apply_variable b.value (final bs) x i.1 in
        unbound_bind b bs x (ih r.0 r.2) (λ q. w.2 (subst (λ (z : ℕ). Appears (apply b.value (final bs)) (var z)) q i.1))

-- The final values solve the bindings.
pub final_bound : (bs : List Binding) → WellBound bs → All (λ b. final bs b.name ≡ apply b.value (final bs)) bs
unfolding WellBound substitute at
final_bound [] w = tt
final_bound (b ∷ bs) w = (
  final_bind b bs b.name ∙ ap (λ t. apply t (newest b bs)) (bound_to_unbound bs b.name w.3 w.0) ∙ only_at_same b.name value
      ∙ sym (apply_fixed value (newest b bs) alone) ∙ sym (apply_bind b bs b.value),
  all_weaken (λ c. final bs c.name ≡ apply c.value (final bs))
      (λ c. final (b ∷ bs) c.name ≡ apply c.value (final (b ∷ bs))) keep bs (final_bound bs w.3),
)
  where
    value : Term Leaf
    value = apply b.value (final bs)

    alone : (x : ℕ) → Appears value (var x) → newest b bs x ≡ leaf (var x)
    alone x h = only_at_other b.name value x (λ q. w.2 (subst (λ (z : ℕ). Appears value (var z)) q h))

    keep : (c : Binding) → final bs c.name ≡ apply c.value (final bs) → final (b ∷ bs) c.name ≡ apply c.value (final (b ∷ bs))
    keep c e = final_bind b bs c.name ∙ ap (λ t. apply t (newest b bs)) e ∙ sym (apply_bind b bs c.value)
