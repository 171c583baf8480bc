-- Definition 2: elab of the formula of a clause is the formulas of the clause's members, in the same order.
use Prim.Native.Nat.{ℕ}
use mathlib.Core.Path.{◌≡◌, refl, sym, ◌∙◌, ap, ap₂}
use mathlib.Core.Bool.{Bool, true, false, not, ◌&&◌, ◌||◌, cond, true≢false}
use mathlib.Core.List.{List, [], ◌∷◌, ◌++◌, map}
use mathlib.Core.Logic.{◌⊎◌, inl, inr}
use lib.Dec.{eqb}
use borrow.Author.Tests.{eqb-true, eqb-false, ne_eqb}
use Rattle.terms.specs.Lists.{update, elem}
use Rattle.terms.specs.Terms.{Term, leaf, substitutes}
use Rattle.terms.proofs.Lists.{map_append, map_map, map_agree}
use Rattle.formulas.specs.Formulas.{Clause, fact, rule, both, each, free_ts, free_b}
use Rattle.formulas.specs.Members.{Member, members, quantify, stands_free}
use Rattle.formulas.specs.Rules.{Rules}
use Rattle.formulas.proofs.Free.{substitutes_free}
use Rattle.sequents.specs.Sequents.{Hypothesis, Program, put_program, Entry, entry, entries_of, entries}
use Rattle.sequents.proofs.Sequents.{put_entry, entries_put}
use Rattle.unification.specs.Store.{Leaf, at}
use Rattle.search.specs.Paper.{name, Names, D, bound, formula_d, names, Elaborated, generalize, elab, elabs}
use Rattle.search.specs.Procedure.{formulas_of}
use Rattle.search.proofs.PaperApply.{formulas_at, formulas_apply}
use Rattle.search.proofs.PaperReplace.{Tidy, tidy_names, tidy_bound}
use Rattle.search.proofs.PaperNames.{formula_b, Own, own_bound, own_new, in_ts_free, in_b_free, AgreeOn, agree_left, agree_right}
use Rattle.search.proofs.PaperNames.{formula_b_agree}

-- The names of a prefix stand for themselves.
unfoldable pub bound_by : List ℕ → Names → Names
bound_by [] ρ = ρ
bound_by (v ∷ vs) ρ = bound_by vs (bound ρ v)

-- The formula that a member is.
unfoldable pub formula_m : Names → Member → Elaborated
formula_m ρ m =
    let π = bound_by m.prefix ρ in
    record { prefix = m.prefix; predicate = m.predicate; arguments = substitutes m.arguments π; body = formula_b m.body π }

-- Under a prefix

-- A name of its own stays one.
own_bound_by : (vs : List ℕ) (ρ : Names) (v : ℕ) → Own ρ v → Own (bound_by vs ρ) v
unfolding bound_by
own_bound_by [] ρ v h = h
own_bound_by (w ∷ vs) ρ v h = own_bound_by vs (bound ρ w) v (own_bound ρ v w h)

-- It does not matter what a name of the prefix stood for before.
bound_by_agree : (vs : List ℕ) (ρ π : Names) (u : ℕ) → (ρ u ≡ π u) ⊎ (elem u vs ≡ true) → bound_by vs ρ u ≡ bound_by vs π u
unfolding bound_by elem update
bound_by_agree [] ρ π u (inl e) = e
bound_by_agree [] ρ π u (inr e) = absurd (true≢false (sym e))
bound_by_agree (w ∷ vs) ρ π u h = bound_by_agree vs (bound ρ w) (bound π w) u (go (eqb u w) refl h)
  where
    go : (b : Bool) → eqb u w ≡ b → (ρ u ≡ π u) ⊎ (elem u (w ∷ vs) ≡ true) → (cond b (leaf (name w)) (ρ u) ≡ cond b (leaf (name w)) (π u))
        ⊎ (elem u vs ≡ true)
    go true e k = inl refl
    go false e (inl k) = inl k
    go false e (inr k) = inr (rw (ne_eqb w u (λ q. eqb-false u w e (sym q)), elem) at k)

-- One quantifier

-- A quantifier whose name stands free nowhere in the member binds nothing.
formula_m_skip : (m : Member) (ρ : Names) (v : ℕ) → stands_free v m ≡ false → formula_m (bound ρ v) m ≡ formula_m ρ m
unfolding formula_m stands_free update
formula_m_skip m ρ v h =
    ap₂ (λ ts b. record { prefix = m.prefix; predicate = m.predicate; arguments = ts; body = b })
    (substitutes_free m.arguments (bound_by m.prefix (bound ρ v)) (bound_by m.prefix ρ)
    (agree_left (free_ts m.arguments) (free_b m.body) agree))
    (formula_b_agree m.body (bound_by m.prefix (bound ρ v)) (bound_by m.prefix ρ)
    (agree_right (free_ts m.arguments) (free_b m.body) agree))
  where
    -- A name that stands free in the head or the body, but not in the member, is in the prefix.
    shadowed : (a b : Bool) → not a && b ≡ false → b ≡ true → a ≡ true
    shadowed true b e k = refl
    shadowed false b e k = absurd (true≢false (sym k ∙ e))

    same : (u : ℕ) (b : Bool) → eqb u v ≡ b → free_ts m.arguments u || free_b m.body u ≡ true
        → (cond b (leaf (name v)) (ρ u) ≡ ρ u) ⊎ (elem u m.prefix ≡ true)
    same u true e k =
        inr (shadowed (elem u m.prefix) (free_ts m.arguments u || free_b m.body u) (ap (λ x. stands_free x m) (eqb-true u v e) ∙ h) k)
    same u false e k = inl refl

    agree : AgreeOn (λ u. free_ts m.arguments u || free_b m.body u) (bound_by m.prefix (bound ρ v)) (bound_by m.prefix ρ)
    agree u k = bound_by_agree m.prefix (bound ρ v) ρ u (same u (eqb u v) refl k)

-- Where it stands free it joins the prefix, in the formula as in the member.
generalize_quantify : (m : Member) (ρ : Names) (v : ℕ) → Own (bound ρ v) v
    → generalize v (formula_m (bound ρ v) m) ≡ formula_m ρ (quantify v m)
unfolding generalize quantify formula_m bound_by stands_free
generalize_quantify m ρ v o = rw (in_ts_free m.arguments π v own, in_b_free m.body π v own) (go (stands_free v m) refl)
  where
    π : Names
    π = bound_by m.prefix (bound ρ v)

    own : Own π v
    own = own_bound_by m.prefix (bound ρ v) v o

    go : (b : Bool) → stands_free v m ≡ b
        → cond b (record {
          prefix = v ∷ m.prefix;
          predicate = m.predicate;
          arguments = substitutes m.arguments π;
          body = formula_b m.body π;
        }) (formula_m (bound ρ v) m)
        ≡ formula_m ρ (cond b (record { prefix = v ∷ m.prefix; predicate = m.predicate; arguments = m.arguments; body = m.body }) m)
    go true e = refl
    go false e = formula_m_skip m ρ v e

-- A clause, a program

-- The list elab(D) is the members of the clause, each as a formula.
elab_members : (d : Clause) (ρ : Names) → Tidy ρ → elab (formula_d d ρ) ≡ map (formula_m ρ) (members d)
unfolding elab formula_d members formula_m bound_by
elab_members (fact p ts) ρ h = refl
elab_members (rule g p ts) ρ h = refl
elab_members (both a b) ρ h = ap₂ ◌++◌ (elab_members a ρ h) (elab_members b ρ h) ∙ sym (map_append (formula_m ρ) (members a) (members b))
elab_members (each v d) ρ h =
    ap (map (generalize v)) (elab_members d (bound ρ v) (tidy_bound ρ v h))
    ∙ map_map (formula_m (bound ρ v)) (generalize v) (members d)
    ∙ map_agree (λ m. generalize v (formula_m (bound ρ v) m)) (λ m. formula_m ρ (quantify v m))
    (λ m. generalize_quantify m ρ v (own_new ρ v h)) (members d)
    ∙ sym (map_map (quantify v) (formula_m ρ) (members d))

-- The formula that a member of a program's clause is.
abbrev pub formula_e : Entry Leaf → Elaborated
formula_e m = formula_m (names m.environment) m.member

-- The list elab(𝒫) is the members of its clauses, each as a formula.
elabs_entries : (P : List (Hypothesis Leaf))
    → elabs (map (λ h. formula_d h.clause (names h.environment)) P) ≡ map formula_e (entries_of P)
unfolding elabs entries_of
elabs_entries [] = refl
elabs_entries (h ∷ P) =
    ap₂ ◌++◌
    (elab_members h.clause (names h.environment) (tidy_names h.environment)
    ∙ sym (map_map (entry h.environment) formula_e (members h.clause)))
    (elabs_entries P)
    ∙ sym (map_append formula_e (map (entry h.environment) (members h.clause)) (entries_of P))

-- The list elab(θ(𝒫)) is the members of the program's clauses with θ applied, each as a formula.
pub elabs_apply : (P : Program Leaf) (θ : ℕ → Term Leaf)
    → elabs (formulas_at θ P).clauses ≡ map (λ m. formula_e (put_entry (at θ) m)) (entries P)
unfolding formulas_of
elabs_apply P θ =
    ap (λ (R : Rules D). elabs R.clauses) (formulas_apply P θ) ∙ elabs_entries (put_program (at θ) P).clauses
    ∙ ap (map formula_e) (entries_put (at θ) P.clauses) ∙ map_map (put_entry (at θ)) formula_e (entries P)
