-- Each binding looked through is one act: what `specs/Bindings.antt` says.
use Prim.Native.Nat.{ℕ, zero, suc, ◌+◌}
use mathlib.Core.Path.{◌≡◌, refl, sym, ◌∙◌, ap, subst}
use mathlib.Core.Bool.{Bool, true, false, cond, ◌&&◌}
use mathlib.Core.List.{List, [], ◌∷◌}
use mathlib.Core.Option.{Option, none, some}
use native.Mathlib.Omega.{arith}
use lib.Dec.{eqb}
use Rattle.terms.specs.Terms.{same_functor, Term, leaf, app}
use Rattle.unification.specs.Store.{Leaf, var, con, Binding, Store, follow, look}
use Rattle.unification.specs.Matching.{Pair, Matching, pairs, check, fail, push_pairs, comparing, visit, compare_terms, on_pair, on_node}
use Rattle.unification.specs.Matching.{match_step, match_steps}
use Rattle.unification.specs.Promises.{WellBound}
use Rattle.unification.specs.Bindings.{LooksThrough, Followings, EveryBinding, AllLookedThrough, LookedThroughOnce}
use Rattle.unification.proofs.Follow.{not_none, some_is, follow_none}
use Rattle.unification.proofs.Looking.{hops, hops_none, follow_hop}
use Rattle.unification.proofs.Termination.{steps_after}

pub followings : Followings
unfolding match_step on_pair on_node
followings s ps = record {
  goal = λ p t e. rw (e, on_pair) refl;
  clause = λ p u e f. rw (e, f, on_pair) refl;
  node = λ y t n v ns e. rw (e, on_node) refl;
}

-- One act, and then n more.
act_first : (k n : ℕ) (m m' : Matching) → k ≡ suc n → match_step m ≡ m' → match_steps k m ≡ match_steps n m'
act_first k n m m' e f = ap (λ (c : ℕ). match_steps c m) e ∙ sym (steps_after n m) ∙ ap (match_steps n) f

-- A pair: the bindings of the goal's side, then those of the clause's.
pair_looks : (s : Store) (ps : List Pair) (i j : ℕ) (p : Pair) (t u : Term Leaf) → LooksThrough s.bindings p.goal i t
    → LooksThrough s.bindings p.clause j u → match_steps (suc (i + j)) (pairs s (p ∷ ps)) ≡ compare_terms s t u ps
unfolding LooksThrough match_steps match_step on_pair
pair_looks s ps zero zero p t u h k = rw (h.0, k.0, on_pair, h.1, k.1) refl
pair_looks s ps zero (suc j) p t u h k =
    act_first (suc (0 + suc j)) (suc (0 + j)) (pairs s (p ∷ ps)) _ (omega arith) ((followings s ps).clause p k.0 h.0 k.1)
    ∙ pair_looks s ps zero j (record { goal = p.goal; clause = k.0 }) t u h k.2
pair_looks s ps (suc i) j p t u h k =
    act_first (suc (suc i + j)) (suc (i + j)) (pairs s (p ∷ ps)) _ (omega arith) ((followings s ps).goal p h.0 h.1)
    ∙ pair_looks s ps i j (record { goal = h.0; clause = p.clause }) t u h.2 k

-- A node.
node_looks : (s : Store) (ps : List Pair) (y : ℕ) (t n v : Term Leaf) (ns : List (Term Leaf)) (i : ℕ) → LooksThrough s.bindings n i v
    → match_steps (suc i) (check s y t n ns ps) ≡ visit s y t v ns ps
unfolding LooksThrough match_steps match_step on_node
node_looks s ps y t n v ns zero h = rw (h.0, on_node, h.1) refl
node_looks s ps y t n v ns (suc i) h =
    act_first (suc (suc i)) (suc i) (check s y t n ns ps) _ refl ((followings s ps).node y t n h.0 ns h.1)
    ∙ node_looks s ps y t h.0 v ns i h.2

-- A range check that begins with the term that is to be bound, which is looked through; or none begins.
BeginsLooked : Store → List Pair → Matching → Type 0
BeginsLooked s ps (pairs s' qs) = Unit {0}
BeginsLooked s ps (check s' y v n ns qs) = (s' ≡ s) × (n ≡ v) × (ns ≡ []) × (qs ≡ ps) × (follow s.bindings v ≡ none)
BeginsLooked s ps fail = Unit {0}

-- A test that fails the matching, and the argument pairs: none begins.
if_begins : (s : Store) (ps : List Pair) (b : Bool) (m : Matching) → BeginsLooked s ps m → BeginsLooked s ps (cond b m fail)
unfolding BeginsLooked
if_begins s ps true m h = h
if_begins s ps false m h = tt

comparing_begins : (s : Store) (ps : List Pair) (o : Option (List Pair)) → BeginsLooked s ps (comparing s o)
unfolding BeginsLooked comparing
comparing_begins s ps none = tt
comparing_begins s ps (some qs) = tt

-- One pair, t and u being its sides as looked through.
compare_terms_begins : (s : Store) (ps : List Pair) (t u : Term Leaf) → follow s.bindings t ≡ none → follow s.bindings u ≡ none
    → BeginsLooked s ps (compare_terms s t u ps)
unfolding BeginsLooked compare_terms
compare_terms_begins s ps (leaf (var x)) (leaf (var y)) e f = go (eqb x y)
  where
    go : (c : Bool) → BeginsLooked s ps (cond c (pairs s ps) (check s x (leaf (var y)) (leaf (var y)) [] ps))
    go true = tt
    go false = (refl, refl, refl, refl, f)
compare_terms_begins s ps (leaf (var x)) (leaf (con d j)) e f = (refl, refl, refl, refl, f)
compare_terms_begins s ps (leaf (var x)) (app g us) e f = (refl, refl, refl, refl, f)
compare_terms_begins s ps (leaf (con c k)) (leaf (var y)) e f = (refl, refl, refl, refl, e)
compare_terms_begins s ps (leaf (con c k)) (leaf (con d j)) e f = if_begins s ps (eqb c d && eqb k j) (pairs s ps) tt
compare_terms_begins s ps (leaf (con c k)) (app g us) e f = tt
compare_terms_begins s ps (app h ts) (leaf (var y)) e f = (refl, refl, refl, refl, e)
compare_terms_begins s ps (app h ts) (leaf (con d j)) e f = tt
compare_terms_begins s ps (app h ts) (app g us) e f =
    if_begins s ps (same_functor h g) (comparing s (push_pairs ts us ps)) (comparing_begins s ps (push_pairs ts us ps))

pub every_binding : EveryBinding
unfolding BeginsLooked
every_binding s ps = record {
  pair = λ p i j t u h k. pair_looks s ps i j p t u h k;
  node = node_looks s ps;
  root = λ t u y v n ns qs s' e f h. subst (BeginsLooked s ps) h (compare_terms_begins s ps t u e f);
}

-- Following bindings comes to the end after as many as `look` passes.
comes_through : (bs : List Binding) → WellBound bs → (n : ℕ) (t : Term Leaf) → hops bs t ≡ n → LooksThrough bs t n (look bs t)
unfolding LooksThrough
comes_through bs w zero t h = go (follow bs t) refl
  where
    go : (o : Option (Term Leaf)) → follow bs t ≡ o → (follow bs t ≡ none) × (t ≡ look bs t)
    go none e = (e, sym (follow_none bs t e))
    go (some u) e = absurd (let k = (follow_hop bs t u w e).1 in omega arith)
comes_through bs w (suc n) t h = go (follow bs t) refl (comes_through bs w n)
  where
    go : (o : Option (Term Leaf)) → follow bs t ≡ o → ((u : Term Leaf) → hops bs u ≡ n → LooksThrough bs u n (look bs u))
        → (v : Term Leaf) × (follow bs t ≡ some v) × LooksThrough bs v n (look bs t)
    go none e ih = absurd (let k = hops_none bs t e in omega arith)
    go (some u) e ih =
        let k = follow_hop bs t u w e in (u, e, subst (LooksThrough bs u n) (sym k.0) (ih u (let j = k.1 in omega arith)))

pub all_looked_through : AllLookedThrough
all_looked_through s f t = (hops s.bindings t, comes_through s.bindings f.bound (hops s.bindings t) t refl)

pub looked_through_once : LookedThroughOnce
unfolding LooksThrough
looked_through_once bs t zero zero u v h k = (refl, sym h.1 ∙ k.1)
looked_through_once bs t zero (suc m) u v h k = absurd (not_none k.0 (sym k.1 ∙ h.0))
looked_through_once bs t (suc n) zero u v h k = absurd (not_none h.0 (sym h.1 ∙ k.0))
looked_through_once bs t (suc n) (suc m) u v h k =
    let e = some_is h.0 k.0 (sym h.1 ∙ k.1) in
    let r = looked_through_once bs h.0 n m u v h.2 (subst (λ (w : Term Leaf). LooksThrough bs w m v) (sym e) k.2) in
    (ap suc r.0, r.1)
