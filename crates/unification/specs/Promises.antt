-- Promise T3 (demand 2): "A match that is not cut off by the budget succeeds exactly if a unifier that respects the levels
-- exists, and the most general one is bound." From the store of a running search, earlier bindings present.
use Rattle.std.specs.Prelude.{ℕ, ◌≤◌, ◌<◌, ◌≡◌, List, [], ◌∷◌, map}
use Rattle.terms.specs.Lists.{All}
use Rattle.terms.specs.Terms.{Term, leaf, Leaves, Appears}
use Rattle.unification.specs.Store.{Leaf, var, con, Binding, Store, look, apply, bound_to, solved, solution}
use Rattle.unification.specs.Matching.{Pair, Matching, pairs, fail, match_steps, Ended}
use Rattle.unification.specs.Labelled.{Labelling, Disagreement, Substitution, Induced, Unifier, MostGeneral}

-- Variables are numbered below n.
unfoldable pub Below : ℕ → Leaf → Type 0
Below n (var x) = x < n
Below n (con c k) = Unit {0}

abbrev pub BelowPair : ℕ → Pair → Type 0
BelowPair n p = Leaves p.goal (Below n) × Leaves p.clause (Below n)

abbrev pub BelowBinding : ℕ → Binding → Type 0
BelowBinding n b = (b.name < n) × Leaves b.value (Below n)

-- The variable x is unbound.
abbrev pub Unbound : List Binding → ℕ → Type 0
Unbound bs x = look bs (leaf (var x)) ≡ leaf (var x)

-- Each variable was unbound when it was bound, to a term as looked through in which, bindings applied, it does not appear.
unfoldable pub WellBound : List Binding → Type 0
WellBound [] = Unit {0}
WellBound (b ∷ bs) =
    Unbound bs b.name × (look bs b.value ≡ b.value) × (Appears (apply b.value (bound_to (solved bs))) (var b.name) → ⊥)
    × WellBound bs

-- A store as a search has it: its bindings are a substitution without circles, proper for its levels, and no variable in the
-- value of x has a higher level than x. Every store that a search reaches is one (search, `DerivationSteps`, field `formed`).
pub record Formed (s : Store) : Type 0 where
  pub bound : WellBound s.bindings
  pub below : All (BelowBinding s.next) s.bindings
  pub proper : (x c k : ℕ) → x < s.next → Appears (solution s x) (con c k) → k ≤ s.level x
  pub ordered : (x z : ℕ) → x < s.next → Appears (solution s x) (var z) → (z < s.next) × (s.level z ≤ s.level x)

-- S(t), the bindings of the store applied; of pairs likewise.
abbrev pub reading : Store → Term Leaf → Term Leaf
reading s t = apply t (solution s)

abbrev pub read_pairs : Store → List Pair → Disagreement
read_pairs s ps = map (λ p. record { goal = reading s p.goal; clause = reading s p.clause }) ps

-- The labelling is the store's at the variables that are unbound. A bound one appears in no term any more, and the two may
-- differ there: document 003 keeps its label, the search may have lowered it before it was bound.
abbrev pub Labels : Labelling → Store → Type 0
Labels L s = (x : ℕ) → Unbound s.bindings x → L x ≡ s.level x

-- What a match that succeeded has found, s being the store before it and s' the store after it.
pub record Solved (L : Labelling) (s : Store) (ps : List Pair) (s' : Store) : Type 0 where
  -- The match has a most general unifier of the pairs, earlier bindings applied.
  pub mgu : Substitution
  pub general : MostGeneral L (read_pairs s ps) mgu
  -- What is bound is the most general unifier: S' = mgu ∘ S.
  pub composed : (t : Term Leaf) → reading s' t ≡ apply (reading s t) mgu.to
  -- The levels are the labelling that the unifier induces.
  pub labelling : Labelling
  pub induced : Induced L mgu labelling
  pub labels : Labels labelling s'
  -- The store after the match is one that a search has, and no variable was made.
  pub formed : Formed s'
  pub next : s'.next ≡ s.next

abbrev pub Succeeds : Store → List Pair → Type 0
Succeeds s ps = (n : ℕ) × (s' : Store) × (match_steps n (pairs s ps) ≡ pairs s' [])

pub record Matches (s : Store) (ps : List Pair) (L : Labelling) : Type 0 where
  -- Matching ends, and then stays as it is.
  pub ends : (n : ℕ) × Ended (match_steps n (pairs s ps)) × ((m : ℕ) → n ≤ m → match_steps m (pairs s ps) ≡ match_steps n (pairs s ps))
  -- Matching succeeds exactly if there is a unifier that respects the levels.
  pub only_if : Succeeds s ps → (φ : Substitution) × Unifier L (read_pairs s ps) φ
  pub if : (φ : Substitution) → Unifier L (read_pairs s ps) φ → Succeeds s ps
  -- Whatever the number of acts after which matching has succeeded, it has found what `Solved` says.
  pub solved : (n : ℕ) (s' : Store) → match_steps n (pairs s ps) ≡ pairs s' [] → Solved L s ps s'
  -- Whatever the number of acts after which matching has failed, there is no unifier.
  pub failed : (n : ℕ) → match_steps n (pairs s ps) ≡ fail → (φ : Substitution) → Unifier L (read_pairs s ps) φ → ⊥

-- Promise T3 is for every formed store, pairs of its variables, and a labelling with its levels.
abbrev pub Unification : Type 0
Unification = (s : Store) (ps : List Pair) (L : Labelling) → Formed s → All (BelowPair s.next) ps → Labels L s → Matches s ps L
