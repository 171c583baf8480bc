-- Numbers as terms: what `specs/Numbers.antt` says.
use Prim.Native.Nat.{ℕ}
use mathlib.Core.Path.{◌≡◌, refl, ◌∙◌}
use mathlib.Core.List.{List}
use borrow.Author.Tests.{eq-eqb, ne_eqb}
use Rattle.terms.specs.Terms.{same_functor, Term, number_term, size, level_by}
use Rattle.unification.specs.Store.{Leaf, Store}
use Rattle.unification.specs.Matching.{Pair, push_terms, push_pairs, comparing, visit, compare_terms}
use Rattle.unification.specs.Numbers.{Stands, compared, NumbersApart, NumbersLow}
use Rattle.unification.proofs.Bindings.{every_binding}

-- The acts on a pair come to comparing its sides as looked through.
looked : (s : Store) (ps : List Pair) (t : Term Leaf) (i : ℕ) (v u : Term Leaf) (j : ℕ) (w : Term Leaf) → Stands s t i v → Stands s u j w
    → compared s t i u j ps ≡ compare_terms s v w ps
looked s ps t i v u j w h k = (every_binding s ps).pair (record { goal = t; clause = u }) i j v w h k

pub numbers_apart : NumbersApart
unfolding compare_terms same_functor comparing push_pairs visit push_terms
numbers_apart s ps t i n h = record {
  equal = λ u j k. looked s ps t i (number_term n) u j (number_term n) h k ∙ rw (eq-eqb n n refl);
  different = λ u j m k d. looked s ps t i (number_term n) u j (number_term m) h k ∙ rw (ne_eqb n m d);
  application = λ u j f us k. (looked s ps t i _ u j _ h k, looked s ps u j _ t i _ k h);
  constant = λ u j c l k. (looked s ps t i _ u j _ h k, looked s ps u j _ t i _ k h);
  range = λ y v ns. (every_binding s ps).node y v t (number_term n) ns i h;
}

pub numbers_low : NumbersLow
unfolding level_by size
numbers_low n = (λ l. refl, refl)
