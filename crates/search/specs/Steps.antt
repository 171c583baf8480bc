-- Document 01, "The walk", first two paragraphs: what one act puts in the place of a configuration, the one to go on with
-- first. "Each of these four acts takes one unit", and by request W-206 following a binding does: one step is one unit, and nothing
-- else is.
use Rattle.std.specs.Prelude.{ℕ, zero, suc, Bool, true, false, cond, List, [], ◌∷◌, ◌++◌, eqb}
use Rattle.std.proofs.Math.Option.{Option, none, some}
use Rattle.terms.specs.Lists.{update}
use Rattle.terms.specs.Terms.{Term, leaf, Terms, substitutes}
use Rattle.formulas.specs.Formulas.{Goal, atom, truth, and, or, implies, exists, forall, Clause}
use Rattle.formulas.specs.Rules.{assume}
use Rattle.formulas.specs.Members.{Member}
use Rattle.sequents.specs.Sequents.{Environment, Program, hypothesis, Entry, entries, Sequent, sequent, assign, body_sequent, Word, Dtrue}
use Rattle.sequents.specs.Sequents.{Dand, Dleft, Dright, Dassume, Line, plain, Dsome, Dall, Dclause}
use Rattle.unification.specs.Store.{Leaf, var, con, Store, fresh, fresh_variables}
use Rattle.unification.specs.Matching.{Pair, Matching, pairs, check, fail, push_pairs, comparing, match_step}
use Rattle.search.specs.Configurations.{Branch, branch, Atom, Configuration, take, try, match, done}

-- "Always the front goal is taken"; "An empty list is proved".
unfoldable pub proceed : Store → List (Sequent Leaf) → List (Line Leaf) → List Configuration
proceed s [] ls = done s ls ∷ []
proceed s (g ∷ gs) ls = take s g (branch gs ls) ∷ []

-- After an act of matching: the goals that wait, where all pairs are matched; failure leaves nothing to go on with.
unfoldable pub settle : Matching → Branch → List Configuration
settle (pairs s []) b = proceed s b.goals b.path
settle (pairs s (p ∷ ps)) b = match (pairs s (p ∷ ps)) b ∷ []
settle (check s y t n ns ps) b = match (check s y t n ns ps) b ∷ []
settle fail b = []

-- "members are tried in turn": the first of the members left is due, if there is one.
unfoldable pub try_from : Store → Atom → List (Entry Leaf) → ℕ → Branch → List Configuration
try_from s a [] k b = []
try_from s a (m ∷ ms) k b = try s a m ms k b ∷ []

-- "The prefix gets fresh variables of level I."
abbrev pub tried_store : Store → Atom → Entry Leaf → Store
tried_store s a m = fresh m.member.prefix a.level s

abbrev pub tried_environment : Store → Entry Leaf → Environment Leaf
tried_environment s m = assign m.member.prefix (fresh_variables m.member.prefix s.next) m.environment

-- "If the heads match, the body, if any, is the new goal": the branch in that case, the member standing at place k.
abbrev pub tried_branch : Store → Atom → Entry Leaf → ℕ → Branch → Branch
tried_branch s a m k b =
    branch (body_sequent m.member.body (tried_environment s m) a.program a.level ++ b.goals)
    (Dclause k (fresh_variables m.member.prefix s.next) ∷ b.path)

unfoldable pub try_member : Store → Atom → Entry Leaf → ℕ → Branch → List Configuration
try_member s a m k b =
    settle (comparing (tried_store s a m) (push_pairs a.arguments (substitutes m.member.arguments (tried_environment s m)) []))
    (tried_branch s a m k b)

-- Taking a goal. A made constant gets the number u of acts done before: no two acts make the same one.
unfoldable pub take_goal : ℕ → Store → Goal → Environment Leaf → Program Leaf → ℕ → Branch → List Configuration
take_goal u s (atom p ts) e P i b =
    try_from s (record { predicate = p; arguments = substitutes ts e; program = P; level = i }) (entries P) 1 b
take_goal u s truth e P i b = proceed s b.goals (plain Dtrue ∷ b.path)
take_goal u s (and g h) e P i b = take s (sequent g e P i) (branch (sequent h e P i ∷ b.goals) (plain Dand ∷ b.path)) ∷ []
take_goal u s (or g h) e P i b =
    take s (sequent g e P i) (branch b.goals (plain Dleft ∷ b.path)) ∷ take s (sequent h e P i)
    (branch b.goals (plain Dright ∷ b.path)) ∷ []
take_goal u s (implies c g) e P i b = take s (sequent g e (assume (hypothesis c e) P) i) (branch b.goals (plain Dassume ∷ b.path)) ∷ []
take_goal u s (exists v g) e P i b =
    let x = leaf (var s.next) in
    take (fresh (v ∷ []) i s) (sequent g (update e v x) P i) (branch b.goals (Dsome x ∷ b.path)) ∷ []
take_goal u s (forall v g) e P i b =
    let c = leaf (con u (suc i)) in
    take s (sequent g (update e v c) P (suc i)) (branch b.goals (Dall c ∷ b.path)) ∷ []

-- The act that is due, u acts having been done. "Matching first compares predicates; if they differ the try fails."; "the
-- members left are the alternative".
unfoldable pub step : ℕ → Configuration → List Configuration
step u (take s g b) = take_goal u s g.goal g.environment g.program g.level b
step u (try s a m ms k b) = cond (eqb a.predicate m.member.predicate) (try_member s a m k b) [] ++ try_from s a ms (suc k) b
step u (match m b) = settle (match_step m) b
step u (done s ls) = done s ls ∷ []
