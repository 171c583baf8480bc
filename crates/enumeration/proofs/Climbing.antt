-- Each proof has more units than the one before it: no alternative that waits is a proof already.
use Prim.Native.Nat.{ℕ, zero, suc, ◌≤◌}
use mathlib.Core.Path.{◌≡◌, refl}
use mathlib.Core.Bool.{cond}
use mathlib.Core.List.{List, [], ◌∷◌, ◌++◌}
use mathlib.Core.Option.{Option, none, some}
use native.Mathlib.Omega.{arith}
use lib.Dec.{eqb}
use Rattle.terms.specs.Lists.{All}
use Rattle.terms.proofs.Lists.{all_append}
use Rattle.formulas.specs.Formulas.{Goal, atom, truth, and, or, implies, exists, forall, Clause}
use Rattle.formulas.specs.Rules.{Rules}
use Rattle.sequents.specs.Sequents.{Environment, Program, Entry, entries, Line, plain, Dtrue}
use Rattle.unification.specs.Store.{Leaf, Store}
use Rattle.unification.specs.Matching.{match_step}
use Rattle.search.specs.Configurations.{Branch, Atom, Configuration, take, try, match, done}
use Rattle.search.specs.Steps.{settle, try_from, try_member, take_goal, step}
use Rattle.search.specs.Search.{start, advance, Verdict, proved, no_proof, verdict_of}
use Rattle.enumeration.specs.Enumeration.{Next, finds, none_left, runs_out, alternatives, reaches, next_proof, go_on, enumerate_from}
use Rattle.enumeration.specs.Enumeration.{enumerate}
use Rattle.enumeration.specs.Promises.{Climbs}
use Rattle.enumeration.proofs.Scripts.{Finished}
use Rattle.enumeration.proofs.Lines.{Single, proceed_single, settle_single, try_from_single, tried_single}

-- An act is due.
abbrev pub Unfinished : Configuration → Type 0
Unfinished c = Finished c → ⊥

-- No configuration after the first is a proof.
unfoldable pub Front : List Configuration → Type 0
Front [] = Unit {0}
Front (c ∷ l) = All Unfinished l

-- It is so if none of them is a proof,
front_all : (l : List Configuration) → All Unfinished l → Front l
unfolding Front
front_all [] h = tt
front_all (c ∷ l) h = h.1

-- or if there is at most one.
front_single : (l : List Configuration) → Single l → Front l
unfolding Front Single
front_single [] h = tt
front_single (c ∷ []) h = tt
front_single (c ∷ d ∷ l) h = absurd h

-- Alternatives of which none is a proof may follow.
front_append : (x y : List Configuration) → Front x → All Unfinished y → Front (x ++ y)
unfolding Front
front_append [] y h k = front_all y k
front_append (c ∷ x) y h k = all_append Unfinished x y h k

-- The members left are no proof.
try_from_waits : (s : Store) (a : Atom) (ms : List (Entry Leaf)) (k : ℕ) (b : Branch) → All Unfinished (try_from s a ms k b)
unfolding try_from Finished
try_from_waits s a [] k b = tt
try_from_waits s a (m ∷ ms) k b = ((λ h. h), tt)

-- Taking a goal gives a proof in front only, since of two choices both have a goal left.
take_goal_front : (u : ℕ) (s : Store) (g : Goal) (e : Environment Leaf) (P : Program Leaf) (i : ℕ) (b : Branch)
    → Front (take_goal u s g e P i b)
unfolding take_goal Front Finished
take_goal_front u s (atom p ts) e P i b = front_single _ (try_from_single s _ (entries P) 1 b)
take_goal_front u s truth e P i b = front_single _ (proceed_single s b.goals (plain Dtrue ∷ b.path))
take_goal_front u s (and g h) e P i b = tt
take_goal_front u s (or g h) e P i b = ((λ x. x), tt)
take_goal_front u s (implies c g) e P i b = tt
take_goal_front u s (exists v g) e P i b = tt
take_goal_front u s (forall v g) e P i b = tt

-- So does every act.
step_front : (u : ℕ) (c : Configuration) → Front (step u c)
unfolding step Front
step_front u (take s g b) = take_goal_front u s g.goal g.environment g.program g.level b
step_front u (try s a m ms k b) =
    let same = eqb a.predicate m.member.predicate in
    front_append (cond same (try_member s a m k b) []) (try_from s a ms (suc k) b)
    (front_single (cond same (try_member s a m k b) []) (tried_single same s a m k b)) (try_from_waits s a ms (suc k) b)
step_front u (match m b) = front_single (settle (match_step m) b) (settle_single (match_step m) b)
step_front u (done s ls) = tt

-- The next proof has at least u units, and what waits is no proof.
unfoldable pub AtLeast : ℕ → Next → Type 0
AtLeast u (finds f w ds) = (u ≤ w.units) × All Unfinished ds
AtLeast u (none_left n) = Unit {0}
AtLeast u runs_out = Unit {0}

-- More units than u are at least u.
at_least_less : (u : ℕ) (x : Next) → AtLeast (suc u) x → AtLeast u x
unfolding AtLeast
at_least_less u (finds f w ds) h = ((let z = h.0 in omega arith), h.1)
at_least_less u (none_left n) h = tt
at_least_less u runs_out h = tt

-- An act keeps it so that no configuration after the first is a proof.
advance_front : (u : ℕ) (ds : List Configuration) → Front ds → Front (advance u ds)
unfolding advance Front
advance_front u [] h = tt
advance_front u (c ∷ ds) h = front_append (step u c) ds (step_front u c) h

-- So none of the open alternatives is a proof.
front_waits : (ds : List Configuration) → Front ds → All Unfinished (alternatives ds)
unfolding Front alternatives
front_waits [] h = tt
front_waits (c ∷ ds) h = h

-- The next proof comes after no fewer acts than were done.
next_front : (left u : ℕ) (ds : List Configuration) → Front ds → AtLeast u (next_proof left u ds)
unfolding next_proof reaches AtLeast
next_front zero u ds h = go (verdict_of ds)
  where
    go : (o : Option Verdict) → AtLeast u (elim o [ some v ↦ reaches zero u ds v | none ↦ runs_out ])
    go (some (proved s ls)) = (omega arith, front_waits ds h)
    go (some no_proof) = tt
    go none = tt
next_front (suc left) u ds h = go (verdict_of ds) (next_front left (suc u) (advance u ds) (advance_front u ds h))
  where
    go : (o : Option Verdict) → AtLeast (suc u) (next_proof left (suc u) (advance u ds))
        → AtLeast u (elim o [ some v ↦ reaches (suc left) u ds v | none ↦ next_proof left (suc u) (advance u ds) ])
    go (some (proved s ls)) ih = (omega arith, front_waits ds h)
    go (some no_proof) ih = tt
    go none ih = at_least_less u (next_proof left (suc u) (advance u ds)) ih

-- Where no configuration is a proof there is none yet.
pub not_proved : (ds : List Configuration) (s : Store) (ls : List (Line Leaf)) → All Unfinished ds → verdict_of ds ≡ some (proved s ls) → ⊥
unfolding verdict_of Finished
not_proved [] s ls h e = let z : ◌≡◌ {A = ℕ} 0 1 = cc in omega arith
not_proved (take t g b ∷ ds) s ls h e = let z : ◌≡◌ {A = ℕ} 0 1 = cc in omega arith
not_proved (try t a m ms k b ∷ ds) s ls h e = let z : ◌≡◌ {A = ℕ} 0 1 = cc in omega arith
not_proved (match m b ∷ ds) s ls h e = let z : ◌≡◌ {A = ℕ} 0 1 = cc in omega arith
not_proved (done t ks ∷ ds) s ls h e = h.0 tt

-- So an act is due first, and the next proof has more than u units.
pub next_more : (left u : ℕ) (ds : List Configuration) → All Unfinished ds → AtLeast (suc u) (next_proof left u ds)
unfolding next_proof reaches AtLeast
next_more zero u ds h = go (verdict_of ds) refl
  where
    go : (o : Option Verdict) → verdict_of ds ≡ o → AtLeast (suc u) (elim o [ some v ↦ reaches zero u ds v | none ↦ runs_out ])
    go (some (proved s ls)) e = absurd (not_proved ds s ls h e)
    go (some no_proof) e = tt
    go none e = tt
next_more (suc left) u ds h = go (verdict_of ds) refl
  where
    go : (o : Option Verdict) → verdict_of ds ≡ o
        → AtLeast (suc u) (elim o [ some v ↦ reaches (suc left) u ds v | none ↦ next_proof left (suc u) (advance u ds) ])
    go (some (proved s ls)) e = absurd (not_proved ds s ls h e)
    go (some no_proof) e = tt
    go none e = next_front left (suc u) (advance u ds) (advance_front u ds (front_all ds h))

-- So the units rise from one proof to the next,
enumerate_climb : (wanted f u : ℕ) (ds : List Configuration) → All Unfinished ds → Climbs u (enumerate_from wanted f u ds).found
unfolding enumerate_from Climbs go_on AtLeast
enumerate_climb zero f u ds h = tt
enumerate_climb (suc wanted) f u ds h = go (λ e v es k. enumerate_climb wanted e v es k) (next_proof f u ds) (next_more f u ds h)
  where
    go : ((e v : ℕ) (es : List Configuration) → All Unfinished es → Climbs v (enumerate_from wanted e v es).found) → (x : Next)
        → AtLeast (suc u) x
        → Climbs u (go_on (λ e v es. enumerate_from wanted e v es) x).found
    go ih (finds e w es) k = ((let z = k.0 in omega arith), ih e w.units es k.1)
    go ih (none_left n) k = tt
    go ih runs_out k = tt

-- and the first proof has more than 0, since an act is due at the start.
pub climbing : (cs : Rules Clause) (g : Goal) (wanted budget : ℕ) → Climbs 0 (enumerate wanted budget cs g).found
unfolding enumerate start Finished
climbing cs g wanted budget = enumerate_climb wanted budget 0 (start cs g) ((λ h. h), tt)
