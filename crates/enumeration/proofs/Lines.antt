-- The lines tell which path it is: each choice writes another line.
use Prim.Native.Nat.{ℕ, zero, suc, ◌+◌, ◌≤◌, ◌<◌}
use mathlib.Core.Path.{◌≡◌, refl, sym, ◌∙◌, ap, subst}
use mathlib.Core.Bool.{Bool, true, false, cond}
use mathlib.Core.List.{List, [], ◌∷◌, ◌++◌, map, append_assoc}
use mathlib.Core.Logic.{◌⊎◌, inl, inr}
use native.Mathlib.Omega.{arith}
use lib.Dec.{eqb}
use lib.ListN.{length}
use Rattle.terms.specs.Lists.{All}
use Rattle.terms.specs.Terms.{Term}
use Rattle.terms.proofs.Lists.{all_append, all_weaken, map_append}
use Rattle.formulas.specs.Formulas.{Goal, atom, truth, and, or, implies, exists, forall}
use Rattle.sequents.specs.Sequents.{Environment, Program, Entry, entries, Sequent, Dtrue, Dleft, Dright, Line, plain, Dclause}
use Rattle.unification.specs.Store.{Leaf, Store, fresh_variables}
use Rattle.unification.specs.Matching.{Matching, pairs, check, fail, match_step}
use Rattle.search.specs.Configurations.{Branch, Atom, Configuration, take, try, match, done}
use Rattle.search.specs.Steps.{proceed, settle, try_from, try_member, take_goal, step}
use Rattle.enumeration.specs.Scripts.{Script, acts, Stands, LeadsTo, Before, bare}
use Rattle.enumeration.proofs.Scripts.{stands_all, stands_once, Finished, leads_either}

-- The length of a list with the element x within it.
length_of : {A : Type 0} (a : List A) (x : A) (l : List A) → length (a ++ (x ∷ l)) ≡ length a + suc (length l)
length_of [] x l = omega arith
length_of (b ∷ a) x l = let z = length_of a x l in omega arith

-- Of two lists that are the same after a place, the elements at that place are the same: if the lists before are equally long,
same_length : {A : Type 0} (a b : List A) (x y : A) (l : List A) → length a ≡ length b → a ++ (x ∷ l) ≡ b ++ (y ∷ l) → x ≡ y
same_length [] [] x y l n e = cc
same_length [] (d ∷ b) x y l n e = absurd (omega arith)
same_length (c ∷ a) [] x y l n e = absurd (omega arith)
same_length (c ∷ a) (d ∷ b) x y l n e = same_length a b x y l (omega arith) (cc)

-- and they are, since the whole lists are.
same_at_lem : {A : Type 0} (a b : List A) (x y : A) (l : List A) → a ++ (x ∷ l) ≡ b ++ (y ∷ l) → x ≡ y
same_at_lem {A = A} a b x y l e =
    let n = ap (λ (z : List A). length z) e in
    let p = length_of a x l in
    let q = length_of b y l in
    same_length a b x y l (omega arith) e

-- The lines of a configuration. They only grow.
unfoldable path_of : Configuration → List (Line Leaf)
path_of (take s g b) = b.path
path_of (try s a m ms k b) = b.path
path_of (match m b) = b.path
path_of (done s ls) = ls

-- The lines of the configuration are ls with others put before them, being later.
abbrev Grown : List (Line Leaf) → Configuration → Type 0
Grown ls e = (more : List (Line Leaf)) × (path_of e ≡ more ++ ls)

-- Going on with the goals writes no line,
proceed_grown : (s : Store) (gs : List (Sequent Leaf)) (ls : List (Line Leaf)) → All (Grown ls) (proceed s gs ls)
unfolding proceed path_of
proceed_grown s [] ls = (([], refl), tt)
proceed_grown s (g ∷ gs) ls = (([], refl), tt)

-- nor does an act of matching,
settle_grown : (m : Matching) (b : Branch) → All (Grown b.path) (settle m b)
unfolding settle path_of
settle_grown (pairs s []) b = proceed_grown s b.goals b.path
settle_grown (pairs s (p ∷ ps)) b = (([], refl), tt)
settle_grown (check s y t n ns ps) b = (([], refl), tt)
settle_grown fail b = tt

-- nor going on to the members left.
try_from_grown : (s : Store) (a : Atom) (ms : List (Entry Leaf)) (k : ℕ) (b : Branch) → All (Grown b.path) (try_from s a ms k b)
unfolding try_from path_of
try_from_grown s a [] k b = tt
try_from_grown s a (m ∷ ms) k b = (([], refl), tt)

-- The member of a try writes its place.
try_member_grown : (s : Store) (a : Atom) (m : Entry Leaf) (k : ℕ) (b : Branch)
    → All (Grown (Dclause k (fresh_variables m.member.prefix s.next) ∷ b.path)) (try_member s a m k b)
unfolding try_member
try_member_grown s a m k b = settle_grown _ _

-- What grows from one line more grows.
grown_one : (x : Line Leaf) (ls : List (Line Leaf)) (e : Configuration) → Grown (x ∷ ls) e → Grown ls e
grown_one x ls e h = (h.0 ++ (x ∷ []), h.1 ∙ sym (append_assoc h.0 (x ∷ []) ls))

-- Taking a goal writes at most one line.
take_goal_grown : (u : ℕ) (s : Store) (g : Goal) (e : Environment Leaf) (P : Program Leaf) (i : ℕ) (b : Branch)
    → All (Grown b.path) (take_goal u s g e P i b)
unfolding take_goal path_of
take_goal_grown u s (atom p ts) e P i b = try_from_grown s _ (entries P) 1 b
take_goal_grown u s truth e P i b =
    let ls = plain Dtrue ∷ b.path in
    all_weaken (Grown ls) (Grown b.path) (λ d h. grown_one (plain Dtrue) b.path d h) (proceed s b.goals ls)
    (proceed_grown s b.goals ls)
take_goal_grown u s (and g h) e P i b = ((_ ∷ [], refl), tt)
take_goal_grown u s (or g h) e P i b = ((_ ∷ [], refl), ((_ ∷ [], refl), tt))
take_goal_grown u s (implies c g) e P i b = ((_ ∷ [], refl), tt)
take_goal_grown u s (exists v g) e P i b = ((_ ∷ [], refl), tt)
take_goal_grown u s (forall v g) e P i b = ((_ ∷ [], refl), tt)

-- A member whose predicate differs gives nothing.
tried_grown : (same : Bool) (s : Store) (a : Atom) (m : Entry Leaf) (k : ℕ) (b : Branch)
    → All (Grown (Dclause k (fresh_variables m.member.prefix s.next) ∷ b.path)) (cond same (try_member s a m k b) [])
tried_grown true s a m k b = try_member_grown s a m k b
tried_grown false s a m k b = tt

-- So lines grow by every act,
acts_grown : (u : ℕ) (c : Configuration) → All (Grown (path_of c)) (acts u c)
unfolding acts step path_of
acts_grown u (take s g b) = take_goal_grown u s g.goal g.environment g.program g.level b
acts_grown u (try s a m ms k b) =
    let x = Dclause k (fresh_variables m.member.prefix s.next) in
    let same = eqb a.predicate m.member.predicate in
    all_append (Grown b.path) (cond same (try_member s a m k b) []) (try_from s a ms (suc k) b)
    (all_weaken (Grown (x ∷ b.path)) (Grown b.path) (λ d h. grown_one x b.path d h) (cond same (try_member s a m k b) [])
    (tried_grown same s a m k b))
    (try_from_grown s a ms (suc k) b)
acts_grown u (match m b) = settle_grown (match_step m) b
acts_grown u (done s ls) = tt

-- and by one act after the other.
grown_on : (ls : List (Line Leaf)) (c d : Configuration) → Grown ls c → Grown (path_of c) d → Grown ls d
grown_on ls c d h k = (k.0 ++ h.0, k.1 ∙ ap (λ (x : List (Line Leaf)). k.0 ++ x) h.1 ∙ sym (append_assoc k.0 h.0 ls))

-- So they grow along a path.
leads_grown : (p : Script) (u : ℕ) (c d : Configuration) → LeadsTo p u c d → Grown (path_of c) d
unfolding LeadsTo
leads_grown [] u c d h = ([], ap path_of (sym h))
leads_grown (i ∷ p) u c d h =
    grown_on (path_of c) h.0 d (stands_all (Grown (path_of c)) (acts u c) i h.0 (acts_grown u c) h.1)
    (leads_grown p (suc u) h.0 d h.2)

-- The members left write a place from k on.
abbrev Placed : ℕ → List (Line Leaf) → Configuration → Type 0
Placed k ls d = (j : ℕ) × ((xs : List (Term Leaf)) × ((k ≤ j) × Grown (Dclause j xs ∷ ls) d))

-- The configuration is a try of one of the members left, at place k.
abbrev Trying : Store → Atom → ℕ → Branch → Configuration → Type 0
Trying s a k b e = (m : Entry Leaf) × ((ms : List (Entry Leaf)) × (e ≡ try s a m ms k b))

-- Going on to the members left gives a try.
try_from_trying : (s : Store) (a : Atom) (ms : List (Entry Leaf)) (k : ℕ) (b : Branch) → All (Trying s a k b) (try_from s a ms k b)
unfolding try_from
try_from_trying s a [] k b = tt
try_from_trying s a (m ∷ ms) k b = ((m, (ms, refl)), tt)

-- A try gives its member, or the next try.
abbrev Tried : Store → Atom → Entry Leaf → ℕ → Branch → Configuration → Type 0
Tried s a m k b e = Grown (Dclause k (fresh_variables m.member.prefix s.next) ∷ b.path) e ⊎ Trying s a (suc k) b e

-- This is what a try gives to choose from.
try_tried : (u : ℕ) (s : Store) (a : Atom) (m : Entry Leaf) (ms : List (Entry Leaf)) (k : ℕ) (b : Branch)
    → All (Tried s a m k b) (acts u (try s a m ms k b))
unfolding acts step
try_tried u s a m ms k b =
    let ls = Dclause k (fresh_variables m.member.prefix s.next) ∷ b.path in
    let same = eqb a.predicate m.member.predicate in
    all_append (Tried s a m k b) (cond same (try_member s a m k b) []) (try_from s a ms (suc k) b)
    (all_weaken (Grown ls) (Tried s a m k b) (λ e h. inl h) (cond same (try_member s a m k b) []) (tried_grown same s a m k b))
    (all_weaken (Trying s a (suc k) b) (Tried s a m k b) (λ e h. inr h) (try_from s a ms (suc k) b) (try_from_trying s a ms (suc k) b))

-- A path from a try to an end writes a place from that of the try on.
try_placed : (p : Script) (u : ℕ) (s : Store) (a : Atom) (m : Entry Leaf) (ms : List (Entry Leaf)) (k : ℕ) (b : Branch) (d : Configuration)
    → Finished d
    → LeadsTo p u (try s a m ms k b) d → Placed k b.path d
unfolding LeadsTo Finished
try_placed [] u s a m ms k b d f h = absurd (subst Finished (sym h) f)
try_placed (i ∷ p) u s a m ms k b d f h =
    go (λ n ns z. try_placed p (suc u) s a n ns (suc k) b d f z)
    (stands_all (Tried s a m k b) (acts u (try s a m ms k b)) i h.0 (try_tried u s a m ms k b) h.1)
  where
    go : ((n : Entry Leaf) (ns : List (Entry Leaf)) → LeadsTo p (suc u) (try s a n ns (suc k) b) d → Placed (suc k) b.path d)
        → Tried s a m k b h.0 → Placed k b.path d
    go ih (inl z) = (k, (_, (omega arith, grown_on _ h.0 d z (leads_grown p (suc u) h.0 d h.2))))
    go ih (inr z) =
        let r = ih z.0 z.1.0 (subst (λ (e : Configuration). LeadsTo p (suc u) e d) z.1.1 h.2) in
        (r.0, (r.1.0, ((let l = r.1.1.0 in omega arith), r.1.1.1)))

-- A list of at most one configuration: there is no choice.
unfoldable pub Single : List Configuration → Type 0
Single [] = Unit {0}
Single (c ∷ []) = Unit {0}
Single (c ∷ d ∷ l) = ⊥

-- There are no two different choices in it.
single_one : (l : List Configuration) (i j : ℕ) (d e : Configuration) → Single l → i < j → Stands l i d → Stands l j e → ⊥
unfolding Single Stands
single_one [] i j d e s l h k = h
single_one (c ∷ []) i zero d e s l h k = omega arith
single_one (c ∷ []) i (suc j) d e s l h k = k
single_one (c ∷ b ∷ cs) i j d e s l h k = s

-- Going on with the goals gives at most one,
pub proceed_single : (s : Store) (gs : List (Sequent Leaf)) (ls : List (Line Leaf)) → Single (proceed s gs ls)
unfolding proceed Single
proceed_single s [] ls = tt
proceed_single s (g ∷ gs) ls = tt

-- so does an act of matching,
pub settle_single : (m : Matching) (b : Branch) → Single (settle m b)
unfolding settle Single
settle_single (pairs s []) b = proceed_single s b.goals b.path
settle_single (pairs s (p ∷ ps)) b = tt
settle_single (check s y t n ns ps) b = tt
settle_single fail b = tt

-- so does going on to the members left,
pub try_from_single : (s : Store) (a : Atom) (ms : List (Entry Leaf)) (k : ℕ) (b : Branch) → Single (try_from s a ms k b)
unfolding try_from Single
try_from_single s a [] k b = tt
try_from_single s a (m ∷ ms) k b = tt

-- and so does trying a member.
pub tried_single : (same : Bool) (s : Store) (a : Atom) (m : Entry Leaf) (k : ℕ) (b : Branch) → Single (cond same (try_member s a m k b) [])
unfolding try_member Single
tried_single true s a m k b = settle_single _ _
tried_single false s a m k b = tt

-- Of two such lists, two different choices are the one of the first and the one of the second.
two_lists : (x y : List Configuration) (i j : ℕ) (d e : Configuration) → Single x → Single y → i < j → Stands (x ++ y) i d
    → Stands (x ++ y) j e → Stands x 0 d × Stands y 0 e
unfolding Single Stands
two_lists [] y i j d e s t l h k = absurd (single_one y i j d e t l h k)
two_lists (c ∷ []) y i zero d e s t l h k = absurd (omega arith)
two_lists (c ∷ []) [] i (suc j) d e s t l h k = absurd k
two_lists (c ∷ []) (b ∷ []) zero (suc zero) d e s t l h k = (h, k)
two_lists (c ∷ []) (b ∷ []) (suc i) (suc zero) d e s t l h k = absurd (omega arith)
two_lists (c ∷ []) (b ∷ []) i (suc (suc j)) d e s t l h k = absurd k
two_lists (c ∷ []) (b ∷ f ∷ y) i (suc j) d e s t l h k = absurd t
two_lists (c ∷ b ∷ x) y i j d e s t l h k = absurd s

-- Lines that are the same up to a place, and differ there without their terms.
record Apart (ls ks : List (Line Leaf)) : Type 0 where
  pub end : List (Line Leaf)
  pub left : Line Leaf
  pub right : Line Leaf
  pub lefts : List (Line Leaf)
  pub rights : List (Line Leaf)
  pub first : ls ≡ lefts ++ (left ∷ end)
  pub second : ks ≡ rights ++ (right ∷ end)
  pub differ : bare left ≡ bare right → ⊥

-- Where a goal is taken, two choices are the left and the right of a disjunction.
goal_parts : (u : ℕ) (s : Store) (g : Goal) (e : Environment Leaf) (P : Program Leaf) (l : ℕ) (b : Branch) (i j : ℕ) (c d : Configuration)
    → i < j
    → Stands (take_goal u s g e P l b) i c → Stands (take_goal u s g e P l b) j d
    → (path_of c ≡ plain Dleft ∷ b.path) × (path_of d ≡ plain Dright ∷ b.path)
unfolding take_goal Stands Single path_of
goal_parts u s (atom p ts) e P l b i j c d n h k =
    absurd (single_one (try_from s _ (entries P) 1 b) i j c d (try_from_single s _ (entries P) 1 b) n h k)
goal_parts u s truth e P l b i j c d n h k =
    absurd (single_one (proceed s b.goals (plain Dtrue ∷ b.path)) i j c d (proceed_single s b.goals (plain Dtrue ∷ b.path)) n h k)
goal_parts u s (and g f) e P l b i j c d n h k = absurd (single_one (_ ∷ []) i j c d tt n h k)
goal_parts u s (or g f) e P l b i zero c d n h k = absurd (omega arith)
goal_parts u s (or g f) e P l b zero (suc zero) c d n h k = (ap path_of (sym h), ap path_of (sym k))
goal_parts u s (or g f) e P l b (suc i) (suc zero) c d n h k = absurd (omega arith)
goal_parts u s (or g f) e P l b i (suc (suc j)) c d n h k = absurd k
goal_parts u s (implies q g) e P l b i j c d n h k = absurd (single_one (_ ∷ []) i j c d tt n h k)
goal_parts u s (exists v g) e P l b i j c d n h k = absurd (single_one (_ ∷ []) i j c d tt n h k)
goal_parts u s (forall v g) e P l b i j c d n h k = absurd (single_one (_ ∷ []) i j c d tt n h k)

-- The lines of the two sides of a disjunction differ.
left_right : bare {A = Leaf} (plain Dleft) ≡ bare {A = Leaf} (plain Dright) → ⊥
unfolding bare
left_right e = let z : ◌≡◌ {A = ℕ} 0 1 = cc in omega arith

-- The lines of two places differ.
other_place : (k j : ℕ) (xs ys : List (Term Leaf)) → suc k ≤ j → bare (Dclause k xs) ≡ bare (Dclause j ys) → ⊥
unfolding bare
other_place k j xs ys l e = let z : k ≡ j = cc in omega arith

-- Paths that part at an act write lines that differ there.
parts : (p q : Script) (u : ℕ) (c : Configuration) (i j : ℕ) (x y d e : Configuration) → i < j → Stands (acts u c) i x
    → Stands (acts u c) j y
    → LeadsTo p (suc u) x d → LeadsTo q (suc u) y e → Finished e → Apart (path_of d) (path_of e)
unfolding acts step Stands
parts p q u (take s g b) i j x y d e n h k v w f =
    let z = goal_parts u s g.goal g.environment g.program g.level b i j x y n h k in
    let r = leads_grown p (suc u) x d v in
    let t = leads_grown q (suc u) y e w in
    record {
      end = b.path;
      left = plain Dleft;
      right = plain Dright;
      lefts = r.0;
      rights = t.0;
      first = r.1 ∙ ap (λ (ls : List (Line Leaf)). r.0 ++ ls) z.0;
      second = t.1 ∙ ap (λ (ls : List (Line Leaf)). t.0 ++ ls) z.1;
      differ = left_right;
    }
parts p q u (try s a m ms k b) i j x y d e n h l v w f =
    let same = eqb a.predicate m.member.predicate in
    let xs = fresh_variables m.member.prefix s.next in
    let z =
    two_lists (cond same (try_member s a m k b) []) (try_from s a ms (suc k) b) i j x y (tried_single same s a m k b)
    (try_from_single s a ms (suc k) b) n h l in
    let r =
    grown_on (Dclause k xs ∷ b.path) x d
    (stands_all (Grown (Dclause k xs ∷ b.path)) (cond same (try_member s a m k b) []) 0 x (tried_grown same s a m k b) z.0)
    (leads_grown p (suc u) x d v) in
    let t = stands_all (Trying s a (suc k) b) (try_from s a ms (suc k) b) 0 y (try_from_trying s a ms (suc k) b) z.1 in
    let o = try_placed q (suc u) s a t.0 t.1.0 (suc k) b e f (subst (λ (c : Configuration). LeadsTo q (suc u) c e) t.1.1 w) in
    record {
      end = b.path;
      left = Dclause k xs;
      right = Dclause o.0 o.1.0;
      lefts = r.0;
      rights = o.1.1.1.0;
      first = r.1;
      second = o.1.1.1.1;
      differ = other_place k o.0 xs o.1.0 o.1.1.0;
    }
parts p q u (match m b) i j x y d e n h k v w f = absurd (single_one (settle (match_step m) b) i j x y (settle_single (match_step m) b) n h k)
parts p q u (done s ls) i j x y d e n h k v w f = absurd h

-- So do two paths of which one is before the other, where they part.
before_apart : (p q : Script) (u : ℕ) (c d e : Configuration) → Finished e → Before p q → LeadsTo p u c d → LeadsTo q u c e
    → Apart (path_of d) (path_of e)
unfolding Before LeadsTo
before_apart [] q u c d e f b h k = absurd b
before_apart (i ∷ p) [] u c d e f b h k = absurd b
before_apart (i ∷ p) (j ∷ q) u c d e f (inl l) h k = parts p q u c i j h.0 k.0 d e l h.1 k.1 h.2 k.2 f
before_apart (i ∷ p) (j ∷ q) u c d e f (inr b) h k =
    before_apart p q (suc u) h.0 d e f b.1 h.2
    (subst (λ (z : Configuration). LeadsTo q (suc u) z e)
    (stands_once (acts u c) i k.0 h.0 (subst (λ (n : ℕ). Stands (acts u c) n k.0) (sym b.0) k.1) h.1) k.2)

-- Lines that differ at a place are not the same without their terms.
apart_not : (ls ks : List (Line Leaf)) → Apart ls ks → map bare ls ≡ map bare ks → ⊥
apart_not ls ks a e =
    a.differ (same_at_lem (map bare a.lefts) (map bare a.rights) (bare a.left) (bare a.right) (map bare a.end)
    (sym (map_append bare a.lefts (a.left ∷ a.end)) ∙ ap (map bare) (sym a.first) ∙ e ∙ ap (map bare) a.second
    ∙ map_append bare a.rights (a.right ∷ a.end)))

-- The lines without their terms tell the script.
pub lines_tell : (p q : Script) (u : ℕ) (c : Configuration) (s t : Store) (ls ks : List (Line Leaf)) → LeadsTo p u c (done s ls)
    → LeadsTo q u c (done t ks) → map bare ls ≡ map bare ks → p ≡ q
unfolding path_of Finished
lines_tell p q u c s t ls ks h k e = go (leads_either p q u c (done s ls) (done t ks) tt tt h k)
  where
    go : (Before p q) ⊎ ((p ≡ q) ⊎ Before q p) → p ≡ q
    go (inl b) = absurd (apart_not ls ks (before_apart p q u c (done s ls) (done t ks) tt b h k) e)
    go (inr (inl b)) = b
    go (inr (inr b)) = absurd (apart_not ks ls (before_apart q p u c (done t ks) (done s ls) tt b k h) (sym e))
