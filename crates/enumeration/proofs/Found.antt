-- What is found from a state: by induction over the acts, and then over the number wanted.
use Prim.Native.Nat.{ℕ, zero, suc}
use mathlib.Core.Path.{◌≡◌, refl, sym, ◌∙◌, ap, subst}
use mathlib.Core.List.{List, [], ◌∷◌, ◌++◌, map, append_assoc, append-nil}
use mathlib.Core.Logic.{◌⊎◌, inl, inr}
use Rattle.terms.specs.Lists.{All, Mem, here, there}
use Rattle.terms.proofs.Lists.{all_weaken, map_append, Any, any_left, any_right}
use Rattle.formulas.specs.Formulas.{Goal, Clause}
use Rattle.formulas.specs.Rules.{Rules}
use Rattle.sequents.specs.Sequents.{Line}
use Rattle.unification.specs.Store.{Leaf, Store}
use Rattle.search.specs.Configurations.{Configuration, take, try, match, done}
use Rattle.search.specs.Search.{advance, verdict_of}
use Rattle.enumeration.specs.Enumeration.{Proof, proof_of, End, enough, exhausted, units_spent, Enumeration, alternatives, reaches}
use Rattle.enumeration.specs.Enumeration.{next_proof, go_on, enumerate_from}
use Rattle.enumeration.specs.Scripts.{Script, acts, Stands, LeadsTo, SucceedsWith, Succeeds, Before, Ascending, root}
use Rattle.enumeration.specs.Promises.{Paired}
use Rattle.enumeration.proofs.Numbers.{Rising}
use Rattle.enumeration.proofs.Scripts.{before_longer, Finished}
use Rattle.enumeration.proofs.Paths.{LeadsBy, Node, node, script, configuration, Reached, Ordered, children, children_are}
use Rattle.enumeration.proofs.Paths.{children_any, Standing, choices, standing_act, goes_on, ends_there}

-- The proof stands where the script leads, by acts with rising numbers below its units.
abbrev pub Arrives : Rules Clause → Goal → Script → Proof → Type 0
Arrives cs g is w = (ns : List ℕ) × LeadsBy ns is (root cs g) (done w.store w.path) × Rising 0 ns w.units

-- It ended before all alternatives were tried.
unfoldable pub Open : End → Type 0
Open enough = Unit {0}
Open (exhausted n) = ⊥
Open units_spent = Unit {0}

-- The script goes on from the node's.
abbrev pub From : Script → Node → Type 0
From q p = (r : Script) × (script p ++ r ≡ q)

-- What is told of a state: the scripts of the proofs found, and that nothing is left out.
pub record Told (cs : Rules Clause) (g : Goal) (ps : List Node) (r : Enumeration) : Type 0 where
  pub scripts : List Script
  pub arrive : Paired (Arrives cs g) scripts r.found
  pub ascend : Ascending scripts
  pub inside : All (λ q. Any (From q) ps) scripts
  pub covers : (q : Script) → Succeeds cs g q → Any (From q) ps → Mem q scripts ⊎ (Open r.end × All (λ p. Before p q) scripts)

-- Where nothing is left nothing is found, and nothing is left out.
told_none : (cs : Rules Clause) (g : Goal) (u : ℕ) → Told cs g [] (record { found = []; end = exhausted u })
unfolding Paired Ascending
told_none cs g u = record { scripts = []; arrive = tt; ascend = tt; inside = tt; covers = λ q s a. absurd a }

-- Where it ends before that, nothing is found.
told_open : (cs : Rules Clause) (g : Goal) (ps : List Node) (e : End) → Open e → Told cs g ps (record { found = []; end = e })
unfolding Paired Ascending
told_open cs g ps e o = record { scripts = []; arrive = tt; ascend = tt; inside = tt; covers = λ q s a. inr (o, tt) }

-- What is before all nodes is before all that goes on from one.
before_any : (is q : Script) (ps : List Node) → All (λ p. Before is (script p)) ps → Any (From q) ps → Before is q
before_any is q [] h a = absurd a
before_any is q (p ∷ ps) h (inl a) =
    subst (λ (x : Script). Before x q) (append-nil is) (subst (Before (is ++ [])) a.1 (before_longer is (script p) [] a.0 h.0))
before_any is q (p ∷ ps) h (inr a) = before_any is q ps h.1 a

-- A proof that is found is the path of its node, and it is before all others.
told_found : (cs : Rules Clause) (g : Goal) (u : ℕ) (is : Script) (ns : List ℕ) (s : Store) (ls : List (Line Leaf)) (ps : List Node)
    (r : Enumeration) → Standing cs g u (node is ns (done s ls) ∷ ps)
    → Told cs g ps r → Told cs g (node is ns (done s ls) ∷ ps) (record { found = proof_of u s ls ∷ r.found; end = r.end })
unfolding Paired Ascending Reached Ordered script acts Stands SucceedsWith
told_found cs g u is ns s ls ps r h t = record {
  scripts = is ∷ t.scripts;
  arrive = ((ns, h.reached.0.0, h.reached.0.1), t.arrive);
  ascend =
      (all_weaken (λ q. Any (From q) ps) (Before is) (λ q a. before_any is q ps h.ordered.0 a) t.scripts t.inside, t.ascend);
  inside = (
    inl ([], append-nil is),
    all_weaken (λ q. Any (From q) ps) (λ q. Any (From q) (node is ns (done s ls) ∷ ps)) (λ q a. inr a)
        t.scripts t.inside,
  );
  covers = covered;
}
  where
    here_only : (q : Script) → Succeeds cs g q → (x : Script) → is ++ x ≡ q → Mem q (is ∷ t.scripts)
    here_only q k [] e = subst (λ (y : Script). Mem y (is ∷ t.scripts)) (sym (append-nil is) ∙ e) here
    here_only q k (i ∷ x) e =
        absurd (goes_on cs g u is ns (done s ls) i x (done k.0 k.1.0) h.reached.0
        (subst (λ (y : Script). LeadsTo y 0 (root cs g) (done k.0 k.1.0)) (sym e) k.1.1)).1

    later : (q : Script) → Before is q → Mem q t.scripts ⊎ (Open r.end × All (λ p. Before p q) t.scripts)
        → Mem q (is ∷ t.scripts) ⊎ (Open r.end × All (λ p. Before p q) (is ∷ t.scripts))
    later q b (inl m) = inl (there m)
    later q b (inr a) = inr (a.0, (b, a.1))

    covered : (q : Script) → Succeeds cs g q → Any (From q) (node is ns (done s ls) ∷ ps)
        → Mem q (is ∷ t.scripts) ⊎ (Open r.end × All (λ p. Before p q) (is ∷ t.scripts))
    covered q k (inl a) = inl (here_only q k a.0 a.1)
    covered q k (inr a) = later q (before_any is q ps h.ordered.0 a) (t.covers q k a)

-- What goes on from a child goes on from the node.
from_child : (q : Script) (is : Script) (ns ms : List ℕ) (c : Configuration) (f : ℕ → Script) (ds : List Configuration) (ps : List Node)
    → ((i : ℕ) → (x : Script) × (is ++ x ≡ f i))
    → Any (From q) (children f ms ds ++ ps) → Any (From q) (node is ns c ∷ ps)
unfolding children script
from_child q is ns ms c f [] ps h a = inr a
from_child q is ns ms c f (d ∷ ds) ps h (inl a) =
    inl ((h 0).0 ++ a.0, sym (append_assoc is (h 0).0 a.0) ∙ ap (λ (x : Script). x ++ a.0) (h 0).1 ∙ a.1)
from_child q is ns ms c f (d ∷ ds) ps h (inr a) = from_child q is ns ms c (λ i. f (suc i)) ds ps (λ i. h (suc i)) a

-- An act puts its children in the place of a node, and what goes on from the node goes on from one of them.
told_act : (cs : Rules Clause) (g : Goal) (u : ℕ) (is : Script) (ns : List ℕ) (c : Configuration) (ps : List Node) (r : Enumeration)
    → (Finished c → ⊥) → Standing cs g u (node is ns c ∷ ps)
    → Told cs g (children (choices is) (ns ++ (u ∷ [])) (acts u c) ++ ps) r → Told cs g (node is ns c ∷ ps) r
unfolding SucceedsWith Finished script
told_act cs g u is ns c ps r f h t = record {
  scripts = t.scripts;
  arrive = t.arrive;
  ascend = t.ascend;
  inside = all_weaken (λ q. Any (From q) (children (choices is) (ns ++ (u ∷ [])) (acts u c) ++ ps)) (λ q. Any (From q) (node is ns c ∷ ps))
      (λ q a. from_child q is ns (ns ++ (u ∷ [])) c (choices is) (acts u c) ps (λ i. (i ∷ [], refl)) a) t.scripts t.inside;
  covers = λ q k a. t.covers q k (covered q k a);
}
  where
    child : (q : Script) → Succeeds cs g q → (x : Script) → is ++ x ≡ q
        → Any (From q) (children (choices is) (ns ++ (u ∷ [])) (acts u c) ++ ps)
    child q k [] e =
        let d = done k.0 k.1.0 in
        absurd (f (ends_there cs g u is ns c d h.reached.0 tt
        (subst (λ (y : Script). LeadsTo y 0 (root cs g) d) (sym e ∙ append-nil is) k.1.1)))
    child q k (i ∷ x) e =
        let d = done k.0 k.1.0 in
        let z = goes_on cs g u is ns c i x d h.reached.0 (subst (λ (y : Script). LeadsTo y 0 (root cs g) d) (sym e) k.1.1) in
        any_left (From q) (children (choices is) (ns ++ (u ∷ [])) (acts u c)) ps
        (children_any (From q) (choices is) (ns ++ (u ∷ [])) (acts u c) i z.0 z.1 (x, append_assoc is (i ∷ []) x ∙ e))

    covered : (q : Script) → Succeeds cs g q → Any (From q) (node is ns c ∷ ps)
        → Any (From q) (children (choices is) (ns ++ (u ∷ [])) (acts u c) ++ ps)
    covered q k (inl a) = child q k a.0 a.1
    covered q k (inr a) = any_right (From q) (children (choices is) (ns ++ (u ∷ [])) (acts u c)) ps a

-- These children are the state after the act.
act_state : (is : Script) (ns : List ℕ) (u : ℕ) (c : Configuration) (ps : List Node)
    → map configuration (children (choices is) (ns ++ (u ∷ [])) (acts u c) ++ ps) ≡ acts u c ++ map configuration ps
act_state is ns u c ps =
    map_append configuration (children (choices is) (ns ++ (u ∷ [])) (acts u c)) ps
    ∙ ap (λ (x : List Configuration). x ++ map configuration ps) (children_are (choices is) (ns ++ (u ∷ [])) (acts u c))

-- So what is told of the state after an act is told of the state before it.
next_act : (cs : Rules Clause) (g : Goal) (u : ℕ) (is : Script) (ns : List ℕ) (c : Configuration) (ps : List Node)
    (next : List Configuration → Enumeration)
    → (Finished c → ⊥) → Standing cs g u (node is ns c ∷ ps) → ((qs : List Node) → Standing cs g (suc u) qs
    → Told cs g qs (next (map configuration qs)))
    → Told cs g (node is ns c ∷ ps) (next (acts u c ++ map configuration ps))
next_act cs g u is ns c ps next due h ih =
    let qs = children (choices is) (ns ++ (u ∷ [])) (acts u c) ++ ps in
    told_act cs g u is ns c ps (next (acts u c ++ map configuration ps)) due h
    (subst (λ (x : List Configuration). Told cs g qs (next x)) (act_state is ns u c ps) (ih qs (standing_act cs g u is ns c ps h)))

-- So it is up to the next proof, if it is so of what follows.
next_told : (cs : Rules Clause) (g : Goal) (rest : ℕ → ℕ → List Configuration → Enumeration)
    → ((f u : ℕ) (ps : List Node) → Standing cs g u ps → Told cs g ps (rest f u (map configuration ps)))
    → (f u : ℕ) (ps : List Node) → Standing cs g u ps → Told cs g ps (go_on rest (next_proof f u (map configuration ps)))
unfolding next_proof reaches alternatives verdict_of advance go_on configuration acts Finished Open Ordered
next_told cs g rest k zero u [] h = told_none cs g u
next_told cs g rest k zero u (node is ns (take s q b) ∷ ps) h = told_open cs g _ units_spent tt
next_told cs g rest k zero u (node is ns (try s a m ms j b) ∷ ps) h = told_open cs g _ units_spent tt
next_told cs g rest k zero u (node is ns (match m b) ∷ ps) h = told_open cs g _ units_spent tt
next_told cs g rest k zero u (node is ns (done s ls) ∷ ps) h =
    told_found cs g u is ns s ls ps (rest zero u (map configuration ps)) h
    (k zero u ps (record { reached = h.reached.1; ordered = h.ordered.1 }))
next_told cs g rest k (suc f) u [] h = told_none cs g u
next_told cs g rest k (suc f) u (node is ns (take s q b) ∷ ps) h =
    next_act cs g u is ns (take s q b) ps (λ ds. go_on rest (next_proof f (suc u) ds)) (λ z. z) h (next_told cs g rest k f (suc u))
next_told cs g rest k (suc f) u (node is ns (try s a m ms j b) ∷ ps) h =
    next_act cs g u is ns (try s a m ms j b) ps (λ ds. go_on rest (next_proof f (suc u) ds)) (λ z. z) h (next_told cs g rest k f (suc u))
next_told cs g rest k (suc f) u (node is ns (match m b) ∷ ps) h =
    next_act cs g u is ns (match m b) ps (λ ds. go_on rest (next_proof f (suc u) ds)) (λ z. z) h (next_told cs g rest k f (suc u))
next_told cs g rest k (suc f) u (node is ns (done s ls) ∷ ps) h =
    told_found cs g u is ns s ls ps (rest (suc f) u (map configuration ps)) h
    (k (suc f) u ps (record { reached = h.reached.1; ordered = h.ordered.1 }))

-- So it is for as many proofs as are wanted.
pub enumerate_told : (cs : Rules Clause) (g : Goal) (wanted f u : ℕ) (ps : List Node) → Standing cs g u ps
    → Told cs g ps (enumerate_from wanted f u (map configuration ps))
unfolding enumerate_from Open
enumerate_told cs g zero f u ps h = told_open cs g ps enough tt
enumerate_told cs g (suc wanted) f u ps h =
    next_told cs g (λ e v ds. enumerate_from wanted e v ds) (λ e v qs k. enumerate_told cs g wanted e v qs k) f u ps h
