-- The walk with, for each configuration of its state, the script that leads there and the numbers of the acts on the way.
use Prim.Native.Nat.{ℕ, zero, suc, ◌+◌, ◌≤◌, ◌<◌}
use mathlib.Core.Path.{◌≡◌, refl, sym, ◌∙◌, ap, subst, subst₂}
use mathlib.Core.List.{List, [], ◌∷◌, ◌++◌, map, append-nil}
use mathlib.Core.Logic.{inl, inr}
use native.Mathlib.Omega.{arith}
use lib.ListN.{length}
use Rattle.terms.specs.Lists.{All}
use Rattle.terms.proofs.Lists.{all_append, all_weaken, Any}
use Rattle.formulas.specs.Formulas.{Goal, Clause}
use Rattle.formulas.specs.Rules.{Rules}
use Rattle.search.specs.Configurations.{Configuration, take, try, match, done}
use Rattle.enumeration.specs.Scripts.{Script, acts, Stands, LeadsTo, Before, root}
use Rattle.enumeration.proofs.Renumbering.{re, acts_re, root_re}
use Rattle.enumeration.proofs.Numbers.{Rising, rising_more, rising_next, Counted, counted_next, index, index_differs, counted}
use Rattle.enumeration.proofs.Scripts.{before_longer, before_choices, stands_map, stands_unmap, stands_all, leads_once, leads_split}
use Rattle.enumeration.proofs.Scripts.{Finished}

-- The script leads from c to d, its acts having these numbers.
unfoldable pub LeadsBy : List ℕ → Script → Configuration → Configuration → Type 0
LeadsBy [] [] c d = c ≡ d
LeadsBy [] (i ∷ is) c d = ⊥
LeadsBy (n ∷ ns) [] c d = ⊥
LeadsBy (n ∷ ns) (i ∷ is) c d = (e : Configuration) × Stands (acts n c) i e × LeadsBy ns is e d

-- A script with one act more leads to one of the configurations that the act gives.
pub leads_next : (ns : List ℕ) (is : Script) (u i : ℕ) (c d e : Configuration) → LeadsBy ns is c d → Stands (acts u d) i e
    → LeadsBy (ns ++ (u ∷ [])) (is ++ (i ∷ [])) c e
unfolding LeadsBy
leads_next [] [] u i c d e h k = (e, subst (λ (x : Configuration). Stands (acts u x) i e) (sym h) k, refl)
leads_next [] (j ∷ is) u i c d e h k = absurd h
leads_next (n ∷ ns) [] u i c d e h k = absurd h
leads_next (n ∷ ns) (j ∷ is) u i c d e h k = (h.0, h.1, leads_next ns is u i h.0 d e h.2 k)

-- There are as many numbers as choices.
leads_length : (ns : List ℕ) (is : Script) (c d : Configuration) → LeadsBy ns is c d → length ns ≡ length is
unfolding LeadsBy
leads_length [] [] c d h = refl
leads_length [] (j ∷ is) c d h = absurd h
leads_length (n ∷ ns) [] c d h = absurd h
leads_length (n ∷ ns) (j ∷ is) c d h = let z = leads_length ns is h.0 d h.2 in omega arith

-- What acts keep is true where a script leads, if the numbers rise.
pub leads_keep : (P : ℕ → Configuration → Type 0) → ((u : ℕ) (c : Configuration) → P u c → All (P (suc u)) (acts u c))
    → ((u v : ℕ) (c : Configuration) → u ≤ v → P u c → P v c)
    → (ns : List ℕ) (is : Script) (k u : ℕ) (c d : Configuration) → Rising k ns u → LeadsBy ns is c d → P k c → P u d
unfolding LeadsBy Rising
leads_keep P act more [] [] k u c d r h p = more k u d r (subst (P k) h p)
leads_keep P act more [] (i ∷ is) k u c d r h p = absurd h
leads_keep P act more (n ∷ ns) [] k u c d r h p = absurd h
leads_keep P act more (n ∷ ns) (i ∷ is) k u c d r h p =
    leads_keep P act more ns is (suc n) u h.0 d r.1 h.2
    (stands_all (P (suc n)) (acts n c) i h.0 (act n c (more k n c r.0 p)) h.1)

-- With constants renumbered so that the numbers count from k on, the acts are the script's own.
pub leads_own : (κ : ℕ → ℕ) → ((c d : ℕ) → κ c ≡ κ d → c ≡ d) → (ns : List ℕ) (is : Script) (k : ℕ) (c d : Configuration) → Counted κ k ns
    → LeadsBy ns is c d → LeadsTo is k (re κ c) (re κ d)
unfolding LeadsBy LeadsTo Counted
leads_own κ differs [] [] k c d n h = ap (re κ) h
leads_own κ differs [] (i ∷ is) k c d n h = absurd h
leads_own κ differs (m ∷ ns) [] k c d n h = absurd h
leads_own κ differs (m ∷ ns) (i ∷ is) k c d n h = (
  re κ h.0,
  subst (λ (l : List Configuration). Stands l i (re κ h.0)) (acts_re κ differs m c ∙ ap (λ (u : ℕ). acts u (re κ c)) n.0)
      (stands_map (re κ) (acts m c) i h.0 h.1),
  leads_own κ differs ns is (suc k) h.0 d n.1 h.2,
)

-- A configuration of the state, with its script and the numbers of the acts on the way.
pub data Node : Type 0 where
  node : Script → List ℕ → Configuration → Node

unfoldable pub script : Node → Script
script (node is ns c) = is

unfoldable pub configuration : Node → Configuration
configuration (node is ns c) = c

-- It stands where its script leads, u acts having been done in all.
unfoldable pub Reached : Rules Clause → Goal → ℕ → Node → Type 0
Reached cs g u (node is ns c) = LeadsBy ns is (root cs g) c × Rising 0 ns u

-- The nodes stand in walk order.
unfoldable pub Ordered : List Node → Type 0
Ordered [] = Unit {0}
Ordered (p ∷ ps) = All (λ q. Before (script p) (script q)) ps × Ordered ps

-- What an act gives, with the scripts of the choices.
unfoldable pub children : (ℕ → Script) → List ℕ → List Configuration → List Node
children f ns [] = []
children f ns (c ∷ cs) = node (f 0) ns c ∷ children (λ i. f (suc i)) ns cs

-- The configurations of the children are those that the act gives.
pub children_are : (f : ℕ → Script) (ns : List ℕ) (cs : List Configuration) → map configuration (children f ns cs) ≡ cs
unfolding children configuration
children_are f ns [] = refl
children_are f ns (c ∷ cs) = ap (c ∷◌) (children_are (λ i. f (suc i)) ns cs)

-- What holds of every choice holds of every child,
pub children_all : (P : Node → Type 0) (f : ℕ → Script) (ns : List ℕ) (cs : List Configuration)
    → ((i : ℕ) (e : Configuration) → Stands cs i e → P (node (f i) ns e)) → All P (children f ns cs)
unfolding children Stands
children_all P f ns [] h = tt
children_all P f ns (c ∷ cs) h = (h 0 c refl, children_all P (λ i. f (suc i)) ns cs (λ i e k. h (suc i) e k))

-- and what holds of one choice holds of one child.
pub children_any : (P : Node → Type 0) (f : ℕ → Script) (ns : List ℕ) (cs : List Configuration) (i : ℕ) (e : Configuration) → Stands cs i e
    → P (node (f i) ns e) → Any P (children f ns cs)
unfolding children Stands
children_any P f ns [] i e h k = absurd h
children_any P f ns (c ∷ cs) zero e h k = inl (subst (λ (x : Configuration). P (node (f 0) ns x)) (sym h) k)
children_any P f ns (c ∷ cs) (suc i) e h k = inr (children_any P (λ j. f (suc j)) ns cs i e h k)

-- Children stand in walk order,
children_ordered : (f : ℕ → Script) (ns : List ℕ) (cs : List Configuration) → ((i j : ℕ) → i < j → Before (f i) (f j))
    → Ordered (children f ns cs)
unfolding children Ordered script
children_ordered f ns [] h = tt
children_ordered f ns (c ∷ cs) h = (
  children_all (λ q. Before (f 0) (script q)) (λ i. f (suc i)) ns cs (λ i e k. h 0 (suc i) (omega arith)),
  children_ordered (λ i. f (suc i)) ns cs (λ i j l. h (suc i) (suc j) (omega arith)),
)

-- and so do they before nodes that are after them.
ordered_append : (ps qs : List Node) → Ordered ps → Ordered qs → All (λ p. All (λ q. Before (script p) (script q)) qs) ps
    → Ordered (ps ++ qs)
unfolding Ordered
ordered_append [] qs h k a = k
ordered_append (p ∷ ps) qs h k a =
    (all_append (λ q. Before (script p) (script q)) ps qs h.0 a.0, ordered_append ps qs h.1 k a.1)

-- The nodes of a state, u acts having been done.
pub record Standing (cs : Rules Clause) (g : Goal) (u : ℕ) (ps : List Node) : Type 0 where
  pub reached : All (Reached cs g u) ps
  pub ordered : Ordered ps

-- The script that goes on with choice i.
abbrev pub choices : Script → ℕ → Script
choices is i = is ++ (i ∷ [])

-- An act keeps it so.
pub standing_act : (cs : Rules Clause) (g : Goal) (u : ℕ) (is : Script) (ns : List ℕ) (c : Configuration) (ps : List Node)
    → Standing cs g u (node is ns c ∷ ps)
    → Standing cs g (suc u) (children (choices is) (ns ++ (u ∷ [])) (acts u c) ++ ps)
unfolding Reached Ordered script
standing_act cs g u is ns c ps h =
    let r = h.reached.0 in
    record {
      reached = all_append (Reached cs g (suc u)) (children (choices is) (ns ++ (u ∷ [])) (acts u c)) ps
          (children_all (Reached cs g (suc u)) (choices is) (ns ++ (u ∷ [])) (acts u c)
          (λ i e k. (leads_next ns is u i (root cs g) c e r.0 k, rising_next ns 0 u r.1)))
          (all_weaken (Reached cs g u) (Reached cs g (suc u)) later ps h.reached.1);
      ordered = ordered_append (children (choices is) (ns ++ (u ∷ [])) (acts u c)) ps
          (children_ordered (choices is) (ns ++ (u ∷ [])) (acts u c) (before_choices is))
          h.ordered.1
          (children_all (λ p. All (λ q. Before (script p) (script q)) ps) (choices is) (ns ++ (u ∷ [])) (acts u c)
          (λ i e k. all_weaken (λ q. Before is (script q)) (λ q. Before (is ++ (i ∷ [])) (script q)) (λ q b. longer i q b) ps
          h.ordered.0));
    }
  where
    later : (p : Node) → Reached cs g u p → Reached cs g (suc u) p
    later (node js ms d) k = (k.0, rising_more ms 0 u k.1)

    longer : (i : ℕ) (q : Node) → Before is (script q) → Before (is ++ (i ∷ [])) (script q)
    longer i q b = subst (Before (is ++ (i ∷ []))) (append-nil (script q)) (before_longer is (script q) (i ∷ []) [] b)

-- The node as a path of its own: renumbered, so that the next act has the number of acts on the way.
pub record Own (cs : Rules Clause) (g : Goal) (u : ℕ) (is : Script) (c : Configuration) : Type 0 where
  pub number : ℕ → ℕ
  pub differs : (c d : ℕ) → number c ≡ number d → c ≡ d
  pub leads : LeadsTo is 0 (root cs g) (re number c)
  pub next : number u ≡ length is

-- Rising numbers are counted by their places, the number u of the act that is due included.
pub own : (cs : Rules Clause) (g : Goal) (u : ℕ) (is : Script) (ns : List ℕ) (c : Configuration) → Reached cs g u (node is ns c)
    → Own cs g u is c
unfolding Reached
own cs g u is ns c h =
    let ms = ns ++ (u ∷ []) in
    let κ = index ms 0 in
    let z = counted_next κ ns 0 u (counted ms 0 0 (suc u) (rising_next ns 0 u h.1)) in
    let n = leads_length ns is (root cs g) c h.0 in
    record {
      number = κ;
      differs = index_differs ms 0;
      leads =
          subst (λ (x : Configuration). LeadsTo is 0 x (re κ c)) (root_re κ cs g)
          (leads_own κ (index_differs ms 0) ns is 0 (root cs g) c z.0 h.0);
      next = (let q = z.1 in omega arith);
    }

-- A script that goes on from the node's goes on with one of the node's children,
pub goes_on : (cs : Rules Clause) (g : Goal) (u : ℕ) (is : Script) (ns : List ℕ) (c : Configuration) (i : ℕ) (r : Script)
    (d : Configuration) → Reached cs g u (node is ns c)
    → LeadsTo (is ++ (i ∷ r)) 0 (root cs g) d → (e : Configuration) × Stands (acts u c) i e
unfolding LeadsTo
goes_on cs g u is ns c i r d h k =
    let o = own cs g u is ns c h in
    let z = leads_split is (i ∷ r) 0 (root cs g) d k in
    let same : z.0 ≡ re o.number c = leads_once is 0 (root cs g) z.0 (re o.number c) z.1 o.leads in
    let w = z.2 in
    let n : 0 + length is ≡ o.number u = (let q = o.next in omega arith) in
    let there : Stands (acts (o.number u) (re o.number c)) i w.0 =
    subst₂ (λ (v : ℕ) (x : Configuration). Stands (acts v x) i w.0) n same w.1 in
    stands_unmap (re o.number) (acts u c) i w.0
    (subst (λ (l : List Configuration). Stands l i w.0) (sym (acts_re o.number o.differs u c)) there)

-- Renumbering does not bring a path to its end.
finished_re : (κ : ℕ → ℕ) (c : Configuration) → Finished (re κ c) → Finished c
unfolding Finished re
finished_re κ (take s g b) h = h
finished_re κ (try s a m ms k b) h = h
finished_re κ (match m b) h = h
finished_re κ (done s ls) h = h

-- and ends there only if no goal is left.
pub ends_there : (cs : Rules Clause) (g : Goal) (u : ℕ) (is : Script) (ns : List ℕ) (c d : Configuration) → Reached cs g u (node is ns c)
    → Finished d → LeadsTo is 0 (root cs g) d → Finished c
ends_there cs g u is ns c d h f k =
    let o = own cs g u is ns c h in
    finished_re o.number c (subst Finished (leads_once is 0 (root cs g) d (re o.number c) k o.leads) f)
