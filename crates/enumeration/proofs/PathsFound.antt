-- The scripts of what is found: in walk order, each once, none left out before the end.
use Prim.Native.Nat.{ℕ}
use mathlib.Core.Path.{◌≡◌, refl, sym, ◌∙◌, subst}
use mathlib.Core.List.{List, [], ◌∷◌, map}
use mathlib.Core.Logic.{◌⊎◌, inl, inr}
use native.Mathlib.Omega.{arith}
use Rattle.terms.specs.Lists.{All, Mem}
use Rattle.terms.proofs.Lists.{all_mem}
use Rattle.formulas.specs.Formulas.{Goal, Clause}
use Rattle.formulas.specs.Rules.{Rules}
use Rattle.search.specs.Configurations.{done}
use Rattle.search.specs.Search.{start}
use Rattle.enumeration.specs.Enumeration.{Proof, exhausted, Enumeration, enumerate}
use Rattle.enumeration.specs.Renumbering.{renumbered, re_path}
use Rattle.enumeration.specs.Scripts.{Script, SucceedsWith, Before, Ascending, bare, root}
use Rattle.enumeration.specs.Promises.{Belongs, Paired, Different, AllPaths, AllOrdered}
use Rattle.enumeration.proofs.Renumbering.{re}
use Rattle.enumeration.proofs.Numbers.{Rising}
use Rattle.enumeration.proofs.Scripts.{before_never, before_onward, before_not, Finished, leads_either, leads_once, bare_lines}
use Rattle.enumeration.proofs.Lines.{lines_tell}
use Rattle.enumeration.proofs.Paths.{LeadsBy, node, script, configuration, Reached, Ordered, own}
use Rattle.enumeration.proofs.Found.{Arrives, Open, Told, enumerate_told}

-- A weaker relation keeps the correspondence.
pub paired_weaken : {A B : Type 0} (R S : A → B → Type 0) → ((a : A) (b : B) → R a b → S a b) → (x : List A) (y : List B) → Paired R x y
    → Paired S x y
unfolding Paired
paired_weaken R S h [] [] k = tt
paired_weaken R S h [] (b ∷ y) k = k
paired_weaken R S h (a ∷ x) [] k = k
paired_weaken R S h (a ∷ x) (b ∷ y) k = (h a b k.0, paired_weaken R S h x y k.1)

-- Where the walk arrives the script arrives by its own acts.
belongs : (cs : Rules Clause) (g : Goal) (is : Script) (w : Proof) → Arrives cs g is w → Belongs cs g is w
unfolding Reached SucceedsWith re re_path
belongs cs g is w h =
    let o = own cs g w.units is h.0 (done w.store w.path) (h.1, h.2) in
    record { number = o.number; differs = o.differs; succeeds = o.leads }

-- A proof has other lines than those whose scripts are after its own, since lines tell the script.
different : (cs : Rules Clause) (g : Goal) (p : Script) (w : Proof) (ps : List Script) (ws : List Proof) → Belongs cs g p w
    → All (Before p) ps → Paired (Belongs cs g) ps ws
    → All (λ v. map bare w.path ≡ map bare v.path → ⊥) ws
unfolding Paired SucceedsWith re_path
different cs g p w [] [] b h k = tt
different cs g p w [] (v ∷ ws) b h k = absurd k
different cs g p w (q ∷ ps) [] b h k = tt
different cs g p w (q ∷ ps) (v ∷ ws) b h k = (
  (λ e.
      let c = k.0 in
      let same : p ≡ q =
      lines_tell p q 0 (root cs g) _ _ (re_path b.number w.path) (re_path c.number v.path) b.succeeds c.succeeds
      (bare_lines (renumbered b.number) w.path ∙ e ∙ sym (bare_lines (renumbered c.number) v.path)) in
      before_never q (subst (λ (x : Script). Before x q) same h.0)),
  different cs g p w ps ws b h.1 k.1,
)

-- So no two proofs whose scripts ascend have the same lines.
all_different : (cs : Rules Clause) (g : Goal) (ps : List Script) (ws : List Proof) → Ascending ps → Paired (Belongs cs g) ps ws
    → Different ws
unfolding Paired Ascending Different
all_different cs g [] [] h k = tt
all_different cs g [] (w ∷ ws) h k = absurd k
all_different cs g (p ∷ ps) [] h k = absurd k
all_different cs g (p ∷ ps) (w ∷ ws) h k = (different cs g p w ps ws k.0 h.0 k.1, all_different cs g ps ws h.1 k.1)

-- The state at the start has one node.
pub found_at_start : (cs : Rules Clause) (g : Goal) (wanted budget : ℕ)
    → Told cs g (node [] [] (root cs g) ∷ []) (enumerate wanted budget cs g)
unfolding enumerate start root configuration Reached LeadsBy Rising Ordered
found_at_start cs g wanted budget =
    enumerate_told cs g wanted budget 0 (node [] [] (root cs g) ∷ []) (record { reached = ((refl, omega arith), tt); ordered = (tt, tt) })

-- All that is promised of the paths follows from what is told of the state at the start.
pub paths_found : AllPaths
unfolding script Open
paths_found cs g wanted budget = record {
  scripts = t.scripts;
  belong = paired_weaken (Arrives cs g) (Belongs cs g) (belongs cs g) t.scripts r.found t.arrive;
  ascend = t.ascend;
  differ =
      all_different cs g t.scripts r.found t.ascend
      (paired_weaken (Arrives cs g) (Belongs cs g) (belongs cs g) t.scripts r.found t.arrive);
  below = λ p q m s b. before (t.covers q s (inl (q, refl))) p m b;
  initial = λ q s. either (t.covers q s (inl (q, refl)));
  all = λ n e q s. closed n e (t.covers q s (inl (q, refl)));
}
  where
    r : Enumeration
    r = enumerate wanted budget cs g

    t : Told cs g (node [] [] (root cs g) ∷ []) (enumerate wanted budget cs g)
    t = found_at_start cs g wanted budget

    before : {q : Script} → Mem q t.scripts ⊎ (Open r.end × All (λ p. Before p q) t.scripts) → (p : Script) → Mem p t.scripts
        → Before q p → Mem q t.scripts
    before (inl m) p k b = m
    before {q = q} (inr a) p k b = absurd (before_not p q (all_mem (λ x. Before x q) t.scripts p a.1 k) b)

    either : {q : Script} → Mem q t.scripts ⊎ (Open r.end × All (λ p. Before p q) t.scripts)
        → Mem q t.scripts ⊎ All (λ p. Before p q) t.scripts
    either (inl m) = inl m
    either (inr a) = inr a.1

    closed : {q : Script} (n : ℕ) → r.end ≡ exhausted n → Mem q t.scripts ⊎ (Open r.end × All (λ p. Before p q) t.scripts)
        → Mem q t.scripts
    closed n e (inl m) = m
    closed n e (inr a) = absurd (subst Open e a.0)

-- Walk order is an order of the paths that succeed, and their lines tell them apart.
pub walk_order : AllOrdered
unfolding SucceedsWith Finished
walk_order cs g = record {
  never = before_never;
  onward = before_onward;
  either = λ p q h k. leads_either p q 0 (root cs g) (done h.0 h.1.0) (done k.0 k.1.0) tt tt h.1.1 k.1.1;
  once = λ p s t ls ks h k. let e = leads_once p 0 (root cs g) (done s ls) (done t ks) h k in (cc, cc);
  lines = λ p q s t ls ks h k e. lines_tell p q 0 (root cs g) s t ls ks h k e;
}
