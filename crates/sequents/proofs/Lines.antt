-- Laws of `specs/Lines.antt`: lines one after the other, and that derivations as trees and as lines are one thing.
use Prim.Native.Nat.{ℕ}
use mathlib.Core.Path.{◌≡◌, refl, sym, ◌∙◌, ap, ap₂, subst}
use mathlib.Core.List.{List, [], ◌∷◌, ◌++◌, append-nil, append_assoc}
use mathlib.Core.Option.{Option, none, some}
use mathlib.Core.Logic.{inl, inr}
use Rattle.formulas.specs.Formulas.{Goal, atom, truth, and, or, implies, exists, forall}
use Rattle.sequents.specs.Symbols.{Symbol}
use Rattle.sequents.specs.Sequents.{Environment, Program, Sequent, sequent, assign, body_sequent, Line}
use Rattle.sequents.specs.Derivations.{Derivation, d_true, d_and, d_left, d_right, d_assume, d_some, d_all, d_clause, BodyDerivation}
use Rattle.sequents.specs.Derivations.{b_none, b_some, Derivable, lines, body_lines}
use Rattle.sequents.specs.Lines.{Infers, Leads, Derives}
use Rattle.sequents.specs.Promises.{TreesAreLines}

-- A line that is a step stays one if less is asked of its premises.
pub infers_weaken : (x : Line Symbol) (g : Goal) (e : Environment Symbol) (P : Program Symbol) (i : ℕ) (K L : List (Sequent Symbol)
    → Type 0)
    → ((new : List (Sequent Symbol)) → K new → L new) → Infers x g e P i K → Infers x g e P i L
unfolding Infers
infers_weaken x (atom p us) e P i K L f u = record {
  used = u.used;
  at = u.at;
  terms = u.terms;
  line = u.line;
  instantiates = u.instantiates;
  predicate = u.predicate;
  arguments = u.arguments;
  premises = f _ u.premises;
}
infers_weaken x truth e P i K L f u = (u.0, f _ u.1)
infers_weaken x (and a b) e P i K L f u = (u.0, f _ u.1)
infers_weaken x (or a b) e P i K L f (inl u) = inl (u.0, f _ u.1)
infers_weaken x (or a b) e P i K L f (inr u) = inr (u.0, f _ u.1)
infers_weaken x (implies c g) e P i K L f u = (u.0, f _ u.1)
infers_weaken x (exists v g) e P i K L f u = (u.0, u.1, u.2, f _ u.3)
infers_weaken x (forall v g) e P i K L f u = (u.0, u.1, f _ u.2)

-- Lines that lead from gs to hs, then lines that lead from hs to rest, lead from gs to rest.
pub leads_append : (ls ks : List (Line Symbol)) (gs hs rest : List (Sequent Symbol)) → Leads ls gs hs → Leads ks hs rest
    → Leads (ls ++ ks) gs rest
unfolding Leads
leads_append [] ks gs hs rest h k = subst (λ (fs : List (Sequent Symbol)). Leads ks fs rest) (sym h) k
leads_append (x ∷ ls) ks [] hs rest h k = absurd h
leads_append (x ∷ ls) ks (g ∷ gs) hs rest h k =
    infers_weaken x g.goal g.environment g.program g.level (λ new. Leads ls (new ++ gs) hs)
    (λ new. Leads (ls ++ ks) (new ++ gs) rest)
    (λ new l. leads_append ls ks (new ++ gs) hs rest l k) h

-- The lines of a derivation tree lead from its sequent, before any others, to the others.
mutual
  unfolding Leads Infers lines body_sequent

  pub tree_leads : {P : Program Symbol} {g : Goal} {e : Environment Symbol} {i : ℕ} (d : Derivation P g e i) (gs : List (Sequent Symbol))
      → Leads (lines d) (sequent g e P i ∷ gs) gs
  tree_leads d_true gs = (refl, refl)
  tree_leads (d_and {P = P} {a = a} {b = b} {e = e} {i = i} x y) gs = (
    refl,
    leads_append (lines x) (lines y) (sequent a e P i ∷ sequent b e P i ∷ gs) (sequent b e P i ∷ gs) gs
        (tree_leads x (sequent b e P i ∷ gs)) (tree_leads y gs),
  )
  tree_leads (d_left x) gs = inl (refl, tree_leads x gs)
  tree_leads (d_right x) gs = inr (refl, tree_leads x gs)
  tree_leads (d_assume x) gs = (refl, tree_leads x gs)
  tree_leads (d_some t l x) gs = (t, refl, l, tree_leads x gs)
  tree_leads (d_all n x) gs = (n, refl, tree_leads x gs)
  tree_leads (d_clause m h ts l p q x) gs =
      record { used = m; at = h; terms = ts; line = refl; instantiates = l; predicate = p; arguments = q; premises = body_leads x gs }

  body_leads : {P : Program Symbol} {o : Option Goal} {e : Environment Symbol} {i : ℕ} (d : BodyDerivation P o e i)
      (gs : List (Sequent Symbol)) → Leads (body_lines d) (body_sequent o e P i ++ gs) gs
  body_leads b_none gs = refl
  body_leads (b_some x) gs = tree_leads x gs

-- Derivations of the sequents, whose lines, one after the other, are ls.
abbrev pub Forest : List (Sequent Symbol) → List (Line Symbol) → Type 0
Forest [] ls = ls ≡ []
Forest (g ∷ gs) ls = (d : Derivable g) × (more : List (Line Symbol)) × (ls ≡ lines d ++ more) × Forest gs more

-- Derivations of a body and of other sequents begin with one of the body.
body_forest : (o : Option Goal) (e : Environment Symbol) (P : Program Symbol) (i : ℕ) (gs : List (Sequent Symbol))
    (ls : List (Line Symbol)) → Forest (body_sequent o e P i ++ gs) ls
    → (d : BodyDerivation P o e i) × (more : List (Line Symbol)) × (ls ≡ body_lines d ++ more) × Forest gs more
unfolding body_sequent lines
body_forest none e P i gs ls f = (b_none, ls, refl, f)
body_forest (some g) e P i gs ls f = (b_some f.0, f.1, f.2, f.3)

-- A line that is a step, before the lines of derivations of its premises, makes a derivation of its sequent.
infers_forest : (x : Line Symbol) (g : Goal) (e : Environment Symbol) (P : Program Symbol) (i : ℕ) (gs : List (Sequent Symbol))
    (ls : List (Line Symbol)) (K : List (Sequent Symbol) → Type 0)
    → ((new : List (Sequent Symbol)) → K new → Forest (new ++ gs) ls) → Infers x g e P i K → Forest (sequent g e P i ∷ gs) (x ∷ ls)
unfolding Infers lines
infers_forest x (atom p us) e P i gs ls K f u =
    let environment = assign u.used.member.prefix u.terms u.used.environment in
    let r = body_forest u.used.member.body environment P i gs ls (f _ u.premises) in
    (d_clause u.used u.at u.terms u.instantiates u.predicate u.arguments r.0, r.1, ap₂ ◌∷◌ u.line r.2, r.3)
infers_forest x truth e P i gs ls K f u = (d_true, ls, ap (◌∷ ls) u.0, f [] u.1)
infers_forest x (and a b) e P i gs ls K f u =
    let r = f _ u.1 in
    let s = r.3 in (
      d_and r.0 s.0,
      s.1,
      ap₂ ◌∷◌ u.0 (r.2 ∙ ap (lines r.0 ++◌) s.2
          ∙ sym (append_assoc (lines r.0) (lines s.0) s.1)),
      s.3,
    )
infers_forest x (or a b) e P i gs ls K f (inl u) = let r = f _ u.1 in (d_left r.0, r.1, ap₂ ◌∷◌ u.0 r.2, r.3)
infers_forest x (or a b) e P i gs ls K f (inr u) = let r = f _ u.1 in (d_right r.0, r.1, ap₂ ◌∷◌ u.0 r.2, r.3)
infers_forest x (implies c g) e P i gs ls K f u = let r = f _ u.1 in (d_assume r.0, r.1, ap₂ ◌∷◌ u.0 r.2, r.3)
infers_forest x (exists v g) e P i gs ls K f u = let r = f _ u.3 in (d_some u.0 u.2 r.0, r.1, ap₂ ◌∷◌ u.1 r.2, r.3)
infers_forest x (forall v g) e P i gs ls K f u = let r = f _ u.2 in (d_all u.0 r.0, r.1, ap₂ ◌∷◌ u.1 r.2, r.3)

-- Lines that derive sequents are the lines of derivations of them.
pub lines_forest : (ls : List (Line Symbol)) (gs : List (Sequent Symbol)) → Derives ls gs → Forest gs ls
unfolding Leads
lines_forest [] gs h = subst (λ (hs : List (Sequent Symbol)). Forest hs []) (sym h) refl
lines_forest (x ∷ ls) [] h = absurd h
lines_forest (x ∷ ls) (g ∷ gs) h =
    infers_forest x g.goal g.environment g.program g.level gs ls (λ new. Leads ls (new ++ gs) [])
    (λ new k. lines_forest ls (new ++ gs) k) h

-- A derivation tree and its lines determine each other.
pub trees_are_lines : (g : Sequent Symbol) → TreesAreLines g
trees_are_lines g = record { tree_lines = λ d. tree_leads d []; lines_tree = tree }
  where
    tree : (ls : List (Line Symbol)) → Derives ls (g ∷ []) → (d : Derivable g) × (lines d ≡ ls)
    tree ls h = let f = lines_forest ls (g ∷ []) h in (f.0, sym (f.2 ∙ ap (lines f.0 ++◌) f.3 ∙ append-nil (lines f.0)))
