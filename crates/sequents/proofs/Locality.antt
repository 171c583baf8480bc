-- An environment matters only at names that stand free: with other environments that agree there, a derivation has a twin with
-- the same lines.
use Prim.Native.Nat.{ℕ, suc}
use mathlib.Core.Path.{◌≡◌, refl, sym, ◌∙◌, ap, ap₂, subst}
use mathlib.Core.Bool.{true, false, not, ◌&&◌, ◌||◌}
use mathlib.Core.List.{List, [], ◌∷◌, ◌++◌, map}
use mathlib.Core.Option.{Option}
use native.Mathlib.Omega.{arith}
use lib.Dec.{eqb}
use lib.ListN.{length}
use Rattle.terms.specs.Lists.{All, Mem, here, there, place, elem, update}
use Rattle.terms.specs.Terms.{Term, leaf}
use Rattle.terms.proofs.Lists.{all_weaken, update_agree}
use Rattle.formulas.specs.Formulas.{Goal, Clause, free_ts, free_g, free_c, free_b}
use Rattle.formulas.specs.Members.{Member, members, stands_free}
use Rattle.formulas.specs.Rules.{Order, oldest, latest, Rules, joined, assume}
use Rattle.formulas.proofs.Free.{or_left, or_right, substitutes_free, Within, members_within}
use Rattle.sequents.specs.Symbols.{Symbol, made}
use Rattle.sequents.specs.Sequents.{Environment, Program, Hypothesis, hypothesis, Entry, entry, entries_of, assign, Line, plain}
use Rattle.sequents.specs.Sequents.{Dsome, Dall, Dclause, Dand, Dleft, Dright, Dassume}
use Rattle.sequents.specs.Derivations.{Derivation, d_true, d_and, d_left, d_right, d_assume, d_some, d_all, d_clause, BodyDerivation}
use Rattle.sequents.specs.Derivations.{b_none, b_some, lines, body_lines, sheet_program, instance_of}
use Rattle.sequents.specs.Promises.{AgreeOn, Closed, Local}

-- The environments e and f agree on the names that stand free in the clause.
abbrev pub AgreeOnClause : Clause → Environment Symbol → Environment Symbol → Type 0
AgreeOnClause c e f = (v : ℕ) → free_c c v ≡ true → e v ≡ f v

-- The environments e and f agree on the names that stand free in the member.
abbrev pub AgreeOnMember : Member → Environment Symbol → Environment Symbol → Type 0
AgreeOnMember m e f = (v : ℕ) → stands_free v m ≡ true → e v ≡ f v

-- The environments e and f agree on the names that stand free in the body.
abbrev pub AgreeOnBody : Option Goal → Environment Symbol → Environment Symbol → Type 0
AgreeOnBody o e f = (v : ℕ) → free_b o v ≡ true → e v ≡ f v

-- The same clauses, with environments that agree on what stands free in them.
abbrev pub Alike : List (Hypothesis Symbol) → List (Hypothesis Symbol) → Type 0
Alike [] [] = Unit {0}
Alike [] (k ∷ Q) = ⊥
Alike (h ∷ P) [] = ⊥
Alike (h ∷ P) (k ∷ Q) = (h.clause ≡ k.clause) × AgreeOnClause h.clause h.environment k.environment × Alike P Q

-- Programs are alike if their orders are the same, and their clauses are alike.
abbrev pub AlikePrograms : Program Symbol → Program Symbol → Type 0
AlikePrograms P Q = (P.order ≡ Q.order) × Alike P.clauses Q.clauses

-- With one more clause at their ends they are alike,
append_alike : (P Q : List (Hypothesis Symbol)) (c : Clause) (e f : Environment Symbol) → AgreeOnClause c e f → Alike P Q
    → Alike (P ++ (hypothesis c e ∷ [])) (Q ++ (hypothesis c f ∷ []))
append_alike [] [] c e f a p = (refl, a, tt)
append_alike [] (k ∷ Q) c e f a p = absurd p
append_alike (h ∷ P) [] c e f a p = absurd p
append_alike (h ∷ P) (k ∷ Q) c e f a p = (p.0, p.1, append_alike P Q c e f a p.2)

-- in either order,
joined_alike : (o : Order) (P Q : List (Hypothesis Symbol)) (c : Clause) (e f : Environment Symbol) → AgreeOnClause c e f → Alike P Q
    → Alike (joined o (hypothesis c e) P) (joined o (hypothesis c f) Q)
unfolding joined
joined_alike oldest P Q c e f a p = append_alike P Q c e f a p
joined_alike latest P Q c e f a p = (refl, a, p)

-- and programs with one more assumption are.
assume_alike : (P Q : Program Symbol) (c : Clause) (e f : Environment Symbol) → AgreeOnClause c e f → AlikePrograms P Q
    → AlikePrograms (assume (hypothesis c e) P) (assume (hypothesis c f) Q)
assume_alike P Q c e f a p = (
  p.0,
  subst (λ o. Alike (joined P.order (hypothesis c e) P.clauses) (joined o (hypothesis c f) Q.clauses)) p.0
      (joined_alike P.order P.clauses Q.clauses c e f a p.1),
)

-- Under a quantifier the environments need not agree on the name that it binds.
quantifier_agree : (v : ℕ) (g : Goal) (e f : Environment Symbol) (t : Term Symbol)
    → ((w : ℕ) → (not (eqb v w) && free_g g w) ≡ true → e w ≡ f w) → AgreeOn g (update e v t) (update f v t)
quantifier_agree v g e f t h w k = update_agree e f v t w (λ q. h w (rw q k))

-- With terms for a prefix, the environments need not agree on the names that it binds.
assign_agree : (vs : List ℕ) (ts : List (Term Symbol)) (e f : Environment Symbol) → length ts ≡ length vs → (v : ℕ)
    → (elem v vs ≡ false → e v ≡ f v) → assign vs ts e v ≡ assign vs ts f v
unfolding assign elem
assign_agree [] ts e f n v h = h refl
assign_agree (w ∷ vs) [] e f n v h = absurd (omega arith)
assign_agree (w ∷ vs) (t ∷ ts) e f n v h =
    assign_agree vs ts (update e w t) (update f w t) (omega arith) v (λ q. update_agree e f w t v (λ p. h (rw (p, elem) q)))

-- Environments that agree on a member give the free names in its instance the same terms.
instance_agree : (m : Member) (ts : List (Term Symbol)) (e f : Environment Symbol) → length ts ≡ length m.prefix → AgreeOnMember m e f
    → (v : ℕ) → (free_ts m.arguments v || free_b m.body v) ≡ true → assign m.prefix ts e v ≡ assign m.prefix ts f v
unfolding stands_free
instance_agree m ts e f n h v k = assign_agree m.prefix ts e f n v (λ q. h v (rw q k))

-- The entry's twin: the same member at the same place of another program.
pub record Twin (m : Entry Symbol) (l : List (Entry Symbol)) (h : Mem m l) (twins : List (Entry Symbol)) : Type 0 where
  pub environment : Environment Symbol
  pub at : Mem (entry environment m.member) twins
  pub places : (k : ℕ) → place k at ≡ place k h
  pub agree : AgreeOnMember m.member m.environment environment

-- Every member of a clause has a `Twin` if every member that follows has one.
clause_twin : (e f : Environment Symbol) (R S : List (Entry Symbol)) (ms : List Member) → All (λ m. AgreeOnMember m e f) ms
    → ((m : Entry Symbol) (h : Mem m R) → Twin m R h S) → (m : Entry Symbol) (h : Mem m (map (entry e) ms ++ R))
    → Twin m (map (entry e) ms ++ R) h (map (entry f) ms ++ S)
unfolding place
clause_twin e f R S [] a t m h = t m h
clause_twin e f R S (x ∷ ms) a t m here = record { environment = f; at = here; places = λ k. refl; agree = a.0 }
clause_twin e f R S (x ∷ ms) a t m (there h) =
    let r = clause_twin e f R S ms a.1 t m h in
    record { environment = r.environment; at = there r.at; places = λ k. r.places (suc k); agree = r.agree }

-- Every member of a program has a `Twin` in every program that is like it.
pub program_twin : (P Q : List (Hypothesis Symbol)) → Alike P Q → (m : Entry Symbol) (h : Mem m (entries_of P))
    → Twin m (entries_of P) h (entries_of Q)
unfolding entries_of
program_twin [] [] a m h = elim h [ ]
program_twin [] (k ∷ Q) a m h = absurd a
program_twin (p ∷ P) [] a m h = absurd a
program_twin (p ∷ P) (k ∷ Q) a m h =
    subst (λ (c : Clause). Twin m (entries_of (p ∷ P)) h (map (entry k.environment) (members c) ++ entries_of Q)) a.0
    (clause_twin p.environment k.environment (entries_of P) (entries_of Q) (members p.clause)
    (all_weaken (Within p.clause) (λ x. AgreeOnMember x p.environment k.environment) (λ x w v s. a.1 v (w v s))
    (members p.clause) (members_within p.clause))
    (program_twin P Q a.2) m h)

-- A derivation gives one with the same lines in environments and programs that agree on free names.
mutual
  unfolding lines free_g free_c free_b

  pub tree_local : {P : Program Symbol} {g : Goal} {e : Environment Symbol} {i : ℕ} (d : Derivation P g e i) (f : Environment Symbol)
      (Q : Program Symbol) → AgreeOn g e f → AlikePrograms P Q
      → (d' : Derivation Q g f i) × (lines d' ≡ lines d)
  tree_local d_true f Q a p = (d_true, refl)
  tree_local (d_and {a = g} {b = h} x y) f Q a p =
      let r = tree_local x f Q (λ v k. a v (or_left (free_g g v) (free_g h v) k)) p in
      let s = tree_local y f Q (λ v k. a v (or_right (free_g g v) (free_g h v) k)) p in
      (d_and r.0 s.0, ap₂ (λ (k l : List (Line Symbol)). plain Dand ∷ (k ++ l)) r.1 s.1)
  tree_local (d_left {a = g} {b = h} x) f Q a p =
      let r = tree_local x f Q (λ v k. a v (or_left (free_g g v) (free_g h v) k)) p in
      (d_left r.0, ap (plain Dleft ∷◌) r.1)
  tree_local (d_right {a = g} {b = h} x) f Q a p =
      let r = tree_local x f Q (λ v k. a v (or_right (free_g g v) (free_g h v) k)) p in
      (d_right r.0, ap (plain Dright ∷◌) r.1)
  tree_local (d_assume {P = P} {c = c} {g = g} {e = e} x) f Q a p =
      let r = tree_local x f (assume (hypothesis c f) Q) (λ v k. a v (or_right (free_c c v) (free_g g v) k))
      (assume_alike P Q c e f (λ v k. a v (or_left (free_c c v) (free_g g v) k)) p) in
      (d_assume r.0, ap (plain Dassume ∷◌) r.1)
  tree_local (d_some {v = v} {g = g} {e = e} t l x) f Q a p =
      let r = tree_local x (update f v t) Q (quantifier_agree v g e f t a) p in
      (d_some t l r.0, ap (Dsome t ∷◌) r.1)
  tree_local (d_all {v = v} {g = g} {e = e} {i = i} n x) f Q a p =
      let c = leaf (made n (suc i)) in
      let r = tree_local x (update f v c) Q (quantifier_agree v g e f c a) p in
      (d_all n r.0, ap (Dall c ∷◌) r.1)
  tree_local (d_clause {P = P} {us = us} {e = e} m h ts l q k x) f Q a p =
      let w = program_twin P.clauses Q.clauses p.1 m h in
      let vs = m.member.prefix in
      let same = instance_agree m.member ts m.environment w.environment l.many w.agree in
      let r = body_local x (assign vs ts w.environment) Q
      (λ v z. same v (or_right (free_ts m.member.arguments v) (free_b m.member.body v) z)) p in (
        d_clause (entry w.environment m.member) w.at ts l q
            (sym (substitutes_free us e f a) ∙ k
            ∙ substitutes_free m.member.arguments (assign vs ts m.environment) (assign vs ts w.environment)
            (λ v z. same v (or_left (free_ts m.member.arguments v) (free_b m.member.body v) z))) r.0,
        ap₂ (λ (n : ℕ) (z : List (Line Symbol)). Dclause n ts ∷ z) (w.places 1) r.1,
      )

  body_local : {P : Program Symbol} {o : Option Goal} {e : Environment Symbol} {i : ℕ} (d : BodyDerivation P o e i)
      (f : Environment Symbol) (Q : Program Symbol) → AgreeOnBody o e f → AlikePrograms P Q
      → (d' : BodyDerivation Q o f i) × (body_lines d' ≡ body_lines d)
  body_local b_none f Q a p = (b_none, refl)
  body_local (b_some x) f Q a p = let r = tree_local x f Q a p in (b_some r.0, r.1)

-- Closed clauses are alike under any two environments.
sheet_alike : (cs : Rules Clause) (e f : Environment Symbol) → All Closed cs.clauses
    → AlikePrograms (sheet_program cs e) (sheet_program cs f)
unfolding sheet_program
sheet_alike cs e f h = (refl, each cs.clauses h)
  where
    each : (l : List Clause) → All Closed l → Alike (map (λ c. hypothesis c e) l) (map (λ c. hypothesis c f) l)
    each [] h = tt
    each (c ∷ l) h = (refl, λ v k. absurd (h.0 v k), each l h.1)

-- An instance of a goal is fixed by the terms for its free variables.
pub local : (cs : Rules Clause) (g : Goal) → All Closed cs.clauses → Local cs g
unfolding instance_of
local cs g h = record { tree = λ e f a d. tree_local d f (sheet_program cs f) a (sheet_alike cs e f h) }
