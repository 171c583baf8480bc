-- What is derivable does not depend on the order of a program's clauses (request W-207): a derivation goes over to every program that
-- has them all.
use Prim.Native.Nat.{ℕ}
use mathlib.Core.Path.{◌≡◌, refl, sym, ◌∙◌, ap}
use mathlib.Core.List.{List, [], ◌∷◌, ◌++◌, map, append_assoc, append-nil, reverse, reverse-cons}
use mathlib.Core.Option.{Option}
use Rattle.terms.specs.Lists.{Mem, here, there}
use Rattle.formulas.specs.Formulas.{Goal, Clause}
use Rattle.formulas.specs.Members.{members}
use Rattle.formulas.specs.Rules.{Order, oldest, latest, rules, joined, assume}
use Rattle.formulas.proofs.Rules.{mem_left, mem_right, mem_cases, joined_among}
use Rattle.sequents.specs.Symbols.{Symbol}
use Rattle.sequents.specs.Sequents.{Environment, Program, Hypothesis, hypothesis, Entry, entry, entries_of, entries}
use Rattle.sequents.specs.Derivations.{Derivation, d_true, d_and, d_left, d_right, d_assume, d_some, d_all, d_clause}
use Rattle.sequents.specs.Derivations.{BodyDerivation, b_none, b_some, sheet_program, instance_of, InstanceDerivation}
use Rattle.sequents.specs.Promises.{assume_all, TriedInOrder}
use Rattle.sequents.proofs.Sequents.{entries_append}

-- By default what is assumed comes after the sheet's clauses, in the order in which it was assumed.
assumed_oldest : (sheet hs : List (Hypothesis Symbol)) → assume_all hs (rules oldest sheet) ≡ rules oldest (sheet ++ hs)
unfolding assume_all joined
assumed_oldest sheet [] = ap (rules oldest) (sym (append-nil sheet))
assumed_oldest sheet (h ∷ hs) = assumed_oldest (sheet ++ (h ∷ [])) hs ∙ ap (rules oldest) (append_assoc sheet (h ∷ []) hs)

-- With `O latest` it comes before them, the latest first.
assumed_latest : (sheet hs : List (Hypothesis Symbol)) → assume_all hs (rules latest sheet) ≡ rules latest (reverse hs ++ sheet)
unfolding assume_all joined
assumed_latest sheet [] = refl
assumed_latest sheet (h ∷ hs) =
    assumed_latest (h ∷ sheet) hs
    ∙ ap (rules latest) (sym (append_assoc (reverse hs) (h ∷ []) sheet) ∙ ap (◌++ sheet) (sym (reverse-cons h hs)))

pub tried_in_order : (sheet hs : List (Hypothesis Symbol)) → TriedInOrder sheet hs
tried_in_order sheet hs = record {
  default = ap (λ (P : Program Symbol). entries P) (assumed_oldest sheet hs) ∙ entries_append sheet hs;
  former = ap (λ (P : Program Symbol). entries P) (assumed_latest sheet hs) ∙ entries_append (reverse hs) sheet;
}

-- All clauses of P stand in Q.
abbrev pub Contained : Program Symbol → Program Symbol → Type 0
Contained P Q = (h : Hypothesis Symbol) → Mem h P.clauses → Mem h Q.clauses

-- The members of a clause are among those of the clauses that it is one of.
clause_members : {h : Hypothesis Symbol} {l : List (Hypothesis Symbol)} → Mem h l → (m : Entry Symbol)
    → Mem m (map (entry h.environment) (members h.clause)) → Mem m (entries_of l)
unfolding entries_of
clause_members (here {a = h} {l = l}) m k = mem_left k (entries_of l)
clause_members (there {b = x} {l = l} z) m k =
    mem_right (map (entry x.environment) (members x.clause)) (entries_of l) (clause_members z m k)

-- If the clauses P are all among Q, so are their members.
members_contained : (P Q : List (Hypothesis Symbol)) → ((h : Hypothesis Symbol) → Mem h P → Mem h Q) → (m : Entry Symbol)
    → Mem m (entries_of P) → Mem m (entries_of Q)
unfolding entries_of
members_contained [] Q f m h = elim h [ ]
members_contained (x ∷ P) Q f m h =
    mem_cases (map (entry x.environment) (members x.clause)) (entries_of P) h (Mem m (entries_of Q))
    (λ k. clause_members (f x here) m k) (λ k. members_contained P Q (λ y z. f y (there z)) m k)

-- A derivation goes over to a program that has all clauses of its own.
mutual
  pub carry : {P : Program Symbol} {g : Goal} {e : Environment Symbol} {i : ℕ} → Derivation P g e i → (Q : Program Symbol)
      → Contained P Q → Derivation Q g e i
  carry d_true Q f = d_true
  carry (d_and x y) Q f = d_and (carry x Q f) (carry y Q f)
  carry (d_left x) Q f = d_left (carry x Q f)
  carry (d_right x) Q f = d_right (carry x Q f)
  carry (d_assume {P = P} {c = c} {e = e} x) Q f =
      d_assume (carry x (assume (hypothesis c e) Q)
      (joined_among P.order Q.order (hypothesis c e) P.clauses Q.clauses f))
  carry (d_some t l x) Q f = d_some t l (carry x Q f)
  carry (d_all n x) Q f = d_all n (carry x Q f)
  carry (d_clause {P = P} m h ts l p q x) Q f =
      d_clause m (members_contained P.clauses Q.clauses f m h) ts l p q (carry_body x Q f)

  carry_body : {P : Program Symbol} {o : Option Goal} {e : Environment Symbol} {i : ℕ} → BodyDerivation P o e i → (Q : Program Symbol)
      → Contained P Q → BodyDerivation Q o e i
  carry_body b_none Q f = b_none
  carry_body (b_some x) Q f = b_some (carry x Q f)

-- So an instance has a derivation under every order, if it has one under some.
pub another_order : (o p : Order) (cs : List Clause) (g : Goal) (e : Environment Symbol) → InstanceDerivation (rules o cs) g e
    → InstanceDerivation (rules p cs) g e
unfolding instance_of sheet_program
another_order o p cs g e d =
    record { level0 = d.level0; derivation = carry d.derivation (sheet_program (rules p cs) e) (λ h m. m) }
