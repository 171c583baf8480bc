-- Request W-207: how many members stand before those of a hypothesis in the default order.
use Prim.Native.Nat.{ℕ, zero, suc, ◌+◌, ◌-◌, ◌<◌, ◌≤◌}
use native.Mathlib.Omega.{arith}
use native.Mathlib.Numerals.{add-one}
use mathlib.Core.Path.{◌≡◌, refl, sym, ap, ap₂, ◌∙◌}
use mathlib.Core.List.{List, [], ◌∷◌, ◌++◌, map}
use lib.ListN.{length, length-append}
use borrow.Author.Tests.{ne_eqb}
use Rattle.terms.proofs.Lists.{length_map}
use Rattle.formulas.specs.Formulas.{Clause}
use Rattle.formulas.specs.Members.{members}
use Rattle.formulas.specs.Rules.{oldest, joined}
use Rattle.sequents.specs.Symbols.{Symbol}
use Rattle.sequents.specs.Sequents.{Environment, Hypothesis, hypothesis, entry, entries_of}
use Rattle.sequents.proofs.Sequents.{entries_append}
use Rattle.node_table.specs.Layout.{members_of, clause_node}
use Rattle.node_table.specs.Decoding.{clause_at_node, clauses_from}
use Rattle.node_table.specs.WellMade.{IsClause}
use Rattle.scanning.specs.Fields as fields
use Rattle.line_checking.specs.HypothesisChains.{saturate}
use Rattle.line_checking.specs.Members.{sheet_members, start_after}
use Rattle.line_checking.proofs.Representation.{Setting, sheet_clauses, joined_all, Filled, members_before, HypothesesAt}
use Rattle.memory.specs.Records.{field}

-- Saturating once is enough.
saturate_sum : (a b : ℕ) → saturate (saturate a + b) ≡ saturate (a + b)
unfolding saturate
saturate_sum a b = omega arith

module _ (c : Setting) (filled : Filled c) where
  -- A hypothesis has as many entries as its clause's node has members.
  pub many : (a : Hypothesis Symbol) (n : ℕ) → n < c.nodes → IsClause c.table n → a.clause ≡ clause_at_node c.table n
      → length (map (entry a.environment) (members a.clause)) ≡ members_of c.table n
  many a n l i e =
      length_map (entry a.environment) (members a.clause) ∙ ap (λ (y : Clause). length (members y)) e
      ∙ sym (filled.well_made.clause_nodes n l i).members

  -- `sheet_members` counts the members of the sheet's clauses.
  sheet_many : (n i : ℕ) (e : Environment Symbol) → i + n ≤ c.clauses
      → sheet_members n c.table i ≡ length (entries_of (map (λ d. hypothesis d e) (clauses_from c.table n i)))
  unfolding sheet_members clauses_from entries_of
  sheet_many zero i e h = refl
  sheet_many (suc n) i e h =
      let a = filled.well_made.clause i (omega arith) in
      let d = hypothesis (clause_at_node c.table (clause_node c.table i)) e in
      let rest = entries_of (map (λ d. hypothesis d e) (clauses_from c.table n (suc i))) in
      rw (add-one i) (ap₂ ◌+◌ (sym (many d (clause_node c.table i) a.0 a.1 refl)) (sheet_many n (suc i) e (omega arith))
      ∙ sym (length-append (map (entry e) (members (clause_at_node c.table (clause_node c.table i)))) rest))

  -- `members_before` counts the members of a program in the default order.
  pub before_is : (l : List (Hypothesis Symbol)) (e : Environment Symbol)
      → members_before c l ≡ length (entries_of (joined_all oldest l (sheet_clauses c e)))
  unfolding joined_all joined entries_of
  before_is [] e = let s = sheet_many c.clauses 0 e (omega arith) in omega arith
  before_is (a ∷ l) e =
      let P = joined_all oldest l (sheet_clauses c e) in
      let M = map (entry a.environment) (members a.clause) in
      let h = before_is l e in
      let m = length-append M (entries_of l) in
      let n = ap length (entries_append P (a ∷ [])) ∙ length-append (entries_of P) (M ++ []) in
      let z = length-append M [] in
      omega arith

  -- A hypothesis that is made after the others starts where they end.
  pub start_is : (w : List ℕ) (l : List (Hypothesis Symbol)) (j h : ℕ) → HypothesesAt c j w h l
      → start_after c.table c.clauses w h ≡ saturate (members_before c l)
  unfolding start_after HypothesesAt entries_of
  start_is w [] j h p = rw p (ap saturate (omega arith))
  start_is w (a ∷ l) j h p =
      let r = p.0 in
      let M = map (entry a.environment) (members a.clause) in
      let z : suc r - 1 ≡ r = omega arith in
      let m = many a (field w r fields.hypothesis_node) p.2.node p.2.is p.2.clause in
      let s = length-append M (entries_of l) in
      rw (p.1, ne_eqb (suc r) 0 (λ y. omega arith), z)
      (ap (λ (b : ℕ). saturate (b + members_of c.table (field w r fields.hypothesis_node))) p.4
      ∙ saturate_sum (members_before c l) (members_of c.table (field w r fields.hypothesis_node)) ∙ ap saturate (omega arith))
