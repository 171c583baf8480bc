-- Declarations with proper names: each is a name, and no two are equal, whatever the case of their letters. Declaring one more, not
-- declared before, keeps that.
use Prim.Native.Nat.{ℕ, zero, suc}
use mathlib.Core.Path.{◌≡◌, sym, ◌∙◌, ap}
use mathlib.Core.Bool.{true, false, true≢false}
use mathlib.Core.List.{List, [], ◌∷◌, ◌++◌}
use mathlib.Core.Option.{some}
use mathlib.Core.Logic.{◌⊎◌, inl, inr}
use lib.ListN.{length, get_elem?}
use native.Mathlib.Omega.{arith}
use Rattle.terms.specs.Lists.{All}
use Rattle.terms.proofs.Lists.{all_append}
use Rattle.formulas.proofs.Free.{or_left, or_right}
use Rattle.sheet_format.specs.Bytes.{is_name, folded_name, same_name}
use Rattle.sheet_format.specs.Nodes.{Declaration}
use Rattle.sheet_format.specs.Sheets.{is_declared}
use Rattle.sheet_format.proofs.Indexing.{at_snoc}
use Rattle.sheet_format.proofs.Bytes.{equal_same}

pub record Names (ds : List Declaration) : Type 0 where
  pub named : All (λ d. is_name d.name ≡ true) ds
  pub distinct : (i j : ℕ) (d e : Declaration) → get_elem? ds i ≡ some d → get_elem? ds j ≡ some e
      → folded_name d.name ≡ folded_name e.name → i ≡ j

-- The empty list of declarations has proper names.
pub names_nil : Names []
names_nil = record { named = tt; distinct = λ i j d e p q r. absurd (let z : ◌≡◌ {A = ℕ} 0 1 = cc in omega arith) }

-- The declarations after the first have proper names if all have.
pub names_tail : (d : Declaration) (ds : List Declaration) → Names (d ∷ ds) → Names ds
names_tail d ds n = record { named = n.named.1; distinct = λ i j a b p q r. let e = n.distinct (suc i) (suc j) a b p q r in omega arith }

-- A name that stands in a declaration is declared.
declared_at : (n : List ℕ) (ds : List Declaration) (i : ℕ) (d : Declaration) → get_elem? ds i ≡ some d
    → folded_name n ≡ folded_name d.name → is_declared same_name n ds ≡ true
unfolding is_declared same_name
declared_at n [] i d h e = absurd (let z : ◌≡◌ {A = ℕ} 0 1 = cc in omega arith)
declared_at n (a ∷ ds) zero d h e =
    let q : a ≡ d = cc in
    or_left (same_name n a.name) (is_declared same_name n ds)
    (equal_same (folded_name n) (folded_name a.name) (e ∙ ap (λ (x : Declaration). folded_name x.name) (sym q)))
declared_at n (a ∷ ds) (suc i) d h e = or_right (same_name n a.name) (is_declared same_name n ds) (declared_at n ds i d h e)

-- One more declaration, with a name not declared before, keeps the names proper.
pub names_snoc : (ds : List Declaration) (d : Declaration) → Names ds → is_name d.name ≡ true → is_declared same_name d.name ds ≡ false
    → Names (ds ++ (d ∷ []))
names_snoc ds d n h k =
    record {
      named = all_append (λ a. is_name a.name ≡ true) ds (d ∷ []) n.named (h, tt);
      distinct = λ i j a b p q r. apart i j a b (at_snoc ds d i a p) (at_snoc ds d j b q) r;
    }
  where
    apart : (i j : ℕ) (a b : Declaration) → (get_elem? ds i ≡ some a) ⊎ ((i ≡ length ds) × (a ≡ d)) → (get_elem? ds j ≡ some b)
        ⊎ ((j ≡ length ds) × (b ≡ d))
        → folded_name a.name ≡ folded_name b.name → i ≡ j
    apart i j a b (inl p) (inl q) r = n.distinct i j a b p q r
    apart i j a b (inl p) (inr q) r =
        absurd (true≢false (sym (declared_at d.name ds i a p (ap (λ (x : Declaration). folded_name x.name) (sym q.1) ∙ sym r)) ∙ k))
    apart i j a b (inr p) (inl q) r =
        absurd (true≢false (sym (declared_at d.name ds j b q (ap (λ (x : Declaration). folded_name x.name) (sym p.1) ∙ r)) ∙ k))
    apart i j a b (inr p) (inr q) r = p.0 ∙ sym q.0
