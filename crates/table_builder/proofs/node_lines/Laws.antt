-- Laws of specs/Nodes.antt for the code's proofs: the C line.
use Prim.Native.Nat.{ℕ, ◌+◌, ◌<◌}
use mathlib.Core.Path.{◌≡◌, sym, ◌∙◌}
use mathlib.Core.List.{List}
use lib.ListN.{set}
use Rattle.std.specs.Prelude.{Ok}
use borrow.Author.Tests.{lt-leb, eq-eqb, ne_eqb}
use Rattle.node_table.specs.Layout.{mask_of, members_of}
use Rattle.table_builder.specs.declared.node_info.Counts.{Counts}
use Rattle.table_builder.specs.Nodes.{made, counts, insert_clause}

-- C

pub clause_taken : (t t' : List ℕ) (k : Counts) (n m free i : ℕ) → k.clauses < 128 → n < k.nodes → m ≡ members_of t n → (m ≡ 0 → ⊥)
    → free ≡ mask_of t n → free ≡ 0
    → i ≡ k.clauses → t' ≡ set t (7936 + i) n → made t' (Ok (counts k.symbols k.nodes (k.clauses + 1))) ≡ insert_clause t k n
unfolding insert_clause
clause_taken t t' k n m free i h l e p f q j s =
    rw (
      lt-leb 128 k.clauses h,
      lt-leb k.nodes n l,
      ne_eqb (members_of t n) 0 (λ z. p (e ∙ z)),
      eq-eqb (mask_of t n) 0 (sym f ∙ q),
      s,
      j,
    )
