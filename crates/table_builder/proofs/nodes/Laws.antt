-- Laws of specs/Nodes.antt for the code's proofs: writes in a row.
use Prim.Native.Nat.{ℕ, ◌+◌, ◌*◌}
use native.Mathlib.Omega.{arith}
use mathlib.Core.Path.{◌≡◌, ap, ◌∙◌}
use mathlib.Core.List.{List}
use lib.ListN.{set}
use Rattle.node_table.specs.Layout.{first_node, node_numbers, node_at}
use Rattle.table_builder.specs.declared.node_info.NodeRecord.{NodeRecord}
use Rattle.table_builder.specs.Nodes.{node_written}

-- writes

-- A number put at field f of node n, where the node's fields begin.
put_field : (t u : List ℕ) (n at f x : ℕ) → at ≡ first_node + node_numbers * n → u ≡ set t (at + f) x → u ≡ set t (node_at n f) x
put_field t u n at f x h e = let z : at + f ≡ node_at n f = omega arith in e ∙ ap (λ (i : ℕ). set t i x) z

pub node_puts : (t t₀ t₁ t₂ t₃ t₄ t₅ t₆ : List ℕ) (n w : ℕ) (r : NodeRecord) → w ≡ n → t₀ ≡ set t (first_node + node_numbers * w + 0) r.head
    → t₁ ≡ set t₀ (first_node + node_numbers * w + 1) r.label → t₂ ≡ set t₁ (first_node + node_numbers * w + 2) r.first
    → t₃ ≡ set t₂ (first_node + node_numbers * w + 3) r.second → t₄ ≡ set t₃ (first_node + node_numbers * w + 4) r.third
    → t₅ ≡ set t₄ (first_node + node_numbers * w + 5) r.fourth → t₆ ≡ set t₅ (first_node + node_numbers * w + 6) r.info
    → t₆ ≡ node_written t n r
unfolding node_written
node_puts t t₀ t₁ t₂ t₃ t₄ t₅ t₆ n w r e e₀ e₁ e₂ e₃ e₄ e₅ e₆ =
    let h = ap (λ (i : ℕ). first_node + node_numbers * i) e in
    rw (
      put_field t₅ t₆ n _ 6 r.info h e₆,
      put_field t₄ t₅ n _ 5 r.fourth h e₅,
      put_field t₃ t₄ n _ 4 r.third h e₄,
      put_field t₂ t₃ n _ 3 r.second h e₃,
      put_field t₁ t₂ n _ 2 r.first h e₂,
      put_field t₀ t₁ n _ 1 r.label h e₁,
      put_field t t₀ n _ 0 r.head h e₀,
    )
