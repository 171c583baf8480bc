-- Laws of specs/Symbols.antt for the code's proofs: writes in a row, and one law for each way through a turn of a loop.
use Prim.Native.Nat.{ℕ, ◌+◌, ◌*◌, ◌<◌}
use mathlib.Core.Bool.{Bool, true}
use mathlib.Core.Path.{◌≡◌, sym, ap, ◌∙◌}
use mathlib.Core.List.{List}
use Rattle.std.specs.Prelude.{Result}
use Rattle.outcomes.specs.declared.refusals.Reason.{Reason}
use borrow.Author.Tests.{lt-leb}
use Rattle.table_builder.specs.declared.node_info.Counts.{Counts}
use Rattle.table_builder.specs.Nodes.{made, node_record, add_node}
use Rattle.table_builder.specs.Symbols.{all_there, application_info, applied_kind, first_of, insert_application}

pub application_taken : (t t' : List ℕ) (k : Counts) (f count a b c d n info kind : ℕ) (r : Result Counts Reason) (there : Bool) → k.nodes < 1024
    → f < k.symbols → n ≡ count
    → there ≡ all_there k.nodes (first_of n a b c d) → there ≡ true → info ≡ application_info t f (first_of n a b c d)
    → kind ≡ applied_kind t f
    → made t' r ≡ add_node t k (node_record (kind + 16 * count) f a b c d info) → made t' r ≡ insert_application t k f count a b c d
unfolding insert_application
application_taken t t' k f count a b c d n info kind r there h l e w y i j m =
    let x : all_there k.nodes (first_of count a b c d) ≡ true = ap (λ (z : ℕ). all_there k.nodes (first_of z a b c d)) (sym e) ∙ sym w
    ∙ y in
    let z : info ≡ application_info t f (first_of count a b c d) = i ∙ ap (λ (z : ℕ). application_info t f (first_of z a b c d)) e in
    rw (lt-leb 1024 k.nodes h, lt-leb k.symbols f l, x, ← z, ← j) m
