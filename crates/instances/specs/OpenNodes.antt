-- Going along with the spelling of an instance, one symbol or number at a time: what a turn of the loop reads.
use Rattle.std.specs.Prelude.{ℕ, ◌≡◌, Bool, not, ◌&&◌, cond, List, eqb, ltb, Result, Ok, Err, Some, None}
use Prim.Native.Char.{code}
use Rattle.node_table.specs.Layout.{kind_of, label_of, variable_kind}
use Rattle.scanning.specs.Instances.{Reach, match_functor, match_slot, argument_count, match_more, match_instance}
use Rattle.sheet_format.specs.Limits.{max_nodes}
use Rattle.instances.specs.declared.instance_ranges.Stop.{Stop}
use Rattle.instances.specs.declared.instance_ranges.Stop.TheVariants.{Differs, StackFull}

-- The term of a name, or the symbol or number of an application, at node m in frame g stands at position i.
unfoldable pub match_head : List ℕ → List ℕ → List ℕ → List ℕ → ℕ → ℕ → ℕ → Reach
match_head b t x w g m i =
    cond (eqb (kind_of t m) variable_kind) (match_slot x w g (label_of t m) i) (match_functor b t (label_of t m) x i)

-- Children of node m follow its symbol.
unfoldable pub opens_of : List ℕ → ℕ → Bool
opens_of t m = not (eqb (kind_of t m) variable_kind) && not (eqb (argument_count t m) 0)

-- The byte before the j-th of n children, or after the last one.
unfoldable pub mark_before : ℕ → ℕ → ℕ
mark_before j n = cond (ltb j n) (cond (eqb j 0) (code "(") (code ",")) (code ")")

-- The children of node m in frame g stand at position i, in brackets; each is matched with rank f.
unfoldable pub match_children : ℕ → List ℕ → List ℕ → List ℕ → List ℕ → ℕ → ℕ → ℕ → Reach
match_children f b t x w g m i = match_more (match_instance f b t x w g) (argument_count t m) t m 0 x (code "(") i

-- What a match with a lent stack of n numbers comes to, where one with room for all open nodes comes to `whole`: the same, unless the
-- stack was full; and the same in any case with a stack of as many numbers as the table has nodes.
abbrev pub Matches : ℕ → Result ℕ Stop → Reach → Type 0
Matches n (Ok e) whole = Some e ≡ whole
Matches n (Err Differs) whole = None ≡ whole
Matches n (Err StackFull) whole = n ≡ max_nodes → None ≡ whole
