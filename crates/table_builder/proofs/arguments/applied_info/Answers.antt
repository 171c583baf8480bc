use Rattle.table_builder.specs.Symbols.{applied_info}
use Rattle.table_builder.proofs.arguments.applied_info.Goals as goal

pub returns-then-is_function : goal.returns-then-is_function
unfolding applied_info
returns-then-is_function c =
    simp (
      applied_info,
      ← c.term_info.ensures,
      ← c.sum_sizes.ensures,
      c.if-is_function.true,
      ← c.is_function.ensures,
      ← c.unite_masks-free.ensures.0,
    )

pub returns : goal.returns
unfolding applied_info
returns c =
    simp (
      applied_info,
      ← c.pack_info.ensures,
      c.if-is_function.false,
      ← c.is_function.ensures,
      ← c.unite_masks-free.ensures.0,
    )
