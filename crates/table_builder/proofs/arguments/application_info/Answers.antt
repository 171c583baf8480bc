use Rattle.table_builder.specs.Symbols.{application_info}
use borrow.Author.Tests.{eq-eqb, ne_eqb}
use Rattle.table_builder.proofs.arguments.application_info.Goals as goal

pub returns-then-n-args : goal.returns-then-n-args
unfolding application_info
returns-then-n-args c =
    simp (application_info, ne_eqb _ _ c.if-n-args.true, ← c.widen-n.ensures.0, ← c.arity.ensures)

pub returns-then-all_terms : goal.returns-then-all_terms
unfolding application_info
returns-then-all_terms c =
    simp (
      application_info,
      ← c.applied_info.ensures,
      c.if-all_terms.true,
      ← c.all_terms.ensures,
      eq-eqb _ _ c.if-n-args.false,
      ← c.widen-n.ensures.0,
      ← c.arity.ensures,
    )

pub returns : goal.returns
unfolding application_info
returns c =
    simp (
      application_info,
      c.if-all_terms.false,
      ← c.all_terms.ensures,
      eq-eqb _ _ c.if-n-args.false,
      ← c.widen-n.ensures.0,
      ← c.arity.ensures,
    )
