use mathlib.Core.List.{[]}
use Rattle.text_checker.proofs.Laws.{broken_valid, counted, counted_valid, misnumbered}
use Rattle.text_checker.proofs.count_line.Goals as goal

pub returns-in-Some : goal.returns-in-Some
returns-in-Some c =
    let found = c.in-Some.is in (
      λ w. counted _ _ _ _ _ _ c.check_numbering.ensures.0 _ _ _ found c.with_counts.ensures,
      counted_valid c.args.text.now [] _ 0 _ _ _ _ _ _ c.check_numbering.ensures.1 found
          c.with_counts.ensures,
    )

pub returns-in-None : goal.returns-in-None
returns-in-None c = (
  λ w. misnumbered _ _ _ _ _ _ c.check_numbering.ensures.0 _ c.in-None.is
      (c.broken.ensures w),
  broken_valid c.args.text.now [] _ 0 _ _ _ (c.broken.ensures []),
)
