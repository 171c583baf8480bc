use Rattle.text_checker.proofs.Laws.{order_broken, order_counted}
use Rattle.text_checker.proofs.order_line.Goals as goal

pub returns-then-r-eq-BROKEN : goal.returns-then-r-eq-BROKEN
returns-then-r-eq-BROKEN c = (λ w. order_broken _ _ _ _ _ c.if-r-eq-BROKEN.true, λ b. absurd (b c.if-r-eq-BROKEN.true))

pub returns : goal.returns
returns c = (
  λ w. order_counted _ _ _ _ _ _ c.if-r-eq-BROKEN.false (c.count_line.ensures.0 w),
  c.count_line.ensures.1,
)
