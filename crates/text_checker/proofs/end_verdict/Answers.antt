use Rattle.text_checker.proofs.Laws.{end_valid, end_due, end_bytes}
use Rattle.text_checker.proofs.end_verdict.Goals as goal
use Rattle.text_checker.proofs.end_verdict.Goals.{else-i-text-via-then-i-text+else-r-eq-DONE, else-i-text-via-else-i-text}

pub returns-then-r-eq-DONE : goal.returns-then-r-eq-DONE
returns-then-r-eq-DONE c = end_valid _ _ _ _ c.if-i-text.true c.if-r-eq-DONE.true

pub returns : goal.returns
returns c =
    elim c.else-i-text.branch [
      | else-i-text-via-then-i-text+else-r-eq-DONE w ↦ end_due _ _ _ _ w.if-i-text.true w.if-r-eq-DONE.false
      | else-i-text-via-else-i-text w ↦ end_bytes _ _ _ _ w.if-i-text.false
    ]
