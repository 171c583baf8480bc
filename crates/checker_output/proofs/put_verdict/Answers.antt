use native.Mathlib.Omega.{arith}
use mathlib.Core.Path.{◌∙◌, sym, ap}
use Rattle.sheet_format.specs.Bytes.{ascii}
use Rattle.line_writer.proofs.Laws.{fits}
use Rattle.checker_output.specs.CheckerOutput.{verdict_output}
use Rattle.checker_output.proofs.Laws.{valid_written}
use Rattle.checker_output.proofs.put_verdict.Goals as goal

pub returns-in-Valid : goal.returns-in-Valid
unfolding ascii verdict_output
returns-in-Valid c =
    let w = valid_written _ _ _ c.put_bytes.ensures in (
      fits _ _ (omega (arith, w.0, c.put_bytes.auto, c.put_bytes-arg-1.given.0.1)),
      w.1 ∙ sym (ap verdict_output c.in-Valid.is),
    )

pub returns-in-Invalid : goal.returns-in-Invalid
unfolding verdict_output
returns-in-Invalid c = (
  fits _ _ (omega (arith, c.put_invalid.ensures.0, c.put_invalid.auto, c.put_invalid-arg-1.given.0.1)),
  c.put_invalid.ensures.1 ∙ sym (ap verdict_output c.in-Invalid.is),
)

pub returns-in-Refused : goal.returns-in-Refused
unfolding verdict_output
returns-in-Refused c = (
  fits _ _ (omega (arith, c.put_refusal.ensures.0, c.put_refusal.auto, c.put_refusal-arg-1.given.0.1)),
  c.put_refusal.ensures.1 ∙ sym (ap verdict_output c.in-Refused.is),
)
