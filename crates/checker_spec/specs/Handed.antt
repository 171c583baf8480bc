-- What `check` hands back, in document 01's numbers.
use Rattle.outcomes.specs.declared.Verdict.{Verdict}
use Rattle.outcomes.specs.Outcomes.{verdict_code, verdict_line, verdict_number}
use Rattle.checker_spec.specs.Promises.{HandedBack}

-- Valid, not valid with the line that breaks, or a refusal with its number and line.
unfoldable pub handed : Verdict → HandedBack
handed v = record { verdict = verdict_code v; line = verdict_line v; number = verdict_number v }
