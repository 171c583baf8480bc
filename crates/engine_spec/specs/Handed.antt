-- What `run` is asked for and what it hands back, in document 01's numbers.
use Rattle.outcomes.specs.declared.Request.{Request}
use Rattle.outcomes.specs.declared.Run.{Run}
use Rattle.outcomes.specs.Outcomes.{outcome_code, refusal_number, refusal_line}
use Rattle.engine_spec.specs.EngineRun.{Request as Asked}
use Rattle.engine_spec.specs.Promises.{HandedBack}

unfoldable pub asked : Request → Asked
asked r = record { budget = r.budget; proofs = r.proofs }

-- "the run hands back outcome, units and text length", and the number of proofs (request W-202), a refusal its number and line.
unfoldable pub handed : Run → HandedBack
handed r =
    record {
      outcome = outcome_code r.outcome;
      units = r.units;
      proofs = r.proofs;
      length = r.length;
      number = refusal_number r.outcome;
      line = refusal_line r.outcome;
    }
