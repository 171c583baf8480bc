-- What is told and written of a search: of one proof, or of all that are asked for (request W-202).
use Rattle.std.specs.Prelude.{cond, List, ℕ, eqb}
use Rattle.machine.specs.Records.{Made}
use Rattle.engine.specs.declared.listing.Query.{Query}
use Rattle.engine.specs.Answering.{Reply, report_outcome}
use Rattle.engine.specs.Listing.{report_proofs}

unfoldable pub report_search : List ℕ → List ℕ → Query → Made → List ℕ → Reply
report_search sheet t q m out =
    cond (eqb q.proofs 1) (report_outcome sheet t q.goal q.budget m out) (report_proofs sheet t q m out)
