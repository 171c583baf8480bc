-- The promises of `specs/Promises.antt`, kept.
use mathlib.Core.Path.{ap}
use Rattle.unification.proofs.Bindings.{followings}
use Rattle.search.specs.Steps.{settle, step}
use Rattle.search.specs.Promises.{AllUnits, AllTries, AllSteps, Soundness, Completeness, OneVerdict, SearchFollows}
use Rattle.search.proofs.Units.{all_units}
use Rattle.search.proofs.ProcedureSearch.{all_steps}
use Rattle.search.proofs.Tries.{all_tries}
use Rattle.search.proofs.Sound.{sound}
use Rattle.search.proofs.Complete.{complete}
use Rattle.search.proofs.Orders.{one_verdict_lem}

-- Promise T2, on units, holds.
pub units : AllUnits
units = all_units

-- Promise T4, on derivation steps, holds.
pub derivation_steps : AllSteps
derivation_steps = all_steps

-- Every try's match is one of T3's: it succeeds exactly if there is a unifier, and binds a most general one.
pub tries : AllTries
tries = all_tries

-- No goal is proved under one order and no under the other.
pub one_verdict : OneVerdict
one_verdict = one_verdict_lem

-- Promise T5, soundness, holds.
pub soundness : Soundness
soundness = sound

-- Promise T7, completeness, holds.
pub completeness : Completeness
completeness = complete

-- An act that follows a binding does only this.
pub search_follows : SearchFollows
unfolding step settle
search_follows u s ps b = record {
  goal = λ p t e. ap (λ m. settle m b) ((followings s ps).goal p t e);
  clause = λ p t e f. ap (λ m. settle m b) ((followings s ps).clause p t e f);
  node = λ y t n v ns e. ap (λ m. settle m b) ((followings s ps).node y t n v ns e);
}
