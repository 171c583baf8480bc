-- The states of the walk that goes on after each proof (request W-202).
use Rattle.std.specs.Prelude.{ℕ, zero, suc, List, [], ◌∷◌}
use Rattle.formulas.specs.Formulas.{Goal, Clause}
use Rattle.formulas.specs.Rules.{Rules}
use Rattle.search.specs.Configurations.{Configuration, take, try, match, done}
use Rattle.search.specs.Search.{start, advance}

-- "the walk goes on after each proof as if it had failed": a proof is passed, and what is next is the latest open alternative.
unfoldable pub pass_proof : List Configuration → List Configuration
pass_proof [] = []
pass_proof (take s g b ∷ ds) = take s g b ∷ ds
pass_proof (try s a m ms k b ∷ ds) = try s a m ms k b ∷ ds
pass_proof (match m b ∷ ds) = match m b ∷ ds
pass_proof (done s ls ∷ ds) = ds

-- The state after n acts. Where it is a proof, the next act goes on after it.
unfoldable pub state_after : Rules Clause → Goal → ℕ → List Configuration
state_after cs g zero = start cs g
state_after cs g (suc n) = advance n (pass_proof (state_after cs g n))
