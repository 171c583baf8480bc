-- The promises of `specs/Promises.antt`, kept.
use Rattle.enumeration.specs.Promises.{AllPaths, AllOrdered, AllFirst, OneProof, AllCounts, AllLarger, AllSound, AllDerivations}
use Rattle.enumeration.specs.Promises.{AllGoingOn, AllStates, NoOther, NoneMissed}
use Rattle.enumeration.proofs.PathsFound.{paths_found, walk_order}
use Rattle.enumeration.proofs.First.{first_proof, one_proof_lem}
use Rattle.enumeration.proofs.Counts.{counts}
use Rattle.enumeration.proofs.Larger.{larger}
use Rattle.enumeration.proofs.Each.{each_sound}
use Rattle.enumeration.proofs.GoingOn.{going_on}
use Rattle.enumeration.proofs.States.{all_states_lem}
use Rattle.enumeration.proofs.Others.{paths_derivations, no_other_lem, none_missed_lem}

-- The proofs found are the successful paths in walk order, each just once, and none is left out.
pub all_paths : AllPaths
all_paths = paths_found

-- Walk order is an order, and the lines tell the path.
pub all_ordered : AllOrdered
all_ordered = walk_order

-- The first proof is the search's.
pub all_first : AllFirst
all_first = first_proof

-- With number 1 it is the search.
pub one_proof : OneProof
one_proof = one_proof_lem

-- The number and the budget are kept, and units rise.
pub all_counts : AllCounts
all_counts = counts

-- A larger number or budget extends what is found.
pub all_larger : AllLarger
all_larger = larger

-- Promises T5 and T4 hold of each proof found.
pub all_sound : AllSound
all_sound = each_sound

-- Promise T4 holds of every state of the walk that goes on.
pub all_going_on : AllGoingOn
all_going_on = going_on

-- These states are those of the enumeration.
pub all_states : AllStates
all_states = all_states_lem

-- Paths that succeed are derivations, terms aside.
pub all_derivations : AllDerivations
all_derivations = paths_derivations

-- Where no alternative is left there is no other derivation.
pub no_other : NoOther
no_other = no_other_lem

-- Promise T7 holds of the enumeration.
pub none_missed : NoneMissed
none_missed = none_missed_lem
