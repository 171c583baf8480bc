-- The promises of `specs/Promises.antt`, kept.
use Rattle.sequents.specs.Promises.{Trees, Renamable, Locality, TryingOrder, AnyOrder}
use Rattle.sequents.proofs.Lines.{trees_are_lines}
use Rattle.sequents.proofs.Renamings.{renames}
use Rattle.sequents.proofs.Locality.{local}
use Rattle.sequents.proofs.Orders.{tried_in_order, another_order}

-- Derivation trees and lines determine each other.
pub trees : Trees
trees = trees_are_lines

-- The numbers of symbols do not matter.
pub renamable : Renamable
renamable = renames

-- An environment matters only at names that stand free.
pub locality : Locality
locality = local

-- Clauses are tried in the order of request W-207, or in the former one.
pub trying_order : TryingOrder
trying_order = tried_in_order

-- What is derivable does not depend on the order.
pub any_order : AnyOrder
any_order = another_order
