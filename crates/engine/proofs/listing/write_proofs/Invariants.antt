use Prim.Native.Nat.{◌≤◌}
use mathlib.Core.Path.{◌≡◌}
use lib.ListN.{length}
use Rattle.machine.specs.Records.{made}
use Rattle.engine.specs.Listing.{write_proofs}
use Rattle.engine.proofs.listing.write_proofs.Given as goal

abbrev pub invariant-loop-registers : goal.invariant-loop-registers
invariant-loop-registers l = (length l.w ≡ length l.initial.w) × (length l.own ≡ length l.initial.own) × (1 ≤ l.left) × (l.left ≤ l.query.proofs)
    × (write_proofs l.query.proofs l.sheet l.t l.query l.limit (made l.initial.w l.initial.registers) l.initial.own 0
    ≡ write_proofs l.left l.sheet l.t l.query l.limit (made l.w l.registers) l.own l.at)

abbrev pub decreases-loop-registers : goal.decreases-loop-registers
decreases-loop-registers l = l.left
