use Prim.Native.Nat.{◌-◌, ◌<◌}
use mathlib.Core.Path.{◌≡◌}
use Rattle.node_table.specs.Fingerprints.{fingerprint_from}
use Rattle.node_table.proofs.fingerprints.fingerprint.Given as goal

abbrev pub invariant-loop-i : goal.invariant-loop-i
invariant-loop-i l = (l.h < 134217728) × (fingerprint_from (l.end - l.start) l.s l.start 0 ≡ fingerprint_from (l.end - l.i) l.s l.i l.h)
