use Rattle.std.proofs.Common.{◌≡◌}
use Rattle.term_scanner.specs.Blocks.{has_either}
use Rattle.term_scanner.proofs.blocks.block_has.Given as goal

abbrev pub invariant-loop-k : goal.invariant-loop-k
invariant-loop-k l = l.has ≡ has_either l.k l.text l.c l.d l.i
