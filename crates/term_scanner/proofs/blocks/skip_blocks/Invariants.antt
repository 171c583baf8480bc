use Rattle.std.proofs.Common.{◌≡◌, ◌+◌, ◌*◌}
use Rattle.term_scanner.specs.Blocks.{Passes}
use Rattle.term_scanner.proofs.blocks.skip_blocks.Given as goal

abbrev pub invariant-loop-block : goal.invariant-loop-block
invariant-loop-block l = Passes l.text l.c l.d l.i l.e l.at × (l.at ≡ l.i + 16 * l._block)
