use Prim.Native.Nat.{ℕ}
use mathlib.Core.Path.{◌≡◌, sym, ◌∙◌}
use lib.ListN.{length, replicate, length-replicate}
use Rattle.sheet_format.specs.Buffers.{demanded}
use Rattle.checker_output.proofs.Laws.{verdict_printed}
use Rattle.checker_output.proofs.checker_output.Goals as goal

-- The arrays are too long for this to be computed.
zeros : (n : ℕ) → length {A = ℕ} (replicate n 0) ≡ n
zeros n = length-replicate {A = ℕ} n 0

pub returns : goal.returns
unfolding demanded
returns c = record {
  fits = c.put_verdict.ensures.0;
  out_after = c.put_verdict.ensures.1 ∙ verdict_printed _ _ _ _ _ _ _ c.check-v.ensures (zeros 8192) (zeros 1984000);
}

pub slice_bounds-check-end : goal.slice_bounds-check-end
slice_bounds-check-end c =
    sym (zeros 8192)

pub slice_bounds-check-end-2 : goal.slice_bounds-check-end-2
slice_bounds-check-end-2 c =
    sym (zeros 1984000)
