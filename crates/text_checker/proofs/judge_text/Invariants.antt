use Prim.Native.Nat.{◌-◌, ◌≤◌}
use mathlib.Core.Path.{◌≡◌}
use lib.ListN.{length}
use Rattle.scanning.specs.Ranges.{text_line_end}
use Rattle.numbering_check.specs.LevelCache.{CacheValid}
use Rattle.line_checking.specs.Judging.{judge_text}
use Rattle.text_checker.proofs.Laws.{Rest}
use Rattle.text_checker.proofs.judge_text.Given as goal

abbrev pub invariant-loop-e : goal.invariant-loop-e
invariant-loop-e l = (length l.w ≡ length l.initial.w) × (l.i ≤ length l.text) × (l.q ≤ l.i) × (l.e ≡ text_line_end l.text l.i)
    × Rest (judge_text l.sheet l.t l.fn.shape.symbols l.fn.shape.clauses l.fn.shape.goal l.text l.initial.w) l.sheet l.t l.fn.shape.symbols l.fn.shape.clauses
    l.fn.shape.goal l.text l.w l.r l.q l.i × (length l.levels ≡ 8472) × CacheValid l.text l.levels l.i l.r.made l.r.leftover

abbrev pub decreases-loop-e : goal.decreases-loop-e
decreases-loop-e l = length l.text - l.i
