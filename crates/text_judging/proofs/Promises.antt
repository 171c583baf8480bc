-- The promises of `specs/Promises.antt`, kept.
use mathlib.Core.Path.{ap₂}
use Rattle.sheet_format.proofs.Good.{good}
use Rattle.text_judging.specs.Judging.{judge_exactly, judge}
use Rattle.text_judging.specs.Promises.{CheckerExact, FoldsNames, JudgesAsBefore, OldProofs}
use Rattle.text_judging.proofs.Capitals.{spell_small}
use Rattle.text_judging.proofs.UpToCase.{exact}

-- T6: the judgement of a text is exact.
pub checker_exact : CheckerExact
checker_exact bytes s read = let g = good bytes s read in exact s g.names g.clauses_closed g.goal_free

-- Folding a text folds its names and nothing else.
pub folds_names : FoldsNames
folds_names bytes s read xs w = spell_small s.symbols xs (good bytes s read).names w

-- A text in small letters over a sheet with small names is judged as before.
pub judges_as_before : JudgesAsBefore
unfolding judge
judges_as_before s text h k = ap₂ judge_exactly h k

-- A text that spelled a derivation spells it still, and so is valid.
pub old_proofs : OldProofs
old_proofs bytes s read text h = (checker_exact bytes s read text).accepts.1 h.spells
