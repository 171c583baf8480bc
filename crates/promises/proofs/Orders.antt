-- Request W-207: goals that are spent under one order only, computed.
use mathlib.Core.Path.{refl}
use Rattle.text_judging.proofs.Computing.{compute_judgement}
use Rattle.engine_spec.proofs.Computing.{compute_run}
use Rattle.checker_spec.specs.CheckText.{count_lf, check_sheet, check_text}
use Rattle.sheet_format.specs.Sheets.{turn_back_if}
use Rattle.promises.specs.Marked.{AcceptsResult, AcceptsAnswer}
use Rattle.promises.specs.Orders.{spent_under_one, SpentUnderOne}

pub goals_spent_under_one : SpentUnderOne
unfolding compute_run compute_judgement count_lf check_sheet turn_back_if check_text spent_under_one AcceptsResult AcceptsAnswer
goals_spent_under_one = ((refl, tt), ((refl, refl), ((refl, refl), ((refl, tt), tt))))
