-- T9: the marked cases of document 01, computed. One theorem over one table, on bytes in and bytes out.
use mathlib.Core.Path.{refl}
use Rattle.text_judging.proofs.Computing.{compute_judgement}
use Rattle.engine_spec.proofs.Computing.{compute_run}
use Rattle.checker_spec.specs.CheckText.{count_lf, check_sheet, check_text}
use Rattle.sheet_format.specs.Sheets.{turn_back_if}
use Rattle.promises.specs.Marked.{marked, MarkedCases, AcceptsResult, AcceptsAnswer}

pub marked_cases : MarkedCases
unfolding compute_run compute_judgement count_lf check_sheet turn_back_if check_text marked AcceptsResult AcceptsAnswer
marked_cases = (
  (refl, refl),
  (
    (refl, refl),
    (
      (refl, tt),
      (
        (refl, refl),
        (
          (refl, tt),
          (
            (refl, tt),
            (
              (refl, refl),
              (
                (refl, tt),
                ((refl, tt), ((refl, refl), ((refl, refl), ((refl, tt), ((refl, refl), ((refl, tt), ((refl, refl), ((refl, tt), tt)))))))),
              ),
            ),
          ),
        ),
      ),
    ),
  ),
)
