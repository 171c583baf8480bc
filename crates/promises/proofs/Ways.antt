-- Request W-202: several proofs in one text, computed on bytes in and bytes out.
use mathlib.Core.Path.{refl}
use Rattle.text_judging.proofs.Computing.{compute_judgement}
use Rattle.engine_spec.specs.Promises.{join_texts}
use Rattle.engine_spec.proofs.Computing.{compute_run}
use Rattle.checker_spec.specs.CheckText.{count_lf, check_sheet, check_text}
use Rattle.sheet_format.specs.Sheets.{turn_back_if}
use Rattle.promises.specs.Ways.{several, not_several, by_itself, WaysCases}

pub ways_cases : WaysCases
unfolding compute_run compute_judgement count_lf check_sheet turn_back_if check_text join_texts several not_several by_itself
ways_cases = (
  (
    (refl, (refl, tt)),
    (
      (refl, (refl, (refl, tt))),
      (
        (refl, (refl, (refl, (refl, tt)))),
        (
          (refl, (refl, (refl, (refl, tt)))),
          (
            (refl, (refl, (refl, (refl, tt)))),
            (
              (refl, tt),
              (
                (refl, (refl, tt)),
                (
                  (refl, (refl, (refl, tt))),
                  (
                    (refl, (refl, (refl, tt))),
                    (
                      (refl, (refl, (refl, (refl, (refl, tt))))),
                      (
                        (refl, (refl, (refl, tt))),
                        (
                          (refl, (refl, (refl, tt))),
                          tt,
                        ),
                      ),
                    ),
                  ),
                ),
              ),
            ),
          ),
        ),
      ),
    ),
  ),
  (refl, (refl, (refl, (refl, (refl, (refl, (refl, (refl, tt)))))))),
  (refl, (refl, (refl, tt))),
)
