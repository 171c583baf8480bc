-- One name under which all that a run computes with unfolds.
use Prim.Native.Nat.{ℕ}
use mathlib.Core.List.{List}
use Rattle.formulas.specs.Formulas.{free_from, free_variables}
use Rattle.unification.specs.Store.{bound_to, at, only_at, solve1, solved, solution}
use Rattle.search.specs.Answers.{symbol_under, final, final_environment, final_lines}
use Rattle.enumeration.proofs.Computing.{compute_enumeration}
use Rattle.sheet_format.proofs.Computing.{compute_sheet}
use Rattle.answer_texts.specs.Spelling.{no_text, spent_text}
use Rattle.answer_texts.specs.Promises.{search_text}
use Rattle.answer_texts.specs.Enumerations.{found_text, found_texts, last_line, enumeration_text}
use Rattle.answer_texts.proofs.Computing.{compute_text}
use Rattle.sheet_format.specs.Buffers.{demanded}
use Rattle.sheet_format.specs.Sheets.{turn_back_if}
use Rattle.engine_spec.specs.EngineRun.{Request, Result, enumeration_of, last_outcome, last_proof_units, last_units, answer_to, fit}
use Rattle.engine_spec.specs.EngineRun.{run_sheet}
use Rattle.engine_spec.specs.EngineRun.{engine_run, engine_run_by}

unfoldable pub compute_run : List ℕ → Request → ℕ → ℕ → ℕ → Result
unfolding engine_run engine_run_by turn_back_if run_sheet fit enumeration_of answer_to last_outcome last_units last_proof_units demanded
    enumeration_text found_texts found_text last_line search_text no_text spent_text final_lines final_environment final symbol_under
    solution solved solve1 only_at at bound_to
    free_variables free_from compute_sheet compute_enumeration compute_text
compute_run bytes ask t w a = engine_run bytes ask t w a
